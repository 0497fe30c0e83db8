use Rattle.std.proofs.Common.{take}
use Rattle.std.specs.Prelude.{flat_map, Ok}
use Rattle.fact_source.specs.SourceTables.{SourceTables}
use Rattle.fact_convert.specs.Progress.{Comes, AreCoreImportsFrom}
use Rattle.fact_convert.specs.Tasks.{core_tasks}
use Rattle.fact_convert.proofs.modules.core_imports.Given as goal

abbrev pub invariant-loop-from : goal.invariant-loop-from
invariant-loop-from l = (s : SourceTables) → Comes s l.fn.builder (flat_map (λ x. core_tasks x.2) (take l.from-index l.from-items)) (λ c made. AreCoreImportsFrom c (take l.from-index l.from-items) made) l.builder (Ok l.imports.entries)
