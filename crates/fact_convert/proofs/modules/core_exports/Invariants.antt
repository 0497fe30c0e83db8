use Rattle.std.proofs.Common.{take}
use Rattle.std.specs.Prelude.{flat_map, Ok}
use Rattle.fact_source.specs.SourceTables.{SourceTables}
use Rattle.fact_convert.specs.Progress.{Comes, AreCoreExportsFrom}
use Rattle.fact_convert.specs.Tasks.{core_tasks}
use Rattle.fact_convert.proofs.modules.core_exports.Given as goal

abbrev pub invariant-loop-name : goal.invariant-loop-name
invariant-loop-name l = (s : SourceTables) → Comes s l.fn.builder (flat_map (λ x. core_tasks x.1) (take l.name-index l.name-items)) (λ c made. AreCoreExportsFrom c (take l.name-index l.name-items) made) l.builder (Ok l.exports.entries)
