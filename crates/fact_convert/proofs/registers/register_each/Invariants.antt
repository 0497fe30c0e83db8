use Rattle.std.proofs.Common.{◌∷◌, [], take}
use Rattle.std.specs.Prelude.{flat_map, Ok}
use Rattle.fact_source.specs.SourceTables.{SourceTables}
use Rattle.fact_convert.specs.Progress.{Comes}
use Rattle.fact_convert.specs.Tasks.{registers}
use Rattle.fact_convert.proofs.registers.register_each.Given as goal

abbrev pub invariant-loop-id : goal.invariant-loop-id
invariant-loop-id l = (s : SourceTables) → Comes s l.fn.builder (flat_map (λ x. registers x.1 ∷ []) (take l.id-index l.found)) (λ c x. Unit {0}) l.builder (Ok (tt {0}))
