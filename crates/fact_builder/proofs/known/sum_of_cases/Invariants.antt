use Rattle.std.proofs.Common.{◌≡◌, map, drop}
use Rattle.indexmap.specs.IndexMap.{get}
use Rattle.fact_types.specs.contracts.interface.InterfaceTypePartialEq.TheImpl as type_eq
use Rattle.fact_builder.specs.Information.{nothing, sum_from, known_payload}
use Rattle.fact_builder.proofs.known.sum_of_cases.Given as goal

abbrev pub invariant-loop-payload : goal.invariant-loop-payload
invariant-loop-payload l =
    sum_from l.all (map (known_payload (get type_eq.ghosts.eq l.kept)) (drop l.payload-index l.payload-items)) ≡ sum_from nothing (map (known_payload (get type_eq.ghosts.eq l.kept)) l.payload-items)
