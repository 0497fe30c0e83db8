use Rattle.std.proofs.Common.{◌≡◌, map, drop}
use Rattle.indexmap.specs.IndexMap.{get}
use Rattle.fact_types.specs.contracts.interface.InterfaceTypePartialEq.TheImpl as type_eq
use Rattle.fact_builder.specs.Information.{nothing, product_from, known_field}
use Rattle.fact_builder.proofs.known.product_of_fields.Given as goal

abbrev pub invariant-loop-field : goal.invariant-loop-field
invariant-loop-field l =
    product_from l.all (map (known_field (get type_eq.ghosts.eq l.kept)) (drop l.field-index l.fields)) ≡ product_from nothing (map (known_field (get type_eq.ghosts.eq l.kept)) l.fields)
