use Rattle.std.proofs.Common.{◌≡◌, map, drop}
use Rattle.indexmap.specs.IndexMap.{get}
use Rattle.fact_types.specs.contracts.interface.InterfaceTypePartialEq.TheImpl as type_eq
use Rattle.fact_builder.specs.Information.{nothing, product_from, known}
use Rattle.fact_builder.proofs.known.product_of_types.Given as goal

abbrev pub invariant-loop-ty : goal.invariant-loop-ty
invariant-loop-ty l =
    product_from l.all (map (known (get type_eq.ghosts.eq l.kept)) (drop l.ty-index l.types)) ≡ product_from nothing (map (known (get type_eq.ghosts.eq l.kept)) l.types)
