use Rattle.std.proofs.Common.{map, sym, ◌∙◌, List}
use Rattle.std.proofs.lemmas.List.{at_drop_all}
use Rattle.indexmap.specs.IndexMap.{get}
use Rattle.fact_types.specs.declared.interface.InterfaceType.{InterfaceType}
use Rattle.fact_types.specs.contracts.interface.InterfaceTypePartialEq.TheImpl as type_eq
use Rattle.fact_builder.specs.Information.{product_from, known}
use Rattle.fact_builder.proofs.known.product_of_types.Goals as goal

pub returns : goal.returns
returns c =
    sym (at_drop_all (λ (xs : List InterfaceType). product_from c.loop-ty.all (map (known (get type_eq.ghosts.eq c.args.kept.now)) xs)) c.args.types.now c.loop-ty.ty-index c.loop-ty-test.false)
    ∙ c.loop-ty.invariant
