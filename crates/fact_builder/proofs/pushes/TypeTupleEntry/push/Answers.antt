use Rattle.std.proofs.Common.{◌∙◌, map}
use Rattle.indexmap.specs.IndexMap.{get}
use Rattle.fact_types.specs.contracts.interface.InterfaceTypePartialEq.TheImpl as type_eq
use Rattle.fact_builder.specs.Information.{nothing, product_from, known}
use Rattle.fact_builder.proofs.GrowthLaws.{tuple_keeps}
use Rattle.fact_builder.proofs.KeptLaws.{same_map}
use Rattle.fact_builder.proofs.MemberLaws.{tuple_told}
use Rattle.fact_builder.proofs.SplitLaws.{pushed_tuple}
use Rattle.fact_builder.proofs.pushes.TypeTupleEntry.push.Goals as goal

pub invariant_of-types : goal.invariant_of-types
invariant_of-types c = same_map _ _ _ c.types.invariant c.in_err-keep.ensures.refused

pub invariant_of-types-2 : goal.invariant_of-types-2
invariant_of-types-2 c =
    let kept = get type_eq.ghosts.eq c.types.inside.kept in
    pushed_tuple _ _ _ _ c.args.self c.args.index c.product_of_types-information.result c.push_tuple.result _ c.types.invariant c.reveal.ensures.sound c.types.view_is c.requires.stands c.requires.index c.in_ok-keep.ensures.kept
    (c.product_of_types-information.ensures ∙ (λ i. product_from nothing (map (known kept) (c.as_slice.ensures i))) ∙ tuple_told kept c.args.self)
    c.push_tuple.ensures.table c.push_tuple.ensures.refused

pub returns-clause-keeps : goal.returns-clause-keeps
returns-clause-keeps c = tuple_keeps _ _ _ c.types.view_is c.args.self c.push_tuple.result c.push_tuple.ensures.table c.push_tuple.ensures.refused
