use Rattle.std.proofs.Common.{◌∙◌, map}
use Rattle.indexmap.specs.IndexMap.{get}
use Rattle.fact_types.specs.contracts.interface.InterfaceTypePartialEq.TheImpl as type_eq
use Rattle.fact_builder.specs.Information.{nothing, product_from, known_field}
use Rattle.fact_builder.proofs.GrowthLaws.{record_keeps}
use Rattle.fact_builder.proofs.KeptLaws.{same_map}
use Rattle.fact_builder.proofs.MemberLaws.{record_told}
use Rattle.fact_builder.proofs.SplitLaws.{pushed_record}
use Rattle.fact_builder.proofs.pushes.TypeRecordEntry.push.Goals as goal

pub invariant_of-types : goal.invariant_of-types
invariant_of-types c = same_map _ _ _ c.types.invariant c.in_err-keep.ensures.refused

pub invariant_of-types-2 : goal.invariant_of-types-2
invariant_of-types-2 c =
    let kept = get type_eq.ghosts.eq c.types.inside.kept in
    pushed_record _ _ _ _ c.args.self c.args.index c.product_of_fields-information.result c.push_record.result _ c.types.invariant c.reveal.ensures.sound c.types.view_is c.requires.stands c.requires.index c.in_ok-keep.ensures.kept
    (c.product_of_fields-information.ensures ∙ (λ i. product_from nothing (map (known_field kept) (c.as_slice.ensures i))) ∙ record_told kept c.args.self)
    c.push_record.ensures.table c.push_record.ensures.refused

pub returns-clause-keeps : goal.returns-clause-keeps
returns-clause-keeps c = record_keeps _ _ _ c.types.view_is c.args.self c.push_record.result c.push_record.ensures.table c.push_record.ensures.refused
