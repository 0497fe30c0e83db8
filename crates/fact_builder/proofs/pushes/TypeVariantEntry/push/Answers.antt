use Rattle.std.proofs.Common.{◌∙◌, map, ap}
use Rattle.indexmap.specs.IndexMap.{get}
use Rattle.fact_types.specs.contracts.interface.InterfaceTypePartialEq.TheImpl as type_eq
use Rattle.fact_builder.specs.Information.{nothing, sum_from, tagged, known_payload}
use Rattle.fact_builder.proofs.GrowthLaws.{variant_keeps}
use Rattle.fact_builder.proofs.KeptLaws.{same_map}
use Rattle.fact_builder.proofs.MemberLaws.{variant_told}
use Rattle.fact_builder.proofs.SplitLaws.{pushed_variant}
use Rattle.fact_builder.proofs.pushes.TypeVariantEntry.push.Goals as goal

pub invariant_of-types : goal.invariant_of-types
invariant_of-types c = same_map _ _ _ c.types.invariant c.in_err-keep.ensures.refused

pub invariant_of-types-2 : goal.invariant_of-types-2
invariant_of-types-2 c =
    let kept = get type_eq.ghosts.eq c.types.inside.kept in
    pushed_variant _ _ _ _ c.args.self c.args.index c.tagged-information.result c.push_variant.result _ c.types.invariant c.reveal.ensures.sound c.types.view_is c.requires.stands c.requires.index c.in_ok-keep.ensures.kept
    (c.tagged-information.ensures ∙ ap tagged (c.sum_of_cases.ensures ∙ (λ i. sum_from nothing (map (known_payload kept) (map (λ e. e.1) (c.self.view_is i).cases)))) ∙ variant_told kept c.args.self)
    c.push_variant.ensures.table c.push_variant.ensures.refused

pub returns-clause-keeps : goal.returns-clause-keeps
returns-clause-keeps c = variant_keeps _ _ _ c.types.view_is c.args.self c.push_variant.result c.push_variant.ensures.table c.push_variant.ensures.refused
