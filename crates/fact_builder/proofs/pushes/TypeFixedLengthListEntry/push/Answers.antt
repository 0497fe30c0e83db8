use Rattle.std.proofs.Common.{◌∙◌, ap}
use Rattle.indexmap.specs.IndexMap.{get}
use Rattle.fact_types.specs.contracts.interface.InterfaceTypePartialEq.TheImpl as type_eq
use Rattle.fact_builder.specs.Information.{repeated, followed}
use Rattle.fact_builder.proofs.GrowthLaws.{fixed_length_list_keeps}
use Rattle.fact_builder.proofs.KeptLaws.{same_map}
use Rattle.fact_builder.proofs.SplitLaws.{pushed_fixed_length_list}
use Rattle.fact_builder.proofs.pushes.TypeFixedLengthListEntry.push.Goals as goal

pub invariant_of-types : goal.invariant_of-types
invariant_of-types c = same_map _ _ _ c.types.invariant c.in_err-keep.ensures.refused

pub invariant_of-types-2 : goal.invariant_of-types-2
invariant_of-types-2 c =
    let kept = get type_eq.ghosts.eq c.types.inside.kept in
    pushed_fixed_length_list _ _ _ _ c.args.self c.args.index c.repeated-information.result c.push_fixed_length_list.result _ c.types.invariant c.reveal.ensures.sound c.types.view_is c.requires.stands c.requires.index c.in_ok-keep.ensures.kept
    (c.repeated-information.ensures ∙ ap (repeated c.args.self.size) (c.followed_by.ensures ∙ (λ i. followed (c.new.ensures i) (c.known.ensures i))))
    c.push_fixed_length_list.ensures.table c.push_fixed_length_list.ensures.refused

pub returns-clause-keeps : goal.returns-clause-keeps
returns-clause-keeps c = fixed_length_list_keeps _ _ _ c.types.view_is c.args.self c.push_fixed_length_list.result c.push_fixed_length_list.ensures.table c.push_fixed_length_list.ensures.refused
