use Rattle.std.proofs.Common.{◌∙◌, ap}
use Rattle.std.specs.Prelude.{Some}
use Rattle.indexmap.specs.IndexMap.{get}
use Rattle.fact_types.specs.contracts.interface.InterfaceTypePartialEq.TheImpl as type_eq
use Rattle.fact_builder.specs.Information.{as_pointer_pair, joined_member, known_payload}
use Rattle.fact_builder.proofs.GrowthLaws.{map_keeps}
use Rattle.fact_builder.proofs.KeptLaws.{same_map}
use Rattle.fact_builder.proofs.SplitLaws.{pushed_map}
use Rattle.fact_builder.proofs.pushes.TypeMapEntry.push.Goals as goal

pub invariant_of-types : goal.invariant_of-types
invariant_of-types c = same_map _ _ _ c.types.invariant c.in_err-keep.ensures.refused

pub invariant_of-types-2 : goal.invariant_of-types-2
invariant_of-types-2 c =
    let kept = get type_eq.ghosts.eq c.types.inside.kept in
    pushed_map _ _ _ _ c.args.self c.args.index c.with_pointer_pair-information.result c.push_map.result _ c.types.invariant c.reveal.ensures.sound c.types.view_is c.requires.stands c.requires.index c.in_ok-keep.ensures.kept
    (c.with_pointer_pair-information.ensures ∙ ap as_pointer_pair (c.with_payload-2.ensures ∙ (λ i. joined_member ((c.with_payload.ensures ∙ (λ j. joined_member (c.new.ensures j) (known_payload kept (Some c.args.self.key)))) i) (known_payload kept (Some c.args.self.value)))))
    c.push_map.ensures.table c.push_map.ensures.refused

pub returns-clause-keeps : goal.returns-clause-keeps
returns-clause-keeps c = map_keeps _ _ _ c.types.view_is c.args.self c.push_map.result c.push_map.ensures.table c.push_map.ensures.refused
