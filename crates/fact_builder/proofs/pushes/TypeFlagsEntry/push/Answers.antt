use Rattle.std.proofs.Common.{◌∙◌, ap}
use Rattle.std.specs.Prelude.{unwrap_or}
use Rattle.indexmap.specs.IndexMap.{get}
use Rattle.fact_types.specs.contracts.interface.InterfaceTypePartialEq.TheImpl as type_eq
use Rattle.fact_builder.specs.Information.{with_flat, words}
use Rattle.fact_builder.proofs.GrowthLaws.{flags_keeps}
use Rattle.fact_builder.proofs.KeptLaws.{same_map}
use Rattle.fact_builder.proofs.MemberLaws.{flags_told}
use Rattle.fact_builder.proofs.SplitLaws.{pushed_flags}
use Rattle.fact_builder.proofs.pushes.TypeFlagsEntry.push.Goals as goal

pub invariant_of-types : goal.invariant_of-types
invariant_of-types c = same_map _ _ _ c.types.invariant c.in_err-keep.ensures.refused

pub invariant_of-types-2 : goal.invariant_of-types-2
invariant_of-types-2 c =
    let kept = get type_eq.ghosts.eq c.types.inside.kept in
    pushed_flags _ _ _ _ c.args.self c.args.index c.with_words-information.result c.push_flags.result _ c.types.invariant c.reveal.ensures.sound c.types.view_is c.requires.stands c.requires.index c.in_ok-keep.ensures.kept
    (c.with_words-information.ensures ∙ (λ i. with_flat (words ((c.from.ensures ∙ c.unwrap_or.ensures ∙ ap (λ e. unwrap_or e.abi.flat_count 0) c.self.view_is) i)) (c.new.ensures i)) ∙ flags_told _ kept c.args.self c.requires.stands)
    c.push_flags.ensures.table c.push_flags.ensures.refused

pub returns-clause-keeps : goal.returns-clause-keeps
returns-clause-keeps c = flags_keeps _ _ _ c.types.view_is c.args.self c.push_flags.result c.push_flags.ensures.table c.push_flags.ensures.refused
