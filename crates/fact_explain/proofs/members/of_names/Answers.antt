use Rattle.std.proofs.Common.{ap, map, refl, ◌∙◌, None}
use Rattle.std.proofs.lemmas.List.{take_all}
use Rattle.fact_plan_types.proofs.LoopLaws.{map_both_next}
use Rattle.fact_explain.proofs.members.of_names.Goals as goal

pub loop-name-preserved : goal.loop-name-preserved
loop-name-preserved c =
    map_both_next (λ m. m.ty) (λ x. None) c.args.names.now c.loop-name.name-index c.name-item.result _ _ _ c.loop-name-test.true c.name-item.is c.loop-name.invariant c.in_ok-push.ensures.items refl

pub returns : goal.returns
returns c = c.loop-name.invariant ∙ ap (map (λ x. None)) (take_all c.loop-name.name-index c.args.names.now c.loop-name-test.false)
