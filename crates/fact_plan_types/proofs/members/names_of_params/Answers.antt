use Rattle.std.proofs.Common.{ap, map, ◌∙◌}
use Rattle.std.proofs.lemmas.List.{take_all}
use Rattle.fact_plan_types.proofs.LoopLaws.{map_next}
use Rattle.fact_plan_types.proofs.members.names_of_params.Goals as goal

pub loop-name-preserved : goal.loop-name-preserved
loop-name-preserved c =
    map_next (λ x. x.0) c.args.params.now c.loop-name.name-index c.loop-name-item.result _ _ _ c.loop-name-test.true c.loop-name-item.is c.loop-name.invariant c.in_ok-push.ensures.ok c.in_ok-try_clone.ensures

pub returns : goal.returns
returns c = c.loop-name.invariant ∙ ap (map (λ x. x.0)) (take_all c.loop-name.name-index c.args.params.now c.loop-name-test.false)
