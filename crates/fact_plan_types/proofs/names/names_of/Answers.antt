use Rattle.std.proofs.Common.{ap, map, ◌∙◌}
use Rattle.std.proofs.lemmas.List.{take_all}
use Rattle.fact_plan_types.proofs.LoopLaws.{map_both_next}
use Rattle.fact_plan_types.proofs.names.names_of.Goals as goal

pub loop-name-preserved : goal.loop-name-preserved
loop-name-preserved g c =
    map_both_next (λ n. n.now) (λ m. m.0) c.args.members.now c.loop-name.name-index c.loop-name-item.result _ _ _ c.loop-name-test.true c.loop-name-item.is c.loop-name.invariant c.in_ok-push.ensures.items c.as_str.ensures

pub returns : goal.returns
returns g c = c.loop-name.invariant ∙ ap (map (λ m. m.0)) (take_all c.loop-name.name-index c.args.members.now c.loop-name-test.false)
