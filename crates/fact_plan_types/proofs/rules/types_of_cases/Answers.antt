use Rattle.std.proofs.Common.{ap, ◌∙◌}
use Rattle.std.specs.List.{flat_map}
use Rattle.std.proofs.lemmas.List.{take_all}
use Rattle.fact_plan_types.specs.TypeRules.{optional}
use Rattle.fact_plan_types.proofs.LoopLaws.{flat_next}
use Rattle.fact_plan_types.proofs.rules.types_of_cases.Goals as goal

pub loop-payload-preserved : goal.loop-payload-preserved
loop-payload-preserved c =
    flat_next (λ x. optional x.1) c.args.cases.now c.loop-payload.payload-index c.loop-payload-item.result _ _ c.loop-payload-test.true c.loop-payload-item.is c.loop-payload.invariant c.in_ok-push_any.ensures

pub returns : goal.returns
returns c = c.loop-payload.invariant ∙ ap (flat_map (λ x. optional x.1)) (take_all c.loop-payload.payload-index c.args.cases.now c.loop-payload-test.false)
