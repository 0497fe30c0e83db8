use Rattle.std.proofs.Common.{ap, map, refl, ◌∙◌}
use Rattle.std.proofs.lemmas.List.{take_all}
use Rattle.fact_plan_types.proofs.LoopLaws.{map_next}
use Rattle.fact_plan_types.proofs.rules.types_of_fields.Goals as goal

pub loop-ty-preserved : goal.loop-ty-preserved
loop-ty-preserved c =
    map_next (λ f. f.1) c.args.fields.now c.loop-ty.ty-index c.loop-ty-item.result _ _ _ c.loop-ty-test.true c.loop-ty-item.is c.loop-ty.invariant c.in_ok-push.ensures.items refl

pub returns : goal.returns
returns c = c.loop-ty.invariant ∙ ap (map (λ f. f.1)) (take_all c.loop-ty.ty-index c.args.fields.now c.loop-ty-test.false)
