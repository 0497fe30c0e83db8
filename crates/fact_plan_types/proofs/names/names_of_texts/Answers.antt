use Rattle.std.proofs.Common.{◌∙◌}
use Rattle.std.proofs.lemmas.List.{take_all}
use Rattle.fact_plan_types.proofs.LoopLaws.{texts_next}
use Rattle.fact_plan_types.proofs.names.names_of_texts.Goals as goal

pub loop-text-preserved : goal.loop-text-preserved
loop-text-preserved c =
    texts_next (λ n. n.now) c.args.texts.now c.loop-text.text-index c.text-item.result _ _ _ c.loop-text-test.true c.text-item.is c.loop-text.invariant c.in_ok-push.ensures.items c.as_str.ensures

pub returns : goal.returns
returns c = c.loop-text.invariant ∙ take_all c.loop-text.text-index c.args.texts.now c.loop-text-test.false
