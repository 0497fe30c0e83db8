-- The loop adds one adapter a turn.
use Rattle.fact_generate.proofs.Adding.{generated-more, generated-none}
use Rattle.fact_generate.proofs.plan.generate.Goals as goal

pub loop-k-init : goal.loop-k-init
loop-k-init c = generated-none c.in_ok-plan.plan c.in_ok-plan.ensures

pub loop-k-preserved : goal.loop-k-preserved
loop-k-preserved c = generated-more c.loop-k.k c.loop-k.plan c.add_adapter.new.plan c.loop-k.invariant c.in_ok-add_adapter.ensures
