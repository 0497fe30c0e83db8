use Rattle.std.proofs.Common.{arith}
use Rattle.fact_kinds.proofs.HelperCodes.{pushed_begin, pushed_step, pushed_end}
use Rattle.fact_kinds.proofs.helpers.push_all_widened.Goals as goal

pub loop-local-init : goal.loop-local-init
loop-local-init c = pushed_begin _ _

pub loop-local-preserved : goal.loop-local-preserved
loop-local-preserved c = pushed_step _ _ _ _ _ _ c.loop-local-test.true c.loop-local.invariant c.in_ok-push_widened.ensures

pub returns : goal.returns
returns c = pushed_end _ _ _ _ (omega (arith, c.loop-local-test.false)) c.loop-local.invariant
