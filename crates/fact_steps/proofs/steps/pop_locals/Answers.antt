use Rattle.std.proofs.Common.{arith}
use Rattle.fact_steps.proofs.LocalRuns.{pops_next, pops_all}
use Rattle.fact_steps.proofs.steps.pop_locals.Goals as goal

pub loop-left-preserved : goal.loop-left-preserved
loop-left-preserved c = (omega (arith, c.loop-left.invariant.0), pops_next _ (omega (arith, c.loop-left-test.true)) c.loop-left.invariant.0 c.in_ok-put.ensures c.loop-left.invariant.1)

pub returns : goal.returns
returns c = pops_all (omega (arith, c.loop-left-test.false)) c.loop-left.invariant.1
