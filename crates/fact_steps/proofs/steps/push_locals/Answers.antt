use Rattle.std.proofs.Common.{arith}
use Rattle.fact_steps.proofs.LocalRuns.{pushes_next, pushes_all}
use Rattle.fact_steps.proofs.steps.push_locals.Goals as goal

pub loop-at-preserved : goal.loop-at-preserved
loop-at-preserved c = pushes_next _ c.loop-at-test.true c.in_ok-put.ensures c.loop-at.invariant

pub returns : goal.returns
returns c = pushes_all (omega (arith, c.loop-at-test.false)) c.loop-at.invariant
