use Rattle.std.proofs.Common.{arith}
use Rattle.fact_compound.proofs.WaitingHelpers.{adds_count, adds_first, adds_next, adds_waits}
use Rattle.fact_compound.proofs.helpers.add_waiting.Goals as goal

pub loop-place-init : goal.loop-place-init
loop-place-init c = adds_first (omega (arith, c.len.ensures)) c.requires

pub loop-place-preserved : goal.loop-place-preserved
loop-place-preserved c = adds_next _ (omega (arith, c.loop-place-test.true, c.helper_count-count.ensures)) c.in_ok-push.ensures.ok c.in_ok-push-2.ensures.ok c.loop-place.invariant

pub returns-clause-count : goal.returns-clause-count
returns-clause-count c = adds_count (omega (arith, c.loop-place-test.false, c.helper_count-count.ensures)) c.loop-place.invariant

pub returns-clause-same : goal.returns-clause-same
returns-clause-same c = c.loop-place.invariant.same

pub returns-clause-waits : goal.returns-clause-waits
returns-clause-waits c = adds_waits (omega (arith, c.loop-place-test.false, c.helper_count-count.ensures)) c.loop-place.invariant
