use Rattle.std.proofs.Common.{arith}
use Rattle.fact_compound.proofs.LocalsAdded.{adds_first, adds_next, adds_all}
use Rattle.fact_compound.proofs.functions.add_locals.Goals as goal

pub loop-at-init : goal.loop-at-init
loop-at-init c = adds_first c.new-locals.ensures.items

pub loop-at-preserved : goal.loop-at-preserved
loop-at-preserved c = adds_next _ c.loop-at-test.true c.in_ok-local.ensures c.in_ok-push.ensures.items c.loop-at.invariant

pub returns : goal.returns
returns c = adds_all (omega (arith, c.loop-at-test.false)) c.loop-at.invariant
