use Rattle.fact_kinds.proofs.ZeroCode.{zeros_begin, zeros_on, zeros_end}
use Rattle.fact_kinds.proofs.sums.put_zeros.Goals as goal

pub loop-local-init : goal.loop-local-init
loop-local-init c = zeros_begin

pub loop-local-preserved : goal.loop-local-preserved
loop-local-preserved c = zeros_on _ c.loop-local-test.true c.in_ok-put_zero.ensures c.loop-local.invariant

pub returns : goal.returns
returns c = zeros_end c.loop-local-test.false c.loop-local.invariant
