use Rattle.std.proofs.Common.{arith}
use Rattle.fact_steps.proofs.SameNumbers.{are_passed, too_many}
use Rattle.fact_steps.proofs.passing.are_passed_on.Goals as goal

pub returns-then-len-gt16 : goal.returns-then-len-gt16
returns-then-len-gt16 c = too_many c.index.ensures c.index-from.ensures (omega (arith, c.if-len-gt16.true, c.len.ensures))

pub returns : goal.returns
returns c =
    are_passed c.index.ensures c.index-from.ensures c.index-2.ensures c.index-to.ensures (omega (arith, c.if-len-gt16.false, c.len.ensures)) c.are_same_numbers.result (rw (c.as_slice.ensures, c.as_slice-2.ensures) at c.are_same_numbers.ensures)
