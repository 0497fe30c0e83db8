use Rattle.fact_emit.proofs.BitMoves.{right_put, left_put, no_shift}
use Rattle.fact_emit.proofs.bits.put_shift.Goals as goal

pub returns-then-to-from : goal.returns-then-to-from
returns-then-to-from c = right_put c.if-to-from.true c.in_ok-put.ensures c.in_ok-put-2.ensures

pub returns-in_ok-put-4 : goal.returns-in_ok-put-4
returns-in_ok-put-4 c = left_put c.if-from-to.true c.in_ok-put-3.ensures c.in_ok-put-4.ensures

pub returns-else-from-to : goal.returns-else-from-to
returns-else-from-to c = no_shift c.args.w.now c.if-to-from.false c.if-from-to.false
