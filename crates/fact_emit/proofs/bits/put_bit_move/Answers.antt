use Rattle.fact_emit.proofs.BitMoves.{move_put}
use Rattle.fact_emit.proofs.bits.put_bit_move.Goals as goal

pub returns : goal.returns
returns c = move_put c.args.moved c.in_ok-put.ensures c.in_ok-put_shift.ensures c.in_ok-put-2.ensures c.in_ok-put-3.ensures c.in_ok-put-4.ensures
