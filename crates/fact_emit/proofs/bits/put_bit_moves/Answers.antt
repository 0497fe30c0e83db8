use Rattle.std.proofs.Common.{arith}
use Rattle.fact_emit.proofs.BitMoves.{moves_first, moves_next, moves_all}
use Rattle.fact_emit.proofs.bits.put_bit_moves.Goals as goal

pub loop-left-init : goal.loop-left-init
loop-left-init c = (omega arith, moves_first c.in_ok-put.ensures)

pub loop-left-preserved : goal.loop-left-preserved
loop-left-preserved c = (omega (arith, c.loop-left.invariant.0), moves_next _ (omega (arith, c.loop-left-test.true)) c.loop-left.invariant.0 c.loop-left.invariant.1 c.in_ok-put_bit_move.ensures)

pub returns : goal.returns
returns c = moves_all (omega (arith, c.loop-left-test.false)) c.loop-left.invariant.1
