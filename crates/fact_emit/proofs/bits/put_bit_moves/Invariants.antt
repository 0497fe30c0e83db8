use Rattle.std.specs.Prelude.{◌≤◌, length}
use Rattle.fact_emit.proofs.BitMoves.{PutsFrom}
use Rattle.fact_emit.proofs.bits.put_bit_moves.Given as goal

abbrev pub invariant-loop-left : goal.invariant-loop-left
invariant-loop-left l = (l.left ≤ length l.moves) × PutsFrom l.local l.left l.moves l.fn.w l.w

abbrev pub decreases-loop-left : goal.decreases-loop-left
decreases-loop-left l = l.left
