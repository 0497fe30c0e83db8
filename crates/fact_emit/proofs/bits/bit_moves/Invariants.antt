use Rattle.fact_emit.proofs.BitSums.{BitsSoFar}
use Rattle.fact_emit.proofs.bits.bit_moves.Given as goal

abbrev pub invariant-loop-to : goal.invariant-loop-to
invariant-loop-to l = BitsSoFar l.moves.items l.places l.to
