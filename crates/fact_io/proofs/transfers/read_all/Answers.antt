use Rattle.std.proofs.Common.{arith}
use Rattle.std.proofs.lemmas.Grind.{common_steps}
use Rattle.fact_io.proofs.Pieces.{TakesUpTo-more}
use Rattle.fact_io.proofs.transfers.read_all.Goals as goal

pub returns-in_err-read_piece-clause-most : goal.returns-in_err-read_piece-clause-most
returns-in_err-read_piece-clause-most g c =
    TakesUpTo-more _ _ _ c.turns.bytes.items _ _ c.turns.invariant.taken c.in_err-read_piece.ensures.err (grind (arith, common_steps))
