use Rattle.fact_emit.proofs.BitMoves.{bits_emits}
use Rattle.fact_emit.proofs.bits.move_bits_by.Goals as goal

pub returns : goal.returns
returns c =
    bits_emits c.args.moves.now _ _ c.requires.short c.requires.few c.requires.small c.in_ok-open.ensures c.in_ok-read_number.ensures c.in_ok-put.ensures c.in_ok-put_bit_moves.ensures c.in_ok-write_number.ensures
