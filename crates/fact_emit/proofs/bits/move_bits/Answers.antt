use Rattle.fact_emit.proofs.BitMoves.{bits_around}
use Rattle.fact_emit.proofs.BitSums.{made_few, made_small}
use Rattle.fact_emit.specs.Numbers.{number_sized}
use Rattle.fact_emit.proofs.bits.move_bits.Goals as goal

pub move_bits_by-requires-clause-few : goal.move_bits_by-requires-clause-few
move_bits_by-requires-clause-few c = made_few c.deref.ensures.value c.in_ok-moves.ensures c.requires.places

pub move_bits_by-requires-clause-small : goal.move_bits_by-requires-clause-small
move_bits_by-requires-clause-small c = made_small c.deref.ensures.value c.in_ok-moves.ensures c.requires.places

pub returns : goal.returns
returns c = bits_around (number_sized c.args.number) c.deref.ensures.value c.in_ok-moves.ensures c.in_ok-local.ensures c.in_ok-move_bits_by.ensures c.in_ok-free_local.ensures
