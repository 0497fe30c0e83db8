use Rattle.std.proofs.Common.{arith}
use Rattle.fact_emit.proofs.BitSums.{bits_none, bits_more, bits_all}
use Rattle.fact_emit.proofs.bits.bit_moves.Goals as goal

pub loop-to-init : goal.loop-to-init
loop-to-init c = bits_none c.args.places.now c.new-moves.ensures.items

pub loop-to-preserved : goal.loop-to-preserved
loop-to-preserved c = bits_more _ c.loop-to-test.true c.loop-to.invariant c.in_ok-add_place.ensures

pub returns : goal.returns
returns c = bits_all (omega (arith, c.loop-to-test.false)) (omega (arith, c.loop-to.auto.to-end)) c.loop-to.invariant
