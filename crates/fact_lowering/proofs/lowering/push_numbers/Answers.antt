use Rattle.std.proofs.Common.{◌++◌, arith}
use Rattle.fact_lowering.specs.Lowerings.{cores_of}
use Rattle.fact_lowering.proofs.CorePushes.{numbers_pushed}
use Rattle.fact_lowering.proofs.lowering.push_numbers.Goals as goal

pub returns : goal.returns
returns c =
    numbers_pushed c.loop-place.out (c.args.out.now ++ cores_of c.args.slots.now c.args.numbers.now) c.args.slots.now c.args.numbers.now c.loop-place.place (omega (arith, c.loop-place-test.false)) c.loop-place.invariant
