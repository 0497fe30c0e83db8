use Rattle.std.proofs.Common.{◌∙◌, ◌+◌, ◌^◌, ◌≤◌, rules, arith}
use Rattle.fact_types.specs.Signatures.{width}
use Rattle.fact_lowering.proofs.FlatLaws.{type_front}
use Rattle.fact_lowering.proofs.TupleSizes.{tuple_ends, tuple_on, tuple_starts}
use Rattle.fact_lowering.proofs.room.tuple_size.Goals as goal

pub loop-place-init : goal.loop-place-init
loop-place-init c = record { few = omega arith; some = omega arith; left = λ ss h. tuple_starts c.args.types.now (width c.args.memory64) ss c.args.tys.now h }

pub loop-place-preserved : goal.loop-place-preserved
loop-place-preserved c = record {
  few = omega (arith, c.multiple_from.ensures.near, c.from.ensures, c.loop-place.invariant.few, c.extent_of-size.ensures.few);
  some = omega (arith, c.max-greatest.ensures, c.extent_of-size.ensures.some);
  left = λ ss h. tuple_on (c.loop-place.invariant.left ss h) _ c.extent_of-size.result.0 c.extent_of-size.result.1 _ _ (type_front c.args.tys.now c.loop-place.place _ c.loop-place-test.true) c.extent_of-size.ensures.size c.extent_of-size.ensures.align (λ i. c.multiple_from.ensures.value i + c.from.ensures i) (omega (arith, c.max-greatest.ensures));
}

pub returns-clause-value : goal.returns-clause-value
returns-clause-value c = λ ss h. c.multiple_from-2.ensures.value ∙ tuple_ends c.loop-place.invariant.some (omega (arith, c.loop-place-test.false)) (c.loop-place.invariant.left ss h)

pub returns-clause-few : goal.returns-clause-few
returns-clause-few c =
    let small : c.loop-place.end ≤ 2 ^ 100 = search rules in
    omega (arith, small, c.multiple_from-2.ensures.near)
