use Rattle.std.proofs.Common.{◌∙◌, ◌+◌, ap, arith}
use Rattle.fact_values.specs.Places.{width_of}
use Rattle.fact_lowering.proofs.TupleExtents.{extended, extending_on, extending_starts, shape_read}
use Rattle.fact_lowering.proofs.tuples.tuple_extent.Goals as goal

pub loop-ty-init : goal.loop-ty-init
loop-ty-init c = (omega arith, omega arith, omega arith, λ ss h. extending_starts (width_of c.args.to.now.side) ss)

pub loop-ty-preserved : goal.loop-ty-preserved
loop-ty-preserved c = (
  omega (arith, c.loop-ty-test.true),
  omega (arith, c.aligned-place.ensures.few, c.loop-ty.invariant.1),
  omega (arith, c.greater-greatest.ensures, c.loop-ty.invariant.2),
  λ ss h.
      let p = shape_read c.args.to.now.types.now c.args.tys.now ss c.loop-ty.ty-index _ h c.loop-ty-test.true in
      extending_on (width_of c.args.to.now.side) p c.extent-size.result.0 c.extent-size.result.1 _ _ (c.extent-size.ensures.size p.shape p.shaped) (c.extent-size.ensures.align p.shape p.shaped) (ap (λ n. n + c.extent-size.result.0) c.aligned-place.ensures.value) c.greater-greatest.ensures (c.loop-ty.invariant.3 ss h),
)

pub returns-clause-size : goal.returns-clause-size
returns-clause-size c = λ ss h.
    c.aligned-size.ensures.value ∙ (extended c.args.to.now.types.now c.args.tys.now ss c.args.to.now.side c.loop-ty.ty-index c.loop-ty.offset c.loop-ty.greatest h (omega (arith, c.loop-ty-test.false)) c.loop-ty.invariant.2 (c.loop-ty.invariant.3 ss h)).0

pub returns-clause-align : goal.returns-clause-align
returns-clause-align c = λ ss h.
    (extended c.args.to.now.types.now c.args.tys.now ss c.args.to.now.side c.loop-ty.ty-index c.loop-ty.offset c.loop-ty.greatest h (omega (arith, c.loop-ty-test.false)) c.loop-ty.invariant.2 (c.loop-ty.invariant.3 ss h)).1

pub returns-clause-few : goal.returns-clause-few
returns-clause-few c = omega (arith, c.aligned-size.ensures.few, c.loop-ty.invariant.1)
