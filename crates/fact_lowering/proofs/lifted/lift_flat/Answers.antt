use Rattle.std.proofs.Common.{◌+◌, ◌≤◌, length, refl, arith}
use Rattle.fact_lowering.proofs.TupleExtents.{shape_read, shapes_exist}
use Rattle.fact_lowering.proofs.TupleLifts.{lifts_done, lifts_more, lifts_not, lifts_on, lifts_start, part_count}
use Rattle.fact_lowering.proofs.lifted.lift_flat.Goals as goal

pub loop-ty-init : goal.loop-ty-init
loop-ty-init c = (omega arith, λ ss h. lifts_start c.args.from.now.side c.args.bytes.now ss c.args.values.now _ c.new-lifted.ensures)

pub returns-in_default : goal.returns-in_default
returns-in_default c = λ ss h.
    let p = shape_read c.args.from.now.types.now c.args.tys.now ss c.loop-ty.ty-index _ h c.loop-ty-test.true in
    lifts_not (c.loop-ty.invariant.1 ss h) p c.in_ok-value.field-0 c.in_default.is (c.in_ok-value.ensures p.shape p.shaped)

pub overflow_add-at : goal.overflow_add-at
overflow_add-at c =
    let (ss, h) = shapes_exist c.args.from.now.types.now c.args.tys.now c.reveal.ensures.sound c.requires in
    let p = shape_read c.args.from.now.types.now c.args.tys.now ss c.loop-ty.ty-index _ h c.loop-ty-test.true in
    let few : c.loop-ty.at + c.in-Some.count ≤ length c.args.values.now = part_count c.args.from.now.side c.args.bytes.now p.shape c.args.values.now c.loop-ty.at c.in_ok-value.field-0 c.in-Some.value c.in-Some.count c.loop-ty.invariant.0 c.in-Some.is (c.in_ok-value.ensures p.shape p.shaped) in
    omega (arith, few)

pub loop-ty-preserved : goal.loop-ty-preserved
loop-ty-preserved c =
    let (ss, h) = shapes_exist c.args.from.now.types.now c.args.tys.now c.reveal.ensures.sound c.requires in
    let p = shape_read c.args.from.now.types.now c.args.tys.now ss c.loop-ty.ty-index _ h c.loop-ty-test.true in (
      part_count c.args.from.now.side c.args.bytes.now p.shape c.args.values.now c.loop-ty.at c.in_ok-value.field-0 c.in-Some.value c.in-Some.count c.loop-ty.invariant.0 c.in-Some.is (c.in_ok-value.ensures p.shape p.shaped),
      λ ss h.
          let p = shape_read c.args.from.now.types.now c.args.tys.now ss c.loop-ty.ty-index _ h c.loop-ty-test.true in
          lifts_on (c.loop-ty.invariant.1 ss h) p c.in_ok-value.field-0 c.in-Some.value c.in-Some.count _ _ c.in-Some.is (c.in_ok-value.ensures p.shape p.shaped) c.in_ok-push.ensures.ok refl,
    )

pub returns-then-at-values : goal.returns-then-at-values
returns-then-at-values c = λ ss h. lifts_more c.args.from.now.types.now c.args.tys.now (c.loop-ty.invariant.1 ss h) h (omega (arith, c.loop-ty-test.false)) (omega (arith, c.if-at-values.true))

pub returns : goal.returns
returns c = λ ss h. lifts_done c.args.from.now.types.now c.args.tys.now (c.loop-ty.invariant.1 ss h) h (omega (arith, c.loop-ty-test.false)) (omega (arith, c.if-at-values.false))
