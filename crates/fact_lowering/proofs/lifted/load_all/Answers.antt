use Rattle.std.proofs.Common.{◌≡◌, ◌∙◌, ◌+◌, ap, arith}
use Rattle.fact_types.specs.Layout.{aligned}
use Rattle.fact_types.specs.Shapes.{place_of}
use Rattle.fact_values.specs.Places.{width_of}
use Rattle.fact_lowering.proofs.TupleExtents.{shape_read, shapes_exist}
use Rattle.fact_lowering.proofs.TupleLifts.{loads_done, loads_not, loads_on, loads_start, loads_within}
use Rattle.fact_lowering.proofs.lifted.load_all.Goals as goal

pub loop-ty-init : goal.loop-ty-init
loop-ty-init c =
    let (ss, h) = shapes_exist c.args.from.now.types.now c.args.tys.now c.reveal.ensures.sound c.requires.live in
    (omega (arith, c.requires.there ss h), λ ss h. loads_start c.args.from.now.side c.args.bytes.now ss c.args.address _ c.new-loaded.ensures)

pub overflow_cast-at-in-loop-ty : goal.overflow_cast-at-in-loop-ty
overflow_cast-at-in-loop-ty c =
    let (ss, h) = shapes_exist c.args.from.now.types.now c.args.tys.now c.reveal.ensures.sound c.requires.live in
    let p = shape_read c.args.from.now.types.now c.args.tys.now ss c.loop-ty.ty-index _ h c.loop-ty-test.true in
    let place : c.aligned-place.result ≡ place_of (width_of c.args.from.now.side) p.shape c.loop-ty.offset = c.aligned-place.ensures.value ∙ ap (λ n. aligned c.loop-ty.offset n) (c.extent-size.ensures.align p.shape p.shaped) in
    omega (arith, place, loads_within (c.loop-ty.invariant.1 ss h) p, c.requires.there ss h)

pub returns-in_default : goal.returns-in_default
returns-in_default c = λ ss h.
    let p = shape_read c.args.from.now.types.now c.args.tys.now ss c.loop-ty.ty-index _ h c.loop-ty-test.true in
    let place : c.aligned-place.result ≡ place_of (width_of c.args.from.now.side) p.shape c.loop-ty.offset = c.aligned-place.ensures.value ∙ ap (λ n. aligned c.loop-ty.offset n) (c.extent-size.ensures.align p.shape p.shaped) in
    loads_not (c.loop-ty.invariant.1 ss h) p c.in_ok-value.field-0 _ (ap (λ n. c.args.address + n) place) (c.in_ok-value.ensures p.shape p.shaped) c.in_default.is

pub loop-ty-preserved : goal.loop-ty-preserved
loop-ty-preserved c =
    let (ss, h) = shapes_exist c.args.from.now.types.now c.args.tys.now c.reveal.ensures.sound c.requires.live in
    let p = shape_read c.args.from.now.types.now c.args.tys.now ss c.loop-ty.ty-index _ h c.loop-ty-test.true in
    let place : c.aligned-place.result ≡ place_of (width_of c.args.from.now.side) p.shape c.loop-ty.offset = c.aligned-place.ensures.value ∙ ap (λ n. aligned c.loop-ty.offset n) (c.extent-size.ensures.align p.shape p.shaped) in (
      omega (arith, place, c.extent-size.ensures.size p.shape p.shaped, loads_within (c.loop-ty.invariant.1 ss h) p, c.requires.there ss h),
      λ ss h.
          let p = shape_read c.args.from.now.types.now c.args.tys.now ss c.loop-ty.ty-index _ h c.loop-ty-test.true in
          let place : c.aligned-place.result ≡ place_of (width_of c.args.from.now.side) p.shape c.loop-ty.offset = c.aligned-place.ensures.value ∙ ap (λ n. aligned c.loop-ty.offset n) (c.extent-size.ensures.align p.shape p.shaped) in
          loads_on (c.loop-ty.invariant.1 ss h) p c.in_ok-value.field-0 c.in-Some.value _ _ _ (ap (λ n. c.args.address + n) place) ((λ i. place i + c.extent-size.ensures.size p.shape p.shaped i)) (c.in_ok-value.ensures p.shape p.shaped) c.in-Some.is c.in_ok-push.ensures.ok,
    )

pub returns : goal.returns
returns c = λ ss h. loads_done c.args.from.now.types.now c.args.tys.now (c.loop-ty.invariant.1 ss h) h (omega (arith, c.loop-ty-test.false))
