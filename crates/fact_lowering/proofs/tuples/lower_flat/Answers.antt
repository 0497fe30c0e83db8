use Rattle.std.proofs.Common.{◌∙◌, Some, ap, sym, arith}
use Rattle.std.proofs.lemmas.Option.{slice_get_past}
use Rattle.fact_types.specs.declared.interface.InterfaceType.TheVariants as ty
use Rattle.fact_abi.proofs.BelongLaws.{item_at}
use Rattle.fact_lowering.proofs.TupleBehind.{values_are}
use Rattle.fact_lowering.proofs.TupleExtents.{shape_read}
use Rattle.fact_lowering.proofs.TupleLowers.{tuple_done, tuple_fails, tuple_flats, tuple_lowerable, tuple_next, tuple_starts, tuple_value}
use Rattle.fact_lowering.proofs.tuples.lower_flat.Goals as goal

pub loop-place-init : goal.loop-place-init
loop-place-init c = λ ss h.
    tuple_starts c.args.to.now.side ss c.args.values.now c.args.store.now.cursor c.args.store.now.bytes.items _ c.new-out.ensures (values_are c.args.to.now.types.now c.args.to.now.side c.args.tys.now c.args.values.now c.args.store.now.cursor c.args.store.now.bytes.items ss c.requires.lowerable h) c.requires.lowerable.can.inside

pub returns-in_default : goal.returns-in_default
returns-in_default c = λ ss h.
    tuple_value (c.loop-place.invariant ss h) (shape_read c.args.to.now.types.now c.args.tys.now ss c.loop-place.place ty.Bool h c.loop-place-test.true) (slice_get_past c.args.values.now c.loop-place.place c.in_default.ensures.lookup.3)

pub returns-in_default-2 : goal.returns-in_default-2
returns-in_default-2 c = λ ss h.
    let p = shape_read c.args.to.now.types.now c.args.tys.now ss c.loop-place.place _ h c.loop-place-test.true in
    let flat = c.requires.flat ss h in
    tuple_flats (c.loop-place.invariant ss h) p flat.0 flat.1 (sym c.in_default-2.is ∙ c.in_ok-flat.ensures p.shape p.shaped)

pub lower_value-requires-clause-lowerable : goal.lower_value-requires-clause-lowerable
lower_value-requires-clause-lowerable c =
    let p = shape_read c.args.to.now.types.now c.args.tys.now c.requires.lowerable.shapes c.loop-place.place _ c.requires.lowerable.shaped c.loop-place-test.true in
    tuple_lowerable (c.loop-place.invariant c.requires.lowerable.shapes c.requires.lowerable.shaped) p c.as_slice.result.now c.in-Some.value.now (ap Some c.as_slice.ensures ∙ sym c.in-Some-2.is ∙ c.in_ok-flat.ensures p.shape p.shaped) (item_at c.args.values.now c.loop-place.place c.in-Some.value.now c.in-Some.ensures.lookup.3.0 (c.in-Some.ensures.lookup.3.1 _)) c.requires.lowerable.can

pub returns-then-not-branch : goal.returns-then-not-branch
returns-then-not-branch c = λ ss h.
    tuple_fails (c.loop-place.invariant ss h) (shape_read c.args.to.now.types.now c.args.tys.now ss c.loop-place.place _ h c.loop-place-test.true) c.as_slice.result.now c.in-Some.value.now c.in_ok-lower_value.field-0 _ _ _ (item_at c.args.values.now c.loop-place.place c.in-Some.value.now c.in-Some.ensures.lookup.3.0 (c.in-Some.ensures.lookup.3.1 _)) c.if-not-branch.true c.in_ok-lower_value.ensures

pub loop-place-preserved : goal.loop-place-preserved
loop-place-preserved c = λ ss h.
    let p = shape_read c.args.to.now.types.now c.args.tys.now ss c.loop-place.place _ h c.loop-place-test.true in
    tuple_next (c.loop-place.invariant ss h) p c.as_slice.result.now c.in-Some.value.now c.in_ok-lower_value.field-0 _ _ _ (ap Some c.as_slice.ensures ∙ sym c.in-Some-2.is ∙ c.in_ok-flat.ensures p.shape p.shaped) (item_at c.args.values.now c.loop-place.place c.in-Some.value.now c.in-Some.ensures.lookup.3.0 (c.in-Some.ensures.lookup.3.1 _)) c.if-not-branch.false c.in_ok-lower_value.ensures

pub returns : goal.returns
returns c = λ ss h fs each. tuple_done c.args.to.now.types.now c.args.tys.now (c.loop-place.invariant ss h) h (omega (arith, c.loop-place-test.false)) fs each
