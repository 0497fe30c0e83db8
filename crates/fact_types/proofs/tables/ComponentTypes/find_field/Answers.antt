use Rattle.std.proofs.Common.{◌∙◌, ap, sym, subst, refl, arith}
use Rattle.fact_types.specs.Shapes.{layout_of, IsWithin}
use Rattle.fact_types.proofs.FindLaws.{record_fields, record_members, field_live, starts, opened, fits32, fits64, goes_on, is_there, not_there}
use Rattle.fact_types.proofs.tables.ComponentTypes.find_field.Goals as goal

pub loop-field-init : goal.loop-field-init
loop-field-init c = λ ms h. starts _ _ _ ms h

pub canonical_abi-abi-requires : goal.canonical_abi-abi-requires
canonical_abi-abi-requires c =
    field_live c.args.self.now c.reveal.ensures.sound c.args.i c.index.result.now c.index.ensures _ c.as_slice-field-items.ensures _ c.field-item.result c.loop-field-test.true c.field-item.is

pub next_field32-place32-requires : goal.next_field32-place32-requires
next_field32-place32-requires c =
    let (s, h, d) = c.canonical_abi-whole.ensures.shaped in
    let (ms, is, has) = record_members c.args.self.now c.args.i c.index.result.now c.index.ensures _ c.as_slice-field-items.ensures s h in
    let p = opened c.field-item.result c.loop-field-test.true c.field-item.is (c.loop-field.invariant ms has) in
    fits32 c.field-item.result c.canonical_abi-abi.result.now (subst IsWithin (c.canonical_abi-whole.ensures.laid s h ∙ ap layout_of is) c.canonical_abi-whole.ensures.within) p (c.canonical_abi-abi.ensures.laid p.shape p.shaped)

pub next_field64-place64-requires : goal.next_field64-place64-requires
next_field64-place64-requires c =
    let (s, h, d) = c.canonical_abi-whole.ensures.shaped in
    let (ms, is, has) = record_members c.args.self.now c.args.i c.index.result.now c.index.ensures _ c.as_slice-field-items.ensures s h in
    let p = opened c.field-item.result c.loop-field-test.true c.field-item.is (c.loop-field.invariant ms has) in
    fits64 c.field-item.result c.canonical_abi-abi.result.now (subst IsWithin (c.canonical_abi-whole.ensures.laid s h ∙ ap layout_of is) c.canonical_abi-whole.ensures.within) p (c.canonical_abi-abi.ensures.laid p.shape p.shaped)

pub returns-then-eq : goal.returns-then-eq
returns-then-eq c = λ ms h.
    let has = record_fields c.args.self.now c.args.i c.index.result.now c.index.ensures _ c.as_slice-field-items.ensures ms h in
    let p = opened c.field-item.result c.loop-field-test.true c.field-item.is (c.loop-field.invariant ms has) in
    is_there c.field-item.result c.canonical_abi-abi.result.now _ p (c.canonical_abi-abi.ensures.laid p.shape p.shaped) (sym c.eq.ensures ∙ c.if-eq.true)
    (field_live c.args.self.now c.reveal.ensures.sound c.args.i c.index.result.now c.index.ensures _ c.as_slice-field-items.ensures _ c.field-item.result c.loop-field-test.true c.field-item.is)
    refl refl c.next_field32-place32.ensures.place c.next_field64-place64.ensures.place

pub loop-field-preserved : goal.loop-field-preserved
loop-field-preserved c = λ ms h.
    let p = opened c.field-item.result c.loop-field-test.true c.field-item.is (c.loop-field.invariant ms h) in
    goes_on c.field-item.result c.canonical_abi-abi.result.now _ _ _ p (c.canonical_abi-abi.ensures.laid p.shape p.shaped) (sym c.eq.ensures ∙ c.if-eq.false)
    c.add_flat_counts-flat_place.ensures c.next_field32-place32.ensures.moved c.next_field64-place64.ensures.moved

pub returns : goal.returns
returns c = λ ms h.
    let has = record_fields c.args.self.now c.args.i c.index.result.now c.index.ensures _ c.as_slice-field-items.ensures ms h in
    not_there (omega (arith, c.loop-field-test.false)) (c.loop-field.invariant ms has)
