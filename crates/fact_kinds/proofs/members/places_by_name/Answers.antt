use Rattle.std.proofs.Common.{◌≡◌, ◌+◌, ◌∙◌, ap, sym, subst, arith, Some, cond}
use Rattle.std.specs.Prelude.{is_some}
use Rattle.std.specs.Str.{bytes_eq}
use Rattle.std.proofs.lemmas.Map.Text.{hash_map_updates_str}
use Rattle.fact_types.specs.declared.fields.FieldPlace.{FieldPlace}
use Rattle.fact_types.specs.Shapes.{layout_of, IsWithin}
use Rattle.fact_types.proofs.FindLaws.{of_fields, record_fields, record_members, field_live}
use Rattle.fact_kinds.specs.declared.members.MembersEnd.{MembersEnd}
use Rattle.fact_kinds.specs.MemberPairs.{place_named, end_behind}
use Rattle.fact_kinds.proofs.MemberPairs.{field_at, no_field}
use Rattle.fact_kinds.proofs.SourceMembers.{FieldsRead, opened, fits32, fits64, known_read, new_read, all_read}
use Rattle.fact_kinds.proofs.members.places_by_name.Goals as goal
use Rattle.fact_kinds.proofs.members.places_by_name.Goals.{then-not-contains_key+in_ok-insert, else-not-contains_key}

pub canonical_abi-requires : goal.canonical_abi-requires
canonical_abi-requires c =
    field_live c.args.types.now c.reveal.ensures.sound c.args.i c.index.result.now c.index.ensures _ c.as_slice-fields.ensures _ c.field-item.result c.loop-field-test.true c.field-item.is

pub take-place-requires-clause-fits32 : goal.take-place-requires-clause-fits32
take-place-requires-clause-fits32 c =
    let (s, h, d) = c.canonical_abi-whole.ensures.shaped in
    let (ms, is, has) = record_members c.args.types.now c.args.i c.index.result.now c.index.ensures _ c.as_slice-fields.ensures s h in
    let f = c.field-item.result in
    let at = field_at c.as_slice-fields.result.now c.loop-field.field-index f c.loop-field-test.true c.field-item.is in
    let r = c.loop-field.invariant ms has in
    let p = opened f.name f.ty at r.ahead in
    fits32 f.name f.ty at r.ahead c.canonical_abi.result.now (subst IsWithin (c.canonical_abi-whole.ensures.laid s h ∙ ap layout_of is) c.canonical_abi-whole.ensures.within) (c.canonical_abi.ensures.laid p.shape p.shaped)

pub take-place-requires-clause-fits64 : goal.take-place-requires-clause-fits64
take-place-requires-clause-fits64 c =
    let (s, h, d) = c.canonical_abi-whole.ensures.shaped in
    let (ms, is, has) = record_members c.args.types.now c.args.i c.index.result.now c.index.ensures _ c.as_slice-fields.ensures s h in
    let f = c.field-item.result in
    let at = field_at c.as_slice-fields.result.now c.loop-field.field-index f c.loop-field-test.true c.field-item.is in
    let r = c.loop-field.invariant ms has in
    let p = opened f.name f.ty at r.ahead in
    fits64 f.name f.ty at r.ahead c.canonical_abi.result.now (subst IsWithin (c.canonical_abi-whole.ensures.laid s h ∙ ap layout_of is) c.canonical_abi-whole.ensures.within) (c.canonical_abi.ensures.laid p.shape p.shaped)

pub loop-field-preserved : goal.loop-field-preserved
loop-field-preserved c = λ ms has.
    let f = c.field-item.result in
    let i = c.loop-field.field-index in
    let xs = of_fields c.as_slice-fields.result.now in
    let before = c.loop-field.places in
    let at = field_at c.as_slice-fields.result.now i f c.loop-field-test.true c.field-item.is in
    let r = c.loop-field.invariant ms has in
    let p = opened f.name f.ty at r.ahead in
    let laid = c.canonical_abi.ensures.laid p.shape p.shaped in
    let live = field_live c.args.types.now c.reveal.ensures.sound c.args.i c.index.result.now c.index.ensures _ c.as_slice-fields.ensures _ f c.loop-field-test.true c.field-item.is in
    let found : c.contains_key.result ≡ is_some (place_named before f.name) = c.contains_key.ensures ∙ ap (λ y. is_some (place_named before y)) c.as_str-name.ensures in
    subst (λ (end : MembersEnd). FieldsRead c.args.types.now xs (place_named c.if-not-contains_key.places) ms (i + 1) end) (sym c.take-place.ensures.end) (elim c.if-not-contains_key.branch [
      | then-not-contains_key+in_ok-insert w ↦ new_read f.name f.ty at r c.canonical_abi.result.now laid (place_named c.if-not-contains_key.places) live (sym found ∙ w.if-not-contains_key.true)
          (λ x. ap (λ m. place_named m x) w.places-is ∙ hash_map_updates_str c.as_str-name.result.now before w.insert.new.self (Some c.take-place.result) w.in_ok-insert.ensures.updates x
          ∙ ap (λ y. cond (bytes_eq y x) (Some c.take-place.result) (place_named before x)) c.as_str-name.ensures ∙ ap (λ (p : FieldPlace). cond (bytes_eq f.name x) (Some p) (place_named before x)) c.take-place.ensures.place)
      | else-not-contains_key w ↦ subst (λ m. FieldsRead c.args.types.now xs (place_named m) ms (i + 1) (end_behind c.loop-field.end c.canonical_abi.result.now)) (sym w.places-is)
          (known_read f.name f.ty at r c.canonical_abi.result.now laid (sym found ∙ w.if-not-contains_key.false))
    ])

pub returns : goal.returns
returns c = λ ms h x.
    let has = record_fields c.args.types.now c.args.i c.index.result.now c.index.ensures _ c.as_slice-fields.ensures ms h in
    all_read (no_field c.as_slice-fields.result.now c.loop-field.field-index (omega (arith, c.loop-field-test.false))) (c.loop-field.invariant ms has) x
