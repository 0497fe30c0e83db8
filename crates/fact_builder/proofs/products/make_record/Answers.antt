use Rattle.std.proofs.Common.{refl, sym, ◌∙◌, ap, subst}
use Rattle.std.specs.Prelude.{map}
use Rattle.std.proofs.lemmas.Result.{err_from_is_err_and}
use Rattle.fact_types.specs.declared.kinds.RecordField.{RecordField}
use Rattle.fact_types.specs.Fits.{RecordFits}
use Rattle.fact_types.specs.Layout.{record_layout}
use Rattle.fact_types.specs.Shapes.{k_record}
use Rattle.fact_types.specs.Tables.{abi_at}
use Rattle.fact_types.proofs.StandLaws.{record_stands, field_layouts}
use Rattle.fact_builder.proofs.MadeLaws.{records, records_lie, does_not_fit, entered, turned_away}
use Rattle.fact_builder.proofs.MakingLaws.{failed, passed}
use Rattle.fact_builder.proofs.products.make_record.Goals as goal

pub returns-then-not-record_fits : goal.returns-then-not-record_fits
returns-then-not-record_fits c =
    let t = c.args.builder.now.tables in
    let e = c.as_slice-2.ensures.value ∙ c.in_ok-layouts.ensures ∙ ap (map (λ (f : RecordField). abi_at t f.ty)) c.as_slice.ensures ∙ field_layouts t c.args.fields in
    (does_not_fit c.args.builder.now k_record _ c.reveal.ensures.sound (λ p. failed c.if-not-record_fits.ensures (subst RecordFits (sym e) p))).makes

pub add_record_type-requires : goal.add_record_type-requires
add_record_type-requires c =
    let t = c.args.builder.now.tables in
    let f = c.as_slice-3.ensures.value ∙ c.in_ok-layouts.ensures ∙ ap (map (λ (f : RecordField). abi_at t f.ty)) c.as_slice.ensures in
    record_stands t _ c.requires (c.record-abi.ensures ∙ ap record_layout f)

pub returns-in_err-index : goal.returns-in_err-index
returns-in_err-index c =
    let old = c.args.builder.now in
    let t = c.args.builder.now.tables in
    let e = c.as_slice-2.ensures.value ∙ c.in_ok-layouts.ensures ∙ ap (map (λ (f : RecordField). abi_at t f.ty)) c.as_slice.ensures ∙ field_layouts t c.args.fields in
    let f = c.as_slice-3.ensures.value ∙ c.in_ok-layouts.ensures ∙ ap (map (λ (f : RecordField). abi_at t f.ty)) c.as_slice.ensures in
    let stands = record_stands t _ c.requires (c.record-abi.ensures ∙ ap record_layout f) in
    let p = subst RecordFits e (passed c.if-not-record_fits.ensures) in
    let q = err_from_is_err_and c.from_residual-in_err-index.result c.from_residual-in_err-index.ensures.1 in
    let a = c.add_record_type.ensures in
    let r = turned_away records old old _ _ _ (records_lie old old refl) c.reveal.ensures.sound stands p _ _ _ _ _ c.in_err-index.was q.1 q.2 a.refused a.found a.too_large in
    r.makes

pub returns : goal.returns
returns c =
    let old = c.args.builder.now in
    let new = c.add_record_type.new.self in
    let t = c.args.builder.now.tables in
    let e = c.as_slice-2.ensures.value ∙ c.in_ok-layouts.ensures ∙ ap (map (λ (f : RecordField). abi_at t f.ty)) c.as_slice.ensures ∙ field_layouts t c.args.fields in
    let f = c.as_slice-3.ensures.value ∙ c.in_ok-layouts.ensures ∙ ap (map (λ (f : RecordField). abi_at t f.ty)) c.as_slice.ensures in
    let stands = record_stands t _ c.requires (c.record-abi.ensures ∙ ap record_layout f) in
    let p = subst RecordFits e (passed c.if-not-record_fits.ensures) in
    let a = c.in_ok-index.ensures in
    let r = entered records old new _ _ _ (records_lie old new a.rest) c.reveal.ensures.sound stands p _ c.in_ok-index.index a.keeps a.interned a.entry a.too_large in
    r.makes
