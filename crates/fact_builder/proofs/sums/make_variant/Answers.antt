use Rattle.std.proofs.Common.{refl, sym, ◌∙◌, ap, subst, All}
use Rattle.std.specs.Prelude.{map, option_map}
use Rattle.std.proofs.lemmas.Result.{err_from_is_err_and}
use Rattle.fact_types.specs.Fits.{VariantFits}
use Rattle.fact_types.specs.Layout.{variant_layout, variant_info}
use Rattle.fact_types.specs.Shapes.{k_variant}
use Rattle.fact_types.specs.Tables.{abi_at, IsLiveMember}
use Rattle.fact_types.proofs.StandLaws.{variant_stands}
use Rattle.fact_builder.proofs.MadeLaws.{variants, variants_lie, does_not_fit, entered, turned_away}
use Rattle.fact_builder.proofs.MakingLaws.{failed, passed, case_layouts, payloads_live}
use Rattle.fact_builder.proofs.sums.make_variant.Goals as goal

pub layouts_of_payloads-requires : goal.layouts_of_payloads-requires
layouts_of_payloads-requires c =
    let t = c.args.builder.now.tables in
    subst (All (IsLiveMember t)) (sym (c.as_slice.ensures ∙ c.values.ensures.rest)) (payloads_live t c.args.cases.entries c.requires)

pub returns-then-not-variant_fits : goal.returns-then-not-variant_fits
returns-then-not-variant_fits c =
    let t = c.args.builder.now.tables in
    let e = c.as_slice-2.ensures.value ∙ c.in_ok-layouts.ensures ∙ ap (map (option_map (abi_at t))) (c.as_slice.ensures ∙ c.values.ensures.rest) ∙ case_layouts t c.args.cases.entries in
    (does_not_fit c.args.builder.now k_variant _ c.reveal.ensures.sound (λ p. failed c.if-not-variant_fits.ensures (subst VariantFits (sym e) p))).makes

pub add_variant_type-requires : goal.add_variant_type-requires
add_variant_type-requires c =
    let t = c.args.builder.now.tables in
    let f = c.as_slice-3.ensures.value ∙ c.in_ok-layouts.ensures ∙ ap (map (option_map (abi_at t))) (c.as_slice.ensures ∙ c.values.ensures.rest) ∙ case_layouts t c.args.cases.entries in
    variant_stands t _ c.requires (c.new.ensures.abi ∙ ap variant_layout f) (c.new.ensures.info ∙ ap variant_info f)

pub returns-in_err-index : goal.returns-in_err-index
returns-in_err-index c =
    let old = c.args.builder.now in
    let t = c.args.builder.now.tables in
    let e = c.as_slice-2.ensures.value ∙ c.in_ok-layouts.ensures ∙ ap (map (option_map (abi_at t))) (c.as_slice.ensures ∙ c.values.ensures.rest) ∙ case_layouts t c.args.cases.entries in
    let f = c.as_slice-3.ensures.value ∙ c.in_ok-layouts.ensures ∙ ap (map (option_map (abi_at t))) (c.as_slice.ensures ∙ c.values.ensures.rest) ∙ case_layouts t c.args.cases.entries in
    let stands = variant_stands t _ c.requires (c.new.ensures.abi ∙ ap variant_layout f) (c.new.ensures.info ∙ ap variant_info f) in
    let p = subst VariantFits e (passed c.if-not-variant_fits.ensures) in
    let q = err_from_is_err_and c.from_residual-in_err-index.result c.from_residual-in_err-index.ensures.1 in
    let a = c.add_variant_type.ensures in
    let r = turned_away variants old old _ _ _ (variants_lie old old refl) c.reveal.ensures.sound stands p _ _ _ _ _ c.in_err-index.was q.1 q.2 a.refused a.found a.too_large in
    r.makes

pub returns : goal.returns
returns c =
    let old = c.args.builder.now in
    let new = c.add_variant_type.new.self in
    let t = c.args.builder.now.tables in
    let e = c.as_slice-2.ensures.value ∙ c.in_ok-layouts.ensures ∙ ap (map (option_map (abi_at t))) (c.as_slice.ensures ∙ c.values.ensures.rest) ∙ case_layouts t c.args.cases.entries in
    let f = c.as_slice-3.ensures.value ∙ c.in_ok-layouts.ensures ∙ ap (map (option_map (abi_at t))) (c.as_slice.ensures ∙ c.values.ensures.rest) ∙ case_layouts t c.args.cases.entries in
    let stands = variant_stands t _ c.requires (c.new.ensures.abi ∙ ap variant_layout f) (c.new.ensures.info ∙ ap variant_info f) in
    let p = subst VariantFits e (passed c.if-not-variant_fits.ensures) in
    let a = c.in_ok-index.ensures in
    let r = entered variants old new _ _ _ (variants_lie old new a.rest) c.reveal.ensures.sound stands p _ c.in_ok-index.index a.keeps a.interned a.entry a.too_large in
    r.makes
