use Rattle.std.proofs.Common.{[], ◌∷◌, Some, refl, ◌∙◌, ap, arith}
use Rattle.std.proofs.lemmas.Result.{err_from_is_err_and}
use Rattle.fact_types.specs.declared.abi.CanonicalAbiInfo.{CanonicalAbiInfo}
use Rattle.fact_types.specs.Layout.{fixed_list_layout}
use Rattle.fact_types.specs.Shapes.{k_fixed}
use Rattle.fact_types.proofs.StandLaws.{fixed_length_list_stands}
use Rattle.fact_builder.proofs.MadeLaws.{fixed_length_lists, fixed_length_lists_lie, does_not_fit, entered, turned_away}
use Rattle.fact_builder.proofs.MakingLaws.{failed, passed}
use Rattle.fact_builder.proofs.lists.make_fixed_length_list.Goals as goal

pub returns-then-not-fixed_length_list_fits : goal.returns-then-not-fixed_length_list_fits
returns-then-not-fixed_length_list_fits c =
    let e = rw c.canonical_abi-element_abi.ensures.stands at c.if-not-fixed_length_list_fits.ensures in
    let r = does_not_fit c.args.builder.now (k_fixed c.args.size) (([], Some c.args.element) ∷ []) c.reveal.ensures.sound (λ p. failed e (record { count = omega (arith, c.ranges.size.fits); memory32 = p.0; memory64 = p.1 })) in
    record { makes = r.makes; too_large = r.exact }

pub returns-in_err-index : goal.returns-in_err-index
returns-in_err-index c =
    let old = c.args.builder.now in
    let e = rw c.canonical_abi-element_abi.ensures.stands at c.if-not-fixed_length_list_fits.ensures in
    let stands = fixed_length_list_stands old.tables _ c.requires (c.fixed_length_list_static-abi.ensures ∙ ap (λ (l : CanonicalAbiInfo). fixed_list_layout l c.args.size) c.canonical_abi-element_abi.ensures.stands) in
    let f = passed e in
    let q = err_from_is_err_and c.from_residual.result c.from_residual.ensures.1 in
    let a = c.add_fixed_length_list_type.ensures in
    let r = turned_away fixed_length_lists old old _ _ _ (fixed_length_lists_lie c.args.size old old refl) c.reveal.ensures.sound stands (f.memory32, f.memory64) _ _ _ _ _ c.in_err-index.was q.1 q.2 a.refused a.found a.too_large in
    record { makes = r.makes; too_large = r.exact }

pub returns : goal.returns
returns c =
    let old = c.args.builder.now in
    let new = c.add_fixed_length_list_type.new.self in
    let e = rw c.canonical_abi-element_abi.ensures.stands at c.if-not-fixed_length_list_fits.ensures in
    let stands = fixed_length_list_stands old.tables _ c.requires (c.fixed_length_list_static-abi.ensures ∙ ap (λ (l : CanonicalAbiInfo). fixed_list_layout l c.args.size) c.canonical_abi-element_abi.ensures.stands) in
    let f = passed e in
    let a = c.in_ok-index.ensures in
    let r = entered fixed_length_lists old new _ _ _ (fixed_length_lists_lie c.args.size old new a.rest) c.reveal.ensures.sound stands (f.memory32, f.memory64) _ c.in_ok-index.index a.keeps a.interned a.entry a.too_large in
    record { makes = r.makes; too_large = r.exact }
