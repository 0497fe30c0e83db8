use Rattle.std.proofs.Common.{◌≡◌, ◌∷◌, [], Some, None, refl, ◌∙◌, ap, lit≤}
use Rattle.std.proofs.lemmas.Result.{err_from_is_err_and}
use Rattle.fact_types.specs.declared.abi.CanonicalAbiInfo.{CanonicalAbiInfo}
use Rattle.fact_types.specs.Layout.{variant_layout, variant_info}
use Rattle.fact_types.specs.Shapes.{k_option}
use Rattle.fact_types.specs.Tables.{abi_at}
use Rattle.fact_types.proofs.StandLaws.{option_stands}
use Rattle.fact_builder.proofs.MadeLaws.{options, options_lie, does_not_fit, entered, turned_away}
use Rattle.fact_builder.proofs.MakingLaws.{failed, passed, variant_fits}
use Rattle.fact_builder.proofs.sums.make_option.Goals as goal

pub returns-then-not-variant_fits : goal.returns-then-not-variant_fits
returns-then-not-variant_fits c =
    let e = rw c.canonical_abi.ensures.stands at c.if-not-variant_fits.ensures in
    let r = does_not_fit c.args.builder.now k_option _ c.reveal.ensures.sound (λ p. failed e (variant_fits _ p (lit≤ tt))) in
    record { makes = r.makes; too_large = r.exact }

pub returns-in_err-index : goal.returns-in_err-index
returns-in_err-index c =
    let old = c.args.builder.now in
    let e = rw c.canonical_abi.ensures.stands at c.if-not-variant_fits.ensures in
    let here : c.canonical_abi.result.now ≡ abi_at old.tables c.args.ty = c.canonical_abi.ensures.stands in
    let stands = option_stands old.tables _ c.requires (c.new.ensures.abi ∙ ap (λ (l : CanonicalAbiInfo). variant_layout (None ∷ Some l ∷ [])) here) (c.new.ensures.info ∙ ap (λ (l : CanonicalAbiInfo). variant_info (None ∷ Some l ∷ [])) here) in
    let f = passed e in
    let q = err_from_is_err_and c.from_residual.result c.from_residual.ensures.1 in
    let a = c.add_option_type.ensures in
    let r = turned_away options old old _ _ _ (options_lie old old refl) c.reveal.ensures.sound stands (f.memory32, f.memory64) _ _ _ _ _ c.in_err-index.was q.1 q.2 a.refused a.found a.too_large in
    record { makes = r.makes; too_large = r.exact }

pub returns : goal.returns
returns c =
    let old = c.args.builder.now in
    let new = c.add_option_type.new.self in
    let e = rw c.canonical_abi.ensures.stands at c.if-not-variant_fits.ensures in
    let here : c.canonical_abi.result.now ≡ abi_at old.tables c.args.ty = c.canonical_abi.ensures.stands in
    let stands = option_stands old.tables _ c.requires (c.new.ensures.abi ∙ ap (λ (l : CanonicalAbiInfo). variant_layout (None ∷ Some l ∷ [])) here) (c.new.ensures.info ∙ ap (λ (l : CanonicalAbiInfo). variant_info (None ∷ Some l ∷ [])) here) in
    let f = passed e in
    let a = c.in_ok-index.ensures in
    let r = entered options old new _ _ _ (options_lie old new a.rest) c.reveal.ensures.sound stands (f.memory32, f.memory64) _ c.in_ok-index.index a.keeps a.interned a.entry a.too_large in
    record { makes = r.makes; too_large = r.exact }
