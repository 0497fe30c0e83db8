use Rattle.std.proofs.Common.{◌∷◌, [], refl, ◌∙◌, lit≤}
use Rattle.std.proofs.lemmas.Result.{err_from_is_err_and}
use Rattle.fact_types.specs.Layout.{variant_layout, variant_info}
use Rattle.fact_types.specs.Shapes.{k_result}
use Rattle.fact_types.proofs.StandLaws.{result_stands}
use Rattle.fact_builder.proofs.MadeLaws.{results, results_lie, does_not_fit, entered, turned_away}
use Rattle.fact_builder.proofs.MakingLaws.{failed, passed, variant_fits}
use Rattle.fact_builder.proofs.sums.make_result.Goals as goal

pub returns-then-not-variant_fits : goal.returns-then-not-variant_fits
returns-then-not-variant_fits c =
    let e = rw (c.layout_of_payload.ensures, c.layout_of_payload-2.ensures) at c.if-not-variant_fits.ensures in
    let r = does_not_fit c.args.builder.now k_result _ c.reveal.ensures.sound (λ p. failed e (variant_fits _ p (lit≤ tt))) in
    record { makes = r.makes; too_large = r.exact }

pub returns-in_err-index : goal.returns-in_err-index
returns-in_err-index c =
    let old = c.args.builder.now in
    let e = rw (c.layout_of_payload.ensures, c.layout_of_payload-2.ensures) at c.if-not-variant_fits.ensures in
    let here = c.layout_of_payload.ensures in
    let there = c.layout_of_payload-2.ensures in
    let stands = result_stands old.tables _ c.requires.ok c.requires.err (c.new.ensures.abi ∙ (λ i. variant_layout (here i ∷ there i ∷ []))) (c.new.ensures.info ∙ (λ i. variant_info (here i ∷ there i ∷ []))) in
    let f = passed e in
    let q = err_from_is_err_and c.from_residual.result c.from_residual.ensures.1 in
    let a = c.add_result_type.ensures in
    let r = turned_away results old old _ _ _ (results_lie old old refl) c.reveal.ensures.sound stands (f.memory32, f.memory64) _ _ _ _ _ c.in_err-index.was q.1 q.2 a.refused a.found a.too_large in
    record { makes = r.makes; too_large = r.exact }

pub returns : goal.returns
returns c =
    let old = c.args.builder.now in
    let new = c.add_result_type.new.self in
    let e = rw (c.layout_of_payload.ensures, c.layout_of_payload-2.ensures) at c.if-not-variant_fits.ensures in
    let here = c.layout_of_payload.ensures in
    let there = c.layout_of_payload-2.ensures in
    let stands = result_stands old.tables _ c.requires.ok c.requires.err (c.new.ensures.abi ∙ (λ i. variant_layout (here i ∷ there i ∷ []))) (c.new.ensures.info ∙ (λ i. variant_info (here i ∷ there i ∷ []))) in
    let f = passed e in
    let a = c.in_ok-index.ensures in
    let r = entered results old new _ _ _ (results_lie old new a.rest) c.reveal.ensures.sound stands (f.memory32, f.memory64) _ c.in_ok-index.index a.keeps a.interned a.entry a.too_large in
    record { makes = r.makes; too_large = r.exact }
