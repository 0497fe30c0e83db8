use Rattle.std.proofs.Common.{refl, subst, sym, ◌∙◌}
use Rattle.fact_emit.specs.declared.places.Sides.{Sides}
use Rattle.fact_emit.specs.Places.{slots_of_locals}
use Rattle.fact_emit.specs.StringPieces.{AreSidesImported}
use Rattle.fact_emit.proofs.SidesImported.{sides_same}
use Rattle.fact_kinds.specs.Asks.{AreSidesTold}
use Rattle.fact_compound.specs.Functions.{params_among}
use Rattle.fact_compound.specs.Passing.{tuple_from, tuple_to}
use Rattle.fact_compound.proofs.HelperBodies.{helper_body_by}
use Rattle.fact_compound.proofs.helpers.write_helper_body.Goals as goal

pub translate_in_place-requires-clause-sides : goal.translate_in_place-requires-clause-sides
translate_in_place-requires-clause-sides c =
    sides_same (c.in_ok-results.ensures.imports ∙ c.in_ok-params.ensures.imports) (subst (λ (s : Sides). AreSidesImported s c.args.w.now.sections) (sym c.helper_sides-sides.ensures) c.requires.imported)

pub translate_in_place-requires-clause-told : goal.translate_in_place-requires-clause-told
translate_in_place-requires-clause-told c = subst AreSidesTold (sym c.helper_sides-sides.ensures) (record { from = refl; to = refl })

pub returns : goal.returns
returns c =
    let params = rw c.as_slice.ensures at c.in_ok-params.ensures in
    let results = rw c.as_slice-2.ensures at c.in_ok-results.ensures in
    let pushed = rw c.as_slice-6.ensures.value at c.in_ok-push_locals.ensures in
    let values = c.params_of-values.ensures ∙ (λ j. params_among (c.is_on_stack-given.ensures j) (slots_of_locals (c.as_slice-3.ensures.value j))) in
    helper_body_by c.helper_sides-sides.ensures c.requires.no_code c.requires.no_locals params results
    (c.tuple_source-source.ensures c.helper_sides-sides.result.from ∙ (λ i. tuple_from c.helper_sides-sides.result.from (c.is_on_stack.ensures i) (values i)))
    (c.tuple_target-target.ensures c.helper_sides-sides.result.to ∙ (λ i. tuple_to c.helper_sides-sides.result.to (c.is_on_stack-given.ensures i) (slots_of_locals (c.as_slice-4.ensures.value i)) (slots_of_locals (c.as_slice-5.ensures.value i))))
    c.in_ok-translate_in_place.ensures pushed
