use Rattle.std.proofs.Common.{◌∙◌, ◌++◌, [], ◌∷◌, sym}
use Rattle.fact_types.specs.Signatures.{address, flat_or, unless_flat}
use Rattle.fact_builder.proofs.FlatLaws.{append_nil}
use Rattle.fact_builder.proofs.PointerLaws.{signature}
use Rattle.fact_builder.proofs.builder.ComponentTypesBuilder.sync_results.Goals as goal

pub returns-in-Some : goal.returns-in-Some
returns-in-Some c = λ rs h.
    let given = sym c.in-Some.is ∙ c.in_ok-results.ensures rs h in
    (λ i. signature (sym (append_nil c.args.params) i) c.in-Some.results)
    ∙ (λ i. signature (c.args.params ++ unless_flat (address c.args.memory64 ∷ []) (given i)) (flat_or [] (given i)))

pub returns-in_ok-push-in-None : goal.returns-in_ok-push-in-None
returns-in_ok-push-in-None c = λ rs h.
    let given = sym c.in-None.is ∙ c.in_ok-results.ensures rs h in
    (λ i. signature (c.in_ok-push-in-None.ensures.ok i) (c.no_values-results.ensures i))
    ∙ (λ i. signature (c.args.params ++ c.address.ensures i ∷ []) [])
    ∙ (λ i. signature (c.args.params ++ unless_flat (address c.args.memory64 ∷ []) (given i)) (flat_or [] (given i)))
