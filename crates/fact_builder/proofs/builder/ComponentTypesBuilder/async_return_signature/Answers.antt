use Rattle.std.proofs.Common.{◌≡◌, ◌∙◌, ◌++◌, [], sym, subst, Bool}
use Rattle.std.specs.Prelude.{IfOk}
use Rattle.fact_types.specs.Signatures.{flat_params, lift_results_limit, lower_pointer, lower_results}
use Rattle.fact_builder.specs.Pointers.{with_results}
use Rattle.fact_builder.proofs.PointerLaws.{same_pointer, signature}
use Rattle.fact_builder.proofs.builder.ComponentTypesBuilder.async_return_signature.Goals as goal

pub returns-then-lower : goal.returns-then-lower
returns-then-lower c = λ ps rs qs ss h k.
    let given = c.in_ok-params.ensures ss (c.types_of.ensures.given qs ss k) ∙ (λ i. flat_params c.args.lift.now.memory64 (c.lift_results_limit.ensures i) ss) in
    let pointer = same_pointer c.args.self.now.tables c.args.lower.now.memory64 _ rs (c.types_of-2.ensures.given ps rs h) in
    (λ i. signature (c.in_ok-params-2.ensures i) (c.no_values-results.ensures i))
    ∙ (λ i. signature (given i ++ pointer i) [])
    ∙ (λ i. signature (flat_params c.args.lift.now.memory64 (lift_results_limit c.args.lift.now.async_) ss ++ lower_pointer (sym c.if-lower.true i) c.args.lower.now.memory64 rs) (lower_results (sym c.if-lower.true i) c.args.lower.now.memory64 rs))

pub returns : goal.returns
returns c = λ ps rs qs ss h k.
    let given = c.in_ok-params.ensures ss (c.types_of.ensures.given qs ss k) ∙ (λ i. flat_params c.args.lift.now.memory64 (c.lift_results_limit.ensures i) ss) in
    subst (λ (b : Bool). IfOk c.sync_results.result (λ s. s ≡ signature (flat_params c.args.lift.now.memory64 (lift_results_limit c.args.lift.now.async_) ss ++ lower_pointer b c.args.lower.now.memory64 rs) (lower_results b c.args.lower.now.memory64 rs))) (sym c.if-lower.false)
    (subst (λ values. IfOk c.sync_results.result (λ s. s ≡ with_results values c.args.lower.now.memory64 rs)) given (c.sync_results.ensures rs (c.types_of-2.ensures.given ps rs h)))
