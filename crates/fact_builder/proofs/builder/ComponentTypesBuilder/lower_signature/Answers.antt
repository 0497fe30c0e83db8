use Rattle.std.proofs.Common.{◌≡◌, sym, subst, Bool}
use Rattle.std.specs.Prelude.{IfOk}
use Rattle.fact_types.specs.Signatures.{lower_by}
use Rattle.fact_builder.specs.Pointers.{with_results}
use Rattle.fact_builder.proofs.builder.ComponentTypesBuilder.lower_signature.Goals as goal

pub returns-then-side : goal.returns-then-side
returns-then-side c = λ ps rs h.
    subst (λ (b : Bool). IfOk c.async_lower_signature.result (λ s. s ≡ lower_by b c.args.side.now.memory64 ps rs)) (sym c.if-side.true)
    (c.async_lower_signature.ensures ps rs (c.types_of.ensures.taken ps rs h) (c.types_of.ensures.given ps rs h))

pub returns : goal.returns
returns c = λ ps rs h.
    subst (λ (b : Bool). IfOk c.sync_results.result (λ s. s ≡ lower_by b c.args.side.now.memory64 ps rs)) (sym c.if-side.false)
    (subst (λ values. IfOk c.sync_results.result (λ s. s ≡ with_results values c.args.side.now.memory64 rs)) (c.in_ok-params.ensures ps (c.types_of.ensures.taken ps rs h)) (c.sync_results.ensures rs (c.types_of.ensures.given ps rs h)))
