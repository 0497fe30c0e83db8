use Rattle.std.proofs.Common.{◌∙◌, sym}
use Rattle.fact_types.specs.Signatures.{lift_by}
use Rattle.fact_builder.proofs.PointerLaws.{signature}
use Rattle.fact_builder.proofs.builder.ComponentTypesBuilder.lift_signature.Goals as goal

pub returns-then-not-side : goal.returns-then-not-side
returns-then-not-side c = λ ps rs h.
    (λ i. signature (c.in_ok-params.ensures ps (c.types_of.ensures.taken ps rs h) i) (c.in_ok-results.ensures rs (c.types_of.ensures.given ps rs h) i))
    ∙ (λ i. lift_by (sym c.if-not-side.true i) c.args.side.now.callback c.args.side.now.memory64 ps rs)

pub returns-then-side : goal.returns-then-side
returns-then-side c = λ ps rs h.
    (λ i. signature (c.in_ok-params.ensures ps (c.types_of.ensures.taken ps rs h) i) (c.in_ok-results-2.ensures i))
    ∙ (λ i. lift_by (sym c.if-not-side.false i) (sym c.if-side.true i) c.args.side.now.memory64 ps rs)

pub returns : goal.returns
returns c = λ ps rs h.
    (λ i. signature (c.in_ok-params.ensures ps (c.types_of.ensures.taken ps rs h) i) (c.no_values-results.ensures i))
    ∙ (λ i. lift_by (sym c.if-not-side.false i) (sym c.if-side.false i) c.args.side.now.memory64 ps rs)
