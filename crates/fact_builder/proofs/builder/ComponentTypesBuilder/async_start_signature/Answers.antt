use Rattle.std.proofs.Common.{◌∙◌}
use Rattle.fact_types.specs.Signatures.{flat_params}
use Rattle.fact_builder.proofs.PointerLaws.{signature}
use Rattle.fact_builder.proofs.builder.ComponentTypesBuilder.async_start_signature.Goals as goal

pub returns : goal.returns
returns c = λ ps rs qs ss h k.
    (λ i. signature (c.in_ok-params.ensures ps (c.types_of.ensures.taken ps rs h) i) (c.in_ok-results.ensures qs (c.types_of-2.ensures.taken qs ss k) i))
    ∙ (λ i. signature (flat_params c.args.lower.now.memory64 (c.lower_limit.ensures i) ps) (flat_params c.args.lift.now.memory64 16 qs))
