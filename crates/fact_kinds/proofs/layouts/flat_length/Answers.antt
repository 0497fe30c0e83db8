use Rattle.std.proofs.Common.{◌∙◌, ap}
use Rattle.std.specs.Prelude.{unwrap_or}
use Rattle.fact_types.specs.declared.abi.CanonicalAbiInfo.{CanonicalAbiInfo}
use Rattle.fact_kinds.proofs.layouts.flat_length.Goals as goal

pub returns : goal.returns
returns c = λ s h. c.from.ensures ∙ c.unwrap_or.ensures ∙ ap (λ (a : CanonicalAbiInfo). unwrap_or a.flat_count 0) (c.canonical_abi.ensures.laid s h)
