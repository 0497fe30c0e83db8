use Rattle.std.proofs.Common.{ap, sym, ◌∙◌}
use Rattle.fact_types.specs.Layout.{discriminant_bytes, scalar_layout}
use Rattle.fact_types.proofs.PayloadLaws.{enum_is_scalar}
use Rattle.fact_types.proofs.abi.CanonicalAbiInfo.enum_.Goals as goal

pub returns : goal.returns
returns c =
    ap scalar_layout (c.byte_size-bytes.ensures ∙ ap discriminant_bytes c.discriminant_of.ensures) ∙ sym (enum_is_scalar c.args.cases)
