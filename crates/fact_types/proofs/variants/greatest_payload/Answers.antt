use Rattle.std.proofs.Common.{arith}
use Rattle.fact_types.specs.Layout.{extents, payloads}
use Rattle.fact_types.proofs.FieldLaws.{greatest_align_pos}
use Rattle.fact_types.proofs.variants.greatest_payload.Goals as goal

pub loop-case-init : goal.loop-case-init
loop-case-init c = record {
  sizes = omega arith;
  aligns = omega (arith, greatest_align_pos (extents c.args.width (payloads c.args.cases.now)));
  positive = omega arith;
}
