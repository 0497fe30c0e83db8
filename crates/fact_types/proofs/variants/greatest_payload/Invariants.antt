use Rattle.std.proofs.Common.{◌≡◌, ◌<◌, max, drop}
use Rattle.fact_types.specs.Layout.{extents, payloads, greatest_size, greatest_align}
use Rattle.fact_types.proofs.variants.greatest_payload.Given as goal

abbrev pub invariant-loop-case : goal.invariant-loop-case
invariant-loop-case l = record {
  sizes : max l.size (greatest_size (extents l.width (payloads (drop l.case-index l.cases)))) ≡ greatest_size (extents l.width (payloads l.cases));
  aligns : max l.align (greatest_align (extents l.width (payloads (drop l.case-index l.cases)))) ≡ greatest_align (extents l.width (payloads l.cases));
  positive : 0 < l.align;
}
