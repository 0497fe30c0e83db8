use Rattle.std.proofs.Common.{ℕ, ◌<◌, get_or}
use Rattle.std.specs.Int.{IsPowerOfTwo}
use Rattle.fact_types.specs.Layout.{extent}
use Rattle.fact_types.proofs.FieldLaws.{Walk, blank_abi}
use Rattle.fact_types.proofs.records.fields_fit.Given as goal

abbrev pub invariant-loop-field : goal.invariant-loop-field
invariant-loop-field l = record {
  walk : Walk l.width l.fields l.field-index l.placed.size l.placed.align;
  powers : (k : ℕ) → k < l.field-index → IsPowerOfTwo (extent l.width (get_or l.fields k blank_abi)).align;
}
