use Rattle.fact_types.proofs.FieldLaws.{Walk}
use Rattle.fact_types.proofs.records.extent_of_fields.Given as goal

abbrev pub invariant-loop-field : goal.invariant-loop-field
invariant-loop-field l = Walk l.width l.fields l.field-index l.placed.size l.placed.align
