use Rattle.std.proofs.Common.{◌≡◌, map, take}
use Rattle.fact_types.specs.declared.kinds.RecordField.{RecordField}
use Rattle.fact_types.specs.Tables.{abi_at}
use Rattle.fact_builder.proofs.layouts.layouts_of_fields.Given as goal

abbrev pub invariant-loop-field : goal.invariant-loop-field
invariant-loop-field l = l.layouts.items ≡ map (λ (f : RecordField). abi_at l.builder.tables f.ty) (take l.field-index l.fields)
