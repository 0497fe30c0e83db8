use Rattle.std.proofs.Common.{◌≡◌, drop}
use Rattle.fact_values.specs.Handles.{value_named}
use Rattle.fact_abi.proofs.carrying.value_of_name.Given as goal

abbrev pub invariant-loop-field : goal.invariant-loop-field
invariant-loop-field l = value_named l.name l.fields ≡ value_named l.name (drop l.field-index l.fields)
