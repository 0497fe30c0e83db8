use Rattle.std.proofs.Common.{◌≡◌, take}
use Rattle.fact_values.proofs.+copied.Given as goal

abbrev pub invariant-copies::copy_values-loop-value : goal.invariant-copies::copy_values-loop-value
invariant-copies::copy_values-loop-value l = l.copies ≡ take l.value-index l.values

abbrev pub invariant-copies::copy_entries-loop-key : goal.invariant-copies::copy_entries-loop-key
invariant-copies::copy_entries-loop-key l = l.copies ≡ take l.key-index l.entries

abbrev pub invariant-copies::copy_fields-loop-name : goal.invariant-copies::copy_fields-loop-name
invariant-copies::copy_fields-loop-name l = l.copies ≡ take l.name-index l.fields
