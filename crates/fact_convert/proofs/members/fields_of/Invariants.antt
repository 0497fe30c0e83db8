use Rattle.std.proofs.Common.{◌≡◌, take}
use Rattle.fact_convert.specs.Progress.{fields_with}
use Rattle.fact_convert.proofs.members.fields_of.Given as goal

abbrev pub invariant-loop-i : goal.invariant-loop-i
invariant-loop-i l = l.record_fields ≡ fields_with (take l.i l.fields) (take l.i l.types)
