use Rattle.std.proofs.Common.{◌≡◌, take}
use Rattle.fact_values.proofs.copies.copy_flags.Given as goal

abbrev pub invariant-loop-name : goal.invariant-loop-name
invariant-loop-name l = l.copies ≡ take l.name-index l.flags
