use Rattle.std.proofs.Common.{◌≡◌, ◌++◌, take}
use Rattle.fact_compound.specs.Entries.{constants_code}
use Rattle.fact_compound.proofs.entries.push_constants.Given as goal

abbrev pub invariant-loop-number : goal.invariant-loop-number
invariant-loop-number l = l.code.items ≡ l.initial.code.items ++ constants_code (take l.number-index l.numbers)
