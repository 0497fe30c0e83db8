use Rattle.std.proofs.Common.{◌≡◌, ◌++◌}
use Rattle.fact_compound.specs.Entries.{arguments_code}
use Rattle.fact_compound.proofs.entries.push_arguments.Given as goal

abbrev pub invariant-loop-number : goal.invariant-loop-number
invariant-loop-number l = l.code.items ≡ l.initial.code.items ++ arguments_code 0 l.number
