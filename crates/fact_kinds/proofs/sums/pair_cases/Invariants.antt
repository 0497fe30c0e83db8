use Rattle.std.proofs.Common.{◌≡◌, ◌++◌}
use Rattle.fact_kinds.specs.Sums.{paired_cases}
use Rattle.fact_kinds.proofs.sums.pair_cases.Given as goal

abbrev pub invariant-loop-name : goal.invariant-loop-name
invariant-loop-name l = l.cases.items ++ paired_cases l.name-iterator l.to.entries ≡ paired_cases l.from.entries l.to.entries
