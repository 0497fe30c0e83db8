use Rattle.std.proofs.Common.{◌≡◌, ◌-◌}
use Rattle.fact_interpreter.specs.Running.{at, branching}
use Rattle.fact_interpreter.proofs.branches.branch.Given as goal

abbrev pub invariant-loop : goal.invariant-loop
invariant-loop l = at l.run (branching (l.label - l.counter)) ≡ at l.fn.run (branching l.label)
