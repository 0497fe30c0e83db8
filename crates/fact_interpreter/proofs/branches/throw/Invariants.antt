use Rattle.std.proofs.Common.{◌≡◌, length}
use Rattle.fact_interpreter.specs.Running.{at, throwing}
use Rattle.fact_interpreter.proofs.branches.throw.Given as goal

abbrev pub invariant-loop-entry : goal.invariant-loop-entry
invariant-loop-entry l = at l.run throwing ≡ at l.fn.run throwing

abbrev pub decreases-loop-entry : goal.decreases-loop-entry
decreases-loop-entry l = length l.run.around
