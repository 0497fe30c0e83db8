use Rattle.std.proofs.Common.{◌≡◌}
use Rattle.fact_machine.specs.World.{calls}
use Rattle.fact_interpreter.proofs.run.calls_of.Given as goal

abbrev pub invariant-loop-entry : goal.invariant-loop-entry
invariant-loop-entry l = l.log ≡ calls l.yielded
