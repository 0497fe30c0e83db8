use Rattle.std.proofs.Common.{◌≡◌, length}
use Rattle.fact_machine.specs.Machine.{next}
use Rattle.fact_interpreter.specs.Running.{config_of}
use Rattle.fact_interpreter.proofs.settle.settle.Given as goal

abbrev pub invariant-loop-run : goal.invariant-loop-run
invariant-loop-run l = next (config_of l.run) ≡ next (config_of l.fn.run)

abbrev pub decreases-loop-run : goal.decreases-loop-run
decreases-loop-run l = length l.run.around
