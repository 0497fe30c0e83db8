use Rattle.std.proofs.Common.{◌≡◌, ◌-◌}
use Rattle.fact_machine.specs.Machine.{exec}
use Rattle.fact_interpreter.specs.Running.{config_of}
use Rattle.fact_interpreter.proofs.run.go_on.Given as goal

abbrev pub invariant-loop : goal.invariant-loop
invariant-loop l = exec l.«module» (l.steps - l.counter) (config_of l.run) ≡ exec l.«module» l.steps (config_of l.fn.run)
