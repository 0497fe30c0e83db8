use Rattle.std.proofs.Common.{◌≡◌, ◌++◌, take}
use Rattle.fact_machine.specs.Machine.{locals_of}
use Rattle.fact_interpreter.proofs.locals.push_declared.Given as goal

abbrev pub invariant-loop-count : goal.invariant-loop-count
invariant-loop-count l = l.locals ≡ l.initial.locals ++ locals_of (take l.count-index l.runs)
