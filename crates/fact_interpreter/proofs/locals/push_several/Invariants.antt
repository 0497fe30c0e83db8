use Rattle.std.proofs.Common.{◌≡◌, ◌++◌, []}
use Rattle.fact_machine.specs.Machine.{several}
use Rattle.fact_interpreter.proofs.locals.push_several.Given as goal

abbrev pub invariant-loop : goal.invariant-loop
invariant-loop l = l.locals ≡ l.initial.locals ++ several l.counter l.value []
