use Rattle.std.proofs.Common.{◌≡◌, ◌++◌, map, take}
use Rattle.fact_machine.specs.Machine.{some_of}
use Rattle.fact_interpreter.proofs.locals.push_args.Given as goal

abbrev pub invariant-loop-arg : goal.invariant-loop-arg
invariant-loop-arg l = l.locals ≡ l.initial.locals ++ map some_of (take l.arg-index l.args)
