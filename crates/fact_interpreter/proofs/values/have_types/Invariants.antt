use Rattle.std.proofs.Common.{◌≡◌, drop}
use Rattle.fact_machine.specs.Machine.{have_types}
use Rattle.fact_interpreter.proofs.values.have_types.Given as goal

abbrev pub invariant-loop-value : goal.invariant-loop-value
invariant-loop-value l = have_types (drop l.value-index l.values) l.types ≡ have_types l.fn.values l.fn.types
