use Rattle.std.proofs.Common.{◌≡◌, length}
use Rattle.fact_machine.specs.Machine.{memory_import}
use Rattle.fact_interpreter.proofs.memory.memory_import.Given as goal

abbrev pub invariant-loop-imports : goal.invariant-loop-imports
invariant-loop-imports l = memory_import l.imports l.before ≡ memory_import l.fn.imports l.fn.n

abbrev pub decreases-loop-imports : goal.decreases-loop-imports
decreases-loop-imports l = length l.imports
