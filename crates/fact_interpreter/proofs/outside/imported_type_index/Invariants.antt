use Rattle.std.proofs.Common.{◌≡◌, length}
use Rattle.fact_machine.specs.Machine.{func_import}
use Rattle.fact_interpreter.proofs.outside.imported_type_index.Given as goal

abbrev pub invariant-loop-imports : goal.invariant-loop-imports
invariant-loop-imports l = func_import l.imports l.before ≡ func_import l.fn.imports l.fn.n

abbrev pub decreases-loop-imports : goal.decreases-loop-imports
decreases-loop-imports l = length l.imports
