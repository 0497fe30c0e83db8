use Rattle.std.proofs.Common.{◌≡◌, ◌++◌}
use Rattle.fact_compound.proofs.helpers.define_all.Given as goal

abbrev pub invariant-loop-function : goal.invariant-loop-function
invariant-loop-function l = l.sections ≡ record l.fn.sections { functions = l.fn.sections.functions ++ l.yielded }
