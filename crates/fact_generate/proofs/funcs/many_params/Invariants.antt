-- So many parameters are there.
use Rattle.std.proofs.Common.{◌≡◌}
use Rattle.fact_generate.proofs.FormTypes.{first_params}
use Rattle.fact_generate.proofs.funcs.many_params.Given as goal

abbrev pub invariant-loop-i : goal.invariant-loop-i
invariant-loop-i l = l.params ≡ first_params l.i-counter
