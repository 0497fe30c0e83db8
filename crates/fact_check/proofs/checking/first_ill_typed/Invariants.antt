use Rattle.std.proofs.Common.{◌≡◌}
use Rattle.fact_check.specs.Accepted.{AreTypedFunctions}
use Rattle.fact_check.proofs.checking.first_ill_typed.Given as goal

abbrev pub invariant-loop-func : goal.invariant-loop-func
invariant-loop-func l = (l.place ≡ l.func-index) × AreTypedFunctions l.module l.func-index
