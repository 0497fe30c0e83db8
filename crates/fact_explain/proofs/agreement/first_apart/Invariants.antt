use Rattle.std.proofs.Common.{◌≡◌}
use Rattle.fact_explain.proofs.agreement.first_apart.Given as goal

abbrev pub invariant-loop-place : goal.invariant-loop-place
invariant-loop-place l = l.agreement ≡ l.initial.agreement
