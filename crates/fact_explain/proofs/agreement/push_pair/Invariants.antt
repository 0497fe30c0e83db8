use Rattle.std.proofs.Common.{◌≡◌}
use Rattle.fact_explain.proofs.agreement.push_pair.Given as goal

abbrev pub invariant-steps : goal.invariant-steps
invariant-steps l = l.agreement ≡ l.initial.agreement
