use Rattle.fact_adapter_rules.specs.PlanLinks.{IsAt}
use Rattle.fact_adapter_rules.proofs.plan.check_each.Given as goal

abbrev pub invariant-loop-k : goal.invariant-loop-k
invariant-loop-k l = IsAt l.plan l.types.builder l.checks l.k
