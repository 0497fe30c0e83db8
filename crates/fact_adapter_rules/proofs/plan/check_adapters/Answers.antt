use Rattle.fact_adapter_rules.proofs.PlanLaws.{at-first}
use Rattle.fact_adapter_rules.proofs.plan.check_adapters.Goals as goal

pub check_each-checked-requires-clause-at : goal.check_each-checked-requires-clause-at
check_each-checked-requires-clause-at c = rw c.new-checks.ensures (at-first _ _)
