use Rattle.fact_explain.proofs.Said.{end-read, plan-read}
use Rattle.fact_explain.proofs.explanation.plan_from.Goals as goal

pub returns-in-Ok-clause-plan : goal.returns-in-Ok-clause-plan
returns-in-Ok-clause-plan g c = plan-read _ _ c.in-Ok.bytes.items c.plan_in.result c.in-Ok.ensures.all (rw c.deref.ensures.value at c.plan_in.ensures)

pub returns-in-Ok-clause-end : goal.returns-in-Ok-clause-end
returns-in-Ok-clause-end g c = end-read _ _ _ c.in-Ok.bytes.items c.plan_in.result c.in-Ok.ensures.all (rw c.deref.ensures.value at c.plan_in.ensures)
