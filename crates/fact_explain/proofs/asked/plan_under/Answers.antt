use Rattle.fact_run.proofs.Ends.{untaken}
use Rattle.fact_explain.proofs.Ended.{end-under, fueled, no-usage, plan-under, unasked}
use Rattle.fact_explain.proofs.asked.plan_under.Goals as goal

pub returns-in-Ok-clause-plan : goal.returns-in-Ok-clause-plan
returns-in-Ok-clause-plan g c = plan-under _ _ _ _ c.plan_with-found.result c.in-Ok.ensures.reading c.in-Ok.ensures.mode c.plan_with-found.ensures.plan

pub returns-in-Ok-clause-fuel : goal.returns-in-Ok-clause-fuel
returns-in-Ok-clause-fuel g c = fueled c.in-Ok.options _ _ c.plan_with-found.result c.in-Ok.ensures.fuel c.plan_with-found.ensures.plan

pub returns-in-Ok-clause-end : goal.returns-in-Ok-clause-end
returns-in-Ok-clause-end g c = end-under _ _ _ _ _ c.plan_with-found.result c.in-Ok.ensures.reading c.in-Ok.ensures.mode c.plan_with-found.ensures.end

pub returns-in-Ok-clause-untouched : goal.returns-in-Ok-clause-untouched
returns-in-Ok-clause-untouched g c = no-usage _ _ _ _ c.plan_with-found.result c.plan_with-found.ensures.end

pub returns-in-Err-clause-end : goal.returns-in-Err-clause-end
returns-in-Err-clause-end g c = rw c.of.ensures (unasked _ _ _ _ c.in-Err.status c.in-Err.ensures.unasked)

pub returns-in-Err-clause-most : goal.returns-in-Err-clause-most
returns-in-Err-clause-most g c = untaken _ _
