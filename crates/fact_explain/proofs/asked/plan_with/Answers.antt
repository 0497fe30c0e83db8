use Rattle.fact_explain.proofs.asked.plan_with.Goals as goal

pub returns-in-Ok-clause-plan : goal.returns-in-Ok-clause-plan
returns-in-Ok-clause-plan g c = (c.in-Ok.plan, c.in-Ok.ensures.plan, c.configure.ensures)
