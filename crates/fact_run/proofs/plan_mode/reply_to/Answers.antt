use Rattle.fact_run.proofs.Ends.{replied-plan}
use Rattle.fact_run.proofs.plan_mode.reply_to.Goals as goal

pub returns-in-Ok : goal.returns-in-Ok
returns-in-Ok c = replied-plan _ _ _ c.reply_to_plan.result c.in-Ok.ensures c.reply_to_plan.ensures
