use Rattle.fact_run.proofs.Ends.{replied}
use Rattle.fact_run.proofs.plan_mode.plan_reply.Goals as goal

pub returns-in-Ok-clause-reply : goal.returns-in-Ok-clause-reply
returns-in-Ok-clause-reply g c =
    replied _ _ _ _ c.in-Ok.bytes.items c.reply_to.result c.in-Ok.ensures.all (rw c.deref.ensures.value at c.reply_to.ensures)
