use Rattle.fact_run.proofs.CallEnds.{told-call}
use Rattle.fact_run.proofs.call_mode.reply_to.Goals as goal

pub returns : goal.returns
returns c = told-call c.args.fuel c.args.name.now c.args.bytes.now c.reply_to_call.result c.told_reply.result c.reply_to_call.ensures c.told_reply.ensures
