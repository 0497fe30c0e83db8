use Rattle.fact_run.proofs.CheckEnds.{replied-cause}
use Rattle.fact_run.proofs.check_mode.reply_to_bytes.Goals as goal

pub returns-in-Err : goal.returns-in-Err
returns-in-Err c = replied-cause c.args.bytes.now c.in-Err.cause c.reply_to_cause.result c.in-Err.ensures.cause c.reply_to_cause.ensures
