use Rattle.fact_run.proofs.CheckEnds.{replied-bytes}
use Rattle.fact_run.proofs.check_mode.reply_to.Goals as goal

pub returns-in-Ok : goal.returns-in-Ok
returns-in-Ok c = replied-bytes c.args.input.now c.in-Ok.bytes.items c.reply_to_bytes.result c.in-Ok.ensures (rw c.deref.ensures.value at c.reply_to_bytes.ensures)
