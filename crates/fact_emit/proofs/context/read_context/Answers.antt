use Rattle.fact_emit.proofs.RuntimeMoves.{no_reads, reads_emits}
use Rattle.fact_emit.proofs.context.read_context.Goals as goal

pub returns-in_ok-read_slot-2 : goal.returns-in_ok-read_slot-2
returns-in_ok-read_slot-2 c = reads_emits c.args.is_on c.args.locals c.if-is_on.true c.in_ok-read_slot.ensures c.in_ok-read_slot-2.ensures

pub returns-else-is_on : goal.returns-else-is_on
returns-else-is_on c = no_reads c.args.w.now c.args.is_on c.args.locals c.if-is_on.false
