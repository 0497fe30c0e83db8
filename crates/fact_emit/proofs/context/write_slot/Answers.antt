use Rattle.fact_emit.proofs.RuntimeMoves.{calls_front}
use Rattle.fact_emit.proofs.context.write_slot.Goals as goal

pub returns : goal.returns
returns c = calls_front c.requires c.in_ok-put.ensures c.in_ok-call_runtime.ensures
