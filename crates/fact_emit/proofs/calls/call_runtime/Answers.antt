use Rattle.fact_emit.proofs.RuntimeMoves.{calls_emits}
use Rattle.fact_emit.proofs.calls.call_runtime.Goals as goal

pub returns : goal.returns
returns c = calls_emits c.in_ok-place.ensures c.in_ok-put.ensures
