use Rattle.fact_emit.proofs.RangedCode.{set_ranged}
use Rattle.fact_emit.proofs.RuntimeMoves.{calls_behind}
use Rattle.fact_emit.proofs.context.read_slot.Goals as goal

pub returns : goal.returns
returns c = calls_behind (set_ranged _) c.in_ok-call_runtime.ensures c.in_ok-put.ensures
