use Rattle.fact_emit.proofs.NumberMoves.{local_emits}
use Rattle.fact_emit.proofs.numbers.read_local.Goals as goal

pub returns : goal.returns
returns c = local_emits _ _ _ _ c.leaves_upper_half-halved.ensures c.in_ok-check_upper_half.ensures c.in_ok-put.ensures c.in_ok-put_narrowed.ensures
