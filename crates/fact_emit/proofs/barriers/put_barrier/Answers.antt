use Rattle.fact_emit.proofs.BarrierMoves.{barrier_written}
use Rattle.fact_emit.proofs.barriers.put_barrier.Goals as goal

pub returns : goal.returns
returns c = barrier_written c.in_ok-place.ensures c.in_ok-barrier.ensures c.in_ok-put.ensures
