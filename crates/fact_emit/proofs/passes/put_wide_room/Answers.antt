use Rattle.fact_emit.proofs.Emitting.{wrote_then}
use Rattle.fact_emit.proofs.passes.put_wide_room.Goals as goal

pub returns : goal.returns
returns c = λ p d e. wrote_then c.in_ok-put_address.ensures (wrote_then c.in_ok-put_times.ensures (wrote_then c.in_ok-to_address.ensures c.in_ok-put_address-2.ensures))
