use Rattle.fact_emit.proofs.Emitting.{wrote_then}
use Rattle.fact_emit.proofs.passes.put_next_room.Goals as goal

pub returns : goal.returns
returns c = λ p d e.
    wrote_then c.in_ok-put.ensures (wrote_then c.in_ok-put-2.ensures (wrote_then c.in_ok-put-3.ensures (wrote_then c.in_ok-to_address.ensures (wrote_then c.in_ok-put_times.ensures
    (wrote_then c.in_ok-put-4.ensures (wrote_then c.in_ok-put-5.ensures (wrote_then c.in_ok-to_address-2.ensures c.in_ok-put-6.ensures)))))))
