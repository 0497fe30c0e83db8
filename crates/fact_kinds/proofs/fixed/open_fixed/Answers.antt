use Rattle.fact_emit.proofs.Emitting.{wrote_then}
use Rattle.fact_kinds.proofs.fixed.open_fixed.Goals as goal

pub returns : goal.returns
returns c = wrote_then c.in_ok-put_offset.ensures (wrote_then c.in_ok-put_offset-2.ensures (wrote_then c.in_ok-put.ensures c.in_ok-put-2.ensures))
