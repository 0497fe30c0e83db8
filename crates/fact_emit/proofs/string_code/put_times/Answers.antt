use Rattle.fact_emit.proofs.Emitting.{wrote_then}
use Rattle.fact_emit.proofs.NumberMoves.{scaled_as}
use Rattle.fact_emit.proofs.string_code.put_times.Goals as goal

pub returns : goal.returns
returns c = wrote_then c.in_ok-put.ensures (wrote_then (scaled_as c.from.ensures c.in_ok-put_scaled.ensures) c.in_ok-put_wrap.ensures)
