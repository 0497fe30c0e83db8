use Rattle.fact_emit.proofs.TakenLocals.{took_none, took_more}
use Rattle.fact_emit.proofs.string_locals.take_string_locals.Goals as goal

pub returns : goal.returns
returns c =
    took_more c.in_ok-source.ensures (took_more c.in_ok-units.ensures (took_more c.in_ok-read.ensures (took_more c.in_ok-region.ensures (took_more c.in_ok-written.ensures (took_more c.in_ok-bytes.ensures
    (took_more c.in_ok-before.ensures (took_more c.in_ok-length.ensures (took_more c.in_ok-first.ensures (took_more c.in_ok-second.ensures took_none)))))))))
