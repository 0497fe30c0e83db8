use Rattle.fact_emit.proofs.TakenLocals.{took_none, took_more, took_typed}
use Rattle.fact_kinds.proofs.lists.take_list_locals.Goals as goal

pub returns : goal.returns
returns c =
    took_more c.in_ok-pointer.ensures (took_more c.in_ok-number.ensures (took_more c.in_ok-bytes.ensures (took_more c.in_ok-address.ensures (took_more c.in_ok-length.ensures (took_more c.in_ok-left.ensures
    (took_more (took_typed c.address_type.ensures c.in_ok-source.ensures) (took_more (took_typed c.address_type-2.ensures c.in_ok-target.ensures) (took_more c.in_ok-saved0.ensures (took_more c.in_ok-saved1.ensures took_none)))))))))
