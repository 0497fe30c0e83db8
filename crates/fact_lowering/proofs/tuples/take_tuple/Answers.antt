use Rattle.std.proofs.Common.{◌∙◌, refl, arith}
use Rattle.fact_lowering.proofs.TuplesDone.{taken_or}
use Rattle.fact_lowering.proofs.tuples.take_tuple.Goals as goal

pub returns-then-size-len-clause-taken : goal.returns-then-size-len-clause-taken
returns-then-size-len-clause-taken c = λ ss h. (omega (arith, c.tuple_extent-size.ensures.size ss h, c.if-size-len.true, c.len.ensures), refl)

pub returns-clause-taken : goal.returns-clause-taken
returns-clause-taken c = λ ss h.
    taken_or c.args.to.now.side ss c.args.store.now.cursor c.args.store.now.bytes.items c.take.result _ _ _ (c.tuple_extent-size.ensures.size ss h) (c.from.ensures ∙ c.tuple_extent-size.ensures.align ss h) c.take.ensures.at c.take.ensures.fits c.take.ensures.rises c.take.ensures.no_room c.take.ensures.stays
