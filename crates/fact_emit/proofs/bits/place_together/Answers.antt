use Rattle.fact_emit.proofs.BitSums.{together_at}
use Rattle.fact_emit.proofs.bits.place_together.Goals as goal

pub returns-then-goes_as_far : goal.returns-then-goes_as_far
returns-then-goes_as_far c = together_at c.loop-at.at _ _ _ c.loop-at-test.true (c.goes_as_far.ensures c.if-goes_as_far.true)
