use Rattle.fact_emit.proofs.BitSums.{added_nothing}
use Rattle.fact_emit.proofs.bits.add_place.Goals as goal

pub returns-in-None : goal.returns-in-None
returns-in-None c = added_nothing c.in-None.is c.requires.each
