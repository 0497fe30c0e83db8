use Rattle.fact_check.proofs.LastOperands.{none_left}
use Rattle.fact_check.proofs.operands.known_end_in.Goals as goal

pub returns-in_default-below : goal.returns-in_default-below
returns-in_default-below c = none_left c.args.types.now c.loop-left.left.now c.args.known.now c.loop-left.below.now c.loop-left.invariant c.in-len1-up.len_at_least c.in_default-below.len_below
