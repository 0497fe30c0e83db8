use Rattle.std.proofs.Common.{arith}
use Rattle.fact_compound.proofs.TuplesWritten.{last_is}
use Rattle.fact_compound.proofs.tuples.last_of.Goals as goal

pub returns-else-count-eq0 : goal.returns-else-count-eq0
returns-else-count-eq0 c = last_is c.args.locals.now _ _ (omega (arith, c.if-count-eq0.false))
