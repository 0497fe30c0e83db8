use Rattle.std.proofs.Common.{refl}
use Rattle.fact_kinds.proofs.SumFinds.{option_is}
use Rattle.fact_kinds.proofs.sums.option_sum.Goals as goal

pub returns : goal.returns
returns c = option_is c.args.types.now c.args.from c.args.to c.index-source.result.now c.index-target.result.now _ c.index-source.ensures c.index-target.ensures refl refl c.in_ok-cases.ensures
