use Rattle.std.proofs.Common.{refl}
use Rattle.fact_kinds.proofs.SumFinds.{result_is}
use Rattle.fact_kinds.proofs.sums.result_sum.Goals as goal

pub returns : goal.returns
returns c = result_is c.args.types.now c.args.from c.args.to c.index-source.result.now c.index-target.result.now _ c.index-source.ensures c.index-target.ensures refl refl c.in_ok-cases.ensures
