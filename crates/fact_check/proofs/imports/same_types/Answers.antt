use Rattle.fact_check.proofs.Types.{one_list}
use Rattle.fact_check.proofs.imports.same_types.Goals as goal

pub returns : goal.returns
returns c = one_list c.args.a.now c.args.b.now c.eq.result c.eq.ensures
