use Rattle.std.proofs.Common.{sym}
use Rattle.fact_abi.proofs.BelongLaws.{is_so, none_there}
use Rattle.fact_abi.proofs.belonging.is_nothing.Goals as goal

pub returns-in-None : goal.returns-in-None
returns-in-None c = is_so (none_there c.args.values.now (sym c.in-None.ensures.value))
