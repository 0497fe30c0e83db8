use Rattle.fact_check.proofs.Numbers.{counted}
use Rattle.fact_check.proofs.imports.is_counted.Goals as goal

pub returns-in-Some : goal.returns-in-Some
returns-in-Some c = counted c.args.prefix.now c.args.name.now c.in-Some.number c.args.count c.in-Some.ensures
