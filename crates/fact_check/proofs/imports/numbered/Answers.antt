use Rattle.fact_check.proofs.Numbers.{from_behind}
use Rattle.fact_check.proofs.imports.numbered.Goals as goal

pub returns-in-Some : goal.returns-in-Some
returns-in-Some c = from_behind c.args.prefix.now c.args.name.now c.in-Some.text.now c.number.result c.in-Some.ensures c.number.ensures
