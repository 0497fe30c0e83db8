use Rattle.fact_kinds.proofs.SumFinds.{named_found, not_found}
use Rattle.fact_kinds.proofs.sums.find_case.Goals as goal

pub returns-in_default : goal.returns-in_default
returns-in_default c = not_found c.args.name.now c.args.cases.now.entries c.in_default.ensures.index

pub returns : goal.returns
returns c = named_found c.args.name.now c.args.cases.now.entries c.in-Some.ensures.index c.in-Some.ensures.entry
