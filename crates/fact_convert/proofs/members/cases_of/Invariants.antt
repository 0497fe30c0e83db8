use Rattle.fact_convert.proofs.Listing.{CasesTo}
use Rattle.fact_convert.proofs.members.cases_of.Given as goal

abbrev pub invariant-loop-name : goal.invariant-loop-name
invariant-loop-name l = CasesTo l.cases l.types l.name-index l.rest l.variant_cases.entries
