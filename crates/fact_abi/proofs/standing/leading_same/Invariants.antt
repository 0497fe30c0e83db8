use Rattle.fact_abi.proofs.LeadingLaws.{Repeats}
use Rattle.fact_abi.proofs.standing.leading_same.Given as goal

abbrev pub invariant-loop-index : goal.invariant-loop-index
invariant-loop-index l = Repeats l.flat l.count l.index l.values
