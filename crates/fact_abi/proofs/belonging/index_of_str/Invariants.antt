use Rattle.fact_abi.proofs.BelongLaws.{IsNotBefore}
use Rattle.fact_abi.proofs.belonging.index_of_str.Given as goal

abbrev pub invariant-loop-place : goal.invariant-loop-place
invariant-loop-place l = IsNotBefore l.name l.names l.place
