use Rattle.fact_host.proofs.ValueLists.{AreSoFar}
use Rattle.fact_host.proofs.results.are_values.Given as goal

abbrev pub invariant-loop-place : goal.invariant-loop-place
invariant-loop-place l = AreSoFar l.types l.tys l.values l.place
