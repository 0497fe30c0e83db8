use Rattle.fact_call_mode.proofs.FoundLaws.{IsSoughtFrom}
use Rattle.fact_call_mode.proofs.adapters.callable_place.Given as goal

abbrev pub invariant-loop-k : goal.invariant-loop-k
invariant-loop-k l = IsSoughtFrom l.plan l.name l.k
