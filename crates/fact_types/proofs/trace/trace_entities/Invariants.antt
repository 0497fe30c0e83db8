use Rattle.fact_types.specs.Traces.{named_index}
use Rattle.fact_types.proofs.TraceLaws.{VisitedTo}
use Rattle.fact_types.proofs.trace.trace_entities.Given as goal

abbrev pub invariant-loop-entity : goal.invariant-loop-entity
invariant-loop-entity g l = goal.F-IsAlwaysCallable g l.func × VisitedTo (goal.F-step g) named_index l.fn.func l.entity-items l.func l.entity-index
