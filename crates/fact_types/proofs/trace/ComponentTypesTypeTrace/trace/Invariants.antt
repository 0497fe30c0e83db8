use Rattle.fact_types.specs.Traces.{module_indices}
use Rattle.fact_types.proofs.TraceLaws.{VisitedTo}
use Rattle.fact_types.proofs.trace.ComponentTypesTypeTrace.trace.Given as goal

abbrev pub invariant-loop-i : goal.invariant-loop-i
invariant-loop-i g l = goal.F-IsAlwaysCallable g l.func × VisitedTo (goal.F-step g) module_indices l.fn.func l.fn.self.modules l.func l.i
