use Rattle.fact_plan_types.specs.Reached.{HasTypes}
use Rattle.fact_plan_types.proofs.types.add_types.Given as goal

abbrev pub invariant-loop-k : goal.invariant-loop-k
invariant-loop-k l = HasTypes l.plan l.k l.builder l.types.items
