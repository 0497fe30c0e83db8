use Rattle.std.proofs.Common.{take}
use Rattle.std.specs.List.{AllZip}
use Rattle.fact_plan_types.specs.PlanTypes.{IsFuncOf}
use Rattle.fact_plan_types.specs.Reached.{HasFuncs}
use Rattle.fact_plan_types.proofs.funcs.add_funcs.Given as goal

abbrev pub invariant-loop-k : goal.invariant-loop-k
invariant-loop-k l = record {
  reached : HasFuncs l.plan l.k l.builder l.types;
  added : AllZip (IsFuncOf l.plan l.builder.tables) l.funcs.items (take l.k l.plan.funcs);
}
