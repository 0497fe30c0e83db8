use Rattle.std.proofs.Common.{◌≤◌, ◌+◌, ◌-◌, length, max}
use Rattle.fact_plan_types.specs.Adding.{Pushes}
use Rattle.fact_plan_types.proofs.handles.push_up_to.Given as goal

abbrev pub invariant-loop-builder : goal.invariant-loop-builder
invariant-loop-builder l = record {
  pushes : Pushes l.plan l.fn.builder l.builder;
  more : length l.fn.builder.tables.resource_tables ≤ length l.builder.tables.resource_tables;
  few : length l.builder.tables.resource_tables ≤ max (length l.fn.builder.tables.resource_tables) (l.table + 1);
}

abbrev pub decreases-loop-builder : goal.decreases-loop-builder
decreases-loop-builder l = (l.table + 1) - length l.builder.tables.resource_tables
