use Rattle.std.proofs.Common.{◌-◌}
use Rattle.fact_interpreter.specs.Running.{world_of}
use Rattle.fact_machine.specs.World.{log_of}
use Rattle.fact_interpreter.proofs.Asked.{HasAsked}
use Rattle.fact_interpreter.proofs.run.go_on_asking.Given as goal

abbrev pub invariant-loop : goal.invariant-loop
invariant-loop g l = record {
  lawful : g.O.Outside.lawful l.outside;
  stays : (first : g.row.O.Denot) → g.O.Outside.stays first l.fn.outside → g.O.Outside.stays first l.outside;
  asked : HasAsked l.«module» l.steps (l.steps - l.counter) (g.O.Outside.events l.fn.outside) (g.O.Outside.events l.outside) (log_of (world_of l.fn.run)) l.fn.run l.run;
}
