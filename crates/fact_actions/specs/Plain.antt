-- Outcomes of adapters, without a word of the code that comes to them.
use Rattle.std.specs.Prelude.{Bool, true, false, List}
use Rattle.fact_types.specs.declared.outside.Trap.TheVariants.{UncaughtException}
use Rattle.fact_machine.specs.declared.types.CoreValue.{CoreValue}
use Rattle.fact_machine.specs.declared.types.MachineState.{MachineState}
use Rattle.fact_machine.specs.declared.types.Answer.{Answer}
use Rattle.fact_machine.specs.declared.types.End.{End}
use Rattle.fact_machine.specs.declared.types.End.TheVariants.{Returned, Trapped, Thrown, Lacks, Stuck}
use Rattle.fact_machine.specs.World.{World, Stop, Trap, Throw, Lack}
use Rattle.fact_machine.specs.Exits.{first_world}
use Rattle.fact_types.specs.Adapters.{LinkedAdapter}
use Rattle.fact_actions.specs.Actions.{Action, trap}
use Rattle.fact_actions.specs.Running.{ImportPlaces, Call, Ended, Gave, Halted, Strayed, heavier, later, run}
use Rattle.fact_actions.specs.Adapters.{AdapterTunables, sync}

-- The barrier: what is thrown becomes a trap.
abbrev pub guarded : {A : Type 0} → ImportPlaces → Ended A → Ended A
guarded p (Gave n cs a w) = Gave n cs a w
guarded p (Halted n cs Throw w) = heavier n (later cs (run p (trap UncaughtException) w))
guarded p (Halted n cs Trap w) = Halted n cs Trap w
guarded p (Halted n cs Lack w) = Halted n cs Lack w
guarded p (Strayed n cs w) = Strayed n cs w

abbrev pub guarded_if : {A : Type 0} → Bool → ImportPlaces → Ended A → Ended A
guarded_if true p e = guarded p e
guarded_if false p e = e

-- An outcome whose log names each call by its import.
pub record NamedOutcome : Type 0 where
  pub end : End
  pub state : MachineState
  pub log : List Call

abbrev pub end_of : Stop → End
end_of Trap = Trapped
end_of Throw = Thrown
end_of Lack = Lacks

-- behind an answer that is not typed nothing is said of a run, and its end stands for that
abbrev pub named_outcome : Ended (List CoreValue) → NamedOutcome
named_outcome (Gave n cs vs w) = record { end = Returned vs; state = w.state; log = cs }
named_outcome (Halted n cs s w) = record { end = end_of s; state = w.state; log = cs }
named_outcome (Strayed n cs w) = record { end = Stuck; state = w.state; log = cs }

-- what an action comes to from a state on, with these answers of the outside
abbrev pub action_outcome : ImportPlaces → Action (List CoreValue) → MachineState → List Answer → NamedOutcome
action_outcome p q state answers = named_outcome (run p q (first_world state answers))

-- A sync adapter between two instances, with everything moved in place.
abbrev pub ended_sync : ImportPlaces → AdapterTunables → LinkedAdapter → (args : List CoreValue) → World → Ended (List CoreValue)
ended_sync p u a args w = guarded_if u.exceptions p (run p (sync u a args) w)

abbrev pub sync_outcome : ImportPlaces → AdapterTunables → LinkedAdapter → (args : List CoreValue) → MachineState → List Answer → NamedOutcome
sync_outcome p u a args state answers = named_outcome (ended_sync p u a args (first_world state answers))

-- Plain inlining: what the adapter comes to without debug checks. That each run comes to this, where none are on, is the clause `plain` of `Behaves`
-- (fact_function_laws), by `sync_outcome`, which has those that are on.
abbrev pub plain : ImportPlaces → AdapterTunables → LinkedAdapter → (args : List CoreValue) → MachineState → List Answer → NamedOutcome
plain p u a args state answers = sync_outcome p (record u { debug = false }) a args state answers
