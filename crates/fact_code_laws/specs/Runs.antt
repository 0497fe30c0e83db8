-- Runs of whole functions by what an action comes to.
use Rattle.std.specs.Prelude.{◌≡◌, ℕ, ◌+◌, ◌*◌, ◌≤◌, List, map}
use Rattle.fact_wasm.specs.declared.module.WasmModule.{WasmModule}
use Rattle.fact_machine.specs.declared.types.CoreValue.{CoreValue}
use Rattle.fact_machine.specs.declared.types.MachineState.{MachineState}
use Rattle.fact_machine.specs.declared.types.Answer.{Answer}
use Rattle.fact_machine.specs.declared.types.End.TheVariants.{Returned}
use Rattle.fact_machine.specs.declared.types.Outcome.{Outcome}
use Rattle.fact_machine.specs.World.{World, Stop}
use Rattle.fact_machine.specs.Machine.{run_of}
use Rattle.fact_machine.specs.Trace.{Reached, reached, outcome_of, run_reach, trace_of, Grows}
use Rattle.fact_actions.specs.Laws.{call_event}
use Rattle.fact_actions.specs.Plain.{end_of, NamedOutcome}
use Rattle.fact_actions.specs.Running.{ImportPlaces, Ended, Gave, Halted, Strayed}

-- From some number of steps on, a run is this.
pub record ComesTo (M : WasmModule) (f : ℕ) (args : List CoreValue) (state : MachineState) (answers : List Answer) (steps : ℕ) (r : Reached) : Type 0 where
  pub reaches : (n : ℕ) → steps ≤ n → run_reach M f args state answers n ≡ r
  pub outcome : (n : ℕ) → steps ≤ n → run_of M f args state answers n ≡ outcome_of r
  -- at every number of steps the trace is a front of the last one
  pub front : (n : ℕ) → Grows (trace_of M f args state answers n) r.world.trace

-- A run of a function ends as an action does: where that gives a value, with the results that are made of it, within a bound;
-- where it stops, so; and where it goes astray, the run reaches that world.
pub record RunReturns {A : Type 0} (M : WasmModule) (f : ℕ) (args : List CoreValue) (state : MachineState) (answers : List Answer) (extra spare : ℕ) (results : A → List CoreValue) (weight : ℕ) (a : A) (w : World) : Type 0 where
  pub steps : ℕ
  pub bound : steps + spare ≤ extra + 900 * weight
  pub comes : ComesTo M f args state answers steps (reached (Returned (results a)) w)

pub record RunStops (M : WasmModule) (f : ℕ) (args : List CoreValue) (state : MachineState) (answers : List Answer) (s : Stop) (w : World) : Type 0 where
  pub steps : ℕ
  pub comes : ComesTo M f args state answers steps (reached (end_of s) w)

pub record RunPasses (M : WasmModule) (f : ℕ) (args : List CoreValue) (state : MachineState) (answers : List Answer) (w : World) : Type 0 where
  pub steps : ℕ
  pub reaches : (run_reach M f args state answers steps).world ≡ w
  -- with more steps its trace is a front
  pub front : (n : ℕ) → steps ≤ n → Grows w.trace (trace_of M f args state answers n)

abbrev pub RunsAs : {A : Type 0} → WasmModule → ℕ → List CoreValue → MachineState → List Answer → (extra spare : ℕ) → (A → List CoreValue) → Ended A → Type 0
RunsAs M f args state answers extra spare results (Gave weight calls a w) = RunReturns M f args state answers extra spare results weight a w
RunsAs M f args state answers extra spare results (Halted weight calls s w) = RunStops M f args state answers s w
RunsAs M f args state answers extra spare results (Strayed weight calls w) = RunPasses M f args state answers w

-- ---- outcomes by the calls' imports

-- an outcome whose calls are named, as one of a module whose imported functions are at these places
abbrev pub numbered_outcome : ImportPlaces → NamedOutcome → Outcome
numbered_outcome p o = record { end = o.end; state = o.state; log = map (call_event p) o.log }

-- From some number of steps on, the outcome of a run is this one, which names calls by their imports and says nothing of code.
pub record IsPlainRun (M : WasmModule) (p : ImportPlaces) (f : ℕ) (args : List CoreValue) (state : MachineState) (answers : List Answer) (o : NamedOutcome) : Type 0 where
  pub steps : ℕ
  pub is : (n : ℕ) → steps ≤ n → run_of M f args state answers n ≡ numbered_outcome p o
