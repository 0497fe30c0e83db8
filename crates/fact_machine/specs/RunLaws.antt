-- Laws of runs: what ends, numbers of steps and traces are to one another. Each holds whatever instructions are run.
use Rattle.std.specs.Prelude.{◌≡◌, ◌≢◌, ◌⊎◌, ℕ, ◌+◌, ◌≤◌, false, List, [], ◌∷◌, ◌++◌, Option}
use Rattle.fact_wasm.specs.declared.instr.Instr.{Instr}
use Rattle.fact_wasm.specs.declared.module.WasmModule.{WasmModule}
use Rattle.fact_machine.specs.declared.types.CoreValue.{CoreValue}
use Rattle.fact_machine.specs.declared.types.MachineState.{MachineState}
use Rattle.fact_machine.specs.declared.types.Answer.{Answer}
use Rattle.fact_machine.specs.declared.types.End.TheVariants.{Lacks, Going, Stuck}
use Rattle.fact_machine.specs.declared.types.Event.{Event}
use Rattle.fact_machine.specs.declared.types.Outcome.{Outcome}
use Rattle.fact_machine.specs.Causes.{answers_of}
use Rattle.fact_machine.specs.World.{World, calls}
use Rattle.fact_machine.specs.Machine.{Around, Config, At, Goes, next, begin, exec, takes, run_of}
use Rattle.fact_machine.specs.Trace.{outcome_of, reach, world_at, run_reach, trace_of, Grows}

-- ---- outcomes, and what is reached

-- The outcome of some steps is what they reach, with the outside calls of the trace as its log.
abbrev pub ExecIsReached : Type 0
ExecIsReached = (M : WasmModule) (n : ℕ) (c : Config) → exec M n c ≡ outcome_of (reach M n c)

-- So is the outcome of a run.
abbrev pub RunIsReached : Type 0
RunIsReached =
    (M : WasmModule) (f : ℕ) (args : List CoreValue) (state : MachineState) (answers : List Answer) (n : ℕ)
    → run_of M f args state answers n ≡ outcome_of (run_reach M f args state answers n)

-- The log of a run is the outside calls of its trace.
abbrev pub LogIsOfTrace : Type 0
LogIsOfTrace =
    (M : WasmModule) (f : ℕ) (args : List CoreValue) (state : MachineState) (answers : List Answer) (n : ℕ)
    → (run_of M f args state answers n).log ≡ calls (trace_of M f args state answers n)

-- A run of a function that is not there, or on arguments that are not of its type, is stuck at once.
abbrev pub UntypedIsStuck : Type 0
UntypedIsStuck =
    (M : WasmModule) (f : ℕ) (args : List CoreValue) (state : MachineState) (answers : List Answer) (n : ℕ)
    → takes M f args ≡ false → run_of M f args state answers n ≡ record { end = Stuck; state = state; log = [] }

-- ---- ends

-- A run that has ended is at more steps what it was, its state and its trace included.
abbrev pub EndStays : Type 0
EndStays =
    (M : WasmModule) (f : ℕ) (args : List CoreValue) (state : MachineState) (answers : List Answer) (n m : ℕ)
    → (run_of M f args state answers n).end ≢ Going → n ≤ m → run_reach M f args state answers m ≡ run_reach M f args state answers n

-- So has a run that is followed from any configuration on.
abbrev pub ReachedStays : Type 0
ReachedStays = (M : WasmModule) (n m : ℕ) (c : Config) → (reach M n c).end ≢ Going → n ≤ m → reach M m c ≡ reach M n c

-- Two numbers of steps at which a run has ended give one end, with one state and one trace.
abbrev pub OneEnd : Type 0
OneEnd =
    (M : WasmModule) (f : ℕ) (args : List CoreValue) (state : MachineState) (answers : List Answer) (n m : ℕ)
    → (run_of M f args state answers n).end ≢ Going → (run_of M f args state answers m).end ≢ Going
    → run_reach M f args state answers n ≡ run_reach M f args state answers m

-- ---- steps

-- exactly m steps lead from one configuration to another, up to ends of bodies, which are no steps
pub record LeadsTo (M : WasmModule) (m : ℕ) (c c' : Config) : Type 0 where
  pub by : (j : ℕ) → reach M (m + j) c ≡ reach M j c'

-- Configurations between which lie ends of bodies alone are no step apart.
abbrev pub NoStep : Type 0
NoStep = (M : WasmModule) (a b : Config) → next a ≡ next b → LeadsTo M 0 a b

-- What an instruction leads to is one step away.
abbrev pub OneStep : Type 0
OneStep = (M : WasmModule) (a b : Config) → begin M (next a) ≡ Goes b → LeadsTo M 1 a b

-- Steps add up.
abbrev pub StepsAdd : Type 0
StepsAdd = (M : WasmModule) (m n : ℕ) (a b c : Config) → LeadsTo M m a b → LeadsTo M n b c → LeadsTo M (m + n) a c

-- ---- traces

-- The trace after more steps begins with that after fewer.
abbrev pub TraceGrows : Type 0
TraceGrows =
    (M : WasmModule) (f : ℕ) (args : List CoreValue) (state : MachineState) (answers : List Answer) (n m : ℕ)
    → n ≤ m → Grows (trace_of M f args state answers n) (trace_of M f args state answers m)

-- So does the log.
abbrev pub LogGrows : Type 0
LogGrows =
    (M : WasmModule) (f : ℕ) (args : List CoreValue) (state : MachineState) (answers : List Answer) (n m : ℕ)
    → n ≤ m → Grows (run_of M f args state answers n).log (run_of M f args state answers m).log

-- From any configuration on the trace begins with the one there.
abbrev pub TraceKeeps : Type 0
TraceKeeps =
    (M : WasmModule) (n : ℕ) (w : World) (vs : List CoreValue) (ls : List (Option CoreValue)) (code : List Instr) (k : Around)
    → Grows w.trace (world_at M n (At w vs ls code k)).trace

-- ---- answers

-- The answers in the log of a run are the first of those that it was given.
abbrev pub LogTakesAnswers : Type 0
LogTakesAnswers =
    (M : WasmModule) (f : ℕ) (args : List CoreValue) (state : MachineState) (answers : List Answer) (n : ℕ)
    → Grows (answers_of (run_of M f args state answers n).log) answers

-- A run that has taken all of them makes no outside call at more steps.
abbrev pub NoMoreCalls : Type 0
NoMoreCalls =
    (M : WasmModule) (f : ℕ) (args : List CoreValue) (state : MachineState) (answers : List Answer) (n m : ℕ)
    → n ≤ m → answers_of (run_of M f args state answers n).log ≡ answers → (run_of M f args state answers m).log ≡ (run_of M f args state answers n).log

-- Of two outcomes the first lacks an answer where the second has one, and whatever came behind it.
pub record LacksOne (shorter longer : Outcome) : Type 0 where
  pub lacks : shorter.end ≡ Lacks
  pub event : Event
  pub more : List Event
  pub log : longer.log ≡ shorter.log ++ event ∷ more

-- With more answers a run of as many steps is the same, or it lacked one of them.
abbrev pub MoreAnswers : Type 0
MoreAnswers =
    (M : WasmModule) (f : ℕ) (args : List CoreValue) (state : MachineState) (answers more : List Answer) (n : ℕ)
    → (run_of M f args state answers n ≡ run_of M f args state (answers ++ more) n) ⊎ LacksOne (run_of M f args state answers n) (run_of M f args state (answers ++ more) n)

-- On just the answers in its log a run of as many steps is the same, also where it goes on.
abbrev pub RunsOnItsAnswers : Type 0
RunsOnItsAnswers =
    (M : WasmModule) (f : ℕ) (args : List CoreValue) (state : MachineState) (answers : List Answer) (n : ℕ)
    → run_of M f args state (answers_of (run_of M f args state answers n).log) n ≡ run_of M f args state answers n
