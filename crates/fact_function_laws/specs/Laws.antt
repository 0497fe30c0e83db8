-- Laws of the runs of adapters: a function that does its adapter's action behaves (`FunctionsBehave`); what that rules out; and what is known of a run
-- at one number of steps is known at all.
use Rattle.std.specs.Prelude.{◌≡◌, ◌≢◌, ◌⊎◌, ℕ, zero, suc, ◌+◌, ◌*◌, ◌≤◌, List, [], ◌∷◌, ◌++◌, None, filter, length, slice_get}
use Rattle.fact_wasm.specs.declared.module.WasmModule.{WasmModule}
use Rattle.fact_wasm.specs.declared.types.ValType.{ValType}
use Rattle.fact_machine.specs.declared.types.Answer.{Answer}
use Rattle.fact_machine.specs.declared.types.CoreValue.{CoreValue}
use Rattle.fact_machine.specs.declared.types.End.TheVariants.{Going, Lacks}
use Rattle.fact_machine.specs.declared.types.MachineState.{MachineState}
use Rattle.fact_machine.specs.Causes.{answers_of}
use Rattle.fact_machine.specs.Machine.{run_of}
use Rattle.fact_types.specs.declared.import.Import.{Import}
use Rattle.fact_types.specs.Adapters.{LinkedAdapter}
use Rattle.fact_actions.specs.Adapters.{AdapterTunables, References}
use Rattle.fact_actions.specs.Calls.{is_call_of}
use Rattle.fact_actions.specs.Running.{ImportPlaces, Call}
use Rattle.fact_action_laws.specs.Faithful.{IsFaithful, IsInLimits, whole_weight}
use Rattle.fact_action_laws.specs.PassingChecks.{PassChecks}
use Rattle.fact_emit.specs.ImportSection.{NamesImports}
use Rattle.fact_compound.specs.declared.asyncs.AsyncPart.{AsyncPart}
use Rattle.fact_function_laws.specs.AsyncRuns.{HandsOver, IsHonestIn, Transfers}
use Rattle.fact_function_laws.specs.Functions.{IsAdapterFunction, IsEntryFunctionOf, IsPartFunctionOf, IsTrapFunction}
use Rattle.fact_function_laws.specs.Names.{places_in, AreCalls, IsNamedLog}
use Rattle.fact_function_laws.specs.Runs.{Behaves, CallNoTrap, IsHonestSoFar, IsOver, IsTypedFrom, OnlyTraps}

-- A function that does its adapter's action behaves.
abbrev pub FunctionsBehave : Type 0
FunctionsBehave =
    (m : WasmModule) (is : List Import) (u : AdapterTunables) (a : LinkedAdapter) (adapters : List LinkedAdapter) (f : ℕ)
    → IsAdapterFunction m is u a adapters f → Behaves m is u a f

-- A function of an adapter within one instance only traps.
abbrev pub TrapFunctionsTrap : Type 0
TrapFunctionsTrap = (m : WasmModule) (is : List Import) (a : LinkedAdapter) (adapters : List LinkedAdapter) (f : ℕ) → IsTrapFunction m is a adapters f → OnlyTraps m is a f

-- A function that moves the values of one part of an async adapter does so in each run, and the one that has its name hands its call over.
abbrev pub PartFunctionsTransfer : Type 0
PartFunctionsTransfer =
    (x : AsyncPart) (m : WasmModule) (is : List Import) (u : AdapterTunables) (a : LinkedAdapter) (adapters : List LinkedAdapter) (f : ℕ)
    → IsPartFunctionOf x m is u a adapters f → Transfers x m is u a f

abbrev pub EntryFunctionsHandOver : Type 0
EntryFunctionsHandOver =
    (m : WasmModule) (is : List Import) (a : LinkedAdapter) (r : References) (adapters : List LinkedAdapter) (f : ℕ)
    → IsEntryFunctionOf m is a r adapters f → HandsOver m is a r f

-- In a module that names its imports each event of a run is a call of one of them, whatever function runs and whatever is answered.
abbrev pub EventsAreNamed : Type 0
EventsAreNamed =
    (m : WasmModule) (is : List Import) (adapters : List LinkedAdapter) (f : ℕ) (args : List CoreValue) (before : MachineState) (answers : List Answer) (steps : ℕ)
    → NamesImports m is adapters → IsNamedLog m is (run_of m f args before answers steps).log

-- ---- what the promise on runs rules out

-- In a run that carried its values there is no second call of the callee.
abbrev pub NoSecondCall : Type 0
NoSecondCall =
    (p : ImportPlaces) (a : LinkedAdapter) (args : List CoreValue) (first : MachineState) (calls : List Call) (given : List CoreValue) (last : MachineState)
    → IsFaithful p a args first calls given last → slice_get (filter (is_call_of a.callee) calls) 1 ≡ None

-- A run of an adapter's function whose answers are all honest, where the caller may leave and the values exist within limits, and
-- with debug checks on are as these ask.
pub record IsAnsweredInLimits (m : WasmModule) (is : List Import) (u : AdapterTunables) (a : LinkedAdapter) (f : ℕ) (args : List CoreValue) (before : MachineState) (answers : List Answer) : Type 0 where
  pub honest : (steps : ℕ) → IsHonestSoFar m is a args before (run_of m f args before answers steps).log
  pub checks : (steps : ℕ) → PassChecks u a args (honest steps).calls
  pub limits : (steps : ℕ) → IsInLimits (places_in m is) a args before (honest steps).calls

-- After some number of steps the run is over and stays so. However many steps it takes, it makes no more outside calls than its
-- values account for, and none of a trap.
pub record StaysShort (m : WasmModule) (is : List Import) (a : LinkedAdapter) (f : ℕ) (args : List CoreValue) (before : MachineState) (answers : List Answer) : Type 0 where
  pub last : ℕ
  pub over : IsOver (run_of m f args before answers last).end
  pub stays : (steps : ℕ) → last ≤ steps → run_of m f args before answers steps ≡ run_of m f args before answers last
  pub calls : List Call
  pub are_calls : AreCalls m is (run_of m f args before answers last).log calls
  pub no_trap : (steps : ℕ) (so_far : List Call) → AreCalls m is (run_of m f args before answers steps).log so_far → CallNoTrap so_far
  pub few_calls : (steps : ℕ) → length (run_of m f args before answers steps).log ≤ 30 * (whole_weight (places_in m is) a args before calls + 1)

-- A function that behaves calls neither its callee nor anything else for ever.
abbrev pub RunsStayShort : Type 0
RunsStayShort =
    (m : WasmModule) (is : List Import) (u : AdapterTunables) (a : LinkedAdapter) (f : ℕ) (args : List CoreValue) (before : MachineState) (answers : List Answer)
    → Behaves m is u a f → IsAnsweredInLimits m is u a f args before answers → StaysShort m is a f args before answers

-- ---- runs that lack an answer

-- Answers to an adapter's function as `IsAnsweredInLimits` says, the values of which weigh at most so much. Wherever the run lacks one more, there is one
-- of which something holds.
pub record IsFollowed (m : WasmModule) (is : List Import) (u : AdapterTunables) (a : LinkedAdapter) (f : ℕ) (args : List CoreValue) (before : MachineState) (most : ℕ) (answers : List Answer) (More : Answer → Type 0) : Type 0 where
  pub answered : IsAnsweredInLimits m is u a f args before answers
  pub light : (steps : ℕ) (calls : List Call) → AreCalls m is (run_of m f args before answers steps).log calls → whole_weight (places_in m is) a args before calls ≤ most
  pub next : (steps : ℕ) → (run_of m f args before answers steps).end ≡ Lacks → (answer : Answer) × More answer

-- So it is, so many times, with each next answer behind those before.
abbrev pub GoesOnFor : WasmModule → List Import → AdapterTunables → LinkedAdapter → ℕ → List CoreValue → MachineState → (most times : ℕ) → List Answer → Type 0
GoesOnFor m is u a f args before most zero answers = Unit {0}
GoesOnFor m is u a f args before most (suc times) answers = IsFollowed m is u a f args before most answers (λ answer. GoesOnFor m is u a f args before most times (answers ++ answer ∷ []))

-- Where a run could go on so as often as its values account for calls, it is over within the steps that they account for, also where an answer
-- is lacking: with all that it lacks it would return within them.
abbrev pub LackingRunsEndSoon : Type 0
LackingRunsEndSoon =
    (m : WasmModule) (is : List Import) (u : AdapterTunables) (a : LinkedAdapter) (f : ℕ) (args : List CoreValue) (before : MachineState) (most : ℕ) (answers : List Answer)
    → Behaves m is u a f → GoesOnFor m is u a f args before most (2 + 30 * (most + 1)) answers
    → IsOver (run_of m f args before answers (1000 * (most + 1))).end

-- ---- one number of steps for all

-- At this number of steps a run is over, or has taken all its answers.
abbrev pub MakesNoMoreCalls : WasmModule → (f : ℕ) → (args : List CoreValue) → MachineState → List Answer → (last : ℕ) → Type 0
MakesNoMoreCalls m f args before answers last = ((run_of m f args before answers last).end ≢ Going) ⊎ (answers_of (run_of m f args before answers last).log ≡ answers)

-- A run that is typed there is typed at every number of steps.
abbrev pub TypedAtOne : Type 0
TypedAtOne =
    (m : WasmModule) (f : ℕ) (params : List ValType) (args : List CoreValue) (before : MachineState) (answers : List Answer) (last : ℕ)
    → MakesNoMoreCalls m f args before answers last → IsTypedFrom m params args before (run_of m f args before answers last).log
    → (steps : ℕ) → IsTypedFrom m params args before (run_of m f args before answers steps).log

-- Where all answers are honest there, and the values exist within limits, and are as debug checks ask, they are so at every number of steps.
abbrev pub AnsweredAtOne : Type 0
AnsweredAtOne =
    (m : WasmModule) (is : List Import) (u : AdapterTunables) (a : LinkedAdapter) (f : ℕ) (args : List CoreValue) (before : MachineState) (answers : List Answer) (last : ℕ)
    → MakesNoMoreCalls m f args before answers last
    → (h : IsHonestSoFar m is a args before (run_of m f args before answers last).log) → PassChecks u a args h.calls → IsInLimits (places_in m is) a args before h.calls
    → IsAnsweredInLimits m is u a f args before answers

-- So it is with the answers to a function that moves the values of one part of an async adapter.
abbrev pub PartAnsweredAtOne : Type 0
PartAnsweredAtOne =
    (x : AsyncPart) (m : WasmModule) (is : List Import) (a : LinkedAdapter) (f : ℕ) (args : List CoreValue) (before : MachineState) (answers : List Answer) (last : ℕ)
    → MakesNoMoreCalls m f args before answers last → IsHonestIn x m is a args before (run_of m f args before answers last).log
    → (steps : ℕ) → IsHonestIn x m is a args before (run_of m f args before answers steps).log
