-- What is promised of the runs of an adapter's function in the machine: what they do, and what they carry. Answers are a list that is given with a run;
-- where it calls once more than there are, one is lacking. An honest answer returns, that of a trap's function too, behind which the code is
-- `unreachable`: so where an honest run ends in a return or for want of an answer, it called no trap.
use Rattle.std.specs.Prelude.{◌≡◌, ◌≢◌, ◌⊎◌, ℕ, ◌+◌, ◌*◌, ◌≤◌, Bool, true, false, List, [], ◌∷◌, ◌++◌, All, filter, length}
use Rattle.std.specs.List.{AllZip}
use Rattle.fact_wasm.specs.declared.module.WasmModule.{WasmModule}
use Rattle.fact_wasm.specs.declared.types.ValType.{ValType}
use Rattle.fact_machine.specs.declared.types.CoreValue.{CoreValue}
use Rattle.fact_machine.specs.declared.types.CoreValue.TheVariants.{I32}
use Rattle.fact_machine.specs.declared.types.MachineState.{MachineState}
use Rattle.fact_machine.specs.declared.types.Answer.{Answer}
use Rattle.fact_machine.specs.declared.types.Event.{Event}
use Rattle.fact_machine.specs.declared.types.Outcome.{Outcome}
use Rattle.fact_machine.specs.declared.types.End.{End}
use Rattle.fact_machine.specs.declared.types.End.TheVariants.{Returned, Trapped, Lacks, Stuck}
use Rattle.fact_machine.specs.Machine.{run_of}
use Rattle.fact_machine.specs.Trace.{trace_of}
use Rattle.fact_machine.specs.Typed.{IsValue, TypedState, TypedAnswer}
use Rattle.fact_types.specs.declared.import.Import.{Import}
use Rattle.fact_types.specs.declared.import.Import.TheVariants as import
use Rattle.fact_types.specs.Adapters.{LinkedAdapter}
use Rattle.fact_types.specs.declared.outside.Trap.TheVariants.{CannotEnterComponent}
use Rattle.fact_actions.specs.Adapters.{AdapterTunables}
use Rattle.fact_actions.specs.AdapterLaws.{begins, is_write}
use Rattle.fact_actions.specs.Confined.{AreOwnWrites, GiveUpLive, AreRangedSync, HaveHonestTranscoders, room_in}
use Rattle.fact_actions.specs.Honest.{AreHonestSync}
use Rattle.fact_actions.specs.Order.{AreOrderedCalls, flag_in}
use Rattle.fact_actions.specs.Plain.{NamedOutcome, sync_outcome}
use Rattle.fact_actions.specs.Regions.{landed, params_landing, sync_moved_on}
use Rattle.fact_actions.specs.Running.{ImportPlaces, Call}
use Rattle.fact_code_laws.specs.Runs.{IsPlainRun, numbered_outcome}
use Rattle.fact_action_laws.specs.Faithful.{IsFaithful, IsInLimits, IsTransferred, params_given, params_passed, whole_weight}
use Rattle.fact_action_laws.specs.Answerable.{CanBeAnswered}
use Rattle.fact_action_laws.specs.ReadTexts.{AreValuesThere, ReadTexts}
use Rattle.fact_action_laws.specs.Requested.{HaveAskedForAll, HaveAskedSoFar}
use Rattle.fact_action_laws.specs.Trapped.{AreHonestUntilTrap}
use Rattle.fact_action_laws.specs.PassingChecks.{PassChecks}
use Rattle.fact_function_laws.specs.Names.{places_in, AreCalls}

-- ---- typed and honest runs

-- A run of a function of these parameters with this log so far: its first state, its arguments and each answer are typed.
pub record IsTypedFrom (m : WasmModule) (params : List ValType) (args : List CoreValue) (before : MachineState) (log : List Event) : Type 0 where
  pub state : TypedState m before
  pub arguments : AllZip (λ v t. IsValue v t) args params
  pub answers : All (λ e. TypedAnswer m e.func e.before e.answer) log

-- So it is of the function that has an adapter's name.
abbrev pub IsTypedRun : WasmModule → LinkedAdapter → (args : List CoreValue) → MachineState → List Event → Type 0
IsTypedRun m a args before log = IsTypedFrom m a.lower.core_type.params args before log

-- A typed run, of whose calls so far something holds.
pub record HasCallsFrom (m : WasmModule) (is : List Import) (params : List ValType) (Holds : List Call → Type 0) (args : List CoreValue) (before : MachineState) (log : List Event) : Type 0 where
  pub typed : IsTypedFrom m params args before log
  pub calls : List Call
  pub are_calls : AreCalls m is log calls
  pub honest : Holds calls

abbrev pub HasCallsSoFar : WasmModule → List Import → LinkedAdapter → (Holds : List Call → Type 0) → (args : List CoreValue) → MachineState → List Event → Type 0
HasCallsSoFar m is a Holds args before log = HasCallsFrom m is a.lower.core_type.params Holds args before log

-- Each answer is honest besides, and none is a trap or a throw.
abbrev pub IsHonestSoFar : WasmModule → List Import → LinkedAdapter → (args : List CoreValue) → MachineState → List Event → Type 0
IsHonestSoFar m is a args before log = HasCallsSoFar m is a (AreHonestSync (places_in m is) a args) args before log

-- So it is but for the last one, which may be a trap.
abbrev pub IsHonestUntilTrapSoFar : WasmModule → List Import → LinkedAdapter → (args : List CoreValue) → MachineState → List Event → Type 0
IsHonestUntilTrapSoFar m is a args before log = HasCallsSoFar m is a (AreHonestUntilTrap (AreHonestSync (places_in m is) a args)) args before log

-- ---- traps

abbrev pub is_trap_import : Import → Bool
is_trap_import (import.Trap t) = true
is_trap_import _ = false

-- none of these calls is of a trap
abbrev pub CallNoTrap : List Call → Type 0
CallNoTrap calls = filter (λ c. is_trap_import c.what) calls ≡ []

-- ---- ends

-- it returned, or an answer is lacking
abbrev pub IsOver : End → Type 0
IsOver e = ((results : List CoreValue) × (e ≡ Returned results)) ⊎ (e ≡ Lacks)

-- A run that is over, with no more outside calls than its values account for.
pub record EndsSoon (m : WasmModule) (is : List Import) (a : LinkedAdapter) (args : List CoreValue) (before : MachineState) (o : Outcome) : Type 0 where
  pub over : IsOver o.end
  pub calls : List Call
  pub are_calls : AreCalls m is o.log calls
  pub few : length o.log ≤ 30 * (whole_weight (places_in m is) a args before calls + 1)

-- From some number of steps on, a run has this outcome, where the module has its imports at these places, and each event of its log is the call that
-- stands there.
pub record IsNamedRun (m : WasmModule) (is : List Import) (p : ImportPlaces) (f : ℕ) (args : List CoreValue) (before : MachineState) (answers : List Answer) (o : NamedOutcome) : Type 0 where
  pub plain : IsPlainRun m p f args before answers o
  pub are_calls : AreCalls m is (numbered_outcome p o).log o.log

abbrev pub IsNamedPlainRun : WasmModule → List Import → (f : ℕ) → (args : List CoreValue) → MachineState → List Answer → NamedOutcome → Type 0
IsNamedPlainRun m is f args before answers o = IsNamedRun m is (places_in m is) f args before answers o

-- What the calls of a run have asked of realloc: where it returned all that its values call for, and where it stopped or goes on a front of
-- that, if the lower side may leave. `HasAskedIn` of AsyncRuns.antt says it of one transfer, and not that no region that is cut grows.
abbrev pub HasAsked : ImportPlaces → AdapterTunables → LinkedAdapter → (args : List CoreValue) → MachineState → End → List Call → Type 0
HasAsked p u a args first (Returned results) calls = HaveAskedForAll p u a args first calls
HasAsked p u a args first Stuck calls = ⊥
HasAsked p u a args first end calls = flag_in p a.lower.instance first.globals ≢ I32 0 → HaveAskedSoFar p u a args first calls

-- ---- what every run of a sync adapter between two instances does

pub record Behaves (m : WasmModule) (is : List Import) (u : AdapterTunables) (a : LinkedAdapter) (f : ℕ) : Type 0 where
  -- Where all that comes from outside is typed, the run comes to what the adapter's action comes to, call by call.
  pub plain : (args : List CoreValue) (before : MachineState) (answers : List Answer)
      → ((steps : ℕ) → IsTypedRun m a args before (run_of m f args before answers steps).log)
      → IsNamedPlainRun m is f args before answers (sync_outcome (places_in m is) u a args before answers)
  -- So long as it is typed, it is not stuck.
  pub not_stuck : (args : List CoreValue) (before : MachineState) (answers : List Answer) (steps : ℕ)
      → IsTypedRun m a args before (run_of m f args before answers steps).log
      → (run_of m f args before answers steps).end ≢ Stuck
  -- An honest run that returned began with the caller set to be left, called the callee once, and carried arguments and results,
  -- which stand canonically where they arrived.
  pub is_faithful : (args : List CoreValue) (before : MachineState) (answers : List Answer) (steps : ℕ) (results : List CoreValue)
      → (h : IsHonestSoFar m is a args before (run_of m f args before answers steps).log)
      → (run_of m f args before answers steps).end ≡ Returned results
      → IsFaithful (places_in m is) a args before h.calls results (run_of m f args before answers steps).state
  -- It took at most 1,000 steps for each unit of the weight of the values, and 1,000 more.
  pub takes_few_steps : (args : List CoreValue) (before : MachineState) (answers : List Answer) (steps : ℕ) (results : List CoreValue)
      → (h : IsHonestSoFar m is a args before (run_of m f args before answers steps).log)
      → (run_of m f args before answers steps).end ≡ Returned results
      → run_of m f args before answers (1000 * (whole_weight (places_in m is) a args before h.calls + 1)) ≡ run_of m f args before answers steps
  -- The calls of a typed run that returned are ordered.
  pub is_ordered : (args : List CoreValue) (before : MachineState) (answers : List Answer) (steps : ℕ) (results : List CoreValue) (calls : List Call)
      → IsTypedRun m a args before (run_of m f args before answers steps).log
      → AreCalls m is (run_of m f args before answers steps).log calls
      → (run_of m f args before answers steps).end ≡ Returned results
      → AreOrderedCalls (places_in m is) u a before calls (run_of m f args before answers steps).state
  -- After any number of steps an honest run has asked of realloc what its values call for, in order; and so has one whose last call was
  -- answered by a trap, be it one for a region that no memory can give.
  pub requests_are_called_for : (args : List CoreValue) (before : MachineState) (answers : List Answer) (steps : ℕ)
      → (h : IsHonestUntilTrapSoFar m is a args before (run_of m f args before answers steps).log)
      → HasAsked (places_in m is) u a args before (run_of m f args before answers steps).end h.calls
  -- Without debug checks, the callee of such a run was given the arguments, carried to its types, be it the one that was answered by a trap.
  pub callee_is_given : (args : List CoreValue) (before : MachineState) (answers : List Answer) (steps : ℕ)
      → (h : IsHonestUntilTrapSoFar m is a args before (run_of m f args before answers steps).log)
      → u.debug ≡ false → flag_in (places_in m is) a.lower.instance before.globals ≢ I32 0
      → (front : List Call) (callee : Call) (behind : List Call) → h.calls ≡ front ++ (callee ∷ behind) → callee.what ≡ import.CoreDef a.callee
      → IsTransferred a.lower.params a.lift.params (params_given (places_in m is) a args before) (params_passed (places_in m is) a callee) front
  -- Where the values of such a run are there on the side that they come from, each transcoder that it has called is to read a whole text, the last
  -- one too, and has the room that it needs where it widens what is there.
  pub reads_texts : (args : List CoreValue) (before : MachineState) (answers : List Answer) (steps : ℕ)
      → (h : IsHonestUntilTrapSoFar m is a args before (run_of m f args before answers steps).log)
      → flag_in (places_in m is) a.lower.instance before.globals ≢ I32 0
      → AreValuesThere (places_in m is) a args before h.calls
      → ReadTexts (places_in m is) h.calls
  -- Where an honest run returned, or an answer is lacking, it has called no trap.
  pub calls_no_trap : (args : List CoreValue) (before : MachineState) (answers : List Answer) (steps : ℕ)
      → (h : IsHonestSoFar m is a args before (run_of m f args before answers steps).log)
      → IsOver (run_of m f args before answers steps).end
      → CallNoTrap h.calls
  -- Whatever is answered, so long as it is typed, each write is one into a sound live region of the transfer under way, or into the
  -- return area once that is sound.
  pub is_confined : (args : List CoreValue) (before : MachineState) (answers : List Answer) (steps : ℕ) (calls : List Call)
      → IsTypedRun m a args before (run_of m f args before answers steps).log
      → AreCalls m is (run_of m f args before answers steps).log calls
      → AreOwnWrites (places_in m is) (sync_moved_on a args) (landed (params_landing a)) (room_in (places_in m is) (landed (params_landing a)) before) (trace_of m f args before answers steps) calls
  -- Each call of realloc so far was told of an alignment other than 0, and to give up nothing, or a region that was live then and has that
  -- alignment, but where it is post-return.
  pub gives_up_live : (args : List CoreValue) (before : MachineState) (answers : List Answer) (steps : ℕ) (calls : List Call)
      → IsTypedRun m a args before (run_of m f args before answers steps).log
      → AreCalls m is (run_of m f args before answers steps).log calls
      → GiveUpLive a (sync_moved_on a args) (landed (params_landing a)) calls
  -- Where transcoders answer honestly, whatever else is answered, each one that a run has called so far reads whole units within the
  -- memory that values come from, and may write within a sound live region alone.
  pub is_ranged : (args : List CoreValue) (before : MachineState) (answers : List Answer) (steps : ℕ) (calls : List Call)
      → IsTypedRun m a args before (run_of m f args before answers steps).log
      → AreCalls m is (run_of m f args before answers steps).log calls
      → HaveHonestTranscoders (places_in m is) calls
      → AreRangedSync (places_in m is) a args calls
  -- And each of them can be answered honestly, or is to read malformed text, so that a trap is an honest answer.
  pub can_be_answered : (args : List CoreValue) (before : MachineState) (answers : List Answer) (steps : ℕ) (calls : List Call)
      → IsTypedRun m a args before (run_of m f args before answers steps).log
      → AreCalls m is (run_of m f args before answers steps).log calls
      → HaveHonestTranscoders (places_in m is) calls
      → CanBeAnswered (places_in m is) calls
  -- Where all answers are honest, the caller may leave, and the values exist within limits, the run ends, by a return or for want of an answer; with debug checks on,
  -- where besides at each node of the values every i64 in the place of 32 bits has an upper half of 0.
  pub comes_to_end : (args : List CoreValue) (before : MachineState) (answers : List Answer)
      → (h : (steps : ℕ) → IsHonestSoFar m is a args before (run_of m f args before answers steps).log)
      → ((steps : ℕ) → PassChecks u a args (h steps).calls)
      → ((steps : ℕ) → IsInLimits (places_in m is) a args before (h steps).calls)
      → (steps : ℕ) × EndsSoon m is a args before (run_of m f args before answers steps)

-- ---- what every run of an adapter within one instance does

-- One outside call of the trap that says that the instance may not be entered, in the state in which the run began. The end is
-- Trapped where the answer returns or traps, Thrown where it throws, and Lacks where there is none.
abbrev pub same_instance_outcome : MachineState → List Answer → NamedOutcome
same_instance_outcome before answers = begins (import.Trap CannotEnterComponent) [] before answers (λ results after more. record { end = Trapped; state = after; log = [] })

pub record OnlyTraps (m : WasmModule) (is : List Import) (a : LinkedAdapter) (f : ℕ) : Type 0 where
  -- Where all that comes from outside is typed, the run comes to this.
  pub plain : (args : List CoreValue) (before : MachineState) (answers : List Answer)
      → ((steps : ℕ) → IsTypedRun m a args before (run_of m f args before answers steps).log)
      → IsNamedPlainRun m is f args before answers (same_instance_outcome before answers)
  -- So long as it is typed, it is not stuck, and changes nothing itself.
  pub not_stuck : (args : List CoreValue) (before : MachineState) (answers : List Answer) (steps : ℕ)
      → IsTypedRun m a args before (run_of m f args before answers steps).log
      → (run_of m f args before answers steps).end ≢ Stuck
  pub writes_nothing : (args : List CoreValue) (before : MachineState) (answers : List Answer) (steps : ℕ)
      → IsTypedRun m a args before (run_of m f args before answers steps).log
      → filter is_write (trace_of m f args before answers steps) ≡ []
