-- Laws of what adapters come to, whatever is answered: how many calls they make, in which order, where they write, and what debug checks change. What
-- becomes of values where answers are honest is said in fact_action_laws.
use Rattle.std.specs.Prelude.{◌≡◌, ◌⊎◌, map, Bool, true, false, ℕ, ◌+◌, ◌*◌, ◌≤◌, List, [], ◌∷◌, ◌++◌, filter, length, Option}
use Rattle.fact_types.specs.declared.outside.Trap.{Trap}
use Rattle.fact_types.specs.declared.outside.Trap.TheVariants.{DebugAssertUpperBitsUnset, DebugAssertStringEncodingFinished, DebugAssertEqualCodeUnits, CannotEnterComponent, DebugAssertPointerAligned}
use Rattle.fact_machine.specs.declared.types.CoreValue.{CoreValue}
use Rattle.fact_machine.specs.declared.types.Event.{Event}
use Rattle.fact_machine.specs.declared.types.TraceEntry.{TraceEntry}
use Rattle.fact_machine.specs.declared.types.TraceEntry.TheVariants.{Called, Stored, GlobalSet}
use Rattle.fact_machine.specs.declared.types.MachineState.{MachineState}
use Rattle.fact_machine.specs.declared.types.Answer.{Answer}
use Rattle.fact_machine.specs.declared.types.Answer.TheVariants.{Returns, Traps, Throws}
use Rattle.fact_machine.specs.declared.types.End.TheVariants.{Returned, Trapped, Thrown, Lacks}
use Rattle.fact_machine.specs.Trace.{Grows}
use Rattle.fact_machine.specs.World.{World, Lack}
use Rattle.fact_types.specs.declared.import.Import.{Import}
use Rattle.fact_types.specs.declared.import.Import.TheVariants as import
use Rattle.fact_wasm.specs.declared.types.ValType.{ValType}
use Rattle.fact_types.specs.declared.outside.CoreDef.{CoreDef}
use Rattle.fact_types.specs.Adapters.{LinkedAdapter}
use Rattle.fact_types.specs.FlatShapes.{AreCounted}
use Rattle.fact_actions.specs.Regions.{landed, params_landing, results_landing, moved_on, sync_moved_on}
use Rattle.fact_actions.specs.Requests.{RequestPart, parts_requests}
use Rattle.fact_actions.specs.Sides.{Transfer, options_of}
use Rattle.fact_actions.specs.Running.{ImportPlaces, Call, Ended, Gave, Halted, Strayed, moved_weight, calls_in, world_in, is_state, run}
use Rattle.fact_actions.specs.TypedAnswers.{result_types, HaveCoreTypes, HasPlaces, HaveTypedAnswers}
use Rattle.fact_actions.specs.Actions.{Action}
use Rattle.fact_actions.specs.Adapters.{AdapterTunables, References, lower_signature_of, def_of_memory, prepare_args, start_args, same_instance, sync, async_start, async_return, async_call}
use Rattle.fact_types.specs.Tuples.{tuple_members}
use Rattle.fact_machine.specs.Exits.{first_world}
use Rattle.fact_actions.specs.Plain.{NamedOutcome, action_outcome, ended_sync, sync_outcome}
use Rattle.fact_actions.specs.Honest.{IsStraight}
use Rattle.fact_actions.specs.Laws.{Follows}
use Rattle.fact_actions.specs.Calls.{HasOwnCallee, is_call_of}
use Rattle.fact_actions.specs.Confined.{IsConfinedFrom, IsConfined, GiveUpLive, HasRoomForValues, HasValidTypes}
use Rattle.fact_actions.specs.Order.{AreOrderedCalls, IsTransfer, HaveTwoMemories, KeepsMemory, LeavesSources}

-- ---- runs

-- each run of a sync adapter, and of the functions of an async one that move parameters and results, from a world on
abbrev pub EachSync : (ImportPlaces → LinkedAdapter → World → Ended (List CoreValue) → Type 0) → Type 0
EachSync P = (p : ImportPlaces) (u : AdapterTunables) (a : LinkedAdapter) (args : List CoreValue) (w : World) → P p a w (ended_sync p u a args w)

abbrev pub EachStart : (ImportPlaces → LinkedAdapter → World → Ended (List CoreValue) → Type 0) → Type 0
EachStart P = (p : ImportPlaces) (u : AdapterTunables) (a : LinkedAdapter) (args : List CoreValue) (w : World) → P p a w (run p (async_start u a args) w)

abbrev pub EachReturn : (ImportPlaces → LinkedAdapter → World → Ended (List CoreValue) → Type 0) → Type 0
EachReturn P = (p : ImportPlaces) (u : AdapterTunables) (a : LinkedAdapter) (args : List CoreValue) (w : World) → P p a w (run p (async_return u a args) w)

-- ---- sync adapters

-- A run makes no more calls than 30 for each unit of weight of what was moved so far, and 30 more.
abbrev pub IsFew : Ended (List CoreValue) → Type 0
IsFew e = length (calls_in e) ≤ 30 * (moved_weight e + 1)

abbrev pub CallsAreFew : Type 0
CallsAreFew = EachSync (λ p a w e. IsFew e)

-- The calls of a run are the outside calls that it put into the log, with or without the barrier.
abbrev pub SyncRunsFollow : Type 0
SyncRunsFollow = EachSync (λ p a w e. Follows p w e)

-- The calls of a run that returns are ordered.
abbrev pub CallsAreOrdered : Type 0
CallsAreOrdered =
    (p : ImportPlaces) (u : AdapterTunables) (a : LinkedAdapter) (args : List CoreValue) (w w' : World) (n : ℕ) (cs : List Call) (vs : List CoreValue)
    → ended_sync p u a args w ≡ Gave n cs vs w' → AreOrderedCalls p u a w.state cs w'.state

-- Calls of which exactly one is of the callee.
pub record IsCalledOnce (a : LinkedAdapter) (calls : List Call) : Type 0 where
  pub before : List Call
  pub callee : Call
  pub behind : List Call
  pub calls_are : calls ≡ before ++ (callee ∷ behind)
  pub callee_is : callee.what ≡ import.CoreDef a.callee
  pub none_before : filter (is_call_of a.callee) before ≡ []
  pub none_behind : filter (is_call_of a.callee) behind ≡ []

-- A run that returns has called the callee once.
abbrev pub CalleeIsCalledOnce : Type 0
CalleeIsCalledOnce =
    (p : ImportPlaces) (u : AdapterTunables) (a : LinkedAdapter) (args : List CoreValue) (w w' : World) (n : ℕ) (cs : List Call) (vs : List CoreValue)
    → HasOwnCallee a → ended_sync p u a args w ≡ Gave n cs vs w' → IsCalledOnce a cs

-- A run that returns has left the memory that values came from.
abbrev pub SourcesAreLeft : Type 0
SourcesAreLeft =
    (p : ImportPlaces) (u : AdapterTunables) (a : LinkedAdapter) (args : List CoreValue) (w w' : World) (n : ℕ) (cs : List Call) (vs : List CoreValue)
    → HaveTwoMemories p (options_of a.lower) (options_of a.lift) → ended_sync p u a args w ≡ Gave n cs vs w' → LeavesSources p a w.state cs w'.state

-- A run from a typed state whose answers are typed does not go astray, and its state stays typed.
abbrev pub EndsTyped : ImportPlaces → (Import → List ValType) → World → Ended (List CoreValue) → Type 0
EndsTyped p types w e = is_state p w.state ≡ true → HaveTypedAnswers p types (calls_in e) → IsStraight e × (is_state p (world_in e).state ≡ true)

abbrev pub StaysTyped : ImportPlaces → LinkedAdapter → World → Ended (List CoreValue) → Type 0
StaysTyped p a w e = (core : CoreDef → List ValType) (start : (callback post_return : Option CoreDef) → List ValType) → HasPlaces p a → HaveCoreTypes core a → EndsTyped p (result_types core start) w e

abbrev pub TypedRunsStay : Type 0
TypedRunsStay = EachSync StaysTyped

-- A run writes into sound live regions of its transfer and into the return area alone, whatever is answered.
abbrev pub WritesAreConfined : Type 0
WritesAreConfined =
    (p : ImportPlaces) (u : AdapterTunables) (a : LinkedAdapter) (args : List CoreValue) (state : MachineState) (answers : List Answer)
    → HasOwnCallee a → HasRoomForValues a → IsConfined p a args state (ended_sync p u a args (first_world state answers))

-- Each call of realloc gives up nothing, or a region that is live then, whatever is answered.
abbrev pub RequestsGiveUpLive : Type 0
RequestsGiveUpLive =
    (p : ImportPlaces) (u : AdapterTunables) (a : LinkedAdapter) (args : List CoreValue) (w : World)
    → HasOwnCallee a → HasRoomForValues a → GiveUpLive a (sync_moved_on a args) (landed (params_landing a)) (calls_in (ended_sync p u a args w))

-- What an adapter comes to does not hang on where a module has its imported functions: calls have names.
abbrev pub OutcomesAreNamed : Type 0
OutcomesAreNamed =
    (p : ImportPlaces) (function : Import → ℕ) (u : AdapterTunables) (a : LinkedAdapter) (args : List CoreValue) (state : MachineState) (answers : List Answer)
    → sync_outcome p u a args state answers ≡ sync_outcome (record p { function = function }) u a args state answers

-- ---- debug checks

-- the trap that tells of a place that is not aligned
abbrev pub is_misplaced : Import → Bool
is_misplaced (import.Trap DebugAssertPointerAligned) = true
is_misplaced i = false

-- no call of a run is of it
abbrev pub NoneMisplaced : Ended (List CoreValue) → Type 0
NoneMisplaced e = filter (λ c. is_misplaced c.what) (calls_in e) ≡ []

-- The lists of fixed length among the types of an adapter have elements, of one type.
pub record HasCountedTypes (a : LinkedAdapter) : Type 0 where
  pub lower_params : AreCounted (tuple_members a.lower.params)
  pub lower_results : AreCounted (tuple_members a.lower.results)
  pub lift_params : AreCounted (tuple_members a.lift.params)
  pub lift_results : AreCounted (tuple_members a.lift.results)

-- With debug checks on no place is ever found that is not aligned, whatever is given and answered.
abbrev pub PlacesAreAligned : Type 0
PlacesAreAligned = EachSync (λ p a w e. HasCountedTypes a → NoneMisplaced e)

abbrev pub StartPlacesAreAligned : Type 0
StartPlacesAreAligned = EachStart (λ p a w e. HasCountedTypes a → NoneMisplaced e)

abbrev pub ReturnPlacesAreAligned : Type 0
ReturnPlacesAreAligned = EachReturn (λ p a w e. HasCountedTypes a → NoneMisplaced e)

-- the traps of debug checks
abbrev pub is_check : Trap → Bool
is_check DebugAssertPointerAligned = true
is_check DebugAssertUpperBitsUnset = true
is_check DebugAssertStringEncodingFinished = true
is_check DebugAssertEqualCodeUnits = true
is_check t = false

abbrev pub HasNotGiven : {A : Type 0} → Ended A → Type 0
HasNotGiven (Gave n cs a w) = ⊥
HasNotGiven (Halted n cs s w) = Unit {0}
HasNotGiven (Strayed n cs w) = Unit {0}

-- no answer was left for a call
abbrev pub HasLacked : {A : Type 0} → Ended A → Type 0
HasLacked (Gave n cs a w) = ⊥
HasLacked (Halted n cs s w) = s ≡ Lack
HasLacked (Strayed n cs w) = ⊥

-- An end is another one cut short: it gives nothing, and what was called, written and set is the first of the other's, and then the
-- trap of a check is called; or no answer was left for that call.
pub record IsCutShort {A : Type 0} (e whole : Ended A) : Type 0 where
  pub check : Trap
  pub is_check : is_check check ≡ true
  pub before : List Call
  pub last : List Call
  pub calls_are : calls_in e ≡ before ++ last
  pub begins : Grows before (calls_in whole)
  pub last_is : ((last ≡ []) × HasLacked e) ⊎ (map (λ c. c.what) last ≡ import.Trap check ∷ [])
  pub done : List TraceEntry
  pub told : List Event
  pub trace_is : (world_in e).trace ≡ done ++ map (λ x. Called x) told
  pub trace_begins : Grows done (world_in whole).trace
  -- nothing but that call is in the trace behind what the other has done
  pub told_is : length told ≡ length last
  pub ends : HasNotGiven e

abbrev pub IsChecked : {A : Type 0} → Ended A → Ended A → Type 0
IsChecked e whole = (e ≡ whole) ⊎ IsCutShort e whole

-- An action of adapters comes with debug checks to what it comes to without them, or is cut short by one that fails.
abbrev pub EachChecked : (AdapterTunables → LinkedAdapter → (args : List CoreValue) → Action (List CoreValue)) → Type 0
EachChecked f =
    (p : ImportPlaces) (u : AdapterTunables) (a : LinkedAdapter) (args : List CoreValue) (w : World)
    → IsChecked (run p (f u a args) w) (run p (f (record u { debug = false }) a args) w)

-- It is so with sync adapters, the barrier aside, and with the functions of async ones.
abbrev pub ChecksOnlyStop : Type 0
ChecksOnlyStop = EachChecked sync × EachChecked async_start × EachChecked async_return

-- ---- types

-- The types of a valid plan meet what these laws ask of them.
abbrev pub ValidTypesServe : Type 0
ValidTypesServe = (a : LinkedAdapter) → HasValidTypes a → HasRoomForValues a × HasCountedTypes a

-- ---- requests

-- What parts ask of realloc by the answers so far begins what more parts ask for by more answers.
abbrev pub RequestsGrow : Type 0
RequestsGrow =
    (tr : Transfer) (parts more_parts : List RequestPart) (answers more_answers : List (List CoreValue))
    → Grows (parts_requests tr parts answers) (parts_requests tr (parts ++ more_parts) (answers ++ more_answers))

-- ---- the functions of async adapters that move parameters and results

abbrev pub StartCallsAreFew : Type 0
StartCallsAreFew = EachStart (λ p a w e. IsFew e)

abbrev pub ReturnCallsAreFew : Type 0
ReturnCallsAreFew = EachReturn (λ p a w e. IsFew e)

abbrev pub TypedStartsStay : Type 0
TypedStartsStay = EachStart StaysTyped

abbrev pub TypedReturnsStay : Type 0
TypedReturnsStay = EachReturn StaysTyped

abbrev pub StartWritesAreConfined : Type 0
StartWritesAreConfined =
    (p : ImportPlaces) (u : AdapterTunables) (a : LinkedAdapter) (args : List CoreValue) (state : MachineState) (answers : List Answer)
    → HasOwnCallee a → HasRoomForValues a → IsConfinedFrom p moved_on (params_landing a) state (run p (async_start u a args) (first_world state answers))

abbrev pub ReturnWritesAreConfined : Type 0
ReturnWritesAreConfined =
    (p : ImportPlaces) (u : AdapterTunables) (a : LinkedAdapter) (args : List CoreValue) (state : MachineState) (answers : List Answer)
    → HasOwnCallee a → HasRoomForValues a → IsConfinedFrom p moved_on (results_landing a args) state (run p (async_return u a args) (first_world state answers))

abbrev pub StartRequestsGiveUpLive : Type 0
StartRequestsGiveUpLive =
    (p : ImportPlaces) (u : AdapterTunables) (a : LinkedAdapter) (args : List CoreValue) (w : World)
    → HasOwnCallee a → HasRoomForValues a → GiveUpLive a moved_on (landed (params_landing a)) (calls_in (run p (async_start u a args) w))

abbrev pub ReturnRequestsGiveUpLive : Type 0
ReturnRequestsGiveUpLive =
    (p : ImportPlaces) (u : AdapterTunables) (a : LinkedAdapter) (args : List CoreValue) (w : World)
    → HasOwnCallee a → HasRoomForValues a → GiveUpLive a moved_on (landed (results_landing a args)) (calls_in (run p (async_return u a args) w))

-- The calls of a run that moves the parameters, and returns.
abbrev pub StartIsTransfer : Type 0
StartIsTransfer =
    (p : ImportPlaces) (u : AdapterTunables) (a : LinkedAdapter) (args : List CoreValue) (w w' : World) (n : ℕ) (cs : List Call) (vs : List CoreValue)
    → run p (async_start u a args) w ≡ Gave n cs vs w' → IsTransfer p u.concurrency a.lift.instance (options_of a.lower) (options_of a.lift) w.state cs w'.state

-- The calls of a run that moves the results, and returns.
abbrev pub ReturnIsTransfer : Type 0
ReturnIsTransfer =
    (p : ImportPlaces) (u : AdapterTunables) (a : LinkedAdapter) (args : List CoreValue) (w w' : World) (n : ℕ) (cs : List Call) (vs : List CoreValue)
    → run p (async_return u a args) w ≡ Gave n cs vs w' → IsTransfer p u.concurrency a.lower.instance (options_of a.lift) (options_of a.lower) w.state cs w'.state

-- What moves the parameters, or the results, has left the memory that they came from.
abbrev pub StartLeavesSource : Type 0
StartLeavesSource =
    (p : ImportPlaces) (u : AdapterTunables) (a : LinkedAdapter) (args : List CoreValue) (w w' : World) (n : ℕ) (cs : List Call) (vs : List CoreValue)
    → HaveTwoMemories p (options_of a.lower) (options_of a.lift) → run p (async_start u a args) w ≡ Gave n cs vs w' → KeepsMemory p (options_of a.lower) w.state cs w'.state

abbrev pub ReturnLeavesSource : Type 0
ReturnLeavesSource =
    (p : ImportPlaces) (u : AdapterTunables) (a : LinkedAdapter) (args : List CoreValue) (w w' : World) (n : ℕ) (cs : List Call) (vs : List CoreValue)
    → HaveTwoMemories p (options_of a.lower) (options_of a.lift) → run p (async_return u a args) w ≡ Gave n cs vs w' → KeepsMemory p (options_of a.lift) w.state cs w'.state

-- ---- adapters that only call

-- whether an entry of a trace is a write to a memory or to a global
abbrev pub is_write : TraceEntry → Bool
is_write (Called e) = false
is_write (Stored memory address size value) = true
is_write (GlobalSet index value) = true

-- An outcome that begins with a call of these arguments, and goes on where that returns.
abbrev pub begins : Import → (args : List CoreValue) → MachineState → List Answer → (List CoreValue → MachineState → List Answer → NamedOutcome) → NamedOutcome
begins i args state [] k = record { end = Lacks; state = state; log = [] }
begins i args state (Traps ∷ more) k = record { end = Trapped; state = state; log = record { what = i; args = args; before = state; answer = Traps } ∷ [] }
begins i args state (Throws ∷ more) k = record { end = Thrown; state = state; log = record { what = i; args = args; before = state; answer = Throws } ∷ [] }
begins i args state (Returns rs after ∷ more) k =
    let o = k rs after more in
    record o { log = record { what = i; args = args; before = state; answer = Returns rs after } ∷ o.log }

-- An adapter within one instance makes the call of a trap, and ends there.
abbrev pub SameInstanceTraps : Type 0
SameInstanceTraps =
    (p : ImportPlaces) (state : MachineState) (answers : List Answer)
    → IsStraight (run p same_instance (first_world state answers))
    → action_outcome p same_instance state answers
    ≡ begins (import.Trap CannotEnterComponent) [] state answers (λ rs after more. record { end = Trapped; state = after; log = [] })

-- On typed answers neither goes astray.
abbrev pub TypedSameInstanceStays : Type 0
TypedSameInstanceStays = (p : ImportPlaces) (w : World) (core : CoreDef → List ValType) (start : (callback post_return : Option CoreDef) → List ValType) → EndsTyped p (result_types core start) w (run p same_instance w)

abbrev pub TypedAsyncCallsStay : Type 0
TypedAsyncCallsStay =
    (p : ImportPlaces) (a : LinkedAdapter) (r : References) (args : List CoreValue) (w : World) (core : CoreDef → List ValType) (start : (callback post_return : Option CoreDef) → List ValType)
    → start a.lift.callback a.lift.post_return ≡ (lower_signature_of a).results → EndsTyped p (result_types core start) w (run p (async_call a r args) w)

-- The function that has an async adapter's name makes its two calls, and returns what the second answers.
abbrev pub entry_outcome : LinkedAdapter → References → (args : List CoreValue) → MachineState → List Answer → NamedOutcome
entry_outcome a r args state answers =
    begins (import.PrepareCall (def_of_memory (options_of a.lift))) (prepare_args a r args) state answers (λ rs after more.
    begins (import.StartCall a.lift.callback a.lift.post_return) (start_args a r) after more (λ results last left. record { end = Returned results; state = last; log = [] }))

abbrev pub AsyncCallsTwice : Type 0
AsyncCallsTwice =
    (p : ImportPlaces) (a : LinkedAdapter) (r : References) (args : List CoreValue) (state : MachineState) (answers : List Answer)
    → IsStraight (run p (async_call a r args) (first_world state answers)) → action_outcome p (async_call a r args) state answers ≡ entry_outcome a r args state answers

-- It writes nothing itself, to no memory and to no global.
abbrev pub AsyncCallsWriteNothing : Type 0
AsyncCallsWriteNothing =
    (p : ImportPlaces) (a : LinkedAdapter) (r : References) (args : List CoreValue) (state : MachineState) (answers : List Answer)
    → filter is_write (world_in (run p (async_call a r args) (first_world state answers))).trace ≡ []
