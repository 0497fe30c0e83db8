-- What is promised of the runs of the three functions of an async adapter between two instances: two move values when the runtime calls them,
-- and the one that has the adapter's name hands its call to the runtime.
use Rattle.std.specs.Prelude.{◌≡◌, ◌≢◌, ℕ, ◌+◌, ◌*◌, ◌≤◌, Bool, List, [], Option, Some, codes, filter, length, slice_get}
use Rattle.fact_wasm.specs.declared.instr.FuncName.TheVariants as func
use Rattle.fact_wasm.specs.declared.module.WasmImport.{WasmImport}
use Rattle.fact_wasm.specs.declared.module.WasmModule.{WasmModule}
use Rattle.fact_wasm.specs.declared.types.FuncType.{FuncType}
use Rattle.fact_machine.specs.declared.types.Answer.{Answer}
use Rattle.fact_machine.specs.declared.types.CoreValue.{CoreValue}
use Rattle.fact_machine.specs.declared.types.End.{End}
use Rattle.fact_machine.specs.declared.types.End.TheVariants.{Returned, Stuck}
use Rattle.fact_machine.specs.declared.types.Event.{Event}
use Rattle.fact_machine.specs.declared.types.MachineState.{MachineState}
use Rattle.fact_machine.specs.declared.types.Outcome.{Outcome}
use Rattle.fact_machine.specs.Machine.{run_of}
use Rattle.fact_machine.specs.Trace.{trace_of}
use Rattle.fact_types.specs.Adapters.{LinkedAdapter}
use Rattle.fact_types.specs.Shapes.{Shape}
use Rattle.fact_types.specs.declared.import.Import.{Import}
use Rattle.fact_types.specs.declared.import.Import.TheVariants as known
use Rattle.fact_values.specs.declared.value.Value.{Value}
use Rattle.fact_actions.specs.AdapterLaws.{entry_outcome, is_write}
use Rattle.fact_actions.specs.Adapters.{AdapterTunables, References, def_of_memory, params_transfer, results_transfer}
use Rattle.fact_actions.specs.Confined.{AreOwnWrites, AreRangedReturn, AreRangedStart, HaveHonestTranscoders, room_in}
use Rattle.fact_actions.specs.Honest.{AreHonestReturn, AreHonestStart}
use Rattle.fact_actions.specs.Order.{IsTransfer}
use Rattle.fact_actions.specs.Plain.{action_outcome}
use Rattle.fact_actions.specs.Regions.{Landing, IsAreaSound, landed, moved_on, params_landing, results_landing}
use Rattle.fact_actions.specs.Requests.{RequestPart, AreRequests}
use Rattle.fact_actions.specs.Running.{ImportPlaces, Call}
use Rattle.fact_actions.specs.Sides.{Transfer, options_of}
use Rattle.fact_action_laws.specs.Faithful.{ParamsAreThere, params_given, weight_of_values}
use Rattle.fact_action_laws.specs.TransferLaws.{TakenAreThere, HasHandedResults, HasHandedParams, results_taken}
use Rattle.fact_action_laws.specs.Answerable.{CanBeAnswered}
use Rattle.fact_action_laws.specs.Requested.{params_parts, results_parts}
use Rattle.fact_action_laws.specs.PassingChecks.{ParamsPassChecks, ResultsPassChecks}
use Rattle.fact_action_laws.specs.Trapped.{AreHonestUntilTrap, BeginRequestsSoFar}
use Rattle.fact_emit.specs.ImportSection.{IsImportedFunction, a_function, imported_function, is_of}
use Rattle.fact_emit.specs.TaskTypes.{prepare_call_name, prepare_call_type, start_call_type}
use Rattle.fact_compound.specs.AsyncParts.{part_action, part_type}
use Rattle.fact_compound.specs.Entries.{with_task_calls}
use Rattle.fact_compound.specs.declared.asyncs.AsyncPart.{AsyncPart}
use Rattle.fact_compound.specs.declared.asyncs.AsyncPart.TheVariants as part
use Rattle.fact_function_laws.specs.Names.{places_in, AreCalls}
use Rattle.fact_function_laws.specs.Runs.{CallNoTrap, HasCallsFrom, IsNamedRun, IsOver, IsTypedFrom, IsTypedRun}

-- ---- the one transfer of such a function: that of the parameters, or that of the results

abbrev pub part_transfer : AsyncPart → AdapterTunables → LinkedAdapter → Transfer
part_transfer part.Start u a = params_transfer u a
part_transfer part.Return u a = results_transfer u a

abbrev pub part_landing : AsyncPart → LinkedAdapter → (args : List CoreValue) → Landing
part_landing part.Start a args = params_landing a
part_landing part.Return a args = results_landing a args

-- its honest calls
abbrev pub AreHonestIn : AsyncPart → ImportPlaces → LinkedAdapter → (args : List CoreValue) → List Call → Type 0
AreHonestIn part.Start p a args calls = AreHonestStart p a calls
AreHonestIn part.Return p a args calls = AreHonestReturn p a args calls

abbrev pub AreRangedIn : AsyncPart → ImportPlaces → LinkedAdapter → (args : List CoreValue) → List Call → Type 0
AreRangedIn part.Start p a args calls = AreRangedStart p a calls
AreRangedIn part.Return p a args calls = AreRangedReturn p a args calls

-- the values at its source, and what they weigh
abbrev pub part_values : AsyncPart → ImportPlaces → LinkedAdapter → (args : List CoreValue) → MachineState → Option (List Value)
part_values part.Start p a args first = params_given p a args first
part_values part.Return p a args first = results_taken p a args first

abbrev pub source_types : AsyncPart → LinkedAdapter → List Shape
source_types part.Start a = a.lower.params
source_types part.Return a = a.lift.results

abbrev pub part_weight : AsyncPart → ImportPlaces → LinkedAdapter → (args : List CoreValue) → MachineState → ℕ
part_weight x p a args first = weight_of_values (source_types x a) (part_values x p a args first)

-- They are there within limits, and the return area, where there is one, is sound.
abbrev pub AreThereIn : AsyncPart → ImportPlaces → LinkedAdapter → (args : List CoreValue) → MachineState → Type 0
AreThereIn part.Start p a args first = ParamsAreThere p a args first
AreThereIn part.Return p a args first = TakenAreThere p a args first × IsAreaSound p a args first

-- and with debug checks on, what these ask of core values holds of its own
abbrev pub PassesChecksIn : AsyncPart → AdapterTunables → LinkedAdapter → (args : List CoreValue) → Type 0
PassesChecksIn part.Start u a args = ParamsPassChecks u a args
PassesChecksIn part.Return u a args = ResultsPassChecks u a args

-- what they ask of realloc
abbrev pub request_parts : AsyncPart → ImportPlaces → AdapterTunables → LinkedAdapter → (args : List CoreValue) → MachineState → List RequestPart
request_parts part.Start p u a args first = params_parts p u a args first
request_parts part.Return p u a args first = results_parts p u a args args first

-- What was given, or written into the return area, stands for them, carried, and is canonical.
abbrev pub HasMoved : AsyncPart → ImportPlaces → LinkedAdapter → (args : List CoreValue) → (first : MachineState) → List Call → (given : List CoreValue) → (last : MachineState) → Type 0
HasMoved part.Start p a args first calls given last = HasHandedParams p a args first calls given last
HasMoved part.Return p a args first calls given last = HasHandedResults p a args first calls given last

-- Its calls are those of a transfer, while the flags of the instance that values go to are 0, which are then what they were before.
abbrev pub IsClearedTransfer : AsyncPart → ImportPlaces → (concurrency : Bool) → LinkedAdapter → (first : MachineState) → List Call → (last : MachineState) → Type 0
IsClearedTransfer part.Start p concurrency a first calls last = IsTransfer p concurrency a.lift.instance (options_of a.lower) (options_of a.lift) first calls last
IsClearedTransfer part.Return p concurrency a first calls last = IsTransfer p concurrency a.lower.instance (options_of a.lift) (options_of a.lower) first calls last

-- ---- runs of such a function

abbrev pub IsTypedIn : AsyncPart → WasmModule → LinkedAdapter → (args : List CoreValue) → MachineState → List Event → Type 0
IsTypedIn x m a args before log = IsTypedFrom m (part_type x a).params args before log

abbrev pub IsHonestIn : AsyncPart → WasmModule → List Import → LinkedAdapter → (args : List CoreValue) → MachineState → List Event → Type 0
IsHonestIn x m is a args before log = HasCallsFrom m is (part_type x a).params (AreHonestIn x (places_in m is) a args) args before log

-- honest but for the last call, which may be answered by a trap
abbrev pub IsHonestUntilTrapIn : AsyncPart → WasmModule → List Import → LinkedAdapter → (args : List CoreValue) → MachineState → List Event → Type 0
IsHonestUntilTrapIn x m is a args before log = HasCallsFrom m is (part_type x a).params (AreHonestUntilTrap (AreHonestIn x (places_in m is) a args)) args before log

-- What the calls of such a run have asked of the realloc of its destination: where it returned all that its values call for, and where it stopped or
-- goes on a front of that.
abbrev pub HasAskedIn : Transfer → Landing → List RequestPart → End → List Call → Type 0
HasAskedIn tr l xs (Returned results) calls = AreRequests tr l xs calls
HasAskedIn tr l xs Stuck calls = ⊥
HasAskedIn tr l xs end calls = BeginRequestsSoFar tr l xs calls

-- A run that is over, with no more outside calls than values of this weight account for.
pub record IsOverIn (weight : ℕ) (o : Outcome) : Type 0 where
  pub over : IsOver o.end
  pub few : length o.log ≤ 30 * (weight + 1)

-- What every run of the function of that part does.
pub record Transfers (x : AsyncPart) (m : WasmModule) (is : List Import) (u : AdapterTunables) (a : LinkedAdapter) (f : ℕ) : Type 0 where
  -- Where all that comes from outside is typed, the run comes to what its action comes to, call by call. There is no barrier.
  pub plain : (args : List CoreValue) (before : MachineState) (answers : List Answer)
      → ((steps : ℕ) → IsTypedIn x m a args before (run_of m f args before answers steps).log)
      → IsNamedRun m is (places_in m is) f args before answers (action_outcome (places_in m is) (part_action x u a args) before answers)
  -- So long as it is typed, it is not stuck.
  pub not_stuck : (args : List CoreValue) (before : MachineState) (answers : List Answer) (steps : ℕ)
      → IsTypedIn x m a args before (run_of m f args before answers steps).log
      → (run_of m f args before answers steps).end ≢ Stuck
  -- An honest run that returned carried the values, which stand canonically where they arrived.
  pub is_faithful : (args : List CoreValue) (before : MachineState) (answers : List Answer) (steps : ℕ) (results : List CoreValue)
      → (h : IsHonestIn x m is a args before (run_of m f args before answers steps).log)
      → (run_of m f args before answers steps).end ≡ Returned results
      → HasMoved x (places_in m is) a args before h.calls results (run_of m f args before answers steps).state
  -- It took at most 1,000 steps for each unit of the weight of the values, and 1,000 more.
  pub takes_few_steps : (args : List CoreValue) (before : MachineState) (answers : List Answer) (steps : ℕ) (results : List CoreValue)
      → IsHonestIn x m is a args before (run_of m f args before answers steps).log
      → (run_of m f args before answers steps).end ≡ Returned results
      → run_of m f args before answers (1000 * (part_weight x (places_in m is) a args before + 1)) ≡ run_of m f args before answers steps
  -- The calls of a typed run that returned are those of its transfer, with the flags meanwhile as they are to be.
  pub is_transfer : (args : List CoreValue) (before : MachineState) (answers : List Answer) (steps : ℕ) (results : List CoreValue) (calls : List Call)
      → IsTypedIn x m a args before (run_of m f args before answers steps).log
      → AreCalls m is (run_of m f args before answers steps).log calls
      → (run_of m f args before answers steps).end ≡ Returned results
      → IsClearedTransfer x (places_in m is) u.concurrency a before calls (run_of m f args before answers steps).state
  -- After any number of steps an honest run has asked of realloc what its values call for, in order; and so has one whose last call was
  -- answered by a trap.
  pub requests_are_called_for : (args : List CoreValue) (before : MachineState) (answers : List Answer) (steps : ℕ)
      → (h : IsHonestUntilTrapIn x m is a args before (run_of m f args before answers steps).log)
      → HasAskedIn (part_transfer x u a) (part_landing x a args) (request_parts x (places_in m is) u a args before) (run_of m f args before answers steps).end h.calls
  -- Where an honest run returned, or an answer is lacking, it has called no trap.
  pub calls_no_trap : (args : List CoreValue) (before : MachineState) (answers : List Answer) (steps : ℕ)
      → (h : IsHonestIn x m is a args before (run_of m f args before answers steps).log)
      → IsOver (run_of m f args before answers steps).end
      → CallNoTrap h.calls
  -- Whatever is answered, so long as it is typed, each write is one into a sound live region, or into the return area once that is sound.
  pub is_confined : (args : List CoreValue) (before : MachineState) (answers : List Answer) (steps : ℕ) (calls : List Call)
      → IsTypedIn x m a args before (run_of m f args before answers steps).log
      → AreCalls m is (run_of m f args before answers steps).log calls
      → AreOwnWrites (places_in m is) moved_on (landed (part_landing x a args)) (room_in (places_in m is) (landed (part_landing x a args)) before) (trace_of m f args before answers steps) calls
  -- Where transcoders answer honestly, each one that a run has called so far reads whole units within the memory that values come from, and may
  -- write within a sound live region alone.
  pub is_ranged : (args : List CoreValue) (before : MachineState) (answers : List Answer) (steps : ℕ) (calls : List Call)
      → IsTypedIn x m a args before (run_of m f args before answers steps).log
      → AreCalls m is (run_of m f args before answers steps).log calls
      → HaveHonestTranscoders (places_in m is) calls
      → AreRangedIn x (places_in m is) a args calls
  -- And each of them can be answered honestly, or is to read malformed text, so that a trap is an honest answer.
  pub can_be_answered : (args : List CoreValue) (before : MachineState) (answers : List Answer) (steps : ℕ) (calls : List Call)
      → IsTypedIn x m a args before (run_of m f args before answers steps).log
      → AreCalls m is (run_of m f args before answers steps).log calls
      → HaveHonestTranscoders (places_in m is) calls
      → CanBeAnswered (places_in m is) calls
  -- Where all answers are honest and the values exist within limits, the run ends; with debug checks on, where besides at each node of
  -- the values every i64 in the place of 32 bits has an upper half of 0.
  pub comes_to_end : (args : List CoreValue) (before : MachineState) (answers : List Answer)
      → PassesChecksIn x u a args
      → ((steps : ℕ) → IsHonestIn x m is a args before (run_of m f args before answers steps).log)
      → AreThereIn x (places_in m is) a args before
      → (steps : ℕ) × IsOverIn (part_weight x (places_in m is) a args before) (run_of m f args before answers steps)

-- ---- the function that has the adapter's name

-- The imported function of this number is what is said, with these names and this type.
pub record IsCallNamed (m : WasmModule) (is : List Import) (n : ℕ) (what : Import) (origin name : List ℕ) (ty : FuncType) : Type 0 where
  pub is_what : imported_function m is (func.Import n) ≡ Some what
  pub import : WasmImport
  pub there : slice_get (filter (is_of a_function) m.imports) n ≡ Some import
  pub named : IsImportedFunction m.types import origin name ty

-- the imported function of this number is what is said, with this type; its name is that of another adapter where that asked for it before
pub record IsCallTyped (m : WasmModule) (is : List Import) (n : ℕ) (what : Import) (ty : FuncType) : Type 0 where
  pub origin : List ℕ
  pub name : List ℕ
  pub named : IsCallNamed m is n what origin name ty

-- What every run of that function does, which hands these references to the runtime.
pub record HandsOver (m : WasmModule) (is : List Import) (a : LinkedAdapter) (r : References) (f : ℕ) : Type 0 where
  -- the numbers of its two calls: the prepare-call is its own, and the start-call that of its callback, post-return and results
  pub prepare_call : ℕ
  pub start_call : ℕ
  pub prepare_is : IsCallNamed m is prepare_call (known.PrepareCall (def_of_memory (options_of a.lift))) (codes "sync") (prepare_call_name a.name) (prepare_call_type a.lower.core_type.params)
  pub start_is : IsCallTyped m is start_call (known.StartCall a.lift.callback a.lift.post_return) (start_call_type a.lower.core_type.results)
  -- Where all that comes from outside is typed, the run makes these two calls, one after the other, and returns what the second answered; at the
  -- first answer that traps or throws, or is missing, it stops so.
  pub plain : (args : List CoreValue) (before : MachineState) (answers : List Answer)
      → ((steps : ℕ) → IsTypedRun m a args before (run_of m f args before answers steps).log)
      → IsNamedRun m is (with_task_calls a prepare_call start_call (places_in m is)) f args before answers (entry_outcome a r args before answers)
  -- So long as it is typed, it is not stuck, and changes nothing itself.
  pub not_stuck : (args : List CoreValue) (before : MachineState) (answers : List Answer) (steps : ℕ)
      → IsTypedRun m a args before (run_of m f args before answers steps).log
      → (run_of m f args before answers steps).end ≢ Stuck
  pub writes_nothing : (args : List CoreValue) (before : MachineState) (answers : List Answer) (steps : ℕ)
      → IsTypedRun m a args before (run_of m f args before answers steps).log
      → filter is_write (trace_of m f args before answers steps) ≡ []
