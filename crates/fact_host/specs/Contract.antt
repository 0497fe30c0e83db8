-- What a call on the host promises.
use Rattle.std.specs.Prelude.{◌≡◌, ◌≢◌, ◌⊎◌, ℕ, ◌+◌, ◌%◌, ◌≤◌, true, false, nat_eq, All, List, [], ◌∷◌, ◌++◌, length, Option, Some, None, codes, slice_get, if◌then◌else◌}
use Rattle.std.specs.List.{AllZip, list_any}
use Rattle.fact_wasm.specs.declared.module.WasmFunc.{WasmFunc}
use Rattle.fact_wasm.specs.declared.module.WasmModule.{WasmModule}
use Rattle.fact_wasm.specs.declared.module.WasmImport.{WasmImport}
use Rattle.fact_wasm.specs.declared.types.FuncType.{FuncType}
use Rattle.fact_types.specs.declared.import.Import.{Import}
use Rattle.fact_types.specs.declared.signature.Signature.{Signature}
use Rattle.fact_types.specs.Adapters.{LinkedAdapter}
use Rattle.fact_types.specs.FlatShapes.{flat_all}
use Rattle.fact_types.specs.ImportTypes.{post_return_type, realloc_type}
use Rattle.fact_types.specs.Signatures.{sync_lift, sync_lower}
use Rattle.fact_types.specs.Agrees.{AgreesPlaces}
use Rattle.fact_types.specs.PointerPairs.{any_pointer_pair}
use Rattle.fact_types.specs.Tables.{Tables, IsLive}
use Rattle.fact_types.specs.Tuples.{tuple_members, tuple_of}
use Rattle.fact_types.specs.Shapes.{Shape}
use Rattle.fact_machine.specs.declared.types.Answer.TheVariants.{Returns, Traps}
use Rattle.fact_machine.specs.declared.types.CoreValue.{CoreValue}
use Rattle.fact_machine.specs.declared.types.CoreValue.TheVariants.{I32}
use Rattle.fact_machine.specs.declared.types.Event.{Event}
use Rattle.fact_machine.specs.declared.types.End.{End}
use Rattle.fact_machine.specs.declared.types.End.TheVariants.{Returned, Trapped, Thrown, Lacks, Going, Stuck}
use Rattle.fact_machine.specs.declared.types.MachineState.{MachineState}
use Rattle.fact_machine.specs.declared.types.Outcome.{Outcome}
use Rattle.fact_machine.specs.Causes.{answers_of}
use Rattle.fact_machine.specs.Lengths.{lengths_of}
use Rattle.fact_machine.specs.Machine.{memory_import, run_of}
use Rattle.fact_machine.specs.Typed.{IsValue, TypedState, TypedAnswer, type_of_import}
use Rattle.fact_check.specs.Accepted.{IsAdapterModule}
use Rattle.fact_values.specs.declared.value.Value.{Value}
use Rattle.fact_values.specs.IsA.{AreMembers}
use Rattle.fact_values.specs.Places.{extent_on, width_of}
use Rattle.fact_values.specs.Tuples.{lower_param_values, lift_param_values, lift_result_values, sync_lower_results}
use Rattle.fact_actions.specs.Adapters.{last_bits}
use Rattle.fact_actions.specs.Honest.{AreHonestSync}
use Rattle.fact_actions.specs.Running.{ImportPlaces}
use Rattle.fact_action_laws.specs.Trapped.{AreHonestUntilTrap}
use Rattle.fact_host.specs.declared.calling.HostCall.{HostCall}
use Rattle.fact_host.specs.declared.calling.HostSide.{HostSide}
use Rattle.fact_host.specs.declared.calling.HostOutcome.{HostOutcome}
use Rattle.fact_host.specs.declared.callee.HostError.{HostError}
use Rattle.fact_host.specs.declared.callee.HostError.TheVariants.{OutOfMemory, Unsuited, OverLimit, NoResults}
use Rattle.fact_host.specs.Beginning.{BeginsHosting}
use Rattle.fact_host.specs.Describes.{Describes, HasCallShapes, named_calls}
use Rattle.fact_host.specs.Roles.{IsRole, function_imports}
use Rattle.fact_lowering.specs.Room.{fits, room}
use Rattle.fact_lowering.specs.TextForms.{TupleIsByForm}
use Rattle.fact_host.specs.declared.known.Known.{Known}
use Rattle.fact_host.specs.Rules.{AreAnswers, CallShapes, cursor_of, memory_at, side_bytes}

-- ---- what is asked of a call

-- a memory that a side names has its width, and a realloc its type; there is none without a memory
pub record HasSideMeans (m : WasmModule) (h : HostSide) : Type 0 where
  pub memory : (n : ℕ) → h.memory ≡ Some n → (pages : Option ℕ) × (memory_import m.imports n ≡ Some (h.abi.memory64, pages))
  pub realloc : (n : ℕ) → h.realloc ≡ Some n → type_of_import m n ≡ Some (realloc_type h.abi.memory64)
  pub with_memory : h.memory ≡ None → h.realloc ≡ None

-- the places of functions that a call names, one for each name
abbrev pub if_named : Option ℕ → List ℕ
if_named None = []
if_named (Some n) = n ∷ []

abbrev pub function_places : HostCall → List ℕ
function_places c = c.callee ∷ (if_named c.lift.realloc ++ (if_named c.lower.realloc ++ if_named c.post_return))

abbrev pub AreDistinctPlaces : List ℕ → Type 0
AreDistinctPlaces [] = Unit {0}
AreDistinctPlaces (n ∷ ns) = (list_any (nat_eq n) ns ≡ false) × AreDistinctPlaces ns

-- No two places of a kind name the same import.
pub record NamesEachOnce (c : HostCall) : Type 0 where
  pub functions : AreDistinctPlaces (function_places c)
  pub memories : AreDistinctPlaces (if_named c.lift.memory ++ if_named c.lower.memory)
  pub flags : c.lift.flags ≢ c.lower.flags

-- a function type with the parameters and the results of a signature
abbrev pub of_signature : Signature → FuncType
of_signature x = record { params = x.params; results = x.results }

-- The functions that a call names have the types of a sync adapter with these shapes.
pub record HasSyncTypes (m : WasmModule) (c : HostCall) (s : CallShapes) : Type 0 where
  pub body : WasmFunc
  pub defined : slice_get m.funcs c.func ≡ Some body
  pub func : slice_get m.types body.ty ≡ Some (of_signature (sync_lower c.lower.abi.memory64 s.lower_params s.lower_results))
  pub callee : type_of_import m c.callee ≡ Some (of_signature (sync_lift c.lift.abi.memory64 s.lift_params s.lift_results))
  pub post_return : (n : ℕ) → c.post_return ≡ Some n → type_of_import m n ≡ Some (post_return_type (sync_lift c.lift.abi.memory64 s.lift_params s.lift_results).results)

-- An imported function that a call may name: a realloc, a callback, a callee or a post-return.
abbrev pub IsNamedOrigin : List ℕ → Type 0
IsNamedOrigin origin = (origin ≡ codes "realloc") ⊎ ((origin ≡ codes "callback") ⊎ ((origin ≡ codes "callee") ⊎ (origin ≡ codes "post_return")))

pub record IsNameable (m : WasmModule) (n : ℕ) : Type 0 where
  pub import : WasmImport
  pub there : slice_get (function_imports m) n ≡ Some import
  pub origin : IsNamedOrigin import.module

-- Sides have the memory that their values need, and the realloc where values go to them.
pub record HaveNeeds (c : HostCall) (s : CallShapes) : Type 0 where
  pub lower_params : any_pointer_pair s.lower_params ≡ true → c.lower.memory ≢ None
  pub lower_params_behind : flat_all (width_of c.lower.abi) 16 s.lower_params ≡ None → c.lower.memory ≢ None
  pub lower_results : any_pointer_pair s.lower_results ≡ true → (c.lower.memory ≢ None) × (c.lower.realloc ≢ None)
  pub lower_results_behind : flat_all (width_of c.lower.abi) 1 s.lower_results ≡ None → c.lower.memory ≢ None
  pub lift_params : any_pointer_pair s.lift_params ≡ true → (c.lift.memory ≢ None) × (c.lift.realloc ≢ None)
  pub lift_params_behind : flat_all (width_of c.lift.abi) 16 s.lift_params ≡ None → (c.lift.memory ≢ None) × (c.lift.realloc ≢ None)
  pub lift_results : any_pointer_pair s.lift_results ≡ true → c.lift.memory ≢ None
  pub lift_results_behind : flat_all (width_of c.lift.abi) 1 s.lift_results ≡ None → c.lift.memory ≢ None

-- A module and a call that the host can run: an adapter module, whose imports and types are those that the call needs.
pub record IsCallable (m : WasmModule) (t : Tables) (c : HostCall) (s : CallShapes) : Type 0 where
  pub adapter : IsAdapterModule m
  pub named : All (IsNameable m) (function_places c)
  pub shapes : HasCallShapes t c s
  pub lower_means : HasSideMeans m c.lower
  pub lift_means : HasSideMeans m c.lift
  pub needs : HaveNeeds c s
  pub once : NamesEachOnce c
  pub types : HasSyncTypes m c s
  pub params_agree : AgreesPlaces (tuple_members s.lower_params) (tuple_members s.lift_params)
  pub results_agree : AgreesPlaces (tuple_members s.lift_results) (tuple_members s.lower_results)

-- the types that a call names are live
pub record AreTypesLive (t : Tables) (c : HostCall) : Type 0 where
  pub lower_params : All (IsLive t) c.lower.params
  pub lower_results : All (IsLive t) c.lower.results
  pub lift_params : All (IsLive t) c.lift.params
  pub lift_results : All (IsLive t) c.lift.results

-- a callee that was not called yet
pub record IsFresh (last : ℕ) (answered given : Option (List Value)) : Type 0 where
  pub no_error : last ≡ 0
  pub no_answer : answered ≡ None
  pub not_given : given ≡ None

-- ---- why there is no outcome

-- values are of types
abbrev pub AreOfTypes : List Shape → List Value → Type 0
AreOfTypes ts vs = AreMembers (tuple_members ts) vs

-- what the callee answered is not of the types that it gives, or takes too much room
abbrev pub AnsweredUnsuited : CallShapes → Option (List Value) → Type 0
AnsweredUnsuited s None = ⊥
AnsweredUnsuited s (Some vs) = AreOfTypes s.lift_results vs → ⊥

abbrev pub AnsweredTooMuch : CallShapes → Option (List Value) → Type 0
AnsweredTooMuch s None = ⊥
AnsweredTooMuch s (Some vs) = AreOfTypes s.lift_results vs × (fits s.lift_results s.lower_results vs ≡ false)

-- the arguments can be carried
abbrev pub AreSuited : CallShapes → (args : List Value) → Type 0
AreSuited s args = AreOfTypes s.lower_params args × (fits s.lower_params s.lift_params args ≡ true)

-- Why a call ends with an error; want of memory may always be.
abbrev pub IsHostCause : CallShapes → (args : List Value) → (last : ℕ) → (answered : Option (List Value)) → HostError → Type 0
IsHostCause s args last answered OutOfMemory = Unit {0}
IsHostCause s args last answered Unsuited =
    (AreOfTypes s.lower_params args → ⊥) ⊎ (AreSuited s args × ((last ≡ 2) ⊎ ((last ≡ 0) × AnsweredUnsuited s answered)))
IsHostCause s args last answered OverLimit =
    (AreOfTypes s.lower_params args × (fits s.lower_params s.lift_params args ≡ false)) ⊎ (AreSuited s args × ((last ≡ 3) ⊎ ((last ≡ 0) × AnsweredTooMuch s answered)))
IsHostCause s args last answered NoResults = AreSuited s args × (last ≡ 4)

-- ---- how a run begins

-- the flags of all instances are set
abbrev pub ones : MachineState → Type 0
ones state = All (λ v. v ≡ I32 1) state.globals

-- a memory that a side names has one page's bytes
pub record HasFirstMemory (h : HostSide) (state : MachineState) : Type 0 where
  pub bytes : h.memory ≢ None → length (side_bytes h state) ≡ 65536

-- Of all memories but the lower side's, to which arguments are stored: they hold zeros, and those that no side names are empty.
pub record HasFirstOthers (c : HostCall) (state : MachineState) : Type 0 where
  pub zeros : (n : ℕ) → (c.lower.memory ≡ Some n → ⊥) → All (λ b. b ≡ 0) (memory_at state n)
  pub empty : (n : ℕ) → (c.lower.memory ≡ Some n → ⊥) → (c.lift.memory ≡ Some n → ⊥) → memory_at state n ≡ []

-- the return area, where there is one of so many bytes at most, is aligned and in bounds
abbrev pub IsHostAreaSound : HostCall → CallShapes → (args : List CoreValue) → MachineState → Type 0
IsHostAreaSound c s args state =
    elim (flat_all (width_of c.lower.abi) 1 s.lower_results) [
      | Some flats ↦ Unit {0}
      | None ↦ (extent_on c.lower.abi (tuple_of s.lower_results)).size ≤ 16384
          → ((last_bits args % (extent_on c.lower.abi (tuple_of s.lower_results)).align ≡ 0) × (last_bits args + (extent_on c.lower.abi (tuple_of s.lower_results)).size ≤ length (side_bytes c.lower state)))
    ]

-- what the return area takes of the lower side's memory
abbrev pub area_room : HostCall → CallShapes → ℕ
area_room c s = elim (flat_all (width_of c.lower.abi) 1 s.lower_results) [
  | Some flats ↦ 0
  | None ↦ 8 + (extent_on c.lower.abi (tuple_of s.lower_results)).size
]

-- What the host knows then, with these arguments: cursors are behind what was stored, in the lower side's memory alone.
pub record IsFirstKnown (c : HostCall) (s : CallShapes) (values : List Value) (k : Known) : Type 0 where
  pub live : k.live ≡ []
  pub returned : k.returned ≡ false
  pub transfers : k.transfers ≡ 0
  pub others : (n : ℕ) (cursor : ℕ) → slice_get k.cursors n ≡ Some cursor → (c.lower.memory ≡ Some n → ⊥) → cursor ≡ 0
  pub lower : (n : ℕ) → c.lower.memory ≡ Some n → cursor_of k n ≤ room s.lower_params s.lift_params values + area_room c s

-- ---- what came of it

-- the callee's first event: its parameters, and what it answered
abbrev pub IsCallee : HostCall → Event → Type 0
IsCallee c e = e.func ≡ c.callee

abbrev pub first_call : ℕ → List Event → Option Event
first_call n [] = None
first_call n (e ∷ es) = if nat_eq n e.func then Some e else first_call n es

abbrev pub params_reached : HostCall → CallShapes → List Event → Option (List Value)
params_reached c s log = elim (first_call c.callee log) [ None ↦ None | Some e ↦ lift_param_values c.lift.abi (side_bytes c.lift e.before) s.lift_params e.args ]

abbrev pub results_reached : HostCall → CallShapes → (args : List CoreValue) → End → MachineState → Option (List Value)
results_reached c s args (Returned results) state = sync_lower_results c.lower.abi (side_bytes c.lower state) s.lower_results args results
results_reached c s args Trapped state = None
results_reached c s args Thrown state = None
results_reached c s args Lacks state = None
results_reached c s args Going state = None
results_reached c s args Stuck state = None

-- the callee's answer, where it is no trap, lifts to what it answered
abbrev pub AnswerLifts : HostCall → CallShapes → (answered : Option (List Value)) → Event → Type 0
AnswerLifts c s answered e = (results : List CoreValue) (after : MachineState) → IsCallee c e → e.answer ≡ Returns results after
    → lift_result_values false c.lift.abi (side_bytes c.lift after) s.lift_results results ≡ answered

abbrev pub steps_given : ℕ
steps_given = 2000001000

-- An outcome of a call with these arguments, of whose callee the last call answered so and was given so.
pub record IsOutcomeOf (m : WasmModule) (t : Tables) (c : HostCall) (s : CallShapes) (values : List Value) (answered given : Option (List Value)) (o : HostOutcome) : Type 0 where
  pub first : MachineState
  pub args : List CoreValue
  -- The outcome is the run that the answers of its log give.
  pub is_run : o.outcome ≡ run_of m c.func args first (answers_of o.outcome.log) steps_given
  pub lacks_none : o.outcome.end ≢ Lacks
  -- Each call is answered by the host's rules, and by a trap exactly where they say so.
  pub known : Known
  pub known_first : IsFirstKnown c s values known
  pub known_cursors : length known.cursors ≡ length first.memories
  pub ruled : AreAnswers (λ n r. (w : WasmImport) × (slice_get (function_imports m) n ≡ Some w) × IsRole m c n w r) c s answered known o.outcome.log
  -- All that comes from outside is typed.
  pub state_typed : TypedState m first
  pub args_typed : AllZip (λ v ty. IsValue v ty) args (sync_lower c.lower.abi.memory64 s.lower_params s.lower_results).params
  pub answers_typed : All (λ e. TypedAnswer m e.func e.before e.answer) o.outcome.log
  -- So it begins.
  pub flags : ones first
  pub lower_memory : HasFirstMemory c.lower first
  pub lift_memory : HasFirstMemory c.lift first
  pub other_memories : HasFirstOthers c first
  pub area : IsHostAreaSound c s args first
  pub begins : (p : ImportPlaces) (a : LinkedAdapter) (names : ℕ → Import) → Describes m t c p a names → BeginsHosting c a args (lengths_of first) known
  -- Each answer that is no trap is honest, whatever adapter the call is described as.
  pub honest : (p : ImportPlaces) (a : LinkedAdapter) (names : ℕ → Import) → Describes m t c p a names → AreHonestUntilTrap (AreHonestSync p a args) (named_calls names o.outcome.log)
  -- The arguments stand for the values, and the callee's answer for what it answered.
  pub stored : lower_param_values false c.lower.abi (side_bytes c.lower first) s.lower_params args ≡ Some values
  pub answer_lifts : All (AnswerLifts c s answered) o.outcome.log
  -- Texts that the host stored for a compact side stand as Latin-1 exactly where they can.
  pub stored_forms : TupleIsByForm c.lower.abi (side_bytes c.lower first) 16 s.lower_params args
  pub answered_forms : All (λ e. (results : List CoreValue) (after : MachineState) → IsCallee c e → e.answer ≡ Returns results after → TupleIsByForm c.lift.abi (side_bytes c.lift after) 1 s.lift_results results) o.outcome.log
  -- What the callee was given, and what the caller got.
  pub params : o.params ≡ params_reached c s o.outcome.log
  pub results : o.results ≡ results_reached c s args o.outcome.end o.outcome.state
  pub given_is : (given ≡ None) ⊎ (given ≡ o.params)
  -- A callee that was given nothing was not asked.
  pub unasked : o.params ≡ None → answered ≡ None

-- Behind an outcome no error has a cause.
pub record HasNoCause (s : CallShapes) (args : List Value) (last : ℕ) (answered : Option (List Value)) : Type 0 where
  pub suited : AreSuited s args
  pub no_error : last ≡ 0
  pub answer_suited : AnsweredUnsuited s answered → ⊥
  pub answer_fits : AnsweredTooMuch s answered → ⊥

-- ---- what the callee was given, where an error ended the call

-- A run of a call with these arguments came to the callee's first call, whose parameters lift to these values.
pub record HasReached (m : WasmModule) (t : Tables) (c : HostCall) (s : CallShapes) (values params : List Value) : Type 0 where
  pub first : MachineState
  pub args : List CoreValue
  pub outcome : Outcome
  pub is_run : outcome ≡ run_of m c.func args first (answers_of outcome.log) steps_given
  -- The callee's call is the last one, and answered by a trap.
  pub front : List Event
  pub event : Event
  pub log_is : outcome.log ≡ front ++ event ∷ []
  pub is_callee : IsCallee c event
  pub traps : event.answer ≡ Traps
  pub uncalled : first_call c.callee front ≡ None
  pub lifts : lift_param_values c.lift.abi (side_bytes c.lift event.before) s.lift_params event.args ≡ Some params
  -- Those before it are answered by the host's rules, whatever the callee answers, typed and honest.
  pub known : Known
  pub known_first : IsFirstKnown c s values known
  pub known_cursors : length known.cursors ≡ length first.memories
  pub ruled : (answered : Option (List Value)) → AreAnswers (λ n r. (w : WasmImport) × (slice_get (function_imports m) n ≡ Some w) × IsRole m c n w r) c s answered known front
  pub answers_typed : All (λ e. TypedAnswer m e.func e.before e.answer) front
  pub honest : (p : ImportPlaces) (a : LinkedAdapter) (names : ℕ → Import) → Describes m t c p a names → AreHonestSync p a args (named_calls names front)
  -- So it began.
  pub state_typed : TypedState m first
  pub args_typed : AllZip (λ v ty. IsValue v ty) args (sync_lower c.lower.abi.memory64 s.lower_params s.lower_results).params
  pub flags : ones first
  pub lower_memory : HasFirstMemory c.lower first
  pub lift_memory : HasFirstMemory c.lift first
  pub area : IsHostAreaSound c s args first
  pub stored : lower_param_values false c.lower.abi (side_bytes c.lower first) s.lower_params args ≡ Some values
  pub stored_forms : TupleIsByForm c.lower.abi (side_bytes c.lower first) 16 s.lower_params args

-- a callee that keeps what it is given was given nothing, or what such a run came to; want of memory tells nothing
abbrev pub IsReached : WasmModule → Tables → HostCall → CallShapes → (values : List Value) → (given : Option (List Value)) → Type 0
IsReached m t c s values given = (given ≡ None) ⊎ ((params : List Value) × (given ≡ Some params) × HasReached m t c s values params)

abbrev pub IsReachedBy : WasmModule → Tables → HostCall → CallShapes → (values : List Value) → (given : Option (List Value)) → HostError → Type 0
IsReachedBy m t c s values given OutOfMemory = Unit {0}
IsReachedBy m t c s values given Unsuited = IsReached m t c s values given
IsReachedBy m t c s values given OverLimit = IsReached m t c s values given
IsReachedBy m t c s values given NoResults = IsReached m t c s values given
