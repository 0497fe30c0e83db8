-- Cited by private clauses alone.
-- What holds of a host between two calls: the events so far are answered by the rules, and it knows what came of the callee.
use Rattle.std.specs.Prelude.{◌≡◌, ◌≢◌, ◌⊎◌, ◌↔◌, ℕ, Bool, true, false, All, List, [], ◌∷◌, ◌++◌, slice_get, Option, Some, None}
use Rattle.fact_wasm.specs.declared.module.WasmModule.{WasmModule}
use Rattle.fact_types.specs.Agrees.{AgreesPlaces}
use Rattle.fact_types.specs.Tables.{Tables}
use Rattle.fact_types.specs.Tuples.{tuple_members}
use Rattle.fact_machine.specs.declared.types.Answer.{Answer}
use Rattle.fact_machine.specs.declared.types.Answer.TheVariants.{Returns, Traps}
use Rattle.fact_machine.specs.declared.types.CoreValue.{CoreValue}
use Rattle.fact_machine.specs.declared.types.Event.{Event}
use Rattle.fact_machine.specs.declared.types.MachineState.{MachineState}
use Rattle.fact_machine.specs.declared.types.Outcome.{Outcome}
use Rattle.fact_machine.specs.Causes.{answers_of}
use Rattle.fact_machine.specs.Machine.{run_of}
use Rattle.fact_values.specs.declared.value.Value.{Value}
use Rattle.fact_host.specs.declared.calling.HostCall.{HostCall}
use Rattle.fact_host.specs.declared.callee.HostError.{HostError}
use Rattle.fact_host.specs.declared.callee.HostError.TheVariants.{OutOfMemory, Unsuited, OverLimit, NoResults}
use Rattle.fact_host.specs.declared.host.Host.{Host}
use Rattle.fact_host.specs.declared.known.Known.{Known}
use Rattle.fact_host.specs.declared.roles.Role.{Role}
use Rattle.fact_host.specs.declared.roles.Role.TheVariants as role
use Rattle.fact_host.specs.Callees.{MayKeepGiven}
use Rattle.fact_host.specs.Contract.{AreTypesLive, HaveNeeds, AnsweredUnsuited, AnsweredTooMuch, AnswerLifts, IsCallee, IsFresh, first_call, params_reached, steps_given}
use Rattle.fact_host.specs.Describes.{HasCallShapes}
use Rattle.fact_host.specs.Hosts.{AreAnswersUntil, event_by}
use Rattle.fact_host.specs.Roles.{HaveRoles, function_imports}
use Rattle.fact_host.specs.Rules.{CallShapes, CallsBy, params_of, side_bytes}
use Rattle.fact_lowering.specs.TextForms.{TupleIsByForm}

-- the nth imported function has this role
abbrev pub RoleAt : List Role → ℕ → Role → Type 0
RoleAt roles n r = slice_get roles n ≡ Some r

-- the callee's place has its role alone, and nothing else has it
abbrev pub PlacesCallee : HostCall → List Role → Type 0
PlacesCallee c roles = (n : ℕ) → RoleAt roles n role.Callee ↔ (n ≡ c.callee)

-- The types of a call are live and have shapes, the results agree, and each side has what its values need.
pub record IsSoundCall (t : Tables) (c : HostCall) : Type 0 where
  pub shapes : CallShapes
  pub shaped : HasCallShapes t c shapes
  pub live : AreTypesLive t c
  pub agree : (s : CallShapes) → HasCallShapes t c s → AgreesPlaces (tuple_members s.lift_results) (tuple_members s.lower_results)
  pub needs : (s : CallShapes) → HasCallShapes t c s → HaveNeeds c s

-- What holds of a host throughout: its call is sound, and its roles go by it.
pub record IsHosting (t : Tables) (c : HostCall) (roles : List Role) : Type 0 where
  pub sound : IsSoundCall t c
  pub callee : PlacesCallee c roles

-- what is known as a run begins
abbrev pub first_known : (begun : List ℕ) → Known
first_known begun = record { cursors = begun; live = []; returned = false; transfers = 0 }

-- A call on a host: its types and places, the roles of imported functions, and the cursors as its run began.
pub record Hosted : Type 0 where
  pub types : Tables
  pub call : HostCall
  pub roles : List Role
  pub begun : List ℕ

-- What came of the callee so far: the number of its error, what it answered, and what it was given, where it keeps that.
pub record Told : Type 0 where
  pub last : ℕ
  pub answered : Option (List Value)
  pub given : Option (List Value)

-- the events were answered by the rules, where the callee answered so
abbrev pub AreRuled : Hosted → CallShapes → (answered : Option (List Value)) → List Event → Known → Type 0
AreRuled h s answered events k = AreAnswersUntil (RoleAt h.roles) h.call s answered (first_known h.begun) events k

-- The callee was not called: it is as it was, and whatever it will answer, the events are answered by the rules.
pub record IsWaiting (h : Hosted) (s : CallShapes) (t : Told) (events : List Event) (k : Known) (params : Option (List Value)) : Type 0 where
  pub ruled : (answered : Option (List Value)) → AreRuled h s answered events k
  pub fresh : IsFresh t.last t.answered t.given
  pub no_params : params ≡ None
  pub uncalled : first_call h.call.callee events ≡ None

-- what the callee's answer left stands for what it answered, with each text in its form
abbrev pub AnswerStands : HostCall → CallShapes → Option (List Value) → Event → Type 0
AnswerStands c s answered e =
    AnswerLifts c s answered e
    × ((results : List CoreValue) (after : MachineState) → IsCallee c e → e.answer ≡ Returns results after → TupleIsByForm c.lift.abi (side_bytes c.lift after) 1 s.lift_results results)

-- It was called, and if it was asked, it answered what can be carried.
pub record HasAnswered (h : Hosted) (s : CallShapes) (t : Told) (events : List Event) (k : Known) (params : Option (List Value)) : Type 0 where
  pub ruled : AreRuled h s t.answered events k
  pub called : first_call h.call.callee events ≢ None
  pub no_error : t.last ≡ 0
  pub suited : AnsweredUnsuited s t.answered → ⊥
  pub fits : AnsweredTooMuch s t.answered → ⊥
  pub given : (t.given ≡ None) ⊎ (t.given ≡ params)
  pub unasked : params ≡ None → t.answered ≡ None
  pub reached : params ≡ params_reached h.call s events
  pub stands : All (AnswerStands h.call s t.answered) events

-- So it is while the call goes on, the callee called or not.
abbrev pub IsRunning : Hosted → CallShapes → Told → List Event → Known → (params : Option (List Value)) → (returned : Bool) → Type 0
IsRunning h s t events k params false = IsWaiting h s t events k params
IsRunning h s t events k params true = HasAnswered h s t events k params

-- why the callee's call ends the whole call; want of memory tells nothing
abbrev pub IsCalleeCause : CallShapes → Told → HostError → Type 0
IsCalleeCause s t OutOfMemory = Unit {0}
IsCalleeCause s t Unsuited = (t.last ≡ 2) ⊎ ((t.last ≡ 0) × AnsweredUnsuited s t.answered)
IsCalleeCause s t OverLimit = (t.last ≡ 3) ⊎ ((t.last ≡ 0) × AnsweredTooMuch s t.answered)
IsCalleeCause s t NoResults = t.last ≡ 4

-- Among the events is the first call of the callee, which was given what its parameters lift to, and is answered by a trap. Those before it are
-- answered by the rules, whatever the callee answers.
pub record WasGiven (h : Hosted) (s : CallShapes) (given : Option (List Value)) (events : List Event) : Type 0 where
  pub front : List Event
  pub event : Event
  pub behind : List Event
  pub events_are : events ≡ front ++ (event ∷ behind)
  pub known : Known
  pub ruled : (answered : Option (List Value)) → AreRuled h s answered front known
  pub uncalled : first_call h.call.callee front ≡ None
  pub is_callee : event.func ≡ h.call.callee
  pub traps : event.answer ≡ Traps
  pub params : List Value
  pub lifts : params_of h.call s.lift_params event ≡ Some params
  pub given_is : MayKeepGiven given params

-- An error ends the whole call, of which the callee's call is the cause. Want of memory tells nothing.
abbrev pub IsEndedBy : Hosted → CallShapes → Told → List Event → HostError → Type 0
IsEndedBy h s t events OutOfMemory = Unit {0}
IsEndedBy h s t events Unsuited = IsCalleeCause s t Unsuited × WasGiven h s t.given events
IsEndedBy h s t events OverLimit = IsCalleeCause s t OverLimit × WasGiven h s t.given events
IsEndedBy h s t events NoResults = IsCalleeCause s t NoResults × WasGiven h s t.given events

-- So it is between two calls, with the error that ends the whole call, if any.
abbrev pub IsAfter : Hosted → CallShapes → Told → List Event → Known → (params : Option (List Value)) → Option HostError → Type 0
IsAfter h s t events k params None = IsRunning h s t events k params k.returned
IsAfter h s t events k params (Some error) = IsEndedBy h s t events error

abbrev pub IsLawful : Hosted → Told → List Event → Known → (params : Option (List Value)) → Option HostError → Type 0
IsLawful h t events k params error = (s : CallShapes) → HasCallShapes h.types h.call s → IsAfter h s t events k params error

-- ---- what the callee answered

-- what is known as the callee was called
abbrev pub called_known : Known → Known
called_known k = record k { live = []; returned = true }

-- why values of the callee are not taken
abbrev pub IsRefusal : CallShapes → List Value → HostError → Type 0
IsRefusal s values OutOfMemory = Unit {0}
IsRefusal s values Unsuited = AnsweredUnsuited s (Some values)
IsRefusal s values OverLimit = AnsweredTooMuch s (Some values)
IsRefusal s values NoResults = ⊥

-- What is answered where the callee, called when so much was known, answered these values: by the rules, and what it leaves stands for them.
pub record IsAnswerOf (k : Known) (c : HostCall) (s : CallShapes) (values : List Value) (before : MachineState) (answer : Answer) (k' : Known) : Type 0 where
  pub returned : k'.returned ≡ true
  pub ruled : (func : ℕ) (args : List CoreValue) → params_of c s.lift_params (event_by func args before answer) ≢ None → CallsBy k c s (Some values) (event_by func args before answer) k'
  pub stands : (func : ℕ) (args : List CoreValue) → AnswerStands c s (Some values) (event_by func args before answer)

-- They are taken, and are answered so.
pub record IsTakenCall (k : Known) (c : HostCall) (s : CallShapes) (values : List Value) (before : MachineState) (answer : Answer) (k' : Known) : Type 0 where
  pub suited : AnsweredUnsuited s (Some values) → ⊥
  pub fits : AnsweredTooMuch s (Some values) → ⊥
  pub is_answer : IsAnswerOf k c s values before answer k'

-- What came of asking a callee, when so much was known: what it answered is taken, or there is an error that ends the call.
abbrev pub IsAnswered : (k : Known) → HostCall → CallShapes → Told → (params : List Value) → MachineState → Answer → (k' : Known) → Option HostError → Type 0
IsAnswered k c s t params before answer k' None = (values : List Value) × (t.answered ≡ Some values) × (t.last ≡ 0) × MayKeepGiven t.given params × IsTakenCall k c s values before answer k'
IsAnswered k c s t params before answer k' (Some error) = IsCalleeCause s t error × MayKeepGiven t.given params × (answer ≡ Traps)

-- ---- hosts

-- a later time of a host: its call, its callee and where it keeps what it knows are the same
pub record IsSameHost {C : Type 0} (first last : Host C) : Type 0 where
  pub types : last.types.now ≡ first.types.now
  pub call : last.call.now ≡ first.call.now
  pub roles : last.kept.now.roles ≡ first.kept.now.roles
  pub callee : last.callee.ghost_name ≡ first.callee.ghost_name
  pub kept : last.kept.ghost_name ≡ first.kept.ghost_name

-- what a callee tells of itself
abbrev pub told_by : {C : Type 0} → (last : C → ℕ) → (answered given : C → Option (List Value)) → C → Told
told_by last answered given c = record { last = last c; answered = answered c; given = given c }

module _ {C : Type 0} (tells : C → Told) where
  abbrev pub hosted : (begun : List ℕ) → Host C → Hosted
  hosted begun h = record { types = h.types.now; call = h.call.now; roles = h.kept.now.roles; begun = begun }

  -- It goes on: with these events, all of them answered by the rules.
  abbrev pub GoesOn : (begun : List ℕ) → Host C → List Event → Type 0
  GoesOn begun h events =
      (s : CallShapes) → HasCallShapes h.types.now h.call.now s → IsRunning (hosted begun h) s (tells h.callee.now) events h.kept.now.known h.kept.now.params h.kept.now.known.returned

  abbrev pub IsLawfulHost : (begun : List ℕ) → Host C → Type 0
  IsLawfulHost begun h = IsLawful (hosted begun h) (tells h.callee.now) h.kept.now.events h.kept.now.known h.kept.now.params h.kept.now.error

  -- A call was decided by a host, which did not keep it yet.
  abbrev pub GoesOnBy : Event → (first last : Host C) → Type 0
  GoesOnBy e first last =
      (begun : List ℕ) → IsLawfulHost begun first → IsLawful (hosted begun last) (tells last.callee.now) (first.kept.now.events ++ e ∷ []) last.kept.now.known last.kept.now.params last.kept.now.error

  -- Its callee was asked, which was called when so much was known.
  abbrev pub WasAsked : (params : List Value) → (before : MachineState) → Answer → (first last : Host C) → Type 0
  WasAsked params before answer first last =
      (s : CallShapes) (k : Known) → HasCallShapes first.types.now first.call.now s → k.returned ≡ false → first.kept.now.known ≡ called_known k
      → IsAnswered k first.call.now s (tells last.callee.now) params before answer last.kept.now.known last.kept.now.error

  -- What stays of a host, whatever it answers meanwhile: what it is a host of, what stays of its callee, and that what came of it is lawful.
  pub record HostStays (Stays : C → C → Type 0) (first last : Host C) : Type 0 where
    pub same : IsSameHost first last
    pub callee : (begun : C) → Stays begun first.callee.now → Stays begun last.callee.now
    pub lawful : (begun : List ℕ) → IsLawfulHost begun first → IsLawfulHost begun last

-- ---- runs on hosts

-- The roles of the imported functions of a module, and what is known at the end of a run on a host that began with these cursors.
pub record CameOf (m : WasmModule) (t : Tables) (c : HostCall) (s : CallShapes) (begun : List ℕ) (told : Told) (log : List Event) (params : Option (List Value)) : Type 0 where
  pub roles : List Role
  pub have : HaveRoles m c 0 (function_imports m) roles
  pub known : Known
  pub running : IsRunning (record { types = t; call = c; roles = roles; begun = begun }) s told log known params known.returned

-- A run on a host whose call an error ended: what its callee was given.
pub record CameToGive (m : WasmModule) (t : Tables) (c : HostCall) (s : CallShapes) (begun : List ℕ) (args : List CoreValue) (first : MachineState) (given : Option (List Value)) : Type 0 where
  pub roles : List Role
  pub have : HaveRoles m c 0 (function_imports m) roles
  pub outcome : Outcome
  pub is_run : outcome ≡ run_of m c.func args first (answers_of outcome.log) steps_given
  pub was : WasGiven (record { types = t; call = c; roles = roles; begun = begun }) s given outcome.log

abbrev pub HasGivenBy : WasmModule → Tables → HostCall → CallShapes → (begun : List ℕ) → (args : List CoreValue) → (first : MachineState) → (given : Option (List Value)) → HostError → Type 0
HasGivenBy m t c s begun args first given OutOfMemory = Unit {0}
HasGivenBy m t c s begun args first given Unsuited = CameToGive m t c s begun args first given
HasGivenBy m t c s begun args first given OverLimit = CameToGive m t c s begun args first given
HasGivenBy m t c s begun args first given NoResults = CameToGive m t c s begun args first given
