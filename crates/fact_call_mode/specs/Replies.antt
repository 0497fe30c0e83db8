-- What a call comes to, by its input; and what the functions between an input and the call on a host say, those too on which the mode of chains stands.
use Rattle.std.specs.Prelude.{◌≡◌, ◌≢◌, ℕ, Bool, true, false, ◌&&◌, ◌||◌, if◌then◌else◌, not, nat_eq, List, Option, Some, None, Result, Ok, Err, slice_get, string_bytes}
use Rattle.std.specs.Option.{option_map_or}
use Rattle.serde_json.specs.Data.{Data}
use Rattle.serde_json.specs.View.{view}
use Rattle.serde_json.specs.declared.value.Value.{Value as json_value}
use Rattle.fact_wasm.specs.declared.instr.FuncName.TheVariants.{Defined}
use Rattle.fact_types.specs.Adapters.{LinkedAdapter}
use Rattle.fact_types.specs.Tables.{Tables}
use Rattle.fact_plan.specs.declared.fault.PlanFault.{PlanFault}
use Rattle.fact_plan.specs.declared.fault.PlanFault.TheVariants as fault
use Rattle.fact_plan.specs.declared.plan.FusePlan.{FusePlan}
use Rattle.fact_plan.specs.declared.plan.PlanAdapter.{PlanAdapter}
use Rattle.fact_plan.specs.declared.plan.PlanSide.{PlanSide}
use Rattle.fact_plan.specs.Fault.{IsNotMemory}
use Rattle.fact_plan.specs.Inputs.{HasInput, HoldsFaultyInput, HoldsNoJson}
use Rattle.fact_plan_types.specs.declared.error.FuseError.{FuseError}
use Rattle.fact_plan_types.specs.declared.error.FuseError.TheVariants as error
use Rattle.fact_plan_types.specs.declared.error.Place.{Place}
use Rattle.fact_plan_types.specs.declared.plan_types.PlanTypes.{PlanTypes}
use Rattle.fact_plan_types.specs.Faults.{Fault}
use Rattle.fact_plan_types.specs.PlanTypes.{AreTypesOf, told}
use Rattle.fact_check.specs.Accepted.{IsAccepted}
use Rattle.fact_adapter_rules.specs.declared.adapter.Adapter.{Adapter}
use Rattle.fact_adapter_rules.specs.Adapters.{adapter_of, adapters_of}
use Rattle.fact_adapter_rules.specs.FirstFault.{IsFaultlessPlan, IsFirstAt}
use Rattle.fact_adapter_rules.specs.PlanLinks.{LinksAdapter}
use Rattle.fact_values.specs.declared.value.Value.{Value}
use Rattle.fact_host.specs.declared.calling.HostCall.{HostCall}
use Rattle.fact_host.specs.declared.calling.HostOutcome.{HostOutcome}
use Rattle.fact_host.specs.Contract.{AreOfTypes, AreSuited, HasNoCause, IsCallable, IsOutcomeOf}
use Rattle.fact_host.specs.Describes.{HasCallShapes}
use Rattle.fact_host.specs.Rules.{CallShapes}
use Rattle.fact_lowering.specs.Room.{fits}
use Rattle.fact_emit.specs.ImportSection.{Sort, a_function, a_memory, a_global}
use Rattle.fact_actions.specs.Adapters.{AdapterTunables}
use Rattle.fact_assembly.specs.Exports.{exported_as}
use Rattle.fact_assembly.specs.Faithful.{adapter_tunables}
use Rattle.fact_module.specs.declared.fusion.Fused.{Fused}
use Rattle.fact_module.specs.Fused.{IsFused, features_of, tunables_of}
use Rattle.fact_call_laws.specs.Carrying.{CallsAdapter, IsPromised}
use Rattle.fact_call_mode.specs.declared.input.Input.{Input}
use Rattle.fact_call_mode.specs.declared.places.Kind.{Kind}
use Rattle.fact_call_mode.specs.declared.places.Kind.TheVariants as kind
use Rattle.fact_call_mode.specs.declared.reply.CallReply.{CallReply}
use Rattle.fact_call_mode.specs.declared.reply.CallReply.TheVariants as reply
use Rattle.fact_call_mode.specs.declared.values.Values.{Values}
use Rattle.fact_call_mode.specs.Calls.{AreBadCallValues, AreFitting, AreOver, HasBadValue, HaveFault, IsNotCallable, IsOverLimit, TellsCall, TellsCallInput, args_of, callable_named, results_of, without_debug}
use Rattle.fact_call_mode.specs.Inputs.{CallInput, call_input}

-- ---- what a call comes to

-- The error tells the first fault of a plan.
pub record TellsRefused (p : FusePlan) (e : FuseError) : Type 0 where
  pub fault : Fault
  pub place : Place
  pub is_told : told e ≡ Some (fault, place)
  pub is_first : IsFirstAt p fault place

-- what bytes, no more than an input may have, come to, by how the input of a mode is read and what it comes to
abbrev pub IsReplyToBytes : {I : Type 0} → (Data → Result I PlanFault) → (I → CallReply → Type 0) → (bytes : List ℕ) → CallReply → Type 0
IsReplyToBytes read comes bytes reply.NotJson = HoldsNoJson bytes
IsReplyToBytes read comes bytes (reply.BadPlan f) = IsNotMemory f × HoldsFaultyInput read bytes f
IsReplyToBytes read comes bytes reply.OutOfMemory = Unit {0}
IsReplyToBytes read comes bytes r = HasInput read bytes (λ i. comes i r)

-- what a JSON value comes to: a fault of it, or what the input in it comes to
abbrev pub IsReplyToData : {I : Type 0} → (Data → Result I PlanFault) → (I → CallReply → Type 0) → Data → CallReply → Type 0
IsReplyToData {I = I} read comes d reply.NotJson = ⊥
IsReplyToData {I = I} read comes d (reply.BadPlan f) = IsNotMemory f × (read d ≡ Err f)
IsReplyToData {I = I} read comes d reply.OutOfMemory = Unit {0}
IsReplyToData {I = I} read comes d r = (i : I) × (read d ≡ Ok i) × comes i r

-- what an input comes to
abbrev pub IsReplyToInput : (fuel : ℕ) → (name : List ℕ) → CallInput → CallReply → Type 0
IsReplyToInput fuel name i reply.NotJson = ⊥
IsReplyToInput fuel name i (reply.BadPlan f) = ⊥
IsReplyToInput fuel name i (reply.Refused e) = TellsRefused i.plan e
IsReplyToInput fuel name i reply.NotCallable = IsNotCallable name i
IsReplyToInput fuel name i (reply.BadValue f) = IsNotMemory f × HasBadValue name i f
IsReplyToInput fuel name i reply.OverLimit = IsOverLimit name i
IsReplyToInput fuel name i (reply.Page text) = TellsCallInput fuel name i (string_bytes text)
IsReplyToInput fuel name i reply.OutOfMemory = Unit {0}

-- what bytes come to, and a JSON value
abbrev pub IsReplyToCall : (fuel : ℕ) → (name bytes : List ℕ) → CallReply → Type 0
IsReplyToCall fuel name bytes r = IsReplyToBytes call_input (IsReplyToInput fuel name) bytes r

abbrev pub IsReplyToJson : (fuel : ℕ) → (name : List ℕ) → Data → CallReply → Type 0
IsReplyToJson fuel name d r = IsReplyToData call_input (IsReplyToInput fuel name) d r

-- The text tells the call of an adapter with the values of the input.
pub record TellsAdapter (fuel : ℕ) (a : LinkedAdapter) (i : CallInput) (text : List ℕ) : Type 0 where
  pub args : List Value
  pub results : List Value
  pub fitting : AreFitting a i args results
  pub tells : TellsCall fuel i.plan a args results text

-- what an input comes to one of whose adapters is called
abbrev pub IsReplyToAdapter : (fuel : ℕ) → LinkedAdapter → CallInput → CallReply → Type 0
IsReplyToAdapter fuel a i reply.NotJson = ⊥
IsReplyToAdapter fuel a i (reply.BadPlan f) = ⊥
IsReplyToAdapter fuel a i (reply.Refused e) = ⊥
IsReplyToAdapter fuel a i reply.NotCallable = ⊥
IsReplyToAdapter fuel a i (reply.BadValue f) = IsNotMemory f × AreBadCallValues a i f
IsReplyToAdapter fuel a i reply.OverLimit = AreOver a i
IsReplyToAdapter fuel a i (reply.Page text) = TellsAdapter fuel a i (string_bytes text)
IsReplyToAdapter fuel a i reply.OutOfMemory = Unit {0}

-- what arguments and results come to with which nothing is called: their first fault, or that they do not fit
abbrev pub IsReplyToRead : (read_args read_results : Result (List Value) PlanFault) → (over : Type 0) → CallReply → Type 0
IsReplyToRead read_args read_results over (reply.BadValue f) = IsNotMemory f × HaveFault read_args read_results f
IsReplyToRead read_args read_results over reply.OverLimit = over
IsReplyToRead read_args read_results over reply.OutOfMemory = Unit {0}
IsReplyToRead read_args read_results over _ = ⊥

abbrev pub IsReplyToValues : LinkedAdapter → CallInput → CallReply → Type 0
IsReplyToValues a i r = IsReplyToRead (args_of a i) (results_of a i) (AreOver a i) r

-- ---- faults and refusals as replies

abbrev pub IsBadPlan : PlanFault → CallReply → Type 0
IsBadPlan f (reply.BadPlan g) = (f ≢ fault.OutOfMemory) × (g ≡ f)
IsBadPlan f reply.OutOfMemory = Unit {0}
IsBadPlan f _ = ⊥

abbrev pub IsBadValue : PlanFault → CallReply → Type 0
IsBadValue f (reply.BadValue g) = (f ≢ fault.OutOfMemory) × (g ≡ f)
IsBadValue f reply.OutOfMemory = Unit {0}
IsBadValue f _ = ⊥

abbrev pub IsRefused : FuseError → CallReply → Type 0
IsRefused e (reply.Refused g) = (e ≢ error.OutOfMemory) × (g ≡ e)
IsRefused e reply.OutOfMemory = Unit {0}
IsRefused e _ = ⊥

-- what a list of values comes to that has a fault
abbrev pub HasBadValues : Result (List Value) PlanFault → CallReply → Type 0
HasBadValues r (reply.BadValue f) = IsNotMemory f × (r ≡ Err f)
HasBadValues r reply.OutOfMemory = Unit {0}
HasBadValues r _ = ⊥

-- and one that fits or does not
abbrev pub IsReplyOver : Bool → CallReply → Type 0
IsReplyOver fit reply.OverLimit = fit ≡ false
IsReplyOver fit reply.OutOfMemory = Unit {0}
IsReplyOver fit _ = ⊥

-- ---- inputs

-- an input that was read, as what it holds
abbrev pub input_of : Input → CallInput
input_of x = record { plan = x.plan; args = view x.args.now; results = view x.results.now }

abbrev pub input_with : FusePlan → (args results : json_value) → CallInput
input_with p args results = record { plan = p; args = view args; results = view results }

-- ---- adapters

-- a side is async, or its function type is marked so, as the plan says
abbrev pub is_async_in : FusePlan → PlanSide → Bool
is_async_in p s = s.async_ || option_map_or (λ f. f.async_) (slice_get p.funcs s.ty) false

-- a sync adapter between two instances, as the plan says
abbrev pub is_free : FusePlan → PlanAdapter → Bool
is_free p x = not (nat_eq x.lift.instance x.lower.instance) && not (is_async_in p x.lift || is_async_in p x.lower)

-- each adapter of a plan names what is there
abbrev pub AreLinked : FusePlan → Type 0
AreLinked p = (k : ℕ) (x : PlanAdapter) → slice_get p.adapters k ≡ Some x → (a : LinkedAdapter) × (adapter_of p x ≡ Some a)

-- The adapter at a place is the one of a name that can be called.
pub record IsAtPlace (p : FusePlan) (name : List ℕ) (k : ℕ) : Type 0 where
  pub adapter : PlanAdapter
  pub there : slice_get p.adapters k ≡ Some adapter
  pub linked : LinkedAdapter
  pub is_linked : adapter_of p adapter ≡ Some linked
  pub named : callable_named name (adapters_of p) ≡ Some linked

-- ---- kinds of imports

abbrev pub sort_of_kind : Kind → Sort
sort_of_kind kind.Function = a_function
sort_of_kind kind.Memory = a_memory
sort_of_kind kind.Global = a_global

-- ---- what is known where an adapter is called

-- An adapter of a plan without faults, over its types, which is the one of a name that can be called.
pub record IsLinkedAt (p : FusePlan) (name : List ℕ) (t : PlanTypes) (x : Adapter) : Type 0 where
  pub faultless : IsFaultlessPlan p
  pub types : AreTypesOf p t
  pub place : ℕ
  pub adapter : PlanAdapter
  pub there : slice_get p.adapters place ≡ Some adapter
  pub links : LinksAdapter p t.builder adapter x
  pub named : callable_named name (adapters_of p) ≡ Some links.linked

-- the shapes of the types of an adapter
abbrev pub shapes_of : LinkedAdapter → CallShapes
shapes_of a = record { lower_params = a.lower.params; lower_results = a.lower.results; lift_params = a.lift.params; lift_results = a.lift.results }

-- Arguments, and results that a callee answers, are of the types of a call and fit.
pub record CanBeCarried (s : CallShapes) (args results : List Value) : Type 0 where
  pub suited : AreSuited s args
  pub results_typed : AreOfTypes s.lift_results results
  pub results_fit : fits s.lift_results s.lower_results results ≡ true

-- It is called with values that can be carried.
pub record MayBeCalled (p : FusePlan) (name : List ℕ) (t : PlanTypes) (x : Adapter) (values : Values) : Type 0 where
  pub linked : IsLinkedAt p name t x
  pub carried : CanBeCarried (shapes_of linked.links.linked) values.args values.results

-- And this module was fused of the plan without debug checks.
pub record CanBeCalled (fuel : ℕ) (p : FusePlan) (name : List ℕ) (t : PlanTypes) (x : Adapter) (f : Fused) (values : Values) : Type 0 where
  pub may : MayBeCalled p name t x values
  pub fused : IsFused f (without_debug fuel p)
  pub accepted : IsAccepted f.bytes f.«module»

-- An adapter of a plan without faults, over its types, which is the one of a name that can be called, and the module that was fused of the plan.
pub record IsNamedCall (fuel : ℕ) (p : FusePlan) (name : List ℕ) (t : PlanTypes) (x : Adapter) (f : Fused) : Type 0 where
  pub linked : IsLinkedAt p name t x
  pub fused : IsFused f (without_debug fuel p)
  pub accepted : IsAccepted f.bytes f.«module»

-- the tunables with which the adapters of such a plan are compiled
abbrev pub quiet_tunables : (fuel : ℕ) → FusePlan → AdapterTunables
quiet_tunables fuel p = adapter_tunables (tunables_of (without_debug fuel p)) (features_of (without_debug fuel p))

-- A call of an adapter in such a module, on a host, with what is promised of it.
pub record IsCallOf (fuel : ℕ) (p : FusePlan) (a : LinkedAdapter) (t : Tables) (f : Fused) (c : HostCall) : Type 0 where
  pub function : ℕ
  pub exported : exported_as a.name f.«module».exports ≡ Some (Defined function)
  pub calls : CallsAdapter f.«module» f.imports t c a function
  pub promised : IsPromised f.«module» f.imports (quiet_tunables fuel p) a (adapters_of p) function
  pub callable : IsCallable f.«module» t c (shapes_of a)

-- Such a call with values that can be carried.
pub record IsHosted (fuel : ℕ) (p : FusePlan) (a : LinkedAdapter) (t : Tables) (f : Fused) (c : HostCall) (values : Values) : Type 0 where
  pub fused : IsFused f (without_debug fuel p)
  pub call : IsCallOf fuel p a t f c
  pub carried : CanBeCarried (shapes_of a) values.args values.results

-- what a callee answered, where it was asked
abbrev pub answered : Bool → List Value → Option (List Value)
answered asked results = if asked then Some results else None

-- The outcome of a call with these arguments whose callee would answer these results, and no cause of an error, by the shapes of the call.
pub record HasOutcome (f : Fused) (t : Tables) (c : HostCall) (args results : List Value) (last : ℕ) (asked : Bool) (o : HostOutcome) : Type 0 where
  pub outcome : (s : CallShapes) → HasCallShapes t c s → IsOutcomeOf f.«module» t c s args (answered asked results) None o
  pub no_cause : (s : CallShapes) → HasCallShapes t c s → HasNoCause s args last (answered asked results)

-- what the call of an adapter with values comes to
abbrev pub IsToldCall : (fuel : ℕ) → FusePlan → LinkedAdapter → Values → CallReply → Type 0
IsToldCall fuel p a values (reply.Page text) = TellsCall fuel p a values.args values.results (string_bytes text)
IsToldCall fuel p a values reply.OutOfMemory = Unit {0}
IsToldCall fuel p a values _ = ⊥
