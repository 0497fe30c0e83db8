-- Cited by private clauses alone, but for what bytes come to.
-- What a chain comes to, by its input; and what the functions between an input and the calls on a host say.
use Rattle.std.specs.Prelude.{◌≡◌, ◌≢◌, ◌⊎◌, ℕ, true, false, List, length, Some, None, string_bytes}
use Rattle.serde_json.specs.Data.{Data}
use Rattle.serde_json.specs.View.{view}
use Rattle.fact_types.specs.Adapters.{LinkedAdapter}
use Rattle.fact_types.specs.Functions.{HaveShapes}
use Rattle.fact_types.specs.Shapes.{Shape}
use Rattle.fact_types.specs.Tables.{Tables}
use Rattle.fact_plan.specs.declared.plan.FusePlan.{FusePlan}
use Rattle.fact_plan.specs.Fault.{IsNotMemory}
use Rattle.fact_plan_types.specs.declared.plan_types.PlanTypes.{PlanTypes}
use Rattle.fact_check.specs.Accepted.{IsAccepted}
use Rattle.fact_adapter_rules.specs.Adapters.{adapters_of}
use Rattle.fact_values.specs.declared.value.Value.{Value}
use Rattle.fact_lowering.specs.Room.{fits}
use Rattle.fact_host.specs.declared.callee.HostError.{HostError}
use Rattle.fact_host.specs.declared.callee.HostError.TheVariants as host
use Rattle.fact_host.specs.declared.calling.HostCall.{HostCall}
use Rattle.fact_host.specs.declared.calling.HostOutcome.{HostOutcome}
use Rattle.fact_host.specs.Contract.{AreOfTypes}
use Rattle.fact_chain.specs.declared.chaining.Chained.{Chained}
use Rattle.fact_chain.specs.Between.{AreJoined}
use Rattle.fact_module.specs.declared.fusion.Fused.{Fused}
use Rattle.fact_module.specs.Fused.{IsFused}
use Rattle.fact_chain_laws.specs.Chains.{FitBothWays, IsOverOneWay}
use Rattle.fact_call_mode.specs.declared.reply.CallReply.{CallReply}
use Rattle.fact_call_mode.specs.declared.reply.CallReply.TheVariants as reply
use Rattle.fact_call_mode.specs.declared.values.Values.{Values}
use Rattle.fact_call_mode.specs.Calls.{callable_named, without_debug}
use Rattle.fact_call_mode.specs.Replies.{IsAtPlace, IsCallOf, IsLinkedAt, IsReplyToBytes, IsReplyToData, IsReplyToRead, TellsRefused, shapes_of}
use Rattle.fact_chain_mode.specs.declared.input.Asked.{Asked}
use Rattle.fact_chain_mode.specs.declared.input.Input.{Input}
use Rattle.fact_chain_mode.specs.declared.pairs.Pair.{Pair}
use Rattle.fact_chain_mode.specs.declared.pairs.Places.{Places}
use Rattle.fact_chain_mode.specs.ChainInputs.{ChainInput, chain_input}
use Rattle.fact_chain_mode.specs.ChainTexts.{AreBadChainValues, AreChainValues, HasBadChainValue, IsChainOverLimit, IsNotChained, TellsChain, TellsChainInput, chain_args, chain_results, chain_text, leads_to}

-- ---- what a chain comes to

-- what an input comes to
abbrev pub IsReplyToInput : (fuel : ℕ) → ChainInput → CallReply → Type 0
IsReplyToInput fuel i reply.NotJson = ⊥
IsReplyToInput fuel i (reply.BadPlan f) = ⊥
IsReplyToInput fuel i (reply.Refused e) = TellsRefused i.plan e
IsReplyToInput fuel i reply.NotCallable = IsNotChained i
IsReplyToInput fuel i (reply.BadValue f) = IsNotMemory f × HasBadChainValue i f
IsReplyToInput fuel i reply.OverLimit = IsChainOverLimit i
IsReplyToInput fuel i (reply.Page text) = TellsChainInput fuel i (string_bytes text)
IsReplyToInput fuel i reply.OutOfMemory = Unit {0}

-- what bytes come to, and a JSON value
abbrev pub IsReplyToChain : (fuel : ℕ) → (bytes : List ℕ) → CallReply → Type 0
IsReplyToChain fuel bytes r = IsReplyToBytes chain_input (IsReplyToInput fuel) bytes r

abbrev pub IsReplyToJson : (fuel : ℕ) → Data → CallReply → Type 0
IsReplyToJson fuel d r = IsReplyToData chain_input (IsReplyToInput fuel) d r

-- Values that are read by the types of two adapters do not fit on one of their ways.
pub record AreOverOneWay (a b : LinkedAdapter) (i : ChainInput) : Type 0 where
  pub args : List Value
  pub results : List Value
  pub values : AreChainValues a b i args results
  pub over : IsOverOneWay (shapes_of a) (shapes_of b) args results

-- The text tells the chain of two adapters with the values of the input.
pub record TellsPair (fuel : ℕ) (a b : LinkedAdapter) (i : ChainInput) (text : List ℕ) : Type 0 where
  pub args : List Value
  pub results : List Value
  pub values : AreChainValues a b i args results
  pub fitting : FitBothWays (shapes_of a) (shapes_of b) args results
  pub tells : TellsChain fuel i.plan a b args results text

-- what an input comes to whose names are those of two adapters
abbrev pub IsReplyToPair : (fuel : ℕ) → (a b : LinkedAdapter) → ChainInput → CallReply → Type 0
IsReplyToPair fuel a b i reply.NotJson = ⊥
IsReplyToPair fuel a b i (reply.BadPlan f) = ⊥
IsReplyToPair fuel a b i (reply.Refused e) = ⊥
IsReplyToPair fuel a b i reply.NotCallable = leads_to a b ≡ false
IsReplyToPair fuel a b i (reply.BadValue f) = (leads_to a b ≡ true) × IsNotMemory f × AreBadChainValues a b i f
IsReplyToPair fuel a b i reply.OverLimit = (leads_to a b ≡ true) × AreOverOneWay a b i
IsReplyToPair fuel a b i (reply.Page text) = (leads_to a b ≡ true) × TellsPair fuel a b i (string_bytes text)
IsReplyToPair fuel a b i reply.OutOfMemory = Unit {0}

-- what values come to with which nothing is chained
abbrev pub IsReplyToValues : (a b : LinkedAdapter) → ChainInput → CallReply → Type 0
IsReplyToValues a b i r = IsReplyToRead (chain_args a i) (chain_results b i) (AreOverOneWay a b i) r

-- what the chain of two adapters with values comes to
abbrev pub IsToldChain : (fuel : ℕ) → FusePlan → (a b : LinkedAdapter) → Values → CallReply → Type 0
IsToldChain fuel p a b values (reply.Page text) = FitBothWays (shapes_of a) (shapes_of b) values.args values.results × TellsChain fuel p a b values.args values.results (string_bytes text)
IsToldChain fuel p a b values reply.OverLimit = IsOverOneWay (shapes_of a) (shapes_of b) values.args values.results
IsToldChain fuel p a b values reply.OutOfMemory = Unit {0}
IsToldChain fuel p a b values _ = ⊥

-- ---- inputs

-- an input that was read, as what it holds
abbrev pub input_with : FusePlan → Asked → ChainInput
input_with p x = record { plan = p; first = x.first.now; second = x.second.now; args = view x.args.now; results = view x.results.now }

abbrev pub input_of : Input → ChainInput
input_of x = input_with x.plan x.asked

-- ---- adapters

-- one of two names is that of no adapter of a plan that can be called
abbrev pub LacksOneName : FusePlan → (first second : List ℕ) → Type 0
LacksOneName p first second = (callable_named first (adapters_of p) ≡ None) ⊎ (callable_named second (adapters_of p) ≡ None)

-- The adapters at two places are those of two names that can be called.
pub record AreAtPlaces (p : FusePlan) (first second : List ℕ) (x : Places) : Type 0 where
  pub first_at : IsAtPlace p first x.first
  pub second_at : IsAtPlace p second x.second

-- Two adapters of a plan without faults, over its types, which are those of two names that can be called.
pub record ArePaired (p : FusePlan) (one other : List ℕ) (t : PlanTypes) (x : Pair) : Type 0 where
  pub first : IsLinkedAt p one t x.first
  pub second : IsLinkedAt p other t x.second

-- ---- what is known where two adapters are chained

-- Values were read by the types of two adapters, and are of them; the results fit on their first way.
pub record AreRead (a b : LinkedAdapter) (i : ChainInput) (values : Values) : Type 0 where
  pub values_are : AreChainValues a b i values.args values.results
  pub args_typed : AreOfTypes a.lower.params values.args
  pub results_typed : AreOfTypes b.lift.results values.results
  pub results_fit : fits b.lift.results b.lower.results values.results ≡ true

-- The first of two adapters leads to the second one, and they are chained with such values.
pub record MayBeChained (p : FusePlan) (asked : Asked) (t : PlanTypes) (x : Pair) (values : Values) : Type 0 where
  pub paired : ArePaired p asked.first.now asked.second.now t x
  pub leads : leads_to paired.first.links.linked paired.second.links.linked ≡ true
  pub read : AreRead paired.first.links.linked paired.second.links.linked (input_with p asked) values

-- And this module was fused of the plan without debug checks.
pub record CanBeChained (fuel : ℕ) (p : FusePlan) (asked : Asked) (t : PlanTypes) (x : Pair) (f : Fused) (values : Values) : Type 0 where
  pub may : MayBeChained p asked t x values
  pub fused : IsFused f (without_debug fuel p)
  pub accepted : IsAccepted f.bytes f.«module»

-- Two calls of adapters in such a module, with what is promised of them, the second of which the callee of the first can make, with values.
pub record AreHosted (fuel : ℕ) (p : FusePlan) (a b : LinkedAdapter) (t : Tables) (f : Fused) (first second : HostCall) (values : Values) : Type 0 where
  pub fused : IsFused f (without_debug fuel p)
  pub first_call : IsCallOf fuel p a t f first
  pub second_call : IsCallOf fuel p b t f second
  pub joined : AreJoined first second
  pub args_typed : AreOfTypes a.lower.params values.args
  pub results_typed : AreOfTypes b.lift.results values.results
  pub results_fit : fits b.lift.results b.lower.results values.results ≡ true

-- ---- errors and outcomes

-- what an error of a chain comes to
abbrev pub IsReplyToError : HostError → CallReply → Type 0
IsReplyToError e reply.OverLimit = e ≢ host.OutOfMemory
IsReplyToError e reply.OutOfMemory = Unit {0}
IsReplyToError e _ = ⊥

-- The text tells what the last callee was given, what the first caller got, and how many calls of the outside there were in either run.
pub record TellsOutcomes (t : Tables) (first second : HostCall) (outer inner : HostOutcome) (text : List ℕ) : Type 0 where
  pub told : (ps rs : List Shape) (seen got : List Value) → HaveShapes t second.lift.params ps → HaveShapes t first.lower.results rs → inner.params ≡ Some seen → outer.results ≡ Some got
      → AreOfTypes ps seen → AreOfTypes rs got → text ≡ chain_text ps seen rs got (length outer.outcome.log) (length inner.outcome.log)

-- what the outcomes of two calls come to: such a text, where there are both
abbrev pub IsReplyToOutcomes : Tables → (first second : HostCall) → Chained → CallReply → Type 0
IsReplyToOutcomes t first second c (reply.Page text) = (inner : HostOutcome) × (c.inner ≡ Some inner) × TellsOutcomes t first second c.outer inner (string_bytes text)
IsReplyToOutcomes t first second c reply.OverLimit = c.inner ≡ None
IsReplyToOutcomes t first second c reply.OutOfMemory = Unit {0}
IsReplyToOutcomes t first second c _ = ⊥
