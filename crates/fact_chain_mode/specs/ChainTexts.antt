-- What an input comes to where two adapters are to be chained, and the text that tells a chain.
use Rattle.std.specs.Prelude.{◌≡◌, ℕ, ◌&&◌, Bool, true, false, nat_eq, List, [], ◌∷◌, ◌++◌, length, Option, Some, None, Result, codes}
use Rattle.std.specs.Fmt.{decimal}
use Rattle.fact_wasm.specs.declared.instr.FuncName.TheVariants.{Defined}
use Rattle.fact_types.specs.Adapters.{LinkedAdapter}
use Rattle.fact_types.specs.Shapes.{Shape}
use Rattle.fact_types.specs.Tables.{Tables}
use Rattle.fact_types.specs.Tuples.{tuple_of}
use Rattle.fact_plan.specs.declared.fault.PlanFault.{PlanFault}
use Rattle.fact_plan.specs.declared.plan.FusePlan.{FusePlan}
use Rattle.fact_plan_types.specs.PlanShapes.{same_shape}
use Rattle.fact_adapter_rules.specs.Adapters.{adapters_of}
use Rattle.fact_adapter_rules.specs.FirstFault.{IsFaultlessPlan}
use Rattle.fact_values.specs.declared.value.Value.{Value}
use Rattle.fact_value_json.specs.Printing.{values_text}
use Rattle.fact_value_json.specs.Reading.{values_at}
use Rattle.fact_host.specs.declared.calling.HostCall.{HostCall}
use Rattle.fact_host.specs.declared.calling.HostOutcome.{HostOutcome}
use Rattle.fact_host.specs.Called.{called_params, called_results}
use Rattle.fact_chain.specs.declared.chaining.Chained.{Chained}
use Rattle.fact_chain.specs.Between.{AreJoined, CanBeRun}
use Rattle.fact_chain.specs.Chained.{IsChained}
use Rattle.fact_assembly.specs.Exports.{exported_as}
use Rattle.fact_module.specs.declared.fusion.Fused.{Fused}
use Rattle.fact_module.specs.Fused.{IsFused}
use Rattle.fact_call_laws.specs.Carrying.{CallsAdapter}
use Rattle.fact_chain_laws.specs.Chains.{FitBothWays, IsOverOneWay}
use Rattle.fact_call_mode.specs.Calls.{HaveFault, HaveValues, callable_named, without_debug, word_line}
use Rattle.fact_call_mode.specs.Replies.{shapes_of}
use Rattle.fact_chain_mode.specs.ChainInputs.{ChainInput}

-- ---- adapters that can be chained

-- types are the same, one by one: those of equal content are, and handles go by the places of their tables
abbrev pub are_same_types : List Shape → List Shape → Bool
are_same_types ss zs = same_shape (tuple_of ss) (tuple_of zs)

-- the callee of the first adapter is where the second one is called, and has its function type
abbrev pub leads_to : (first second : LinkedAdapter) → Bool
leads_to a b = nat_eq a.lift.instance b.lower.instance && (are_same_types a.lift.params b.lower.params && are_same_types a.lift.results b.lower.results)

-- The names of an input, whose plan has no fault, are those of these adapters, and the one leads to the other.
pub record NamesChained (i : ChainInput) (a b : LinkedAdapter) : Type 0 where
  pub faultless : IsFaultlessPlan i.plan
  pub first : callable_named i.first (adapters_of i.plan) ≡ Some a
  pub second : callable_named i.second (adapters_of i.plan) ≡ Some b
  pub leads : leads_to a b ≡ true

-- One of the names is that of no adapter that can be called, or the one does not lead to the other.
abbrev pub LeadsNowhere : (first second : Option LinkedAdapter) → Type 0
LeadsNowhere None second = Unit {0}
LeadsNowhere (Some a) None = Unit {0}
LeadsNowhere (Some a) (Some b) = leads_to a b ≡ false

pub record IsNotChained (i : ChainInput) : Type 0 where
  pub faultless : IsFaultlessPlan i.plan
  pub nowhere : LeadsNowhere (callable_named i.first (adapters_of i.plan)) (callable_named i.second (adapters_of i.plan))

-- ---- what an input comes to whose adapters can be chained

-- the arguments, by the parameters of the first caller, and the results, by those of the last callee
abbrev pub chain_args : LinkedAdapter → ChainInput → Result (List Value) PlanFault
chain_args a i = values_at (codes "chain.args") a.lower.params i.args

abbrev pub chain_results : LinkedAdapter → ChainInput → Result (List Value) PlanFault
chain_results b i = values_at (codes "chain.results") b.lift.results i.results

-- they have this first fault, or are these values of their types
abbrev pub AreBadChainValues : (first second : LinkedAdapter) → ChainInput → PlanFault → Type 0
AreBadChainValues a b i f = HaveFault (chain_args a i) (chain_results b i) f

abbrev pub AreChainValues : (first second : LinkedAdapter) → ChainInput → (args results : List Value) → Type 0
AreChainValues a b i args results = HaveValues (chain_args a i) (chain_results b i) args results

pub record HasBadChainValue (i : ChainInput) (f : PlanFault) : Type 0 where
  pub first : LinkedAdapter
  pub second : LinkedAdapter
  pub names : NamesChained i first second
  pub fault : AreBadChainValues first second i f

pub record HasChainValues (i : ChainInput) (first second : LinkedAdapter) (args results : List Value) : Type 0 where
  pub names : NamesChained i first second
  pub values : AreChainValues first second i args results

-- One of the two lists does not fit on one of its two ways.
pub record IsChainOverLimit (i : ChainInput) : Type 0 where
  pub first : LinkedAdapter
  pub second : LinkedAdapter
  pub args : List Value
  pub results : List Value
  pub values : HasChainValues i first second args results
  pub over : IsOverOneWay (shapes_of first) (shapes_of second) args results

-- Both fit on both.
pub record HasChain (i : ChainInput) : Type 0 where
  pub first : LinkedAdapter
  pub second : LinkedAdapter
  pub args : List Value
  pub results : List Value
  pub values : HasChainValues i first second args results
  pub fitting : FitBothWays (shapes_of first) (shapes_of second) args results

-- ---- the text that tells a chain

-- The runs of two adapters of a plan make so many calls of the outside, in some outcomes that the contract of `chain` allows for these arguments and
-- a last callee that answers these results.
pub record MakeChainCalls (fuel : ℕ) (p : FusePlan) (a b : LinkedAdapter) (args results : List Value) (outer_count inner_count : ℕ) : Type 0 where
  pub fused : Fused
  pub is_fused : IsFused fused (without_debug fuel p)
  pub outer_func : ℕ
  pub outer_exported : exported_as a.name fused.«module».exports ≡ Some (Defined outer_func)
  pub inner_func : ℕ
  pub inner_exported : exported_as b.name fused.«module».exports ≡ Some (Defined inner_func)
  pub tables : Tables
  pub first : HostCall
  pub first_calls : CallsAdapter fused.«module» fused.imports tables first a outer_func
  pub first_can : CanBeRun fused.«module» tables first
  pub second : HostCall
  pub second_calls : CallsAdapter fused.«module» fused.imports tables second b inner_func
  pub second_can : CanBeRun fused.«module» tables second
  pub joined : AreJoined first second
  pub chained : Chained
  pub is_chained : IsChained fused.«module» tables first second args results chained
  pub outer_count_is : outer_count ≡ length chained.outer.outcome.log
  pub inner : HostOutcome
  pub inner_made : chained.inner ≡ Some inner
  pub inner_count_is : inner_count ≡ length inner.outcome.log

-- two counts on a line
abbrev pub calls_line : (outer inner : ℕ) → List ℕ
calls_line n k = codes "calls " ++ (decimal n ++ (codes " " ++ (decimal k ++ 10 ∷ [])))

-- what tells a chain: values of these types that the last callee was given, and of those that the first caller got, and two counts
abbrev pub chain_text : (ps : List Shape) → (seen : List Value) → (rs : List Shape) → (got : List Value) → (outer_count inner_count : ℕ) → List ℕ
chain_text ps seen rs got n k =
    word_line (codes "seen") (values_text ps seen) ++ (word_line (codes "results") (values_text rs got) ++ calls_line n k)

-- The text tells what the last callee is given, what the first caller gets, and how many calls of the outside the two runs make.
pub record TellsChain (fuel : ℕ) (p : FusePlan) (a b : LinkedAdapter) (args results : List Value) (text : List ℕ) : Type 0 where
  pub seen : List Value
  pub seen_are : called_params a.lower.params b.lift.params args ≡ Some seen
  pub got : List Value
  pub got_are : called_results a.lower.params a.lift.params b.lift.results a.lower.results args results ≡ Some got
  pub outer_count : ℕ
  pub inner_count : ℕ
  pub make : MakeChainCalls fuel p a b args results outer_count inner_count
  pub text_is : text ≡ chain_text b.lift.params seen a.lower.results got outer_count inner_count

-- It tells the chain of the adapters and the values of an input.
pub record TellsChainInput (fuel : ℕ) (i : ChainInput) (text : List ℕ) : Type 0 where
  pub has : HasChain i
  pub tells : TellsChain fuel i.plan has.first has.second has.args has.results text
