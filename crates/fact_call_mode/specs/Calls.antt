-- What an input comes to where the adapter of a name is to be called, and the text that tells a call.
use Rattle.std.specs.Prelude.{◌≡◌, ◌⊎◌, ℕ, ◌&&◌, Bool, true, false, not, List, [], ◌∷◌, ◌++◌, length, find, Option, Some, None, Result, Ok, Err, codes}
use Rattle.std.specs.Fmt.{decimal}
use Rattle.std.specs.Str.{bytes_eq}
use Rattle.fact_wasm.specs.declared.instr.FuncName.TheVariants.{Defined}
use Rattle.fact_types.specs.Adapters.{LinkedAdapter, is_async, is_crossing}
use Rattle.fact_types.specs.Shapes.{Shape}
use Rattle.fact_types.specs.Tables.{Tables}
use Rattle.fact_plan.specs.declared.fault.PlanFault.{PlanFault}
use Rattle.fact_plan.specs.declared.plan.FusePlan.{FusePlan}
use Rattle.fact_adapter_rules.specs.Adapters.{adapters_of}
use Rattle.fact_adapter_rules.specs.FirstFault.{IsFaultlessPlan}
use Rattle.fact_values.specs.declared.value.Value.{Value}
use Rattle.fact_value_json.specs.Printing.{values_text}
use Rattle.fact_value_json.specs.Reading.{values_at}
use Rattle.fact_lowering.specs.Room.{fits}
use Rattle.fact_host.specs.declared.calling.HostCall.{HostCall}
use Rattle.fact_host.specs.declared.calling.HostOutcome.{HostOutcome}
use Rattle.fact_host.specs.Called.{called_params, called_results}
use Rattle.fact_host.specs.Contract.{IsCallable, IsOutcomeOf}
use Rattle.fact_host.specs.Rules.{CallShapes}
use Rattle.fact_assembly.specs.Exports.{exported_as}
use Rattle.fact_module.specs.declared.fusion.Fused.{Fused}
use Rattle.fact_module.specs.Fused.{IsFused}
use Rattle.fact_call_laws.specs.Carrying.{CallsAdapter}
use Rattle.fact_call_mode.specs.Inputs.{CallInput}

-- ---- arguments and results that were read, each its values or its first fault

-- the arguments have this first fault, or they have none and the results have it
abbrev pub HaveFault : (read_args read_results : Result (List Value) PlanFault) → PlanFault → Type 0
HaveFault read_args read_results f = (read_args ≡ Err f) ⊎ ((args : List Value) × (read_args ≡ Ok args) × (read_results ≡ Err f))

-- They are these values.
pub record HaveValues (read_args read_results : Result (List Value) PlanFault) (args results : List Value) : Type 0 where
  pub args_are : read_args ≡ Ok args
  pub results_are : read_results ≡ Ok results

-- ---- adapters that can be called

-- a sync adapter between two instances
abbrev pub is_callable : LinkedAdapter → Bool
is_callable a = is_crossing a && not (is_async a)

-- the one of a name, where there is one
abbrev pub callable_named : List ℕ → List LinkedAdapter → Option LinkedAdapter
callable_named name adapters = find (λ a. bytes_eq a.name name && is_callable a) adapters

-- ---- what an input comes to whose plan has no fault: each comes to one of these

-- No adapter of this name can be called.
pub record IsNotCallable (name : List ℕ) (i : CallInput) : Type 0 where
  pub faultless : IsFaultlessPlan i.plan
  pub none : callable_named name (adapters_of i.plan) ≡ None

-- This one can.
pub record NamesCallable (name : List ℕ) (i : CallInput) (a : LinkedAdapter) : Type 0 where
  pub faultless : IsFaultlessPlan i.plan
  pub named : callable_named name (adapters_of i.plan) ≡ Some a

-- the arguments, by the parameters of the caller, and the results, by those of the callee
abbrev pub args_of : LinkedAdapter → CallInput → Result (List Value) PlanFault
args_of a i = values_at (codes "call.args") a.lower.params i.args

abbrev pub results_of : LinkedAdapter → CallInput → Result (List Value) PlanFault
results_of a i = values_at (codes "call.results") a.lift.results i.results

-- they have this first fault, or are these values of their types
abbrev pub AreBadCallValues : LinkedAdapter → CallInput → PlanFault → Type 0
AreBadCallValues a i f = HaveFault (args_of a i) (results_of a i) f

abbrev pub AreCallValues : LinkedAdapter → CallInput → (args results : List Value) → Type 0
AreCallValues a i args results = HaveValues (args_of a i) (results_of a i) args results

-- whether arguments and results fit
abbrev pub fits_args : LinkedAdapter → List Value → Bool
fits_args a args = fits a.lower.params a.lift.params args

abbrev pub fits_results : LinkedAdapter → List Value → Bool
fits_results a results = fits a.lift.results a.lower.results results

-- The values are of their types, and the arguments or the results do not fit.
pub record AreOver (a : LinkedAdapter) (i : CallInput) : Type 0 where
  pub args : List Value
  pub results : List Value
  pub values : AreCallValues a i args results
  pub over : (fits_args a args ≡ false) ⊎ (fits_results a results ≡ false)

-- Both fit.
pub record AreFitting (a : LinkedAdapter) (i : CallInput) (args results : List Value) : Type 0 where
  pub values : AreCallValues a i args results
  pub args_fit : fits_args a args ≡ true
  pub results_fit : fits_results a results ≡ true

-- So it is with the adapter of a name.
pub record HasBadValue (name : List ℕ) (i : CallInput) (f : PlanFault) : Type 0 where
  pub adapter : LinkedAdapter
  pub callable : NamesCallable name i adapter
  pub faulty : AreBadCallValues adapter i f

pub record IsOverLimit (name : List ℕ) (i : CallInput) : Type 0 where
  pub adapter : LinkedAdapter
  pub callable : NamesCallable name i adapter
  pub over : AreOver adapter i

pub record HasCall (name : List ℕ) (i : CallInput) : Type 0 where
  pub adapter : LinkedAdapter
  pub callable : NamesCallable name i adapter
  pub args : List Value
  pub results : List Value
  pub fitting : AreFitting adapter i args results

-- ---- the text that tells a call

-- a plan that is fused without debug checks, with some fuel
abbrev pub without_debug : (fuel : ℕ) → FusePlan → FusePlan
without_debug fuel p = record p { tunables = record p.tunables { debug = false; fuel = fuel } }

-- The run of an adapter of a plan makes so many calls of the outside, in some outcome that a host's contract allows for these arguments and a callee
-- that answers these results.
pub record MakesCalls (fuel : ℕ) (p : FusePlan) (a : LinkedAdapter) (args results : List Value) (count : ℕ) : Type 0 where
  pub fused : Fused
  pub is_fused : IsFused fused (without_debug fuel p)
  pub func : ℕ
  pub exported : exported_as a.name fused.«module».exports ≡ Some (Defined func)
  pub tables : Tables
  pub call : HostCall
  pub calls : CallsAdapter fused.«module» fused.imports tables call a func
  pub shapes : CallShapes
  pub callable : IsCallable fused.«module» tables call shapes
  pub given : Option (List Value)
  pub outcome : HostOutcome
  pub is_outcome : IsOutcomeOf fused.«module» tables call shapes args (Some results) given outcome
  pub count_is : count ≡ length outcome.outcome.log

-- a word, a space, a text and a newline
abbrev pub word_line : (word text : List ℕ) → List ℕ
word_line word text = word ++ (codes " " ++ (text ++ 10 ∷ []))

-- what tells a call: values of these types that the callee was given, and of those that the caller got, and a count
abbrev pub call_text : (passed : List Shape) → List Value → (returned : List Shape) → List Value → (count : ℕ) → List ℕ
call_text ps given rs got count =
    word_line (codes "params") (values_text ps given) ++ (word_line (codes "results") (values_text rs got) ++ word_line (codes "calls") (decimal count))

-- The text tells what the callee is given, what the caller gets, and how many calls of the outside the adapter's run makes.
pub record TellsCall (fuel : ℕ) (p : FusePlan) (a : LinkedAdapter) (args results : List Value) (text : List ℕ) : Type 0 where
  pub given : List Value
  pub given_are : called_params a.lower.params a.lift.params args ≡ Some given
  pub got : List Value
  pub got_are : called_results a.lower.params a.lift.params a.lift.results a.lower.results args results ≡ Some got
  pub count : ℕ
  pub makes : MakesCalls fuel p a args results count
  pub text_is : text ≡ call_text a.lift.params given a.lower.results got count

-- The text tells the call of the adapter of a name with the values of the input.
pub record TellsCallInput (fuel : ℕ) (name : List ℕ) (i : CallInput) (text : List ℕ) : Type 0 where
  pub called : HasCall name i
  pub tells : TellsCall fuel i.plan called.adapter called.args called.results text
