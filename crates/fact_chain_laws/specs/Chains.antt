-- What a chain of two adapters on a host comes to, where their module was fused without debug checks: both calls return, the last callee is given the
-- arguments and the first caller gets the results, each carried as if one adapter led from the one to the other.
use Rattle.std.specs.Prelude.{◌≡◌, ◌⊎◌, ℕ, true, false, List, Option, Some, None}
use Rattle.fact_wasm.specs.declared.module.WasmModule.{WasmModule}
use Rattle.fact_types.specs.declared.import.Import.{Import}
use Rattle.fact_types.specs.Adapters.{LinkedAdapter}
use Rattle.fact_types.specs.Shapes.{Shape}
use Rattle.fact_types.specs.Tables.{Tables}
use Rattle.fact_machine.specs.declared.types.CoreValue.{CoreValue}
use Rattle.fact_machine.specs.declared.types.End.TheVariants.{Returned}
use Rattle.fact_values.specs.declared.value.Value.{Value}
use Rattle.fact_actions.specs.Adapters.{AdapterTunables}
use Rattle.fact_lowering.specs.Room.{fits}
use Rattle.fact_host.specs.declared.callee.HostError.{HostError}
use Rattle.fact_host.specs.declared.callee.HostError.TheVariants.{OutOfMemory}
use Rattle.fact_host.specs.declared.calling.HostCall.{HostCall}
use Rattle.fact_host.specs.declared.calling.HostOutcome.{HostOutcome}
use Rattle.fact_host.specs.Called.{called_params, called_results}
use Rattle.fact_host.specs.Contract.{AreOfTypes, IsCallable}
use Rattle.fact_host.specs.Rules.{CallShapes}
use Rattle.fact_chain.specs.declared.chaining.Chained.{Chained}
use Rattle.fact_chain.specs.Between.{AreJoined}
use Rattle.fact_chain.specs.Chained.{IsChainCause, IsChained}
use Rattle.fact_call_laws.specs.Carrying.{CallsAdapter, IsPromised}

-- ---- values on their two ways

-- what is passed on between the two calls: the arguments, carried by the first one
abbrev pub passed_on : (first : CallShapes) → (args : List Value) → Option (List Value)
passed_on s args = called_params s.lower_params s.lift_params args

-- what is passed back: the results, carried by the second one, to which so much was passed on
abbrev pub passed_back : (second : CallShapes) → (between results : List Value) → Option (List Value)
passed_back z between results = called_results z.lower_params z.lift_params z.lift_results z.lower_results between results

-- Arguments and results fit on each of their two ways.
pub record FitBothWays (first second : CallShapes) (args results : List Value) : Type 0 where
  pub args_fit : fits first.lower_params first.lift_params args ≡ true
  pub between : List Value
  pub between_is : passed_on first args ≡ Some between
  pub between_fits : fits second.lower_params second.lift_params between ≡ true
  pub results_fit : fits second.lift_results second.lower_results results ≡ true
  pub back : List Value
  pub back_is : passed_back second between results ≡ Some back
  pub back_fits : fits first.lift_results first.lower_results back ≡ true

-- what there is does not fit on its second way
abbrev pub IsOverOn : (ts us : List Shape) → Option (List Value) → Type 0
IsOverOn ts us passed = (vs : List Value) × (passed ≡ Some vs) × (fits ts us vs ≡ false)

-- One of the two lists does not fit on one of its two ways.
abbrev pub IsOverOneWay : (first second : CallShapes) → (args results : List Value) → Type 0
IsOverOneWay s z args results =
    (fits s.lower_params s.lift_params args ≡ false)
    ⊎ (IsOverOn z.lower_params z.lift_params (passed_on s args)
    ⊎ ((fits z.lift_results z.lower_results results ≡ false)
    ⊎ ((between : List Value) × (passed_on s args ≡ Some between) × IsOverOn s.lift_results s.lower_results (passed_back z between results))))

-- ---- the law

-- Both calls were made and returned. The last callee was given the arguments, carried directly, with the numbers of the second call for their
-- handles; and the first caller got the results, carried directly, with those of the first call, which come behind those of its arguments. Both are
-- values of their types.
pub record HasChained (first second : CallShapes) (args answered : List Value) (c : Chained) : Type 0 where
  pub inner : HostOutcome
  pub made : c.inner ≡ Some inner
  pub outer_values : List CoreValue
  pub outer_returned : c.outer.outcome.end ≡ Returned outer_values
  pub inner_values : List CoreValue
  pub inner_returned : inner.outcome.end ≡ Returned inner_values
  pub seen : List Value
  pub seen_are : called_params first.lower_params second.lift_params args ≡ Some seen
  pub seen_types : AreOfTypes second.lift_params seen
  pub params : inner.params ≡ Some seen
  pub got : List Value
  pub got_are : called_results first.lower_params first.lift_params second.lift_results first.lower_results args answered ≡ Some got
  pub got_types : AreOfTypes first.lower_results got
  pub results : c.outer.results ≡ Some got

-- What came of a chain, by its second call: where that was made, arguments and results fit on each of their ways and were carried, and where it was
-- not, one of them does not fit.
abbrev pub HasComeTo : (first second : CallShapes) → (args answered : List Value) → Chained → (inner : Option HostOutcome) → Type 0
HasComeTo s z args answered c None = IsOverOneWay s z args answered
HasComeTo s z args answered c (Some inner) = FitBothWays s z args answered × HasChained s z args answered c

-- So it is with every chain of two adapters of a module that the contract of `chain` allows, where arguments and results are of their types and the
-- results fit on their first way.
abbrev pub ChainsCarry : Type 0
ChainsCarry =
    (m : WasmModule) (is : List Import) (u : AdapterTunables) (adapters : List LinkedAdapter) (a b : LinkedAdapter) (f g : ℕ)
    (t : Tables) (first second : HostCall) (s z : CallShapes) (args results : List Value) (c : Chained)
    → IsPromised m is u a adapters f → IsPromised m is u b adapters g → CallsAdapter m is t first a f → CallsAdapter m is t second b g
    → IsCallable m t first s → IsCallable m t second z → AreJoined first second
    → AreOfTypes s.lower_params args → AreOfTypes z.lift_results results → fits z.lift_results z.lower_results results ≡ true
    → IsChained m t first second args results c → HasComeTo s z args results c c.inner

-- And such a chain ends with no error but want of memory where they fit on each of their ways.
abbrev pub ChainsEnd : Type 0
ChainsEnd =
    (m : WasmModule) (is : List Import) (u : AdapterTunables) (adapters : List LinkedAdapter) (a b : LinkedAdapter) (f g : ℕ)
    (t : Tables) (first second : HostCall) (s z : CallShapes) (args results : List Value) (error : HostError)
    → IsPromised m is u a adapters f → IsPromised m is u b adapters g → CallsAdapter m is t first a f → CallsAdapter m is t second b g
    → IsCallable m t first s → IsCallable m t second z → AreJoined first second
    → AreOfTypes s.lower_params args → AreOfTypes z.lift_results results
    → IsChainCause m t first second args results error → (error ≡ OutOfMemory) ⊎ IsOverOneWay s z args results
