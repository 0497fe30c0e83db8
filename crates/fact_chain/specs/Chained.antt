-- What a chain of two calls promises: the outcome of the first call, whose callee makes the second one with what it is given, and the
-- outcome of the second call.
use Rattle.std.specs.Prelude.{◌≡◌, ℕ, List, Option, Some, None}
use Rattle.fact_wasm.specs.declared.module.WasmModule.{WasmModule}
use Rattle.fact_types.specs.Tables.{Tables}
use Rattle.fact_values.specs.declared.value.Value.{Value}
use Rattle.fact_host.specs.declared.calling.HostCall.{HostCall}
use Rattle.fact_host.specs.declared.calling.HostOutcome.{HostOutcome}
use Rattle.fact_host.specs.declared.callee.HostError.{HostError}
use Rattle.fact_host.specs.Contract.{HasNoCause, IsHostCause, IsOutcomeOf, IsReachedBy}
use Rattle.fact_host.specs.Describes.{HasCallShapes}
use Rattle.fact_host.specs.Rules.{CallShapes}
use Rattle.fact_chain.specs.declared.chaining.Chained.{Chained}
use Rattle.fact_chain.specs.Between.{HasPassedOn, IsSecondOutcome, passed_results}

-- The second call was made exactly where the callee of the first one was given values, with these, and its caller got something.
abbrev pub IsInner : WasmModule → Tables → (second : HostCall) → (results : List Value) → (params : Option (List Value)) → (inner : Option HostOutcome) → Type 0
IsInner m t second results None None = Unit {0}
IsInner m t second results None (Some o) = ⊥
IsInner m t second results (Some params) None = ⊥
IsInner m t second results (Some params) (Some o) = IsSecondOutcome m t second params results o × ((values : List Value) × (o.results ≡ Some values))

-- What came of a chain with these arguments, whose last callee answers these results.
pub record IsChained (m : WasmModule) (t : Tables) (first second : HostCall) (args results : List Value) (c : Chained) : Type 0 where
  pub outer : (s : CallShapes) → HasCallShapes t first s → IsOutcomeOf m t first s args (passed_results c.inner) c.outer.params c.outer
  pub no_cause : (s : CallShapes) → HasCallShapes t first s → HasNoCause s args 0 (passed_results c.inner)
  pub inner : IsInner m t second results c.outer.params c.inner

-- Why a chain ends with an error: by a cause of the first call, whose callee made the second one with what it was given, and answered what came of
-- that.
pub record IsChainCause (m : WasmModule) (t : Tables) (first second : HostCall) (args results : List Value) (error : HostError) : Type 0 where
  pub given : Option (List Value)
  pub inner : Option HostOutcome
  pub last : ℕ
  pub passed : HasPassedOn m t second results given inner last
  pub reached : (s : CallShapes) → HasCallShapes t first s → IsReachedBy m t first s args given error
  pub cause : (s : CallShapes) → HasCallShapes t first s → IsHostCause s args last (passed_results inner) error
