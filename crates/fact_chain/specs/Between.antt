-- Two calls of adapters, the second one made by the callee of the first, and what came of the second one.
use Rattle.std.specs.Prelude.{◌≡◌, ◌⊎◌, ℕ, List, Option, Some, None}
use Rattle.fact_wasm.specs.declared.module.WasmModule.{WasmModule}
use Rattle.fact_types.specs.Tables.{Tables}
use Rattle.fact_values.specs.declared.value.Value.{Value}
use Rattle.fact_host.specs.declared.calling.HostCall.{HostCall}
use Rattle.fact_host.specs.declared.calling.HostOutcome.{HostOutcome}
use Rattle.fact_host.specs.declared.callee.HostError.{HostError}
use Rattle.fact_host.specs.declared.callee.HostError.TheVariants.{OutOfMemory, NoResults}
use Rattle.fact_host.specs.Callees.{number_of_error}
use Rattle.fact_host.specs.Contract.{AreTypesLive, HasNoCause, IsCallable, IsHostCause, IsOutcomeOf}
use Rattle.fact_host.specs.Describes.{HasCallShapes}
use Rattle.fact_host.specs.Rules.{CallShapes}

-- ---- what is asked of the two calls

-- A call that the host can run, of live types.
pub record CanBeRun (m : WasmModule) (t : Tables) (c : HostCall) : Type 0 where
  pub shapes : CallShapes
  pub callable : IsCallable m t c shapes
  pub live : AreTypesLive t c

-- The callee of the first call has the function type with which the second one is called.
pub record AreJoined (first second : HostCall) : Type 0 where
  pub params : first.lift.params ≡ second.lower.params
  pub results : first.lift.results ≡ second.lower.results

-- ---- what came of the second call

-- a callee of these results answered them, or was not asked
abbrev pub IsScripted : (results : List Value) → (answered : Option (List Value)) → Type 0
IsScripted results answered = (answered ≡ None) ⊎ (answered ≡ Some results)

-- An outcome of the second call with these parameters, whose own callee answers these results.
pub record IsSecondOutcome (m : WasmModule) (t : Tables) (second : HostCall) (params results : List Value) (o : HostOutcome) : Type 0 where
  pub answered : Option (List Value)
  pub scripted : IsScripted results answered
  pub outcome : (s : CallShapes) → HasCallShapes t second s → IsOutcomeOf m t second s params answered None o
  pub no_cause : (s : CallShapes) → HasCallShapes t second s → HasNoCause s params 0 answered

-- The second call ended with this error, which has a cause.
abbrev pub IsSecondError : Tables → (second : HostCall) → (params results : List Value) → HostError → Type 0
IsSecondError t second params results error = (s : CallShapes) → HasCallShapes t second s → IsHostCause s params 0 (Some results) error

-- what the callee between answered: what the caller of the second call got
abbrev pub passed_results : Option HostOutcome → Option (List Value)
passed_results None = None
passed_results (Some o) = o.results

-- a call whose caller got nothing is answered by an error of its own
abbrev pub IsNumberBy : (results : Option (List Value)) → (last : ℕ) → Type 0
IsNumberBy None last = last ≡ number_of_error NoResults
IsNumberBy (Some values) last = last ≡ 0

-- What a callee between was given last, the outcome of its call with that, and the number of the error that it answered: it was not called
-- yet, or lacked memory; its call ended with an error; or it has an outcome.
abbrev pub HasPassedOn : WasmModule → Tables → (second : HostCall) → (results : List Value) → (given : Option (List Value)) → (inner : Option HostOutcome) → (last : ℕ) → Type 0
HasPassedOn m t second results None None last = (last ≡ 0) ⊎ (last ≡ number_of_error OutOfMemory)
HasPassedOn m t second results None (Some o) last = ⊥
HasPassedOn m t second results (Some params) None last = (error : HostError) × (last ≡ number_of_error error) × IsSecondError t second params results error
HasPassedOn m t second results (Some params) (Some o) last = IsSecondOutcome m t second params results o × IsNumberBy o.results last
