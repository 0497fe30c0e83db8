-- Adapters as they are put into a module.
use Rattle.std.specs.Prelude.{◌≡◌, ◌≢◌, ℕ, ◌-◌, ◌++◌, Bool, true, false, List, [], length}
use Rattle.fact_wasm.specs.declared.module.WasmFunc.{WasmFunc}
use Rattle.fact_types.specs.Adapters.{LinkedAdapter}
use Rattle.fact_types.specs.Tables.{Tables}
use Rattle.fact_actions.specs.Adapters.{AdapterTunables}
use Rattle.fact_emit.specs.Asked.{AskedHelper, HasHelpers}
use Rattle.fact_emit.specs.Imports.{Extended}
use Rattle.fact_emit.specs.States.{ModuleSoFar, with_numbered}
use Rattle.fact_compound.specs.Asks.{AsksFor, IsLaterModule}
use Rattle.fact_compound.specs.Asyncs.{CompiledAsync}
use Rattle.fact_compound.specs.Described.{DescribesAdapter, is_async_data}
use Rattle.fact_compound.specs.Functions.{CompiledSync}
use Rattle.fact_compound.specs.Keys.{AsksKeys, PartsAskKeys, sync_asks}
use Rattle.fact_compound.specs.Helpers.{CompiledHelpers, HelpersAreThere}
use Rattle.fact_compound.specs.SameInstance.{CompiledSameInstance}
use Rattle.fact_compound.specs.declared.adapters.AdapterData.{AdapterData}

-- An adapter's own functions were compiled, behind numbers for them. Their code asks for these helpers, which are those that the adapter's translations ask for
-- with such fuel.
pub record CompiledOwn (t : Tables) (d : AdapterData) (debug concurrency exceptions : Bool) (fuel : ℕ) (old new : ModuleSoFar) : Type 0 where
  pub count : ℕ
  pub more : List WasmFunc
  pub functions : new.functions ≡ old.functions ++ more
  pub count_is : length more ≡ count
  pub imports : Extended old new
  pub ahead : Extended (with_numbered old count) new
  pub asks : List AskedHelper
  pub asked : AsksFor t debug concurrency asks (with_numbered old count) new
  pub within : d.lift.instance.number ≡ d.lower.instance.number → CompiledSameInstance t d (with_numbered old 1) new
  pub in_sync : d.lift.instance.number ≢ d.lower.instance.number → is_async_data t d ≡ false → CompiledSync (λ M p. HasHelpers M p asks) t d debug concurrency exceptions (with_numbered old 1) new
  pub in_parts : d.lift.instance.number ≢ d.lower.instance.number → is_async_data t d ≡ true → CompiledAsync (λ M p. HasHelpers M p asks) t d debug concurrency (with_numbered old 3) new
  pub sync_keys : (other : d.lift.instance.number ≢ d.lower.instance.number) (sync : is_async_data t d ≡ false) (u : AdapterTunables) (a : LinkedAdapter) → DescribesAdapter t d debug u a → AsksKeys t d debug concurrency a asks (in_sync other sync).function (sync_asks fuel a)
  pub part_keys : (other : d.lift.instance.number ≢ d.lower.instance.number) (async : is_async_data t d ≡ true) → PartsAskKeys t d debug concurrency fuel asks (in_parts other async).start.function (in_parts other async).return.function
  pub none_asked : d.lift.instance.number ≡ d.lower.instance.number → asks ≡ []

-- An adapter was compiled: its function traps at each call where both sides have one instance; where they have two, it has the function of a
-- sync adapter, or the three functions of an async one, in every later module that has the helpers which these ask for. They were numbered before
-- they were written, and ask for those that the adapter's translations ask for with such fuel. Behind them stand the functions of the helpers that were asked for
-- and had none.
pub record Compiled (t : Tables) (d : AdapterData) (debug concurrency exceptions : Bool) (fuel : ℕ) (old new : ModuleSoFar) : Type 0 where
  pub own : ModuleSoFar
  pub asks : List AskedHelper
  pub asked : AsksFor t debug concurrency asks (with_numbered old (length own.functions - length old.functions)) own
  pub within : d.lift.instance.number ≡ d.lower.instance.number → CompiledSameInstance t d (with_numbered old 1) own
  pub in_sync : d.lift.instance.number ≢ d.lower.instance.number → is_async_data t d ≡ false → CompiledSync (λ M p. IsLaterModule M p new) t d debug concurrency exceptions (with_numbered old 1) own
  pub in_parts : d.lift.instance.number ≢ d.lower.instance.number → is_async_data t d ≡ true → CompiledAsync (λ M p. IsLaterModule M p new) t d debug concurrency (with_numbered old 3) own
  pub sync_keys : (other : d.lift.instance.number ≢ d.lower.instance.number) (sync : is_async_data t d ≡ false) (u : AdapterTunables) (a : LinkedAdapter) → DescribesAdapter t d debug u a → AsksKeys t d debug concurrency a asks (in_sync other sync).function (sync_asks fuel a)
  pub part_keys : (other : d.lift.instance.number ≢ d.lower.instance.number) (async : is_async_data t d ≡ true) → PartsAskKeys t d debug concurrency fuel asks (in_parts other async).start.function (in_parts other async).return.function
  pub none_asked : d.lift.instance.number ≡ d.lower.instance.number → asks ≡ []
  pub helpers : CompiledHelpers t debug concurrency fuel (length old.helpers) own new
  pub there : HelpersAreThere t debug concurrency fuel new
