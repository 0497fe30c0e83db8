-- Cited by private clauses alone.
-- What one adapter adds to a module that is being made.
use Rattle.std.specs.Prelude.{◌≡◌, ℕ, true, false, List, [], ◌∷◌, Some, length, slice_get}
use Rattle.fact_wasm.specs.declared.module.WasmFunc.{WasmFunc}
use Rattle.fact_wasm.specs.declared.types.FuncType.{FuncType}
use Rattle.fact_types.specs.Adapters.{LinkedAdapter, Side, is_async, is_crossing, is_wide}
use Rattle.fact_types.specs.Functions.{HasSignature}
use Rattle.fact_types.specs.Tables.{Tables}
use Rattle.fact_actions.specs.Adapters.{AdapterTunables}
use Rattle.fact_emit.specs.AdapterImports.{IsAdapterImported}
use Rattle.fact_emit.specs.ImportSection.{is_awaited}
use Rattle.fact_emit.specs.States.{ModuleSoFar, with_numbered}
use Rattle.fact_emit.specs.Asked.{AskedHelper}
use Rattle.fact_compound.specs.Asks.{AsksFor, IsLaterModule}
use Rattle.fact_compound.specs.Asyncs.{CompiledAsync}
use Rattle.fact_compound.specs.Described.{DescribesAdapter, is_marked_type}
use Rattle.fact_compound.specs.Entries.{tuple_of_results}
use Rattle.fact_compound.specs.Functions.{CompiledSync}
use Rattle.fact_compound.specs.Helpers.{CompiledHelpers, HelpersAreThere}
use Rattle.fact_compound.specs.Keys.{AsksKeys, PartsAskKeys, sync_asks}
use Rattle.fact_compound.specs.SameInstance.{CompiledSameInstance}
use Rattle.fact_compound.specs.declared.adapters.AdapterData.{AdapterData}
use Rattle.fact_compound.specs.declared.adapters.AdapterOptions.{AdapterOptions}
use Rattle.fact_assembly.specs.Exports.{exported_functions_of}
use Rattle.fact_assembly.specs.ImportedData.{imports_of_data, page_size_log2_of}

-- what functions are compiled by besides the tunables of actions: the fuel of each, and the core function types that options name
pub record Given : Type 0 where
  pub fuel : ℕ
  pub cores : List FuncType

-- the data of a side: its instance, its function type, whether it is async and whether its function type is marked so, its encoding, the
-- width and the page size of its memory, and its core type
pub record HasSideData (t : Tables) (cores : List FuncType) (s : Side) (d : AdapterOptions) : Type 0 where
  pub instance : d.instance.number ≡ s.instance
  pub signature : HasSignature t d.ty s.params s.results
  pub async_side : d.options.async_ ≡ s.async_side
  pub marked : is_marked_type t d.ty ≡ s.async_type
  pub encoding : d.options.string_encoding ≡ s.encoding
  pub memory64 : d.options.linear.memory64 ≡ is_wide s.memory
  pub page_size_log2 : d.options.linear.page_size_log2 ≡ page_size_log2_of s.memory
  pub core_type : slice_get cores d.options.core_type.number ≡ Some s.core_type

-- How an adapter was compiled: within one instance, as a sync one between two, or as an async one between two. Its functions are those of later
-- modules that have the helpers of the module at its end.
pub data CompiledAs (end : ModuleSoFar) (t : Tables) (d : AdapterData) (u : AdapterTunables) (a : LinkedAdapter) (old new : ModuleSoFar) : Type 0 where
  AsTrap : is_crossing a ≡ false → CompiledSameInstance t d old new → CompiledAs end t d u a old new
  AsSync : is_crossing a ≡ true → is_async a ≡ false → CompiledSync (λ M p. IsLaterModule M p end) t d u.debug u.concurrency u.exceptions old new → CompiledAs end t d u a old new
  AsParts : is_awaited a ≡ true → CompiledAsync (λ M p. IsLaterModule M p end) t d u.debug u.concurrency old new → CompiledAs end t d u a old new

-- the functions that it got, in order
abbrev pub own_functions : {end : ModuleSoFar} {t : Tables} {d : AdapterData} {u : AdapterTunables} {a : LinkedAdapter} {old new : ModuleSoFar} → CompiledAs end t d u a old new → List WasmFunc
own_functions (AsTrap within c) = c.function ∷ []
own_functions (AsSync crosses sync c) = c.function ∷ []
own_functions (AsParts awaited c) = c.start.function ∷ c.return.function ∷ c.entry.function ∷ []

-- With such fuel they ask for what the adapter's translations ask for.
abbrev pub OwnKeys : {end : ModuleSoFar} {t : Tables} {d : AdapterData} {u : AdapterTunables} {a : LinkedAdapter} {old new : ModuleSoFar} → (fuel : ℕ) → List AskedHelper → CompiledAs end t d u a old new → Type 0
OwnKeys fuel asks (AsTrap within c) = asks ≡ []
OwnKeys {t = t} {d = d} {u = u} {a = a} fuel asks (AsSync crosses sync c) = DescribesAdapter t d u.debug u a → AsksKeys t d u.debug u.concurrency a asks c.function (sync_asks fuel a)
OwnKeys {t = t} {d = d} {u = u} fuel asks (AsParts awaited c) = PartsAskKeys t d u.debug u.concurrency fuel asks c.start.function c.return.function

-- an adapter's own functions are numbered ahead
abbrev pub numbered_for : LinkedAdapter → ModuleSoFar → ModuleSoFar
numbered_for a s = with_numbered s (length (exported_functions_of a))

-- An adapter adds the imports of what it names, in order, and then its functions, which are numbered and then written by the places of these imports, and
-- behind them the helpers that these ask for, by their fuel, and that no function asked for before. The tuple of the results of its lift side's function type has this number.
pub record Adds (t : Tables) (u : AdapterTunables) (given : Given) (old new : ModuleSoFar) (a : LinkedAdapter) (tuple : ℕ) : Type 0 where
  pub «data» : AdapterData
  pub name : «data».name ≡ a.name
  pub transparent : «data».transparent ≡ a.transparent
  pub lift : HasSideData t given.cores a.lift «data».lift
  pub tuple_is : tuple_of_results t «data».lift.ty ≡ tuple
  pub lower : HasSideData t given.cores a.lower «data».lower
  pub imported : ModuleSoFar
  pub is_imported : IsAdapterImported old imported a (imports_of_data «data»)
  pub own : ModuleSoFar
  pub compiled : CompiledAs new t «data» u a (numbered_for a imported) own
  pub asks : List AskedHelper
  pub asked : AsksFor t u.debug u.concurrency asks (numbered_for a imported) own
  pub keys : OwnKeys given.fuel asks compiled
  pub helpers : CompiledHelpers t u.debug u.concurrency given.fuel (length imported.helpers) own new
  pub there : HelpersAreThere t u.debug u.concurrency given.fuel new

-- the helpers that came behind its functions
abbrev pub helper_functions : {t : Tables} {u : AdapterTunables} {given : Given} {old new : ModuleSoFar} {a : LinkedAdapter} {tuple : ℕ} → Adds t u given old new a tuple → List WasmFunc
helper_functions add = add.helpers.written
