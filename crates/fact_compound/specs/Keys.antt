-- The keys of the helpers that the functions of an adapter ask for.
use Rattle.std.specs.Prelude.{◌≡◌, ℕ, Bool, true, false, List, [], ◌++◌, map}
use Rattle.std.specs.List.{AllZip, Contains}
use Rattle.fact_wasm.specs.declared.module.WasmFunc.{WasmFunc}
use Rattle.fact_types.specs.Adapters.{LinkedAdapter}
use Rattle.fact_types.specs.Tables.{Tables}
use Rattle.fact_actions.specs.Adapters.{AdapterTunables}
use Rattle.fact_actions.specs.Outlining.{HelperKey, asks_of, params_route, results_route, translates_params, translates_results, translates_then}
use Rattle.fact_emit.specs.Asked.{AskedHelper}
use Rattle.fact_emit.specs.NamedFunctions.{defined_named}
use Rattle.fact_kinds.specs.Translations.{IsKeyOf}
use Rattle.fact_kinds.specs.declared.fuel.Fuel.{Fuel}
use Rattle.fact_compound.specs.Described.{DescribesTransfers}
use Rattle.fact_compound.specs.Passed.{TranslatesParams, TranslatesResults, params_sides, results_sides}
use Rattle.fact_compound.specs.declared.adapters.AdapterData.{AdapterData}
use Rattle.fact_compound.specs.declared.asyncs.AsyncPart.{AsyncPart}
use Rattle.fact_compound.specs.declared.asyncs.AsyncPart.TheVariants as part

-- A helper that an adapter's code asks for, and its key, which the translation of parameters asks for, or that of results.
pub data IsKeyOfAdapter (t : Tables) (d : AdapterData) (debug concurrency : Bool) (a : LinkedAdapter) (x : AskedHelper) (k : HelperKey) : Type 0 where
  AmongParams : (fuel left : ℕ) → Contains (translates_params fuel a left).asked k → IsKeyOf t (params_sides d debug concurrency) (params_route a) x k → IsKeyOfAdapter t d debug concurrency a x k
  AmongResults : (fuel left : ℕ) → Contains (translates_results fuel a left).asked k → IsKeyOf t (results_sides d debug concurrency) (results_route a) x k → IsKeyOfAdapter t d debug concurrency a x k

-- The code of a function names, of those that the module defines, the functions of these helpers, front to back, and these are their keys.
pub record AsksKeys (t : Tables) (d : AdapterData) (debug concurrency : Bool) (a : LinkedAdapter) (asks : List AskedHelper) (f : WasmFunc) (keys : List HelperKey) : Type 0 where
  pub named : defined_named f.body ≡ map (λ (x : AskedHelper). x.number) asks
  pub are : AllZip (IsKeyOfAdapter t d debug concurrency a) asks keys

-- ---- whole functions

-- The steps of a sync adapter move its parameters, unless they are handed on as they are, and then its results.
pub record TranslatesSync (t : Tables) (d : AdapterData) (debug concurrency passed : Bool) (before after : Fuel) (asks : List AskedHelper) : Type 0 where
  pub between : Fuel
  pub first : List AskedHelper
  pub second : List AskedHelper
  pub is : asks ≡ first ++ second
  pub params : passed ≡ false → TranslatesParams t d debug concurrency before between first
  pub none : passed ≡ true → (first ≡ []) × (between ≡ before)
  pub results : TranslatesResults t d debug concurrency between after second

-- what the function of a sync adapter asks for
abbrev pub sync_asks : (fuel : ℕ) → LinkedAdapter → List HelperKey
sync_asks fuel a = asks_of fuel (λ n. translates_then (λ m. translates_params fuel a m) (λ m. translates_results fuel a m) n)

-- what the functions of an async adapter move, and ask for
abbrev pub TranslatesPart : AsyncPart → Tables → AdapterData → (debug concurrency : Bool) → (before after : Fuel) → List AskedHelper → Type 0
TranslatesPart part.Start t d debug concurrency before after asks = TranslatesParams t d debug concurrency before after asks
TranslatesPart part.Return t d debug concurrency before after asks = TranslatesResults t d debug concurrency before after asks

abbrev pub part_asks : AsyncPart → (fuel : ℕ) → LinkedAdapter → List HelperKey
part_asks part.Start fuel a = asks_of fuel (λ n. translates_params fuel a n)
part_asks part.Return fuel a = asks_of fuel (λ n. translates_results fuel a n)

-- Two functions that move parameters and results ask for these together.
pub record PartsAskKeys (t : Tables) (d : AdapterData) (debug concurrency : Bool) (fuel : ℕ) (asks : List AskedHelper) (start return : WasmFunc) : Type 0 where
  pub first : List AskedHelper
  pub second : List AskedHelper
  pub is : asks ≡ first ++ second
  pub starts : (u : AdapterTunables) (a : LinkedAdapter) → DescribesTransfers t d debug u a → AsksKeys t d debug concurrency a first start (part_asks part.Start fuel a)
  pub returns : (u : AdapterTunables) (a : LinkedAdapter) → DescribesTransfers t d debug u a → AsksKeys t d debug concurrency a second return (part_asks part.Return fuel a)
