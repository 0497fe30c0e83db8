-- What a fused module promises (`Promised`): its imports, its exports and what the runs of its functions do (`Faithful`), their order, its helpers, and
-- that it is valid. What an adapter's run makes of values is `IsFaithful` of fact_action_laws, by way of `Behaves`.
use Rattle.std.specs.Prelude.{◌≡◌, ℕ, true, false, ◌&&◌, not, List, Some, All, IsTrue, slice_get}
use Rattle.std.specs.List.{AllZip}
use Rattle.fact_wasm.specs.declared.instr.FuncName.{FuncName}
use Rattle.fact_wasm.specs.declared.instr.FuncName.TheVariants as func
use Rattle.fact_wasm.specs.declared.module.WasmModule.{WasmModule}
use Rattle.fact_machine.specs.Typing.{typed_module}
use Rattle.fact_types.specs.declared.import.Import.{Import}
use Rattle.fact_types.specs.Adapters.{LinkedAdapter, is_async, is_crossing}
use Rattle.fact_actions.specs.Adapters.{AdapterTunables}
use Rattle.fact_emit.specs.ImportSection.{NamesImports, is_awaited}
use Rattle.fact_compound.specs.AsyncParts.{callee_name, part_name}
use Rattle.fact_compound.specs.declared.asyncs.AsyncPart.{AsyncPart}
use Rattle.fact_compound.specs.declared.asyncs.AsyncPart.TheVariants as part
use Rattle.fact_function_laws.specs.AsyncRuns.{HandsOver, Transfers}
use Rattle.fact_function_laws.specs.Runs.{Behaves, OnlyTraps}
use Rattle.fact_assembly.specs.Exports.{IsExportOf, exported, exported_as}
use Rattle.fact_assembly.specs.Order.{IsOrdered}
use Rattle.fact_assembly.specs.Outlines.{IsOutlined}
use Rattle.fact_emit.specs.declared.tunables.Tunables.{Tunables}
use Rattle.fact_emit.specs.declared.tunables.WasmFeatures.{WasmFeatures}

-- what the actions of adapters hang on
abbrev pub adapter_tunables : Tunables → WasmFeatures → AdapterTunables
adapter_tunables t f = record { concurrency = t.concurrency_support; exceptions = f.exceptions; debug = t.debug_adapter_modules }

-- The import section names the imports, the exports are exactly the adapters' names, the function of each sync adapter between two
-- instances behaves: it carries the adapter's values; and that of each adapter within one instance only traps. Of an async adapter between two
-- instances, one function carries the parameters and one the results, and the one that has its name hands the call to the runtime. The
-- adapters' functions have results whose tuples are known to the runtime by these numbers, by the adapters' places.
pub record Faithful (m : WasmModule) (is : List Import) (u : AdapterTunables) (adapters : List LinkedAdapter) (tuples : ℕ → ℕ) : Type 0 where
  pub imports : NamesImports m is adapters
  pub exports : AllZip (IsExportOf m is) m.exports (exported adapters)
  pub behaves : All (λ a. IsTrue (not (is_async a) && is_crossing a) → (k : ℕ) → exported_as a.name m.exports ≡ Some (func.Defined k) → Behaves m is u a k) adapters
  pub traps : All (λ a. is_crossing a ≡ false → (k : ℕ) → exported_as a.name m.exports ≡ Some (func.Defined k) → OnlyTraps m is a k) adapters
  pub transfers : All (λ a. IsTrue (is_awaited a) → (x : AsyncPart) (k : ℕ) → exported_as (part_name x a.name) m.exports ≡ Some (func.Defined k) → Transfers x m is u a k) adapters
  pub hands_over : (place : ℕ) (a : LinkedAdapter) (start return callee : FuncName) (k : ℕ) → slice_get adapters place ≡ Some a → is_awaited a ≡ true
      → exported_as (part_name part.Start a.name) m.exports ≡ Some start → exported_as (part_name part.Return a.name) m.exports ≡ Some return
      → exported_as (callee_name a.name) m.exports ≡ Some callee → exported_as a.name m.exports ≡ Some (func.Defined k)
      → HandsOver m is a (record { start = start; return = return; callee = callee; results = tuples place }) k

-- All that the module of these adapters promises that was made with these tunables and features, whose import section names
-- the imports. It is valid besides (core specification, "Validation", "Modules").
pub record Promised (m : WasmModule) (is : List Import) (tunables : Tunables) (features : WasmFeatures) (adapters : List LinkedAdapter) (tuples : ℕ → ℕ) : Type 0 where
  pub faithful : Faithful m is (adapter_tunables tunables features) adapters tuples
  pub order : IsOrdered m is adapters
  pub outlined : IsOutlined m tunables.fuel adapters
  pub typed : typed_module m ≡ true
