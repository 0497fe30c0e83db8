-- The module of adapters keeps its promise, and is in range.
use Rattle.std.proofs.Common.{◌≡◌, ◌≢◌, ℕ, ◌+◌, ◌<◌, ◌^◌, Bool, true, false, List, ◌++◌, Some, All, AllPairs, refl, sym, subst, arith, length, slice_get, get_or}
use Rattle.std.specs.Prelude.{not}
use Rattle.std.specs.List.{flat_map}
use Rattle.std.proofs.lemmas.Option.{slice_get-get_or}
use Rattle.fact_wasm.specs.declared.instr.FuncName.TheVariants as func
use Rattle.fact_wasm.specs.Ranges.{InRange}
use Rattle.fact_types.specs.Adapters.{LinkedAdapter, is_async, is_crossing}
use Rattle.fact_types.specs.Tables.{Tables}
use Rattle.fact_wasm.specs.declared.types.FuncType.{FuncType}
use Rattle.fact_adapter_rules.specs.Bindings.{AreConsistent}
use Rattle.fact_adapter_rules.specs.AdapterRules.{export_names, uses_of}
use Rattle.fact_actions.specs.Adapters.{AdapterTunables}
use Rattle.fact_actions.proofs.States.{and_left, and_right}
use Rattle.fact_emit.specs.ImportSection.{is_awaited, mentions}
use Rattle.fact_emit.specs.States.{ModuleSoFar, functions_of, module_of}
use Rattle.fact_emit.proofs.ListedLaws.{listed_even}
use Rattle.fact_compound.specs.AsyncParts.{part_name}
use Rattle.fact_compound.specs.declared.asyncs.AsyncPart.{AsyncPart}
use Rattle.fact_compound.specs.declared.asyncs.AsyncPart.TheVariants as part
use Rattle.fact_assembly.specs.Sound.{IsSoundAdapter}
use Rattle.fact_function_laws.specs.AsyncRuns.{Transfers}
use Rattle.fact_function_laws.specs.Runs.{Behaves, OnlyTraps}
use Rattle.fact_assembly.specs.Adding.{Given}
use Rattle.fact_assembly.specs.Exports.{exported_as}
use Rattle.fact_assembly.specs.Faithful.{Promised, adapter_tunables}
use Rattle.fact_assembly.specs.Holding.{HasNoSharedMemory, HoldTypesOnce, Holds, first_function, own_names}
use Rattle.fact_emit.specs.declared.tunables.Tunables.{Tunables}
use Rattle.fact_emit.specs.declared.tunables.WasmFeatures.{WasmFeatures}
use Rattle.fact_assembly.proofs.CompiledLaws.{not-awaited-sync, not-awaited-within}
use Rattle.fact_assembly.proofs.NameLaws.{exported-own}
use Rattle.fact_assembly.proofs.OutlinedLaws.{outlined-module}
use Rattle.fact_assembly.proofs.PartLaws.{bodies_in_range, count_is, is_ordered, names_imports}
use Rattle.fact_assembly.proofs.WholeEntries.{each_typed, hands-over}
use Rattle.fact_assembly.proofs.WholeExports.{exports-are, exports-within}
use Rattle.fact_assembly.proofs.WholeFunctions.{function_behaves, function_only_traps, function_transfers}
use Rattle.fact_assembly.proofs.WholeTyped.{typed-module}

module _ (t : Tables) (tunables : Tunables) (features : WasmFeatures) (s : ModuleSoFar) (adapters : List LinkedAdapter) (tuples : ℕ → ℕ) (cores : List FuncType) (h : Holds t (adapter_tunables tunables features) (record { fuel = tunables.fuel; cores = cores }) s adapters tuples)
    (sound : All IsSoundAdapter adapters) (consistent : AreConsistent (flat_map uses_of adapters)) (distinct : AllPairs (λ x y. x ≢ y) (flat_map export_names adapters)) where
  abbrev settings : AdapterTunables
  settings = adapter_tunables tunables features

  abbrev given : Given
  given = record { fuel = tunables.fuel; cores = cores }

  -- what is exported under the name of one of an adapter's functions is that function
  its_number : (j i : ℕ) (a : LinkedAdapter) (x : List ℕ) → slice_get adapters j ≡ Some a → slice_get (own_names a) i ≡ Some x → (k : ℕ) → exported_as x (s.exports ++ s.callees) ≡ Some (func.Defined k) → first_function h.counts adapters j + i ≡ k
  its_number j i a x here named k found =
      let is = exported-own (module_of s) s.imports s.exports s.callees h.counts adapters distinct h.exports h.callees j i a x here named (func.Defined k) found in
      let same : func.Defined k ≡ func.Defined (first_function h.counts adapters j + i) = is in
      cc

  -- of an adapter whose call is not handed on that is its only function
  only_name : (a : LinkedAdapter) → is_awaited a ≡ false → slice_get (own_names a) 0 ≡ Some a.name
  only_name a sync = rw sync refl

  behaves : (j : ℕ) (a : LinkedAdapter) → slice_get adapters j ≡ Some a → is_async a ≡ false → is_crossing a ≡ true → (k : ℕ) → exported_as a.name (s.exports ++ s.callees) ≡ Some (func.Defined k) → Behaves (module_of s) s.imports settings a k
  behaves j a here sync crosses k found =
      let number = its_number j 0 a a.name here (only_name a (not-awaited-sync a sync)) k found in
      subst (λ n. Behaves (module_of s) s.imports settings a n) (omega (arith, number)) (function_behaves t settings given s adapters tuples h sound consistent j a here crosses sync)

  only_traps : (j : ℕ) (a : LinkedAdapter) → slice_get adapters j ≡ Some a → is_crossing a ≡ false → (k : ℕ) → exported_as a.name (s.exports ++ s.callees) ≡ Some (func.Defined k) → OnlyTraps (module_of s) s.imports a k
  only_traps j a here within k found =
      let number = its_number j 0 a a.name here (only_name a (not-awaited-within a within)) k found in
      subst (λ n. OnlyTraps (module_of s) s.imports a n) (omega (arith, number)) (function_only_traps t settings given s adapters tuples h sound consistent j a here within)

  transfers : (j : ℕ) (a : LinkedAdapter) → slice_get adapters j ≡ Some a → is_awaited a ≡ true → (x : AsyncPart) (k : ℕ) → exported_as (part_name x a.name) (s.exports ++ s.callees) ≡ Some (func.Defined k)
      → Transfers x (module_of s) s.imports settings a k
  transfers j a here awaited part.Start k found =
      subst (λ n. Transfers part.Start (module_of s) s.imports settings a n) (its_number j 0 a (part_name part.Start a.name) here (rw awaited refl) k found)
      (function_transfers t settings given s adapters tuples h sound consistent j a here awaited part.Start)
  transfers j a here awaited part.Return k found =
      subst (λ n. Transfers part.Return (module_of s) s.imports settings a n) (its_number j 1 a (part_name part.Return a.name) here (rw awaited refl) k found)
      (function_transfers t settings given s adapters tuples h sound consistent j a here awaited part.Return)

  pub whole-promised : HoldTypesOnce t cores → All HasNoSharedMemory adapters → Promised (module_of s) s.imports tunables features adapters tuples
  whole-promised once unshared = record {
    faithful = record {
      imports = names_imports s adapters h.lists;
      exports = exports-are t settings given s adapters tuples h sound;
      behaves = λ j d below sync k found.
          let a = get_or adapters j d in
          behaves j a (slice_get-get_or adapters j d below) (not-false (is_async a) (and_left (not (is_async a)) (is_crossing a) sync)) (and_right (not (is_async a)) (is_crossing a) sync) k found;
      traps = λ j d below within k found. only_traps j (get_or adapters j d) (slice_get-get_or adapters j d below) within k found;
      transfers = λ j d below awaited x k found. transfers j (get_or adapters j d) (slice_get-get_or adapters j d below) awaited x k found;
      hands_over = hands-over t settings given s adapters tuples h sound consistent distinct;
    };
    outlined = outlined-module t tunables features s adapters tuples cores h sound consistent once unshared;
    order = is_ordered s adapters h.in_parts h.callees;
    typed = typed-module t settings given s adapters tuples h sound distinct (each_typed t settings given s adapters tuples h sound consistent);
  }
    where
      not-false : (b : Bool) → not b ≡ true → b ≡ false
      not-false true e = sym e
      not-false false e = refl

  pub whole-range : length (functions_of s) + length s.functions < 2 ^ 32 → InRange (module_of s)
  whole-range few =
      let count = count_is s (listed_even s (mentions adapters) adapters h.lists) in
      record {
        count = omega (arith, few, count);
        bodies = bodies_in_range s adapters h.lists h.bodies;
        exports = exports-within s count h.counts adapters h.exports h.callees h.count;
      }
