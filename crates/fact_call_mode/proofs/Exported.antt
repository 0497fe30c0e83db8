-- The function of an adapter, which its module exports under its name.
use Rattle.std.proofs.Common.{◌≡◌, ℕ, zero, suc, Bool, true, false, List, [], ◌∷◌, Contains, Some, None, refl, sym, ap, ◌∙◌, subst, arith, slice_get}
use Rattle.std.specs.Prelude.{◌&&◌, ◌||◌, if◌then◌else◌, not}
use Rattle.std.specs.Cmp.{first_so, second_so}
use Rattle.std.specs.List.{AllZip, flat_map, list_all, list_any}
use Rattle.std.specs.Str.{bytes_eq}
use Rattle.std.proofs.lemmas.Bool.{false≢true, true≢false}
use Rattle.std.proofs.lemmas.List.Elements.{Contains-append_left}
use Rattle.std.proofs.lemmas.Slice.Eq.{bytes_eq-Decides}
use Rattle.fact_wasm.specs.declared.instr.FuncName.{FuncName}
use Rattle.fact_wasm.specs.declared.instr.FuncName.TheVariants as func
use Rattle.fact_wasm.specs.declared.module.WasmExport.{WasmExport}
use Rattle.fact_wasm.specs.declared.module.WasmModule.{WasmModule}
use Rattle.fact_machine.specs.Typing.{are_distinct, is_typed_export, is_typed_function, is_typed_import, typed_module}
use Rattle.fact_types.specs.Adapters.{LinkedAdapter, is_async, is_crossing}
use Rattle.fact_types.specs.declared.import.Import.{Import}
use Rattle.fact_types.proofs.ShapeLaws.{none_some}
use Rattle.fact_emit.specs.ImportSection.{is_awaited}
use Rattle.fact_emit.proofs.ImportLists.{get-there}
use Rattle.fact_assembly.specs.Exports.{IsExportOf, Own, callee_of, defined_type, exported, exported_as, exported_functions_of}
use Rattle.fact_assembly.proofs.WholeExports.{in-flat}

-- ---- names that are distinct

left_of : (a b : Bool) → a || b ≡ false → a ≡ false
left_of true b e = e
left_of false b e = refl

right_of : (a b : Bool) → a || b ≡ false → b ≡ false
right_of true b e = absurd (true≢false e)
right_of false b e = e

not_so : (b : Bool) → not b ≡ true → b ≡ false
not_so true e = absurd (false≢true e)
not_so false e = refl

none_at : (p : WasmExport → Bool) (es : List WasmExport) (i : ℕ) (e : WasmExport) → slice_get es i ≡ Some e → list_any p es ≡ false → p e ≡ false
none_at p [] i e h n = cc
none_at p (x ∷ es) zero e h n = let same : x ≡ e = cc in subst (λ y. p y ≡ false) same (left_of (p x) (list_any p es) n)
none_at p (x ∷ es) (suc i) e h n = none_at p es i e h (right_of (p x) (list_any p es) n)

-- what is exported is found under its name
found_as : (es : List WasmExport) → are_distinct es ≡ true → (i : ℕ) (e : WasmExport) → slice_get es i ≡ Some e → exported_as e.name es ≡ Some e.func
found_as [] d i e h = cc
found_as (x ∷ es) d zero e h =
    let same : x ≡ e = cc in
    subst (λ (y : WasmExport). exported_as y.name (x ∷ es) ≡ Some y.func) same (ap (λ (b : Bool). if b then Some x.func else exported_as x.name es) ((bytes_eq-Decides x.name x.name).1 refl))
found_as (x ∷ es) d (suc i) e h =
    let others = not_so (list_any (λ y. bytes_eq x.name y.name) es) (first_so _ _ d) in
    let other : bytes_eq x.name e.name ≡ false = none_at (λ y. bytes_eq x.name y.name) es i e h others in
    ap (λ (b : Bool). if b then Some x.func else exported_as e.name es) other ∙ found_as es (second_so (not (list_any (λ y. bytes_eq x.name y.name) es)) _ d) i e h

distinct_names : (m : WasmModule) → typed_module m ≡ true → are_distinct m.exports ≡ true
distinct_names m typed =
    let rest = second_so (list_all (is_typed_import m) m.imports) (list_all (is_typed_export m) m.exports && (are_distinct m.exports && list_all (is_typed_function m) m.funcs)) typed in
    let last = second_so (list_all (is_typed_export m) m.exports) (are_distinct m.exports && list_all (is_typed_function m) m.funcs) rest in
    first_so (are_distinct m.exports) (list_all (is_typed_function m) m.funcs) last

-- ---- the export of an adapter

-- what stands beside an item of the second list
beside_second : {A B : Type 0} (R : A → B → Type 0) (xs : List A) (ys : List B) → AllZip R xs ys → (i : ℕ) (y : B) → slice_get ys i ≡ Some y → (x : A) × (slice_get xs i ≡ Some x) × R x y
beside_second R [] [] h i y e = cc
beside_second R [] (v ∷ ys) h i y e = absurd h
beside_second R (x ∷ xs) [] h i y e = absurd h
beside_second R (x ∷ xs) (v ∷ ys) h zero y e = let same : v ≡ y = cc in (x, refl, subst (R x) same h.0)
beside_second R (x ∷ xs) (v ∷ ys) h (suc i) y e = beside_second R xs ys h.1 i y e

own_there : (a : LinkedAdapter) → is_async a ≡ false → Contains (exported_functions_of a) (Own a.name a.lower.core_type)
own_there a sync = let none : is_awaited a ≡ false = ap (λ b. b && is_crossing a) sync in rw none (0, omega arith, refl)

-- a function that the module defines, of the core type of the adapter's lower side
pub record IsExported (m : WasmModule) (a : LinkedAdapter) : Type 0 where
  pub function : ℕ
  pub exported : exported_as a.name m.exports ≡ Some (func.Defined function)
  pub typed : defined_type m (func.Defined function) ≡ Some a.lower.core_type

pub is_exported : (m : WasmModule) (is : List Import) (adapters : List LinkedAdapter) (k : ℕ) (a : LinkedAdapter)
    → AllZip (IsExportOf m is) m.exports (exported adapters) → typed_module m ≡ true → slice_get adapters k ≡ Some a → is_async a ≡ false → IsExported m a
is_exported m is adapters k a exports typed at sync =
    let own : Contains (exported adapters) (Own a.name a.lower.core_type) =
    Contains-append_left (flat_map exported_functions_of adapters) (flat_map callee_of adapters) (Own a.name a.lower.core_type) (in-flat exported_functions_of adapters k a (Own a.name a.lower.core_type) at (own_there a sync)) in
    let (i, at_i) = get-there (exported adapters) (Own a.name a.lower.core_type) own in
    let (e, at_e, is_own) = beside_second (IsExportOf m is) m.exports (exported adapters) exports i (Own a.name a.lower.core_type) at_i in
    by e.func (ap (λ n. exported_as n m.exports) (sym is_own.0) ∙ found_as m.exports (distinct_names m typed) i e at_e) is_own.1
  where
    by : (f : FuncName) → exported_as a.name m.exports ≡ Some f → defined_type m f ≡ Some a.lower.core_type → IsExported m a
    by (func.Defined n) found of_type = record { function = n; exported = found; typed = of_type }
    by (func.Import n) found of_type = absurd (none_some None a.lower.core_type refl of_type)
