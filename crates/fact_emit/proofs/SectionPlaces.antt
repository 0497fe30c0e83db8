-- Imported functions by their numbers, and by their places in the import section.
use Rattle.std.proofs.Common.{◌≡◌, ℕ, zero, suc, List, [], ◌∷◌, Option, Some, refl, sym, ap, ◌∙◌, cond, slice_get}
use Rattle.fact_wasm.specs.declared.module.ImportType.{ImportType}
use Rattle.fact_wasm.specs.declared.module.ImportType.TheVariants as import
use Rattle.fact_wasm.specs.declared.module.WasmImport.{WasmImport}
use Rattle.fact_machine.specs.Machine.{func_import}
use Rattle.fact_types.specs.declared.import.Import.{Import}
use Rattle.fact_emit.specs.ImportSection.{a_function, imports_of, is_of, same_sort, sort_of}

-- how many functions are imported before a place of the section
pub functions_before : ℕ → List WasmImport → ℕ
functions_before zero ws = 0
functions_before (suc m) [] = 0
functions_before (suc m) (w ∷ ws) = cond (is_of a_function w) (suc (functions_before m ws)) (functions_before m ws)

-- Where the imported function of a number stands in the section.
pub record StandsIn (ws : List WasmImport) (is : List Import) (n : ℕ) (i : Import) (k : ℕ) : Type 0 where
  pub position : ℕ
  pub entry : WasmImport
  pub entry_there : slice_get ws position ≡ Some entry
  pub import_there : slice_get is position ≡ Some i
  pub type_is : entry.ty ≡ import.Func k
  pub number : n ≡ functions_before position ws

pub stands_in : (ws : List WasmImport) (is : List Import) (n : ℕ) (i : Import) (k : ℕ) → slice_get (imports_of a_function ws is) n ≡ Some i → func_import ws n ≡ Some k → StandsIn ws is n i k
unfolding functions_before
stands_in [] is n i k there imported = cc
stands_in (w ∷ ws) [] n i k there imported = cc
stands_in (w ∷ ws) (x ∷ is) n i k there imported = by w.ty refl n (λ m a b. stands_in ws is m i k a b) there imported
  where
    behind : List Import
    behind = imports_of a_function ws is

    counted : (m : ℕ) (ty : ImportType) → w.ty ≡ ty → functions_before (suc m) (w ∷ ws) ≡ cond (same_sort a_function (sort_of ty)) (suc (functions_before m ws)) (functions_before m ws)
    counted m ty e = ap (λ ty. cond (same_sort a_function (sort_of ty)) (suc (functions_before m ws)) (functions_before m ws)) e

    later : (ty : ImportType) → w.ty ≡ ty → (l : ℕ) (r : StandsIn ws is l i k) → (n : ℕ) → n ≡ cond (same_sort a_function (sort_of ty)) (suc (functions_before r.position ws)) (functions_before r.position ws)
        → StandsIn (w ∷ ws) (x ∷ is) n i k
    later ty e l r n is_n = record { position = suc r.position; entry = r.entry; entry_there = r.entry_there; import_there = r.import_there; type_is = r.type_is; number = is_n ∙ sym (counted r.position ty e) }

    by : (ty : ImportType) → w.ty ≡ ty → (n : ℕ) → ((m : ℕ) → slice_get behind m ≡ Some i → func_import ws m ≡ Some k → StandsIn ws is m i k)
        → slice_get (cond (same_sort a_function (sort_of ty)) (x ∷ behind) behind) n ≡ Some i
        → elim ty as (λ (t : ImportType). Option ℕ) [ import.Func u ↦ elim n [ zero ↦ Some u | suc m ↦ func_import ws m ] | import.Memory a b c ↦ func_import ws n | import.Global a b ↦ func_import ws n ] ≡ Some k
        → StandsIn (w ∷ ws) (x ∷ is) n i k
    by (import.Func u) e zero rest at is_k =
        let same : u ≡ k = cc in
        record { position = 0; entry = w; entry_there = refl; import_there = at; type_is = e ∙ ap import.Func same; number = refl }
    by (import.Func u) e (suc n) rest at is_k = let r = rest n at is_k in later (import.Func u) e n r (suc n) (ap suc r.number)
    by (import.Memory a b c) e n rest at is_k = let r = rest n at is_k in later (import.Memory a b c) e n r n r.number
    by (import.Global a b) e n rest at is_k = let r = rest n at is_k in later (import.Global a b) e n r n r.number

-- The number of the imported function that stands at a place of the section.
pub record IsNumbered (ws : List WasmImport) (is : List Import) (i : Import) (k : ℕ) : Type 0 where
  pub number : ℕ
  pub there : slice_get (imports_of a_function ws is) number ≡ Some i
  pub imported : func_import ws number ≡ Some k

pub numbered_at : (ws : List WasmImport) (is : List Import) (m : ℕ) (w : WasmImport) (i : Import) (k : ℕ) → slice_get ws m ≡ Some w → slice_get is m ≡ Some i → w.ty ≡ import.Func k → IsNumbered ws is i k
numbered_at [] is m w i k at is_at e = cc
numbered_at (v ∷ ws) [] m w i k at is_at e = cc
numbered_at (v ∷ ws) (j ∷ is) zero w i k at is_at e =
    let same : v ≡ w = cc in
    let is_func : v.ty ≡ import.Func k = ap (λ (x : WasmImport). x.ty) same ∙ e in
    record { number = 0; there = rw is_func is_at; imported = rw is_func refl }
numbered_at (v ∷ ws) (j ∷ is) (suc m) w i k at is_at e = later v.ty refl (numbered_at ws is m w i k at is_at e)
  where
    later : (ty : ImportType) → v.ty ≡ ty → IsNumbered ws is i k → IsNumbered (v ∷ ws) (j ∷ is) i k
    later (import.Func t) same r = record { number = suc r.number; there = rw same r.there; imported = rw same r.imported }
    later (import.Memory a b c) same r = record { number = r.number; there = rw same r.there; imported = rw same r.imported }
    later (import.Global a b) same r = record { number = r.number; there = rw same r.there; imported = rw same r.imported }
