-- The imports of a kind, and places among them.
use Rattle.std.proofs.Common.{◌≡◌, ℕ, zero, suc, ◌+◌, Bool, true, false, List, [], ◌∷◌, ◌++◌, Option, Some, Contains, refl, sym, ap, ◌∙◌, arith, length, map, slice_get, ◌⊎◌, inl, inr}
use Rattle.std.proofs.lemmas.Option.{slice_get-get_or, get_or_from_slice_get, slice_get_within}
use Rattle.std.specs.Prelude.{cond, count_by}
use Rattle.std.proofs.lemmas.List.Sums.{sum_by-cons}
use Rattle.fact_entity.specs.Places.{IsInterned}
use Rattle.fact_wasm.specs.declared.module.ImportType.{ImportType}
use Rattle.fact_wasm.specs.declared.module.ImportType.TheVariants as import
use Rattle.fact_wasm.specs.declared.module.WasmImport.{WasmImport}
use Rattle.fact_machine.specs.Machine.{func_import}
use Rattle.fact_types.specs.declared.import.Import.{Import}
use Rattle.fact_emit.specs.ImportSection.{Sort, a_function, imports_of, is_of, sort_of, same_sort}

-- ---- lists

pub get-there : {X : Type 0} (xs : List X) (x : X) → Contains xs x → (k : ℕ) × (slice_get xs k ≡ Some x)
get-there xs x c = (c.0, slice_get-get_or xs c.0 x c.1 ∙ ap Some c.2)

pub there-get : {X : Type 0} (xs : List X) (k : ℕ) (x : X) → slice_get xs k ≡ Some x → Contains xs x
there-get xs k x e = (k, slice_get_within xs k x e, get_or_from_slice_get xs k x x e)

pub get-last : {X : Type 0} (xs : List X) (x : X) → slice_get (xs ++ x ∷ []) (length xs) ≡ Some x
get-last [] x = refl
get-last (y ∷ xs) x = get-last xs x

-- what stands in a list with one value more
pub last-or-before : {X : Type 0} (xs : List X) (x : X) (k : ℕ) (y : X) → slice_get (xs ++ x ∷ []) k ≡ Some y → (slice_get xs k ≡ Some y) ⊎ ((k ≡ length xs) × (x ≡ y))
last-or-before [] x zero y e = let same : x ≡ y = cc in inr (refl, same)
last-or-before [] x (suc k) y e = cc
last-or-before (z ∷ xs) x zero y e = inl e
last-or-before (z ∷ xs) x (suc k) y e = elim (last-or-before xs x k y e) [ inl there ↦ inl there | inr at_last ↦ inr (ap suc at_last.0, at_last.1) ]

pub get-map : {X Y : Type 0} (f : X → Y) (xs : List X) (k : ℕ) (x : X) → slice_get xs k ≡ Some x → slice_get (map f xs) k ≡ Some (f x)
get-map f [] k x e = cc
get-map f (y ∷ xs) zero x e = cc
get-map f (y ∷ xs) (suc k) x e = get-map f xs k x e

pub unmap : {X Y : Type 0} (f : X → Y) (xs : List X) (k : ℕ) (y : Y) → slice_get (map f xs) k ≡ Some y → (x : X) × (slice_get xs k ≡ Some x) × (f x ≡ y)
unmap f [] k y e = cc
unmap f (x ∷ xs) zero y e = let is_y : f x ≡ y = cc in (x, refl, is_y)
unmap f (x ∷ xs) (suc k) y e = unmap f xs k y e

pub map-push : {X Y : Type 0} (f : X → Y) (xs : List X) (x : X) → map f (xs ++ x ∷ []) ≡ map f xs ++ f x ∷ []
map-push f [] x = refl
map-push f (y ∷ xs) x = ap (λ ys. f y ∷ ys) (map-push f xs x)

-- ---- values that stand once

module _ {X : Type 0} (eq : X → X → Bool) (exact : (a b : X) → eq a b ≡ true → a ≡ b) (same : (a : X) → eq a a ≡ true) where
  pub interned-at : (old new : List X) (v : X) (i : ℕ) → IsInterned eq old new v i → slice_get new i ≡ Some v
  interned-at old new v i h = let (x, there, e) = h.only.holds in there ∙ ap Some (sym (exact v x e))

  pub interned-new : (old new : List X) (v : X) (i : ℕ) → i ≡ length old → IsInterned eq old new v i → Contains old v → ⊥
  interned-new old new v i last h (k, within, is) =
      let there : slice_get old k ≡ Some v = slice_get-get_or old k v within ∙ ap Some is in
      let is_last : k ≡ i = h.only.only k v (h.keeps k v there) (same v) in
      omega (arith, within, is_last, last)

-- ---- imports of a kind

pub imports-append : (sort : Sort) (ws vs : List WasmImport) (is js : List Import) → length ws ≡ length is → imports_of sort (ws ++ vs) (is ++ js) ≡ imports_of sort ws is ++ imports_of sort vs js
imports-append sort [] vs [] js e = refl
imports-append sort [] vs (i ∷ is) js e = absurd (omega arith)
imports-append sort (w ∷ ws) vs [] js e = absurd (omega arith)
imports-append sort (w ∷ ws) vs (i ∷ is) js e = step (is_of sort w) (imports-append sort ws vs is js (omega arith))
  where
    step : (b : Bool) → imports_of sort (ws ++ vs) (is ++ js) ≡ imports_of sort ws is ++ imports_of sort vs js
        → cond b (i ∷ imports_of sort (ws ++ vs) (is ++ js)) (imports_of sort (ws ++ vs) (is ++ js)) ≡ cond b (i ∷ imports_of sort ws is) (imports_of sort ws is) ++ imports_of sort vs js
    step true rest = ap (λ is. i ∷ is) rest
    step false rest = rest

-- the imports of a kind are as many
pub count-of : (sort : Sort) (ws : List WasmImport) (is : List Import) → length ws ≡ length is → count_by (is_of sort) ws ≡ length (imports_of sort ws is)
count-of sort [] is e = refl
count-of sort (w ∷ ws) [] e = absurd (omega arith)
count-of sort (w ∷ ws) (i ∷ is) e = sum_by-cons (λ v. cond (is_of sort v) 1 0) w ws ∙ step (is_of sort w) (count-of sort ws is (omega arith))
  where
    step : (b : Bool) → count_by (is_of sort) ws ≡ length (imports_of sort ws is) → cond b 1 0 + count_by (is_of sort) ws ≡ length (cond b (i ∷ imports_of sort ws is) (imports_of sort ws is))
    step true h = omega (arith, h)
    step false h = omega (arith, h)

-- a function that is imported behind others has their number as its place
pub func-last : (ws : List WasmImport) (is : List Import) (w : WasmImport) (k : ℕ) → length ws ≡ length is → w.ty ≡ import.Func k
    → func_import (ws ++ w ∷ []) (length (imports_of a_function ws is)) ≡ Some k
func-last [] [] w k e f = rw f refl
func-last [] (i ∷ is) w k e f = absurd (omega arith)
func-last (v ∷ ws) [] w k e f = absurd (omega arith)
func-last (v ∷ ws) (i ∷ is) w k e f = by_type v.ty (func-last ws is w k (omega arith) f)
  where
    rest : ℕ → Option ℕ
    rest = func_import (ws ++ w ∷ [])

    there : List Import
    there = imports_of a_function ws is

    by_type : (ty : ImportType) → rest (length there) ≡ Some k
        → elim ty as (λ (x : ImportType). Option ℕ) [ import.Func t ↦ elim (length (cond (same_sort a_function (sort_of ty)) (i ∷ there) there)) [ zero ↦ Some t | suc m ↦ rest m ] | import.Memory a b c ↦ rest (length (cond (same_sort a_function (sort_of ty)) (i ∷ there) there)) | import.Global a b ↦ rest (length (cond (same_sort a_function (sort_of ty)) (i ∷ there) there)) ] ≡ Some k
    by_type (import.Func t) h = h
    by_type (import.Memory a b c) h = h
    by_type (import.Global a b) h = h
