-- One import, one function and one export more.
use Rattle.std.proofs.Common.{◌≡◌, ◌<◌, ◌≤◌, ◌+◌, ◌⊎◌, inl, inr, ℕ, zero, suc, Bool, true, false, ◌||◌, List, [], ◌∷◌, ◌++◌, Option, Some, None, refl, sym, ap, ◌∙◌, subst, take, slice_get, arith}
use Rattle.std.specs.Prelude.{cond}
use Rattle.std.specs.Ordering.{is_eq, nat_cmp}
use Rattle.std.specs.Cmp.Lexicographic.{slice_cmp}
use Rattle.std.specs.List.{list_any}
use Rattle.std.specs.Str.{bytes_eq}
use Rattle.std.proofs.lemmas.Bool.{false≢true, cases_lt}
use Rattle.std.proofs.lemmas.Map.Text.{is_eq-slice_cmp}
use Rattle.std.proofs.lemmas.Slice.Eq.{bytes_eq-Decides}
use Rattle.fact_wasm.specs.declared.module.WasmImport.{WasmImport}
use Rattle.fact_wasm.specs.declared.module.WasmFunc.{WasmFunc}
use Rattle.fact_wasm.specs.declared.module.WasmExport.{WasmExport}
use Rattle.fact_wasm.specs.declared.module.WasmModule.{WasmModule}
use Rattle.fact_machine.specs.Typing.{is_typed_function, typed_function}
use Rattle.fact_check.specs.Imports.{IsRow, IsAdapterImport}
use Rattle.fact_check.specs.Accepted.{IsRepeatedExport}

-- what holds below a number, and of it
pub below_more : (P : ℕ → Type 0) (i j : ℕ) → j ≡ i + 1 → ((k : ℕ) → k < i → P k) → P i → (k : ℕ) → k < j → P k
below_more P i j e below here k lt = by_place (cases_lt k i)
  where
    by_place : (k < i) ⊎ (i ≤ k) → P k
    by_place (inl less) = below k less
    by_place (inr le) = let same : i ≡ k = omega arith in subst P same here

-- an import that has a row is one of an adapter module, and one that has none is none
pub import_is : (m : WasmModule) (n : ℕ) (w : WasmImport) → slice_get m.imports n ≡ Some w → IsRow m.types (take n m.imports) w.module w.name w.ty → IsAdapterImport m n
import_is m n w e r = record { import = w; there = e; is_row = r }

pub import_is_not : (m : WasmModule) (n : ℕ) (w : WasmImport) → slice_get m.imports n ≡ Some w → (IsRow m.types (take n m.imports) w.module w.name w.ty → ⊥) → IsAdapterImport m n → ⊥
import_is_not m n w e none a =
    let same : a.import ≡ w = cc in
    none (subst (λ (v : WasmImport). IsRow m.types (take n m.imports) v.module v.name v.ty) same a.is_row)

-- so for a function
pub function_is : (m : WasmModule) (n : ℕ) (f : WasmFunc) (b : Bool) → slice_get m.funcs n ≡ Some f → b ≡ is_typed_function m f → typed_function m n ≡ b
function_is m n f b e h = ap (λ (o : Option WasmFunc). elim o as (λ (o : Option WasmFunc). Bool) [ None ↦ false | Some f ↦ is_typed_function m f ]) e ∙ sym h

some_same : {A : Type 0} {x y : A} → Some x ≡ Some y → x ≡ y
some_same h = cc

-- a test that passes before a place
record PassesBefore {A : Type 0} (f : A → Bool) (xs : List A) (n : ℕ) : Type 0 where
  at : ℕ
  item : A
  before : at < n
  is_there : slice_get xs at ≡ Some item
  passes : f item ≡ true

any_before : {A : Type 0} (xs : List A) (n : ℕ) (f : A → Bool) → list_any f (take n xs) ≡ true → PassesBefore f xs n
any_before [] zero f h = absurd (false≢true h)
any_before [] (suc n) f h = absurd (false≢true h)
any_before (x ∷ xs) zero f h = absurd (false≢true h)
any_before (x ∷ xs) (suc n) f h = by_first (f x) refl (λ k. any_before xs n f k) h
  where
    by_first : (b : Bool) → f x ≡ b → (list_any f (take n xs) ≡ true → PassesBefore f xs n) → (b || list_any f (take n xs)) ≡ true → PassesBefore f (x ∷ xs) (suc n)
    by_first true e again k = record { at = 0; item = x; before = omega arith; is_there = refl; passes = e }
    by_first false e again k = let r = again k in record { at = suc r.at; item = r.item; before = omega (arith, r.before); is_there = r.is_there; passes = r.passes }

some_before : {A : Type 0} (xs : List A) (n : ℕ) (f : A → Bool) (k : ℕ) (x : A) → k < n → slice_get xs k ≡ Some x → f x ≡ true → list_any f (take n xs) ≡ true
some_before [] n f k x lt e h = cc
some_before (y ∷ xs) zero f k x lt e h = absurd (omega arith)
some_before (y ∷ xs) (suc n) f zero x lt e h = let same : y ≡ x = cc in ap (λ b. b || list_any f (take n xs)) (ap f same ∙ h)
some_before (y ∷ xs) (suc n) f (suc k) x lt e h = either (f y) (some_before xs n f k x (omega arith) e h)
  where
    either : (b : Bool) → list_any f (take n xs) ≡ true → (b || list_any f (take n xs)) ≡ true
    either true q = refl
    either false q = q

-- a name among the exports before
pub repeated : (es : List WasmExport) (n : ℕ) (e : WasmExport) → slice_get es n ≡ Some e → list_any (λ (d : WasmExport). bytes_eq e.name d.name) (take n es) ≡ true → IsRepeatedExport es n
repeated es n e there h =
    let r = any_before es n (λ (d : WasmExport). bytes_eq e.name d.name) h in
    record { export = e; there = there; place = r.at; before = r.before; earlier = r.item; earlier_there = r.is_there; same_name = sym ((bytes_eq-Decides e.name r.item.name).0 r.passes) }

pub not_repeated : (es : List WasmExport) (n : ℕ) (e : WasmExport) → slice_get es n ≡ Some e → list_any (λ (d : WasmExport). bytes_eq e.name d.name) (take n es) ≡ false → IsRepeatedExport es n → ⊥
not_repeated es n e there h r =
    let same : r.export ≡ e = some_same (sym r.there ∙ there) in
    false≢true (sym h ∙ some_before es n (λ (d : WasmExport). bytes_eq e.name d.name) r.place r.earlier r.before r.earlier_there
    ((bytes_eq-Decides e.name r.earlier.name).1 (sym (r.same_name ∙ ap (λ (d : WasmExport). d.name) same))))

took_next : {A : Type 0} (xs : List A) (i : ℕ) (x : A) → slice_get xs i ≡ Some x → take i xs ++ x ∷ [] ≡ take (suc i) xs
took_next [] i x e = cc
took_next (y ∷ xs) zero x e = let same : y ≡ x = cc in ap (λ z. z ∷ []) (sym same)
took_next (y ∷ xs) (suc i) x e = ap (λ l. y ∷ l) (took_next xs i x e)

-- one item more of a list
pub took : {A : Type 0} (xs : List A) (i : ℕ) (x : A) → slice_get xs i ≡ Some x → take i xs ++ x ∷ [] ≡ take (i + 1) xs
took xs i x e = let next : suc i ≡ i + 1 = omega arith in took_next xs i x e ∙ ap (λ k. take k xs) next

-- ---- names

-- a test that one item more passes, and one that it does not
pub any_with : {A : Type 0} (f : A → Bool) (xs : List A) (x : A) → f x ≡ true → list_any f (xs ++ x ∷ []) ≡ true
any_with f [] x h = ap (λ b. b || false) h
any_with f (y ∷ xs) x h = either (f y) (any_with f xs x h)
  where
    either : (b : Bool) → list_any f (xs ++ x ∷ []) ≡ true → (b || list_any f (xs ++ x ∷ [])) ≡ true
    either true q = refl
    either false q = q

pub any_without : {A : Type 0} (f : A → Bool) (xs : List A) (x : A) → f x ≡ false → list_any f (xs ++ x ∷ []) ≡ list_any f xs
any_without f [] x h = ap (λ b. b || false) h
any_without f (y ∷ xs) x h = ap (λ b. f y || b) (any_without f xs x h)

same_back : (a b : List ℕ) (t : Bool) → bytes_eq a b ≡ t → bytes_eq b a ≡ t
same_back a b true h = (bytes_eq-Decides b a).1 (sym ((bytes_eq-Decides a b).0 h))
same_back a b false h = by_test (bytes_eq b a) refl
  where
    by_test : (t : Bool) → bytes_eq b a ≡ t → bytes_eq b a ≡ false
    by_test true q = absurd (false≢true (sym h ∙ (bytes_eq-Decides a b).1 (sym ((bytes_eq-Decides b a).0 q))))
    by_test false q = q

-- which names there are, with that of one export more
pub names_more : (es : List WasmExport) (i : ℕ) (e : WasmExport) (old new : List ℕ → Bool) → slice_get es i ≡ Some e → ((q : List ℕ) → new q ≡ cond (is_eq (slice_cmp nat_cmp e.name q)) true (old q))
    → ((q : List ℕ) → old q ≡ list_any (λ (d : WasmExport). bytes_eq q d.name) (take i es)) → (q : List ℕ) → new q ≡ list_any (λ (d : WasmExport). bytes_eq q d.name) (take (i + 1) es)
names_more es i e old new there added before q =
    added q ∙ ap (λ b. cond b true (old q)) (is_eq-slice_cmp e.name q) ∙ by_name (bytes_eq e.name q) refl ∙ ap (list_any (λ (d : WasmExport). bytes_eq q d.name)) (took es i e there)
  where
    by_name : (b : Bool) → bytes_eq e.name q ≡ b → cond b true (old q) ≡ list_any (λ (d : WasmExport). bytes_eq q d.name) (take i es ++ e ∷ [])
    by_name true h = sym (any_with (λ (d : WasmExport). bytes_eq q d.name) (take i es) e (same_back e.name q true h))
    by_name false h = before q ∙ sym (any_without (λ (d : WasmExport). bytes_eq q d.name) (take i es) e (same_back e.name q false h))
