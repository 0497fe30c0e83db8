-- Which functions are exported.
use Rattle.std.proofs.Common.{◌≡◌, ◌<◌, ◌≤◌, ℕ, zero, suc, Bool, true, false, List, [], ◌∷◌, ◌++◌, Option, Some, None, refl, sym, ap, ◌∙◌, length, slice_get, arith}
use Rattle.std.specs.Prelude.{is_some, nat_eq, replicate, slice_set, unwrap_or}
use Rattle.std.specs.List.{filter_map}
use Rattle.std.proofs.lemmas.Bool.{false≢true, eq-eqb, eqb-true}
use Rattle.std.proofs.lemmas.List.{length-set}
use Rattle.fact_wasm.specs.declared.instr.FuncName.{FuncName}
use Rattle.fact_wasm.specs.declared.instr.FuncName.TheVariants as func
use Rattle.fact_wasm.specs.declared.module.WasmExport.{WasmExport}
use Rattle.fact_wasm.specs.declared.module.WasmModule.{WasmModule}
use Rattle.fact_machine.specs.Machine.{func_import}
use Rattle.fact_machine.specs.Typing.{function_type, is_exported, same_function}
use Rattle.fact_check.specs.Imports.{type_of_function}
use Rattle.fact_check.specs.Sections.{AreMarks, IsExportedOf}
use Rattle.fact_check.specs.declared.exported.Exported.{Exported}
use Rattle.fact_check.proofs.Loops.{any_with, any_without}
use Rattle.fact_check.proofs.Sections.{functions_at}

-- ---- no exports

many_unset : (count : ℕ) → length (replicate count false) ≡ count
many_unset zero = refl
many_unset (suc count) = ap suc (many_unset count)

unset_at : (count n : ℕ) → n < count → slice_get (replicate count false) n ≡ Some false
unset_at zero n lt = absurd (omega arith)
unset_at (suc count) zero lt = refl
unset_at (suc count) (suc n) lt = unset_at count n (omega arith)

pub unmarked : (form : ℕ → FuncName) (count : ℕ) → AreMarks (replicate count false) form count []
unmarked form count = record { many = many_unset count; each = λ n lt. unset_at count n lt }

-- ---- one export more

set_same : (marks : List Bool) (n : ℕ) → n < length marks → slice_get (slice_set marks n true) n ≡ Some true
set_same [] n lt = absurd (omega arith)
set_same (b ∷ marks) zero lt = refl
set_same (b ∷ marks) (suc n) lt = set_same marks n (omega arith)

set_other : (marks : List Bool) (n m : ℕ) → (m ≡ n → ⊥) → slice_get (slice_set marks n true) m ≡ slice_get marks m
set_other [] zero m apart = refl
set_other [] (suc n) m apart = refl
set_other (b ∷ marks) zero zero apart = absurd (apart refl)
set_other (b ∷ marks) zero (suc m) apart = refl
set_other (b ∷ marks) (suc n) zero apart = refl
set_other (b ∷ marks) (suc n) (suc m) apart = set_other marks n m (λ e. apart (ap suc e))

pub set_past : (marks : List Bool) (n : ℕ) → length marks ≤ n → slice_set marks n true ≡ marks
set_past [] zero h = refl
set_past [] (suc n) h = refl
set_past (b ∷ marks) zero h = absurd (omega arith)
set_past (b ∷ marks) (suc n) h = ap (λ l. b ∷ l) (set_past marks n (omega arith))

-- of a function of the form
marked_here : (marks : List Bool) (form : ℕ → FuncName) (count n : ℕ) (before : List WasmExport) (e : WasmExport) → ((m : ℕ) → same_function (form m) (form n) ≡ nat_eq m n) → AreMarks marks form count before → e.func ≡ form n
    → AreMarks (slice_set marks n true) form count (before ++ e ∷ [])
marked_here marks form count n before e tells a is = record { many = length-set marks n true ∙ a.many; each = λ m lt. by_place m lt (nat_eq m n) refl }
  where
    same : (m : ℕ) (b : Bool) → nat_eq m n ≡ b → same_function (form m) e.func ≡ b
    same m b q = ap (same_function (form m)) is ∙ tells m ∙ q

    by_place : (m : ℕ) → m < count → (b : Bool) → nat_eq m n ≡ b → slice_get (slice_set marks n true) m ≡ Some (is_exported (form m) (before ++ e ∷ []))
    by_place m lt true q =
        let here : m ≡ n = eqb-true m n q in
        let within : n < length marks = omega (arith, here, lt, a.many) in
        ap (slice_get (slice_set marks n true)) here ∙ set_same marks n within ∙ ap (λ b. Some b) (sym (any_with (λ (d : WasmExport). same_function (form m) d.func) before e (same m true q)))
    by_place m lt false q =
        set_other marks n m (λ here. false≢true (sym q ∙ eq-eqb m n here)) ∙ a.each m lt ∙ ap (λ b. Some b) (sym (any_without (λ (d : WasmExport). same_function (form m) d.func) before e (same m false q)))

-- of one of the other form
marked_elsewhere : (marks : List Bool) (form : ℕ → FuncName) (count : ℕ) (before : List WasmExport) (e : WasmExport) → ((m : ℕ) → same_function (form m) e.func ≡ false) → AreMarks marks form count before → AreMarks marks form count (before ++ e ∷ [])
marked_elsewhere marks form count before e other a = record {
  many = a.many;
  each = λ m lt. a.each m lt ∙ ap (λ b. Some b) (sym (any_without (λ (d : WasmExport). same_function (form m) d.func) before e (other m)));
}

pub import_exported : (x : Exported) (imports defined n : ℕ) (before : List WasmExport) (e : WasmExport) → IsExportedOf x imports defined before → e.func ≡ func.Import n
    → IsExportedOf (record { imports = slice_set x.imports n true; defined = x.defined }) imports defined (before ++ e ∷ [])
import_exported x imports defined n before e h is = record {
  of_imports = marked_here x.imports func.Import imports n before e (λ m. refl) h.of_imports is;
  of_defined = marked_elsewhere x.defined func.Defined defined before e (λ m. ap (same_function (func.Defined m)) is) h.of_defined;
}

pub defined_exported : (x : Exported) (imports defined n : ℕ) (before : List WasmExport) (e : WasmExport) → IsExportedOf x imports defined before → e.func ≡ func.Defined n
    → IsExportedOf (record { imports = x.imports; defined = slice_set x.defined n true }) imports defined (before ++ e ∷ [])
defined_exported x imports defined n before e h is = record {
  of_imports = marked_elsewhere x.imports func.Import imports before e (λ m. ap (same_function (func.Import m)) is) h.of_imports;
  of_defined = marked_here x.defined func.Defined defined n before e (λ m. refl) h.of_defined is;
}

-- ---- what is looked up

pub marked : (marks : List Bool) (form : ℕ → FuncName) (count n : ℕ) (exports : List WasmExport) → AreMarks marks form count exports → n < count → unwrap_or (slice_get marks n) false ≡ is_exported (form n) exports
marked marks form count n exports a lt = ap (λ o. unwrap_or o false) (a.each n lt)

some_within : {A : Type 0} (xs : List A) (n : ℕ) → is_some (slice_get xs n) ≡ true → n < length xs
some_within [] n h = absurd (false≢true h)
some_within (x ∷ xs) zero h = omega arith
some_within (x ∷ xs) (suc n) h = let r = some_within xs n h in omega (arith, r)

-- a function whose type is there is there
typed_some : {A B : Type 0} (x : Option A) (f : A → Option B) → is_some (elim x as (λ (x : Option A). Option B) [ None ↦ None | Some a ↦ f a ]) ≡ true → is_some x ≡ true
typed_some None f h = h
typed_some (Some a) f h = refl

pub import_within : (M : WasmModule) (n : ℕ) → is_some (function_type M (func.Import n)) ≡ true → n < length (filter_map type_of_function M.imports)
import_within M n h =
    some_within (filter_map type_of_function M.imports) n (ap (λ (o : Option ℕ). is_some o) (sym (functions_at M.imports n)) ∙ typed_some (func_import M.imports n) (λ t. slice_get M.types t) h)

pub defined_within : (M : WasmModule) (n : ℕ) → is_some (function_type M (func.Defined n)) ≡ true → n < length M.funcs
defined_within M n h = some_within M.funcs n (typed_some (slice_get M.funcs n) (λ f. slice_get M.types f.ty) h)
