-- What pieces of code bring into a module, one after another.
use Rattle.std.proofs.Common.{◌≡◌, ℕ, suc, ◌+◌, ◌≤◌, ◌<◌, ◌⊎◌, inl, inr, Bool, true, false, List, [], ◌∷◌, ◌++◌, Some, Contains, refl, sym, ap, ◌∙◌, subst, arith, length, length-append, slice_get}
use Rattle.std.specs.Prelude.{codes, cond}
use Rattle.std.specs.List.{filter_map, range_with_len}
use Rattle.std.proofs.lemmas.Option.{slice_get_within}
use Rattle.fact_wasm.specs.declared.types.FuncType.{FuncType}
use Rattle.fact_wasm.specs.declared.instr.FuncName.TheVariants as func
use Rattle.fact_wasm.specs.declared.instr.Instr.{Instr}
use Rattle.fact_wasm.specs.declared.module.ImportType.TheVariants as import
use Rattle.fact_wasm.specs.declared.module.WasmImport.{WasmImport}
use Rattle.fact_wasm.specs.Ranges.{AreRanged}
use Rattle.fact_types.specs.declared.import.Import.{Import}
use Rattle.fact_emit.specs.declared.helpers.Helper.{Helper}
use Rattle.fact_emit.specs.declared.imported.RuntimeFunction.{RuntimeFunction}
use Rattle.fact_types.specs.declared.import.Import.TheVariants as known
use Rattle.fact_emit.specs.declared.transcoders.Transcoder.{Transcoder}
use Rattle.fact_emit.specs.Brought.{AreCalledImported, Brought, CalledFunction, IsCalledImported, Runtime, Transcoding, Helping}
use Rattle.fact_emit.specs.ImportSection.{Sort, a_function, imports_of, is_of}
use Rattle.fact_emit.specs.NamedFunctions.{all_added_once, defined_named, defined_place, functions_named, imported_named, imported_place}
use Rattle.fact_emit.specs.Runtime.{import_of, name_of_runtime, origin_of_runtime}
use Rattle.fact_emit.specs.States.{HasType, IsHelperAsked, IsImported, IsRuntimeImported, IsTranscoderImported, ModuleSoFar, functions_of, import_as, name_of_transcoder, next_number, with_helper, with_import}
use Rattle.fact_emit.proofs.ImportLists.{imports-append, last-or-before, there-get}
use Rattle.fact_emit.proofs.NamedLaws.{added_on, below_added, defined_append, defined_none, imported_append, next_added, ranged_append, ranged_defined, ranged_in, ranged_named}

-- ---- the imports stand beside what they are

abbrev pub IsEven : ModuleSoFar → Type 0
IsEven s = length s.section ≡ length s.imports

pub even_type : {old new : ModuleSoFar} {ty : FuncType} → HasType old new ty → IsEven old → IsEven new
even_type (inl same) e = subst IsEven (sym same) e
even_type (inr anew) e = subst IsEven (sym anew.1) e

pub even_import : {old new : ModuleSoFar} {w : WasmImport} {i : Import} {place : ℕ} → IsImported old new w i place → IsEven old → IsEven new
even_import {old} {new} {w} {i} h e = elim h.step [
  | inl there ↦ subst IsEven (sym there.0) e
  | inr anew ↦ subst IsEven (sym anew.0) (omega (arith, e, length-append old.section (w ∷ []), length-append old.imports (i ∷ [])))
]

pub even_called : (f : CalledFunction) (old new : ModuleSoFar) (place : ℕ) → IsCalledImported old new f place → IsEven old → IsEven new
even_called (Runtime f) old new place h e = even_import h.imported (even_type h.types e)
even_called (Transcoding t) old new place h e = even_import h.imported (even_type h.types e)
even_called (Helping key) old new place h e = elim h.step [
  | inl same ↦ subst IsEven (sym same) e
  | inr anew ↦ subst IsEven (sym anew.0) e
]

pub even_all : (fs : List CalledFunction) (old new : ModuleSoFar) → AreCalledImported old new fs → IsEven old → IsEven new
even_all [] old new h e = subst IsEven (sym h) e
even_all (f ∷ fs) old new h e = even_all fs h.0 new h.3 (even_called f old h.0 h.1 h.2 e)

-- ---- one function of the runtime

functions_typed : {old new : ModuleSoFar} {ty : FuncType} → HasType old new ty → functions_of new ≡ functions_of old
functions_typed (inl same) = ap functions_of same
functions_typed (inr anew) = ap functions_of anew.1

-- a function that was imported before, or is the last one now
import_order : (old new : ModuleSoFar) (w : WasmImport) (i : Import) (place : ℕ) → imports_of a_function (w ∷ []) (i ∷ []) ≡ i ∷ [] → IsEven old → slice_get (functions_of new) place ≡ Some i
    → ((new ≡ old) × Contains (functions_of old) i) ⊎ ((new ≡ with_import old w i) × (Contains (functions_of old) i → ⊥))
    → all_added_once (range_with_len 0 (length (functions_of old))) (place ∷ []) ≡ range_with_len 0 (length (functions_of new))
import_order old new w i place is_function e at (inl there) =
    let within = slice_get_within (functions_of old) place i (ap (λ s. slice_get (functions_of s) place) (sym there.0) ∙ at) in
    below_added (length (functions_of old)) (place ∷ []) (within, tt) ∙ ap (λ s. range_with_len 0 (length (functions_of s))) (sym there.0)
import_order old new w i place is_function e at (inr anew) =
    ap (λ k. all_added_once (range_with_len 0 (length (functions_of old))) (k ∷ [])) last ∙ next_added (length (functions_of old)) ∙ ap (range_with_len 0) more
  where
    grown : functions_of new ≡ functions_of old ++ i ∷ []
    grown = ap functions_of anew.0 ∙ imports-append a_function old.section (w ∷ []) old.imports (i ∷ []) e ∙ ap (λ l. functions_of old ++ l) is_function

    last : place ≡ length (functions_of old)
    last = elim (last-or-before (functions_of old) i place i (ap (λ fs. slice_get fs place) (sym grown) ∙ at)) [
      | inl here ↦ absurd (anew.1 (there-get (functions_of old) place i here))
      | inr at_last ↦ at_last.0
    ]

    more : suc (length (functions_of old)) ≡ length (functions_of new)
    more = omega (arith, ap length grown, length-append (functions_of old) (i ∷ []))

-- after the type a function is imported
typed_order : (old typed new : ModuleSoFar) (ty : FuncType) (w : WasmImport) (i : Import) (place : ℕ) → imports_of a_function (w ∷ []) (i ∷ []) ≡ i ∷ [] → HasType old typed ty → slice_get (functions_of new) place ≡ Some i
    → ((new ≡ typed) × Contains (functions_of typed) i) ⊎ ((new ≡ with_import typed w i) × (Contains (functions_of typed) i → ⊥)) → IsEven old
    → all_added_once (range_with_len 0 (length (functions_of old))) (place ∷ []) ≡ range_with_len 0 (length (functions_of new))
typed_order old typed new ty w i place is_function types at step e =
    ap (λ fs. all_added_once (range_with_len 0 (length fs)) (place ∷ [])) (sym (functions_typed types)) ∙ import_order typed new w i place is_function (even_type types e) at step

runtime_order : (f : RuntimeFunction) (old new : ModuleSoFar) (place : ℕ) → IsRuntimeImported old new f place → IsEven old
    → all_added_once (range_with_len 0 (length (functions_of old))) (place ∷ []) ≡ range_with_len 0 (length (functions_of new))
runtime_order f old new place h e = typed_order old h.typed new _ (import_as (origin_of_runtime f) (name_of_runtime f) (import.Func h.ty)) (import_of f) place refl h.types h.imported.there h.imported.step e

transcoder_order : (t : Transcoder) (old new : ModuleSoFar) (place : ℕ) → IsTranscoderImported old new t place → IsEven old
    → all_added_once (range_with_len 0 (length (functions_of old))) (place ∷ []) ≡ range_with_len 0 (length (functions_of new))
transcoder_order t old new place h e =
    typed_order old h.typed new _ (import_as (codes "transcode") (name_of_transcoder t) (import.Func h.ty)) (known.Transcode t.op h.from t.from_memory64 h.to t.to_memory64) place refl h.types h.imported.there h.imported.step e

-- nothing is numbered
type_numbers : {old new : ModuleSoFar} {ty : FuncType} → HasType old new ty → next_number new ≡ next_number old
type_numbers (inl same) = ap next_number same
type_numbers (inr anew) = ap next_number anew.1

import_numbers : {old new : ModuleSoFar} {w : WasmImport} {i : Import} {place : ℕ} → IsImported old new w i place → next_number new ≡ next_number old
import_numbers h = elim h.step [
  | inl there ↦ ap next_number there.0
  | inr anew ↦ ap next_number anew.0
]

-- Code that names one imported function, and no other one.
module _ (f : CalledFunction) (old new : ModuleSoFar) (place : ℕ) (code : List Instr) (names : imported_named code ≡ place ∷ []) (ranged : AreRanged (suc place) 0 code) (h : IsCalledImported old new f place)
    (there : place < length (functions_of new)) (in_order : IsEven old → all_added_once (range_with_len 0 (length (functions_of old))) (place ∷ []) ≡ range_with_len 0 (length (functions_of new)))
    (same : next_number new ≡ next_number old) where
  brought_called : Brought old new code
  brought_called = record {
    called = f ∷ [];
    imported = (new, place, h, refl);
    ranged = ranged_in (suc place) (length (functions_of new)) 0 (next_number new) (omega (arith, there)) (omega arith) code ranged;
    order = λ e. ap (all_added_once (range_with_len 0 (length (functions_of old)))) names ∙ in_order e;
    asked = ap (all_added_once (range_with_len 0 (next_number old))) (defined_none (suc place) code ranged) ∙ ap (range_with_len 0) (sym same);
  }

pub brought_runtime : {old new : ModuleSoFar} {f : RuntimeFunction} {place : ℕ} {code : List Instr} → imported_named code ≡ place ∷ [] → AreRanged (suc place) 0 code → IsRuntimeImported old new f place → Brought old new code
brought_runtime {old} {new} {f} {place} {code} names ranged h =
    brought_called (Runtime f) old new place code names ranged h (slice_get_within (functions_of new) place _ h.imported.there) (runtime_order f old new place h) (import_numbers h.imported ∙ type_numbers h.types)

pub brought_transcoder : {old new : ModuleSoFar} {t : Transcoder} {place : ℕ} {code : List Instr} → imported_named code ≡ place ∷ [] → AreRanged (suc place) 0 code → IsTranscoderImported old new t place → Brought old new code
brought_transcoder {old} {new} {t} {place} {code} names ranged h =
    brought_called (Transcoding t) old new place code names ranged h (slice_get_within (functions_of new) place _ h.imported.there) (transcoder_order t old new place h) (import_numbers h.imported ∙ type_numbers h.types)

-- ---- one helper

-- imports stay, and there are no fewer numbers
pub helper_functions : {old new : ModuleSoFar} {key : Helper} {number : ℕ} → IsHelperAsked old new key number → functions_of new ≡ functions_of old
helper_functions h = elim h.step [
  | inl same ↦ ap functions_of same
  | inr anew ↦ ap functions_of anew.0
]

helper_numbers : {old new : ModuleSoFar} {key : Helper} {number : ℕ} → IsHelperAsked old new key number → next_number old ≤ next_number new
helper_numbers h = elim h.step [
  | inl same ↦ omega (arith, ap next_number same)
  | inr anew ↦ omega (arith, ap next_number anew.0)
]

-- A helper that was asked for before has one of the numbers, and a new one the next.
helper_order : {old new : ModuleSoFar} {key : Helper} {number : ℕ} → IsHelperAsked old new key number → all_added_once (range_with_len 0 (next_number old)) (number ∷ []) ≡ range_with_len 0 (next_number new)
helper_order {old} {new} {key} {number} h = go h.step
  where
    go : (new ≡ old) ⊎ ((new ≡ with_helper old key) × (number ≡ next_number old) × ((n : ℕ) → Contains old.helpers (key, n) → ⊥)) → all_added_once (range_with_len 0 (next_number old)) (number ∷ []) ≡ range_with_len 0 (next_number new)
    go (inl same) =
        let within : number < next_number old = omega (arith, h.below, ap (λ (s : ModuleSoFar). s.numbered) same) in
        below_added (next_number old) (number ∷ []) (within, tt) ∙ ap (λ s. range_with_len 0 (next_number s)) (sym same)
    go (inr anew) =
        let more : suc (next_number old) ≡ next_number new = omega (arith, ap next_number anew.0) in
        ap (λ k. all_added_once (range_with_len 0 (next_number old)) (k ∷ [])) anew.1 ∙ next_added (next_number old) ∙ ap (range_with_len 0) more

-- Code that calls a helper, and no other function.
pub brought_helper : {old new : ModuleSoFar} {key : Helper} {number : ℕ} {code : List Instr} → functions_named code ≡ func.Defined number ∷ [] → AreRanged 0 (suc number) code → IsHelperAsked old new key number → Brought old new code
brought_helper {old} {new} {key} {number} {code} names ranged h = record {
  called = Helping key ∷ [];
  imported = (new, number, h, refl);
  ranged = ranged_in 0 (length (functions_of new)) (suc number) (next_number new) (omega arith) (omega (arith, h.below)) code ranged;
  order = λ e. ap (λ ns. all_added_once (range_with_len 0 (length (functions_of old))) (filter_map imported_place ns)) names ∙ ap (λ fs. range_with_len 0 (length fs)) (sym (helper_functions h));
  asked = ap (λ ns. all_added_once (range_with_len 0 (next_number old)) (filter_map defined_place ns)) names ∙ helper_order h;
}

-- ---- none, and one piece of code after another

-- code that names only functions that were there before
pub brought_before : {old new : ModuleSoFar} {code : List Instr} → new ≡ old → AreRanged (length (functions_of old)) (next_number old) code → Brought old new code
brought_before {old} {new} {code} same ranged = record {
  called = [];
  imported = same;
  ranged = subst (λ s. AreRanged (length (functions_of s)) (next_number s) code) (sym same) ranged;
  order = λ e. below_added (length (functions_of old)) (imported_named code) (ranged_named (length (functions_of old)) (next_number old) code ranged) ∙ ap (λ s. range_with_len 0 (length (functions_of s))) (sym same);
  asked = below_added (next_number old) (defined_named code) (ranged_defined (length (functions_of old)) (next_number old) code ranged) ∙ ap (λ s. range_with_len 0 (next_number s)) (sym same);
}

called_on : (fs gs : List CalledFunction) (a b c : ModuleSoFar) → AreCalledImported a b fs → AreCalledImported b c gs → AreCalledImported a c (fs ++ gs)
called_on [] gs a b c x y = subst (λ s. AreCalledImported s c gs) x y
called_on (f ∷ fs) gs a b c x y = (x.0, x.1, x.2, called_on fs gs x.0 b c x.3 y)

-- with more imports there are no fewer of a kind
count_more : (q : Sort) (ws vs : List WasmImport) (is js : List Import) → length (imports_of q ws is) ≤ length (imports_of q (ws ++ vs) (is ++ js))
count_more q [] vs is js = omega arith
count_more q (w ∷ ws) vs [] js = omega arith
count_more q (w ∷ ws) vs (i ∷ is) js = step (is_of q w) (count_more q ws vs is js)
  where
    step : (b : Bool) → length (imports_of q ws is) ≤ length (imports_of q (ws ++ vs) (is ++ js))
        → length (cond b (i ∷ imports_of q ws is) (imports_of q ws is)) ≤ length (cond b (i ∷ imports_of q (ws ++ vs) (is ++ js)) (imports_of q (ws ++ vs) (is ++ js)))
    step true h = omega (arith, h)
    step false h = h

import_count : (q : Sort) {old new : ModuleSoFar} {w : WasmImport} {i : Import} {place : ℕ} → IsImported old new w i place → length (imports_of q old.section old.imports) ≤ length (imports_of q new.section new.imports)
import_count q {old} {new} {w} {i} h = elim h.step [
  | inl there ↦ omega (arith, ap (λ (s : ModuleSoFar). length (imports_of q s.section s.imports)) there.0)
  | inr anew ↦ omega (arith, ap (λ (s : ModuleSoFar). length (imports_of q s.section s.imports)) anew.0, count_more q old.section (w ∷ []) old.imports (i ∷ []))
]

type_count : (q : Sort) {old new : ModuleSoFar} {ty : FuncType} → HasType old new ty → length (imports_of q old.section old.imports) ≤ length (imports_of q new.section new.imports)
type_count q (inl same) = omega (arith, ap (λ (s : ModuleSoFar). length (imports_of q s.section s.imports)) same)
type_count q (inr anew) = omega (arith, ap (λ (s : ModuleSoFar). length (imports_of q s.section s.imports)) anew.1)

one_count : (q : Sort) (f : CalledFunction) (old new : ModuleSoFar) (place : ℕ) → IsCalledImported old new f place → length (imports_of q old.section old.imports) ≤ length (imports_of q new.section new.imports)
one_count q (Runtime f) old new place h = omega (arith, type_count q h.types, import_count q h.imported)
one_count q (Transcoding t) old new place h = omega (arith, type_count q h.types, import_count q h.imported)
one_count q (Helping key) old new place h = elim h.step [
  | inl same ↦ omega (arith, ap (λ (s : ModuleSoFar). length (imports_of q s.section s.imports)) same)
  | inr anew ↦ omega (arith, ap (λ (s : ModuleSoFar). length (imports_of q s.section s.imports)) anew.0)
]

called_count : (q : Sort) (fs : List CalledFunction) (old new : ModuleSoFar) → AreCalledImported old new fs → length (imports_of q old.section old.imports) ≤ length (imports_of q new.section new.imports)
called_count q [] old new h = omega (arith, ap (λ (s : ModuleSoFar). length (imports_of q s.section s.imports)) h)
called_count q (f ∷ fs) old new h = omega (arith, one_count q f old h.0 h.1 h.2, called_count q fs h.0 new h.3)

pub brought_count : (q : Sort) {old new : ModuleSoFar} {code : List Instr} → Brought old new code → length (imports_of q old.section old.imports) ≤ length (imports_of q new.section new.imports)
brought_count q {old} {new} x = called_count q x.called old new x.imported

-- and no fewer functions are numbered
one_numbers : (f : CalledFunction) (old new : ModuleSoFar) (place : ℕ) → IsCalledImported old new f place → next_number old ≤ next_number new
one_numbers (Runtime f) old new place h = omega (arith, import_numbers h.imported, type_numbers h.types)
one_numbers (Transcoding t) old new place h = omega (arith, import_numbers h.imported, type_numbers h.types)
one_numbers (Helping key) old new place h = helper_numbers h

called_numbers : (fs : List CalledFunction) (old new : ModuleSoFar) → AreCalledImported old new fs → next_number old ≤ next_number new
called_numbers [] old new h = omega (arith, ap next_number h)
called_numbers (f ∷ fs) old new h = omega (arith, one_numbers f old h.0 h.1 h.2, called_numbers fs h.0 new h.3)

pub brought_numbers : {old new : ModuleSoFar} {code : List Instr} → Brought old new code → next_number old ≤ next_number new
brought_numbers {old} {new} x = called_numbers x.called old new x.imported

-- As many functions are numbered as helpers are new.
abbrev pub NumbersHelpers : (old new : ModuleSoFar) → Type 0
NumbersHelpers old new = next_number new + length old.helpers ≡ next_number old + length new.helpers

counts_same : {old new : ModuleSoFar} → new ≡ old → NumbersHelpers old new
counts_same same = omega (arith, ap next_number same, ap (λ (s : ModuleSoFar). length s.helpers) same)

counts_type : {old new : ModuleSoFar} {ty : FuncType} → HasType old new ty → NumbersHelpers old new
counts_type (inl same) = counts_same same
counts_type (inr anew) = omega (arith, ap next_number anew.1, ap (λ (s : ModuleSoFar). length s.helpers) anew.1)

counts_import : {old new : ModuleSoFar} {w : WasmImport} {i : Import} {place : ℕ} → IsImported old new w i place → NumbersHelpers old new
counts_import h = elim h.step [
  | inl there ↦ counts_same there.0
  | inr anew ↦ omega (arith, ap next_number anew.0, ap (λ (s : ModuleSoFar). length s.helpers) anew.0)
]

one_counts : (f : CalledFunction) (old new : ModuleSoFar) (place : ℕ) → IsCalledImported old new f place → NumbersHelpers old new
one_counts (Runtime f) old new place h = omega (arith, counts_type h.types, counts_import h.imported)
one_counts (Transcoding t) old new place h = omega (arith, counts_type h.types, counts_import h.imported)
one_counts (Helping key) old new place h = elim h.step [
  | inl same ↦ counts_same same
  | inr anew ↦ omega (arith, ap next_number anew.0, ap (λ (s : ModuleSoFar). length s.helpers) anew.0, length-append old.helpers ((key, next_number old) ∷ []))
]

called_counts : (fs : List CalledFunction) (old new : ModuleSoFar) → AreCalledImported old new fs → NumbersHelpers old new
called_counts [] old new h = counts_same h
called_counts (f ∷ fs) old new h = omega (arith, one_counts f old h.0 h.1 h.2, called_counts fs h.0 new h.3)

pub brought_counts : {old new : ModuleSoFar} {code : List Instr} → Brought old new code → NumbersHelpers old new
brought_counts {old} {new} x = called_counts x.called old new x.imported

pub brought_on : {a b c : ModuleSoFar} {xs ys : List Instr} → Brought a b xs → Brought b c ys → Brought a c (xs ++ ys)
brought_on {a} {b} {c} {xs} {ys} x y = record {
  called = x.called ++ y.called;
  imported = called_on x.called y.called a b c x.imported y.imported;
  ranged = ranged_append (length (functions_of c)) (next_number c) xs ys
      (ranged_in (length (functions_of b)) (length (functions_of c)) (next_number b) (next_number c) (brought_count a_function y) (brought_numbers y) xs x.ranged) y.ranged;
  order = λ e.
      let n = range_with_len 0 (length (functions_of a)) in
      ap (all_added_once n) (imported_append xs ys) ∙ added_on n (imported_named xs) (imported_named ys) ∙ ap (λ ns. all_added_once ns (imported_named ys)) (x.order e) ∙ y.order (even_all x.called a b x.imported e);
  asked =
      let n = range_with_len 0 (next_number a) in
      ap (all_added_once n) (defined_append xs ys) ∙ added_on n (defined_named xs) (defined_named ys) ∙ ap (λ ns. all_added_once ns (defined_named ys)) x.asked ∙ y.asked;
}

-- other code that names the same functions in the same order
pub brought_as : {a b : ModuleSoFar} {xs ys : List Instr} → functions_named ys ≡ functions_named xs → ((imports funcs : ℕ) → AreRanged imports funcs xs → AreRanged imports funcs ys) → Brought a b xs → Brought a b ys
brought_as {a} {b} names ranged x = record {
  called = x.called;
  imported = x.imported;
  ranged = ranged (length (functions_of b)) (next_number b) x.ranged;
  order = λ e. ap (λ ns. all_added_once (range_with_len 0 (length (functions_of a))) (filter_map imported_place ns)) names ∙ x.order e;
  asked = ap (λ ns. all_added_once (range_with_len 0 (next_number a)) (filter_map defined_place ns)) names ∙ x.asked;
}

pub brought_between : {a a' b b' : ModuleSoFar} {code : List Instr} → a' ≡ a → b' ≡ b → Brought a' b' code → Brought a b code
brought_between {a} {b' = b'} {code} e f x = subst (λ s. Brought a s code) f (subst (λ s. Brought s b' code) e x)
