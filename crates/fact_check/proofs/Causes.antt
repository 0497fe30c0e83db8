-- Modules without causes are adapter modules, and only they.
use Rattle.std.proofs.Common.{◌≡◌, ◌<◌, ◌≤◌, ◌⊎◌, inl, inr, ℕ, zero, suc, Bool, true, false, ◌&&◌, ◌||◌, List, [], ◌∷◌, Option, Some, None, refl, sym, ap, ◌∙◌, subst, length, take, slice_get, arith, Err}
use Rattle.std.specs.Prelude.{◌+◌, cond, not, is_some, count_by}
use Rattle.std.specs.List.{list_all, list_any}
use Rattle.std.specs.Str.{bytes_eq}
use Rattle.std.proofs.lemmas.Bool.{false≢true, cases_lt}
use Rattle.std.proofs.lemmas.List.Sums.{sum_by-cons}
use Rattle.std.proofs.lemmas.Option.{slice_get_within}
use Rattle.std.proofs.lemmas.Slice.Eq.{bytes_eq-Decides}
use Rattle.fact_wasm.specs.declared.types.FuncType.{FuncType}
use Rattle.fact_wasm.specs.declared.instr.FuncName.{FuncName}
use Rattle.fact_wasm.specs.declared.instr.FuncName.TheVariants as func
use Rattle.fact_wasm.specs.declared.module.ImportType.{ImportType}
use Rattle.fact_wasm.specs.declared.module.ImportType.TheVariants as import
use Rattle.fact_wasm.specs.declared.module.WasmImport.{WasmImport}
use Rattle.fact_wasm.specs.declared.module.WasmFunc.{WasmFunc}
use Rattle.fact_wasm.specs.declared.module.WasmExport.{WasmExport}
use Rattle.fact_wasm.specs.declared.module.WasmModule.{WasmModule}
use Rattle.fact_wasm.specs.Ranges.{HasFunction, AreExportsNamed, InRange, is_function, imported_functions}
use Rattle.fact_binary.specs.Spelling.{Spells}
use Rattle.fact_machine.specs.Machine.{func_import}
use Rattle.fact_machine.specs.Typing.{declares_numbers, function_type, is_memory_type, is_typed_body, is_typed_import, is_typed_export, are_distinct, is_typed_function, typed_function}
use Rattle.fact_machine.proofs.Tests.{first_of, second_of, both}
use Rattle.fact_check.specs.Imports.{IsPageSize, IsRow}
use Rattle.fact_check.specs.Accepted.{AreAdapterImports, AreTypedFunctions, HasCause, IsAdapterModule, IsCause, IsErrorOrMemory, IsFirstForeign, IsFirstIllTyped, IsFirstRepeated, IsRepeatedExport}
use Rattle.fact_check.specs.Causes.{IsFaultless}
use Rattle.fact_check.specs.declared.error.CheckError.{CheckError}
use Rattle.fact_check.specs.declared.error.CheckError.TheVariants as error
use Rattle.fact_check.specs.declared.error.CheckPlace.TheVariants as place

-- ---- lists by their places

all_at : {A : Type 0} (f : A → Bool) (xs : List A) → ((n : ℕ) (x : A) → slice_get xs n ≡ Some x → f x ≡ true) → list_all f xs ≡ true
all_at f [] each = refl
all_at f (x ∷ xs) each = both (each 0 x refl) (all_at f xs (λ n y e. each (suc n) y e))

at_all : {A : Type 0} (f : A → Bool) (xs : List A) (n : ℕ) (x : A) → list_all f xs ≡ true → slice_get xs n ≡ Some x → f x ≡ true
at_all f [] n x h e = cc
at_all f (y ∷ xs) zero x h e = let same : y ≡ x = cc in subst (λ z. f z ≡ true) same (first_of (f y) (list_all f xs) h)
at_all f (y ∷ xs) (suc n) x h e = at_all f xs n x (second_of (f y) (list_all f xs) h) e

there : {A : Type 0} (xs : List A) (n : ℕ) → n < length xs → (x : A) × (slice_get xs n ≡ Some x)
there [] n h = absurd (omega arith)
there (x ∷ xs) zero h = (x, refl)
there (x ∷ xs) (suc n) h = there xs n (omega arith)

-- a test that passes somewhere
record Passes {A : Type 0} (f : A → Bool) (xs : List A) : Type 0 where
  at : ℕ
  item : A
  is_there : slice_get xs at ≡ Some item
  passes : f item ≡ true

any_at : {A : Type 0} (f : A → Bool) (xs : List A) → list_any f xs ≡ true → Passes f xs
any_at f [] h = absurd (false≢true h)
any_at f (x ∷ xs) h = by_first (f x) refl (λ k. any_at f xs k) h
  where
    by_first : (b : Bool) → f x ≡ b → (list_any f xs ≡ true → Passes f xs) → (b || list_any f xs) ≡ true → Passes f (x ∷ xs)
    by_first true e again k = record { at = 0; item = x; is_there = refl; passes = e }
    by_first false e again k = let r = again k in record { at = suc r.at; item = r.item; is_there = r.is_there; passes = r.passes }

any_from : {A : Type 0} (f : A → Bool) (xs : List A) (n : ℕ) (x : A) → slice_get xs n ≡ Some x → f x ≡ true → list_any f xs ≡ true
any_from f [] n x e h = cc
any_from f (y ∷ xs) zero x e h = let same : y ≡ x = cc in ap (λ b. b || list_any f xs) (ap f same ∙ h)
any_from f (y ∷ xs) (suc n) x e h = either (f y) (any_from f xs n x e h)
  where
    either : (b : Bool) → list_any f xs ≡ true → (b || list_any f xs) ≡ true
    either true k = refl
    either false k = k

-- ---- imports

-- an import of a row is well typed
row_by : (m : WasmModule) (before : List WasmImport) (origin name : List ℕ) (ty : ImportType) → IsRow m.types before origin name ty
    → elim ty as (λ (ty : ImportType). Bool) [ import.Func t ↦ is_some (slice_get m.types t) | import.Memory minimum memory64 log2 ↦ is_memory_type memory64 log2 minimum | import.Global t mutable ↦ true ] ≡ true
row_by m before origin name (import.Func t) r = ap (λ (x : Option FuncType). is_some x) r.1
row_by m before origin name (import.Memory least wide page) r = subst (λ n. is_memory_type wide page n ≡ true) (sym r.2) (by_page wide page r.3)
  where
    by_width : (wide : Bool) (page : Option ℕ) → (page ≡ None) ⊎ (page ≡ Some 0) → is_memory_type wide page 0 ≡ true
    by_width true page (inl e) = ap (λ p. is_memory_type true p 0) e
    by_width true page (inr e) = ap (λ p. is_memory_type true p 0) e
    by_width false page (inl e) = ap (λ p. is_memory_type false p 0) e
    by_width false page (inr e) = ap (λ p. is_memory_type false p 0) e

    by_page : (wide : Bool) (page : Option ℕ) → IsPageSize page → is_memory_type wide page 0 ≡ true
    by_page wide page h = by_width wide page h
row_by m before origin name (import.Global t mutable) r = refl

imports_typed : (m : WasmModule) → AreAdapterImports m (length m.imports) → list_all (is_typed_import m) m.imports ≡ true
imports_typed m h = all_at (is_typed_import m) m.imports (λ n w e.
    let a = h n (slice_get_within m.imports n w e) in
    let same : a.import ≡ w = cc in
    subst (λ v. is_typed_import m v ≡ true) same (row_by m (take n m.imports) a.import.module a.import.name a.import.ty a.is_row))

-- ---- functions

functions_typed : (m : WasmModule) → AreTypedFunctions m (length m.funcs) → list_all (is_typed_function m) m.funcs ≡ true
functions_typed m h = all_at (is_typed_function m) m.funcs (λ n f e.
    subst (λ (o : Option WasmFunc). elim o as (λ (o : Option WasmFunc). Bool) [ None ↦ false | Some f ↦ is_typed_function m f ] ≡ true) e (h n (slice_get_within m.funcs n f e)))

each_typed : (m : WasmModule) (n : ℕ) → list_all (is_typed_function m) m.funcs ≡ true → n < length m.funcs → typed_function m n ≡ true
each_typed m n h lt =
    let f = there m.funcs n lt in
    subst (λ (o : Option WasmFunc). elim o as (λ (o : Option WasmFunc). Bool) [ None ↦ false | Some f ↦ is_typed_function m f ] ≡ true) (sym f.1) (at_all (is_typed_function m) m.funcs n f.0 h f.1)

-- the type of a typed function is there
has_type : (m : WasmModule) (f : WasmFunc) → is_typed_function m f ≡ true → is_some (slice_get m.types f.ty) ≡ true
has_type m f h = by_type (slice_get m.types f.ty) (second_of (list_all declares_numbers f.locals) (elim (slice_get m.types f.ty) as (λ (x : Option FuncType). Bool) [ None ↦ false | Some t ↦ is_typed_body m f t ]) h)
  where
    by_type : (x : Option FuncType) → elim x as (λ (x : Option FuncType). Bool) [ None ↦ false | Some t ↦ is_typed_body m f t ] ≡ true → is_some x ≡ true
    by_type None k = absurd (false≢true k)
    by_type (Some t) k = refl

-- ---- exports

-- the type of an imported function is there
abbrev TypeOf : WasmModule → List WasmImport → ℕ → Type 0
TypeOf m is n = is_some (elim (func_import is n) as (λ (o : Option ℕ). Option FuncType) [ None ↦ None | Some t ↦ slice_get m.types t ]) ≡ true

abbrev Tested : WasmModule → ImportType → Bool
Tested m ty = elim ty [ import.Func t ↦ is_some (slice_get m.types t) | import.Memory minimum memory64 log2 ↦ is_memory_type memory64 log2 minimum | import.Global t mutable ↦ true ]

abbrev Counted : ImportType → Bool
Counted ty = elim ty [ import.Func t ↦ true | import.Memory a b c ↦ false | import.Global a b ↦ false ]

import_by : (m : WasmModule) (is : List WasmImport) → ((n : ℕ) → n < count_by is_function is → TypeOf m is n) → (ty : ImportType) (n : ℕ) → Tested m ty ≡ true → n < cond (Counted ty) 1 0 + count_by is_function is
    → is_some (elim (elim ty as (λ (ty : ImportType). Option ℕ) [ import.Func t ↦ elim n [ zero ↦ Some t | suc k ↦ func_import is k ] | import.Memory a b c ↦ func_import is n | import.Global a b ↦ func_import is n ]) as (λ (o : Option ℕ). Option FuncType) [ None ↦ None | Some t ↦ slice_get m.types t ]) ≡ true
import_by m is again (import.Func t) zero h lt = h
import_by m is again (import.Func t) (suc n) h lt = again n (omega arith)
import_by m is again (import.Memory a b c) n h lt = again n (omega arith)
import_by m is again (import.Global a b) n h lt = again n (omega arith)

import_there : (m : WasmModule) (is : List WasmImport) → list_all (is_typed_import m) is ≡ true → (n : ℕ) → n < count_by is_function is → TypeOf m is n
import_there m [] h n lt = absurd (omega arith)
import_there m (i ∷ is) h n lt =
    import_by m is (λ n lt. import_there m is (second_of (is_typed_import m i) (list_all (is_typed_import m) is) h) n lt) i.ty n (first_of (is_typed_import m i) (list_all (is_typed_import m) is) h)
    (subst (λ k. n < k) (sum_by-cons (λ (j : WasmImport). cond (is_function j) 1 0) i is) lt)

function_there : (m : WasmModule) (f : FuncName) → list_all (is_typed_import m) m.imports ≡ true → list_all (is_typed_function m) m.funcs ≡ true → HasFunction (imported_functions m) (length m.funcs) f → is_some (function_type m f) ≡ true
function_there m (func.Import n) h k lt = import_there m m.imports h n lt
function_there m (func.Defined n) h k lt =
    let f = there m.funcs n lt in
    subst (λ (o : Option WasmFunc). is_some (elim o as (λ (o : Option WasmFunc). Option FuncType) [ None ↦ None | Some f ↦ slice_get m.types f.ty ]) ≡ true) (sym f.1) (has_type m f.0 (at_all (is_typed_function m) m.funcs n f.0 k f.1))

exports_typed : (m : WasmModule) (es : List WasmExport) → list_all (is_typed_import m) m.imports ≡ true → list_all (is_typed_function m) m.funcs ≡ true → AreExportsNamed (imported_functions m) (length m.funcs) es → list_all (is_typed_export m) es ≡ true
exports_typed m [] h k named = refl
exports_typed m (e ∷ es) h k named = both (function_there m e.func h k named.0) (exports_typed m es h k named.1)

-- ---- names

distinct : (es : List WasmExport) → ((n : ℕ) → IsRepeatedExport es n → ⊥) → are_distinct es ≡ true
distinct [] none = refl
distinct (e ∷ es) none = both (ap not (by_any (list_any (λ d. bytes_eq e.name d.name) es) refl)) (distinct es (λ n r. none (suc n) (record { export = r.export; there = r.there; place = suc r.place; before = omega (arith, r.before); earlier = r.earlier; earlier_there = r.earlier_there; same_name = r.same_name })))
  where
    by_any : (b : Bool) → list_any (λ d. bytes_eq e.name d.name) es ≡ b → list_any (λ d. bytes_eq e.name d.name) es ≡ false
    by_any false k = k
    by_any true k =
        let r = any_at (λ (d : WasmExport). bytes_eq e.name d.name) es k in
        absurd (none (suc r.at) (record { export = r.item; there = r.is_there; place = 0; before = omega arith; earlier = e; earlier_there = refl; same_name = (bytes_eq-Decides e.name r.item.name).0 r.passes }))

not_repeated : (es : List WasmExport) → are_distinct es ≡ true → (place n : ℕ) (d e : WasmExport) → place < n → slice_get es place ≡ Some d → slice_get es n ≡ Some e → d.name ≡ e.name → ⊥
not_repeated [] h place n d e lt p q s = absurd (cc)
not_repeated (x ∷ es) h place zero d e lt p q s = absurd (omega arith)
not_repeated (x ∷ es) h zero (suc n) d e lt p q s =
    let same : x ≡ d = cc in
    let found : list_any (λ (y : WasmExport). bytes_eq x.name y.name) es ≡ true = any_from (λ (y : WasmExport). bytes_eq x.name y.name) es n e q ((bytes_eq-Decides x.name e.name).1 (ap (λ (y : WasmExport). y.name) same ∙ s)) in
    false≢true (ap not (sym found) ∙ first_of (not (list_any (λ (y : WasmExport). bytes_eq x.name y.name) es)) (are_distinct es) h)
not_repeated (x ∷ es) h (suc place) (suc n) d e lt p q s = not_repeated es (second_of (not (list_any (λ (y : WasmExport). bytes_eq x.name y.name) es)) (are_distinct es) h) place n d e (omega arith) p q s

-- ---- whole modules

pub faultless : (m : WasmModule) → InRange m → IsFaultless m → IsAdapterModule m
faultless m r f =
    let imports = imports_typed m f.imports in
    let functions = functions_typed m f.functions in
    record { imports = f.imports; typed = both imports (both (exports_typed m m.exports imports functions r.exports) (both (distinct m.exports f.exports) functions)) }

pub no_cause : (m : WasmModule) → IsAdapterModule m → (e : CheckError) → HasCause m e → ⊥
no_cause m a error.OutOfMemory h = h
no_cause m a error.NotInGrammar h = h
no_cause m a (error.NotAdapter n) h = h.is_foreign (a.imports n h.within)
no_cause m a (error.IllTyped (place.Func n)) h =
    let rest = second_of (list_all (is_typed_import m) m.imports) (list_all (is_typed_export m) m.exports && (are_distinct m.exports && list_all (is_typed_function m) m.funcs)) a.typed in
    let last = second_of (list_all (is_typed_export m) m.exports) (are_distinct m.exports && list_all (is_typed_function m) m.funcs) rest in
    false≢true (sym h.1.is_ill_typed ∙ each_typed m n (second_of (are_distinct m.exports) (list_all (is_typed_function m) m.funcs) last) h.1.within)
no_cause m a (error.IllTyped (place.Export n)) h =
    let rest = second_of (list_all (is_typed_import m) m.imports) (list_all (is_typed_export m) m.exports && (are_distinct m.exports && list_all (is_typed_function m) m.funcs)) a.typed in
    let last = second_of (list_all (is_typed_export m) m.exports) (are_distinct m.exports && list_all (is_typed_function m) m.funcs) rest in
    let r = h.2.is_repeated in
    not_repeated m.exports (first_of (are_distinct m.exports) (list_all (is_typed_function m) m.funcs) last) r.place n r.earlier r.export r.before r.earlier_there r.there r.same_name

-- ---- one cause

before_or_at : (m n : ℕ) → (m < n → ⊥) → (n < m → ⊥) → m ≡ n
before_or_at m n a b = by_place (cases_lt m n) (cases_lt n m)
  where
    by_place : (m < n) ⊎ (n ≤ m) → (n < m) ⊎ (m ≤ n) → m ≡ n
    by_place (inl l) k = absurd (a l)
    by_place (inr l) (inl k) = absurd (b k)
    by_place (inr l) (inr k) = omega arith

same_foreign : (m : WasmModule) (j k : ℕ) → IsFirstForeign m j → IsFirstForeign m k → j ≡ k
same_foreign m j k a b = before_or_at j k (λ l. a.is_foreign (b.before j l)) (λ l. b.is_foreign (a.before k l))

same_ill_typed : (m : WasmModule) (j k : ℕ) → IsFirstIllTyped m j → IsFirstIllTyped m k → j ≡ k
same_ill_typed m j k a b = before_or_at j k (λ l. false≢true (sym a.is_ill_typed ∙ b.before j l)) (λ l. false≢true (sym b.is_ill_typed ∙ a.before k l))

same_repeated : (es : List WasmExport) (j k : ℕ) → IsFirstRepeated es j → IsFirstRepeated es k → j ≡ k
same_repeated es j k a b = before_or_at j k (λ l. b.before j l a.is_repeated) (λ l. a.before k l b.is_repeated)

one_cause : (m : WasmModule) (e f : CheckError) → HasCause m e → HasCause m f → e ≡ f
one_cause m error.OutOfMemory f a b = absurd a
one_cause m error.NotInGrammar f a b = absurd a
one_cause m (error.NotAdapter j) error.OutOfMemory a b = absurd b
one_cause m (error.NotAdapter j) error.NotInGrammar a b = absurd b
one_cause m (error.NotAdapter j) (error.NotAdapter k) a b = ap (λ n. error.NotAdapter n) (same_foreign m j k a b)
one_cause m (error.NotAdapter j) (error.IllTyped (place.Func k)) a b = absurd (a.is_foreign (b.0 j a.within))
one_cause m (error.NotAdapter j) (error.IllTyped (place.Export k)) a b = absurd (a.is_foreign (b.0 j a.within))
one_cause m (error.IllTyped (place.Func j)) error.OutOfMemory a b = absurd b
one_cause m (error.IllTyped (place.Func j)) error.NotInGrammar a b = absurd b
one_cause m (error.IllTyped (place.Func j)) (error.NotAdapter k) a b = absurd (b.is_foreign (a.0 k b.within))
one_cause m (error.IllTyped (place.Func j)) (error.IllTyped (place.Func k)) a b = ap (λ n. error.IllTyped (place.Func n)) (same_ill_typed m j k a.1 b.1)
one_cause m (error.IllTyped (place.Func j)) (error.IllTyped (place.Export k)) a b = absurd (false≢true (sym a.1.is_ill_typed ∙ b.1 j a.1.within))
one_cause m (error.IllTyped (place.Export j)) error.OutOfMemory a b = absurd b
one_cause m (error.IllTyped (place.Export j)) error.NotInGrammar a b = absurd b
one_cause m (error.IllTyped (place.Export j)) (error.NotAdapter k) a b = absurd (b.is_foreign (a.0 k b.within))
one_cause m (error.IllTyped (place.Export j)) (error.IllTyped (place.Func k)) a b = absurd (false≢true (sym b.1.is_ill_typed ∙ a.1 k b.1.within))
one_cause m (error.IllTyped (place.Export j)) (error.IllTyped (place.Export k)) a b = ap (λ n. error.IllTyped (place.Export n)) (same_repeated m.exports j k a.2 b.2)

-- of bytes that spell no module
pub no_module : (bytes : List ℕ) → ((m : WasmModule) → InRange m → Spells bytes m → ⊥) → (e : CheckError) → (e ≡ error.OutOfMemory → ⊥) → IsCause bytes e → error.NotInGrammar ≡ e
no_module bytes none error.OutOfMemory told h = absurd (told refl)
no_module bytes none error.NotInGrammar told h = refl
no_module bytes none (error.NotAdapter n) told h = absurd (none h.0 h.1 h.2)
no_module bytes none (error.IllTyped p) told h = absurd (none h.0 h.1 h.2)

-- and of such as spell one
module _ (bytes : List ℕ) (m : WasmModule) (in_range : InRange m) (spelled : Spells bytes m) (only : (x : WasmModule) → InRange x → Spells bytes x → m ≡ x) where
  cause_in : (e : CheckError) → (e ≡ error.OutOfMemory → ⊥) → IsCause bytes e → HasCause m e
  cause_in error.OutOfMemory told h = absurd (told refl)
  cause_in error.NotInGrammar told h = absurd (h m in_range spelled)
  cause_in (error.NotAdapter n) told h = subst (λ x. HasCause x (error.NotAdapter n)) (sym (only h.0 h.1 h.2)) h.3
  cause_in (error.IllTyped p) told h = subst (λ x. HasCause x (error.IllTyped p)) (sym (only h.0 h.1 h.2)) h.3

  pub none_told : IsAdapterModule m → (e : CheckError) → (e ≡ error.OutOfMemory → ⊥) → IsCause bytes e → ⊥
  none_told a e told h = no_cause m a e (cause_in e told h)

  pub that_one : (cause : CheckError) → HasCause m cause → (e : CheckError) → (e ≡ error.OutOfMemory → ⊥) → IsCause bytes e → IsErrorOrMemory (Err cause) e
  that_one error.OutOfMemory c e told h = tt
  that_one error.NotInGrammar c e told h = absurd c
  that_one (error.NotAdapter n) c e told h = one_cause m (error.NotAdapter n) e c (cause_in e told h)
  that_one (error.IllTyped p) c e told h = one_cause m (error.IllTyped p) e c (cause_in e told h)
