-- Imports by their kinds, locals by their runs, and lists by their places.
use Rattle.std.proofs.Common.{◌≡◌, ◌≤◌, ◌<◌, ◌-◌, ◌^◌, ℕ, zero, suc, Bool, ◌&&◌, List, [], ◌∷◌, ◌++◌, Option, Some, None, Result, Ok, Err, refl, sym, ap, ◌∙◌, length, slice_get, arith, append-nil}
use Rattle.std.specs.Prelude.{OnOk, nat_le, nat_lt, option_map, option_and_then, replicate}
use Rattle.std.specs.List.{filter_map, cons_option}
use Rattle.fact_wasm.specs.declared.types.ValType.{ValType}
use Rattle.fact_wasm.specs.declared.types.FuncType.{FuncType}
use Rattle.fact_wasm.specs.declared.instr.FuncName.TheVariants as func
use Rattle.fact_wasm.specs.declared.instr.MemArg.{MemArg}
use Rattle.fact_wasm.specs.declared.module.ImportType.{ImportType}
use Rattle.fact_wasm.specs.declared.module.ImportType.TheVariants as import
use Rattle.fact_wasm.specs.declared.module.WasmImport.{WasmImport}
use Rattle.fact_wasm.specs.declared.module.WasmFunc.{WasmFunc}
use Rattle.fact_wasm.specs.declared.module.WasmModule.{WasmModule}
use Rattle.fact_machine.specs.Machine.{func_import, memory_import}
use Rattle.fact_machine.specs.Typing.{Context, only_if, address_bits, address_type, address_at, function_type, global_import}
use Rattle.fact_check.specs.Imports.{type_of_function, width_of_memory}
use Rattle.fact_check.specs.Sections.{IsSectionOf, kind_of_global}
use Rattle.fact_check.specs.declared.section.Section.{Section}

-- ---- an import behind others

cons_first : {B : Type 0} (o : Option B) (xs ys : List B) → cons_option o (xs ++ ys) ≡ cons_option o xs ++ ys
cons_first None xs ys = refl
cons_first (Some b) xs ys = refl

filter_push : {A B : Type 0} (f : A → Option B) (xs : List A) (x : A) → filter_map f (xs ++ x ∷ []) ≡ filter_map f xs ++ cons_option (f x) []
filter_push f [] x = refl
filter_push f (y ∷ xs) x = ap (cons_option (f y)) (filter_push f xs x) ∙ cons_first (f y) (filter_map f xs) (cons_option (f x) [])

-- one that a list takes up, and one that it passes over
taken_up : {A B : Type 0} (f : A → Option B) (xs : List A) (x : A) (b : B) (ys : List B) → f x ≡ Some b → ys ≡ filter_map f xs ++ b ∷ [] → ys ≡ filter_map f (xs ++ x ∷ [])
taken_up f xs x b ys e h = h ∙ sym (filter_push f xs x ∙ ap (λ o. filter_map f xs ++ cons_option o []) e)

passed_over : {A B : Type 0} (f : A → Option B) (xs : List A) (x : A) (ys : List B) → f x ≡ None → ys ≡ filter_map f xs → ys ≡ filter_map f (xs ++ x ∷ [])
passed_over f xs x ys e h = h ∙ sym (filter_push f xs x ∙ ap (λ o. filter_map f xs ++ cons_option o []) e ∙ append-nil (filter_map f xs))

abbrev Width : ImportType → Option Bool
Width ty = elim ty [ import.Func t ↦ None | import.Memory least wide page ↦ Some wide | import.Global t mutable ↦ None ]

abbrev Kind : ImportType → Option (ValType × Bool)
Kind ty = elim ty [ import.Func t ↦ None | import.Memory least wide page ↦ None | import.Global t mutable ↦ Some (t, mutable) ]

abbrev Index : ImportType → Option ℕ
Index ty = elim ty [ import.Func t ↦ Some t | import.Memory least wide page ↦ None | import.Global t mutable ↦ None ]

pub adds_function : {E : Type 0} (s : Section) (before : List WasmImport) (w : WasmImport) (t : ℕ) (fs : List ℕ) (r : Result (Unit {0}) E) → w.ty ≡ import.Func t → OnOk r (fs ≡ s.functions ++ t ∷ []) → IsSectionOf s before
    → OnOk r (IsSectionOf (record { functions = fs; memories = s.memories; globals = s.globals }) (before ++ w ∷ []))
adds_function s before w t fs (Ok u) e h i = record {
  functions = taken_up type_of_function before w t fs (ap Index e) (h ∙ ap (λ l. l ++ t ∷ []) i.functions);
  memories = passed_over width_of_memory before w s.memories (ap Width e) i.memories;
  globals = passed_over kind_of_global before w s.globals (ap Kind e) i.globals;
}
adds_function s before w t fs (Err x) e h i = tt

pub adds_memory : {E : Type 0} (s : Section) (before : List WasmImport) (w : WasmImport) (least : ℕ) (wide : Bool) (page : Option ℕ) (ms : List Bool) (r : Result (Unit {0}) E) → w.ty ≡ import.Memory least wide page → OnOk r (ms ≡ s.memories ++ wide ∷ []) → IsSectionOf s before
    → OnOk r (IsSectionOf (record { functions = s.functions; memories = ms; globals = s.globals }) (before ++ w ∷ []))
adds_memory s before w least wide page ms (Ok u) e h i = record {
  functions = passed_over type_of_function before w s.functions (ap Index e) i.functions;
  memories = taken_up width_of_memory before w wide ms (ap Width e) (h ∙ ap (λ l. l ++ wide ∷ []) i.memories);
  globals = passed_over kind_of_global before w s.globals (ap Kind e) i.globals;
}
adds_memory s before w least wide page ms (Err x) e h i = tt

pub adds_global : {E : Type 0} (s : Section) (before : List WasmImport) (w : WasmImport) (t : ValType) (mutable : Bool) (gs : List (ValType × Bool)) (r : Result (Unit {0}) E) → w.ty ≡ import.Global t mutable → OnOk r (gs ≡ s.globals ++ (t, mutable) ∷ []) → IsSectionOf s before
    → OnOk r (IsSectionOf (record { functions = s.functions; memories = s.memories; globals = gs }) (before ++ w ∷ []))
adds_global s before w t mutable gs (Ok u) e h i = record {
  functions = passed_over type_of_function before w s.functions (ap Index e) i.functions;
  memories = passed_over width_of_memory before w s.memories (ap Width e) i.memories;
  globals = taken_up kind_of_global before w (t, mutable) gs (ap Kind e) (h ∙ ap (λ l. l ++ (t, mutable) ∷ []) i.globals);
}
adds_global s before w t mutable gs (Err x) e h i = tt

-- ---- imports by their places

abbrev FunctionsAt : List WasmImport → Type 0
FunctionsAt is = (n : ℕ) → func_import is n ≡ slice_get (filter_map type_of_function is) n

functions_by : (is : List WasmImport) → FunctionsAt is → (ty : ImportType) (n : ℕ)
    → elim ty as (λ (ty : ImportType). Option ℕ) [ import.Func t ↦ elim n [ zero ↦ Some t | suc m ↦ func_import is m ] | import.Memory a b c ↦ func_import is n | import.Global a b ↦ func_import is n ] ≡ slice_get (cons_option (Index ty) (filter_map type_of_function is)) n
functions_by is again (import.Func t) zero = refl
functions_by is again (import.Func t) (suc n) = again n
functions_by is again (import.Memory a b c) n = again n
functions_by is again (import.Global a b) n = again n

pub functions_at : (is : List WasmImport) → FunctionsAt is
functions_at [] n = refl
functions_at (i ∷ is) n = functions_by is (λ n. functions_at is n) i.ty n

abbrev WidthsAt : List WasmImport → Type 0
WidthsAt is = (n : ℕ) → option_map (λ (k : Bool × Option ℕ). k.0) (memory_import is n) ≡ slice_get (filter_map width_of_memory is) n

widths_by : (is : List WasmImport) → WidthsAt is → (ty : ImportType) (n : ℕ)
    → option_map (λ (k : Bool × Option ℕ). k.0) (elim ty as (λ (ty : ImportType). Option (Bool × Option ℕ)) [ import.Func t ↦ memory_import is n | import.Memory minimum memory64 log2 ↦ elim n [ zero ↦ Some (memory64, log2) | suc m ↦ memory_import is m ] | import.Global a b ↦ memory_import is n ]) ≡ slice_get (cons_option (Width ty) (filter_map width_of_memory is)) n
widths_by is again (import.Func t) n = again n
widths_by is again (import.Memory a b c) zero = refl
widths_by is again (import.Memory a b c) (suc n) = again n
widths_by is again (import.Global a b) n = again n

pub widths_at : (is : List WasmImport) → WidthsAt is
widths_at [] n = refl
widths_at (i ∷ is) n = widths_by is (λ n. widths_at is n) i.ty n

abbrev GlobalsAt : List WasmImport → Type 0
GlobalsAt is = (n : ℕ) → global_import is n ≡ slice_get (filter_map kind_of_global is) n

globals_by : (is : List WasmImport) → GlobalsAt is → (ty : ImportType) (n : ℕ)
    → elim ty as (λ (ty : ImportType). Option (ValType × Bool)) [ import.Func t ↦ global_import is n | import.Memory a b c ↦ global_import is n | import.Global t mutable ↦ elim n [ zero ↦ Some (t, mutable) | suc m ↦ global_import is m ] ] ≡ slice_get (cons_option (Kind ty) (filter_map kind_of_global is)) n
globals_by is again (import.Func t) n = again n
globals_by is again (import.Memory a b c) n = again n
globals_by is again (import.Global t mutable) zero = refl
globals_by is again (import.Global t mutable) (suc n) = again n

pub globals_at : (is : List WasmImport) → GlobalsAt is
globals_at [] n = refl
globals_at (i ∷ is) n = globals_by is (λ n. globals_at is n) i.ty n

-- ---- what is looked up

pub import_type : (M : WasmModule) (fs : List ℕ) (n t : ℕ) → fs ≡ filter_map type_of_function M.imports → Some t ≡ slice_get fs n → slice_get M.types t ≡ function_type M (func.Import n)
import_type M fs n t is h = ap (λ (o : Option ℕ). elim o as (λ (o : Option ℕ). Option FuncType) [ None ↦ None | Some t ↦ slice_get M.types t ]) (h ∙ ap (λ l. slice_get l n) is ∙ sym (functions_at M.imports n))

pub no_import : (M : WasmModule) (fs : List ℕ) (n : ℕ) → fs ≡ filter_map type_of_function M.imports → None ≡ slice_get fs n → None ≡ function_type M (func.Import n)
no_import M fs n is h = ap (λ (o : Option ℕ). elim o as (λ (o : Option ℕ). Option FuncType) [ None ↦ None | Some t ↦ slice_get M.types t ]) (h ∙ ap (λ l. slice_get l n) is ∙ sym (functions_at M.imports n))

pub defined_type : (M : WasmModule) (n : ℕ) (f : WasmFunc) → Some f ≡ slice_get M.funcs n → slice_get M.types f.ty ≡ function_type M (func.Defined n)
defined_type M n f h = ap (option_and_then (λ (f : WasmFunc). slice_get M.types f.ty)) h

pub no_defined : (M : WasmModule) (n : ℕ) → None ≡ slice_get M.funcs n → None ≡ function_type M (func.Defined n)
no_defined M n h = ap (option_and_then (λ (f : WasmFunc). slice_get M.types f.ty)) h

-- the width of a memory is all that an address hangs on
abbrev by_width : (natural : ℕ) → MemArg → Option Bool → Option ValType
by_width natural m o = option_and_then (λ wide. only_if (nat_le m.align natural && nat_lt m.offset (2 ^ address_bits wide)) (Some (address_type wide))) o

address_by : (natural : ℕ) (m : MemArg) (o : Option (Bool × Option ℕ))
    → by_width natural m (option_map (λ (k : Bool × Option ℕ). k.0) o) ≡ option_and_then (λ (k : Bool × Option ℕ). only_if (nat_le m.align natural && nat_lt m.offset (2 ^ address_bits k.0)) (Some (address_type k.0))) o
address_by natural m None = refl
address_by natural m (Some k) = refl

pub addressed : (G : Context) (natural : ℕ) (m : MemArg) (o : Option Bool) → o ≡ option_map (λ (k : Bool × Option ℕ). k.0) (memory_import G.whole.imports m.memory_index) → by_width natural m o ≡ address_at G natural m
addressed G natural m o h = ap (by_width natural m) h ∙ address_by natural m (memory_import G.whole.imports m.memory_index)

-- ---- lists by their places

pub get_behind : {A : Type 0} (xs ys : List A) (n : ℕ) → length xs ≤ n → slice_get ys (n - length xs) ≡ slice_get (xs ++ ys) n
get_behind [] ys n h = let e : n - 0 ≡ n = omega arith in ap (slice_get ys) e
get_behind (x ∷ xs) ys zero h = absurd (omega arith)
get_behind (x ∷ xs) ys (suc n) h = let e : suc n - suc (length xs) ≡ n - length xs = omega arith in ap (slice_get ys) e ∙ get_behind xs ys n (omega arith)

pub get_front : {A : Type 0} (xs ys : List A) (n : ℕ) → n < length xs → slice_get xs n ≡ slice_get (xs ++ ys) n
get_front [] ys n h = absurd (omega arith)
get_front (x ∷ xs) ys zero h = refl
get_front (x ∷ xs) ys (suc n) h = get_front xs ys n (omega arith)

-- a place in a run of one type, or behind it
pub in_run : (count : ℕ) (t : ValType) (ys : List ValType) (n : ℕ) → n < count → Some t ≡ slice_get (replicate count t ++ ys) n
in_run zero t ys n h = absurd (omega arith)
in_run (suc count) t ys zero h = refl
in_run (suc count) t ys (suc n) h = in_run count t ys n (omega arith)

pub past_run : (count : ℕ) (t : ValType) (ys : List ValType) (n : ℕ) → count ≤ n → slice_get ys (n - count) ≡ slice_get (replicate count t ++ ys) n
past_run zero t ys n h = let e : n - 0 ≡ n = omega arith in ap (slice_get ys) e
past_run (suc count) t ys zero h = absurd (omega arith)
past_run (suc count) t ys (suc n) h = let e : suc n - suc count ≡ n - count = omega arith in ap (slice_get ys) e ∙ past_run count t ys n (omega arith)
