-- Imports that have the names and the types of what they are, as more of them come.
use Rattle.std.proofs.Common.{◌≡◌, ℕ, zero, suc, List, [], ◌∷◌, ◌++◌, None, Some, refl, sym, ap, subst, length, slice_get, append_assoc, append-nil}
use Rattle.std.proofs.lemmas.List.Elements.{Contains-append_left}
use Rattle.fact_wasm.specs.declared.types.FuncType.{FuncType}
use Rattle.fact_wasm.specs.declared.module.ImportType.{ImportType}
use Rattle.fact_wasm.specs.declared.module.ImportType.TheVariants as import
use Rattle.fact_wasm.specs.declared.module.WasmImport.{WasmImport}
use Rattle.fact_machine.specs.Machine.{func_import}
use Rattle.fact_types.specs.declared.import.Import.{Import}
use Rattle.fact_types.specs.declared.import.Import.TheVariants as known
use Rattle.fact_emit.specs.ImportSection.{AreNamed, Callback, Callee, Flags, IsImportedFunction, IsNamed, Mention, PostReturn, Realloc, Role, Sort, StandsFor, Storage, a_function, a_global, a_memory, def_of, imported_type, imports_of, sort_of}
use Rattle.fact_machine.proofs.Tests.{get_append}

pub named-lengths : (types : List FuncType) (ms : List Mention) (before ws : List WasmImport) (is : List Import) → AreNamed types ms before ws is → length ws ≡ length is
named-lengths types ms before [] [] h = refl
named-lengths types ms before [] (i ∷ is) h = absurd h
named-lengths types ms before (w ∷ ws) [] h = absurd h
named-lengths types ms before (w ∷ ws) (i ∷ is) h = ap suc (named-lengths types ms (before ++ w ∷ []) ws is h.1)

-- ---- more types, more mentions

pub typed-more : (types more : List FuncType) (ty : ImportType) (t : FuncType) → imported_type types ty ≡ Some t → imported_type (types ++ more) ty ≡ Some t
typed-more types more (import.Func k) t e = get_append types more k t e
typed-more types more (import.Memory a b c) t e = cc
typed-more types more (import.Global a b) t e = cc

pub function-more : (types more : List FuncType) (w : WasmImport) (origin name : List ℕ) (ty : FuncType) → IsImportedFunction types w origin name ty → IsImportedFunction (types ++ more) w origin name ty
function-more types more w origin name ty h = record { is_from = h.is_from; is_named = h.is_named; is_typed = typed-more types more w.ty ty h.is_typed }

stands-more : (types more : List FuncType) (before : List WasmImport) (r : Role) (w : WasmImport) → StandsFor types before r w → StandsFor (types ++ more) before r w
stands-more types more before (Flags i) w h = h
stands-more types more before (Storage wide k) w h = h
stands-more types more before (Realloc wide) w h = function-more types more w _ _ _ h
stands-more types more before Callback w h = function-more types more w _ _ _ h
stands-more types more before (Callee adapter ty) w h = function-more types more w _ _ _ h
stands-more types more before (PostReturn adapter results) w h = function-more types more w _ _ _ h

is-named-more : (types more : List FuncType) (ms ns : List Mention) (before : List WasmImport) (w : WasmImport) (i : Import) → IsNamed types ms before w i → IsNamed (types ++ more) (ms ++ ns) before w i
is-named-more types more ms ns before w (known.CoreDef d) h = (h.0, Contains-append_left ms ns _ h.1, stands-more types more before h.0 w h.2)
is-named-more types more ms ns before w (known.Trap t) h = function-more types more w _ _ _ h
is-named-more types more ms ns before w (known.Transcode a b c d e) h = typed-more types more w.ty _ h
is-named-more types more ms ns before w known.ResourceTransferOwn h = function-more types more w _ _ _ h
is-named-more types more ms ns before w known.ResourceTransferBorrow h = function-more types more w _ _ _ h
is-named-more types more ms ns before w (known.PrepareCall a) h = (h.0, typed-more types more w.ty _ h.1)
is-named-more types more ms ns before w (known.StartCall a b) h = (h.0, typed-more types more w.ty _ h.1)
is-named-more types more ms ns before w known.FutureTransfer h = function-more types more w _ _ _ h
is-named-more types more ms ns before w known.StreamTransfer h = function-more types more w _ _ _ h
is-named-more types more ms ns before w known.ErrorContextTransfer h = function-more types more w _ _ _ h
is-named-more types more ms ns before w known.EnterSyncCall h = function-more types more w _ _ _ h
is-named-more types more ms ns before w known.ExitSyncCall h = function-more types more w _ _ _ h
is-named-more types more ms ns before w (known.UnsafeIntrinsic a) h = function-more types more w _ _ _ h

pub named-more : (types more : List FuncType) (ms ns : List Mention) (before ws : List WasmImport) (is : List Import) → AreNamed types ms before ws is → AreNamed (types ++ more) (ms ++ ns) before ws is
named-more types more ms ns before [] [] h = tt
named-more types more ms ns before [] (i ∷ is) h = absurd h
named-more types more ms ns before (w ∷ ws) [] h = absurd h
named-more types more ms ns before (w ∷ ws) (i ∷ is) h = (is-named-more types more ms ns before w i h.0, named-more types more ms ns (before ++ w ∷ []) ws is h.1)

-- ---- one more import

pub named-push : (types : List FuncType) (ms : List Mention) (before ws : List WasmImport) (is : List Import) (w : WasmImport) (i : Import)
    → AreNamed types ms before ws is → IsNamed types ms (before ++ ws) w i → AreNamed types ms before (ws ++ w ∷ []) (is ++ i ∷ [])
named-push types ms before [] [] w i h n = (subst (λ b. IsNamed types ms b w i) (append-nil before) n, tt)
named-push types ms before [] (j ∷ is) w i h n = absurd h
named-push types ms before (v ∷ ws) [] w i h n = absurd h
named-push types ms before (v ∷ ws) (j ∷ is) w i h n = (h.0, named-push types ms (before ++ v ∷ []) ws is w i h.1 (subst (λ b. IsNamed types ms b w i) (sym (append_assoc before (v ∷ []) ws)) n))

-- ---- an import by its place

-- what stands at a place is named
pub named-at : (types : List FuncType) (ms : List Mention) (before ws : List WasmImport) (is : List Import) (k : ℕ) (i : Import)
    → AreNamed types ms before ws is → slice_get is k ≡ Some i → (w : WasmImport) × (slice_get ws k ≡ Some w) × (b : List WasmImport) × IsNamed types ms b w i
named-at types ms before [] [] k i h e = cc
named-at types ms before [] (j ∷ is) k i h e = absurd h
named-at types ms before (v ∷ ws) [] k i h e = absurd h
named-at types ms before (v ∷ ws) (j ∷ is) zero i h e = let same : j ≡ i = cc in (v, refl, before, subst (IsNamed types ms before v) same h.0)
named-at types ms before (v ∷ ws) (j ∷ is) (suc k) i h e = named-at types ms (before ++ v ∷ []) ws is k i h.1 e

-- the nth imported function
pub function-at : (types : List FuncType) (ms : List Mention) (before ws : List WasmImport) (is : List Import) (n : ℕ) (i : Import)
    → AreNamed types ms before ws is → slice_get (imports_of a_function ws is) n ≡ Some i
    → (w : WasmImport) × (t : ℕ) × (w.ty ≡ import.Func t) × (func_import ws n ≡ Some t) × (b : List WasmImport) × IsNamed types ms b w i
function-at types ms before [] [] n i h e = cc
function-at types ms before [] (j ∷ is) n i h e = absurd h
function-at types ms before (v ∷ ws) [] n i h e = absurd h
function-at types ms before (v ∷ ws) (j ∷ is) n i h e = step v.ty refl n e (λ m f. function-at types ms (before ++ v ∷ []) ws is m i h.1 f)
  where
    step : (ty : ImportType) → v.ty ≡ ty → (n : ℕ) → slice_get (imports_of a_function (v ∷ ws) (j ∷ is)) n ≡ Some i
        → ((m : ℕ) → slice_get (imports_of a_function ws is) m ≡ Some i → (w : WasmImport) × (t : ℕ) × (w.ty ≡ import.Func t) × (func_import ws m ≡ Some t) × (b : List WasmImport) × IsNamed types ms b w i)
        → (w : WasmImport) × (t : ℕ) × (w.ty ≡ import.Func t) × (func_import (v ∷ ws) n ≡ Some t) × (b : List WasmImport) × IsNamed types ms b w i
    step (import.Func t) same zero e rest = let f : Some j ≡ Some i = rw same at e in let is_i : j ≡ i = cc in (v, t, same, rw same refl, before, subst (IsNamed types ms before v) is_i h.0)
    step (import.Func t) same (suc n) e rest = let r = rest n (rw same at e) in (r.0, r.1, r.2, rw same r.3, r.4, r.5)
    step (import.Memory a b c) same n e rest = let r = rest n (rw same at e) in (r.0, r.1, r.2, rw same r.3, r.4, r.5)
    step (import.Global a b) same n e rest = let r = rest n (rw same at e) in (r.0, r.1, r.2, rw same r.3, r.4, r.5)

-- the kind of import that stands for a role
abbrev pub sort_for : Role → Sort
sort_for (Flags i) = a_global
sort_for (Storage wide k) = a_memory
sort_for _ = a_function

pub function-sort : (types : List FuncType) (ty : ImportType) (t : FuncType) → imported_type types ty ≡ Some t → sort_of ty ≡ a_function
function-sort types (import.Func k) t e = refl
function-sort types (import.Memory a b c) t e = cc
function-sort types (import.Global a b) t e = cc

-- what is no core definition is a function
pub named-function : (types : List FuncType) (ms : List Mention) (before : List WasmImport) (w : WasmImport) (i : Import) → def_of i ≡ None → IsNamed types ms before w i → sort_of w.ty ≡ a_function
named-function types ms before w (known.CoreDef d) e h = cc
named-function types ms before w (known.Trap t) e h = function-sort types w.ty _ h.is_typed
named-function types ms before w (known.Transcode a b c d e') e h = function-sort types w.ty _ h
named-function types ms before w known.ResourceTransferOwn e h = function-sort types w.ty _ h.is_typed
named-function types ms before w known.ResourceTransferBorrow e h = function-sort types w.ty _ h.is_typed
named-function types ms before w (known.PrepareCall a) e h = function-sort types w.ty _ h.1
named-function types ms before w (known.StartCall a b) e h = function-sort types w.ty _ h.1
named-function types ms before w known.FutureTransfer e h = function-sort types w.ty _ h.is_typed
named-function types ms before w known.StreamTransfer e h = function-sort types w.ty _ h.is_typed
named-function types ms before w known.ErrorContextTransfer e h = function-sort types w.ty _ h.is_typed
named-function types ms before w known.EnterSyncCall e h = function-sort types w.ty _ h.is_typed
named-function types ms before w known.ExitSyncCall e h = function-sort types w.ty _ h.is_typed
named-function types ms before w (known.UnsafeIntrinsic a) e h = function-sort types w.ty _ h.is_typed

pub stands-sort : (types : List FuncType) (before : List WasmImport) (r : Role) (w : WasmImport) → StandsFor types before r w → sort_of w.ty ≡ sort_for r
stands-sort types before (Flags i) w h = ap (λ (v : WasmImport). sort_of v.ty) h
stands-sort types before (Storage wide k) w h = ap (λ (v : WasmImport). sort_of v.ty) h
stands-sort types before (Realloc wide) w h = function-sort types w.ty _ h.is_typed
stands-sort types before Callback w h = function-sort types w.ty _ h.is_typed
stands-sort types before (Callee adapter ty) w h = function-sort types w.ty _ h.is_typed
stands-sort types before (PostReturn adapter results) w h = function-sort types w.ty _ h.is_typed
