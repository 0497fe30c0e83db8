-- States, locals and values by their types.
use Rattle.std.proofs.Common.{◌≡◌, ℕ, zero, suc, ◌/◌, Bool, true, false, ◌||◌, List, [], ◌∷◌, ◌++◌, Option, Some, None, refl, sym, ap, ◌∙◌, subst, length, map, slice_get, arith}
use Rattle.std.specs.Prelude.{nat_eq, slice_set, replicate}
use Rattle.std.specs.List.{AllZip, filter_map, cons_option, list_all}
use Rattle.std.proofs.lemmas.Bool.{eqb-true}
use Rattle.fact_wasm.specs.declared.types.ValType.{ValType}
use Rattle.fact_wasm.specs.declared.types.ValType.TheVariants as val
use Rattle.fact_wasm.specs.declared.module.ImportType.{ImportType}
use Rattle.fact_wasm.specs.declared.module.ImportType.TheVariants as import
use Rattle.fact_wasm.specs.declared.module.WasmImport.{WasmImport}
use Rattle.fact_wasm.specs.declared.module.WasmModule.{WasmModule}
use Rattle.fact_machine.specs.declared.types.CoreValue.{CoreValue}
use Rattle.fact_machine.specs.declared.types.CoreValue.TheVariants.{I32, I64, F32, F64, Func}
use Rattle.fact_machine.specs.declared.types.MachineState.{MachineState}
use Rattle.fact_machine.specs.Machine.{has_type, have_types, type_of, zero_of, some_of, several, locals_of, memory_import, page_bytes}
use Rattle.fact_machine.specs.Operands.{alike}
use Rattle.fact_machine.specs.Typed.{IsValue, FitsWidth, IsMemory, type_of_memory, type_of_global, TypedState}
use Rattle.fact_machine.specs.Typing.{is_number, declares_numbers, global_import, local_types}
use Rattle.fact_machine.proofs.Tests.{first_of, second_of, both}
use Rattle.fact_check.proofs.Invariant.{HasMemory, HasGlobal, Has, have_locals}

-- ---- values

-- a value of a type is of just that one
pub type_is : (v : CoreValue) (t : ValType) → has_type v t ≡ true → type_of v ≡ t
type_is (I32 n) val.I32 h = refl
type_is (I64 n) val.I64 h = refl
type_is (F32 n) val.F32 h = refl
type_is (F64 n) val.F64 h = refl
type_is (Func f) val.FuncRef h = refl
type_is _ _ h = cc

pub has_own : (v : CoreValue) → has_type v (type_of v) ≡ true
has_own (I32 n) = refl
has_own (I64 n) = refl
has_own (F32 n) = refl
has_own (F64 n) = refl
has_own (Func f) = refl

-- numbers of one type
pub alike_is : (u v : CoreValue) → type_of u ≡ type_of v → is_number (type_of u) ≡ true → alike u v ≡ true
alike_is (I32 i) (I32 j) h n = refl
alike_is (I64 i) (I64 j) h n = refl
alike_is (F32 i) (F32 j) h n = refl
alike_is (F64 i) (F64 j) h n = refl
alike_is _ _ h n = cc

-- ---- locals

-- a local that is there, with a value of its type
pub record HasLocal (ls : List (Option CoreValue)) (n : ℕ) (t : ValType) : Type 0 where
  pub value : CoreValue
  pub there : slice_get ls n ≡ Some (Some value)
  pub typed : has_type value t ≡ true

pub local_at : (ls : List (Option CoreValue)) (ts : List ValType) (n : ℕ) (t : ValType) → have_locals ls ts ≡ true → slice_get ts n ≡ Some t → HasLocal ls n t
local_at [] [] n t h e = cc
local_at [] (u ∷ ts) n t h e = cc
local_at (l ∷ ls) [] n t h e = cc
local_at (None ∷ ls) (u ∷ ts) n t h e = cc
local_at (Some v ∷ ls) (u ∷ ts) zero t h e =
    let is : u ≡ t = cc in
    record { value = v; there = refl; typed = subst (λ x. has_type v x ≡ true) is (first_of (has_type v u) (have_locals ls ts) h) }
local_at (Some v ∷ ls) (u ∷ ts) (suc n) t h e =
    let r = local_at ls ts n t (second_of (has_type v u) (have_locals ls ts) h) e in
    record { value = r.value; there = r.there; typed = r.typed }

-- a new value of the type in its place
pub local_set : (ls : List (Option CoreValue)) (ts : List ValType) (n : ℕ) (t : ValType) (v : CoreValue) → have_locals ls ts ≡ true → slice_get ts n ≡ Some t → has_type v t ≡ true → have_locals (slice_set ls n (Some v)) ts ≡ true
local_set [] [] n t v h e k = cc
local_set [] (u ∷ ts) n t v h e k = cc
local_set (l ∷ ls) [] n t v h e k = cc
local_set (None ∷ ls) (u ∷ ts) n t v h e k = cc
local_set (Some x ∷ ls) (u ∷ ts) zero t v h e k =
    let is : t ≡ u = cc in
    both (subst (λ x. has_type v x ≡ true) is k) (second_of (has_type x u) (have_locals ls ts) h)
local_set (Some x ∷ ls) (u ∷ ts) (suc n) t v h e k =
    both (first_of (has_type x u) (have_locals ls ts) h) (local_set ls ts n t v (second_of (has_type x u) (have_locals ls ts) h) e k)

-- arguments as locals, before others
pub arguments : (vs : List CoreValue) (ts : List ValType) (ls : List (Option CoreValue)) (us : List ValType) → have_types vs ts ≡ true → have_locals ls us ≡ true → have_locals (map some_of vs ++ ls) (ts ++ us) ≡ true
arguments [] [] ls us h k = k
arguments [] (t ∷ ts) ls us h k = cc
arguments (v ∷ vs) [] ls us h k = cc
arguments (v ∷ vs) (t ∷ ts) ls us h k = both (first_of (has_type v t) (have_types vs ts) h) (arguments vs ts ls us (second_of (has_type v t) (have_types vs ts) h) k)

run_of : (n : ℕ) (v : CoreValue) (t : ValType) (ls : List (Option CoreValue)) (us : List ValType) → has_type v t ≡ true → have_locals ls us ≡ true → have_locals (several n (Some v) [] ++ ls) (replicate n t ++ us) ≡ true
run_of zero v t ls us h k = k
run_of (suc n) v t ls us h k = both h (run_of n v t ls us h k)

no_run : (n : ℕ) (ls : List (Option CoreValue)) (us : List ValType) → (nat_eq n 0 || false) ≡ true → have_locals ls us ≡ true → have_locals (several n None [] ++ ls) (replicate n val.FuncRef ++ us) ≡ true
no_run zero ls us h k = k
no_run (suc n) ls us h k = absurd (some (nat_eq (suc n) 0) refl h)
  where
    some : (b : Bool) → nat_eq (suc n) 0 ≡ b → (b || false) ≡ true → ⊥
    some true e q = let z : suc n ≡ 0 = eqb-true (suc n) 0 e in omega arith
    some false e q = cc

run_locals : (n : ℕ) (t : ValType) (ls : List (Option CoreValue)) (us : List ValType) → declares_numbers (n, t) ≡ true → have_locals ls us ≡ true → have_locals (several n (zero_of t) [] ++ ls) (replicate n t ++ us) ≡ true
run_locals n val.I32 ls us h k = run_of n (I32 0) val.I32 ls us refl k
run_locals n val.I64 ls us h k = run_of n (I64 0) val.I64 ls us refl k
run_locals n val.F32 ls us h k = run_of n (F32 0) val.F32 ls us refl k
run_locals n val.F64 ls us h k = run_of n (F64 0) val.F64 ls us refl k
run_locals n val.FuncRef ls us h k = no_run n ls us h k

-- declared locals that are numbers
pub declared : (ps : List (ℕ × ValType)) → list_all declares_numbers ps ≡ true → have_locals (locals_of ps) (local_types ps) ≡ true
declared [] h = refl
declared (p ∷ ps) h =
    run_locals p.0 p.1 (locals_of ps) (local_types ps) (first_of (declares_numbers p) (list_all declares_numbers ps) h) (declared ps (second_of (declares_numbers p) (list_all declares_numbers ps) h))

-- ---- states

abbrev IsMemoryOf : Bool × Option ℕ → List ℕ → Type 0
IsMemoryOf kind bytes = IsMemory kind.0 kind.1 bytes

-- what the imports behind one say of the memories behind its own
abbrev AtMemories : List WasmImport → Bool × Option ℕ → List CoreValue → Type 0
AtMemories is kind globals = (ms : List (List ℕ)) (n : ℕ) → AllZip IsMemoryOf (filter_map type_of_memory is) ms → memory_import is n ≡ Some kind → HasMemory (record { memories = ms; globals = globals }) n kind

memory_place : (is : List WasmImport) (kind : Bool × Option ℕ) (globals : List CoreValue) → AtMemories is kind globals → (wide : Bool) (page : Option ℕ) (ms : List (List ℕ)) (n : ℕ)
    → AllZip IsMemoryOf ((wide, page) ∷ filter_map type_of_memory is) ms → elim n as (λ (n : ℕ). Option (Bool × Option ℕ)) [ zero ↦ Some (wide, page) | suc m ↦ memory_import is m ] ≡ Some kind
    → HasMemory (record { memories = ms; globals = globals }) n kind
memory_place is kind globals again wide page [] n h e = absurd h
memory_place is kind globals again wide page (bytes ∷ ms) zero h e =
    let same : (wide, page) ≡ kind = cc in
    record { bytes = bytes; there = refl; fits = subst (λ (k : Bool × Option ℕ). FitsWidth k.0 (length bytes) (length bytes / page_bytes k.1)) same h.0.fits }
memory_place is kind globals again wide page (bytes ∷ ms) (suc n) h e =
    let r = again ms n h.1 e in
    record { bytes = r.bytes; there = r.there; fits = r.fits }

memory_by : (is : List WasmImport) (kind : Bool × Option ℕ) (globals : List CoreValue) → AtMemories is kind globals → (ty : ImportType) (ms : List (List ℕ)) (n : ℕ)
    → AllZip IsMemoryOf (cons_option (elim ty as (λ (ty : ImportType). Option (Bool × Option ℕ)) [ import.Func t ↦ None | import.Memory least wide page ↦ Some (wide, page) | import.Global t mutable ↦ None ]) (filter_map type_of_memory is)) ms
    → elim ty as (λ (ty : ImportType). Option (Bool × Option ℕ)) [ import.Func t ↦ memory_import is n | import.Memory minimum memory64 log2 ↦ elim n [ zero ↦ Some (memory64, log2) | suc m ↦ memory_import is m ] | import.Global a b ↦ memory_import is n ] ≡ Some kind
    → HasMemory (record { memories = ms; globals = globals }) n kind
memory_by is kind globals again (import.Func t) ms n h e = again ms n h e
memory_by is kind globals again (import.Memory least wide page) ms n h e = memory_place is kind globals again wide page ms n h e
memory_by is kind globals again (import.Global t mutable) ms n h e = again ms n h e

memory_at : (is : List WasmImport) (kind : Bool × Option ℕ) (globals : List CoreValue) → AtMemories is kind globals
memory_at [] kind globals ms n h e = cc
memory_at (i ∷ is) kind globals ms n h e = memory_by is kind globals (λ ms n h e. memory_at is kind globals ms n h e) i.ty ms n h e

abbrev AtGlobals : List WasmImport → ValType × Bool → List (List ℕ) → Type 0
AtGlobals is g memories = (gs : List CoreValue) (n : ℕ) → AllZip (λ t v. IsValue v t) (filter_map type_of_global is) gs → global_import is n ≡ Some g → HasGlobal (record { memories = memories; globals = gs }) n g.0

global_place : (is : List WasmImport) (g : ValType × Bool) (memories : List (List ℕ)) → AtGlobals is g memories → (t : ValType) (mutable : Bool) (gs : List CoreValue) (n : ℕ)
    → AllZip (λ t v. IsValue v t) (t ∷ filter_map type_of_global is) gs → elim n as (λ (n : ℕ). Option (ValType × Bool)) [ zero ↦ Some (t, mutable) | suc m ↦ global_import is m ] ≡ Some g
    → HasGlobal (record { memories = memories; globals = gs }) n g.0
global_place is g memories again t mutable [] n h e = absurd h
global_place is g memories again t mutable (v ∷ gs) zero h e =
    let same : (t, mutable) ≡ g = cc in
    record { value = v; there = refl; typed = subst (λ (k : ValType × Bool). has_type v k.0 ≡ true) same h.0.0 }
global_place is g memories again t mutable (v ∷ gs) (suc n) h e =
    let r = again gs n h.1 e in
    record { value = r.value; there = r.there; typed = r.typed }

global_by : (is : List WasmImport) (g : ValType × Bool) (memories : List (List ℕ)) → AtGlobals is g memories → (ty : ImportType) (gs : List CoreValue) (n : ℕ)
    → AllZip (λ t v. IsValue v t) (cons_option (elim ty as (λ (ty : ImportType). Option ValType) [ import.Func t ↦ None | import.Memory least wide page ↦ None | import.Global t mutable ↦ Some t ]) (filter_map type_of_global is)) gs
    → elim ty as (λ (ty : ImportType). Option (ValType × Bool)) [ import.Func t ↦ global_import is n | import.Memory a b c ↦ global_import is n | import.Global t mutable ↦ elim n [ zero ↦ Some (t, mutable) | suc m ↦ global_import is m ] ] ≡ Some g
    → HasGlobal (record { memories = memories; globals = gs }) n g.0
global_by is g memories again (import.Func t) gs n h e = again gs n h e
global_by is g memories again (import.Memory least wide page) gs n h e = again gs n h e
global_by is g memories again (import.Global t mutable) gs n h e = global_place is g memories again t mutable gs n h e

global_at : (is : List WasmImport) (g : ValType × Bool) (memories : List (List ℕ)) → AtGlobals is g memories
global_at [] g memories gs n h e = cc
global_at (i ∷ is) g memories gs n h e = global_by is g memories (λ gs n h e. global_at is g memories gs n h e) i.ty gs n h e

-- a typed state has what the module imports
pub typed_has : (M : WasmModule) (s : MachineState) → TypedState M s → Has M s
typed_has M s h = record {
  memory = λ n kind e. memory_at M.imports kind s.globals s.memories n h.memories e;
  global = λ n g e. global_at M.imports g s.memories s.globals n h.globals e;
}

-- ---- writes

set_memory_at : (ms : List (List ℕ)) (i j : ℕ) (old new u : List ℕ) → slice_get ms i ≡ Some old → length new ≡ length old → slice_get ms j ≡ Some u → (u' : List ℕ) × (slice_get (slice_set ms i new) j ≡ Some u') × (length u' ≡ length u)
set_memory_at [] i j old new u h e k = cc
set_memory_at (m ∷ ms) zero zero old new u h e k = let same : old ≡ u = cc in (new, refl, e ∙ ap length same)
set_memory_at (m ∷ ms) zero (suc j) old new u h e k = (u, k, refl)
set_memory_at (m ∷ ms) (suc i) zero old new u h e k = (u, k, refl)
set_memory_at (m ∷ ms) (suc i) (suc j) old new u h e k = set_memory_at ms i j old new u h e k

-- a memory in the place of another one of its length
pub memory_kept : (M : WasmModule) (s : MachineState) (i : ℕ) (old new : List ℕ) → Has M s → slice_get s.memories i ≡ Some old → length new ≡ length old → Has M (record { memories = slice_set s.memories i new; globals = s.globals })
memory_kept M s i old new h e k = record {
  memory = λ n kind q.
      let m = h.memory n kind q in
      let r = set_memory_at s.memories i n old new m.bytes e k m.there in
      record { bytes = r.0; there = r.1; fits = subst (λ l. FitsWidth kind.0 l (l / page_bytes kind.1)) (sym r.2) m.fits };
  global = λ n g q. let v = h.global n g q in record { value = v.value; there = v.there; typed = v.typed };
}

set_global_at : (gs : List CoreValue) (i j : ℕ) (old v u : CoreValue) (t : ValType) → slice_get gs i ≡ Some old → has_type v (type_of old) ≡ true → slice_get gs j ≡ Some u → has_type u t ≡ true → (u' : CoreValue) × (slice_get (slice_set gs i v) j ≡ Some u') × (has_type u' t ≡ true)
set_global_at [] i j old v u t h e k q = cc
set_global_at (g ∷ gs) zero zero old v u t h e k q =
    let same : old ≡ u = cc in
    (v, refl, subst (λ x. has_type v x ≡ true) (ap type_of same ∙ type_is u t q) e)
set_global_at (g ∷ gs) zero (suc j) old v u t h e k q = (u, k, q)
set_global_at (g ∷ gs) (suc i) zero old v u t h e k q = (u, k, q)
set_global_at (g ∷ gs) (suc i) (suc j) old v u t h e k q = set_global_at gs i j old v u t h e k q

-- a value in the place of another one of its type
pub global_kept : (M : WasmModule) (s : MachineState) (i : ℕ) (old v : CoreValue) → Has M s → slice_get s.globals i ≡ Some old → has_type v (type_of old) ≡ true → Has M (record { memories = s.memories; globals = slice_set s.globals i v })
global_kept M s i old v h e k = record {
  memory = λ n kind q. let m = h.memory n kind q in record { bytes = m.bytes; there = m.there; fits = m.fits };
  global = λ n g q.
      let u = h.global n g q in
      let r = set_global_at s.globals i n old v u.value g.0 e k u.there u.typed in
      record { value = r.0; there = r.1; typed = r.2 };
}
