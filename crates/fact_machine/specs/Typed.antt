-- Typed values, states and answers (core specification, "Validation" and "Execution", "Runtime Structure": values and the store),
-- and tests of them that compute.
use Rattle.std.specs.Prelude.{◌≡◌, ℕ, ◌<◌, ◌≤◌, ◌/◌, ◌%◌, ◌^◌, Bool, true, false, ◌&&◌, nat_eq, nat_le, nat_lt, List, [], ◌∷◌, Option, Some, None, slice_get, All, length}
use Rattle.std.specs.List.{AllZip, filter_map, list_all}
use Rattle.fact_wasm.specs.declared.types.ValType.{ValType}
use Rattle.fact_wasm.specs.declared.types.FuncType.{FuncType}
use Rattle.fact_wasm.specs.declared.module.ImportType.TheVariants as import
use Rattle.fact_wasm.specs.declared.module.WasmImport.{WasmImport}
use Rattle.fact_wasm.specs.declared.module.WasmModule.{WasmModule}
use Rattle.fact_machine.specs.declared.types.CoreValue.{CoreValue}
use Rattle.fact_machine.specs.declared.types.CoreValue.TheVariants.{I32, I64, F32, F64, Func}
use Rattle.fact_machine.specs.declared.types.MachineState.{MachineState}
use Rattle.fact_machine.specs.declared.types.Answer.{Answer}
use Rattle.fact_machine.specs.declared.types.Answer.TheVariants.{Returns, Traps, Throws}
use Rattle.fact_machine.specs.Machine.{has_type, func_import, page_bytes}

-- ---- values

-- the bits of a value are as many as its type has
abbrev pub IsBits : CoreValue → Type 0
IsBits (I32 n) = n < 2 ^ 32
IsBits (I64 n) = n < 2 ^ 64
IsBits (F32 n) = n < 2 ^ 32
IsBits (F64 n) = n < 2 ^ 64
IsBits (Func f) = Unit {0}

-- a value of a core type
abbrev pub IsValue : CoreValue → ValType → Type 0
IsValue v t = (has_type v t ≡ true) × IsBits v

-- ---- states

-- a memory of 64 bits has fewer than 2 ^ 64 bytes, one of 32 at most 2 ^ 32 bytes and fewer than 2 ^ 32 pages
abbrev pub FitsWidth : Bool → (bytes pages : ℕ) → Type 0
FitsWidth true bytes pages = bytes < 2 ^ 64
FitsWidth false bytes pages = (bytes ≤ 2 ^ 32) × (pages < 2 ^ 32)

-- the bytes of a memory, a whole number of pages
pub record IsMemory (wide : Bool) (page : Option ℕ) (bytes : List ℕ) : Type 0 where
  pub are_bytes : All (λ b. b < 256) bytes
  pub whole : length bytes % page_bytes page ≡ 0
  pub fits : FitsWidth wide (length bytes) (length bytes / page_bytes page)

abbrev pub type_of_memory : WasmImport → Option (Bool × Option ℕ)
type_of_memory w = elim w.ty [ import.Func t ↦ None | import.Memory least wide page ↦ Some (wide, page) | import.Global t mutable ↦ None ]

abbrev pub type_of_global : WasmImport → Option ValType
type_of_global w = elim w.ty [ import.Func t ↦ None | import.Memory least wide page ↦ None | import.Global t mutable ↦ Some t ]

-- one memory for each memory import, and one value for each global import
pub record TypedState (m : WasmModule) (s : MachineState) : Type 0 where
  pub memories : AllZip (λ t bytes. IsMemory t.0 t.1 bytes) (filter_map type_of_memory m.imports) s.memories
  pub globals : AllZip (λ t v. IsValue v t) (filter_map type_of_global m.imports) s.globals

-- ---- answers

-- the type of the nth imported function
abbrev pub type_of_import : WasmModule → ℕ → Option FuncType
type_of_import m n = elim (func_import m.imports n) [ None ↦ None | Some t ↦ slice_get m.types t ]

abbrev pub AreResults : Option FuncType → List CoreValue → Type 0
AreResults None vs = ⊥
AreResults (Some t) vs = AllZip (λ v t. IsValue v t) vs t.results

-- an answer that traps, throws, or returns results of the import's type with a state in which no memory is shorter
abbrev pub TypedAnswer : WasmModule → ℕ → MachineState → Answer → Type 0
TypedAnswer m f before (Returns results after) =
    AreResults (type_of_import m f) results × TypedState m after × AllZip (λ old new. length old ≤ length new) before.memories after.memories
TypedAnswer m f before Traps = Unit {0}
TypedAnswer m f before Throws = Unit {0}

-- ---- tests

abbrev pub is_bits : CoreValue → Bool
is_bits (I32 n) = nat_lt n (2 ^ 32)
is_bits (I64 n) = nat_lt n (2 ^ 64)
is_bits (F32 n) = nat_lt n (2 ^ 32)
is_bits (F64 n) = nat_lt n (2 ^ 64)
is_bits (Func f) = true

-- whether a value is of a core type, by its bits too
abbrev pub is_value : CoreValue → ValType → Bool
is_value v t = has_type v t && is_bits v

-- whether the elements at each place of two lists pass, and the lists are as long
abbrev pub all_zip : {A B : Type 0} → (A → B → Bool) → List A → List B → Bool
all_zip test [] [] = true
all_zip test [] (y ∷ ys) = false
all_zip test (x ∷ xs) [] = false
all_zip test (x ∷ xs) (y ∷ ys) = test x y && all_zip test xs ys

-- whether values are of these types, one by one
abbrev pub are_values : List CoreValue → List ValType → Bool
are_values vs ts = all_zip is_value vs ts

abbrev pub fits_width : Bool → (bytes pages : ℕ) → Bool
fits_width true bytes pages = nat_lt bytes (2 ^ 64)
fits_width false bytes pages = nat_le bytes (2 ^ 32) && nat_lt pages (2 ^ 32)

abbrev pub is_memory : Bool → Option ℕ → List ℕ → Bool
is_memory wide page bytes =
    list_all (λ b. nat_lt b 256) bytes && (nat_eq (length bytes % page_bytes page) 0 && fits_width wide (length bytes) (length bytes / page_bytes page))

-- whether memories are of these widths and page sizes, one by one
abbrev pub are_memories : List (Bool × Option ℕ) → List (List ℕ) → Bool
are_memories kinds memories = all_zip (λ t bytes. is_memory t.0 t.1 bytes) kinds memories

-- whether globals hold values of these types, one by one
abbrev pub are_globals : List ValType → List CoreValue → Bool
are_globals types globals = all_zip (λ t v. is_value v t) types globals

abbrev pub is_typed_state : WasmModule → MachineState → Bool
is_typed_state m s = are_memories (filter_map type_of_memory m.imports) s.memories && are_globals (filter_map type_of_global m.imports) s.globals

abbrev pub are_results : Option FuncType → List CoreValue → Bool
are_results None vs = false
are_results (Some t) vs = are_values vs t.results

-- whether no memory is shorter than before
abbrev pub is_grown : (before after : List (List ℕ)) → Bool
is_grown before after = all_zip (λ old new. nat_le (length old) (length new)) before after

abbrev pub is_typed_answer : WasmModule → ℕ → MachineState → Answer → Bool
is_typed_answer m f before (Returns results after) = are_results (type_of_import m f) results && (is_typed_state m after && is_grown before.memories after.memories)
is_typed_answer m f before Traps = true
is_typed_answer m f before Throws = true
