-- The tests of typed values, states and answers tell what they are to tell.
use Rattle.std.proofs.Common.{ℕ, ◌≡◌, ◌<◌, ◌≤◌, ◌%◌, ◌/◌, ◌^◌, Bool, true, false, List, [], ◌∷◌, Option, Some, None, refl, sym, length, true≢false}
use Rattle.std.specs.Prelude.{nat_eq, nat_le, nat_lt, Decides, All}
use Rattle.std.specs.List.{AllZip, filter_map, list_all}
use Rattle.std.proofs.lemmas.Bool.{leb-true, le-leb, eqb-true, eq-eqb}
use Rattle.std.proofs.lemmas.Bool.Decides.{Decides-and, Decides-ltb, Decides-like, Decides-by_and}
use Rattle.fact_wasm.specs.declared.types.ValType.{ValType}
use Rattle.fact_wasm.specs.declared.types.FuncType.{FuncType}
use Rattle.fact_wasm.specs.declared.module.WasmModule.{WasmModule}
use Rattle.fact_machine.specs.declared.types.CoreValue.{CoreValue}
use Rattle.fact_machine.specs.declared.types.CoreValue.TheVariants.{I32, I64, F32, F64, Func}
use Rattle.fact_machine.specs.declared.types.MachineState.{MachineState}
use Rattle.fact_machine.specs.declared.types.Answer.{Answer}
use Rattle.fact_machine.specs.declared.types.Answer.TheVariants.{Returns, Traps, Throws}
use Rattle.fact_machine.specs.Machine.{has_type, page_bytes}
use Rattle.fact_machine.specs.Typed.{IsBits, IsValue, FitsWidth, IsMemory, type_of_memory, type_of_global, TypedState, type_of_import, AreResults, TypedAnswer, is_bits, is_value, all_zip, fits_width, is_memory, are_memories, are_globals, is_typed_state, are_results, is_grown, is_typed_answer}

always : {P : Type 0} → P → Decides true P
always p = (λ e. p, λ p. refl)

never : {P : Type 0} → (P → ⊥) → Decides false P
never none = (λ e. absurd (true≢false (sym e)), λ p. absurd (none p))

-- ---- lists

all_zip_decided : {A B : Type 0} (test : A → B → Bool) (R : A → B → Type 0) → ((a : A) (b : B) → Decides (test a b) (R a b)) → (xs : List A) (ys : List B) → Decides (all_zip test xs ys) (AllZip R xs ys)
all_zip_decided test R each [] [] = always tt
all_zip_decided test R each [] (y ∷ ys) = never (λ h. h)
all_zip_decided test R each (x ∷ xs) [] = never (λ h. h)
all_zip_decided test R each (x ∷ xs) (y ∷ ys) = Decides-and (test x y) (all_zip test xs ys) (each x y) (all_zip_decided test R each xs ys)

-- ---- values

bits_decided : (v : CoreValue) → Decides (is_bits v) (IsBits v)
bits_decided (I32 n) = Decides-ltb n (2 ^ 32)
bits_decided (I64 n) = Decides-ltb n (2 ^ 64)
bits_decided (F32 n) = Decides-ltb n (2 ^ 32)
bits_decided (F64 n) = Decides-ltb n (2 ^ 64)
bits_decided (Func f) = always tt

same : (b : Bool) → Decides b (b ≡ true)
same b = (λ e. e, λ e. e)

-- a value passes the test exactly where it is one of the type
pub value_decided : (v : CoreValue) (t : ValType) → Decides (is_value v t) (IsValue v t)
value_decided v t = Decides-and (has_type v t) (is_bits v) (same (has_type v t)) (bits_decided v)

-- so for values, one by one
pub values_decided : (vs : List CoreValue) (ts : List ValType) → Decides (all_zip is_value vs ts) (AllZip (λ v t. IsValue v t) vs ts)
values_decided vs ts = all_zip_decided is_value (λ v t. IsValue v t) value_decided vs ts

-- ---- states

at_most : (a b : ℕ) → Decides (nat_le a b) (a ≤ b)
at_most a b = (leb-true a b, le-leb a b)

equal : (a b : ℕ) → Decides (nat_eq a b) (a ≡ b)
equal a b = (eqb-true a b, eq-eqb a b)

width_decided : (wide : Bool) (bytes pages : ℕ) → Decides (fits_width wide bytes pages) (FitsWidth wide bytes pages)
width_decided true bytes pages = Decides-ltb bytes (2 ^ 64)
width_decided false bytes pages = Decides-and (nat_le bytes (2 ^ 32)) (nat_lt pages (2 ^ 32)) (at_most bytes (2 ^ 32)) (Decides-ltb pages (2 ^ 32))

bytes_decided : (bytes : List ℕ) → Decides (list_all (λ b. nat_lt b 256) bytes) (All (λ b. b < 256) bytes)
bytes_decided bytes = Decides-by_and (λ b. nat_lt b 256) (λ b. b < 256) (list_all (λ b. nat_lt b 256)) (λ b. Decides-ltb b 256) refl (λ x xs. refl) bytes

-- so for the bytes of a memory
pub memory_decided : (wide : Bool) (page : Option ℕ) (bytes : List ℕ) → Decides (is_memory wide page bytes) (IsMemory wide page bytes)
memory_decided wide page bytes =
    let pages : ℕ = length bytes / page_bytes page in
    let whole = Decides-and (nat_eq (length bytes % page_bytes page) 0) (fits_width wide (length bytes) pages) (equal (length bytes % page_bytes page) 0) (width_decided wide (length bytes) pages) in
    Decides-like (is_memory wide page bytes)
    (λ h. record { are_bytes = h.0; whole = h.1.0; fits = h.1.1 })
    (λ m. (m.are_bytes, (m.whole, m.fits)))
    (Decides-and (list_all (λ b. nat_lt b 256) bytes) _ (bytes_decided bytes) whole)

memories_decided : (kinds : List (Bool × Option ℕ)) (memories : List (List ℕ)) → Decides (are_memories kinds memories) (AllZip (λ t bytes. IsMemory t.0 t.1 bytes) kinds memories)
memories_decided kinds memories = all_zip_decided _ _ (λ t bytes. memory_decided t.0 t.1 bytes) kinds memories

globals_decided : (types : List ValType) (globals : List CoreValue) → Decides (are_globals types globals) (AllZip (λ t v. IsValue v t) types globals)
globals_decided types globals = all_zip_decided _ _ (λ t v. value_decided v t) types globals

-- a state passes the test exactly where it is typed
pub state_decided : (m : WasmModule) (s : MachineState) → Decides (is_typed_state m s) (TypedState m s)
state_decided m s =
    Decides-like (is_typed_state m s)
    (λ h. record { memories = h.0; globals = h.1 })
    (λ (t : TypedState m s). (t.memories, t.globals))
    (Decides-and (are_memories (filter_map type_of_memory m.imports) s.memories) _ (memories_decided (filter_map type_of_memory m.imports) s.memories) (globals_decided (filter_map type_of_global m.imports) s.globals))

-- ---- answers

results_decided : (t : Option FuncType) (vs : List CoreValue) → Decides (are_results t vs) (AreResults t vs)
results_decided None vs = never (λ h. h)
results_decided (Some t) vs = values_decided vs t.results

grown_decided : (before after : List (List ℕ)) → Decides (is_grown before after) (AllZip (λ old new. length old ≤ length new) before after)
grown_decided before after = all_zip_decided _ _ (λ old new. at_most (length old) (length new)) before after

-- an answer passes the test exactly where it is typed
pub answer_decided : (m : WasmModule) (f : ℕ) (before : MachineState) (a : Answer) → Decides (is_typed_answer m f before a) (TypedAnswer m f before a)
answer_decided m f before (Returns results after) =
    let rest = Decides-and (is_typed_state m after) (is_grown before.memories after.memories) (state_decided m after) (grown_decided before.memories after.memories) in
    Decides-like (is_typed_answer m f before (Returns results after)) (λ h. (h.0, h.1.0, h.1.1)) (λ h. (h.0, (h.1, h.2)))
    (Decides-and (are_results (type_of_import m f) results) _ (results_decided (type_of_import m f) results) rest)
answer_decided m f before Traps = always tt
answer_decided m f before Throws = always tt
