-- Worlds whose states are typed, and what keeps them so.
use Rattle.std.proofs.Common.{◌≡◌, ℕ, ◌+◌, ◌/◌, ◌%◌, ◌^◌, ◌<◌, ◌≤◌, Bool, true, ◌&&◌, List, [], ◌∷◌, Option, Some, zero, suc, subst, arith, lit<, length, take, drop, get_or, slice_get, length-drop}
use Rattle.std.specs.Prelude.{nat_lt, nat_eq}
use Rattle.std.proofs.lemmas.Bool.{ltb-true}
use Rattle.std.proofs.lemmas.List.{length-take-le}
use Rattle.std.specs.List.{list_all}
use Rattle.fact_wasm.specs.declared.types.ValType.TheVariants as val
use Rattle.fact_machine.specs.declared.types.CoreValue.{CoreValue}
use Rattle.fact_machine.specs.declared.types.CoreValue.TheVariants.{I32}
use Rattle.fact_machine.specs.World.{World, number_at, with_number, written, set_global}
use Rattle.fact_machine.specs.Machine.{page_bytes}
use Rattle.fact_machine.specs.Typed.{fits_width, is_memory, are_memories, are_globals}
use Rattle.fact_machine.proofs.Bytes.{number_below}
use Rattle.fact_machine.proofs.Tests.{first_of, second_of, both}
use Rattle.fact_actions.specs.Running.{ImportPlaces, is_state}
use Rattle.fact_actions.proofs.States.{written_memory, flags_there, set_flags}
use Rattle.fact_code_laws.proofs.Lists.{all_take, all_drop, zip_at, zip_put}

-- ---- memories

abbrev is_byte : ℕ → Bool
is_byte b = nat_lt b 256

abbrev of_type : Bool × Option ℕ → List ℕ → Bool
of_type k bytes = is_memory k.0 k.1 bytes

-- a memory of a typed state, by its place
pub record TypedMemory (k : Bool × Option ℕ) (memories : List (List ℕ)) (i : ℕ) : Type 0 where
  pub bytes : List ℕ
  pub there : slice_get memories i ≡ Some bytes
  pub typed : is_memory k.0 k.1 bytes ≡ true

pub typed_memory : (p : ImportPlaces) (w : World) (i : ℕ) (k : Bool × Option ℕ) → is_state p w.state ≡ true → slice_get p.memory_types i ≡ Some k → TypedMemory k w.state.memories i
typed_memory p w i k h e =
    let t = zip_at of_type p.memory_types w.state.memories i k (first_of (are_memories p.memory_types w.state.memories) (are_globals p.global_types w.state.globals) h) e in
    record { bytes = t.0; there = t.1; typed = t.2 }

byte_at : (bs : List ℕ) → list_all is_byte bs ≡ true → (k : ℕ) → get_or bs k 0 < 256
byte_at [] h k = lit< tt
byte_at (b ∷ bs) h zero = ltb-true b 256 (first_of (is_byte b) (list_all is_byte bs) h)
byte_at (b ∷ bs) h (suc k) = byte_at bs (second_of (is_byte b) (list_all is_byte bs) h) k

module _ (k : Bool × Option ℕ) (bytes : List ℕ) (h : is_memory k.0 k.1 bytes ≡ true) where
  are_bytes : list_all is_byte bytes ≡ true
  are_bytes = first_of (list_all is_byte bytes) (nat_eq (length bytes % page_bytes k.1) 0 && fits_width k.0 (length bytes) (length bytes / page_bytes k.1)) h

  measured : (nat_eq (length bytes % page_bytes k.1) 0 && fits_width k.0 (length bytes) (length bytes / page_bytes k.1)) ≡ true
  measured = second_of (list_all is_byte bytes) (nat_eq (length bytes % page_bytes k.1) 0 && fits_width k.0 (length bytes) (length bytes / page_bytes k.1)) h

  -- its length is one of whole pages, which its addresses reach
  pub length_pages : nat_eq (length bytes % page_bytes k.1) 0 ≡ true
  length_pages = first_of (nat_eq (length bytes % page_bytes k.1) 0) (fits_width k.0 (length bytes) (length bytes / page_bytes k.1)) measured

  pub length_fits : fits_width k.0 (length bytes) (length bytes / page_bytes k.1) ≡ true
  length_fits = second_of (nat_eq (length bytes % page_bytes k.1) 0) (fits_width k.0 (length bytes) (length bytes / page_bytes k.1)) measured

  -- a number of n bytes in it
  pub number_bound : (n a : ℕ) → a + n ≤ length bytes → number_at n bytes a < 256 ^ n
  number_bound n a le =
      let len : length (take n (drop a bytes)) ≡ n = length-take-le n (drop a bytes) (omega (arith, length-drop a bytes)) in
      subst (λ m. number_at n bytes a < 256 ^ m) len (number_below (take n (drop a bytes)) (byte_at (take n (drop a bytes)) (all_take is_byte n (drop a bytes) (all_drop is_byte a bytes are_bytes))))

-- a state stays typed where a number is put into a memory
pub put_typed : (p : ImportPlaces) (w : World) (i : ℕ) (k : Bool × Option ℕ) (bytes : List ℕ) (n a v : ℕ) → is_state p w.state ≡ true → slice_get p.memory_types i ≡ Some k → is_memory k.0 k.1 bytes ≡ true → a + n ≤ length bytes
    → is_state p (written n i bytes a v w).state ≡ true
put_typed p w i k bytes n a v h e t le =
    both
    (zip_put of_type p.memory_types w.state.memories i k (with_number n bytes a v) (first_of (are_memories p.memory_types w.state.memories) (are_globals p.global_types w.state.globals) h) e (written_memory k bytes n a v le t))
    (second_of (are_memories p.memory_types w.state.memories) (are_globals p.global_types w.state.globals) h)

-- ---- flags

-- a flag of a typed state, by its place
pub record TypedFlags (globals : List CoreValue) (i : ℕ) : Type 0 where
  pub number : ℕ
  pub there : slice_get globals i ≡ Some (I32 number)
  pub below : number < 2 ^ 32

pub typed_flags : (p : ImportPlaces) (w : World) (i : ℕ) → is_state p w.state ≡ true → slice_get p.global_types i ≡ Some val.I32 → TypedFlags w.state.globals i
typed_flags p w i h e =
    let t = flags_there p.global_types w.state.globals i (second_of (are_memories p.memory_types w.state.memories) (are_globals p.global_types w.state.globals) h) e in
    record { number = t.0; there = t.2; below = t.1 }

-- a state stays typed where a flag is set
pub set_typed : (p : ImportPlaces) (w : World) (i x : ℕ) → is_state p w.state ≡ true → slice_get p.global_types i ≡ Some val.I32 → x < 2 ^ 32 → is_state p (set_global i (I32 x) w).state ≡ true
set_typed p w i x h e lt =
    let old = typed_flags p w i h e in
    both
    (first_of (are_memories p.memory_types w.state.memories) (are_globals p.global_types w.state.globals) h)
    (set_flags p.global_types w.state.globals i old.number x (second_of (are_memories p.memory_types w.state.memories) (are_globals p.global_types w.state.globals) h) old.there lt)
