-- The memories of a state, by its number of bytes and by the sides of a call that name them.
use Rattle.std.proofs.Common.{◌≡◌, ◌≢◌, ℕ, zero, suc, ◌<◌, List, [], ◌∷◌, Option, Some, None, refl, sym, ap, ◌∙◌, arith, length, map, get_or}
use Rattle.std.specs.Prelude.{option_map}
use Rattle.std.proofs.lemmas.List.{get_or-set_same, get_or-set_other}
use Rattle.fact_types.specs.declared.outside.MemoryOption.{MemoryOption}
use Rattle.fact_types.specs.Adapters.{Side}
use Rattle.fact_types.specs.Tables.{Tables}
use Rattle.fact_machine.specs.declared.types.MachineState.{MachineState}
use Rattle.fact_actions.specs.Calls.{side_memory}
use Rattle.fact_actions.specs.Running.{ImportPlaces}
use Rattle.fact_actions.specs.Sides.{options_of}
use Rattle.fact_host.specs.declared.calling.HostSide.{HostSide}
use Rattle.fact_host.specs.Describes.{DescribesHostSide}
use Rattle.fact_host.specs.Rules.{memory_at, bytes_of_memory, side_bytes, with_memory_at}
use Rattle.fact_host.proofs.Regular.{HasLengths}

pub length_at : (s : MachineState) (lengths : List ℕ) (n : ℕ) → HasLengths lengths s → length (memory_at s n) ≡ get_or lengths n 0
length_at s lengths n h = by s.memories n ∙ ap (λ l. get_or l n 0) h
  where
    by : (ms : List (List ℕ)) (n : ℕ) → length (get_or ms n []) ≡ get_or (map length ms) n 0
    by [] n = refl
    by (m ∷ ms) zero = refl
    by (m ∷ ms) (suc n) = by ms n

pub there_at : (s : MachineState) (lengths : List ℕ) (n : ℕ) → HasLengths lengths s → n < length lengths → n < length s.memories
there_at s lengths n h lt = let e : length s.memories ≡ length lengths = sym (by s.memories) ∙ ap length h in omega arith
  where
    by : (ms : List (List ℕ)) → length (map length ms) ≡ length ms
    by [] = refl
    by (m ∷ ms) = ap suc (by ms)

-- a memory that was changed is what it was changed to, and the others are as they were
pub changed_here : (s : MachineState) (n : ℕ) (bytes : List ℕ) → n < length s.memories → memory_at (with_memory_at s n bytes) n ≡ bytes
changed_here s n bytes lt = get_or-set_same s.memories n bytes [] lt

pub changed_other : (s : MachineState) (n : ℕ) (bytes : List ℕ) (o : Option ℕ) → (o ≡ Some n → ⊥) → bytes_of_memory o (with_memory_at s n bytes) ≡ bytes_of_memory o s
changed_other s n bytes None h = refl
changed_other s n bytes (Some m) h = let other : m ≢ n = λ e. h (ap (λ k. Some k) e) in get_or-set_other s.memories n m bytes [] other

-- the bytes of a side, by its description
pub side_is : (t : Tables) (p : ImportPlaces) (h : HostSide) (s : Side) → DescribesHostSide t h p s → (st : MachineState) → side_memory p (options_of s) st ≡ side_bytes h st
side_is t p h s d st = by s.memory d.memory
  where
    by : (o : Option MemoryOption) → option_map (λ m. p.memory m.def) o ≡ h.memory → (elim o [ None ↦ [] | Some m ↦ get_or st.memories (p.memory m.def) [] ]) ≡ bytes_of_memory h.memory st
    by None q = ap (λ z. bytes_of_memory z st) q
    by (Some m) q = ap (λ z. bytes_of_memory z st) q
