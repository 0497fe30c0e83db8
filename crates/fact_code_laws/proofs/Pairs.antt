-- The places of a pointer and a length, one behind the other.
use Rattle.std.proofs.Common.{◌≡◌, ℕ, ◌+◌, Bool, false, List, [], ◌∷◌, ◌++◌, ap, ◌∙◌, arith, slice_get}
use Rattle.std.specs.Prelude.{nat_eq}
use Rattle.fact_machine.specs.declared.types.CoreValue.{CoreValue}
use Rattle.fact_actions.specs.Sides.{Source, Values, AtAddress, Target, Slots, Into, nth_part, nth_spot}
use Rattle.fact_code_laws.specs.Does.{Locals}
use Rattle.fact_code_laws.specs.Places.{Slot, From, InLocals, InMemory, To, ToLocals, ToMemory, StandsAt, MayGo, Stood, KeepsLocals, ToUsed}
use Rattle.fact_code_laws.proofs.Keeping.{held_kept}
use Rattle.fact_code_laws.proofs.UsedLocals.{with_local, local_here, local_other}

-- ---- places

-- two locals, or a place in memory
pub data PairFrom : Type 0 where
  PairInLocals : Slot → Slot → PairFrom
  PairInMemory : (memory base offset : ℕ) → PairFrom

pub data PairTo : Type 0 where
  PairToLocals : Slot → Slot → PairTo
  PairToMemory : (memory base offset : ℕ) → PairTo

abbrev pub all_from : PairFrom → From
all_from (PairInLocals a b) = InLocals (a ∷ b ∷ [])
all_from (PairInMemory memory base offset) = InMemory memory base offset

abbrev pub first_from : PairFrom → From
first_from (PairInLocals a b) = InLocals (a ∷ [])
first_from (PairInMemory memory base offset) = InMemory memory base offset

abbrev pub second_from : (bytes : ℕ) → PairFrom → From
second_from bytes (PairInLocals a b) = InLocals (b ∷ [])
second_from bytes (PairInMemory memory base offset) = InMemory memory base (offset + bytes)

abbrev pub all_to : PairTo → To
all_to (PairToLocals a b) = ToLocals (a ∷ b ∷ [])
all_to (PairToMemory memory base offset) = ToMemory memory base offset

abbrev pub first_to : PairTo → To
first_to (PairToLocals a b) = ToLocals (a ∷ [])
first_to (PairToMemory memory base offset) = ToMemory memory base offset

abbrev pub second_to : (bytes : ℕ) → PairTo → To
second_to bytes (PairToLocals a b) = ToLocals (b ∷ [])
second_to bytes (PairToMemory memory base offset) = ToMemory memory base (offset + bytes)

-- ---- a pair that is read

module _ (ls : Locals) (memory64 : Bool) (bytes : ℕ) where
  pub stands_first : (from : PairFrom) (s : Source) → StandsAt ls memory64 (all_from from) s → StandsAt ls memory64 (first_from from) (nth_part 1 bytes 0 s)
  stands_first (PairInLocals a b) (Values []) h = absurd h
  stands_first (PairInLocals a b) (Values (v ∷ vs)) h = (h.0, tt)
  stands_first (PairInLocals a b) (AtAddress x) h = absurd h
  stands_first (PairInMemory memory base offset) (Values vs) h = absurd h
  stands_first (PairInMemory memory base offset) (AtAddress x) h = record { start = h.start; there = h.there; is = let e = h.is in omega arith }

  pub stands_second : (from : PairFrom) (s : Source) → StandsAt ls memory64 (all_from from) s → StandsAt ls memory64 (second_from bytes from) (nth_part 1 bytes 1 s)
  stands_second (PairInLocals a b) (Values []) h = absurd h
  stands_second (PairInLocals a b) (Values (v ∷ [])) h = absurd h.1
  stands_second (PairInLocals a b) (Values (v ∷ u ∷ vs)) h = (h.1.0, tt)
  stands_second (PairInLocals a b) (AtAddress x) h = absurd h
  stands_second (PairInMemory memory base offset) (Values vs) h = absurd h
  stands_second (PairInMemory memory base offset) (AtAddress x) h = record { start = h.start; there = h.there; is = let e = h.is in omega arith }

-- ---- a pair that is written

-- what is in use while the second is written: the first too
abbrev pub behind_first : (ℕ → Bool) → PairTo → ℕ → Bool
behind_first used (PairToLocals a b) = with_local used a.0
behind_first used (PairToMemory memory base offset) = used

-- the locals of a pair are two, and not this one
abbrev pub IsApart : ℕ → PairTo → Type 0
IsApart other (PairToLocals a b) = (nat_eq a.0 other ≡ false) × (nat_eq b.0 a.0 ≡ false)
IsApart other (PairToMemory memory base offset) = Unit {0}

module _ (used : ℕ → Bool) (memory64 : Bool) (bytes other : ℕ) {first ls : Locals} (k : KeepsLocals used first ls) where
  pub goes_first : (to : PairTo) (d : Target) → IsApart other to → ToUsed used (all_to to) → MayGo used first memory64 (all_to to) d → MayGo (with_local used other) ls memory64 (first_to to) (nth_spot 1 bytes 0 d)
  goes_first (PairToLocals a b) (Slots []) h u g = absurd g
  goes_first (PairToLocals a b) (Slots (t ∷ ts)) h u g = (g.0, ap (λ l. slice_get l a.0) k.types ∙ g.1, local_other used other a.0 h.0 g.2, tt)
  goes_first (PairToLocals a b) (Into x) h u g = absurd g
  goes_first (PairToMemory memory base offset) (Slots ts) h u g = absurd g
  goes_first (PairToMemory memory base offset) (Into x) h u g = record { start = g.start; there = k.same base u ∙ g.there; is = let e = g.is in omega arith }

  pub goes_second : (to : PairTo) (d : Target) → IsApart other to → ToUsed used (all_to to) → MayGo used first memory64 (all_to to) d → MayGo (behind_first used to) ls memory64 (second_to bytes to) (nth_spot 1 bytes 1 d)
  goes_second (PairToLocals a b) (Slots []) h u g = absurd g
  goes_second (PairToLocals a b) (Slots (t ∷ [])) h u g = absurd g.3
  goes_second (PairToLocals a b) (Slots (t ∷ t' ∷ ts)) h u g = (g.3.0, ap (λ l. slice_get l b.0) k.types ∙ g.3.1, local_other used a.0 b.0 h.1 g.3.2, tt)
  goes_second (PairToLocals a b) (Into x) h u g = absurd g
  goes_second (PairToMemory memory base offset) (Slots ts) h u g = absurd g
  goes_second (PairToMemory memory base offset) (Into x) h u g = record { start = g.start; there = k.same base u ∙ g.there; is = let e = g.is in omega arith }

module _ (used : ℕ → Bool) (bytes : ℕ) where
  -- the first stays while the second is written
  pub first_stays : (to : PairTo) (ls ls' : Locals) (vs : List CoreValue) → KeepsLocals (behind_first used to) ls ls' → Stood ls (first_to to) vs → Stood ls' (first_to to) vs
  first_stays (PairToLocals a b) ls ls' vs k h = held_kept k (a ∷ []) vs (local_here used a.0, tt) h
  first_stays (PairToMemory memory base offset) ls ls' vs k h = h

  -- both stand
  pub both_stand : (to : PairTo) (ls : Locals) (vs us : List CoreValue) → Stood ls (first_to to) vs → Stood ls (second_to bytes to) us → Stood ls (all_to to) (vs ++ us)
  both_stand (PairToLocals a b) ls [] us h g = absurd h
  both_stand (PairToLocals a b) ls (v ∷ v' ∷ vs) us h g = absurd h.1
  both_stand (PairToLocals a b) ls (v ∷ []) us h g = (h.0, g)
  both_stand (PairToMemory memory base offset) ls vs us h g = ap (λ l. l ++ us) h ∙ g
