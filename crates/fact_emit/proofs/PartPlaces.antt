-- Parts of places.
use Rattle.std.proofs.Common.{◌≡◌, ℕ, zero, suc, Bool, true, false, List, [], ◌∷◌, ◌++◌, length, take, drop, refl, sym, ap, ◌∙◌}
use Rattle.std.specs.Prelude.{nat_eq, if◌then◌else◌}
use Rattle.std.proofs.lemmas.Bool.{eqb-true, eq-eqb}
use Rattle.fact_wasm.specs.declared.types.ValType.{ValType}
use Rattle.fact_types.specs.declared.flats.FlatType.{FlatType}
use Rattle.fact_code_laws.specs.Places.{Slot, AreUsed, AreLocals, IsNone}
use Rattle.fact_code_laws.proofs.FieldMoves.{AreApart, with_slots}
use Rattle.fact_code_laws.proofs.UsedLocals.{local_more}
use Rattle.fact_emit.specs.declared.places.TypedLocal.{TypedLocal}
use Rattle.fact_emit.specs.Fitting.{AreRoom}
use Rattle.fact_emit.specs.Places.{AreDistinctSlots, slots_of_locals}

-- ---- the slots of a part, each fact about all slots

module _ (used : ℕ → Bool) where
  pub used_drop : (n : ℕ) (ss : List Slot) → AreUsed used ss → AreUsed used (drop n ss)
  used_drop zero ss h = h
  used_drop (suc n) [] h = h
  used_drop (suc n) (s ∷ ss) h = used_drop n ss h.1

  pub used_take : (n : ℕ) (ss : List Slot) → AreUsed used ss → AreUsed used (take n ss)
  used_take zero ss h = tt
  used_take (suc n) [] h = h
  used_take (suc n) (s ∷ ss) h = (h.0, used_take n ss h.1)

module _ (locals : List ValType) where
  pub locals_drop : (n : ℕ) (ss : List Slot) → AreLocals locals ss → AreLocals locals (drop n ss)
  locals_drop zero ss h = h
  locals_drop (suc n) [] h = h
  locals_drop (suc n) (s ∷ ss) h = locals_drop n ss h.1

  pub locals_take : (n : ℕ) (ss : List Slot) → AreLocals locals ss → AreLocals locals (take n ss)
  locals_take zero ss h = tt
  locals_take (suc n) [] h = h
  locals_take (suc n) (s ∷ ss) h = (h.0, locals_take n ss h.1)

none_take : (i n : ℕ) (ss : List Slot) → IsNone i ss → IsNone i (take n ss)
none_take i zero ss h = tt
none_take i (suc n) [] h = h
none_take i (suc n) (s ∷ ss) h = (h.0, none_take i n ss h.1)

none_drop : (i n : ℕ) (ss : List Slot) → IsNone i ss → IsNone i (drop n ss)
none_drop i zero ss h = h
none_drop i (suc n) [] h = h
none_drop i (suc n) (s ∷ ss) h = none_drop i n ss h.1

pub distinct_drop : (n : ℕ) (ss : List Slot) → AreDistinctSlots ss → AreDistinctSlots (drop n ss)
distinct_drop zero ss h = h
distinct_drop (suc n) [] h = h
distinct_drop (suc n) (s ∷ ss) h = distinct_drop n ss h.1

pub distinct_take : (n : ℕ) (ss : List Slot) → AreDistinctSlots ss → AreDistinctSlots (take n ss)
distinct_take zero ss h = tt
distinct_take (suc n) [] h = h
distinct_take (suc n) (s ∷ ss) h = (none_take s.0 n ss h.0, distinct_take n ss h.1)

-- ---- the slots behind others are none of them

turned : (a b : ℕ) → nat_eq a b ≡ false → nat_eq b a ≡ false
turned a b h = go (nat_eq b a) refl
  where
    go : (q : Bool) → nat_eq b a ≡ q → nat_eq b a ≡ false
    go true e = absurd (let no : true ≡ false = sym (eq-eqb a b (sym (eqb-true b a e))) ∙ h in cc)
    go false e = e

one_more : (s : Slot) (ts xs : List Slot) → IsNone s.0 xs → AreApart ts xs → AreApart (s ∷ ts) xs
one_more s ts [] h a = tt
one_more s ts (x ∷ xs) h a = ((turned s.0 x.0 h.0, a.0), one_more s ts xs h.1 a.1)

none_of_none : (ss : List Slot) → AreApart [] ss
none_of_none [] = tt
none_of_none (s ∷ ss) = (tt, none_of_none ss)

pub apart_at : (n : ℕ) (ss : List Slot) → AreDistinctSlots ss → AreApart (take n ss) (drop n ss)
apart_at zero ss h = none_of_none ss
apart_at (suc n) [] h = tt
apart_at (suc n) (s ∷ ss) h = one_more s (take n ss) (drop n ss) (none_drop s.0 n ss h.0) (apart_at n ss h.1)

-- ---- slots and flat types

pub room_drop : (xs ys : List FlatType) (ss : List Slot) → AreRoom ss (xs ++ ys) → AreRoom (drop (length xs) ss) ys
room_drop [] ys ss h = h
room_drop (x ∷ xs) ys [] h = absurd h
room_drop (x ∷ xs) ys (s ∷ ss) h = room_drop xs ys ss h.1

pub room_take : (xs ys : List FlatType) (ss : List Slot) → AreRoom ss (xs ++ ys) → AreRoom (take (length xs) ss) xs
room_take [] ys ss h = tt
room_take (x ∷ xs) ys [] h = absurd h
room_take (x ∷ xs) ys (s ∷ ss) h = (h.0, room_take xs ys ss h.1)

pub room_length : (xs : List FlatType) (ss : List Slot) → AreRoom ss xs → length xs ≡ length ss
room_length [] [] h = refl
room_length [] (s ∷ ss) h = absurd h
room_length (x ∷ xs) [] h = absurd h
room_length (x ∷ xs) (s ∷ ss) h = ap suc (room_length xs ss h.1)

-- ---- locals of some slots kept too

pub with_more : (used : ℕ → Bool) (ss : List Slot) (i : ℕ) → used i ≡ true → with_slots used ss i ≡ true
with_more used [] i u = u
with_more used (s ∷ ss) i u = local_more (with_slots used ss) s.0 i (with_more used ss i u)

pub with_within : (used taken : ℕ → Bool) → ((i : ℕ) → used i ≡ true → taken i ≡ true) → (ss : List Slot) → AreUsed taken ss → (i : ℕ) → with_slots used ss i ≡ true → taken i ≡ true
with_within used taken h [] t i e = h i e
with_within used taken h (s ∷ ss) t i e = go (nat_eq i s.0) refl (with_within used taken h ss t.1 i) e
  where
    go : (q : Bool) → nat_eq i s.0 ≡ q → (with_slots used ss i ≡ true → taken i ≡ true) → (if q then true else with_slots used ss i) ≡ true → taken i ≡ true
    go true q rest e = ap taken (eqb-true i s.0 q) ∙ t.0
    go false q rest e = rest e

-- ---- the slots of the writing functions

pub slots_drop : (n : ℕ) (ls : List TypedLocal) → slots_of_locals (drop n ls) ≡ drop n (slots_of_locals ls)
slots_drop zero ls = refl
slots_drop (suc n) [] = refl
slots_drop (suc n) (l ∷ ls) = slots_drop n ls

slots_take : (n : ℕ) (ls : List TypedLocal) → slots_of_locals (take n ls) ≡ take n (slots_of_locals ls)
slots_take zero ls = refl
slots_take (suc n) [] = refl
slots_take (suc n) (l ∷ ls) = ap (λ ss. (l.local, l.ty) ∷ ss) (slots_take n ls)

pub slots_part : (m n : ℕ) (ls : List TypedLocal) → slots_of_locals (take n (drop m ls)) ≡ take n (drop m (slots_of_locals ls))
slots_part m n ls = slots_take n (drop m ls) ∙ ap (take n) (slots_drop m ls)
