-- Targets taken apart.
use Rattle.std.proofs.Common.{◌≡◌, ℕ, zero, suc, ◌≤◌, Bool, true, false, List, [], ◌∷◌, ◌++◌, length, take, drop, refl, ap, arith}
use Rattle.std.specs.Prelude.{◌&&◌}
use Rattle.std.proofs.lemmas.Bool.{false≢true}
use Rattle.fact_wasm.specs.declared.types.ValType.{ValType}
use Rattle.fact_types.specs.declared.flats.FlatType.{FlatType}
use Rattle.fact_types.specs.FlatShapes.{flat, flat_members}
use Rattle.fact_types.specs.Shapes.{Shape, Members, typed, place_of, next_of, ends_of}
use Rattle.fact_types.proofs.PlaceLaws.{ends_grow, align_pos}
use Rattle.fact_types.proofs.AlignLaws.{aligned_bounds}
use Rattle.fact_machine.specs.declared.types.CoreValue.{CoreValue}
use Rattle.fact_actions.specs.Moves.{spot, past}
use Rattle.fact_machine.specs.Typed.{is_value, are_values}
use Rattle.fact_actions.specs.Sides.{Target, Slots, Into, width_of_side}
use Rattle.fact_action_laws.specs.MoveTerms.{size_on}
use Rattle.fact_action_laws.specs.Places.{can_hold, can_hold_all, IsTarget, IsAtTarget}
use Rattle.fact_action_laws.specs.Regions.{TransferSetting}
use Rattle.fact_action_laws.proofs.MoveLaws.{IsMembersTarget, IsAmong}

-- ---- tests

pub both_true : (a b : Bool) → a ≡ true → b ≡ true → a && b ≡ true
both_true true b h k = k
both_true false b h k = absurd (false≢true h)

pub left_true : (a b : Bool) → a && b ≡ true → a ≡ true
left_true true b h = refl
left_true false b h = h

pub right_true : (a b : Bool) → a && b ≡ true → b ≡ true
right_true true b h = h
right_true false b h = absurd (false≢true h)

-- ---- slots

pub hold_first : (fs gs : List FlatType) (ts : List ValType) → can_hold_all (fs ++ gs) ts ≡ true → can_hold_all fs (take (length fs) ts) ≡ true
hold_first [] gs ts h = refl
hold_first (f ∷ fs) gs [] h = absurd (false≢true h)
hold_first (f ∷ fs) gs (t ∷ ts) h = both_true (can_hold f t) (can_hold_all fs (take (length fs) ts)) (left_true (can_hold f t) _ h) (hold_first fs gs ts (right_true (can_hold f t) _ h))

pub hold_others : (fs gs : List FlatType) (ts : List ValType) → can_hold_all (fs ++ gs) ts ≡ true → can_hold_all gs (drop (length fs) ts) ≡ true
hold_others [] gs ts h = h
hold_others (f ∷ fs) gs [] h = absurd (false≢true h)
hold_others (f ∷ fs) gs (t ∷ ts) h = hold_others fs gs ts (right_true (can_hold f t) _ h)

pub hold_length : (fs : List FlatType) (ts : List ValType) → can_hold_all fs ts ≡ true → length fs ≡ length ts
hold_length [] [] h = refl
hold_length [] (t ∷ ts) h = absurd (false≢true h)
hold_length (f ∷ fs) [] h = absurd (false≢true h)
hold_length (f ∷ fs) (t ∷ ts) h = ap suc (hold_length fs ts (right_true (can_hold f t) _ h))

pub values_length : (vs : List CoreValue) (ts : List ValType) → are_values vs ts ≡ true → length vs ≡ length ts
values_length [] [] h = refl
values_length [] (t ∷ ts) h = absurd (false≢true h)
values_length (v ∷ vs) [] h = absurd (false≢true h)
values_length (v ∷ vs) (t ∷ ts) h = ap suc (values_length vs ts (right_true (is_value v t) _ h))

pub values_append : (n : ℕ) (us vs : List CoreValue) (ts : List ValType) → are_values us (take n ts) ≡ true → are_values vs (drop n ts) ≡ true → are_values (us ++ vs) ts ≡ true
values_append zero [] vs ts h k = k
values_append zero (u ∷ us) vs ts h k = absurd (false≢true h)
values_append (suc n) [] vs [] h k = k
values_append (suc n) (u ∷ us) vs [] h k = absurd (false≢true h)
values_append (suc n) [] vs (t ∷ ts) h k = absurd (false≢true h)
values_append (suc n) (u ∷ us) vs (t ∷ ts) h k = both_true (is_value u t) (are_values (us ++ vs) ts) (left_true (is_value u t) _ h) (values_append n us vs ts (right_true (is_value u t) _ h) k)

-- ---- the first field of a record, and the others

module _ (c : TransferSetting) (x : List ℕ) (u : Shape) (ns : Members) (e : ℕ) where
  up : e ≤ place_of (width_of_side c.transfer.to) u e
  up = (aligned_bounds e _ (align_pos (width_of_side c.transfer.to) u)).0

  grow : next_of (width_of_side c.transfer.to) u e ≤ ends_of (width_of_side c.transfer.to) ns (next_of (width_of_side c.transfer.to) u e)
  grow = ends_grow (width_of_side c.transfer.to) ns (next_of (width_of_side c.transfer.to) u e)

  pub field_target : (live : ℕ → Type 0) (m : List ℕ) (d : Target) → IsMembersTarget c (typed x u ns) e live m d → IsTarget c (flat (width_of_side c.transfer.to) u) (size_on c.transfer.to u) live m (spot c.transfer.to u e d)
  field_target live m (Slots ts) h = hold_first (flat (width_of_side c.transfer.to) u) (flat_members (width_of_side c.transfer.to) ns) ts h
  field_target live m (Into b) h = (h.0, omega (arith, h.1, grow), λ j lo hi. h.2 j (omega (arith, lo, up)) (omega (arith, hi, grow)))

  pub others_target : (live : ℕ → Type 0) (m : List ℕ) (live' : ℕ → Type 0) (m' : List ℕ) (d : Target) → length m ≤ length m' → ((j : ℕ) → live j → live' j) → IsMembersTarget c (typed x u ns) e live m d → IsMembersTarget c ns (next_of (width_of_side c.transfer.to) u e) live' m' (past c.transfer.to u d)
  others_target live m live' m' (Slots ts) le g h = hold_others (flat (width_of_side c.transfer.to) u) (flat_members (width_of_side c.transfer.to) ns) ts h
  others_target live m live' m' (Into b) le g h = (h.0, omega (arith, h.1, le), λ j lo hi. g j (h.2 j (omega (arith, lo, up)) hi))

  -- their places
  pub apart : (d : Target) (j : ℕ) → IsAtTarget (size_on c.transfer.to u) (spot c.transfer.to u e d) j → IsAmong c ns (next_of (width_of_side c.transfer.to) u e) (past c.transfer.to u d) j → ⊥
  apart (Slots ts) j h k = h
  apart (Into b) j h k = omega (arith, h.1, k.0)

  pub field_among : (d : Target) (j : ℕ) → IsAtTarget (size_on c.transfer.to u) (spot c.transfer.to u e d) j → IsAmong c (typed x u ns) e d j
  field_among (Slots ts) j h = h
  field_among (Into b) j h = (omega (arith, h.0, up), omega (arith, h.1, grow))

  pub others_among : (d : Target) (j : ℕ) → IsAmong c ns (next_of (width_of_side c.transfer.to) u e) (past c.transfer.to u d) j → IsAmong c (typed x u ns) e d j
  others_among (Slots ts) j h = h
  others_among (Into b) j h = (omega (arith, h.0, up), h.1)

-- what is live at a target
pub among_live : (c : TransferSetting) (ns : Members) (e : ℕ) (live : ℕ → Type 0) (m : List ℕ) (d : Target) → IsMembersTarget c ns e live m d → (j : ℕ) → IsAmong c ns e d j → live j
among_live c ns e live m (Slots ts) h j k = absurd k
among_live c ns e live m (Into b) h j k = h.2 j k.0 k.1

pub at_live : (c : TransferSetting) (fs : List FlatType) (n : ℕ) (live : ℕ → Type 0) (m : List ℕ) (d : Target) → IsTarget c fs n live m d → (j : ℕ) → IsAtTarget n d j → live j
at_live c fs n live m (Slots ts) h j k = absurd k
at_live c fs n live m (Into b) h j k = h.2 j k.0 k.1
