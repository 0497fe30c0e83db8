-- Locals that were taken, as temporaries of pieces of code.
use Rattle.std.proofs.Common.{◌≡◌, ◌≢◌, ℕ, zero, suc, ◌<◌, Bool, true, false, List, [], ◌∷◌, length, Some, refl, sym, ap, ◌∙◌, arith, slice_get}
use Rattle.std.specs.Prelude.{nat_eq, if◌then◌else◌}
use Rattle.std.specs.List.{AllByRecursion}
use Rattle.std.proofs.lemmas.Bool.{eqb-true, eqb-false}
use Rattle.fact_wasm.specs.declared.types.ValType.{ValType}
use Rattle.fact_wasm.specs.declared.types.ValType.TheVariants as val
use Rattle.fact_code_laws.specs.Places.{Slot, AreLocals, IsNone}
use Rattle.fact_code_laws.proofs.UsedLocals.{with_temps}
use Rattle.fact_emit.specs.Places.{AreDistinctSlots}

abbrev pub slot_at : List Slot → ℕ → Slot
slot_at [] j = (0, val.I32)
slot_at (s ∷ ss) zero = s
slot_at (s ∷ ss) (suc j) = slot_at ss j

pub all_at : (P : Slot → Type 0) (ss : List Slot) → AllByRecursion P ss → (j : ℕ) → j < length ss → P (slot_at ss j)
all_at P [] h j lt = absurd (omega (arith, lt))
all_at P (s ∷ ss) h zero lt = h.0
all_at P (s ∷ ss) h (suc j) lt = all_at P ss h.1 j (omega (arith, lt))

pub typed_at : (locals : List ValType) (ss : List Slot) → AreLocals locals ss → (j : ℕ) → j < length ss → slice_get locals (slot_at ss j).0 ≡ Some (slot_at ss j).1
typed_at locals [] h j lt = absurd (omega (arith, lt))
typed_at locals (s ∷ ss) h zero lt = h.0
typed_at locals (s ∷ ss) h (suc j) lt = typed_at locals ss h.1 j (omega (arith, lt))

none_at : (i : ℕ) (ss : List Slot) → IsNone i ss → (j : ℕ) → j < length ss → i ≢ (slot_at ss j).0
none_at i [] h j lt = absurd (omega (arith, lt))
none_at i (s ∷ ss) h zero lt = eqb-false i s.0 h.0
none_at i (s ∷ ss) h (suc j) lt = none_at i ss h.1 j (omega (arith, lt))

pub distinct_at : (ss : List Slot) → AreDistinctSlots ss → (i j : ℕ) → i < length ss → j < length ss → (slot_at ss i).0 ≡ (slot_at ss j).0 → i ≡ j
distinct_at [] h i j li lj e = absurd (omega (arith, li))
distinct_at (s ∷ ss) h zero zero li lj e = refl
distinct_at (s ∷ ss) h zero (suc j) li lj e = absurd (none_at s.0 ss h.0 j (omega (arith, lj)) e)
distinct_at (s ∷ ss) h (suc i) zero li lj e = absurd (none_at s.0 ss h.0 i (omega (arith, li)) (sym e))
distinct_at (s ∷ ss) h (suc i) (suc j) li lj e = ap suc (distinct_at ss h.1 i j (omega (arith, li)) (omega (arith, lj)) e)

pub unkept : {taken used : ℕ → Bool} → ((i : ℕ) → used i ≡ true → taken i ≡ true) → (i : ℕ) → taken i ≡ false → used i ≡ false
unkept {taken} {used} inside i f = go (used i) refl
  where
    go : (b : Bool) → used i ≡ b → used i ≡ false
    go true e = absurd (let no : true ≡ false = sym (inside i e) ∙ f in cc)
    go false e = e

pub with_temps_within : (used inner : ℕ → Bool) (temp : ℕ → ℕ) → ((i : ℕ) → used i ≡ true → inner i ≡ true) → (n : ℕ) → ((j : ℕ) → j < n → inner (temp j) ≡ true) → (i : ℕ) → with_temps used temp n i ≡ true → inner i ≡ true
with_temps_within used inner temp h zero t i u = h i u
with_temps_within used inner temp h (suc n) t i u = go (with_temps_within used inner temp h n (λ j lt. t j (omega (arith, lt))) i) (nat_eq i (temp n)) refl u
  where
    go : (with_temps used temp n i ≡ true → inner i ≡ true) → (q : Bool) → nat_eq i (temp n) ≡ q → (if q then true else with_temps used temp n i) ≡ true → inner i ≡ true
    go rest true e u = ap inner (eqb-true i (temp n) e) ∙ t n (omega arith)
    go rest false e u = rest u
