-- Locals of slots that are kept, and slots apart from them.
use Rattle.std.proofs.Common.{◌≡◌, ℕ, Bool, true, false, ◌||◌, List, [], ◌∷◌, ◌++◌, refl, sym, ap, ◌∙◌}
use Rattle.std.specs.Prelude.{nat_eq}
use Rattle.std.proofs.lemmas.Bool.{eqb-true, eqb-false, eq-eqb, ne_eqb}
use Rattle.fact_wasm.specs.declared.types.ValType.{ValType}
use Rattle.fact_code_laws.specs.Places.{Slot, AreLocals, AreUsed, IsNone}
use Rattle.fact_emit.specs.Places.{AreDistinctSlots}
use Rattle.fact_compound.proofs.SyncSteps.{among, AreUnused}

pub equal_back : (i j : ℕ) → nat_eq i j ≡ false → nat_eq j i ≡ false
equal_back i j e = ne_eqb j i (λ same. eqb-false i j e (sym same))

among_more : (x : Slot) (xs : List Slot) (i : ℕ) → among xs i ≡ true → among (x ∷ xs) i ≡ true
among_more x xs i h = go (nat_eq i x.0)
  where
    go : (b : Bool) → (b || among xs i) ≡ true
    go true = refl
    go false = h

-- slots are among those in front and behind
pub among_front : (xs ys : List Slot) (i : ℕ) → among xs i ≡ true → among (xs ++ ys) i ≡ true
among_front [] ys i h = let no : false ≡ true = h in absurd (cc)
among_front (x ∷ xs) ys i h = go (nat_eq i x.0) h (λ k. among_front xs ys i k)
  where
    go : (b : Bool) → (b || among xs i) ≡ true → (among xs i ≡ true → among (xs ++ ys) i ≡ true) → (b || among (xs ++ ys) i) ≡ true
    go true h rest = refl
    go false h rest = rest h

pub among_behind : (xs ys : List Slot) (i : ℕ) → among ys i ≡ true → among (xs ++ ys) i ≡ true
among_behind [] ys i h = h
among_behind (x ∷ xs) ys i h = among_more x (xs ++ ys) i (among_behind xs ys i h)

pub used_by : {u v : ℕ → Bool} → ((i : ℕ) → u i ≡ true → v i ≡ true) → (ss : List Slot) → AreUsed u ss → AreUsed v ss
used_by f [] h = tt
used_by f (s ∷ ss) h = (f s.0 h.0, used_by f ss h.1)

among_here : (s : Slot) (ss : List Slot) → among (s ∷ ss) s.0 ≡ true
among_here s ss = ap (λ b. b || among ss s.0) (eq-eqb s.0 s.0 refl)

pub among_self : (ss : List Slot) → AreUsed (among ss) ss
among_self [] = tt
among_self (s ∷ ss) = (among_here s ss, used_by (λ i h. among_more s ss i h) ss (among_self ss))

-- what is in use holds for each of them
pub among_used : (u : ℕ → Bool) (ss : List Slot) → AreUsed u ss → (i : ℕ) → among ss i ≡ true → u i ≡ true
among_used u [] h i e = let no : false ≡ true = e in absurd (cc)
among_used u (s ∷ ss) h i e = go (nat_eq i s.0) refl e (λ k. among_used u ss h.1 i k)
  where
    go : (b : Bool) → nat_eq i s.0 ≡ b → (b || among ss i) ≡ true → (among ss i ≡ true → u i ≡ true) → u i ≡ true
    go true same e rest = ap u (eqb-true i s.0 same) ∙ h.0
    go false same e rest = rest e

-- ---- parts of slots

pub used_front : (u : ℕ → Bool) (xs ys : List Slot) → AreUsed u (xs ++ ys) → AreUsed u xs
used_front u [] ys h = tt
used_front u (x ∷ xs) ys h = (h.0, used_front u xs ys h.1)

pub used_behind : (u : ℕ → Bool) (xs ys : List Slot) → AreUsed u (xs ++ ys) → AreUsed u ys
used_behind u [] ys h = h
used_behind u (x ∷ xs) ys h = used_behind u xs ys h.1

pub locals_front : (locals : List ValType) (xs ys : List Slot) → AreLocals locals (xs ++ ys) → AreLocals locals xs
locals_front locals [] ys h = tt
locals_front locals (x ∷ xs) ys h = (h.0, locals_front locals xs ys h.1)

pub locals_behind : (locals : List ValType) (xs ys : List Slot) → AreLocals locals (xs ++ ys) → AreLocals locals ys
locals_behind locals [] ys h = h
locals_behind locals (x ∷ xs) ys h = locals_behind locals xs ys h.1

none_front : (i : ℕ) (xs ys : List Slot) → IsNone i (xs ++ ys) → IsNone i xs
none_front i [] ys h = tt
none_front i (x ∷ xs) ys h = (h.0, none_front i xs ys h.1)

none_behind : (i : ℕ) (xs ys : List Slot) → IsNone i (xs ++ ys) → IsNone i ys
none_behind i [] ys h = h
none_behind i (x ∷ xs) ys h = none_behind i xs ys h.1

pub distinct_front : (xs ys : List Slot) → AreDistinctSlots (xs ++ ys) → AreDistinctSlots xs
distinct_front [] ys h = tt
distinct_front (x ∷ xs) ys h = (none_front x.0 xs ys h.0, distinct_front xs ys h.1)

pub distinct_behind : (xs ys : List Slot) → AreDistinctSlots (xs ++ ys) → AreDistinctSlots ys
distinct_behind [] ys h = h
distinct_behind (x ∷ xs) ys h = distinct_behind xs ys h.1

-- slots behind others are none of them
unused_none : (ys : List Slot) → AreUnused (among []) ys
unused_none [] = tt
unused_none (y ∷ ys) = (refl, unused_none ys)

unused_more : (x : Slot) (xs ys : List Slot) → IsNone x.0 ys → AreUnused (among xs) ys → AreUnused (among (x ∷ xs)) ys
unused_more x xs [] n h = tt
unused_more x xs (y ∷ ys) n h = (ap (λ b. b || among xs y.0) (equal_back x.0 y.0 n.0) ∙ h.0, unused_more x xs ys n.1 h.1)

pub unused_behind : (xs ys : List Slot) → AreDistinctSlots (xs ++ ys) → AreUnused (among xs) ys
unused_behind [] ys h = unused_none ys
unused_behind (x ∷ xs) ys h = unused_more x xs ys (none_behind x.0 xs ys h.0) (unused_behind xs ys h.1)

pub unused_front : (u : ℕ → Bool) (xs ys : List Slot) → AreUnused u (xs ++ ys) → AreUnused u xs
unused_front u [] ys h = tt
unused_front u (x ∷ xs) ys h = (h.0, unused_front u xs ys h.1)

pub unused_rest : (u : ℕ → Bool) (xs ys : List Slot) → AreUnused u (xs ++ ys) → AreUnused u ys
unused_rest u [] ys h = h
unused_rest u (x ∷ xs) ys h = unused_rest u xs ys h.1

-- a slot behind others is none of them
pub none_of : (i : ℕ) (xs : List Slot) → among xs i ≡ false → IsNone i xs
none_of i [] h = tt
none_of i (x ∷ xs) h = go (nat_eq i x.0) refl h (λ k. none_of i xs k)
  where
    go : (b : Bool) → nat_eq i x.0 ≡ b → (b || among xs i) ≡ false → (among xs i ≡ false → IsNone i xs) → (nat_eq i x.0 ≡ false) × IsNone i xs
    go true e h rest = let no : true ≡ false = h in absurd (cc)
    go false e h rest = (e, rest h)

-- ---- slots put together

pub used_both : (u : ℕ → Bool) (xs ys : List Slot) → AreUsed u xs → AreUsed u ys → AreUsed u (xs ++ ys)
used_both u [] ys h k = k
used_both u (x ∷ xs) ys h k = (h.0, used_both u xs ys h.1 k)

among_neither : (xs ys : List Slot) (i : ℕ) → among xs i ≡ false → among ys i ≡ false → among (xs ++ ys) i ≡ false
among_neither [] ys i h k = k
among_neither (x ∷ xs) ys i h k = go (nat_eq i x.0) h (λ e. among_neither xs ys i e k)
  where
    go : (b : Bool) → (b || among xs i) ≡ false → (among xs i ≡ false → among (xs ++ ys) i ≡ false) → (b || among (xs ++ ys) i) ≡ false
    go true h rest = h
    go false h rest = rest h

pub unused_both : (xs ys zs : List Slot) → AreUnused (among xs) zs → AreUnused (among ys) zs → AreUnused (among (xs ++ ys)) zs
unused_both xs ys [] h k = tt
unused_both xs ys (z ∷ zs) h k = (among_neither xs ys z.0 h.0 k.0, unused_both xs ys zs h.1 k.1)
