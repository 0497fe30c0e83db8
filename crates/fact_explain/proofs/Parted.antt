-- Texts of parts that grow by one part.
use Rattle.std.proofs.Common.{◌≡◌, ℕ, zero, suc, ◌+◌, ◌≤◌, List, [], ◌∷◌, ◌++◌, length, Some, None, refl, sym, subst, ap, ◌∙◌, arith, append_assoc, append-nil, take, zip}
use Rattle.std.specs.Prelude.{slice_get}
use Rattle.std.proofs.lemmas.List.{take_all}
use Rattle.fact_types.proofs.ShapeLaws.{none_some, same_some}
use Rattle.fact_explain.specs.Concatenations.{IsConcatenation}

module _ {X : Type 0} (IsPart : ℕ → X → List ℕ → Type 0) where
  more : (j k : ℕ) (xs : List X) (x : X) (text part : List ℕ) → IsConcatenation IsPart j (take k xs) text → slice_get xs k ≡ Some x → IsPart (j + k) x part → IsConcatenation IsPart j (take (suc k) xs) (text ++ part)
  more j k [] x text part h at is = absurd (none_some None x refl at)
  more j zero (y ∷ ys) x text part none at is =
      let here : j + 0 ≡ j = omega arith in
      let first = subst (λ (n : ℕ). IsPart n x part) here is in
      (part, [], ap (λ (l : List ℕ). l ++ part) none ∙ sym (append-nil part), subst (λ (z : X). IsPart j z part) (same_some (Some y) x y at refl) first, refl)
  more j (suc k) (y ∷ ys) x text part (p, rest, e, first, those) at is =
      let there : j + suc k ≡ suc j + k = omega arith in
      (p, rest ++ part, ap (λ (l : List ℕ). l ++ part) e ∙ append_assoc p rest part, first, more (suc j) k ys x rest part those at (subst (λ (n : ℕ). IsPart n x part) there is))

  -- with the part of one more item behind them
  pub parts-next : (k : ℕ) (xs : List X) (x : X) (text part whole : List ℕ) → IsConcatenation IsPart 0 (take k xs) text → slice_get xs k ≡ Some x → IsPart k x part → whole ≡ text ++ part → IsConcatenation IsPart 0 (take (k + 1) xs) whole
  parts-next k xs x text part whole h at is e =
      let next : suc k ≡ k + 1 = omega arith in
      let here : k ≡ 0 + k = omega arith in
      subst (λ (n : ℕ). IsConcatenation IsPart 0 (take n xs) whole) next (subst (λ (t : List ℕ). IsConcatenation IsPart 0 (take (suc k) xs) t) (sym e) (more 0 k xs x text part h at (subst (λ (n : ℕ). IsPart n x part) here is)))

  -- where there are no more items
  pub parts-all : (k : ℕ) (xs : List X) (text : List ℕ) → length xs ≤ k → IsConcatenation IsPart 0 (take k xs) text → IsConcatenation IsPart 0 xs text
  parts-all k xs text past h = subst (λ (ys : List X). IsConcatenation IsPart 0 ys text) (take_all k xs past) h

  pub parts-stay : (k : ℕ) (xs : List X) (text : List ℕ) → length xs ≤ k → IsConcatenation IsPart 0 (take k xs) text → IsConcatenation IsPart 0 (take (k + 1) xs) text
  parts-stay k xs text past h =
      let still : length xs ≤ k + 1 = omega (arith, past) in
      subst (λ (ys : List X). IsConcatenation IsPart 0 ys text) (take_all k xs past ∙ sym (take_all (k + 1) xs still)) h

-- ---- two lists beside each other

pub zip-past : {X Y : Type 0} (xs : List X) (ys : List Y) (k : ℕ) → length xs ≤ k → length (zip xs ys) ≤ k
zip-past [] ys k past = omega arith
zip-past (x ∷ xs) [] k past = omega arith
zip-past (x ∷ xs) (y ∷ ys) zero past = omega (arith, past)
zip-past (x ∷ xs) (y ∷ ys) (suc k) past = omega (arith, zip-past xs ys k (omega (arith, past)))

pub zip-short : {X Y : Type 0} (xs : List X) (ys : List Y) (k : ℕ) → length ys ≤ k → length (zip xs ys) ≤ k
zip-short [] ys k past = omega arith
zip-short (x ∷ xs) [] k past = omega arith
zip-short (x ∷ xs) (y ∷ ys) zero past = omega (arith, past)
zip-short (x ∷ xs) (y ∷ ys) (suc k) past = omega (arith, zip-short xs ys k (omega (arith, past)))

pub zip-some : {X Y : Type 0} (xs : List X) (ys : List Y) (k : ℕ) (x : X) (y : Y) → slice_get xs k ≡ Some x → slice_get ys k ≡ Some y → slice_get (zip xs ys) k ≡ Some (x, y)
zip-some [] ys k x y here there = absurd (none_some None x refl here)
zip-some (a ∷ xs) [] k x y here there = absurd (none_some None y refl there)
zip-some {X} {Y} (a ∷ xs) (b ∷ ys) zero x y here there =
    ap (λ (v : X). Some (v, b)) (same_some (Some a) a x refl here) ∙ ap (λ (v : Y). Some (x, v)) (same_some (Some b) b y refl there)
zip-some (a ∷ xs) (b ∷ ys) (suc k) x y here there = zip-some xs ys k x y here there
