-- Places in a list of distinct values.
use Rattle.std.proofs.Common.{◌≡◌, ◌<◌, ℕ, List, [], ◌∷◌, length, ◌++◌, Some, None, Bool, true, false, sym, subst, refl, ◌∙◌, arith, inl, inr, true≢false, slice_get, position}
use Rattle.std.specs.Cmp.{IsEquivalence}
use Rattle.std.specs.List.{IsDistinct, position_or_len, list_any}
use Rattle.std.specs.Prelude.{nat_lt, cond, get_or}
use Rattle.std.proofs.lemmas.Bool.{cases_lt}
use Rattle.std.proofs.lemmas.Bool.Decides.{nat_tests}
use Rattle.std.proofs.lemmas.List.Quantifiers.{position-Some}
use Rattle.std.proofs.lemmas.List.Folds.{list_any_at}
use Rattle.std.proofs.lemmas.List.Sums.{position_or_len_is}
use Rattle.std.proofs.lemmas.Map.Keys.{apart_from_distinct}
use Rattle.std.proofs.lemmas.Option.{get_or_from_slice_get, slice_get-get_or, slice_get_within}
use Rattle.indexmap.specs.IndexSet.{insert_key}
use Rattle.fact_entity.specs.Places.{IsOnlyPlace, IsInterned}
use Rattle.fact_entity.proofs.Entries.{keeps_appended}

-- the first place at which a test passes holds a value that passes it
pub position_holds : {X : Type 0} (p : X → Bool) (xs : List X) (i : ℕ) → position p xs ≡ Some i → (x : X) × (slice_get xs i ≡ Some x) × (p x ≡ true)
position_holds p [] i h = cc
position_holds p (y ∷ ys) i h =
    let s = position-Some p (y ∷ ys) i y h in (get_or (y ∷ ys) i y, slice_get-get_or (y ∷ ys) i y s.0, s.1)

-- the first place that passes is the one at which a value passes and before which none does
first_place : {X : Type 0} (p : X → Bool) (xs : List X) (i : ℕ) → i < length xs → position_or_len p xs ≡ i → position p xs ≡ Some i
first_place p xs i l h = subst (λ n. cond (nat_lt n (length xs)) (Some n) None ≡ Some i) (sym h) (grind (arith, l, nat_tests))

-- a test that fails unless a place is the one
only_passes : (b : Bool) → (b ≡ true → ⊥) → b ≡ false
only_passes true f = absurd (f refl)
only_passes false f = refl

-- values keep their places when one is added
keeps_inserted : {X : Type 0} (b : Bool) (xs : List X) (v : X) (j : ℕ) (x : X) → slice_get xs j ≡ Some x → slice_get (cond b xs (xs ++ v ∷ [])) j ≡ Some x
keeps_inserted true xs v j x h = h
keeps_inserted false xs v j x h = keeps_appended xs v j x h

-- a value that is found is not added
not_added : {X : Type 0} (b : Bool) (xs ys : List X) → b ≡ true → xs ≡ cond b xs ys
not_added true xs ys h = refl
not_added false xs ys h = absurd (true≢false (sym h))

module _ {X : Type 0} (eq : X → X → Bool) (laws : IsEquivalence eq) where
  -- the only place of a value is the first at which the test for it passes, and so for values equal to it
  only_first : (xs : List X) (v : X) (i : ℕ) → IsOnlyPlace eq xs v i → position (eq v) xs ≡ Some i
  only_first xs v i o =
      let (x, p, e) = o.holds in
      let l = slice_get_within xs i x p in
      first_place (eq v) xs i l (position_or_len_is (eq v) xs i x (omega (arith, l)) (λ k m. only_passes (eq v (get_or xs k x)) (λ f. omega (arith, m, o.only k (get_or xs k x) (slice_get-get_or xs k x (omega (arith, l, m))) f))) (λ m. (λ k. eq v (get_or_from_slice_get xs i x x p k)) ∙ e))

  pub interned : (old new : List X) (v : X) (i : ℕ) → i ≡ position_or_len (eq v) old → new ≡ insert_key eq old v → IsOnlyPlace eq new v i → IsInterned eq old new v i
  interned old new v i h same o = record {
    place = h;
    list = same;
    keeps = λ j x k. subst (λ l. slice_get l j ≡ Some x) (sym same) (keeps_inserted (list_any (eq v) old) old v j x k);
    only = o;
    again = λ w e. (λ k. position (λ x. laws.congr w v x e k) new) ∙ only_first new v i o;
  }

  pub interned_there : (xs : List X) (v : X) (i : ℕ) → Some i ≡ position (eq v) xs → IsOnlyPlace eq xs v i → IsInterned eq xs xs v i
  interned_there xs v i h o =
      let (x, p, e) = o.holds in
      let s = position-Some (eq v) xs i x (sym h) in
      interned xs xs v i (sym (position_or_len_is (eq v) xs i x (omega (arith, s.0)) s.2 (λ m. s.1))) (not_added _ xs _ (list_any_at (eq v) xs i x s.0 s.1)) o

module _ {X : Type 0} (eq : X → X → Bool) (laws : IsEquivalence eq) (xs : List X) (distinct : IsDistinct eq xs) where
  -- no value is equal to one at a later place
  apart : (i j : ℕ) (x y : X) → slice_get xs i ≡ Some x → slice_get xs j ≡ Some y → i < j → eq x y ≡ true → ⊥
  apart i j x y p q l e =
      let f = apart_from_distinct eq xs i j x distinct l (slice_get_within xs j y q) in
      true≢false (sym e ∙ sym (λ k. eq (get_or_from_slice_get xs i x x p k) (get_or_from_slice_get xs j y x q k)) ∙ f)

  -- two places of equal values are one
  one_place : (i j : ℕ) (x y : X) → slice_get xs i ≡ Some x → slice_get xs j ≡ Some y → eq x y ≡ true → i ≡ j
  one_place i j x y p q e =
      elim (cases_lt i j) [
        | inl l ↦ absurd (apart i j x y p q l e)
        | inr m ↦ elim (cases_lt j i) [
          | inl l ↦ absurd (apart j i y x q p l (laws.symm y x ∙ e))
          | inr n ↦ omega (arith, m, n)
        ]
      ]

  -- so the place of a value that is equal to v is the only one
  pub only_place : (v : X) (i k : ℕ) → (x : X) × (slice_get xs i ≡ Some x) × (eq v x ≡ true) → k ≡ i → IsOnlyPlace eq xs v k
  only_place v i k (x, p, e) same =
      subst (IsOnlyPlace eq xs v) (sym same) (record { holds = (x, p, e); only = λ j y q f. one_place j i y x q p (sym (laws.congr v y x f) ∙ e) })

  -- as is the first place at which the test for v passes
  pub first_only : (now : List X) → xs ≡ now → (v : X) (i k : ℕ) → Some i ≡ position (eq v) xs → k ≡ i → IsOnlyPlace eq now v k
  first_only now seen v i k h same =
      subst (λ l. IsOnlyPlace eq l v k) seen (only_place v i k (position_holds (eq v) xs i (sym h)) same)

  -- a value that is found is one that is interned already
  pub found : (now : List X) → xs ≡ now → (v : X) (i k : ℕ) → Some i ≡ position (eq v) xs → k ≡ i → IsInterned eq now now v k
  found now seen v i k h same =
      subst (λ l. IsInterned eq l l v k) seen (subst (IsInterned eq xs xs v) (sym same) (interned_there eq laws xs v i h (first_only xs refl v i i h refl)))
