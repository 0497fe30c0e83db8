-- Lists by their places, and tests.
use Rattle.std.proofs.Common.{◌≡◌, ◌≢◌, ℕ, zero, suc, Bool, true, List, [], ◌∷◌, Some, refl, sym, ap, ◌∙◌, map, subst, take, drop, slice_get, slice_set}
use Rattle.std.specs.List.{list_all}
use Rattle.fact_machine.specs.Typed.{all_zip}
use Rattle.fact_machine.proofs.Tests.{first_of, second_of, both}

module _ {A : Type 0} where
  pub get_set_here : (xs : List A) (i : ℕ) (x old : A) → slice_get xs i ≡ Some old → slice_get (slice_set xs i x) i ≡ Some x
  get_set_here [] i x old h = cc
  get_set_here (y ∷ xs) zero x old h = refl
  get_set_here (y ∷ xs) (suc i) x old h = get_set_here xs i x old h

  pub get_set_other : (xs : List A) (i j : ℕ) (x : A) → j ≢ i → slice_get (slice_set xs i x) j ≡ slice_get xs j
  get_set_other [] i j x h = refl
  get_set_other (y ∷ xs) zero zero x h = absurd (h refl)
  get_set_other (y ∷ xs) zero (suc j) x h = refl
  get_set_other (y ∷ xs) (suc i) zero x h = refl
  get_set_other (y ∷ xs) (suc i) (suc j) x h = get_set_other xs i j x (λ e. h (ap suc e))

  pub all_take : (f : A → Bool) (n : ℕ) (xs : List A) → list_all f xs ≡ true → list_all f (take n xs) ≡ true
  all_take f zero xs h = refl
  all_take f (suc n) [] h = refl
  all_take f (suc n) (x ∷ xs) h = both (first_of (f x) (list_all f xs) h) (all_take f n xs (second_of (f x) (list_all f xs) h))

  pub all_drop : (f : A → Bool) (n : ℕ) (xs : List A) → list_all f xs ≡ true → list_all f (drop n xs) ≡ true
  all_drop f zero xs h = h
  all_drop f (suc n) [] h = refl
  all_drop f (suc n) (x ∷ xs) h = all_drop f n xs (second_of (f x) (list_all f xs) h)

  pub map_set : {B : Type 0} (f : A → B) (xs : List A) (i : ℕ) (x old : A) → slice_get xs i ≡ Some old → f x ≡ f old → map f (slice_set xs i x) ≡ map f xs
  map_set f [] i x old h e = refl
  map_set f (y ∷ xs) zero x old h e = let same : y ≡ old = cc in ap (λ z. z ∷ map f xs) (e ∙ ap f (sym same))
  map_set f (y ∷ xs) (suc i) x old h e = ap (λ zs. f y ∷ zs) (map_set f xs i x old h e)

  -- what stands at a place of a list that is mapped
  pub get_of_map : {B : Type 0} (f : A → B) (xs : List A) (i : ℕ) (y : B) → slice_get (map f xs) i ≡ Some y → (x : A) × (slice_get xs i ≡ Some x) × (f x ≡ y)
  get_of_map f [] i y h = cc
  get_of_map f (x ∷ xs) zero y h = (x, refl, cc)
  get_of_map f (x ∷ xs) (suc i) y h = get_of_map f xs i y h

-- what stands at a place of a list whose places all pass a test with those of another
pub zip_at : {A B : Type 0} (test : A → B → Bool) (xs : List A) (ys : List B) (i : ℕ) (x : A) → all_zip test xs ys ≡ true → slice_get xs i ≡ Some x → (y : B) × (slice_get ys i ≡ Some y) × (test x y ≡ true)
zip_at test [] ys i x h e = cc
zip_at test (u ∷ xs) [] i x h e = cc
zip_at test (u ∷ xs) (y ∷ ys) zero x h e = let same : u ≡ x = cc in (y, refl, subst (λ z. test z y ≡ true) same (first_of (test u y) (all_zip test xs ys) h))
zip_at test (u ∷ xs) (y ∷ ys) (suc i) x h e = zip_at test xs ys i x (second_of (test u y) (all_zip test xs ys) h) e

-- another that passes may stand there
pub zip_put : {A B : Type 0} (test : A → B → Bool) (xs : List A) (ys : List B) (i : ℕ) (x : A) (y : B) → all_zip test xs ys ≡ true → slice_get xs i ≡ Some x → test x y ≡ true → all_zip test xs (slice_set ys i y) ≡ true
zip_put test [] ys i x y h e t = cc
zip_put test (u ∷ xs) [] i x y h e t = cc
zip_put test (u ∷ xs) (z ∷ ys) zero x y h e t = let same : x ≡ u = cc in both (subst (λ v. test v y ≡ true) same t) (second_of (test u z) (all_zip test xs ys) h)
zip_put test (u ∷ xs) (z ∷ ys) (suc i) x y h e t = both (first_of (test u z) (all_zip test xs ys) h) (zip_put test xs ys i x y (second_of (test u z) (all_zip test xs ys) h) e t)
