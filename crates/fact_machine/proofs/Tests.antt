-- Tests of parts and of lists, and lists by their places.
use Rattle.std.proofs.Common.{◌≡◌, ℕ, zero, suc, Bool, true, false, ◌&&◌, List, [], ◌∷◌, ◌++◌, Some, refl, ap, ◌∙◌, slice_get}
use Rattle.std.specs.List.{list_all}

pub first_of : (a b : Bool) → (a && b) ≡ true → a ≡ true
first_of true b h = refl
first_of false b h = cc

pub second_of : (a b : Bool) → (a && b) ≡ true → b ≡ true
second_of true b h = h
second_of false b h = cc

pub both : {a b : Bool} → a ≡ true → b ≡ true → (a && b) ≡ true
both {b = b} p q = ap (λ x. x && b) p ∙ q

-- a test that passes where another does
pub all_of : {A : Type 0} (f g : A → Bool) → ((x : A) → f x ≡ true → g x ≡ true) → (xs : List A) → list_all f xs ≡ true → list_all g xs ≡ true
all_of f g each [] h = refl
all_of f g each (x ∷ xs) h = both (each x (first_of (f x) (list_all f xs) h)) (all_of f g each xs (second_of (f x) (list_all f xs) h))

-- what stands at a place stands there with more behind
pub get_append : {A : Type 0} (xs ys : List A) (i : ℕ) (x : A) → slice_get xs i ≡ Some x → slice_get (xs ++ ys) i ≡ Some x
get_append [] ys i x h = cc
get_append (y ∷ xs) ys zero x h = h
get_append (y ∷ xs) ys (suc i) x h = get_append xs ys i x h
