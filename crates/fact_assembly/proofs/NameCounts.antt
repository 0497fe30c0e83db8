-- Lists that have each name once: those that have the same names are as long.
use Rattle.std.proofs.Common.{◌≡◌, ℕ, zero, suc, ◌≤◌, Bool, true, false, List, [], ◌∷◌, length, Some, None, refl, sym, ap, ◌∙◌, arith, slice_get, Contains}
use Rattle.std.specs.Prelude.{if◌then◌else◌, ◌||◌}
use Rattle.std.specs.List.{list_any}
use Rattle.std.specs.Str.{bytes_eq}
use Rattle.std.specs.Cmp.Lexicographic.{nat_list_eq_equiv}
use Rattle.std.proofs.lemmas.Map.Views.{list_any-from_Contains}
use Rattle.std.proofs.lemmas.Slice.Eq.{bytes_eq-Decides}
use Rattle.fact_types.specs.Valid.{AreDistinct}
use Rattle.fact_types.proofs.ShapeLaws.{same_some, none_some}

-- a list without the first name that is equal to this one
abbrev without : List ℕ → List (List ℕ) → List (List ℕ)
without x [] = []
without x (y ∷ ys) = if bytes_eq x y then ys else y ∷ without x ys

one_less : (x : List ℕ) (ys : List (List ℕ)) → list_any (bytes_eq x) ys ≡ true → length ys ≡ suc (length (without x ys))
one_less x [] h = absurd (let no : false ≡ true = h in cc)
one_less x (y ∷ ys) h = go (bytes_eq x y) (one_less x ys) h
  where
    go : (b : Bool) → (list_any (bytes_eq x) ys ≡ true → length ys ≡ suc (length (without x ys))) → (b || list_any (bytes_eq x) ys) ≡ true → suc (length ys) ≡ suc (length (if b then ys else y ∷ without x ys))
    go true rest h = refl
    go false rest h = ap suc (rest h)

others_stay : (x z : List ℕ) (ys : List (List ℕ)) → (x ≡ z → ⊥) → list_any (bytes_eq z) ys ≡ true → list_any (bytes_eq z) (without x ys) ≡ true
others_stay x z [] ne h = h
others_stay x z (y ∷ ys) ne h = go (bytes_eq x y) refl (bytes_eq z y) refl (others_stay x z ys ne) h
  where
    go : (b : Bool) → bytes_eq x y ≡ b → (c : Bool) → bytes_eq z y ≡ c → (list_any (bytes_eq z) ys ≡ true → list_any (bytes_eq z) (without x ys) ≡ true) → (c || list_any (bytes_eq z) ys) ≡ true
        → list_any (bytes_eq z) (if b then ys else y ∷ without x ys) ≡ true
    go true e true f rest h = absurd (ne ((bytes_eq-Decides x y).0 e ∙ sym ((bytes_eq-Decides z y).0 f)))
    go true e false f rest h = h
    go false e true f rest h = ap (λ (c : Bool). c || list_any (bytes_eq z) (without x ys)) f
    go false e false f rest h = ap (λ (c : Bool). c || list_any (bytes_eq z) (without x ys)) f ∙ rest h

short_among : (xs ys : List (List ℕ)) → AreDistinct xs → ((i : ℕ) (z : List ℕ) → slice_get xs i ≡ Some z → list_any (bytes_eq z) ys ≡ true) → length xs ≤ length ys
short_among [] ys d h = omega arith
short_among (x ∷ xs) ys d h =
    let less = one_less x ys (h 0 x refl) in
    let rest = short_among xs (without x ys)
    (λ i j z a b. (let e : suc i ≡ suc j = d (suc i) (suc j) z a b in omega (arith, e)))
    (λ i z at. others_stay x z ys (λ e. (let no : 0 ≡ suc i = d 0 (suc i) z (ap (λ u. Some u) e) at in omega (arith, no))) (h (suc i) z at)) in
    omega (arith, less, rest)

contains_at : (xs : List (List ℕ)) (i : ℕ) (z : List ℕ) → slice_get xs i ≡ Some z → Contains xs z
contains_at [] i z h = absurd (none_some None z refl h)
contains_at (x ∷ xs) zero z h = (0, omega arith, same_some (Some x) x z refl h)
contains_at (x ∷ xs) (suc i) z h = let c = contains_at xs i z h in (suc c.0, omega (arith, c.1), c.2)

-- as many as there are in a list that has all of them
pub names_few : (xs ys : List (List ℕ)) → AreDistinct xs → ((x : List ℕ) → Contains xs x → Contains ys x) → length xs ≤ length ys
names_few xs ys d h = short_among xs ys d (λ i z at. list_any-from_Contains {eq = bytes_eq} nat_list_eq_equiv z ys (h z (contains_at xs i z at)))
