-- Lists that are made item by item.
use Rattle.std.proofs.Common.{◌≡◌, ◌<◌, ◌+◌, ℕ, List, [], ◌∷◌, ◌++◌, length, map, take, get_or, sym, ◌∙◌, ap}
use Rattle.std.specs.List.{flat_map}
use Rattle.std.proofs.lemmas.List.{flat_map_more, map-append, take_more}

-- the items up to one, with it
up_to : {A : Type 0} (xs : List A) (i : ℕ) (x : A) → i < length xs → x ≡ get_or xs i x → take (i + 1) xs ≡ take i xs ++ x ∷ []
up_to xs i x within is = take_more xs i x within ∙ ap (λ (y : _). take i xs ++ y ∷ []) (sym is)

-- one item for each
pub map_next : {A B : Type 0} (f : A → B) (xs : List A) (i : ℕ) (x : A) (made more : List B) (y : B)
    → i < length xs → x ≡ get_or xs i x → made ≡ map f (take i xs) → more ≡ made ++ y ∷ [] → y ≡ f x → more ≡ map f (take (i + 1) xs)
map_next f xs i x made more y within is h e same =
    e ∙ ap (λ (l : List _). l ++ y ∷ []) h ∙ ap (λ (z : _). map f (take i xs) ++ z ∷ []) same ∙ sym (ap (map f) (up_to xs i x within is) ∙ map-append f (take i xs) (x ∷ []))

-- the same of what the items stand for
pub map_both_next : {A B C : Type 0} (g : C → B) (f : A → B) (xs : List A) (i : ℕ) (x : A) (made more : List C) (y : C)
    → i < length xs → x ≡ get_or xs i x → map g made ≡ map f (take i xs) → more ≡ made ++ y ∷ [] → g y ≡ f x → map g more ≡ map f (take (i + 1) xs)
map_both_next g f xs i x made more y within is h e same = map_next f xs i x (map g made) (map g more) (g y) within is h (ap (map g) e ∙ map-append g made (y ∷ [])) same

-- some items for each
pub flat_next : {A B : Type 0} (f : A → List B) (xs : List A) (i : ℕ) (x : A) (made more : List B)
    → i < length xs → x ≡ get_or xs i x → made ≡ flat_map f (take i xs) → more ≡ made ++ f x → more ≡ flat_map f (take (i + 1) xs)
flat_next f xs i x made more within is h e =
    e ∙ ap (λ (l : List _). l ++ f x) h ∙ flat_map_more f [] (take i xs) x ∙ sym (ap (flat_map f) (up_to xs i x within is))

-- items that stand for those of another list
pub texts_next : {A C : Type 0} (g : C → A) (xs : List A) (i : ℕ) (x : A) (made more : List C) (y : C)
    → i < length xs → x ≡ get_or xs i x → map g made ≡ take i xs → more ≡ made ++ y ∷ [] → g y ≡ x → map g more ≡ take (i + 1) xs
texts_next g xs i x made more y within is h e same =
    ap (map g) e ∙ map-append g made (y ∷ []) ∙ ap (λ (l : List _). l ++ g y ∷ []) h ∙ ap (λ (z : _). take i xs ++ z ∷ []) same ∙ sym (up_to xs i x within is)
