-- What a loop has made of each element of a list up to a place, one step on and at the end.
use Rattle.std.proofs.Common.{◌≡◌, ◌+◌, ◌<◌, ◌≤◌, ℕ, List, [], ◌∷◌, ◌++◌, map, take, length, get_or, sym, ap, ◌∙◌}
use Rattle.std.proofs.lemmas.List.{map-append, take_more, take_all}

module _ {X Y : Type 0} (f : X → Y) (xs : List X) (i : ℕ) (made : List Y) (so : made ≡ map f (take i xs)) where
  pub one_more : (d : X) (more : List Y) → i < length xs → more ≡ made ++ f (get_or xs i d) ∷ [] → more ≡ map f (take (i + 1) xs)
  one_more d more within put =
      put ∙ ap (λ (ys : List Y). ys ++ f (get_or xs i d) ∷ []) so ∙ sym (map-append f (take i xs) (get_or xs i d ∷ [])) ∙ sym (ap (map f) (take_more xs i d within))

  pub all_made : length xs ≤ i → made ≡ map f xs
  all_made past = so ∙ ap (map f) (take_all i xs past)
