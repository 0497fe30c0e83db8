-- Lists that others begin with.
use Rattle.std.proofs.Common.{◌≡◌, ℕ, zero, suc, List, [], ◌∷◌, ◌++◌, length, Some, slice_get, refl, sym, ◌∙◌, ap, subst, append_assoc, append-nil}

-- ys begins with xs
pub record Front {X : Type 0} (xs ys : List X) : Type 0 where
  pub rest : List X
  pub whole : ys ≡ xs ++ rest

pub front-same : {X : Type 0} (xs : List X) → Front xs xs
front-same xs = record { rest = []; whole = sym (append-nil xs) }

pub front-more : {X : Type 0} (xs ys : List X) → Front xs (xs ++ ys)
front-more xs ys = record { rest = ys; whole = refl }

pub front-trans : {X : Type 0} (xs ys zs : List X) → Front xs ys → Front ys zs → Front xs zs
front-trans xs ys zs a b = record { rest = a.rest ++ b.rest; whole = b.whole ∙ ap (λ (l : List _). l ++ b.rest) a.whole ∙ append_assoc xs a.rest b.rest }

get-append : {X : Type 0} (xs ys : List X) (j : ℕ) (x : X) → slice_get xs j ≡ Some x → slice_get (xs ++ ys) j ≡ Some x
get-append [] ys j x h = absurd (cc)
get-append (y ∷ xs) ys zero x h = h
get-append (y ∷ xs) ys (suc j) x h = get-append xs ys j x h

-- what stands in the first list stands there in the second
pub front-get : {X : Type 0} (xs ys : List X) (j : ℕ) (x : X) → Front xs ys → slice_get xs j ≡ Some x → slice_get ys j ≡ Some x
front-get xs ys j x f h = subst (λ (l : List _). slice_get l j ≡ Some x) (sym f.whole) (get-append xs f.rest j x h)

get-behind : {X : Type 0} (xs ys : List X) (x : X) → slice_get (xs ++ x ∷ ys) (length xs) ≡ Some x
get-behind [] ys x = refl
get-behind (y ∷ xs) ys x = get-behind xs ys x

-- the item behind a list
pub get-at : {X : Type 0} (xs ys : List X) (x : X) (j : ℕ) → j ≡ length xs → slice_get (xs ++ x ∷ ys) j ≡ Some x
get-at xs ys x j e = ap (slice_get (xs ++ x ∷ ys)) e ∙ get-behind xs ys x
