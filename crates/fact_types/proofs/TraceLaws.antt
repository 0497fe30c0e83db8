-- A trace of one list and then of another, and how far a trace has come.
use Rattle.std.proofs.Common.{◌≡◌, ◌≤◌, ◌<◌, ◌+◌, ℕ, zero, suc, List, [], ◌∷◌, ◌++◌, length, take, drop, get_or, refl, sym, ap, ◌∙◌, subst, arith, inl, inr, add-zero}
use Rattle.std.specs.Prelude.{Result, Ok, Err, Some, None, ⊤, flat_map, slice_get}
use Rattle.std.specs.List.{AllZip}
use Rattle.std.proofs.lemmas.Grind.{flat_map-append}
use Rattle.std.proofs.lemmas.List.{take-append-drop, take_more, take_more_set, append-nil, get_or-drop, drop-drop, drop-set-lt, take_all}
use Rattle.std.proofs.Math.ListN.{set}
use Rattle.fact_types.specs.Traces.{Visits, VisitsEach}

-- ---- one call

pub each_one : {F I E : Type 0} (Call : F → I → Result ⊤ E → F → I → Type 0) (f g : F) (xs : List I) (x y : I) (r : Result ⊤ E) → xs ≡ x ∷ [] → Call f x r g y → VisitsEach Call f xs g (y ∷ []) r
each_one Call f g xs x y (Ok u) is c = subst (λ l. VisitsEach Call f l g (y ∷ []) (Ok u)) (sym is) (inl (g, y, [], c, refl, (refl, refl, refl)))
each_one Call f g xs x y (Err e) is c = subst (λ l. VisitsEach Call f l g (y ∷ []) (Err e)) (sym is) (inr (e, y, c, refl, refl))

-- ---- one list and then another

module _ {F I E : Type 0} (Call : F → I → Result ⊤ E → F → Type 0) where
  more : (f h g : F) (xs ys : List I) (r : Result ⊤ E) → Visits Call f xs h (Ok tt) → Visits Call h ys g r → Visits Call f (xs ++ ys) g r
  more f h g [] ys r a b = subst (λ p. Visits Call p ys g r) a.0 b
  more f h g (x ∷ xs) ys r (inl (p, c, a)) b = inl (p, c, more p h g xs ys r a b)
  more f h g (x ∷ xs) ys r (inr (e, c, q)) b = cc

  stop : (f g : F) (xs ys : List I) (e : E) → Visits Call f xs g (Err e) → Visits Call f (xs ++ ys) g (Err e)
  stop f g [] ys e a = let q : Err e ≡ Ok tt = a.1 in cc
  stop f g (x ∷ xs) ys e (inl (p, c, a)) = inl (p, c, stop p g xs ys e a)
  stop f g (x ∷ xs) ys e (inr (d, c, q)) = inr (d, c, q)

  -- all is one list and then another
  pub visits_both : (f h g : F) (all xs ys : List I) (r : Result ⊤ E) → all ≡ xs ++ ys → Visits Call f xs h (Ok tt) → Visits Call h ys g r → Visits Call f all g r
  visits_both f h g all xs ys r is a b = subst (λ l. Visits Call f l g r) (sym is) (more f h g xs ys r a b)

  pub visits_first : (f g : F) (all xs ys : List I) (e : E) (r : Result ⊤ E) → all ≡ xs ++ ys → r ≡ Err e → Visits Call f xs g (Err e) → Visits Call f all g r
  visits_first f g all xs ys e r is q a = subst (λ l. Visits Call f l g r) (sym is) (subst (λ s. Visits Call f (xs ++ ys) g s) (sym q) (stop f g xs ys e a))

module _ {F I E : Type 0} (Call : F → I → Result ⊤ E → F → I → Type 0) where
  each_more : (f h g : F) (xs ys left after : List I) (r : Result ⊤ E) → VisitsEach Call f xs h left (Ok tt) → VisitsEach Call h ys g after r → VisitsEach Call f (xs ++ ys) g (left ++ after) r
  each_more f h g [] ys left after r a b = subst (λ p. VisitsEach Call p ys g (left ++ after) r) a.0 (subst (λ l. VisitsEach Call h ys g (l ++ after) r) (sym a.1) b)
  each_more f h g (x ∷ xs) ys left after r (inl (p, y, rest, c, q, a)) b = inl (p, y, rest ++ after, c, ap (λ l. l ++ after) q, each_more p h g xs ys rest after r a b)
  each_more f h g (x ∷ xs) ys left after r (inr (e, y, c, q, k)) b = cc

  each_stop : (f g : F) (xs ys left : List I) (e : E) → VisitsEach Call f xs g left (Err e) → VisitsEach Call f (xs ++ ys) g (left ++ ys) (Err e)
  each_stop f g [] ys left e a = let q : Err e ≡ Ok tt = a.2 in cc
  each_stop f g (x ∷ xs) ys left e (inl (p, y, rest, c, q, a)) = inl (p, y, rest ++ ys, c, ap (λ l. l ++ ys) q, each_stop p g xs ys rest e a)
  each_stop f g (x ∷ xs) ys left e (inr (d, y, c, q, k)) = inr (d, y, c, ap (λ l. l ++ ys) q, k)

  pub each_both : (f h g : F) (all xs ys remains left after : List I) (r : Result ⊤ E) → all ≡ xs ++ ys → remains ≡ left ++ after → VisitsEach Call f xs h left (Ok tt) → VisitsEach Call h ys g after r → VisitsEach Call f all g remains r
  each_both f h g all xs ys remains left after r is was a b =
      subst (λ l. VisitsEach Call f l g remains r) (sym is) (subst (λ l. VisitsEach Call f (xs ++ ys) g l r) (sym was) (each_more f h g xs ys left after r a b))

  pub each_first : (f g : F) (all xs ys remains left : List I) (e : E) (r : Result ⊤ E) → all ≡ xs ++ ys → remains ≡ left ++ ys → r ≡ Err e → VisitsEach Call f xs g left (Err e) → VisitsEach Call f all g remains r
  each_first f g all xs ys remains left e r is was q a =
      subst (λ l. VisitsEach Call f l g remains r) (sym is) (subst (λ l. VisitsEach Call f (xs ++ ys) g l r) (sym was) (subst (λ s. VisitsEach Call f (xs ++ ys) g (left ++ ys) s) (sym q) (each_stop f g xs ys left e a)))

-- ---- how far a trace has come through a list whose items name indices

module _ {X I : Type 0} (ind : X → List I) where
  named_more : (xs : List X) (i : ℕ) (d : X) → i < length xs → flat_map ind (take (i + 1) xs) ≡ flat_map ind (take i xs) ++ ind (get_or xs i d)
  named_more xs i d l = ap (flat_map ind) (take_more xs i d l) ∙ flat_map-append ind (take i xs) (get_or xs i d ∷ []) ∙ ap (λ ys. flat_map ind (take i xs) ++ ys) (append-nil (ind (get_or xs i d)))

  named_set : (xs : List X) (i : ℕ) (y : X) → i < length xs → flat_map ind (take (i + 1) (set xs i y)) ≡ flat_map ind (take i xs) ++ ind y
  named_set xs i y l = ap (flat_map ind) (take_more_set xs i y l) ∙ flat_map-append ind (take i xs) (y ∷ []) ∙ ap (λ ys. flat_map ind (take i xs) ++ ys) (append-nil (ind y))

  named_parts : (xs : List X) (n : ℕ) → flat_map ind (take n xs) ++ flat_map ind (drop n xs) ≡ flat_map ind xs
  named_parts xs n = sym (flat_map-append ind (take n xs) (drop n xs)) ∙ ap (flat_map ind) (take-append-drop n xs)

module _ {F X I E : Type 0} (Call : F → I → Result ⊤ E → F → Type 0) (ind : X → List I) (f : F) (xs : List X) where
  -- all items before one were visited
  abbrev pub VisitedTo : F → ℕ → Type 0
  VisitedTo g n = Visits Call f (flat_map ind (take n xs)) g (Ok tt)

  -- and an item of the list is the next
  next_is : (i : ℕ) (d x : X) → i < length xs → x ≡ get_or xs i d → flat_map ind (take (i + 1) xs) ≡ flat_map ind (take i xs) ++ ind x
  next_is i d x l is = named_more ind xs i d l ∙ ap (λ y. flat_map ind (take i xs) ++ ind y) (sym is)

  pub visited_next : (h g : F) (i : ℕ) (d x : X) → i < length xs → x ≡ get_or xs i d → VisitedTo h i → Visits Call h (ind x) g (Ok tt) → VisitedTo g (i + 1)
  visited_next h g i d x l is a b = visits_both Call f h g _ _ _ (Ok tt) (next_is i d x l is) a b

  pub visited_stop : (h g : F) (i : ℕ) (d x : X) (e : E) (r : Result ⊤ E) → i < length xs → x ≡ get_or xs i d → r ≡ Err e → VisitedTo h i → Visits Call h (ind x) g (Err e) → Visits Call f (flat_map ind xs) g r
  visited_stop h g i d x e r l is q a b = visits_first Call f g _ _ (flat_map ind (drop (i + 1) xs)) e r (sym (named_parts ind xs (i + 1))) q (visits_both Call f h g _ _ _ (Err e) (next_is i d x l is) a b)

  pub visited_all : (g : F) (n : ℕ) → length xs ≤ n → VisitedTo g n → Visits Call f (flat_map ind xs) g (Ok tt)
  visited_all g n l a = subst (λ ys. Visits Call f (flat_map ind ys) g (Ok tt)) (take_all n xs l) a

none_is : {X : Type 0} (x : X) → None ≡ Some x → ⊥
none_is x h = cc

none_below : (i : ℕ) → i < 0 → ⊥
none_below i h = omega (arith, h)

below_suc : (i n : ℕ) → suc i < suc n → i < n
below_suc i n h = omega (arith, h)

-- ---- an item that is found stands in its place

pub some_below : {X : Type 0} (xs : List X) (i : ℕ) (x : X) → slice_get xs i ≡ Some x → i < length xs
some_below [] i x h = absurd (none_is x h)
some_below (y ∷ xs) zero x h = omega arith
some_below (y ∷ xs) (suc i) x h = omega (arith, some_below xs i x h)

pub item_at : {X : Type 0} (xs : List X) (i : ℕ) (x : X) → slice_get xs i ≡ Some x → x ≡ get_or xs i x
item_at [] i x h = absurd (none_is x h)
item_at (y ∷ xs) zero x h = cc
item_at (y ∷ xs) (suc i) x h = item_at xs i x h

-- what holds of the items of two lists holds where one is set
zip_set : {X : Type 0} (R : X → X → Type 0) (xs ys : List X) (i : ℕ) (d y : X) → i < length xs → AllZip R xs ys → R (get_or xs i d) y → AllZip R xs (set ys i y)
zip_set R [] ys i d y l a b = absurd (none_below i l)
zip_set R (x ∷ xs) [] i d y l a b = a
zip_set R (x ∷ xs) (z ∷ ys) zero d y l a b = (b, a.1)
zip_set R (x ∷ xs) (z ∷ ys) (suc i) d y l a b = (a.0, zip_set R xs ys i d y (below_suc i (length xs) l) a.1 b)

zip_same : {X : Type 0} (R : X → X → Type 0) → ((x : X) → R x x) → (xs : List X) → AllZip R xs xs
zip_same R same [] = tt
zip_same R same (x ∷ xs) = (same x, zip_same R same xs)

pub zip_length : {X : Type 0} (R : X → X → Type 0) (xs ys : List X) → AllZip R xs ys → length ys ≡ length xs
zip_length R [] [] a = refl
zip_length R [] (y ∷ ys) a = absurd a
zip_length R (x ∷ xs) [] a = absurd a
zip_length R (x ∷ xs) (y ∷ ys) a = ap suc (zip_length R xs ys a.1)

module _ {F X I E : Type 0} (Call : F → I → Result ⊤ E → F → I → Type 0) (ind : X → List I) (R : X → X → Type 0) (f : F) (xs : List X) where
  -- all items before one were visited, and hold what was left there; the others are as they were
  pub record RetracedTo (g : F) (ys : List X) (n : ℕ) : Type 0 where
    pub visits : VisitsEach Call f (flat_map ind (take n xs)) g (flat_map ind (take n ys)) (Ok tt)
    pub rest : drop n ys ≡ drop n xs
    pub alike : AllZip R xs ys

  rest_same : (ys : List X) (i : ℕ) → drop i ys ≡ drop i xs → drop (i + 1) ys ≡ drop (i + 1) xs
  rest_same ys i h = sym (drop-drop 1 i ys) ∙ ap (drop 1) h ∙ drop-drop 1 i xs

  rest_next : (ys : List X) (i : ℕ) (y : X) → drop i ys ≡ drop i xs → drop (i + 1) (set ys i y) ≡ drop (i + 1) xs
  rest_next ys i y h = drop-set-lt (i + 1) ys i y (omega arith) ∙ rest_same ys i h

  -- the item of a place that was not visited yet is as it was
  pub still : (g : F) (ys : List X) (i : ℕ) (d : X) → RetracedTo g ys i → get_or ys i d ≡ get_or xs i d
  still g ys i d a = ap (λ n. get_or ys n d) (sym (add-zero i)) ∙ sym (get_or-drop i ys 0 d) ∙ ap (λ l. get_or l 0 d) a.rest ∙ get_or-drop i xs 0 d ∙ ap (λ n. get_or xs n d) (add-zero i)

  within : (h : F) (ys : List X) (i : ℕ) (x : X) → slice_get ys i ≡ Some x → RetracedTo h ys i → i < length xs
  within h ys i x at a = omega (arith, some_below ys i x at, zip_length R xs ys a.alike)

  same : (h : F) (ys : List X) (i : ℕ) (x : X) → slice_get ys i ≡ Some x → RetracedTo h ys i → x ≡ get_or xs i x
  same h ys i x at a = item_at ys i x at ∙ still h ys i x a

  -- x is the next item, and y what was left in its place
  items_next : (h g : F) (ys : List X) (i : ℕ) (x y : X) (r : Result ⊤ E) → slice_get ys i ≡ Some x → RetracedTo h ys i → VisitsEach Call h (ind x) g (ind y) r → VisitsEach Call f (flat_map ind (take (i + 1) xs)) g (flat_map ind (take (i + 1) (set ys i y))) r
  items_next h g ys i x y r at a b =
      each_both Call f h g _ (flat_map ind (take i xs)) (ind x) _ (flat_map ind (take i ys)) (ind y) r
      (named_more ind xs i x (within h ys i x at a) ∙ ap (λ z. flat_map ind (take i xs) ++ ind z) (sym (same h ys i x at a)))
      (named_set ind ys i y (some_below ys i x at)) a.visits b

  alike_next : (h : F) (ys : List X) (i : ℕ) (x y : X) → slice_get ys i ≡ Some x → RetracedTo h ys i → R x y → AllZip R xs (set ys i y)
  alike_next h ys i x y at a k = zip_set R xs ys i x y (within h ys i x at a) a.alike (subst (λ z. R z y) (same h ys i x at a) k)

  -- j is the number i under another name
  pub retraced_next : (h g : F) (ys : List X) (i j : ℕ) (x y : X) → j ≡ i → slice_get ys j ≡ Some x → RetracedTo h ys i → VisitsEach Call h (ind x) g (ind y) (Ok tt) → R x y → RetracedTo g (set ys j y) (i + 1)
  retraced_next h g ys i j x y is at a b k = subst (λ n. slice_get ys n ≡ Some x → RetracedTo g (set ys n y) (i + 1)) (sym is) next at
    where
      next : slice_get ys i ≡ Some x → RetracedTo g (set ys i y) (i + 1)
      next at = record {
        visits = items_next h g ys i x y (Ok tt) at a b;
        rest = rest_next ys i y a.rest;
        alike = alike_next h ys i x y at a k;
      }

  pub retraced_stop : (h g : F) (ys : List X) (i j : ℕ) (x y : X) (e : E) (r : Result ⊤ E) → j ≡ i → slice_get ys j ≡ Some x → r ≡ Err e → RetracedTo h ys i → VisitsEach Call h (ind x) g (ind y) (Err e) → VisitsEach Call f (flat_map ind xs) g (flat_map ind (set ys j y)) r
  retraced_stop h g ys i j x y e r is at q a b = subst (λ n. slice_get ys n ≡ Some x → VisitsEach Call f (flat_map ind xs) g (flat_map ind (set ys n y)) r) (sym is) stopped at
    where
      stopped : slice_get ys i ≡ Some x → VisitsEach Call f (flat_map ind xs) g (flat_map ind (set ys i y)) r
      stopped at =
          each_first Call f g _ (flat_map ind (take (i + 1) xs)) (flat_map ind (drop (i + 1) xs)) _ _ e r (sym (named_parts ind xs (i + 1)))
          (sym (named_parts ind (set ys i y) (i + 1)) ∙ ap (λ us. flat_map ind (take (i + 1) (set ys i y)) ++ flat_map ind us) (rest_next ys i y a.rest)) q (items_next h g ys i x y (Err e) at a b)

  pub alike_stop : (h : F) (ys : List X) (i j : ℕ) (x y : X) → j ≡ i → slice_get ys j ≡ Some x → RetracedTo h ys i → R x y → AllZip R xs (set ys j y)
  alike_stop h ys i j x y is at a k = subst (λ n. slice_get ys n ≡ Some x → AllZip R xs (set ys n y)) (sym is) (λ here. alike_next h ys i x y here a k) at

  pub retraced_all : (g : F) (ys : List X) (n : ℕ) → length xs ≤ n → RetracedTo g ys n → VisitsEach Call f (flat_map ind xs) g (flat_map ind ys) (Ok tt)
  retraced_all g ys n l a =
      let long : length ys ≤ n = omega (arith, l, zip_length R xs ys a.alike) in
      subst (λ us. VisitsEach Call f us g (flat_map ind ys) (Ok tt)) (ap (flat_map ind) (take_all n xs l))
      (subst (λ us. VisitsEach Call f (flat_map ind (take n xs)) g us (Ok tt)) (ap (flat_map ind) (take_all n ys long)) a.visits)

  pub retraced_none : ((x : X) → R x x) → RetracedTo f xs 0
  retraced_none same = record { visits = (refl, refl, refl); rest = refl; alike = zip_same R same xs }
