-- Names that are distinct, as texts that are referred to and as lists of bytes.
use Rattle.std.proofs.Common.{◌≡◌, ◌≢◌, ℕ, Bool, true, false, ◌<◌, List, [], ◌∷◌, length, map, take, get_or, sym, ap, ◌∙◌, arith, length-take, Bor}
use Rattle.std.specs.List.{IsDistinct, AllByRecursion, AllPairs, list_any}
use Rattle.std.specs.Str.{bytes_eq}
use Rattle.std.proofs.lemmas.List.{get_or-map, get_or-take, length-map}
use Rattle.std.proofs.lemmas.List.Folds.{Any-from_list_any}
use Rattle.std.proofs.lemmas.Slice.Eq.{bytes_eq-Decides}
use Rattle.std.proofs.lemmas.Map.Made.{AllPairs-from_IsDistinct, IsDistinct-from_AllPairs}
use Rattle.fact_plan_types.specs.TypeRules.{IsRepeated}

bytes_eq-true : (x y : List ℕ) → bytes_eq x y ≡ true → x ≡ y
bytes_eq-true x y h = (bytes_eq-Decides x y).0 h

abbrev pub same_ref : Bor (List ℕ) → Bor (List ℕ) → Bool
same_ref a b = bytes_eq a.now b.now

abbrev pub bytes_of : List (Bor (List ℕ)) → List (List ℕ)
bytes_of xs = map (λ x. x.now) xs

differ-bytes : (x : Bor (List ℕ)) (xs : List (Bor (List ℕ))) → AllByRecursion (λ y. same_ref x y ≡ false) xs → AllByRecursion (λ y. bytes_eq x.now y ≡ false) (bytes_of xs)
differ-bytes x [] h = h
differ-bytes x (y ∷ ys) h = (h.0, differ-bytes x ys h.1)

bytes-differ : (x : Bor (List ℕ)) (xs : List (Bor (List ℕ))) → AllByRecursion (λ y. bytes_eq x.now y ≡ false) (bytes_of xs) → AllByRecursion (λ y. same_ref x y ≡ false) xs
bytes-differ x [] h = h
bytes-differ x (y ∷ ys) h = (h.0, bytes-differ x ys h.1)

distinct-bytes : (xs : List (Bor (List ℕ))) → IsDistinct same_ref xs → IsDistinct bytes_eq (bytes_of xs)
unfolding IsDistinct
distinct-bytes [] h = h
distinct-bytes (x ∷ xs) h = (differ-bytes x xs h.0, distinct-bytes xs h.1)

bytes-distinct : (xs : List (Bor (List ℕ))) → IsDistinct bytes_eq (bytes_of xs) → IsDistinct same_ref xs
unfolding IsDistinct
bytes-distinct [] h = h
bytes-distinct (x ∷ xs) h = (bytes-differ x xs h.0, bytes-distinct xs h.1)

-- names that are distinct as texts are distinct
pub distinct-names : (xs : List (Bor (List ℕ))) → IsDistinct same_ref xs → AllPairs (λ x y. x ≢ y) (bytes_of xs)
distinct-names xs d = AllPairs-from_IsDistinct bytes_eq-Decides (bytes_of xs) (distinct-bytes xs d)

pub names-distinct : (xs : List (Bor (List ℕ))) → AllPairs (λ x y. x ≢ y) (bytes_of xs) → IsDistinct same_ref xs
names-distinct xs p = bytes-distinct xs (IsDistinct-from_AllPairs bytes_eq-Decides (bytes_of xs) p)

-- a name that stands before its own place is repeated
pub seen-repeated : (xs : List (Bor (List ℕ))) (i : ℕ) (d : Bor (List ℕ)) → i < length xs → list_any (same_ref (get_or xs i d)) (take i xs) ≡ true → IsRepeated (bytes_of xs)
seen-repeated xs i d within h pairs =
    let x = get_or xs i d in
    let found = Any-from_list_any (same_ref x) (take i xs) h in
    let k = found.0 in
    let y = found.1 in
    let before : k < i = omega (arith, found.2, length-take i xs) in
    let at_k : get_or (bytes_of xs) k d.now ≡ y.now = get_or-map (λ (z : Bor (List ℕ)). z.now) xs k y d.now (omega (arith, before, within)) ∙ ap (λ (z : Bor (List ℕ)). z.now) (sym (get_or-take i xs k y before) ∙ found.3) in
    let at_i : get_or (bytes_of xs) i d.now ≡ x.now = get_or-map (λ (z : Bor (List ℕ)). z.now) xs i d d.now within in
    pairs k i d.now before (simp length-map within) (at_k ∙ sym (bytes_eq-true x.now y.now found.4) ∙ sym at_i)
