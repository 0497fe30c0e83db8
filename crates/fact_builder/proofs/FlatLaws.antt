-- Lists of flat types of which one above 16 is none.
use Rattle.std.proofs.Common.{◌≡◌, ◌<◌, ◌≤◌, ◌+◌, ℕ, zero, suc, List, [], ◌∷◌, ◌++◌, length, take, Option, Some, None, Bool, true, false, refl, sym, ◌∙◌, ap, arith, length-append, inl, inr}
use Rattle.std.specs.Prelude.{nat_le, max, cond, slice_get, replicate}
use Rattle.std.proofs.lemmas.Bool.{cases_lt}
use Rattle.std.proofs.lemmas.Bool.Decides.{nat_tests}
use Rattle.fact_types.specs.declared.flats.FlatType.{FlatType}
use Rattle.fact_types.specs.declared.flats.FlatType.TheVariants.{I32}
use Rattle.fact_types.specs.Flat.{join}
use Rattle.fact_types.specs.FlatShapes.{joined, times, upto, after_flat, when_upto}
use Rattle.fact_builder.specs.Joins.{joined_at, item}
use Rattle.fact_builder.specs.Information.{joined_flat, tagged_flat, repeated_flat}

pub within : {X : Type 0} (xs : List X) → length xs ≤ 16 → upto 16 xs ≡ Some xs
within xs l = chosen (nat_le (length xs) 16) (grind (arith, l, nat_tests))
  where
    chosen : (b : Bool) → b ≡ true → cond b (Some xs) None ≡ Some xs
    chosen true h = refl
    chosen false h = cc

pub beyond : {X : Type 0} (xs : List X) → 16 < length xs → upto 16 xs ≡ None
beyond xs l = chosen (nat_le (length xs) 16) (grind (arith, l, nat_tests))
  where
    chosen : (b : Bool) → b ≡ false → cond b (Some xs) None ≡ None
    chosen true h = cc
    chosen false h = refl

-- ---- one after another
pub after_is : {X : Type 0} (xs ys : List X) → when_upto 16 (after_flat (upto 16 xs) (upto 16 ys)) ≡ upto 16 (xs ++ ys)
after_is xs ys = elim (cases_lt 16 (length xs)) [
  | inl l ↦ (λ i. when_upto 16 (after_flat (beyond xs l i) (upto 16 ys))) ∙ sym (beyond (xs ++ ys) (omega (arith, l, length-append xs ys)))
  | inr l ↦ (λ i. when_upto 16 (after_flat (within xs (omega (arith, l)) i) (upto 16 ys))) ∙ elim (cases_lt 16 (length ys)) [
    | inl m ↦ (λ i. when_upto 16 (after_flat (Some xs) (beyond ys m i))) ∙ sym (beyond (xs ++ ys) (omega (arith, m, length-append xs ys)))
    | inr m ↦ (λ i. when_upto 16 (after_flat (Some xs) (within ys (omega (arith, m)) i)))
  ]
]

-- ---- joined place by place
pub joined_nil : (xs : List FlatType) → joined xs [] ≡ xs
joined_nil [] = refl
joined_nil (x ∷ xs) = refl

pub joined_longest : (xs ys : List FlatType) → length (joined xs ys) ≡ max (length xs) (length ys)
joined_longest [] ys = omega arith
joined_longest (x ∷ xs) [] = omega arith
joined_longest (x ∷ xs) (y ∷ ys) = omega (arith, joined_longest xs ys)

pub joined_is : (xs ys : List FlatType) → joined_flat (upto 16 xs) (upto 16 ys) ≡ upto 16 (joined xs ys)
joined_is xs ys = elim (cases_lt 16 (length xs)) [
  | inl l ↦ (λ i. joined_flat (beyond xs l i) (upto 16 ys)) ∙ sym (beyond (joined xs ys) (omega (arith, l, joined_longest xs ys)))
  | inr l ↦ (λ i. joined_flat (within xs (omega (arith, l)) i) (upto 16 ys)) ∙ elim (cases_lt 16 (length ys)) [
    | inl m ↦ (λ i. joined_flat (Some xs) (beyond ys m i)) ∙ sym (beyond (joined xs ys) (omega (arith, m, joined_longest xs ys)))
    | inr m ↦ (λ i. joined_flat (Some xs) (within ys (omega (arith, m)) i)) ∙ sym (within (joined xs ys) (omega (arith, l, m, joined_longest xs ys)))
  ]
]

taken_more : {X : Type 0} (xs : List X) (i : ℕ) → take (suc i) xs ≡ take i xs ++ item (slice_get xs i)
taken_more [] zero = refl
taken_more [] (suc i) = refl
taken_more (x ∷ xs) zero = refl
taken_more (x ∷ xs) (suc i) = ap (λ ys. x ∷ ys) (taken_more xs i)

joined_suc : (xs ys : List FlatType) (i : ℕ) → joined (take (suc i) xs) (take (suc i) ys) ≡ joined (take i xs) (take i ys) ++ item (joined_at (slice_get xs i) (slice_get ys i))
joined_suc [] [] zero = refl
joined_suc [] [] (suc i) = refl
joined_suc [] (y ∷ ys) zero = refl
joined_suc [] (y ∷ ys) (suc i) = ap (λ zs. y ∷ zs) (taken_more ys i)
joined_suc (x ∷ xs) [] zero = refl
joined_suc (x ∷ xs) [] (suc i) = rest (slice_get xs i) (taken_more xs i)
  where
    rest : (o : Option FlatType) → take (suc i) xs ≡ take i xs ++ item o → (x ∷ take (suc i) xs) ≡ (x ∷ take i xs) ++ item (joined_at o None)
    rest None h = ap (λ zs. x ∷ zs) h
    rest (Some z) h = ap (λ zs. x ∷ zs) h
joined_suc (x ∷ xs) (y ∷ ys) zero = refl
joined_suc (x ∷ xs) (y ∷ ys) (suc i) = ap (λ zs. join x y ∷ zs) (joined_suc xs ys i)

plus_one : (i : ℕ) → i + 1 ≡ suc i
plus_one i = omega arith

pub joined_more : (xs ys : List FlatType) (i : ℕ) → joined (take (i + 1) xs) (take (i + 1) ys) ≡ joined (take i xs) (take i ys) ++ item (joined_at (slice_get xs i) (slice_get ys i))
joined_more xs ys i = (λ j. joined (take (plus_one i j) xs) (take (plus_one i j) ys)) ∙ joined_suc xs ys i

-- ---- tagged, and repeated
pub tagged_is : (xs : List FlatType) → tagged_flat (upto 16 xs) ≡ upto 16 (I32 ∷ xs)
tagged_is xs = elim (cases_lt 16 (length xs)) [
  | inl l ↦ (λ i. tagged_flat (beyond xs l i)) ∙ sym (beyond (I32 ∷ xs) (omega (arith, l)))
  | inr l ↦ (λ i. tagged_flat (within xs (omega (arith, l)) i))
]

times_more : {X : Type 0} (xs : List X) (n m : ℕ) → n ≤ m → length (times n xs) ≤ length (times m xs)
times_more xs zero m l = omega arith
times_more xs (suc n) zero l = absurd (omega (arith, l))
times_more xs (suc n) (suc m) l = omega (arith, times_more xs n m (omega (arith, l)), length-append xs (times n xs), length-append xs (times m xs))

pub times_longer : {X : Type 0} (xs : List X) (n m : ℕ) → n < m → length xs + length (times n xs) ≤ length (times m xs)
times_longer xs n m l = omega (arith, times_more xs (suc n) m l, length-append xs (times n xs))

pub times_nothing : {X : Type 0} (n : ℕ) (xs : List X) → length xs ≡ 0 → times n xs ≡ []
times_nothing zero xs h = refl
times_nothing (suc n) [] h = times_nothing n [] h
times_nothing (suc n) (x ∷ xs) h = absurd (omega (arith, h))

pub repeated_is : (n : ℕ) (xs : List FlatType) → repeated_flat n (upto 16 xs) ≡ upto 16 (times n xs)
repeated_is zero xs = refl
repeated_is (suc n) xs = elim (cases_lt 16 (length xs)) [
  | inl l ↦ (λ i. repeated_flat (suc n) (beyond xs l i)) ∙ sym (beyond (xs ++ times n xs) (omega (arith, l, length-append xs (times n xs))))
  | inr l ↦ (λ i. repeated_flat (suc n) (within xs (omega (arith, l)) i))
]

-- ---- words
pub first_words : {X : Type 0} (k n : ℕ) (x : X) → k ≤ n → take k (replicate n x) ≡ replicate k x
first_words zero n x l = refl
first_words (suc k) zero x l = absurd (omega (arith, l))
first_words (suc k) (suc n) x l = ap (λ ys. x ∷ ys) (first_words k n x (omega (arith, l)))

pub word_count : {X : Type 0} (n : ℕ) (x : X) → length (replicate n x) ≡ n
word_count zero x = refl
word_count (suc n) x = ap suc (word_count n x)

pub all_taken : {X : Type 0} (n : ℕ) (xs : List X) → length xs ≤ n → take n xs ≡ xs
all_taken zero [] l = refl
all_taken zero (x ∷ xs) l = absurd (omega (arith, l))
all_taken (suc n) [] l = refl
all_taken (suc n) (x ∷ xs) l = ap (λ ys. x ∷ ys) (all_taken n xs (omega (arith, l)))

pub item_count : {X : Type 0} (o : Option X) → length (item o) ≤ 1
item_count None = omega arith
item_count (Some x) = omega arith

pub append_nil : {X : Type 0} (xs : List X) → xs ++ [] ≡ xs
append_nil [] = refl
append_nil (x ∷ xs) = ap (λ ys. x ∷ ys) (append_nil xs)

pub append_joins : {X : Type 0} (xs ys zs : List X) → (xs ++ ys) ++ zs ≡ xs ++ (ys ++ zs)
append_joins [] ys zs = refl
append_joins (x ∷ xs) ys zs = ap (λ ws. x ∷ ws) (append_joins xs ys zs)

pub none_beyond : {X : Type 0} (xs : List X) → upto 16 xs ≡ None → 16 < length xs
none_beyond xs h = elim (cases_lt 16 (length xs)) [ inl l ↦ l | inr l ↦ absurd (some_none xs (sym (within xs (omega (arith, l))) ∙ h)) ]
  where
    some_none : {X : Type 0} (x : X) → Some x ≡ None → ⊥
    some_none x h = cc

pub taken_length : {X : Type 0} (n : ℕ) (xs : List X) → n ≡ 0 → length (take n xs) ≡ 0
taken_length zero xs h = refl
taken_length (suc n) xs h = absurd (omega (arith, h))
