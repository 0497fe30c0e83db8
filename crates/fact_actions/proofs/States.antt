-- Typed states: what they have, and what keeps them so.
use Rattle.std.proofs.Common.{◌≡◌, ℕ, zero, suc, ◌+◌, ◌<◌, ◌≤◌, ◌%◌, ◌/◌, ◌^◌, Bool, true, false, List, [], ◌∷◌, ◌++◌, Option, Some, None, refl, sym, ap, ◌∙◌, subst, arith, length, take, drop}
use Rattle.std.proofs.lemmas.Bool.{ltb-true, lt-ltb}
use Rattle.std.proofs.lemmas.List.Folds.{list_all-append}
use Rattle.std.proofs.lemmas.Nat.{mod_below}
use Rattle.std.specs.Prelude.{◌&&◌, nat_lt, nat_eq, slice_get, slice_set}
use Rattle.std.specs.List.{list_all}
use Rattle.fact_wasm.specs.declared.types.ValType.{ValType}
use Rattle.fact_wasm.specs.declared.types.ValType.TheVariants as val
use Rattle.fact_machine.specs.declared.types.CoreValue.{CoreValue}
use Rattle.fact_machine.specs.declared.types.CoreValue.TheVariants.{I32, I64, F32, F64, Func}
use Rattle.fact_machine.specs.World.{bytes_of, with_number}
use Rattle.fact_machine.specs.Machine.{has_type, page_bytes}
use Rattle.fact_machine.specs.Typed.{is_value, all_zip, fits_width, is_memory, are_globals}
use Rattle.fact_machine.proofs.Places.{store_keeps_length}

-- ---- tests that hold

pub and_left : (a b : Bool) → (a && b) ≡ true → a ≡ true
and_left true b h = refl
and_left false b h = h

pub and_right : (a b : Bool) → (a && b) ≡ true → b ≡ true
and_right true b h = h
and_right false true h = refl
and_right false false h = h

pub both : {a b : Bool} → a ≡ true → b ≡ true → (a && b) ≡ true
both {a} {b} h g = ap (λ x. x && b) h ∙ g

IsNot : Bool → Type 0
IsNot true = ⊥
IsNot false = Unit {0}

pub false_true : {A : Type 0} → false ≡ true → A
unfolding IsNot
false_true e = absurd (subst IsNot e tt)

-- ---- two lists of which all places pass a test

IsSome : {A : Type 0} → Option A → Type 0
IsSome None = ⊥
IsSome (Some a) = Unit {0}

abbrev or_else : {A : Type 0} → A → Option A → A
or_else a None = a
or_else a (Some b) = b

none_some : {A B : Type 0} {a : A} → None ≡ Some a → B
unfolding IsSome
none_some e = absurd (subst IsSome (sym e) tt)

-- the second list has a place that the first has
pub zip_there : {A B : Type 0} (test : A → B → Bool) (xs : List A) (ys : List B) (i : ℕ) → all_zip test xs ys ≡ true → i < length xs → slice_get ys i ≡ None → ⊥
zip_there test [] ys i h l e = absurd (omega arith)
zip_there test (x ∷ xs) [] i h l e = false_true h
zip_there test (x ∷ xs) (y ∷ ys) zero h l e = none_some (sym e)
zip_there test (x ∷ xs) (y ∷ ys) (suc i) h l e = zip_there test xs ys i (and_right (test x y) (all_zip test xs ys) h) (omega arith) e

-- and what stands there passes
pub zip_at : {A B : Type 0} (test : A → B → Bool) (xs : List A) (ys : List B) (i : ℕ) (x : A) → all_zip test xs ys ≡ true → slice_get xs i ≡ Some x → (y : B) × (slice_get ys i ≡ Some y) × (test x y ≡ true)
zip_at test [] ys i x h e = none_some e
zip_at test (x' ∷ xs) [] i x h e = false_true h
zip_at test (x' ∷ xs) (y ∷ ys) zero x h e = (y, refl, subst (λ u. test u y ≡ true) (ap (or_else x') e) (and_left (test x' y) (all_zip test xs ys) h))
zip_at test (x' ∷ xs) (y ∷ ys) (suc i) x h e = zip_at test xs ys i x (and_right (test x' y) (all_zip test xs ys) h) e

-- one that passes wherever another did may stand in its place
pub zip_set : {A B : Type 0} (test : A → B → Bool) (xs : List A) (ys : List B) (i : ℕ) (y y' : B) → all_zip test xs ys ≡ true → slice_get ys i ≡ Some y
    → ((x : A) → test x y ≡ true → test x y' ≡ true) → all_zip test xs (slice_set ys i y') ≡ true
zip_set test [] [] i y y' h e g = refl
zip_set test [] (z ∷ ys) i y y' h e g = false_true h
zip_set test (x ∷ xs) [] i y y' h e g = false_true h
zip_set test (x ∷ xs) (z ∷ ys) zero y y' h e g =
    both (g x (subst (λ u. test x u ≡ true) (ap (or_else z) e) (and_left (test x z) (all_zip test xs ys) h))) (and_right (test x z) (all_zip test xs ys) h)
zip_set test (x ∷ xs) (z ∷ ys) (suc i) y y' h e g =
    both (and_left (test x z) (all_zip test xs ys) h) (zip_set test xs ys i y y' (and_right (test x z) (all_zip test xs ys) h) e g)

-- ---- memories

abbrev is_byte : ℕ → Bool
is_byte b = nat_lt b 256

bytes_are : (n v : ℕ) → list_all is_byte (bytes_of n v) ≡ true
bytes_are zero v = refl
bytes_are (suc n) v = both (lt-ltb (v % 256) 256 (mod_below v 256 (omega arith))) (bytes_are n (v / 256))

take_all : (n : ℕ) (m : List ℕ) → list_all is_byte m ≡ true → list_all is_byte (take n m) ≡ true
take_all zero m h = refl
take_all (suc n) [] h = refl
take_all (suc n) (b ∷ m) h = both (and_left (is_byte b) (list_all is_byte m) h) (take_all n m (and_right (is_byte b) (list_all is_byte m) h))

drop_all : (n : ℕ) (m : List ℕ) → list_all is_byte m ≡ true → list_all is_byte (drop n m) ≡ true
drop_all zero m h = h
drop_all (suc n) [] h = refl
drop_all (suc n) (b ∷ m) h = drop_all n m (and_right (is_byte b) (list_all is_byte m) h)

append_all : (xs ys : List ℕ) → list_all is_byte xs ≡ true → list_all is_byte ys ≡ true → list_all is_byte (xs ++ ys) ≡ true
append_all xs ys h g = list_all-append is_byte xs ys ∙ both h g

-- a memory with a number written into it is one still
pub written_memory : (k : Bool × Option ℕ) (m : List ℕ) (n a v : ℕ) → a + n ≤ length m → is_memory k.0 k.1 m ≡ true → is_memory k.0 k.1 (with_number n m a v) ≡ true
written_memory k m n a v l h =
    both all (subst (λ c. measures c ≡ true) (sym (store_keeps_length m n a v l)) (and_right (list_all is_byte m) (measures (length m)) h))
  where
    measures : ℕ → Bool
    measures c = nat_eq (c % page_bytes k.1) 0 && fits_width k.0 c (c / page_bytes k.1)

    bytes : list_all is_byte m ≡ true
    bytes = and_left (list_all is_byte m) (measures (length m)) h

    all : list_all is_byte (with_number n m a v) ≡ true
    all = append_all (take a m) (bytes_of n v ++ drop (a + length (bytes_of n v)) m) (take_all a m bytes) (append_all (bytes_of n v) (drop (a + length (bytes_of n v)) m) (bytes_are n v) (drop_all (a + length (bytes_of n v)) m bytes))

-- ---- flags

value_flags : (v : CoreValue) → is_value v val.I32 ≡ true → (x : ℕ) × (x < 2 ^ 32) × (v ≡ I32 x)
value_flags (I32 n) h = (n, ltb-true n (2 ^ 32) h, refl)
value_flags (I64 n) h = false_true h
value_flags (F32 n) h = false_true h
value_flags (F64 n) h = false_true h
value_flags (Func f) h = false_true h

pub flags_there : (ts : List ValType) (vs : List CoreValue) (i : ℕ) → are_globals ts vs ≡ true → slice_get ts i ≡ Some val.I32 → (x : ℕ) × (x < 2 ^ 32) × (slice_get vs i ≡ Some (I32 x))
flags_there ts vs i h e =
    let there = zip_at (λ t v. is_value v t) ts vs i val.I32 h e in
    let f = value_flags there.0 there.2 in
    (f.0, f.1, there.1 ∙ ap (λ u. Some u) f.2)

pub set_flags : (ts : List ValType) (vs : List CoreValue) (i old x : ℕ) → are_globals ts vs ≡ true → slice_get vs i ≡ Some (I32 old) → x < 2 ^ 32 → are_globals ts (slice_set vs i (I32 x)) ≡ true
set_flags ts vs i old x h e l = zip_set (λ t v. is_value v t) ts vs i (I32 old) (I32 x) h e (λ t g. both (and_left (has_type (I32 old) t) (nat_lt old (2 ^ 32)) g) (lt-ltb x (2 ^ 32) l))
