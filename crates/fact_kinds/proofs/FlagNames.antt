-- The bits of flags by their names, and by the places of these names.
use Rattle.std.proofs.Common.{◌≡◌, ℕ, zero, suc, ◌+◌, ◌*◌, ◌/◌, ◌%◌, ◌^◌, ◌<◌, ◌≤◌, Bool, true, false, not, List, [], ◌∷◌, length, Option, Some, None, All, cond, refl, sym, ap, ◌∙◌, subst, arith, slice_get}
use Rattle.std.specs.Prelude.{if◌then◌else◌, position, nat_lt}
use Rattle.std.specs.List.{position_or_len}
use Rattle.std.specs.Str.{bytes_eq}
use Rattle.std.specs.Cmp.Lexicographic.{nat_list_eq_equiv, pointwise}
use Rattle.std.proofs.lemmas.Slice.Eq.{bytes_eq-Decides}
use Rattle.std.proofs.lemmas.Bool.{ltb-true, ltb-false, and_parts}
use Rattle.std.proofs.Math.Nat.{pow-suc, mul_comm, div-div-eq-div-mul}
use Rattle.std.proofs.Math.Pow.{pow_pos}
use Rattle.std.proofs.Math.Arith.{mod-mul}
use Rattle.fact_types.specs.Agrees.{names_of}
use Rattle.fact_types.specs.Shapes.{Members, no_members, bare, typed}
use Rattle.fact_types.specs.Valid.{AreDistinct}
use Rattle.fact_values.specs.Places.{count_of_members}
use Rattle.fact_values.proofs.IsALaws.{bytes_same}
use Rattle.fact_actions.specs.Moves.{bit_named, bits_named}
use Rattle.fact_emit.specs.PlacedBits.{placed_bit, placed_bits, IsBitPlace, AreBitPlaces}
use Rattle.fact_kinds.specs.FlagPlaces.{below_32, bit_place_of, bit_places_of}

-- ---- one bit

-- the first place of a name, or the number of names
abbrev place : List ℕ → List (List ℕ) → ℕ
place x names = position_or_len (bytes_eq x) names

one_on : (n i : ℕ) → n / 2 / 2 ^ i ≡ n / 2 ^ suc i
one_on n i = div-div-eq-div-mul n 2 (2 ^ i) ∙ ap (λ k. n / k) (mul_comm 2 (2 ^ i) ∙ sym (pow-suc 2 i))

bit_there : (x : List ℕ) (names : List (List ℕ)) (n : ℕ) → place x names < length names → bit_named x names n ≡ n / 2 ^ place x names % 2
bit_there x [] n h = absurd (omega (arith, h))
bit_there x (y ∷ names) n h =
    ap (λ (b : Bool). if b then n % 2 else bit_named x names (n / 2)) (nat_list_eq_equiv.symm y x)
    ∙ go (bytes_eq x y) (bit_there x names (n / 2)) h
  where
    go : (b : Bool) → (place x names < length names → bit_named x names (n / 2) ≡ n / 2 / 2 ^ place x names % 2) → cond (not b) (1 + place x names) 0 < suc (length names)
        → (if b then n % 2 else bit_named x names (n / 2)) ≡ n / 2 ^ cond (not b) (1 + place x names) 0 % 2
    go true rest h = let one : n / 1 ≡ n = omega arith in ap (λ k. k % 2) (sym one)
    go false rest h =
        let one : suc (place x names) ≡ 1 + place x names = omega arith in
        rest (omega (arith, h)) ∙ ap (λ k. k % 2) (one_on n (place x names)) ∙ ap (λ i. n / 2 ^ i % 2) one

bit_lacks : (x : List ℕ) (names : List (List ℕ)) (n : ℕ) → length names ≤ place x names → bit_named x names n ≡ 0
bit_lacks x [] n h = refl
bit_lacks x (y ∷ names) n h =
    ap (λ (b : Bool). if b then n % 2 else bit_named x names (n / 2)) (nat_list_eq_equiv.symm y x)
    ∙ go (bytes_eq x y) (bit_lacks x names (n / 2)) h
  where
    go : (b : Bool) → (length names ≤ place x names → bit_named x names (n / 2) ≡ 0) → suc (length names) ≤ cond (not b) (1 + place x names) 0 → (if b then n % 2 else bit_named x names (n / 2)) ≡ 0
    go true rest h = absurd (omega (arith, h))
    go false rest h = rest (omega (arith, h))

-- among at most 32 names the bit of a name stands at its place
bit_by_place : (names : List (List ℕ)) → length names ≤ 32 → (x : List ℕ) (n : ℕ) → placed_bit (bit_place_of names x) n ≡ bit_named x names n
bit_by_place names few x n = go (nat_lt (place x names) (length names)) refl
  where
    low : (b : Bool) → nat_lt (place x names) 32 ≡ b → place x names < 32 → placed_bit (if b then Some (place x names) else None) n ≡ n / 2 ^ place x names % 2
    low true e lt = refl
    low false e lt = absurd (let h = ltb-false (place x names) 32 e in omega (arith, h, lt))

    go : (b : Bool) → nat_lt (place x names) (length names) ≡ b → placed_bit (below_32 (cond b (Some (place x names)) None)) n ≡ bit_named x names n
    go true e = let h = ltb-true (place x names) (length names) e in low (nat_lt (place x names) 32) refl (omega (arith, h, few)) ∙ sym (bit_there x names n h)
    go false e = sym (bit_lacks x names n (ltb-false (place x names) (length names) e))

-- ---- all of them

pub bits_by_places : (names others : List (List ℕ)) → length names ≤ 32 → (n : ℕ) → placed_bits (bit_places_of names others) n ≡ bits_named names others n
bits_by_places names [] few n = refl
bits_by_places names (x ∷ others) few n = λ j. bit_by_place names few x n j + 2 * bits_by_places names others few n j

is_bit_place : (o : Option ℕ) → IsBitPlace (below_32 o)
is_bit_place None = tt
is_bit_place (Some i) = go (nat_lt i 32) refl
  where
    go : (b : Bool) → nat_lt i 32 ≡ b → IsBitPlace (if b then Some i else None)
    go true e = ltb-true i 32 e
    go false e = tt

all_bit_places : (names others : List (List ℕ)) → All IsBitPlace (bit_places_of names others)
all_bit_places names [] k d lt = absurd (omega (arith, lt))
all_bit_places names (x ∷ others) zero d lt = is_bit_place (position (bytes_eq x) names)
all_bit_places names (x ∷ others) (suc k) d lt = all_bit_places names others k d (omega (arith, lt))

pub are_bit_places : (names others : List (List ℕ)) (is : List (Option ℕ)) → is ≡ bit_places_of names others → length is ≤ 32 → AreBitPlaces is
are_bit_places names others is e few = record { few = few; bits = subst (All IsBitPlace) (sym e) (all_bit_places names others) }

pub places_count : (names others : List (List ℕ)) → length (bit_places_of names others) ≡ length others
places_count names [] = refl
places_count names (x ∷ others) = ap suc (places_count names others)

-- ---- names in one order

bits_behind : (y : List ℕ) (from to : List (List ℕ)) (n : ℕ) → ((k : ℕ) (x : List ℕ) → slice_get to k ≡ Some x → y ≡ x → ⊥) → bits_named (y ∷ from) to n ≡ bits_named from to (n / 2)
bits_behind y from [] n h = refl
bits_behind y from (x ∷ to) n h = λ j. first j + 2 * bits_behind y from to n (λ k z. h (suc k) z) j
  where
    first : bit_named x (y ∷ from) n ≡ bit_named x from (n / 2)
    first = go (bytes_eq y x) refl
      where
        go : (b : Bool) → bytes_eq y x ≡ b → (if b then n % 2 else bit_named x from (n / 2)) ≡ bit_named x from (n / 2)
        go true e = absurd (h 0 x refl ((bytes_eq-Decides y x).0 e))
        go false e = refl

-- where each name stands once, numbers keep their bits
pub bits_stay : (names : List (List ℕ)) → AreDistinct names → (n : ℕ) → bits_named names names n ≡ n % 2 ^ length names
bits_stay [] h n = omega arith
bits_stay (x ∷ names) h n =
    let first : bit_named x (x ∷ names) n ≡ n % 2 = ap (λ (b : Bool). if b then n % 2 else bit_named x names (n / 2)) (bytes_same x) in
    let apart : (k : ℕ) (y : List ℕ) → slice_get names k ≡ Some y → x ≡ y → ⊥ = λ k y at e. (let no : 0 ≡ suc k = h 0 (suc k) y (ap (λ z. Some z) e) at in omega (arith, no)) in
    let rest : bits_named (x ∷ names) names n ≡ n / 2 % 2 ^ length names = bits_behind x names names n apart ∙ bits_stay names (λ i j y a b. (let e : suc i ≡ suc j = h (suc i) (suc j) y a b in omega (arith, e))) (n / 2) in
    let p = pow-suc 2 (length names) in
    (λ j. first j + 2 * rest j) ∙ whole n (2 ^ length names) (2 ^ suc (length names)) p (pow_pos (length names))
  where
    whole : (n m d : ℕ) → d ≡ m * 2 → 0 < m → n % 2 + 2 * (n / 2 % m) ≡ n % d
    whole n m d e some =
        let two : 0 < 2 = omega arith in
        let r : n % (m * 2) ≡ (n / 2 % m) * 2 + n % 2 = mod-mul n some two in
        let s : n % 2 + 2 * (n / 2 % m) ≡ (n / 2 % m) * 2 + n % 2 = omega arith in
        s ∙ sym r ∙ ap (λ k. n % k) (sym e)

pub names_count : (ms : Members) → length (names_of ms) ≡ count_of_members ms
names_count no_members = refl
names_count (bare x ms) = ap suc (names_count ms)
names_count (typed x s ms) = ap suc (names_count ms)

-- lists that are told to be equal
pub same_lists : (xs ys : List (List ℕ)) → pointwise bytes_eq xs ys ≡ true → xs ≡ ys
same_lists [] [] h = refl
same_lists [] (y ∷ ys) h = absurd (let no : false ≡ true = h in cc)
same_lists (x ∷ xs) [] h = absurd (let no : false ≡ true = h in cc)
same_lists (x ∷ xs) (y ∷ ys) h = let p = and_parts _ _ h in λ j. (bytes_eq-Decides x y).0 p.0 j ∷ same_lists xs ys p.1 j
