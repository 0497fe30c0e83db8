-- The bits of flags that are moved by name.
use Rattle.std.proofs.Common.{◌≡◌, ℕ, zero, suc, ◌+◌, ◌*◌, ◌/◌, ◌%◌, ◌^◌, ◌<◌, Bool, true, false, List, [], ◌∷◌, length, Some, None, refl, sym, ap, ◌∙◌, arith, slice_get}
use Rattle.std.specs.Prelude.{if◌then◌else◌}
use Rattle.std.specs.Int.{bit_at}
use Rattle.std.specs.Str.{bytes_eq}
use Rattle.std.proofs.lemmas.Nat.Bits.{bit_at_lowest, bit_at-suc, bit_at-zero}
use Rattle.std.proofs.Math.Nat.{pow-suc}
use Rattle.fact_types.specs.Valid.{AreDistinct}
use Rattle.fact_types.proofs.ShapeLaws.{same_some, none_some}
use Rattle.fact_values.proofs.IsALaws.{bytes_are, bytes_same, distinct_rest}
use Rattle.fact_actions.specs.Flags.{BitsGoByName, OtherBitsAreZero}
use Rattle.fact_actions.specs.Moves.{bit_named, bits_named}

-- ---- small numbers

pub bit_small : (x : List ℕ) (names : List (List ℕ)) (n : ℕ) → bit_named x names n < 2
bit_small x [] n = omega arith
bit_small x (y ∷ names) n = go (bytes_eq y x) (bit_small x names (n / 2))
  where
    go : (b : Bool) → bit_named x names (n / 2) < 2 → (if b then n % 2 else bit_named x names (n / 2)) < 2
    go true h = omega arith
    go false h = h

pub bits_small : (from to : List (List ℕ)) (n : ℕ) → bits_named from to n < 2 ^ length to
bits_small from [] n = omega arith
bits_small from (x ∷ to) n = let h = bits_small from to n in let b = bit_small x from n in let e = pow-suc 2 (length to) in omega (arith, h, b, e)

-- the lowest bit of a number, and the others
pub low_of : (b r : ℕ) → b < 2 → (b + 2 * r) % 2 ≡ b
low_of b r small = omega (arith, small)

pub high_of : (b r : ℕ) → b < 2 → (b + 2 * r) / 2 ≡ r
high_of b r small = omega (arith, small)

first_bit : (b r : ℕ) → b < 2 → bit_at (b + 2 * r) 0 ≡ b
first_bit b r small = bit_at_lowest (b + 2 * r) ∙ low_of b r small

next_bit : (b r j : ℕ) → b < 2 → bit_at (b + 2 * r) (suc j) ≡ bit_at r j
next_bit b r j small = bit_at-suc (b + 2 * r) j ∙ ap (λ k. bit_at k j) (high_of b r small)

-- ---- the number that is written

bit_of_place : (from to : List (List ℕ)) (n j : ℕ) (x : List ℕ) → slice_get to j ≡ Some x → bit_at (bits_named from to n) j ≡ bit_named x from n
bit_of_place from [] n j x at = absurd (none_some None x refl at)
bit_of_place from (y ∷ to) n zero x at =
    first_bit (bit_named y from n) (bits_named from to n) (bit_small y from n) ∙ ap (λ z. bit_named z from n) (same_some (Some y) y x refl at)
bit_of_place from (y ∷ to) n (suc j) x at =
    next_bit (bit_named y from n) (bits_named from to n) j (bit_small y from n) ∙ bit_of_place from to n j x at

-- ---- the bit of a name

bit_of_name : (x : List ℕ) (from : List (List ℕ)) (n i : ℕ) → AreDistinct from → slice_get from i ≡ Some x → bit_named x from n ≡ bit_at n i
bit_of_name x [] n i d at = absurd (none_some None x refl at)
bit_of_name x (y ∷ from) n zero d at =
    ap (λ (b : Bool). if b then n % 2 else bit_named x from (n / 2)) (ap (λ z. bytes_eq z x) (same_some (Some y) y x refl at) ∙ bytes_same x) ∙ sym (bit_at_lowest n)
bit_of_name x (y ∷ from) n (suc i) d at = go (bytes_eq y x) refl (bit_of_name x from (n / 2) i (distinct_rest y from d) at)
  where
    go : (b : Bool) → bytes_eq y x ≡ b → bit_named x from (n / 2) ≡ bit_at (n / 2) i → (if b then n % 2 else bit_named x from (n / 2)) ≡ bit_at n (suc i)
    go true e rest = absurd (let no : 0 ≡ suc i = d 0 (suc i) x (ap (λ z. Some z) (bytes_are y x e)) at in omega (arith, no))
    go false e rest = rest ∙ sym (bit_at-suc n i)

no_bit_of_name : (x : List ℕ) (from : List (List ℕ)) (n : ℕ) → ((i : ℕ) → slice_get from i ≡ Some x → ⊥) → bit_named x from n ≡ 0
no_bit_of_name x [] n h = refl
no_bit_of_name x (y ∷ from) n h = go (bytes_eq y x) refl (no_bit_of_name x from (n / 2) (λ i at. h (suc i) at))
  where
    go : (b : Bool) → bytes_eq y x ≡ b → bit_named x from (n / 2) ≡ 0 → (if b then n % 2 else bit_named x from (n / 2)) ≡ 0
    go true e rest = absurd (h 0 (ap (λ z. Some z) (bytes_are y x e)))
    go false e rest = rest

-- ---- the laws

pub bits_go_by_name : BitsGoByName
bits_go_by_name from to n i j x d from_at to_at = bit_of_place from to n j x to_at ∙ bit_of_name x from n i d from_at

pub other_bits_are_zero : OtherBitsAreZero
other_bits_are_zero from [] n j h = bit_at-zero j
other_bits_are_zero from (y ∷ to) n zero h =
    first_bit (bit_named y from n) (bits_named from to n) (bit_small y from n) ∙ no_bit_of_name y from n (λ i at. h i y at refl)
other_bits_are_zero from (y ∷ to) n (suc j) h =
    next_bit (bit_named y from n) (bits_named from to n) j (bit_small y from n) ∙ other_bits_are_zero from to n j (λ i x from_at to_at. h i x from_at to_at)
