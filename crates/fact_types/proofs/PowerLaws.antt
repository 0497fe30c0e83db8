-- Powers of two: the numbers with one bit set.
use Rattle.std.proofs.Common.{◌≡◌, ℕ, zero, suc, ◌+◌, ◌*◌, ◌/◌, ◌%◌, ◌^◌, ◌<◌, refl, arith, sym, ◌∙◌, ap, inl, inr}
use Rattle.std.specs.Int.{IsPowerOfTwo}
use Rattle.std.proofs.lemmas.Nat.{ones_cat, zero_from_ones, div-add-mod', mod_below}
use Rattle.std.proofs.lemmas.Bool.{cases_lt}
use lib.Count.{ones}
use Rattle.std.proofs.Math.Nat.{two-pow-succ}
use Rattle.std.proofs.lemmas.Bool.{eqb-true, eq-eqb}
use Rattle.std.specs.Int.{is_power_of_two}
use Rattle.std.proofs.Common.{IsTrue, ◌↔◌}

ones_bit : (r : ℕ) → r < 2 → ones r ≡ r
unfolding ones
ones_bit zero h = refl
ones_bit (suc zero) h = refl
ones_bit (suc (suc r)) h = absurd (omega arith)

ones_split : (n : ℕ) → ones n ≡ ones (n / 2) + n % 2
ones_split n =
    let m : n % 2 < 2 = mod_below n 2 (omega arith) in
    ap ones (sym (div-add-mod' n 2)) ∙ ones_cat 1 (n / 2) (n % 2) m ∙ ap (λ (x : ℕ). ones (n / 2) + x) (ones_bit (n % 2) m)

doubled : (m n : ℕ) → n ≡ m + m → IsPowerOfTwo m → IsPowerOfTwo n
doubled m n e (k, p) = (suc k, omega (arith, e, p, two-pow-succ k))

one_alone : (n : ℕ) → n ≡ 1 → IsPowerOfTwo n
one_alone n e = (0, e)

ones_zero : ones 0 ≡ 0
unfolding ones
ones_zero = refl

pub power_from_ones : (f n : ℕ) → n < f → ones n ≡ 1 → IsPowerOfTwo n
power_from_ones zero n h e = absurd (omega arith)
power_from_ones (suc f) zero h e = absurd (omega (arith, ones_zero, e))
power_from_ones (suc f) (suc n) h e =
    elim (cases_lt (suc n % 2) 1) [
      | inl even ↦ doubled (suc n / 2) (suc n) (omega (arith, div-add-mod' (suc n) 2, even)) (power_from_ones f (suc n / 2) (omega (arith, h, div-add-mod' (suc n) 2, even)) (omega (arith, ones_split (suc n), e, even)))
      | inr odd ↦ one_alone (suc n) (let z = zero_from_ones (suc n / 2) (omega (arith, ones_split (suc n), e, odd)) in omega (arith, z, div-add-mod' (suc n) 2, mod_below (suc n) 2 (omega arith)))
    ]

pub ones_of_power : (k : ℕ) → ones (2 ^ k) ≡ 1
ones_of_power zero = ones_bit 1 (omega arith)
ones_of_power (suc k) =
    let e : 2 ^ suc k ≡ 2 ^ k * 2 ^ 1 + 0 = omega (arith, two-pow-succ k) in
    ap ones e ∙ ones_cat 1 (2 ^ k) 0 (omega arith) ∙ omega (arith, ones_zero, ones_of_power k)

pub power_tells : (n : ℕ) → IsTrue (is_power_of_two n) ↔ IsPowerOfTwo n
power_tells n = (λ h. power_from_ones (suc n) n (omega arith) (eqb-true (ones n) 1 h), λ (k, e). eq-eqb (ones n) 1 (ap ones e ∙ ones_of_power k))
