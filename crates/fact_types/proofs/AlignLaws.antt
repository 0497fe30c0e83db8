-- Rounding up to an alignment.
use Rattle.std.proofs.Common.{◌≡◌, ℕ, ◌+◌, ◌-◌, ◌*◌, ◌/◌, ◌%◌, ◌<◌, ◌≤◌, min, max, arith, inl, inr, ap, sym, ◌∙◌}
use Rattle.std.specs.Int.{next_multiple_of, IsPowerOfTwo}
use Rattle.std.specs.Ordering.{ord_max, nat_cmp}
use Rattle.std.proofs.lemmas.Nat.{mod_below, pow_pos, div-add-mod'}
use Rattle.std.proofs.lemmas.Bool.{cases_lt}
use Rattle.std.proofs.lemmas.Grind.{div_ceil_times, common_steps}
use Rattle.std.proofs.Math.Nat.{mul-mod_left, mod_self, mod-eq_of_lt}
use Rattle.fact_types.specs.Layout.{aligned}

-- a number is at most its next multiple, which lies less than one step above it
pub aligned_bounds : (n a : ℕ) → 0 < a → (n ≤ aligned n a) × (aligned n a < n + a)
unfolding aligned
aligned_bounds n a p = div_ceil_times n a p

pub aligned_multiple : (n a : ℕ) → aligned n a % a ≡ 0
unfolding aligned
aligned_multiple n a = mul-mod_left _ a

-- the next multiple by the rest of a division
pub aligned_by_rest : (n a : ℕ) → 0 < a → next_multiple_of n a ≡ aligned n a
unfolding aligned
aligned_by_rest n a p =
    let d = div-add-mod' n a in
    elim (cases_lt 0 (n % a)) [
      | inl more ↦
          let r : n % a < a = mod_below n a p in
          let e : (a - n % a) % a ≡ a - n % a = mod-eq_of_lt (omega arith) in
          let one_more : min 1 (n % a) ≡ 1 = omega arith in
          let up : n + (a - n % a) % a ≡ (n / a + 1) * a = omega (arith, d, e, r) in
          up ∙ sym (ap (λ (x : ℕ). (n / a + x) * a) one_more)
      | inr none ↦
          let z : n % a ≡ 0 = omega arith in
          let whole : a - n % a ≡ a = omega arith in
          let e : (a - n % a) % a ≡ 0 = ap (λ (x : ℕ). x % a) whole ∙ mod_self a in
          let no_more : min 1 (n % a) ≡ 0 = omega arith in
          let up : n + (a - n % a) % a ≡ (n / a + 0) * a = omega (arith, d, e, z) in
          up ∙ sym (ap (λ (x : ℕ). (n / a + x) * a) no_more)
    ]

pub power_pos : (a : ℕ) → IsPowerOfTwo a → 0 < a
power_pos a (k, e) = omega (arith, pow_pos k, e)

-- `max` of the library
pub ord_max-nat : (a b : ℕ) → ord_max nat_cmp a b ≡ max a b
ord_max-nat a b = grind (arith, common_steps)

-- the payload ends within the variant
pub inside_tagged : (d s a : ℕ) → 0 < a → aligned d a + s ≤ aligned (aligned d a + s) (max d a)
inside_tagged d s a p = (aligned_bounds (aligned d a + s) (max d a) (omega arith)).0
