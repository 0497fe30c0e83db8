-- What k groups of seven bits say of a signed number.
use Rattle.std.proofs.Common.{◌≡◌, ℕ, ℤ, pos, negsuc, zero, suc, ◌-◌, ◌*◌, ◌^◌, ◌<◌, ◌≤◌, Bool, true, false, refl, ap, ◌∙◌, arith, inl, inr, pow-suc}
use Rattle.std.proofs.lemmas.Bool.{cases_lt}
use Rattle.fact_binary.specs.Numbers.{groups, count, signed, magnitude, number}
use Rattle.fact_binary.proofs.Groups.{count-positive, count-holds}

pub even : (k : ℕ) → 1 ≤ k → (h : ℕ) × (128 ^ k ≡ 2 * h)
even zero p = absurd (omega arith)
even (suc k) p = (128 ^ k * 64, rw pow-suc (omega arith))

-- the groups of a number, as a number without a sign
abbrev pub whole_of : ℤ → ℕ
whole_of (pos n) = n
whole_of (negsuc n) = 128 ^ count (2 * n) - 1 - n

pub signed-groups : (z : ℤ) → signed z ≡ groups (count (2 * magnitude z)) (whole_of z)
signed-groups (pos n) = refl
signed-groups (negsuc n) = refl

pub whole-holds : (z : ℤ) → magnitude z < 2 ^ 63 → whole_of z < 128 ^ count (2 * magnitude z)
whole-holds (pos n) p = omega (arith, count-holds (2 * n) (omega arith))
whole-holds (negsuc n) p = omega (arith, count-holds (2 * n) (omega arith))

-- what was read and split is the number
pub split-back : (k n : ℕ) (neg : Bool) (size : ℕ) (z : ℤ) → magnitude z < 2 ^ 63 → k ≡ count (2 * magnitude z) → n ≡ whole_of z
    → (2 * n < 128 ^ k → (neg ≡ false) × (size ≡ n)) → (128 ^ k ≤ 2 * n → (neg ≡ true) × (size ≡ 128 ^ k - 1 - n)) → (number neg size ≡ z) × (size ≡ magnitude z)
split-back k n neg size (pos m) p ek en low high =
    let holds = count-holds (2 * m) (omega arith) in
    let same : 128 ^ k ≡ 128 ^ count (2 * m) = ap (λ (j : ℕ). 128 ^ j) ek in
    let l = low (omega (arith, holds, same)) in
    let is : size ≡ m = l.1 ∙ en in
    (rw l.0 (ap pos is), is)
split-back k n neg size (negsuc m) p ek en low high =
    let holds = count-holds (2 * m) (omega arith) in
    let half = even (count (2 * m)) (count-positive (2 * m)) in
    let same : 128 ^ k ≡ 128 ^ count (2 * m) = ap (λ (j : ℕ). 128 ^ j) ek in
    let h = high (omega (arith, holds, same, half.1)) in
    let is : size ≡ m = let e = h.1 in omega (arith, e, holds, same, half.1) in
    (rw h.0 (ap negsuc is), is)

-- what is split is a number whose groups these are
pub split-found : (k n : ℕ) (neg : Bool) (size : ℕ) → n < 128 ^ k → count (2 * size) ≡ k
    → (2 * n < 128 ^ k → (neg ≡ false) × (size ≡ n)) → (128 ^ k ≤ 2 * n → (neg ≡ true) × (size ≡ 128 ^ k - 1 - n)) → signed (number neg size) ≡ groups k n
split-found k n neg size lt ek low high = elim (cases_lt (2 * n) (128 ^ k)) [
  | inl less ↦ let l = low less in rw (l.0, ek, l.1) refl
  | inr le ↦
      let h = high le in
      let back : 128 ^ k - 1 - size ≡ n = let e = h.1 in omega arith in
      rw (h.0, ek, back) refl
]
