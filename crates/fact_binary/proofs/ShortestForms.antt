-- The forms of numbers stand for them, and no fewer groups do.
use Rattle.std.proofs.Common.{◌≡◌, ℤ, pos, negsuc, ℕ, zero, suc, ◌+◌, ◌-◌, ◌*◌, ◌/◌, ◌%◌, ◌^◌, ◌<◌, ◌≤◌, ◌⊎◌, Bool, true, false, List, [], ◌∷◌, length, refl, sym, ap, ◌∙◌, subst, arith, inl, inr, pow-suc}
use Rattle.std.specs.Prelude.{nat_lt, if◌then◌else◌}
use Rattle.std.proofs.Math.Nat.{pow-le-pow_right}
use Rattle.std.proofs.lemmas.Bool.{cases_lt, lt-ltb, le-ltb}
use Rattle.fact_binary.specs.Numbers.{groups, needed, count, unsigned, signed, magnitude}
use Rattle.fact_binary.specs.Values.{AreGroups, value_of, signed_value_of, IsShortest, UnsignedIsShortest, SignedIsShortest}
use Rattle.fact_binary.proofs.Groups.{needed-small, needed-big, count-holds, count-positive, needed-positive, unsigned-groups}

groups-length : (k n : ℕ) → length (groups (suc k) n) ≡ suc k
unfolding groups
groups-length zero n = refl
groups-length (suc k) n = let e = groups-length k (n / 128) in omega (arith, e)

front : (k n : ℕ) → n < 128 ^ suc (suc k) → n / 128 < 128 ^ suc k
front k n h = let e : 128 ^ suc (suc k) ≡ 128 ^ suc k * 128 = pow-suc 128 (suc k) in omega (arith, h, e)

groups-value : (k n : ℕ) → n < 128 ^ suc k → value_of (groups (suc k) n) ≡ n
unfolding groups
groups-value zero n h = omega (arith, h)
groups-value (suc k) n h = let e = groups-value k (n / 128) (front k n h) in omega (arith, e)

groups-are : (k n : ℕ) → n < 128 ^ suc k → AreGroups (groups (suc k) n)
unfolding groups
groups-are zero n h = omega (arith, h)
groups-are (suc zero) n h = (omega arith, omega arith, groups-are zero (n / 128) (front zero n h))
groups-are (suc (suc k)) n h = (omega arith, omega arith, groups-are (suc k) (n / 128) (front (suc k) n h))

record Form (k n : ℕ) : Type 0 where
  are : AreGroups (groups k n)
  value : value_of (groups k n) ≡ n
  long : length (groups k n) ≡ k

form : (k n : ℕ) → 1 ≤ k → n < 128 ^ k → Form k n
form zero n p h = absurd (omega (arith, p))
form (suc k) n p h = record { are = groups-are k n h; value = groups-value k n h; long = groups-length k n }

-- groups stand for no more than they have room for
value-below : (bs : List ℕ) → value_of bs < 128 ^ length bs
value-below [] = omega arith
value-below (b ∷ bs) =
    let e : 128 ^ length (b ∷ bs) ≡ 128 ^ length bs * 128 = pow-suc 128 (length bs) in
    omega (arith, e, value-below bs)

some : (bs : List ℕ) → AreGroups bs → 1 ≤ length bs
some [] a = absurd a
some (b ∷ bs) a = omega arith

step : (m n : ℕ) → 1 ≤ m → (m ≡ 1) ⊎ (128 ^ (m - 1) ≤ n / 128) → 128 ≤ n → 128 ^ m ≤ n
step zero n p h le = absurd (omega (arith, p))
step (suc m) n p (inl e) le = rw e (omega (arith, le))
step (suc m) n p (inr h) le =
    let e : 128 ^ suc m ≡ 128 ^ m * 128 = pow-suc 128 m in
    let same : suc m - 1 ≡ m = omega arith in
    omega (arith, e, rw same at h)

needed-least : (f n : ℕ) → (needed f n ≡ 1) ⊎ (128 ^ (needed f n - 1) ≤ n)
unfolding needed
needed-least zero n = inl refl
needed-least (suc f) n = elim (cases_lt n 128) [
  | inl lt ↦ inl (needed-small (suc f) n lt)
  | inr le ↦ inr (
      let below : 128 ^ needed f (n / 128) ≤ n = step (needed f (n / 128)) n (needed-positive f (n / 128)) (needed-least f (n / 128)) le in
      let same : suc (needed f (n / 128)) - 1 ≡ needed f (n / 128) = omega arith in
      rw (needed-big f n le, same) below)
]

-- a number has no more groups than any room for it
fewest : (n k : ℕ) → 1 ≤ k → n < 128 ^ k → count n ≤ k
unfolding count
fewest n k p h = elim (needed-least 9 n) [
  | inl e ↦ omega (arith, e, p)
  | inr least ↦ elim (cases_lt (needed 9 n - 1) k) [
    | inl lt ↦ omega (arith, lt)
    | inr le ↦ let more : 128 ^ k ≤ 128 ^ (needed 9 n - 1) = pow-le-pow_right (omega arith) le in absurd (omega (arith, h, least, more))
  ]
]

pub unsigned-shortest : UnsignedIsShortest
unsigned-shortest n h =
    let f = form (count n) n (count-positive n) (count-holds n (omega (arith, h))) in
    subst (IsShortest value_of n) (sym (unsigned-groups n)) (record {
      groups = f.are;
      means = f.value;
      least = λ others a e. omega (arith, f.long, fewest n (length others) (some others a) (omega (arith, value-below others, e)));
    })

-- ---- two's complement

low : (v q n : ℕ) → (if nat_lt (2 * v) q then pos v else negsuc (q - 1 - v)) ≡ pos n → 2 * n < q
low v q n e = elim (cases_lt (2 * v) q) [
  | inl lt ↦ let same : v ≡ n = ap magnitude (rw (lt-ltb (2 * v) q lt) at e) in omega (arith, lt, same)
  | inr le ↦ let other : negsuc (q - 1 - v) ≡ pos n = rw (le-ltb (2 * v) q le) at e in absurd (cc)
]

high : (v q n : ℕ) → v < q → (if nat_lt (2 * v) q then pos v else negsuc (q - 1 - v)) ≡ negsuc n → 2 * n < q
high v q n h e = elim (cases_lt (2 * v) q) [
  | inl lt ↦ let other : pos v ≡ negsuc n = rw (lt-ltb (2 * v) q lt) at e in absurd (cc)
  | inr le ↦ let same : q - 1 - v ≡ n = ap magnitude (rw (le-ltb (2 * v) q le) at e) in omega (arith, le, same, h)
]

least-signed : (n : ℕ) (bytes others : List ℕ) → length bytes ≡ count (2 * n) → AreGroups others → 2 * n < 128 ^ length others → length bytes ≤ length others
least-signed n bytes others e a h = omega (arith, e, fewest (2 * n) (length others) (some others a) h)

even : (k n : ℕ) → 1 ≤ k → 2 * n < 128 ^ k → 2 * n + 2 ≤ 128 ^ k
even zero n p h = absurd (omega (arith, p))
even (suc k) n p h = let e : 128 ^ suc k ≡ 128 ^ k * 128 = pow-suc 128 k in omega (arith, e, h)

pub signed-shortest : SignedIsShortest
signed-shortest (pos n) h =
    let k = count (2 * n) in
    let room : 2 * n < 128 ^ k = count-holds (2 * n) (omega (arith, h)) in
    let f = form k n (count-positive (2 * n)) (omega (arith, room)) in
    record {
      groups = f.are;
      means = rw (f.value, f.long, lt-ltb (2 * n) (128 ^ k) room) refl;
      least = λ others a e. least-signed n (groups k n) others f.long a (low (value_of others) (128 ^ length others) n e);
    }
signed-shortest (negsuc n) h =
    let k = count (2 * n) in
    let room : 2 * n < 128 ^ k = count-holds (2 * n) (omega (arith, h)) in
    let wide = even k n (count-positive (2 * n)) room in
    let m = 128 ^ k - 1 - n in
    let f = form k m (count-positive (2 * n)) (omega (arith, wide)) in
    let back : 128 ^ k - 1 - m ≡ n = omega (arith, wide) in
    record {
      groups = f.are;
      means = rw (f.value, f.long, le-ltb (2 * m) (128 ^ k) (omega (arith, wide)), back) refl;
      least = λ others a e. least-signed n (groups k m) others f.long a (high (value_of others) (128 ^ length others) n (value-below others) e);
    }
