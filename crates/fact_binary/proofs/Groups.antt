-- Groups of seven bits: their number is the least, and no form begins another.
use Rattle.std.proofs.Common.{◌≡◌, ℕ, zero, suc, ◌+◌, ◌-◌, ◌*◌, ◌/◌, ◌%◌, ◌^◌, ◌<◌, ◌≤◌, ◌⊎◌, List, [], ◌∷◌, ◌++◌, refl, sym, ap, ◌∙◌, arith, inl, inr, pow-suc}
use Rattle.std.proofs.Math.Nat.{pow-le-pow_right}
use Rattle.std.proofs.lemmas.Bool.{cases_lt, lt-ltb, le-ltb}
use Rattle.fact_binary.specs.Numbers.{groups, needed, count, unsigned}

pub needed-small : (f n : ℕ) → n < 128 → needed f n ≡ 1
unfolding needed
needed-small zero n h = refl
needed-small (suc f) n h = rw (lt-ltb n 128 h) refl

pub needed-big : (f n : ℕ) → 128 ≤ n → needed (suc f) n ≡ suc (needed f (n / 128))
unfolding needed
needed-big f n h = rw (le-ltb n 128 h) refl

part_below : (k n : ℕ) → n < 128 ^ suc k → n / 128 < 128 ^ k
part_below k n h = omega (arith, rw pow-suc at h)

pub needed-more : (f n : ℕ) → n < 128 ^ suc f → needed (suc f) n ≡ needed f n
needed-more zero n h = let e : n < 128 = h in rw (needed-small 1 n e, needed-small 0 n e) refl
needed-more (suc f) n h = elim (cases_lt n 128) [
  | inl lt ↦ rw (needed-small (suc (suc f)) n lt, needed-small (suc f) n lt) refl
  | inr le ↦ rw (needed-big (suc f) n le, needed-big f n le) (ap suc (needed-more f (n / 128) (part_below (suc f) n h)))
]

pub needed-positive : (f n : ℕ) → 1 ≤ needed f n
unfolding needed
needed-positive zero n = omega arith
needed-positive (suc f) n = elim (cases_lt n 128) [
  | inl lt ↦ rw (lt-ltb n 128 lt) (omega arith)
  | inr le ↦ rw (le-ltb n 128 le) (omega arith)
]

-- the number of groups holds the number
pub needed-holds : (f n : ℕ) → n < 128 ^ suc f → n < 128 ^ needed f n
needed-holds zero n h = rw (needed-small 0 n h) h
needed-holds (suc f) n h = elim (cases_lt n 128) [
  | inl lt ↦ rw (needed-small (suc f) n lt) lt
  | inr le ↦
      let below = needed-holds f (n / 128) (part_below (suc f) n h) in
      rw (needed-big f n le, pow-suc) (omega (arith, below))
]

pub unsigned-small : (n : ℕ) → n < 128 → unsigned n ≡ n ∷ []
unfolding unsigned count groups
unsigned-small n h = rw (needed-small 9 n h) refl

groups-big : (k n : ℕ) → 1 ≤ k → groups (suc k) n ≡ (n % 128 + 128) ∷ groups k (n / 128)
unfolding groups
groups-big zero n h = absurd (omega arith)
groups-big (suc k) n h = refl

pub unsigned-big : (n : ℕ) → 128 ≤ n → n < 128 ^ 10 → unsigned n ≡ (n % 128 + 128) ∷ unsigned (n / 128)
unfolding unsigned count
unsigned-big n le lt =
    let below : n / 128 < 128 ^ 9 = omega arith in
    rw (needed-big 8 n le, groups-big (needed 8 (n / 128)) n (needed-positive 8 (n / 128)), needed-more 8 (n / 128) below) refl

-- one more group in front
pub groups-front : (k n b : ℕ) → 1 ≤ k → 128 ≤ b → b < 256 → groups (k + 1) (n * 128 + (b - 128)) ≡ b ∷ groups k n
groups-front k n b pos low high =
    let m : ℕ = n * 128 + (b - 128) in
    let part : (n * 128 + (b - 128)) / 128 ≡ n = omega arith in
    let rest : (n * 128 + (b - 128)) % 128 + 128 ≡ b = omega arith in
    let e : k + 1 ≡ suc k = omega arith in
    rw (e, groups-big k (n * 128 + (b - 128)) pos, part, rest) refl

-- what the first byte says
pub data First (b : ℕ) (tail : List ℕ) (k n : ℕ) (rest : List ℕ) : Type 0 where
  last : b < 128 → k ≡ 1 → n ≡ b → tail ≡ rest → First b tail k n rest
  more : 128 ≤ b → (j : ℕ) → k ≡ suc j → 1 ≤ j → n / 128 < 128 ^ j → tail ≡ groups j (n / 128) ++ rest → n ≡ (n / 128) * 128 + (b - 128) → First b tail k n rest

heads : (a b : ℕ) (x y : List ℕ) → a ∷ x ≡ b ∷ y → (a ≡ b) × (x ≡ y)
heads a b x y e = (cc, cc)

pub groups-first : (b : ℕ) (tail : List ℕ) (k n : ℕ) (rest : List ℕ) → 1 ≤ k → n < 128 ^ k → b ∷ tail ≡ groups k n ++ rest → First b tail k n rest
unfolding groups
groups-first b tail zero n rest pos lt e = absurd (omega arith)
groups-first b tail (suc zero) n rest pos lt e =
    let h = heads b n tail rest e in
    let below : n < 128 = lt in
    last (omega (arith, h.0)) refl (sym h.0) h.1
groups-first b tail (suc (suc k)) n rest pos lt e =
    let h = heads b (n % 128 + 128) tail (groups (suc k) (n / 128) ++ rest) e in
    more (omega (arith, h.0)) (suc k) refl (omega arith) (part_below (suc k) n lt) h.1 (omega (arith, h.0))

-- no form begins another
pub groups-unique : (j m k n : ℕ) (r s : List ℕ) → 1 ≤ j → 1 ≤ k → m < 128 ^ j → n < 128 ^ k → groups j m ++ r ≡ groups k n ++ s → (j ≡ k) × (m ≡ n) × (r ≡ s)
unfolding groups
groups-unique zero m k n r s pj pk mb nb e = absurd (omega arith)
groups-unique (suc zero) m k n r s pj pk mb nb e = elim (groups-first m r k n s pk nb e) [
  | last lt one same tails ↦ (sym one, sym same, tails)
  | more le j _ _ _ _ _ ↦ let below : m < 128 = mb in absurd (omega arith)
]
groups-unique (suc (suc j)) m k n r s pj pk mb nb e =
    elim (groups-first (m % 128 + 128) (groups (suc j) (m / 128) ++ r) k n s pk nb e) [
      | last lt one same tails ↦ absurd (omega arith)
      | more le i one pi below tails whole ↦
          let rest = groups-unique (suc j) (m / 128) i (n / 128) r s (omega arith) pi (part_below (suc j) m mb) below tails in
          (omega (arith, one, rest.0), omega (arith, whole, rest.1), rest.2)
    ]

pub unsigned-unique : (m n : ℕ) (r s : List ℕ) → m < 128 ^ 10 → n < 128 ^ 10 → unsigned m ++ r ≡ unsigned n ++ s → (m ≡ n) × (r ≡ s)
unfolding unsigned count
unsigned-unique m n r s mb nb e =
    let u = groups-unique (needed 9 m) m (needed 9 n) n r s (needed-positive 9 m) (needed-positive 9 n) (needed-holds 9 m mb) (needed-holds 9 n nb) e in
    (u.1, u.2)

-- what follows holds of each reader's first byte
pub front-below : (k n b : ℕ) → 1 ≤ k → n < 128 ^ k → b < 256 → n * 128 + (b - 128) < 128 ^ (k + 1)
front-below k n b pos lt high = let e : k + 1 ≡ suc k = omega arith in rw (e, pow-suc) (omega arith)

pub groups-some : (k n : ℕ) (rest : List ℕ) → 1 ≤ k → groups k n ++ rest ≡ [] → ⊥
unfolding groups
groups-some zero n rest pos e = absurd (omega arith)
groups-some (suc zero) n rest pos e = cc
groups-some (suc (suc k)) n rest pos e = cc

pub groups-one : (n : ℕ) → groups 1 n ≡ n ∷ []
unfolding groups
groups-one n = refl

pub ten-below : (k n : ℕ) → k ≤ 9 → n < 128 ^ k → n < 128 ^ 9
ten-below k n le lt = let e : 128 ^ k ≤ 128 ^ 9 = pow-le-pow_right (omega arith) le in omega arith

pub index-small : (n : ℕ) → n < 64 → groups (count (2 * n)) n ≡ n ∷ []
unfolding count groups
index-small n h = rw (needed-small 9 (2 * n) (omega arith)) refl

needed-odd : (f j : ℕ) → needed f (2 * j + 1) ≡ needed f (2 * j)
unfolding needed
needed-odd zero j = refl
needed-odd (suc f) j = elim (cases_lt (2 * j) 128) [
  | inl lt ↦ rw (needed-small (suc f) (2 * j) lt, needed-small (suc f) (2 * j + 1) (omega arith)) refl
  | inr le ↦
      let same : (2 * j + 1) / 128 ≡ (2 * j) / 128 = omega arith in
      rw (needed-big f (2 * j) le, needed-big f (2 * j + 1) (omega arith), same) refl
]

-- twice a number without its last group needs what the number without it does
needed-half : (f m j : ℕ) → (m ≡ 2 * j) ⊎ (m ≡ 2 * j + 1) → needed f m ≡ needed f (2 * j)
needed-half f m j (inl e) = rw e refl
needed-half f m j (inr e) = rw e (needed-odd f j)

halves : (n : ℕ) → ((2 * n) / 128 ≡ 2 * (n / 128)) ⊎ ((2 * n) / 128 ≡ 2 * (n / 128) + 1)
halves n = elim (cases_lt (n % 128) 64) [ inl lt ↦ inl (omega arith) | inr le ↦ inr (omega arith) ]

pub index-big : (n : ℕ) → 64 ≤ n → n < 2 ^ 32 → groups (count (2 * n)) n ≡ (n % 128 + 128) ∷ groups (count (2 * (n / 128))) (n / 128)
unfolding count
index-big n le lt =
    let low : 2 * (n / 128) < 128 ^ 9 = omega arith in
    let same : needed 8 ((2 * n) / 128) ≡ needed 9 (2 * (n / 128)) = needed-half 8 ((2 * n) / 128) (n / 128) (halves n) ∙ sym (needed-more 8 (2 * (n / 128)) low) in
    rw (needed-big 8 (2 * n) (omega arith), groups-big (needed 8 ((2 * n) / 128)) n (needed-positive 8 ((2 * n) / 128)), same) refl

pub needed-most : (f n : ℕ) → needed f n ≤ f + 1
unfolding needed
needed-most zero n = omega arith
needed-most (suc f) n = elim (cases_lt n 128) [
  | inl lt ↦ rw (needed-small (suc f) n lt) (omega arith)
  | inr le ↦ rw (needed-big f n le) (omega (arith, needed-most f (n / 128)))
]

pub count-most : (n : ℕ) → count n ≤ 10
unfolding count
count-most n = omega (arith, needed-most 9 n)

pub count-positive : (n : ℕ) → 1 ≤ count n
unfolding count
count-positive n = needed-positive 9 n

pub count-holds : (n : ℕ) → n < 128 ^ 10 → n < 128 ^ count n
unfolding count
count-holds n h = needed-holds 9 n h

pub count-small : (n : ℕ) → n < 128 → count n ≡ 1
unfolding count
count-small n h = needed-small 9 n h

pub count-big : (n : ℕ) → 128 ≤ n → n < 128 ^ 10 → count n ≡ count (n / 128) + 1
unfolding count
count-big n le lt =
    let below : n / 128 < 128 ^ 9 = omega arith in
    omega (arith, needed-big 8 n le, needed-more 8 (n / 128) below)

pub unsigned-groups : (n : ℕ) → unsigned n ≡ groups (count n) n
unfolding unsigned
unsigned-groups n = refl

pub below-all : (k n : ℕ) → k ≤ 10 → n < 128 ^ k → n < 128 ^ 10
below-all k n le lt = let e : 128 ^ k ≤ 128 ^ 10 = pow-le-pow_right (omega arith) le in omega arith

pub scale-below : (k : ℕ) → k ≤ 10 → 128 ^ k < 2 ^ 128
scale-below k le = let e : 128 ^ k ≤ 128 ^ 10 = pow-le-pow_right (omega arith) le in omega arith

pub groups-more : (k n : ℕ) → 2 ≤ k → groups k n ≡ (n % 128 + 128) ∷ groups (k - 1) (n / 128)
unfolding groups
groups-more zero n h = absurd (omega arith)
groups-more (suc zero) n h = absurd (omega arith)
groups-more (suc (suc k)) n h = let e : suc (suc k) - 1 ≡ suc k = omega arith in rw e refl

pub part-below : (k n : ℕ) → 2 ≤ k → n < 128 ^ k → n / 128 < 128 ^ (k - 1)
part-below zero n h lt = absurd (omega arith)
part-below (suc k) n h lt = let e : suc k - 1 ≡ k = omega arith in rw e (part_below k n lt)
