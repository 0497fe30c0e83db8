-- Moves of bits: what masks and shifts make of numbers, and how the moves that make the number of bits at places come about.
use Rattle.std.proofs.Common.{◌≡◌, ℕ, zero, suc, ◌+◌, ◌-◌, ◌*◌, ◌/◌, ◌%◌, ◌^◌, ◌<◌, ◌≤◌, Bool, true, false, List, [], ◌∷◌, ◌++◌, length, Option, Some, None, refl, sym, ap, ◌∙◌, subst, arith, take, get_or, slice_get, slice_set, add_comm, add-zero, add-one, zero-add, zero-mul, one-mul, mul_assoc, mul_comm, pow-suc, pow_pos, pow_mono, shr-shr, mod-lt, div-add-mod', length-set, take_all, length-take-le, lt_of_lt_of_le, lt_of_le_of_lt}
use Rattle.std.specs.Prelude.{bit_and, bit_or, nat_lt, if◌then◌else◌}
use Rattle.std.specs.Int.{bit_at}
use Rattle.std.specs.List.{AllByRecursion}
use Rattle.std.proofs.lemmas.Bool.{ltb-true, ltb-false}
use Rattle.std.proofs.lemmas.List.{length_push, take_more}
use Rattle.std.proofs.lemmas.Option.{get_or_from_slice_get, slice_get-get_or}
use Rattle.std.proofs.lemmas.Nat.Bits.{and_pow, bit_at-lt, bit_at_cat_low, bit_at_cat_high, shr_and_one}
use Rattle.fact_machine.specs.Numerics.{ishl, ishr_u}
use Rattle.fact_types.proofs.ShapeLaws.{same_some, none_some}
use Rattle.fact_emit.specs.declared.bits.BitMove.{BitMove}
use Rattle.fact_emit.specs.PlacedBits.{placed_bit, placed_bits, shifted, moved, moved_bits, AreBitPlaces, IsMove, IsTogether, AddsPlace, MakeBits}
use lib.Bits.{and_block, and_le_r, and_zero_r, or_block, or_comm, or_lt, or_shifted_r, or_zero_l, or_zero_r}

-- ---- bits of shifted numbers

right_bit : (n s j i : ℕ) → s + j ≡ i → bit_at (n / 2 ^ s) j ≡ bit_at n i
right_bit n s j i e = ap (λ k. k % 2) (shr-shr n s j) ∙ ap (λ k. bit_at n k) e

-- a bit of the low 32
word_bit : (x j : ℕ) → j < 32 → bit_at (x % 2 ^ 32) j ≡ bit_at x j
word_bit x j lt = sym (bit_at_cat_low (x / 2 ^ 32) 32 (x % 2 ^ 32) j lt) ∙ ap (λ k. bit_at k j) (div-add-mod' x (2 ^ 32))

left_bit : (n t j i : ℕ) → i + t ≡ j → j < 32 → bit_at ((n * 2 ^ t) % 2 ^ 32) j ≡ bit_at n i
left_bit n t j i e lt =
    let past : t ≤ j = omega (arith, e) in
    let back : j - t ≡ i = omega (arith, e) in
    word_bit (n * 2 ^ t) j lt ∙ ap (λ k. bit_at k j) (sym (add-zero (n * 2 ^ t))) ∙ bit_at_cat_high n t 0 j (pow_pos t) past ∙ ap (λ k. bit_at n k) back

-- A bit that goes as far as from one place to another.
shifted_bit : (f t n i j : ℕ) → f < 32 → t < 32 → j < 32 → f + j ≡ i + t → bit_at (shifted f t n) j ≡ bit_at n i
shifted_bit f t n i j lf lt lj e = go (nat_lt t f) refl (nat_lt f t) refl
  where
    go : (a : Bool) → nat_lt t f ≡ a → (b : Bool) → nat_lt f t ≡ b → bit_at (if a then ishr_u 32 n (f - t) else (if b then ishl 32 n (t - f) else n)) j ≡ bit_at n i
    go true p b q =
        let below = ltb-true t f p in
        let count : (f - t) % 32 ≡ f - t = omega (arith, lf) in
        let far : f - t + j ≡ i = omega (arith, below, e) in
        ap (λ k. bit_at (n / 2 ^ k) j) count ∙ right_bit n (f - t) j i far
    go false p true q =
        let below = ltb-true f t q in
        let count : (t - f) % 32 ≡ t - f = omega (arith, lt) in
        let far : i + (t - f) ≡ j = omega (arith, below, e) in
        ap (λ k. bit_at ((n * 2 ^ k) % 2 ^ 32) j) count ∙ left_bit n (t - f) j i far lj
    go false p false q =
        let u = ltb-false t f p in
        let v = ltb-false f t q in
        let same : j ≡ i = omega (arith, u, v, e) in
        ap (λ k. bit_at n k) same

-- ---- masks

-- a mask with one more bit, past the others
one_more : (k y m : ℕ) → m < 2 ^ k → bit_and y (bit_or m (2 ^ k)) ≡ bit_and y m + bit_at y k * 2 ^ k
one_more k y m small =
    let whole = div-add-mod' y (2 ^ k) in
    let low = mod-lt y (pow_pos k) in
    let mask : bit_or m (2 ^ k) ≡ 1 * 2 ^ k + m = ap (λ p. bit_or m p) (sym (one-mul (2 ^ k))) ∙ or_shifted_r 1 k m small in
    let same : m ≡ 0 * 2 ^ k + m = sym (ap (λ z. z + m) (zero-mul (2 ^ k)) ∙ zero-add m) in
    let with_it : bit_and y (1 * 2 ^ k + m) ≡ bit_at y k * 2 ^ k + bit_and (y % 2 ^ k) m =
    ap (λ z. bit_and z (1 * 2 ^ k + m)) (sym whole) ∙ and_block k (y / 2 ^ k) 1 (y % 2 ^ k) m low small ∙ ap (λ b. b * 2 ^ k + bit_and (y % 2 ^ k) m) (shr_and_one y k) in
    let without : bit_and y m ≡ bit_and (y % 2 ^ k) m =
    ap (λ z. bit_and y z) same ∙ ap (λ z. bit_and z (0 * 2 ^ k + m)) (sym whole) ∙ and_block k (y / 2 ^ k) 0 (y % 2 ^ k) m low small
    ∙ ap (λ b. b * 2 ^ k + bit_and (y % 2 ^ k) m) (and_zero_r (y / 2 ^ k)) ∙ ap (λ z. z + bit_and (y % 2 ^ k) m) (zero-mul (2 ^ k)) ∙ zero-add (bit_and (y % 2 ^ k) m) in
    ap (λ z. bit_and y z) mask ∙ with_it ∙ ap (λ z. bit_at y k * 2 ^ k + z) (sym without) ∙ add_comm (bit_at y k * 2 ^ k) (bit_and y m)

-- bits past those of two numbers
or_left : (k c a b : ℕ) → a < 2 ^ k → b < 2 ^ k → bit_or (a + c * 2 ^ k) b ≡ bit_or a b + c * 2 ^ k
or_left k c a b la lb =
    let same : b ≡ 0 * 2 ^ k + b = sym (ap (λ z. z + b) (zero-mul (2 ^ k)) ∙ zero-add b) in
    ap (λ z. bit_or z b) (add_comm a (c * 2 ^ k)) ∙ ap (λ z. bit_or (c * 2 ^ k + a) z) same ∙ or_block k c 0 a b la lb
    ∙ ap (λ z. z * 2 ^ k + bit_or a b) (or_zero_r c) ∙ add_comm (c * 2 ^ k) (bit_or a b)

or_right : (k c a b : ℕ) → a < 2 ^ k → b < 2 ^ k → bit_or a (b + c * 2 ^ k) ≡ bit_or a b + c * 2 ^ k
or_right k c a b la lb = or_comm a (b + c * 2 ^ k) ∙ or_left k c b a lb la ∙ ap (λ z. z + c * 2 ^ k) (or_comm b a)

-- ---- moves of bits to places below one

moved_below : (k : ℕ) (m : BitMove) → m.mask < 2 ^ k → (n : ℕ) → moved m n < 2 ^ k
moved_below k m small n = lt_of_le_of_lt (and_le_r (shifted m.from m.to n) m.mask) small

all_below : (k : ℕ) (ms : List BitMove) → AllByRecursion (IsMove k) ms → (n : ℕ) → moved_bits ms n < 2 ^ k
all_below k [] h n = pow_pos k
all_below k (m ∷ ms) h n = or_lt k (moved_bits ms n) (moved m n) (all_below k ms h.1 n) (moved_below k m h.0.mask n)

more : {k l : ℕ} {m : BitMove} → k ≤ l → IsMove k m → IsMove l m
more le h = record { from = h.from; to = h.to; mask = lt_of_lt_of_le h.mask (pow_mono le) }

all_more : (k l : ℕ) → k ≤ l → (ms : List BitMove) → AllByRecursion (IsMove k) ms → AllByRecursion (IsMove l) ms
all_more k l le [] h = tt
all_more k l le (m ∷ ms) h = (more le h.0, all_more k l le ms h.1)

all_set : (P : BitMove → Type 0) (ms : List BitMove) (i : ℕ) (new : BitMove) → AllByRecursion P ms → P new → AllByRecursion P (slice_set ms i new)
all_set P [] i new h p = tt
all_set P (m ∷ ms) zero new h p = (p, h.1)
all_set P (m ∷ ms) (suc i) new h p = (h.0, all_set P ms i new h.1 p)

all_push : (P : BitMove → Type 0) (ms : List BitMove) (new : BitMove) → AllByRecursion P ms → P new → AllByRecursion P (ms ++ new ∷ [])
all_push P [] new h p = (p, tt)
all_push P (m ∷ ms) new h p = (h.0, all_push P ms new h.1 p)

-- what stands at a place is kept
kept_at : (P : BitMove → Type 0) (ms : List BitMove) (i : ℕ) (m : BitMove) → slice_get ms i ≡ Some m → AllByRecursion P ms → P m
kept_at P [] i m at h = absurd (none_some None m refl at)
kept_at P (x ∷ ms) zero m at h = subst P (same_some (Some x) x m refl at) h.0
kept_at P (x ∷ ms) (suc i) m at h = kept_at P ms i m at h.1

-- one of them takes bits past the others
set_moved : (k c n : ℕ) (ms : List BitMove) (i : ℕ) (m new : BitMove) → AllByRecursion (IsMove k) ms → slice_get ms i ≡ Some m → moved new n ≡ moved m n + c * 2 ^ k → moved_bits (slice_set ms i new) n ≡ moved_bits ms n + c * 2 ^ k
set_moved k c n [] i m new h at e = absurd (none_some None m refl at)
set_moved k c n (x ∷ ms) zero m new h at e =
    let same : x ≡ m = same_some (Some x) x m refl at in
    let here : moved new n ≡ moved x n + c * 2 ^ k = e ∙ ap (λ z. moved z n + c * 2 ^ k) (sym same) in
    ap (λ z. bit_or (moved_bits ms n) z) here ∙ or_right k c (moved_bits ms n) (moved x n) (all_below k ms h.1 n) (moved_below k x h.0.mask n)
set_moved k c n (x ∷ ms) (suc i) m new h at e =
    ap (λ z. bit_or z (moved x n)) (set_moved k c n ms i m new h.1 at e) ∙ or_left k c (moved_bits ms n) (moved x n) (all_below k ms h.1 n) (moved_below k x h.0.mask n)

-- another one takes them
push_moved : (k c n : ℕ) (ms : List BitMove) (new : BitMove) → AllByRecursion (IsMove k) ms → moved new n ≡ c * 2 ^ k → moved_bits (ms ++ new ∷ []) n ≡ moved_bits ms n + c * 2 ^ k
push_moved k c n [] new h e = or_zero_l (moved new n) ∙ e ∙ sym (zero-add (c * 2 ^ k))
push_moved k c n (x ∷ ms) new h e =
    ap (λ z. bit_or z (moved x n)) (push_moved k c n ms new h.1 e) ∙ or_left k c (moved_bits ms n) (moved x n) (all_below k ms h.1 n) (moved_below k x h.0.mask n)

-- ---- one more bit

-- a move that takes that bit too
abbrev pub joined : BitMove → (mask : ℕ) → BitMove
joined m mask = record { from = m.from; to = m.to; mask = bit_or m.mask mask }

abbrev pub with_bit : BitMove → (to : ℕ) → BitMove
with_bit m to = joined m (2 ^ to)

abbrev pub new_mask : (from to mask : ℕ) → BitMove
new_mask from to mask = record { from = from; to = to; mask = mask }

abbrev pub new_bit : (from to : ℕ) → BitMove
new_bit from to = new_mask from to (2 ^ to)

next_power : (k : ℕ) → 2 ^ (k + 1) ≡ 2 ^ k * 2
next_power k = ap (λ l. 2 ^ l) (add-one k) ∙ pow-suc 2 k

bit_small : (k : ℕ) → 2 ^ k < 2 ^ (k + 1)
bit_small k = let e = next_power k in let p = pow_pos k in omega (arith, e, p)

bit_added : (n from to : ℕ) (m : BitMove) → to < 32 → IsMove to m → m.from + to ≡ from + m.to → moved (with_bit m to) n ≡ moved m n + bit_at n from * 2 ^ to
bit_added n from to m lt h e = one_more to (shifted m.from m.to n) m.mask h.mask ∙ ap (λ b. moved m n + b * 2 ^ to) (shifted_bit m.from m.to n from to h.from h.to lt e)

bit_new : (n from to : ℕ) → from < 32 → to < 32 → moved (new_bit from to) n ≡ bit_at n from * 2 ^ to
bit_new n from to lf lt = and_pow (shifted from to n) to ∙ ap (λ b. b * 2 ^ to) (shifted_bit from to n from to lf lt lt refl)

-- the move at a place, if it takes bits as far
pub together_at : {ms : List BitMove} (at from to : ℕ) (m : BitMove) → at < length ms → (get_or ms at m).from + to ≡ from + (get_or ms at m).to → IsTogether ms at from to
together_at {ms} at from to m lt e = record { move = get_or ms at m; there = slice_get-get_or ms at m lt; same = e }

-- that move with one more bit
pub bit_put : {ms : List BitMove} {at from to mask : ℕ} (m : BitMove) → (t : IsTogether ms at from to) → m ≡ get_or ms at m → mask ≡ 2 ^ to → joined m mask ≡ with_bit t.move to
bit_put {ms} {at} m t here e =
    let same : m ≡ t.move = here ∙ get_or_from_slice_get ms at t.move m t.there in
    λ j. joined (same j) (e j)

pub added_together : {ms news : List BitMove} {at from to : ℕ} → to < 32 → AllByRecursion (IsMove to) ms → (t : IsTogether ms at from to) → news ≡ slice_set ms at (with_bit t.move to) → AddsPlace ms news (Some from) to
added_together {ms} {news} {at} {from} {to} lt each t is =
    let m = t.move in
    let h = kept_at (IsMove to) ms at m t.there each in
    let le : to ≤ to + 1 = omega arith in
    let size : length news ≡ length ms = ap length is ∙ length-set ms at (with_bit m to) in
    record {
      few = omega (arith, size);
      each = subst (AllByRecursion (IsMove (to + 1))) (sym is)
          (all_set (IsMove (to + 1)) ms at (with_bit m to) (all_more to (to + 1) le ms each)
          (record { from = h.from; to = h.to; mask = or_lt (to + 1) m.mask (2 ^ to) (lt_of_lt_of_le h.mask (pow_mono le)) (bit_small to) }));
      number = λ n. ap (λ l. moved_bits l n) is ∙ set_moved to (bit_at n from) n ms at m (with_bit m to) each t.there (bit_added n from to m lt h t.same);
    }

pub added_alone : {ms news : List BitMove} {from to : ℕ} → from < 32 → to < 32 → AllByRecursion (IsMove to) ms → news ≡ ms ++ new_bit from to ∷ [] → AddsPlace ms news (Some from) to
added_alone {ms} {news} {from} {to} lf lt each is =
    let le : to ≤ to + 1 = omega arith in
    let size : length news ≡ length ms + 1 = ap length is ∙ length_push ms (new_bit from to) in
    record {
      few = omega (arith, size);
      each = subst (AllByRecursion (IsMove (to + 1))) (sym is)
          (all_push (IsMove (to + 1)) ms (new_bit from to) (all_more to (to + 1) le ms each) (record { from = lf; to = lt; mask = bit_small to }));
      number = λ n. ap (λ l. moved_bits l n) is ∙ push_moved to (bit_at n from) n ms (new_bit from to) each (bit_new n from to lf lt);
    }

pub added_nothing : {ms : List BitMove} {place : Option ℕ} {to : ℕ} → place ≡ None → AllByRecursion (IsMove to) ms → AddsPlace ms ms place to
added_nothing {ms} {place} {to} is each = subst (λ p. AddsPlace ms ms p to) (sym is) (record {
  few = omega arith;
  each = all_more to (to + 1) (let le : to ≤ to + 1 = omega arith in le) ms each;
  number = λ n. sym (ap (λ z. moved_bits ms n + z) (zero-mul (2 ^ to)) ∙ add-zero (moved_bits ms n));
})

-- ---- all of them

twice_more : (x a b t u : ℕ) → b ≡ a + t → u ≡ 2 * t → x + 2 * b ≡ x + 2 * a + u
twice_more x a b t u h e = omega (arith, h, e)

placed_push : (is : List (Option ℕ)) (i : Option ℕ) (n : ℕ) → placed_bits (is ++ i ∷ []) n ≡ placed_bits is n + placed_bit i n * 2 ^ length is
placed_push [] i n = omega arith
placed_push (x ∷ is) i n =
    let b = placed_bit i n in
    let p = 2 ^ length is in
    let twice : b * 2 ^ suc (length is) ≡ 2 * (b * p) = ap (λ k. b * k) (pow-suc 2 (length is)) ∙ sym (mul_assoc b p 2) ∙ mul_comm (b * p) 2 in
    twice_more (placed_bit x n) (placed_bits is n) (placed_bits (is ++ i ∷ []) n) (b * p) (b * 2 ^ suc (length is)) (placed_push is i n) twice

-- the moves of the bits at the places so far
pub record BitsSoFar (ms : List BitMove) (is : List (Option ℕ)) (k : ℕ) : Type 0 where
  pub few : length ms ≤ k
  pub each : AllByRecursion (IsMove k) ms
  pub number : (n : ℕ) → moved_bits ms n ≡ placed_bits (take k is) n

pub bits_none : {ms : List BitMove} (is : List (Option ℕ)) → ms ≡ [] → BitsSoFar ms is 0
bits_none {ms} is e = subst (λ ms. BitsSoFar ms is 0) (sym e) (record { few = omega arith; each = tt; number = λ n. refl })

pub bits_more : {ms news : List BitMove} {is : List (Option ℕ)} {k : ℕ} (d : Option ℕ) → k < length is → BitsSoFar ms is k → AddsPlace ms news (get_or is k d) k → BitsSoFar news is (k + 1)
bits_more {ms} {news} {is} {k} d lt h a = record {
  few = omega (arith, h.few, a.few);
  each = a.each;
  number = λ n.
      let b = placed_bit (get_or is k d) n in
      let size : length (take k is) ≡ k = length-take-le k is (omega (arith, lt)) in
      let all : placed_bits (take (k + 1) is) n ≡ placed_bits (take k is) n + b * 2 ^ k =
      ap (λ l. placed_bits l n) (take_more is k d lt) ∙ placed_push (take k is) (get_or is k d) n ∙ ap (λ l. placed_bits (take k is) n + b * 2 ^ l) size in
      a.number n ∙ ap (λ z. z + b * 2 ^ k) (h.number n) ∙ sym all;
}

pub bits_all : {ms : List BitMove} {is : List (Option ℕ)} {k : ℕ} → length is ≤ k → k ≤ length is → BitsSoFar ms is k → MakeBits ms is
bits_all {ms} {is} {k} most le h = record { few = omega (arith, h.few, le); number = λ n. h.number n ∙ ap (λ l. placed_bits l n) (take_all k is most) }

placed_bit_small : (i : Option ℕ) (n : ℕ) → placed_bit i n < 2
placed_bit_small None n = omega arith
placed_bit_small (Some i) n = bit_at-lt n i

pub placed_small : (is : List (Option ℕ)) (n : ℕ) → placed_bits is n < 2 ^ length is
placed_small [] n = omega arith
placed_small (i ∷ is) n = let h = placed_small is n in let b = placed_bit_small i n in let e = pow-suc 2 (length is) in omega (arith, h, b, e)

-- moves that make the bits at at most 32 places
pub made_few : {ms ds : List BitMove} {is : List (Option ℕ)} → ds ≡ ms → MakeBits ms is → AreBitPlaces is → length ds ≤ 32
made_few {ms} {ds} {is} e h p = let size : length ds ≡ length ms = ap length e in omega (arith, size, h.few, p.few)

pub made_small : {ms ds : List BitMove} {is : List (Option ℕ)} → ds ≡ ms → MakeBits ms is → AreBitPlaces is → (x : ℕ) → moved_bits ds x < 2 ^ 32
made_small {ms} {ds} {is} e h p x =
    let same : moved_bits ds x ≡ placed_bits is x = ap (λ l. moved_bits l x) e ∙ h.number x in
    subst (λ z. z < 2 ^ 32) (sym same) (lt_of_lt_of_le (placed_small is x) (pow_mono p.few))
