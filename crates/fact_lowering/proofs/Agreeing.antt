-- Memories that agree in ranges, and what was written between two cursors and at a place.
use Rattle.std.proofs.Common.{◌≡◌, ℕ, zero, suc, ◌+◌, ◌^◌, ◌%◌, ◌≤◌, ◌<◌, ◌⊎◌, inl, inr, ⊎_elim, Bool, true, false, List, [], ◌∷◌, length, take, drop, get_or, Option, Some, None, refl, sym, ap, ◌∙◌, subst, arith, mod-eq_of_lt}
use Rattle.std.specs.Prelude.{nat_le, if◌then◌else◌}
use Rattle.std.proofs.lemmas.Bool.{cases_lt, le-leb}
use Rattle.fact_machine.specs.World.{bytes_of, number_of, number_at, put_at, with_number}
use Rattle.fact_machine.proofs.Bytes.{length-bytes_of, number_of-bytes_of}
use Rattle.fact_machine.proofs.Places.{put_below, put_above, put_length, put_read}
use Rattle.fact_values.specs.Numbers.{number_in}
use Rattle.fact_lowering.specs.Lowered.{AgreeWithin, IsChanged, IsWritten, Rises}

-- ---- memories that agree

pub agree_same : (low high : ℕ) (m : List ℕ) → AgreeWithin low high m m
agree_same low high m = record { same_length = refl; each = λ j lo hi. refl }

pub agree_then : {low high : ℕ} {a b c : List ℕ} → AgreeWithin low high a b → AgreeWithin low high b c → AgreeWithin low high a c
agree_then g h = record { same_length = g.same_length ∙ h.same_length; each = λ j lo hi. g.each j lo hi ∙ h.each j lo hi }

pub agree_within : {low high : ℕ} {a b : List ℕ} (l h : ℕ) → low ≤ l → h ≤ high → AgreeWithin low high a b → AgreeWithin l h a b
agree_within l h le ge g = record { same_length = g.same_length; each = λ j lo hi. g.each j (omega (arith, le, lo)) (omega (arith, ge, hi)) }

-- what lies outside of what was changed agrees
pub changed_agree : {place size low high : ℕ} {a b : List ℕ} (l h : ℕ) → IsChanged place size low high a b → ((j : ℕ) → l ≤ j → j < h → ((j < place) ⊎ (place + size ≤ j)) × ((j < low) ⊎ (high ≤ j))) → AgreeWithin l h a b
changed_agree l h c out = record { same_length = c.same_length; each = λ j lo hi. let o = out j lo hi in c.kept j o.0 o.1 }

-- the bytes of a range on which memories agree
same_part : (m m' : List ℕ) (a n : ℕ) → length m ≡ length m' → ((j : ℕ) → a ≤ j → j < a + n → get_or m j 0 ≡ get_or m' j 0) → take n (drop a m) ≡ take n (drop a m')
same_part m m' a zero l e = refl
same_part [] [] a (suc n) l e = refl
same_part [] (y ∷ m') a (suc n) l e = absurd (omega (arith, l))
same_part (x ∷ m) [] a (suc n) l e = absurd (omega (arith, l))
same_part (x ∷ m) (y ∷ m') zero (suc n) l e =
    let head : x ≡ y = e zero (omega arith) (omega arith) in
    let tail = same_part m m' zero n (omega (arith, l)) (λ j lo hi. e (suc j) (omega arith) (omega (arith, hi))) in
    ap (λ z. z ∷ take n m) head ∙ ap (λ k. y ∷ k) tail
same_part (x ∷ m) (y ∷ m') (suc a) (suc n) l e = same_part m m' a (suc n) (omega (arith, l)) (λ j lo hi. e (suc j) (omega (arith, lo)) (omega (arith, hi)))

pub part_agrees : {m m' : List ℕ} (a n : ℕ) → AgreeWithin a (a + n) m m' → take n (drop a m) ≡ take n (drop a m')
part_agrees {m} {m'} a n g = same_part m m' a n g.same_length g.each

-- a number whose bytes are all there
pub number_within : (m : List ℕ) (n a : ℕ) → a + n ≤ length m → number_in m n a ≡ Some (number_at n m a)
number_within m n a le = ap (λ b. if b then Some (number_at n m a) else None) (le-leb (a + n) (length m) le)

-- ---- what was written

-- nothing was written
pub written_nothing : (Reads : List ℕ → Type 0) (place size cursor : ℕ) (m : List ℕ) → cursor ≤ length m → ((b : List ℕ) → length m ≡ length b → Reads b) → IsWritten Reads place size cursor cursor 0 m m
written_nothing Reads place size cursor m le f = record {
  reads = λ b g h. f b h.same_length;
  changed = record { same_length = refl; kept = λ j o q. refl };
  rises = record { up = omega arith; few = omega arith; inside = le };
}

-- what is read tells something else
pub written_also : {R Q : List ℕ → Type 0} {place size low high most : ℕ} {m m' : List ℕ} → IsWritten R place size low high most m m' → ((b : List ℕ) → length m ≡ length b → R b → Q b) → IsWritten Q place size low high most m m'
written_also w f = record { reads = λ b g h. f b (w.changed.same_length ∙ h.same_length) (w.reads b g h); changed = w.changed; rises = w.rises }

-- in a wider place, and with more room
pub written_wider : {R : List ℕ → Type 0} {place size low high most : ℕ} {m m' : List ℕ} (place' size' most' : ℕ) → place' ≤ place → place + size ≤ place' + size' → most ≤ most' → IsWritten R place size low high most m m' → IsWritten R place' size' low high most' m m'
written_wider {R} {place} {size} {low} {high} {most} {m} {m'} place' size' most' ge le more w = record {
  reads = λ b g h. w.reads b (agree_within place (place + size) ge le g) h;
  changed = record { same_length = w.changed.same_length; kept = λ j o q. w.changed.kept j (out j o) q };
  rises = record { up = w.rises.up; few = omega (arith, w.rises.few, more); inside = w.rises.inside };
}
  where
    out : (j : ℕ) → (j < place') ⊎ (place' + size' ≤ j) → (j < place) ⊎ (place + size ≤ j)
    out j (inl lt) = inl (omega (arith, lt, ge))
    out j (inr past) = inr (omega (arith, past, le))

-- A place of no bytes is as good as any other.
pub written_elsewhere : {R : List ℕ → Type 0} {place low high most : ℕ} {m m' : List ℕ} (place' : ℕ) → IsWritten R place 0 low high most m m' → IsWritten R place' 0 low high most m m'
written_elsewhere {R} {place} place' w = record {
  reads = λ b g h. w.reads b (record { same_length = g.same_length; each = λ j lo hi. absurd (omega (arith, lo, hi)) }) h;
  changed = record { same_length = w.changed.same_length; kept = λ j o q. w.changed.kept j (out j (cases_lt j place)) q };
  rises = w.rises;
}
  where
    out : (j : ℕ) → (j < place) ⊎ (place ≤ j) → (j < place) ⊎ (place + 0 ≤ j)
    out j (inl lt) = inl lt
    out j (inr ge) = inr (omega (arith, ge))

-- A place that was taken at the cursor lies between the cursors.
pub written_taken : {R : List ℕ → Type 0} {place size mid high most : ℕ} {m m' : List ℕ} (low most' : ℕ) → low ≤ place → mid ≡ place + size → mid + most ≤ low + most' → IsWritten R place size mid high most m m' → IsWritten R low 0 low high most' m m'
written_taken {R} {place} {size} {mid} {high} {most} {m} {m'} low most' ge is more w = record {
  reads = λ b g h. w.reads b (agree_within place (place + size) ge (omega (arith, is, w.rises.up)) h) (agree_within mid high (omega (arith, ge, is)) (omega arith) h);
  changed = record { same_length = w.changed.same_length; kept = λ j o q. (out j q) };
  rises = record { up = omega (arith, ge, is, w.rises.up); few = omega (arith, w.rises.few, more); inside = w.rises.inside };
}
  where
    out : (j : ℕ) → (j < low) ⊎ (high ≤ j) → get_or m j 0 ≡ get_or m' j 0
    out j (inl lt) = w.changed.kept j (inl (omega (arith, lt, ge))) (inl (omega (arith, lt, ge, is)))
    out j (inr past) = w.changed.kept j (inr (omega (arith, past, is, w.rises.up))) (inr past)

-- Two things, one behind the other, at places within a place.
module _ {R Q : List ℕ → Type 0} {p n q k low mid high most more : ℕ} {m m' m'' : List ℕ} (place size : ℕ) where
  pub written_both : place ≤ p → p + n ≤ q → q + k ≤ place + size → q + k ≤ low → IsWritten R p n low mid most m m' → IsWritten Q q k mid high more m' m'' → IsWritten (λ b. R b × Q b) place size low high (most + more) m m''
  written_both ge before within below v w = record {
    reads = λ b g h.
        let first = changed_agree p (p + n) w.changed (λ j lo hi. (inl (omega (arith, hi, before)), inl (omega (arith, hi, before, below, v.rises.up)))) in
        let inner = changed_agree low mid w.changed (λ j lo hi. (inr (omega (arith, lo, below)), inl hi)) in (
          v.reads b (agree_then first (agree_within p (p + n) ge (omega (arith, before, within)) g)) (agree_then inner (agree_within low mid (omega arith) (omega (arith, w.rises.up)) h)),
          w.reads b (agree_within q (q + k) (omega (arith, ge, before)) within g) (agree_within mid high (omega (arith, v.rises.up)) (omega arith) h),
        );
    changed = record {
      same_length = v.changed.same_length ∙ w.changed.same_length;
      kept = λ j o c. v.changed.kept j (out_first j o) (in_first j c) ∙ w.changed.kept j (out_second j o) (in_second j c);
    };
    rises = record { up = omega (arith, v.rises.up, w.rises.up); few = omega (arith, v.rises.few, w.rises.few); inside = w.rises.inside };
  }
    where
      out_first : (j : ℕ) → (j < place) ⊎ (place + size ≤ j) → (j < p) ⊎ (p + n ≤ j)
      out_first j (inl lt) = inl (omega (arith, lt, ge))
      out_first j (inr past) = inr (omega (arith, past, before, within))

      out_second : (j : ℕ) → (j < place) ⊎ (place + size ≤ j) → (j < q) ⊎ (q + k ≤ j)
      out_second j (inl lt) = inl (omega (arith, lt, ge, before))
      out_second j (inr past) = inr (omega (arith, past, within))

      in_first : (j : ℕ) → (j < low) ⊎ (high ≤ j) → (j < low) ⊎ (mid ≤ j)
      in_first j (inl lt) = inl lt
      in_first j (inr past) = inr (omega (arith, past, w.rises.up))

      in_second : (j : ℕ) → (j < low) ⊎ (high ≤ j) → (j < mid) ⊎ (high ≤ j)
      in_second j (inl lt) = inl (omega (arith, lt, v.rises.up))
      in_second j (inr past) = inr past

-- ---- bytes and numbers

pub bytes_written : (m : List ℕ) (a cursor : ℕ) (bs : List ℕ) → a + length bs ≤ cursor → cursor ≤ length m → IsWritten (λ b. take (length bs) (drop a b) ≡ bs) a (length bs) cursor cursor 0 m (put_at m a bs)
bytes_written m a cursor bs le inside = record {
  reads = λ b g h. sym (part_agrees a (length bs) g) ∙ put_read m a bs (omega (arith, le, inside));
  changed = record { same_length = sym (put_length m a bs (omega (arith, le, inside))); kept = λ j o q. kept j o };
  rises = record { up = omega arith; few = omega arith; inside = omega (arith, inside, put_length m a bs (omega (arith, le, inside))) };
}
  where
    kept : (j : ℕ) → (j < a) ⊎ (a + length bs ≤ j) → get_or m j 0 ≡ get_or (put_at m a bs) j 0
    kept j (inl lt) = sym (put_below m a bs j 0 (omega (arith, le, inside)) lt)
    kept j (inr past) = sym (put_above m a bs j 0 (omega (arith, le, inside)) past)

-- the lowest bytes of a number
pub number_put : (m : List ℕ) (n a x cursor : ℕ) → a + n ≤ cursor → cursor ≤ length m → IsWritten (λ b. number_in b n a ≡ Some (x % 256 ^ n)) a n cursor cursor 0 m (with_number n m a x)
number_put m n a x cursor le inside =
    let len : length (bytes_of n x) ≡ n = length-bytes_of n x in
    let w = subst (λ k. IsWritten (λ b. take k (drop a b) ≡ bytes_of n x) a k cursor cursor 0 m (with_number n m a x)) len (bytes_written m a cursor (bytes_of n x) (omega (arith, le, len)) inside) in
    written_also w (λ b l e. number_within b n a (omega (arith, le, inside, l)) ∙ ap Some (ap number_of e ∙ number_of-bytes_of n x))

pub number_written : (m : List ℕ) (n a x cursor : ℕ) → a + n ≤ cursor → cursor ≤ length m → x < 256 ^ n → IsWritten (λ b. number_in b n a ≡ Some x) a n cursor cursor 0 m (with_number n m a x)
number_written m n a x cursor le inside small = written_also (number_put m n a x cursor le inside) (λ b l e. e ∙ ap Some (mod-eq_of_lt small))
