-- Numbers in memories that agree, and memories in a world.
use Rattle.std.proofs.Common.{◌≡◌, ◌≢◌, ℕ, zero, suc, ◌+◌, ◌%◌, ◌^◌, ◌≤◌, ◌<◌, inl, inr, ⊎_elim, Bool, true, false, List, [], ◌∷◌, length, take, drop, get_or, Some, None, refl, sym, ap, ◌∙◌, subst, arith, length-take, length-drop, lit<}
use Rattle.std.specs.Prelude.{slice_get, slice_set, nat_le, if◌then◌else◌}
use Rattle.std.proofs.lemmas.Bool.{cases_lt, le-leb, leb-true}
use Rattle.std.proofs.lemmas.List.{get_or-take, get_or-drop, get_or_past}
use Rattle.fact_types.proofs.ShapeLaws.{same_some, none_some}
use Rattle.fact_machine.specs.World.{number_at, number_of, with_number}
use Rattle.fact_machine.proofs.Bytes.{number_below}
use Rattle.fact_machine.proofs.Places.{load_after_store, store_keeps_others, store_keeps_length}
use Rattle.fact_values.specs.Numbers.{number_in}
use Rattle.fact_action_laws.specs.Footprints.{HasPlaced}

-- bytes that agree on a range
pub same_range : (m m' : List ℕ) (a n : ℕ) → a + n ≤ length m → length m ≤ length m' → ((j : ℕ) → a ≤ j → j < a + n → get_or m' j 0 ≡ get_or m j 0) → take n (drop a m') ≡ take n (drop a m)
same_range m m' a zero h le e = refl
same_range [] m' a (suc n) h le e = absurd (omega arith)
same_range (x ∷ m) [] a (suc n) h le e = absurd (omega arith)
same_range (x ∷ m) (y ∷ m') zero (suc n) h le e =
    let head : y ≡ x = e zero (omega arith) (omega arith) in
    let tail = same_range m m' zero n (omega arith) (omega arith) (λ j lo hi. e (suc j) (omega arith) (omega arith)) in
    ap (λ z. z ∷ take n m') head ∙ ap (λ l. x ∷ l) tail
same_range (x ∷ m) (y ∷ m') (suc a) (suc n) h le e = same_range m m' a (suc n) (omega arith) (omega arith) (λ j lo hi. e (suc j) (omega arith) (omega arith))

-- a number whose bytes are all there
pub number_within : (m : List ℕ) (n a : ℕ) → a + n ≤ length m → number_in m n a ≡ Some (number_at n m a)
number_within m n a le = ap (λ b. if b then Some (number_at n m a) else None) (le-leb (a + n) (length m) le)

-- and what that tells
pub record IsNumber (m : List ℕ) (n a x : ℕ) : Type 0 where
  pub within : a + n ≤ length m
  pub is : number_at n m a ≡ x

pub number_tells : (m : List ℕ) (n a x : ℕ) → number_in m n a ≡ Some x → IsNumber m n a x
number_tells m n a x e = go (nat_le (a + n) (length m)) refl e
  where
    go : (b : Bool) → nat_le (a + n) (length m) ≡ b → (if b then Some (number_at n m a) else None) ≡ Some x → IsNumber m n a x
    go true t h = record { within = leb-true (a + n) (length m) t; is = same_some _ (number_at n m a) x refl h }
    go false t h = absurd (none_some None x refl h)

-- the bytes of a number in a memory of bytes
pub number_small : (m : List ℕ) (n a x : ℕ) → ((j : ℕ) → get_or m j 0 < 256) → number_in m n a ≡ Some x → x < 256 ^ n
number_small m n a x bytes e =
    let t = number_tells m n a x e in
    let long : length (take n (drop a m)) ≡ n = omega (arith, length-take n (drop a m), length-drop a m, t.within) in
    let low : number_at n m a < 256 ^ length (take n (drop a m)) = number_below (take n (drop a m)) (λ k. below k) in
    subst (λ y. y < 256 ^ n) t.is (subst (λ k. number_at n m a < 256 ^ k) long low)
  where
    below : (k : ℕ) → get_or (take n (drop a m)) k 0 < 256
    below k = ⊎_elim (λ lt. subst (λ y. y < 256) (sym (get_or-take n (drop a m) k 0 lt ∙ get_or-drop a m k 0)) (bytes (a + k)))
        (λ ge. subst (λ y. y < 256) (sym (get_or_past (take n (drop a m)) k 0 (omega (arith, ge, length-take n (drop a m))))) (lit< tt)) (cases_lt k n)

-- a number that was put, where its bytes have stayed
pub placed_number : (m : List ℕ) (n a x : ℕ) (Live : ℕ → Type 0) → a + n ≤ length m → HasPlaced m (with_number n m a x) Live Live (λ j. (a ≤ j) × (j < a + n)) (λ m'. number_in m' n a ≡ Some (x % 256 ^ n))
placed_number m n a x Live le =
    let long = store_keeps_length m n a x le in record {
      frame = λ j live out. ⊎_elim (λ lt. store_keeps_others m n a x j le (inl lt)) (λ ge. ⊎_elim (λ lt. absurd (out (ge, lt))) (λ past. store_keeps_others m n a x j le (inr past)) (cases_lt j (a + n))) (cases_lt j a);
      grows = λ j live. live;
      room = omega (arith, long);
      stands = record {
        holds = λ m' g.
            number_within m' n a (omega (arith, le, long, g.room))
            ∙ ap (λ l. Some (number_of l)) (same_range (with_number n m a x) m' a n (omega (arith, le, long)) g.room (λ j lo hi. g.same j (inl (lo, hi))))
            ∙ ap Some (load_after_store m n a x le);
      };
    }

-- ---- memories in a list

pub get_set_same : {X : Type 0} (xs : List X) (i : ℕ) (x y : X) → slice_get xs i ≡ Some x → slice_get (slice_set xs i y) i ≡ Some y
get_set_same [] i x y e = absurd (none_some None x refl e)
get_set_same (z ∷ xs) zero x y e = refl
get_set_same (z ∷ xs) (suc i) x y e = get_set_same xs i x y e

pub get_set_other : {X : Type 0} (xs : List X) (i j : ℕ) (y : X) → j ≢ i → slice_get (slice_set xs i y) j ≡ slice_get xs j
get_set_other [] i j y ne = refl
get_set_other (z ∷ xs) zero zero y ne = absurd (ne refl)
get_set_other (z ∷ xs) zero (suc j) y ne = refl
get_set_other (z ∷ xs) (suc i) zero y ne = refl
get_set_other (z ∷ xs) (suc i) (suc j) y ne = get_set_other xs i j y (λ e. ne (ap suc e))
