-- A pointer and a length at sources and at targets.
use Rattle.std.proofs.Common.{◌≡◌, ℕ, ◌+◌, ◌*◌, ◌%◌, ◌^◌, ◌<◌, ◌⊎◌, inl, inr, Bool, true, false, List, [], ◌∷◌, ◌++◌, Option, Some, None, refl, sym, ap, ◌∙◌, subst, arith, mod-eq_of_lt}
use Rattle.std.specs.Prelude.{nat_eq, if◌then◌else◌}
use Rattle.std.proofs.lemmas.Bool.{false≢true}
use Rattle.fact_types.specs.declared.flats.FlatType.{FlatType}
use Rattle.fact_types.specs.declared.flats.FlatType.TheVariants as flat_type
use Rattle.fact_types.specs.FlatShapes.{pointer}
use Rattle.fact_types.specs.Signatures.{pointer_bytes, width}
use Rattle.fact_types.proofs.ShapeLaws.{same_some, none_some}
use Rattle.fact_machine.specs.declared.types.CoreValue.{CoreValue}
use Rattle.fact_machine.specs.World.{World, Stop}
use Rattle.fact_actions.specs.Actions.{Action, Give, ◌>>=◌}
use Rattle.fact_actions.specs.Running.{Call}
use Rattle.fact_machine.specs.Typed.{is_value, are_values}
use Rattle.fact_actions.specs.Sides.{Source, Values, AtAddress, Target, Slots, Into, bytes_of_addresses, nth_part, nth_spot, read_number, read_pair, write_number, write_pair}
use Rattle.fact_values.specs.Lift.{bits_of, number_as, leading_pair}
use Rattle.fact_types.specs.Adapters.{is_wide}
use Rattle.fact_types.specs.Options.{◌>>=◌ as and_then}
use Rattle.fact_values.specs.Numbers.{number_in}
use Rattle.fact_values.specs.Places.{Pair, pair_at}
use Rattle.fact_action_laws.specs.Footprints.{HasChanged}
use Rattle.fact_action_laws.specs.Places.{from_side, to_side, IsSource, can_hold, IsTarget, IsAtTarget, IsGiven, HoldsMemories, IsGrounded}
use Rattle.fact_actions.specs.Regions.{Region}
use Rattle.fact_action_laws.specs.Regions.{TransferSetting, IsInHand, AreBytesOf, regions_after}
use Rattle.fact_action_laws.proofs.Judges.{does_bind, does_map, does_more}
use Rattle.fact_action_laws.proofs.Numbers.{number_at_source, reads_number, does_write_number, flat_bound, IsNumberAt}
use Rattle.fact_action_laws.proofs.Placing.{leaves_wider, leaves_then}
use Rattle.fact_action_laws.proofs.Plain.{both, reads_flat}
use Rattle.fact_action_laws.proofs.Sums.{target_later}
use Rattle.fact_action_laws.proofs.Targets.{at_live, both_true, left_true, right_true}
use Rattle.fact_machine.specs.Typing.{address_bits}
use Rattle.fact_action_laws.specs.Judged.{RunsHonestly}

-- a pointer and a length at a source
abbrev pub pair_taken : TransferSetting → Source → Option Pair
pair_taken c (Values vs) = leading_pair (from_side c) vs
pair_taken c (AtAddress a) = pair_at (from_side c) c.source a

-- ---- the width of addresses

pub same_bytes : (b : Bool) → pointer_bytes (width b) ≡ pointer_bytes (width b)
same_bytes true = refl
same_bytes false = refl

address_flat : (b : Bool) (v : CoreValue) → (if nat_eq (pointer_bytes (width b)) 8 then bits_of v else bits_of v % 2 ^ 32) ≡ number_as (pointer (width b)) v
address_flat true v = reads_flat flat_type.I64 v
address_flat false v = reads_flat flat_type.I32 v

pub address_bound : (b : Bool) → 2 ^ address_bits b ≡ flat_bound (pointer (width b))
address_bound true = refl
address_bound false = refl

address_power : (b : Bool) → 256 ^ (pointer_bytes (width b)) ≡ flat_bound (pointer (width b))
address_power true = refl
address_power false = refl

-- ---- at a source

pub record PairAt (c : TransferSetting) (s : Source) (q : Pair) : Type 0 where
  pub pointer : number_at_source c (bytes_of_addresses c.transfer.from) (nth_part 1 (bytes_of_addresses c.transfer.from) 0 s) ≡ Some q.pointer
  pub count : number_at_source c (bytes_of_addresses c.transfer.from) (nth_part 1 (bytes_of_addresses c.transfer.from) 1 s) ≡ Some q.count
  pub pointer_source : IsSource c 1 (nth_part 1 (bytes_of_addresses c.transfer.from) 0 s)
  pub count_source : IsSource c 1 (nth_part 1 (bytes_of_addresses c.transfer.from) 1 s)

pub pair_read : (c : TransferSetting) (s : Source) (q : Pair) (n : ℕ) → IsSource c n s → pair_taken c s ≡ Some q → PairAt c s q
pair_read c (Values []) q n is h = absurd (none_some None q refl h)
pair_read c (Values (v ∷ [])) q n is h = absurd (none_some None q refl h)
pair_read c (Values (v ∷ (w ∷ vs))) q n is h =
    let b = is_wide c.transfer.from.memory in
    let e : record { pointer = number_as (pointer (width b)) v; count = number_as (pointer (width b)) w } ≡ q = same_some (Some q) _ q (sym h) refl in
    record {
      pointer = ap (λ k. Some k) (address_flat b v ∙ ap (λ q. q.pointer) e);
      count = ap (λ k. Some k) (address_flat b w ∙ ap (λ q. q.count) e);
      pointer_source = (refl, (is.1.0, tt));
      count_source = (refl, (is.1.1.0, tt));
    }
pair_read c (AtAddress a) q n is h =
    let b = is_wide c.transfer.from.memory in
    let k = bytes_of_addresses c.transfer.from in
    let first = both (number_in c.source (pointer_bytes (width b)) a) _ q h in
    let second = both (number_in c.source (pointer_bytes (width b)) (a + pointer_bytes (width b))) _ q first.last in
    let e : record { pointer = first.mid; count = second.mid } ≡ q = same_some (Some q) _ q (sym second.last) refl in
    let same : k ≡ pointer_bytes (width b) = same_bytes b in
    let zero_more : a + 0 * k ≡ a = omega arith in
    let one_more : a + 1 * k ≡ a + k = omega arith in
    record {
      pointer = ap (λ x. number_in c.source k x) zero_more ∙ ap (λ x. number_in c.source x a) same ∙ first.first ∙ ap (λ q. Some q.pointer) e;
      count = ap (λ x. number_in c.source k x) one_more ∙ ap (λ x. number_in c.source x (a + x)) same ∙ second.first ∙ ap (λ q. Some q.count) e;
      pointer_source = is;
      count_source = is;
    }

module _ {c : TransferSetting} {gs : List Region} {A : Type 0} {H : Stop → List Call → Type 0} {P : ℕ → List Call → A → World → Type 0} where
  -- a pair is read
  pub reads_pair : IsGrounded c → (n : ℕ) (s : Source) (q : Pair) (k : ℕ → ℕ → Action A) (w : World) → IsSource c n s → AreBytesOf c.places c.transfer.from w.state c.source → pair_taken c s ≡ Some q
      → RunsHonestly c gs H P (k q.pointer q.count) w → RunsHonestly c gs H P (read_pair c.transfer.debug c.transfer.from s k) w
  reads_pair g n s q k w is from h d =
      let r = pair_read c s q n is h in
      let b = bytes_of_addresses c.transfer.from in
      reads_number g b q.pointer 1 (nth_part 1 b 0 s) (λ p. read_number c.transfer.debug c.transfer.from b (nth_part 1 b 1 s) (λ n. k p n)) w r.pointer_source from r.pointer
      (reads_number g b q.count 1 (nth_part 1 b 1 s) (λ n. k q.pointer n) w r.count_source from r.count d)

-- ---- at a target

-- a pair stands at a target
abbrev pub IsPairAt : TransferSetting → ℕ → ℕ → Target → List CoreValue → List ℕ → Type 0
IsPairAt c p n (Into a) us bytes = pair_at (to_side c) bytes a ≡ Some (record { pointer = p; count = n })
IsPairAt c p n (Slots ts) us bytes = (v : CoreValue) × (w : CoreValue) × (us ≡ v ∷ w ∷ []) × (bits_of v ≡ p) × (number_as (pointer (width (is_wide c.transfer.to.memory))) v ≡ p) × (bits_of w ≡ n) × (number_as (pointer (width (is_wide c.transfer.to.memory))) w ≡ n)

pub record PairWrote (c : TransferSetting) (gs : List Region) (m : List ℕ) (p q : ℕ) (d : Target) (n : ℕ) (cs : List Call) (us : List CoreValue) (w : World) : Type 0 where
  pub weightless : n ≡ 0
  pub quiet : cs ≡ []
  pub given : IsGiven d us
  pub leaves : HasChanged c gs m (IsAtTarget (2 * bytes_of_addresses c.transfer.to) d) (λ b. IsPairAt c p q d us b) cs w

module _ (c : TransferSetting) (live : ℕ → Type 0) (m : List ℕ) where
  abbrev ptr : FlatType
  ptr = pointer (width (is_wide c.transfer.to.memory))

  abbrev size : ℕ
  size = bytes_of_addresses c.transfer.to

  first_spot : (d : Target) → IsTarget c (ptr ∷ ptr ∷ []) (2 * size) live m d → IsTarget c (ptr ∷ []) size live m (nth_spot 1 size 0 d)
  first_spot (Into a) h = (h.0, omega (arith, h.1), λ j lo hi. h.2 j (omega (arith, lo)) (omega (arith, hi)))
  first_spot (Slots []) h = absurd (false≢true h)
  first_spot (Slots (t ∷ [])) h = absurd (false≢true (right_true (can_hold ptr t) false h))
  first_spot (Slots (t ∷ (t2 ∷ ts))) h = both_true (can_hold ptr t) true (left_true (can_hold ptr t) _ h) refl

  second_spot : (d : Target) → IsTarget c (ptr ∷ ptr ∷ []) (2 * size) live m d → IsTarget c (ptr ∷ []) size live m (nth_spot 1 size 1 d)
  second_spot (Into a) h = (h.0, omega (arith, h.1), λ j lo hi. h.2 j (omega (arith, lo)) (omega (arith, hi)))
  second_spot (Slots []) h = absurd (false≢true h)
  second_spot (Slots (t ∷ [])) h = absurd (false≢true (right_true (can_hold ptr t) false h))
  second_spot (Slots (t ∷ (t2 ∷ ts))) h = both_true (can_hold ptr t2) true (left_true (can_hold ptr t2) _ (right_true (can_hold ptr t) _ h)) refl

  spots_apart : (d : Target) (j : ℕ) → IsAtTarget size (nth_spot 1 size 0 d) j → IsAtTarget size (nth_spot 1 size 1 d) j → ⊥
  spots_apart (Into a) j h k = omega (arith, h.1, k.0)
  spots_apart (Slots ts) j h k = h

  spots_in : (d : Target) (j : ℕ) → IsAtTarget size (nth_spot 1 size 0 d) j ⊎ IsAtTarget size (nth_spot 1 size 1 d) j → IsAtTarget (2 * size) d j
  spots_in (Into a) j (inl h) = (omega (arith, h.0), omega (arith, h.1))
  spots_in (Into a) j (inr h) = (omega (arith, h.0), omega (arith, h.1))
  spots_in (Slots ts) j (inl h) = h
  spots_in (Slots ts) j (inr h) = h

  pair_given : (d : Target) (us vs : List CoreValue) → IsTarget c (ptr ∷ ptr ∷ []) (2 * size) live m d → IsGiven (nth_spot 1 size 0 d) us → IsGiven (nth_spot 1 size 1 d) vs → IsGiven d (us ++ vs)
  pair_given (Into a) us vs t h k = ap (λ l. l ++ vs) h ∙ k
  pair_given (Slots []) us vs t h k = absurd (false≢true t)
  pair_given (Slots (t1 ∷ [])) us vs t h k = absurd (false≢true (right_true (can_hold ptr t1) false t))
  pair_given (Slots (t1 ∷ (t2 ∷ (t3 ∷ ts)))) us vs t h k = absurd (false≢true (right_true (can_hold ptr t2) false (right_true (can_hold ptr t1) _ t)))
  pair_given (Slots (t1 ∷ (t2 ∷ []))) [] vs t h k = absurd (false≢true h)
  pair_given (Slots (t1 ∷ (t2 ∷ []))) (u ∷ []) vs t h k = both_true (is_value u t1) (are_values vs (t2 ∷ [])) (left_true (is_value u t1) true h) k
  pair_given (Slots (t1 ∷ (t2 ∷ []))) (u ∷ (u2 ∷ us)) vs t h k = absurd (false≢true (right_true (is_value u t1) false h))

  pair_stands : (p n : ℕ) (d : Target) (us vs : List CoreValue) (b : List ℕ) → IsTarget c (ptr ∷ ptr ∷ []) (2 * size) live m d → p < flat_bound ptr → n < flat_bound ptr
      → IsNumberAt size ptr p (nth_spot 1 size 0 d) us b → IsNumberAt size ptr n (nth_spot 1 size 1 d) vs b → IsPairAt c p n d (us ++ vs) b
  pair_stands p n (Into a) us vs b t lp ln h k =
      let wide = is_wide c.transfer.to.memory in
      let same : pointer_bytes (width wide) ≡ size = sym (same_bytes wide) in
      let zero_more : a ≡ a + 0 * size = omega arith in
      let one_more : a + size ≡ a + 1 * size = omega arith in
      let first : number_in b (pointer_bytes (width wide)) a ≡ Some p = ap (λ s. number_in b s a) same ∙ ap (number_in b size) zero_more ∙ h ∙ ap (λ k. Some k) (mod-eq_of_lt (subst (λ z. p < z) (sym (address_power wide)) lp)) in
      let second : number_in b (pointer_bytes (width wide)) (a + pointer_bytes (width wide)) ≡ Some n = ap (λ s. number_in b s (a + s)) same ∙ ap (number_in b size) one_more ∙ k ∙ ap (λ k. Some k) (mod-eq_of_lt (subst (λ z. n < z) (sym (address_power wide)) ln)) in
      ap (λ o. and_then o (λ p. and_then (number_in b (pointer_bytes (width wide)) (a + pointer_bytes (width wide))) (λ n. Some (record { pointer = p; count = n })))) first ∙ ap (λ o. and_then o (λ n. Some (record { pointer = p; count = n }))) second
  pair_stands p n (Slots []) us vs b t lp ln h k = absurd (false≢true t)
  pair_stands p n (Slots (t1 ∷ [])) us vs b t lp ln h k = absurd (false≢true (right_true (can_hold ptr t1) false t))
  pair_stands p n (Slots (t1 ∷ (t2 ∷ ts))) us vs b t lp ln h k =
      (h.0, k.0, ap (λ l. l ++ vs) h.1 ∙ ap (λ l. h.0 ∷ l) k.1, h.2, h.3, k.2, k.3)

module _ {c : TransferSetting} {gs : List Region} {H : Stop → List Call → Type 0} (g : IsGrounded c) where
  -- a pair is written
  pub does_write_pair : (p n : ℕ) (d : Target) (m : List ℕ) (w : World) → HoldsMemories c m w
      → IsTarget c (pointer (width (is_wide c.transfer.to.memory)) ∷ pointer (width (is_wide c.transfer.to.memory)) ∷ []) (2 * bytes_of_addresses c.transfer.to) (IsInHand c gs) m d
      → p < flat_bound (pointer (width (is_wide c.transfer.to.memory))) → n < flat_bound (pointer (width (is_wide c.transfer.to.memory))) → RunsHonestly c gs H (PairWrote c gs m p n d) (write_pair c.transfer.to d p n) w
  does_write_pair p n d m w ready t lp ln =
      let b = bytes_of_addresses c.transfer.to in
      let f = pointer (width (is_wide c.transfer.to.memory)) in
      let second : List CoreValue → Action (List CoreValue) = λ us. write_number c.transfer.to b (nth_spot 1 b 1 d) n >>= (λ vs. Give (us ++ vs)) in
      let t1 = first_spot c (IsInHand c gs) m d t in
      let t2 = second_spot c (IsInHand c gs) m d t in
      does_bind (write_number c.transfer.to b (nth_spot 1 b 0 d) p) second w
      (does_more (λ s cs o h. absurd h) (λ k cs us w' o r. r) (does_write_number {H = λ s cs. ⊥} g m b p f (nth_spot 1 b 0 d) w (IsInHand c gs) ready t1 lp))
      (λ s cs h. h)
      (λ k cs us w' o r. does_map (write_number c.transfer.to b (nth_spot 1 b 1 d) n) (λ vs. us ++ vs) w'
      (does_more (λ s ds o' h. absurd h)
      (λ l ds vs w'' o' r2. record {
        weightless = omega (arith, r.weightless, r2.weightless);
        quiet = ap (λ x. x ++ ds) r.quiet ∙ r2.quiet;
        given = pair_given c (IsInHand c gs) m d us vs t r.given r2.given;
        leaves = leaves_wider (spots_in c (IsInHand c gs) m d) (λ x h. pair_stands c (IsInHand c gs) m p n d us vs x t lp ln h.0 h.1)
            (leaves_then (spots_apart c (IsInHand c gs) m d) (λ j h. at_live c (f ∷ []) b (IsInHand c gs) m (nth_spot 1 b 0 d) t1 j h) (λ j h. at_live c (f ∷ []) b (IsInHand c gs) m (nth_spot 1 b 1 d) t2 j h) r.leaves r2.leaves);
      })
      (does_write_number {H = λ s cs. ⊥} g r.leaves.now b n f (nth_spot 1 b 1 d) w' (IsInHand c (regions_after gs cs)) r.leaves.ready
      (target_later c (f ∷ []) b (IsInHand c gs) (IsInHand c (regions_after gs cs)) m r.leaves.now (nth_spot 1 b 1 d) r.leaves.placed.room r.leaves.placed.grows t2) ln)))
