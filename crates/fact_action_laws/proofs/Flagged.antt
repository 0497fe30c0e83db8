-- Flags and enums are moved as the law says.
use Rattle.std.proofs.Common.{◌≡◌, ℕ, zero, suc, ◌+◌, ◌*◌, ◌/◌, ◌%◌, ◌^◌, ◌≤◌, ◌<◌, Bool, true, false, List, [], ◌∷◌, ◌++◌, length, get_or, replicate, Some, None, refl, sym, ap, ◌∙◌, subst, arith, lit<, lit≤, mod-eq_of_lt}
use Rattle.std.specs.Prelude.{nat_le, nat_eq, ◌==◌, if◌then◌else◌, option_map}
use Rattle.std.specs.Int.{div_ceil}
use Rattle.std.specs.List.{Contains}
use Rattle.std.specs.Str.{bytes_eq}
use Rattle.std.proofs.Math.Nat.{pow-le-pow_right}
use Rattle.std.proofs.lemmas.Bool.{eqb-true, leb-true}
use Rattle.fact_types.specs.declared.flats.FlatType.TheVariants as flat_type
use Rattle.fact_types.specs.declared.sizes.FlagsSize.{FlagsSize}
use Rattle.fact_types.specs.declared.sizes.FlagsSize.TheVariants.{Size0, Size1, Size2, Size4Plus}
use Rattle.fact_types.specs.declared.extents.MemoryWidth.{MemoryWidth}
use Rattle.fact_types.specs.declared.extents.MemoryWidth.TheVariants.{Memory32, Memory64}
use Rattle.fact_types.specs.Agrees.{HaveSameNames, names_of}
use Rattle.fact_types.specs.FlatShapes.{flat}
use Rattle.fact_types.specs.Options.{◌>>=◌}
use Rattle.fact_types.specs.Layout.{extent, flags_size, flags_extent, flags_flat}
use Rattle.fact_types.specs.Shapes.{k_flags, s_node, Members, no_members, bare, typed, layout_of}
use Rattle.fact_types.proofs.ShapeLaws.{same_some, none_some}
use Rattle.fact_machine.specs.declared.types.CoreValue.{CoreValue}
use Rattle.fact_actions.specs.Actions.{Visit}
use Rattle.fact_values.specs.Places.{count_of_members, flags_bytes}
use Rattle.fact_actions.specs.Moves.{bit_named, bits_named, move, move_flags}
use Rattle.fact_actions.specs.Sides.{Source, Values, AtAddress, Target, Slots, Into, width_of_side, write_number}
use Rattle.fact_actions.proofs.FlagBits.{bit_small, bits_small, low_of, high_of}
use Rattle.fact_values.specs.Lift.{bits_of, lift_leading, number_as, numbers_as}
use Rattle.fact_values.specs.declared.value.Value.{Value}
use Rattle.fact_values.specs.declared.value.Value.TheVariants as value
use Rattle.fact_values.specs.Canonical.{ThereIs, IsCanonicalAt, IsCanonicalFlat, AreNarrow}
use Rattle.fact_values.specs.Handles.{cross, cross_flags, flag_named, flags_named, given, done_step}
use Rattle.fact_values.specs.Load.{load}
use Rattle.fact_values.specs.Weight.{weight}
use Rattle.fact_action_laws.specs.Items.{items, numbers}
use Rattle.fact_action_laws.specs.MoveTerms.{size_on}
use Rattle.fact_action_laws.specs.Places.{value_at_source, IsTarget, IsAtTarget, StandsAtTarget, IsGrounded}
use Rattle.fact_action_laws.specs.Regions.{TransferSetting, IsInHand}
use Rattle.fact_action_laws.proofs.Judges.{does_visit, does_more}
use Rattle.fact_action_laws.proofs.Numbers.{number_at_source, reads_number, does_write_number, IsNumberAt}
use Rattle.fact_action_laws.proofs.Placing.{leaves_wider}
use Rattle.fact_action_laws.proofs.Plain.{does_aligned, reads_flat}
use Rattle.fact_action_laws.proofs.Products.{mapped}
use Rattle.fact_values.specs.Numbers.{flags_of_number, number_in, number_of_words}
use Rattle.fact_values.specs.Opened.{flags_in}
use Rattle.fact_values.proofs.IsALaws.{bytes_same}
use Rattle.fact_action_laws.specs.MoveLaws.{IsLawfulMove}

-- ---- the room of flags

pub record IsFlagsRoom (n size : ℕ) : Type 0 where
  pub holds : 2 ^ n ≤ 256 ^ size
  pub small : 256 ^ size ≤ 2 ^ 32
  pub narrow : nat_eq size 8 ≡ false

pub record IsFlagsFor (n : ℕ) (s : FlagsSize) : Type 0 where
  pub room : IsFlagsRoom n (flags_extent s).size
  pub one_word : flags_flat s ≡ 1

power_up : (a b : ℕ) → a ≤ b → 2 ^ a ≤ 2 ^ b
power_up a b le = pow-le-pow_right (lit< tt) le

flags_for : (n : ℕ) → 1 ≤ n → n ≤ 32 → (z a b : Bool) → (n == 0) ≡ z → nat_le n 8 ≡ a → nat_le n 16 ≡ b → IsFlagsFor n (if z then Size0 else (if a then Size1 else (if b then Size2 else Size4Plus (div_ceil n 32))))
flags_for n some most true a b e f h = absurd (let z : n ≡ 0 = eqb-true n 0 e in omega (arith, z, some))
flags_for n some most false true b e f h = record { room = record { holds = power_up n 8 (leb-true n 8 f); small = lit≤ tt; narrow = refl }; one_word = refl }
flags_for n some most false false true e f h = record { room = record { holds = power_up n 16 (leb-true n 16 h); small = lit≤ tt; narrow = refl }; one_word = refl }
flags_for n some most false false false e f h =
    let words : div_ceil n 32 ≡ 1 = omega (arith, some, most) in
    subst (λ k. IsFlagsFor n (Size4Plus k)) (sym words) (record { room = record { holds = power_up n 32 most; small = lit≤ tt; narrow = refl }; one_word = refl })

pub few_flags : (n : ℕ) → 1 ≤ n → n ≤ 32 → IsFlagsFor n (flags_size n)
few_flags n some most = flags_for n some most (n == 0) (nat_le n 8) (nat_le n 16) refl refl refl

-- ---- the flags of a number

-- the bit of a name is its flag
flag_of_bit : (x : List ℕ) (names : List (List ℕ)) (n i : ℕ) → i < length names → get_or names i x ≡ x → flag_named x (flags_of_number names n) ≡ Some (bit_named x names n == 1)
flag_of_bit x [] n i lt at = absurd (omega (arith, lt))
flag_of_bit x (y ∷ names) n zero lt at = let e : bytes_eq y x ≡ true = ap (λ z. bytes_eq z x) at ∙ bytes_same x in rw (e) refl
flag_of_bit x (y ∷ names) n (suc i) lt at = go (bytes_eq y x) (flag_of_bit x names (n / 2) i (omega (arith, lt)) at)
  where
    go : (b : Bool) → flag_named x (flags_of_number names (n / 2)) ≡ Some (bit_named x names (n / 2) == 1)
        → (if b then Some (n % 2 == 1) else flag_named x (flags_of_number names (n / 2))) ≡ Some ((if b then n % 2 else bit_named x names (n / 2)) == 1)
    go true h = refl
    go false h = h

-- the flags of a number, by their names in another order, are those of the number of its bits by name
pub flags_of_bits : (from to : List (List ℕ)) (n : ℕ) → ((x : List ℕ) → Contains to x → Contains from x) → flags_named to (flags_of_number from n) ≡ Some (flags_of_number to (bits_named from to n))
flags_of_bits from [] n h = refl
flags_of_bits from (x ∷ to) n h =
    let c = h x (0, omega arith, refl) in
    let here = flag_of_bit x from n c.0 c.1 c.2 in
    let rest = flags_of_bits from to n (λ y k. h y (suc k.0, omega (arith, k.1), k.2)) in
    let b = bit_named x from n in
    let r = bits_named from to n in
    let small = bit_small x from n in
    let low = low_of b r small in
    let high = high_of b r small in
    (λ j. here j >>= (λ b. rest j >>= (λ gs. Some ((x, b) ∷ gs)))) ∙ ap (λ k. Some ((x, k == 1) ∷ flags_of_number to r)) (sym low) ∙ ap (λ k. Some ((x, (b + 2 * r) % 2 == 1) ∷ flags_of_number to k)) (sym high)

pub names_count : (ms : Members) → length (names_of ms) ≡ count_of_members ms
names_count no_members = refl
names_count (bare x ms) = ap suc (names_count ms)
names_count (typed x s ms) = ap suc (names_count ms)

flags_extents : (w : MemoryWidth) (ms : Members) → (extent w (layout_of (s_node k_flags ms))).size ≡ (flags_extent (flags_size (count_of_members ms))).size
flags_extents Memory32 ms = refl
flags_extents Memory64 ms = refl

-- a value of flags at a source
record FlagsTaken (c : TransferSetting) (ms : Members) (s : Source) (v : Value) : Type 0 where
  pub number : ℕ
  pub at : number_at_source c (flags_bytes ms) s ≡ Some number
  pub is : value.Flags (flags_of_number (names_of ms) number) ≡ v

module _ (c : TransferSetting) (g : IsGrounded c) (ms ns : Members) (same : HaveSameNames ms ns) (some : 1 ≤ count_of_members ms) (most : count_of_members ms ≤ 32) (some_to : 1 ≤ count_of_members ns) (most_to : count_of_members ns ≤ 32) where
  few : IsFlagsFor (count_of_members ms) (flags_size (count_of_members ms))
  few = few_flags (count_of_members ms) some most

  few_to : IsFlagsFor (count_of_members ns) (flags_size (count_of_members ns))
  few_to = few_flags (count_of_members ns) some_to most_to

  flags_taken : (s : Source) (v : Value) → value_at_source c (s_node k_flags ms) s ≡ Some v → FlagsTaken c ms s v
  unfolding load lift_leading
  flags_taken (AtAddress a) v h = let r = mapped (number_in c.source (flags_bytes ms) a) (λ n. value.Flags (flags_of_number (names_of ms) n)) v h in record { number = r.mid; at = r.first; is = r.is }
  flags_taken (Values []) v h =
      absurd (none_some None v refl (ap (λ k. option_map (λ ws. value.Flags (flags_of_number (names_of ms) (number_of_words ws))) (numbers_as (replicate k flat_type.I32) [])) (sym few.one_word) ∙ h))
  flags_taken (Values (x ∷ xs)) v h =
      let e : Some (value.Flags (flags_of_number (names_of ms) (number_as flat_type.I32 x + 2 ^ 32 * 0))) ≡ Some v = ap (λ k. option_map (λ ws. value.Flags (flags_of_number (names_of ms) (number_of_words ws))) (numbers_as (replicate k flat_type.I32) (x ∷ xs))) (sym few.one_word) ∙ h in
      let z : number_as flat_type.I32 x + 2 ^ 32 * 0 ≡ number_as flat_type.I32 x = omega arith in
      record {
        number = number_as flat_type.I32 x;
        at = ap (λ b. Some (if b then bits_of x else bits_of x % 2 ^ 32)) few.room.narrow ∙ ap (λ n. Some n) (reads_flat flat_type.I32 x);
        is = ap (λ n. value.Flags (flags_of_number (names_of ms) n)) (sym z) ∙ same_some (Some v) _ v (sym e) refl;
      }

  flags_stand : (x : ℕ) (d : Target) (us : List CoreValue) (b : List ℕ) → x < 2 ^ count_of_members ns → IsNumberAt (flags_bytes ns) flat_type.I32 x d us b → StandsAtTarget c (s_node k_flags ns) (value.Flags (flags_of_number (names_of ns) x)) d us b
  unfolding load lift_leading IsCanonicalAt IsCanonicalFlat
  flags_stand x (Into a) us b lt h =
      let at : number_in b (flags_bytes ns) a ≡ Some x = h ∙ ap (λ k. Some k) (mod-eq_of_lt (omega (arith, lt, few_to.room.holds))) in (
        ap (option_map (λ n. value.Flags (flags_of_number (names_of ns) n))) at,
        subst (λ o. ThereIs o (λ n. n < 2 ^ count_of_members ns)) (sym at) lt,
      )
  flags_stand x (Slots ts) us b lt h =
      let one = few_to.one_word in
      let z : x + 2 ^ 32 * 0 ≡ x = omega arith in
      let words : numbers_as (replicate (flags_flat (flags_size (count_of_members ns))) flat_type.I32) us ≡ Some (x ∷ []) = ap (λ k. numbers_as (replicate k flat_type.I32) us) one ∙ ap (numbers_as (flat_type.I32 ∷ [])) h.1 ∙ ap (λ n. Some (n ∷ [])) h.3 in (
        ap (option_map (λ ws. value.Flags (flags_of_number (names_of ns) (number_of_words ws)))) words ∙ ap (λ n. Some (value.Flags (flags_of_number (names_of ns) n))) z,
        (
          subst (λ k. AreNarrow (replicate k flat_type.I32) us) (sym one) (subst (AreNarrow (flat_type.I32 ∷ [])) (sym h.1) (h.2 ∙ sym h.3, tt)),
          subst (λ o. ThereIs o (λ ws. number_of_words ws < 2 ^ count_of_members ns)) (sym words) (subst (λ n. n < 2 ^ count_of_members ns) (sym z) lt),
        ),
      )

  -- flags go by name
  flags_cross : (v : Value) (n : ℕ) (a : List ℕ) → value.Flags (flags_of_number (names_of ms) n) ≡ v → cross_flags ns v a ≡ Some (value.Flags (flags_of_number (names_of ns) (bits_named (names_of ms) (names_of ns) n)), a)
  flags_cross v n a e =
      let fs = flags_of_number (names_of ms) n in
      let out = value.Flags (flags_of_number (names_of ns) (bits_named (names_of ms) (names_of ns) n)) in
      subst (λ v. cross_flags ns v a ≡ Some (out, a)) e
      (ap (λ o. given o (λ fs. given (flags_named (names_of ns) fs) (λ gs. done_step (value.Flags gs))) a) (ap flags_in (value.outs-Flags fs))
      ∙ ap (λ o. given o (λ gs. done_step (value.Flags gs)) a) (flags_of_bits (names_of ms) (names_of ns) n same.asked))

  flags_flats : flat (width_of_side c.transfer.to) (s_node k_flags ns) ≡ flat_type.I32 ∷ []
  flags_flats = ap (λ k. replicate k flat_type.I32) few_to.one_word

  flags_sized : size_on c.transfer.to (s_node k_flags ns) ≡ flags_bytes ns
  flags_sized = flags_extents (width_of_side c.transfer.to) ns

  pub flags_law : IsLawfulMove c (s_node k_flags ms) (s_node k_flags ns)
  unfolding move cross items weight
  flags_law = record {
    by = λ s d v gs w m is h ready target.
        let t = flags_taken s v h in
        let y = bits_named (names_of ms) (names_of ns) t.number in
        let lt : y < 2 ^ count_of_members ns = subst (λ k. y < 2 ^ k) (names_count ns) (bits_small (names_of ms) (names_of ns) t.number) in
        does_aligned g (s_node k_flags ms) (s_node k_flags ns) s d (Visit 1 (move_flags c.transfer ms ns s d)) w
        (does_visit
        (reads_number g (flags_bytes ms) t.number _ s (λ n. write_number c.transfer.to (flags_bytes ns) d (bits_named (names_of ms) (names_of ns) n)) w is ready.from t.at
        (does_more (λ r cs o k. absurd k)
        (λ k cs us w' o r. record {
          out = value.Flags (flags_of_number (names_of ns) y);
          carried = record { crosses = λ rest. flags_cross v t.number (numbers cs ++ rest) t.is ∙ ap (λ l. Some (value.Flags (flags_of_number (names_of ns) y), numbers l ++ rest)) r.quiet; told = r.quiet; weighs = omega (arith, r.weightless) };
          given = r.given;
          leaves = leaves_wider (λ j a. subst (λ z. IsAtTarget z d j) (sym flags_sized) a) (λ b a. flags_stand y d us b lt a) r.leaves;
        })
        (does_write_number {H = λ r cs. ⊥} g m (flags_bytes ns) y flat_type.I32 d w (IsInHand c gs) ready
        (subst (λ fs. IsTarget c fs (flags_bytes ns) (IsInHand c gs) m d) flags_flats (subst (λ z. IsTarget c (flat (width_of_side c.transfer.to) (s_node k_flags ns)) z (IsInHand c gs) m d) flags_sized target))
        (omega (arith, lt, few_to.room.holds, few_to.room.small))))));
  }
