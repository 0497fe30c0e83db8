-- Enums are moved as the law says.
use Rattle.std.proofs.Common.{◌≡◌, ℕ, zero, suc, ◌+◌, ◌^◌, ◌≤◌, ◌<◌, Bool, true, false, List, [], ◌∷◌, ◌++◌, length, Option, Some, None, refl, sym, ap, ◌∙◌, subst, arith, mod-eq_of_lt}
use Rattle.std.specs.Prelude.{nat_lt, if◌then◌else◌, slice_get}
use Rattle.std.specs.Str.{bytes_eq}
use Rattle.std.proofs.lemmas.Bool.{false≢true, lt-ltb}
use Rattle.std.proofs.lemmas.Slice.Eq.{bytes_eq-Decides}
use Rattle.fact_types.specs.declared.flats.FlatType.TheVariants as flat_type
use Rattle.fact_types.specs.declared.outside.Trap.TheVariants.{InvalidDiscriminant}
use Rattle.fact_types.specs.declared.extents.MemoryWidth.{MemoryWidth}
use Rattle.fact_types.specs.declared.extents.MemoryWidth.TheVariants.{Memory32, Memory64}
use Rattle.fact_types.specs.Agrees.{names_of, named}
use Rattle.fact_types.specs.Layout.{extent, discriminant_size, discriminant_bytes, enum_layout}
use Rattle.fact_types.specs.Shapes.{k_enum, Shape, s_node, Members, no_members, bare, typed}
use Rattle.fact_types.proofs.PayloadLaws.{enum_is_scalar}
use Rattle.fact_types.proofs.ShapeLaws.{same_some, none_some}
use Rattle.fact_machine.specs.declared.types.CoreValue.{CoreValue}
use Rattle.fact_actions.specs.Actions.{Visit, unless}
use Rattle.fact_values.specs.Places.{count_of_members, case_bytes, payload_place}
use Rattle.fact_actions.specs.Moves.{move, move_enum}
use Rattle.fact_actions.specs.Sides.{Source, Values, AtAddress, Target, Slots, Into, width_of_side, write_number}
use Rattle.fact_values.specs.declared.side.SideAbi.{SideAbi}
use Rattle.fact_values.specs.declared.value.Value.{Value}
use Rattle.fact_values.specs.declared.value.Value.TheVariants as value
use Rattle.fact_values.specs.Canonical.{ThereIs, IsCanonicalAt, IsCanonicalFlat, IsCanonicalCaseAt, IsCanonicalCaseFlat}
use Rattle.fact_values.specs.Carry.{take_number}
use Rattle.fact_values.specs.Handles.{cross, cross_case, given, done_step}
use Rattle.fact_values.specs.Lift.{lift_leading, lift_case, number_as}
use Rattle.fact_values.specs.Load.{load, load_case}
use Rattle.fact_types.specs.Options.{◌>>=◌}
use Rattle.fact_values.specs.Numbers.{number_in}
use Rattle.fact_values.specs.Weight.{weight}
use Rattle.fact_action_laws.specs.Items.{items, items_case, of_some, numbers, AreItemCalls}
use Rattle.fact_action_laws.specs.MoveTerms.{size_on, IsFit, IsMoved, MayStop}
use Rattle.fact_action_laws.specs.Places.{from_side, to_side, value_at_source, IsTarget, IsAtTarget, StandsAtTarget, IsGrounded}
use Rattle.fact_action_laws.specs.Regions.{TransferSetting, IsInHand}
use Rattle.fact_action_laws.proofs.Cases.{count_same, tag_same, tag_is, case_by, loads_by, lifts_by}
use Rattle.fact_action_laws.proofs.Flagged.{names_count}
use Rattle.fact_action_laws.proofs.Judges.{does_visit, does_more}
use Rattle.fact_action_laws.proofs.Numbers.{number_at_source, reads_number, does_write_number, IsNumberAt}
use Rattle.fact_action_laws.proofs.Placing.{leaves_wider}
use Rattle.fact_action_laws.proofs.Plain.{both, does_aligned}
use Rattle.fact_action_laws.proofs.NewRegions.{does_pass}
use Rattle.fact_action_laws.proofs.Variants.{sum_number, case_of}
use Rattle.fact_values.specs.Formed.{AreBare}
use Rattle.fact_action_laws.specs.Judged.{RunsHonestly}
use Rattle.fact_action_laws.specs.MoveLaws.{IsLawfulMove}

-- ---- cases without payloads

-- a case by its number
bare_at : (read : Shape → Option Value) (ms : Members) (n : ℕ) (x : List ℕ) → AreBare ms → slice_get (names_of ms) n ≡ Some x → case_by read ms n ≡ Some (value.Case x [])
bare_at read no_members n x b h = absurd (none_some None x refl h)
bare_at read (bare y ms) zero x b h = ap (λ z. Some (value.Case z [])) (same_some (Some y) y x refl h)
bare_at read (bare y ms) (suc n) x b h = bare_at read ms n x b h
bare_at read (typed y s ms) n x b h = absurd b

-- a case that was read
pub record IsBareCase (ms : Members) (n : ℕ) (v : Value) : Type 0 where
  pub name : List ℕ
  pub at : slice_get (names_of ms) n ≡ Some name
  pub below : n < count_of_members ms
  pub is : value.Case name [] ≡ v

bare_is : (read : Shape → Option Value) (ms : Members) (n : ℕ) (v : Value) → AreBare ms → case_by read ms n ≡ Some v → IsBareCase ms n v
bare_is read no_members n v b h = absurd (none_some None v refl h)
bare_is read (bare y ms) zero v b h = record { name = y; at = refl; below = omega arith; is = same_some (Some (value.Case y [])) (value.Case y []) v refl h }
bare_is read (bare y ms) (suc n) v b h = let r = bare_is read ms n v b h in record { name = r.name; at = r.at; below = omega (arith, r.below); is = r.is }
bare_is read (typed y s ms) n v b h = absurd b

bare_crosses : (p : Option Shape) (ns : Members) (n : ℕ) (x : List ℕ) (vs : List Value) (a : List ℕ) → AreBare ns → slice_get (names_of ns) n ≡ Some x → cross_case take_number p x vs ns a ≡ Some (value.Case x [], a)
unfolding cross_case
bare_crosses p no_members n x vs a b h = absurd (none_some None x refl h)
bare_crosses p (typed y s ns) n x vs a b h = absurd b
bare_crosses p (bare y ns) n x vs a b h = go (bytes_eq y x) refl n h (λ k e. bare_crosses p ns k x vs a b e)
  where
    go : (q : Bool) → bytes_eq y x ≡ q → (n : ℕ) → slice_get (y ∷ names_of ns) n ≡ Some x → ((k : ℕ) → slice_get (names_of ns) k ≡ Some x → cross_case take_number p x vs ns a ≡ Some (value.Case x [], a))
        → (if q then done_step (value.Case y []) else cross_case take_number p x vs ns) a ≡ Some (value.Case x [], a)
    go true e n h more = ap (λ z. Some (value.Case z [], a)) ((bytes_eq-Decides y x).0 e)
    go false e zero h more = absurd (false≢true (sym e ∙ (bytes_eq-Decides y x).1 (same_some (Some y) y x refl h)))
    go false e (suc n) h more = more n h

bare_items : (side : SideAbi) (p : Option Shape) (ns : Members) (x : List ℕ) (vs : List Value) → AreBare ns → items_case side p x vs ns ≡ []
unfolding items_case
bare_items side p no_members x vs b = refl
bare_items side p (typed y s ns) x vs b = absurd b
bare_items side p (bare y ns) x vs b = go (bytes_eq y x) (bare_items side p ns x vs b)
  where
    go : (q : Bool) → items_case side p x vs ns ≡ [] → (if q then [] else items_case side p x vs ns) ≡ []
    go true h = refl
    go false h = h

bare_canonical_at : (side : SideAbi) (bytes : List ℕ) (ns : Members) (n a : ℕ) (x : List ℕ) → AreBare ns → slice_get (names_of ns) n ≡ Some x → IsCanonicalCaseAt side bytes ns n a
unfolding IsCanonicalCaseAt
bare_canonical_at side bytes no_members n a x b h = absurd (none_some None x refl h)
bare_canonical_at side bytes (bare y ns) zero a x b h = tt
bare_canonical_at side bytes (bare y ns) (suc n) a x b h = bare_canonical_at side bytes ns n a x b h
bare_canonical_at side bytes (typed y s ns) n a x b h = absurd b

bare_canonical_flat : (side : SideAbi) (bytes : List ℕ) (ns : Members) (n : ℕ) (x : List ℕ) → AreBare ns → slice_get (names_of ns) n ≡ Some x → IsCanonicalCaseFlat side bytes ns n []
unfolding IsCanonicalCaseFlat
bare_canonical_flat side bytes no_members n x b h = absurd (none_some None x refl h)
bare_canonical_flat side bytes (bare y ns) zero x b h = tt
bare_canonical_flat side bytes (bare y ns) (suc n) x b h = bare_canonical_flat side bytes ns n x b h
bare_canonical_flat side bytes (typed y s ns) n x b h = absurd b

-- ---- the law

record EnumTaken (c : TransferSetting) (ms : Members) (s : Source) (v : Value) : Type 0 where
  pub number : ℕ
  pub at : number_at_source c (case_bytes ms) s ≡ Some number
  pub case : IsBareCase ms number v

module _ (c : TransferSetting) (g : IsGrounded c) (ms ns : Members) (bare_ms : AreBare ms) (bare_ns : AreBare ns) (same : names_of ms ≡ names_of ns) (few : count_of_members ns ≤ 268435456) where
  counts : count_of_members ms ≡ count_of_members ns
  counts = count_same ms ∙ sym (names_count ms) ∙ ap length same ∙ names_count ns ∙ sym (count_same ns)

  tags : case_bytes ms ≡ case_bytes ns
  tags = ap (λ n. discriminant_bytes (discriminant_size n)) counts

  enum_taken : (s : Source) (v : Value) → value_at_source c (s_node k_enum ms) s ≡ Some v → EnumTaken c ms s v
  unfolding load lift_leading load_case lift_case
  enum_taken (AtAddress a) v h =
      let b = both (number_in c.source (case_bytes ms) a) _ v h in
      record {
        number = b.mid;
        at = ap (λ n. number_in c.source n a) (tag_same ms) ∙ b.first;
        case = bare_is (λ s. load (from_side c) c.source s (a + payload_place (from_side c) ms)) ms b.mid v bare_ms (sym (loads_by (from_side c) c.source ms b.mid (a + payload_place (from_side c) ms)) ∙ b.last);
      }
  enum_taken (Values []) v h = absurd (none_some None v refl h)
  enum_taken (Values (x ∷ xs)) v h =
      let n = number_as flat_type.I32 x in
      record { number = n; at = sum_number ms x xs c; case = bare_is (λ s. lift_leading (from_side c) c.source s xs) ms n v bare_ms (sym (lifts_by (from_side c) c.source ms n xs) ∙ h) }

  enum_stands : (x : ℕ) (name : List ℕ) (d : Target) (us : List CoreValue) (b : List ℕ) → slice_get (names_of ns) x ≡ Some name → x < 256 ^ case_bytes ns → IsNumberAt (case_bytes ns) flat_type.I32 x d us b → StandsAtTarget c (s_node k_enum ns) (value.Case name []) d us b
  unfolding load lift_leading load_case lift_case IsCanonicalAt IsCanonicalFlat IsCanonicalCaseAt IsCanonicalCaseFlat
  enum_stands x name (Into a) us b e lt h =
      let at : number_in b (case_bytes ns) a ≡ Some x = ap (λ n. number_in b n a) (sym (tag_same ns)) ∙ h ∙ ap (λ k. Some k) (mod-eq_of_lt lt) in (
        ap (λ o. o >>= (λ x. load_case (to_side c) b ns x (a + payload_place (to_side c) ns))) at ∙ loads_by (to_side c) b ns x (a + payload_place (to_side c) ns) ∙ bare_at (λ s. load (to_side c) b s (a + payload_place (to_side c) ns)) ns x name bare_ns e,
        subst (λ o. ThereIs o (λ x. IsCanonicalCaseAt (to_side c) b ns x (a + payload_place (to_side c) ns))) (sym at) (bare_canonical_at (to_side c) b ns x (a + payload_place (to_side c) ns) name bare_ns e),
      )
  enum_stands x name (Slots ts) us b e lt h =
      subst (λ us. StandsAtTarget c (s_node k_enum ns) (value.Case name []) (Slots ts) us b) (sym h.1) (
        ap (λ n. lift_case (to_side c) b ns n []) h.3 ∙ lifts_by (to_side c) b ns x [] ∙ bare_at (λ s. lift_leading (to_side c) b s []) ns x name bare_ns e,
        (h.2 ∙ sym h.3, subst (λ n. IsCanonicalCaseFlat (to_side c) b ns n []) (sym h.3) (bare_canonical_flat (to_side c) b ns x name bare_ns e)),
      )

  enum_extents : (w : MemoryWidth) → (extent w (enum_layout (count_of_members ns))).size ≡ case_bytes ns
  enum_extents Memory32 = ap (λ l. (extent Memory32 l).size) (enum_is_scalar (count_of_members ns))
  enum_extents Memory64 = ap (λ l. (extent Memory64 l).size) (enum_is_scalar (count_of_members ns))

  pub enum_law : IsLawfulMove c (s_node k_enum ms) (s_node k_enum ns)
  unfolding move cross items weight
  enum_law = record {
    by = λ s d v gs w m is h ready target.
        let t = enum_taken s v h in
        let here : slice_get (names_of ns) t.number ≡ Some t.case.name = ap (λ l. slice_get l t.number) (sym same) ∙ t.case.at in
        let below : t.number < count_of_members ns = omega (arith, t.case.below, counts) in
        let tag = tag_is (count_of_members ns) in
        let lt : t.number < 256 ^ case_bytes ns = omega (arith, below, tag.tells (omega (arith, few))) in
        let sized : size_on c.transfer.to (s_node k_enum ns) ≡ case_bytes ns = enum_extents (width_of_side c.transfer.to) ∙ sym (tag_same ns) in
        let its : items (to_side c) (s_node k_enum ms) (s_node k_enum ns) (value.Case t.case.name []) ≡ [] =
        ap (λ o. of_some o (λ c2. items_case (to_side c) (named c2.name ms) c2.name c2.payload ns)) (case_of t.case.name []) ∙ bare_items (to_side c) (named t.case.name ms) ns t.case.name [] bare_ns in
        subst (λ v. RunsHonestly c gs (MayStop (IsFit c (s_node k_enum ms) (s_node k_enum ns) s) (items (to_side c) (s_node k_enum ms) (s_node k_enum ns) v)) (IsMoved c gs m (s_node k_enum ms) (s_node k_enum ns) d v) (move c.transfer (s_node k_enum ms) (s_node k_enum ns) s d) w) t.case.is
        (does_aligned g (s_node k_enum ms) (s_node k_enum ns) s d (Visit 1 (move_enum c.transfer ms ns s d)) w
        (does_visit
        (reads_number g (case_bytes ms) t.number _ s (λ n. unless InvalidDiscriminant (nat_lt n (count_of_members ms)) (write_number c.transfer.to (case_bytes ns) d n)) w is ready.from t.at
        (does_pass InvalidDiscriminant (nat_lt t.number (count_of_members ms)) (write_number c.transfer.to (case_bytes ns) d t.number) w (lt-ltb t.number (count_of_members ms) t.case.below)
        (does_more (λ r cs o k. absurd k)
        (λ k cs us w' o r. record {
          out = value.Case t.case.name [];
          carried = record {
            crosses = λ rest.
                ap (λ o. given o (λ c2. cross_case take_number (named c2.name ms) c2.name c2.payload ns) (numbers cs ++ rest)) (case_of t.case.name [])
                ∙ bare_crosses (named t.case.name ms) ns t.number t.case.name [] (numbers cs ++ rest) bare_ns here ∙ ap (λ l. Some (value.Case t.case.name [], numbers l ++ rest)) r.quiet;
            told = subst (λ is. AreItemCalls is cs) (sym its) r.quiet;
            weighs = omega (arith, r.weightless);
          };
          given = r.given;
          leaves = leaves_wider (λ j a. subst (λ z. IsAtTarget z d j) (sym sized) a) (λ b a. enum_stands t.number t.case.name d us b here lt a) r.leaves;
        })
        (does_write_number {H = λ r cs. ⊥} g m (case_bytes ns) t.number flat_type.I32 d w (IsInHand c gs) ready
        (subst (λ z. IsTarget c (flat_type.I32 ∷ []) z (IsInHand c gs) m d) sized target) (omega (arith, lt, tag.small))))))));
  }
