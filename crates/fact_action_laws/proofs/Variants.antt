-- Variants, options and results are moved as the law says, where their cases are.
use Rattle.std.proofs.Common.{◌≡◌, ℕ, zero, suc, ◌+◌, ◌%◌, ◌^◌, ◌≤◌, ◌<◌, max, true, List, [], ◌∷◌, ◌++◌, length, Option, Some, None, refl, sym, ap, ◌∙◌, subst, arith}
use Rattle.std.specs.Prelude.{if◌then◌else◌}
use Rattle.std.proofs.lemmas.Bool.{false≢true}
use Rattle.fact_wasm.specs.declared.types.ValType.{ValType}
use Rattle.fact_types.specs.declared.flats.FlatType.TheVariants as flat_type
use Rattle.fact_types.specs.declared.outside.Trap.TheVariants.{InvalidDiscriminant}
use Rattle.fact_types.specs.Agrees.{named, names_of}
use Rattle.fact_types.specs.declared.extents.MemoryWidth.{MemoryWidth}
use Rattle.fact_types.proofs.ShapeLaws.{same_some, none_some}
use Rattle.fact_types.specs.FlatShapes.{flat, flat_any}
use Rattle.fact_types.specs.Layout.{extents, payloads, greatest_size}
use Rattle.fact_types.specs.Shapes.{Kind, k_variant, k_option, k_result, Shape, s_node, Members, no_members, bare, typed, layouts_of}
use Rattle.fact_types.specs.Valid.{AreDistinct}
use Rattle.fact_machine.specs.declared.types.CoreValue.{CoreValue}
use Rattle.fact_machine.specs.World.{World, Stop}
use Rattle.fact_actions.specs.Actions.{Action, Visit, trap}
use Rattle.fact_values.specs.Limits.{CaseType, case_type, IsWithinLimits, IsWithinAt, IsCaseWithin, IsCaseWithinAt, IsVariantWithinAt}
use Rattle.fact_values.specs.Places.{count_of_members, case_bytes, payload_place}
use Rattle.fact_actions.specs.Moves.{move, move_case}
use Rattle.fact_actions.specs.Running.{Call}
use Rattle.fact_actions.specs.Sides.{LiftLowerOptions, Transfer, Source, Values, AtAddress, Target, Slots, Into, width_of_side, read_number, side_abi}
use Rattle.fact_values.specs.Lift.{bits_of, lift_leading, lift_case, lift_variant, number_as}
use Rattle.fact_values.specs.declared.side.SideAbi.{SideAbi}
use Rattle.fact_values.specs.declared.value.Value.{Value, out-Value}
use Rattle.fact_values.specs.declared.value.Value.TheVariants as value
use Rattle.fact_values.specs.Canonical.{ThereIs, IsCanonicalAt, IsCanonicalFlat, IsCanonicalCaseAt, IsCanonicalCaseFlat, IsNarrow, IsCanonicalVariant}
use Rattle.fact_values.specs.Carry.{take_number}
use Rattle.fact_values.specs.Handles.{cross, cross_case, given}
use Rattle.fact_values.specs.Load.{load, load_case, load_variant}
use Rattle.fact_types.specs.Options.{◌>>=◌}
use Rattle.fact_values.specs.Numbers.{number_in}
use Rattle.fact_values.specs.Opened.{case_in}
use Rattle.fact_values.specs.Weight.{weight, weight_case, weight_in}
use Rattle.fact_action_laws.specs.Items.{items, items_case, of_some, numbers, AreItemCalls}
use Rattle.fact_action_laws.specs.MoveTerms.{IsWellFormed, AreWellFormed, size_on, moving, IsFit, IsMoved, MayStop}
use Rattle.fact_action_laws.specs.Places.{from_side, to_side, value_at_source, AreInRange, IsSource, can_hold, HasSideMemory, IsTarget, IsAtTarget, StandsAtTarget, IsGrounded}
use Rattle.fact_actions.specs.Regions.{Region}
use Rattle.fact_action_laws.specs.Regions.{TransferSetting, IsInHand}
use Rattle.fact_action_laws.proofs.Cases.{count_same, tag_same, place_same, tag_is, AreAtMost, at_most, variant_place, loads_by, lifts_by, IsPayload, case_is}
use Rattle.fact_action_laws.proofs.Distinct.{case_named, case_weighs, IsPayloadOf}
use Rattle.fact_action_laws.proofs.Fields.{part_source, part_lifts}
use Rattle.fact_action_laws.proofs.Flats.{length-joined}
use Rattle.fact_action_laws.proofs.Joins.{HoldFirst, all_first, first_all, joined_left, joined_right, zero_values}
use Rattle.fact_action_laws.proofs.Judges.{does_visit, does_more}
use Rattle.fact_action_laws.proofs.Numbers.{number_at_source, reads_number}
use Rattle.fact_action_laws.proofs.Plain.{both, does_aligned, reads_flat}
use Rattle.fact_action_laws.proofs.Products.{fit_less}
use Rattle.fact_action_laws.proofs.Sums.{ArePayloadTargets, AreInside, IsSumTarget, IsPayloadAt, IsCaseFit, payload_weight, CaseStands, IsCaseMoved, IsLawfulCase}
use Rattle.fact_action_laws.proofs.Placing.{leaves_wider}
use Rattle.fact_action_laws.proofs.Targets.{both_true, left_true, right_true}
use Rattle.fact_action_laws.specs.Judged.{RunsHonestly}
use Rattle.fact_action_laws.specs.MoveLaws.{IsLawfulMove}

-- the kinds of sums
pub data SumKind : Kind → Type 0 where
  a_variant : SumKind k_variant
  an_option : SumKind k_option
  a_result : SumKind k_result

-- ---- at a source

-- a value of a sum at a source
pub record SumTaken (c : TransferSetting) (ms : Members) (s : Source) (v : Value) : Type 0 where
  pub number : ℕ
  pub at : number_at_source c (case_bytes ms) s ≡ Some number
  pub case : CaseType
  pub case_is : case_type ms number ≡ Some case
  pub payload : List Value
  pub value : v ≡ value.Case case.name payload
  pub payload_at : IsPayloadAt c ms case.payload s payload
  pub payload_of : IsPayloadOf case.payload payload

-- what all typed cases have, the one of a number has
pub case_has : (Q : Shape → Type 0) (All : Members → Type 0) → ((n : List ℕ) (ms : Members) → All (bare n ms) → All ms) → ((n : List ℕ) (s : Shape) (ms : Members) → All (typed n s ms) → Q s × All ms)
    → (ms : Members) (n : ℕ) (k : CaseType) (p : Shape) → All ms → case_type ms n ≡ Some k → k.payload ≡ Some p → Q p
case_has Q All f g no_members n k p a h e = absurd (none_some None k refl h)
case_has Q All f g (bare x ms) zero k p a h e =
    absurd (none_some k.payload p (sym (ap (λ c. c.payload) (same_some (Some k) (record { name = x; payload = None }) k (sym h) refl))) e)
case_has Q All f g (bare x ms) (suc n) k p a h e = case_has Q All f g ms n k p (f x ms a) h e
case_has Q All f g (typed x s ms) zero k p a h e =
    subst Q (same_some k.payload s p (sym (ap (λ c. c.payload) (same_some (Some k) (record { name = x; payload = Some s }) k (sym h) refl))) e) (g x s ms a).0
case_has Q All f g (typed x s ms) (suc n) k p a h e = case_has Q All f g ms n k p (g x s ms a).1 h e

pub case_formed : (ms : Members) (n : ℕ) (k : CaseType) (p : Shape) → AreWellFormed ms → case_type ms n ≡ Some k → k.payload ≡ Some p → IsWellFormed p
case_formed = case_has IsWellFormed AreWellFormed (λ x ms a. a) (λ x s ms a. a)

-- a payload has room among the joined flat types
abbrev HaveRoom : MemoryWidth → ℕ → Members → Type 0
HaveRoom w j no_members = Unit {0}
HaveRoom w j (bare x ms) = HaveRoom w j ms
HaveRoom w j (typed x s ms) = (length (flat w s) ≤ j) × HaveRoom w j ms

left_most : (a b : ℕ) → a ≤ max a b
left_most a b = grind arith

right_most : (a b : ℕ) → b ≤ max a b
right_most a b = grind arith

have_room : (w : MemoryWidth) (j : ℕ) (ms : Members) → length (flat_any w ms) ≤ j → HaveRoom w j ms
have_room w j no_members le = tt
have_room w j (bare x ms) le = have_room w j ms le
have_room w j (typed x s ms) le =
    let e = length-joined (flat w s) (flat_any w ms) in
    (omega (arith, le, e, left_most (length (flat w s)) (length (flat_any w ms))), have_room w j ms (omega (arith, le, e, right_most (length (flat w s)) (length (flat_any w ms)))))

pub any_room : (w : MemoryWidth) (ms : Members) (n : ℕ) (k : CaseType) (p : Shape) → case_type ms n ≡ Some k → k.payload ≡ Some p → length (flat w p) ≤ length (flat_any w ms)
any_room w ms n k p h e = case_has (λ s. length (flat w s) ≤ length (flat_any w ms)) (HaveRoom w (length (flat_any w ms))) (λ x ns a. a) (λ x s ns a. a) ms n k p (have_room w (length (flat_any w ms)) ms (omega arith)) h e

-- ---- the kinds alike

pub loads_sum : {k : Kind} → SumKind k → (side : SideAbi) (bytes : List ℕ) (ms : Members) (a : ℕ) → load side bytes (s_node k ms) a ≡ load_variant side bytes ms (λ x b. load_case side bytes ms x b) a
unfolding load load_case
loads_sum a_variant side bytes ms a = refl
loads_sum an_option side bytes ms a = refl
loads_sum a_result side bytes ms a = refl

pub lifts_sum : {k : Kind} → SumKind k → (side : SideAbi) (bytes : List ℕ) (ms : Members) (cs : List CoreValue) → lift_leading side bytes (s_node k ms) cs ≡ lift_variant (λ x us. lift_case side bytes ms x us) cs
unfolding lift_leading lift_case
lifts_sum a_variant side bytes ms cs = refl
lifts_sum an_option side bytes ms cs = refl
lifts_sum a_result side bytes ms cs = refl

pub sum_flat : {k : Kind} → SumKind k → (w : MemoryWidth) (ms : Members) → flat w (s_node k ms) ≡ flat_type.I32 ∷ flat_any w ms
sum_flat a_variant w ms = refl
sum_flat an_option w ms = refl
sum_flat a_result w ms = refl

-- a value of a sum at a source
pub sum_number : (ms : Members) (v : CoreValue) (vs : List CoreValue) (c : TransferSetting) → number_at_source c (case_bytes ms) (Values (v ∷ vs)) ≡ Some (number_as flat_type.I32 v)
sum_number ms v vs c = ap (λ b. Some (if b then bits_of v else bits_of v % 2 ^ 32)) ((tag_is (count_of_members ms)).narrow) ∙ ap (λ n. Some n) (reads_flat flat_type.I32 v)

payload_in_values : (c : TransferSetting) (ms : Members) (v : CoreValue) (vs : List CoreValue) (n : ℕ) (k : CaseType) (q : Option Shape) (ps : List Value) → AreWellFormed ms → case_type ms n ≡ Some k → k.payload ≡ q → length vs ≡ length (flat_any (width_of_side c.transfer.from) ms) → AreInRange vs
    → IsPayload (λ s. lift_leading (from_side c) c.source s vs) q ps → IsPayloadAt c ms q (Values (v ∷ vs)) ps
payload_in_values c ms v vs n k None ps formed h e long range p = p
payload_in_values c ms v vs n k (Some s) ps formed h e long range p =
    let f = length (flat (width_of_side c.transfer.from) s) in
    let room = any_room (width_of_side c.transfer.from) ms n k s h e in
    (p.0, p.1, part_lifts (from_side c) c.source s f 0 vs p.0 (case_formed ms n k s formed h e) refl (omega (arith, room, long)) p.2, part_source c f 0 vs (omega (arith, room, long)) range)

payload_in_memory : (c : TransferSetting) (ms : Members) (a : ℕ) (q : Option Shape) (ps : List Value) → HasSideMemory c.transfer.from → IsPayload (λ s. load (from_side c) c.source s (a + payload_place (side_abi c.transfer.from) ms)) q ps → IsPayloadAt c ms q (AtAddress a) ps
payload_in_memory c ms a None ps there p = p
payload_in_memory c ms a (Some s) ps there p = (p.0, p.1, p.2, there)

payload_one : (read : Shape → Option Value) (q : Option Shape) (ps : List Value) → IsPayload read q ps → IsPayloadOf q ps
payload_one read None ps p = p
payload_one read (Some s) ps p = (p.0, p.1)

pub sum_taken : {k : Kind} → SumKind k → (c : TransferSetting) (ms : Members) (s : Source) (v : Value) → AreWellFormed ms → IsSource c (length (flat (width_of_side c.transfer.from) (s_node k ms))) s → value_at_source c (s_node k ms) s ≡ Some v → SumTaken c ms s v
sum_taken {k} kind c ms (AtAddress a) v formed is h =
    let b = both (number_in c.source (case_bytes ms) a) _ v (sym (loads_sum kind (from_side c) c.source ms a) ∙ h) in
    let r = case_is (λ s. load (from_side c) c.source s (a + payload_place (from_side c) ms)) ms b.mid v (sym (loads_by (from_side c) c.source ms b.mid (a + payload_place (from_side c) ms)) ∙ b.last) in
    record {
      number = b.mid;
      at = ap (λ n. number_in c.source n a) (tag_same ms) ∙ b.first;
      case = r.case;
      case_is = r.at;
      payload = r.payload;
      value = r.is;
      payload_at = payload_in_memory c ms a r.case.payload r.payload is (subst (λ o. IsPayload (λ s. load (from_side c) c.source s (a + o)) r.case.payload r.payload) (sym (place_same c.transfer.from ms)) r.read_as);
      payload_of = payload_one _ r.case.payload r.payload r.read_as;
    }
sum_taken {k} kind c ms (Values []) v formed is h = absurd (none_some None v refl (sym (lifts_sum kind (from_side c) c.source ms []) ∙ h))
sum_taken {k} kind c ms (Values (x ∷ xs)) v formed is h =
    let n = number_as flat_type.I32 x in
    let r = case_is (λ s. lift_leading (from_side c) c.source s xs) ms n v (sym (lifts_by (from_side c) c.source ms n xs) ∙ sym (lifts_sum kind (from_side c) c.source ms (x ∷ xs)) ∙ h) in
    let long : suc (length xs) ≡ suc (length (flat_any (width_of_side c.transfer.from) ms)) = is.0 ∙ ap length (sum_flat kind (width_of_side c.transfer.from) ms) in
    record {
      number = n;
      at = sum_number ms x xs c;
      case = r.case;
      case_is = r.at;
      payload = r.payload;
      value = r.is;
      payload_at = payload_in_values c ms x xs n r.case r.case.payload r.payload formed r.at refl (omega (arith, long)) is.1.1 r.read_as;
      payload_of = payload_one _ r.case.payload r.payload r.read_as;
    }

-- ---- at a target

-- the payloads of given cases have their targets behind a discriminant
payloads_in : (c : TransferSetting) (all : Members) (size : ℕ) (live : ℕ → Type 0) (m : List ℕ) (a : ℕ) (ns : Members) → HasSideMemory c.transfer.to → a + size ≤ length m → ((j : ℕ) → a ≤ j → j < a + size → live j)
    → (greatest : ℕ) → payload_place (side_abi c.transfer.to) all + greatest ≤ size → AreAtMost (width_of_side c.transfer.to) greatest ns
    → ArePayloadTargets c (payload_place (side_abi c.transfer.to) all) live m (Into a) ns × AreInside c (payload_place (side_abi c.transfer.to) all) size ns
payloads_in c all size live m a no_members there le lives n room most = (tt, tt)
payloads_in c all size live m a (bare x ns) there le lives n room most = payloads_in c all size live m a ns there le lives n room most
payloads_in c all size live m a (typed x u ns) there le lives n room most =
    let r = payloads_in c all size live m a ns there le lives n room most.1 in
    (((there, omega (arith, le, room, most.0), λ j lo hi. lives j (omega (arith, lo)) (omega (arith, hi, room, most.0))), r.0), (omega (arith, room, most.0), r.1))

payloads_slots : (c : TransferSetting) (all : Members) (live : ℕ → Type 0) (m : List ℕ) (t : ValType) (ts : List ValType) (ns : Members) → HoldFirst (flat_any (width_of_side c.transfer.to) ns) ts → ArePayloadTargets c (payload_place (side_abi c.transfer.to) all) live m (Slots (t ∷ ts)) ns
payloads_slots c all live m t ts no_members h = tt
payloads_slots c all live m t ts (bare x ns) h = payloads_slots c all live m t ts ns h
payloads_slots c all live m t ts (typed x u ns) h =
    let f = flat (width_of_side c.transfer.to) u in
    let rest = flat_any (width_of_side c.transfer.to) ns in
    (first_all f ts (joined_left f rest ts h), payloads_slots c all live m t ts ns (joined_right f rest ts h))

inside_all : (c : TransferSetting) (offset size : ℕ) (ns : Members) (greatest : ℕ) → offset + greatest ≤ size → AreAtMost (width_of_side c.transfer.to) greatest ns → AreInside c offset size ns
inside_all c offset size no_members n room most = tt
inside_all c offset size (bare x ns) n room most = inside_all c offset size ns n room most
inside_all c offset size (typed x u ns) n room most = (omega (arith, room, most.0), inside_all c offset size ns n room most.1)

pub sum_target : (c : TransferSetting) (ns : Members) (live : ℕ → Type 0) (m : List ℕ) (d : Target) → IsTarget c (flat_type.I32 ∷ flat_any (width_of_side c.transfer.to) ns) (size_on c.transfer.to (s_node k_variant ns)) live m d
    → IsSumTarget c ns ns (size_on c.transfer.to (s_node k_variant ns)) live m d
sum_target c ns live m d h =
    let w = width_of_side c.transfer.to in
    let place = variant_place w ns in
    let greatest = greatest_size (extents w (payloads (layouts_of ns))) in
    let behind : case_bytes ns ≤ payload_place (side_abi c.transfer.to) ns = omega (arith, place.behind, tag_same ns, place_same c.transfer.to ns) in
    let room : payload_place (side_abi c.transfer.to) ns + greatest ≤ size_on c.transfer.to (s_node k_variant ns) = omega (arith, place.within, place_same c.transfer.to ns) in
    let most = at_most w greatest ns (omega arith) in
    go d h behind room most
  where
    go : (d : Target) → IsTarget c (flat_type.I32 ∷ flat_any (width_of_side c.transfer.to) ns) (size_on c.transfer.to (s_node k_variant ns)) live m d → case_bytes ns ≤ payload_place (side_abi c.transfer.to) ns
        → payload_place (side_abi c.transfer.to) ns + greatest_size (extents (width_of_side c.transfer.to) (payloads (layouts_of ns))) ≤ size_on c.transfer.to (s_node k_variant ns)
        → AreAtMost (width_of_side c.transfer.to) (greatest_size (extents (width_of_side c.transfer.to) (payloads (layouts_of ns)))) ns → IsSumTarget c ns ns (size_on c.transfer.to (s_node k_variant ns)) live m d
    go (Slots []) h behind room most = absurd (false≢true h)
    go (Slots (t ∷ ts)) h behind room most = record {
      tag = both_true (can_hold flat_type.I32 t) true (left_true (can_hold flat_type.I32 t) _ h) refl;
      zeroable = λ k. zero_values (flat_type.I32 ∷ flat_any (width_of_side c.transfer.to) ns) (t ∷ ts) k h;
      payloads = payloads_slots c ns live m t ts ns (all_first (flat_any (width_of_side c.transfer.to) ns) ts (right_true (can_hold flat_type.I32 t) _ h));
      inside = inside_all c (payload_place (side_abi c.transfer.to) ns) (size_on c.transfer.to (s_node k_variant ns)) ns _ room most;
      behind = behind;
      room = omega (arith, room);
    }
    go (Into a) h behind room most =
        let r = payloads_in c ns (size_on c.transfer.to (s_node k_variant ns)) live m a ns h.0 h.1 h.2 _ room most in
        record { tag = (h.0, omega (arith, h.1, behind, room), λ j lo hi. h.2 j lo (omega (arith, hi, behind, room))); zeroable = tt; payloads = r.0; inside = r.1; behind = behind; room = omega (arith, room) }

canonical_at : {k : Kind} → SumKind k → (side : SideAbi) (bytes : List ℕ) (ms : Members) (a : ℕ) → IsCanonicalVariant side bytes ms (λ x b. IsCanonicalCaseAt side bytes ms x b) a → IsCanonicalAt side bytes (s_node k ms) a
unfolding IsCanonicalAt IsCanonicalCaseAt
canonical_at a_variant side bytes ms a h = h
canonical_at an_option side bytes ms a h = h
canonical_at a_result side bytes ms a h = h

canonical_flat : {k : Kind} → SumKind k → (side : SideAbi) (bytes : List ℕ) (ms : Members) (v : CoreValue) (vs : List CoreValue) → IsNarrow flat_type.I32 v × IsCanonicalCaseFlat side bytes ms (number_as flat_type.I32 v) vs → IsCanonicalFlat side bytes (s_node k ms) (v ∷ vs)
unfolding IsCanonicalFlat IsCanonicalCaseFlat
canonical_flat a_variant side bytes ms v vs h = h
canonical_flat an_option side bytes ms v vs h = h
canonical_flat a_result side bytes ms v vs h = h

sum_stands : {k : Kind} → SumKind k → (c : TransferSetting) (ns : Members) (index : ℕ) (out : Value) (d : Target) (us : List CoreValue) (b : List ℕ) → CaseStands c ns ns (0 + index) index out d us b → StandsAtTarget c (s_node k ns) out d us b
sum_stands kind c ns index out (Into a) us b h =
    let e : 0 + index ≡ index = omega arith in
    let at : number_in b (case_bytes ns) a ≡ Some index = ap (λ n. number_in b n a) (sym (tag_same ns)) ∙ h.0 ∙ ap (λ k. Some k) e in
    let place = place_same c.transfer.to ns in (
      loads_sum kind (to_side c) b ns a ∙ ap (λ o. o >>= (λ x. load_case (to_side c) b ns x (a + payload_place (to_side c) ns))) at ∙ ap (λ o. load_case (to_side c) b ns index (a + o)) (sym place) ∙ h.1,
      canonical_at kind (to_side c) b ns a (subst (λ o. ThereIs o (λ x. IsCanonicalCaseAt (to_side c) b ns x (a + payload_place (to_side c) ns))) (sym at) (subst (λ o. IsCanonicalCaseAt (to_side c) b ns index (a + o)) place h.2)),
    )
sum_stands {k} kind c ns index out (Slots ts) us b h =
    let e : 0 + index ≡ index = omega arith in
    let n : number_as flat_type.I32 h.0 ≡ index = h.4 ∙ e in
    subst (λ us. StandsAtTarget c (s_node k ns) out (Slots ts) us b) (sym h.2) (
      lifts_sum kind (to_side c) b ns (h.0 ∷ h.1) ∙ ap (λ j. lift_case (to_side c) b ns j h.1) n ∙ h.5,
      canonical_flat kind (to_side c) b ns h.0 h.1 (h.3 ∙ sym h.4, subst (λ j. IsCanonicalCaseFlat (to_side c) b ns j h.1) (sym n) h.6),
    )

-- ---- a value

pub case_of : (x : List ℕ) (ps : List Value) → case_in (out-Value (value.Case x ps)) ≡ Some (record { name = x; payload = ps })
case_of x ps = ap case_in (value.outs-Case x ps)

sum_crosses : {k : Kind} → SumKind k → (ms ns : Members) (x : List ℕ) (ps : List Value) (a : List ℕ) → cross take_number (s_node k ms) (s_node k ns) (value.Case x ps) a ≡ cross_case take_number (named x ms) x ps ns a
unfolding cross cross_case
sum_crosses a_variant ms ns x ps a = ap (λ o. given o (λ c. cross_case take_number (named c.name ms) c.name c.payload ns) a) (case_of x ps)
sum_crosses an_option ms ns x ps a = ap (λ o. given o (λ c. cross_case take_number (named c.name ms) c.name c.payload ns) a) (case_of x ps)
sum_crosses a_result ms ns x ps a = ap (λ o. given o (λ c. cross_case take_number (named c.name ms) c.name c.payload ns) a) (case_of x ps)

sum_items : {k : Kind} → SumKind k → (side : SideAbi) (ms ns : Members) (x : List ℕ) (ps : List Value) → items side (s_node k ms) (s_node k ns) (value.Case x ps) ≡ items_case side (named x ms) x ps ns
unfolding items items_case
sum_items a_variant side ms ns x ps = ap (λ o. of_some o (λ c. items_case side (named c.name ms) c.name c.payload ns)) (case_of x ps)
sum_items an_option side ms ns x ps = ap (λ o. of_some o (λ c. items_case side (named c.name ms) c.name c.payload ns)) (case_of x ps)
sum_items a_result side ms ns x ps = ap (λ o. of_some o (λ c. items_case side (named c.name ms) c.name c.payload ns)) (case_of x ps)

sum_weighs : {k : Kind} → SumKind k → (ms : Members) (x : List ℕ) (ps : List Value) → weight (s_node k ms) (value.Case x ps) ≡ 1 + (count_of_members ms + weight_case ms x ps)
unfolding weight weight_case
sum_weighs a_variant ms x ps = ap (λ o. 1 + (count_of_members ms + weight_in (λ c. weight_case ms c.name c.payload) o)) (case_of x ps)
sum_weighs an_option ms x ps = ap (λ o. 1 + (count_of_members ms + weight_in (λ c. weight_case ms c.name c.payload) o)) (case_of x ps)
sum_weighs a_result ms x ps = ap (λ o. 1 + (count_of_members ms + weight_in (λ c. weight_case ms c.name c.payload) o)) (case_of x ps)

-- ---- limits

fit_values : {k : Kind} → SumKind k → (c : TransferSetting) (ms ns : Members) (kk : Kind) (v : CoreValue) (vs : List CoreValue) → IsFit c (s_node kk ms) (s_node k ns) (Values (v ∷ vs)) → ThereIs (case_type ms (number_as flat_type.I32 v)) (λ x. IsCaseWithin (moving c) x ns vs)
unfolding IsWithinLimits IsCaseWithin
fit_values a_variant c ms ns kk v vs h = h
fit_values an_option c ms ns kk v vs h = h
fit_values a_result c ms ns kk v vs h = h

fit_memory : {k : Kind} → SumKind k → (c : TransferSetting) (ms ns : Members) (kk : Kind) (a : ℕ) → IsFit c (s_node kk ms) (s_node k ns) (AtAddress a) → IsVariantWithinAt (moving c) ms (λ x b. IsCaseWithinAt (moving c) x ns b) a
unfolding IsWithinAt IsCaseWithinAt
fit_memory a_variant c ms ns kk a h = h
fit_memory an_option c ms ns kk a h = h
fit_memory a_result c ms ns kk a h = h

fit_none : {k : Kind} → SumKind k → (c : TransferSetting) (ms ns : Members) (kk : Kind) → IsFit c (s_node kk ms) (s_node k ns) (Values []) → ⊥
unfolding IsWithinLimits
fit_none a_variant c ms ns kk h = h
fit_none an_option c ms ns kk h = h
fit_none a_result c ms ns kk h = h

sum_fit : {k : Kind} → SumKind k → (c : TransferSetting) (ms ns : Members) (s : Source) (n : ℕ) (case : CaseType) → number_at_source c (case_bytes ms) s ≡ Some n → case_type ms n ≡ Some case → IsFit c (s_node k ms) (s_node k ns) s → IsCaseFit c ms case ns s
sum_fit {k} kind c ms ns (Values []) n case e h f = fit_none kind c ms ns k f
sum_fit {k} kind c ms ns (Values (v ∷ vs)) n case e h f =
    let same : number_as flat_type.I32 v ≡ n = same_some (Some n) (number_as flat_type.I32 v) n (sym e ∙ sum_number ms v vs c) refl in
    subst (λ o. ThereIs o (λ x. IsCaseWithin (moving c) x ns vs)) h
    (subst (λ j. ThereIs (case_type ms j) (λ x. IsCaseWithin (moving c) x ns vs)) same (fit_values kind c ms ns k v vs f))
sum_fit {k} kind c ms ns (AtAddress a) n case e h f =
    let at : number_in c.source (case_bytes ms) a ≡ Some n = ap (λ n. number_in c.source n a) (sym (tag_same ms)) ∙ e in
    subst (λ o. IsCaseWithinAt (moving c) case ns (a + o)) (sym (place_same c.transfer.from ms))
    (subst (λ o. ThereIs o (λ x. IsCaseWithinAt (moving c) x ns (a + payload_place (from_side c) ms))) h
    (subst (λ o. ThereIs o (λ x. ThereIs (case_type ms x) (λ t. IsCaseWithinAt (moving c) t ns (a + payload_place (from_side c) ms)))) at (fit_memory kind c ms ns k a f)))

-- ---- the law

pub sum_layout : {k : Kind} → SumKind k → (o : LiftLowerOptions) (ns : Members) → size_on o (s_node k ns) ≡ size_on o (s_node k_variant ns)
sum_layout a_variant o ns = refl
sum_layout an_option o ns = refl
sum_layout a_result o ns = refl

-- the case of a number is moved, and there is one
abbrev pub move_of : Transfer → (ms ns : Members) → Source → Target → Option CaseType → Action (List CoreValue)
move_of tr ms ns s d q = elim q [ None ↦ trap InvalidDiscriminant | Some k ↦ move_case tr ms ns k ns 0 s d ]

pub does_sum : {k : Kind} → SumKind k → {c : TransferSetting} {gs : List Region} {H : Stop → List Call → Type 0} {P : ℕ → List Call → List CoreValue → World → Type 0} → IsGrounded c → (ms ns : Members) (s : Source) (d : Target) (w : World)
    → RunsHonestly c gs H (λ n cs a w'. P (1 + count_of_members ms + n) cs a w') (read_number c.transfer.debug c.transfer.from (case_bytes ms) s (λ x. move_of c.transfer ms ns s d (case_type ms x))) w
    → RunsHonestly c gs H P (move c.transfer (s_node k ms) (s_node k ns) s d) w
unfolding move
does_sum a_variant {c} g ms ns s d w h = does_aligned g (s_node k_variant ms) (s_node k_variant ns) s d (Visit (1 + count_of_members ms) (read_number c.transfer.debug c.transfer.from (case_bytes ms) s (λ x. move_of c.transfer ms ns s d (case_type ms x)))) w (does_visit h)
does_sum an_option {c} g ms ns s d w h = does_aligned g (s_node k_option ms) (s_node k_option ns) s d (Visit (1 + count_of_members ms) (read_number c.transfer.debug c.transfer.from (case_bytes ms) s (λ x. move_of c.transfer ms ns s d (case_type ms x)))) w (does_visit h)
does_sum a_result {c} g ms ns s d w h = does_aligned g (s_node k_result ms) (s_node k_result ns) s d (Visit (1 + count_of_members ms) (read_number c.transfer.debug c.transfer.from (case_bytes ms) s (λ x. move_of c.transfer ms ns s d (case_type ms x)))) w (does_visit h)

-- its case, moved, makes the sum moved
module _ {k : Kind} (kind : SumKind k) (c : TransferSetting) (g : IsGrounded c) (ms ns : Members) where
  sum_moved : (gs : List Region) (m : List ℕ) (d : Target) (n : ℕ) (cs : List Call) (us : List CoreValue) (w : World) (case : CaseType) (ps : List Value) → named case.name ms ≡ case.payload → weight_case ms case.name ps ≡ payload_weight case.payload ps
      → IsCaseMoved c gs m ns case ns 0 (size_on c.transfer.to (s_node k_variant ns)) d ps n cs us w → IsMoved c gs m (s_node k ms) (s_node k ns) d (value.Case case.name ps) (1 + count_of_members ms + n) cs us w
  sum_moved gs m d n cs us w case ps named_is weighs t = record {
    out = value.Case t.name t.outs;
    carried = record {
      crosses = λ rest. sum_crosses kind ms ns case.name ps (numbers cs ++ rest) ∙ ap (λ q. cross_case take_number q case.name ps ns (numbers cs ++ rest)) named_is ∙ t.crosses rest;
      told = subst (λ is. AreItemCalls is cs) (sym (sum_items kind (to_side c) ms ns case.name ps ∙ ap (λ q. items_case (to_side c) q case.name ps ns) named_is)) t.told;
      weighs = let e = count_same ms in omega (arith, e, t.weighs, weighs, sum_weighs kind ms case.name ps);
    };
    given = t.given;
    leaves = leaves_wider (λ j a. subst (λ z. IsAtTarget z d j) (sym (sum_layout kind c.transfer.to ns)) a) (λ b a. sum_stands kind c ns t.index (value.Case t.name t.outs) d us b a) t.leaves;
  }

  pub sum_law : AreWellFormed ms → AreDistinct (names_of ms) → count_of_members ns ≤ 268435456
      → ((n : ℕ) (case : CaseType) → case_type ms n ≡ Some case → IsLawfulCase c ms ns case ns 0 (size_on c.transfer.to (s_node k_variant ns))) → IsLawfulMove c (s_node k ms) (s_node k ns)
  sum_law formed distinct few one = record {
    by = λ s d v gs w m is h ready target.
        let t = sum_taken kind c ms s v formed is h in
        let named_is = case_named ms t.number t.case distinct t.case_is in
        let its = items_case (to_side c) t.case.payload t.case.name t.payload ns in
        let same : items (to_side c) (s_node k ms) (s_node k ns) (value.Case t.case.name t.payload) ≡ its = sum_items kind (to_side c) ms ns t.case.name t.payload ∙ ap (λ q. items_case (to_side c) q t.case.name t.payload ns) named_is in
        subst (λ v. RunsHonestly c gs (MayStop (IsFit c (s_node k ms) (s_node k ns) s) (items (to_side c) (s_node k ms) (s_node k ns) v)) (IsMoved c gs m (s_node k ms) (s_node k ns) d v) (move c.transfer (s_node k ms) (s_node k ns) s d) w) (sym t.value)
        (subst (λ is. RunsHonestly c gs (MayStop (IsFit c (s_node k ms) (s_node k ns) s) is) (IsMoved c gs m (s_node k ms) (s_node k ns) d (value.Case t.case.name t.payload)) (move c.transfer (s_node k ms) (s_node k ns) s d) w) (sym same)
        (does_sum kind g ms ns s d w
        (reads_number g (case_bytes ms) t.number _ s (λ x. move_of c.transfer ms ns s d (case_type ms x)) w is ready.from t.at
        (subst (λ q. RunsHonestly c gs (MayStop (IsFit c (s_node k ms) (s_node k ns) s) its) (λ n cs us w'. IsMoved c gs m (s_node k ms) (s_node k ns) d (value.Case t.case.name t.payload) (1 + count_of_members ms + n) cs us w') (move_of c.transfer ms ns s d q) w) (sym t.case_is)
        (does_more
        (λ r cs o f. fit_less _ _ its (sum_fit kind c ms ns s t.number t.case t.at t.case_is) r cs f)
        (λ n cs us w' o r. sum_moved gs m d n cs us w' t.case t.payload named_is (case_weighs ms t.number t.case t.payload distinct t.case_is t.payload_of) r)
        ((one t.number t.case t.case_is).by s d t.payload gs w m t.payload_at ready
        (sum_target c ns (IsInHand c gs) m d (subst (λ z. IsTarget c (flat_type.I32 ∷ flat_any (width_of_side c.transfer.to) ns) z (IsInHand c gs) m d) (sum_layout kind c.transfer.to ns) (subst (λ fs. IsTarget c fs (size_on c.transfer.to (s_node k ns)) (IsInHand c gs) m d) (sum_flat kind (width_of_side c.transfer.to) ns) target)))
        (let f : count_of_members ns ≤ 256 ^ case_bytes ns = (tag_is (count_of_members ns)).tells (omega (arith, few)) in omega (arith, f))))))));
  }
