-- How a case is lowered, step by step.
use Rattle.std.proofs.Common.{◌≡◌, ℕ, ◌-◌, ◌^◌, ◌<◌, ◌≤◌, List, [], ◌∷◌, ◌++◌, length, take, drop, Option, Some, None, refl, sym, ap, ◌∙◌, subst, arith}
use Rattle.std.specs.Prelude.{slice_get}
use Rattle.fact_machine.specs.declared.types.CoreValue.{CoreValue}
use Rattle.fact_types.specs.declared.flats.FlatType.{FlatType}
use Rattle.fact_types.specs.declared.flats.FlatType.TheVariants.{I32}
use Rattle.fact_types.specs.declared.interface.InterfaceType.{InterfaceType}
use Rattle.fact_types.specs.Agrees.{names_of}
use Rattle.fact_types.specs.Flat.{join}
use Rattle.fact_types.specs.FlatShapes.{flat_any}
use Rattle.fact_types.specs.Shapes.{Kind, s_node, Members}
use Rattle.fact_types.specs.Tables.{Tables, HasShape}
use Rattle.fact_types.proofs.ShapeLaws.{same_some, none_some}
use Rattle.fact_values.specs.declared.side.SideAbi.{SideAbi}
use Rattle.fact_values.specs.declared.value.Value.{Value}
use Rattle.fact_values.specs.declared.value.Value.TheVariants as value
use Rattle.fact_values.specs.IsA.{HasCase}
use Rattle.fact_values.specs.Places.{width_of}
use Rattle.fact_abi.specs.declared.nodes.NodeKind.{NodeKind}
use Rattle.fact_abi.specs.declared.nodes.NodeKind.TheVariants as is
use Rattle.fact_abi.specs.Finding.{IsFirstNamed, IsIndexOf, member_type_at}
use Rattle.fact_abi.specs.Nodes.{AreOf, AreTold, IsVariantKind, kind_of}
use Rattle.fact_abi.proofs.BelongLaws.{case_found, index_nowhere, no_such_case}
use Rattle.fact_abi.proofs.LeadingLaws.{from_place}
use Rattle.fact_lowering.specs.CoreSteps.{IsMemberLowerable, IsPayloadLowerable, PayloadLoweredOr, zeros_of}
use Rattle.fact_lowering.specs.Lowered.{BeginWideFor, CanStore, IsLowered, IsLoweredTo, LacksRoom, ReadsAs, own_room}
use Rattle.fact_lowering.specs.Lowerings.{core_of, cores_of, own_case}
use Rattle.fact_lowering.specs.Room.{shape_named}
use Rattle.fact_lowering.proofs.CoreCases.{bare_here, bare_lowered, payload_here, typed_lowered}
use Rattle.fact_lowering.proofs.CoreKinds.{CaseSlots, case_is, case_rest, case_slots, case_told, variant_kind}
use Rattle.fact_lowering.proofs.CoreNodes.{Opened}
use Rattle.fact_lowering.proofs.OwnRooms.{IsCaseKind, case_room}

module _ (t : Tables) (side : SideAbi) (k : Kind) (types : List (Option InterfaceType)) (ms : Members) (i : ℕ) (x : List ℕ) (vs : List Value) (rest : List FlatType) (are : AreOf t types ms) (named : IsFirstNamed x (names_of ms) i) (has : HasCase ms x vs)
    (wide : BeginWideFor (flat_any (width_of side) ms) rest) where
  pub payload_lowerable : (o : Option InterfaceType) (cursor : ℕ) (bytes : List ℕ) → member_type_at types i ≡ o → length rest ≤ 16 → CanStore cursor bytes → IsPayloadLowerable t side o vs rest cursor bytes
  payload_lowerable None cursor bytes e few can = can.inside
  payload_lowerable (Some y) cursor bytes e few can =
      let p = payload_here t side types ms i x vs rest y are named e has wide in
      subst (λ us. IsPayloadLowerable t side (Some y) us rest cursor bytes) (sym p.one) (record { shape = p.shape; shaped = p.shaped; is = p.is; wide = p.wide; few = few; can = can })

  pub payload_count : (o : Option InterfaceType) (count : Option ℕ) (n low high : ℕ) (before after : List ℕ) (out out' : List CoreValue) → member_type_at types i ≡ o → count ≡ Some n → PayloadLoweredOr t side o vs rest count low high before after out out' → n ≤ length rest
  payload_count None count n low high before after out out' e is l = let none : n ≡ 0 = same_some count n 0 is l.none in omega (arith, none)
  payload_count (Some y) count n low high before after out out' e is l =
      let p = payload_here t side types ms i x vs rest y are named e has wide in
      let q = subst (λ us. PayloadLoweredOr t side (Some y) us rest (Some n) low high before after out out') p.one (subst (λ c. PayloadLoweredOr t side (Some y) vs rest c low high before after out out') is l) in
      omega (arith, (q p.shape p.shaped).0, p.wide.0)

  -- there was less room for the payload
  pub case_lacks : (o : Option InterfaceType) (count : Option ℕ) (low high : ℕ) (before after : List ℕ) (out out' : List CoreValue) → IsCaseKind k → member_type_at types i ≡ o → count ≡ None → PayloadLoweredOr t side o vs rest count low high before after out out'
      → LacksRoom low (own_room side (s_node k ms) (value.Case x vs)) before
  case_lacks None count low high before after out out' c e is l = absurd (none_some count 0 is l.none)
  case_lacks (Some y) count low high before after out out' c e is l =
      let p = payload_here t side types ms i x vs rest y are named e has wide in
      let q = subst (λ us. PayloadLoweredOr t side (Some y) us rest None low high before after out out') p.one (subst (λ c. PayloadLoweredOr t side (Some y) vs rest c low high before after out out') is l) in
      subst (λ n. LacksRoom low n before) (sym (case_room side k ms x vs c ∙ p.room (shape_named x ms))) (q p.shape p.shaped)

  pub case_lowered : (o : Option InterfaceType) (count : Option ℕ) (n low high : ℕ) (before after : List ℕ) (slot : FlatType) (out out' mid end : List CoreValue) → IsCaseKind k → member_type_at types i ≡ o → count ≡ Some n → join I32 slot ≡ slot → i < 2 ^ 32 → low ≤ length before
      → out' ≡ out ++ core_of slot i ∷ [] → PayloadLoweredOr t side o vs rest count low high before after out' mid → end ≡ mid ++ zeros_of (drop n rest) → IsLowered side (s_node k ms) (value.Case x vs) (slot ∷ rest) low high before after out end
  case_lowered None count n low high before after slot out out' mid end c e is wider small inside told l zeros =
      let none : n ≡ 0 = same_some count n 0 is l.none in
      let all : end ≡ out' ++ zeros_of rest = zeros ∙ ap (λ k. mid ++ zeros_of (drop k rest)) none ∙ ap (λ o. o ++ zeros_of rest) l.cores in
      subst (λ m. IsLoweredTo (ReadsAs side (s_node k ms) (value.Case x vs)) (slot ∷ rest) low high m before after out end) (sym (case_room side k ms x vs c))
      (subst (λ h. IsLoweredTo (ReadsAs side (s_node k ms) (value.Case x vs)) (slot ∷ rest) low h (own_case side ms x vs) before after out end) (sym l.cursor)
      (subst (λ b. IsLoweredTo (ReadsAs side (s_node k ms) (value.Case x vs)) (slot ∷ rest) low low (own_case side ms x vs) before b out end) (sym l.bytes)
      (bare_lowered side k ms i x vs slot rest low before out out' c wider small inside told end (bare_here t side types ms i x vs are named e has) all)))
  case_lowered (Some y) count n low high before after slot out out' mid end c e is wider small inside told l zeros =
      let p = payload_here t side types ms i x vs rest y are named e has wide in
      let q = subst (λ us. PayloadLoweredOr t side (Some y) us rest (Some n) low high before after out' mid) p.one (subst (λ c. PayloadLoweredOr t side (Some y) vs rest c low high before after out' mid) is l) in
      subst (λ m. IsLoweredTo (ReadsAs side (s_node k ms) (value.Case x vs)) (slot ∷ rest) low high m before after out end) (sym (case_room side k ms x vs c))
      (typed_lowered side k ms i x vs slot rest low before out out' c wider small inside told t y p n high after mid end (q p.shape p.shaped).1 zeros)

-- ---- the case of a value

-- What is known of a case that can be lowered.
pub record CaseOpened (t : Tables) (side : SideAbi) (k : Kind) (types : List (Option InterfaceType)) (ms : Members) (i : ℕ) (x : List ℕ) (vs : List Value) (slots : List FlatType) : Type 0 where
  pub are : AreOf t types ms
  pub named : IsFirstNamed x (names_of ms) i
  pub has : HasCase ms x vs
  pub cases : IsCaseKind k
  pub places : CaseSlots side ms slots

told_case : (k : NodeKind) (t : Tables) (names : List (List ℕ)) (types : List (Option InterfaceType)) (ms : Members) → IsVariantKind k → AreTold k t names types ms → (names ≡ names_of ms) × AreOf t types ms
told_case is.Variant t names types ms h a = a
told_case is.Enum t names types ms h a = a
told_case is.Option t names types ms h a = a
told_case is.Result t names types ms h a = a
told_case _ t names types ms h a = absurd h

module _ {t : Tables} {side : SideAbi} {k : NodeKind} {names : List (List ℕ)} {types : List (Option InterfaceType)} (x : List ℕ) (vs : List Value) {slots : List FlatType} {ms : Members} (p : Opened t side k names types (value.Case x vs) slots ms) (variant : IsVariantKind k) where
  pub case_opened : (ty : InterfaceType) (o : Option ℕ) (i : ℕ) → HasShape t ty (s_node (kind_of k) ms) → IsIndexOf x names o → o ≡ Some i → CaseOpened t side (kind_of k) types ms i x vs slots
  case_opened ty o i h found is =
      let told = told_case k t names types ms variant p.told in
      record {
        are = told.1;
        named = case_found x names ms o i told.0 is found;
        has = case_is (kind_of k) ms x vs (variant_kind k variant) p.is;
        cases = variant_kind k variant;
        places = case_slots t ty side (kind_of k) ms slots (variant_kind k variant) h p.wide;
      }

  -- its name is among those of the type
  pub case_somewhere : {X : Type 0} (o : Option ℕ) → IsIndexOf x names o → o ≡ None → X
  case_somewhere o found none =
      let told = told_case k t names types ms variant p.told in
      absurd (no_such_case x vs ms (index_nowhere x names ms o told.0 none found) (case_is (kind_of k) ms x vs (variant_kind k variant) p.is))

pub case_room_for_one : {side : SideAbi} {ms : Members} {slots : List FlatType} → CaseSlots side ms slots → 1 ≤ length slots
case_room_for_one {side} {ms} {slots} c = omega (arith, ap length c.are)

module _ {t : Tables} {side : SideAbi} {k : Kind} {types : List (Option InterfaceType)} {ms : Members} {i : ℕ} {x : List ℕ} {vs : List Value} {slots : List FlatType} (p : CaseOpened t side k types ms i x vs slots) where
  pub whole_lowerable : (cursor : ℕ) (bytes : List ℕ) → length slots ≤ 16 → CanStore cursor bytes → IsPayloadLowerable t side (member_type_at types i) vs (take (length slots - 1) (drop 1 slots)) cursor bytes
  whole_lowerable cursor bytes few can =
      subst (λ fs. IsPayloadLowerable t side (member_type_at types i) vs fs cursor bytes) (sym (case_rest p.places))
      (payload_lowerable t side k types ms i x vs p.places.rest p.are p.named p.has p.places.rest_wide (member_type_at types i) cursor bytes refl (omega (arith, few, ap length p.places.are)) can)

  pub whole_count : (count : Option ℕ) (n low high : ℕ) (before after : List ℕ) (out out' : List CoreValue) → count ≡ Some n → PayloadLoweredOr t side (member_type_at types i) vs (take (length slots - 1) (drop 1 slots)) count low high before after out out' → n ≤ length (take (length slots - 1) (drop 1 slots))
  whole_count count n low high before after out out' is l =
      subst (λ fs. n ≤ length fs) (sym (case_rest p.places))
      (payload_count t side k types ms i x vs p.places.rest p.are p.named p.has p.places.rest_wide (member_type_at types i) count n low high before after out out' refl is
      (subst (λ fs. PayloadLoweredOr t side (member_type_at types i) vs fs count low high before after out out') (case_rest p.places) l))

  pub whole_lacks : (count : Option ℕ) (low high : ℕ) (before after : List ℕ) (out out' : List CoreValue) → count ≡ None → PayloadLoweredOr t side (member_type_at types i) vs (take (length slots - 1) (drop 1 slots)) count low high before after out out'
      → LacksRoom low (own_room side (s_node k ms) (value.Case x vs)) before
  whole_lacks count low high before after out out' is l =
      case_lacks t side k types ms i x vs p.places.rest p.are p.named p.has p.places.rest_wide (member_type_at types i) count low high before after out out' p.cases refl is
      (subst (λ fs. PayloadLoweredOr t side (member_type_at types i) vs fs count low high before after out out') (case_rest p.places) l)

  pub whole_lowered : (count : Option ℕ) (n low high : ℕ) (before after : List ℕ) (out out' mid end : List CoreValue) → count ≡ Some n → i < 2 ^ 32 → low ≤ length before → out' ≡ out ++ cores_of slots (i ∷ [])
      → PayloadLoweredOr t side (member_type_at types i) vs (take (length slots - 1) (drop 1 slots)) count low high before after out' mid → end ≡ mid ++ zeros_of (take (length (take (length slots - 1) (drop 1 slots)) - n) (drop n (take (length slots - 1) (drop 1 slots))))
      → IsLowered side (s_node k ms) (value.Case x vs) slots low high before after out end
  whole_lowered count n low high before after out out' mid end is small inside told l zeros =
      let rest = take (length slots - 1) (drop 1 slots) in
      let left : end ≡ mid ++ zeros_of (drop n p.places.rest) = zeros ∙ ap (λ fs. mid ++ zeros_of fs) (from_place n rest ∙ ap (drop n) (case_rest p.places)) in
      subst (λ fs. IsLowered side (s_node k ms) (value.Case x vs) fs low high before after out end) (sym p.places.are)
      (case_lowered t side k types ms i x vs p.places.rest p.are p.named p.has p.places.rest_wide (member_type_at types i) count n low high before after p.places.slot out out' mid end p.cases refl is p.places.wide small inside (case_told p.places i out out' told)
      (subst (λ fs. PayloadLoweredOr t side (member_type_at types i) vs fs count low high before after out' mid) (case_rest p.places) l) left)

-- the payload that is there
pub payload_member : (t : Tables) (side : SideAbi) (o : Option InterfaceType) (vs : List Value) (slots : List FlatType) (cursor : ℕ) (bytes : List ℕ) (y : InterfaceType) (v : Value) → o ≡ Some y → slice_get vs 0 ≡ Some v → IsPayloadLowerable t side o vs slots cursor bytes → IsMemberLowerable t side y v slots cursor bytes
payload_member t side None vs slots cursor bytes y v e there h = absurd (none_some None y refl e)
payload_member t side (Some z) [] slots cursor bytes y v e there h = absurd h
payload_member t side (Some z) (u ∷ us) slots cursor bytes y v e there h = subst (λ y. IsMemberLowerable t side y v slots cursor bytes) (same_some (Some z) z y refl e) (subst (λ w. IsMemberLowerable t side z w slots cursor bytes) (same_some (Some u) u v refl there) h)
