use Rattle.std.proofs.Common.{◌≡◌, ◌∙◌, ◌+◌, ◌-◌, ap, sym, subst, refl, arith, length, take, drop, get_or, ◌∷◌, [], ◌++◌, Some}
use Rattle.std.specs.Prelude.{slice_get, option_map, true}
use Rattle.fact_machine.specs.declared.types.CoreValue.TheVariants as core
use Rattle.fact_types.specs.Agrees.{names_of}
use Rattle.fact_types.specs.FlatShapes.{flat, flat_any}
use Rattle.fact_types.specs.declared.flats.FlatType.TheVariants.{I32}
use Rattle.fact_types.specs.Signatures.{width}
use Rattle.fact_types.specs.Tables.{HasShape}
use Rattle.fact_abi.specs.declared.nodes.NodeKind.TheVariants as is
use Rattle.fact_values.specs.declared.value.Value.TheVariants as value
use Rattle.fact_values.specs.Formed.{IsFormed}
use Rattle.fact_abi.specs.Leading.{can_lead, leading, Lifted, LiftedEach}
use Rattle.fact_values.specs.Lift.{lift_leading, lift_variant, lift_case}
use Rattle.fact_abi.specs.Nodes.{IsNodeOf, AreOf}
use Rattle.fact_values.proofs.FormedLaws.{formed}
use Rattle.fact_abi.proofs.KindLaws.{if_ok}
use Rattle.fact_abi.proofs.LeadingLaws.{from_place, split_first, still_within, bare_any}
use Rattle.fact_abi.proofs.LiftingLaws.{lifted_starts, lifted_past, lifted_on, not_lifted, member_leads, all_lifted, each_starts, each_on, not_each, element_leads, all_each, plain_lifts, record_lifts, no_record, tuple_lifts, variant_lifts, flags_lift, future_lifts, stream_lifts, fixed_list_lifts, no_case, no_case_name, bare_case_lifts, typed_case_lifts, payload_leads}
use Rattle.fact_abi.proofs.LoadLaws.{by_kind, of_kind, member_within}
use Rattle.fact_abi.proofs.PartLaws.{typed_case, bare_case}
use Rattle.fact_abi.proofs.TextLaws.{is_nil}
use Rattle.fact_abi.proofs.lifting.+lifting.Goals as goal
use Rattle.fact_abi.proofs.lifting.+lifting.Goals.{lift_members-in-Some+in_ok-count+in-Some-2+in_ok-value+in-Some-3+in_ok-push-in-Some-3, lift_members-in_default, lift_case-in-Some-payload+in_ok-value+in-Some-2+in_ok-push-in-Some-2, lift_case-in_default-payload}

pub lift_value-returns-in-None : goal.lift_value-returns-in-None
lift_value-returns-in-None t c =
    let none = subst (IsNodeOf c.args.types.now c.args.ty.now) c.in-None.is c.in_ok-node_of_type.ensures in
    if_ok _ _ c.lift_plain.result (λ o e s h stand. plain_lifts c.args.side.now c.args.bytes.now c.args.values.now c.args.ty.now s o (none s h) e) c.lift_plain.ensures

pub lift_node-returns-in-Record : goal.lift_node-returns-in-Record
lift_node-returns-in-Record t c =
    if_ok _ _ c.lift_record.result (λ o e. by_kind c.args.types.now c.args.ty.now c.args.node.now is.Record (λ s. can_lead (flat (width c.args.side.now.memory64) s) c.args.values.now ≡ true → o ≡ lift_leading c.args.side.now c.args.bytes.now s c.args.values.now) c.requires.told c.in-Record.is (λ ms told. e ms told)) c.lift_record.ensures

pub lift_node-returns-in-Tuple : goal.lift_node-returns-in-Tuple
lift_node-returns-in-Tuple t c =
    if_ok _ _ c.lift_tuple.result (λ o e. by_kind c.args.types.now c.args.ty.now c.args.node.now is.Tuple (λ s. can_lead (flat (width c.args.side.now.memory64) s) c.args.values.now ≡ true → o ≡ lift_leading c.args.side.now c.args.bytes.now s c.args.values.now) c.requires.told c.in-Tuple.is (λ ms told. e ms told)) c.lift_tuple.ensures

pub lift_node-returns-in-Variant : goal.lift_node-returns-in-Variant
lift_node-returns-in-Variant t c =
    if_ok _ _ c.lift_variant.result (λ o e. by_kind c.args.types.now c.args.ty.now c.args.node.now is.Variant (λ s. can_lead (flat (width c.args.side.now.memory64) s) c.args.values.now ≡ true → o ≡ lift_leading c.args.side.now c.args.bytes.now s c.args.values.now) c.requires.told c.in-Variant.is (λ ms told. λ stand. variant_lifts c.args.side.now c.args.bytes.now c.args.values.now ms is.Variant o tt (e ms told.0 told.1 stand))) c.lift_variant.ensures

pub lift_node-returns-in-Option : goal.lift_node-returns-in-Option
lift_node-returns-in-Option t c =
    if_ok _ _ c.lift_variant-in-Option.result (λ o e. by_kind c.args.types.now c.args.ty.now c.args.node.now is.Option (λ s. can_lead (flat (width c.args.side.now.memory64) s) c.args.values.now ≡ true → o ≡ lift_leading c.args.side.now c.args.bytes.now s c.args.values.now) c.requires.told c.in-Option.is (λ ms told. λ stand. variant_lifts c.args.side.now c.args.bytes.now c.args.values.now ms is.Option o tt (e ms told.0 told.1 stand))) c.lift_variant-in-Option.ensures

pub lift_node-returns-in-Result : goal.lift_node-returns-in-Result
lift_node-returns-in-Result t c =
    if_ok _ _ c.lift_variant-in-Result.result (λ o e. by_kind c.args.types.now c.args.ty.now c.args.node.now is.Result (λ s. can_lead (flat (width c.args.side.now.memory64) s) c.args.values.now ≡ true → o ≡ lift_leading c.args.side.now c.args.bytes.now s c.args.values.now) c.requires.told c.in-Result.is (λ ms told. λ stand. variant_lifts c.args.side.now c.args.bytes.now c.args.values.now ms is.Result o tt (e ms told.0 told.1 stand))) c.lift_variant-in-Result.ensures

pub lift_node-returns-in-Enum : goal.lift_node-returns-in-Enum
lift_node-returns-in-Enum t c =
    if_ok _ _ c.lift_variant-in-Enum.result (λ o e s h stand.
    let q = of_kind c.args.types.now c.args.ty.now c.args.node.now is.Enum s c.requires.told c.in-Enum.is h in
    let bare = (subst IsFormed q.is (formed c.args.types.now c.args.ty.now s h)).0 in
    let one = ap (λ s. can_lead (flat (width c.args.side.now.memory64) s) c.args.values.now) (sym q.is) ∙ stand in
    variant_lifts c.args.side.now c.args.bytes.now c.args.values.now q.members is.Enum o tt (e q.members q.told.0 q.told.1 (ap (λ fs. can_lead (I32 ∷ fs) c.args.values.now) (bare_any (width c.args.side.now.memory64) q.members bare) ∙ one)) ∙ ap (λ s. lift_leading c.args.side.now c.args.bytes.now s c.args.values.now) (sym q.is)) c.lift_variant-in-Enum.ensures

pub lift_node-returns-in-List : goal.lift_node-returns-in-List
lift_node-returns-in-List t c =
    if_ok _ _ c.lift_list.result (λ o e. by_kind c.args.types.now c.args.ty.now c.args.node.now (is.List c.in-List.element) (λ s. can_lead (flat (width c.args.side.now.memory64) s) c.args.values.now ≡ true → o ≡ lift_leading c.args.side.now c.args.bytes.now s c.args.values.now) c.requires.told c.in-List.is (λ ms told. λ stand. e ms (subst (λ xs. AreOf c.args.types.now xs ms) told.0 told.1))) c.lift_list.ensures

pub lift_node-returns-in-Flags : goal.lift_node-returns-in-Flags
lift_node-returns-in-Flags t c =
    if_ok _ _ c.lift_flags.result (λ o e. by_kind c.args.types.now c.args.ty.now c.args.node.now is.Flags (λ s. can_lead (flat (width c.args.side.now.memory64) s) c.args.values.now ≡ true → o ≡ lift_leading c.args.side.now c.args.bytes.now s c.args.values.now) c.requires.told c.in-Flags.is (λ ms told. λ stand. flags_lift c.args.side.now c.args.bytes.now c.args.values.now ms c.args.node.now.names o told e)) c.lift_flags.ensures

pub lift_node-returns-in-FixedList : goal.lift_node-returns-in-FixedList
lift_node-returns-in-FixedList t c =
    if_ok _ _ c.lift_fixed_list.result (λ o e. by_kind c.args.types.now c.args.ty.now c.args.node.now (is.FixedList c.in-FixedList.count c.in-FixedList.element) (λ s. can_lead (flat (width c.args.side.now.memory64) s) c.args.values.now ≡ true → o ≡ lift_leading c.args.side.now c.args.bytes.now s c.args.values.now) c.requires.told c.in-FixedList.is (λ ms told. λ stand. fixed_list_lifts c.args.types.now c.args.side.now c.args.bytes.now c.args.values.now c.in-FixedList.element c.in-FixedList.count ms o (subst (λ xs. AreOf c.args.types.now xs ms) told.0 told.1) e stand)) c.lift_fixed_list.ensures

pub lift_node-returns-in-Map : goal.lift_node-returns-in-Map
lift_node-returns-in-Map t c =
    if_ok _ _ c.lift_map.result (λ o e s h stand.
    let q = of_kind c.args.types.now c.args.ty.now c.args.node.now (is.Map c.in-Map.field-0 c.in-Map.field-1) s c.requires.told c.in-Map.is h in
    subst (λ s. o ≡ lift_leading c.args.side.now c.args.bytes.now s c.args.values.now) (sym q.is) (e q.members (subst (HasShape c.args.types.now c.args.ty.now) q.is h) q.told.1)) c.lift_map.ensures

pub lift_node-returns-in-Future : goal.lift_node-returns-in-Future
lift_node-returns-in-Future t c =
    by_kind c.args.types.now c.args.ty.now c.args.node.now (is.Future c.in-Future.table c.in-Future.field-1) (λ s. can_lead (flat (width c.args.side.now.memory64) s) c.args.values.now ≡ true → c.lift_handle.result ≡ lift_leading c.args.side.now c.args.bytes.now s c.args.values.now) c.requires.told c.in-Future.is (λ ms told stand. future_lifts c.args.side.now c.args.bytes.now c.args.values.now ms c.in-Future.table c.in-Future.field-1 _ c.lift_handle.ensures)

pub lift_node-returns-in-Stream : goal.lift_node-returns-in-Stream
lift_node-returns-in-Stream t c =
    by_kind c.args.types.now c.args.ty.now c.args.node.now (is.Stream c.in-Stream.table c.in-Stream.field-1) (λ s. can_lead (flat (width c.args.side.now.memory64) s) c.args.values.now ≡ true → c.lift_handle-in-Stream.result ≡ lift_leading c.args.side.now c.args.bytes.now s c.args.values.now) c.requires.told c.in-Stream.is (λ ms told stand. stream_lifts c.args.side.now c.args.bytes.now c.args.values.now ms c.in-Stream.table c.in-Stream.field-1 _ c.lift_handle-in-Stream.ensures)

pub lift_node-lift_list-requires : goal.lift_node-lift_list-requires
lift_node-lift_list-requires t c =
    let (s, h, d) = c.canonical_abi-whole.ensures.shaped in
    let q = of_kind c.args.types.now c.args.ty.now c.args.node.now (is.List c.in-List.element) s c.requires.told c.in-List.is h in
    c.requires.told.within.each 0 c.in-List.element (ap (λ xs. slice_get xs 0) q.told.0)

pub lift_node-lift_map-requires : goal.lift_node-lift_map-requires
lift_node-lift_map-requires t c =
    let (s, h, d) = c.canonical_abi-whole.ensures.shaped in
    let q = of_kind c.args.types.now c.args.ty.now c.args.node.now (is.Map c.in-Map.field-0 c.in-Map.field-1) s c.requires.told c.in-Map.is h in
    record { live = c.requires.live; shaped = (q.members, subst (HasShape c.args.types.now c.args.ty.now) q.is h, q.told.1); within = c.requires.told.within }

pub lift_node-lift_fixed_list-requires : goal.lift_node-lift_fixed_list-requires
lift_node-lift_fixed_list-requires t c =
    let (s, h, d) = c.canonical_abi-whole.ensures.shaped in
    let q = of_kind c.args.types.now c.args.ty.now c.args.node.now (is.FixedList c.in-FixedList.count c.in-FixedList.element) s c.requires.told c.in-FixedList.is h in
    (omega (arith, c.decreases), c.requires.told.within.each 0 c.in-FixedList.element (ap (λ xs. slice_get xs 0) q.told.0))

pub lift_record-returns-in-None : goal.lift_record-returns-in-None
lift_record-returns-in-None t c =
    λ ms told stand. no_record c.args.side.now c.args.bytes.now c.args.values.now ms _ (c.in_ok-lifted.ensures ms (subst (λ xs. AreOf c.args.types.now xs ms) (sym c.as_slice-members.ensures) told.1) stand) c.in-None.is

pub lift_record-returns-in_ok-named-in-Some : goal.lift_record-returns-in_ok-named-in-Some
lift_record-returns-in_ok-named-in-Some t c =
    λ ms told stand. record_lifts c.args.side.now c.args.bytes.now c.args.values.now ms c.args.node.now.names c.in-Some.lifted _ (sym c.in-Some.is ∙ c.in_ok-lifted.ensures ms (subst (λ xs. AreOf c.args.types.now xs ms) (sym c.as_slice-members.ensures) told.1) stand) told.0 c.in_ok-named-in-Some.ensures

pub lift_tuple-returns-in-None : goal.lift_tuple-returns-in-None
lift_tuple-returns-in-None t c =
    λ ms told stand. ap (option_map (λ vs. value.Tuple vs)) (sym c.in-None.is) ∙ tuple_lifts c.args.side.now c.args.bytes.now c.args.values.now ms _ (c.in_ok-lifted.ensures ms (subst (λ xs. AreOf c.args.types.now xs ms) (sym c.as_slice-members.ensures) told) stand)

pub lift_tuple-returns-in-Some : goal.lift_tuple-returns-in-Some
lift_tuple-returns-in-Some t c =
    λ ms told stand. ap (option_map (λ vs. value.Tuple vs)) (sym c.in-Some.is) ∙ tuple_lifts c.args.side.now c.args.bytes.now c.args.values.now ms _ (c.in_ok-lifted.ensures ms (subst (λ xs. AreOf c.args.types.now xs ms) (sym c.as_slice-members.ensures) told) stand)

pub lift_members-loop-member-init : goal.lift_members-loop-member-init
lift_members-loop-member-init t c =
    (omega arith, λ ms are stand. subst (Lifted c.args.types.now c.args.side.now c.args.bytes.now c.args.values.now ms c.args.members.now 0 0) (sym c.new-lifted.ensures) (lifted_starts c.args.types.now c.args.side.now c.args.bytes.now c.args.values.now ms c.args.members.now are stand))

pub lift_members-leading_values-requires : goal.lift_members-leading_values-requires
lift_members-leading_values-requires t c =
    (member_within c.args.types.now c.args.owner.now c.args.members.now _ c.in-Some.ty c.requires c.loop-member-test.true c.in-Some.is).live

pub lift_members-lift_value-requires : goal.lift_members-lift_value-requires
lift_members-lift_value-requires t c =
    let w = member_within c.args.types.now c.args.owner.now c.args.members.now _ c.in-Some.ty c.requires c.loop-member-test.true c.in-Some.is in
    (omega (arith, w.lower, c.decreases), w.live)

pub lift_members-returns-in_default-2 : goal.lift_members-returns-in_default-2
lift_members-returns-in_default-2 t c =
    λ ms are stand. member_leads c.args.types.now c.args.side.now c.args.bytes.now c.args.values.now ms c.args.members.now c.loop-member.member-index c.loop-member.at c.loop-member.lifted c.in-Some.ty c.loop-member-test.true c.in-Some.is (λ s h. sym c.in_default-2.is ∙ c.in_ok-count.ensures.value s h ∙ ap (leading (flat (width c.args.side.now.memory64) s)) (from_place c.loop-member.at c.args.values.now)) (c.loop-member.invariant.1 ms are stand)

pub lift_members-returns-in-None : goal.lift_members-returns-in-None
lift_members-returns-in-None t c =
    λ ms are stand. not_lifted c.args.types.now c.args.side.now c.args.bytes.now c.args.values.now ms c.args.members.now c.loop-member.member-index c.loop-member.at c.loop-member.lifted c.in-Some.ty c.in_ok-value.field-0 c.loop-member-test.true c.in-Some.is (λ s h k. c.in_ok-value.ensures s h (ap (can_lead (flat (width c.args.side.now.memory64) s)) (from_place c.loop-member.at c.args.values.now) ∙ k) ∙ ap (lift_leading c.args.side.now c.args.bytes.now s) (from_place c.loop-member.at c.args.values.now)) c.in-None.is (c.loop-member.invariant.1 ms are stand)

pub lift_members-loop-member-preserved : goal.lift_members-loop-member-preserved
lift_members-loop-member-preserved t c =
    elim c.match-member.branch [
      | lift_members-in-Some+in_ok-count+in-Some-2+in_ok-value+in-Some-3+in_ok-push-in-Some-3 w ↦ (
        still_within c.args.values.now c.loop-member.at w.in-Some-2.count c.match-member.at w.in_ok-count.field-0 c.loop-member.invariant.0 w.in-Some-2.is w.in_ok-count.ensures.few w.at-is,
        λ ms are stand. lifted_on c.args.types.now c.args.side.now c.args.bytes.now c.args.values.now ms c.args.members.now c.loop-member.member-index c.loop-member.at w.in-Some-2.count c.match-member.at c.loop-member.lifted c.match-member.lifted w.in-Some.ty w.in_ok-value.field-0 w.in-Some-3.value c.loop-member-test.true w.in-Some.is
            (λ s h. sym w.in-Some-2.is ∙ w.in_ok-count.ensures.value s h ∙ ap (leading (flat (width c.args.side.now.memory64) s)) (from_place c.loop-member.at c.args.values.now)) (λ s h k. w.in_ok-value.ensures s h (ap (can_lead (flat (width c.args.side.now.memory64) s)) (from_place c.loop-member.at c.args.values.now) ∙ k) ∙ ap (lift_leading c.args.side.now c.args.bytes.now s) (from_place c.loop-member.at c.args.values.now)) w.in-Some-3.is (w.lifted-is ∙ w.in_ok-push-in-Some-3.ensures.ok) w.at-is (c.loop-member.invariant.1 ms are stand),
      )
      | lift_members-in_default w ↦ (
        omega (arith, w.at-is, c.loop-member.invariant.0),
        λ ms are stand. subst (λ vs. Lifted c.args.types.now c.args.side.now c.args.bytes.now c.args.values.now ms c.args.members.now (c.loop-member.member-index + 1) c.match-member.at vs) (sym w.lifted-is)
            (subst (λ n. Lifted c.args.types.now c.args.side.now c.args.bytes.now c.args.values.now ms c.args.members.now (c.loop-member.member-index + 1) n c.loop-member.lifted) (sym w.at-is)
            (lifted_past c.args.types.now c.args.side.now c.args.bytes.now c.args.values.now ms c.args.members.now c.loop-member.member-index c.loop-member.at c.loop-member.lifted c.loop-member-test.true w.in_default.is (c.loop-member.invariant.1 ms are stand))),
      )
    ]

pub lift_members-returns : goal.lift_members-returns
lift_members-returns t c =
    λ ms are stand. all_lifted c.args.types.now c.args.side.now c.args.bytes.now c.args.values.now ms c.args.members.now c.loop-member.member-index c.loop-member.at c.loop-member.lifted (omega (arith, c.loop-member-test.false)) (c.loop-member.invariant.1 ms are stand)

pub lift_variant-returns-in_default : goal.lift_variant-returns-in_default
lift_variant-returns-in_default t c =
    λ ms names are stand. ap (lift_variant (λ x us. lift_case c.args.side.now c.args.bytes.now ms x us)) (sym (is_nil c.args.values.now c.in_default.len_below))

pub lift_variant-returns : goal.lift_variant-returns
lift_variant-returns t c =
    if_ok _ _ c.lift_case.result (λ o e ms names are stand.
    let split = split_first (core.I32 0) c.args.values.now c.in-len1-up.len_at_least in
    e ms names are (payload_leads (flat_any (width c.args.side.now.memory64) ms) (get_or c.args.values.now 0 (core.I32 0)) (take (length c.args.values.now - 1) (drop 1 c.args.values.now)) (ap (can_lead (I32 ∷ flat_any (width c.args.side.now.memory64) ms)) (sym split) ∙ stand)) ∙ ap (λ x. lift_case c.args.side.now c.args.bytes.now ms x (take (length c.args.values.now - 1) (drop 1 c.args.values.now))) c.number_as-number.ensures.value ∙ ap (lift_variant (λ x us. lift_case c.args.side.now c.args.bytes.now ms x us)) (sym split)) c.lift_case.ensures

pub lift_case-returns : goal.lift_case-returns
lift_case-returns t c =
    λ ms names are stand.
    let name : slice_get (names_of ms) c.args.number ≡ Some c.in-Some-get.name.now = ap (λ ns. slice_get ns c.args.number) (sym names) ∙ sym c.in-Some-get.ensures.value in
    elim c.match-payload.branch [
      | lift_case-in-Some-payload+in_ok-value+in-Some-2+in_ok-push-in-Some-2 w ↦
          (let p = typed_case_lifts c.args.types.now c.args.side.now c.args.bytes.now c.args.node.now.types ms c.args.number c.args.values.now c.in-Some-get.name.now w.in-Some-payload.ty are stand (sym c.in-Some.ensures.value ∙ ap (λ p. Some p) w.in-Some-payload.is) name in
          typed_case c.in-Some-get.name.now c.in_ok-try_clone.field-0 c.match-payload.lifted w.in-Some-2.value _ _ c.in_ok-try_clone.ensures (w.lifted-is ∙ w.in_ok-push-in-Some-2.ensures.ok ∙ ap (λ vs. vs ++ w.in-Some-2.value ∷ []) c.new-lifted.ensures) (sym w.in-Some-2.is ∙ w.in_ok-value.ensures p.shape p.shaped p.stands) p.lifts)
      | lift_case-in_default-payload w ↦
          bare_case c.in-Some-get.name.now c.in_ok-try_clone.field-0 c.match-payload.lifted _ c.in_ok-try_clone.ensures (w.lifted-is ∙ c.new-lifted.ensures)
          (bare_case_lifts c.args.types.now c.args.side.now c.args.bytes.now c.args.node.now.types ms c.args.number c.args.values.now c.in-Some-get.name.now are (sym c.in-Some.ensures.value ∙ ap (λ p. Some p) w.in_default-payload.is) name)
    ]

pub lift_case-returns-in_default : goal.lift_case-returns-in_default
lift_case-returns-in_default t c =
    λ ms names are stand. no_case c.args.types.now c.args.side.now c.args.bytes.now c.args.node.now.types ms c.args.number c.args.values.now are (sym c.in_default.ensures.value)

pub lift_case-returns-in_default-get : goal.lift_case-returns-in_default-get
lift_case-returns-in_default-get t c =
    λ ms names are stand. no_case_name c.args.side.now c.args.bytes.now ms c.args.number c.args.values.now (ap (λ ns. slice_get ns c.args.number) (sym names) ∙ sym c.in_default-get.ensures.value)

pub lift_case-lift_value-requires : goal.lift_case-lift_value-requires
lift_case-lift_value-requires t c =
    let there : slice_get c.args.node.now.types c.args.number ≡ Some (Some c.in-Some-payload.ty) = (sym c.in-Some.ensures.value ∙ ap (λ p. Some p) c.in-Some-payload.is) in
    let w = c.requires.each c.args.number c.in-Some-payload.ty there in
    (omega (arith, w.lower, c.decreases), w.live)

pub lift_case-returns-in-None : goal.lift_case-returns-in-None
lift_case-returns-in-None t c =
    λ ms names are stand.
    let there : slice_get c.args.node.now.types c.args.number ≡ Some (Some c.in-Some-payload.ty) = (sym c.in-Some.ensures.value ∙ ap (λ p. Some p) c.in-Some-payload.is) in
    let name : slice_get (names_of ms) c.args.number ≡ Some c.in-Some-get.name.now = ap (λ ns. slice_get ns c.args.number) (sym names) ∙ sym c.in-Some-get.ensures.value in
    let p = typed_case_lifts c.args.types.now c.args.side.now c.args.bytes.now c.args.node.now.types ms c.args.number c.args.values.now c.in-Some-get.name.now c.in-Some-payload.ty are stand there name in
    sym (p.lifts ∙ ap (option_map (λ w. value.Case c.in-Some-get.name.now (w ∷ []))) (sym (c.in_ok-value.ensures p.shape p.shaped p.stands) ∙ c.in-None.is))

pub lift_fixed_list-loop-init : goal.lift_fixed_list-loop-init
lift_fixed_list-loop-init t c =
    (omega arith, λ s h stand. subst (LiftedEach (flat (width c.args.side.now.memory64) s) (λ us. lift_leading c.args.side.now c.args.bytes.now s us) c.args.count 0 0 c.args.values.now) (sym c.new-lifted.ensures) (each_starts (flat (width c.args.side.now.memory64) s) (λ us. lift_leading c.args.side.now c.args.bytes.now s us) c.args.count c.args.values.now stand))

pub lift_fixed_list-leading_values-requires : goal.lift_fixed_list-leading_values-requires
lift_fixed_list-leading_values-requires t c =
    c.requires.live

pub lift_fixed_list-lift_value-requires : goal.lift_fixed_list-lift_value-requires
lift_fixed_list-lift_value-requires t c =
    (omega (arith, c.requires.lower, c.decreases), c.requires.live)

pub lift_fixed_list-returns-in_default : goal.lift_fixed_list-returns-in_default
lift_fixed_list-returns-in_default t c =
    λ s h stand. element_leads (flat (width c.args.side.now.memory64) s) (λ us. lift_leading c.args.side.now c.args.bytes.now s us) c.args.count c.args.values.now c.loop.counter c.loop.at c.loop.lifted c.loop-test.true (sym c.in_default.is ∙ c.in_ok-size.ensures.value s h ∙ ap (leading (flat (width c.args.side.now.memory64) s)) (from_place c.loop.at c.args.values.now)) (c.loop.invariant.1 s h stand)

pub lift_fixed_list-returns-in-None : goal.lift_fixed_list-returns-in-None
lift_fixed_list-returns-in-None t c =
    λ s h stand. ap (option_map (λ vs. value.List vs)) (not_each (flat (width c.args.side.now.memory64) s) (λ us. lift_leading c.args.side.now c.args.bytes.now s us) c.args.count c.args.values.now c.loop.counter c.loop.at c.loop.lifted c.in_ok-value.field-0 c.loop-test.true (λ k. c.in_ok-value.ensures s h (ap (can_lead (flat (width c.args.side.now.memory64) s)) (from_place c.loop.at c.args.values.now) ∙ k) ∙ ap (lift_leading c.args.side.now c.args.bytes.now s) (from_place c.loop.at c.args.values.now)) c.in-None.is (c.loop.invariant.1 s h stand))

pub lift_fixed_list-loop-preserved : goal.lift_fixed_list-loop-preserved
lift_fixed_list-loop-preserved t c = (
  still_within c.args.values.now c.loop.at c.in-Some.size (c.loop.at + c.in-Some.size) c.in_ok-size.field-0 c.loop.invariant.0 c.in-Some.is c.in_ok-size.ensures.few refl,
  λ s h stand. each_on (flat (width c.args.side.now.memory64) s) (λ us. lift_leading c.args.side.now c.args.bytes.now s us) c.args.count c.args.values.now c.loop.counter c.loop.at c.in-Some.size (c.loop.at + c.in-Some.size) c.loop.lifted _ c.in_ok-value.field-0 c.in-Some-2.value c.loop-test.true (sym c.in-Some.is ∙ c.in_ok-size.ensures.value s h ∙ ap (leading (flat (width c.args.side.now.memory64) s)) (from_place c.loop.at c.args.values.now)) (λ k. c.in_ok-value.ensures s h (ap (can_lead (flat (width c.args.side.now.memory64) s)) (from_place c.loop.at c.args.values.now) ∙ k) ∙ ap (lift_leading c.args.side.now c.args.bytes.now s) (from_place c.loop.at c.args.values.now)) c.in-Some-2.is c.in_ok-push-in-Some-2.ensures.ok refl (c.loop.invariant.1 s h stand),
)

pub lift_fixed_list-returns : goal.lift_fixed_list-returns
lift_fixed_list-returns t c =
    λ s h stand. ap (option_map (λ vs. value.List vs)) (all_each (flat (width c.args.side.now.memory64) s) (λ us. lift_leading c.args.side.now c.args.bytes.now s us) c.args.count c.args.values.now c.loop.counter c.loop.at c.loop.lifted (omega (arith, c.loop-test.false)) (c.loop.invariant.1 s h stand))
