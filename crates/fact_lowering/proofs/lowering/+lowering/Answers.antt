use Rattle.std.proofs.Common.{◌∙◌, ◌≤◌, ap, sym, subst, refl, arith, length}
use Rattle.std.specs.Prelude.{slice_get, sum_by}
use Rattle.fact_types.specs.Shapes.{k_record, k_tuple, k_fixed, s_node}
use Rattle.fact_values.specs.declared.value.Value.TheVariants as value
use Rattle.fact_values.specs.IsA.{HasCase}
use Rattle.fact_abi.specs.declared.nodes.NodeKind.TheVariants as is
use Rattle.fact_abi.specs.Nodes.{AreLower, kind_of}
use Rattle.fact_abi.proofs.BelongLaws.{item_at, place_within, slice_mapped, slice_missing}
use Rattle.fact_abi.proofs.LoadLaws.{member_within, of_kind}
use Rattle.fact_lowering.specs.CoreSteps.{IsLowerable}
use Rattle.fact_lowering.specs.Lowered.{IsLowered, LacksRoom, own_room}
use Rattle.fact_lowering.proofs.CoreCaseSteps.{case_opened, case_somewhere, payload_member, whole_count, whole_lacks, whole_lowerable, whole_lowered}
use Rattle.fact_lowering.proofs.CoreKinds.{case_value, variant_kind}
use Rattle.fact_lowering.proofs.CoreMembers.{LowersElements}
use Rattle.fact_lowering.proofs.CoreNodes.{Opened, by_members, element_fails, element_lowerable, element_lowered, fields_lack, fields_lowered, fields_start, first_lowerable, fixed_lacks, fixed_lowered, fixed_opened, fixed_start, member_count, member_fails, member_lowerable, member_lowered, member_missing, member_passed, members_of_tuple_start, members_same, no_fixed_list, no_record, no_tuple, not_a_case, opened, some_members, tuple_lacks, tuple_lowered}
use Rattle.fact_lowering.proofs.lowering.+lowering.Goals as goal
use Rattle.fact_lowering.proofs.lowering.+lowering.Goals.{lower_fields-in-Some+in-Some-get+in_ok-count+in-Some-2, lower_fields-in_default-member, lower_members-in-Some+in-Some-get+in_ok-count+in-Some-2, lower_members-in_default-member}

pub lower_node-lower_elements-requires : goal.lower_node-lower_elements-requires
lower_node-lower_elements-requires t c =
    let q = of_kind c.args.to.now.types.now c.args.ty.now c.args.node.now (is.FixedList c.in-FixedList.field-0 c.in-FixedList.element) c.requires.lowerable.shape c.requires.told c.in-FixedList.is c.requires.lowerable.shaped in
    (omega (arith, c.decreases), ((c.in-FixedList.field-0, record { live = c.requires.live; told = c.requires.told; kind = c.in-FixedList.is }), (c.requires.told.within.each 0 c.in-FixedList.element (ap (λ xs. slice_get xs 0) q.told.0), c.requires.lowerable)))

pub lower_fields-returns-in_default : goal.lower_fields-returns-in_default
lower_fields-returns-in_default t c =
    by_members is.Record c.requires.node.told c.requires.node.kind (λ s. LacksRoom c.args.store.now.cursor (own_room c.args.to.now.side s c.args.value.now) c.args.store.now.bytes.items)
    (λ ms h. absurd (no_record (opened is.Record c.requires.node.told c.requires.node.kind c.args.to.now.side c.args.value.now c.args.slots.now c.args.store.now.cursor c.args.store.now.bytes.items c.requires.lowerable ms h) (c.tell_forms.ensures.fields c.in_default.not-Record)))

pub lower_fields-loop-member-init : goal.lower_fields-loop-member-init
lower_fields-loop-member-init t c =
    (omega arith, λ ms h. fields_start c.args.to.now.types.now c.args.to.now.side ms c.in-Record.fields c.args.slots.now c.args.store.now.cursor c.args.store.now.cursor c.args.store.now.bytes.items c.args.store.now.bytes.items c.args.out.now c.args.out.now (subst (λ xs. Opened c.args.to.now.types.now c.args.to.now.side is.Record c.args.node.now.names xs (value.Record c.in-Record.fields) c.args.slots.now ms) (sym c.as_slice-members.ensures) (opened is.Record c.requires.node.told c.requires.node.kind c.args.to.now.side (value.Record c.in-Record.fields) c.args.slots.now c.args.store.now.cursor c.args.store.now.bytes.items (subst (λ v. IsLowerable c.args.to.now.types.now c.args.to.now.side c.args.ty.now v c.args.slots.now c.args.store.now.cursor c.args.store.now.bytes.items) c.in-Record.is c.requires.lowerable) ms h)) c.requires.lowerable.can.inside)

pub lower_fields-returns-in_default-get : goal.lower_fields-returns-in_default-get
lower_fields-returns-in_default-get t c =
    let (ms, h) = some_members is.Record c.requires.node.told c.requires.node.kind c.requires.lowerable.shape c.requires.lowerable.shaped in
    member_missing (c.loop-member.invariant.1 ms h) c.in-Some.own c.loop-member-test.true c.in-Some.is (slice_missing (λ f. f.1) c.in-Record.fields c.loop-member.taken (sym c.in_default-get.ensures.value))

pub lower_fields-slice_bounds-lower_member-count : goal.lower_fields-slice_bounds-lower_member-count
lower_fields-slice_bounds-lower_member-count t c =
    let (ms, h) = some_members is.Record c.requires.node.told c.requires.node.kind c.requires.lowerable.shape c.requires.lowerable.shaped in
    omega (arith, (c.loop-member.invariant.1 ms h).few)

pub lower_fields-slice_bounds-lower_member-start : goal.lower_fields-slice_bounds-lower_member-start
lower_fields-slice_bounds-lower_member-start t c =
    let (ms, h) = some_members is.Record c.requires.node.told c.requires.node.kind c.requires.lowerable.shape c.requires.lowerable.shaped in
    omega (arith, (c.loop-member.invariant.1 ms h).few)

pub lower_fields-lower_member-requires : goal.lower_fields-lower_member-requires
lower_fields-lower_member-requires t c =
    let (ms, h) = some_members is.Record c.requires.node.told c.requires.node.kind c.requires.lowerable.shape c.requires.lowerable.shaped in
    let w = member_within c.args.to.now.types.now c.args.ty.now c.as_slice-members.result.now _ c.in-Some.own (subst (AreLower c.args.to.now.types.now c.args.ty.now) (sym c.as_slice-members.ensures) c.requires.node.told.within) c.loop-member-test.true c.in-Some.is in
    (omega (arith, w.lower, c.decreases), (w.live, member_lowerable (c.loop-member.invariant.1 ms h) c.in-Some.own c.loop-member-test.true c.in-Some.is _ (slice_mapped (λ f. f.1) c.in-Record.fields c.loop-member.taken c.in-Some-get.field.now (sym c.in-Some-get.ensures.value)) c.requires.lowerable.can c.requires.lowerable.few))

pub lower_fields-returns-in_default-2 : goal.lower_fields-returns-in_default-2
lower_fields-returns-in_default-2 t c =
    by_members is.Record c.requires.node.told c.requires.node.kind (λ s. LacksRoom c.args.store.now.cursor (own_room c.args.to.now.side s c.args.value.now) c.args.store.now.bytes.items)
    (λ ms h. subst (λ v. LacksRoom c.args.store.now.cursor (own_room c.args.to.now.side (s_node k_record ms) v) c.args.store.now.bytes.items) (sym c.in-Record.is) (fields_lack c.args.to.now.types.now c.args.to.now.side ms c.in-Record.fields c.args.slots.now c.args.store.now.cursor c.args.store.now.cursor c.args.store.now.bytes.items c.args.store.now.bytes.items c.args.out.now c.args.out.now (member_fails (c.loop-member.invariant.1 ms h) c.in-Some.own c.loop-member-test.true c.in-Some.is _ c.in_ok-count.field-0 _ _ _ (slice_mapped (λ f. f.1) c.in-Record.fields c.loop-member.taken c.in-Some-get.field.now (sym c.in-Some-get.ensures.value)) c.in_default-2.is c.in_ok-count.ensures)))

pub lower_fields-overflow_add-at : goal.lower_fields-overflow_add-at
lower_fields-overflow_add-at t c =
    let (ms, h) = some_members is.Record c.requires.node.told c.requires.node.kind c.requires.lowerable.shape c.requires.lowerable.shaped in
    omega (arith, member_count (c.loop-member.invariant.1 ms h) c.in-Some.own c.loop-member-test.true c.in-Some.is _ c.in_ok-count.field-0 c.in-Some-2.count _ _ _ c.in-Some-2.is c.in_ok-count.ensures)

pub lower_fields-loop-member-preserved : goal.lower_fields-loop-member-preserved
lower_fields-loop-member-preserved t c =
    elim c.match-member.branch [
      | lower_fields-in-Some+in-Some-get+in_ok-count+in-Some-2 w ↦ (
        omega (arith, w.taken-is, c.loop-member.invariant.0),
        λ ms h. members_same c.match-member.taken c.match-member.at _ c.match-member.store c.match-member.out refl refl w.store-is w.out-is
            (member_lowered (c.loop-member.invariant.1 ms h) w.in-Some.own c.loop-member-test.true w.in-Some.is _ w.in_ok-count.field-0 w.in-Some-2.count c.match-member.at c.match-member.taken _ _ _ (slice_mapped (λ f. f.1) c.in-Record.fields c.loop-member.taken w.in-Some-get.field.now (sym w.in-Some-get.ensures.value)) w.in-Some-2.is w.at-is w.taken-is w.in_ok-count.ensures),
      )
      | lower_fields-in_default-member w ↦ (
        omega (arith, w.taken-is, c.loop-member.invariant.0),
        λ ms h. members_same c.match-member.taken c.match-member.at _ c.match-member.store c.match-member.out w.taken-is w.at-is w.store-is w.out-is (member_passed c.loop-member-test.true w.in_default-member.is (c.loop-member.invariant.1 ms h)),
      )
    ]

pub lower_fields-returns : goal.lower_fields-returns
lower_fields-returns t c =
    by_members is.Record c.requires.node.told c.requires.node.kind (λ s. IsLowered c.args.to.now.side s c.args.value.now c.args.slots.now c.args.store.now.cursor c.loop-member.store.cursor c.args.store.now.bytes.items c.loop-member.store.bytes.items c.args.out.now c.loop-member.out)
    (λ ms h. subst (λ v. IsLowered c.args.to.now.side (s_node k_record ms) v c.args.slots.now c.args.store.now.cursor c.loop-member.store.cursor c.args.store.now.bytes.items c.loop-member.store.bytes.items c.args.out.now c.loop-member.out) (sym c.in-Record.is) (fields_lowered c.args.to.now.types.now c.args.to.now.side ms c.in-Record.fields c.args.slots.now c.args.store.now.cursor _ c.args.store.now.bytes.items _ c.args.out.now _ (subst (λ xs. Opened c.args.to.now.types.now c.args.to.now.side is.Record c.args.node.now.names xs (value.Record c.in-Record.fields) c.args.slots.now ms) (sym c.as_slice-members.ensures) (opened is.Record c.requires.node.told c.requires.node.kind c.args.to.now.side (value.Record c.in-Record.fields) c.args.slots.now c.args.store.now.cursor c.args.store.now.bytes.items (subst (λ v. IsLowerable c.args.to.now.types.now c.args.to.now.side c.args.ty.now v c.args.slots.now c.args.store.now.cursor c.args.store.now.bytes.items) c.in-Record.is c.requires.lowerable) ms h)) (omega (arith, c.loop-member-test.false)) (c.loop-member.invariant.1 ms h)))

pub lower_members-returns-in_default : goal.lower_members-returns-in_default
lower_members-returns-in_default t c =
    by_members is.Tuple c.requires.node.told c.requires.node.kind (λ s. LacksRoom c.args.store.now.cursor (own_room c.args.to.now.side s c.args.value.now) c.args.store.now.bytes.items)
    (λ ms h. absurd (no_tuple (opened is.Tuple c.requires.node.told c.requires.node.kind c.args.to.now.side c.args.value.now c.args.slots.now c.args.store.now.cursor c.args.store.now.bytes.items c.requires.lowerable ms h) (c.tell_forms.ensures.members c.in_default.not-Tuple)))

pub lower_members-loop-member-init : goal.lower_members-loop-member-init
lower_members-loop-member-init t c =
    (omega arith, λ ms h. members_of_tuple_start c.args.to.now.types.now c.args.to.now.side ms c.in-Tuple.values c.args.slots.now c.args.store.now.cursor c.args.store.now.cursor c.args.store.now.bytes.items c.args.store.now.bytes.items c.args.out.now c.args.out.now (subst (λ xs. Opened c.args.to.now.types.now c.args.to.now.side is.Tuple c.args.node.now.names xs (value.Tuple c.in-Tuple.values) c.args.slots.now ms) (sym c.as_slice-members.ensures) (opened is.Tuple c.requires.node.told c.requires.node.kind c.args.to.now.side (value.Tuple c.in-Tuple.values) c.args.slots.now c.args.store.now.cursor c.args.store.now.bytes.items (subst (λ v. IsLowerable c.args.to.now.types.now c.args.to.now.side c.args.ty.now v c.args.slots.now c.args.store.now.cursor c.args.store.now.bytes.items) c.in-Tuple.is c.requires.lowerable) ms h)) c.requires.lowerable.can.inside)

pub lower_members-returns-in_default-get : goal.lower_members-returns-in_default-get
lower_members-returns-in_default-get t c =
    let (ms, h) = some_members is.Tuple c.requires.node.told c.requires.node.kind c.requires.lowerable.shape c.requires.lowerable.shaped in
    member_missing (c.loop-member.invariant.1 ms h) c.in-Some.own c.loop-member-test.true c.in-Some.is (sym c.in_default-get.ensures.value)

pub lower_members-slice_bounds-lower_member-count : goal.lower_members-slice_bounds-lower_member-count
lower_members-slice_bounds-lower_member-count t c =
    let (ms, h) = some_members is.Tuple c.requires.node.told c.requires.node.kind c.requires.lowerable.shape c.requires.lowerable.shaped in
    omega (arith, (c.loop-member.invariant.1 ms h).few)

pub lower_members-slice_bounds-lower_member-start : goal.lower_members-slice_bounds-lower_member-start
lower_members-slice_bounds-lower_member-start t c =
    let (ms, h) = some_members is.Tuple c.requires.node.told c.requires.node.kind c.requires.lowerable.shape c.requires.lowerable.shaped in
    omega (arith, (c.loop-member.invariant.1 ms h).few)

pub lower_members-lower_member-requires : goal.lower_members-lower_member-requires
lower_members-lower_member-requires t c =
    let (ms, h) = some_members is.Tuple c.requires.node.told c.requires.node.kind c.requires.lowerable.shape c.requires.lowerable.shaped in
    let w = member_within c.args.to.now.types.now c.args.ty.now c.as_slice-members.result.now _ c.in-Some.own (subst (AreLower c.args.to.now.types.now c.args.ty.now) (sym c.as_slice-members.ensures) c.requires.node.told.within) c.loop-member-test.true c.in-Some.is in
    (omega (arith, w.lower, c.decreases), (w.live, member_lowerable (c.loop-member.invariant.1 ms h) c.in-Some.own c.loop-member-test.true c.in-Some.is _ (sym c.in-Some-get.ensures.value) c.requires.lowerable.can c.requires.lowerable.few))

pub lower_members-returns-in_default-2 : goal.lower_members-returns-in_default-2
lower_members-returns-in_default-2 t c =
    by_members is.Tuple c.requires.node.told c.requires.node.kind (λ s. LacksRoom c.args.store.now.cursor (own_room c.args.to.now.side s c.args.value.now) c.args.store.now.bytes.items)
    (λ ms h. subst (λ v. LacksRoom c.args.store.now.cursor (own_room c.args.to.now.side (s_node k_tuple ms) v) c.args.store.now.bytes.items) (sym c.in-Tuple.is) (tuple_lacks c.args.to.now.types.now c.args.to.now.side ms c.in-Tuple.values c.args.slots.now c.args.store.now.cursor c.args.store.now.cursor c.args.store.now.bytes.items c.args.store.now.bytes.items c.args.out.now c.args.out.now (member_fails (c.loop-member.invariant.1 ms h) c.in-Some.own c.loop-member-test.true c.in-Some.is _ c.in_ok-count.field-0 _ _ _ (sym c.in-Some-get.ensures.value) c.in_default-2.is c.in_ok-count.ensures)))

pub lower_members-overflow_add-at : goal.lower_members-overflow_add-at
lower_members-overflow_add-at t c =
    let (ms, h) = some_members is.Tuple c.requires.node.told c.requires.node.kind c.requires.lowerable.shape c.requires.lowerable.shaped in
    omega (arith, member_count (c.loop-member.invariant.1 ms h) c.in-Some.own c.loop-member-test.true c.in-Some.is _ c.in_ok-count.field-0 c.in-Some-2.count _ _ _ c.in-Some-2.is c.in_ok-count.ensures)

pub lower_members-loop-member-preserved : goal.lower_members-loop-member-preserved
lower_members-loop-member-preserved t c =
    elim c.match-member.branch [
      | lower_members-in-Some+in-Some-get+in_ok-count+in-Some-2 w ↦ (
        omega (arith, w.taken-is, c.loop-member.invariant.0),
        λ ms h. members_same c.match-member.taken c.match-member.at _ c.match-member.store c.match-member.out refl refl w.store-is w.out-is
            (member_lowered (c.loop-member.invariant.1 ms h) w.in-Some.own c.loop-member-test.true w.in-Some.is _ w.in_ok-count.field-0 w.in-Some-2.count c.match-member.at c.match-member.taken _ _ _ (sym w.in-Some-get.ensures.value) w.in-Some-2.is w.at-is w.taken-is w.in_ok-count.ensures),
      )
      | lower_members-in_default-member w ↦ (
        omega (arith, w.taken-is, c.loop-member.invariant.0),
        λ ms h. members_same c.match-member.taken c.match-member.at _ c.match-member.store c.match-member.out w.taken-is w.at-is w.store-is w.out-is (member_passed c.loop-member-test.true w.in_default-member.is (c.loop-member.invariant.1 ms h)),
      )
    ]

pub lower_members-returns : goal.lower_members-returns
lower_members-returns t c =
    by_members is.Tuple c.requires.node.told c.requires.node.kind (λ s. IsLowered c.args.to.now.side s c.args.value.now c.args.slots.now c.args.store.now.cursor c.loop-member.store.cursor c.args.store.now.bytes.items c.loop-member.store.bytes.items c.args.out.now c.loop-member.out)
    (λ ms h. subst (λ v. IsLowered c.args.to.now.side (s_node k_tuple ms) v c.args.slots.now c.args.store.now.cursor c.loop-member.store.cursor c.args.store.now.bytes.items c.loop-member.store.bytes.items c.args.out.now c.loop-member.out) (sym c.in-Tuple.is) (tuple_lowered c.args.to.now.types.now c.args.to.now.side ms c.in-Tuple.values c.args.slots.now c.args.store.now.cursor _ c.args.store.now.bytes.items _ c.args.out.now _ (omega (arith, c.loop-member-test.false)) (c.loop-member.invariant.1 ms h)))

pub lower_elements-returns-in_default : goal.lower_elements-returns-in_default
lower_elements-returns-in_default t c =
    by_members (is.FixedList c.requires.node.0 c.args.element.now) c.requires.node.1.told c.requires.node.1.kind (λ s. LacksRoom c.args.store.now.cursor (own_room c.args.to.now.side s c.args.value.now) c.args.store.now.bytes.items)
    (λ ms h. absurd (no_fixed_list (opened (is.FixedList c.requires.node.0 c.args.element.now) c.requires.node.1.told c.requires.node.1.kind c.args.to.now.side c.args.value.now c.args.slots.now c.args.store.now.cursor c.args.store.now.bytes.items c.requires.lowerable ms h) (c.tell_forms.ensures.elements c.in_default.not-List)))

pub lower_elements-loop-first-init : goal.lower_elements-loop-first-init
lower_elements-loop-first-init t c =
    let (ms, h) = some_members (is.FixedList c.requires.node.0 c.args.element.now) c.requires.node.1.told c.requires.node.1.kind c.requires.lowerable.shape c.requires.lowerable.shaped in
    let p = fixed_opened (opened (is.FixedList c.requires.node.0 c.args.element.now) c.requires.node.1.told c.requires.node.1.kind c.args.to.now.side (value.List c.in-List.values) c.args.slots.now c.args.store.now.cursor c.args.store.now.bytes.items (subst (λ v. IsLowerable c.args.to.now.types.now c.args.to.now.side c.args.ty.now v c.args.slots.now c.args.store.now.cursor c.args.store.now.bytes.items) c.in-List.is c.requires.lowerable) ms h) in
    λ s k. subst (λ xs. LowersElements c.args.to.now.side s xs c.args.slots.now c.args.store.now.cursor c.args.store.now.bytes.items c.args.out.now 0 0 c.args.store.now.cursor c.args.store.now.bytes.items c.args.out.now) (sym c.as_slice-items.ensures) (fixed_start c.args.to.now.types.now c.args.to.now.side c.requires.node.0 c.args.element.now ms c.in-List.values c.args.slots.now c.args.store.now.cursor c.args.store.now.bytes.items c.args.out.now p c.requires.lowerable.can.inside s k)

pub lower_elements-lower_member-requires : goal.lower_elements-lower_member-requires
lower_elements-lower_member-requires t c =
    let (ms, h) = some_members (is.FixedList c.requires.node.0 c.args.element.now) c.requires.node.1.told c.requires.node.1.kind c.requires.lowerable.shape c.requires.lowerable.shaped in
    let p = fixed_opened (opened (is.FixedList c.requires.node.0 c.args.element.now) c.requires.node.1.told c.requires.node.1.kind c.args.to.now.side (value.List c.in-List.values) c.args.slots.now c.args.store.now.cursor c.args.store.now.bytes.items (subst (λ v. IsLowerable c.args.to.now.types.now c.args.to.now.side c.args.ty.now v c.args.slots.now c.args.store.now.cursor c.args.store.now.bytes.items) c.in-List.is c.requires.lowerable) ms h) in
    (omega (arith, c.requires.within.lower, c.decreases), (c.requires.within.live, element_lowerable (c.loop-first.invariant p.shape p.shaped) c.args.to.now.types.now c.args.element.now p.shaped c.first-item.result (item_at c.as_slice-items.result.now c.loop-first.first-index c.first-item.result c.loop-first-test.true c.first-item.is) c.requires.lowerable.can c.requires.lowerable.few))

pub lower_elements-returns-in_default-2 : goal.lower_elements-returns-in_default-2
lower_elements-returns-in_default-2 t c =
    by_members (is.FixedList c.requires.node.0 c.args.element.now) c.requires.node.1.told c.requires.node.1.kind (λ s. LacksRoom c.args.store.now.cursor (own_room c.args.to.now.side s c.args.value.now) c.args.store.now.bytes.items)
    (λ ms h. let p = fixed_opened (opened (is.FixedList c.requires.node.0 c.args.element.now) c.requires.node.1.told c.requires.node.1.kind c.args.to.now.side (value.List c.in-List.values) c.args.slots.now c.args.store.now.cursor c.args.store.now.bytes.items (subst (λ v. IsLowerable c.args.to.now.types.now c.args.to.now.side c.args.ty.now v c.args.slots.now c.args.store.now.cursor c.args.store.now.bytes.items) c.in-List.is c.requires.lowerable) ms h) in subst (λ v. LacksRoom c.args.store.now.cursor (own_room c.args.to.now.side (s_node (k_fixed c.requires.node.0) ms) v) c.args.store.now.bytes.items) (sym c.in-List.is) (fixed_lacks c.args.to.now.types.now c.args.to.now.side c.requires.node.0 c.args.element.now ms c.in-List.values c.args.slots.now c.args.store.now.cursor c.args.store.now.cursor c.args.store.now.bytes.items c.args.store.now.bytes.items c.args.out.now c.args.out.now p (subst (λ xs. LacksRoom c.args.store.now.cursor (sum_by (λ v. own_room c.args.to.now.side p.shape v) xs) c.args.store.now.bytes.items) c.as_slice-items.ensures (element_fails (c.loop-first.invariant p.shape p.shaped) c.args.to.now.types.now c.args.element.now p.shaped c.first-item.result (item_at c.as_slice-items.result.now c.loop-first.first-index c.first-item.result c.loop-first-test.true c.first-item.is) c.in_ok-count.field-0 _ _ _ c.in_default-2.is c.in_ok-count.ensures))))

pub lower_elements-loop-first-preserved : goal.lower_elements-loop-first-preserved
lower_elements-loop-first-preserved t c =
    λ s k. element_lowered (c.loop-first.invariant s k) c.args.to.now.types.now c.args.element.now k c.first-item.result (item_at c.as_slice-items.result.now c.loop-first.first-index c.first-item.result c.loop-first-test.true c.first-item.is) c.in_ok-count.field-0 c.in-Some.count _ _ _ _ c.in-Some.is refl c.in_ok-count.ensures

pub lower_elements-returns : goal.lower_elements-returns
lower_elements-returns t c =
    by_members (is.FixedList c.requires.node.0 c.args.element.now) c.requires.node.1.told c.requires.node.1.kind (λ s. IsLowered c.args.to.now.side s c.args.value.now c.args.slots.now c.args.store.now.cursor c.loop-first.store.cursor c.args.store.now.bytes.items c.loop-first.store.bytes.items c.args.out.now c.loop-first.out)
    (λ ms h. let p = fixed_opened (opened (is.FixedList c.requires.node.0 c.args.element.now) c.requires.node.1.told c.requires.node.1.kind c.args.to.now.side (value.List c.in-List.values) c.args.slots.now c.args.store.now.cursor c.args.store.now.bytes.items (subst (λ v. IsLowerable c.args.to.now.types.now c.args.to.now.side c.args.ty.now v c.args.slots.now c.args.store.now.cursor c.args.store.now.bytes.items) c.in-List.is c.requires.lowerable) ms h) in subst (λ v. IsLowered c.args.to.now.side (s_node (k_fixed c.requires.node.0) ms) v c.args.slots.now c.args.store.now.cursor c.loop-first.store.cursor c.args.store.now.bytes.items c.loop-first.store.bytes.items c.args.out.now c.loop-first.out) (sym c.in-List.is) (fixed_lowered c.args.to.now.types.now c.args.to.now.side c.requires.node.0 c.args.element.now ms c.in-List.values c.args.slots.now c.args.store.now.cursor _ c.args.store.now.bytes.items _ c.args.out.now _ p (let past : length c.in-List.values ≤ c.loop-first.first-index = omega (arith, c.loop-first-test.false, ap length c.as_slice-items.ensures) in past) (subst (λ xs. LowersElements c.args.to.now.side p.shape xs c.args.slots.now c.args.store.now.cursor c.args.store.now.bytes.items c.args.out.now c.loop-first.first-index c.loop-first.at c.loop-first.store.cursor c.loop-first.store.bytes.items c.loop-first.out) c.as_slice-items.ensures (c.loop-first.invariant p.shape p.shaped))))

pub lower_case-returns-in_default : goal.lower_case-returns-in_default
lower_case-returns-in_default t c =
    by_members c.args.node.now.kind c.requires.told refl (λ s. LacksRoom c.args.store.now.cursor (own_room c.args.to.now.side s c.args.value.now) c.args.store.now.bytes.items)
    (λ ms h. absurd (not_a_case (λ x vs. HasCase ms x vs) c.args.value.now (c.tell_forms.ensures.case c.in_default.not-Case) (case_value (kind_of c.args.node.now.kind) ms c.args.value.now (variant_kind c.args.node.now.kind c.requires.kind) (opened c.args.node.now.kind c.requires.told refl c.args.to.now.side c.args.value.now c.args.slots.now c.args.store.now.cursor c.args.store.now.bytes.items c.requires.lowerable ms h).is)))

pub lower_case-returns-in_default-2 : goal.lower_case-returns-in_default-2
lower_case-returns-in_default-2 t c =
    by_members c.args.node.now.kind c.requires.told refl (λ s. LacksRoom c.args.store.now.cursor (own_room c.args.to.now.side s c.args.value.now) c.args.store.now.bytes.items)
    (λ ms h. case_somewhere c.in-Case.name c.in-Case.payload (opened c.args.node.now.kind c.requires.told refl c.args.to.now.side (value.Case c.in-Case.name c.in-Case.payload) c.args.slots.now c.args.store.now.cursor c.args.store.now.bytes.items (subst (λ v. IsLowerable c.args.to.now.types.now c.args.to.now.side c.args.ty.now v c.args.slots.now c.args.store.now.cursor c.args.store.now.bytes.items) c.in-Case.is c.requires.lowerable) ms h) c.requires.kind c.in_ok-number.field-0 c.in_ok-number.ensures c.in_default-2.is)

pub lower_case-lower_payload-requires : goal.lower_case-lower_payload-requires
lower_case-lower_payload-requires t c =
    let (ms, h) = some_members c.args.node.now.kind c.requires.told refl c.requires.lowerable.shape c.requires.lowerable.shaped in
    (omega (arith, c.decreases), (c.requires.told.within, whole_lowerable (case_opened c.in-Case.name c.in-Case.payload (opened c.args.node.now.kind c.requires.told refl c.args.to.now.side (value.Case c.in-Case.name c.in-Case.payload) c.args.slots.now c.args.store.now.cursor c.args.store.now.bytes.items (subst (λ v. IsLowerable c.args.to.now.types.now c.args.to.now.side c.args.ty.now v c.args.slots.now c.args.store.now.cursor c.args.store.now.bytes.items) c.in-Case.is c.requires.lowerable) ms h) c.requires.kind c.args.ty.now c.in_ok-number.field-0 c.in-Some.number h c.in_ok-number.ensures c.in-Some.is) c.args.store.now.cursor c.args.store.now.bytes.items c.requires.lowerable.few c.requires.lowerable.can))

pub lower_case-returns-in_default-3 : goal.lower_case-returns-in_default-3
lower_case-returns-in_default-3 t c =
    by_members c.args.node.now.kind c.requires.told refl (λ s. LacksRoom c.args.store.now.cursor (own_room c.args.to.now.side s c.args.value.now) c.args.store.now.bytes.items)
    (λ ms h. subst (λ v. LacksRoom c.args.store.now.cursor (own_room c.args.to.now.side (s_node (kind_of c.args.node.now.kind) ms) v) c.args.store.now.bytes.items) (sym c.in-Case.is) (whole_lacks (case_opened c.in-Case.name c.in-Case.payload (opened c.args.node.now.kind c.requires.told refl c.args.to.now.side (value.Case c.in-Case.name c.in-Case.payload) c.args.slots.now c.args.store.now.cursor c.args.store.now.bytes.items (subst (λ v. IsLowerable c.args.to.now.types.now c.args.to.now.side c.args.ty.now v c.args.slots.now c.args.store.now.cursor c.args.store.now.bytes.items) c.in-Case.is c.requires.lowerable) ms h) c.requires.kind c.args.ty.now c.in_ok-number.field-0 c.in-Some.number h c.in_ok-number.ensures c.in-Some.is) c.in_ok-count.field-0 _ _ _ _ _ _ c.in_default-3.is c.in_ok-count.ensures))

pub lower_case-returns : goal.lower_case-returns
lower_case-returns t c =
    by_members c.args.node.now.kind c.requires.told refl (λ s. IsLowered c.args.to.now.side s c.args.value.now c.args.slots.now c.args.store.now.cursor c.lower_payload.new.store.cursor c.args.store.now.bytes.items c.lower_payload.new.store.bytes.items c.args.out.now c.push_zeros.new.out)
    (λ ms h. subst (λ v. IsLowered c.args.to.now.side (s_node (kind_of c.args.node.now.kind) ms) v c.args.slots.now c.args.store.now.cursor c.lower_payload.new.store.cursor c.args.store.now.bytes.items c.lower_payload.new.store.bytes.items c.args.out.now c.push_zeros.new.out) (sym c.in-Case.is) (whole_lowered (case_opened c.in-Case.name c.in-Case.payload (opened c.args.node.now.kind c.requires.told refl c.args.to.now.side (value.Case c.in-Case.name c.in-Case.payload) c.args.slots.now c.args.store.now.cursor c.args.store.now.bytes.items (subst (λ v. IsLowerable c.args.to.now.types.now c.args.to.now.side c.args.ty.now v c.args.slots.now c.args.store.now.cursor c.args.store.now.bytes.items) c.in-Case.is c.requires.lowerable) ms h) c.requires.kind c.args.ty.now c.in_ok-number.field-0 c.in-Some.number h c.in_ok-number.ensures c.in-Some.is) c.in_ok-count.field-0 c.in-Some-2.count _ _ _ _ _ _ _ _ c.in-Some-2.is (omega arith) c.requires.lowerable.can.inside c.in_ok-push_numbers.ensures c.in_ok-count.ensures c.in_ok-push_zeros.ensures))

pub lower_member-lower_value-requires : goal.lower_member-lower_value-requires
lower_member-lower_value-requires t c =
    (omega (arith, c.decreases), (c.requires.live, (first_lowerable c.requires.lowerable c.in_ok-flat.field-0 c.in_ok-flat.ensures c.in-Some.flat c.len-count.result c.in-Some.is c.len-count.ensures)))

pub lower_payload-lower_member-requires : goal.lower_payload-lower_member-requires
lower_payload-lower_member-requires t c =
    let w = place_within c.args.to.now.types.now c.args.owner.now c.args.node.now.types c.args.number c.in-Some.ty c.requires.within (sym c.member_type.ensures ∙ c.in-Some.is) in
    (omega (arith, w.lower, c.decreases), (w.live, payload_member c.args.to.now.types.now c.args.to.now.side _ _ c.args.slots.now c.args.store.now.cursor c.args.store.now.bytes.items c.in-Some.ty c.in-Some-get.value.now (sym c.member_type.ensures ∙ c.in-Some.is) (sym c.in-Some-get.ensures.value) c.requires.lowerable))

pub lower_case-slice_bounds-push_zeros-count : goal.lower_case-slice_bounds-push_zeros-count
lower_case-slice_bounds-push_zeros-count t c =
    let (ms, h) = some_members c.args.node.now.kind c.requires.told refl c.requires.lowerable.shape c.requires.lowerable.shaped in
    omega (arith, whole_count (case_opened c.in-Case.name c.in-Case.payload (opened c.args.node.now.kind c.requires.told refl c.args.to.now.side (value.Case c.in-Case.name c.in-Case.payload) c.args.slots.now c.args.store.now.cursor c.args.store.now.bytes.items (subst (λ v. IsLowerable c.args.to.now.types.now c.args.to.now.side c.args.ty.now v c.args.slots.now c.args.store.now.cursor c.args.store.now.bytes.items) c.in-Case.is c.requires.lowerable) ms h) c.requires.kind c.args.ty.now c.in_ok-number.field-0 c.in-Some.number h c.in_ok-number.ensures c.in-Some.is) c.in_ok-count.field-0 c.in-Some-2.count _ _ _ _ _ _ c.in-Some-2.is c.in_ok-count.ensures)

pub lower_case-slice_bounds-push_zeros-start : goal.lower_case-slice_bounds-push_zeros-start
lower_case-slice_bounds-push_zeros-start t c =
    let (ms, h) = some_members c.args.node.now.kind c.requires.told refl c.requires.lowerable.shape c.requires.lowerable.shaped in
    omega (arith, whole_count (case_opened c.in-Case.name c.in-Case.payload (opened c.args.node.now.kind c.requires.told refl c.args.to.now.side (value.Case c.in-Case.name c.in-Case.payload) c.args.slots.now c.args.store.now.cursor c.args.store.now.bytes.items (subst (λ v. IsLowerable c.args.to.now.types.now c.args.to.now.side c.args.ty.now v c.args.slots.now c.args.store.now.cursor c.args.store.now.bytes.items) c.in-Case.is c.requires.lowerable) ms h) c.requires.kind c.args.ty.now c.in_ok-number.field-0 c.in-Some.number h c.in_ok-number.ensures c.in-Some.is) c.in_ok-count.field-0 c.in-Some-2.count _ _ _ _ _ _ c.in-Some-2.is c.in_ok-count.ensures)
