use Rattle.std.proofs.Common.{◌↔◌, ◌∙◌, ◌≤◌, ap, sym, subst, arith}
use Rattle.std.specs.Prelude.{IsTrue, slice_get, map, false}
use Rattle.std.specs.List.{AllByRecursion}
use Rattle.fact_types.specs.Shapes.{k_record, k_tuple, k_variant, k_enum, k_option, k_result, k_flags, k_future, k_stream}
use Rattle.fact_abi.specs.declared.nodes.NodeKind.TheVariants as is
use Rattle.fact_abi.specs.Finding.{IsTaken}
use Rattle.fact_values.specs.IsA.{IsA}
use Rattle.fact_abi.specs.Nodes.{IsNodeOf, AreOf}
use Rattle.fact_abi.proofs.BelongLaws.{is_so, is_not, yes_says, no_says, by_same, item_at, place_within, length_mapped, other_way, few_taken, matching_starts, matching_taken, matching_fails, all_matched, all_past, not_all, all_passed, bare_case_has, typed_case_has, case_form, map_form, case_found, case_missing, many_payloads, payload_belongs, plain_belongs, node_belongs, list_belongs, fixed_list_belongs, map_belongs}
use Rattle.fact_abi.proofs.KindLaws.{if_ok}
use Rattle.fact_abi.proofs.LoadLaws.{by_kind, of_kind}
use Rattle.fact_abi.proofs.belonging.+belonging.Goals as goal

pub is_value_of-returns-in-None : goal.is_value_of-returns-in-None
is_value_of-returns-in-None t c =
    let none = subst (IsNodeOf c.args.types.now c.args.ty.now) c.in-None.is c.in_ok-node_of_type.ensures in
    λ s h. plain_belongs c.args.ty.now s c.args.value.now c.is_plain_value.result (none s h) c.is_plain_value.ensures

pub is_of_node-returns-in-Record : goal.is_of_node-returns-in-Record
is_of_node-returns-in-Record t c =
    if_ok _ _ c.is_record.result (λ b e. by_kind c.args.types.now c.args.ty.now c.args.node.now is.Record (λ s. IsTrue b ↔ IsA s c.args.value.now) c.requires.told c.in-Record.is (λ ms told. node_belongs k_record ms c.args.value.now b (e ms told.0 told.1))) c.is_record.ensures

pub is_of_node-returns-in-Tuple : goal.is_of_node-returns-in-Tuple
is_of_node-returns-in-Tuple t c =
    if_ok _ _ c.is_tuple.result (λ b e. by_kind c.args.types.now c.args.ty.now c.args.node.now is.Tuple (λ s. IsTrue b ↔ IsA s c.args.value.now) c.requires.told c.in-Tuple.is (λ ms told. node_belongs k_tuple ms c.args.value.now b (e ms told))) c.is_tuple.ensures

pub is_of_node-returns-in-Variant : goal.is_of_node-returns-in-Variant
is_of_node-returns-in-Variant t c =
    if_ok _ _ c.is_case.result (λ b e. by_kind c.args.types.now c.args.ty.now c.args.node.now is.Variant (λ s. IsTrue b ↔ IsA s c.args.value.now) c.requires.told c.in-Variant.is (λ ms told. node_belongs k_variant ms c.args.value.now b (e ms told.0 told.1))) c.is_case.ensures

pub is_of_node-returns-in-Enum : goal.is_of_node-returns-in-Enum
is_of_node-returns-in-Enum t c =
    if_ok _ _ c.is_case-in-Enum.result (λ b e. by_kind c.args.types.now c.args.ty.now c.args.node.now is.Enum (λ s. IsTrue b ↔ IsA s c.args.value.now) c.requires.told c.in-Enum.is (λ ms told. node_belongs k_enum ms c.args.value.now b (e ms told.0 told.1))) c.is_case-in-Enum.ensures

pub is_of_node-returns-in-Option : goal.is_of_node-returns-in-Option
is_of_node-returns-in-Option t c =
    if_ok _ _ c.is_case-in-Option.result (λ b e. by_kind c.args.types.now c.args.ty.now c.args.node.now is.Option (λ s. IsTrue b ↔ IsA s c.args.value.now) c.requires.told c.in-Option.is (λ ms told. node_belongs k_option ms c.args.value.now b (e ms told.0 told.1))) c.is_case-in-Option.ensures

pub is_of_node-returns-in-Result : goal.is_of_node-returns-in-Result
is_of_node-returns-in-Result t c =
    if_ok _ _ c.is_case-in-Result.result (λ b e. by_kind c.args.types.now c.args.ty.now c.args.node.now is.Result (λ s. IsTrue b ↔ IsA s c.args.value.now) c.requires.told c.in-Result.is (λ ms told. node_belongs k_result ms c.args.value.now b (e ms told.0 told.1))) c.is_case-in-Result.ensures

pub is_of_node-returns-in-List : goal.is_of_node-returns-in-List
is_of_node-returns-in-List t c =
    if_ok _ _ c.is_list.result (λ b e. by_kind c.args.types.now c.args.ty.now c.args.node.now (is.List c.in-List.element) (λ s. IsTrue b ↔ IsA s c.args.value.now) c.requires.told c.in-List.is (λ ms told. list_belongs c.args.types.now c.in-List.element ms c.args.value.now b (subst (λ xs. AreOf c.args.types.now xs ms) told.0 told.1) e)) c.is_list.ensures

pub is_of_node-returns-in-FixedList : goal.is_of_node-returns-in-FixedList
is_of_node-returns-in-FixedList t c =
    if_ok _ _ c.is_fixed_list.result (λ b e. by_kind c.args.types.now c.args.ty.now c.args.node.now (is.FixedList c.in-FixedList.count c.in-FixedList.element) (λ s. IsTrue b ↔ IsA s c.args.value.now) c.requires.told c.in-FixedList.is (λ ms told. fixed_list_belongs c.args.types.now c.in-FixedList.element c.in-FixedList.count ms c.args.value.now b (subst (λ xs. AreOf c.args.types.now xs ms) told.0 told.1) e)) c.is_fixed_list.ensures

pub is_of_node-returns-in-Map : goal.is_of_node-returns-in-Map
is_of_node-returns-in-Map t c =
    if_ok _ _ c.is_map.result (λ b e. by_kind c.args.types.now c.args.ty.now c.args.node.now (is.Map c.in-Map.key c.in-Map.item) (λ s. IsTrue b ↔ IsA s c.args.value.now) c.requires.told c.in-Map.is (λ ms told. map_belongs c.args.types.now c.in-Map.key c.in-Map.item ms c.args.value.now b (subst (λ xs. AreOf c.args.types.now xs ms) told.0 told.1) e)) c.is_map.ensures

pub is_of_node-returns-in-Flags : goal.is_of_node-returns-in-Flags
is_of_node-returns-in-Flags t c =
    by_kind c.args.types.now c.args.ty.now c.args.node.now is.Flags (λ s. IsTrue c.is_flags.result ↔ IsA s c.args.value.now) c.requires.told c.in-Flags.is (λ ms told. node_belongs k_flags ms c.args.value.now c.is_flags.result (c.is_flags.ensures ms told))

pub is_of_node-returns-in-Future : goal.is_of_node-returns-in-Future
is_of_node-returns-in-Future t c =
    by_kind c.args.types.now c.args.ty.now c.args.node.now (is.Future c.in-Future.table c.in-Future.field-1) (λ s. IsTrue c.is_handle.result ↔ IsA s c.args.value.now) c.requires.told c.in-Future.is (λ ms told. node_belongs (k_future c.in-Future.table c.in-Future.field-1) ms c.args.value.now c.is_handle.result c.is_handle.ensures)

pub is_of_node-returns-in-Stream : goal.is_of_node-returns-in-Stream
is_of_node-returns-in-Stream t c =
    by_kind c.args.types.now c.args.ty.now c.args.node.now (is.Stream c.in-Stream.table c.in-Stream.field-1) (λ s. IsTrue c.is_handle-in-Stream.result ↔ IsA s c.args.value.now) c.requires.told c.in-Stream.is (λ ms told. node_belongs (k_stream c.in-Stream.table c.in-Stream.field-1) ms c.args.value.now c.is_handle-in-Stream.result c.is_handle-in-Stream.ensures)

pub is_of_node-is_record-requires : goal.is_of_node-is_record-requires
is_of_node-is_record-requires t c =
    (omega (arith, c.decreases), c.requires.told.within)

pub is_of_node-is_tuple-requires : goal.is_of_node-is_tuple-requires
is_of_node-is_tuple-requires t c =
    (omega (arith, c.decreases), c.requires.told.within)

pub is_of_node-is_case-requires : goal.is_of_node-is_case-requires
is_of_node-is_case-requires t c =
    (omega (arith, c.decreases), c.requires.told.within)

pub is_of_node-is_case-requires-in-Enum : goal.is_of_node-is_case-requires-in-Enum
is_of_node-is_case-requires-in-Enum t c =
    (omega (arith, c.decreases), c.requires.told.within)

pub is_of_node-is_case-requires-in-Option : goal.is_of_node-is_case-requires-in-Option
is_of_node-is_case-requires-in-Option t c =
    (omega (arith, c.decreases), c.requires.told.within)

pub is_of_node-is_case-requires-in-Result : goal.is_of_node-is_case-requires-in-Result
is_of_node-is_case-requires-in-Result t c =
    (omega (arith, c.decreases), c.requires.told.within)

pub is_of_node-is_list-requires : goal.is_of_node-is_list-requires
is_of_node-is_list-requires t c =
    let (s, h, d) = c.canonical_abi-whole.ensures.shaped in
    let q = of_kind c.args.types.now c.args.ty.now c.args.node.now (is.List c.in-List.element) s c.requires.told c.in-List.is h in
    (omega (arith, c.decreases), c.requires.told.within.each 0 c.in-List.element (ap (λ xs. slice_get xs 0) q.told.0))

pub is_of_node-is_fixed_list-requires : goal.is_of_node-is_fixed_list-requires
is_of_node-is_fixed_list-requires t c =
    let (s, h, d) = c.canonical_abi-whole.ensures.shaped in
    let q = of_kind c.args.types.now c.args.ty.now c.args.node.now (is.FixedList c.in-FixedList.count c.in-FixedList.element) s c.requires.told c.in-FixedList.is h in
    (omega (arith, c.decreases), c.requires.told.within.each 0 c.in-FixedList.element (ap (λ xs. slice_get xs 0) q.told.0))

pub is_of_node-is_map-requires : goal.is_of_node-is_map-requires
is_of_node-is_map-requires t c =
    let (s, h, d) = c.canonical_abi-whole.ensures.shaped in
    let q = of_kind c.args.types.now c.args.ty.now c.args.node.now (is.Map c.in-Map.key c.in-Map.item) s c.requires.told c.in-Map.is h in
    (omega (arith, c.decreases), (c.requires.told.within.each 0 c.in-Map.key (ap (λ xs. slice_get xs 0) q.told.0), c.requires.told.within.each 1 c.in-Map.item (ap (λ xs. slice_get xs 1) q.told.0)))

pub are_elements-loop-value-init : goal.are_elements-loop-value-init
are_elements-loop-value-init t c =
    λ s h. (λ a. a, λ a. a)

pub are_elements-is_value_of-requires : goal.are_elements-is_value_of-requires
are_elements-is_value_of-requires t c =
    (omega (arith, c.requires.lower, c.decreases), c.requires.live)

pub are_elements-returns-then-not-branch : goal.are_elements-returns-then-not-branch
are_elements-returns-then-not-branch t c =
    λ s h. is_not (not_all (λ v. IsA s v) c.args.values.now c.loop-value.value-index c.value-item.result (item_at c.args.values.now c.loop-value.value-index c.value-item.result c.loop-value-test.true c.value-item.is) (no_says c.in_ok-is_value_of.field-0 (c.in_ok-is_value_of.ensures s h) c.if-not-branch.true) (c.loop-value.invariant s h))

pub are_elements-loop-value-preserved : goal.are_elements-loop-value-preserved
are_elements-loop-value-preserved t c =
    λ s h. all_past (λ v. IsA s v) c.args.values.now c.loop-value.value-index c.value-item.result (item_at c.args.values.now c.loop-value.value-index c.value-item.result c.loop-value-test.true c.value-item.is) (yes_says c.in_ok-is_value_of.field-0 (c.in_ok-is_value_of.ensures s h) c.if-not-branch.false) (c.loop-value.invariant s h)

pub are_elements-returns : goal.are_elements-returns
are_elements-returns t c =
    λ s h. is_so (all_passed (λ v. IsA s v) c.args.values.now c.loop-value.value-index (omega (arith, c.loop-value-test.false)) (c.loop-value.invariant s h))

pub are_members-loop-place-init : goal.are_members-loop-place-init
are_members-loop-place-init t c =
    (omega arith, λ ms are. matching_starts c.args.types.now ms c.args.node.now.types c.args.values.now are)

pub are_members-values_taken-requires : goal.are_members-values_taken-requires
are_members-values_taken-requires t c =
    (omega (arith, c.decreases), c.requires)

pub are_members-overflow_add-at : goal.are_members-overflow_add-at
are_members-overflow_add-at t c =
    let few : c.in-Some.taken ≤ 1 = few_taken _ _ _ c.in-Some.taken (subst (IsTaken c.args.types.now _ _) c.in-Some.is c.in_ok-taken.ensures) in
    omega (arith, few, c.loop-place.invariant.0, c.loop-place-test.true, c.len-place-end.ensures)

pub are_members-loop-place-preserved : goal.are_members-loop-place-preserved
are_members-loop-place-preserved t c =
    let few : c.in-Some.taken ≤ 1 = few_taken _ _ _ c.in-Some.taken (subst (IsTaken c.args.types.now _ _) c.in-Some.is c.in_ok-taken.ensures) in (
      omega (arith, few, c.loop-place.invariant.0),
      λ ms are. matching_taken (c.loop-place.invariant.1 ms are) c.in-Some.taken c.in_ok-taken.field-0 _ (omega (arith, c.loop-place-test.true, c.len-place-end.ensures)) c.get-first.ensures.value c.in-Some.is c.in_ok-taken.ensures,
    )

pub are_members-returns-in-None : goal.are_members-returns-in-None
are_members-returns-in-None t c =
    λ ms are. is_not (matching_fails (c.loop-place.invariant.1 ms are) c.in_ok-taken.field-0 _ c.get-first.ensures.value c.in-None.is c.in_ok-taken.ensures)

pub are_members-returns : goal.are_members-returns
are_members-returns t c =
    λ ms are. by_same (subst (λ k. IsTrue c.is_past.result ↔ (k ≤ c.loop-place.at)) c.len-count.ensures c.is_past.ensures) (other_way (all_matched c.args.types.now ms c.args.node.now.types c.loop-place.place c.loop-place.at c.args.values.now (omega (arith, c.loop-place-test.false, c.len-place-end.ensures)) (c.loop-place.invariant.1 ms are)))

pub are_fields-loop-place-init : goal.are_fields-loop-place-init
are_fields-loop-place-init t c =
    (omega arith, λ ms are. matching_starts c.args.types.now ms c.args.node.now.types (map (λ f. f.1) c.args.fields.now) are)

pub are_fields-values_taken-requires : goal.are_fields-values_taken-requires
are_fields-values_taken-requires t c =
    (omega (arith, c.decreases), c.requires)

pub are_fields-overflow_add-at : goal.are_fields-overflow_add-at
are_fields-overflow_add-at t c =
    let few : c.in-Some.taken ≤ 1 = few_taken _ _ _ c.in-Some.taken (subst (IsTaken c.args.types.now _ _) c.in-Some.is c.in_ok-taken.ensures) in
    omega (arith, few, c.loop-place.invariant.0, c.loop-place-test.true, c.len-place-end.ensures)

pub are_fields-loop-place-preserved : goal.are_fields-loop-place-preserved
are_fields-loop-place-preserved t c =
    let few : c.in-Some.taken ≤ 1 = few_taken _ _ _ c.in-Some.taken (subst (IsTaken c.args.types.now _ _) c.in-Some.is c.in_ok-taken.ensures) in (
      omega (arith, few, c.loop-place.invariant.0),
      λ ms are. matching_taken (c.loop-place.invariant.1 ms are) c.in-Some.taken c.in_ok-taken.field-0 _ (omega (arith, c.loop-place-test.true, c.len-place-end.ensures)) c.value_of_field-first.ensures c.in-Some.is c.in_ok-taken.ensures,
    )

pub are_fields-returns-in-None : goal.are_fields-returns-in-None
are_fields-returns-in-None t c =
    λ ms are. is_not (matching_fails (c.loop-place.invariant.1 ms are) c.in_ok-taken.field-0 _ c.value_of_field-first.ensures c.in-None.is c.in_ok-taken.ensures)

pub are_fields-returns : goal.are_fields-returns
are_fields-returns t c =
    λ ms are. by_same (subst (λ k. IsTrue c.is_past.result ↔ (k ≤ c.loop-place.at)) (c.len-count.ensures ∙ sym (length_mapped (λ f. f.1) c.args.fields.now)) c.is_past.ensures) (other_way (all_matched c.args.types.now ms c.args.node.now.types c.loop-place.place c.loop-place.at (map (λ f. f.1) c.args.fields.now) (omega (arith, c.loop-place-test.false, c.len-place-end.ensures)) (c.loop-place.invariant.1 ms are)))

pub values_taken-is_value_of-requires : goal.values_taken-is_value_of-requires
values_taken-is_value_of-requires t c =
    let w = place_within c.args.types.now c.args.owner.now c.args.node.now.types c.args.place c.in-Some.ty c.requires (sym c.member_type.ensures ∙ c.in-Some.is) in
    (omega (arith, w.lower, c.decreases), w.live)

pub is_case-returns-in_default-index_of_name : goal.is_case-returns-in_default-index_of_name
is_case-returns-in_default-index_of_name t c =
    λ ms n are. case_form c.args.value.now c.in-Case.name c.in-Case.payload ms false c.in-Case.is (case_missing c.in-Case.name c.in-Case.payload c.args.node.now.names ms c.index_of_name.result n c.in_default-index_of_name.is c.index_of_name.ensures)

pub is_case-returns-in-None : goal.is_case-returns-in-None
is_case-returns-in-None t c =
    λ ms n are. case_form c.args.value.now c.in-Case.name c.in-Case.payload ms c.is_nothing.result c.in-Case.is
    (by_same c.is_nothing.ensures (other_way (bare_case_has c.args.types.now c.in-Case.name c.in-Case.payload c.args.node.now.types ms c.in-Some.at are (case_found c.in-Case.name c.args.node.now.names ms c.index_of_name.result c.in-Some.at n c.in-Some.is c.index_of_name.ensures) (sym c.member_type.ensures ∙ c.in-None.is))))

pub is_case-returns-in-None-only_value : goal.is_case-returns-in-None-only_value
is_case-returns-in-None-only_value t c =
    λ ms n are. case_form c.args.value.now c.in-Case.name c.in-Case.payload ms false c.in-Case.is
    (many_payloads (typed_case_has c.args.types.now c.in-Case.name c.in-Case.payload c.in-Some-member_type.ty c.args.node.now.types ms c.in-Some.at are (case_found c.in-Case.name c.args.node.now.names ms c.index_of_name.result c.in-Some.at n c.in-Some.is c.index_of_name.ensures) (sym c.member_type.ensures ∙ c.in-Some-member_type.is)) (sym c.in-None-only_value.ensures))

pub is_case-is_value_of-requires : goal.is_case-is_value_of-requires
is_case-is_value_of-requires t c =
    let w = place_within c.args.types.now c.args.owner.now c.args.node.now.types c.in-Some.at c.in-Some-member_type.ty c.requires (sym c.member_type.ensures ∙ c.in-Some-member_type.is) in
    (omega (arith, w.lower, c.decreases), w.live)

pub is_case-returns-in-Some-only_value : goal.is_case-returns-in-Some-only_value
is_case-returns-in-Some-only_value t c =
    if_ok _ _ c.is_value_of.result (λ b e. λ ms n are. case_form c.args.value.now c.in-Case.name c.in-Case.payload ms b c.in-Case.is
    (payload_belongs (typed_case_has c.args.types.now c.in-Case.name c.in-Case.payload c.in-Some-member_type.ty c.args.node.now.types ms c.in-Some.at are (case_found c.in-Case.name c.args.node.now.names ms c.index_of_name.result c.in-Some.at n c.in-Some.is c.index_of_name.ensures) (sym c.member_type.ensures ∙ c.in-Some-member_type.is)) c.in-Some-only_value.value.now b (sym c.in-Some-only_value.ensures) e)) c.is_value_of.ensures

pub is_map-returns : goal.is_map-returns
is_map-returns t c =
    if_ok _ _ c.are_entries.result (λ b e. λ s u h k. map_form (λ x. IsA s x) (λ x. IsA u x) c.args.value.now c.in-Map.entries b c.in-Map.is (subst (λ es. IsTrue b ↔ AllByRecursion (λ e. IsA s e.0 × IsA u e.1) es) c.as_slice.ensures (e s u h k))) c.are_entries.ensures
