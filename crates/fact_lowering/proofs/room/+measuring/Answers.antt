use Rattle.std.proofs.Common.{◌∙◌, ◌+◌, ◌∷◌, [], ap, map, sym, subst, refl, arith}
use Rattle.std.specs.Prelude.{sum_by}
use Rattle.std.specs.Option.{option_copied}
use Rattle.fact_values.specs.Handles.{only}
use Rattle.fact_values.specs.Places.{count_of_members}
use Rattle.fact_values.specs.Weight.{weight_element, weight_members}
use Rattle.fact_abi.specs.declared.nodes.NodeKind.TheVariants as is
use Rattle.fact_abi.specs.Nodes.{IsNodeOf}
use Rattle.fact_abi.proofs.BelongLaws.{item_at, place_within}
use Rattle.fact_abi.proofs.KindLaws.{if_ok}
use Rattle.fact_lowering.specs.Counted.{AsksBy, CountsFor, measured_at, weights_of}
use Rattle.fact_lowering.specs.Room.{greatest_bytes, measured_element, measured_fields, measured_payload, measured_places, shape_named}
use Rattle.fact_lowering.proofs.RoomLaws.{asks_as, at_both, at_own, count_few, count_members, elements_on, entry_counts, fields_end, fields_on, fields_start, live_member, live_there, payload_at, payload_many, payload_one, payload_weights, places_end, places_on, places_start, sums_end, sums_on, sums_start, tells_along, weights_end, weights_here, weights_start, within_there}
use Rattle.fact_lowering.proofs.RoomKinds.{case_counts, enum_ask, fixed_list_asks, fixed_list_counts, flags_ask, future_asks, holds_others, list_asks, list_counts, map_asks, map_counts, never_alike, no_case_counts, no_fixed_list_counts, no_list_counts, no_map_counts, no_record_counts, no_tuple_counts, option_asks, other_target, plain_asks, plain_target, record_asks, record_counts, result_asks, stream_asks, tuple_asks, tuple_counts, variant_asks}
use Rattle.fact_lowering.proofs.room.+measuring.Goals as goal

pub asked_by-returns-in-None : goal.asked_by-returns-in-None
asked_by-returns-in-None t c =
    let none = subst (IsNodeOf c.args.types.now c.args.from.now) c.in-None.is c.in_ok-node_of_type.ensures in
    λ s d h g. plain_asks c.args.types.now c.args.from.now c.args.value.now c.asked_by_plain.result none c.asked_by_plain.ensures s d h

pub asked_by_kind-returns-in-Flags : goal.asked_by_kind-returns-in-Flags
asked_by_kind-returns-in-Flags t c = λ s d h g. flags_ask c.args.types.now c.args.from.now c.args.source.now c.args.value.now c.weighs.result c.requires.source c.in-Flags.is c.weighs.ensures s d h

pub asked_by_kind-returns-in-Enum : goal.asked_by_kind-returns-in-Enum
asked_by_kind-returns-in-Enum t c = λ s d h g. enum_ask c.args.types.now c.args.from.now c.args.source.now c.args.value.now c.weighs-in-Enum.result c.requires.source c.in-Enum.is c.weighs-in-Enum.ensures s d h

pub asked_by_kind-returns-in-Future : goal.asked_by_kind-returns-in-Future
asked_by_kind-returns-in-Future t c = λ s d h g. future_asks c.args.types.now c.args.from.now c.args.source.now c.args.value.now c.handle.result c.requires.source c.in-Future.field-0 c.in-Future.field-1 c.in-Future.is c.handle.ensures s d h

pub asked_by_kind-returns-in-Stream : goal.asked_by_kind-returns-in-Stream
asked_by_kind-returns-in-Stream t c = λ s d h g. stream_asks c.args.types.now c.args.from.now c.args.source.now c.args.value.now c.handle-in-Stream.result c.requires.source c.in-Stream.field-0 c.in-Stream.field-1 c.in-Stream.is c.handle-in-Stream.ensures s d h

pub asked_by_kind-asked_of_kind-requires : goal.asked_by_kind-asked_of_kind-requires
asked_by_kind-asked_of_kind-requires t c =
    (omega (arith, c.decreases), (c.requires.from, (c.requires.source, (c.requires.to, holds_others c.args.source.now.kind c.in_default.not-Flags c.in_default.not-Enum c.in_default.not-Future c.in_default.not-Stream))))

pub asked_of_kind-asked_by_node-requires : goal.asked_of_kind-asked_by_node-requires
asked_of_kind-asked_by_node-requires t c = (omega (arith, c.decreases), (c.requires.from, (c.requires.source, (c.requires.from, (c.requires.source, c.requires.holds)))))

pub asked_of_kind-returns-in_default : goal.asked_of_kind-returns-in_default
asked_of_kind-returns-in_default t c =
    let plain = subst (IsNodeOf c.args.types.now c.args.to.now) c.in_default.is c.in_ok-target.ensures in
    if_ok _ _ c.asked_by_node.result (λ a e. plain_target c.args.types.now c.args.from.now c.args.to.now c.args.source.now c.args.value.now a c.requires.source plain e) c.asked_by_node.ensures

pub asked_by_node-returns-in-Record : goal.asked_by_node-returns-in-Record
asked_by_node-returns-in-Record t c =
    if_ok _ _ c.asked_by_record.result (λ a e. record_asks c.args.types.now c.args.from.now c.args.to.now c.args.source.now c.args.target.now c.args.value.now a c.requires.source c.requires.target c.requires.alike c.in-Record.is e) c.asked_by_record.ensures

pub asked_by_node-returns-in-Tuple : goal.asked_by_node-returns-in-Tuple
asked_by_node-returns-in-Tuple t c =
    if_ok _ _ c.asked_by_tuple.result (λ a e. tuple_asks c.args.types.now c.args.from.now c.args.to.now c.args.source.now c.args.target.now c.args.value.now a c.requires.source c.requires.target c.requires.alike c.in-Tuple.is e) c.asked_by_tuple.ensures

pub asked_by_node-returns-in-List : goal.asked_by_node-returns-in-List
asked_by_node-returns-in-List t c =
    if_ok _ _ c.asked_by_list.result (λ a e. list_asks c.args.types.now c.args.from.now c.args.to.now c.args.source.now c.args.target.now c.args.value.now a c.requires.source c.requires.target c.requires.alike c.in-List.field-0 c.in-List.is e) c.asked_by_list.ensures

pub asked_by_node-returns-in-Map : goal.asked_by_node-returns-in-Map
asked_by_node-returns-in-Map t c =
    if_ok _ _ c.asked_by_map.result (λ a e. map_asks c.args.types.now c.args.from.now c.args.to.now c.args.source.now c.args.target.now c.args.value.now a c.requires.source c.requires.target c.requires.alike c.in-Map.field-0 c.in-Map.field-1 c.in-Map.is e) c.asked_by_map.ensures

pub asked_by_node-returns-in-FixedList : goal.asked_by_node-returns-in-FixedList
asked_by_node-returns-in-FixedList t c =
    if_ok _ _ c.asked_by_fixed_list.result (λ a e. fixed_list_asks c.args.types.now c.args.from.now c.args.to.now c.args.source.now c.args.target.now c.args.value.now a c.requires.source c.requires.target c.requires.alike c.in-FixedList.field-0 c.in-FixedList.field-1 c.in-FixedList.is e) c.asked_by_fixed_list.ensures

pub asked_by_node-returns-in-Variant : goal.asked_by_node-returns-in-Variant
asked_by_node-returns-in-Variant t c =
    if_ok _ _ c.asked_by_case.result (λ a e. variant_asks c.args.types.now c.args.from.now c.args.to.now c.args.source.now c.args.target.now c.args.value.now a c.requires.source c.requires.target c.requires.alike c.in-Variant.is e) c.asked_by_case.ensures

pub asked_by_node-returns-in-Option : goal.asked_by_node-returns-in-Option
asked_by_node-returns-in-Option t c =
    if_ok _ _ c.asked_by_case-in-Option.result (λ a e. option_asks c.args.types.now c.args.from.now c.args.to.now c.args.source.now c.args.target.now c.args.value.now a c.requires.source c.requires.target c.requires.alike c.in-Option.is e) c.asked_by_case-in-Option.ensures

pub asked_by_node-returns-in-Result : goal.asked_by_node-returns-in-Result
asked_by_node-returns-in-Result t c =
    if_ok _ _ c.asked_by_case-in-Result.result (λ a e. result_asks c.args.types.now c.args.from.now c.args.to.now c.args.source.now c.args.target.now c.args.value.now a c.requires.source c.requires.target c.requires.alike c.in-Result.is e) c.asked_by_case-in-Result.ensures

pub asked_by_node-returns-in_default : goal.asked_by_node-returns-in_default
asked_by_node-returns-in_default t c =
    absurd (never_alike c.args.types.now c.args.from.now c.args.to.now c.args.source.now c.args.target.now c.args.value.now c.weighs.result c.requires.source c.requires.target c.requires.alike c.in_default.not-Record c.in_default.not-Variant c.in_default.not-List c.in_default.not-Tuple c.in_default.not-Map c.in_default.not-Option c.in_default.not-Result c.in_default.not-FixedList)

pub asked_by_members-loop-place-init : goal.asked_by_members-loop-place-init
asked_by_members-loop-place-init t c =
    (omega arith, λ ms ns h g. places_start c.args.types.now ms ns c.args.source.now.types c.args.target.now.types c.args.values.now c.weighs-all.result h g c.weighs-all.ensures)

pub asked_by_members-asked_at-requires : goal.asked_by_members-asked_at-requires
asked_by_members-asked_at-requires t c =
    (omega (arith, c.decreases), (λ y e. place_within c.args.types.now c.args.from.now c.args.source.now.types c.loop-place.place y c.requires.source (sym c.member_type-own.ensures ∙ e), live_member c.args.types.now c.args.to.now c.args.target.now.types c.loop-place.place c.member_type-other.result c.requires.target c.member_type-other.ensures))

pub asked_by_members-overflow_add-at : goal.asked_by_members-overflow_add-at
asked_by_members-overflow_add-at t c =
    omega (arith, count_few c.member_type-own.result c.count_of-at.result c.count_of-at.ensures, c.loop-place.invariant.0, c.loop-place-test.true, c.len-place-end.ensures)

pub asked_by_members-loop-place-preserved : goal.asked_by_members-loop-place-preserved
asked_by_members-loop-place-preserved t c = (
  omega (arith, count_few c.member_type-own.result c.count_of-at.result c.count_of-at.ensures, c.loop-place.invariant.0),
  λ ms ns h g. places_on (c.loop-place.invariant.1 ms ns h g) c.member_type-own.result c.member_type-other.result _ c.in_ok-here.here c.and-all.result c.count_of-at.result _ c.member_type-own.ensures c.member_type-other.ensures c.value_at-first.ensures c.in_ok-here.ensures c.and-all.ensures c.count_of-at.ensures refl,
)

pub asked_by_members-returns : goal.asked_by_members-returns
asked_by_members-returns t c = λ ms ns h g. places_end (omega (arith, c.loop-place-test.false, c.len-place-end.ensures)) (c.loop-place.invariant.1 ms ns h g)

pub asked_by_fields-loop-place-init : goal.asked_by_fields-loop-place-init
asked_by_fields-loop-place-init t c =
    (omega arith, λ ms ns n h k g. fields_start c.args.types.now ms ns c.args.source.now.types c.args.source.now.names c.args.fields.now c.weighs-all.result h n c.weighs-all.ensures)

pub asked_by_fields-asked_at-requires : goal.asked_by_fields-asked_at-requires
asked_by_fields-asked_at-requires t c =
    (omega (arith, c.decreases), (λ y e. place_within c.args.types.now c.args.from.now c.args.source.now.types c.loop-place.place y c.requires.source (sym c.member_type-own.ensures ∙ e), live_there c.args.types.now c.args.to.now c.args.target.now.types c.type_of_field-other.result c.requires.target c.type_of_field-other.ensures.there))

pub asked_by_fields-overflow_add-at : goal.asked_by_fields-overflow_add-at
asked_by_fields-overflow_add-at t c =
    omega (arith, count_few c.member_type-own.result c.count_of-at.result c.count_of-at.ensures, c.loop-place.invariant.0, c.loop-place-test.true, c.len-place-end.ensures)

pub asked_by_fields-loop-place-preserved : goal.asked_by_fields-loop-place-preserved
asked_by_fields-loop-place-preserved t c = (
  omega (arith, count_few c.member_type-own.result c.count_of-at.result c.count_of-at.ensures, c.loop-place.invariant.0),
  λ ms ns n h k g. fields_on (c.loop-place.invariant.1 ms ns n h k g) c.member_type-own.result c.type_of_field-other.result _ c.in_ok-here.here c.and-all.result c.count_of-at.result _ c.member_type-own.ensures (c.type_of_field-other.ensures.shaped c.args.types.now ns k g) c.value_of_field-first.ensures c.in_ok-here.ensures c.and-all.ensures c.count_of-at.ensures refl,
)

pub asked_by_fields-returns : goal.asked_by_fields-returns
asked_by_fields-returns t c = λ ms ns n h k g. fields_end (omega (arith, c.loop-place-test.false, c.len-place-end.ensures)) (c.loop-place.invariant.1 ms ns n h k g)

pub asked_by_elements-loop-place-init : goal.asked_by_elements-loop-place-init
asked_by_elements-loop-place-init t c =
    λ ms ns h g. sums_start (λ m w. measured_element m ms w ns) (λ w. weight_element ms w) c.args.values.now c.weighs-all.result c.weighs-all.ensures

pub asked_by_elements-asked_at-requires : goal.asked_by_elements-asked_at-requires
asked_by_elements-asked_at-requires t c =
    (omega (arith, c.decreases), (λ y e. place_within c.args.types.now c.args.from.now c.args.source.now.types 0 y c.requires.source (sym c.member_type-own.ensures ∙ e), live_member c.args.types.now c.args.to.now c.args.target.now.types 0 c.member_type-other.result c.requires.target c.member_type-other.ensures))

pub asked_by_elements-loop-place-preserved : goal.asked_by_elements-loop-place-preserved
asked_by_elements-loop-place-preserved t c =
    λ ms ns h g. elements_on c.args.types.now ms ns c.args.source.now.types c.args.target.now.types c.args.values.now c.loop-place.place c.loop-place.all c.in_ok-here.here c.and-all.result c.member_type-own.result c.member_type-other.result _ c.loop-place-test.true h g c.member_type-own.ensures c.member_type-other.ensures c.value_at-value.ensures c.in_ok-here.ensures c.and-all.ensures (c.loop-place.invariant ms ns h g)

pub asked_by_elements-returns : goal.asked_by_elements-returns
asked_by_elements-returns t c = λ ms ns h g. sums_end (λ m w. measured_element m ms w ns) (λ w. weight_element ms w) c.args.values.now c.loop-place.place c.loop-place.all (omega (arith, c.loop-place-test.false)) (c.loop-place.invariant ms ns h g)

pub asked_by_entries-loop-entry-init : goal.asked_by_entries-loop-entry-init
asked_by_entries-loop-entry-init t c =
    λ x y ms ns two h g. sums_start (λ m e. measured_places m ms (e.0 ∷ e.1 ∷ []) ns) (λ e. weight_members ms (e.0 ∷ e.1 ∷ [])) c.args.entries.now c.weighs-all.result c.weighs-all.ensures

pub asked_by_entries-loop-entry-preserved : goal.asked_by_entries-loop-entry-preserved
asked_by_entries-loop-entry-preserved t c =
    λ x y ms ns two h g. sums_on (λ m e. measured_places m ms (e.0 ∷ e.1 ∷ []) ns) (λ e. weight_members ms (e.0 ∷ e.1 ∷ [])) c.args.entries.now c.loop-entry.entry-index c.entry-item.result c.loop-entry.all c.in_ok-here.here c.and-all.result (item_at c.args.entries.now c.loop-entry.entry-index c.entry-item.result c.loop-entry-test.true c.entry-item.is) (c.in_ok-here.ensures x y ms ns two h g) c.and-all.ensures (c.loop-entry.invariant x y ms ns two h g)

pub asked_by_entries-returns : goal.asked_by_entries-returns
asked_by_entries-returns t c = λ x y ms ns two h g. sums_end (λ m e. measured_places m ms (e.0 ∷ e.1 ∷ []) ns) (λ e. weight_members ms (e.0 ∷ e.1 ∷ [])) c.args.entries.now c.loop-entry.entry-index c.loop-entry.all (omega (arith, c.loop-entry-test.false)) (c.loop-entry.invariant x y ms ns two h g)

pub asked_by_entry-asked_at-requires : goal.asked_by_entry-asked_at-requires
asked_by_entry-asked_at-requires t c =
    (omega (arith, c.decreases), (λ y e. place_within c.args.types.now c.args.from.now c.args.source.now.types 0 y c.requires.source (sym c.member_type-own_key.ensures ∙ e), live_member c.args.types.now c.args.to.now c.args.target.now.types 0 c.member_type-other_key.result c.requires.target c.member_type-other_key.ensures))

pub asked_by_entry-asked_at-requires-2 : goal.asked_by_entry-asked_at-requires-2
asked_by_entry-asked_at-requires-2 t c =
    (omega (arith, c.decreases), (λ y e. place_within c.args.types.now c.args.from.now c.args.source.now.types 1 y c.requires.source (sym c.member_type-own_item.ensures ∙ e), live_member c.args.types.now c.args.to.now c.args.target.now.types 1 c.member_type-other_item.result c.requires.target c.member_type-other_item.ensures))

pub asked_by_entry-returns : goal.asked_by_entry-returns
asked_by_entry-returns t c =
    λ x y ms ns two h g. entry_counts c.args.types.now x y c.args.source.now.types c.args.target.now.types ms ns c.args.key.now c.args.item.now c.in_ok-first.first c.in_ok-second.second c.and.result two h g
    (tells_along c.args.types.now _ _ _ _ _ _ c.member_type-own_key.ensures c.member_type-other_key.ensures c.in_ok-first.ensures) (tells_along c.args.types.now _ _ _ _ _ _ c.member_type-own_item.ensures c.member_type-other_item.ensures c.in_ok-second.ensures) c.and.ensures

pub asked_by_tuple-returns : goal.asked_by_tuple-returns
asked_by_tuple-returns t c =
    λ ms ns h g. tuple_counts ms ns c.args.value.now c.weighs-2.result c.in_ok-members.members c.and.result c.in-Tuple.values c.in-Tuple.is c.weighs-2.ensures (subst (λ vs. AsksBy (λ m. measured_places m ms vs ns) (weight_members ms vs) c.in_ok-members.members) c.as_slice.ensures (c.in_ok-members.ensures ms ns h g)) c.and.ensures

pub asked_by_record-returns : goal.asked_by_record-returns
asked_by_record-returns t c =
    λ ms ns n h k g. record_counts ms ns c.args.value.now c.weighs-2.result c.in_ok-members.members c.and.result c.in-Record.fields c.in-Record.is c.weighs-2.ensures (subst (λ fs. AsksBy (λ m. measured_fields m ms fs ns) (weight_members ms (map (λ f. f.1) fs)) c.in_ok-members.members) c.as_slice.ensures (c.in_ok-members.ensures ms ns n h k g)) c.and.ensures

pub weights_of-loop-place-init : goal.weights_of-loop-place-init
weights_of-loop-place-init t c = λ x p h g. weights_start x c.args.values.now c.weighs-all.result c.weighs-all.ensures

pub weights_of-loop-place-preserved : goal.weights_of-loop-place-preserved
weights_of-loop-place-preserved t c =
    λ x p h g. weights_here x p c.args.types.now c.args.from c.args.to c.args.values.now c.loop-place.place c.loop-place.all c.in_ok-here.here c.without_room.result c.and-all.result _ c.loop-place-test.true h g c.value_at-value.ensures c.in_ok-here.ensures c.without_room.ensures c.and-all.ensures (c.loop-place.invariant x p h g)

pub weights_of-returns : goal.weights_of-returns
weights_of-returns t c = λ x p h g. weights_end x c.args.values.now c.loop-place.place c.loop-place.all (omega (arith, c.loop-place-test.false)) (c.loop-place.invariant x p h g)

pub asked_by_payload-returns-in-Some : goal.asked_by_payload-returns-in-Some
asked_by_payload-returns-in-Some t c = if_ok _ _ c.asked_at.result (λ a e x p h g. payload_one x p c.args.payload.now c.in-Some.value.now a (sym c.in-Some.ensures) (e x p h g)) c.asked_at.ensures

pub asked_by_payload-returns-in-None : goal.asked_by_payload-returns-in-None
asked_by_payload-returns-in-None t c = if_ok _ _ c.weights_of.result (λ a e x p h g. payload_many x p c.args.payload.now a (sym c.in-None.ensures) (subst (λ vs. CountsFor 0 0 (weights_of x vs) a) c.as_slice.ensures (e x p h g))) c.weights_of.ensures

pub asked_by_case-asked_by_payload-requires : goal.asked_by_case-asked_by_payload-requires
asked_by_case-asked_by_payload-requires t c =
    (omega (arith, c.decreases), (within_there c.args.types.now c.args.from.now c.args.source.now.types c.type_named-here.result c.requires.source c.type_named-here.ensures.there, live_there c.args.types.now c.args.to.now c.args.target.now.types c.type_named-there.result c.requires.target c.type_named-there.ensures.there))

pub asked_by_case-returns : goal.asked_by_case-returns
asked_by_case-returns t c =
    λ ms ns n h k g.
    let own : CountsFor 0 0 (1 + count_of_members ms) c.and-own.result = subst (λ l. CountsFor 0 0 (1 + l) c.and-own.result) (c.len.ensures ∙ count_members c.args.types.now c.args.source.now.types ms h) (c.and-own.ensures 0 0 0 0 1 c.len.result c.weighs.ensures c.weighs-2.ensures) in
    let inner = c.in_ok-inner.ensures (shape_named c.in-Case.name ms) (shape_named c.in-Case.name ns) (c.type_named-here.ensures.shaped c.args.types.now ms n h) (c.type_named-there.ensures.shaped c.args.types.now ns k g) in
    case_counts ms ns c.args.value.now c.and-own.result c.in_ok-inner.inner c.and.result c.in-Case.name c.in-Case.payload c.in-Case.is own
    (asks_as (λ m. measured_at m (shape_named c.in-Case.name ms) (shape_named c.in-Case.name ns) (only c.in-Case.payload)) (λ m. measured_payload m ms c.in-Case.name c.in-Case.payload (shape_named c.in-Case.name ns)) (λ m. payload_at m ms c.in-Case.name c.in-Case.payload (shape_named c.in-Case.name ns)) (payload_weights ms c.in-Case.name c.in-Case.payload) inner) c.and.ensures

pub asked_by_fixed_list-returns : goal.asked_by_fixed_list-returns
asked_by_fixed_list-returns t c =
    λ j k ms ns h g. fixed_list_counts ms ns c.args.value.now c.weighs-2.result c.in_ok-elements.elements c.and.result j k c.in-List.values c.in-List.is c.weighs-2.ensures (subst (λ vs. AsksBy (λ m. sum_by (λ w. measured_element m ms w ns) vs) (sum_by (λ w. weight_element ms w) vs) c.in_ok-elements.elements) c.as_slice.ensures (c.in_ok-elements.ensures ms ns h g)) c.and.ensures

pub asked_by_list-returns : goal.asked_by_list-returns
asked_by_list-returns t c =
    λ e f ms ns one h two g. list_counts ms ns c.args.value.now c.piece-own.result c.in_ok-elements.elements c.and.result c.in-List.values c.len.result c.greatest_bytes-each.result c.in-List.is c.len.ensures
    (c.greatest_bytes-each.ensures ∙ (λ i. greatest_bytes (c.element_abi.ensures e ms one h i) (c.element_abi-2.ensures f ns two g i))) c.piece-own.ensures
    (subst (λ vs. AsksBy (λ m. sum_by (λ w. measured_element m ms w ns) vs) (sum_by (λ w. weight_element ms w) vs) c.in_ok-elements.elements) c.as_slice.ensures (c.in_ok-elements.ensures ms ns h g)) c.and.ensures

pub asked_by_map-returns : goal.asked_by_map-returns
asked_by_map-returns t c =
    λ x y ms ns hm hn two h g. map_counts ms ns c.args.value.now c.piece-own.result c.in_ok-inner.inner c.and.result c.in-Map.entries c.len.result c.greatest_bytes-each.result c.in-Map.is c.len.ensures
    (c.greatest_bytes-each.ensures ∙ (λ i. greatest_bytes (c.entry_abi.ensures ms hm i) (c.entry_abi-2.ensures ns hn i))) c.piece-own.ensures
    (subst (λ es. AsksBy (λ m. sum_by (λ e. measured_places m ms (e.0 ∷ e.1 ∷ []) ns) es) (sum_by (λ e. weight_members ms (e.0 ∷ e.1 ∷ [])) es) c.in_ok-inner.inner) c.as_slice.ensures (c.in_ok-inner.ensures x y ms ns two h g)) c.and.ensures

pub asked_of_kind-returns : goal.asked_of_kind-returns
asked_of_kind-returns t c =
    let node = subst (IsNodeOf c.args.types.now c.args.to.now) c.in-Some.is c.in_ok-target.ensures in
    if_ok _ _ c.asked_by_node-else-is_same_kind.result (λ a e. other_target c.args.types.now c.args.from.now c.args.to.now c.args.source.now c.in-Some.target c.args.value.now a c.requires.source node (sym c.is_same_kind.ensures ∙ c.if-is_same_kind.false) e) c.asked_by_node-else-is_same_kind.ensures

pub asked_at-returns-in-Some-to : goal.asked_at-returns-in-Some-to
asked_at-returns-in-Some-to t c =
    if_ok _ _ c.asked_by.result (λ a e. at_both c.args.types.now c.args.from c.args.to c.in-Some.from c.in-Some-to.to (option_copied c.args.value) c.in-Some-value.value.now a c.in-Some.is c.in-Some-to.is (ap option_copied c.in-Some-value.is) e) c.asked_by.ensures

pub asked_at-returns-in-None : goal.asked_at-returns-in-None
asked_at-returns-in-None t c =
    if_ok _ _ c.asked_by-in-None.result (λ a e. at_own c.args.types.now c.args.from c.args.to c.in-Some.from (option_copied c.args.value) c.in-Some-value.value.now a c.in-Some.is c.in-None.is (ap option_copied c.in-Some-value.is) e) c.asked_by-in-None.ensures

pub asked_by_record-returns-in_default : goal.asked_by_record-returns-in_default
asked_by_record-returns-in_default t c = λ ms ns n h k g. no_record_counts ms ns c.args.value.now c.weighs.result c.in_default.not-Record c.weighs.ensures

pub asked_by_tuple-returns-in_default : goal.asked_by_tuple-returns-in_default
asked_by_tuple-returns-in_default t c = λ ms ns h g. no_tuple_counts ms ns c.args.value.now c.weighs.result c.in_default.not-Tuple c.weighs.ensures

pub asked_by_fixed_list-returns-in_default : goal.asked_by_fixed_list-returns-in_default
asked_by_fixed_list-returns-in_default t c = λ j k ms ns h g. no_fixed_list_counts ms ns c.args.value.now c.weighs.result j k c.in_default.not-List c.weighs.ensures

pub asked_by_list-returns-in_default : goal.asked_by_list-returns-in_default
asked_by_list-returns-in_default t c = λ e f ms ns one h two g. no_list_counts ms ns c.args.value.now c.weighs.result c.in_default.not-List c.weighs.ensures

pub asked_by_map-returns-in_default : goal.asked_by_map-returns-in_default
asked_by_map-returns-in_default t c = λ x y ms ns hm hn two h g. no_map_counts ms ns c.args.value.now c.weighs.result c.in_default.not-Map c.weighs.ensures

pub asked_by_case-returns-in_default : goal.asked_by_case-returns-in_default
asked_by_case-returns-in_default t c =
    λ ms ns n h k g. no_case_counts ms ns c.args.value.now c.and-own.result c.in_default.not-Case (subst (λ l. CountsFor 0 0 (1 + l) c.and-own.result) (c.len.ensures ∙ count_members c.args.types.now c.args.source.now.types ms h) (c.and-own.ensures 0 0 0 0 1 c.len.result c.weighs.ensures c.weighs-2.ensures))
