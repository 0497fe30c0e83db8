use Rattle.std.proofs.Common.{◌≡◌, ◌∙◌, ◌+◌, ◌≤◌, ℕ, ap, sym, subst, refl, arith, None, Some}
use Rattle.std.specs.Prelude.{slice_get, IfSome}
use Rattle.std.specs.List.{zip}
use Rattle.std.specs.Option.{option_copied}
use Rattle.fact_types.specs.Agrees.{named}
use Rattle.fact_types.specs.Shapes.{typed}
use Rattle.fact_values.specs.declared.value.Value.TheVariants as value
use Rattle.fact_values.specs.Carry.{take_number}
use Rattle.fact_abi.specs.CrossingWalks.{StepGives, NamingGives, Placing, PlacingGives, PayloadGives, entry_crossed}
use Rattle.fact_abi.specs.Finding.{member_type_at}
use Rattle.fact_values.specs.Handles.{each_step, cross, cross_fields, cross_places, cross_case}
use Rattle.fact_abi.specs.Nodes.{IsNodeOf}
use Rattle.fact_abi.proofs.BelongLaws.{item_at, place_within, case_found, index_nowhere}
use Rattle.fact_abi.proofs.KindLaws.{if_ok}
use Rattle.fact_abi.proofs.NodeWalkLaws.{plain_given, plain_source, record_given, tuple_given, variant_given, enum_given, option_given, result_given, list_given, fixed_list_given, map_given, flags_given, future_given, stream_given}
use Rattle.fact_abi.proofs.WalkLaws.{gives_none, gives_some, placing_starts, places_here, own_there, own_same, none_placed, not_placed, placing_on, placing_past, all_placed, listing_starts, not_listed, listing_on, all_listed, naming_starts, field_here, field_past, field_missing, field_not_crossed, naming_on, all_named_given, slice_there, given_nothing, no_type_of, named_crosses, payload_here, bare_case_crosses, no_only, no_payload_crossed, payload_crossed, case_nowhere, case_opened, list_gives, map_gives, tuple_gives, record_gives, first_there, first_shaped, first_typed_of, second_typed_of, none_of, some_of, no_key, no_item, entry_is}
use Rattle.fact_abi.proofs.carrying.+crossing.Goals as goal

pub cross_value-returns-in_default : goal.cross_value-returns-in_default
cross_value-returns-in_default t c =
    let plain = subst (IsNodeOf c.args.types.now c.args.to.now) c.in_default.is c.in_ok-target.ensures in
    if_ok _ _ c.cross_plain.result (λ o g. plain_given c.args.types.now c.args.from.now c.args.to.now c.args.value.now c.args.numbers.now c.cross_plain.new.numbers o plain g) c.cross_plain.ensures

pub cross_value-returns-in_default-2 : goal.cross_value-returns-in_default-2
cross_value-returns-in_default-2 t c =
    let node = subst (IsNodeOf c.args.types.now c.args.to.now) c.in-Some.is c.in_ok-target.ensures in
    let plain = subst (IsNodeOf c.args.types.now c.args.from.now) c.in_default-2.is c.in_ok-source.ensures in
    plain_source c.args.types.now c.args.from.now c.args.to.now c.in-Some.target c.args.value.now c.args.numbers.now c.args.numbers.now None node plain

pub cross_node-returns-in-Record : goal.cross_node-returns-in-Record
cross_node-returns-in-Record t c =
    if_ok _ _ c.cross_record.result (λ o g. record_given c.args.types.now c.args.from.now c.args.to.now c.args.source.now c.args.target.now c.args.value.now c.args.numbers.now c.cross_record.new.numbers o c.requires.source c.requires.target c.in-Record.is g) c.cross_record.ensures

pub cross_node-cross_record-requires : goal.cross_node-cross_record-requires
cross_node-cross_record-requires t c =
    (omega (arith, c.decreases), (c.requires.source.within, c.requires.target.within))

pub cross_node-returns-in-Tuple : goal.cross_node-returns-in-Tuple
cross_node-returns-in-Tuple t c =
    if_ok _ _ c.cross_tuple.result (λ o g. tuple_given c.args.types.now c.args.from.now c.args.to.now c.args.source.now c.args.target.now c.args.value.now c.args.numbers.now c.cross_tuple.new.numbers o c.requires.source c.requires.target c.in-Tuple.is g) c.cross_tuple.ensures

pub cross_node-cross_tuple-requires : goal.cross_node-cross_tuple-requires
cross_node-cross_tuple-requires t c =
    (omega (arith, c.decreases), (c.requires.source.within, c.requires.target.within))

pub cross_node-returns-in-Variant : goal.cross_node-returns-in-Variant
cross_node-returns-in-Variant t c =
    if_ok _ _ c.cross_case.result (λ o g. variant_given c.args.types.now c.args.from.now c.args.to.now c.args.source.now c.args.target.now c.args.value.now c.args.numbers.now c.cross_case.new.numbers o c.requires.source c.requires.target c.in-Variant.is g) c.cross_case.ensures

pub cross_node-cross_case-requires : goal.cross_node-cross_case-requires
cross_node-cross_case-requires t c =
    (omega (arith, c.decreases), (c.requires.source.within, c.requires.target.within))

pub cross_node-returns-in-Enum : goal.cross_node-returns-in-Enum
cross_node-returns-in-Enum t c =
    if_ok _ _ c.cross_case-in-Enum.result (λ o g. enum_given c.args.types.now c.args.from.now c.args.to.now c.args.source.now c.args.target.now c.args.value.now c.args.numbers.now c.cross_case-in-Enum.new.numbers o c.requires.source c.requires.target c.in-Enum.is g) c.cross_case-in-Enum.ensures

pub cross_node-cross_case-requires-in-Enum : goal.cross_node-cross_case-requires-in-Enum
cross_node-cross_case-requires-in-Enum t c =
    (omega (arith, c.decreases), (c.requires.source.within, c.requires.target.within))

pub cross_node-returns-in-Option : goal.cross_node-returns-in-Option
cross_node-returns-in-Option t c =
    if_ok _ _ c.cross_case-in-Option.result (λ o g. option_given c.args.types.now c.args.from.now c.args.to.now c.args.source.now c.args.target.now c.args.value.now c.args.numbers.now c.cross_case-in-Option.new.numbers o c.requires.source c.requires.target c.in-Option.is g) c.cross_case-in-Option.ensures

pub cross_node-cross_case-requires-in-Option : goal.cross_node-cross_case-requires-in-Option
cross_node-cross_case-requires-in-Option t c =
    (omega (arith, c.decreases), (c.requires.source.within, c.requires.target.within))

pub cross_node-returns-in-Result : goal.cross_node-returns-in-Result
cross_node-returns-in-Result t c =
    if_ok _ _ c.cross_case-in-Result.result (λ o g. result_given c.args.types.now c.args.from.now c.args.to.now c.args.source.now c.args.target.now c.args.value.now c.args.numbers.now c.cross_case-in-Result.new.numbers o c.requires.source c.requires.target c.in-Result.is g) c.cross_case-in-Result.ensures

pub cross_node-cross_case-requires-in-Result : goal.cross_node-cross_case-requires-in-Result
cross_node-cross_case-requires-in-Result t c =
    (omega (arith, c.decreases), (c.requires.source.within, c.requires.target.within))

pub cross_node-returns-in-List : goal.cross_node-returns-in-List
cross_node-returns-in-List t c =
    if_ok _ _ c.cross_list.result (λ o g. list_given c.args.types.now c.args.from.now c.args.to.now c.args.source.now c.args.target.now c.args.value.now c.args.numbers.now c.cross_list.new.numbers o c.requires.source c.requires.target c.in-List.field-0 c.in-List.is g) c.cross_list.ensures

pub cross_node-cross_list-requires : goal.cross_node-cross_list-requires
cross_node-cross_list-requires t c =
    (omega (arith, c.decreases), (c.requires.source.within, c.requires.target.within))

pub cross_node-returns-in-FixedList : goal.cross_node-returns-in-FixedList
cross_node-returns-in-FixedList t c =
    if_ok _ _ c.cross_list-in-FixedList.result (λ o g. fixed_list_given c.args.types.now c.args.from.now c.args.to.now c.args.source.now c.args.target.now c.args.value.now c.args.numbers.now c.cross_list-in-FixedList.new.numbers o c.requires.source c.requires.target c.in-FixedList.field-0 c.in-FixedList.field-1 c.in-FixedList.is g) c.cross_list-in-FixedList.ensures

pub cross_node-cross_list-requires-in-FixedList : goal.cross_node-cross_list-requires-in-FixedList
cross_node-cross_list-requires-in-FixedList t c =
    (omega (arith, c.decreases), (c.requires.source.within, c.requires.target.within))

pub cross_node-returns-in-Map : goal.cross_node-returns-in-Map
cross_node-returns-in-Map t c =
    if_ok _ _ c.cross_map.result (λ o g. map_given c.args.types.now c.args.from.now c.args.to.now c.args.source.now c.args.target.now c.args.value.now c.args.numbers.now c.cross_map.new.numbers o c.requires.source c.requires.target c.in-Map.field-0 c.in-Map.field-1 c.in-Map.is g) c.cross_map.ensures

pub cross_node-cross_map-requires : goal.cross_node-cross_map-requires
cross_node-cross_map-requires t c =
    (omega (arith, c.decreases), (c.requires.source.within, c.requires.target.within))

pub cross_node-returns-in-Flags : goal.cross_node-returns-in-Flags
cross_node-returns-in-Flags t c =
    if_ok _ _ c.cross_flags.result (λ o g. flags_given c.args.types.now c.args.from.now c.args.to.now c.args.source.now c.args.target.now c.args.value.now c.args.numbers.now c.args.numbers.now o c.requires.source c.requires.target c.in-Flags.is g refl) c.cross_flags.ensures

pub cross_node-returns-in-Future : goal.cross_node-returns-in-Future
cross_node-returns-in-Future t c =
    future_given c.args.types.now c.args.from.now c.args.to.now c.args.source.now c.args.target.now c.args.value.now c.args.numbers.now c.cross_handle.new.numbers c.cross_handle.result c.requires.source c.requires.target c.in-Future.table c.in-Future.field-1 c.in-Future.is c.cross_handle.ensures

pub cross_node-returns-in-Stream : goal.cross_node-returns-in-Stream
cross_node-returns-in-Stream t c =
    stream_given c.args.types.now c.args.from.now c.args.to.now c.args.source.now c.args.target.now c.args.value.now c.args.numbers.now c.cross_handle-in-Stream.new.numbers c.cross_handle-in-Stream.result c.requires.source c.requires.target c.in-Stream.table c.in-Stream.field-1 c.in-Stream.is c.cross_handle-in-Stream.ensures

pub cross_elements-loop-value-init : goal.cross_elements-loop-value-init
cross_elements-loop-value-init t c =
    λ s d h k a. listing_starts (λ v. cross take_number s d v) c.args.values.now c.new-crossed.result c.args.numbers.now c.new-crossed.ensures

pub cross_elements-cross_value-requires : goal.cross_elements-cross_value-requires
cross_elements-cross_value-requires t c =
    (omega (arith, c.requires.within.lower, c.decreases), (c.requires.from_live, c.requires.within.live))

pub cross_elements-returns-in-None : goal.cross_elements-returns-in-None
cross_elements-returns-in-None t c =
    λ s d h k a. not_listed (λ v. cross take_number s d v) c.args.values.now c.loop-value.value-index c.value-item.result c.loop-value.crossed c.args.numbers.now c.loop-value.numbers (item_at c.args.values.now c.loop-value.value-index c.value-item.result c.loop-value-test.true c.value-item.is) (gives_none c.in_ok-value.field-0 c.cross_value.new.numbers _ (c.in_ok-value.ensures s d h k a) c.in-None.is) (c.loop-value.invariant s d h k a)

pub cross_elements-loop-value-preserved : goal.cross_elements-loop-value-preserved
cross_elements-loop-value-preserved t c =
    λ s d h k a. listing_on (λ v. cross take_number s d v) c.args.values.now c.loop-value.value-index c.value-item.result c.in-Some.value c.loop-value.crossed c.push.new.self c.args.numbers.now c.loop-value.numbers c.cross_value.new.numbers (item_at c.args.values.now c.loop-value.value-index c.value-item.result c.loop-value-test.true c.value-item.is) (gives_some c.in_ok-value.field-0 c.cross_value.new.numbers _ c.in-Some.value (c.in_ok-value.ensures s d h k a) c.in-Some.is) c.in_ok-push-in-Some.ensures.ok (c.loop-value.invariant s d h k a)

pub cross_elements-returns : goal.cross_elements-returns
cross_elements-returns t c =
    λ s d h k a. all_listed (λ v. cross take_number s d v) c.args.values.now c.loop-value.value-index c.loop-value.crossed c.args.numbers.now c.loop-value.numbers (omega (arith, c.loop-value-test.false)) (c.loop-value.invariant s d h k a)

pub cross_fields-loop-place-init : goal.cross_fields-loop-place-init
cross_fields-loop-place-init t c =
    λ ms ns n h m k a. naming_starts c.args.types.now ms ns c.args.fields.now c.args.target.now.names c.args.target.now.types c.new-values.result c.args.numbers.now m k a c.new-values.ensures

pub cross_fields-cross_field-requires : goal.cross_fields-cross_field-requires
cross_fields-cross_field-requires t c =
    (omega (arith, c.decreases), (c.requires.source, (c.requires.target, omega (arith, c.loop-place-test.true, c.len-place-end.ensures))))

pub cross_fields-returns-then-not-branch : goal.cross_fields-returns-then-not-branch
cross_fields-returns-then-not-branch t c =
    λ ms ns n h m k a. subst (λ b. NamingGives c.args.types.now ms ns c.args.fields.now c.args.target.now.names c.args.target.now.types c.loop-place.place c.cross_field.new.values c.args.numbers.now c.cross_field.new.numbers b) c.if-not-branch.true (c.in_ok-cross_field.ensures ms ns c.args.numbers.now n h (c.loop-place.invariant ms ns n h m k a))

pub cross_fields-loop-place-preserved : goal.cross_fields-loop-place-preserved
cross_fields-loop-place-preserved t c =
    λ ms ns n h m k a. subst (λ b. NamingGives c.args.types.now ms ns c.args.fields.now c.args.target.now.names c.args.target.now.types c.loop-place.place c.cross_field.new.values c.args.numbers.now c.cross_field.new.numbers b) c.if-not-branch.false (c.in_ok-cross_field.ensures ms ns c.args.numbers.now n h (c.loop-place.invariant ms ns n h m k a))

pub cross_fields-returns : goal.cross_fields-returns
cross_fields-returns t c =
    λ ms ns n h m k a. all_named_given (omega (arith, c.loop-place-test.false, c.len-place-end.ensures)) (c.loop-place.invariant ms ns n h m k a)

pub cross_field-returns-in_default : goal.cross_field-returns-in_default
cross_field-returns-in_default t c =
    λ ms ns start n h g. slice_there c.args.target.now.names c.args.place c.requires.there (sym c.in_default.ensures.value)

pub cross_field-returns-in_default-member_type : goal.cross_field-returns-in_default-member_type
cross_field-returns-in_default-member_type t c =
    λ ms ns start n h g. field_past c.in-Some.name.now (sym c.in-Some.ensures.value) (sym c.member_type.ensures ∙ c.in_default-member_type.is) g

pub cross_field-returns-in_default-value_of_name : goal.cross_field-returns-in_default-value_of_name
cross_field-returns-in_default-value_of_name t c =
    λ ms ns start n h g. field_missing (field_here c.in-Some-member_type.ty c.in-Some.name.now (sym c.in-Some.ensures.value) (sym c.member_type.ensures ∙ c.in-Some-member_type.is) g) (sym c.in_default-value_of_name.ensures)

pub cross_field-cross_named-requires : goal.cross_field-cross_named-requires
cross_field-cross_named-requires t c =
    let w = place_within c.args.types.now c.args.to.now c.args.target.now.types c.args.place c.in-Some-member_type.ty c.requires.target (sym c.member_type.ensures ∙ c.in-Some-member_type.is) in
    (omega (arith, w.lower, c.decreases), (c.requires.source, w.live))

pub cross_field-returns-in-None : goal.cross_field-returns-in-None
cross_field-returns-in-None t c =
    λ ms ns start n h g.
    let f = field_here c.in-Some-member_type.ty c.in-Some.name.now (sym c.in-Some.ensures.value) (sym c.member_type.ensures ∙ c.in-Some-member_type.is) g in
    field_not_crossed f c.in-Some-value_of_name.field.now (sym c.in-Some-value_of_name.ensures) (gives_none c.in_ok-value.field-0 c.cross_named.new.numbers _ (c.in_ok-value.ensures ms f.d n h f.shaped f.agrees) c.in-None.is)

pub cross_field-returns-in_ok-push-in-Some-2 : goal.cross_field-returns-in_ok-push-in-Some-2
cross_field-returns-in_ok-push-in-Some-2 t c =
    λ ms ns start n h g.
    let f = field_here c.in-Some-member_type.ty c.in-Some.name.now (sym c.in-Some.ensures.value) (sym c.member_type.ensures ∙ c.in-Some-member_type.is) g in
    naming_on f c.in-Some-value_of_name.field.now c.in-Some-2.value c.push.new.self c.cross_named.new.numbers (sym c.in-Some-value_of_name.ensures) (gives_some c.in_ok-value.field-0 c.cross_named.new.numbers _ c.in-Some-2.value (c.in_ok-value.ensures ms f.d n h f.shaped f.agrees) c.in-Some-2.is) c.in_ok-push-in-Some-2.ensures.ok

pub cross_named-cross_value-requires : goal.cross_named-cross_value-requires
cross_named-cross_value-requires t c =
    let there = subst (λ o. IfSome o (λ y. (i : ℕ) × (slice_get c.args.source.now.types i ≡ Some (Some y)))) c.in-Some.is c.type_of_name.ensures.there in
    (omega (arith, c.decreases), ((c.requires.source.each there.0 c.in-Some.own there.1).live, c.requires.live))

pub cross_named-returns-in-None : goal.cross_named-returns-in-None
cross_named-returns-in-None t c =
    λ ms d n h k a. given_nothing (named c.args.name.now ms) (λ s. cross take_number s d c.args.value.now) c.args.numbers.now (no_type_of c.args.types.now c.type_of_name.result (named c.args.name.now ms) c.in-None.is (c.type_of_name.ensures.shaped c.args.types.now ms n h))

pub cross_named-returns-in-Some : goal.cross_named-returns-in-Some
cross_named-returns-in-Some t c =
    if_ok _ _ c.cross_value.result (λ o g. λ ms d n h k a. named_crosses c.args.types.now c.type_of_name.result c.in-Some.own (named c.args.name.now ms) d c.args.value.now c.args.numbers.now c.cross_value.new.numbers o c.in-Some.is (c.type_of_name.ensures.shaped c.args.types.now ms n h) a (λ s i b. g s d i k b)) c.cross_value.ensures

pub cross_members-loop-place-init : goal.cross_members-loop-place-init
cross_members-loop-place-init t c =
    (omega arith, λ ms ns h k a. placing_starts c.args.types.now ms ns c.args.source.now.types c.args.target.now.types c.args.values.now c.new-crossed.result c.args.numbers.now h k a c.new-crossed.ensures)

pub cross_members-cross_member-requires : goal.cross_members-cross_member-requires
cross_members-cross_member-requires t c =
    (omega (arith, c.decreases), (c.requires.source, (c.requires.target, omega (arith, c.loop-place-test.true, c.len-place-end.ensures))))

pub cross_members-overflow_add-at : goal.cross_members-overflow_add-at
cross_members-overflow_add-at t c =
    let few : c.in-Some.taken ≤ 1 = subst (λ o. IfSome o (λ n. n ≤ 1)) c.in-Some.is c.in_ok-taken.ensures.few in
    omega (arith, few, c.loop-place.invariant.0, c.loop-place-test.true, c.len-place-end.ensures)

pub cross_members-loop-place-preserved : goal.cross_members-loop-place-preserved
cross_members-loop-place-preserved t c =
    let few : c.in-Some.taken ≤ 1 = subst (λ o. IfSome o (λ n. n ≤ 1)) c.in-Some.is c.in_ok-taken.ensures.few in
    (omega (arith, few, c.loop-place.invariant.0), λ ms ns h k a. subst (λ o. PlacingGives c.args.types.now ms ns c.args.source.now.types c.args.target.now.types c.loop-place.place c.loop-place.at c.args.values.now c.cross_member.new.crossed c.args.numbers.now c.cross_member.new.numbers o) c.in-Some.is (c.in_ok-taken.ensures.placed ms ns c.loop-place.at c.args.values.now c.args.numbers.now c.get-first.ensures.value (c.loop-place.invariant.1 ms ns h k a)))

pub cross_members-returns-in-None : goal.cross_members-returns-in-None
cross_members-returns-in-None t c =
    λ ms ns h k a. subst (λ o. PlacingGives c.args.types.now ms ns c.args.source.now.types c.args.target.now.types c.loop-place.place c.loop-place.at c.args.values.now c.cross_member.new.crossed c.args.numbers.now c.cross_member.new.numbers o) c.in-None.is (c.in_ok-taken.ensures.placed ms ns c.loop-place.at c.args.values.now c.args.numbers.now c.get-first.ensures.value (c.loop-place.invariant.1 ms ns h k a))

pub cross_members-returns : goal.cross_members-returns
cross_members-returns t c =
    λ ms ns h k a. all_placed (omega (arith, c.loop-place-test.false, c.len-place-end.ensures)) (c.loop-place.invariant.1 ms ns h k a)

pub cross_member-returns-in_default-clause-placed : goal.cross_member-returns-in_default-clause-placed
cross_member-returns-in_default-clause-placed t c =
    λ ms ns at values start e g. subst (λ k. Placing c.args.types.now ms ns c.args.source.now.types c.args.target.now.types (c.args.place + 1) k values c.args.crossed.now start c.args.numbers.now) (omega arith) (placing_past c.requires.there (sym c.member_type.ensures ∙ c.in_default.is) g)

pub cross_member-returns-in_default-member_type-clause-placed : goal.cross_member-returns-in_default-member_type-clause-placed
cross_member-returns-in_default-member_type-clause-placed t c =
    λ ms ns at values start e g. own_there (places_here c.in-Some.ty (sym c.member_type.ensures ∙ c.in-Some.is) g) (sym c.member_type-2.ensures ∙ c.in_default-member_type.is)

pub cross_member-returns-in_default-first-clause-placed : goal.cross_member-returns-in_default-first-clause-placed
cross_member-returns-in_default-first-clause-placed t c =
    λ ms ns at values start e g. none_placed (places_here c.in-Some.ty (sym c.member_type.ensures ∙ c.in-Some.is) g) (sym e ∙ ap option_copied c.in_default-first.is)

pub cross_member-cross_value-requires : goal.cross_member-cross_value-requires
cross_member-cross_value-requires t c =
    let own = place_within c.args.types.now c.args.from.now c.args.source.now.types c.args.place c.in-Some-member_type.own c.requires.source (sym c.member_type-2.ensures ∙ c.in-Some-member_type.is) in
    let w = place_within c.args.types.now c.args.to.now c.args.target.now.types c.args.place c.in-Some.ty c.requires.target (sym c.member_type.ensures ∙ c.in-Some.is) in
    (omega (arith, w.lower, c.decreases), (own.live, w.live))

pub cross_member-returns-in-None-clause-placed : goal.cross_member-returns-in-None-clause-placed
cross_member-returns-in-None-clause-placed t c =
    λ ms ns at values start e g.
    let p = places_here c.in-Some.ty (sym c.member_type.ensures ∙ c.in-Some.is) g in
    not_placed p c.in-Some-first.value.now (sym e ∙ ap option_copied c.in-Some-first.is) (gives_none c.in_ok-value.field-0 c.cross_value.new.numbers _ (c.in_ok-value.ensures p.s p.d (own_same p c.in-Some-member_type.own (sym c.member_type-2.ensures ∙ c.in-Some-member_type.is)) p.shaped p.agrees) c.in-None.is)

pub cross_member-returns-in_ok-push-in-Some-2-clause-placed : goal.cross_member-returns-in_ok-push-in-Some-2-clause-placed
cross_member-returns-in_ok-push-in-Some-2-clause-placed t c =
    λ ms ns at values start e g.
    let p = places_here c.in-Some.ty (sym c.member_type.ensures ∙ c.in-Some.is) g in
    placing_on p c.in-Some-first.value.now c.in-Some-2.value (at + 1) c.push.new.self c.cross_value.new.numbers (sym e ∙ ap option_copied c.in-Some-first.is) (gives_some c.in_ok-value.field-0 c.cross_value.new.numbers _ c.in-Some-2.value (c.in_ok-value.ensures p.s p.d (own_same p c.in-Some-member_type.own (sym c.member_type-2.ensures ∙ c.in-Some-member_type.is)) p.shaped p.agrees) c.in-Some-2.is) c.in_ok-push-in-Some-2.ensures.ok refl

pub cross_payload-returns-in_default : goal.cross_payload-returns-in_default
cross_payload-returns-in_default t c =
    λ ms ns n h k first meets. bare_case_crosses c.args.types.now c.args.name.now (named c.args.name.now ms) c.args.payload.now c.args.target.now.types ns c.args.place c.args.numbers.now k first (sym c.member_type.ensures ∙ c.in_default.is) ∙ ap (λ vs. Some (value.Case c.args.name.now vs, c.args.numbers.now)) (sym c.new-values.ensures)

pub cross_payload-returns-in_default-only_value : goal.cross_payload-returns-in_default-only_value
cross_payload-returns-in_default-only_value t c =
    λ ms ns n h k first meets. no_only (payload_here c.args.types.now c.args.name.now (named c.args.name.now ms) c.args.payload.now c.args.target.now.types ns c.args.place c.args.numbers.now c.in-Some.ty k first (sym c.member_type.ensures ∙ c.in-Some.is) meets) (sym c.in_default-only_value.ensures)

pub cross_payload-cross_named-requires : goal.cross_payload-cross_named-requires
cross_payload-cross_named-requires t c =
    let w = place_within c.args.types.now c.args.to.now c.args.target.now.types c.args.place c.in-Some.ty c.requires.target (sym c.member_type.ensures ∙ c.in-Some.is) in
    (omega (arith, w.lower, c.decreases), (c.requires.source, w.live))

pub cross_payload-returns-in-None : goal.cross_payload-returns-in-None
cross_payload-returns-in-None t c =
    λ ms ns n h k first meets.
    let p = payload_here c.args.types.now c.args.name.now (named c.args.name.now ms) c.args.payload.now c.args.target.now.types ns c.args.place c.args.numbers.now c.in-Some.ty k first (sym c.member_type.ensures ∙ c.in-Some.is) meets in
    no_payload_crossed p c.in-Some-only_value.value.now (sym c.in-Some-only_value.ensures) (gives_none c.in_ok-value.field-0 c.cross_named.new.numbers _ (c.in_ok-value.ensures ms p.d n h p.shaped p.agrees) c.in-None.is)

pub cross_payload-returns-in_ok-push-in-Some-2 : goal.cross_payload-returns-in_ok-push-in-Some-2
cross_payload-returns-in_ok-push-in-Some-2 t c =
    λ ms ns n h k first meets.
    let p = payload_here c.args.types.now c.args.name.now (named c.args.name.now ms) c.args.payload.now c.args.target.now.types ns c.args.place c.args.numbers.now c.in-Some.ty k first (sym c.member_type.ensures ∙ c.in-Some.is) meets in
    payload_crossed p c.in-Some-only_value.value.now c.in-Some-2.value c.cross_named.new.numbers c.new-values.result c.push.new.self (sym c.in-Some-only_value.ensures) (gives_some c.in_ok-value.field-0 c.cross_named.new.numbers _ c.in-Some-2.value (c.in_ok-value.ensures ms p.d n h p.shaped p.agrees) c.in-Some-2.is) c.new-values.ensures c.in_ok-push-in-Some-2.ensures.ok

pub cross_case-cross_payload-requires : goal.cross_case-cross_payload-requires
cross_case-cross_payload-requires t c =
    (omega (arith, c.decreases), (c.requires.source, c.requires.target))

pub cross_case-returns-in_default-index_of_name : goal.cross_case-returns-in_default-index_of_name
cross_case-returns-in_default-index_of_name t c =
    λ ms ns n h m k meets. case_opened c.args.value.now c.in-Case.name c.in-Case.payload ms ns c.args.numbers.now c.in-Case.is ∙ (case_nowhere c.in-Case.name (named c.in-Case.name ms) c.in-Case.payload ns c.args.numbers.now (index_nowhere c.in-Case.name c.args.target.now.names ns c.index_of_name.result m c.in_default-index_of_name.is c.index_of_name.ensures))

pub cross_case-returns-in-None : goal.cross_case-returns-in-None
cross_case-returns-in-None t c =
    λ ms ns n h m k meets. case_opened c.args.value.now c.in-Case.name c.in-Case.payload ms ns c.args.numbers.now c.in-Case.is ∙ (subst (λ o. PayloadGives c.in-Case.name o c.cross_payload.new.numbers (cross_case take_number (named c.in-Case.name ms) c.in-Case.name c.in-Case.payload ns c.args.numbers.now)) c.in-None.is (c.in_ok-payload.ensures ms ns n h k (case_found c.in-Case.name c.args.target.now.names ns c.index_of_name.result c.in-Some.place m c.in-Some.is c.index_of_name.ensures) (meets c.in-Case.name)))

pub cross_list-returns-in_default : goal.cross_list-returns-in_default
cross_list-returns-in_default t c =
    λ m n s d ms ns h k a. first_there c.args.types.now c.args.source.now.types m s ms h (sym c.member_type.ensures ∙ c.in_default.is)

pub cross_list-returns-in_default-member_type : goal.cross_list-returns-in_default-member_type
cross_list-returns-in_default-member_type t c =
    λ m n s d ms ns h k a. first_there c.args.types.now c.args.target.now.types n d ns k (sym c.member_type-2.ensures ∙ c.in_default-member_type.is)

pub cross_list-cross_elements-requires : goal.cross_list-cross_elements-requires
cross_list-cross_elements-requires t c =
    let own = place_within c.args.types.now c.args.from.now c.args.source.now.types 0 c.in-Some.own c.requires.source (sym c.member_type.ensures ∙ c.in-Some.is) in
    (omega (arith, c.decreases), (own.live, place_within c.args.types.now c.args.to.now c.args.target.now.types 0 c.in-Some-member_type.element c.requires.target (sym c.member_type-2.ensures ∙ c.in-Some-member_type.is)))

pub cross_list-returns-in-None : goal.cross_list-returns-in-None
cross_list-returns-in-None t c =
    λ m n s d ms ns h k a. list_gives c.args.value.now c.in-List.values s d None c.args.numbers.now c.cross_elements.new.numbers c.in-List.is (subst (λ r. StepGives r c.cross_elements.new.numbers (each_step (λ v. cross take_number s d v) c.in-List.values c.args.numbers.now)) c.in-None.is (subst (λ vs. StepGives c.in_ok-crossed.field-0 c.cross_elements.new.numbers (each_step (λ v. cross take_number s d v) vs c.args.numbers.now)) c.as_slice.ensures (c.in_ok-crossed.ensures s d (first_shaped c.args.types.now c.args.source.now.types m s ms c.in-Some.own h (sym c.member_type.ensures ∙ c.in-Some.is)) (first_shaped c.args.types.now c.args.target.now.types n d ns c.in-Some-member_type.element k (sym c.member_type-2.ensures ∙ c.in-Some-member_type.is)) a)))

pub cross_list-returns-in-Some-2 : goal.cross_list-returns-in-Some-2
cross_list-returns-in-Some-2 t c =
    λ m n s d ms ns h k a. list_gives c.args.value.now c.in-List.values s d (Some c.in-Some-2.crossed) c.args.numbers.now c.cross_elements.new.numbers c.in-List.is (subst (λ r. StepGives r c.cross_elements.new.numbers (each_step (λ v. cross take_number s d v) c.in-List.values c.args.numbers.now)) c.in-Some-2.is (subst (λ vs. StepGives c.in_ok-crossed.field-0 c.cross_elements.new.numbers (each_step (λ v. cross take_number s d v) vs c.args.numbers.now)) c.as_slice.ensures (c.in_ok-crossed.ensures s d (first_shaped c.args.types.now c.args.source.now.types m s ms c.in-Some.own h (sym c.member_type.ensures ∙ c.in-Some.is)) (first_shaped c.args.types.now c.args.target.now.types n d ns c.in-Some-member_type.element k (sym c.member_type-2.ensures ∙ c.in-Some-member_type.is)) a)))

pub cross_part-returns-in_default : goal.cross_part-returns-in_default
cross_part-returns-in_default t c =
    λ s d h k a. none_of c.args.types.now (member_type_at c.args.source.now.types c.args.place) s (sym c.member_type.ensures ∙ c.in_default.is) h

pub cross_part-returns-in_default-member_type : goal.cross_part-returns-in_default-member_type
cross_part-returns-in_default-member_type t c =
    λ s d h k a. none_of c.args.types.now (member_type_at c.args.target.now.types c.args.place) d (sym c.member_type-2.ensures ∙ c.in_default-member_type.is) k

pub cross_part-cross_value-requires : goal.cross_part-cross_value-requires
cross_part-cross_value-requires t c =
    let own = place_within c.args.types.now c.args.from.now c.args.source.now.types c.args.place c.in-Some.own c.requires.source (sym c.member_type.ensures ∙ c.in-Some.is) in
    let w = place_within c.args.types.now c.args.to.now c.args.target.now.types c.args.place c.in-Some-member_type.ty c.requires.target (sym c.member_type-2.ensures ∙ c.in-Some-member_type.is) in
    (omega (arith, w.lower, c.decreases), (own.live, w.live))

pub cross_part-returns : goal.cross_part-returns
cross_part-returns t c =
    if_ok _ _ c.cross_value.result (λ o g. λ s d h k a. g s d (some_of c.args.types.now (member_type_at c.args.source.now.types c.args.place) c.in-Some.own s (sym c.member_type.ensures ∙ c.in-Some.is) h) (some_of c.args.types.now (member_type_at c.args.target.now.types c.args.place) c.in-Some-member_type.ty d (sym c.member_type-2.ensures ∙ c.in-Some-member_type.is) k) a) c.cross_value.ensures

pub cross_entries-loop-entry-init : goal.cross_entries-loop-entry-init
cross_entries-loop-entry-init t c =
    λ m n k l s d u w ms ns h i a b. listing_starts (entry_crossed s d u w) c.args.entries.now c.new-crossed.result c.args.numbers.now c.new-crossed.ensures

pub cross_entries-cross_part-requires : goal.cross_entries-cross_part-requires
cross_entries-cross_part-requires t c =
    (omega (arith, c.decreases), (c.requires.source, c.requires.target))

pub cross_entries-cross_part-requires-in-loop-entry : goal.cross_entries-cross_part-requires-in-loop-entry
cross_entries-cross_part-requires-in-loop-entry t c =
    (omega (arith, c.decreases), (c.requires.source, c.requires.target))

pub cross_entries-returns-in_default : goal.cross_entries-returns-in_default
cross_entries-returns-in_default t c =
    λ m n k l s d u w ms ns h i a b. not_listed (entry_crossed s d u w) c.args.entries.now c.loop-entry.entry-index c.entry-item.result c.loop-entry.crossed c.args.numbers.now c.loop-entry.numbers (item_at c.args.entries.now c.loop-entry.entry-index c.entry-item.result c.loop-entry-test.true c.entry-item.is) (no_key s d u w c.entry-item.result c.loop-entry.numbers (gives_none c.in_ok-own_key.field-0 c.cross_part.new.numbers _ (c.in_ok-own_key.ensures s d (first_typed_of c.args.types.now c.args.source.now.types m s (typed k u ms) h) (first_typed_of c.args.types.now c.args.target.now.types n d (typed l w ns) i) a) c.in_default.is)) (c.loop-entry.invariant m n k l s d u w ms ns h i a b)

pub cross_entries-returns-in_default-2 : goal.cross_entries-returns-in_default-2
cross_entries-returns-in_default-2 t c =
    λ m n k l s d u w ms ns h i a b. not_listed (entry_crossed s d u w) c.args.entries.now c.loop-entry.entry-index c.entry-item.result c.loop-entry.crossed c.args.numbers.now c.loop-entry.numbers (item_at c.args.entries.now c.loop-entry.entry-index c.entry-item.result c.loop-entry-test.true c.entry-item.is) (no_item s d u w c.entry-item.result c.in-Some.own_key c.loop-entry.numbers c.cross_part.new.numbers (gives_some c.in_ok-own_key.field-0 c.cross_part.new.numbers _ c.in-Some.own_key (c.in_ok-own_key.ensures s d (first_typed_of c.args.types.now c.args.source.now.types m s (typed k u ms) h) (first_typed_of c.args.types.now c.args.target.now.types n d (typed l w ns) i) a) c.in-Some.is) (gives_none c.in_ok-own_item.field-0 c.cross_part-in-loop-entry.new.numbers _ (c.in_ok-own_item.ensures u w (second_typed_of c.args.types.now c.args.source.now.types m k s u ms h) (second_typed_of c.args.types.now c.args.target.now.types n l d w ns i) b) c.in_default-2.is)) (c.loop-entry.invariant m n k l s d u w ms ns h i a b)

pub cross_entries-loop-entry-preserved : goal.cross_entries-loop-entry-preserved
cross_entries-loop-entry-preserved t c =
    λ m n k l s d u w ms ns h i a b. listing_on (entry_crossed s d u w) c.args.entries.now c.loop-entry.entry-index c.entry-item.result (c.in-Some.own_key, c.in-Some-2.own_item) c.loop-entry.crossed c.push.new.self c.args.numbers.now c.loop-entry.numbers c.cross_part-in-loop-entry.new.numbers (item_at c.args.entries.now c.loop-entry.entry-index c.entry-item.result c.loop-entry-test.true c.entry-item.is) (entry_is s d u w c.entry-item.result c.in-Some.own_key c.in-Some-2.own_item c.loop-entry.numbers c.cross_part.new.numbers c.cross_part-in-loop-entry.new.numbers (gives_some c.in_ok-own_key.field-0 c.cross_part.new.numbers _ c.in-Some.own_key (c.in_ok-own_key.ensures s d (first_typed_of c.args.types.now c.args.source.now.types m s (typed k u ms) h) (first_typed_of c.args.types.now c.args.target.now.types n d (typed l w ns) i) a) c.in-Some.is) (gives_some c.in_ok-own_item.field-0 c.cross_part-in-loop-entry.new.numbers _ c.in-Some-2.own_item (c.in_ok-own_item.ensures u w (second_typed_of c.args.types.now c.args.source.now.types m k s u ms h) (second_typed_of c.args.types.now c.args.target.now.types n l d w ns i) b) c.in-Some-2.is)) c.in_ok-push.ensures.ok (c.loop-entry.invariant m n k l s d u w ms ns h i a b)

pub cross_entries-returns : goal.cross_entries-returns
cross_entries-returns t c =
    λ m n k l s d u w ms ns h i a b. all_listed (entry_crossed s d u w) c.args.entries.now c.loop-entry.entry-index c.loop-entry.crossed c.args.numbers.now c.loop-entry.numbers (omega (arith, c.loop-entry-test.false)) (c.loop-entry.invariant m n k l s d u w ms ns h i a b)

pub cross_record-cross_fields-requires : goal.cross_record-cross_fields-requires
cross_record-cross_fields-requires t c =
    (omega (arith, c.decreases), (c.requires.source, c.requires.target))

pub cross_record-returns-in-None : goal.cross_record-returns-in-None
cross_record-returns-in-None t c =
    λ ms ns n h m k alone a. record_gives c.args.value.now c.in-Record.fields ms ns None c.args.numbers.now c.cross_fields.new.numbers c.in-Record.is (subst (λ r. StepGives r c.cross_fields.new.numbers (cross_fields take_number ms c.in-Record.fields ns c.args.numbers.now)) c.in-None.is (subst (λ fs. StepGives c.in_ok-values.field-0 c.cross_fields.new.numbers (cross_fields take_number ms fs ns c.args.numbers.now)) c.as_slice-fields.ensures (c.in_ok-values.ensures ms ns n h m k a)))

pub cross_record-returns-in_ok-named-in-Some : goal.cross_record-returns-in_ok-named-in-Some
cross_record-returns-in_ok-named-in-Some t c =
    λ ms ns n h m k alone a. record_gives c.args.value.now c.in-Record.fields ms ns (Some c.in-Some.values) c.args.numbers.now c.cross_fields.new.numbers c.in-Record.is (subst (λ r. StepGives r c.cross_fields.new.numbers (cross_fields take_number ms c.in-Record.fields ns c.args.numbers.now)) c.in-Some.is (subst (λ fs. StepGives c.in_ok-values.field-0 c.cross_fields.new.numbers (cross_fields take_number ms fs ns c.args.numbers.now)) c.as_slice-fields.ensures (c.in_ok-values.ensures ms ns n h m k a)))
    ∙ ap (λ fs. Some (value.Record fs, c.cross_fields.new.numbers)) (ap (λ ns. zip ns c.in-Some.values) (sym (m ∙ alone)) ∙ sym c.in_ok-named-in-Some.ensures)

pub cross_tuple-cross_members-requires : goal.cross_tuple-cross_members-requires
cross_tuple-cross_members-requires t c =
    (omega (arith, c.decreases), (c.requires.source, c.requires.target))

pub cross_tuple-returns-in-None : goal.cross_tuple-returns-in-None
cross_tuple-returns-in-None t c =
    λ ms ns h k a. tuple_gives c.args.value.now c.in-Tuple.values ms ns None c.args.numbers.now c.cross_members.new.numbers c.in-Tuple.is (subst (λ r. StepGives r c.cross_members.new.numbers (cross_places take_number ms c.in-Tuple.values ns c.args.numbers.now)) c.in-None.is (c.in_ok-crossed.ensures ms ns h k a))

pub cross_tuple-returns-in-Some : goal.cross_tuple-returns-in-Some
cross_tuple-returns-in-Some t c =
    λ ms ns h k a. tuple_gives c.args.value.now c.in-Tuple.values ms ns (Some c.in-Some.crossed) c.args.numbers.now c.cross_members.new.numbers c.in-Tuple.is (subst (λ r. StepGives r c.cross_members.new.numbers (cross_places take_number ms c.in-Tuple.values ns c.args.numbers.now)) c.in-Some.is (c.in_ok-crossed.ensures ms ns h k a))

pub cross_map-cross_entries-requires : goal.cross_map-cross_entries-requires
cross_map-cross_entries-requires t c =
    (omega (arith, c.decreases), (c.requires.source, c.requires.target))

pub cross_map-returns-in-None : goal.cross_map-returns-in-None
cross_map-returns-in-None t c =
    λ m n k l s d u w ms ns h i a b. map_gives c.args.value.now c.in-Map.entries s d u w None c.args.numbers.now c.cross_entries.new.numbers c.in-Map.is (subst (λ r. StepGives r c.cross_entries.new.numbers (each_step (entry_crossed s d u w) c.in-Map.entries c.args.numbers.now)) c.in-None.is (subst (λ es. StepGives c.in_ok-crossed.field-0 c.cross_entries.new.numbers (each_step (entry_crossed s d u w) es c.args.numbers.now)) c.as_slice-entries.ensures (c.in_ok-crossed.ensures m n k l s d u w ms ns h i a b)))

pub cross_map-returns-in-Some : goal.cross_map-returns-in-Some
cross_map-returns-in-Some t c =
    λ m n k l s d u w ms ns h i a b. map_gives c.args.value.now c.in-Map.entries s d u w (Some c.in-Some.crossed) c.args.numbers.now c.cross_entries.new.numbers c.in-Map.is (subst (λ r. StepGives r c.cross_entries.new.numbers (each_step (entry_crossed s d u w) c.in-Map.entries c.args.numbers.now)) c.in-Some.is (subst (λ es. StepGives c.in_ok-crossed.field-0 c.cross_entries.new.numbers (each_step (entry_crossed s d u w) es c.args.numbers.now)) c.as_slice-entries.ensures (c.in_ok-crossed.ensures m n k l s d u w ms ns h i a b)))
