use Rattle.std.proofs.Common.{◌≡◌, ◌∙◌, ℕ, List, [], ◌∷◌, ◌++◌, ap, sym, subst, arith, map}
use Rattle.std.specs.Prelude.{slice_get}
use Rattle.std.specs.Option.{option_copied}
use Rattle.serde_json.specs.Data as json
use Rattle.serde_json.specs.View.{items_of, view, members_view}
use Rattle.serde_json.specs.declared.value.Value.{Value as Json}
use Rattle.serde_json.proofs.Views.{view-Array, view-Object}
use Rattle.fact_values.specs.declared.value.Value.TheVariants as value
use Rattle.fact_values.specs.IsA.{IsA, AreMembers, HasCase}
use Rattle.fact_abi.specs.declared.nodes.NodeKind.TheVariants as is
use Rattle.fact_abi.specs.Finding.{IsFirstNamed, IsIndexOf, IsNowhere}
use Rattle.fact_abi.specs.Nodes.{IsNodeOf, AreOf}
use Rattle.fact_abi.proofs.BelongLaws.{item_at, place_within}
use Rattle.fact_abi.proofs.KindLaws.{if_ok}
use Rattle.fact_abi.proofs.LoadLaws.{of_kind}
use Rattle.fact_value_json.specs.Printing.{data_of, data_places, entry_data}
use Rattle.fact_value_json.proofs.PrintLaws.{plain_prints, record_prints, tuple_prints, map_prints, variant_prints, option_prints, result_prints, enum_prints, flags_prints, future_prints, stream_prints, list_prints, fixed_list_prints}
use Rattle.fact_value_json.proofs.PrintLaws.{record_form, tuple_form, list_form, map_form, case_form, not_record, not_tuple, not_list, not_map, not_case}
use Rattle.fact_value_json.proofs.PrintWalkLaws.{view-Null, ItemsPrinted, PlacesPrinted, FieldsPrinted, no_item_printed, no_place_printed, no_field_printed, one_viewed, item_printed, all_items_printed, place_printed, all_places_printed, field_printed, all_fields_printed, entry_printed, no_such_case, payload_printed, no_payload_printed}
use Rattle.fact_value_json.proofs.WalkLaws.{by_shape, record_typed, tuple_typed, map_typed}
use Rattle.fact_value_json.proofs.printing.+printing.Goals as goal

pub print_member-print_value-requires : goal.print_member-print_value-requires
print_member-print_value-requires t c =
    let w = place_within c.args.types.now c.args.owner.now c.args.node.now.types c.args.place c.in-Some.ty c.requires (sym c.member_type.ensures ∙ c.in-Some.is) in
    (omega (arith, w.lower, c.decreases), w.live)

pub print_node-print_list-requires : goal.print_node-print_list-requires
print_node-print_list-requires t c =
    let (s, h, d) = c.canonical_abi-whole.ensures.shaped in
    let q = of_kind c.args.types.now c.args.ty.now c.args.node.now (is.List c.in-List.element) s c.requires.told c.in-List.is h in
    (omega (arith, c.decreases), c.requires.told.within.each 0 c.in-List.element (ap (λ xs. slice_get xs 0) q.told.0))

pub print_node-print_list-requires-in-FixedList : goal.print_node-print_list-requires-in-FixedList
print_node-print_list-requires-in-FixedList t c =
    let (s, h, d) = c.canonical_abi-whole.ensures.shaped in
    let q = of_kind c.args.types.now c.args.ty.now c.args.node.now (is.FixedList c.in-FixedList.field-0 c.in-FixedList.element) s c.requires.told c.in-FixedList.is h in
    (omega (arith, c.decreases), c.requires.told.within.each 0 c.in-FixedList.element (ap (λ xs. slice_get xs 0) q.told.0))

pub print_value-returns-in-None : goal.print_value-returns-in-None
print_value-returns-in-None t c =
    let none = subst (IsNodeOf c.args.types.now c.args.ty.now) c.in-None.is c.in_ok-node_of_type.ensures in
    if_ok _ _ c.print_plain.result (λ j e s h. plain_prints c.args.ty.now s c.args.value.now (view j) (none s h) e) c.print_plain.ensures

pub print_node-returns-in-Record : goal.print_node-returns-in-Record
print_node-returns-in-Record t c =
    if_ok _ _ c.print_record.result (λ j e. by_shape c.args.types.now c.args.ty.now c.args.node.now is.Record (λ s. IsA s c.args.value.now → view j ≡ data_of s c.args.value.now) c.requires.told c.in-Record.is (λ ms told h. record_prints ms c.args.value.now (view j) (e ms (record { of = told.1; typed = record_typed c.args.types.now c.args.ty.now ms h })))) c.print_record.ensures

pub print_node-returns-in-Tuple : goal.print_node-returns-in-Tuple
print_node-returns-in-Tuple t c =
    if_ok _ _ c.print_tuple.result (λ j e. by_shape c.args.types.now c.args.ty.now c.args.node.now is.Tuple (λ s. IsA s c.args.value.now → view j ≡ data_of s c.args.value.now) c.requires.told c.in-Tuple.is (λ ms told h. tuple_prints ms c.args.value.now (view j) (e ms (record { of = told; typed = tuple_typed c.args.types.now c.args.ty.now ms h })))) c.print_tuple.ensures

pub print_node-returns-in-Map : goal.print_node-returns-in-Map
print_node-returns-in-Map t c =
    if_ok _ _ c.print_map.result (λ j e. by_shape c.args.types.now c.args.ty.now c.args.node.now (is.Map c.in-Map.field-0 c.in-Map.field-1) (λ s. IsA s c.args.value.now → view j ≡ data_of s c.args.value.now) c.requires.told c.in-Map.is (λ ms told h. map_prints ms c.args.value.now (view j) (e ms (record { of = told.1; typed = map_typed c.args.types.now c.args.ty.now ms h })))) c.print_map.ensures

pub print_node-returns-in-Variant : goal.print_node-returns-in-Variant
print_node-returns-in-Variant t c =
    if_ok _ _ c.print_case.result (λ j e. by_shape c.args.types.now c.args.ty.now c.args.node.now is.Variant (λ s. IsA s c.args.value.now → view j ≡ data_of s c.args.value.now) c.requires.told c.in-Variant.is (λ ms told h. variant_prints ms c.args.value.now (view j) (e ms told.1 told.0))) c.print_case.ensures

pub print_node-returns-in-Option : goal.print_node-returns-in-Option
print_node-returns-in-Option t c =
    if_ok _ _ c.print_case-in-Option.result (λ j e. by_shape c.args.types.now c.args.ty.now c.args.node.now is.Option (λ s. IsA s c.args.value.now → view j ≡ data_of s c.args.value.now) c.requires.told c.in-Option.is (λ ms told h. option_prints ms c.args.value.now (view j) (e ms told.1 told.0))) c.print_case-in-Option.ensures

pub print_node-returns-in-Result : goal.print_node-returns-in-Result
print_node-returns-in-Result t c =
    if_ok _ _ c.print_case-in-Result.result (λ j e. by_shape c.args.types.now c.args.ty.now c.args.node.now is.Result (λ s. IsA s c.args.value.now → view j ≡ data_of s c.args.value.now) c.requires.told c.in-Result.is (λ ms told h. result_prints ms c.args.value.now (view j) (e ms told.1 told.0))) c.print_case-in-Result.ensures

pub print_node-returns-in-Enum : goal.print_node-returns-in-Enum
print_node-returns-in-Enum t c =
    if_ok _ _ c.print_enum.result (λ j e. by_shape c.args.types.now c.args.ty.now c.args.node.now is.Enum (λ s. IsA s c.args.value.now → view j ≡ data_of s c.args.value.now) c.requires.told c.in-Enum.is (λ ms told h. enum_prints ms c.args.value.now (view j) e)) c.print_enum.ensures

pub print_node-returns-in-Flags : goal.print_node-returns-in-Flags
print_node-returns-in-Flags t c =
    if_ok _ _ c.print_flags.result (λ j e. by_shape c.args.types.now c.args.ty.now c.args.node.now is.Flags (λ s. IsA s c.args.value.now → view j ≡ data_of s c.args.value.now) c.requires.told c.in-Flags.is (λ ms told h. flags_prints ms c.args.value.now (view j) e)) c.print_flags.ensures

pub print_node-returns-in-List : goal.print_node-returns-in-List
print_node-returns-in-List t c =
    if_ok _ _ c.print_list.result (λ j e. by_shape c.args.types.now c.args.ty.now c.args.node.now (is.List c.in-List.element) (λ s. IsA s c.args.value.now → view j ≡ data_of s c.args.value.now) c.requires.told c.in-List.is (λ ms told h. list_prints c.args.types.now c.in-List.element ms c.args.value.now (view j) (subst (λ xs. AreOf c.args.types.now xs ms) told.0 told.1) e)) c.print_list.ensures

pub print_node-returns-in-FixedList : goal.print_node-returns-in-FixedList
print_node-returns-in-FixedList t c =
    if_ok _ _ c.print_list-in-FixedList.result (λ j e. by_shape c.args.types.now c.args.ty.now c.args.node.now (is.FixedList c.in-FixedList.field-0 c.in-FixedList.element) (λ s. IsA s c.args.value.now → view j ≡ data_of s c.args.value.now) c.requires.told c.in-FixedList.is (λ ms told h. fixed_list_prints c.args.types.now c.in-FixedList.field-0 c.in-FixedList.element ms c.args.value.now (view j) (subst (λ xs. AreOf c.args.types.now xs ms) told.0 told.1) e)) c.print_list-in-FixedList.ensures

pub print_node-returns-in-Future : goal.print_node-returns-in-Future
print_node-returns-in-Future t c =
    if_ok _ _ c.print_plain.result (λ j e. by_shape c.args.types.now c.args.ty.now c.args.node.now (is.Future c.in-Future.field-0 c.in-Future.field-1) (λ s. IsA s c.args.value.now → view j ≡ data_of s c.args.value.now) c.requires.told c.in-Future.is (λ ms told h. future_prints c.in-Future.field-0 c.in-Future.field-1 ms c.args.value.now (view j) e)) c.print_plain.ensures

pub print_node-returns-in-Stream : goal.print_node-returns-in-Stream
print_node-returns-in-Stream t c =
    if_ok _ _ c.print_plain-in-Stream.result (λ j e. by_shape c.args.types.now c.args.ty.now c.args.node.now (is.Stream c.in-Stream.field-0 c.in-Stream.field-1) (λ s. IsA s c.args.value.now → view j ≡ data_of s c.args.value.now) c.requires.told c.in-Stream.is (λ ms told h. stream_prints c.in-Stream.field-0 c.in-Stream.field-1 ms c.args.value.now (view j) e)) c.print_plain-in-Stream.ensures

pub print_items-loop-value-init : goal.print_items-loop-value-init
print_items-loop-value-init t c =
    λ s h a. subst (λ l. ItemsPrinted (λ v. IsA s v) (λ v. data_of s v) c.args.values.now 0 (map view l)) (sym c.new-list.ensures.items) (no_item_printed (λ v. IsA s v) (λ v. data_of s v) c.args.values.now a)

pub print_items-loop-value-preserved : goal.print_items-loop-value-preserved
print_items-loop-value-preserved t c =
    λ s h a. item_printed (λ v. IsA s v) (λ v. data_of s v) c.args.values.now c.loop-value.value-index _ _ c.value-item.result _ (item_at _ _ _ c.loop-value-test.true c.value-item.is) (c.loop-value.invariant s h a) (c.in_ok-print_value.ensures s h) (one_viewed _ _ _ c.in_ok-push.ensures.items)

pub print_items-returns : goal.print_items-returns
print_items-returns t c =
    λ s h a. all_items_printed (λ v. IsA s v) (λ v. data_of s v) c.args.values.now c.loop-value.value-index _ (omega (arith, c.loop-value-test.false)) (c.loop-value.invariant s h a)

pub print_entries-loop-entry-init : goal.print_entries-loop-entry-init
print_entries-loop-entry-init t c =
    λ ms all a. subst (λ l. ItemsPrinted (λ e. AreMembers ms (e.0 ∷ e.1 ∷ [])) (entry_data (λ vs. data_places ms vs)) c.args.entries.now 0 (map view l)) (sym c.new-list.ensures.items) (no_item_printed (λ e. AreMembers ms (e.0 ∷ e.1 ∷ [])) (entry_data (λ vs. data_places ms vs)) c.args.entries.now a)

pub print_entries-loop-entry-preserved : goal.print_entries-loop-entry-preserved
print_entries-loop-entry-preserved t c =
    λ ms all a. item_printed (λ e. AreMembers ms (e.0 ∷ e.1 ∷ [])) (entry_data (λ vs. data_places ms vs)) c.args.entries.now c.loop-entry.entry-index _ _ c.entry-item.result _ (item_at _ _ _ c.loop-entry-test.true c.entry-item.is) (c.loop-entry.invariant ms all a) (c.in_ok-print_entry.ensures ms all) (one_viewed _ _ _ c.in_ok-push.ensures.items)

pub print_entries-returns : goal.print_entries-returns
print_entries-returns t c =
    λ ms all a. all_items_printed (λ e. AreMembers ms (e.0 ∷ e.1 ∷ [])) (entry_data (λ vs. data_places ms vs)) c.args.entries.now c.loop-entry.entry-index _ (omega (arith, c.loop-entry-test.false)) (c.loop-entry.invariant ms all a)

pub print_places-loop-place-init : goal.print_places-loop-place-init
print_places-loop-place-init t c =
    λ ms all are. subst (λ l. PlacesPrinted c.args.types.now c.args.node.now.types ms c.args.values.now 0 (map view l)) (sym c.new-list.ensures.items) (no_place_printed c.args.types.now c.args.node.now.types ms c.args.values.now all.of all.typed are)

pub print_places-loop-place-preserved : goal.print_places-loop-place-preserved
print_places-loop-place-preserved t c =
    λ ms all are. place_printed (c.loop-place.invariant ms all are) c.index-values-place.result _ _ (item_at _ _ _ c.loop-place-test.true c.index-values-place.is) c.in_ok-print_member.ensures (one_viewed _ _ _ c.in_ok-push.ensures.items)

pub print_places-returns : goal.print_places-returns
print_places-returns t c =
    λ ms all are. all_places_printed (omega (arith, c.loop-place-test.false)) (c.loop-place.invariant ms all are)

pub print_fields-loop-place-init : goal.print_fields-loop-place-init
print_fields-loop-place-init t c =
    λ ms all names are. subst (λ es. FieldsPrinted c.args.types.now c.args.node.now.types ms c.args.fields.now 0 (members_view es)) (sym c.new-members.ensures.empty) (no_field_printed c.args.types.now c.args.node.now.types ms c.args.fields.now all.of all.typed names are)

pub print_fields-loop-place-preserved : goal.print_fields-loop-place-preserved
print_fields-loop-place-preserved t c =
    λ ms all names are. field_printed (c.loop-place.invariant ms all names are) c.index-fields-place.result _ _ (item_at _ _ _ c.loop-place-test.true c.index-fields-place.is) c.in_ok-value.ensures (c.in_ok-put.ensures.ok ∙ (λ j. json.put (c.as_str.ensures j) (view c.in_ok-value.value) (members_view c.loop-place.members.entries)))

pub print_fields-returns : goal.print_fields-returns
print_fields-returns t c =
    λ ms all names are. all_fields_printed (omega (arith, c.loop-place-test.false)) (c.loop-place.invariant ms all names are)

pub print_record-returns : goal.print_record-returns
print_record-returns t c =
    λ ms all is. view-Object c.in_ok-members.members ∙ record_form ms c.args.value.now c.as_slice.result.now (members_view c.in_ok-members.members.entries) (c.in-Record.is ∙ ap (λ l. value.Record l) (sym c.as_slice.ensures)) (c.in_ok-members.ensures ms all) is

pub print_tuple-returns : goal.print_tuple-returns
print_tuple-returns t c =
    λ ms all is. view-Array c.in_ok-list.list ∙ tuple_form ms c.args.value.now c.as_slice.result.now (map view c.in_ok-list.list.items) (c.in-Tuple.is ∙ ap (λ l. value.Tuple l) (sym c.as_slice.ensures)) (c.in_ok-list.ensures ms all) is

pub print_list-returns : goal.print_list-returns
print_list-returns t c =
    λ s h is. view-Array c.in_ok-list.list ∙ list_form s c.args.value.now c.as_slice.result.now (map view c.in_ok-list.list.items) (c.in-List.is ∙ ap (λ l. value.List l) (sym c.as_slice.ensures)) (c.in_ok-list.ensures s h) is

pub print_map-returns : goal.print_map-returns
print_map-returns t c =
    λ ms all is. view-Array c.in_ok-list.list ∙ map_form ms c.args.value.now c.as_slice.result.now (map view c.in_ok-list.list.items) (c.in-Map.is ∙ ap (λ l. value.Map l) (sym c.as_slice.ensures)) (c.in_ok-list.ensures ms all) is

pub print_record-returns-in_default : goal.print_record-returns-in_default
print_record-returns-in_default t c =
    λ ms all is. absurd (not_record ms c.args.value.now c.in_default.not-Record is)

pub print_tuple-returns-in_default : goal.print_tuple-returns-in_default
print_tuple-returns-in_default t c =
    λ ms all is. absurd (not_tuple (λ vs. AreMembers ms vs) c.args.value.now c.in_default.not-Tuple is)

pub print_list-returns-in_default : goal.print_list-returns-in_default
print_list-returns-in_default t c =
    λ s h is. absurd (not_list (λ v. IsA s v) c.args.value.now c.in_default.not-List is)

pub print_map-returns-in_default : goal.print_map-returns-in_default
print_map-returns-in_default t c =
    λ ms all is. absurd (not_map (λ vs. AreMembers ms vs) c.args.value.now c.in_default.not-Map is)

pub print_case-returns-in_default : goal.print_case-returns-in_default
print_case-returns-in_default t c =
    λ ms of names is. absurd (not_case (λ n vs. HasCase ms n vs) c.args.value.now c.in_default.not-Case is)

pub print_case-returns : goal.print_case-returns
print_case-returns t c =
    let one : members_view c.put.new.map.entries ≡ json.member c.in-Case.name (view c.in_ok-inner.inner) json.no_members =
    c.in_ok-put.ensures.ok ∙ (λ j. json.put (c.as_str.ensures j) (view c.in_ok-inner.inner) (members_view (c.new-members.ensures.empty j))) in
    λ ms of names is. view-Object c.put.new.map ∙ ap (λ (m : json.Members). json.object m) one ∙ case_form ms c.args.value.now c.in-Case.name c.in-Case.payload (view c.in_ok-inner.inner) c.in-Case.is (c.in_ok-inner.ensures ms of names) is

pub print_entry-returns : goal.print_entry-returns
print_entry-returns t c =
    let pair : c.push-2.new.self.items ≡ c.in_ok-print_member.field-0 ∷ c.in_ok-print_member-2.field-0 ∷ [] =
    c.in_ok-push-2.ensures.items ∙ ap (λ (l : List Json). l ++ c.in_ok-print_member-2.field-0 ∷ []) (c.in_ok-push.ensures.items ∙ ap (λ (l : List Json). l ++ c.in_ok-print_member.field-0 ∷ []) c.new-pair.ensures.items) in
    λ ms all are. view-Array c.push-2.new.self ∙ ap (λ (l : List Json). json.array (items_of (map view l))) pair ∙ entry_printed c.args.types.now c.args.node.now ms c.args.key.now c.args.value.now (view c.in_ok-print_member.field-0) (view c.in_ok-print_member-2.field-0) all are c.in_ok-print_member.ensures c.in_ok-print_member-2.ensures

pub print_payload-returns-in_default : goal.print_payload-returns-in_default
print_payload-returns-in_default t c =
    λ ms of names h. absurd (no_such_case ms c.args.name.now c.args.payload.now (subst (λ (ns : List (List ℕ)). IsNowhere c.args.name.now ns) names (subst (IsIndexOf c.args.name.now c.args.node.now.names) c.in_default.is c.index_of_name.ensures)) h)

pub print_payload-returns-in-None : goal.print_payload-returns-in-None
print_payload-returns-in-None t c =
    λ ms of names h. view-Null ∙ no_payload_printed c.args.types.now c.args.node.now.types ms c.in-Some.place c.args.name.now c.args.payload.now of (subst (λ (ns : List (List ℕ)). IsFirstNamed c.args.name.now ns c.in-Some.place) names (subst (IsIndexOf c.args.name.now c.args.node.now.names) c.in-Some.is c.index_of_name.ensures)) h (sym c.get.ensures.value ∙ ap option_copied c.in-None.is)

pub print_payload-returns-in-Some-get : goal.print_payload-returns-in-Some-get
print_payload-returns-in-Some-get t c =
    if_ok _ _ c.print_member.result (λ j e ms of names h. payload_printed c.args.types.now c.args.node.now.types ms c.in-Some.place c.args.name.now c.args.payload.now c.in-Some-get.value.now (view j) of (subst (λ (ns : List (List ℕ)). IsFirstNamed c.args.name.now ns c.in-Some.place) names (subst (IsIndexOf c.args.name.now c.args.node.now.names) c.in-Some.is c.index_of_name.ensures)) h (sym c.get.ensures.value ∙ ap option_copied c.in-Some-get.is) e) c.print_member.ensures
