use Rattle.std.proofs.Common.{◌≡◌, ℕ, ◌<◌, List, Some, Ok, Err, ap, sym, ◌∙◌, length, subst, arith}
use Rattle.std.specs.Prelude.{slice_get}
use Rattle.std.proofs.lemmas.Result.{err_from_is_err_and}
use Rattle.serde_json.specs.View.{view, items_view}
use Rattle.fact_values.specs.declared.value.Value.TheVariants as value
use Rattle.fact_values.specs.Places.{typed_names}
use Rattle.fact_abi.specs.declared.nodes.NodeKind.TheVariants as is
use Rattle.fact_abi.specs.Finding.{IsFirstNamed, IsIndexOf, IsNowhere}
use Rattle.fact_abi.specs.Nodes.{IsNodeOf, AreOf}
use Rattle.fact_abi.proofs.BelongLaws.{item_at, place_within}
use Rattle.fact_abi.proofs.LoadLaws.{of_kind}
use Rattle.fact_plan.specs.Fault.{Gives, place_step, ◌>>=◌}
use Rattle.fact_plan.specs.Parts.{known_keys, required_keys}
use Rattle.fact_value_json.specs.Reading.{read, read_fields, read_places, entry_in, enum_in, flags_in, places_in}
use Rattle.fact_value_json.proofs.NodeLaws.{record_reads, tuple_reads, variant_reads, option_reads, result_reads, enum_reads, flags_reads, list_reads, fixed_list_reads, map_reads, future_reads, stream_reads}
use Rattle.fact_value_json.proofs.ReadLaws.{list_read, list_failed, no_list, places_by, no_places, no_known, no_required, no_fields, fields_read}
use Rattle.fact_value_json.proofs.StepLaws.{ItemsRead, no_item_read, item_read, item_failed, all_items_read, given_at, same_failed}
use Rattle.fact_value_json.proofs.WalkLaws.{plain_reads, by_shape, record_typed, tuple_typed, map_typed, typed_names_are, typed_count, PlacesRead, no_place_read, place_read, place_failed, all_places_read, FieldsRead, no_field_read, field_read, field_failed, all_fields_read, case_at, case_unknown, case_failed, case_read}
use Rattle.fact_value_json.proofs.reading.+reading.Goals as goal

pub read_member-read_value-requires : goal.read_member-read_value-requires
read_member-read_value-requires t c =
    let w = place_within c.args.types.now c.args.owner.now c.args.node.now.types c.args.place c.in-Some.ty c.requires (sym c.member_type.ensures ∙ c.in-Some.is) in
    (omega (arith, w.lower, c.decreases), w.live)

pub read_node-returns-in-Record : goal.read_node-returns-in-Record
read_node-returns-in-Record t c =
    by_shape c.args.types.now c.args.ty.now c.args.node.now is.Record (λ s. Gives (read s (view c.args.json.now)) c.read_record.result) c.requires.told c.in-Record.is (λ ms told h. record_reads ms _ _ (c.read_record.ensures ms (record { of = told.1; typed = record_typed c.args.types.now c.args.ty.now ms h }) (told.0 ∙ typed_names_are ms (record_typed c.args.types.now c.args.ty.now ms h))))

pub read_node-returns-in-Tuple : goal.read_node-returns-in-Tuple
read_node-returns-in-Tuple t c =
    by_shape c.args.types.now c.args.ty.now c.args.node.now is.Tuple (λ s. Gives (read s (view c.args.json.now)) c.read_tuple.result) c.requires.told c.in-Tuple.is (λ ms told h. tuple_reads ms _ _ (c.read_tuple.ensures ms (record { of = told; typed = tuple_typed c.args.types.now c.args.ty.now ms h })))

pub read_node-returns-in-Variant : goal.read_node-returns-in-Variant
read_node-returns-in-Variant t c =
    by_shape c.args.types.now c.args.ty.now c.args.node.now is.Variant (λ s. Gives (read s (view c.args.json.now)) c.read_case.result) c.requires.told c.in-Variant.is (λ ms told h. variant_reads ms _ _ (c.read_case.ensures ms told.1 told.0))

pub read_node-returns-in-Option : goal.read_node-returns-in-Option
read_node-returns-in-Option t c =
    by_shape c.args.types.now c.args.ty.now c.args.node.now is.Option (λ s. Gives (read s (view c.args.json.now)) c.read_case-in-Option.result) c.requires.told c.in-Option.is (λ ms told h. option_reads ms _ _ (c.read_case-in-Option.ensures ms told.1 told.0))

pub read_node-returns-in-Result : goal.read_node-returns-in-Result
read_node-returns-in-Result t c =
    by_shape c.args.types.now c.args.ty.now c.args.node.now is.Result (λ s. Gives (read s (view c.args.json.now)) c.read_case-in-Result.result) c.requires.told c.in-Result.is (λ ms told h. result_reads ms _ _ (c.read_case-in-Result.ensures ms told.1 told.0))

pub read_node-returns-in-Enum : goal.read_node-returns-in-Enum
read_node-returns-in-Enum t c =
    by_shape c.args.types.now c.args.ty.now c.args.node.now is.Enum (λ s. Gives (read s (view c.args.json.now)) c.read_enum.result) c.requires.told c.in-Enum.is (λ ms told h. enum_reads ms _ _ (subst (λ names. Gives (enum_in names (view c.args.json.now)) c.read_enum.result) told.0 c.read_enum.ensures))

pub read_node-returns-in-Flags : goal.read_node-returns-in-Flags
read_node-returns-in-Flags t c =
    by_shape c.args.types.now c.args.ty.now c.args.node.now is.Flags (λ s. Gives (read s (view c.args.json.now)) c.read_flags.result) c.requires.told c.in-Flags.is (λ ms told h. flags_reads ms _ _ (subst (λ names. Gives (flags_in names (view c.args.json.now)) c.read_flags.result) told c.read_flags.ensures))

pub read_node-returns-in-List : goal.read_node-returns-in-List
read_node-returns-in-List t c =
    by_shape c.args.types.now c.args.ty.now c.args.node.now (is.List c.in-List.element) (λ s. Gives (read s (view c.args.json.now)) c.read_list.result) c.requires.told c.in-List.is (λ ms told h. list_reads c.args.types.now c.in-List.element ms _ _ (subst (λ xs. AreOf c.args.types.now xs ms) told.0 told.1) c.read_list.ensures)

pub read_node-returns-in-FixedList : goal.read_node-returns-in-FixedList
read_node-returns-in-FixedList t c =
    by_shape c.args.types.now c.args.ty.now c.args.node.now (is.FixedList c.in-FixedList.count c.in-FixedList.element) (λ s. Gives (read s (view c.args.json.now)) c.read_fixed_list.result) c.requires.told c.in-FixedList.is (λ ms told h. fixed_list_reads c.args.types.now c.in-FixedList.count c.in-FixedList.element ms _ _ (subst (λ xs. AreOf c.args.types.now xs ms) told.0 told.1) c.read_fixed_list.ensures)

pub read_node-returns-in-Map : goal.read_node-returns-in-Map
read_node-returns-in-Map t c =
    by_shape c.args.types.now c.args.ty.now c.args.node.now (is.Map c.in-Map.field-0 c.in-Map.field-1) (λ s. Gives (read s (view c.args.json.now)) c.read_map.result) c.requires.told c.in-Map.is (λ ms told h. map_reads ms _ _ (c.read_map.ensures ms (record { of = told.1; typed = map_typed c.args.types.now c.args.ty.now ms h })))

pub read_node-returns-in-Future : goal.read_node-returns-in-Future
read_node-returns-in-Future t c =
    by_shape c.args.types.now c.args.ty.now c.args.node.now (is.Future c.in-Future.table c.in-Future.field-1) (λ s. Gives (read s (view c.args.json.now)) c.read_handle.result) c.requires.told c.in-Future.is (λ ms told h. future_reads c.in-Future.table c.in-Future.field-1 ms _ _ c.read_handle.ensures)

pub read_node-returns-in-Stream : goal.read_node-returns-in-Stream
read_node-returns-in-Stream t c =
    by_shape c.args.types.now c.args.ty.now c.args.node.now (is.Stream c.in-Stream.table c.in-Stream.field-1) (λ s. Gives (read s (view c.args.json.now)) c.read_handle-in-Stream.result) c.requires.told c.in-Stream.is (λ ms told h. stream_reads c.in-Stream.table c.in-Stream.field-1 ms _ _ c.read_handle-in-Stream.ensures)

pub read_payload-read_value-requires : goal.read_payload-read_value-requires
read_payload-read_value-requires t c =
    let w = place_within c.args.types.now c.args.owner.now c.args.node.now.types c.args.place c.in-Some.ty c.requires (sym c.member_type.ensures ∙ c.in-Some.is) in
    (omega (arith, w.lower, c.decreases), w.live)

pub read_value-returns-in-None : goal.read_value-returns-in-None
read_value-returns-in-None t c =
    let none = subst (IsNodeOf c.args.types.now c.args.ty.now) c.in-None.is c.in_ok-node_of_type.ensures in
    λ s h. plain_reads c.args.ty.now s _ _ (none s h) c.read_plain.ensures

pub read_node-read_list-requires : goal.read_node-read_list-requires
read_node-read_list-requires t c =
    let (s, h, d) = c.canonical_abi-whole.ensures.shaped in
    let q = of_kind c.args.types.now c.args.ty.now c.args.node.now (is.List c.in-List.element) s c.requires.told c.in-List.is h in
    (omega (arith, c.decreases), c.requires.told.within.each 0 c.in-List.element (ap (λ xs. slice_get xs 0) q.told.0))

pub read_node-read_fixed_list-requires : goal.read_node-read_fixed_list-requires
read_node-read_fixed_list-requires t c =
    let (s, h, d) = c.canonical_abi-whole.ensures.shaped in
    let q = of_kind c.args.types.now c.args.ty.now c.args.node.now (is.FixedList c.in-FixedList.count c.in-FixedList.element) s c.requires.told c.in-FixedList.is h in
    (omega (arith, c.decreases), c.requires.told.within.each 0 c.in-FixedList.element (ap (λ xs. slice_get xs 0) q.told.0))

pub read_items-loop-place-init : goal.read_items-loop-place-init
read_items-loop-place-init t c =
    λ s h. subst (λ xs. ItemsRead (λ d. read s d) c.args.list.now 0 xs) (sym c.new-values.ensures) (no_item_read (λ d. read s d) c.args.list.now)

pub read_items-returns : goal.read_items-returns
read_items-returns t c =
    λ s h. all_items_read (λ d. read s d) c.args.list.now c.loop-place.place c.loop-place.values (omega (arith, c.loop-place-test.false)) (c.loop-place.invariant s h)

pub read_map-loop-place-init : goal.read_map-loop-place-init
read_map-loop-place-init t c =
    λ ms all. subst (λ xs. ItemsRead (entry_in (length (typed_names ms)) (λ i ds. read_places ms i ds)) c.in_ok-list.list.now 0 xs) (sym c.new-entries.ensures) (no_item_read (entry_in (length (typed_names ms)) (λ i ds. read_places ms i ds)) c.in_ok-list.list.now)

pub read_fields-loop-place-init : goal.read_fields-loop-place-init
read_fields-loop-place-init t c =
    λ ms all n. subst (λ xs. FieldsRead c.args.types.now c.args.node.now ms (view c.args.json.now) 0 xs) (sym c.new-values.ensures) (no_field_read c.args.types.now c.args.node.now ms (view c.args.json.now) all n)

pub read_places-loop-place-init : goal.read_places-loop-place-init
read_places-loop-place-init t c =
    λ ms all. subst (λ xs. PlacesRead c.args.types.now c.args.node.now.types ms c.in_ok-list.list.now 0 xs) (sym c.new-values.ensures) (no_place_read c.args.types.now c.args.node.now.types ms c.in_ok-list.list.now all.of all.typed)

pub read_items-loop-place-preserved : goal.read_items-loop-place-preserved
read_items-loop-place-preserved t c =
    λ s h. item_read (λ d. read s d) c.args.list.now c.loop-place.place c.loop-place.values c.push.new.self c.index-list-place.result c.in_ok-read_item.field-0 (item_at _ _ _ c.loop-place-test.true c.index-list-place.is) (c.loop-place.invariant s h) (c.in_ok-read_item.ensures s h) c.in_ok-push.ensures.ok

pub read_items-returns-in_err-read_item : goal.read_items-returns-in_err-read_item
read_items-returns-in_err-read_item t c =
    let p = err_from_is_err_and c.from_residual.result c.from_residual.ensures.1 in
    λ s h. rw (p.1, p.2) (item_failed (λ d. read s d) c.args.list.now c.loop-place.place c.loop-place.values c.index-list-place.result c.in_err-read_item.field-0.0 (item_at _ _ _ c.loop-place-test.true c.index-list-place.is) (c.loop-place.invariant s h) (c.in_err-read_item.ensures s h))

pub read_list-returns-in_err-list : goal.read_list-returns-in_err-list
read_list-returns-in_err-list t c =
    let p = err_from_is_err_and c.from_residual.result c.from_residual.ensures.1 in
    λ s h. rw (p.1, p.2) (no_list (λ d. read s d) (view c.args.json.now) (λ vs. Ok (value.List vs)) c.in_err-list.field-0.0 c.in_err-list.ensures)

pub read_list-returns-in_err-values : goal.read_list-returns-in_err-values
read_list-returns-in_err-values t c =
    let p = err_from_is_err_and c.from_residual-in_err-values.result c.from_residual-in_err-values.ensures.1 in
    λ s h. rw (p.1, p.2) (list_failed (λ d. read s d) (view c.args.json.now) (items_view c.in_ok-list.list.now) (λ vs. Ok (value.List vs)) c.in_err-values.field-0.0 c.in_ok-list.ensures (c.in_err-values.ensures s h))

pub read_list-returns : goal.read_list-returns
read_list-returns t c =
    λ s h. ap (λ r. r >>= (λ vs. Ok (value.List vs))) (list_read (λ d. read s d) (view c.args.json.now) (items_view c.in_ok-list.list.now) c.in_ok-values.values c.in_ok-list.ensures (c.in_ok-values.ensures s h))

pub read_map-loop-place-preserved : goal.read_map-loop-place-preserved
read_map-loop-place-preserved t c =
    λ ms all. item_read (entry_in (length (typed_names ms)) (λ i ds. read_places ms i ds)) c.in_ok-list.list.now c.loop-place.place c.loop-place.entries c.push.new.self c.index-list-place.result c.in_ok-at_place.field-0 (item_at _ _ _ c.loop-place-test.true c.index-list-place.is) (c.loop-place.invariant ms all) (given_at (place_step c.loop-place.place) ((entry_in (length (typed_names ms)) (λ i ds. read_places ms i ds)) (view c.index-list-place.result)) c.read_entry-entry.result (Ok c.in_ok-at_place.field-0) (c.read_entry-entry.ensures ms all) c.in_ok-at_place.ensures) c.in_ok-push.ensures.ok

pub read_map-returns-in_err-list : goal.read_map-returns-in_err-list
read_map-returns-in_err-list t c =
    let p = err_from_is_err_and c.from_residual.result c.from_residual.ensures.1 in
    λ ms all. rw (p.1, p.2) (no_list (entry_in (length (typed_names ms)) (λ i ds. read_places ms i ds)) (view c.args.json.now) (λ es. Ok (value.Map es)) c.in_err-list.field-0.0 c.in_err-list.ensures)

pub read_map-returns-in_err-at_place : goal.read_map-returns-in_err-at_place
read_map-returns-in_err-at_place t c =
    let p = err_from_is_err_and c.from_residual-in_err-at_place.result c.from_residual-in_err-at_place.ensures.1 in
    λ ms all. rw (p.1, p.2) (list_failed (entry_in (length (typed_names ms)) (λ i ds. read_places ms i ds)) (view c.args.json.now) (items_view c.in_ok-list.list.now) (λ es. Ok (value.Map es)) c.in_err-at_place.field-0.0 c.in_ok-list.ensures (item_failed (entry_in (length (typed_names ms)) (λ i ds. read_places ms i ds)) c.in_ok-list.list.now c.loop-place.place c.loop-place.entries c.index-list-place.result c.in_err-at_place.field-0.0 (item_at _ _ _ c.loop-place-test.true c.index-list-place.is) (c.loop-place.invariant ms all) (given_at (place_step c.loop-place.place) ((entry_in (length (typed_names ms)) (λ i ds. read_places ms i ds)) (view c.index-list-place.result)) c.read_entry-entry.result (Err c.in_err-at_place.field-0.0) (c.read_entry-entry.ensures ms all) c.in_err-at_place.ensures)))

pub read_map-returns : goal.read_map-returns
read_map-returns t c =
    λ ms all. ap (λ r. r >>= (λ es. Ok (value.Map es))) (list_read (entry_in (length (typed_names ms)) (λ i ds. read_places ms i ds)) (view c.args.json.now) (items_view c.in_ok-list.list.now) c.loop-place.entries c.in_ok-list.ensures (all_items_read (entry_in (length (typed_names ms)) (λ i ds. read_places ms i ds)) c.in_ok-list.list.now c.loop-place.place c.loop-place.entries (omega (arith, c.loop-place-test.false)) (c.loop-place.invariant ms all)))

pub read_fields-loop-place-preserved : goal.read_fields-loop-place-preserved
read_fields-loop-place-preserved t c =
    λ ms all n. field_read (c.loop-place.invariant ms all n) (subst (λ (l : List (List ℕ)). c.loop-place.place < length l) c.as_slice-name-items.ensures c.loop-place-test.true) c.name-item.result (subst (λ (l : List (List ℕ)). slice_get l c.loop-place.place ≡ Some c.name-item.result) c.as_slice-name-items.ensures (item_at _ _ _ c.loop-place-test.true c.name-item.is)) c.read_field.result c.in_ok-read_field.field-0 c.push.new.self c.read_field.ensures c.in_ok-read_field.was c.in_ok-push.ensures.ok

pub read_fields-returns : goal.read_fields-returns
read_fields-returns t c =
    λ ms all n. all_fields_read (omega (arith, c.loop-place-test.false, ap (λ (l : List (List ℕ)). length l) c.as_slice-name-items.ensures)) (c.loop-place.invariant ms all n)

pub read_fields-returns-in_err-read_field : goal.read_fields-returns-in_err-read_field
read_fields-returns-in_err-read_field t c =
    let p = err_from_is_err_and c.from_residual.result c.from_residual.ensures.1 in
    λ ms all n. rw (p.1, p.2) (field_failed (c.loop-place.invariant ms all n) (subst (λ (l : List (List ℕ)). c.loop-place.place < length l) c.as_slice-name-items.ensures c.loop-place-test.true) c.name-item.result (subst (λ (l : List (List ℕ)). slice_get l c.loop-place.place ≡ Some c.name-item.result) c.as_slice-name-items.ensures (item_at _ _ _ c.loop-place-test.true c.name-item.is)) c.read_field.result c.in_err-read_field.field-0.0 c.read_field.ensures c.in_err-read_field.was)

pub read_places-loop-place-preserved : goal.read_places-loop-place-preserved
read_places-loop-place-preserved t c =
    λ ms all. place_read (c.loop-place.invariant ms all) (omega (arith, c.loop-place-test.true, c.in_ok-list.ensures.count, c.len.ensures)) c.index-list-place.result (item_at _ _ _ c.loop-place-test.true c.index-list-place.is) c.read_member-value.result c.at_place.result c.in_ok-at_place.field-0 c.push.new.self c.read_member-value.ensures c.at_place.ensures c.in_ok-at_place.was c.in_ok-push.ensures.ok

pub read_places-returns-in_err-list : goal.read_places-returns-in_err-list
read_places-returns-in_err-list t c =
    let p = err_from_is_err_and c.from_residual.result c.from_residual.ensures.1 in
    λ ms all. rw (p.1, p.2) (no_places (length (typed_names ms)) c.len.result (view c.args.json.now) (λ i ds. read_places ms i ds) c.in_err-list.field-0.0 (sym (typed_count c.args.types.now c.args.node.now.types ms all.of all.typed) ∙ sym c.len.ensures) c.in_err-list.ensures.items)

pub read_places-returns-in_err-at_place : goal.read_places-returns-in_err-at_place
read_places-returns-in_err-at_place t c =
    let p = err_from_is_err_and c.from_residual-in_err-at_place.result c.from_residual-in_err-at_place.ensures.1 in
    λ ms all. rw (p.1, p.2) (same_failed (places_in (length (typed_names ms)) (λ i ds. read_places ms i ds) (view c.args.json.now)) (read_places ms 0 (items_view c.in_ok-list.list.now)) c.in_err-at_place.field-0.0 (places_by (length (typed_names ms)) c.len.result (view c.args.json.now) (items_view c.in_ok-list.list.now) (λ i ds. read_places ms i ds) (sym (typed_count c.args.types.now c.args.node.now.types ms all.of all.typed) ∙ sym c.len.ensures) c.in_ok-list.ensures.items) (place_failed (c.loop-place.invariant ms all) (omega (arith, c.loop-place-test.true, c.in_ok-list.ensures.count, c.len.ensures)) c.index-list-place.result (item_at _ _ _ c.loop-place-test.true c.index-list-place.is) c.read_member-value.result c.at_place.result c.in_err-at_place.field-0.0 c.read_member-value.ensures c.at_place.ensures c.in_err-at_place.was))

pub read_places-returns : goal.read_places-returns
read_places-returns t c =
    λ ms all. places_by (length (typed_names ms)) c.len.result (view c.args.json.now) (items_view c.in_ok-list.list.now) (λ i ds. read_places ms i ds) (sym (typed_count c.args.types.now c.args.node.now.types ms all.of all.typed) ∙ sym c.len.ensures) c.in_ok-list.ensures.items ∙ all_places_read (omega (arith, c.loop-place-test.false, c.in_ok-list.ensures.count, c.len.ensures)) (c.loop-place.invariant ms all)

pub read_choice-returns-in_default : goal.read_choice-returns-in_default
read_choice-returns-in_default t c =
    λ ms of names. rw c.in_ok-unknown_key.ensures (case_unknown ms c.args.name.now (view c.args.json.now) (subst (λ (ns : List (List ℕ)). IsNowhere c.args.name.now ns) names (subst (IsIndexOf c.args.name.now c.args.node.now.names) c.in_default.is c.index_of_str.ensures)))

pub read_choice-returns-in_err-at_key : goal.read_choice-returns-in_err-at_key
read_choice-returns-in_err-at_key t c =
    let p = err_from_is_err_and c.from_residual-in_err-at_key.result c.from_residual-in_err-at_key.ensures.1 in
    λ ms of names. rw (p.1, p.2) (case_failed (case_at c.args.types.now c.args.node.now.types ms c.in-Some.place c.args.name.now (view c.args.json.now) of (subst (λ (ns : List (List ℕ)). IsFirstNamed c.args.name.now ns c.in-Some.place) names (subst (IsIndexOf c.args.name.now c.args.node.now.names) c.in-Some.is c.index_of_str.ensures))) c.read_payload-payload.result c.in_err-at_key.field-0.0 c.read_payload-payload.ensures c.in_err-at_key.ensures)

pub read_choice-returns : goal.read_choice-returns
read_choice-returns t c =
    λ ms of names. case_read (case_at c.args.types.now c.args.node.now.types ms c.in-Some.place c.args.name.now (view c.args.json.now) of (subst (λ (ns : List (List ℕ)). IsFirstNamed c.args.name.now ns c.in-Some.place) names (subst (IsIndexOf c.args.name.now c.args.node.now.names) c.in-Some.is c.index_of_str.ensures))) c.read_payload-payload.result c.in_ok-at_key.field-0 c.in_ok-from_str.field-0 c.read_payload-payload.ensures c.in_ok-at_key.ensures c.in_ok-from_str.ensures

pub read_record-returns-in_err-check_known : goal.read_record-returns-in_err-check_known
read_record-returns-in_err-check_known t c =
    let p = err_from_is_err_and c.from_residual.result c.from_residual.ensures.1 in
    λ ms all n. rw (p.1, p.2) (no_known c.as_slice.result.now (typed_names ms) (λ e. read_fields ms e) (view c.args.json.now) c.in_err-check_known.field-0.0 (c.as_slice.ensures ∙ n ∙ sym (typed_names_are ms all.typed)) c.in_err-check_known.ensures)

pub read_record-returns-in_err-check_required : goal.read_record-returns-in_err-check_required
read_record-returns-in_err-check_required t c =
    let p = err_from_is_err_and c.from_residual-in_err-check_required.result c.from_residual-in_err-check_required.ensures.1 in
    λ ms all n. rw (p.1, p.2) (no_required c.as_slice-2.result.now (typed_names ms) (λ e. read_fields ms e) (view c.args.json.now) c.in_ok-check_known.field-0 c.in_err-check_required.field-0.0 (c.as_slice-2.ensures ∙ n ∙ sym (typed_names_are ms all.typed)) (ap (λ (l : List (List ℕ)). known_keys l (view c.args.json.now)) (sym (c.as_slice.ensures ∙ n ∙ sym (typed_names_are ms all.typed))) ∙ c.in_ok-check_known.ensures) c.in_err-check_required.ensures)

pub read_record-returns-in_err-values : goal.read_record-returns-in_err-values
read_record-returns-in_err-values t c =
    let p = err_from_is_err_and c.from_residual-in_err-values.result c.from_residual-in_err-values.ensures.1 in
    λ ms all n. rw (p.1, p.2) (no_fields (typed_names ms) (typed_names ms) (λ e. read_fields ms e) (view c.args.json.now) c.in_ok-check_known.field-0 c.in_ok-check_required.field-0 c.in_err-values.field-0.0 (ap (λ (l : List (List ℕ)). known_keys l (view c.args.json.now)) (sym (c.as_slice.ensures ∙ n ∙ sym (typed_names_are ms all.typed))) ∙ c.in_ok-check_known.ensures) (ap (λ (l : List (List ℕ)). required_keys l (view c.args.json.now)) (sym (c.as_slice-2.ensures ∙ n ∙ sym (typed_names_are ms all.typed))) ∙ c.in_ok-check_required.ensures) (c.in_err-values.ensures ms all n))

pub read_record-returns : goal.read_record-returns
read_record-returns t c =
    λ ms all n. fields_read c.args.node.now.names (typed_names ms) (λ e. read_fields ms e) (view c.args.json.now) c.in_ok-check_known.field-0 c.in_ok-check_required.field-0 c.in_ok-values.values c.in_ok-named.field-0 (n ∙ sym (typed_names_are ms all.typed)) (ap (λ (l : List (List ℕ)). known_keys l (view c.args.json.now)) (sym (c.as_slice.ensures ∙ n ∙ sym (typed_names_are ms all.typed))) ∙ c.in_ok-check_known.ensures) (ap (λ (l : List (List ℕ)). required_keys l (view c.args.json.now)) (sym (c.as_slice-2.ensures ∙ n ∙ sym (typed_names_are ms all.typed))) ∙ c.in_ok-check_required.ensures) (c.in_ok-values.ensures ms all n) c.in_ok-named.ensures
