use Rattle.std.proofs.Common.{ℕ, Vec, Global, ◌≡◌, ◌∙◌, ◌+◌, ◌*◌, ◌%◌, ◌≤◌, ◌<◌, ◌^◌, ap, sym, subst, refl, arith, length, map, List, [], ◌∷◌, Some, None}
use Rattle.std.specs.Prelude.{slice_get, sum_by, true, false}
use Rattle.fact_types.specs.Agrees.{chosen, names_of}
use Rattle.fact_types.specs.Shapes.{Shape, ends_of, k_variant, k_enum, k_option, k_result, k_fixed, k_list, k_map, s_node}
use Rattle.fact_abi.specs.declared.nodes.NodeKind.TheVariants as is
use Rattle.fact_abi.specs.Nodes.{AreOf, IsNodeOf, kind_of}
use Rattle.fact_abi.proofs.KindLaws.{if_ok}
use Rattle.fact_abi.proofs.LoadLaws.{by_kind, of_kind}
use Rattle.fact_values.specs.declared.value.HandleKind.TheVariants.{Future, Stream}
use Rattle.fact_values.specs.IsA.{IsA, AreMembers}
use Rattle.fact_values.proofs.FormedLaws.{formed}
use Rattle.fact_lowering.specs.Lowered.{IsPut, IsStored, IsWritten, LacksRoom, ReadsEach, ReadsEntries, own_room}
use Rattle.fact_lowering.specs.Lowerings.{own_entries}
use Rattle.fact_lowering.specs.Storings.{AreElements, AreEntries, AreLiveMembers, AreStorable, IsBehindPair, IsNodeStorable, PutOr, height_over, pair_of}
use Rattle.fact_lowering.proofs.StoreKinds.{MembersOr, record_of, tuple_of, fixed_of, list_of, map_of, fields_storable, members_storable, record_stored, tuple_stored, fixed_storable, fixed_stored, list_lacks, elements_storable, elements_lack, list_put, map_lacks, entries_storable, entries_lack, map_put}
use Rattle.fact_lowering.proofs.StoreLeaves.{none_is, taken}
use Rattle.fact_lowering.proofs.StoreNodes.{case_of, flags_of, future_of, stream_of, plain_storable, node_storable, node_answers, case_storable, flags_storable, future_storable, stream_storable, future_stored, stream_stored, put_is, not_put, behind_shape, pair_room, value_stored}
use Rattle.fact_types.specs.Tables.{HasShape}
use Rattle.fact_lowering.proofs.Agreeing.{written_also}
use Rattle.std.proofs.lemmas.Option.{slice_get-get_or}
use Rattle.fact_abi.proofs.BelongLaws.{item_at, place_found, slice_mapped, slice_missing}
use Rattle.fact_values.specs.Places.{extent_on, width_of}
use Rattle.fact_lowering.proofs.StoreSteps.{all_below, all_live, member_below, chosen_true, chosen_false, past_none}
use Rattle.fact_lowering.proofs.StoreEntries.{at_key, at_item, entry_done}
use Rattle.fact_lowering.proofs.StoreItems.{element_storable, element_fits, stride_fits, entry_storable, entry_fits, entry_is, entry_ends, same_ends}
use Rattle.fact_lowering.proofs.StoreWalks.{Storing, storing_here, storing_on, storing_past, here_fits, here_missing, storable_here, lacks_here, storing_starts, all_stored, element_reads, element_forms, entry_reads, entry_forms, entry_room, entry_read, items_start, items_lack, items_on, items_end}
use Rattle.fact_lowering.proofs.StoredCases.{variant_stored}
use Rattle.fact_lowering.proofs.StoreCaseSteps.{name_there, number_fits, bare_done, payload_given, payload_fits, payload_done}
use Rattle.fact_types.specs.Layout.{aligned, discriminant_size, discriminant_bytes}
use Rattle.fact_types.proofs.ShapeLaws.{one_shape}
use Rattle.fact_machine.specs.World.{with_number}
use Rattle.fact_lowering.proofs.storing.+storing.Goals as goal
use Rattle.fact_lowering.proofs.storing.+storing.Goals.{store_members-in-Some+in-Some-get+in_ok-store_value+else-not-branch, store_members-in_default, store_fields-in-Some+in-Some-get+in_ok-store_value+else-not-branch, store_fields-in_default}

pub store_value-store_plain-requires : goal.store_value-store_plain-requires
store_value-store_plain-requires t c =
    let none = subst (IsNodeOf c.args.to.now.types.now c.args.ty.now) c.in-None.is c.in_ok-node_of_type.ensures in
    let q = plain_storable c.args.to.now.types.now c.args.to.now.side c.args.ty.now c.args.value.now c.args.address c.args.store.now.cursor c.args.store.now.bytes.items none c.requires.storable in
    record { value = q.0; room = q.1 }

pub store_value-returns-in-None : goal.store_value-returns-in-None
store_value-returns-in-None t c =
    let none = subst (IsNodeOf c.args.to.now.types.now c.args.ty.now) c.in-None.is c.in_ok-node_of_type.ensures in
    if_ok _ _ c.store_plain.result (λ done e s h. subst (λ s. chosen done (IsStored c.args.to.now.side s c.args.value.now c.args.address c.args.store.now.cursor c.store_plain.new.store.cursor c.args.store.now.bytes.items c.store_plain.new.store.bytes.items) (LacksRoom c.args.store.now.cursor (own_room c.args.to.now.side s c.args.value.now) c.args.store.now.bytes.items)) (sym (none s h)) e) c.store_plain.ensures

pub store_node-store_record-requires : goal.store_node-store_record-requires
store_node-store_record-requires t c = (
  omega (arith, c.decreases, all_below c.args.to.now.types.now c.args.ty.now c.args.node.now.types c.requires.told.within, ap (height_over c.args.to.now.types.now) c.as_slice-members.ensures),
  (
    subst (AreLiveMembers c.args.to.now.types.now) (sym c.as_slice-members.ensures) (all_live c.args.to.now.types.now c.args.ty.now c.args.node.now.types c.requires.told.within),
    subst (λ xs. IsNodeStorable c.args.to.now.types.now c.args.to.now.side (kind_of is.Record) xs c.args.value.now c.args.address c.args.store.now.cursor c.args.store.now.bytes.items) (sym c.as_slice-members.ensures) (node_storable c.args.to.now.types.now c.args.to.now.side c.args.ty.now c.args.node.now c.args.value.now c.args.address c.args.store.now.cursor c.args.store.now.bytes.items c.requires.told c.requires.storable is.Record c.in-Record.is c.canonical_abi-whole.result.now c.canonical_abi-whole.ensures.laid c.canonical_abi-whole.ensures.within (λ ms told. told.1)),
  ),
)

pub store_node-store_tuple-requires : goal.store_node-store_tuple-requires
store_node-store_tuple-requires t c = (
  omega (arith, c.decreases, all_below c.args.to.now.types.now c.args.ty.now c.args.node.now.types c.requires.told.within, ap (height_over c.args.to.now.types.now) c.as_slice-members.ensures),
  (
    subst (AreLiveMembers c.args.to.now.types.now) (sym c.as_slice-members.ensures) (all_live c.args.to.now.types.now c.args.ty.now c.args.node.now.types c.requires.told.within),
    subst (λ xs. IsNodeStorable c.args.to.now.types.now c.args.to.now.side (kind_of is.Tuple) xs c.args.value.now c.args.address c.args.store.now.cursor c.args.store.now.bytes.items) (sym c.as_slice-members.ensures) (node_storable c.args.to.now.types.now c.args.to.now.side c.args.ty.now c.args.node.now c.args.value.now c.args.address c.args.store.now.cursor c.args.store.now.bytes.items c.requires.told c.requires.storable is.Tuple c.in-Tuple.is c.canonical_abi-whole.result.now c.canonical_abi-whole.ensures.laid c.canonical_abi-whole.ensures.within (λ ms told. told)),
  ),
)

pub store_node-returns-in-Record : goal.store_node-returns-in-Record
store_node-returns-in-Record t c =
    if_ok _ _ c.store_record.result (λ done e. node_answers c.args.to.now.types.now c.args.to.now.side c.args.ty.now c.args.node.now c.args.value.now c.args.address c.args.store.now.cursor c.args.store.now.bytes.items c.requires.told c.requires.storable is.Record c.in-Record.is (λ s. chosen done (IsStored c.args.to.now.side s c.args.value.now c.args.address c.args.store.now.cursor c.store_record.new.store.cursor c.args.store.now.bytes.items c.store_record.new.store.bytes.items) (LacksRoom c.args.store.now.cursor (own_room c.args.to.now.side s c.args.value.now) c.args.store.now.bytes.items)) (λ ms told h is. e ms (subst (λ xs. AreOf c.args.to.now.types.now xs ms) (sym c.as_slice-members.ensures) told.1) (record_of ms c.args.value.now is))) c.store_record.ensures

pub store_node-returns-in-Tuple : goal.store_node-returns-in-Tuple
store_node-returns-in-Tuple t c =
    if_ok _ _ c.store_tuple.result (λ done e. node_answers c.args.to.now.types.now c.args.to.now.side c.args.ty.now c.args.node.now c.args.value.now c.args.address c.args.store.now.cursor c.args.store.now.bytes.items c.requires.told c.requires.storable is.Tuple c.in-Tuple.is (λ s. chosen done (IsStored c.args.to.now.side s c.args.value.now c.args.address c.args.store.now.cursor c.store_tuple.new.store.cursor c.args.store.now.bytes.items c.store_tuple.new.store.bytes.items) (LacksRoom c.args.store.now.cursor (own_room c.args.to.now.side s c.args.value.now) c.args.store.now.bytes.items)) (λ ms told h is. e ms (subst (λ xs. AreOf c.args.to.now.types.now xs ms) (sym c.as_slice-members.ensures) told) (tuple_of ms c.args.value.now is))) c.store_tuple.ensures

pub store_node-store_fixed-requires : goal.store_node-store_fixed-requires
store_node-store_fixed-requires t c =
    let q = of_kind c.args.to.now.types.now c.args.ty.now c.args.node.now (is.FixedList c.in-FixedList.count c.in-FixedList.element) c.requires.storable.shape c.requires.told c.in-FixedList.is c.requires.storable.shaped in
    let w = c.requires.told.within.each 0 c.in-FixedList.element (ap (λ xs. slice_get xs 0) q.told.0) in (
      omega (arith, c.decreases, w.lower),
      (w.live, subst (λ xs. IsNodeStorable c.args.to.now.types.now c.args.to.now.side (k_fixed c.in-FixedList.count) xs c.args.value.now c.args.address c.args.store.now.cursor c.args.store.now.bytes.items) q.told.0 (node_storable c.args.to.now.types.now c.args.to.now.side c.args.ty.now c.args.node.now c.args.value.now c.args.address c.args.store.now.cursor c.args.store.now.bytes.items c.requires.told c.requires.storable (is.FixedList c.in-FixedList.count c.in-FixedList.element) c.in-FixedList.is c.canonical_abi-whole.result.now c.canonical_abi-whole.ensures.laid c.canonical_abi-whole.ensures.within (λ ms told. told.1))),
    )

pub store_node-returns-in-FixedList : goal.store_node-returns-in-FixedList
store_node-returns-in-FixedList t c =
    if_ok _ _ c.store_fixed.result (λ done e. node_answers c.args.to.now.types.now c.args.to.now.side c.args.ty.now c.args.node.now c.args.value.now c.args.address c.args.store.now.cursor c.args.store.now.bytes.items c.requires.told c.requires.storable (is.FixedList c.in-FixedList.count c.in-FixedList.element) c.in-FixedList.is (λ s. chosen done (IsStored c.args.to.now.side s c.args.value.now c.args.address c.args.store.now.cursor c.store_fixed.new.store.cursor c.args.store.now.bytes.items c.store_fixed.new.store.bytes.items) (LacksRoom c.args.store.now.cursor (own_room c.args.to.now.side s c.args.value.now) c.args.store.now.bytes.items)) (λ ms told h is. e ms (subst (λ xs. AreOf c.args.to.now.types.now xs ms) told.0 told.1) (fixed_of c.in-FixedList.count ms c.args.value.now is))) c.store_fixed.ensures

pub store_node-store_case-requires : goal.store_node-store_case-requires
store_node-store_case-requires t c =
    (omega (arith, c.decreases, all_below c.args.to.now.types.now c.args.ty.now c.args.node.now.types c.requires.told.within), (all_live c.args.to.now.types.now c.args.ty.now c.args.node.now.types c.requires.told.within, case_storable c.args.to.now.types.now c.args.to.now.side c.args.ty.now c.args.node.now c.args.value.now c.args.address c.args.store.now.cursor c.args.store.now.bytes.items c.requires.told c.requires.storable is.Variant c.in-Variant.is tt (λ ms told. told)))

pub store_node-returns-in-Variant : goal.store_node-returns-in-Variant
store_node-returns-in-Variant t c =
    if_ok _ _ c.store_case.result (λ done e. node_answers c.args.to.now.types.now c.args.to.now.side c.args.ty.now c.args.node.now c.args.value.now c.args.address c.args.store.now.cursor c.args.store.now.bytes.items c.requires.told c.requires.storable is.Variant c.in-Variant.is (λ s. chosen done (IsStored c.args.to.now.side s c.args.value.now c.args.address c.args.store.now.cursor c.store_case.new.store.cursor c.args.store.now.bytes.items c.store_case.new.store.bytes.items) (LacksRoom c.args.store.now.cursor (own_room c.args.to.now.side s c.args.value.now) c.args.store.now.bytes.items)) (λ ms told h is. variant_stored c.args.to.now.side k_variant ms c.args.value.now tt (formed c.args.to.now.types.now c.args.ty.now (s_node k_variant ms) h) done c.args.address c.args.store.now.cursor c.store_case.new.store.cursor c.args.store.now.bytes.items c.store_case.new.store.bytes.items (case_of k_variant ms c.args.value.now tt is) (e ms told.0 told.1 (case_of k_variant ms c.args.value.now tt is)))) c.store_case.ensures

pub store_node-store_case-requires-in-Enum : goal.store_node-store_case-requires-in-Enum
store_node-store_case-requires-in-Enum t c =
    (omega (arith, c.decreases, all_below c.args.to.now.types.now c.args.ty.now c.args.node.now.types c.requires.told.within), (all_live c.args.to.now.types.now c.args.ty.now c.args.node.now.types c.requires.told.within, case_storable c.args.to.now.types.now c.args.to.now.side c.args.ty.now c.args.node.now c.args.value.now c.args.address c.args.store.now.cursor c.args.store.now.bytes.items c.requires.told c.requires.storable is.Enum c.in-Enum.is tt (λ ms told. told)))

pub store_node-returns-in-Enum : goal.store_node-returns-in-Enum
store_node-returns-in-Enum t c =
    if_ok _ _ c.store_case-in-Enum.result (λ done e. node_answers c.args.to.now.types.now c.args.to.now.side c.args.ty.now c.args.node.now c.args.value.now c.args.address c.args.store.now.cursor c.args.store.now.bytes.items c.requires.told c.requires.storable is.Enum c.in-Enum.is (λ s. chosen done (IsStored c.args.to.now.side s c.args.value.now c.args.address c.args.store.now.cursor c.store_case-in-Enum.new.store.cursor c.args.store.now.bytes.items c.store_case-in-Enum.new.store.bytes.items) (LacksRoom c.args.store.now.cursor (own_room c.args.to.now.side s c.args.value.now) c.args.store.now.bytes.items)) (λ ms told h is. variant_stored c.args.to.now.side k_enum ms c.args.value.now tt (formed c.args.to.now.types.now c.args.ty.now (s_node k_enum ms) h) done c.args.address c.args.store.now.cursor c.store_case-in-Enum.new.store.cursor c.args.store.now.bytes.items c.store_case-in-Enum.new.store.bytes.items (case_of k_enum ms c.args.value.now tt is) (e ms told.0 told.1 (case_of k_enum ms c.args.value.now tt is)))) c.store_case-in-Enum.ensures

pub store_node-store_case-requires-in-Option : goal.store_node-store_case-requires-in-Option
store_node-store_case-requires-in-Option t c =
    (omega (arith, c.decreases, all_below c.args.to.now.types.now c.args.ty.now c.args.node.now.types c.requires.told.within), (all_live c.args.to.now.types.now c.args.ty.now c.args.node.now.types c.requires.told.within, case_storable c.args.to.now.types.now c.args.to.now.side c.args.ty.now c.args.node.now c.args.value.now c.args.address c.args.store.now.cursor c.args.store.now.bytes.items c.requires.told c.requires.storable is.Option c.in-Option.is tt (λ ms told. told)))

pub store_node-returns-in-Option : goal.store_node-returns-in-Option
store_node-returns-in-Option t c =
    if_ok _ _ c.store_case-in-Option.result (λ done e. node_answers c.args.to.now.types.now c.args.to.now.side c.args.ty.now c.args.node.now c.args.value.now c.args.address c.args.store.now.cursor c.args.store.now.bytes.items c.requires.told c.requires.storable is.Option c.in-Option.is (λ s. chosen done (IsStored c.args.to.now.side s c.args.value.now c.args.address c.args.store.now.cursor c.store_case-in-Option.new.store.cursor c.args.store.now.bytes.items c.store_case-in-Option.new.store.bytes.items) (LacksRoom c.args.store.now.cursor (own_room c.args.to.now.side s c.args.value.now) c.args.store.now.bytes.items)) (λ ms told h is. variant_stored c.args.to.now.side k_option ms c.args.value.now tt (formed c.args.to.now.types.now c.args.ty.now (s_node k_option ms) h) done c.args.address c.args.store.now.cursor c.store_case-in-Option.new.store.cursor c.args.store.now.bytes.items c.store_case-in-Option.new.store.bytes.items (case_of k_option ms c.args.value.now tt is) (e ms told.0 told.1 (case_of k_option ms c.args.value.now tt is)))) c.store_case-in-Option.ensures

pub store_node-store_case-requires-in-Result : goal.store_node-store_case-requires-in-Result
store_node-store_case-requires-in-Result t c =
    (omega (arith, c.decreases, all_below c.args.to.now.types.now c.args.ty.now c.args.node.now.types c.requires.told.within), (all_live c.args.to.now.types.now c.args.ty.now c.args.node.now.types c.requires.told.within, case_storable c.args.to.now.types.now c.args.to.now.side c.args.ty.now c.args.node.now c.args.value.now c.args.address c.args.store.now.cursor c.args.store.now.bytes.items c.requires.told c.requires.storable is.Result c.in-Result.is tt (λ ms told. told)))

pub store_node-returns-in-Result : goal.store_node-returns-in-Result
store_node-returns-in-Result t c =
    if_ok _ _ c.store_case-in-Result.result (λ done e. node_answers c.args.to.now.types.now c.args.to.now.side c.args.ty.now c.args.node.now c.args.value.now c.args.address c.args.store.now.cursor c.args.store.now.bytes.items c.requires.told c.requires.storable is.Result c.in-Result.is (λ s. chosen done (IsStored c.args.to.now.side s c.args.value.now c.args.address c.args.store.now.cursor c.store_case-in-Result.new.store.cursor c.args.store.now.bytes.items c.store_case-in-Result.new.store.bytes.items) (LacksRoom c.args.store.now.cursor (own_room c.args.to.now.side s c.args.value.now) c.args.store.now.bytes.items)) (λ ms told h is. variant_stored c.args.to.now.side k_result ms c.args.value.now tt (formed c.args.to.now.types.now c.args.ty.now (s_node k_result ms) h) done c.args.address c.args.store.now.cursor c.store_case-in-Result.new.store.cursor c.args.store.now.bytes.items c.store_case-in-Result.new.store.bytes.items (case_of k_result ms c.args.value.now tt is) (e ms told.0 told.1 (case_of k_result ms c.args.value.now tt is)))) c.store_case-in-Result.ensures

pub store_node-store_flags-requires : goal.store_node-store_flags-requires
store_node-store_flags-requires t c =
    flags_storable c.args.to.now.types.now c.args.to.now.side c.args.ty.now c.args.node.now c.args.value.now c.args.address c.args.store.now.cursor c.args.store.now.bytes.items c.requires.told c.requires.storable c.in-Flags.is

pub store_node-returns-in-Flags : goal.store_node-returns-in-Flags
store_node-returns-in-Flags t c =
    if_ok _ _ c.store_flags.result (λ done e. node_answers c.args.to.now.types.now c.args.to.now.side c.args.ty.now c.args.node.now c.args.value.now c.args.address c.args.store.now.cursor c.args.store.now.bytes.items c.requires.told c.requires.storable is.Flags c.in-Flags.is (λ s. chosen done (IsStored c.args.to.now.side s c.args.value.now c.args.address c.args.store.now.cursor c.store_flags.new.store.cursor c.args.store.now.bytes.items c.store_flags.new.store.bytes.items) (LacksRoom c.args.store.now.cursor (own_room c.args.to.now.side s c.args.value.now) c.args.store.now.bytes.items)) (λ ms told h is. e ms (flags_of ms c.args.value.now is))) c.store_flags.ensures

pub store_node-store_handle-requires : goal.store_node-store_handle-requires
store_node-store_handle-requires t c =
    let q = future_storable c.args.to.now.types.now c.args.to.now.side c.args.ty.now c.args.node.now c.args.value.now c.args.address c.args.store.now.cursor c.args.store.now.bytes.items c.requires.told c.requires.storable c.in-Future.field-0 c.in-Future.field-1 c.in-Future.is in
    record { handle = q.0; room = q.1 }

pub store_node-returns-in-Future : goal.store_node-returns-in-Future
store_node-returns-in-Future t c =
    if_ok _ _ c.store_handle.result (λ done e. node_answers c.args.to.now.types.now c.args.to.now.side c.args.ty.now c.args.node.now c.args.value.now c.args.address c.args.store.now.cursor c.args.store.now.bytes.items c.requires.told c.requires.storable (is.Future c.in-Future.field-0 c.in-Future.field-1) c.in-Future.is (λ s. chosen done (IsStored c.args.to.now.side s c.args.value.now c.args.address c.args.store.now.cursor c.store_handle.new.store.cursor c.args.store.now.bytes.items c.store_handle.new.store.bytes.items) (LacksRoom c.args.store.now.cursor (own_room c.args.to.now.side s c.args.value.now) c.args.store.now.bytes.items)) (λ ms told h is. future_stored c.args.to.now.side c.in-Future.field-0 c.in-Future.field-1 ms c.args.value.now done c.args.address c.args.store.now.cursor c.store_handle.new.store.cursor c.args.store.now.bytes.items c.store_handle.new.store.bytes.items (e Future c.in-Future.field-0 (future_of c.in-Future.field-0 c.in-Future.field-1 ms c.args.value.now is)))) c.store_handle.ensures

pub store_node-store_handle-requires-in-Stream : goal.store_node-store_handle-requires-in-Stream
store_node-store_handle-requires-in-Stream t c =
    let q = stream_storable c.args.to.now.types.now c.args.to.now.side c.args.ty.now c.args.node.now c.args.value.now c.args.address c.args.store.now.cursor c.args.store.now.bytes.items c.requires.told c.requires.storable c.in-Stream.field-0 c.in-Stream.field-1 c.in-Stream.is in
    record { handle = q.0; room = q.1 }

pub store_node-returns-in-Stream : goal.store_node-returns-in-Stream
store_node-returns-in-Stream t c =
    if_ok _ _ c.store_handle-in-Stream.result (λ done e. node_answers c.args.to.now.types.now c.args.to.now.side c.args.ty.now c.args.node.now c.args.value.now c.args.address c.args.store.now.cursor c.args.store.now.bytes.items c.requires.told c.requires.storable (is.Stream c.in-Stream.field-0 c.in-Stream.field-1) c.in-Stream.is (λ s. chosen done (IsStored c.args.to.now.side s c.args.value.now c.args.address c.args.store.now.cursor c.store_handle-in-Stream.new.store.cursor c.args.store.now.bytes.items c.store_handle-in-Stream.new.store.bytes.items) (LacksRoom c.args.store.now.cursor (own_room c.args.to.now.side s c.args.value.now) c.args.store.now.bytes.items)) (λ ms told h is. stream_stored c.args.to.now.side c.in-Stream.field-0 c.in-Stream.field-1 ms c.args.value.now done c.args.address c.args.store.now.cursor c.store_handle-in-Stream.new.store.cursor c.args.store.now.bytes.items c.store_handle-in-Stream.new.store.bytes.items (e Stream c.in-Stream.field-0 (stream_of c.in-Stream.field-0 c.in-Stream.field-1 ms c.args.value.now is)))) c.store_handle-in-Stream.ensures

pub store_node-store_pair-requires : goal.store_node-store_pair-requires
store_node-store_pair-requires t c =
    (omega (arith, c.decreases), (c.requires.live, (c.requires.told, (subst (λ k. IsBehindPair (kind_of k)) (sym c.in-List.is) tt, c.requires.storable))))

pub store_node-store_pair-requires-in-Map : goal.store_node-store_pair-requires-in-Map
store_node-store_pair-requires-in-Map t c =
    (omega (arith, c.decreases), (c.requires.live, (c.requires.told, (subst (λ k. IsBehindPair (kind_of k)) (sym c.in-Map.is) tt, c.requires.storable))))

pub store_record-store_fields-requires : goal.store_record-store_fields-requires
store_record-store_fields-requires t c = (
  omega (arith, c.decreases),
  (
    c.requires.live,
    subst (λ fs. AreStorable c.args.to.now.types.now c.args.to.now.side c.args.members.now (map (λ f. f.1) fs) c.args.address c.args.store.now.cursor c.args.store.now.bytes.items) (sym c.as_slice.ensures) (fields_storable c.args.to.now.types.now c.args.to.now.side c.args.members.now c.args.value.now c.args.address c.args.store.now.cursor c.args.store.now.bytes.items c.in-Record.fields c.in-Record.is c.requires.storable),
  ),
)

pub store_record-returns : goal.store_record-returns
store_record-returns t c =
    if_ok _ _ c.store_fields.result (λ done e. record_stored c.args.to.now.types.now c.args.to.now.side c.args.members.now c.args.value.now c.args.address c.args.store.now.cursor c.args.store.now.bytes.items c.in-Record.fields done c.store_fields.new.store.cursor c.store_fields.new.store.bytes.items c.in-Record.is
    (λ ms are k. subst (λ fs. MembersOr c.args.to.now.types.now c.args.to.now.side c.args.members.now c.args.value.now c.args.address c.args.store.now.cursor c.args.store.now.bytes.items done (map (λ f. f.1) fs) c.store_fields.new.store.cursor c.store_fields.new.store.bytes.items ms) c.as_slice.ensures (e ms are (subst (λ fs. AreMembers ms (map (λ f. f.1) fs)) (sym c.as_slice.ensures) k)))) c.store_fields.ensures

pub store_tuple-store_members-requires : goal.store_tuple-store_members-requires
store_tuple-store_members-requires t c = (
  omega (arith, c.decreases),
  (c.requires.live, subst (λ vs. AreStorable c.args.to.now.types.now c.args.to.now.side c.args.members.now vs c.args.address c.args.store.now.cursor c.args.store.now.bytes.items) (sym c.as_slice.ensures) (members_storable c.args.to.now.types.now c.args.to.now.side c.args.members.now c.args.value.now c.args.address c.args.store.now.cursor c.args.store.now.bytes.items c.in-Tuple.values c.in-Tuple.is c.requires.storable)),
)

pub store_tuple-returns : goal.store_tuple-returns
store_tuple-returns t c =
    if_ok _ _ c.store_members.result (λ done e. tuple_stored c.args.to.now.types.now c.args.to.now.side c.args.members.now c.args.value.now c.args.address c.args.store.now.cursor c.args.store.now.bytes.items c.in-Tuple.values done c.store_members.new.store.cursor c.store_members.new.store.bytes.items c.in-Tuple.is
    (λ ms are k. subst (λ vs. MembersOr c.args.to.now.types.now c.args.to.now.side c.args.members.now c.args.value.now c.args.address c.args.store.now.cursor c.args.store.now.bytes.items done vs c.store_members.new.store.cursor c.store_members.new.store.bytes.items ms) c.as_slice.ensures (e ms are (subst (AreMembers ms) (sym c.as_slice.ensures) k)))) c.store_members.ensures

pub store_fixed-store_elements-requires : goal.store_fixed-store_elements-requires
store_fixed-store_elements-requires t c = (
  omega (arith, c.decreases),
  (c.requires.live, subst (λ vs. AreElements c.args.to.now.types.now c.args.to.now.side c.args.element.now vs c.extent-size.result.0 c.args.address c.args.store.now.cursor c.args.store.now.bytes.items) (sym c.as_slice.ensures) (fixed_storable c.args.to.now.types.now c.args.to.now.side c.args.element.now c.args.count c.args.value.now c.in-List.values c.in-List.is c.args.address c.args.store.now.cursor c.args.store.now.bytes.items c.extent-size.result.0 c.extent-size.ensures.size c.requires.storable)),
)

pub store_fixed-returns : goal.store_fixed-returns
store_fixed-returns t c =
    if_ok _ _ c.store_elements.result (λ done e. fixed_stored c.args.to.now.types.now c.args.to.now.side c.args.element.now c.args.count c.args.value.now c.in-List.values c.in-List.is c.args.address c.args.store.now.cursor c.args.store.now.bytes.items c.extent-size.result.0 done c.store_elements.new.store.cursor c.store_elements.new.store.bytes.items c.extent-size.ensures.size
    (λ s h. subst (λ vs. chosen done (IsWritten (ReadsEach c.args.to.now.side s c.extent-size.result.0 vs c.args.address) c.args.address (length vs * c.extent-size.result.0) c.args.store.now.cursor c.store_elements.new.store.cursor (sum_by (own_room c.args.to.now.side s) vs) c.args.store.now.bytes.items c.store_elements.new.store.bytes.items) (LacksRoom c.args.store.now.cursor (sum_by (own_room c.args.to.now.side s) vs) c.args.store.now.bytes.items)) c.as_slice.ensures (e s h))) c.store_elements.ensures

pub store_members-next_place-place-requires-clause-live : goal.store_members-next_place-place-requires-clause-live
store_members-next_place-place-requires-clause-live t c =
    c.requires.live.each _ _ (slice_get-get_or c.args.members.now c.loop-member.member-index _ c.loop-member-test.true ∙ ap Some c.in-Some.is)

pub store_members-next_place-place-requires-clause-fits : goal.store_members-next_place-place-requires-clause-fits
store_members-next_place-place-requires-clause-fits t c =
    let st = c.requires.storable in
    let h = storing_here c.in-Some.ty c.loop-member-test.true c.in-Some.is (c.loop-member.invariant.1 st.members st.are st.values) in
    (h.shape, h.shaped, omega (arith, here_fits h, st.few))

pub store_members-overflow_add-at : goal.store_members-overflow_add-at
store_members-overflow_add-at t c =
    let st = c.requires.storable in
    let h = storing_here c.in-Some.ty c.loop-member-test.true c.in-Some.is (c.loop-member.invariant.1 st.members st.are st.values) in
    omega (arith, c.next_place-place.ensures.place h.shape h.shaped, here_fits h, st.room.below, st.room.can.inside, st.room.can.short)

pub store_members-store_value-requires : goal.store_members-store_value-requires
store_members-store_value-requires t c =
    let st = c.requires.storable in
    let h = storing_here c.in-Some.ty c.loop-member-test.true c.in-Some.is (c.loop-member.invariant.1 st.members st.are st.values) in
    (omega (arith, c.decreases, member_below c.args.to.now.types.now c.args.members.now c.loop-member.member-index c.in-Some.ty (slice_get-get_or c.args.members.now c.loop-member.member-index _ c.loop-member-test.true ∙ ap Some c.in-Some.is)), (c.requires.live.each _ _ (slice_get-get_or c.args.members.now c.loop-member.member-index _ c.loop-member-test.true ∙ ap Some c.in-Some.is), storable_here h c.in-Some-get.value.now (item_at c.args.values.now c.loop-member.taken c.in-Some-get.value.now c.in-Some-get.ensures.lookup.3.0 c.in-Some-get.ensures.lookup.1) (c.args.address + c.next_place-place.result) (ap (λ n. c.args.address + n) (c.next_place-place.ensures.place h.shape h.shaped)) st.room))

pub store_members-loop-member-preserved : goal.store_members-loop-member-preserved
store_members-loop-member-preserved t c =
    elim c.match-member.branch [
      | store_members-in-Some+in-Some-get+in_ok-store_value+else-not-branch w ↦ (
        omega (arith, w.taken-is, c.loop-member.invariant.0),
        λ ms are k.
            let h = storing_here w.in-Some.ty c.loop-member-test.true w.in-Some.is (c.loop-member.invariant.1 ms are k) in
            subst (λ s. Storing c.args.to.now.types.now c.args.to.now.side ms c.args.members.now c.args.values.now (c.loop-member.member-index + 1) c.match-member.offset c.match-member.taken c.args.address c.args.store.now.cursor s.cursor c.args.store.now.bytes.items s.bytes.items) (sym w.store-is)
            (storing_on h w.in-Some-get.value.now (item_at c.args.values.now c.loop-member.taken w.in-Some-get.value.now w.in-Some-get.ensures.lookup.3.0 w.in-Some-get.ensures.lookup.1) c.match-member.offset c.match-member.taken (c.args.address + w.next_place-place.result) w.store_value.new.store.cursor w.store_value.new.store.bytes.items
            (ap (λ n. c.args.address + n) (w.next_place-place.ensures.place h.shape h.shaped)) (w.offset-is ∙ w.next_place-place.ensures.moved h.shape h.shaped) w.taken-is
            (omega (arith, c.requires.storable.room.below, same_ends c.args.to.now.types.now (width_of c.args.to.now.side) c.args.members.now c.requires.storable.members ms 0 c.requires.storable.are are))
            (chosen_true _ _ w.in_ok-store_value.field-0 w.if-not-branch.false (w.in_ok-store_value.ensures h.shape h.shaped))),
      )
      | store_members-in_default w ↦ (
        omega (arith, w.taken-is, c.loop-member.invariant.0),
        λ ms are k.
            subst (λ s. Storing c.args.to.now.types.now c.args.to.now.side ms c.args.members.now c.args.values.now (c.loop-member.member-index + 1) c.match-member.offset c.match-member.taken c.args.address c.args.store.now.cursor s.cursor c.args.store.now.bytes.items s.bytes.items) (sym w.store-is)
            (subst (λ n. Storing c.args.to.now.types.now c.args.to.now.side ms c.args.members.now c.args.values.now (c.loop-member.member-index + 1) n c.match-member.taken c.args.address c.args.store.now.cursor c.loop-member.store.cursor c.args.store.now.bytes.items c.loop-member.store.bytes.items) (sym w.offset-is)
            (subst (λ n. Storing c.args.to.now.types.now c.args.to.now.side ms c.args.members.now c.args.values.now (c.loop-member.member-index + 1) c.loop-member.offset n c.args.address c.args.store.now.cursor c.loop-member.store.cursor c.args.store.now.bytes.items c.loop-member.store.bytes.items) (sym w.taken-is)
            (storing_past c.loop-member-test.true w.in_default.is (c.loop-member.invariant.1 ms are k)))),
      )
    ]

pub store_members-returns-in_default-get : goal.store_members-returns-in_default-get
store_members-returns-in_default-get t c =
    λ ms are k.
    let h = storing_here c.in-Some.ty c.loop-member-test.true c.in-Some.is (c.loop-member.invariant.1 ms are k) in
    absurd (here_missing h (past_none c.args.values.now c.loop-member.taken c.in_default-get.ensures.lookup.3))

pub store_members-returns-then-not-branch : goal.store_members-returns-then-not-branch
store_members-returns-then-not-branch t c =
    λ ms are k.
    let h = storing_here c.in-Some.ty c.loop-member-test.true c.in-Some.is (c.loop-member.invariant.1 ms are k) in
    lacks_here h c.in-Some-get.value.now (item_at c.args.values.now c.loop-member.taken c.in-Some-get.value.now c.in-Some-get.ensures.lookup.3.0 c.in-Some-get.ensures.lookup.1) (chosen_false _ _ c.in_ok-store_value.field-0 c.if-not-branch.true (c.in_ok-store_value.ensures h.shape h.shaped))

pub store_members-loop-member-init : goal.store_members-loop-member-init
store_members-loop-member-init t c =
    (omega arith, λ ms are k. storing_starts are k c.requires.storable.room.can.inside)

pub store_members-returns : goal.store_members-returns
store_members-returns t c =
    λ ms are k. all_stored (omega (arith, c.loop-member-test.false)) (c.loop-member.invariant.1 ms are k)

pub store_fields-next_place-place-requires-clause-live : goal.store_fields-next_place-place-requires-clause-live
store_fields-next_place-place-requires-clause-live t c =
    c.requires.live.each _ _ (slice_get-get_or c.args.members.now c.loop-member.member-index _ c.loop-member-test.true ∙ ap Some c.in-Some.is)

pub store_fields-next_place-place-requires-clause-fits : goal.store_fields-next_place-place-requires-clause-fits
store_fields-next_place-place-requires-clause-fits t c =
    let st = c.requires.storable in
    let h = storing_here c.in-Some.ty c.loop-member-test.true c.in-Some.is (c.loop-member.invariant.1 st.members st.are st.values) in
    (h.shape, h.shaped, omega (arith, here_fits h, st.few))

pub store_fields-overflow_add-at : goal.store_fields-overflow_add-at
store_fields-overflow_add-at t c =
    let st = c.requires.storable in
    let h = storing_here c.in-Some.ty c.loop-member-test.true c.in-Some.is (c.loop-member.invariant.1 st.members st.are st.values) in
    omega (arith, c.next_place-place.ensures.place h.shape h.shaped, here_fits h, st.room.below, st.room.can.inside, st.room.can.short)

pub store_fields-store_value-requires : goal.store_fields-store_value-requires
store_fields-store_value-requires t c =
    let st = c.requires.storable in
    let h = storing_here c.in-Some.ty c.loop-member-test.true c.in-Some.is (c.loop-member.invariant.1 st.members st.are st.values) in
    (omega (arith, c.decreases, member_below c.args.to.now.types.now c.args.members.now c.loop-member.member-index c.in-Some.ty (slice_get-get_or c.args.members.now c.loop-member.member-index _ c.loop-member-test.true ∙ ap Some c.in-Some.is)), (c.requires.live.each _ _ (slice_get-get_or c.args.members.now c.loop-member.member-index _ c.loop-member-test.true ∙ ap Some c.in-Some.is), storable_here h c.in-Some-get.field.now.1 (slice_mapped (λ f. f.1) c.args.fields.now c.loop-member.taken c.in-Some-get.field.now (item_at c.args.fields.now c.loop-member.taken c.in-Some-get.field.now c.in-Some-get.ensures.lookup.3.0 c.in-Some-get.ensures.lookup.1)) (c.args.address + c.next_place-place.result) (ap (λ n. c.args.address + n) (c.next_place-place.ensures.place h.shape h.shaped)) st.room))

pub store_fields-loop-member-preserved : goal.store_fields-loop-member-preserved
store_fields-loop-member-preserved t c =
    elim c.match-member.branch [
      | store_fields-in-Some+in-Some-get+in_ok-store_value+else-not-branch w ↦ (
        omega (arith, w.taken-is, c.loop-member.invariant.0),
        λ ms are k.
            let h = storing_here w.in-Some.ty c.loop-member-test.true w.in-Some.is (c.loop-member.invariant.1 ms are k) in
            subst (λ s. Storing c.args.to.now.types.now c.args.to.now.side ms c.args.members.now (map (λ f. f.1) c.args.fields.now) (c.loop-member.member-index + 1) c.match-member.offset c.match-member.taken c.args.address c.args.store.now.cursor s.cursor c.args.store.now.bytes.items s.bytes.items) (sym w.store-is)
            (storing_on h w.in-Some-get.field.now.1 (slice_mapped (λ f. f.1) c.args.fields.now c.loop-member.taken w.in-Some-get.field.now (item_at c.args.fields.now c.loop-member.taken w.in-Some-get.field.now w.in-Some-get.ensures.lookup.3.0 w.in-Some-get.ensures.lookup.1)) c.match-member.offset c.match-member.taken (c.args.address + w.next_place-place.result) w.store_value.new.store.cursor w.store_value.new.store.bytes.items
            (ap (λ n. c.args.address + n) (w.next_place-place.ensures.place h.shape h.shaped)) (w.offset-is ∙ w.next_place-place.ensures.moved h.shape h.shaped) w.taken-is
            (omega (arith, c.requires.storable.room.below, same_ends c.args.to.now.types.now (width_of c.args.to.now.side) c.args.members.now c.requires.storable.members ms 0 c.requires.storable.are are))
            (chosen_true _ _ w.in_ok-store_value.field-0 w.if-not-branch.false (w.in_ok-store_value.ensures h.shape h.shaped))),
      )
      | store_fields-in_default w ↦ (
        omega (arith, w.taken-is, c.loop-member.invariant.0),
        λ ms are k.
            subst (λ s. Storing c.args.to.now.types.now c.args.to.now.side ms c.args.members.now (map (λ f. f.1) c.args.fields.now) (c.loop-member.member-index + 1) c.match-member.offset c.match-member.taken c.args.address c.args.store.now.cursor s.cursor c.args.store.now.bytes.items s.bytes.items) (sym w.store-is)
            (subst (λ n. Storing c.args.to.now.types.now c.args.to.now.side ms c.args.members.now (map (λ f. f.1) c.args.fields.now) (c.loop-member.member-index + 1) n c.match-member.taken c.args.address c.args.store.now.cursor c.loop-member.store.cursor c.args.store.now.bytes.items c.loop-member.store.bytes.items) (sym w.offset-is)
            (subst (λ n. Storing c.args.to.now.types.now c.args.to.now.side ms c.args.members.now (map (λ f. f.1) c.args.fields.now) (c.loop-member.member-index + 1) c.loop-member.offset n c.args.address c.args.store.now.cursor c.loop-member.store.cursor c.args.store.now.bytes.items c.loop-member.store.bytes.items) (sym w.taken-is)
            (storing_past c.loop-member-test.true w.in_default.is (c.loop-member.invariant.1 ms are k)))),
      )
    ]

pub store_fields-returns-in_default-get : goal.store_fields-returns-in_default-get
store_fields-returns-in_default-get t c =
    λ ms are k.
    let h = storing_here c.in-Some.ty c.loop-member-test.true c.in-Some.is (c.loop-member.invariant.1 ms are k) in
    absurd (here_missing h (slice_missing (λ f. f.1) c.args.fields.now c.loop-member.taken (past_none c.args.fields.now c.loop-member.taken c.in_default-get.ensures.lookup.3)))

pub store_fields-returns-then-not-branch : goal.store_fields-returns-then-not-branch
store_fields-returns-then-not-branch t c =
    λ ms are k.
    let h = storing_here c.in-Some.ty c.loop-member-test.true c.in-Some.is (c.loop-member.invariant.1 ms are k) in
    lacks_here h c.in-Some-get.field.now.1 (slice_mapped (λ f. f.1) c.args.fields.now c.loop-member.taken c.in-Some-get.field.now (item_at c.args.fields.now c.loop-member.taken c.in-Some-get.field.now c.in-Some-get.ensures.lookup.3.0 c.in-Some-get.ensures.lookup.1)) (chosen_false _ _ c.in_ok-store_value.field-0 c.if-not-branch.true (c.in_ok-store_value.ensures h.shape h.shaped))

pub store_fields-loop-member-init : goal.store_fields-loop-member-init
store_fields-loop-member-init t c =
    (omega arith, λ ms are k. storing_starts are k c.requires.storable.room.can.inside)

pub store_fields-returns : goal.store_fields-returns
store_fields-returns t c =
    λ ms are k. all_stored (omega (arith, c.loop-member-test.false)) (c.loop-member.invariant.1 ms are k)

pub store_elements-loop-value-init : goal.store_elements-loop-value-init
store_elements-loop-value-init t c =
    λ s h. items_start (element_reads c.args.to.now.side s) (element_forms c.args.to.now.side s) (own_room c.args.to.now.side s) c.args.size c.args.values.now c.args.address c.args.store.now.cursor c.args.store.now.bytes.items c.requires.storable.room.can.inside

pub store_elements-store_value-requires : goal.store_elements-store_value-requires
store_elements-store_value-requires t c =
    let st = c.requires.storable in
    let g = c.loop-value.invariant st.shape st.shaped in
    (omega (arith, c.decreases), (c.requires.live, element_storable st g c.value-item.result (item_at c.args.values.now c.loop-value.value-index c.value-item.result c.loop-value-test.true c.value-item.is) c.loop-value-test.true))

pub store_elements-returns-then-not-branch : goal.store_elements-returns-then-not-branch
store_elements-returns-then-not-branch t c =
    λ s h. items_lack (element_reads c.args.to.now.side s) (element_forms c.args.to.now.side s) (own_room c.args.to.now.side s) c.args.size c.args.values.now c.args.address c.args.store.now.cursor c.args.store.now.bytes.items (c.loop-value.invariant s h) c.value-item.result (item_at c.args.values.now c.loop-value.value-index c.value-item.result c.loop-value-test.true c.value-item.is)
    (chosen_false _ _ c.in_ok-store_value.field-0 c.if-not-branch.true (c.in_ok-store_value.ensures s h))

pub store_elements-loop-value-preserved : goal.store_elements-loop-value-preserved
store_elements-loop-value-preserved t c =
    λ s h.
    let st = c.requires.storable in
    items_on (element_reads c.args.to.now.side s) (element_forms c.args.to.now.side s) (own_room c.args.to.now.side s) c.args.size c.args.values.now c.args.address c.args.store.now.cursor c.args.store.now.bytes.items (c.loop-value.invariant s h) c.value-item.result (item_at c.args.values.now c.loop-value.value-index c.value-item.result c.loop-value-test.true c.value-item.is) (extent_on c.args.to.now.side s).size (c.loop-value.at + c.from.result) c.store_value.new.store.cursor c.store_value.new.store.bytes.items
    (stride_fits st s h) (ap (λ n. c.loop-value.at + n) c.from.ensures) (element_fits st c.loop-value-test.true) (chosen_true _ _ c.in_ok-store_value.field-0 c.if-not-branch.false (c.in_ok-store_value.ensures s h))

pub store_elements-returns : goal.store_elements-returns
store_elements-returns t c =
    λ s h. items_end (element_reads c.args.to.now.side s) (element_forms c.args.to.now.side s) (own_room c.args.to.now.side s) c.args.size c.args.values.now c.args.address c.args.store.now.cursor c.args.store.now.bytes.items (c.loop-value.invariant s h) (omega (arith, c.loop-value-test.false)) c.loop-value.auto.value-index-end

pub store_entries-loop-entry-init : goal.store_entries-loop-entry-init
store_entries-loop-entry-init t c =
    λ ms has. items_start (entry_reads c.args.to.now.side ms) (entry_forms c.args.to.now.side ms) (entry_room c.args.to.now.side ms) c.args.size c.args.entries.now c.args.address c.args.store.now.cursor c.args.store.now.bytes.items c.requires.storable.room.can.inside

pub store_entries-store_entry-requires : goal.store_entries-store_entry-requires
store_entries-store_entry-requires t c =
    let st = c.requires.storable in
    let g = c.loop-entry.invariant st.members st.has in
    (omega (arith, c.decreases), (c.requires.key, (c.requires.item, entry_storable st g c.entry-item.result (item_at c.args.entries.now c.loop-entry.entry-index c.entry-item.result c.loop-entry-test.true c.entry-item.is) c.loop-entry-test.true (omega (arith, c.ranges.size.fits)))))

pub store_entries-returns-then-not-branch : goal.store_entries-returns-then-not-branch
store_entries-returns-then-not-branch t c =
    λ ms has. items_lack (entry_reads c.args.to.now.side ms) (entry_forms c.args.to.now.side ms) (entry_room c.args.to.now.side ms) c.args.size c.args.entries.now c.args.address c.args.store.now.cursor c.args.store.now.bytes.items (c.loop-entry.invariant ms has) c.entry-item.result (item_at c.args.entries.now c.loop-entry.entry-index c.entry-item.result c.loop-entry-test.true c.entry-item.is)
    (chosen_false _ _ c.in_ok-store_entry.field-0 c.if-not-branch.true (c.in_ok-store_entry.ensures ms has (entry_is c.requires.storable ms has c.loop-entry.entry-index c.entry-item.result (item_at c.args.entries.now c.loop-entry.entry-index c.entry-item.result c.loop-entry-test.true c.entry-item.is))))

pub store_entries-loop-entry-preserved : goal.store_entries-loop-entry-preserved
store_entries-loop-entry-preserved t c =
    λ ms has.
    let st = c.requires.storable in
    items_on (entry_reads c.args.to.now.side ms) (entry_forms c.args.to.now.side ms) (entry_room c.args.to.now.side ms) c.args.size c.args.entries.now c.args.address c.args.store.now.cursor c.args.store.now.bytes.items (c.loop-entry.invariant ms has) c.entry-item.result (item_at c.args.entries.now c.loop-entry.entry-index c.entry-item.result c.loop-entry-test.true c.entry-item.is) (ends_of (width_of c.args.to.now.side) ms 0) (c.loop-entry.at + c.from.result) c.store_entry.new.store.cursor c.store_entry.new.store.bytes.items
    (entry_ends st ms has) (ap (λ n. c.loop-entry.at + n) c.from.ensures) (entry_fits st c.loop-entry-test.true)
    (written_also (chosen_true _ _ c.in_ok-store_entry.field-0 c.if-not-branch.false (c.in_ok-store_entry.ensures ms has (entry_is st ms has c.loop-entry.entry-index c.entry-item.result (item_at c.args.entries.now c.loop-entry.entry-index c.entry-item.result c.loop-entry-test.true c.entry-item.is)))) (λ b l r. entry_read c.args.to.now.side ms c.entry-item.result c.loop-entry.at b r))

pub store_entries-returns : goal.store_entries-returns
store_entries-returns t c =
    λ ms has. items_end (entry_reads c.args.to.now.side ms) (entry_forms c.args.to.now.side ms) (entry_room c.args.to.now.side ms) c.args.size c.args.entries.now c.args.address c.args.store.now.cursor c.args.store.now.bytes.items (c.loop-entry.invariant ms has) (omega (arith, c.loop-entry-test.false)) c.loop-entry.auto.entry-index-end

pub store_pair-store_behind-requires : goal.store_pair-store_behind-requires
store_pair-store_behind-requires t c =
    let st = c.requires.storable in (omega (arith, c.decreases), (c.requires.live, (c.requires.told, (c.requires.kind, ((st.shape, st.shaped, st.is), st.room.can)))))

pub store_pair-returns-in_default : goal.store_pair-returns-in_default
store_pair-returns-in_default t c =
    λ s h. not_put c.args.to.now.side s c.args.value.now c.args.store.now.cursor c.store_behind.new.store.cursor c.args.store.now.bytes.items c.store_behind.new.store.bytes.items (LacksRoom c.args.store.now.cursor (own_room c.args.to.now.side s c.args.value.now) c.args.store.now.bytes.items) c.in_ok-pair.field-0 c.in_default.is (c.in_ok-pair.ensures s h)

pub store_pair-put_pair-requires : goal.store_pair-put_pair-requires
store_pair-put_pair-requires t c =
    let st = c.requires.storable in
    let put = put_is c.args.to.now.side st.shape c.args.value.now c.args.store.now.cursor c.store_behind.new.store.cursor c.args.store.now.bytes.items c.store_behind.new.store.bytes.items (LacksRoom c.args.store.now.cursor (own_room c.args.to.now.side st.shape c.args.value.now) c.args.store.now.bytes.items) c.in_ok-pair.field-0 c.in-Some.pair c.in-Some.is (c.in_ok-pair.ensures st.shape st.shaped) in
    record { room = pair_room c.args.to.now.types.now c.args.to.now.side c.args.ty.now c.args.value.now (pair_of c.in-Some.pair) c.args.address c.args.store.now.cursor c.store_behind.new.store.cursor c.args.store.now.bytes.items c.store_behind.new.store.bytes.items st (behind_shape c.args.to.now.types.now c.args.ty.now c.args.node.now st.shape c.requires.told c.requires.kind st.shaped) put; pointer = put.pointer_small; count = put.count_small }

pub store_pair-returns : goal.store_pair-returns
store_pair-returns t c =
    λ s h.
    let st = c.requires.storable in
    value_stored c.args.to.now.types.now c.args.to.now.side c.args.ty.now c.args.value.now (pair_of c.in-Some.pair) c.args.address c.args.store.now.cursor c.store_behind.new.store.cursor c.put_pair.new.store.cursor c.args.store.now.bytes.items c.store_behind.new.store.bytes.items c.put_pair.new.store.bytes.items st s h (behind_shape c.args.to.now.types.now c.args.ty.now c.args.node.now s c.requires.told c.requires.kind h)
    (put_is c.args.to.now.side s c.args.value.now c.args.store.now.cursor c.store_behind.new.store.cursor c.args.store.now.bytes.items c.store_behind.new.store.bytes.items (LacksRoom c.args.store.now.cursor (own_room c.args.to.now.side s c.args.value.now) c.args.store.now.bytes.items) c.in_ok-pair.field-0 c.in-Some.pair c.in-Some.is (c.in_ok-pair.ensures s h)) c.in_ok-put_pair.ensures.cursor c.in_ok-put_pair.ensures.written

pub store_behind-store_list-requires : goal.store_behind-store_list-requires
store_behind-store_list-requires t c =
    let (s, h, a) = c.requires.value in
    let q = of_kind c.args.to.now.types.now c.args.ty.now c.args.node.now (is.List c.in-List.element) s c.requires.told c.in-List.is h in
    let w = c.requires.told.within.each 0 c.in-List.element (ap (λ xs. slice_get xs 0) q.told.0) in
    (omega (arith, c.decreases, w.lower), (w.live, ((q.members, subst (λ xs. AreOf c.args.to.now.types.now xs q.members) q.told.0 q.told.1, subst (λ s. IsA s c.args.value.now) q.is a), c.requires.can)))

pub store_behind-store_map-requires : goal.store_behind-store_map-requires
store_behind-store_map-requires t c =
    let (s, h, a) = c.requires.value in
    let q = of_kind c.args.to.now.types.now c.args.ty.now c.args.node.now (is.Map c.in-Map.key c.in-Map.item) s c.requires.told c.in-Map.is h in
    let w = c.requires.told.within.each 0 c.in-Map.key (ap (λ xs. slice_get xs 0) q.told.0) in
    let u = c.requires.told.within.each 1 c.in-Map.item (ap (λ xs. slice_get xs 1) q.told.0) in (
      omega (arith, c.decreases, w.lower, u.lower),
      (c.requires.live, (w.live, (u.live, ((q.members, subst (HasShape c.args.to.now.types.now c.args.ty.now) q.is h, subst (λ xs. AreOf c.args.to.now.types.now xs q.members) q.told.0 q.told.1, subst (λ s. IsA s c.args.value.now) q.is a), c.requires.can)))),
    )

pub store_behind-returns-in-List : goal.store_behind-returns-in-List
store_behind-returns-in-List t c =
    if_ok _ _ c.store_list.result (λ o e s h.
    let (z, k, a) = c.requires.value in
    let q = of_kind c.args.to.now.types.now c.args.ty.now c.args.node.now (is.List c.in-List.element) s c.requires.told c.in-List.is h in
    let is : IsA (s_node k_list q.members) c.args.value.now = subst (λ s. IsA s c.args.value.now) q.is (subst (λ z. IsA z c.args.value.now) (one_shape c.args.to.now.types.now z s c.args.ty.now k h) a) in
    subst (λ s. PutOr o (λ p. IsPut c.args.to.now.side s c.args.value.now p c.args.store.now.cursor c.store_list.new.store.cursor c.args.store.now.bytes.items c.store_list.new.store.bytes.items) (LacksRoom c.args.store.now.cursor (own_room c.args.to.now.side s c.args.value.now) c.args.store.now.bytes.items)) (sym q.is) (e q.members (subst (λ xs. AreOf c.args.to.now.types.now xs q.members) q.told.0 q.told.1) (list_of q.members c.args.value.now is))) c.store_list.ensures

pub store_behind-returns-in-Map : goal.store_behind-returns-in-Map
store_behind-returns-in-Map t c =
    if_ok _ _ c.store_map.result (λ o e s h.
    let (z, k, a) = c.requires.value in
    let q = of_kind c.args.to.now.types.now c.args.ty.now c.args.node.now (is.Map c.in-Map.key c.in-Map.item) s c.requires.told c.in-Map.is h in
    let is : IsA (s_node k_map q.members) c.args.value.now = subst (λ s. IsA s c.args.value.now) q.is (subst (λ z. IsA z c.args.value.now) (one_shape c.args.to.now.types.now z s c.args.ty.now k h) a) in
    subst (λ s. PutOr o (λ p. IsPut c.args.to.now.side s c.args.value.now p c.args.store.now.cursor c.store_map.new.store.cursor c.args.store.now.bytes.items c.store_map.new.store.bytes.items) (LacksRoom c.args.store.now.cursor (own_room c.args.to.now.side s c.args.value.now) c.args.store.now.bytes.items)) (sym q.is) (e q.members (subst (HasShape c.args.to.now.types.now c.args.ty.now) q.is h) (subst (λ xs. AreOf c.args.to.now.types.now xs q.members) q.told.0 q.told.1) (map_of q.members c.args.value.now is))) c.store_map.ensures

pub store_list-returns-in_default-take : goal.store_list-returns-in_default-take
store_list-returns-in_default-take t c =
    λ ms are is.
    let prod : c.in_ok-count.count * c.from-2.result ≡ length c.in-List.values * c.extent-size.result.0 = (λ i. (c.in_ok-count.ensures.0 ∙ c.len.ensures) i * c.from-2.ensures i) in
    list_lacks c.args.to.now.types.now c.args.to.now.side c.args.element.now c.args.value.now c.in-List.values c.in-List.is c.args.store.now.cursor c.args.store.now.bytes.items c.extent-size.result.0 c.extent-size.result.1 c.extent-size.ensures.size c.extent-size.ensures.align c.requires.can (omega (arith, c.take.ensures.lacks (none_is c.take.result c.in_default-take.is), c.from.ensures, prod)) ms are

pub store_list-store_elements-requires : goal.store_list-store_elements-requires
store_list-store_elements-requires t c =
    let prod : c.in_ok-count.count * c.from-2.result ≡ length c.in-List.values * c.extent-size.result.0 = (λ i. (c.in_ok-count.ensures.0 ∙ c.len.ensures) i * c.from-2.ensures i) in
    let same : c.take.new.self.bytes.items ≡ c.args.store.now.bytes.items = ap (λ (b : Vec ℕ Global). b.items) c.in-Some.ensures.bytes in
    let fits : c.in-Some.pointer + length c.in-List.values * c.extent-size.result.0 ≤ length c.args.store.now.bytes.items = omega (arith, c.in-Some.ensures.fits, prod) in
    let mid : c.take.new.self.cursor ≡ c.in-Some.pointer + length c.in-List.values * c.extent-size.result.0 = omega (arith, c.in-Some.ensures.rises, prod) in (
      omega (arith, c.decreases),
      (
        c.requires.live,
        subst (λ vs. AreElements c.args.to.now.types.now c.args.to.now.side c.args.element.now vs c.extent-size.result.0 c.in-Some.pointer c.take.new.self.cursor c.take.new.self.bytes.items) (sym c.as_slice.ensures)
            (subst (λ m. AreElements c.args.to.now.types.now c.args.to.now.side c.args.element.now c.in-List.values c.extent-size.result.0 c.in-Some.pointer c.take.new.self.cursor m) (sym same) (elements_storable c.args.to.now.types.now c.args.to.now.side c.args.element.now c.args.value.now c.in-List.values c.in-List.is c.args.store.now.cursor c.args.store.now.bytes.items c.extent-size.result.0 c.extent-size.result.1 c.extent-size.ensures.size c.extent-size.ensures.align c.requires.can c.in-Some.pointer c.take.new.self.cursor fits mid c.requires.value)),
      ),
    )

pub store_list-returns-then-not-branch : goal.store_list-returns-then-not-branch
store_list-returns-then-not-branch t c =
    λ ms are is.
    let prod : c.in_ok-count.count * c.from-2.result ≡ length c.in-List.values * c.extent-size.result.0 = (λ i. (c.in_ok-count.ensures.0 ∙ c.len.ensures) i * c.from-2.ensures i) in
    let same : c.take.new.self.bytes.items ≡ c.args.store.now.bytes.items = ap (λ (b : Vec ℕ Global). b.items) c.in-Some.ensures.bytes in
    let mid : c.take.new.self.cursor ≡ c.in-Some.pointer + length c.in-List.values * c.extent-size.result.0 = omega (arith, c.in-Some.ensures.rises, prod) in
    let q = taken c.args.store.now.cursor c.extent-size.result.1 c.in-Some.pointer (c.in-Some.ensures.at ∙ ap (λ n. aligned c.args.store.now.cursor n) c.from.ensures) c.extent-size.ensures.aligned in
    let lack : (s : Shape) → HasShape c.args.to.now.types.now c.args.element.now s → LacksRoom c.take.new.self.cursor (sum_by (own_room c.args.to.now.side s) c.in-List.values) c.args.store.now.bytes.items = (λ s h. subst (λ m. LacksRoom c.take.new.self.cursor (sum_by (own_room c.args.to.now.side s) c.in-List.values) m) same
    (subst (λ vs. LacksRoom c.take.new.self.cursor (sum_by (own_room c.args.to.now.side s) vs) c.take.new.self.bytes.items) c.as_slice.ensures (chosen_false _ _ c.in_ok-store_elements.field-0 c.if-not-branch.true (c.in_ok-store_elements.ensures s h)))) in
    elements_lack c.args.to.now.types.now c.args.to.now.side c.args.element.now c.args.value.now c.in-List.values c.in-List.is c.args.store.now.cursor c.args.store.now.bytes.items c.extent-size.result.0 c.extent-size.result.1 c.extent-size.ensures.size c.extent-size.ensures.align c.requires.can c.in-Some.pointer c.take.new.self.cursor q.1 mid lack ms are

pub store_list-returns : goal.store_list-returns
store_list-returns t c =
    λ ms are is.
    let prod : c.in_ok-count.count * c.from-2.result ≡ length c.in-List.values * c.extent-size.result.0 = (λ i. (c.in_ok-count.ensures.0 ∙ c.len.ensures) i * c.from-2.ensures i) in
    let same : c.take.new.self.bytes.items ≡ c.args.store.now.bytes.items = ap (λ (b : Vec ℕ Global). b.items) c.in-Some.ensures.bytes in
    let fits : c.in-Some.pointer + length c.in-List.values * c.extent-size.result.0 ≤ length c.args.store.now.bytes.items = omega (arith, c.in-Some.ensures.fits, prod) in
    let mid : c.take.new.self.cursor ≡ c.in-Some.pointer + length c.in-List.values * c.extent-size.result.0 = omega (arith, c.in-Some.ensures.rises, prod) in
    let q = taken c.args.store.now.cursor c.extent-size.result.1 c.in-Some.pointer (c.in-Some.ensures.at ∙ ap (λ n. aligned c.args.store.now.cursor n) c.from.ensures) c.extent-size.ensures.aligned in
    let written : (s : Shape) → HasShape c.args.to.now.types.now c.args.element.now s → IsWritten (ReadsEach c.args.to.now.side s c.extent-size.result.0 c.in-List.values c.in-Some.pointer) c.in-Some.pointer (length c.in-List.values * c.extent-size.result.0) c.take.new.self.cursor c.store_elements.new.store.cursor (sum_by (own_room c.args.to.now.side s) c.in-List.values) c.args.store.now.bytes.items c.store_elements.new.store.bytes.items =
    (λ s h. subst (λ m. IsWritten (ReadsEach c.args.to.now.side s c.extent-size.result.0 c.in-List.values c.in-Some.pointer) c.in-Some.pointer (length c.in-List.values * c.extent-size.result.0) c.take.new.self.cursor c.store_elements.new.store.cursor (sum_by (own_room c.args.to.now.side s) c.in-List.values) m c.store_elements.new.store.bytes.items) same
    (subst (λ vs. IsWritten (ReadsEach c.args.to.now.side s c.extent-size.result.0 vs c.in-Some.pointer) c.in-Some.pointer (length vs * c.extent-size.result.0) c.take.new.self.cursor c.store_elements.new.store.cursor (sum_by (own_room c.args.to.now.side s) vs) c.take.new.self.bytes.items c.store_elements.new.store.bytes.items) c.as_slice.ensures (chosen_true _ _ c.in_ok-store_elements.field-0 c.if-not-branch.false (c.in_ok-store_elements.ensures s h)))) in
    list_put c.args.to.now.types.now c.args.to.now.side c.args.element.now c.args.value.now c.in-List.values c.in-List.is c.args.store.now.cursor c.args.store.now.bytes.items c.extent-size.result.0 c.extent-size.result.1 c.extent-size.ensures.size c.extent-size.ensures.align c.requires.can c.in-Some.pointer c.take.new.self.cursor c.store_elements.new.store.cursor c.in_ok-count.count c.store_elements.new.store.bytes.items q.0 q.1 q.2 fits mid (c.in_ok-count.ensures.0 ∙ c.len.ensures) c.in_ok-count.ensures.1 written ms are

pub store_map-returns-in_default-take : goal.store_map-returns-in_default-take
store_map-returns-in_default-take t c =
    λ ms h are is.
    let prod : c.in_ok-count.count * c.from-2.result ≡ length c.in-Map.entries * c.entry_extent-size.result.0 = (λ i. (c.in_ok-count.ensures.0 ∙ c.len.ensures) i * c.from-2.ensures i) in
    map_lacks c.args.to.now.side ms c.args.value.now c.in-Map.entries c.in-Map.is c.args.store.now.cursor c.args.store.now.bytes.items c.entry_extent-size.result.0 c.entry_extent-size.result.1 (c.entry_extent-size.ensures.size ms h) (c.entry_extent-size.ensures.align ms h) c.requires.can (omega (arith, c.take.ensures.lacks (none_is c.take.result c.in_default-take.is), c.from.ensures, prod))

pub store_map-store_entries-requires : goal.store_map-store_entries-requires
store_map-store_entries-requires t c =
    let (ms, h, are, a) = c.requires.value in
    let prod : c.in_ok-count.count * c.from-2.result ≡ length c.in-Map.entries * c.entry_extent-size.result.0 = (λ i. (c.in_ok-count.ensures.0 ∙ c.len.ensures) i * c.from-2.ensures i) in
    let same : c.take.new.self.bytes.items ≡ c.args.store.now.bytes.items = ap (λ (b : Vec ℕ Global). b.items) c.in-Some.ensures.bytes in
    let fits : c.in-Some.pointer + length c.in-Map.entries * c.entry_extent-size.result.0 ≤ length c.args.store.now.bytes.items = omega (arith, c.in-Some.ensures.fits, prod) in
    let mid : c.take.new.self.cursor ≡ c.in-Some.pointer + length c.in-Map.entries * c.entry_extent-size.result.0 = omega (arith, c.in-Some.ensures.rises, prod) in (
      omega (arith, c.decreases),
      (
        c.requires.key,
        (
          c.requires.item,
          subst (λ es. AreEntries c.args.to.now.types.now c.args.to.now.side c.args.key.now c.args.item.now es c.entry_extent-size.result.0 c.in-Some.pointer c.take.new.self.cursor c.take.new.self.bytes.items) (sym c.as_slice.ensures)
              (subst (λ m. AreEntries c.args.to.now.types.now c.args.to.now.side c.args.key.now c.args.item.now c.in-Map.entries c.entry_extent-size.result.0 c.in-Some.pointer c.take.new.self.cursor m) (sym same) (entries_storable c.args.to.now.side ms c.args.value.now c.in-Map.entries c.in-Map.is c.args.store.now.cursor c.args.store.now.bytes.items c.entry_extent-size.result.0 c.entry_extent-size.result.1 (c.entry_extent-size.ensures.size ms h) (c.entry_extent-size.ensures.align ms h) c.requires.can c.args.to.now.types.now c.args.key.now c.args.item.now c.in-Some.pointer c.take.new.self.cursor are a fits mid)),
        ),
      ),
    )

pub store_map-returns-then-not-branch : goal.store_map-returns-then-not-branch
store_map-returns-then-not-branch t c =
    λ ms h are is.
    let prod : c.in_ok-count.count * c.from-2.result ≡ length c.in-Map.entries * c.entry_extent-size.result.0 = (λ i. (c.in_ok-count.ensures.0 ∙ c.len.ensures) i * c.from-2.ensures i) in
    let same : c.take.new.self.bytes.items ≡ c.args.store.now.bytes.items = ap (λ (b : Vec ℕ Global). b.items) c.in-Some.ensures.bytes in
    let mid : c.take.new.self.cursor ≡ c.in-Some.pointer + length c.in-Map.entries * c.entry_extent-size.result.0 = omega (arith, c.in-Some.ensures.rises, prod) in
    let q = taken c.args.store.now.cursor c.entry_extent-size.result.1 c.in-Some.pointer (c.in-Some.ensures.at ∙ ap (λ n. aligned c.args.store.now.cursor n) c.from.ensures) c.entry_extent-size.ensures.aligned in
    let lack : LacksRoom c.take.new.self.cursor (own_entries c.args.to.now.side ms c.in-Map.entries) c.args.store.now.bytes.items = subst (λ m. LacksRoom c.take.new.self.cursor (own_entries c.args.to.now.side ms c.in-Map.entries) m) same
    (subst (λ es. LacksRoom c.take.new.self.cursor (own_entries c.args.to.now.side ms es) c.take.new.self.bytes.items) c.as_slice.ensures (chosen_false _ _ c.in_ok-store_entries.field-0 c.if-not-branch.true (c.in_ok-store_entries.ensures ms are))) in
    entries_lack c.args.to.now.side ms c.args.value.now c.in-Map.entries c.in-Map.is c.args.store.now.cursor c.args.store.now.bytes.items c.entry_extent-size.result.0 c.entry_extent-size.result.1 (c.entry_extent-size.ensures.size ms h) (c.entry_extent-size.ensures.align ms h) c.requires.can c.in-Some.pointer c.take.new.self.cursor q.1 mid lack

pub store_map-returns : goal.store_map-returns
store_map-returns t c =
    λ ms h are is.
    let prod : c.in_ok-count.count * c.from-2.result ≡ length c.in-Map.entries * c.entry_extent-size.result.0 = (λ i. (c.in_ok-count.ensures.0 ∙ c.len.ensures) i * c.from-2.ensures i) in
    let same : c.take.new.self.bytes.items ≡ c.args.store.now.bytes.items = ap (λ (b : Vec ℕ Global). b.items) c.in-Some.ensures.bytes in
    let fits : c.in-Some.pointer + length c.in-Map.entries * c.entry_extent-size.result.0 ≤ length c.args.store.now.bytes.items = omega (arith, c.in-Some.ensures.fits, prod) in
    let mid : c.take.new.self.cursor ≡ c.in-Some.pointer + length c.in-Map.entries * c.entry_extent-size.result.0 = omega (arith, c.in-Some.ensures.rises, prod) in
    let q = taken c.args.store.now.cursor c.entry_extent-size.result.1 c.in-Some.pointer (c.in-Some.ensures.at ∙ ap (λ n. aligned c.args.store.now.cursor n) c.from.ensures) c.entry_extent-size.ensures.aligned in
    let written : IsWritten (ReadsEntries c.args.to.now.side ms c.entry_extent-size.result.0 c.in-Map.entries c.in-Some.pointer) c.in-Some.pointer (length c.in-Map.entries * c.entry_extent-size.result.0) c.take.new.self.cursor c.store_entries.new.store.cursor (own_entries c.args.to.now.side ms c.in-Map.entries) c.args.store.now.bytes.items c.store_entries.new.store.bytes.items =
    subst (λ m. IsWritten (ReadsEntries c.args.to.now.side ms c.entry_extent-size.result.0 c.in-Map.entries c.in-Some.pointer) c.in-Some.pointer (length c.in-Map.entries * c.entry_extent-size.result.0) c.take.new.self.cursor c.store_entries.new.store.cursor (own_entries c.args.to.now.side ms c.in-Map.entries) m c.store_entries.new.store.bytes.items) same
    (subst (λ es. IsWritten (ReadsEntries c.args.to.now.side ms c.entry_extent-size.result.0 es c.in-Some.pointer) c.in-Some.pointer (length es * c.entry_extent-size.result.0) c.take.new.self.cursor c.store_entries.new.store.cursor (own_entries c.args.to.now.side ms es) c.take.new.self.bytes.items c.store_entries.new.store.bytes.items) c.as_slice.ensures (chosen_true _ _ c.in_ok-store_entries.field-0 c.if-not-branch.false (c.in_ok-store_entries.ensures ms are))) in
    map_put c.args.to.now.side ms c.args.value.now c.in-Map.entries c.in-Map.is c.args.store.now.cursor c.args.store.now.bytes.items c.entry_extent-size.result.0 c.entry_extent-size.result.1 (c.entry_extent-size.ensures.size ms h) (c.entry_extent-size.ensures.align ms h) c.requires.can c.in-Some.pointer c.take.new.self.cursor c.store_entries.new.store.cursor c.in_ok-count.count c.store_entries.new.store.bytes.items q.0 q.1 q.2 fits mid (c.in_ok-count.ensures.0 ∙ c.len.ensures) c.in_ok-count.ensures.1 written

pub store_case-returns-in_default-2 : goal.store_case-returns-in_default-2
store_case-returns-in_default-2 t c =
    λ ms named are is. absurd (name_there c.requires.storable c.in-Case.name c.in-Case.payload c.in-Case.is c.in_ok-number.field-0 c.in_default-2.is c.in_ok-number.ensures)

pub store_case-put_number-requires : goal.store_case-put_number-requires
store_case-put_number-requires t c =
    let size_is : c.case_bytes-size.result ≡ discriminant_bytes (discriminant_size (length c.args.node.now.types)) = c.case_bytes-size.ensures.value ∙ ap (λ n. discriminant_bytes (discriminant_size n)) c.len.ensures in
    omega (arith, number_fits c.requires.storable c.in-Case.name c.in-Case.payload c.in-Case.is c.case_bytes-size.result size_is, c.requires.storable.room.can.inside)

pub store_case-returns-in_default-member_type : goal.store_case-returns-in_default-member_type
store_case-returns-in_default-member_type t c =
    let size_is : c.case_bytes-size.result ≡ discriminant_bytes (discriminant_size (length c.args.node.now.types)) = c.case_bytes-size.ensures.value ∙ ap (λ n. discriminant_bytes (discriminant_size n)) c.len.ensures in
    let few : c.in-Some.number < 2 ^ 32 = omega arith in
    let put : c.put_number.new.self.bytes.items ≡ with_number c.case_bytes-size.result c.args.store.now.bytes.items c.args.address c.in-Some.number = c.in_ok-put_number.ensures.bytes ∙ ap (λ n. with_number c.case_bytes-size.result c.args.store.now.bytes.items c.args.address n) c.from.ensures in
    bare_done c.requires.storable c.in-Case.name c.in-Case.payload c.in-Case.is c.case_bytes-size.result size_is c.in-Some.number c.in_ok-number.field-0 c.in-Some.is c.in_ok-number.ensures few c.put_number.new.self.cursor c.put_number.new.self.bytes.items c.in_ok-put_number.ensures.cursor put (sym c.member_type.ensures ∙ c.in_default-member_type.is)

pub store_case-returns-in_default-get : goal.store_case-returns-in_default-get
store_case-returns-in_default-get t c =
    λ ms named are is.
    let size_is : c.case_bytes-size.result ≡ discriminant_bytes (discriminant_size (length c.args.node.now.types)) = c.case_bytes-size.ensures.value ∙ ap (λ n. discriminant_bytes (discriminant_size n)) c.len.ensures in
    let few : c.in-Some.number < 2 ^ 32 = omega arith in
    let put : c.put_number.new.self.bytes.items ≡ with_number c.case_bytes-size.result c.args.store.now.bytes.items c.args.address c.in-Some.number = c.in_ok-put_number.ensures.bytes ∙ ap (λ n. with_number c.case_bytes-size.result c.args.store.now.bytes.items c.args.address n) c.from.ensures in
    absurd (payload_given c.requires.storable c.in-Case.name c.in-Case.payload c.in-Case.is c.case_bytes-size.result size_is c.in-Some.number c.in_ok-number.field-0 c.in-Some.is c.in_ok-number.ensures few c.put_number.new.self.cursor c.put_number.new.self.bytes.items c.in_ok-put_number.ensures.cursor put c.in-Some-member_type.ty (sym c.member_type.ensures ∙ c.in-Some-member_type.is) (sym c.in_default-get.ensures.value))

pub store_case-overflow_add-at : goal.store_case-overflow_add-at
store_case-overflow_add-at t c =
    let size_is : c.case_bytes-size.result ≡ discriminant_bytes (discriminant_size (length c.args.node.now.types)) = c.case_bytes-size.ensures.value ∙ ap (λ n. discriminant_bytes (discriminant_size n)) c.len.ensures in
    let few : c.in-Some.number < 2 ^ 32 = omega arith in
    let put : c.put_number.new.self.bytes.items ≡ with_number c.case_bytes-size.result c.args.store.now.bytes.items c.args.address c.in-Some.number = c.in_ok-put_number.ensures.bytes ∙ ap (λ n. with_number c.case_bytes-size.result c.args.store.now.bytes.items c.args.address n) c.from.ensures in
    let fits = payload_fits c.requires.storable c.in-Case.name c.in-Case.payload c.in-Case.is c.case_bytes-size.result size_is c.in-Some.number c.in_ok-number.field-0 c.in-Some.is c.in_ok-number.ensures few c.put_number.new.self.cursor c.put_number.new.self.bytes.items c.in_ok-put_number.ensures.cursor put c.in-Some-member_type.ty (sym c.member_type.ensures ∙ c.in-Some-member_type.is) c.in-Some-get.value.now (sym c.in-Some-get.ensures.value) c.payload_place-place.result (λ ms are. c.payload_place-place.ensures ms (subst (λ xs. AreOf c.args.to.now.types.now xs ms) (sym c.as_slice.ensures) are)) in
    omega (arith, fits.room.below, fits.room.can.inside, fits.room.can.short)

pub store_case-store_value-requires : goal.store_case-store_value-requires
store_case-store_value-requires t c =
    let size_is : c.case_bytes-size.result ≡ discriminant_bytes (discriminant_size (length c.args.node.now.types)) = c.case_bytes-size.ensures.value ∙ ap (λ n. discriminant_bytes (discriminant_size n)) c.len.ensures in
    let few : c.in-Some.number < 2 ^ 32 = omega arith in
    let put : c.put_number.new.self.bytes.items ≡ with_number c.case_bytes-size.result c.args.store.now.bytes.items c.args.address c.in-Some.number = c.in_ok-put_number.ensures.bytes ∙ ap (λ n. with_number c.case_bytes-size.result c.args.store.now.bytes.items c.args.address n) c.from.ensures in
    let there = place_found c.args.node.now.types c.in-Some.number c.in-Some-member_type.ty (sym c.member_type.ensures ∙ c.in-Some-member_type.is) in
    (omega (arith, c.decreases, member_below c.args.to.now.types.now c.args.node.now.types c.in-Some.number c.in-Some-member_type.ty there), (c.requires.live.each c.in-Some.number c.in-Some-member_type.ty there, payload_fits c.requires.storable c.in-Case.name c.in-Case.payload c.in-Case.is c.case_bytes-size.result size_is c.in-Some.number c.in_ok-number.field-0 c.in-Some.is c.in_ok-number.ensures few c.put_number.new.self.cursor c.put_number.new.self.bytes.items c.in_ok-put_number.ensures.cursor put c.in-Some-member_type.ty (sym c.member_type.ensures ∙ c.in-Some-member_type.is) c.in-Some-get.value.now (sym c.in-Some-get.ensures.value) c.payload_place-place.result (λ ms are. c.payload_place-place.ensures ms (subst (λ xs. AreOf c.args.to.now.types.now xs ms) (sym c.as_slice.ensures) are))))

pub store_case-returns : goal.store_case-returns
store_case-returns t c =
    let size_is : c.case_bytes-size.result ≡ discriminant_bytes (discriminant_size (length c.args.node.now.types)) = c.case_bytes-size.ensures.value ∙ ap (λ n. discriminant_bytes (discriminant_size n)) c.len.ensures in
    let few : c.in-Some.number < 2 ^ 32 = omega arith in
    let put : c.put_number.new.self.bytes.items ≡ with_number c.case_bytes-size.result c.args.store.now.bytes.items c.args.address c.in-Some.number = c.in_ok-put_number.ensures.bytes ∙ ap (λ n. with_number c.case_bytes-size.result c.args.store.now.bytes.items c.args.address n) c.from.ensures in
    if_ok _ _ c.store_value.result (λ done f. payload_done c.requires.storable c.in-Case.name c.in-Case.payload c.in-Case.is c.case_bytes-size.result size_is c.in-Some.number c.in_ok-number.field-0 c.in-Some.is c.in_ok-number.ensures few c.put_number.new.self.cursor c.put_number.new.self.bytes.items c.in_ok-put_number.ensures.cursor put c.in-Some-member_type.ty (sym c.member_type.ensures ∙ c.in-Some-member_type.is) c.in-Some-get.value.now (sym c.in-Some-get.ensures.value) c.payload_place-place.result (λ ms are. c.payload_place-place.ensures ms (subst (λ xs. AreOf c.args.to.now.types.now xs ms) (sym c.as_slice.ensures) are)) done c.store_value.new.store.cursor c.store_value.new.store.bytes.items f) c.store_value.ensures

pub store_entry-next_place-first-requires-clause-fits : goal.store_entry-next_place-first-requires-clause-fits
store_entry-next_place-first-requires-clause-fits t c =
    let st = c.requires.storable in
    let h = at_key c.args.to.now.types.now c.args.to.now.side c.args.key.now c.args.item.now c.args.entry.now.0 c.args.entry.now.1 c.args.address c.args.store.now.cursor c.args.store.now.bytes.items st.members st.are st.values st.room.can.inside in
    (h.shape, h.shaped, omega (arith, here_fits h, st.few))

pub store_entry-store_value-requires : goal.store_entry-store_value-requires
store_entry-store_value-requires t c =
    let st = c.requires.storable in
    let h = at_key c.args.to.now.types.now c.args.to.now.side c.args.key.now c.args.item.now c.args.entry.now.0 c.args.entry.now.1 c.args.address c.args.store.now.cursor c.args.store.now.bytes.items st.members st.are st.values st.room.can.inside in
    (omega (arith, c.decreases), (c.requires.key, storable_here h c.args.entry.now.0 refl (c.args.address + c.next_place-first.result) (ap (λ n. c.args.address + n) (c.next_place-first.ensures.place h.shape h.shaped)) st.room))

pub store_entry-overflow_add-at : goal.store_entry-overflow_add-at
store_entry-overflow_add-at t c =
    let st = c.requires.storable in
    let h = at_key c.args.to.now.types.now c.args.to.now.side c.args.key.now c.args.item.now c.args.entry.now.0 c.args.entry.now.1 c.args.address c.args.store.now.cursor c.args.store.now.bytes.items st.members st.are st.values st.room.can.inside in
    omega (arith, c.next_place-first.ensures.place h.shape h.shaped, here_fits h, st.room.below, st.room.can.inside, st.room.can.short)

pub store_entry-returns-then-not-branch : goal.store_entry-returns-then-not-branch
store_entry-returns-then-not-branch t c =
    λ ms are k.
    let h = at_key c.args.to.now.types.now c.args.to.now.side c.args.key.now c.args.item.now c.args.entry.now.0 c.args.entry.now.1 c.args.address c.args.store.now.cursor c.args.store.now.bytes.items ms are k c.requires.storable.room.can.inside in
    lacks_here h c.args.entry.now.0 refl (chosen_false _ _ c.in_ok-store_value.field-0 c.if-not-branch.true (c.in_ok-store_value.ensures h.shape h.shaped))

pub store_entry-next_place-second-requires-clause-fits : goal.store_entry-next_place-second-requires-clause-fits
store_entry-next_place-second-requires-clause-fits t c =
    let h = at_key c.args.to.now.types.now c.args.to.now.side c.args.key.now c.args.item.now c.args.entry.now.0 c.args.entry.now.1 c.args.address c.args.store.now.cursor c.args.store.now.bytes.items c.requires.storable.members c.requires.storable.are c.requires.storable.values c.requires.storable.room.can.inside in
    let g = at_item c.args.to.now.types.now c.args.to.now.side c.args.key.now c.args.item.now c.args.entry.now.0 c.args.entry.now.1 c.args.address c.args.store.now.cursor c.args.store.now.bytes.items c.requires.storable.members c.requires.storable.are c.requires.storable.values c.requires.storable.room.can.inside (c.args.address + c.next_place-first.result) c.next_place-first.new.offset c.store_value.new.store.cursor c.store_value.new.store.bytes.items
    (ap (λ n. c.args.address + n) (c.next_place-first.ensures.place h.shape h.shaped)) (c.next_place-first.ensures.moved h.shape h.shaped) c.requires.storable.room.below (chosen_true _ _ c.in_ok-store_value.field-0 c.if-not-branch.false (c.in_ok-store_value.ensures h.shape h.shaped)) in
    (g.shape, g.shaped, omega (arith, here_fits g, c.requires.storable.few))

pub store_entry-overflow_add-behind : goal.store_entry-overflow_add-behind
store_entry-overflow_add-behind t c =
    let h = at_key c.args.to.now.types.now c.args.to.now.side c.args.key.now c.args.item.now c.args.entry.now.0 c.args.entry.now.1 c.args.address c.args.store.now.cursor c.args.store.now.bytes.items c.requires.storable.members c.requires.storable.are c.requires.storable.values c.requires.storable.room.can.inside in
    let g = at_item c.args.to.now.types.now c.args.to.now.side c.args.key.now c.args.item.now c.args.entry.now.0 c.args.entry.now.1 c.args.address c.args.store.now.cursor c.args.store.now.bytes.items c.requires.storable.members c.requires.storable.are c.requires.storable.values c.requires.storable.room.can.inside (c.args.address + c.next_place-first.result) c.next_place-first.new.offset c.store_value.new.store.cursor c.store_value.new.store.bytes.items
    (ap (λ n. c.args.address + n) (c.next_place-first.ensures.place h.shape h.shaped)) (c.next_place-first.ensures.moved h.shape h.shaped) c.requires.storable.room.below (chosen_true _ _ c.in_ok-store_value.field-0 c.if-not-branch.false (c.in_ok-store_value.ensures h.shape h.shaped)) in
    omega (arith, c.next_place-second.ensures.place g.shape g.shaped, here_fits g, c.requires.storable.room.below, c.requires.storable.room.can.inside, c.requires.storable.room.can.short)

pub store_entry-store_value-requires-2 : goal.store_entry-store_value-requires-2
store_entry-store_value-requires-2 t c =
    let h = at_key c.args.to.now.types.now c.args.to.now.side c.args.key.now c.args.item.now c.args.entry.now.0 c.args.entry.now.1 c.args.address c.args.store.now.cursor c.args.store.now.bytes.items c.requires.storable.members c.requires.storable.are c.requires.storable.values c.requires.storable.room.can.inside in
    let g = at_item c.args.to.now.types.now c.args.to.now.side c.args.key.now c.args.item.now c.args.entry.now.0 c.args.entry.now.1 c.args.address c.args.store.now.cursor c.args.store.now.bytes.items c.requires.storable.members c.requires.storable.are c.requires.storable.values c.requires.storable.room.can.inside (c.args.address + c.next_place-first.result) c.next_place-first.new.offset c.store_value.new.store.cursor c.store_value.new.store.bytes.items
    (ap (λ n. c.args.address + n) (c.next_place-first.ensures.place h.shape h.shaped)) (c.next_place-first.ensures.moved h.shape h.shaped) c.requires.storable.room.below (chosen_true _ _ c.in_ok-store_value.field-0 c.if-not-branch.false (c.in_ok-store_value.ensures h.shape h.shaped)) in
    (omega (arith, c.decreases), (c.requires.item, storable_here g c.args.entry.now.1 refl (c.args.address + c.next_place-second.result) (ap (λ n. c.args.address + n) (c.next_place-second.ensures.place g.shape g.shaped)) c.requires.storable.room))

pub store_entry-returns : goal.store_entry-returns
store_entry-returns t c =
    if_ok _ _ c.store_value-2.result (λ done f ms are k.
    let fits : c.args.address + ends_of (width_of c.args.to.now.side) ms 0 ≤ c.args.store.now.cursor = omega (arith, c.requires.storable.room.below, same_ends c.args.to.now.types.now (width_of c.args.to.now.side) (Some c.args.key.now ∷ Some c.args.item.now ∷ []) c.requires.storable.members ms 0 c.requires.storable.are are) in
    let h = at_key c.args.to.now.types.now c.args.to.now.side c.args.key.now c.args.item.now c.args.entry.now.0 c.args.entry.now.1 c.args.address c.args.store.now.cursor c.args.store.now.bytes.items ms are k c.requires.storable.room.can.inside in
    let g = at_item c.args.to.now.types.now c.args.to.now.side c.args.key.now c.args.item.now c.args.entry.now.0 c.args.entry.now.1 c.args.address c.args.store.now.cursor c.args.store.now.bytes.items ms are k c.requires.storable.room.can.inside (c.args.address + c.next_place-first.result) c.next_place-first.new.offset c.store_value.new.store.cursor c.store_value.new.store.bytes.items
    (ap (λ n. c.args.address + n) (c.next_place-first.ensures.place h.shape h.shaped)) (c.next_place-first.ensures.moved h.shape h.shaped) fits (chosen_true _ _ c.in_ok-store_value.field-0 c.if-not-branch.false (c.in_ok-store_value.ensures h.shape h.shaped)) in
    entry_done c.args.to.now.types.now c.args.to.now.side c.args.key.now c.args.item.now c.args.entry.now.0 c.args.entry.now.1 c.args.address c.args.store.now.cursor c.args.store.now.bytes.items ms are k c.requires.storable.room.can.inside (c.args.address + c.next_place-first.result) c.next_place-first.new.offset c.store_value.new.store.cursor c.store_value.new.store.bytes.items
    (ap (λ n. c.args.address + n) (c.next_place-first.ensures.place h.shape h.shaped)) (c.next_place-first.ensures.moved h.shape h.shaped) fits (chosen_true _ _ c.in_ok-store_value.field-0 c.if-not-branch.false (c.in_ok-store_value.ensures h.shape h.shaped)) done (c.args.address + c.next_place-second.result) c.store_value-2.new.store.cursor c.store_value-2.new.store.bytes.items (ap (λ n. c.args.address + n) (c.next_place-second.ensures.place g.shape g.shaped)) (f g.shape g.shaped)) c.store_value-2.ensures
