use Rattle.std.proofs.Common.{◌≡◌, ◌∙◌, ◌+◌, ◌*◌, ap, sym, subst, refl, arith, Some, ◌++◌, ◌∷◌, []}
use Rattle.std.specs.Prelude.{option_map}
use Rattle.fact_types.specs.Tables.{HasShape}
use Rattle.fact_abi.specs.declared.nodes.NodeKind.TheVariants as is
use Rattle.fact_values.specs.declared.value.Value.TheVariants as value
use Rattle.fact_types.specs.Signatures.{width}
use Rattle.fact_abi.specs.Nodes.{IsNodeOf, AreOf, AreLower}
use Rattle.fact_values.specs.Load.{load, load_members, entry_of}
use Rattle.fact_abi.proofs.MapLaws.{map_loads, map_stands, no_map_range, no_map_pair, flags_load, entries_room, entries_end, entry_read, no_entry_read}
use Rattle.fact_abi.specs.Loading.{Loading}
use Rattle.fact_abi.specs.Rooms.{RoomForPayload, RoomForMembers}
use Rattle.fact_values.specs.Places.{each_at}
use Rattle.fact_types.specs.Agrees.{names_of}
use Rattle.std.proofs.Common.{None}
use Rattle.std.specs.Prelude.{true, false}
use Rattle.fact_abi.proofs.KindLaws.{if_ok}
use Rattle.fact_abi.proofs.LoadLaws.{here, here_ends, passed, loaded, not_loaded, all_loaded, member_within, plain_loads, by_kind, member_room, record_room, tuple_room, record_loads, no_record, tuple_loads, no_tuple}
use Rattle.std.specs.Prelude.{slice_get}
use Rattle.std.proofs.Common.{length}
use Rattle.fact_types.specs.Layout.{discriminant_size, discriminant_bytes}
use Rattle.fact_types.specs.Shapes.{k_variant, k_option, k_result}
use Rattle.fact_types.specs.Options.{◌>>=◌}
use Rattle.fact_values.specs.Formed.{IsFormed}
use Rattle.fact_abi.specs.Loading.{Repeating}
use Rattle.fact_values.proofs.FormedLaws.{formed}
use Rattle.fact_abi.proofs.LoadLaws.{of_kind}
use Rattle.fact_abi.proofs.PartLaws.{count_told, no_case, no_case_name, bare_case_loads, typed_case_loads, repeating_starts, repeating_on, not_repeated, all_repeated, no_pair, list_loads, list_stands, no_range, fixed_list_loads, range_small, future_loads, stream_loads, variant_loads, cases_room, no_payloads, no_number, number_loads, place_told, range_told, fixed_room, element_fits, next_element, element_room, typed_case, bare_case}
use Rattle.fact_abi.proofs.loading.+loading.Goals as goal
use Rattle.fact_abi.proofs.loading.+loading.Goals.{load_members-in-Some+in_ok-value+in-Some-2+in_ok-push-in-Some-2, load_members-in_default, load_case-in-Some-payload+in_ok-value+in-Some-2+in_ok-push-in-Some-2, load_case-in_default-payload}

pub load_members-next_place-place-requires-clause-live : goal.load_members-next_place-place-requires-clause-live
load_members-next_place-place-requires-clause-live t c = (member_within c.args.types.now c.args.owner.now c.args.members.now _ c.in-Some.ty c.requires.within c.loop-member-test.true c.in-Some.is).live

pub load_members-next_place-place-requires-clause-fits : goal.load_members-next_place-place-requires-clause-fits
load_members-next_place-place-requires-clause-fits t c =
    let h = here c.in-Some.ty c.loop-member-test.true c.in-Some.is (c.loop-member.invariant c.requires.room.members c.requires.room.are) in
    (h.shape, h.shaped, omega (arith, here_ends h, c.requires.room.fits.ends))

pub load_members-load_value-requires : goal.load_members-load_value-requires
load_members-load_value-requires t c =
    let w = member_within c.args.types.now c.args.owner.now c.args.members.now _ c.in-Some.ty c.requires.within c.loop-member-test.true c.in-Some.is in
    let h = here c.in-Some.ty c.loop-member-test.true c.in-Some.is (c.loop-member.invariant c.requires.room.members c.requires.room.are) in
    let room = member_room c.args.types.now (width c.args.side.now.memory64) c.args.address c.in-Some.ty h.shape _ _ _ (c.from.ensures ∙ c.next_place-place.ensures.place h.shape h.shaped) (c.next_place-place.ensures.laid h.shape h.shaped) (here_ends h) c.requires.room.fits.room in
    (omega (arith, w.lower, c.decreases), (w.live, room))

pub load_members-returns-in-None : goal.load_members-returns-in-None
load_members-returns-in-None t c = λ ms are.
    let h = here c.in-Some.ty c.loop-member-test.true c.in-Some.is (c.loop-member.invariant ms are) in
    not_loaded h _ _ (c.from.ensures ∙ c.next_place-place.ensures.place h.shape h.shaped) (c.in_ok-value.ensures h.shape h.shaped) c.in-None.is

pub load_members-loop-member-preserved : goal.load_members-loop-member-preserved
load_members-loop-member-preserved t c = λ ms are.
    elim c.match-member.branch [
      | load_members-in-Some+in_ok-value+in-Some-2+in_ok-push-in-Some-2 w ↦
          (let h = here w.in-Some.ty c.loop-member-test.true w.in-Some.is (c.loop-member.invariant ms are) in
          loaded h _ _ _ _ _ (w.from.ensures ∙ w.next_place-place.ensures.place h.shape h.shaped) (w.offset-is ∙ w.next_place-place.ensures.moved h.shape h.shaped)
          (w.in_ok-value.ensures h.shape h.shaped) w.in-Some-2.is (w.values-is ∙ w.in_ok-push-in-Some-2.ensures.ok))
      | load_members-in_default w ↦
          subst (λ vs. Loading c.args.types.now c.args.side.now c.args.bytes.now ms c.args.members.now (c.loop-member.member-index + 1) c.match-member.offset c.args.address vs) (sym w.values-is)
          (subst (λ n. Loading c.args.types.now c.args.side.now c.args.bytes.now ms c.args.members.now (c.loop-member.member-index + 1) n c.args.address c.loop-member.values) (sym w.offset-is)
          (passed c.loop-member-test.true w.in_default.is (c.loop-member.invariant ms are)))
    ]

pub load_members-returns : goal.load_members-returns
load_members-returns t c = λ ms are. all_loaded (omega (arith, c.loop-member-test.false)) (c.loop-member.invariant ms are)

pub load_value-returns-in-None : goal.load_value-returns-in-None
load_value-returns-in-None t c =
    let none = subst (IsNodeOf c.args.types.now c.args.ty.now) c.in-None.is c.in_ok-node_of_type.ensures in
    if_ok _ _ c.load_plain.result (λ o e s h. plain_loads c.args.side.now c.args.bytes.now c.args.address c.args.ty.now s o (none s h) e) c.load_plain.ensures

pub load_node-load_record-requires : goal.load_node-load_record-requires
load_node-load_record-requires t c =
    let (s, h, d) = c.canonical_abi-whole.ensures.shaped in
    let room = record_room c.args.types.now (width c.args.side.now.memory64) c.args.address c.args.ty.now c.args.node.now c.canonical_abi-whole.result.now s c.requires.told h c.canonical_abi-whole.ensures.stands (c.canonical_abi-whole.ensures.laid s h) c.canonical_abi-whole.ensures.within c.requires.room c.in-Record.is in
    (omega (arith, c.decreases), (c.requires.told.within, room))

pub load_node-load_tuple-requires : goal.load_node-load_tuple-requires
load_node-load_tuple-requires t c =
    let (s, h, d) = c.canonical_abi-whole.ensures.shaped in
    let room = tuple_room c.args.types.now (width c.args.side.now.memory64) c.args.address c.args.ty.now c.args.node.now c.canonical_abi-whole.result.now s c.requires.told h c.canonical_abi-whole.ensures.stands (c.canonical_abi-whole.ensures.laid s h) c.canonical_abi-whole.ensures.within c.requires.room c.in-Tuple.is in
    (omega (arith, c.decreases), (c.requires.told.within, room))

pub load_record-returns-in-None : goal.load_record-returns-in-None
load_record-returns-in-None t c = λ ms told. no_record c.args.side.now c.args.bytes.now c.args.address ms _ (c.in_ok-values.ensures ms (subst (λ xs. AreOf c.args.types.now xs ms) (sym c.as_slice-members.ensures) told.1)) c.in-None.is

pub load_record-returns-in_ok-named-in-Some : goal.load_record-returns-in_ok-named-in-Some
load_record-returns-in_ok-named-in-Some t c = λ ms told. record_loads c.args.side.now c.args.bytes.now c.args.address ms c.args.node.now.names c.in-Some.values _ (sym c.in-Some.is ∙ (c.in_ok-values.ensures ms (subst (λ xs. AreOf c.args.types.now xs ms) (sym c.as_slice-members.ensures) told.1))) told.0 c.in_ok-named-in-Some.ensures

pub load_tuple-returns-in-None : goal.load_tuple-returns-in-None
load_tuple-returns-in-None t c = λ ms told. no_tuple c.args.side.now c.args.bytes.now c.args.address ms _ (c.in_ok-values.ensures ms (subst (λ xs. AreOf c.args.types.now xs ms) (sym c.as_slice-members.ensures) told)) c.in-None.is

pub load_tuple-returns-in-Some : goal.load_tuple-returns-in-Some
load_tuple-returns-in-Some t c = λ ms told. tuple_loads c.args.side.now c.args.bytes.now c.args.address ms _ _ (c.in_ok-values.ensures ms (subst (λ xs. AreOf c.args.types.now xs ms) (sym c.as_slice-members.ensures) told)) c.in-Some.is

pub load_node-returns-in-Enum : goal.load_node-returns-in-Enum
load_node-returns-in-Enum t c =
    if_ok _ _ c.load_variant-in-Enum.result (λ o e. by_kind c.args.types.now c.args.ty.now c.args.node.now is.Enum (λ s. o ≡ load c.args.side.now c.args.bytes.now s c.args.address) c.requires.told c.in-Enum.is (λ ms told. variant_loads c.args.side.now c.args.bytes.now c.args.address is.Enum ms o tt (e ms told.0 told.1))) c.load_variant-in-Enum.ensures

pub load_node-returns-in-Future : goal.load_node-returns-in-Future
load_node-returns-in-Future t c =
    by_kind c.args.types.now c.args.ty.now c.args.node.now (is.Future c.in-Future.table c.in-Future.field-1) (λ s. c.load_handle.result ≡ load c.args.side.now c.args.bytes.now s c.args.address) c.requires.told c.in-Future.is (λ ms told. future_loads c.args.side.now c.args.bytes.now c.args.address c.in-Future.table c.in-Future.field-1 ms _ c.load_handle.ensures)

pub load_node-returns-in-Option : goal.load_node-returns-in-Option
load_node-returns-in-Option t c =
    if_ok _ _ c.load_variant-in-Option.result (λ o e. by_kind c.args.types.now c.args.ty.now c.args.node.now is.Option (λ s. o ≡ load c.args.side.now c.args.bytes.now s c.args.address) c.requires.told c.in-Option.is (λ ms told. variant_loads c.args.side.now c.args.bytes.now c.args.address is.Option ms o tt (e ms told.0 told.1))) c.load_variant-in-Option.ensures

pub load_node-returns-in-Result : goal.load_node-returns-in-Result
load_node-returns-in-Result t c =
    if_ok _ _ c.load_variant-in-Result.result (λ o e. by_kind c.args.types.now c.args.ty.now c.args.node.now is.Result (λ s. o ≡ load c.args.side.now c.args.bytes.now s c.args.address) c.requires.told c.in-Result.is (λ ms told. variant_loads c.args.side.now c.args.bytes.now c.args.address is.Result ms o tt (e ms told.0 told.1))) c.load_variant-in-Result.ensures

pub load_node-returns-in-Stream : goal.load_node-returns-in-Stream
load_node-returns-in-Stream t c =
    by_kind c.args.types.now c.args.ty.now c.args.node.now (is.Stream c.in-Stream.table c.in-Stream.field-1) (λ s. c.load_handle-in-Stream.result ≡ load c.args.side.now c.args.bytes.now s c.args.address) c.requires.told c.in-Stream.is (λ ms told. stream_loads c.args.side.now c.args.bytes.now c.args.address c.in-Stream.table c.in-Stream.field-1 ms _ c.load_handle-in-Stream.ensures)

pub load_node-returns-in-Variant : goal.load_node-returns-in-Variant
load_node-returns-in-Variant t c =
    if_ok _ _ c.load_variant.result (λ o e. by_kind c.args.types.now c.args.ty.now c.args.node.now is.Variant (λ s. o ≡ load c.args.side.now c.args.bytes.now s c.args.address) c.requires.told c.in-Variant.is (λ ms told. variant_loads c.args.side.now c.args.bytes.now c.args.address is.Variant ms o tt (e ms told.0 told.1))) c.load_variant.ensures

pub load_node-load_variant-requires : goal.load_node-load_variant-requires
load_node-load_variant-requires t c =
    let (s, h, d) = c.canonical_abi-whole.ensures.shaped in
    let o = of_kind c.args.types.now c.args.ty.now c.args.node.now is.Variant s c.requires.told c.in-Variant.is h in
    let room = cases_room c.args.types.now c.reveal.ensures.sound c.args.side.now c.args.address c.args.ty.now c.args.node.now.types c.canonical_abi-whole.result.now s k_variant o.members o.told.1 o.is refl c.canonical_abi-whole.ensures.stands (c.canonical_abi-whole.ensures.laid s h) c.requires.room in
    (omega (arith, c.decreases), (c.requires.told.within, (omega (arith, c.requires.room), room)))

pub load_node-load_variant-requires-in-Enum : goal.load_node-load_variant-requires-in-Enum
load_node-load_variant-requires-in-Enum t c =
    let (s, h, d) = c.canonical_abi-whole.ensures.shaped in
    let o = of_kind c.args.types.now c.args.ty.now c.args.node.now is.Enum s c.requires.told c.in-Enum.is h in
    let bare = (subst IsFormed o.is (formed c.args.types.now c.args.ty.now s h)).0 in
    (omega (arith, c.decreases), (c.requires.told.within, (omega (arith, c.requires.room), no_payloads c.args.types.now c.args.side.now c.args.address c.args.node.now.types o.members o.told.1 bare)))

pub load_node-load_variant-requires-in-Option : goal.load_node-load_variant-requires-in-Option
load_node-load_variant-requires-in-Option t c =
    let (s, h, d) = c.canonical_abi-whole.ensures.shaped in
    let o = of_kind c.args.types.now c.args.ty.now c.args.node.now is.Option s c.requires.told c.in-Option.is h in
    let room = cases_room c.args.types.now c.reveal.ensures.sound c.args.side.now c.args.address c.args.ty.now c.args.node.now.types c.canonical_abi-whole.result.now s k_option o.members o.told.1 o.is refl c.canonical_abi-whole.ensures.stands (c.canonical_abi-whole.ensures.laid s h) c.requires.room in
    (omega (arith, c.decreases), (c.requires.told.within, (omega (arith, c.requires.room), room)))

pub load_node-load_variant-requires-in-Result : goal.load_node-load_variant-requires-in-Result
load_node-load_variant-requires-in-Result t c =
    let (s, h, d) = c.canonical_abi-whole.ensures.shaped in
    let o = of_kind c.args.types.now c.args.ty.now c.args.node.now is.Result s c.requires.told c.in-Result.is h in
    let room = cases_room c.args.types.now c.reveal.ensures.sound c.args.side.now c.args.address c.args.ty.now c.args.node.now.types c.canonical_abi-whole.result.now s k_result o.members o.told.1 o.is refl c.canonical_abi-whole.ensures.stands (c.canonical_abi-whole.ensures.laid s h) c.requires.room in
    (omega (arith, c.decreases), (c.requires.told.within, (omega (arith, c.requires.room), room)))

pub load_node-load_list-requires : goal.load_node-load_list-requires
load_node-load_list-requires t c =
    let (s, h, d) = c.canonical_abi-whole.ensures.shaped in
    let o = of_kind c.args.types.now c.args.ty.now c.args.node.now (is.List c.in-List.element) s c.requires.told c.in-List.is h in
    (omega (arith, c.decreases), (c.requires.told.within.each 0 c.in-List.element (ap (λ xs. slice_get xs 0) o.told.0), omega (arith, c.requires.room)))

pub load_node-load_fixed_list-requires : goal.load_node-load_fixed_list-requires
load_node-load_fixed_list-requires t c =
    let (s, h, d) = c.canonical_abi-whole.ensures.shaped in
    let o = of_kind c.args.types.now c.args.ty.now c.args.node.now (is.FixedList c.in-FixedList.count c.in-FixedList.element) s c.requires.told c.in-FixedList.is h in
    let room = fixed_room c.args.types.now c.reveal.ensures.sound (width c.args.side.now.memory64) c.args.address c.args.ty.now c.in-FixedList.element c.in-FixedList.count c.canonical_abi-whole.result.now s o.members (subst (λ xs. AreOf c.args.types.now xs o.members) o.told.0 o.told.1) o.is c.canonical_abi-whole.ensures.stands (c.canonical_abi-whole.ensures.laid s h) c.requires.room in
    (omega (arith, c.decreases), (c.requires.told.within.each 0 c.in-FixedList.element (ap (λ xs. slice_get xs 0) o.told.0), room))

pub load_variant-returns : goal.load_variant-returns
load_variant-returns t c =
    if_ok _ _ c.load_case.result (λ o e ms names are.
    number_loads c.args.side.now c.args.bytes.now c.args.address ms c.case_bytes-size.result (length c.as_slice-cases.result.now) c.from.result c.in-Some.number o (ap (λ n. discriminant_bytes (discriminant_size n)) (ap length c.as_slice-cases.ensures ∙ count_told c.args.types.now _ ms are))
    c.case_bytes-size.ensures.value c.in-Some.ensures.value (c.from.ensures ∙ c.payload_place.ensures ms (subst (λ xs. AreOf c.args.types.now xs ms) (sym c.as_slice-cases.ensures) are)) (e ms names are)) c.load_case.ensures

pub load_variant-returns-in_default : goal.load_variant-returns-in_default
load_variant-returns-in_default t c =
    λ ms names are. no_number c.args.side.now c.args.bytes.now c.args.address ms c.case_bytes-size.result c.number_in.result (length c.as_slice-cases.result.now) (ap (λ n. discriminant_bytes (discriminant_size n)) (ap length c.as_slice-cases.ensures ∙ count_told c.args.types.now _ ms are)) c.case_bytes-size.ensures.value c.number_in.ensures.value c.in_default.is

pub load_variant-payload_place-requires-clause-live : goal.load_variant-payload_place-requires-clause-live
load_variant-payload_place-requires-clause-live t c =
    λ i y e. (c.requires.within.each i y (subst (λ xs. slice_get xs i ≡ Some (Some y)) c.as_slice-cases.ensures e)).live

pub load_variant-load_case-requires : goal.load_variant-load_case-requires
load_variant-load_case-requires t c =
    let ms = c.requires.room.members in
    let are = c.requires.room.are in
    let place = place_told c.args.side.now ms c.case_bytes-size.result (length c.as_slice-cases.result.now) c.from.result (ap (λ n. discriminant_bytes (discriminant_size n)) (ap length c.as_slice-cases.ensures ∙ count_told c.args.types.now _ ms are)) c.case_bytes-size.ensures.value (c.from.ensures ∙ c.payload_place.ensures ms (subst (λ xs. AreOf c.args.types.now xs ms) (sym c.as_slice-cases.ensures) are)) in
    (omega (arith, c.decreases), (c.requires.within, subst (λ n. RoomForPayload c.args.types.now (width c.args.side.now.memory64) (c.args.address + n) c.args.node.now.types) (sym place) c.requires.room.payload))

pub load_case-returns : goal.load_case-returns
load_case-returns t c =
    λ ms names are.
    let name : slice_get (names_of ms) c.args.number ≡ Some c.in-Some-get.name.now = ap (λ ns. slice_get ns c.args.number) (sym names) ∙ sym c.in-Some-get.ensures.value in
    elim c.match-payload.branch [
      | load_case-in-Some-payload+in_ok-value+in-Some-2+in_ok-push-in-Some-2 w ↦
          (let p = typed_case_loads c.args.types.now c.args.side.now c.args.bytes.now c.args.node.now.types ms c.args.number c.args.address c.in-Some-get.name.now w.in-Some-payload.ty are (sym c.in-Some.ensures.value ∙ ap (λ p. Some p) w.in-Some-payload.is) name in
          typed_case c.in-Some-get.name.now c.in_ok-try_clone.field-0 c.match-payload.values w.in-Some-2.value _ _ c.in_ok-try_clone.ensures (w.values-is ∙ w.in_ok-push-in-Some-2.ensures.ok ∙ ap (λ vs. vs ++ w.in-Some-2.value ∷ []) c.new-values.ensures) (sym w.in-Some-2.is ∙ w.in_ok-value.ensures p.shape p.shaped) p.loads)
      | load_case-in_default-payload w ↦
          bare_case c.in-Some-get.name.now c.in_ok-try_clone.field-0 c.match-payload.values _ c.in_ok-try_clone.ensures (w.values-is ∙ c.new-values.ensures)
          (bare_case_loads c.args.types.now c.args.side.now c.args.bytes.now c.args.node.now.types ms c.args.number c.args.address c.in-Some-get.name.now are (sym c.in-Some.ensures.value ∙ ap (λ p. Some p) w.in_default-payload.is) name)
    ]

pub load_case-returns-in_default : goal.load_case-returns-in_default
load_case-returns-in_default t c =
    λ ms names are. no_case c.args.types.now c.args.side.now c.args.bytes.now c.args.node.now.types ms c.args.number c.args.address are (sym c.in_default.ensures.value)

pub load_case-returns-in_default-get : goal.load_case-returns-in_default-get
load_case-returns-in_default-get t c =
    λ ms names are. no_case_name c.args.side.now c.args.bytes.now ms c.args.number c.args.address (ap (λ ns. slice_get ns c.args.number) (sym names) ∙ sym c.in_default-get.ensures.value)

pub load_case-load_value-requires : goal.load_case-load_value-requires
load_case-load_value-requires t c =
    let there : slice_get c.args.node.now.types c.args.number ≡ Some (Some c.in-Some-payload.ty) = (sym c.in-Some.ensures.value ∙ ap (λ p. Some p) c.in-Some-payload.is) in
    let w = c.requires.within.each c.args.number c.in-Some-payload.ty there in
    (omega (arith, w.lower, c.decreases), (w.live, c.requires.room.each c.args.number c.in-Some-payload.ty there))

pub load_case-returns-in-None : goal.load_case-returns-in-None
load_case-returns-in-None t c =
    λ ms names are.
    let there : slice_get c.args.node.now.types c.args.number ≡ Some (Some c.in-Some-payload.ty) = (sym c.in-Some.ensures.value ∙ ap (λ p. Some p) c.in-Some-payload.is) in
    let name : slice_get (names_of ms) c.args.number ≡ Some c.in-Some-get.name.now = ap (λ ns. slice_get ns c.args.number) (sym names) ∙ sym c.in-Some-get.ensures.value in
    let p = typed_case_loads c.args.types.now c.args.side.now c.args.bytes.now c.args.node.now.types ms c.args.number c.args.address c.in-Some-get.name.now c.in-Some-payload.ty are there name in
    sym (p.loads ∙ ap (option_map (λ w. value.Case c.in-Some-get.name.now (w ∷ []))) (sym (c.in_ok-value.ensures p.shape p.shaped) ∙ c.in-None.is))

pub list_behind-returns-in-None : goal.list_behind-returns-in-None
list_behind-returns-in-None t c =
    λ ms are. ap (option_map (λ vs. value.List vs)) (sym c.in-None.is) ∙ list_loads c.args.side.now c.args.bytes.now c.args.types.now c.args.element.now ms are c.element_extent-size.result.0 c.element_extent-size.result.1 c.element_extent-size.ensures.size c.element_extent-size.ensures.align (record { pointer = c.args.pointer; count = c.args.count }) c.in_ok-values.field-0 (range_told c.args.bytes.now c.is_in_range.result c.from-3.result c.element_extent-size.result.1 c.args.pointer c.from.result c.args.count c.from-2.result c.element_extent-size.result.0 true c.is_in_range.ensures c.from-3.ensures c.from.ensures c.from-2.ensures c.if-not-is_in_range.false)
    (λ s h. c.in_ok-values.ensures s h ∙ ap (λ b. each_at c.args.count c.element_extent-size.result.0 (λ b. load c.args.side.now c.args.bytes.now s b) b) c.from-start.ensures)

pub list_behind-returns-in-Some : goal.list_behind-returns-in-Some
list_behind-returns-in-Some t c =
    λ ms are. ap (option_map (λ vs. value.List vs)) (sym c.in-Some.is) ∙ list_loads c.args.side.now c.args.bytes.now c.args.types.now c.args.element.now ms are c.element_extent-size.result.0 c.element_extent-size.result.1 c.element_extent-size.ensures.size c.element_extent-size.ensures.align (record { pointer = c.args.pointer; count = c.args.count }) c.in_ok-values.field-0 (range_told c.args.bytes.now c.is_in_range.result c.from-3.result c.element_extent-size.result.1 c.args.pointer c.from.result c.args.count c.from-2.result c.element_extent-size.result.0 true c.is_in_range.ensures c.from-3.ensures c.from.ensures c.from-2.ensures c.if-not-is_in_range.false)
    (λ s h. c.in_ok-values.ensures s h ∙ ap (λ b. each_at c.args.count c.element_extent-size.result.0 (λ b. load c.args.side.now c.args.bytes.now s b) b) c.from-start.ensures)

pub load_list-returns-in_default : goal.load_list-returns-in_default
load_list-returns-in_default t c = λ ms are. no_pair c.args.side.now c.args.bytes.now c.args.address ms c.in_default.ensures

pub load_list-returns : goal.load_list-returns
load_list-returns t c =
    if_ok _ _ c.list_behind.result (λ o e ms are. list_stands c.args.side.now c.args.bytes.now c.args.address ms (record { pointer = c.in-Some.pointer; count = c.in-Some.count }) o c.in-Some.ensures (e ms are)) c.list_behind.ensures

pub list_behind-returns-then-not-is_in_range : goal.list_behind-returns-then-not-is_in_range
list_behind-returns-then-not-is_in_range t c =
    λ ms are. no_range c.args.side.now c.args.bytes.now c.args.types.now c.args.element.now ms are c.element_extent-size.result.0 c.element_extent-size.result.1 c.element_extent-size.ensures.size c.element_extent-size.ensures.align (record { pointer = c.args.pointer; count = c.args.count }) (range_told c.args.bytes.now c.is_in_range.result c.from-3.result c.element_extent-size.result.1 c.args.pointer c.from.result c.args.count c.from-2.result c.element_extent-size.result.0 false c.is_in_range.ensures c.from-3.ensures c.from.ensures c.from-2.ensures c.if-not-is_in_range.true)

pub load_fixed_list-returns-in-None : goal.load_fixed_list-returns-in-None
load_fixed_list-returns-in-None t c =
    λ ms are. ap (option_map (λ vs. value.List vs)) (sym c.in-None.is) ∙ fixed_list_loads c.args.side.now c.args.bytes.now c.args.types.now c.args.element.now ms are c.element_extent-size.result.0 c.element_extent-size.result.1 c.element_extent-size.ensures.size c.element_extent-size.ensures.align c.args.address c.args.count c.in_ok-values.field-0 (λ s h. c.in_ok-values.ensures s h ∙ ap (λ n. each_at n c.element_extent-size.result.0 (λ b. load c.args.side.now c.args.bytes.now s b) c.args.address) c.from.ensures)

pub load_fixed_list-returns-in-Some : goal.load_fixed_list-returns-in-Some
load_fixed_list-returns-in-Some t c =
    λ ms are. ap (option_map (λ vs. value.List vs)) (sym c.in-Some.is) ∙ fixed_list_loads c.args.side.now c.args.bytes.now c.args.types.now c.args.element.now ms are c.element_extent-size.result.0 c.element_extent-size.result.1 c.element_extent-size.ensures.size c.element_extent-size.ensures.align c.args.address c.args.count c.in_ok-values.field-0 (λ s h. c.in_ok-values.ensures s h ∙ ap (λ n. each_at n c.element_extent-size.result.0 (λ b. load c.args.side.now c.args.bytes.now s b) c.args.address) c.from.ensures)

pub load_elements-returns : goal.load_elements-returns
load_elements-returns t c =
    λ s h. all_repeated (λ b. load c.args.side.now c.args.bytes.now s b) c.args.count c.args.size c.loop.counter c.loop.at c.args.address c.loop.values (omega (arith, c.loop-test.false)) (c.loop.invariant.1 s h)

pub load_elements-load_value-requires : goal.load_elements-load_value-requires
load_elements-load_value-requires t c =
    (omega (arith, c.requires.within.lower, c.decreases), (c.requires.within.live, element_room c.args.types.now (width c.args.side.now.memory64) c.args.address c.args.element.now c.args.count c.args.size c.loop.counter c.loop.at c.loop-test.true c.requires.size c.requires.room c.loop.invariant.0))

pub load_elements-returns-in-None : goal.load_elements-returns-in-None
load_elements-returns-in-None t c =
    λ s h. not_repeated (λ b. load c.args.side.now c.args.bytes.now s b) c.args.count c.args.size c.loop.counter c.loop.at c.args.address c.loop.values _ c.loop-test.true (c.in_ok-value.ensures s h) c.in-None.is (c.loop.invariant.1 s h)

pub load_elements-overflow_add-at : goal.load_elements-overflow_add-at
load_elements-overflow_add-at t c =
    omega (arith, element_fits c.args.address c.args.count c.args.size c.loop.counter c.loop.at c.from-at.result c.loop-test.true c.requires.room c.loop.invariant.0 c.from-at.ensures)

pub load_elements-loop-preserved : goal.load_elements-loop-preserved
load_elements-loop-preserved t c =
    (next_element c.args.address c.args.size c.loop.counter c.loop.at c.from-at.result c.loop.invariant.0 c.from-at.ensures, λ s h. repeating_on (λ b. load c.args.side.now c.args.bytes.now s b) c.args.count c.args.size c.loop.counter c.loop.at c.args.address _ c.loop.values _ c.in_ok-value.field-0 c.in-Some.value c.loop-test.true (c.in_ok-value.ensures s h) c.in-Some.is c.in_ok-push-in-Some.ensures.ok (ap (λ n. c.loop.at + n) c.from-at.ensures) (c.loop.invariant.1 s h))

pub load_elements-loop-init : goal.load_elements-loop-init
load_elements-loop-init t c =
    (omega arith, λ s h. subst (λ vs. Repeating (λ b. load c.args.side.now c.args.bytes.now s b) c.args.count c.args.size 0 c.args.address c.args.address vs) (sym c.new-values.ensures) (repeating_starts (λ b. load c.args.side.now c.args.bytes.now s b) c.args.count c.args.size c.args.address))

pub load_entries-load_members-requires : goal.load_entries-load_members-requires
load_entries-load_members-requires t c =
    let room = entries_room c.args.types.now (width c.args.side.now.memory64) c.args.address c.args.node.now.types c.args.count c.args.size c.loop.counter c.loop.at c.loop-test.true (omega (arith, c.ranges.size.fits)) c.requires.room c.loop.invariant.0 c.requires.few in
    (omega (arith, c.decreases), (subst (λ xs. AreLower c.args.types.now c.args.owner.now xs) (sym c.as_slice-members.ensures) c.requires.within, subst (λ xs. RoomForMembers c.args.types.now (width c.args.side.now.memory64) c.loop.at xs) (sym c.as_slice-members.ensures) room))

pub load_entries-returns-in_default : goal.load_entries-returns-in_default
load_entries-returns-in_default t c = λ ms are.
    not_repeated (λ b. load_members c.args.side.now c.args.bytes.now ms b 0 >>= (λ vs. entry_of vs)) c.args.count c.args.size c.loop.counter c.loop.at c.args.address c.loop.entries None c.loop-test.true (no_entry_read (λ b. load_members c.args.side.now c.args.bytes.now ms b 0) c.loop.at c.in_ok-values.field-0 (c.in_ok-values.ensures ms (subst (λ xs. AreOf c.args.types.now xs ms) (sym c.as_slice-members.ensures) are)) c.in_default.is) refl (c.loop.invariant.2 ms are)

pub load_entries-returns-in_default-entry_of : goal.load_entries-returns-in_default-entry_of
load_entries-returns-in_default-entry_of t c = λ ms are.
    not_repeated (λ b. load_members c.args.side.now c.args.bytes.now ms b 0 >>= (λ vs. entry_of vs)) c.args.count c.args.size c.loop.counter c.loop.at c.args.address c.loop.entries c.entry_of.result c.loop-test.true (entry_read (λ b. load_members c.args.side.now c.args.bytes.now ms b 0) c.loop.at c.in_ok-values.field-0 c.in-Some.values c.entry_of.result (c.in_ok-values.ensures ms (subst (λ xs. AreOf c.args.types.now xs ms) (sym c.as_slice-members.ensures) are)) c.in-Some.is c.entry_of.ensures) c.in_default-entry_of.is (c.loop.invariant.2 ms are)

pub load_entries-loop-preserved : goal.load_entries-loop-preserved
load_entries-loop-preserved t c = (
  next_element c.args.address c.args.size c.loop.counter c.loop.at c.from-at.result c.loop.invariant.0 c.from-at.ensures,
  c.as_slice-members.ensures,
  λ ms are.
      repeating_on (λ b. load_members c.args.side.now c.args.bytes.now ms b 0 >>= (λ vs. entry_of vs)) c.args.count c.args.size c.loop.counter c.loop.at c.args.address _ c.loop.entries _ c.entry_of.result c.in-Some-entry_of.entry c.loop-test.true (entry_read (λ b. load_members c.args.side.now c.args.bytes.now ms b 0) c.loop.at c.in_ok-values.field-0 c.in-Some.values c.entry_of.result (c.in_ok-values.ensures ms (subst (λ xs. AreOf c.args.types.now xs ms) (sym c.as_slice-members.ensures) are)) c.in-Some.is c.entry_of.ensures) c.in-Some-entry_of.is c.in_ok-push.ensures.ok (ap (λ n. c.loop.at + n) c.from-at.ensures) (c.loop.invariant.2 ms are),
)

pub load_entries-returns : goal.load_entries-returns
load_entries-returns t c = λ ms are. all_repeated (λ b. load_members c.args.side.now c.args.bytes.now ms b 0 >>= (λ vs. entry_of vs)) c.args.count c.args.size c.loop.counter c.loop.at c.args.address c.loop.entries (omega (arith, c.loop-test.false)) (c.loop.invariant.2 ms are)

pub map_behind-returns-in-None : goal.map_behind-returns-in-None
map_behind-returns-in-None t c = λ ms h are. ap (option_map (λ es. value.Map es)) (sym c.in-None.is) ∙ map_loads c.args.side.now c.args.bytes.now ms (record { pointer = c.args.pointer; count = c.args.count }) c.entry_extent-size.result.0 c.entry_extent-size.result.1 c.in_ok-entries.field-0 (c.entry_extent-size.ensures.size ms h) (c.entry_extent-size.ensures.align ms h)
    (range_told c.args.bytes.now c.is_in_range.result c.from-3.result c.entry_extent-size.result.1 c.args.pointer c.from.result c.args.count c.from-2.result c.entry_extent-size.result.0 true c.is_in_range.ensures c.from-3.ensures c.from.ensures c.from-2.ensures c.if-not-is_in_range.false) (c.in_ok-entries.ensures ms are ∙ ap (λ b. each_at c.args.count c.entry_extent-size.result.0 (λ b. load_members c.args.side.now c.args.bytes.now ms b 0 >>= (λ vs. entry_of vs)) b) c.from-start.ensures)

pub map_behind-returns-in-Some : goal.map_behind-returns-in-Some
map_behind-returns-in-Some t c = λ ms h are. ap (option_map (λ es. value.Map es)) (sym c.in-Some.is) ∙ map_loads c.args.side.now c.args.bytes.now ms (record { pointer = c.args.pointer; count = c.args.count }) c.entry_extent-size.result.0 c.entry_extent-size.result.1 c.in_ok-entries.field-0 (c.entry_extent-size.ensures.size ms h) (c.entry_extent-size.ensures.align ms h)
    (range_told c.args.bytes.now c.is_in_range.result c.from-3.result c.entry_extent-size.result.1 c.args.pointer c.from.result c.args.count c.from-2.result c.entry_extent-size.result.0 true c.is_in_range.ensures c.from-3.ensures c.from.ensures c.from-2.ensures c.if-not-is_in_range.false) (c.in_ok-entries.ensures ms are ∙ ap (λ b. each_at c.args.count c.entry_extent-size.result.0 (λ b. load_members c.args.side.now c.args.bytes.now ms b 0 >>= (λ vs. entry_of vs)) b) c.from-start.ensures)

pub load_map-returns-in_default : goal.load_map-returns-in_default
load_map-returns-in_default t c = λ ms h are. no_map_pair c.args.side.now c.args.bytes.now c.args.address ms c.in_default.ensures

pub map_behind-returns-then-not-is_in_range : goal.map_behind-returns-then-not-is_in_range
map_behind-returns-then-not-is_in_range t c = λ ms h are. no_map_range c.args.side.now c.args.bytes.now ms (record { pointer = c.args.pointer; count = c.args.count }) c.entry_extent-size.result.0 c.entry_extent-size.result.1 (c.entry_extent-size.ensures.size ms h) (c.entry_extent-size.ensures.align ms h)
    (range_told c.args.bytes.now c.is_in_range.result c.from-3.result c.entry_extent-size.result.1 c.args.pointer c.from.result c.args.count c.from-2.result c.entry_extent-size.result.0 false c.is_in_range.ensures c.from-3.ensures c.from.ensures c.from-2.ensures c.if-not-is_in_range.true)

pub map_behind-load_entries-requires : goal.map_behind-load_entries-requires
map_behind-load_entries-requires t c =
    let (ms, h, are) = c.requires.shaped in
    let end = range_small c.args.bytes.now c.entry_extent-size.result.1 c.args.pointer (c.args.count * c.entry_extent-size.result.0) (range_told c.args.bytes.now c.is_in_range.result c.from-3.result c.entry_extent-size.result.1 c.args.pointer c.from.result c.args.count c.from-2.result c.entry_extent-size.result.0 true c.is_in_range.ensures c.from-3.ensures c.from.ensures c.from-2.ensures c.if-not-is_in_range.false) in
    (omega (arith, c.decreases), (c.requires.within, ((ms, are, entries_end c.args.side.now ms c.entry_extent-size.result.0 (c.entry_extent-size.ensures.size ms h)), omega (arith, end, c.from-start.ensures))))

pub load_map-returns : goal.load_map-returns
load_map-returns t c =
    if_ok _ _ c.map_behind.result (λ o e ms h are. map_stands c.args.side.now c.args.bytes.now c.args.address ms (record { pointer = c.in-Some.pointer; count = c.in-Some.count }) o c.in-Some.ensures (e ms h are)) c.map_behind.ensures

pub load_node-returns-in-Flags : goal.load_node-returns-in-Flags
load_node-returns-in-Flags t c =
    if_ok _ _ c.load_flags.result (λ o e. by_kind c.args.types.now c.args.ty.now c.args.node.now is.Flags (λ s. o ≡ load c.args.side.now c.args.bytes.now s c.args.address) c.requires.told c.in-Flags.is (λ ms told. flags_load c.args.side.now c.args.bytes.now c.args.address ms c.args.node.now.names o told e)) c.load_flags.ensures

pub load_node-returns-in-Map : goal.load_node-returns-in-Map
load_node-returns-in-Map t c =
    if_ok _ _ c.load_map.result (λ o e s h.
    let q = of_kind c.args.types.now c.args.ty.now c.args.node.now (is.Map c.in-Map.field-0 c.in-Map.field-1) s c.requires.told c.in-Map.is h in
    subst (λ s. o ≡ load c.args.side.now c.args.bytes.now s c.args.address) (sym q.is) (e q.members (subst (HasShape c.args.types.now c.args.ty.now) q.is h) q.told.1)) c.load_map.ensures

pub load_node-load_map-requires : goal.load_node-load_map-requires
load_node-load_map-requires t c =
    let (s, h, d) = c.canonical_abi-whole.ensures.shaped in
    let o = of_kind c.args.types.now c.args.ty.now c.args.node.now (is.Map c.in-Map.field-0 c.in-Map.field-1) s c.requires.told c.in-Map.is h in
    (omega (arith, c.decreases), (c.requires.live, ((o.members, subst (HasShape c.args.types.now c.args.ty.now) o.is h, o.told.1), (c.requires.told.within, omega (arith, c.requires.room)))))
