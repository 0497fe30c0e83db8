use Rattle.std.proofs.Common.{◌≡◌, ◌∙◌, ap, sym, subst, get_or, length, arith}
use Rattle.std.specs.Prelude.{slice_get}
use Rattle.std.proofs.lemmas.Option.{slice_get-get_or, slice_get_within}
use Rattle.std.proofs.lemmas.Result.{on_ok_weaker}
use Rattle.fact_types.specs.Heights.{height}
use Rattle.fact_types.specs.Tables.{IsLive, Tables}
use Rattle.fact_types.specs.declared.interface.InterfaceType.{InterfaceType}
use Rattle.fact_types.specs.declared.kinds.TypeFixedLengthList.{TypeFixedLengthList}
use Rattle.fact_types.proofs.ShapeLaws.{same_some}
use Rattle.fact_types.proofs.HeightLaws.{fixed_length_list_within, list_within, map_key_within, map_value_within}
use Rattle.fact_code_laws.specs.Places.{From, To}
use Rattle.fact_emit.specs.declared.places.Sides.{Sides}
use Rattle.fact_emit.specs.declared.writer.Writer.{Writer}
use Rattle.fact_emit.specs.Places.{from_of, to_of}
use Rattle.fact_emit.proofs.Emitting.{grew_on}
use Rattle.fact_emit.proofs.RangedCode.{unreachable_ranged}
use Rattle.fact_emit.proofs.SidesImported.{sides_later, sides_same}
use Rattle.fact_kinds.specs.MemberPairs.{members_at}
use Rattle.fact_kinds.specs.Moved.{CalledHelper, MovedNode}
use Rattle.fact_kinds.specs.declared.fuel.Fuel.{Fuel}
use Rattle.fact_kinds.specs.Translations.{place_of_source, place_of_target}
use Rattle.fact_translate.proofs.ElementRuns.{element_passed, elements_begin, elements_end}
use Rattle.fact_translate.proofs.FixedMembers.{fixed_alone, fixed_locals_taken, fixed_moved, loop_at, loop_moved}
use Rattle.fact_kinds.proofs.ListMembers.{list_moved, list_alone, locals_taken}
use Rattle.fact_translate.proofs.MapMembers.{map_alone, map_laid, map_moved}
use Rattle.fact_kinds.proofs.MemberPairs.{bare_pair, no_pair, pair_at, record_of_pairs, tuple_of_pairs}
use Rattle.fact_kinds.proofs.MemberRuns.{members_begin, member_passed, next_fits, next_member, pairs_moved}
use Rattle.fact_emit.proofs.HandleMoves.{transfers_handles}
use Rattle.fact_kinds.proofs.HandleMoves.{handle_moved}
use Rattle.fact_kinds.proofs.Helped.{moved_in_place, value_called}
use Rattle.fact_kinds.proofs.NodeMoves.{value_moved, record_alone, tuple_alone, tuple_as_node, leaf_besides, leaf_moved, member_emits, member_missing}
use Rattle.fact_translate.proofs.SumCases.{bare_case, pair_fits}
use Rattle.fact_translate.proofs.SumEmits.{some_emits, payload_some, payload_alone, payload_none, case_moved, case_missing, bodies_begin, bodies_on, bodies_end, sum_by_emits, sum_around, variant_moved, variant_alone, option_moved, option_alone, result_moved, result_alone}
use Rattle.fact_kinds.proofs.TypeKinds.{list_members, map_members}
use Rattle.fact_translate.proofs.translate.+moving.Goals as goal
use Rattle.fact_kinds.proofs.Translating.{turns_from_stack, turns_in_memories, turns_to_stack}

-- a node by what its two types are
kinds_moved : {t : Tables} {from to kind kind' : InterfaceType} {sides : Sides} {src : From} {dst : To} {before after : Fuel} {first last : Writer} → from ≡ kind → to ≡ kind'
    → MovedNode t kind kind' sides src dst before after first last → MovedNode t from to sides src dst before after first last
kinds_moved {t} {from} {to} {kind} {kind'} {sides} {src} {dst} {before} {after} {first} {last} is is' m =
    subst (λ x. MovedNode t x to sides src dst before after first last) (sym is) (subst (λ y. MovedNode t kind y sides src dst before after first last) (sym is') m)

-- ---- values

-- a helper of the builder's tables, which are those of the types
builder_called : {t u : Tables} {from to : InterfaceType} {sides : Sides} {src : From} {dst : To} {first last : Writer} → u ≡ t → CalledHelper u from to sides src dst first last → CalledHelper t from to sides src dst first last
builder_called {from = from} {to} {sides} {src} {dst} {first} {last} same m = subst (λ t. CalledHelper t from to sides src dst first last) same m

pub translate-translate_in_place-requires : goal.translate-translate_in_place-requires
translate-translate_in_place-requires t c = (omega (arith, c.decreases), (c.requires.from_live, (c.requires.to_live, (c.requires.sides, (c.requires.tables, c.requires.told)))))

pub translate-call_helper-requires : goal.translate-call_helper-requires
translate-call_helper-requires t c = record {
  from_live = subst (λ t. IsLive t c.args.from) (sym c.requires.tables) c.requires.from_live;
  to_live = subst (λ t. IsLive t c.args.to) (sym c.requires.tables) c.requires.to_live;
  sides = c.requires.sides;
  told = c.requires.told;
}

pub translate-returns-in_ok-translate_in_place : goal.translate-returns-in_ok-translate_in_place
translate-returns-in_ok-translate_in_place t c = moved_in_place (record { is = c.cost.ensures }) c.covers.ensures c.if-covers.true c.in_ok-translate_in_place.ensures

pub translate-returns-in_ok-call_helper : goal.translate-returns-in_ok-call_helper
translate-returns-in_ok-call_helper t c = value_called (record { is = c.cost.ensures }) c.covers.ensures c.if-covers.false (builder_called c.requires.tables c.in_ok-call_helper.ensures)

pub translate_in_place-move_node-requires : goal.translate_in_place-move_node-requires
translate_in_place-move_node-requires t c = (omega (arith, c.decreases), (c.requires.from_live, (c.requires.to_live, (sides_later c.in_ok-check_places.ensures.grew.imports c.requires.sides, (c.requires.tables, (c.requires.told, sym c.handle_transfer.ensures ∙ c.in-None.is))))))

pub translate_in_place-move_handle-requires : goal.translate_in_place-move_handle-requires
translate_in_place-move_handle-requires t c = transfers_handles c.args.from c.args.to c.in-Some.transfer (sym c.handle_transfer.ensures ∙ c.in-Some.is)

pub translate_in_place-returns-in_ok-move_handle-in-Some : goal.translate_in_place-returns-in_ok-move_handle-in-Some
translate_in_place-returns-in_ok-move_handle-in-Some t c = value_moved (record { is = c.cost.ensures }) c.take.ensures.initial c.take.ensures.left c.in_ok-check_places.ensures (handle_moved c.in-Some.transfer c.handle_transfer.ensures c.in-Some.is c.in_ok-move_handle-in-Some.ensures)

pub translate_in_place-returns-in_ok-move_node-in-None : goal.translate_in_place-returns-in_ok-move_node-in-None
translate_in_place-returns-in_ok-move_node-in-None t c = value_moved (record { is = c.cost.ensures }) c.take.ensures.initial c.take.ensures.left c.in_ok-check_places.ensures c.in_ok-move_node-in-None.ensures

pub move_node-move_record-requires : goal.move_node-move_record-requires
move_node-move_record-requires t c = (omega (arith, c.decreases, ap (height c.args.types.now) c.in-Record-to.is), (subst (IsLive c.args.types.now) c.in-Record.is c.requires.from_live, (subst (IsLive c.args.types.now) c.in-Record-to.is c.requires.to_live, (c.requires.sides, (c.requires.tables, c.requires.told)))))

pub move_node-returns-in_ok-move_record-in-Record-to : goal.move_node-returns-in_ok-move_record-in-Record-to
move_node-returns-in_ok-move_record-in-Record-to t c = kinds_moved c.in-Record.is c.in-Record-to.is c.in_ok-move_record-in-Record-to.ensures

pub move_node-move_variant-requires : goal.move_node-move_variant-requires
move_node-move_variant-requires t c = (omega (arith, c.decreases, ap (height c.args.types.now) c.in-Variant-to.is), (subst (IsLive c.args.types.now) c.in-Variant.is c.requires.from_live, (subst (IsLive c.args.types.now) c.in-Variant-to.is c.requires.to_live, (c.requires.sides, (c.requires.tables, c.requires.told)))))

pub move_node-returns-in_ok-move_variant-in-Variant-to : goal.move_node-returns-in_ok-move_variant-in-Variant-to
move_node-returns-in_ok-move_variant-in-Variant-to t c = kinds_moved c.in-Variant.is c.in-Variant-to.is c.in_ok-move_variant-in-Variant-to.ensures

pub move_node-move_option-requires : goal.move_node-move_option-requires
move_node-move_option-requires t c = (omega (arith, c.decreases, ap (height c.args.types.now) c.in-Option-to.is), (subst (IsLive c.args.types.now) c.in-Option.is c.requires.from_live, (subst (IsLive c.args.types.now) c.in-Option-to.is c.requires.to_live, (c.requires.sides, (c.requires.tables, c.requires.told)))))

pub move_node-returns-in_ok-move_option-in-Option-to : goal.move_node-returns-in_ok-move_option-in-Option-to
move_node-returns-in_ok-move_option-in-Option-to t c = kinds_moved c.in-Option.is c.in-Option-to.is c.in_ok-move_option-in-Option-to.ensures

pub move_node-move_result-requires : goal.move_node-move_result-requires
move_node-move_result-requires t c = (omega (arith, c.decreases, ap (height c.args.types.now) c.in-Result-to.is), (subst (IsLive c.args.types.now) c.in-Result.is c.requires.from_live, (subst (IsLive c.args.types.now) c.in-Result-to.is c.requires.to_live, (c.requires.sides, (c.requires.tables, c.requires.told)))))

pub move_node-returns-in_ok-move_result-in-Result-to : goal.move_node-returns-in_ok-move_result-in-Result-to
move_node-returns-in_ok-move_result-in-Result-to t c = kinds_moved c.in-Result.is c.in-Result-to.is c.in_ok-move_result-in-Result-to.ensures

pub move_node-move_list-requires : goal.move_node-move_list-requires
move_node-move_list-requires t c = (omega (arith, c.decreases, ap (height c.args.types.now) c.in-List-to.is), (subst (IsLive c.args.types.now) c.in-List.is c.requires.from_live, (subst (IsLive c.args.types.now) c.in-List-to.is c.requires.to_live, (c.requires.sides, (c.requires.tables, c.requires.told)))))

pub move_node-returns-in_ok-move_list-in-List-to : goal.move_node-returns-in_ok-move_list-in-List-to
move_node-returns-in_ok-move_list-in-List-to t c = kinds_moved c.in-List.is c.in-List-to.is c.in_ok-move_list-in-List-to.ensures

pub move_node-move_map-requires : goal.move_node-move_map-requires
move_node-move_map-requires t c = (omega (arith, c.decreases, ap (height c.args.types.now) c.in-Map-to.is), (subst (IsLive c.args.types.now) c.in-Map.is c.requires.from_live, (subst (IsLive c.args.types.now) c.in-Map-to.is c.requires.to_live, (c.requires.sides, (c.requires.tables, c.requires.told)))))

pub move_node-returns-in_ok-move_map-in-Map-to : goal.move_node-returns-in_ok-move_map-in-Map-to
move_node-returns-in_ok-move_map-in-Map-to t c = kinds_moved c.in-Map.is c.in-Map-to.is c.in_ok-move_map-in-Map-to.ensures

pub move_node-move_fixed_list-requires : goal.move_node-move_fixed_list-requires
move_node-move_fixed_list-requires t c = (omega (arith, c.decreases, ap (height c.args.types.now) c.in-FixedLengthList-to.is), (subst (IsLive c.args.types.now) c.in-FixedLengthList.is c.requires.from_live, (subst (IsLive c.args.types.now) c.in-FixedLengthList-to.is c.requires.to_live, (c.requires.sides, (c.requires.tables, c.requires.told)))))

pub move_node-returns-in_ok-move_fixed_list-in-FixedLengthList-to : goal.move_node-returns-in_ok-move_fixed_list-in-FixedLengthList-to
move_node-returns-in_ok-move_fixed_list-in-FixedLengthList-to t c = kinds_moved c.in-FixedLengthList.is c.in-FixedLengthList-to.is c.in_ok-move_fixed_list-in-FixedLengthList-to.ensures

pub move_node-move_tuple-requires : goal.move_node-move_tuple-requires
move_node-move_tuple-requires t c = (omega (arith, c.decreases, ap (height c.args.types.now) c.in-Tuple-to.is), (subst (IsLive c.args.types.now) c.in-Tuple.is c.requires.from_live, (subst (IsLive c.args.types.now) c.in-Tuple-to.is c.requires.to_live, (c.requires.sides, (c.requires.tables, c.requires.told)))))

pub move_node-returns-in_ok-put-in_default-to : goal.move_node-returns-in_ok-put-in_default-to
move_node-returns-in_ok-put-in_default-to t c =
    record_alone unreachable_ranged c.in-Record.i c.args.to c.in-Record.is c.in_default-to.not-Record c.in_ok-put-in_default-to.ensures

pub move_node-returns-in_ok-move_tuple-in-Tuple-to : goal.move_node-returns-in_ok-move_tuple-in-Tuple-to
move_node-returns-in_ok-move_tuple-in-Tuple-to t c = tuple_as_node c.in-Tuple.is c.in-Tuple-to.is c.in_ok-move_tuple-in-Tuple-to.ensures

pub move_node-returns-in_ok-put-in_default-to-2 : goal.move_node-returns-in_ok-put-in_default-to-2
move_node-returns-in_ok-put-in_default-to-2 t c =
    tuple_alone unreachable_ranged c.in-Tuple.i c.args.to c.in-Tuple.is c.in_default-to-2.not-Tuple c.in_ok-put-in_default-to-2.ensures

pub move_node-returns-in_ok-put-in_default-to-3 : goal.move_node-returns-in_ok-put-in_default-to-3
move_node-returns-in_ok-put-in_default-to-3 t c =
    variant_alone unreachable_ranged c.in-Variant.i c.args.to c.in-Variant.is c.in_default-to-3.not-Variant c.in_ok-put-in_default-to-3.ensures

pub move_node-returns-in_ok-put-in_default-to-4 : goal.move_node-returns-in_ok-put-in_default-to-4
move_node-returns-in_ok-put-in_default-to-4 t c =
    option_alone unreachable_ranged c.in-Option.i c.args.to c.in-Option.is c.in_default-to-4.not-Option c.in_ok-put-in_default-to-4.ensures

pub move_node-returns-in_ok-put-in_default-to-5 : goal.move_node-returns-in_ok-put-in_default-to-5
move_node-returns-in_ok-put-in_default-to-5 t c =
    result_alone unreachable_ranged c.in-Result.i c.args.to c.in-Result.is c.in_default-to-5.not-Result c.in_ok-put-in_default-to-5.ensures

pub move_node-returns-in_ok-put-in_default-to-6 : goal.move_node-returns-in_ok-put-in_default-to-6
move_node-returns-in_ok-put-in_default-to-6 t c =
    list_alone unreachable_ranged c.in-List.i c.args.to c.in-List.is c.in_default-to-6.not-List c.in_ok-put-in_default-to-6.ensures

pub move_node-returns-in_ok-put-in_default-to-7 : goal.move_node-returns-in_ok-put-in_default-to-7
move_node-returns-in_ok-put-in_default-to-7 t c =
    map_alone unreachable_ranged c.in-Map.i c.args.to c.in-Map.is c.in_default-to-7.not-Map c.in_ok-put-in_default-to-7.ensures

pub move_node-returns-in_ok-put-in_default-to-8 : goal.move_node-returns-in_ok-put-in_default-to-8
move_node-returns-in_ok-put-in_default-to-8 t c =
    fixed_alone unreachable_ranged c.in-FixedLengthList.i c.args.to c.in-FixedLengthList.is c.in_default-to-8.not-FixedLengthList c.in_ok-put-in_default-to-8.ensures

pub move_node-move_leaf-requires-clause-leaf : goal.move_node-move_leaf-requires-clause-leaf
move_node-move_leaf-requires-clause-leaf t c =
    leaf_besides c.args.types.now c.in_default.not-Record c.in_default.not-Tuple c.in_default.not-Variant c.in_default.not-Option c.in_default.not-Result c.in_default.not-List c.in_default.not-Map c.in_default.not-FixedLengthList

pub move_node-returns-in_ok-move_leaf-in_default : goal.move_node-returns-in_ok-move_leaf-in_default
move_node-returns-in_ok-move_leaf-in_default t c =
    leaf_moved (leaf_besides c.args.types.now c.in_default.not-Record c.in_default.not-Tuple c.in_default.not-Variant c.in_default.not-Option c.in_default.not-Result c.in_default.not-List c.in_default.not-Map c.in_default.not-FixedLengthList)
    c.in_ok-move_leaf-in_default.ensures

pub move_member-returns-in_ok-translate-in-Some : goal.move_member-returns-in_ok-translate-in-Some
move_member-returns-in_ok-translate-in-Some t c =
    member_emits _ _ _ c.in-Some.is (c.from-skip.ensures ∙ c.unwrap_or.ensures) c.flat_length-count.ensures c.byte_place-bytes.ensures (c.part-part.ensures c.args.sides.from) c.in_ok-translate-in-Some.ensures

pub move_member-returns-in_ok-put-in-None : goal.move_member-returns-in_ok-put-in-None
move_member-returns-in_ok-put-in-None t c = member_missing unreachable_ranged c.in-None.is c.in_ok-put-in-None.ensures

-- ---- members

pub move_pairs-loop-pair-init : goal.move_pairs-loop-pair-init
move_pairs-loop-pair-init t c = members_begin

pub move_pairs-canonical_abi-requires : goal.move_pairs-canonical_abi-requires
move_pairs-canonical_abi-requires t c = (pair_at c.loop-pair.pair-index c.requires.pairs c.loop-pair-test.true).pair.within.live

pub move_pairs-next_place-place-requires : goal.move_pairs-next_place-place-requires
move_pairs-next_place-place-requires t c =
    let (ns, has, within) = c.requires.pairs.whole in
    let p = pair_at c.loop-pair.pair-index c.requires.pairs c.loop-pair-test.true in
    let xs = members_at c.args.types.now c.args.whole in
    let left = c.loop-pair.invariant.left ns has in
    let f = next_member {xs = xs} {i = c.loop-pair.pair-index} left.rest p.at left.has in
    next_fits {xs = xs} c.canonical_abi.result.now within left f (c.canonical_abi.ensures.laid f.shape f.shaped)

pub move_pairs-flat_length-count-requires : goal.move_pairs-flat_length-count-requires
move_pairs-flat_length-count-requires t c = (pair_at c.loop-pair.pair-index c.requires.pairs c.loop-pair-test.true).pair.within.live

pub move_pairs-move_member-requires : goal.move_pairs-move_member-requires
move_pairs-move_member-requires t c =
    let p = (pair_at c.loop-pair.pair-index c.requires.pairs c.loop-pair-test.true).pair in
    (omega (arith, p.within.lower, c.decreases), (p.found_live, (p.within.live, (sides_later c.loop-pair.invariant.grew.imports c.requires.sides, (c.requires.tables, c.requires.told)))))

pub move_pairs-loop-pair-preserved : goal.move_pairs-loop-pair-preserved
move_pairs-loop-pair-preserved t c =
    let p = pair_at c.loop-pair.pair-index c.requires.pairs c.loop-pair-test.true in
    member_passed p.name (get_or c.args.pairs.now c.loop-pair.pair-index bare_pair).ty p.at p.pair.within.lower p.finds
    c.canonical_abi.ensures.laid c.flat_length-count.ensures c.next_place-place.ensures.place c.next_place-place.ensures.moved
    (c.part-spot.ensures c.args.sides.to) (c.past-rest.ensures c.args.sides.to) c.in_ok-move_member.ensures c.loop-pair.invariant

pub move_pairs-returns : goal.move_pairs-returns
move_pairs-returns t c = pairs_moved (no_pair c.loop-pair.pair-index c.requires.pairs (omega (arith, c.loop-pair-test.false))) c.loop-pair.invariant

-- ---- records and tuples

pub move_record-returns : goal.move_record-returns
move_record-returns t c = on_ok_weaker c.move_pairs-moved.result (record_of_pairs c.as_slice-slice.ensures.value c.args.from c.args.to c.in_ok-pairs.ensures) c.move_pairs-moved.ensures

pub move_tuple-returns : goal.move_tuple-returns
move_tuple-returns t c = on_ok_weaker c.move_pairs-moved.result (tuple_of_pairs c.as_slice-slice.ensures.value c.args.from c.args.to c.in_ok-pairs.ensures) c.move_pairs-moved.ensures

-- ---- variants, options and results

pub move_sum-move_sum_by-requires : goal.move_sum-move_sum_by-requires
move_sum-move_sum_by-requires t c = (omega (arith, c.decreases), (c.requires.from_live, (c.requires.to_live, (c.requires.cases, (sides_same c.in_ok-local.ensures.imports c.requires.sides, (c.requires.tables, c.requires.told))))))

pub move_sum_by-case_bodies-requires : goal.move_sum_by-case_bodies-requires
move_sum_by-case_bodies-requires t c =
    let sides = sides_same c.in_ok-put.ensures.imports (sides_later c.in_ok-read_number.ensures.grew.imports c.requires.sides) in
    (omega (arith, c.decreases), (c.requires.from_live, (c.requires.to_live, (c.requires.cases, (sides, (c.requires.tables, c.requires.told))))))

pub move_variant-returns : goal.move_variant-returns
move_variant-returns t c = variant_moved c.args.from c.args.to c.in_ok-move_sum.ensures

pub move_option-returns : goal.move_option-returns
move_option-returns t c = option_moved c.args.from c.args.to c.in_ok-move_sum.ensures

pub move_result-returns : goal.move_result-returns
move_result-returns t c = result_moved c.args.from c.args.to c.in_ok-move_sum.ensures

pub move_sum-free_local-requires : goal.move_sum-free_local-requires
move_sum-free_local-requires t c = c.in_ok-move_sum_by.ensures.grew.still c.in_ok-local.local ∙ c.in_ok-local.ensures.taken

pub move_sum-returns : goal.move_sum-returns
move_sum-returns t c = sum_around c.in_ok-local.ensures c.in_ok-move_sum_by.ensures c.in_ok-free_local.ensures

pub move_sum_by-returns : goal.move_sum_by-returns
move_sum_by-returns t c =
    sum_by_emits c.args.local c.reveal.ensures.sound c.requires.cases c.discriminant_number-size.ensures c.in_ok-read_number.ensures c.in_ok-put.ensures c.in_ok-bodies.ensures c.in_ok-put_cases.ensures

pub case_bodies-loop-case-init : goal.case_bodies-loop-case-init
case_bodies-loop-case-init t c = (rw c.new-bodies.ensures.items bodies_begin, omega arith)

pub case_bodies-move_case-requires : goal.case_bodies-move_case-requires
case_bodies-move_case-requires t c =
    let there = ap (λ ps. slice_get ps c.loop-case.case-index) (sym c.as_slice-case-items.ensures.value) ∙ slice_get-get_or c.as_slice-case-items.result.now c.loop-case.case-index bare_case c.loop-case-test.true in
    let fits = pair_fits c.args.types.now c.reveal.ensures.sound c.args.from c.args.to c.args.sum.now c.requires.from_live c.requires.to_live c.requires.cases c.loop-case.case-index _ there in
    let sides = sides_same c.begin-outer.ensures.imports (sides_later c.loop-case.invariant.0.grew.imports c.requires.sides) in
    (omega (arith, fits.lower, c.decreases), (fits.from_live, (fits.to_live, (sides, (c.requires.tables, c.requires.told)))))

pub case_bodies-loop-case-preserved : goal.case_bodies-loop-case-preserved
case_bodies-loop-case-preserved t c =
    let there = ap (λ ps. slice_get ps c.loop-case.case-index) (sym c.as_slice-case-items.ensures.value) ∙ slice_get-get_or c.as_slice-case-items.result.now c.loop-case.case-index bare_case c.loop-case-test.true in
    let fits = pair_fits c.args.types.now c.reveal.ensures.sound c.args.from c.args.to c.args.sum.now c.requires.from_live c.requires.to_live c.requires.cases c.loop-case.case-index _ there in (
      bodies_on _ c.reveal.ensures.sound c.requires.cases there fits.lower c.begin-outer.ensures c.in_ok-move_case.ensures c.end-body.ensures c.in_ok-push.ensures.items c.loop-case.invariant.0,
      omega (arith, slice_get_within c.args.sum.now.cases.items c.loop-case.case-index _ there),
    )

pub case_bodies-returns : goal.case_bodies-returns
case_bodies-returns t c =
    bodies_end (omega (arith, c.loop-case.invariant.1, c.loop-case-test.false, ap length c.as_slice-case-items.ensures.value)) c.loop-case.invariant.0

pub move_case-returns-in_ok-move_payload-in-Some : goal.move_case-returns-in_ok-move_payload-in-Some
move_case-returns-in_ok-move_payload-in-Some t c =
    case_moved c.args.case c.in-Some.found c.in-Some.is c.discriminant_number-size.ensures c.put_discriminant.ensures.below c.in_ok-put_discriminant-in-Some.ensures.wrote c.in_ok-move_payload-in-Some.ensures

pub move_case-returns-in_ok-put-in-None : goal.move_case-returns-in_ok-put-in-None
move_case-returns-in_ok-put-in-None t c = case_missing unreachable_ranged c.args.case c.in-None.is c.in_ok-put-in-None.ensures

pub move_payload-returns-in_ok-move_some-in-Some-to : goal.move_payload-returns-in_ok-move_some-in-Some-to
move_payload-returns-in_ok-move_some-in-Some-to t c =
    payload_some c.args.from c.args.to c.in-Some.from c.in-Some-to.to c.in-Some.is c.in-Some-to.is c.in_ok-move_some-in-Some-to.ensures

pub move_payload-returns-in_ok-put-in-None-to : goal.move_payload-returns-in_ok-put-in-None-to
move_payload-returns-in_ok-put-in-None-to t c = payload_alone c.args.from c.args.to unreachable_ranged c.in-Some.from c.in-Some.is c.in-None-to.is c.in_ok-put-in-None-to.ensures

pub move_payload-returns-in_ok-put_left_over-in-None : goal.move_payload-returns-in_ok-put_left_over-in-None
move_payload-returns-in_ok-put_left_over-in-None t c =
    payload_none c.args.from c.args.to c.in-None.is (c.past.ensures c.args.sides.to) c.in_ok-put_left_over-in-None.ensures

pub move_some-returns : goal.move_some-returns
move_some-returns t c =
    some_emits c.flat_length.result c.flat_length-count.result c.flat_length.ensures c.payload_place-bytes.ensures c.flat_length-count.ensures c.payload_place.ensures
    (c.part-part.ensures c.args.sides.from) (c.past-rest.ensures c.args.sides.to) (c.part-spot.ensures c.args.sides.to) (c.past.ensures c.args.sides.to) c.in_ok-translate.ensures c.in_ok-put_left_over.ensures

-- ---- lists

pub move_list-byte_count-requires : goal.move_list-byte_count-requires
move_list-byte_count-requires t c = (list_within c.args.types.now c.reveal.ensures.sound c.args.from c.index.result.now c.index.ensures).live

pub move_list-alignment-requires : goal.move_list-alignment-requires
move_list-alignment-requires t c = (list_within c.args.types.now c.reveal.ensures.sound c.args.from c.index.result.now c.index.ensures).live

pub move_list-byte_count-requires-2 : goal.move_list-byte_count-requires-2
move_list-byte_count-requires-2 t c = (list_within c.args.types.now c.reveal.ensures.sound c.args.to c.index-2.result.now c.index-2.ensures).live

pub move_list-alignment-requires-2 : goal.move_list-alignment-requires-2
move_list-alignment-requires-2 t c = (list_within c.args.types.now c.reveal.ensures.sound c.args.to c.index-2.result.now c.index-2.ensures).live

pub move_list-open_list-requires : goal.move_list-open_list-requires
move_list-open_list-requires t c = record {
  from_size = c.byte_count.ensures.some;
  to_size = c.byte_count-2.ensures.some;
  from_align = c.alignment.ensures.some;
  to_align = c.alignment-2.ensures.some;
  realloc = (sides_same c.in_ok-locals.ensures.imports c.requires.sides).realloc;
}

pub move_list-translate-requires : goal.move_list-translate-requires
move_list-translate-requires t c =
    let from = list_within c.args.types.now c.reveal.ensures.sound c.args.from c.index.result.now c.index.ensures in
    let to = list_within c.args.types.now c.reveal.ensures.sound c.args.to c.index-2.result.now c.index-2.ensures in
    let sides = sides_same c.begin-outer.ensures.imports (sides_later c.in_ok-open_list.ensures.grew.imports (sides_same c.in_ok-locals.ensures.imports c.requires.sides)) in
    (omega (arith, to.lower, c.decreases), (from.live, (to.live, (sides, (c.requires.tables, c.requires.told)))))

pub move_list-free_list_locals-requires : goal.move_list-free_list_locals-requires
move_list-free_list_locals-requires t c =
    let h = locals_taken {sides = c.args.sides} c.in_ok-locals.ensures c.in_ok-open_list.ensures.grew c.begin-outer.ensures c.in_ok-translate.ensures.grew c.in_ok-close_list.ensures in
    record { taken = h.0; distinct = h.1 }

pub move_list-returns : goal.move_list-returns
move_list-returns t c =
    list_moved c.in_ok-locals.ensures c.in_ok-open_list.ensures c.begin-outer.ensures c.in_ok-translate.ensures c.in_ok-close_list.ensures c.in_ok-free_list_locals.ensures
    (record { size_is = c.byte_count.ensures.is; align_is = c.alignment.ensures.is; small = c.byte_count.ensures.small })
    (record { size_is = c.byte_count-2.ensures.is; align_is = c.alignment-2.ensures.is; small = c.byte_count-2.ensures.small })
    c.args.from c.args.to (list_members c.args.types.now c.args.from c.index.result.now c.index.ensures) (list_members c.args.types.now c.args.to c.index-2.result.now c.index-2.ensures)
    (list_within c.args.types.now c.reveal.ensures.sound c.args.to c.index-2.result.now c.index-2.ensures).lower

-- ---- lists of fixed length

pub move_fixed_list-byte_count-requires : goal.move_fixed_list-byte_count-requires
move_fixed_list-byte_count-requires t c = (fixed_length_list_within c.args.types.now c.reveal.ensures.sound c.args.from c.index.result.now c.index.ensures).live

pub move_fixed_list-byte_count-requires-2 : goal.move_fixed_list-byte_count-requires-2
move_fixed_list-byte_count-requires-2 t c = (fixed_length_list_within c.args.types.now c.reveal.ensures.sound c.args.to c.index-2.result.now c.index-2.ensures).live

pub move_fixed_list-move_by_loop-requires : goal.move_fixed_list-move_by_loop-requires
move_fixed_list-move_by_loop-requires t c =
    let from = fixed_length_list_within c.args.types.now c.reveal.ensures.sound c.args.from c.index.result.now c.index.ensures in
    let to = fixed_length_list_within c.args.types.now c.reveal.ensures.sound c.args.to c.index-2.result.now c.index-2.ensures in
    (omega (arith, to.lower, c.decreases), (from.live, (to.live, (c.requires.sides, (c.requires.tables, c.requires.told)))))

pub move_fixed_list-move_one_by_one-requires : goal.move_fixed_list-move_one_by_one-requires
move_fixed_list-move_one_by_one-requires t c =
    let from = fixed_length_list_within c.args.types.now c.reveal.ensures.sound c.args.from c.index.result.now c.index.ensures in
    let to = fixed_length_list_within c.args.types.now c.reveal.ensures.sound c.args.to c.index-2.result.now c.index-2.ensures in
    (omega (arith, to.lower, c.decreases), (from.live, (to.live, (c.requires.sides, (c.requires.tables, c.requires.told)))))

pub move_fixed_list-move_one_by_one-requires-in-Locals : goal.move_fixed_list-move_one_by_one-requires-in-Locals
move_fixed_list-move_one_by_one-requires-in-Locals t c =
    let from = fixed_length_list_within c.args.types.now c.reveal.ensures.sound c.args.from c.index.result.now c.index.ensures in
    let to = fixed_length_list_within c.args.types.now c.reveal.ensures.sound c.args.to c.index-2.result.now c.index-2.ensures in
    (omega (arith, to.lower, c.decreases), (from.live, (to.live, (c.requires.sides, (c.requires.tables, c.requires.told)))))

pub move_fixed_list-returns-in_ok-move_by_loop-in-Memory-target : goal.move_fixed_list-returns-in_ok-move_by_loop-in-Memory-target
move_fixed_list-returns-in_ok-move_by_loop-in-Memory-target t c =
    fixed_moved (loop_at c.in-Memory.at c.in-Memory-target.spot c.in-Memory.is c.in-Memory-target.is c.in_ok-move_by_loop-in-Memory-target.ensures)
    (ap (λ (e : TypeFixedLengthList). e.size) (same_some _ c.index-3.result.now c.index-2.result.now c.index-3.ensures c.index-2.ensures))
    (turns_in_memories _ (ap place_of_source (ap (from_of c.args.sides.from) c.in-Memory.is)) (ap place_of_target (ap (to_of c.args.sides.to) c.in-Memory-target.is)))
    (record { some = c.byte_count.ensures.some; is = c.byte_count.ensures.is }) (record { some = c.byte_count-2.ensures.some; is = c.byte_count-2.ensures.is }) c.args.from c.args.to c.index.ensures c.index-2.ensures
    (fixed_length_list_within c.args.types.now c.reveal.ensures.sound c.args.to c.index-2.result.now c.index-2.ensures).lower

pub move_fixed_list-returns-in_ok-move_one_by_one-in-Locals-target : goal.move_fixed_list-returns-in_ok-move_one_by_one-in-Locals-target
move_fixed_list-returns-in_ok-move_one_by_one-in-Locals-target t c =
    fixed_moved c.in_ok-move_one_by_one-in-Locals-target.ensures
    (ap (λ (e : TypeFixedLengthList). e.size) (same_some _ c.index-3.result.now c.index-2.result.now c.index-3.ensures c.index-2.ensures))
    (turns_to_stack _ (ap place_of_target (ap (to_of c.args.sides.to) c.in-Locals-target.is)))
    (record { some = c.byte_count.ensures.some; is = c.byte_count.ensures.is }) (record { some = c.byte_count-2.ensures.some; is = c.byte_count-2.ensures.is }) c.args.from c.args.to c.index.ensures c.index-2.ensures
    (fixed_length_list_within c.args.types.now c.reveal.ensures.sound c.args.to c.index-2.result.now c.index-2.ensures).lower

pub move_fixed_list-returns-in_ok-move_one_by_one-in-Locals : goal.move_fixed_list-returns-in_ok-move_one_by_one-in-Locals
move_fixed_list-returns-in_ok-move_one_by_one-in-Locals t c =
    fixed_moved c.in_ok-move_one_by_one-in-Locals.ensures
    (ap (λ (e : TypeFixedLengthList). e.size) (same_some _ c.index-3.result.now c.index-2.result.now c.index-3.ensures c.index-2.ensures))
    (turns_from_stack _ (ap place_of_source (ap (from_of c.args.sides.from) c.in-Locals.is)))
    (record { some = c.byte_count.ensures.some; is = c.byte_count.ensures.is }) (record { some = c.byte_count-2.ensures.some; is = c.byte_count-2.ensures.is }) c.args.from c.args.to c.index.ensures c.index-2.ensures
    (fixed_length_list_within c.args.types.now c.reveal.ensures.sound c.args.to c.index-2.result.now c.index-2.ensures).lower

pub move_one_by_one-loop-n-init : goal.move_one_by_one-loop-n-init
move_one_by_one-loop-n-init t c = elements_begin

pub move_one_by_one-translate-requires : goal.move_one_by_one-translate-requires
move_one_by_one-translate-requires t c = (omega (arith, c.decreases), (c.requires.from_live, (c.requires.to_live, (sides_later c.loop-n.invariant.grew.imports c.requires.sides, (c.requires.tables, c.requires.told)))))

pub move_one_by_one-loop-n-preserved : goal.move_one_by_one-loop-n-preserved
move_one_by_one-loop-n-preserved t c =
    element_passed c.flat_length-from_flats.result c.flat_length-to_flats.result c.flat_length-from_flats.ensures c.flat_length-to_flats.ensures (c.nth_source-part.ensures c.args.sides.from) (c.nth_target-spot.ensures c.args.sides.to)
    (c.past-rest.ensures c.args.sides.to) c.in_ok-translate.ensures (omega (arith, c.loop-n-test.true)) c.loop-n.invariant

pub move_one_by_one-returns : goal.move_one_by_one-returns
move_one_by_one-returns t c = elements_end (omega (arith, c.loop-n-test.false)) c.loop-n.invariant

pub move_by_loop-translate-requires : goal.move_by_loop-translate-requires
move_by_loop-translate-requires t c =
    let sides = sides_same (c.begin-outer.ensures.imports ∙ c.in_ok-open_fixed.ensures.imports ∙ c.in_ok-locals.ensures.imports) c.requires.sides in
    (omega (arith, c.decreases), (c.requires.from_live, (c.requires.to_live, (sides, (c.requires.tables, c.requires.told)))))

pub move_by_loop-free_fixed_locals-requires : goal.move_by_loop-free_fixed_locals-requires
move_by_loop-free_fixed_locals-requires t c =
    let h = fixed_locals_taken c.args.source c.args.target c.in_ok-locals.ensures c.in_ok-open_fixed.ensures c.begin-outer.ensures c.in_ok-translate.ensures c.in_ok-close_fixed.ensures in
    record { taken = h.0; distinct = h.1 }

pub move_by_loop-returns : goal.move_by_loop-returns
move_by_loop-returns t c =
    loop_moved c.args.source c.args.target c.in_ok-locals.ensures c.in_ok-open_fixed.ensures c.begin-outer.ensures c.in_ok-translate.ensures c.in_ok-close_fixed.ensures c.in_ok-free_fixed_locals.ensures

-- ---- maps

pub move_map-open_list-requires : goal.move_map-open_list-requires
move_map-open_list-requires t c = record {
  from_size = c.entries-elements.ensures.from_some;
  to_size = c.entries-elements.ensures.to_some;
  from_align = c.entries-elements.ensures.from_align_some;
  to_align = c.entries-elements.ensures.to_align_some;
  realloc = (sides_same c.in_ok-locals.ensures.imports c.requires.sides).realloc;
}

pub move_map-translate-requires : goal.move_map-translate-requires
move_map-translate-requires t c =
    let from = map_key_within c.args.types.now c.reveal.ensures.sound c.args.from c.index-from_map.result.now c.index-from_map.ensures in
    let to = map_key_within c.args.types.now c.reveal.ensures.sound c.args.to c.index-to_map.result.now c.index-to_map.ensures in
    let sides = sides_same c.begin-outer.ensures.imports (sides_later c.in_ok-open_list.ensures.grew.imports (sides_same c.in_ok-locals.ensures.imports c.requires.sides)) in
    (omega (arith, to.lower, c.decreases), (from.live, (to.live, (sides, (c.requires.tables, c.requires.told)))))

pub move_map-translate-requires-2 : goal.move_map-translate-requires-2
move_map-translate-requires-2 t c =
    let from = map_value_within c.args.types.now c.reveal.ensures.sound c.args.from c.index-from_map.result.now c.index-from_map.ensures in
    let to = map_value_within c.args.types.now c.reveal.ensures.sound c.args.to c.index-to_map.result.now c.index-to_map.ensures in
    let sides = sides_same c.begin-outer.ensures.imports (sides_later c.in_ok-open_list.ensures.grew.imports (sides_same c.in_ok-locals.ensures.imports c.requires.sides)) in
    (omega (arith, to.lower, c.decreases), (from.live, (to.live, (sides_later c.in_ok-translate.ensures.grew.imports sides, (c.requires.tables, c.requires.told)))))

pub move_map-free_list_locals-requires : goal.move_map-free_list_locals-requires
move_map-free_list_locals-requires t c =
    let h = locals_taken {sides = c.args.sides} c.in_ok-locals.ensures c.in_ok-open_list.ensures.grew c.begin-outer.ensures (grew_on c.in_ok-translate.ensures.grew c.in_ok-translate-2.ensures.grew) c.in_ok-close_list.ensures in
    record { taken = h.0; distinct = h.1 }

pub move_map-returns : goal.move_map-returns
move_map-returns t c =
    map_moved {y = c.index-from_map.result.now} {z = c.index-to_map.result.now} c.in_ok-locals.ensures c.in_ok-open_list.ensures c.begin-outer.ensures c.in_ok-translate.ensures c.in_ok-translate-2.ensures c.in_ok-close_list.ensures c.in_ok-free_list_locals.ensures
    (c.part-value.ensures c.args.sides.from) (c.part-value_spot.ensures c.args.sides.to) c.value_place.ensures c.value_place-2.ensures c.entries-elements.ensures.from c.entries-elements.ensures.to
    c.reveal.ensures.sound (map_laid c.args.types.now c.reveal.ensures.sound c.args.from c.index-from_map.result.now c.index-from_map.ensures) (map_laid c.args.types.now c.reveal.ensures.sound c.args.to c.index-to_map.result.now c.index-to_map.ensures)
    c.args.from c.args.to (map_members c.args.types.now c.args.from c.index-from_map.result.now c.index-from_map.ensures) (map_members c.args.types.now c.args.to c.index-to_map.result.now c.index-to_map.ensures)
    (map_key_within c.args.types.now c.reveal.ensures.sound c.args.to c.index-to_map.result.now c.index-to_map.ensures).lower
    (map_value_within c.args.types.now c.reveal.ensures.sound c.args.to c.index-to_map.result.now c.index-to_map.ensures).lower
