-- The parts of a value that stands at a source take no more bytes than what the value calls for, and their texts are there.
use Rattle.std.proofs.Common.{◌≡◌, ℕ, zero, suc, ◌+◌, ◌*◌, ◌≤◌, Bool, true, false, List, [], ◌∷◌, ◌++◌, length, map, drop, Option, Some, None, refl, sym, ap, ◌∙◌, subst, arith, drop-drop, length-drop}
use Rattle.std.specs.Prelude.{if◌then◌else◌}
use Rattle.std.specs.List.{zip, flat_map}
use Rattle.std.specs.Str.{bytes_eq}
use Rattle.fact_types.specs.Agrees.{Agrees, AgreesBy, AgreesFields, AgreesCase, AgreesPlaces, BothThere, chosen, named, names_of}
use Rattle.fact_types.specs.Fields.{Field, field_of}
use Rattle.fact_types.specs.FlatShapes.{flat, flat_members}
use Rattle.fact_types.specs.Layout.{extent}
use Rattle.fact_types.specs.Options.{◌>>=◌}
use Rattle.fact_types.specs.Shapes.{Kind, k_record, k_variant, k_list, k_tuple, k_map, k_flags, k_enum, k_option, k_result, k_fixed, k_future, k_stream, Shape, s_plain, s_node, Members, no_members, bare, typed, layout_of}
use Rattle.fact_types.specs.Valid.{IsValid, AreDistinct}
use Rattle.fact_types.specs.declared.flats.FlatType.TheVariants.{I32}
use Rattle.fact_types.specs.declared.interface.InterfaceType.{InterfaceType}
use Rattle.fact_types.specs.declared.interface.InterfaceType.TheVariants as ty
use Rattle.fact_types.specs.declared.outside.StringEncoding.{StringEncoding}
use Rattle.fact_types.specs.declared.extents.Extent.{Extent}
use Rattle.fact_types.proofs.ShapeLaws.{none_some, same_some}
use Rattle.fact_machine.specs.declared.types.CoreValue.{CoreValue}
use Rattle.fact_values.specs.declared.value.Value.{Value, out-Value}
use Rattle.fact_values.specs.declared.value.Value.TheVariants as value
use Rattle.fact_values.specs.Handles.{value_named, only}
use Rattle.fact_values.specs.Lift.{number_as}
use Rattle.fact_values.specs.Limits.{CaseType, case_type}
use Rattle.fact_values.specs.Load.{load_members, load_element}
use Rattle.fact_values.specs.Opened.{fields_in, members_in, elements_in, map_entries_in, CaseOf, case_in}
use Rattle.fact_values.specs.Texts.{form_of}
use Rattle.fact_values.specs.Places.{Pair, each_at, case_bytes, payload_place, typed_names}
use Rattle.fact_actions.specs.Moves.{entry_extent, part, payload_part}
use Rattle.fact_actions.specs.Strings.{form_in}
use Rattle.fact_actions.specs.Requests.{RequestPart, TextPart, list_part}
use Rattle.fact_actions.specs.Sides.{Source, Values, AtAddress, nth_part, side_abi, width_of_side}
use Rattle.fact_action_laws.specs.Items.{ValueItem, TextItem, chars_in, items, items_fields, items_case, items_places, items_element, of_some, region_item}
use Rattle.fact_action_laws.specs.MoveTerms.{HasPointers, IsWellFormed, AreTyped, AreWellFormed, IsSupplied, AreSupplied}
use Rattle.fact_action_laws.specs.Places.{from_side, to_side, value_at_source, AreInRange, IsSource, HasSideMemory}
use Rattle.fact_action_laws.specs.Regions.{TransferSetting}
use Rattle.fact_action_laws.proofs.Distinct.{case_named, each_agrees, places_agree}
use Rattle.fact_action_laws.proofs.Elements.{each_at_map, flat_each, length_each, IsSingle, single, IsDouble, double}
use Rattle.fact_action_laws.proofs.Fields.{members_taken, found_named, formed_found, field_taken, part_source}
use Rattle.fact_action_laws.proofs.FixedLaws.{fixed_source, fixed_taken}
use Rattle.fact_action_laws.proofs.ListLaws.{list_taken, one, row, element_loads, from_extent, to_extent, row_asks}
use Rattle.fact_action_laws.proofs.MapLaws.{map_taken, two, pair_row, entry_at, entry_loads}
use Rattle.fact_action_laws.proofs.Numbers.{number_at_source}
use Rattle.fact_action_laws.proofs.Pairs.{pair_taken}
use Rattle.fact_action_laws.proofs.Products.{record_taken, tuple_taken, fields_of, members_of_tuple}
use Rattle.fact_action_laws.proofs.Rows.{row_items}
use Rattle.fact_action_laws.proofs.Spans.{flats_from, first_part, next_part, parts_from, spans_taken}
use Rattle.fact_action_laws.proofs.Sums.{IsPayloadAt}
use Rattle.fact_action_laws.proofs.Theorem.{AreValid, members_valid, valid_found, case_valid, supplied_found, case_supplied, places_names}
use Rattle.fact_action_laws.proofs.Tuples.{places_fields, items_alike}
use Rattle.fact_action_laws.proofs.Variants.{SumKind, a_variant, an_option, a_result, sum_taken, sum_number, case_formed}
use Rattle.fact_action_laws.proofs.Weights.{taken_length}
use Rattle.fact_action_laws.proofs.Plain.{both}
use Rattle.fact_action_laws.specs.AdapterValueLaws.{PartsTakeNoMore}
use Rattle.fact_action_laws.specs.Parts.{pair_of_source, case_of_source, parts_of_some, parts_of_each, parts_of_plain, parts_of, parts_of_fields, parts_of_case}
use Rattle.fact_action_laws.specs.Rooms.{parts_bytes, items_bytes}
use Rattle.fact_action_laws.proofs.Encoded.{AreSmallBytes}
use Rattle.fact_action_laws.proofs.PartTexts.{AreTextsThere, there_join}
use Rattle.fact_action_laws.proofs.TextLaw.{text_taken}
use Rattle.fact_action_laws.proofs.TextRooms.{text_room, text_stands}

-- ---- sums

parts_append : (e : StringEncoding) (xs ys : List RequestPart) → parts_bytes e (xs ++ ys) ≡ parts_bytes e xs + parts_bytes e ys
parts_append e [] ys = omega arith
parts_append e (x ∷ xs) ys = let r = parts_append e xs ys in omega (arith, r)

items_append : (is js : List ValueItem) → items_bytes (is ++ js) ≡ items_bytes is + items_bytes js
items_append [] js = omega arith
items_append (i ∷ is) js = let r = items_append is js in omega (arith, r)

-- ---- what is read at a source

same_pair : (c : TransferSetting) (s : Source) → pair_of_source c s ≡ pair_taken c s
same_pair c (Values vs) = refl
same_pair c (AtAddress a) = refl

same_case : (c : TransferSetting) (ms : Members) (s : Source) (n : ℕ) (k : CaseType) → number_at_source c (case_bytes ms) s ≡ Some n → case_type ms n ≡ Some k → case_of_source c ms s ≡ Some k
same_case c ms (Values []) n k h e = absurd (none_some None n refl h)
same_case c ms (Values (v ∷ vs)) n k h e = ap (case_type ms) (same_some _ (number_as I32 v) n (sum_number ms v vs c) h) ∙ e
same_case c ms (AtAddress a) n k h e = ap (λ o. o >>= (λ n. case_type ms n)) h ∙ e

module _ (c : TransferSetting) (small : AreSmallBytes c.source) where
  abbrev pub P : List RequestPart → ℕ
  P xs = parts_bytes c.transfer.to.encoding xs

  abbrev pub I : List ValueItem → ℕ
  I is = items_bytes is

  -- the texts among parts are there
  abbrev pub T : List RequestPart → Type 0
  T xs = AreTextsThere c xs

  -- what is to be shown of a value, of the fields of a product, and of a case
  record Takes (t u : Shape) : Type 0 where
    by : (s : Source) (v : Value) → IsSource c (length (flat (width_of_side c.transfer.from) t)) s → value_at_source c t s ≡ Some v → P (parts_of c t u s) ≤ I (items (to_side c) t u v)
    there : (s : Source) (v : Value) → IsSource c (length (flat (width_of_side c.transfer.from) t)) s → value_at_source c t s ≡ Some v → T (parts_of c t u s)

  pub record FieldsTake (ms ns : Members) : Type 0 where
    pub by : (s : Source) (vs : List Value) → IsSource c (length (flat_members (width_of_side c.transfer.from) ms)) s → members_taken c ms s ≡ Some vs → P (parts_of_fields c ms ns s) ≤ I (items_fields (to_side c) ms (zip (typed_names ms) vs) ns)
    pub there : (s : Source) (vs : List Value) → IsSource c (length (flat_members (width_of_side c.transfer.from) ms)) s → members_taken c ms s ≡ Some vs → T (parts_of_fields c ms ns s)

  record CaseTakes (ms : Members) (k : CaseType) (ns : Members) : Type 0 where
    by : (s : Source) (ps : List Value) → IsPayloadAt c ms k.payload s ps → P (parts_of_case c ms k ns s) ≤ I (items_case (to_side c) k.payload k.name ps ns)
    there : (s : Source) (ps : List Value) → IsPayloadAt c ms k.payload s ps → T (parts_of_case c ms k ns s)

  -- ---- plain types

  text_takes : HasPointers c.transfer.from c.transfer.to → Takes (s_plain ty.String) (s_plain ty.String)
  unfolding parts_of items
  text_takes has = record {
    by = λ s v is h.
        let t = text_taken c s v h in
        let F : Pair → List RequestPart = λ q. TextPart (form_in c.transfer.from.encoding q.count) q.pointer (form_of c.transfer.from.encoding q.count).units ∷ [] in
        let G : List ℕ → List ValueItem = λ cs. TextItem cs ∷ [] in
        let parts_are : P (parts_of_some (pair_of_source c s) F) ≡ P (F t.pair) = ap (λ o. P (parts_of_some o F)) (same_pair c s ∙ t.at) in
        let items_are : I (of_some (chars_in (out-Value v)) G) ≡ I (G t.chars) = ap (λ v. I (of_some (chars_in (out-Value v)) G)) (sym t.is) ∙ ap (λ w. I (of_some (chars_in w) G)) (value.outs-Str t.chars) in
        let room = text_room c.transfer.from.encoding c.transfer.to.encoding c.source t.pair.pointer t.pair.count t.chars small t.there in
        omega (arith, parts_are, items_are, room);
    there = λ s v is h.
        let t = text_taken c s v h in
        let F : Pair → List RequestPart = λ q. TextPart (form_in c.transfer.from.encoding q.count) q.pointer (form_of c.transfer.from.encoding q.count).units ∷ [] in
        subst (λ o. T (parts_of_some o F)) (sym (same_pair c s ∙ t.at)) (record { supplied = has; stands = text_stands c.transfer.from.encoding c.source t.pair.pointer t.pair.count t.chars small t.there }, tt);
  }

  -- a text needs memories and a realloc
  supplied_text : (p : InterfaceType) → p ≡ ty.String → IsSupplied c (s_plain p) → HasPointers c.transfer.from c.transfer.to
  supplied_text p e has = subst (λ p. IsSupplied c (s_plain p)) e has refl

  -- all others ask for nothing
  plain_parts : (p q : InterfaceType) (s : Source) → (p ≡ ty.String → ⊥) → P (parts_of_plain c p q s) ≡ 0
  plain_parts ty.String q s h = absurd (h refl)
  plain_parts p q s h = refl

  plain_takes : (q : InterfaceType) (t : Shape) → Agrees t (s_plain q) → IsSupplied c t → Takes t (s_plain q)
  unfolding parts_of
  plain_takes q (s_node k ms) a has = record { by = λ s v is h. omega arith; there = λ s v is h. tt }
  plain_takes ty.String (s_plain p) a has = subst (λ p. Takes (s_plain p) (s_plain ty.String)) (sym a) (text_takes (supplied_text p a has))
  plain_takes q (s_plain ty.String) a has = record { by = λ s v is h. omega arith; there = λ s v is h. tt }
  plain_takes q (s_plain p) a has = record { by = λ s v is h. omega arith; there = λ s v is h. tt }

  -- ---- products

  record_takes : (ms ns : Members) → FieldsTake ms ns → Takes (s_node k_record ms) (s_node k_record ns)
  unfolding parts_of items
  record_takes ms ns F = record {
    by = λ s v is h.
        let r = record_taken c ms s v h in
        let fs : List (List ℕ × Value) = zip (typed_names ms) r.mid in
        let G : List (List ℕ × Value) → List ValueItem = λ fs. items_fields (to_side c) ms fs ns in
        let items_are : I (of_some (fields_in (out-Value v)) G) ≡ I (G fs) = ap (λ v. I (of_some (fields_in (out-Value v)) G)) (sym r.is) ∙ ap (λ o. I (of_some o G)) (fields_of fs) in
        let one = F.by s r.mid is r.first in
        omega (arith, one, items_are);
    there = λ s v is h. let r = record_taken c ms s v h in F.there s r.mid is r.first;
  }

  tuple_takes : (ms ns : Members) → ((s : Source) (vs : List Value) → members_taken c ms s ≡ Some vs → items_fields (to_side c) ms (zip (typed_names ms) vs) ns ≡ items_places (to_side c) ms vs ns) → FieldsTake ms ns → Takes (s_node k_tuple ms) (s_node k_tuple ns)
  unfolding parts_of items
  tuple_takes ms ns alike F = record {
    by = λ s v is h.
        let r = tuple_taken c ms s v h in
        let G : List Value → List ValueItem = λ vs. items_places (to_side c) ms vs ns in
        let items_are : I (of_some (members_in (out-Value v)) G) ≡ I (G r.mid) = ap (λ v. I (of_some (members_in (out-Value v)) G)) (sym r.is) ∙ ap (λ o. I (of_some o G)) (members_of_tuple r.mid) in
        let same = ap I (alike s r.mid r.first) in
        let one = F.by s r.mid is r.first in
        omega (arith, one, items_are, same);
    there = λ s v is h. let r = tuple_taken c ms s v h in F.there s r.mid is r.first;
  }

  -- ---- elements and entries, one behind another

  rows_take : (ms ns : Members) → FieldsTake ms ns → HasSideMemory c.transfer.from → (stride p n i a : ℕ) (rows : List (List Value)) → a ≡ p + i * stride → each_at n stride (λ a. load_members (from_side c) c.source ms a 0) a ≡ Some rows
      → P (parts_of_each i n (λ i. parts_of_fields c ms ns (AtAddress (p + i * stride)))) ≤ I (flat_map (λ r. row_items c ms ns r) rows)
  rows_take ms ns F there stride p zero i a rows e h = omega arith
  rows_take ms ns F there stride p (suc n) i a rows e h =
      let f : ℕ → List RequestPart = λ i. parts_of_fields c ms ns (AtAddress (p + i * stride)) in
      let R : List Value → List ValueItem = λ r. row_items c ms ns r in
      let one = both (load_members (from_side c) c.source ms a 0) _ rows h in
      let rest = both (each_at n stride (λ a. load_members (from_side c) c.source ms a 0) (a + stride)) _ rows one.last in
      let here = F.by (AtAddress (p + i * stride)) one.mid there (subst (λ a. load_members (from_side c) c.source ms a 0 ≡ Some one.mid) e one.first) in
      let next : a + stride ≡ p + suc i * stride = omega (arith, e) in
      let more = rows_take ms ns F there stride p n (suc i) (a + stride) rest.mid next rest.first in
      subst (λ rows. P (f i ++ parts_of_each (suc i) n f) ≤ I (flat_map R rows)) (same_some (Some (one.mid ∷ rest.mid)) (one.mid ∷ rest.mid) rows refl rest.last)
      (omega (arith, here, more, parts_append c.transfer.to.encoding (f i) (parts_of_each (suc i) n f), items_append (R one.mid) (flat_map R rest.mid)))

  rows_there : (ms ns : Members) → FieldsTake ms ns → HasSideMemory c.transfer.from → (stride p n i a : ℕ) (rows : List (List Value)) → a ≡ p + i * stride → each_at n stride (λ a. load_members (from_side c) c.source ms a 0) a ≡ Some rows
      → T (parts_of_each i n (λ i. parts_of_fields c ms ns (AtAddress (p + i * stride))))
  rows_there ms ns F there stride p zero i a rows e h = tt
  rows_there ms ns F there stride p (suc n) i a rows e h =
      let f : ℕ → List RequestPart = λ i. parts_of_fields c ms ns (AtAddress (p + i * stride)) in
      let one = both (load_members (from_side c) c.source ms a 0) _ rows h in
      let rest = both (each_at n stride (λ a. load_members (from_side c) c.source ms a 0) (a + stride)) _ rows one.last in
      let next : a + stride ≡ p + suc i * stride = omega (arith, e) in
      there_join c (f i) (parts_of_each (suc i) n f)
      (F.there (AtAddress (p + i * stride)) one.mid there (subst (λ a. load_members (from_side c) c.source ms a 0 ≡ Some one.mid) e one.first))
      (rows_there ms ns F there stride p n (suc i) (a + stride) rest.mid next rest.first)

  list_takes : (s u : Shape) → HasSideMemory c.transfer.from → FieldsTake (one [] s) (one [] u) → Takes (s_node k_list (one [] s)) (s_node k_list (one [] u))
  unfolding parts_of items
  list_takes s u there F = record {
    by = λ src v is h.
        let ms : Members = one [] s in
        let ns : Members = one [] u in
        let t = list_taken c s src v h in
        let x : Extent = extent (width_of_side c.transfer.from) (layout_of s) in
        let y : Extent = extent (width_of_side c.transfer.to) (layout_of u) in
        let Q : Pair → List RequestPart = λ q. list_part c.transfer.to ns q.count ∷ parts_of_each 0 q.count (λ i. parts_of_fields c ms ns (AtAddress (q.pointer + i * (entry_extent c.transfer.from ms).size))) in
        let G : List Value → List ValueItem = λ vs. region_item (to_side c) k_list ns (length vs) ∷ flat_map (λ w. items_element (to_side c) ms w ns) vs in
        let parts_are : P (parts_of_some (pair_of_source c src) Q) ≡ P (Q t.pair) = ap (λ o. P (parts_of_some o Q)) (same_pair c src ∙ t.at) in
        let items_are : I (of_some (elements_in (out-Value v)) G) ≡ I (G t.values) = ap (λ v. I (of_some (elements_in (out-Value v)) G)) (sym t.is) ∙ ap (λ w. I (of_some (elements_in w) G)) (value.outs-List t.values) in
        let loaded = each_at_map t.pair.count x.size (λ a. load_element (from_side c) c.source ms a) (λ a. load_members (from_side c) c.source ms a 0) row (λ a w l. element_loads (from_side c) c.source [] s a w l) t.pair.pointer t.values t.elements.each in
        let begin : t.pair.pointer ≡ t.pair.pointer + 0 * (entry_extent c.transfer.from ms).size = omega arith in
        let rows = rows_take ms ns F there (entry_extent c.transfer.from ms).size t.pair.pointer t.pair.count 0 t.pair.pointer (map row t.values) begin
        (subst (λ (e : Extent). each_at t.pair.count e.size (λ a. load_members (from_side c) c.source ms a 0) t.pair.pointer ≡ Some (map row t.values)) (sym (from_extent c s u)) loaded) in
        let flat_is = ap I (flat_each (λ r. row_items c ms ns r) (λ w. items_element (to_side c) ms w ns) row (λ w. row_asks c s u w) t.values) in
        let long : length t.values ≡ t.pair.count = length_each t.pair.count x.size _ t.pair.pointer t.values t.elements.each in
        let region : (entry_extent c.transfer.to ns).align + t.pair.count * (entry_extent c.transfer.to ns).size ≡ y.align + length t.values * y.size
        = ap (λ (e : Extent). e.align + t.pair.count * e.size) (to_extent c s u) ∙ ap (λ n. y.align + n * y.size) (sym long) in
        omega (arith, parts_are, items_are, rows, flat_is, region);
    there = λ src v is h.
        let ms : Members = one [] s in
        let ns : Members = one [] u in
        let t = list_taken c s src v h in
        let x : Extent = extent (width_of_side c.transfer.from) (layout_of s) in
        let Q : Pair → List RequestPart = λ q. list_part c.transfer.to ns q.count ∷ parts_of_each 0 q.count (λ i. parts_of_fields c ms ns (AtAddress (q.pointer + i * (entry_extent c.transfer.from ms).size))) in
        let loaded = each_at_map t.pair.count x.size (λ a. load_element (from_side c) c.source ms a) (λ a. load_members (from_side c) c.source ms a 0) row (λ a w l. element_loads (from_side c) c.source [] s a w l) t.pair.pointer t.values t.elements.each in
        let begin : t.pair.pointer ≡ t.pair.pointer + 0 * (entry_extent c.transfer.from ms).size = omega arith in
        subst (λ o. T (parts_of_some o Q)) (sym (same_pair c src ∙ t.at))
        (rows_there ms ns F there (entry_extent c.transfer.from ms).size t.pair.pointer t.pair.count 0 t.pair.pointer (map row t.values) begin
        (subst (λ (e : Extent). each_at t.pair.count e.size (λ a. load_members (from_side c) c.source ms a 0) t.pair.pointer ≡ Some (map row t.values)) (sym (from_extent c s u)) loaded));
  }

  map_takes : (k1 w1 k2 w2 : Shape) → AreDistinct ((0 ∷ []) ∷ (1 ∷ []) ∷ []) → HasSideMemory c.transfer.from → FieldsTake (two (0 ∷ []) (1 ∷ []) k1 w1) (two (0 ∷ []) (1 ∷ []) k2 w2)
      → Takes (s_node k_map (two (0 ∷ []) (1 ∷ []) k1 w1)) (s_node k_map (two (0 ∷ []) (1 ∷ []) k2 w2))
  unfolding parts_of items
  map_takes k1 w1 k2 w2 distinct there F = record {
    by = λ src v is h.
        let ms : Members = two (0 ∷ []) (1 ∷ []) k1 w1 in
        let ns : Members = two (0 ∷ []) (1 ∷ []) k2 w2 in
        let t = map_taken c ms src v h in
        let x : Extent = entry_extent c.transfer.from ms in
        let y : Extent = entry_extent c.transfer.to ns in
        let Q : Pair → List RequestPart = λ q. list_part c.transfer.to ns q.count ∷ parts_of_each 0 q.count (λ i. parts_of_fields c ms ns (AtAddress (q.pointer + i * x.size))) in
        let E : Value × Value → List ValueItem = λ e. items_places (to_side c) ms (e.0 ∷ e.1 ∷ []) ns in
        let G : List (Value × Value) → List ValueItem = λ es. region_item (to_side c) k_map ns (length es) ∷ flat_map E es in
        let parts_are : P (parts_of_some (pair_of_source c src) Q) ≡ P (Q t.pair) = ap (λ o. P (parts_of_some o Q)) (same_pair c src ∙ t.at) in
        let items_are : I (of_some (map_entries_in (out-Value v)) G) ≡ I (G t.entries) = ap (λ v. I (of_some (map_entries_in (out-Value v)) G)) (sym t.is) ∙ ap (λ w. I (of_some (map_entries_in w) G)) (value.outs-Map t.entries) in
        let loaded = each_at_map t.pair.count x.size (entry_at (from_side c) c.source ms) (λ a. load_members (from_side c) c.source ms a 0) pair_row (λ a e l. entry_loads (from_side c) c.source ms a e l) t.pair.pointer t.entries t.elements.each in
        let begin : t.pair.pointer ≡ t.pair.pointer + 0 * x.size = omega arith in
        let rows = rows_take ms ns F there x.size t.pair.pointer t.pair.count 0 t.pair.pointer (map pair_row t.entries) begin loaded in
        let flat_is = ap I (flat_each (λ r. row_items c ms ns r) E pair_row (λ e. items_alike (to_side c) ms ns (pair_row e) refl distinct tt tt refl) t.entries) in
        let long : length t.entries ≡ t.pair.count = length_each t.pair.count x.size _ t.pair.pointer t.entries t.elements.each in
        let region : y.align + t.pair.count * y.size ≡ y.align + length t.entries * y.size = ap (λ n. y.align + n * y.size) (sym long) in
        omega (arith, parts_are, items_are, rows, flat_is, region);
    there = λ src v is h.
        let ms : Members = two (0 ∷ []) (1 ∷ []) k1 w1 in
        let ns : Members = two (0 ∷ []) (1 ∷ []) k2 w2 in
        let t = map_taken c ms src v h in
        let x : Extent = entry_extent c.transfer.from ms in
        let Q : Pair → List RequestPart = λ q. list_part c.transfer.to ns q.count ∷ parts_of_each 0 q.count (λ i. parts_of_fields c ms ns (AtAddress (q.pointer + i * x.size))) in
        let loaded = each_at_map t.pair.count x.size (entry_at (from_side c) c.source ms) (λ a. load_members (from_side c) c.source ms a 0) pair_row (λ a e l. entry_loads (from_side c) c.source ms a e l) t.pair.pointer t.entries t.elements.each in
        let begin : t.pair.pointer ≡ t.pair.pointer + 0 * x.size = omega arith in
        subst (λ o. T (parts_of_some o Q)) (sym (same_pair c src ∙ t.at)) (rows_there ms ns F there x.size t.pair.pointer t.pair.count 0 t.pair.pointer (map pair_row t.entries) begin loaded);
  }

  -- ---- lists of fixed length

  in_range_drop : (n : ℕ) (vs : List CoreValue) → AreInRange vs → AreInRange (drop n vs)
  in_range_drop zero vs h = h
  in_range_drop (suc n) [] h = tt
  in_range_drop (suc n) (v ∷ vs) h = in_range_drop n vs h.1

  first_source : (F n : ℕ) (s : Source) → IsSource c (suc n * F) s → IsSource c F (first_part F s)
  first_source F n (Values vs) h = part_source c F 0 vs (let l = h.0 in omega (arith, l)) h.1
  first_source F n (AtAddress a) h = h

  next_source : (F e n : ℕ) (s : Source) → IsSource c (suc n * F) s → IsSource c (n * F) (next_part F e s)
  next_source F e n (Values vs) h = ((let l = h.0 in omega (arith, l, length-drop F vs)), in_range_drop F vs h.1)
  next_source F e n (AtAddress a) h = h

  nth_is : (F e i : ℕ) (s : Source) → nth_part F e i s ≡ first_part F (parts_from F e i s)
  nth_is F e i (Values vs) = refl
  nth_is F e i (AtAddress a) = refl

  parts_next : (F e i : ℕ) (s : Source) → next_part F e (parts_from F e i s) ≡ parts_from F e (suc i) s
  parts_next F e i (Values vs) = let h : i * F + F ≡ suc i * F = omega arith in ap (λ l. Values l) (drop-drop F (i * F) vs ∙ ap (λ k. drop k vs) h)
  parts_next F e i (AtAddress a) = let h : (a + i * e) + e ≡ a + suc i * e = omega arith in ap (λ k. AtAddress k) h

  parts_begin : (F e : ℕ) (s : Source) → s ≡ parts_from F e 0 s
  parts_begin F e (Values vs) = let h : 0 ≡ 0 * F = omega arith in ap (λ k. Values (drop k vs)) h
  parts_begin F e (AtAddress a) = let h : a ≡ a + 0 * e = omega arith in ap (λ k. AtAddress k) h

  spans_take : (ms ns : Members) → FieldsTake ms ns → (e f : ℕ) (s0 : Source) (n i : ℕ) (s : Source) (rows : List (List Value)) → s ≡ parts_from (flats_from c ms ns) e i s0 → IsSource c (n * flats_from c ms ns) s → spans_taken c ms ns e f n s ≡ Some rows
      → P (parts_of_each i n (λ i. parts_of_fields c ms ns (nth_part (flats_from c ms ns) e i s0))) ≤ I (flat_map (λ r. row_items c ms ns r) rows)
  spans_take ms ns F e f s0 zero i s rows at is h = omega arith
  spans_take ms ns F e f s0 (suc n) i s rows at is h =
      let k : ℕ = flats_from c ms ns in
      let g : ℕ → List RequestPart = λ i. parts_of_fields c ms ns (nth_part k e i s0) in
      let R : List Value → List ValueItem = λ r. row_items c ms ns r in
      let one = both (members_taken c ms (first_part k s)) _ rows h in
      let rest = both (spans_taken c ms ns e f n (next_part k e s)) _ rows one.last in
      let nth : first_part k s ≡ nth_part k e i s0 = ap (first_part k) at ∙ sym (nth_is k e i s0) in
      let here = F.by (nth_part k e i s0) one.mid (subst (IsSource c k) nth (first_source k n s is)) (subst (λ s. members_taken c ms s ≡ Some one.mid) nth one.first) in
      let more = spans_take ms ns F e f s0 n (suc i) (next_part k e s) rest.mid (ap (next_part k e) at ∙ parts_next k e i s0) (next_source k e n s is) rest.first in
      subst (λ rows. P (g i ++ parts_of_each (suc i) n g) ≤ I (flat_map R rows)) (same_some (Some (one.mid ∷ rest.mid)) (one.mid ∷ rest.mid) rows refl rest.last)
      (omega (arith, here, more, parts_append c.transfer.to.encoding (g i) (parts_of_each (suc i) n g), items_append (R one.mid) (flat_map R rest.mid)))

  spans_there : (ms ns : Members) → FieldsTake ms ns → (e f : ℕ) (s0 : Source) (n i : ℕ) (s : Source) (rows : List (List Value)) → s ≡ parts_from (flats_from c ms ns) e i s0 → IsSource c (n * flats_from c ms ns) s → spans_taken c ms ns e f n s ≡ Some rows
      → T (parts_of_each i n (λ i. parts_of_fields c ms ns (nth_part (flats_from c ms ns) e i s0)))
  spans_there ms ns F e f s0 zero i s rows at is h = tt
  spans_there ms ns F e f s0 (suc n) i s rows at is h =
      let k : ℕ = flats_from c ms ns in
      let g : ℕ → List RequestPart = λ i. parts_of_fields c ms ns (nth_part k e i s0) in
      let one = both (members_taken c ms (first_part k s)) _ rows h in
      let rest = both (spans_taken c ms ns e f n (next_part k e s)) _ rows one.last in
      let nth : first_part k s ≡ nth_part k e i s0 = ap (first_part k) at ∙ sym (nth_is k e i s0) in
      there_join c (g i) (parts_of_each (suc i) n g)
      (F.there (nth_part k e i s0) one.mid (subst (IsSource c k) nth (first_source k n s is)) (subst (λ s. members_taken c ms s ≡ Some one.mid) nth one.first))
      (spans_there ms ns F e f s0 n (suc i) (next_part k e s) rest.mid (ap (next_part k e) at ∙ parts_next k e i s0) (next_source k e n s is) rest.first)

  fixed_takes : (n : ℕ) (s u : Shape) → IsWellFormed s → IsWellFormed u → FieldsTake (one [] s) (one [] u) → Takes (s_node (k_fixed n) (one [] s)) (s_node (k_fixed n) (one [] u))
  unfolding parts_of items
  fixed_takes n s u fs fu F = record {
    by = λ src v is h.
        let ms : Members = one [] s in
        let ns : Members = one [] u in
        let k : ℕ = flats_from c ms ns in
        let e : ℕ = (entry_extent c.transfer.from ms).size in
        let f : ℕ = (entry_extent c.transfer.to ns).size in
        let from = fixed_source c n s u fs fu src is in
        let t = fixed_taken c n s u fs fu src v from h in
        let E : Value → List ValueItem = λ w. items_element (to_side c) ms w ns in
        let items_are : I (of_some (elements_in (out-Value v)) (flat_map E)) ≡ I (flat_map E t.values) = ap (λ v. I (of_some (elements_in (out-Value v)) (flat_map E))) (sym t.is) ∙ ap (λ w. I (of_some (elements_in w) (flat_map E))) (value.outs-List t.values) in
        let rows = spans_take ms ns F e f src n 0 src (map row t.values) (parts_begin k e src) from t.spans in
        let flat_is = ap I (flat_each (λ r. row_items c ms ns r) E row (λ w. row_asks c s u w) t.values) in
        omega (arith, rows, items_are, flat_is);
    there = λ src v is h.
        let ms : Members = one [] s in
        let ns : Members = one [] u in
        let k : ℕ = flats_from c ms ns in
        let e : ℕ = (entry_extent c.transfer.from ms).size in
        let f : ℕ = (entry_extent c.transfer.to ns).size in
        let from = fixed_source c n s u fs fu src is in
        let t = fixed_taken c n s u fs fu src v from h in
        spans_there ms ns F e f src n 0 src (map row t.values) (parts_begin k e src) from t.spans;
  }

  -- ---- sums

  sum_items : {k : Kind} → SumKind k → (ms ns : Members) (v : Value) → items (to_side c) (s_node k ms) (s_node k ns) v ≡ of_some (case_in (out-Value v)) (λ x. items_case (to_side c) (named x.name ms) x.name x.payload ns)
  unfolding items
  sum_items a_variant ms ns v = refl
  sum_items an_option ms ns v = refl
  sum_items a_result ms ns v = refl

  sum_parts : {k : Kind} → SumKind k → (ms ns : Members) (s : Source) → parts_of c (s_node k ms) (s_node k ns) s ≡ parts_of_some (case_of_source c ms s) (λ x. parts_of_case c ms x ns s)
  unfolding parts_of
  sum_parts a_variant ms ns s = refl
  sum_parts an_option ms ns s = refl
  sum_parts a_result ms ns s = refl

  sum_takes : {k : Kind} → SumKind k → (ms ns : Members) → AreWellFormed ms → AreDistinct (names_of ms) → ((n : ℕ) (x : CaseType) → case_type ms n ≡ Some x → CaseTakes ms x ns) → Takes (s_node k ms) (s_node k ns)
  sum_takes {k} kind ms ns formed distinct C = record {
    by = λ s v is h.
        let t = sum_taken kind c ms s v formed is h in
        let G : CaseOf → List ValueItem = λ x. items_case (to_side c) (named x.name ms) x.name x.payload ns in
        let H : CaseType → List RequestPart = λ x. parts_of_case c ms x ns s in
        let parts_are : P (parts_of c (s_node k ms) (s_node k ns) s) ≡ P (H t.case) = ap P (sum_parts kind ms ns s) ∙ ap (λ o. P (parts_of_some o H)) (same_case c ms s t.number t.case t.at t.case_is) in
        let items_are : I (items (to_side c) (s_node k ms) (s_node k ns) v) ≡ I (items_case (to_side c) t.case.payload t.case.name t.payload ns)
        = ap I (sum_items kind ms ns v) ∙ ap (λ v. I (of_some (case_in (out-Value v)) G)) t.value ∙ ap (λ w. I (of_some (case_in w) G)) (value.outs-Case t.case.name t.payload)
        ∙ ap (λ p. I (items_case (to_side c) p t.case.name t.payload ns)) (case_named ms t.number t.case distinct t.case_is) in
        let one = (C t.number t.case t.case_is).by s t.payload t.payload_at in
        omega (arith, parts_are, items_are, one);
    there = λ s v is h.
        let t = sum_taken kind c ms s v formed is h in
        let H : CaseType → List RequestPart = λ x. parts_of_case c ms x ns s in
        subst T (sym (sum_parts kind ms ns s ∙ ap (λ o. parts_of_some o H) (same_case c ms s t.number t.case t.at t.case_is))) ((C t.number t.case t.case_is).there s t.payload t.payload_at);
  }

  -- ---- kinds of types

  abbrev Fields : Members → Type 0
  Fields ns = (ms : Members) → AgreesFields ms ns → AreValid ms → AreWellFormed ms → AreSupplied c ms → FieldsTake ms ns

  abbrev Cases : Members → Type 0
  Cases ns = (ms : Members) (k : CaseType) → AgreesCase k.name k.payload ns → ((p : Shape) → k.payload ≡ Some p → IsValid p × IsWellFormed p × IsSupplied c p) → CaseTakes ms k ns

  places_take : (ms ns : Members) → AgreesPlaces ms ns → names_of ms ≡ names_of ns → AreDistinct (names_of ns) → AreTyped ms → AreValid ms → AreWellFormed ms → AreSupplied c ms → Fields ns → FieldsTake ms ns
  places_take ms ns a e d t v f has F = F ms (places_fields ms ns a e d t) v f has

  case_takes : (l : Kind) (ms ns : Members) (n : ℕ) (k : CaseType) → AgreesCase k.name k.payload ns → IsValid (s_node l ms) → AreWellFormed ms → AreSupplied c ms → case_type ms n ≡ Some k → Cases ns → CaseTakes ms k ns
  case_takes l ms ns n k a v f has h C = C ms k a (λ p e. (case_valid ms n k p (members_valid l ms v) h e, case_formed ms n k p f h e, case_supplied c ms n k p has h e))

  lists_take : HasSideMemory c.transfer.from → (ms ns : Members) → IsSingle [] ms → IsSingle [] ns → FieldsTake ms ns → Takes (s_node k_list ms) (s_node k_list ns)
  lists_take there ms ns x y F =
      subst (λ l. Takes (s_node k_list l) (s_node k_list ns)) (sym x.is) (subst (λ l. Takes (s_node k_list (one [] x.shape)) (s_node k_list l)) (sym y.is)
      (list_takes x.shape y.shape there (subst (λ l. FieldsTake (one [] x.shape) l) y.is (subst (λ l. FieldsTake l ns) x.is F))))

  maps_take : HasSideMemory c.transfer.from → (ms ns : Members) → IsDouble (0 ∷ []) (1 ∷ []) ms → IsDouble (0 ∷ []) (1 ∷ []) ns → AreDistinct ((0 ∷ []) ∷ (1 ∷ []) ∷ []) → FieldsTake ms ns → Takes (s_node k_map ms) (s_node k_map ns)
  maps_take there ms ns x y d F =
      subst (λ l. Takes (s_node k_map l) (s_node k_map ns)) (sym x.is) (subst (λ l. Takes (s_node k_map (two (0 ∷ []) (1 ∷ []) x.key x.value)) (s_node k_map l)) (sym y.is)
      (map_takes x.key x.value y.key y.value d there (subst (λ l. FieldsTake (two (0 ∷ []) (1 ∷ []) x.key x.value) l) y.is (subst (λ l. FieldsTake l ns) x.is F))))

  fixed_lists_take : (m n : ℕ) → n ≡ m → (ms ns : Members) → IsSingle [] ms → IsSingle [] ns → AreWellFormed ms → AreWellFormed ns → FieldsTake ms ns → Takes (s_node (k_fixed n) ms) (s_node (k_fixed m) ns)
  fixed_lists_take m n e ms ns x y fm fn F =
      let from_formed : AreWellFormed (one [] x.shape) = subst AreWellFormed x.is fm in
      let to_formed : AreWellFormed (one [] y.shape) = subst AreWellFormed y.is fn in
      subst (λ k. Takes (s_node (k_fixed n) ms) (s_node (k_fixed k) ns)) e
      (subst (λ l. Takes (s_node (k_fixed n) l) (s_node (k_fixed n) ns)) (sym x.is) (subst (λ l. Takes (s_node (k_fixed n) (one [] x.shape)) (s_node (k_fixed n) l)) (sym y.is)
      (fixed_takes n x.shape y.shape from_formed.0 to_formed.0 (subst (λ l. FieldsTake (one [] x.shape) l) y.is (subst (λ l. FieldsTake l ns) x.is F)))))

  -- kinds without parts
  none_takes : (l : Kind) (t : Shape) (ns : Members) → ((s : Source) → parts_of c t (s_node l ns) s ≡ []) → Takes t (s_node l ns)
  none_takes l t ns none = record {
    by = λ s v is h. let e : P (parts_of c t (s_node l ns) s) ≡ 0 = ap P (none s) in omega (arith, e);
    there = λ s v is h. subst T (sym (none s)) tt;
  }

  node_takes : (l : Kind) (t : Shape) (ns : Members) → AgreesBy l t ns (λ ms. AgreesFields ms ns) (λ x p. AgreesCase x p ns) (λ ms. AgreesPlaces ms ns) → IsValid t → IsValid (s_node l ns) → IsWellFormed t → IsWellFormed (s_node l ns) → IsSupplied c t → Fields ns → Cases ns → Takes t (s_node l ns)
  unfolding parts_of
  node_takes k_record (s_node k_record ms) ns a vt vu ft fu has F C = record_takes ms ns (F ms a.fields (members_valid k_record ms vt) ft.1 has)
  node_takes k_tuple (s_node k_tuple ms) ns a vt vu ft fu has F C =
      let e = places_names 0 ms ns a ft.0.0 fu.0.0 in
      let d = vu.ruled.0.distinct in
      tuple_takes ms ns (λ s vs l. items_alike (to_side c) ms ns vs e d ft.0.1 fu.0.1 (taken_length c ms s vs l)) (places_take ms ns a e d ft.0.1 (members_valid k_tuple ms vt) ft.1 has F)
  node_takes k_variant (s_node k_variant ms) ns a vt vu ft fu has F C = sum_takes a_variant ms ns ft.1 vt.ruled.0.distinct (λ n k h. case_takes k_variant ms ns n k (each_agrees ms ns n k a h) vt ft.1 has h C)
  node_takes k_option (s_node k_option ms) ns a vt vu ft fu has F C = sum_takes an_option ms ns ft.1 vt.ruled.0.distinct (λ n k h. case_takes k_option ms ns n k (places_agree ms ns n k a (ft.0 ∙ sym fu.0) vu.ruled.0.distinct h) vt ft.1 has h C)
  node_takes k_result (s_node k_result ms) ns a vt vu ft fu has F C = sum_takes a_result ms ns ft.1 vt.ruled.0.distinct (λ n k h. case_takes k_result ms ns n k (places_agree ms ns n k a (ft.0 ∙ sym fu.0) vu.ruled.0.distinct h) vt ft.1 has h C)
  node_takes k_enum (s_node k_enum ms) ns a vt vu ft fu has F C = none_takes k_enum (s_node k_enum ms) ns (λ s. refl)
  node_takes k_flags (s_node k_flags ms) ns a vt vu ft fu has F C = none_takes k_flags (s_node k_flags ms) ns (λ s. refl)
  node_takes k_list (s_node k_list ms) ns a vt vu ft fu has F C =
      lists_take (has refl).from ms ns (single [] ms ft.0.0 ft.0.1) (single [] ns fu.0.0 fu.0.1)
      (places_take ms ns a (ft.0.0 ∙ sym fu.0.0) vu.ruled.0.distinct ft.0.1 (members_valid k_list ms vt) ft.1 (λ e. has refl) F)
  node_takes k_map (s_node k_map ms) ns a vt vu ft fu has F C =
      maps_take (has refl).from ms ns (double (0 ∷ []) (1 ∷ []) ms ft.0.0 ft.0.1) (double (0 ∷ []) (1 ∷ []) ns fu.0.0 fu.0.1) (subst AreDistinct fu.0.0 vu.ruled.0.distinct)
      (places_take ms ns a (ft.0.0 ∙ sym fu.0.0) vu.ruled.0.distinct ft.0.1 (members_valid k_map ms vt) ft.1 (λ e. has refl) F)
  node_takes (k_fixed m) (s_node (k_fixed n) ms) ns a vt vu ft fu has F C =
      fixed_lists_take m n a.0 ms ns (single [] ms ft.0.0 ft.0.1) (single [] ns fu.0.0 fu.0.1) ft.1 fu.1 (places_take ms ns a.1 (ft.0.0 ∙ sym fu.0.0) vu.ruled.0.distinct ft.0.1 (members_valid (k_fixed n) ms vt) ft.1 has F)
  node_takes (k_future u j) (s_node (k_future t i) ms) ns a vt vu ft fu has F C = none_takes (k_future u j) (s_node (k_future t i) ms) ns (λ s. refl)
  node_takes (k_stream u j) (s_node (k_stream t i) ms) ns a vt vu ft fu has F C = none_takes (k_stream u j) (s_node (k_stream t i) ms) ns (λ s. refl)
  node_takes l t ns a vt vu ft fu has F C = absurd a

  -- ---- the induction

  no_fields : (ms : Members) → FieldsTake ms no_members
  unfolding parts_of_fields
  no_fields ms = record { by = λ s vs is h. omega arith; there = λ s vs is h. tt }

  bare_fields : (ms ns : Members) (x : List ℕ) → FieldsTake ms ns → FieldsTake ms (bare x ns)
  unfolding parts_of_fields items_fields
  bare_fields ms ns x F = record { by = λ s vs is h. F.by s vs is h; there = λ s vs is h. F.there s vs is h }

  field_step : (ms ns : Members) (x : List ℕ) (u : Shape) → AreValid ms → AreWellFormed ms → AreSupplied c ms → BothThere (named x ms) (λ s. Agrees s u)
      → ((s : Shape) → Agrees s u → IsValid s → IsWellFormed s → IsSupplied c s → Takes s u) → FieldsTake ms ns → FieldsTake ms (typed x u ns)
  unfolding parts_of_fields items_fields
  field_step ms ns x u v f has a one rest = go (named x ms) refl a
    where
      go : (q : Option Shape) → named x ms ≡ q → BothThere q (λ s. Agrees s u) → FieldsTake ms (typed x u ns)
      go None h a = absurd a
      go (Some s) h a =
          let q = found_named x ms 0 0 0 s h in
          let r = subst (λ z. Agrees z u) (sym q.shape) a in
          let there = h ∙ ap (λ z. Some z) (sym q.shape) in
          let takes = one q.field.shape r (valid_found x ms 0 0 0 q.field v q.is) (formed_found x ms 0 0 0 q.field f q.is) (supplied_found c x ms 0 0 0 q.field has q.is) in
          record {
            by = λ s vs is l.
                let w = field_taken c x ms q.field s vs f q.is is l in
                let fs : List (List ℕ × Value) = zip (typed_names ms) vs in
                let H : Field → List RequestPart = λ g. parts_of c g.shape u (part c.transfer.from g s) in
                let G : Shape → List ValueItem = λ s. of_some (value_named x fs) (λ v. items (to_side c) s u v) in
                let parts_are : P (parts_of_some (field_of x ms) H) ≡ P (H q.field) = ap (λ o. P (parts_of_some o H)) q.is in
                let items_are : I (of_some (named x ms) G) ≡ I (items (to_side c) q.field.shape u w.value) = ap (λ o. I (of_some o G)) there ∙ ap (λ o. I (of_some o (λ v. items (to_side c) q.field.shape u v))) w.named in
                let here = takes.by (part c.transfer.from q.field s) w.value w.at.source w.at.taken in
                let more = rest.by s vs is l in
                omega (arith, parts_are, items_are, here, more, parts_append c.transfer.to.encoding (parts_of_some (field_of x ms) H) (parts_of_fields c ms ns s), items_append (of_some (named x ms) G) (items_fields (to_side c) ms fs ns));
            there = λ s vs is l.
                let w = field_taken c x ms q.field s vs f q.is is l in
                let H : Field → List RequestPart = λ g. parts_of c g.shape u (part c.transfer.from g s) in
                there_join c (parts_of_some (field_of x ms) H) (parts_of_fields c ms ns s)
                (subst (λ o. T (parts_of_some o H)) (sym q.is) (takes.there (part c.transfer.from q.field s) w.value w.at.source w.at.taken)) (rest.there s vs is l);
          }

  bare_case : (ms ns : Members) (k : CaseType) (x : List ℕ) → AgreesCase k.name k.payload (bare x ns) → (AgreesCase k.name k.payload ns → CaseTakes ms k ns) → CaseTakes ms k (bare x ns)
  unfolding parts_of_case items_case
  bare_case ms ns k x a more = go (bytes_eq x k.name) refl a
    where
      go : (b : Bool) → bytes_eq x k.name ≡ b → chosen b (k.payload ≡ None) (AgreesCase k.name k.payload ns) → CaseTakes ms k (bare x ns)
      go true e a = record {
        by = λ s ps h. let p = ap (λ b. P (if b then [] else parts_of_case c ms k ns s)) e in omega (arith, p);
        there = λ s ps h. subst (λ b. T (if b then [] else parts_of_case c ms k ns s)) (sym e) tt;
      }
      go false e a = record {
        by = λ s ps h.
            let p = ap (λ b. P (if b then [] else parts_of_case c ms k ns s)) e in
            let i = ap (λ b. I (if b then [] else items_case (to_side c) k.payload k.name ps ns)) e in
            let m = (more a).by s ps h in
            omega (arith, p, i, m);
        there = λ s ps h. subst (λ b. T (if b then [] else parts_of_case c ms k ns s)) (sym e) ((more a).there s ps h);
      }

  typed_case : (ms ns : Members) (k : CaseType) (x : List ℕ) (u : Shape) → AgreesCase k.name k.payload (typed x u ns) → ((p : Shape) → k.payload ≡ Some p → Agrees p u → Takes p u) → (AgreesCase k.name k.payload ns → CaseTakes ms k ns) → CaseTakes ms k (typed x u ns)
  unfolding parts_of_case items_case
  typed_case ms ns k x u a one more = go (bytes_eq x k.name) refl a
    where
      H : Source → Shape → List RequestPart
      H s p = parts_of c p u (payload_part c.transfer.from p (payload_place (side_abi c.transfer.from) ms) s)

      G : List Value → Shape → List ValueItem
      G ps t = of_some (only ps) (λ v. items (to_side c) t u v)

      hit : (q : Option Shape) → k.payload ≡ q → BothThere q (λ s. Agrees s u) → (s : Source) (ps : List Value) → IsPayloadAt c ms q s ps → P (parts_of_some q (H s)) ≤ I (of_some q (G ps))
      hit None e a s ps h = absurd a
      hit (Some p) e a s ps h =
          let r = (one p e a).by (payload_part c.transfer.from p (payload_place (side_abi c.transfer.from) ms) s) h.0 h.3 h.2 in
          let i : I (G ps p) ≡ I (items (to_side c) p u h.0) = ap (λ ps. I (G ps p)) h.1 in
          omega (arith, r, i)

      hit_there : (q : Option Shape) → k.payload ≡ q → BothThere q (λ s. Agrees s u) → (s : Source) (ps : List Value) → IsPayloadAt c ms q s ps → T (parts_of_some q (H s))
      hit_there None e a s ps h = absurd a
      hit_there (Some p) e a s ps h = (one p e a).there (payload_part c.transfer.from p (payload_place (side_abi c.transfer.from) ms) s) h.0 h.3 h.2

      go : (b : Bool) → bytes_eq x k.name ≡ b → chosen b (BothThere k.payload (λ s. Agrees s u)) (AgreesCase k.name k.payload ns) → CaseTakes ms k (typed x u ns)
      go true e a = record {
        by = λ s ps h.
            let p = ap (λ b. P (if b then parts_of_some k.payload (H s) else parts_of_case c ms k ns s)) e in
            let i = ap (λ b. I (if b then of_some k.payload (G ps) else items_case (to_side c) k.payload k.name ps ns)) e in
            let m = hit k.payload refl a s ps h in
            omega (arith, p, i, m);
        there = λ s ps h. subst (λ b. T (if b then parts_of_some k.payload (H s) else parts_of_case c ms k ns s)) (sym e) (hit_there k.payload refl a s ps h);
      }
      go false e a = record {
        by = λ s ps h.
            let p = ap (λ b. P (if b then parts_of_some k.payload (H s) else parts_of_case c ms k ns s)) e in
            let i = ap (λ b. I (if b then of_some k.payload (G ps) else items_case (to_side c) k.payload k.name ps ns)) e in
            let m = (more a).by s ps h in
            omega (arith, p, i, m);
        there = λ s ps h. subst (λ b. T (if b then parts_of_some k.payload (H s) else parts_of_case c ms k ns s)) (sym e) ((more a).there s ps h);
      }

  no_case : (ms : Members) (k : CaseType) → CaseTakes ms k no_members
  unfolding parts_of_case
  no_case ms k = record { by = λ s ps h. omega arith; there = λ s ps h. tt }

  mutual
    takes : (u t : Shape) → Agrees t u → IsValid t → IsValid u → IsWellFormed t → IsWellFormed u → IsSupplied c t → Takes t u
    takes (s_plain q) t a vt vu ft fu has = plain_takes q t a has
    takes (s_node l ns) t a vt vu ft fu has =
        node_takes l t ns a vt vu ft fu has (λ ms af vm fm h. fields_take ns ms af vm fm (members_valid l ns vu) fu.1 h) (λ ms k ac known. cases_take ns ms k ac known (members_valid l ns vu) fu.1)

    pub fields_take : (ns ms : Members) → AgreesFields ms ns → AreValid ms → AreWellFormed ms → AreValid ns → AreWellFormed ns → AreSupplied c ms → FieldsTake ms ns
    fields_take no_members ms a vm fm vn fn has = no_fields ms
    fields_take (bare x ns) ms a vm fm vn fn has = bare_fields ms ns x (fields_take ns ms a vm fm vn fn has)
    fields_take (typed x u ns) ms a vm fm vn fn has = field_step ms ns x u vm fm has a.0 (λ s b vs fs h. takes u s b vs vn.0 fs fn.0 h) (fields_take ns ms a.1 vm fm vn.1 fn.1 has)

    cases_take : (ns ms : Members) (k : CaseType) → AgreesCase k.name k.payload ns → ((p : Shape) → k.payload ≡ Some p → IsValid p × IsWellFormed p × IsSupplied c p) → AreValid ns → AreWellFormed ns → CaseTakes ms k ns
    cases_take no_members ms k a known vn fn = no_case ms k
    cases_take (bare x ns) ms k a known vn fn = bare_case ms ns k x a (λ b. cases_take ns ms k b known vn fn)
    cases_take (typed x u ns) ms k a known vn fn = typed_case ms ns k x u a (λ p e b. takes u p b (known p e).0 vn.0 (known p e).1 fn.0 (known p e).2) (λ b. cases_take ns ms k b known vn.1 fn.1)

pub parts_take_no_more : PartsTakeNoMore
parts_take_no_more c small t u k s v is h = (takes c small u t k.agree k.from_valid k.to_valid k.from_formed k.to_formed k.supplied).by s v is h
