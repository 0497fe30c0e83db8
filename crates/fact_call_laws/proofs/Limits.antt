-- Values that stand in a source of few bytes, and call for little at their destination, are within limits.
use Rattle.std.proofs.Common.{◌≡◌, ℕ, zero, suc, ◌+◌, ◌*◌, ◌^◌, ◌<◌, ◌≤◌, Bool, true, false, List, [], ◌∷◌, ◌++◌, length, map, take, drop, Option, Some, None, refl, sym, ap, ◌∙◌, subst, arith, drop-drop, length-append, length-drop}
use Rattle.std.specs.Prelude.{if◌then◌else◌}
use Rattle.std.specs.Cmp.{second_so}
use Rattle.std.specs.Str.{bytes_eq}
use Rattle.std.proofs.lemmas.Bool.{leb-true}
use Rattle.fact_types.specs.Agrees.{Agrees, AgreesBy, AgreesFields, AgreesCase, AgreesPlaces, BothThere, chosen, named, names_of}
use Rattle.fact_types.specs.Fields.{Field, field_of}
use Rattle.fact_types.specs.FlatShapes.{flat, flat_members}
use Rattle.fact_types.specs.Layout.{extent}
use Rattle.fact_types.specs.Options.{◌>>=◌}
use Rattle.fact_types.specs.Shapes.{Kind, k_record, k_variant, k_list, k_tuple, k_map, k_flags, k_enum, k_option, k_result, k_fixed, k_future, k_stream, Shape, s_plain, s_node, Members, no_members, bare, typed, layout_of, place_of}
use Rattle.fact_types.specs.Valid.{IsValid, AreDistinct}
use Rattle.fact_types.specs.declared.flats.FlatType.TheVariants.{I32}
use Rattle.fact_types.specs.declared.interface.InterfaceType.{InterfaceType}
use Rattle.fact_types.specs.declared.interface.InterfaceType.TheVariants as ty
use Rattle.fact_types.specs.declared.outside.FixedEncoding.{FixedEncoding}
use Rattle.fact_types.specs.declared.outside.FixedEncoding.TheVariants as units_of
use Rattle.fact_types.specs.declared.outside.StringEncoding.{StringEncoding}
use Rattle.fact_types.specs.declared.outside.StringEncoding.TheVariants.{Utf8, Utf16, CompactUtf16}
use Rattle.fact_types.specs.declared.extents.Extent.{Extent}
use Rattle.fact_types.specs.declared.extents.MemoryWidth.{MemoryWidth}
use Rattle.fact_types.specs.declared.extents.MemoryWidth.TheVariants.{Memory32, Memory64}
use Rattle.fact_types.proofs.ShapeLaws.{none_some, same_some}
use Rattle.fact_machine.specs.declared.types.CoreValue.{CoreValue}
use Rattle.fact_values.specs.declared.value.Value.{Value}
use Rattle.fact_values.specs.Canonical.{EachAt, EachOf, ThereIs}
use Rattle.fact_values.specs.Lift.{number_as}
use Rattle.fact_values.specs.Limits.{CaseType, IsCaseWithin, IsCaseWithinAt, IsElementWithin, IsElementWithinAt, IsListWithin, IsTextWithin, IsWithinAt, IsWithinLimits, AreWithinAt, AreWithinLimits, Where, case_type, most_units, place_in}
use Rattle.fact_values.specs.Load.{load_element, load_members}
use Rattle.fact_values.specs.Places.{Pair, case_bytes, each_at, payload_place}
use Rattle.fact_values.specs.Texts.{form_of, lies_aligned}
use Rattle.fact_actions.specs.Moves.{entry_extent, part, payload_part}
use Rattle.fact_actions.specs.Paths.{TextForm, AsUtf8, AsUtf16, AsCompactLatin1, AsCompactUtf16, align_of, path}
use Rattle.fact_actions.specs.Requests.{RequestPart, TextPart, list_part}
use Rattle.fact_actions.specs.Sides.{Source, Values, AtAddress, nth_part, side_abi, width_of_side}
use Rattle.fact_actions.specs.Strings.{form_in}
use Rattle.fact_action_laws.specs.MoveTerms.{AreSupplied, AreTyped, AreWellFormed, IsFit, IsSupplied, IsWellFormed, moving}
use Rattle.fact_action_laws.specs.Places.{AreInRange, HasSideMemory, IsSource, from_side, value_at_source}
use Rattle.fact_action_laws.specs.Regions.{TransferSetting}
use Rattle.fact_action_laws.proofs.Distinct.{each_agrees, places_agree}
use Rattle.fact_action_laws.proofs.Elements.{IsSingle, each_at_map, each_holds_map, first_place, single}
use Rattle.fact_action_laws.proofs.Fields.{field_taken, formed_found, found_named, members_taken, part_source}
use Rattle.fact_action_laws.proofs.FixedLaws.{fixed_source, fixed_taken}
use Rattle.fact_action_laws.proofs.MoveLaws.{AreFit}
use Rattle.fact_action_laws.proofs.ListLaws.{element_loads, from_extent, list_taken, one, row, to_extent}
use Rattle.fact_action_laws.proofs.MapLaws.{entry_at, entry_loads, map_taken, pair_row}
use Rattle.fact_action_laws.proofs.Numbers.{number_at_source}
use Rattle.fact_action_laws.proofs.Pairs.{pair_taken}
use Rattle.fact_action_laws.proofs.Plain.{both}
use Rattle.fact_action_laws.proofs.Products.{record_taken, tuple_taken}
use Rattle.fact_action_laws.proofs.Spans.{SpansFit, first_part, flats_from, next_part, parts_from, spans_taken}
use Rattle.fact_action_laws.proofs.Sums.{IsPayloadAt}
use Rattle.fact_action_laws.proofs.Theorem.{AreValid, case_supplied, case_valid, members_valid, places_names, supplied_found, valid_found}
use Rattle.fact_action_laws.proofs.Tuples.{places_fields}
use Rattle.fact_action_laws.proofs.Variants.{SumKind, a_result, a_variant, an_option, case_formed, sum_number, sum_taken}
use Rattle.fact_action_laws.specs.Parts.{case_of_source, pair_of_source, parts_of, parts_of_case, parts_of_each, parts_of_fields, parts_of_some}
use Rattle.fact_action_laws.specs.Rooms.{parts_bytes, path_bytes}
use Rattle.fact_action_laws.proofs.TextLaw.{text_taken}

-- ---- texts

-- a text asks for a byte for each unit, or more
units_paid : (f : TextForm) (to : StringEncoding) (n : ℕ) → n ≤ path_bytes (align_of to) (path f to) n
units_paid AsUtf8 Utf8 n = omega arith
units_paid AsUtf8 Utf16 n = omega arith
units_paid AsUtf8 CompactUtf16 n = omega arith
units_paid AsUtf16 Utf8 n = omega arith
units_paid AsUtf16 Utf16 n = omega arith
units_paid AsUtf16 CompactUtf16 n = omega arith
units_paid AsCompactLatin1 Utf8 n = omega arith
units_paid AsCompactLatin1 Utf16 n = omega arith
units_paid AsCompactLatin1 CompactUtf16 n = omega arith
units_paid AsCompactUtf16 Utf8 n = omega arith
units_paid AsCompactUtf16 Utf16 n = omega arith
units_paid AsCompactUtf16 CompactUtf16 n = omega arith

most_enough : (e : FixedEncoding) (to : StringEncoding) → 16384 ≤ most_units e to
most_enough units_of.Utf8 Utf8 = omega arith
most_enough units_of.Utf8 Utf16 = omega arith
most_enough units_of.Utf8 CompactUtf16 = omega arith
most_enough units_of.Utf16 Utf8 = omega arith
most_enough units_of.Utf16 Utf16 = omega arith
most_enough units_of.Utf16 CompactUtf16 = omega arith
most_enough units_of.Latin1 Utf8 = omega arith
most_enough units_of.Latin1 Utf16 = omega arith
most_enough units_of.Latin1 CompactUtf16 = omega arith

-- a range that is in order lies in its memory
range_in : (bytes : List ℕ) (align p n : ℕ) → lies_aligned bytes align p n ≡ true → p + n ≤ length bytes
range_in bytes align p n h = leb-true (p + n) (length bytes) (second_so _ _ h)

element_place : (w : MemoryWidth) (s : Shape) (a : ℕ) → a + place_in w (record { shape = s; flat_place = 0; place32 = place_of Memory32 s 0; place64 = place_of Memory64 s 0 }) ≡ a
element_place Memory32 s a = first_place Memory32 s a
element_place Memory64 s a = first_place Memory64 s a

take_again : {A : Type 0} (n : ℕ) (xs : List A) → take n (take n xs) ≡ take n xs
take_again zero xs = refl
take_again (suc n) [] = refl
take_again (suc n) (x ∷ xs) = ap (λ l. x ∷ l) (take_again n xs)

module _ (c : TransferSetting) (short : length c.source ≤ 65536) where
  abbrev P : List RequestPart → ℕ
  P xs = parts_bytes c.transfer.to.encoding xs

  parts_append : (xs ys : List RequestPart) → P (xs ++ ys) ≡ P xs + P ys
  parts_append [] ys = omega arith
  parts_append (x ∷ xs) ys = let r = parts_append xs ys in omega (arith, r)

  same_pair : (s : Source) → pair_of_source c s ≡ pair_taken c s
  same_pair (Values vs) = refl
  same_pair (AtAddress a) = refl

  same_case : (ms : Members) (s : Source) (n : ℕ) (k : CaseType) → number_at_source c (case_bytes ms) s ≡ Some n → case_type ms n ≡ Some k → case_of_source c ms s ≡ Some k
  same_case ms (Values []) n k h e = absurd (none_some None n refl h)
  same_case ms (Values (v ∷ vs)) n k h e = ap (case_type ms) (same_some _ (number_as I32 v) n (sum_number ms v vs c) h) ∙ e
  same_case ms (AtAddress a) n k h e = ap (λ o. o >>= (λ n. case_type ms n)) h ∙ e

  -- what is to be shown of a value, of the fields of a product, and of a case
  record Fits (t u : Shape) : Type 0 where
    by : (s : Source) (v : Value) → IsSource c (length (flat (width_of_side c.transfer.from) t)) s → value_at_source c t s ≡ Some v → P (parts_of c t u s) ≤ 16384 → IsFit c t u s

  pub record FieldsFit (ms ns : Members) : Type 0 where
    pub by : (s : Source) (vs : List Value) → IsSource c (length (flat_members (width_of_side c.transfer.from) ms)) s → members_taken c ms s ≡ Some vs → P (parts_of_fields c ms ns s) ≤ 16384 → AreFit c ms ns s

  -- a case is within limits, where there is one
  abbrev CaseWithin : Members → CaseType → Members → Source → Type 0
  CaseWithin ms k ns (Values []) = Unit {0}
  CaseWithin ms k ns (Values (v ∷ vs)) = IsCaseWithin (moving c) k ns vs
  CaseWithin ms k ns (AtAddress a) = IsCaseWithinAt (moving c) k ns (a + payload_place (side_abi c.transfer.from) ms)

  record CaseFits (ms : Members) (k : CaseType) (ns : Members) : Type 0 where
    by : (s : Source) (ps : List Value) → IsPayloadAt c ms k.payload s ps → P (parts_of_case c ms k ns s) ≤ 16384 → CaseWithin ms k ns s

  -- ---- plain types

  text_within : (s : Source) (q : Pair) → pair_taken c s ≡ Some q → IsTextWithin (moving c) q → IsFit c (s_plain ty.String) (s_plain ty.String) s
  unfolding IsWithinLimits IsWithinAt
  text_within (Values vs) q at h = subst (λ o. ThereIs o (IsTextWithin (moving c))) (sym at) h
  text_within (AtAddress a) q at h = subst (λ o. ThereIs o (IsTextWithin (moving c))) (sym at) h

  text_fits : Fits (s_plain ty.String) (s_plain ty.String)
  unfolding parts_of
  text_fits = record {
    by = λ s v is h few.
        let t = text_taken c s v h in
        let F : Pair → List RequestPart = λ q. TextPart (form_in c.transfer.from.encoding q.count) q.pointer (form_of c.transfer.from.encoding q.count).units ∷ [] in
        let parts_are : P (parts_of_some (pair_of_source c s) F) ≡ P (F t.pair) = ap (λ o. P (parts_of_some o F)) (same_pair s ∙ t.at) in
        let paid = units_paid (form_in c.transfer.from.encoding t.pair.count) c.transfer.to.encoding (form_of c.transfer.from.encoding t.pair.count).units in
        let enough = most_enough (form_of c.transfer.from.encoding t.pair.count).encoding c.transfer.to.encoding in
        text_within s t.pair t.at (omega (arith, few, parts_are, paid, enough));
  }

  -- all others are within limits
  abbrev IsOther : InterfaceType → Type 0
  IsOther ty.String = ⊥
  IsOther _ = Unit {0}

  other_within : (q : InterfaceType) (t : Shape) (s : Source) → IsOther q → IsFit c t (s_plain q) s
  unfolding IsWithinLimits IsWithinAt
  other_within ty.String t s o = absurd o
  other_within q t (Values vs) o = tt
  other_within q t (AtAddress a) o = tt

  plain_fits : (q : InterfaceType) (t : Shape) → Agrees t (s_plain q) → Fits t (s_plain q)
  plain_fits ty.String (s_plain p) a = subst (λ p. Fits (s_plain p) (s_plain ty.String)) (sym a) text_fits
  plain_fits ty.String (s_node k ms) a = absurd a
  plain_fits q t a = record { by = λ s v is h few. other_within q t s tt }

  -- ---- products

  record_within : (ms ns : Members) (s : Source) → AreFit c ms ns s → IsFit c (s_node k_record ms) (s_node k_record ns) s
  unfolding IsWithinLimits IsWithinAt
  record_within ms ns (Values vs) h = h
  record_within ms ns (AtAddress a) h = h

  tuple_within : (ms ns : Members) (s : Source) → AreFit c ms ns s → IsFit c (s_node k_tuple ms) (s_node k_tuple ns) s
  unfolding IsWithinLimits IsWithinAt
  tuple_within ms ns (Values vs) h = h
  tuple_within ms ns (AtAddress a) h = h

  record_fits : (ms ns : Members) → FieldsFit ms ns → Fits (s_node k_record ms) (s_node k_record ns)
  unfolding parts_of
  record_fits ms ns F = record { by = λ s v is h few. let r = record_taken c ms s v h in record_within ms ns s (F.by s r.mid is r.first few) }

  tuple_fits : (ms ns : Members) → FieldsFit ms ns → Fits (s_node k_tuple ms) (s_node k_tuple ns)
  unfolding parts_of
  tuple_fits ms ns F = record { by = λ s v is h few. let r = tuple_taken c ms s v h in tuple_within ms ns s (F.by s r.mid is r.first few) }

  -- ---- elements and entries, one behind another

  rows_fit : (ms ns : Members) → FieldsFit ms ns → HasSideMemory c.transfer.from → (stride p n i a : ℕ) (rows : List (List Value)) → a ≡ p + i * stride → each_at n stride (λ a. load_members (from_side c) c.source ms a 0) a ≡ Some rows
      → P (parts_of_each i n (λ i. parts_of_fields c ms ns (AtAddress (p + i * stride)))) ≤ 16384 → EachAt n stride (λ a. AreWithinAt (moving c) ms ns a) a
  rows_fit ms ns F there stride p zero i a rows e h few = tt
  rows_fit ms ns F there stride p (suc n) i a rows e h few =
      let f : ℕ → List RequestPart = λ i. parts_of_fields c ms ns (AtAddress (p + i * stride)) in
      let first = both (load_members (from_side c) c.source ms a 0) _ rows h in
      let rest = both (each_at n stride (λ a. load_members (from_side c) c.source ms a 0) (a + stride)) _ rows first.last in
      let all = parts_append (f i) (parts_of_each (suc i) n f) in
      let next : a + stride ≡ p + suc i * stride = omega (arith, e) in (
        subst (AreWithinAt (moving c) ms ns) (sym e) (F.by (AtAddress (p + i * stride)) first.mid there (subst (λ a. load_members (from_side c) c.source ms a 0 ≡ Some first.mid) e first.first) (omega (arith, few, all))),
        rows_fit ms ns F there stride p n (suc i) (a + stride) rest.mid next rest.first (omega (arith, few, all)),
      )

  element_back : (s u : Shape) (a : ℕ) → AreWithinAt (moving c) (one [] s) (one [] u) a → IsElementWithinAt (moving c) (one [] s) (one [] u) a
  unfolding IsElementWithinAt AreWithinAt
  element_back s u a h = subst (IsWithinAt (moving c) s u) (element_place (width_of_side c.transfer.from) s a) h.0

  list_within : (s u : Shape) (src : Source) (q : Pair) → pair_taken c src ≡ Some q → IsListWithin (moving c) k_list (one [] s) (one [] u) (λ a. IsElementWithinAt (moving c) (one [] s) (one [] u) a) q → IsFit c (s_node k_list (one [] s)) (s_node k_list (one [] u)) src
  unfolding IsWithinLimits IsWithinAt IsElementWithinAt
  list_within s u (Values vs) q at h = subst (λ o. ThereIs o (IsListWithin (moving c) k_list (one [] s) (one [] u) (λ a. IsElementWithinAt (moving c) (one [] s) (one [] u) a))) (sym at) h
  list_within s u (AtAddress a) q at h = subst (λ o. ThereIs o (IsListWithin (moving c) k_list (one [] s) (one [] u) (λ a. IsElementWithinAt (moving c) (one [] s) (one [] u) a))) (sym at) h

  list_fits : (s u : Shape) → HasSideMemory c.transfer.from → FieldsFit (one [] s) (one [] u) → Fits (s_node k_list (one [] s)) (s_node k_list (one [] u))
  unfolding parts_of
  list_fits s u there F = record {
    by = λ src v is h few.
        let ms : Members = one [] s in
        let ns : Members = one [] u in
        let t = list_taken c s src v h in
        let x : Extent = extent (width_of_side c.transfer.from) (layout_of s) in
        let y : Extent = extent (width_of_side c.transfer.to) (layout_of u) in
        let Q : Pair → List RequestPart = λ q. list_part c.transfer.to ns q.count ∷ parts_of_each 0 q.count (λ i. parts_of_fields c ms ns (AtAddress (q.pointer + i * (entry_extent c.transfer.from ms).size))) in
        let parts_are : P (parts_of_some (pair_of_source c src) Q) ≡ P (Q t.pair) = ap (λ o. P (parts_of_some o Q)) (same_pair src ∙ t.at) in
        let loaded = each_at_map t.pair.count x.size (λ a. load_element (from_side c) c.source ms a) (λ a. load_members (from_side c) c.source ms a 0) row (λ a w l. element_loads (from_side c) c.source [] s a w l) t.pair.pointer t.values t.elements.each in
        let begin : t.pair.pointer ≡ t.pair.pointer + 0 * (entry_extent c.transfer.from ms).size = omega arith in
        let rows = rows_fit ms ns F there (entry_extent c.transfer.from ms).size t.pair.pointer t.pair.count 0 t.pair.pointer (map row t.values) begin
        (subst (λ (e : Extent). each_at t.pair.count e.size (λ a. load_members (from_side c) c.source ms a 0) t.pair.pointer ≡ Some (map row t.values)) (sym (from_extent c s u)) loaded) (omega (arith, few, parts_are)) in
        let range = range_in c.source x.align t.pair.pointer (t.pair.count * x.size) t.elements.range in
        let region : t.pair.count * (entry_extent c.transfer.to ns).size ≡ t.pair.count * y.size = ap (λ (e : Extent). t.pair.count * e.size) (to_extent c s u) in
        let source : t.pair.count * x.size < 2 ^ 32 = omega (arith, range, short) in
        let destination : t.pair.count * y.size < 2 ^ 32 = omega (arith, few, parts_are, region) in
        list_within s u src t.pair t.at (record {
          source = source;
          destination = destination;
          each = each_holds_map t.pair.count x.size (λ a. AreWithinAt (moving c) ms ns a) (λ a. IsElementWithinAt (moving c) ms ns a) (element_back s u) t.pair.pointer
              (subst (λ (e : Extent). EachAt t.pair.count e.size (λ a. AreWithinAt (moving c) ms ns a) t.pair.pointer) (from_extent c s u) rows);
        });
  }

  map_within : (ms ns : Members) (src : Source) (q : Pair) → pair_taken c src ≡ Some q → IsListWithin (moving c) k_map ms ns (λ a. AreWithinAt (moving c) ms ns a) q → IsFit c (s_node k_map ms) (s_node k_map ns) src
  unfolding IsWithinLimits IsWithinAt
  map_within ms ns (Values vs) q at h = subst (λ o. ThereIs o (IsListWithin (moving c) k_map ms ns (λ a. AreWithinAt (moving c) ms ns a))) (sym at) h
  map_within ms ns (AtAddress a) q at h = subst (λ o. ThereIs o (IsListWithin (moving c) k_map ms ns (λ a. AreWithinAt (moving c) ms ns a))) (sym at) h

  map_fits : (ms ns : Members) → HasSideMemory c.transfer.from → FieldsFit ms ns → Fits (s_node k_map ms) (s_node k_map ns)
  unfolding parts_of
  map_fits ms ns there F = record {
    by = λ src v is h few.
        let t = map_taken c ms src v h in
        let x : Extent = entry_extent c.transfer.from ms in
        let y : Extent = entry_extent c.transfer.to ns in
        let Q : Pair → List RequestPart = λ q. list_part c.transfer.to ns q.count ∷ parts_of_each 0 q.count (λ i. parts_of_fields c ms ns (AtAddress (q.pointer + i * x.size))) in
        let parts_are : P (parts_of_some (pair_of_source c src) Q) ≡ P (Q t.pair) = ap (λ o. P (parts_of_some o Q)) (same_pair src ∙ t.at) in
        let loaded = each_at_map t.pair.count x.size (entry_at (from_side c) c.source ms) (λ a. load_members (from_side c) c.source ms a 0) pair_row (λ a e l. entry_loads (from_side c) c.source ms a e l) t.pair.pointer t.entries t.elements.each in
        let begin : t.pair.pointer ≡ t.pair.pointer + 0 * x.size = omega arith in
        let rows = rows_fit ms ns F there x.size t.pair.pointer t.pair.count 0 t.pair.pointer (map pair_row t.entries) begin loaded (omega (arith, few, parts_are)) in
        let range = range_in c.source x.align t.pair.pointer (t.pair.count * x.size) t.elements.range in
        let source : t.pair.count * x.size < 2 ^ 32 = omega (arith, range, short) in
        let destination : t.pair.count * y.size < 2 ^ 32 = omega (arith, few, parts_are) in
        map_within ms ns src t.pair t.at (record { source = source; destination = destination; each = rows });
  }

  -- ---- lists of fixed length

  in_range_drop : (n : ℕ) (vs : List CoreValue) → AreInRange vs → AreInRange (drop n vs)
  in_range_drop zero vs h = h
  in_range_drop (suc n) [] h = tt
  in_range_drop (suc n) (v ∷ vs) h = in_range_drop n vs h.1

  first_source : (F n : ℕ) (s : Source) → IsSource c (suc n * F) s → IsSource c F (first_part F s)
  first_source F n (Values vs) h = part_source c F 0 vs (let l = h.0 in omega (arith, l)) h.1
  first_source F n (AtAddress a) h = h

  next_source : (F e n : ℕ) (s : Source) → IsSource c (suc n * F) s → IsSource c (n * F) (next_part F e s)
  next_source F e n (Values vs) h = ((let l = h.0 in omega (arith, l, length-drop F vs)), in_range_drop F vs h.1)
  next_source F e n (AtAddress a) h = h

  nth_is : (F e i : ℕ) (s : Source) → nth_part F e i s ≡ first_part F (parts_from F e i s)
  nth_is F e i (Values vs) = refl
  nth_is F e i (AtAddress a) = refl

  parts_next : (F e i : ℕ) (s : Source) → next_part F e (parts_from F e i s) ≡ parts_from F e (suc i) s
  parts_next F e i (Values vs) = let h : i * F + F ≡ suc i * F = omega arith in ap (λ l. Values l) (drop-drop F (i * F) vs ∙ ap (λ k. drop k vs) h)
  parts_next F e i (AtAddress a) = let h : (a + i * e) + e ≡ a + suc i * e = omega arith in ap (λ k. AtAddress k) h

  parts_begin : (F e : ℕ) (s : Source) → s ≡ parts_from F e 0 s
  parts_begin F e (Values vs) = let h : 0 ≡ 0 * F = omega arith in ap (λ k. Values (drop k vs)) h
  parts_begin F e (AtAddress a) = let h : a ≡ a + 0 * e = omega arith in ap (λ k. AtAddress k) h

  spans_fit : (ms ns : Members) → FieldsFit ms ns → (e f : ℕ) (s0 : Source) (n i : ℕ) (s : Source) (rows : List (List Value)) → s ≡ parts_from (flats_from c ms ns) e i s0 → IsSource c (n * flats_from c ms ns) s → spans_taken c ms ns e f n s ≡ Some rows
      → P (parts_of_each i n (λ i. parts_of_fields c ms ns (nth_part (flats_from c ms ns) e i s0))) ≤ 16384 → SpansFit c ms ns e f n s
  spans_fit ms ns F e f s0 zero i s rows at is h few = tt
  spans_fit ms ns F e f s0 (suc n) i s rows at is h few =
      let k : ℕ = flats_from c ms ns in
      let g : ℕ → List RequestPart = λ i. parts_of_fields c ms ns (nth_part k e i s0) in
      let first = both (members_taken c ms (first_part k s)) _ rows h in
      let rest = both (spans_taken c ms ns e f n (next_part k e s)) _ rows first.last in
      let nth : first_part k s ≡ nth_part k e i s0 = ap (first_part k) at ∙ sym (nth_is k e i s0) in
      let all = parts_append (g i) (parts_of_each (suc i) n g) in
      let here = F.by (nth_part k e i s0) first.mid (subst (IsSource c k) nth (first_source k n s is)) (subst (λ s. members_taken c ms s ≡ Some first.mid) nth first.first) (omega (arith, few, all)) in (
        subst (AreFit c ms ns) (sym nth) here,
        spans_fit ms ns F e f s0 n (suc i) (next_part k e s) rest.mid (ap (next_part k e) at ∙ parts_next k e i s0) (next_source k e n s is) rest.first (omega (arith, few, all)),
      )

  flats_one : (s u : Shape) → flats_from c (one [] s) (one [] u) ≡ length (flat (width_of_side c.transfer.from) s)
  flats_one s u = length-append (flat (width_of_side c.transfer.from) s) [] ∙ omega arith

  flat_back : (s u : Shape) (e f n : ℕ) (vs : List CoreValue) → SpansFit c (one [] s) (one [] u) e f n (Values vs) → EachOf n (flats_from c (one [] s) (one [] u)) (λ cs. IsWithinLimits (moving c) s u cs) vs
  unfolding AreWithinLimits
  flat_back s u e f zero vs h = tt
  flat_back s u e f (suc n) vs h =
      let F = flats_from c (one [] s) (one [] u) in
      let all : take F vs ≡ take (length (flat (width_of_side c.transfer.from) s)) (take F vs) = sym (take_again F vs) ∙ ap (λ k. take k (take F vs)) (flats_one s u) in
      (subst (λ l. IsWithinLimits (moving c) s u l) (sym all) h.0.0, flat_back s u e f n (drop F vs) h.1)

  at_back : (s u : Shape) (e f n a : ℕ) → SpansFit c (one [] s) (one [] u) e f n (AtAddress a) → EachAt n e (λ a. IsElementWithinAt (moving c) (one [] s) (one [] u) a) a
  at_back s u e f zero a h = tt
  at_back s u e f (suc n) a h = (element_back s u a h.0, at_back s u e f n (a + e) h.1)

  fixed_within : (n : ℕ) (s u : Shape) (f : ℕ) (src : Source) → SpansFit c (one [] s) (one [] u) (entry_extent c.transfer.from (one [] s)).size f n src → IsFit c (s_node (k_fixed n) (one [] s)) (s_node (k_fixed n) (one [] u)) src
  unfolding IsWithinLimits IsWithinAt IsElementWithin IsElementWithinAt
  fixed_within n s u f (Values vs) h = subst (λ k. EachOf n k (λ cs. IsWithinLimits (moving c) s u cs) vs) (flats_one s u) (flat_back s u (entry_extent c.transfer.from (one [] s)).size f n vs h)
  fixed_within n s u f (AtAddress a) h =
      subst (λ (x : Extent). EachAt n x.size (λ a. IsElementWithinAt (moving c) (one [] s) (one [] u) a) a) (from_extent c s u) (at_back s u (entry_extent c.transfer.from (one [] s)).size f n a h)

  fixed_fits : (n : ℕ) (s u : Shape) → IsWellFormed s → IsWellFormed u → FieldsFit (one [] s) (one [] u) → Fits (s_node (k_fixed n) (one [] s)) (s_node (k_fixed n) (one [] u))
  unfolding parts_of
  fixed_fits n s u fs fu F = record {
    by = λ src v is h few.
        let ms : Members = one [] s in
        let ns : Members = one [] u in
        let e : ℕ = (entry_extent c.transfer.from ms).size in
        let f : ℕ = (entry_extent c.transfer.to ns).size in
        let from = fixed_source c n s u fs fu src is in
        let t = fixed_taken c n s u fs fu src v from h in
        fixed_within n s u f src (spans_fit ms ns F e f src n 0 src (map row t.values) (parts_begin (flats_from c ms ns) e src) from t.spans few);
  }

  -- ---- sums

  sum_values : {k : Kind} → SumKind k → (ms ns : Members) (v : CoreValue) (vs : List CoreValue) → ThereIs (case_type ms (number_as I32 v)) (λ x. IsCaseWithin (moving c) x ns vs) → IsFit c (s_node k ms) (s_node k ns) (Values (v ∷ vs))
  unfolding IsWithinLimits IsCaseWithin
  sum_values a_variant ms ns v vs h = h
  sum_values an_option ms ns v vs h = h
  sum_values a_result ms ns v vs h = h

  sum_memory : {k : Kind} → SumKind k → (ms ns : Members) (a n : ℕ) (case : CaseType) → number_at_source c (case_bytes ms) (AtAddress a) ≡ Some n → case_type ms n ≡ Some case → IsCaseWithinAt (moving c) case ns (a + payload_place (side_abi c.transfer.from) ms) → IsFit c (s_node k ms) (s_node k ns) (AtAddress a)
  unfolding IsWithinAt IsCaseWithinAt
  sum_memory a_variant ms ns a n case e f h = subst (λ o. ThereIs o (λ x. ThereIs (case_type ms x) (λ z. IsCaseWithinAt (moving c) z ns (a + payload_place (side_abi c.transfer.from) ms)))) (sym e) (subst (λ o. ThereIs o (λ z. IsCaseWithinAt (moving c) z ns (a + payload_place (side_abi c.transfer.from) ms))) (sym f) h)
  sum_memory an_option ms ns a n case e f h = subst (λ o. ThereIs o (λ x. ThereIs (case_type ms x) (λ z. IsCaseWithinAt (moving c) z ns (a + payload_place (side_abi c.transfer.from) ms)))) (sym e) (subst (λ o. ThereIs o (λ z. IsCaseWithinAt (moving c) z ns (a + payload_place (side_abi c.transfer.from) ms))) (sym f) h)
  sum_memory a_result ms ns a n case e f h = subst (λ o. ThereIs o (λ x. ThereIs (case_type ms x) (λ z. IsCaseWithinAt (moving c) z ns (a + payload_place (side_abi c.transfer.from) ms)))) (sym e) (subst (λ o. ThereIs o (λ z. IsCaseWithinAt (moving c) z ns (a + payload_place (side_abi c.transfer.from) ms))) (sym f) h)

  sum_within : {k : Kind} → SumKind k → (ms ns : Members) (s : Source) (n : ℕ) (case : CaseType) → number_at_source c (case_bytes ms) s ≡ Some n → case_type ms n ≡ Some case → CaseWithin ms case ns s → IsFit c (s_node k ms) (s_node k ns) s
  sum_within kind ms ns (Values []) n case e f h = absurd (none_some None n refl e)
  sum_within kind ms ns (Values (v ∷ vs)) n case e f h =
      let same : number_as I32 v ≡ n = same_some _ (number_as I32 v) n (sum_number ms v vs c) e in
      sum_values kind ms ns v vs (subst (λ o. ThereIs o (λ x. IsCaseWithin (moving c) x ns vs)) (sym (ap (case_type ms) same ∙ f)) h)
  sum_within kind ms ns (AtAddress a) n case e f h = sum_memory kind ms ns a n case e f h

  sum_parts : {k : Kind} → SumKind k → (ms ns : Members) (s : Source) → parts_of c (s_node k ms) (s_node k ns) s ≡ parts_of_some (case_of_source c ms s) (λ x. parts_of_case c ms x ns s)
  unfolding parts_of
  sum_parts a_variant ms ns s = refl
  sum_parts an_option ms ns s = refl
  sum_parts a_result ms ns s = refl

  sum_fits : {k : Kind} → SumKind k → (ms ns : Members) → AreWellFormed ms → ((n : ℕ) (x : CaseType) → case_type ms n ≡ Some x → CaseFits ms x ns) → Fits (s_node k ms) (s_node k ns)
  sum_fits {k} kind ms ns formed C = record {
    by = λ s v is h few.
        let t = sum_taken kind c ms s v formed is h in
        let H : CaseType → List RequestPart = λ x. parts_of_case c ms x ns s in
        let parts_are : P (parts_of c (s_node k ms) (s_node k ns) s) ≡ P (H t.case) = ap P (sum_parts kind ms ns s) ∙ ap (λ o. P (parts_of_some o H)) (same_case ms s t.number t.case t.at t.case_is) in
        sum_within kind ms ns s t.number t.case t.at t.case_is ((C t.number t.case t.case_is).by s t.payload t.payload_at (omega (arith, few, parts_are)));
  }

  -- ---- kinds of types

  abbrev Fields : Members → Type 0
  Fields ns = (ms : Members) → AgreesFields ms ns → AreValid ms → AreWellFormed ms → AreSupplied c ms → FieldsFit ms ns

  abbrev Cases : Members → Type 0
  Cases ns = (ms : Members) (k : CaseType) → AgreesCase k.name k.payload ns → ((p : Shape) → k.payload ≡ Some p → IsValid p × IsWellFormed p × IsSupplied c p) → CaseFits ms k ns

  places_fit : (ms ns : Members) → AgreesPlaces ms ns → names_of ms ≡ names_of ns → AreDistinct (names_of ns) → AreTyped ms → AreValid ms → AreWellFormed ms → AreSupplied c ms → Fields ns → FieldsFit ms ns
  places_fit ms ns a e d t v f has F = F ms (places_fields ms ns a e d t) v f has

  case_fits : (l : Kind) (ms ns : Members) (n : ℕ) (k : CaseType) → AgreesCase k.name k.payload ns → IsValid (s_node l ms) → AreWellFormed ms → AreSupplied c ms → case_type ms n ≡ Some k → Cases ns → CaseFits ms k ns
  case_fits l ms ns n k a v f has h C = C ms k a (λ p e. (case_valid ms n k p (members_valid l ms v) h e, case_formed ms n k p f h e, case_supplied c ms n k p has h e))

  lists_fit : HasSideMemory c.transfer.from → (ms ns : Members) → IsSingle [] ms → IsSingle [] ns → FieldsFit ms ns → Fits (s_node k_list ms) (s_node k_list ns)
  lists_fit there ms ns x y F =
      subst (λ l. Fits (s_node k_list l) (s_node k_list ns)) (sym x.is) (subst (λ l. Fits (s_node k_list (one [] x.shape)) (s_node k_list l)) (sym y.is)
      (list_fits x.shape y.shape there (subst (λ l. FieldsFit (one [] x.shape) l) y.is (subst (λ l. FieldsFit l ns) x.is F))))

  fixed_lists_fit : (m n : ℕ) → n ≡ m → (ms ns : Members) → IsSingle [] ms → IsSingle [] ns → AreWellFormed ms → AreWellFormed ns → FieldsFit ms ns → Fits (s_node (k_fixed n) ms) (s_node (k_fixed m) ns)
  fixed_lists_fit m n e ms ns x y fm fn F =
      let from_formed : AreWellFormed (one [] x.shape) = subst AreWellFormed x.is fm in
      let to_formed : AreWellFormed (one [] y.shape) = subst AreWellFormed y.is fn in
      subst (λ k. Fits (s_node (k_fixed n) ms) (s_node (k_fixed k) ns)) e
      (subst (λ l. Fits (s_node (k_fixed n) l) (s_node (k_fixed n) ns)) (sym x.is) (subst (λ l. Fits (s_node (k_fixed n) (one [] x.shape)) (s_node (k_fixed n) l)) (sym y.is)
      (fixed_fits n x.shape y.shape from_formed.0 to_formed.0 (subst (λ l. FieldsFit (one [] x.shape) l) y.is (subst (λ l. FieldsFit l ns) x.is F)))))

  -- kinds without parts
  enum_within : (t : Shape) (ns : Members) (s : Source) → IsFit c t (s_node k_enum ns) s
  unfolding IsWithinLimits IsWithinAt
  enum_within t ns (Values vs) = tt
  enum_within t ns (AtAddress a) = tt

  flags_within : (t : Shape) (ns : Members) (s : Source) → IsFit c t (s_node k_flags ns) s
  unfolding IsWithinLimits IsWithinAt
  flags_within t ns (Values vs) = tt
  flags_within t ns (AtAddress a) = tt

  future_within : (u j : ℕ) (t : Shape) (ns : Members) (s : Source) → IsFit c t (s_node (k_future u j) ns) s
  unfolding IsWithinLimits IsWithinAt
  future_within u j t ns (Values vs) = tt
  future_within u j t ns (AtAddress a) = tt

  stream_within : (u j : ℕ) (t : Shape) (ns : Members) (s : Source) → IsFit c t (s_node (k_stream u j) ns) s
  unfolding IsWithinLimits IsWithinAt
  stream_within u j t ns (Values vs) = tt
  stream_within u j t ns (AtAddress a) = tt

  node_fits : (l : Kind) (t : Shape) (ns : Members) → AgreesBy l t ns (λ ms. AgreesFields ms ns) (λ x p. AgreesCase x p ns) (λ ms. AgreesPlaces ms ns) → IsValid t → IsValid (s_node l ns) → IsWellFormed t → IsWellFormed (s_node l ns) → IsSupplied c t → Fields ns → Cases ns → Fits t (s_node l ns)
  node_fits k_record (s_node k_record ms) ns a vt vu ft fu has F C = record_fits ms ns (F ms a.fields (members_valid k_record ms vt) ft.1 has)
  node_fits k_tuple (s_node k_tuple ms) ns a vt vu ft fu has F C =
      tuple_fits ms ns (places_fit ms ns a (places_names 0 ms ns a ft.0.0 fu.0.0) vu.ruled.0.distinct ft.0.1 (members_valid k_tuple ms vt) ft.1 has F)
  node_fits k_variant (s_node k_variant ms) ns a vt vu ft fu has F C = sum_fits a_variant ms ns ft.1 (λ n k h. case_fits k_variant ms ns n k (each_agrees ms ns n k a h) vt ft.1 has h C)
  node_fits k_option (s_node k_option ms) ns a vt vu ft fu has F C = sum_fits an_option ms ns ft.1 (λ n k h. case_fits k_option ms ns n k (places_agree ms ns n k a (ft.0 ∙ sym fu.0) vu.ruled.0.distinct h) vt ft.1 has h C)
  node_fits k_result (s_node k_result ms) ns a vt vu ft fu has F C = sum_fits a_result ms ns ft.1 (λ n k h. case_fits k_result ms ns n k (places_agree ms ns n k a (ft.0 ∙ sym fu.0) vu.ruled.0.distinct h) vt ft.1 has h C)
  node_fits k_enum (s_node k_enum ms) ns a vt vu ft fu has F C = record { by = λ s v is h few. enum_within (s_node k_enum ms) ns s }
  node_fits k_flags (s_node k_flags ms) ns a vt vu ft fu has F C = record { by = λ s v is h few. flags_within (s_node k_flags ms) ns s }
  node_fits k_list (s_node k_list ms) ns a vt vu ft fu has F C =
      lists_fit (has refl).from ms ns (single [] ms ft.0.0 ft.0.1) (single [] ns fu.0.0 fu.0.1)
      (places_fit ms ns a (ft.0.0 ∙ sym fu.0.0) vu.ruled.0.distinct ft.0.1 (members_valid k_list ms vt) ft.1 (λ e. has refl) F)
  node_fits k_map (s_node k_map ms) ns a vt vu ft fu has F C = map_fits ms ns (has refl).from (places_fit ms ns a (ft.0.0 ∙ sym fu.0.0) vu.ruled.0.distinct ft.0.1 (members_valid k_map ms vt) ft.1 (λ e. has refl) F)
  node_fits (k_fixed m) (s_node (k_fixed n) ms) ns a vt vu ft fu has F C =
      fixed_lists_fit m n a.0 ms ns (single [] ms ft.0.0 ft.0.1) (single [] ns fu.0.0 fu.0.1) ft.1 fu.1 (places_fit ms ns a.1 (ft.0.0 ∙ sym fu.0.0) vu.ruled.0.distinct ft.0.1 (members_valid (k_fixed n) ms vt) ft.1 has F)
  node_fits (k_future u j) (s_node (k_future t i) ms) ns a vt vu ft fu has F C = record { by = λ s v is h few. future_within u j (s_node (k_future t i) ms) ns s }
  node_fits (k_stream u j) (s_node (k_stream t i) ms) ns a vt vu ft fu has F C = record { by = λ s v is h few. stream_within u j (s_node (k_stream t i) ms) ns s }
  node_fits l t ns a vt vu ft fu has F C = absurd a

  -- ---- the induction

  no_fields : (ms : Members) (s : Source) → AreFit c ms no_members s
  unfolding AreWithinLimits AreWithinAt
  no_fields ms (Values vs) = tt
  no_fields ms (AtAddress a) = tt

  bare_within : (ms ns : Members) (x : List ℕ) (s : Source) → AreFit c ms ns s → AreFit c ms (bare x ns) s
  unfolding AreWithinLimits AreWithinAt
  bare_within ms ns x (Values vs) h = h
  bare_within ms ns x (AtAddress a) h = h

  bare_fields : (ms ns : Members) (x : List ℕ) → FieldsFit ms ns → FieldsFit ms (bare x ns)
  unfolding parts_of_fields
  bare_fields ms ns x F = record { by = λ s vs is h few. bare_within ms ns x s (F.by s vs is h few) }

  field_within : (ms ns : Members) (x : List ℕ) (u : Shape) (f : Field) (s : Source) → field_of x ms ≡ Some f → IsFit c f.shape u (part c.transfer.from f s) → AreFit c ms ns s → AreFit c ms (typed x u ns) s
  unfolding AreWithinLimits AreWithinAt
  field_within ms ns x u f (Values vs) e h g =
      (subst (λ o. ThereIs o (λ f. IsWithinLimits (moving c) f.shape u (take (length (flat (width_of_side c.transfer.from) f.shape)) (drop f.flat_place vs)))) (sym e) h, g)
  field_within ms ns x u f (AtAddress a) e h g = (subst (λ o. ThereIs o (λ f. IsWithinAt (moving c) f.shape u (a + place_in (width_of_side c.transfer.from) f))) (sym e) h, g)

  field_step : (ms ns : Members) (x : List ℕ) (u : Shape) → AreValid ms → AreWellFormed ms → AreSupplied c ms → BothThere (named x ms) (λ s. Agrees s u)
      → ((s : Shape) → Agrees s u → IsValid s → IsWellFormed s → IsSupplied c s → Fits s u) → FieldsFit ms ns → FieldsFit ms (typed x u ns)
  unfolding parts_of_fields
  field_step ms ns x u v f has a fits_one rest = go (named x ms) refl a
    where
      go : (q : Option Shape) → named x ms ≡ q → BothThere q (λ s. Agrees s u) → FieldsFit ms (typed x u ns)
      go None h a = absurd a
      go (Some s) h a =
          let q = found_named x ms 0 0 0 s h in
          let r = subst (λ z. Agrees z u) (sym q.shape) a in
          let fits = fits_one q.field.shape r (valid_found x ms 0 0 0 q.field v q.is) (formed_found x ms 0 0 0 q.field f q.is) (supplied_found c x ms 0 0 0 q.field has q.is) in
          record {
            by = λ s vs is l few.
                let w = field_taken c x ms q.field s vs f q.is is l in
                let H : Field → List RequestPart = λ g. parts_of c g.shape u (part c.transfer.from g s) in
                let parts_are : P (parts_of_some (field_of x ms) H) ≡ P (H q.field) = ap (λ o. P (parts_of_some o H)) q.is in
                let all = parts_append (parts_of_some (field_of x ms) H) (parts_of_fields c ms ns s) in
                field_within ms ns x u q.field s q.is (fits.by (part c.transfer.from q.field s) w.value w.at.source w.at.taken (omega (arith, few, all, parts_are))) (rest.by s vs is l (omega (arith, few, all)));
          }

  -- a case without a payload is within limits
  none_within : (k : CaseType) (ns : Members) (vs : List CoreValue) → k.payload ≡ None → IsCaseWithin (moving c) k ns vs
  unfolding IsCaseWithin
  none_within k no_members vs e = tt
  none_within k (bare x ns) vs e = none_within k ns vs e
  none_within k (typed x u ns) vs e = go (bytes_eq x k.name) (none_within k ns vs e)
    where
      go : (b : Bool) → IsCaseWithin (moving c) k ns vs → chosen b (Where k.payload (λ s. IsWithinLimits (moving c) s u (take (length (flat (width_of_side c.transfer.from) s)) vs))) (IsCaseWithin (moving c) k ns vs)
      go true h = subst (λ o. Where o (λ s. IsWithinLimits (moving c) s u (take (length (flat (width_of_side c.transfer.from) s)) vs))) (sym e) tt
      go false h = h

  none_within_at : (k : CaseType) (ns : Members) (a : ℕ) → k.payload ≡ None → IsCaseWithinAt (moving c) k ns a
  unfolding IsCaseWithinAt
  none_within_at k no_members a e = tt
  none_within_at k (bare x ns) a e = none_within_at k ns a e
  none_within_at k (typed x u ns) a e = go (bytes_eq x k.name) (none_within_at k ns a e)
    where
      go : (b : Bool) → IsCaseWithinAt (moving c) k ns a → chosen b (Where k.payload (λ s. IsWithinAt (moving c) s u a)) (IsCaseWithinAt (moving c) k ns a)
      go true h = subst (λ o. Where o (λ s. IsWithinAt (moving c) s u a)) (sym e) tt
      go false h = h

  none_case : (ms ns : Members) (k : CaseType) (s : Source) → k.payload ≡ None → CaseWithin ms k ns s
  none_case ms ns k (Values []) e = tt
  none_case ms ns k (Values (v ∷ vs)) e = none_within k ns vs e
  none_case ms ns k (AtAddress a) e = none_within_at k ns (a + payload_place (side_abi c.transfer.from) ms) e

  bare_case_within : (ms ns : Members) (k : CaseType) (x : List ℕ) (s : Source) → CaseWithin ms k ns s → CaseWithin ms k (bare x ns) s
  unfolding IsCaseWithin IsCaseWithinAt
  bare_case_within ms ns k x (Values []) h = tt
  bare_case_within ms ns k x (Values (v ∷ vs)) h = h
  bare_case_within ms ns k x (AtAddress a) h = h

  bare_case : (ms ns : Members) (k : CaseType) (x : List ℕ) → AgreesCase k.name k.payload (bare x ns) → (AgreesCase k.name k.payload ns → CaseFits ms k ns) → CaseFits ms k (bare x ns)
  unfolding parts_of_case
  bare_case ms ns k x a more = go (bytes_eq x k.name) refl a
    where
      go : (b : Bool) → bytes_eq x k.name ≡ b → chosen b (k.payload ≡ None) (AgreesCase k.name k.payload ns) → CaseFits ms k (bare x ns)
      go true e a = record { by = λ s ps h few. bare_case_within ms ns k x s (none_case ms ns k s a) }
      go false e a = record {
        by = λ s ps h few.
            let p = ap (λ b. P (if b then [] else parts_of_case c ms k ns s)) e in
            bare_case_within ms ns k x s ((more a).by s ps h (omega (arith, few, p)));
      }

  -- the payload of a case is within limits
  abbrev PayloadFit : Members → Shape → Source → Option Shape → Type 0
  PayloadFit ms u (Values []) q = Unit {0}
  PayloadFit ms u (Values (v ∷ vs)) q = Where q (λ p. IsWithinLimits (moving c) p u (take (length (flat (width_of_side c.transfer.from) p)) vs))
  PayloadFit ms u (AtAddress a) q = Where q (λ p. IsWithinAt (moving c) p u (a + payload_place (side_abi c.transfer.from) ms))

  payload_fits : (ms : Members) (u p : Shape) (s : Source) → IsFit c p u (payload_part c.transfer.from p (payload_place (side_abi c.transfer.from) ms) s) → PayloadFit ms u s (Some p)
  payload_fits ms u p (Values []) h = tt
  payload_fits ms u p (Values (v ∷ vs)) h = h
  payload_fits ms u p (AtAddress a) h = h

  hit_within : (ms ns : Members) (k : CaseType) (x : List ℕ) (u : Shape) (s : Source) → bytes_eq x k.name ≡ true → PayloadFit ms u s k.payload → CaseWithin ms k (typed x u ns) s
  unfolding IsCaseWithin IsCaseWithinAt
  hit_within ms ns k x u (Values []) e h = tt
  hit_within ms ns k x u (Values (v ∷ vs)) e h =
      subst (λ b. chosen b (Where k.payload (λ s. IsWithinLimits (moving c) s u (take (length (flat (width_of_side c.transfer.from) s)) vs))) (IsCaseWithin (moving c) k ns vs)) (sym e) h
  hit_within ms ns k x u (AtAddress a) e h =
      subst (λ b. chosen b (Where k.payload (λ s. IsWithinAt (moving c) s u (a + payload_place (side_abi c.transfer.from) ms))) (IsCaseWithinAt (moving c) k ns (a + payload_place (side_abi c.transfer.from) ms))) (sym e) h

  miss_within : (ms ns : Members) (k : CaseType) (x : List ℕ) (u : Shape) (s : Source) → bytes_eq x k.name ≡ false → CaseWithin ms k ns s → CaseWithin ms k (typed x u ns) s
  unfolding IsCaseWithin IsCaseWithinAt
  miss_within ms ns k x u (Values []) e h = tt
  miss_within ms ns k x u (Values (v ∷ vs)) e h =
      subst (λ b. chosen b (Where k.payload (λ s. IsWithinLimits (moving c) s u (take (length (flat (width_of_side c.transfer.from) s)) vs))) (IsCaseWithin (moving c) k ns vs)) (sym e) h
  miss_within ms ns k x u (AtAddress a) e h =
      subst (λ b. chosen b (Where k.payload (λ s. IsWithinAt (moving c) s u (a + payload_place (side_abi c.transfer.from) ms))) (IsCaseWithinAt (moving c) k ns (a + payload_place (side_abi c.transfer.from) ms))) (sym e) h

  typed_case : (ms ns : Members) (k : CaseType) (x : List ℕ) (u : Shape) → AgreesCase k.name k.payload (typed x u ns) → ((p : Shape) → k.payload ≡ Some p → Agrees p u → Fits p u) → (AgreesCase k.name k.payload ns → CaseFits ms k ns) → CaseFits ms k (typed x u ns)
  unfolding parts_of_case
  typed_case ms ns k x u a fits_one more = go (bytes_eq x k.name) refl a
    where
      H : Source → Shape → List RequestPart
      H s p = parts_of c p u (payload_part c.transfer.from p (payload_place (side_abi c.transfer.from) ms) s)

      hit : (q : Option Shape) → k.payload ≡ q → BothThere q (λ s. Agrees s u) → (s : Source) (ps : List Value) → IsPayloadAt c ms q s ps → P (parts_of_some q (H s)) ≤ 16384 → PayloadFit ms u s q
      hit None e a s ps h few = absurd a
      hit (Some p) e a s ps h few = payload_fits ms u p s ((fits_one p e a).by (payload_part c.transfer.from p (payload_place (side_abi c.transfer.from) ms) s) h.0 h.3 h.2 few)

      go : (b : Bool) → bytes_eq x k.name ≡ b → chosen b (BothThere k.payload (λ s. Agrees s u)) (AgreesCase k.name k.payload ns) → CaseFits ms k (typed x u ns)
      go true e a = record {
        by = λ s ps h few.
            let p = ap (λ b. P (if b then parts_of_some k.payload (H s) else parts_of_case c ms k ns s)) e in
            hit_within ms ns k x u s e (hit k.payload refl a s ps h (omega (arith, few, p)));
      }
      go false e a = record {
        by = λ s ps h few.
            let p = ap (λ b. P (if b then parts_of_some k.payload (H s) else parts_of_case c ms k ns s)) e in
            miss_within ms ns k x u s e ((more a).by s ps h (omega (arith, few, p)));
      }

  no_case : (ms : Members) (k : CaseType) (s : Source) → CaseWithin ms k no_members s
  unfolding IsCaseWithin IsCaseWithinAt
  no_case ms k (Values []) = tt
  no_case ms k (Values (v ∷ vs)) = tt
  no_case ms k (AtAddress a) = tt

  mutual
    fits : (u t : Shape) → Agrees t u → IsValid t → IsValid u → IsWellFormed t → IsWellFormed u → IsSupplied c t → Fits t u
    fits (s_plain q) t a vt vu ft fu has = plain_fits q t a
    fits (s_node l ns) t a vt vu ft fu has =
        node_fits l t ns a vt vu ft fu has (λ ms af vm fm h. fields_fit ns ms af vm fm (members_valid l ns vu) fu.1 h) (λ ms k ac known. cases_fit ns ms k ac known (members_valid l ns vu) fu.1)

    pub fields_fit : (ns ms : Members) → AgreesFields ms ns → AreValid ms → AreWellFormed ms → AreValid ns → AreWellFormed ns → AreSupplied c ms → FieldsFit ms ns
    fields_fit no_members ms a vm fm vn fn has = record { by = λ s vs is h few. no_fields ms s }
    fields_fit (bare x ns) ms a vm fm vn fn has = bare_fields ms ns x (fields_fit ns ms a vm fm vn fn has)
    fields_fit (typed x u ns) ms a vm fm vn fn has = field_step ms ns x u vm fm has a.0 (λ s b vs fs h. fits u s b vs vn.0 fs fn.0 h) (fields_fit ns ms a.1 vm fm vn.1 fn.1 has)

    cases_fit : (ns ms : Members) (k : CaseType) → AgreesCase k.name k.payload ns → ((p : Shape) → k.payload ≡ Some p → IsValid p × IsWellFormed p × IsSupplied c p) → AreValid ns → AreWellFormed ns → CaseFits ms k ns
    cases_fit no_members ms k a known vn fn = record { by = λ s ps h few. no_case ms k s }
    cases_fit (bare x ns) ms k a known vn fn = bare_case ms ns k x a (λ b. cases_fit ns ms k b known vn fn)
    cases_fit (typed x u ns) ms k a known vn fn = typed_case ms ns k x u a (λ p e b. fits u p b (known p e).0 vn.0 (known p e).1 fn.0 (known p e).2) (λ b. cases_fit ns ms k b known vn.1 fn.1)
