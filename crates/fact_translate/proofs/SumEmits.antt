-- Functions that write the code of variants, options and results.
use Rattle.std.proofs.Common.{◌≡◌, ◌≢◌, ℕ, zero, suc, ◌^◌, ◌<◌, ◌≤◌, ◌⊎◌, inl, inr, Bool, ◌+◌, length-append, List, [], ◌∷◌, ◌++◌, length, Option, Some, None, refl, sym, ap, ◌∙◌, subst, arith, append_assoc, slice_get}
use Rattle.std.specs.Prelude.{unwrap_or}
use Rattle.fact_entity.specs.declared.id.Id.{Id}
use Rattle.fact_entity.specs.declared.table.TypeOptions.{TypeOptions}
use Rattle.fact_entity.specs.declared.table.TypeResults.{TypeResults}
use Rattle.fact_entity.specs.declared.table.TypeVariants.{TypeVariants}
use Rattle.fact_wasm.specs.declared.types.ValType.{ValType}
use Rattle.fact_wasm.specs.declared.types.ValType.TheVariants as val
use Rattle.fact_wasm.specs.declared.instr.Instr.{Instr}
use Rattle.fact_wasm.specs.declared.instr.Instr.TheVariants as I
use Rattle.fact_wasm.specs.declared.module.WasmModule.{WasmModule}
use Rattle.fact_wasm.specs.Ranges.{AreRanged}
use Rattle.fact_wasm.proofs.Ranged.{all-first, all-second}
use Rattle.fact_types.specs.declared.interface.InterfaceType.{InterfaceType}
use Rattle.fact_types.specs.declared.interface.InterfaceType.TheVariants as ty
use Rattle.fact_types.specs.declared.variants.VariantInfo.{VariantInfo}
use Rattle.fact_types.specs.FlatShapes.{IsCounted, AreCounted}
use Rattle.fact_types.specs.Heights.{height}
use Rattle.fact_types.specs.Layout.{variant_info, discriminant_size}
use Rattle.fact_types.specs.Shapes.{k_variant, k_option, k_result, Shape, s_plain, s_node, Members, layout_of, layouts_of}
use Rattle.fact_types.specs.Signatures.{width}
use Rattle.fact_types.specs.Tables.{Tables, HasShape, IsSound}
use Rattle.fact_types.proofs.ShapeLaws.{same_some, none_some}
use Rattle.fact_values.specs.Limits.{CaseType, case_type}
use Rattle.fact_values.specs.Places.{count_of_members, case_bytes}
use Rattle.fact_actions.specs.Actions.{Give, ◌>>=◌}
use Rattle.fact_actions.specs.Moves.{padded, write_case, move}
use Rattle.fact_actions.specs.Running.{ImportPlaces}
use Rattle.fact_actions.specs.Sides.{write_number}
use Rattle.fact_actions.specs.Outlining.{translates_case, translates_if}
use Rattle.fact_code_laws.specs.Cases.{discriminant_code, zero_code}
use Rattle.fact_code_laws.specs.Places.{From, To, Setting, Number, to_past, read_code}
use Rattle.fact_emit.specs.declared.places.Sides.{Sides}
use Rattle.fact_emit.specs.declared.writer.Writer.{Writer}
use Rattle.fact_emit.specs.Asked.{AskedHelper, HasHelper}
use Rattle.fact_emit.specs.Choices.{ChoosesCase, WroteChoice}
use Rattle.fact_emit.specs.Emits.{GrewAsking, GrewAsideAsking, Emits, EmitsAsking, Later}
use Rattle.fact_emit.specs.Fitting.{FitsShapes, node_moves, MovesNode}
use Rattle.fact_emit.specs.Movable.{CanMove}
use Rattle.fact_emit.specs.MovesValue.{MovesValue, except, HasLocal}
use Rattle.fact_emit.specs.Numbers.{ReadsNumber}
use Rattle.fact_emit.specs.Parts.{from_behind, to_behind, bytes_by}
use Rattle.fact_emit.specs.Pieces.{Piece, Is}
use Rattle.fact_emit.specs.Places.{checks_at}
use Rattle.fact_emit.specs.Writers.{is_local_in_use, taken_in, Wrote, Took, Freed, Began, EndedBody}
use Rattle.fact_emit.proofs.ChosenBodies.{aside_nothing, aside_on, aside_grew, aside_does, bodies_behind, choice_grew, choice_emits}
use Rattle.fact_emit.proofs.Emitting.{emits_as, emits_then, emits_wrote, grew_on, grew_wrote, grew_around, sooner}
use Rattle.fact_emit.proofs.ImportLaws.{extended_none, extended_on}
use Rattle.fact_emit.proofs.NumberMoves.{ReadsThen, reads_then}
use Rattle.fact_emit.proofs.RangedCode.{set_ranged, tag_ranged, zeros_ranged}
use Rattle.fact_emit.proofs.ScalarMoves.{moves_as}
use Rattle.fact_emit.proofs.Using.{moves_around}
use Rattle.fact_kinds.specs.declared.sums.NumberedCase.{NumberedCase}
use Rattle.fact_kinds.specs.declared.sums.PairedCase.{PairedCase}
use Rattle.fact_kinds.specs.declared.sums.Sum.{Sum}
use Rattle.fact_kinds.specs.Asks.{AreAsked, MovesHelped}
use Rattle.fact_kinds.specs.Kinds.{discriminant_number_of}
use Rattle.fact_kinds.specs.Moved.{MovedValue, MovedNode}
use Rattle.fact_translate.specs.MovedSums.{HasPayloadShape, MovesPayload, numbered_height, payload_height, MovedSome, MovedPayload, MovesCaseOf, IsCaseOf, MovedCase, AreCaseBodies, WroteBodies, MovedSumBy, MovedSum, translates_by_case}
use Rattle.fact_kinds.specs.Sums.{numbered_case, case_at_name, IsSumOf}
use Rattle.fact_kinds.specs.declared.fuel.Fuel.{Fuel}
use Rattle.fact_kinds.specs.Translations.{TranslatesAs, place_of_source, place_of_target, translates_first}
use Rattle.fact_kinds.proofs.Asking.{asked_both, asked_later, asked_on, emits_ended, grew_ended}
use Rattle.fact_kinds.proofs.Found.{flat_is}
use Rattle.fact_translate.proofs.SumCases.{FoundBare, FoundTyped, found_case, case_counted, paired_with, paired_count, sum_info}
use Rattle.fact_translate.proofs.SumJoin.{bare_case, some_case, sum_join}
use Rattle.fact_translate.proofs.SumRoom.{IsPayload}
use Rattle.fact_kinds.proofs.TypeKinds.{node_members, variant_kind, option_kind, result_kind, variant_type, option_type, result_type}
use Rattle.fact_kinds.proofs.Translating.{both_translated, nothing_translated, part_place, past_place, spot_place, translated_at, translated_with}
use Rattle.fact_kinds.proofs.TranslatedShapes.{first_all, first_more, translated_shapes}

-- ---- payloads

-- A payload, and zeros behind it.
pub some_emits : {t : Tables} {source destination : VariantInfo} {y z : InterfaceType} {sides : Sides} {src part : From} {dst front spot rest : To} {a b c : Writer} {before after : Fuel} (from_count to_count : ℕ) {from_bytes to_bytes : ℕ}
    → ((s : Shape) → HasShape t y s → from_count ≡ unwrap_or (layout_of s).flat_count 0) → from_bytes ≡ bytes_by (width sides.from.memory64) source.payload_offset32 source.payload_offset64
    → ((s : Shape) → HasShape t z s → to_count ≡ unwrap_or (layout_of s).flat_count 0) → to_bytes ≡ bytes_by (width sides.to.memory64) destination.payload_offset32 destination.payload_offset64
    → part ≡ from_behind 1 from_count from_bytes src → front ≡ to_past 1 dst → spot ≡ to_behind 0 to_count to_bytes front → rest ≡ to_past to_count front
    → MovedValue t y z sides part spot before after a b → Wrote b c (zero_code rest) → MovedSome t source destination y z sides src dst before after a c
some_emits {t} {source} {destination} {y} {z} {sides} {src} {part} {dst} {front} {spot} {rest} {a} {b} {c} {before} {after} from_count to_count {from_bytes} {to_bytes} from_is from_at to_is to_at part_is front_is spot_is rest_is moved w = record {
  grew = grew_ended moved.grew (grew_wrote (zeros_ranged rest) w);
  asks = moved.asks;
  asked = asked_later (extended_none w.imports) moved.asks moved.asked;
  emits = λ p u hp hu cp cu can. record {
    from_count = from_count;
    to_count = to_count;
    from_count_is = λ v few. from_is p hp ∙ flat_is v p (layout_of p).flat_count refl cp few;
    to_count_is = λ v few. to_is u hu ∙ flat_is v u (layout_of u).flat_count refl cu few;
    emits =
        let part_at : part ≡ from_behind 1 from_count (bytes_by (width sides.from.memory64) source.payload_offset32 source.payload_offset64) src = part_is ∙ ap (λ n. from_behind 1 from_count n src) from_at in
        let spot_at : spot ≡ to_behind 0 to_count (bytes_by (width sides.to.memory64) destination.payload_offset32 destination.payload_offset64) (to_past 1 dst) = spot_is ∙ ap (λ n. to_behind 0 to_count n front) to_at ∙ ap (to_behind 0 to_count (bytes_by (width sides.to.memory64) destination.payload_offset32 destination.payload_offset64)) front_is in
        let rest_at : rest ≡ to_past to_count (to_past 1 dst) = rest_is ∙ ap (to_past to_count) front_is in
        emits_ended {P = MovesHelped sides part spot (taken_in a) p u} {Q = Is (zero_code rest)} (λ M q locals x k m is. record {
          payload = x;
          is = ap (λ k. x ++ k) (is ∙ ap zero_code rest_at);
          moves = subst (λ s. MovesHelped sides s (to_behind 0 to_count (bytes_by (width sides.to.memory64) destination.payload_offset32 destination.payload_offset64) (to_past 1 dst)) (taken_in a) p u M q locals x) part_at (subst (λ d. MovesHelped sides part d (taken_in a) p u M q locals x) spot_at m);
        }) (moved.emits p u hp hu cp cu can) (emits_wrote (zeros_ranged rest) w);
  };
  translated = λ p u hp hu cp cu can.
      translated_at (ap place_of_source part_is ∙ part_place 1 from_count from_bytes src) (ap place_of_target spot_is ∙ spot_place 0 to_count to_bytes front ∙ ap place_of_target front_is ∙ past_place 1 dst) (moved.translated p u hp hu cp cu can);
}

module _ {t : Tables} {source destination : VariantInfo} {sides : Sides} {src : From} {dst : To} {a b : Writer} (from to : Option InterfaceType) where
  pub payload_some : {before after : Fuel} (y z : InterfaceType) → from ≡ Some y → to ≡ Some z → MovedSome t source destination y z sides src dst before after a b → MovedPayload t source destination from to sides src dst before after a b
  payload_some y z from_is to_is m = record {
    grew = m.grew;
    asks = m.asks;
    asked = subst (λ o. AreAsked t sides (payload_height t o) b.sections m.asks) (sym to_is) m.asked;
    some = λ y' z' e f p u hp hu.
        m.emits p u (subst (λ y. HasShape t y p) (sym (same_some from y y' from_is e)) hp) (subst (λ z. HasShape t z u) (sym (same_some to z z' to_is f)) hu);
    none = λ e f. absurd (none_some from y e from_is);
    translated_some = λ y' z' e f p u hp hu.
        m.translated p u (subst (λ y. HasShape t y p) (sym (same_some from y y' from_is e)) hp) (subst (λ z. HasShape t z u) (sym (same_some to z z' to_is f)) hu);
    translated_none = λ e f. absurd (none_some from y e from_is);
  }

  -- one is there, and the other is not
  pub payload_alone : {before : Fuel} {xs : List Instr} → AreRanged 0 0 xs → (y : InterfaceType) → from ≡ Some y → to ≡ None → Wrote a b xs → MovedPayload t source destination from to sides src dst before before a b
  payload_alone ranged y from_is to_is w = record {
    grew = grew_wrote ranged w;
    asks = [];
    asked = record { each = tt };
    some = λ y' z' e f. absurd (none_some to z' to_is f);
    none = λ e f. absurd (none_some from y e from_is);
    translated_some = λ y' z' e f. absurd (none_some to z' to_is f);
    translated_none = λ e f. absurd (none_some from y e from_is);
  }

  pub payload_none : {before : Fuel} {rest : To} → from ≡ None → rest ≡ to_past 1 dst → Wrote a b (zero_code rest) → MovedPayload t source destination from to sides src dst before before a b
  payload_none {rest = rest} from_is rest_is w = record {
    grew = grew_wrote (zeros_ranged rest) w;
    asks = [];
    asked = record { each = tt };
    some = λ y' z' e f. absurd (none_some from y' from_is e);
    none = λ e f. subst (λ r. Emits a b (λ M p locals code. code ≡ zero_code r)) rest_is (emits_wrote (zeros_ranged rest) w);
    translated_some = λ y' z' e f. absurd (none_some from y' from_is e);
    translated_none = λ e f. nothing_translated (λ i r n. refl);
  }

-- ---- cases

no_payload : (t : Tables) (q : Option InterfaceType) (o : Option Shape) → HasPayloadShape t q o → o ≡ None → q ≡ None
no_payload t None o h e = refl
no_payload t (Some y) None h e = absurd h
no_payload t (Some y) (Some s) h e = absurd (none_some (Some s) s e refl)

a_payload : (t : Tables) (q : Option InterfaceType) (o : Option Shape) (s : Shape) → HasPayloadShape t q o → o ≡ Some s → (y : InterfaceType) × (q ≡ Some y) × HasShape t y s
a_payload t None None s h e = absurd (none_some None s refl e)
a_payload t None (Some s') s h e = absurd h
a_payload t (Some y) None s h e = absurd h
a_payload t (Some y) (Some s') s h e = (y, refl, subst (HasShape t y) (same_some (Some s') s' s refl e) h)

same_locals_taken : (a b : Writer) → b.locals ≡ a.locals → taken_in b ≡ taken_in a
same_locals_taken a b e = ap (λ v. λ i. is_local_in_use (slice_get v.items i)) e

module _ {t : Tables} {source destination : VariantInfo} {sides : Sides} {src : From} {dst : To} {a b c : Writer} {before after : Fuel} (paired : PairedCase) (found : NumberedCase) {size : Number} (found_is : paired.found ≡ Some found) (size_is : size ≡ discriminant_number_of destination.size) (below : found.number < 2 ^ 32)
    (w : Wrote a b (discriminant_code size found.number dst)) (m : MovedPayload t source destination paired.payload found.payload sides src dst before after b c) where
  module _ (ms ns : Members) (k : CaseType) (source_is : source ≡ variant_info (layouts_of ms)) (destination_is : destination ≡ variant_info (layouts_of ns)) (is : IsCaseOf t ms ns paired k) (cs : AreCounted ms) (cu : AreCounted ns) where
    size_at : size ≡ discriminant_number_of (discriminant_size (count_of_members ns))
    size_at = size_is ∙ ap (λ (i : VariantInfo). discriminant_number_of i.size) destination_is

    moved_bare : FoundBare t k ns ns 0 paired.found → EmitsAsking m.asks a c (MovesCaseOf sides src dst (taken_in a) ms ns k)
    moved_bare f =
        let it : found ≡ numbered_case f.number None = same_some paired.found found (numbered_case f.number None) found_is f.is in
        let number_is : f.number ≡ found.number = ap (λ (n : NumberedCase). n.number) (sym it) in
        emits_then {P = Is (discriminant_code size found.number dst)} {Q = Is (zero_code (to_past 1 dst))} (λ M q locals x k' e e'.
        let all : discriminant_code size found.number dst ++ zero_code (to_past 1 dst) ≡ x ++ k' = sym (λ i. e i ++ e' i) in
        subst (MovesCaseOf sides src dst (taken_in a) ms ns k M q locals) all
        (bare_case sides src dst (taken_in a) ms ns k size found.number size_at below M q locals (λ tr ms s d. f.moves tr ms s d ∙ ap (λ z. write_number tr.to (case_bytes ns) d z >>= (λ tag. Give (padded d tag))) number_is)))
        (emits_wrote (tag_ranged size found.number dst) w) (m.none (no_payload t paired.payload k.payload is.payload f.none) (ap (λ (n : NumberedCase). n.payload) it))

    moved_typed : FoundTyped t k ns ns 0 paired.found → EmitsAsking m.asks a c (MovesCaseOf sides src dst (taken_in a) ms ns k)
    moved_typed f =
        let it : found ≡ numbered_case f.number (Some f.type) = same_some paired.found found (numbered_case f.number (Some f.type)) found_is f.is in
        let number_is : f.number ≡ found.number = ap (λ (n : NumberedCase). n.number) (sym it) in
        let (y, y_is, shaped) = a_payload t paired.payload k.payload f.from is.payload f.some in
        let e = m.some y f.type y_is (ap (λ (n : NumberedCase). n.payload) it) f.from f.to shaped f.shaped (case_counted ms is.place k f.from is.there f.some cs) f.counted f.can in
        let from : IsPayload ms f.from = record { place = is.place; case = k; there = is.there; payload = f.some } in
        let same : taken_in b ≡ taken_in a = same_locals_taken a b w.locals in
        let Payload : (ℕ → Bool) → Piece = λ u. MovesPayload sides f.from f.to e.from_count (bytes_by (width sides.from.memory64) source.payload_offset32 source.payload_offset64) e.to_count (bytes_by (width sides.to.memory64) destination.payload_offset32 destination.payload_offset64) src dst u in
        emits_then {P = Is (discriminant_code size found.number dst)} {Q = Payload (taken_in a)} (λ M q locals x k' is' mp.
        subst (λ x. MovesCaseOf sides src dst (taken_in a) ms ns k M q locals (x ++ k')) (sym is')
        (some_case sides src dst (taken_in a) ms ns k size found.number size_at below M q locals {source_info = source} {destination_info = destination} e.from_count e.to_count from f.among source_is destination_is e.from_count_is e.to_count_is
        (λ tr ms s d. f.moves tr ms s d ∙ ap (λ z. write_case tr ms ns s d z (Some f.from) (Some f.to) (λ p s' d'. move tr p f.to s' d')) number_is) mp))
        (emits_wrote (tag_ranged size found.number dst) w) (subst (λ u. EmitsAsking m.asks b c (Payload u)) same e.emits)

    moved_found : FoundBare t k ns ns 0 (case_at_name k.name 0 is.members) ⊎ FoundTyped t k ns ns 0 (case_at_name k.name 0 is.members) → EmitsAsking m.asks a c (MovesCaseOf sides src dst (taken_in a) ms ns k)
    moved_found (inl f) = moved_bare (subst (FoundBare t k ns ns 0) (sym is.found) f)
    moved_found (inr f) = moved_typed (subst (FoundTyped t k ns ns 0) (sym is.found) f)

  module _ (ms ns : Members) (k : CaseType) (is : IsCaseOf t ms ns paired k) (cs : AreCounted ms) (cu : AreCounted ns) where
    translated_bare : FoundBare t k ns ns 0 paired.found → TranslatesAs t sides src dst before after m.asks (λ i r. translates_by_case i r k ns)
    translated_bare f =
        let it : found ≡ numbered_case f.number None = same_some paired.found found (numbered_case f.number None) found_is f.is in
        translated_with (λ i r n route. ap (λ (o : Option Shape). translates_if o (λ s m. translates_case i r k.name s ns m) n) (sym f.none))
        (m.translated_none (no_payload t paired.payload k.payload is.payload f.none) (ap (λ (n : NumberedCase). n.payload) it))

    translated_typed : FoundTyped t k ns ns 0 paired.found → TranslatesAs t sides src dst before after m.asks (λ i r. translates_by_case i r k ns)
    translated_typed f =
        let it : found ≡ numbered_case f.number (Some f.type) = same_some paired.found found (numbered_case f.number (Some f.type)) found_is f.is in
        let (y, y_is, shaped) = a_payload t paired.payload k.payload f.from is.payload f.some in
        translated_with (λ i r n route. sym (f.translated i r n) ∙ ap (λ (o : Option Shape). translates_if o (λ s m. translates_case i r k.name s ns m) n) (sym f.some))
        (m.translated_some y f.type y_is (ap (λ (n : NumberedCase). n.payload) it) f.from f.to shaped f.shaped (case_counted ms is.place k f.from is.there f.some cs) f.counted f.can)

    translated_found : FoundBare t k ns ns 0 (case_at_name k.name 0 is.members) ⊎ FoundTyped t k ns ns 0 (case_at_name k.name 0 is.members) → TranslatesAs t sides src dst before after m.asks (λ i r. translates_by_case i r k ns)
    translated_found (inl f) = translated_bare (subst (FoundBare t k ns ns 0) (sym is.found) f)
    translated_found (inr f) = translated_typed (subst (FoundTyped t k ns ns 0) (sym is.found) f)

  -- The number of a case, and its payload.
  pub case_moved : MovedCase t source destination paired sides src dst before after a c
  case_moved = record {
    grew = grew_on (grew_wrote (tag_ranged size found.number dst) w) m.grew;
    asks = m.asks;
    asked = subst (λ o. AreAsked t sides (numbered_height t o) c.sections m.asks) (sym found_is) m.asked;
    emits = λ ms ns k source_is destination_is is cs cu can. moved_found ms ns k source_is destination_is is cs cu (found_case t k ns ns is.members 0 is.has cu can);
    translated = λ ms ns k is cs cu can. translated_found ms ns k is cs cu (found_case t k ns ns is.members 0 is.has cu can);
  }

-- no case of its name was found
pub case_missing : {t : Tables} {source destination : VariantInfo} {sides : Sides} {src : From} {dst : To} {a b : Writer} {before : Fuel} {xs : List Instr} → AreRanged 0 0 xs → (paired : PairedCase) → paired.found ≡ None → Wrote a b xs → MovedCase t source destination paired sides src dst before before a b
case_missing {t} {a = a} {b} ranged paired none w = record {
  grew = grew_wrote ranged w;
  asks = [];
  asked = record { each = tt };
  emits = λ ms ns k source_is destination_is is cs cu can.
      absurd (missing k ns is.members (case_at_name k.name 0 is.members) (sym is.found ∙ none) (found_case t k ns ns is.members 0 is.has cu can));
  translated = λ ms ns k is cs cu can.
      absurd (missing k ns is.members (case_at_name k.name 0 is.members) (sym is.found ∙ none) (found_case t k ns ns is.members 0 is.has cu can));
}
  where
    missing : (k : CaseType) (ns : Members) (ys : List (List ℕ × Option InterfaceType)) (o : Option NumberedCase) → o ≡ None → FoundBare t k ns ns 0 o ⊎ FoundTyped t k ns ns 0 o → ⊥
    missing k ns ys o e (inl f) = none_some o _ e f.is
    missing k ns ys o e (inr f) = none_some o _ e f.is

-- ---- bodies

-- none yet
pub bodies_begin : {t : Tables} {from to : InterfaceType} {sides : Sides} {src : From} {dst : To} {first : Writer} {before : Fuel} → WroteBodies t from to sides src dst 0 [] before before first first
bodies_begin {first = first} = record {
  grew = aside_nothing first;
  all = refl;
  asks = [];
  asked = record { each = tt };
  does = λ k l ms ns hs hu cs cu can M p locals later h. record { each = λ n body there. absurd (none_some None body refl there) };
  translated = λ k l ms ns hs hu cs cu can. nothing_translated (λ i r n. refl);
}

one_more : {A : Type 0} (xs : List A) (x y : A) (n : ℕ) → slice_get (xs ++ x ∷ []) n ≡ Some y → (slice_get xs n ≡ Some y) ⊎ ((n ≡ length xs) × (x ≡ y))
one_more [] x y zero h = inr (refl, same_some (Some x) x y refl h)
one_more [] x y (suc n) h = absurd (none_some None y refl h)
one_more (z ∷ xs) x y zero h = inl h
one_more (z ∷ xs) x y (suc n) h = go (one_more xs x y n h)
  where
    go : (slice_get xs n ≡ Some y) ⊎ ((n ≡ length xs) × (x ≡ y)) → (slice_get xs n ≡ Some y) ⊎ ((suc n ≡ length (z ∷ xs)) × (x ≡ y))
    go (inl e) = inl e
    go (inr e) = inr (ap suc e.0, e.1)

bodies_joined : {sides : Sides} {src : From} {dst : To} {taken : ℕ → Bool} {ms ns : Members} {c : CaseType} {M : WasmModule} {p : ImportPlaces} {locals : List ValType} (bodies : List (List Instr)) (body : List Instr) → case_type ms (length bodies) ≡ Some c
    → AreCaseBodies sides src dst taken ms ns bodies M p locals → MovesCaseOf sides src dst taken ms ns c M p locals body → AreCaseBodies sides src dst taken ms ns (bodies ++ body ∷ []) M p locals
bodies_joined {sides} {src} {dst} {taken} {ms} {ns} {c} {M} {p} {locals} bodies body at are one = record {
  each = λ n body' there c' h. go n body' c' h (one_more bodies body body' n there);
}
  where
    go : (n : ℕ) (body' : List Instr) (c' : CaseType) → case_type ms n ≡ Some c' → (slice_get bodies n ≡ Some body') ⊎ ((n ≡ length bodies) × (body ≡ body')) → MovesCaseOf sides src dst taken ms ns c' M p locals body'
    go n body' c' h (inl there) = are.each n body' there c' h
    go n body' c' h (inr last) =
        let same : c ≡ c' = same_some (case_type ms (length bodies)) c c' at (ap (case_type ms) (sym last.0) ∙ h) in
        subst (λ b. MovesCaseOf sides src dst taken ms ns c' M p locals b) last.1 (subst (λ c. MovesCaseOf sides src dst taken ms ns c M p locals body) same one)

-- One body more.
pub bodies_on : {t : Tables} {from to : InterfaceType} {sum : Sum} {sides : Sides} {src : From} {dst : To} {i : ℕ} {bodies bodies' : List (List Instr)} {first now b c d : Writer} {begun between left : Fuel} {outer body : List Instr} (paired : PairedCase) → IsSound t → IsSumOf t from to sum → slice_get sum.cases.items i ≡ Some paired
    → numbered_height t paired.found ≤ height t to → Began now b outer → MovedCase t sum.from sum.to paired sides src dst between left b c → EndedBody c d outer body → bodies' ≡ bodies ++ body ∷ [] → WroteBodies t from to sides src dst i bodies begun between first now → WroteBodies t from to sides src dst (i + 1) bodies' begun left first d
bodies_on {t} {from} {to} {sum} {sides} {src} {dst} {i} {bodies} {bodies'} {first} {now} {b} {c} {d} {begun} {between} {left} {outer} {body} paired sound is there lower began moved ended more r =
    subst (λ bs. WroteBodies t from to sides src dst (i + 1) bs begun left first d) (sym more) (record {
      grew = subst (GrewAsideAsking (r.asks ++ moved.asks) first d) (sym (bodies_behind bodies body)) (aside_on r.grew (aside_grew began ended moved.grew));
      all = omega (arith, length-append bodies (body ∷ []), r.all);
      asks = r.asks ++ moved.asks;
      asked = asked_both (aside_grew began ended moved.grew).imports r.asks moved.asks r.asked (asked_on (extended_none ended.imports) lower moved.asks moved.asked);
      does = λ k l ms ns hs hu cs cu can M p locals later h.
          let xs = node_members t from is.source is.source_is k ms hs in
          let ys = node_members t to is.destination is.destination_is l ns hu in
          let pair = paired_with t is.destination.members is.source.members ms i paired xs (subst (λ ps. slice_get ps i ≡ Some paired) is.cases there) in
          let case_of : IsCaseOf t ms ns paired pair.case = record { place = i; there = pair.there; payload = pair.payload; members = is.destination.members; has = ys; found = pair.found } in
          let one = moved.emits ms ns pair.case (sum_info t sound from is.source k ms sum.from is.source_is is.source_kind is.source_info hs) (sum_info t sound to is.destination l ns sum.to is.destination_is is.destination_kind is.destination_info hu) case_of cs cu (can i pair.case pair.there) in
          let same : taken_in b ≡ taken_in first = same_locals_taken now b began.locals ∙ (λ j. λ x. (r.grew.still x) j) in
          bodies_joined bodies body (ap (case_type ms) r.all ∙ pair.there)
          (r.does k l ms ns hs hu cs cu can M p locals (before moved.grew later) (all-first (HasHelper M p) r.asks moved.asks h))
          (aside_does began ended {P = MovesCaseOf sides src dst (taken_in first) ms ns pair.case} (subst (λ u. EmitsAsking moved.asks b c (MovesCaseOf sides src dst u ms ns pair.case)) same one) M p locals later (all-second (HasHelper M p) r.asks moved.asks h));
      translated = λ k l ms ns hs hu cs cu can.
          let xs = node_members t from is.source is.source_is k ms hs in
          let ys = node_members t to is.destination is.destination_is l ns hu in
          let pair = paired_with t is.destination.members is.source.members ms i paired xs (subst (λ ps. slice_get ps i ≡ Some paired) is.cases there) in
          let case_of : IsCaseOf t ms ns paired pair.case = record { place = i; there = pair.there; payload = pair.payload; members = is.destination.members; has = ys; found = pair.found } in
          let next : suc i ≡ i + 1 = omega arith in
          translated_with (λ j r n route. first_more i ms pair.case (λ x s. translates_case j r x s ns) n pair.there ∙ ap (λ m. translates_first m ms (λ x s. translates_case j r x s ns) n) next)
          (both_translated (r.translated k l ms ns hs hu cs cu can) (moved.translated ms ns pair.case case_of cs cu (can i pair.case pair.there)));
    })
  where
    before : {asks : List AskedHelper} → GrewAsking asks b c → {M : WasmModule} {p : ImportPlaces} {locals : List ValType} → Later d M p locals → Later now M p locals
    before g later = let aside = aside_grew began ended g in sooner {a = now} aside.imports aside.locals later

pub bodies_end : {t : Tables} {from to : InterfaceType} {sides : Sides} {src : From} {dst : To} {i count : ℕ} {bodies : List (List Instr)} {first last : Writer} {before after : Fuel} → i ≡ count → WroteBodies t from to sides src dst i bodies before after first last
    → WroteBodies t from to sides src dst count bodies before after first last
bodies_end {t} {from} {to} {sides} {src} {dst} {bodies = bodies} {first} {last} {before} {after} e r = subst (λ n. WroteBodies t from to sides src dst n bodies before after first last) e r

-- ---- sums

-- A discriminant that is read, the bodies of all cases, and the choice of one of them.
pub sum_by_emits : {t : Tables} {from to : InterfaceType} {sum : Sum} {sides : Sides} {src : From} {dst : To} {size : Number} {bodies : List (List Instr)} {a b c d e : Writer} {before after : Fuel} (local : ℕ) → IsSound t → IsSumOf t from to sum → size ≡ discriminant_number_of sum.from.size
    → Emits a b (ReadsNumber sides.debug size src) → Wrote b c (I.LocalSet local ∷ []) → WroteBodies t from to sides src dst (length sum.cases.items) bodies before after c d → WroteChoice d e local bodies → MovedSumBy t from to local sides src dst before after a e
sum_by_emits {t} {from} {to} {sum} {sides} {src} {dst} {size} {bodies} {a} {b} {c} {d} {e} local sound is size_is reads sets wrote choice = record {
  grew = grew_on reads.grew (grew_on (grew_wrote (set_ranged local) sets) (choice_grew wrote.grew choice));
  asks = wrote.asks;
  asked = asked_later (extended_on choice.took.imports (extended_none choice.wrote.imports)) wrote.asks wrote.asked;
  emits = λ k l ms ns hs hu cs cu can.
      let xs = node_members t from is.source is.source_is k ms hs in
      let info = sum_info t sound from is.source k ms sum.from is.source_is is.source_kind is.source_info hs in
      let size_at : size ≡ discriminant_number_of (discriminant_size (count_of_members ms)) = size_is ∙ ap (λ (i : VariantInfo). discriminant_number_of i.size) info in
      let all : length bodies ≡ count_of_members ms = wrote.all ∙ ap (λ (ps : List PairedCase). length ps) is.cases ∙ paired_count t is.destination.members is.source.members ms xs in
      let same : taken_in c ≡ taken_in a = same_locals_taken b c sets.locals ∙ (λ j. λ x. (reads.grew.still x) j) in
      emits_then {P = ReadsThen sides.debug size src (I.LocalSet local ∷ [])} {Q = λ M p locals k. AreCaseBodies sides src dst (taken_in a) ms ns bodies M p locals × ChoosesCase local bodies M p locals k}
      (λ M p locals x y r q.
      let code_is : x ++ y ≡ read_code (checks_at sides.debug p) size src ++ (I.LocalSet local ∷ y) =
      ap (λ x. x ++ y) r.1 ∙ append_assoc (read_code (checks_at sides.debug p) size src) (I.LocalSet local ∷ []) y in
      subst (λ code. MovesValue sides src dst (except local (taken_in a)) 516 (λ S. FitsShapes sides S (s_node k_variant ms) (s_node k_variant ns) src dst × HasLocal local val.I32 S) (node_moves (s_node k_variant ms) (s_node k_variant ns)) M p locals code) (sym code_is)
      (sum_join size local bodies size_at all M p locals y r.0 q.0 q.1))
      (reads_then (set_ranged local) reads sets)
      (choice_emits wrote.grew choice {P = AreCaseBodies sides src dst (taken_in a) ms ns bodies} (λ M p locals code are chooses. (are, chooses)) (λ M p locals later h.
      subst (λ u. AreCaseBodies sides src dst u ms ns bodies M p locals) same (wrote.does k l ms ns hs hu cs cu can M p locals later h)));
  translated = λ k l ms ns hs hu cs cu can.
      let xs = node_members t from is.source is.source_is k ms hs in
      let all : length sum.cases.items ≡ count_of_members ms = ap (λ (ps : List PairedCase). length ps) is.cases ∙ paired_count t is.destination.members is.source.members ms xs in
      translated_with (λ i r n route. first_all (length sum.cases.items) ms (λ x s. translates_case i r x s ns) n all) (wrote.translated k l ms ns hs hu cs cu can);
}

-- with a local around it
pub sum_around : {t : Tables} {from to : InterfaceType} {local : ℕ} {sides : Sides} {src : From} {dst : To} {a b c d : Writer} {before after : Fuel} → Took a b val.I32 local → MovedSumBy t from to local sides src dst before after b c → Freed c d local
    → MovedSum t from to sides src dst before after a d
sum_around took m freed = record {
  grew = grew_around took m.grew freed;
  asks = m.asks;
  asked = asked_later (extended_none freed.imports) m.asks m.asked;
  emits = λ k l ms ns hs hu cs cu can. moves_around took (m.emits k l ms ns hs hu cs cu can) freed;
  translated = m.translated;
}

-- ---- types

-- options and results are variants
option_fits : {sides : Sides} {S : Setting} {ms ns : Members} {src : From} {dst : To} → FitsShapes sides S (s_node k_option ms) (s_node k_option ns) src dst → FitsShapes sides S (s_node k_variant ms) (s_node k_variant ns) src dst
option_fits f = record { from_wide = f.from_wide; to_wide = f.to_wide; reads = f.reads; writes = f.writes; within = f.within; lists = f.lists }

result_fits : {sides : Sides} {S : Setting} {ms ns : Members} {src : From} {dst : To} → FitsShapes sides S (s_node k_result ms) (s_node k_result ns) src dst → FitsShapes sides S (s_node k_variant ms) (s_node k_variant ns) src dst
result_fits f = record { from_wide = f.from_wide; to_wide = f.to_wide; reads = f.reads; writes = f.writes; within = f.within; lists = f.lists }

option_node : {sides : Sides} {src : From} {dst : To} {taken : ℕ → Bool} {ms ns : Members} (M : WasmModule) (p : ImportPlaces) (locals : List ValType) (code : List Instr) → MovesNode sides src dst taken (s_node k_variant ms) (s_node k_variant ns) M p locals code → MovesNode sides src dst taken (s_node k_option ms) (s_node k_option ns) M p locals code
option_node M p locals code m = moves_as (λ S f. option_fits f) (λ S s d. refl) m

result_node : {sides : Sides} {src : From} {dst : To} {taken : ℕ → Bool} {ms ns : Members} (M : WasmModule) (p : ImportPlaces) (locals : List ValType) (code : List Instr) → MovesNode sides src dst taken (s_node k_variant ms) (s_node k_variant ns) M p locals code → MovesNode sides src dst taken (s_node k_result ms) (s_node k_result ns) M p locals code
result_node M p locals code m = moves_as (λ S f. result_fits f) (λ S s d. refl) m

module _ {t : Tables} {sides : Sides} {src : From} {dst : To} {a b : Writer} {before after : Fuel} where
  pub variant_moved : (i j : Id TypeVariants) → MovedSum t (ty.Variant i) (ty.Variant j) sides src dst before after a b → MovedNode t (ty.Variant i) (ty.Variant j) sides src dst before after a b
  variant_moved i j m = record {
    grew = m.grew;
    asks = m.asks;
    asked = m.asked;
    emits = λ s u hs hu cs cu can.
        let (ms, is_s) = variant_kind t i s hs in
        let (ns, is_u) = variant_kind t j u hu in
        let can' : CanMove (s_node k_variant ms) (s_node k_variant ns) = subst (CanMove (s_node k_variant ms)) is_u (subst (λ s. CanMove s u) is_s can) in
        let one = m.emits k_variant k_variant ms ns (subst (HasShape t (ty.Variant i)) is_s hs) (subst (HasShape t (ty.Variant j)) is_u hu) (subst IsCounted is_s cs).1 (subst IsCounted is_u cu).1 can' in
        subst (λ s. EmitsAsking m.asks a b (MovesNode sides src dst (taken_in a) s u)) (sym is_s)
        (subst (λ u. EmitsAsking m.asks a b (MovesNode sides src dst (taken_in a) (s_node k_variant ms) u)) (sym is_u) one);
    translated = λ s u hs hu cs cu can.
        let (ms, is_s) = variant_kind t i s hs in
        let (ns, is_u) = variant_kind t j u hu in
        let can' : CanMove (s_node k_variant ms) (s_node k_variant ns) = subst (CanMove (s_node k_variant ms)) is_u (subst (λ s. CanMove s u) is_s can) in
        translated_shapes is_s is_u (m.translated k_variant k_variant ms ns (subst (HasShape t (ty.Variant i)) is_s hs) (subst (HasShape t (ty.Variant j)) is_u hu) (subst IsCounted is_s cs).1 (subst IsCounted is_u cu).1 can');
  }

-- a type of another kind
pub variant_alone : {t : Tables} {from : InterfaceType} {sides : Sides} {src : From} {dst : To} {first last : Writer} {before : Fuel} {xs : List Instr} → AreRanged 0 0 xs → (i : Id TypeVariants) (to : InterfaceType) → from ≡ ty.Variant i → ((j : Id TypeVariants) → to ≢ ty.Variant j) → Wrote first last xs → MovedNode t from to sides src dst before before first last
variant_alone {t} {first = first} {last} ranged i to is other w = record {
  grew = grew_wrote ranged w;
  asks = [];
  asked = record { each = tt };
  emits = λ s u hs hu cs cu can. let (ms, is_s) = variant_kind t i s (subst (λ y. HasShape t y s) is hs) in absurd (alone ms u hu (subst (λ s. CanMove s u) is_s can));
  translated = λ s u hs hu cs cu can. let (ms, is_s) = variant_kind t i s (subst (λ y. HasShape t y s) is hs) in absurd (alone ms u hu (subst (λ s. CanMove s u) is_s can));
}
  where
    alone : (ms : Members) (u : Shape) → HasShape t to u → CanMove (s_node k_variant ms) u → ⊥
    alone ms (s_plain b) hu can = can
    alone ms (s_node k_variant ns) hu can = let (j, at) = variant_type t to ns hu in other j at
    alone ms (s_node _ ns) hu can = can

module _ {t : Tables} {sides : Sides} {src : From} {dst : To} {a b : Writer} {before after : Fuel} where
  pub option_moved : (i j : Id TypeOptions) → MovedSum t (ty.Option i) (ty.Option j) sides src dst before after a b → MovedNode t (ty.Option i) (ty.Option j) sides src dst before after a b
  option_moved i j m = record {
    grew = m.grew;
    asks = m.asks;
    asked = m.asked;
    emits = λ s u hs hu cs cu can.
        let (ms, is_s) = option_kind t i s hs in
        let (ns, is_u) = option_kind t j u hu in
        let can' : CanMove (s_node k_option ms) (s_node k_option ns) = subst (CanMove (s_node k_option ms)) is_u (subst (λ s. CanMove s u) is_s can) in
        let one = m.emits k_option k_option ms ns (subst (HasShape t (ty.Option i)) is_s hs) (subst (HasShape t (ty.Option j)) is_u hu) (subst IsCounted is_s cs).1 (subst IsCounted is_u cu).1 can' in
        subst (λ s. EmitsAsking m.asks a b (MovesNode sides src dst (taken_in a) s u)) (sym is_s)
        (subst (λ u. EmitsAsking m.asks a b (MovesNode sides src dst (taken_in a) (s_node k_option ms) u)) (sym is_u) (emits_as option_node one));
    translated = λ s u hs hu cs cu can.
        let (ms, is_s) = option_kind t i s hs in
        let (ns, is_u) = option_kind t j u hu in
        let can' : CanMove (s_node k_option ms) (s_node k_option ns) = subst (CanMove (s_node k_option ms)) is_u (subst (λ s. CanMove s u) is_s can) in
        translated_shapes is_s is_u (m.translated k_option k_option ms ns (subst (HasShape t (ty.Option i)) is_s hs) (subst (HasShape t (ty.Option j)) is_u hu) (subst IsCounted is_s cs).1 (subst IsCounted is_u cu).1 can');
  }

-- a type of another kind
pub option_alone : {t : Tables} {from : InterfaceType} {sides : Sides} {src : From} {dst : To} {first last : Writer} {before : Fuel} {xs : List Instr} → AreRanged 0 0 xs → (i : Id TypeOptions) (to : InterfaceType) → from ≡ ty.Option i → ((j : Id TypeOptions) → to ≢ ty.Option j) → Wrote first last xs → MovedNode t from to sides src dst before before first last
option_alone {t} {first = first} {last} ranged i to is other w = record {
  grew = grew_wrote ranged w;
  asks = [];
  asked = record { each = tt };
  emits = λ s u hs hu cs cu can. let (ms, is_s) = option_kind t i s (subst (λ y. HasShape t y s) is hs) in absurd (alone ms u hu (subst (λ s. CanMove s u) is_s can));
  translated = λ s u hs hu cs cu can. let (ms, is_s) = option_kind t i s (subst (λ y. HasShape t y s) is hs) in absurd (alone ms u hu (subst (λ s. CanMove s u) is_s can));
}
  where
    alone : (ms : Members) (u : Shape) → HasShape t to u → CanMove (s_node k_option ms) u → ⊥
    alone ms (s_plain b) hu can = can
    alone ms (s_node k_option ns) hu can = let (j, at) = option_type t to ns hu in other j at
    alone ms (s_node _ ns) hu can = can

module _ {t : Tables} {sides : Sides} {src : From} {dst : To} {a b : Writer} {before after : Fuel} where
  pub result_moved : (i j : Id TypeResults) → MovedSum t (ty.Result i) (ty.Result j) sides src dst before after a b → MovedNode t (ty.Result i) (ty.Result j) sides src dst before after a b
  result_moved i j m = record {
    grew = m.grew;
    asks = m.asks;
    asked = m.asked;
    emits = λ s u hs hu cs cu can.
        let (ms, is_s) = result_kind t i s hs in
        let (ns, is_u) = result_kind t j u hu in
        let can' : CanMove (s_node k_result ms) (s_node k_result ns) = subst (CanMove (s_node k_result ms)) is_u (subst (λ s. CanMove s u) is_s can) in
        let one = m.emits k_result k_result ms ns (subst (HasShape t (ty.Result i)) is_s hs) (subst (HasShape t (ty.Result j)) is_u hu) (subst IsCounted is_s cs).1 (subst IsCounted is_u cu).1 can' in
        subst (λ s. EmitsAsking m.asks a b (MovesNode sides src dst (taken_in a) s u)) (sym is_s)
        (subst (λ u. EmitsAsking m.asks a b (MovesNode sides src dst (taken_in a) (s_node k_result ms) u)) (sym is_u) (emits_as result_node one));
    translated = λ s u hs hu cs cu can.
        let (ms, is_s) = result_kind t i s hs in
        let (ns, is_u) = result_kind t j u hu in
        let can' : CanMove (s_node k_result ms) (s_node k_result ns) = subst (CanMove (s_node k_result ms)) is_u (subst (λ s. CanMove s u) is_s can) in
        translated_shapes is_s is_u (m.translated k_result k_result ms ns (subst (HasShape t (ty.Result i)) is_s hs) (subst (HasShape t (ty.Result j)) is_u hu) (subst IsCounted is_s cs).1 (subst IsCounted is_u cu).1 can');
  }

-- a type of another kind
pub result_alone : {t : Tables} {from : InterfaceType} {sides : Sides} {src : From} {dst : To} {first last : Writer} {before : Fuel} {xs : List Instr} → AreRanged 0 0 xs → (i : Id TypeResults) (to : InterfaceType) → from ≡ ty.Result i → ((j : Id TypeResults) → to ≢ ty.Result j) → Wrote first last xs → MovedNode t from to sides src dst before before first last
result_alone {t} {first = first} {last} ranged i to is other w = record {
  grew = grew_wrote ranged w;
  asks = [];
  asked = record { each = tt };
  emits = λ s u hs hu cs cu can. let (ms, is_s) = result_kind t i s (subst (λ y. HasShape t y s) is hs) in absurd (alone ms u hu (subst (λ s. CanMove s u) is_s can));
  translated = λ s u hs hu cs cu can. let (ms, is_s) = result_kind t i s (subst (λ y. HasShape t y s) is hs) in absurd (alone ms u hu (subst (λ s. CanMove s u) is_s can));
}
  where
    alone : (ms : Members) (u : Shape) → HasShape t to u → CanMove (s_node k_result ms) u → ⊥
    alone ms (s_plain b) hu can = can
    alone ms (s_node k_result ns) hu can = let (j, at) = result_type t to ns hu in other j at
    alone ms (s_node _ ns) hu can = can
