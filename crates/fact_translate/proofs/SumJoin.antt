-- The code of a case in any module and function, from that of its payload, and the code of all cases of a variant.
use Rattle.std.proofs.Common.{◌≡◌, ◌≢◌, ℕ, zero, suc, ◌^◌, ◌<◌, ◌≤◌, Bool, true, false, List, [], ◌∷◌, ◌++◌, length, Some, None, refl, sym, ap, ◌∙◌, subst, arith, slice_get}
use Rattle.std.specs.List.{AllByRecursion}
use Rattle.std.specs.Prelude.{nat_eq, if◌then◌else◌}
use Rattle.std.proofs.lemmas.Option.{slice_get_within}
use Rattle.fact_wasm.specs.declared.types.ValType.{ValType}
use Rattle.fact_wasm.specs.declared.types.ValType.TheVariants as val
use Rattle.fact_wasm.specs.declared.instr.Instr.{Instr}
use Rattle.fact_wasm.specs.declared.module.WasmModule.{WasmModule}
use Rattle.fact_types.specs.declared.variants.VariantInfo.{VariantInfo}
use Rattle.fact_types.specs.declared.extents.MemoryWidth.{MemoryWidth}
use Rattle.fact_types.specs.declared.extents.MemoryWidth.TheVariants.{Memory32, Memory64}
use Rattle.fact_types.specs.FlatShapes.{flat}
use Rattle.fact_types.specs.Layout.{extents, payloads, payload_offset, variant_info, discriminant_size}
use Rattle.fact_types.specs.Shapes.{k_variant, Shape, s_node, Members, no_members, bare, typed, layouts_of}
use Rattle.fact_types.specs.Signatures.{width}
use Rattle.fact_types.proofs.ShapeLaws.{none_some}
use Rattle.fact_values.specs.Limits.{CaseType, case_type}
use Rattle.fact_values.specs.Places.{count_of_members, case_bytes, payload_place}
use Rattle.fact_actions.specs.Actions.{Give, ◌>>=◌}
use Rattle.fact_actions.specs.Moves.{flat_length, padded, move, move_case, payload_part, payload_spot, write_case}
use Rattle.fact_actions.specs.Running.{ImportPlaces}
use Rattle.fact_actions.specs.Sides.{LiftLowerOptions, Transfer, Source, Values, AtAddress, Target, Slots, Into, side_abi, width_of_side, write_number}
use Rattle.fact_code_laws.specs.Cases.{discriminant_code, zero_code}
use Rattle.fact_code_laws.specs.Places.{From, To, Rooms, Setting, transfer, Moves, Number, N64, size_of, to_past}
use Rattle.fact_code_laws.specs.Typed.{OnStack}
use Rattle.fact_code_laws.proofs.CaseMoves.{IsTag, moves_bare_case, moves_some_case}
use Rattle.fact_code_laws.proofs.FieldMoves.{from_part, source_part, to_spot, target_spot, target_past, with_to, IsApartAt, moves_same}
use Rattle.fact_code_laws.proofs.SumMoves.{moves_sum, tagged_code}
use Rattle.fact_code_laws.proofs.TypedShapes.{IsClosedCode}
use Rattle.fact_emit.specs.declared.places.Sides.{Sides}
use Rattle.fact_emit.specs.Choices.{ChoosesCase}
use Rattle.fact_emit.specs.Fitting.{bytes_of_shape, FitsShapes, node_moves}
use Rattle.fact_emit.specs.MovesValue.{MovesValue, except, HasLocal}
use Rattle.fact_emit.specs.Numbers.{HasUpperAt}
use Rattle.fact_emit.specs.Parts.{from_behind, bytes_by}
use Rattle.fact_emit.specs.Places.{setting_of, checks_at, Using}
use Rattle.fact_emit.proofs.NumberMoves.{narrow_of, readable}
use Rattle.fact_emit.proofs.Using.{free_except, using_more}
use Rattle.fact_kinds.specs.Asks.{MovesHelped}
use Rattle.fact_kinds.specs.Kinds.{discriminant_number_of}
use Rattle.fact_translate.specs.MovedSums.{MovesPayload, MovesCaseOf, AreCaseBodies}
use Rattle.fact_kinds.proofs.FieldJoin.{apart_dst, using_past, using_spot}
use Rattle.fact_kinds.proofs.FlagMoves.{case_size, discriminant_short}
use Rattle.fact_translate.proofs.SumRoom.{IsPayload, payload_holds, tag_readable, tag_writable, zeros_behind, zeros_fit, payload_read, payload_write, payload_part as part_is, payload_spot as spot_is, payload_past as past_is, payload_within}
use Rattle.fact_kinds.proofs.WithinRooms.{part_within, past_within, spot_within}

-- ---- the places of payloads

abbrev place_by : MemoryWidth → Members → ℕ
place_by w ms = payload_offset (case_bytes ms) (extents w (payloads (layouts_of ms)))

info_place : (w : MemoryWidth) (ms : Members) (i : VariantInfo) → i ≡ variant_info (layouts_of ms) → bytes_by w i.payload_offset32 i.payload_offset64 ≡ place_by w ms
info_place Memory32 ms i e = ap (λ (i : VariantInfo). i.payload_offset32) e
info_place Memory64 ms i e = ap (λ (i : VariantInfo). i.payload_offset64) e

part_same : (o : LiftLowerOptions) (p : Shape) (place : ℕ) (s : Source) → source_part (flat_length o p) 1 place s ≡ payload_part o p place s
part_same o p place (Values vs) = refl
part_same o p place (AtAddress a) = refl

spot_same : (o : LiftLowerOptions) (u : Shape) (place : ℕ) (d : Target) → target_spot (flat_length o u) place (target_past 1 d) ≡ payload_spot o u place d
spot_same o u place (Slots ts) = refl
spot_same o u place (Into a) = refl

-- ---- one case

module _ (sides : Sides) (src : From) (dst : To) (taken : ℕ → Bool) (ms ns : Members) (c : CaseType) (size : Number) (number : ℕ) (size_is : size ≡ discriminant_number_of (discriminant_size (count_of_members ns))) (below : number < 2 ^ 32) (M : WasmModule) (q : ImportPlaces) (locals : List ValType) where
  short : size ≢ N64
  short e = discriminant_short (discriminant_size (count_of_members ns)) (sym size_is ∙ e)

  bytes_of_size : size_of size ≡ case_bytes ns
  bytes_of_size = ap size_of size_is ∙ case_size (discriminant_size (count_of_members ns))

  module _ (a b : LiftLowerOptions) (rooms : Rooms) (used : ℕ → Bool) (using : Using taken used src dst) (fit : FitsShapes sides (setting_of sides a b rooms M q locals) (s_node k_variant ms) (s_node k_variant ns) src dst) where
    abbrev S : Setting
    S = setting_of sides a b rooms M q locals

    tag_is : IsTag S used dst size number
    tag_is = let w = tag_writable M q locals b S.to64 ns size short dst fit.writes in record { narrow = narrow_of size short; number = below; writable = w.0; typed = w.1 }

    bare_moves : ((s : Source) (d : Target) → move_case (transfer S) ms ns c ns 0 s d ≡ write_number b (case_bytes ns) d number >>= (λ tag. Give (padded d tag))) → Moves S used 300 0 src dst (λ s d. move_case (transfer S) ms ns c ns 0 s d) (discriminant_code size number dst ++ zero_code (to_past 1 dst))
    bare_moves is =
        moves_same (λ s d. ap (λ z. write_number b z d number >>= (λ tag. Give (padded d tag))) bytes_of_size ∙ sym (is s d))
        (moves_bare_case S used src dst size number tag_is using.to (apart_dst 1 dst using.distinct) (zeros_behind M q locals b S.to64 ns dst fit.writes using.distinct))

    module _ (p u : Shape) (source : IsPayload ms p) (destination : IsPayload ns u) where
      abbrev from_place : ℕ
      from_place = payload_place (side_abi a) ms

      abbrev to_place : ℕ
      to_place = payload_place (side_abi b) ns

      abbrev part : From
      part = from_part (flat_length a p) 1 from_place src

      abbrev spot : To
      spot = to_spot (flat_length b u) to_place (to_past 1 dst)

      abbrev rest : To
      rest = to_past (flat_length b u) (to_past 1 dst)

      apart_rest : IsApartAt (flat_length b u) (to_past 1 dst)
      apart_rest = apart_dst (flat_length b u) (to_past 1 dst) (using_past using 1 0).distinct

      fits_payload : FitsShapes sides S p u part spot
      fits_payload = record {
        from_wide = fit.from_wide;
        to_wide = fit.to_wide;
        reads = payload_read M q locals a S.from64 ms p source src fit.reads;
        writes = payload_write M q locals b S.to64 ns u destination dst fit.writes;
        within = record {
          source = part_within rooms.from (bytes_of_shape (width_of_side a) (s_node k_variant ms)) (bytes_of_shape (width_of_side a) p) (flat_length a p) 1 from_place src (payload_within a ms p source) fit.within.source;
          target = spot_within rooms.to (bytes_of_shape (width_of_side b) (s_node k_variant ns)) (bytes_of_shape (width_of_side b) u) (flat_length b u) to_place (to_past 1 dst) (payload_within b ns u destination) (past_within rooms.to (bytes_of_shape (width_of_side b) (s_node k_variant ns)) 1 dst fit.within.target);
        };
        lists = λ e. fit.lists (payload_holds ms p source e);
      }

      some_moves : {code : List Instr} → MovesHelped sides part spot taken p u M q locals code
          → ((s : Source) (d : Target) → move_case (transfer S) ms ns c ns 0 s d ≡ write_case (transfer S) ms ns s d number (Some p) (Some u) (λ p s' d'. move (transfer S) p u s' d'))
          → Moves S used 300 0 src dst (λ s d. move_case (transfer S) ms ns c ns 0 s d) (discriminant_code size number dst ++ (code ++ zero_code rest))
      some_moves m is =
          moves_same (λ s d.
          ap (λ z. write_number b z d number >>= (λ tag. move (transfer S) p u (source_part (flat_length a p) 1 from_place s) (target_spot (flat_length b u) to_place (target_past 1 d)) >>= (λ vs. Give (padded d (tag ++ vs))))) bytes_of_size
          ∙ ap (λ z. write_number b (case_bytes ns) d number >>= (λ tag. move (transfer S) p u z (target_spot (flat_length b u) to_place (target_past 1 d)) >>= (λ vs. Give (padded d (tag ++ vs))))) (part_same a p from_place s)
          ∙ ap (λ z. write_number b (case_bytes ns) d number >>= (λ tag. move (transfer S) p u (payload_part a p from_place s) z >>= (λ vs. Give (padded d (tag ++ vs))))) (spot_same b u to_place d)
          ∙ sym (is s d))
          (moves_some_case S used src dst size number tag_is using.to (apart_dst 1 dst using.distinct) (flat_length a p) from_place (flat_length b u) to_place using.from apart_rest
          (zeros_fit M q locals b S.to64 ns (flat_length b u) dst fit.writes using.distinct)
          (m.moves a b rooms (with_to used (to_spot 1 0 dst)) (using_spot (using_past using 1 0) (flat_length a p) 1 from_place (flat_length b u) to_place) fits_payload))

  -- a case that carries nothing
  pub bare_case : ((tr : Transfer) (ms : Members) (s : Source) (d : Target) → move_case tr ms ns c ns 0 s d ≡ write_number tr.to (case_bytes ns) d number >>= (λ tag. Give (padded d tag))) → MovesCaseOf sides src dst taken ms ns c M q locals (discriminant_code size number dst ++ zero_code (to_past 1 dst))
  bare_case is = record { moves = λ a b rooms used using fit. bare_moves a b rooms used using fit (λ s d. is (transfer (setting_of sides a b rooms M q locals)) ms s d) }

  -- a case with a payload
  pub some_case : {p u : Shape} {source_info destination_info : VariantInfo} {code : List Instr} (from_count to_count : ℕ) → IsPayload ms p → IsPayload ns u
      → source_info ≡ variant_info (layouts_of ms) → destination_info ≡ variant_info (layouts_of ns)
      → ((w : MemoryWidth) → length (flat w p) ≤ 16 → from_count ≡ length (flat w p)) → ((w : MemoryWidth) → length (flat w u) ≤ 16 → to_count ≡ length (flat w u))
      → ((tr : Transfer) (ms : Members) (s : Source) (d : Target) → move_case tr ms ns c ns 0 s d ≡ write_case tr ms ns s d number (Some p) (Some u) (λ p s' d'. move tr p u s' d'))
      → MovesPayload sides p u from_count (bytes_by (width sides.from.memory64) source_info.payload_offset32 source_info.payload_offset64) to_count (bytes_by (width sides.to.memory64) destination_info.payload_offset32 destination_info.payload_offset64) src dst taken M q locals code
      → MovesCaseOf sides src dst taken ms ns c M q locals (discriminant_code size number dst ++ code)
  some_case {p} {u} {source_info} {destination_info} {code} from_count to_count source destination source_is destination_is from_is to_is is m = record {
    moves = λ a b rooms used using fit.
        let from_bytes = bytes_by (width sides.from.memory64) source_info.payload_offset32 source_info.payload_offset64 in
        let to_bytes = bytes_by (width sides.to.memory64) destination_info.payload_offset32 destination_info.payload_offset64 in
        let from_at : from_bytes ≡ payload_place (side_abi a) ms = info_place (width sides.from.memory64) ms source_info source_is ∙ ap (λ x. place_by (width x) ms) (sym fit.from_wide) in
        let to_at : to_bytes ≡ payload_place (side_abi b) ns = info_place (width sides.to.memory64) ns destination_info destination_is ∙ ap (λ x. place_by (width x) ns) (sym fit.to_wide) in
        let part_at = part_is M q locals a sides.from.memory64 ms p source from_count from_bytes (from_is (width_of_side a)) from_at src fit.reads in
        let spot_at = spot_is M q locals b sides.to.memory64 ns u destination to_count to_bytes (to_is (width_of_side b)) to_at dst fit.writes in
        let rest_at = past_is M q locals b sides.to.memory64 ns u destination to_count to_bytes (to_is (width_of_side b)) to_at dst fit.writes in
        let moved = subst (λ s. MovesHelped sides s (to_spot (flat_length b u) (payload_place (side_abi b) ns) (to_past 1 dst)) taken p u M q locals m.payload) part_at (subst (λ d. MovesHelped sides (from_behind 1 from_count from_bytes src) d taken p u M q locals m.payload) spot_at m.moves) in
        let code_is : m.payload ++ zero_code (to_past (flat_length b u) (to_past 1 dst)) ≡ code = ap (λ r. m.payload ++ zero_code r) (sym rest_at) ∙ sym m.is in
        let S = setting_of sides a b rooms M q locals in
        subst (λ k. Moves S used 300 0 src dst (λ s d. move_case (transfer S) ms ns c ns 0 s d) (discriminant_code size number dst ++ k)) code_is
        (some_moves a b rooms used using fit p u source destination moved (λ s d. is (transfer S) ms s d));
  }

-- ---- all cases

get_there : {A : Type 0} (xs : List A) (n : ℕ) → n < length xs → (x : A) × (slice_get xs n ≡ Some x)
get_there [] n lt = absurd (omega arith)
get_there (x ∷ xs) zero lt = (x, refl)
get_there (x ∷ xs) (suc n) lt = get_there xs n (omega arith)

each_of : {A : Type 0} (P : A → Type 0) (xs : List A) → ((n : ℕ) (x : A) → slice_get xs n ≡ Some x → P x) → AllByRecursion P xs
each_of P [] h = tt
each_of P (x ∷ xs) h = (h 0 x refl, each_of P xs (λ n y e. h (suc n) y e))

case_there : (ms : Members) (n : ℕ) → n < count_of_members ms → (c : CaseType) × (case_type ms n ≡ Some c)
case_there no_members n lt = absurd (omega arith)
case_there (bare x ms) zero lt = (record { name = x; payload = None }, refl)
case_there (bare x ms) (suc n) lt = case_there ms n (omega arith)
case_there (typed x s ms) zero lt = (record { name = x; payload = Some s }, refl)
case_there (typed x s ms) (suc n) lt = case_there ms n (omega arith)

case_below : (ms : Members) (n : ℕ) (c : CaseType) → case_type ms n ≡ Some c → n < count_of_members ms
case_below no_members n c h = absurd (none_some None c refl h)
case_below (bare x ms) zero c h = omega arith
case_below (bare x ms) (suc n) c h = let lt = case_below ms n c h in omega arith
case_below (typed x s ms) zero c h = omega arith
case_below (typed x s ms) (suc n) c h = let lt = case_below ms n c h in omega arith

-- The discriminant is read into a local, and the code of its case is run.
pub sum_join : {sides : Sides} {src : From} {dst : To} {taken : ℕ → Bool} {ms ns : Members} (size : Number) (local : ℕ) (bodies : List (List Instr)) → size ≡ discriminant_number_of (discriminant_size (count_of_members ms)) → length bodies ≡ count_of_members ms
    → (M : WasmModule) (q : ImportPlaces) (locals : List ValType) (code : List Instr) → HasUpperAt M q (checks_at sides.debug q) size src → AreCaseBodies sides src dst taken ms ns bodies M q locals
    → (chosen : ChoosesCase local bodies M q locals code)
    → MovesValue sides src dst (except local taken) 516 (λ S. FitsShapes sides S (s_node k_variant ms) (s_node k_variant ns) src dst × HasLocal local val.I32 S) (node_moves (s_node k_variant ms) (s_node k_variant ns)) M q locals (tagged_code (checks_at sides.debug q) size local src code)
sum_join {sides} {src} {dst} {taken} {ms} {ns} size local bodies size_is all M q locals code upper are chosen = record {
  moves = λ a b rooms used using fit.
      let S = setting_of sides a b rooms M q locals in
      let short : size ≢ N64 = λ e. discriminant_short (discriminant_size (count_of_members ms)) (sym size_is ∙ e) in
      let reads = tag_readable M q locals a S.from64 ms size short src fit.0.reads in
      let using' : Using taken used src dst = using_more (within local taken) using in
      moves_sum S used src dst ms (λ c s d. move_case (transfer S) ms ns c ns 0 s d) bodies code local chosen.place size (record {
        narrow = narrow_of size short;
        size = sym (case_size (discriminant_size (count_of_members ms))) ∙ ap size_of (sym size_is);
        all = all;
        readable = readable M q S.checks a S.from64 size src upper reads.0;
        from_typed = reads.1;
        from_used = using.from;
        to_used = using.to;
        temporary = record { local = fit.1; free = free_except taken using };
        chooses = chosen.chooses;
        traps = chosen.has;
        cases = λ n c h. let lt : n < length bodies = omega (arith, all, case_below ms n c h) in let b' = get_there bodies n lt in record { code = b'.0; there = b'.1; moves = (are.each n b'.0 b'.1 c h).moves a b rooms used using' fit.0 };
        typed = each_of (IsClosedCode M locals) bodies (λ n body there.
            let lt : n < count_of_members ms = omega (arith, all, slice_get_within bodies n body there) in
            let x = case_there ms n lt in
            record { ends = OnStack []; closed = tt; typed = ((are.each n body there x.0 x.1).moves a b rooms used using' fit.0).typed });
      });
}
  where
    within : (i : ℕ) (taken : ℕ → Bool) (j : ℕ) → except i taken j ≡ true → taken j ≡ true
    within i taken j e = go (nat_eq j i) e
      where
        go : (b : Bool) → (if b then false else taken j) ≡ true → taken j ≡ true
        go true e = absurd (let no : false ≡ true = e in cc)
        go false e = e
