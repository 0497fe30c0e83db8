-- Moves of values at aligned places, whose core values have upper halves of 0, call no trap of a debug check.
use Rattle.std.proofs.Common.{◌≡◌, ℕ, zero, suc, ◌+◌, ◌*◌, ◌^◌, ◌≤◌, ⊎_elim, Bool, true, false, List, [], ◌∷◌, length, length-append, take, drop, Option, Some, None, refl, sym, ap, ◌∙◌, subst, arith, replicate}
use Rattle.std.proofs.lemmas.Bool.{eq-eqb, cases_lt}
use Rattle.std.proofs.lemmas.List.{drop-drop, length-take}
use Rattle.std.proofs.lemmas.Nat.Gcd.{dvd_refl, mod-eq-zero_of_dvd}
use Rattle.std.proofs.Math.Nat.{dvd-add, mul-le-mul}
use Rattle.std.specs.Int.{◌∣◌}
use Rattle.std.specs.Prelude.{nat_eq, nat_lt, not, ◌&&◌, is_some, if◌then◌else◌}
use Rattle.std.specs.Str.{bytes_eq}
use Rattle.fact_wasm.specs.declared.types.ValType.{ValType}
use Rattle.fact_types.specs.declared.sizes.DiscriminantSize.{DiscriminantSize}
use Rattle.fact_types.specs.declared.sizes.DiscriminantSize.TheVariants as tag
use Rattle.fact_types.specs.declared.flats.FlatType.{FlatType}
use Rattle.fact_types.specs.declared.flats.FlatType.TheVariants.{I32, I64, F32, F64}
use Rattle.fact_types.specs.declared.import.Import.{Import}
use Rattle.fact_types.specs.declared.import.Import.TheVariants as import
use Rattle.fact_types.specs.declared.interface.InterfaceType.{InterfaceType}
use Rattle.fact_types.specs.declared.interface.InterfaceType.TheVariants as ty
use Rattle.fact_types.specs.declared.outside.CoreDef.{CoreDef}
use Rattle.fact_types.specs.declared.outside.Trap.TheVariants.{ListOutOfBounds, MemoryOutOfBounds, InvalidChar, InvalidDiscriminant, CannotLeaveComponent}
use Rattle.fact_types.specs.declared.outside.Transcode.{Transcode}
use Rattle.fact_types.specs.declared.extents.MemoryWidth.{MemoryWidth}
use Rattle.fact_types.specs.declared.extents.MemoryWidth.TheVariants.{Memory32, Memory64}
use Rattle.fact_types.specs.Adapters.{LinkedAdapter, is_wide}
use Rattle.fact_types.specs.Fields.{Field, field_of, find}
use Rattle.fact_types.specs.FlatShapes.{IsCounted, AreCounted, pointer, flat, flat_plain, flat_members, times}
use Rattle.fact_types.specs.Layout.{discriminant_bytes, discriminant_size, flags_size, flags_flat}
use Rattle.fact_types.specs.Shapes.{Kind, k_record, k_variant, k_list, k_tuple, k_map, k_flags, k_enum, k_option, k_result, k_fixed, k_future, k_stream, Shape, s_plain, s_node, Members, no_members, bare, typed, next_of, place_of}
use Rattle.fact_types.specs.Signatures.{flat_values, lift_results_limit, lower_limit, pointer_bytes, width}
use Rattle.fact_types.specs.Tuples.{tuple_members}
use Rattle.fact_machine.specs.declared.types.CoreValue.{CoreValue}
use Rattle.fact_values.specs.Lift.{number_as}
use Rattle.fact_values.specs.Limits.{CaseType, case_type}
use Rattle.fact_values.specs.Places.{payload_place, case_bytes, flags_bytes, count_of_members}
use Rattle.fact_actions.specs.Actions.{Action, Give, Unreachable, ◌>>◌, trap}
use Rattle.fact_actions.specs.AdapterLaws.{HasCountedTypes}
use Rattle.fact_actions.specs.Adapters.{AdapterTunables, Slotted, params_transfer, results_transfer, check_tuple, from_values, flat_results, move_params, move_results, last_bits, when_due, make_call, cleared, enters, read_slots, write_slots, finish_call, sync, async_start, async_return, lift_signature_of}
use Rattle.fact_actions.specs.Moves.{MovingMembers, entry_extent, element_flats, part, payload_part, canonical_number, plain_size, aligned_source, aligned_target, aligned_node, move_number, move_char, move_handle, move_enum, read_case, write_case, move_list, move_fixed, move_plain, move_to_plain, move_sum, move_node, move_to_node, with_field, move, move_fields, move_case}
use Rattle.fact_actions.specs.Sides.{Transfer, Source, Values, AtAddress, Target, Slots, Into, options_of, width_of_side, nth_part, first_bits, address_value, reallocate, side_abi, bytes_of_addresses}
use Rattle.fact_actions.specs.Strings.{move_string}
use Rattle.fact_actions.specs.Transcoders.{transcode_kind, from_encoding}
use Rattle.fact_actions.proofs.AlignedMoves.{SourceOn, TargetOn, source_less, target_less, times_divides, part_on, spot_on, past_on, payload_on, payload_to, nth_on, nth_to}
use Rattle.fact_actions.proofs.Multiples.{align_in, record_align, Covers, covers_record, size_divides, sum_divides, fixed_divides, FieldFits, FitsField, field_fits, PayloadFits, CaseFits, case_fits}
use Rattle.fact_actions.proofs.States.{false_true}
use Rattle.fact_action_laws.proofs.Flats.{flat_lengths}
use Rattle.fact_values.specs.UpperHalves.{AreNarrowAlong, AreNarrowParts, IsNarrowPayload, IsNarrowThroughout, AreNarrowThroughout, IsNarrowCase}
use Rattle.fact_action_laws.specs.PassingChecks.{AreNarrowValues, AreNarrowParams, AreNarrowResults}
use Rattle.fact_action_laws.proofs.Spares.{tells_check, NumberNarrowIn, NumberNarrow, IsReadFrom, Spares, spares_give, spares_stop, spares_visit, spares_ask, spares_get, spares_set, spares_bind, spares_unless, spares_pass, spares_each, spares_number, spares_written, spares_pair, spares_pair_written, spares_region, spares_realloc}
use Rattle.fact_action_laws.proofs.SparedTexts.{IsGoodPass, spares_string}

-- ---- core values

abbrev no_values : List CoreValue
no_values = []

take_nothing : (n : ℕ) → take n no_values ≡ []
take_nothing zero = refl
take_nothing (suc n) = refl

drop_nothing : (n : ℕ) → drop n no_values ≡ []
drop_nothing zero = refl
drop_nothing (suc n) = refl

few_taken : {A : Type 0} (n : ℕ) (xs : List A) → length (take n xs) ≤ n
few_taken n xs = omega (arith, length-take n xs)

none_dropped : {A : Type 0} (n : ℕ) (xs : List A) → length xs ≤ n → drop n xs ≡ []
none_dropped zero [] h = refl
none_dropped zero (x ∷ xs) h = absurd (omega (arith, h))
none_dropped (suc n) [] h = refl
none_dropped (suc n) (x ∷ xs) h = none_dropped n xs (omega (arith, h))

-- flat types of which the first is not one of 64 bits
abbrev StartsWith32 : List FlatType → Type 0
StartsWith32 [] = Unit {0}
StartsWith32 (I32 ∷ fs) = Unit {0}
StartsWith32 (F32 ∷ fs) = Unit {0}
StartsWith32 (I64 ∷ fs) = ⊥
StartsWith32 (F64 ∷ fs) = ⊥

-- where a number of fewer than 8 bytes is asked for
first_narrow : (fs : List FlatType) (vs : List CoreValue) (size : ℕ) → (nat_eq size 8 ≡ false → StartsWith32 fs) → AreNarrowAlong fs vs → length vs ≤ length fs → NumberNarrowIn size vs
first_narrow fs [] size h c le = tt
first_narrow [] (v ∷ vs) size h c le = absurd (omega (arith, le))
first_narrow (I32 ∷ fs) (v ∷ vs) size h c le = λ e. c.0
first_narrow (F32 ∷ fs) (v ∷ vs) size h c le = λ e. c.0
first_narrow (I64 ∷ fs) (v ∷ vs) size h c le = λ e. absurd (h e)
first_narrow (F64 ∷ fs) (v ∷ vs) size h c le = λ e. absurd (h e)

plain_starts : (w : MemoryWidth) (t : InterfaceType) → nat_eq (plain_size t) 8 ≡ false → StartsWith32 (flat_plain w t)
plain_starts w ty.Bool e = tt
plain_starts w ty.S8 e = tt
plain_starts w ty.U8 e = tt
plain_starts w ty.S16 e = tt
plain_starts w ty.U16 e = tt
plain_starts w ty.S32 e = tt
plain_starts w ty.U32 e = tt
plain_starts w ty.Char e = tt
plain_starts w ty.Float32 e = tt
plain_starts w ty.S64 e = false_true (sym e)
plain_starts w ty.U64 e = false_true (sym e)
plain_starts w ty.Float64 e = false_true (sym e)
plain_starts w ty.String e = false_true (sym e)
plain_starts w (ty.Record i) e = tt
plain_starts w (ty.Variant i) e = tt
plain_starts w (ty.List i) e = tt
plain_starts w (ty.Tuple i) e = tt
plain_starts w (ty.Map i) e = tt
plain_starts w (ty.Flags i) e = tt
plain_starts w (ty.Enum i) e = tt
plain_starts w (ty.Option i) e = tt
plain_starts w (ty.Result i) e = tt
plain_starts w (ty.Own i) e = tt
plain_starts w (ty.Borrow i) e = tt
plain_starts w (ty.Future i) e = tt
plain_starts w (ty.Stream i) e = tt
plain_starts w (ty.ErrorContext i) e = tt
plain_starts w (ty.FixedLengthList i) e = tt

case_is_small : (ms : Members) → nat_eq (case_bytes ms) 8 ≡ false
case_is_small ms = go (discriminant_size (count_of_members ms))
  where
    go : (s : DiscriminantSize) → nat_eq (discriminant_bytes s) 8 ≡ false
    go tag.Size1 = refl
    go tag.Size2 = refl
    go tag.Size4 = refl

flags_start : (n : ℕ) → StartsWith32 (replicate (flags_flat (flags_size n)) I32)
flags_start n = go (flags_flat (flags_size n))
  where
    go : (k : ℕ) → StartsWith32 (replicate k I32)
    go zero = tt
    go (suc k) = tt

-- a pointer and a length
first_of_pair : (b : Bool) (vs : List CoreValue) → AreNarrowAlong (pointer (width b) ∷ pointer (width b) ∷ []) vs → NumberNarrowIn (pointer_bytes (width b)) (take 1 (drop 0 vs))
first_of_pair b [] c = tt
first_of_pair true (v ∷ vs) c = λ e. false_true (sym e)
first_of_pair false (v ∷ vs) c = λ e. c.0

second_of_pair : (b : Bool) (vs : List CoreValue) → AreNarrowAlong (pointer (width b) ∷ pointer (width b) ∷ []) vs → NumberNarrowIn (pointer_bytes (width b)) (take 1 (drop 1 vs))
second_of_pair b [] c = tt
second_of_pair b (v ∷ []) c = tt
second_of_pair true (v ∷ (u ∷ vs)) c = λ e. false_true (sym e)
second_of_pair false (v ∷ (u ∷ vs)) c = λ e. c.1.0

-- ---- parts of values

no_halves : (fs : List FlatType) → AreNarrowAlong fs []
no_halves [] = tt
no_halves (f ∷ fs) = tt

module _ (w : MemoryWidth) where
  nothing_by : (k : Kind) (ms : Members) → AreNarrowThroughout w ms [] → AreNarrowParts w k ms (record { Fields = λ us. AreNarrowThroughout w ms us; Case = λ n us. IsNarrowCase w ms n us; Element = λ us. AreNarrowThroughout w ms us }) []
  nothing_by k_record ms h = h
  nothing_by k_tuple ms h = h
  nothing_by (k_fixed n) ms h = λ i lt. subst (AreNarrowThroughout w ms) (sym (ap (take (length (flat_members w ms))) (drop_nothing (i * length (flat_members w ms))) ∙ take_nothing (length (flat_members w ms)))) h
  nothing_by k_variant ms h = tt
  nothing_by k_option ms h = tt
  nothing_by k_result ms h = tt
  nothing_by k_list ms h = tt
  nothing_by k_map ms h = tt
  nothing_by k_flags ms h = tt
  nothing_by k_enum ms h = tt
  nothing_by (k_future t i) ms h = tt
  nothing_by (k_stream t i) ms h = tt

  mutual
    unfolding IsNarrowThroughout

    nothing_narrow : (t : Shape) → IsNarrowThroughout w t []
    nothing_narrow (s_plain t) = no_halves (flat w (s_plain t))
    nothing_narrow (s_node k ms) = (no_halves (flat w (s_node k ms)), nothing_by k ms (nothing_members ms))

    nothing_members : (ms : Members) → AreNarrowThroughout w ms []
    nothing_members no_members = tt
    nothing_members (bare x ms) = nothing_members ms
    nothing_members (typed x s ms) =
        (subst (IsNarrowThroughout w s) (sym (take_nothing (length (flat w s)))) (nothing_narrow s), subst (AreNarrowThroughout w ms) (sym (drop_nothing (length (flat w s)))) (nothing_members ms))

  -- a field
  abbrev FieldNarrow : Option Field → List CoreValue → Type 0
  FieldNarrow None vs = Unit {0}
  FieldNarrow (Some f) vs = IsNarrowThroughout w f.shape (take (length (flat w f.shape)) (drop f.flat_place vs))

  found_narrow : (x : List ℕ) (ms : Members) (k a b : ℕ) (vs : List CoreValue) → AreNarrowThroughout w ms (drop k vs) → FieldNarrow (find x ms k a b) vs
  unfolding IsNarrowThroughout
  found_narrow x no_members k a b vs h = tt
  found_narrow x (bare y ms) k a b vs h = found_narrow x ms k a b vs h
  found_narrow x (typed y s ms) k a b vs h =
      by_name (bytes_eq y x) _ (found_narrow x ms (k + length (flat Memory32 s)) (next_of Memory32 s a) (next_of Memory64 s b) vs
      (subst (AreNarrowThroughout w ms) (drop-drop (length (flat w s)) k vs ∙ ap (λ n. drop (k + n) vs) (flat_lengths w Memory32 s)) h.1))
    where
      by_name : (c : Bool) (later : Option Field) → FieldNarrow later vs → FieldNarrow (if c then Some (record { shape = s; flat_place = k; place32 = place_of Memory32 s a; place64 = place_of Memory64 s b }) else later) vs
      by_name true later g = h.0
      by_name false later g = g

  -- the payload of a case, behind its discriminant
  abbrev PayloadNarrow : Option Shape → List CoreValue → Type 0
  PayloadNarrow None vs = Unit {0}
  PayloadNarrow (Some p) vs = IsNarrowThroughout w p (take (length (flat w p)) vs)

  abbrev CaseNarrow : Option CaseType → List CoreValue → Type 0
  CaseNarrow None vs = Unit {0}
  CaseNarrow (Some c) vs = PayloadNarrow c.payload vs

  case_narrow : (ms : Members) (n : ℕ) (vs : List CoreValue) → IsNarrowCase w ms n vs → CaseNarrow (case_type ms n) vs
  unfolding IsNarrowThroughout
  case_narrow no_members n vs h = tt
  case_narrow (bare x ms) zero vs h = tt
  case_narrow (typed x s ms) zero vs h = h
  case_narrow (bare x ms) (suc n) vs h = case_narrow ms n vs h
  case_narrow (typed x s ms) (suc n) vs h = case_narrow ms n vs h

-- ---- moves

module _ (Good : Import → (args results : List CoreValue) → Type 0)
    (numbers : (o : Transcode) (from to : CoreDef) (from64 to64 : Bool) (args rs : List CoreValue) → Good (import.Transcode o from from64 to to64) args rs → IsGoodPass (transcode_kind o) (from_encoding o) args rs)
    (tr : Transfer) where
  abbrev S : {A : Type 0} → Action A → Type 0
  S q = Spares Good q

  abbrev wf : MemoryWidth
  wf = width_of_side tr.from

  abbrev wt : MemoryWidth
  wt = width_of_side tr.to

  -- core values of a type, no more than stand for it, and narrow at each node of its value
  abbrev ValueNarrow : Shape → Source → Type 0
  ValueNarrow t (Values vs) = (length vs ≤ length (flat wf t)) × IsNarrowThroughout wf t vs
  ValueNarrow t (AtAddress a) = Unit {0}

  abbrev MembersNarrow : Members → Source → Type 0
  MembersNarrow ms (Values vs) = AreNarrowThroughout wf ms vs
  MembersNarrow ms (AtAddress a) = Unit {0}

  abbrev SourcePayload : Option Shape → Source → Type 0
  SourcePayload p (Values vs) = PayloadNarrow wf p (drop 1 vs)
  SourcePayload p (AtAddress a) = Unit {0}

  -- ---- plain types

  spares_move_number : (m n : ℕ) (f : ℕ → ℕ) (s : Source) (d : Target) → NumberNarrow m s → S (move_number tr m n f s d)
  spares_move_number m n f s d c = spares_number Good tr.debug tr.from m s c (λ x is. spares_written Good tr.to n d (f x))

  spares_char : (s : Source) (d : Target) → NumberNarrow 4 s → S (move_char tr s d)
  spares_char s d c = spares_number Good tr.debug tr.from 4 s c (λ n is. spares_unless Good InvalidChar _ refl (λ e. spares_written Good tr.to 4 d n))

  spares_handle : (i : Import) (t u : ℕ) (s : Source) (d : Target) → tells_check i ≡ false → NumberNarrow 4 s → S (move_handle tr i t u s d)
  spares_handle i t u s d e c = spares_number Good tr.debug tr.from 4 s c (λ n is. spares_ask Good i _ _ e (λ rs g. spares_written Good tr.to 4 d (first_bits rs)))

  -- a number, and a pointer and a length, of a type
  number_narrow : (t : Shape) (size : ℕ) (s : Source) → (nat_eq size 8 ≡ false → StartsWith32 (flat wf t)) → ValueNarrow t s → NumberNarrow size s
  unfolding IsNarrowThroughout
  number_narrow (s_plain t) size (Values vs) h c = first_narrow (flat wf (s_plain t)) vs size h c.1 c.0
  number_narrow (s_node k ms) size (Values vs) h c = first_narrow (flat wf (s_node k ms)) vs size h c.1.0 c.0
  number_narrow t size (AtAddress a) h c = tt

  abbrev PairNarrow : Source → Type 0
  PairNarrow s = NumberNarrow (bytes_of_addresses tr.from) (nth_part 1 (bytes_of_addresses tr.from) 0 s) × NumberNarrow (bytes_of_addresses tr.from) (nth_part 1 (bytes_of_addresses tr.from) 1 s)

  text_narrow : (s : Source) → ValueNarrow (s_plain ty.String) s → PairNarrow s
  unfolding IsNarrowThroughout
  text_narrow (Values vs) c = (first_of_pair (is_wide tr.from.memory) vs c.1, second_of_pair (is_wide tr.from.memory) vs c.1)
  text_narrow (AtAddress a) c = (tt, tt)

  spares_text : (s : Source) (d : Target) → PairNarrow s → S (move_string tr s d)
  spares_text s d c = spares_string Good numbers tr s d c.0 c.1

  spares_plain : (t u : InterfaceType) (s : Source) (d : Target) → ValueNarrow (s_plain t) s → S (move_plain tr t u s d)
  spares_plain ty.Char ty.Char s d c = spares_char s d (number_narrow (s_plain ty.Char) 4 s (λ e. tt) c)
  spares_plain ty.String ty.String s d c = spares_text s d (text_narrow s c)
  spares_plain (ty.Own i) (ty.Own j) s d c = spares_handle import.ResourceTransferOwn i.number j.number s d refl (number_narrow (s_plain (ty.Own i)) 4 s (λ e. tt) c)
  spares_plain (ty.Borrow i) (ty.Borrow j) s d c = spares_handle import.ResourceTransferBorrow i.number j.number s d refl (number_narrow (s_plain (ty.Borrow i)) 4 s (λ e. tt) c)
  spares_plain (ty.ErrorContext i) (ty.ErrorContext j) s d c = spares_handle import.ErrorContextTransfer i.number j.number s d refl (number_narrow (s_plain (ty.ErrorContext i)) 4 s (λ e. tt) c)
  spares_plain t u s d c = spares_move_number (plain_size t) (plain_size u) (canonical_number t) s d (number_narrow (s_plain t) (plain_size t) s (plain_starts wf t) c)

  spares_to_plain : (t : Shape) (u : InterfaceType) (s : Source) (d : Target) → ValueNarrow t s → S (move_to_plain tr t u s d)
  spares_to_plain (s_plain t) u s d c = spares_plain t u s d c
  spares_to_plain (s_node k ms) u s d c = spares_stop Good

  -- ---- nodes at aligned places

  source_fits : {A : Type 0} (debug : Bool) (t : Shape) (s : Source) {q : Action A} → SourceOn (align_in wf t) s → S q → S (aligned_source debug tr.from t s q)
  source_fits true t (Values vs) on h = h
  source_fits true t (AtAddress a) on h = spares_pass Good _ _ (eq-eqb _ 0 (mod-eq-zero_of_dvd (align_in wf t) on)) h
  source_fits false t s on h = h

  target_fits : {A : Type 0} (debug : Bool) (u : Shape) (d : Target) {q : Action A} → TargetOn (align_in wt u) d → S q → S (aligned_target debug tr.to u d q)
  target_fits true u (Slots ts) on h = h
  target_fits true u (Into a) on h = spares_pass Good _ _ (eq-eqb _ 0 (mod-eq-zero_of_dvd (align_in wt u) on)) h
  target_fits false u d on h = h

  node_fits : {A : Type 0} (t u : Shape) (s : Source) (d : Target) {q : Action A} → SourceOn (align_in wf t) s → TargetOn (align_in wt u) d → S q → S (aligned_node tr t u s d q)
  node_fits t u s d on to h = source_fits tr.debug t s on (target_fits tr.debug u d to h)

  -- ---- records and sums

  abbrev SourceField : Option Field → Source → Type 0
  SourceField o (Values vs) = FieldNarrow wf o vs
  SourceField o (AtAddress a) = Unit {0}

  spares_field : {k : Field → Action (List CoreValue)} (n : ℕ) (o : Option Field) (s : Source) → FitsField wf n o → SourceField o s → ((f : Field) → FieldFits wf n f → ValueNarrow f.shape (part tr.from f s) → S (k f)) → S (with_field o k)
  unfolding FitsField
  spares_field n None s fits narrow h = spares_stop Good
  spares_field n (Some f) (Values vs) fits narrow h = h f fits (few_taken (length (flat wf f.shape)) (drop f.flat_place vs), narrow)
  spares_field n (Some f) (AtAddress a) fits narrow h = h f fits tt

  field_narrow : (x : List ℕ) (ms : Members) (s : Source) → MembersNarrow ms s → SourceField (field_of x ms) s
  unfolding IsNarrowThroughout
  field_narrow x ms (Values vs) h = found_narrow wf x ms 0 0 0 vs h
  field_narrow x ms (AtAddress a) h = tt

  payload_narrow : (ms : Members) (p : Shape) (s : Source) → SourcePayload (Some p) s → ValueNarrow p (payload_part tr.from p (payload_place (side_abi tr.from) ms) s)
  payload_narrow ms p (Values vs) h = (few_taken (length (flat wf p)) (drop 1 vs), h)
  payload_narrow ms p (AtAddress a) h = tt

  -- the destination's payload, where there is one, has an alignment that divides a number
  CoversPayload : ℕ → Option Shape → Type 0
  CoversPayload n None = Unit {0}
  CoversPayload n (Some u) = align_in wt u ∣ n

  MovesPayload : Option Shape → (Shape → Source → Target → Action (List CoreValue)) → Type 0
  MovesPayload None f = Unit {0}
  MovesPayload (Some u) f = (p : Shape) (s : Source) (d : Target) → IsCounted p → SourceOn (align_in wf p) s → ValueNarrow p s → TargetOn (align_in wt u) d → S (f p s d)

  spares_write_case : (ms ns : Members) (s : Source) (d : Target) (n : ℕ) (p q : Option Shape) (f : Shape → Source → Target → Action (List CoreValue))
      → PayloadFits wf (record_align wf ms) p → CoversPayload (record_align wt ns) q → MovesPayload q f → SourceOn (record_align wf ms) s → SourcePayload p s → TargetOn (record_align wt ns) d → S (write_case tr ms ns s d n p q f)
  unfolding PayloadFits CoversPayload MovesPayload
  spares_write_case ms ns s d n (Some p) (Some u) f fits covers moves on narrow to =
      spares_bind Good (spares_written Good tr.to (case_bytes ns) d n) (λ tag. spares_bind Good (moves p _ _ fits.1 (payload_on tr ms p s fits.0 on) (payload_narrow ms p s narrow) (payload_to tr ns u d covers to)) (λ vs. spares_give Good _))
  spares_write_case ms ns s d n None None f fits covers moves on narrow to = spares_bind Good (spares_written Good tr.to (case_bytes ns) d n) (λ tag. spares_give Good _)
  spares_write_case ms ns s d n (Some p) None f fits covers moves on narrow to = spares_stop Good
  spares_write_case ms ns s d n None (Some u) f fits covers moves on narrow to = spares_stop Good

  bare_case : (ms ns : Members) (s : Source) (d : Target) (n : ℕ) (p : Option Shape) → PayloadFits wf (record_align wf ms) p → SourceOn (record_align wf ms) s → SourcePayload p s → TargetOn (record_align wt ns) d
      → S (write_case tr ms ns s d n p None (λ q s' d'. Unreachable))
  unfolding CoversPayload MovesPayload
  bare_case ms ns s d n p fits on narrow to = spares_write_case ms ns s d n p None _ fits tt tt on narrow to

  typed_case : (ms ns : Members) (s : Source) (d : Target) (n : ℕ) (p : Option Shape) (u : Shape) {f : Shape → Source → Target → Action (List CoreValue)} → PayloadFits wf (record_align wf ms) p → align_in wt u ∣ record_align wt ns
      → ((q : Shape) (s' : Source) (d' : Target) → IsCounted q → SourceOn (align_in wf q) s' → ValueNarrow q s' → TargetOn (align_in wt u) d' → S (f q s' d'))
      → SourceOn (record_align wf ms) s → SourcePayload p s → TargetOn (record_align wt ns) d → S (write_case tr ms ns s d n p (Some u) f)
  unfolding CoversPayload MovesPayload
  typed_case ms ns s d n p u {f} fits covers moves on narrow to = spares_write_case ms ns s d n p (Some u) f fits covers moves on narrow to

  spares_if : {A : Type 0} (b : Bool) {q r : Action A} → S q → S r → S (if b then q else r)
  spares_if true h g = h
  spares_if false h g = g

  -- how members are moved, between places that fit them
  record MovesMembers (ns : Members) (m : MovingMembers) : Type 0 where
    fields : (ms : Members) (s : Source) (d : Target) → AreCounted ms → SourceOn (record_align wf ms) s → MembersNarrow ms s → TargetOn (record_align wt ns) d → S (m.fields ms s d)
    case : (ms : Members) (c : CaseType) (s : Source) (d : Target) → PayloadFits wf (record_align wf ms) c.payload → SourceOn (record_align wf ms) s → SourcePayload c.payload s → TargetOn (record_align wt ns) d → S (m.case ms c s d)

  -- what a discriminant and the payload of its case are known by
  abbrev SumNarrow : Members → Source → Type 0
  SumNarrow ms (Values vs) = IsNarrowPayload (λ n us. IsNarrowCase wf ms n us) vs
  SumNarrow ms (AtAddress a) = Unit {0}

  abbrev SourceCase : Option CaseType → Source → Type 0
  SourceCase o (Values vs) = CaseNarrow wf o (drop 1 vs)
  SourceCase o (AtAddress a) = Unit {0}

  case_payload : (ms : Members) (s : Source) (n : ℕ) → SumNarrow ms s → IsReadFrom (case_bytes ms) s n → SourceCase (case_type ms n) s
  case_payload ms (Values []) n h is = nothing_case (case_type ms n)
    where
      nothing_payload : (o : Option Shape) → PayloadNarrow wf o []
      nothing_payload None = tt
      nothing_payload (Some p) = subst (IsNarrowThroughout wf p) (sym (take_nothing (length (flat wf p)))) (nothing_narrow wf p)

      nothing_case : (o : Option CaseType) → CaseNarrow wf o []
      nothing_case None = tt
      nothing_case (Some c) = nothing_payload c.payload
  case_payload ms (Values (v ∷ vs)) n h is = subst (λ k. CaseNarrow wf (case_type ms k) vs) (sym (is (case_is_small ms))) (case_narrow wf ms (number_as I32 v) vs h)
  case_payload ms (AtAddress a) n h is = tt

  spares_read_case : (ms : Members) (s : Source) (k : CaseType → Action (List CoreValue)) → AreCounted ms → NumberNarrow (case_bytes ms) s → SumNarrow ms s → ((c : CaseType) → PayloadFits wf (record_align wf ms) c.payload → SourcePayload c.payload s → S (k c)) → S (read_case tr ms s k)
  unfolding CaseFits
  spares_read_case ms s k counted number narrow h =
      spares_number Good tr.debug tr.from (case_bytes ms) s number (λ n is. by_case (case_type ms n) (case_fits wf (record_align wf ms) ms n (covers_record wf ms) counted) (case_payload ms s n narrow is))
    where
      of_case : (c : CaseType) (s : Source) → SourceCase (Some c) s → SourcePayload c.payload s
      of_case c (Values vs) g = g
      of_case c (AtAddress a) g = tt

      by_case : (o : Option CaseType) → CaseFits wf (record_align wf ms) o → SourceCase o s → S {A = List CoreValue} (elim o [ None ↦ trap InvalidDiscriminant | Some c ↦ k c ])
      by_case None fits g = spares_ask Good _ [] [] refl (λ rs g. spares_stop Good)
      by_case (Some c) fits g = h c fits (of_case c s g)

  spares_sum : (ms ns : Members) (m : MovingMembers) (s : Source) (d : Target) → AreCounted ms → MovesMembers ns m → SourceOn (align_in wf (s_node k_variant ms)) s → NumberNarrow (case_bytes ms) s → SumNarrow ms s → TargetOn (align_in wt (s_node k_variant ns)) d → S (move_sum tr ms m s d)
  spares_sum ms ns m s d counted moves on number narrow to =
      spares_read_case ms s _ counted number narrow (λ c fits payload. moves.case ms c s d fits (source_less _ _ s (sum_divides wf ms) on) payload (target_less _ _ d (sum_divides wt ns) to))

  spares_enum : (ms ns : Members) (s : Source) (d : Target) → NumberNarrow (case_bytes ms) s → S (move_enum tr ms ns s d)
  spares_enum ms ns s d c = spares_number Good tr.debug tr.from (case_bytes ms) s c (λ n is. spares_unless Good InvalidDiscriminant _ refl (λ e. spares_written Good tr.to (case_bytes ns) d n))

  spares_list : (ms ns : Members) (m : MovingMembers) (s : Source) (d : Target) → AreCounted ms → MovesMembers ns m → PairNarrow s → S (move_list tr ms ns (m.fields ms) s d)
  spares_list ms ns m s d counted moves narrow =
      let e = entry_extent tr.from ms in
      let f = entry_extent tr.to ns in
      spares_pair Good tr.debug tr.from s narrow.0 narrow.1 (λ p n.
      spares_unless Good ListOutOfBounds (nat_lt (n * e.size) (2 ^ 32)) refl (λ e1.
      spares_unless Good ListOutOfBounds (nat_lt (n * f.size) (2 ^ 32)) refl (λ e2.
      spares_region Good tr.from ListOutOfBounds p (n * e.size) e.align refl (λ at.
      spares_realloc Good tr.concurrency tr.to ListOutOfBounds 0 0 f.align (n * f.size) refl (λ q into.
      spares_bind Good
      (spares_each Good 0 n (λ i. m.fields ms (AtAddress (p + i * e.size)) (Into (q + i * f.size))) (λ i.
      moves.fields ms (AtAddress (p + i * e.size)) (Into (q + i * f.size)) counted (dvd-add _ at (times_divides _ i _ (size_divides wf ms))) tt (dvd-add _ into (times_divides _ i _ (size_divides wt ns)))))
      (λ vs. spares_pair_written Good tr.to d q n))))))

  times_length : {A : Type 0} (n : ℕ) (xs : List A) → length (times n xs) ≡ n * length xs
  times_length zero xs = omega arith
  times_length (suc n) xs = length-append xs (times n xs) ∙ (let r = times_length n xs in let e : length xs + n * length xs ≡ suc n * length xs = omega arith in ap (λ k. length xs + k) r ∙ e)

  -- each element, and nothing behind the last one
  element_narrow : (n : ℕ) (ms : Members) (s : Source) (i : ℕ) → ValueNarrow (s_node (k_fixed n) ms) s → MembersNarrow ms (nth_part (element_flats tr.from ms) (entry_extent tr.from ms).size i s)
  unfolding IsNarrowThroughout
  element_narrow n ms (AtAddress a) i c = tt
  element_narrow n ms (Values vs) i c = ⊎_elim (λ lt. c.1.1 i lt) (λ ge. subst (AreNarrowThroughout wf ms) (sym (ap (take k) (none_dropped (i * k) vs (few ge)) ∙ take_nothing k)) (nothing_members wf ms)) (cases_lt i n)
    where
      k : ℕ
      k = length (flat_members wf ms)

      few : n ≤ i → length vs ≤ i * k
      few ge = let l = times_length n (flat_members wf ms) in let g : n * k ≤ i * k = mul-le-mul ge (let same : k ≤ k = omega arith in same) in let h = c.0 in omega (arith, l, g, h)

  spares_fixed : (i j : ℕ) (ms ns : Members) (m : MovingMembers) (s : Source) (d : Target) → IsCounted (s_node (k_fixed i) ms) → IsCounted (s_node (k_fixed j) ns) → MovesMembers ns m
      → SourceOn (align_in wf (s_node (k_fixed i) ms)) s → ValueNarrow (s_node (k_fixed i) ms) s → TargetOn (align_in wt (s_node (k_fixed j) ns)) d → S (move_fixed tr j ms ns (m.fields ms) s d)
  spares_fixed i j ms ns m s d ct cu moves on narrow to =
      spares_each Good 0 j _ (λ x. moves.fields ms _ _ ct.1
      (nth_on tr _ (element_flats tr.from ms) _ x s (size_divides wf ms) (source_less _ _ s (fixed_divides wf i ms ct.0.0) on)) (element_narrow i ms s x narrow)
      (nth_to tr _ (element_flats tr.to ns) _ x d (size_divides wt ns) (target_less _ _ d (fixed_divides wt j ns cu.0.0) to)))

  -- what is known of the parts of a node
  record_narrow : (ms : Members) (s : Source) → ValueNarrow (s_node k_record ms) s → MembersNarrow ms s
  unfolding IsNarrowThroughout
  record_narrow ms (Values vs) c = c.1.1
  record_narrow ms (AtAddress a) c = tt

  tuple_narrow : (ms : Members) (s : Source) → ValueNarrow (s_node k_tuple ms) s → MembersNarrow ms s
  unfolding IsNarrowThroughout
  tuple_narrow ms (Values vs) c = c.1.1
  tuple_narrow ms (AtAddress a) c = tt

  variant_narrow : (ms : Members) (s : Source) → ValueNarrow (s_node k_variant ms) s → SumNarrow ms s
  unfolding IsNarrowThroughout
  variant_narrow ms (Values vs) c = c.1.1
  variant_narrow ms (AtAddress a) c = tt

  option_narrow : (ms : Members) (s : Source) → ValueNarrow (s_node k_option ms) s → SumNarrow ms s
  unfolding IsNarrowThroughout
  option_narrow ms (Values vs) c = c.1.1
  option_narrow ms (AtAddress a) c = tt

  result_narrow : (ms : Members) (s : Source) → ValueNarrow (s_node k_result ms) s → SumNarrow ms s
  unfolding IsNarrowThroughout
  result_narrow ms (Values vs) c = c.1.1
  result_narrow ms (AtAddress a) c = tt

  list_narrow : (ms : Members) (s : Source) → ValueNarrow (s_node k_list ms) s → PairNarrow s
  unfolding IsNarrowThroughout
  list_narrow ms (Values vs) c = (first_of_pair (is_wide tr.from.memory) vs c.1.0, second_of_pair (is_wide tr.from.memory) vs c.1.0)
  list_narrow ms (AtAddress a) c = (tt, tt)

  map_narrow : (ms : Members) (s : Source) → ValueNarrow (s_node k_map ms) s → PairNarrow s
  unfolding IsNarrowThroughout
  map_narrow ms (Values vs) c = (first_of_pair (is_wide tr.from.memory) vs c.1.0, second_of_pair (is_wide tr.from.memory) vs c.1.0)
  map_narrow ms (AtAddress a) c = (tt, tt)

  spares_node : (k : Kind) (ms : Members) (l : Kind) (ns : Members) (m : MovingMembers) (s : Source) (d : Target) → IsCounted (s_node k ms) → IsCounted (s_node l ns) → MovesMembers ns m
      → SourceOn (align_in wf (s_node k ms)) s → ValueNarrow (s_node k ms) s → TargetOn (align_in wt (s_node l ns)) d → S (move_node tr k ms l ns m s d)
  spares_node k_record ms k_record ns m s d ct cu moves on narrow to = moves.fields ms s d ct.1 on (record_narrow ms s narrow) to
  spares_node k_tuple ms k_tuple ns m s d ct cu moves on narrow to = moves.fields ms s d ct.1 (source_less _ _ s (same_align wf ms) on) (tuple_narrow ms s narrow) (target_less _ _ d (same_align wt ns) to)
    where
      same_align : (w : MemoryWidth) (ms : Members) → record_align w ms ∣ align_in w (s_node k_tuple ms)
      same_align Memory32 ms = dvd_refl _
      same_align Memory64 ms = dvd_refl _
  spares_node k_variant ms k_variant ns m s d ct cu moves on narrow to = spares_sum ms ns m s d ct.1 moves on (number_narrow (s_node k_variant ms) (case_bytes ms) s (λ e. tt) narrow) (variant_narrow ms s narrow) to
  spares_node k_option ms k_option ns m s d ct cu moves on narrow to = spares_sum ms ns m s d ct.1 moves on (number_narrow (s_node k_option ms) (case_bytes ms) s (λ e. tt) narrow) (option_narrow ms s narrow) to
  spares_node k_result ms k_result ns m s d ct cu moves on narrow to = spares_sum ms ns m s d ct.1 moves on (number_narrow (s_node k_result ms) (case_bytes ms) s (λ e. tt) narrow) (result_narrow ms s narrow) to
  spares_node k_enum ms k_enum ns m s d ct cu moves on narrow to = spares_enum ms ns s d (number_narrow (s_node k_enum ms) (case_bytes ms) s (λ e. tt) narrow)
  spares_node k_flags ms k_flags ns m s d ct cu moves on narrow to = spares_move_number (flags_bytes ms) (flags_bytes ns) _ s d (number_narrow (s_node k_flags ms) (flags_bytes ms) s (λ e. flags_start (count_of_members ms)) narrow)
  spares_node k_list ms k_list ns m s d ct cu moves on narrow to = spares_list ms ns m s d ct.1 moves (list_narrow ms s narrow)
  spares_node k_map ms k_map ns m s d ct cu moves on narrow to = spares_list ms ns m s d ct.1 moves (map_narrow ms s narrow)
  spares_node (k_fixed i) ms (k_fixed j) ns m s d ct cu moves on narrow to = spares_fixed i j ms ns m s d ct cu moves on narrow to
  spares_node (k_future t i) ms (k_future u j) ns m s d ct cu moves on narrow to = spares_handle import.FutureTransfer t u s d refl (number_narrow (s_node (k_future t i) ms) 4 s (λ e. tt) narrow)
  spares_node (k_stream t i) ms (k_stream u j) ns m s d ct cu moves on narrow to = spares_handle import.StreamTransfer t u s d refl (number_narrow (s_node (k_stream t i) ms) 4 s (λ e. tt) narrow)
  spares_node k ms l ns m s d ct cu moves on narrow to = spares_stop Good

  spares_to_node : (t : Shape) (l : Kind) (ns : Members) (m : MovingMembers) (s : Source) (d : Target) → IsCounted t → IsCounted (s_node l ns) → MovesMembers ns m
      → SourceOn (align_in wf t) s → ValueNarrow t s → TargetOn (align_in wt (s_node l ns)) d → S (move_to_node tr t l ns m s d)
  spares_to_node (s_plain t) l ns m s d ct cu moves on narrow to = spares_stop Good
  spares_to_node (s_node k ms) l ns m s d ct cu moves on narrow to = spares_visit Good _ (spares_node k ms l ns m s d ct cu moves on narrow to)

  -- ---- all types

  mutual
    unfolding move

    pub spares_move : (t u : Shape) (s : Source) (d : Target) → IsCounted t → IsCounted u → SourceOn (align_in wf t) s → ValueNarrow t s → TargetOn (align_in wt u) d → S (move tr t u s d)
    spares_move t (s_plain u) s d ct cu on narrow to = node_fits t (s_plain u) s d on to (spares_visit Good 1 (spares_to_plain t u s d narrow))
    spares_move t (s_node l ns) s d ct cu on narrow to =
        node_fits t (s_node l ns) s d on to
        (spares_to_node t l ns _ s d ct cu
        (record {
          fields = λ ms s' d' counted on' narrow' to'. spares_fields ms ns 0 (record_align wt ns) s' d' counted cu.1 (covers_record wt ns) on' narrow' to';
          case = λ ms c s' d' fits on' narrow' to'. spares_case ms ns c ns 0 s' d' fits cu.1 (covers_record wt ns) on' narrow' to';
        }) on narrow to)

    pub spares_fields : (ms ns : Members) (end n : ℕ) (s : Source) (d : Target) → AreCounted ms → AreCounted ns → Covers wt n ns → SourceOn (record_align wf ms) s → MembersNarrow ms s → TargetOn n d → S (move_fields tr ms ns end s d)
    spares_fields ms no_members end n s d ct cu covers on narrow to = spares_give Good []
    spares_fields ms (bare x ns) end n s d ct cu covers on narrow to = spares_fields ms ns end n s d ct cu covers on narrow to
    spares_fields ms (typed x u ns) end n s d ct cu covers on narrow to =
        spares_field (record_align wf ms) (field_of x ms) s (field_fits x wf (record_align wf ms) ms (covers_record wf ms) ct) (field_narrow x ms s narrow) (λ f fits here.
        spares_bind Good (spares_move f.shape u _ _ fits.counted cu.0 (part_on tr _ f s fits on) here (spot_on tr n u end d covers.0 to)) (λ vs.
        spares_bind Good (spares_fields ms ns _ n s _ ct cu.1 covers.1 on narrow (past_on tr n u d to)) (λ us. spares_give Good _)))

    spares_case : (ms all : Members) (c : CaseType) (ns : Members) (n : ℕ) (s : Source) (d : Target) → PayloadFits wf (record_align wf ms) c.payload → AreCounted ns → Covers wt (record_align wt all) ns
        → SourceOn (record_align wf ms) s → SourcePayload c.payload s → TargetOn (record_align wt all) d → S (move_case tr ms all c ns n s d)
    spares_case ms all c no_members n s d fits cu covers on narrow to = spares_stop Good
    spares_case ms all c (bare x ns) n s d fits cu covers on narrow to =
        spares_if (bytes_eq x c.name) (bare_case ms all s d n c.payload fits on narrow to) (spares_case ms all c ns (suc n) s d fits cu covers on narrow to)
    spares_case ms all c (typed x u ns) n s d fits cu covers on narrow to =
        spares_if (bytes_eq x c.name) (typed_case ms all s d n c.payload u fits covers.0 (λ p s' d' cp on' narrow' to'. spares_move p u s' d' cp cu.0 on' narrow' to') on narrow to)
        (spares_case ms all c ns (suc n) s d fits cu.1 covers.1 on narrow to)

-- ---- adapters

-- what is answered that lets an adapter's checks pass: transcoders answer numbers as honest ones do, and of what core functions
-- answer this holds
abbrev pub IsGoodBy : (CoreDef → (results : List CoreValue) → Type 0) → Import → (args results : List CoreValue) → Type 0
IsGoodBy Core (import.Transcode o from from64 to to64) args rs = IsGoodPass (transcode_kind o) (from_encoding o) args rs
IsGoodBy Core (import.CoreDef d) args rs = Core d rs
IsGoodBy Core _ args rs = Unit {0}

module _ (Core : CoreDef → (results : List CoreValue) → Type 0) (u : AdapterTunables) (a : LinkedAdapter) (counted : HasCountedTypes a) where
  abbrev Good : Import → (args results : List CoreValue) → Type 0
  Good = IsGoodBy Core

  abbrev T : {A : Type 0} → Action A → Type 0
  T q = Spares Good q

  numbers : (o : Transcode) (from to : CoreDef) (from64 to64 : Bool) (args rs : List CoreValue) → Good (import.Transcode o from from64 to to64) args rs → IsGoodPass (transcode_kind o) (from_encoding o) args rs
  numbers o from to from64 to64 args rs g = g

  spares_from : (tr : Transfer) (limit : ℕ) (ts : List Shape) (vs : List CoreValue) (k : Source → Action (List CoreValue)) → AreNarrowValues (width_of_side tr.from) (flat_values (is_wide tr.from.memory) limit ts) ts vs
      → ((s : Source) → SourceOn (record_align (width_of_side tr.from) (tuple_members ts)) s → MembersNarrow Good numbers tr (tuple_members ts) s → T (k s)) → T (from_values tr.from limit ts vs k)
  spares_from tr limit ts vs k narrow h = by_flats (flat_values (is_wide tr.from.memory) limit ts) narrow
    where
      by_flats : (x : Option (List ValType)) → AreNarrowValues (width_of_side tr.from) x ts vs → T (elim x [ Some flats ↦ k (Values vs) | None ↦ check_tuple tr.from ts (first_bits vs) (k (AtAddress (first_bits vs))) ])
      by_flats (Some flats) c = h (Values vs) tt c
      by_flats None c = spares_region Good tr.from MemoryOutOfBounds (first_bits vs) _ _ refl (λ at. h (AtAddress (first_bits vs)) at tt)

  spares_params : (args : List CoreValue) → AreNarrowParams a args → T (move_params u a args)
  spares_params args narrow =
      spares_from (params_transfer u a) (lower_limit a.lower.async_side) a.lower.params args _ narrow (λ s on c. by_flats (flat_values (is_wide a.lift.memory) 16 a.lift.params) s on c)
    where
      moves : (s : Source) (d : Target) → SourceOn (record_align (width_of_side (options_of a.lower)) (tuple_members a.lower.params)) s → MembersNarrow Good numbers (params_transfer u a) (tuple_members a.lower.params) s → TargetOn (record_align (width_of_side (options_of a.lift)) (tuple_members a.lift.params)) d
          → T (move_fields (params_transfer u a) (tuple_members a.lower.params) (tuple_members a.lift.params) 0 s d)
      moves s d on c to = spares_fields Good numbers (params_transfer u a) (tuple_members a.lower.params) (tuple_members a.lift.params) 0 _ s d counted.lower_params counted.lift_params (covers_record _ (tuple_members a.lift.params)) on c to

      by_flats : (x : Option (List ValType)) (s : Source) → SourceOn (record_align (width_of_side (options_of a.lower)) (tuple_members a.lower.params)) s → MembersNarrow Good numbers (params_transfer u a) (tuple_members a.lower.params) s → T (elim x [
        | Some flats ↦ move_fields (params_transfer u a) (tuple_members a.lower.params) (tuple_members a.lift.params) 0 s (Slots flats)
        | None ↦
            let e = entry_extent (options_of a.lift) (tuple_members a.lift.params) in
            reallocate u.concurrency (options_of a.lift) MemoryOutOfBounds 0 0 e.align e.size (λ q. move_fields (params_transfer u a) (tuple_members a.lower.params) (tuple_members a.lift.params) 0 s (Into q) >> Give (address_value (options_of a.lift) q ∷ []))
      ])
      by_flats (Some flats) s on c = moves s (Slots flats) on c tt
      by_flats None s on c =
          spares_realloc Good u.concurrency (options_of a.lift) MemoryOutOfBounds 0 0 _ _ {k = λ q. move_fields (params_transfer u a) (tuple_members a.lower.params) (tuple_members a.lift.params) 0 s (Into q) >> Give (address_value (options_of a.lift) q ∷ [])} refl (λ q to. spares_bind Good (moves s (Into q) on c to) (λ vs. spares_give Good _))

  spares_results : (given : List CoreValue) (pointer : ℕ) → AreNarrowResults a given → T (move_results u a given pointer)
  spares_results given pointer narrow =
      spares_from (results_transfer u a) (lift_results_limit a.lift.async_side) a.lift.results given _ narrow (λ s on c. by_flats (flat_results a.lower) s on c)
    where
      moves : (s : Source) (d : Target) → SourceOn (record_align (width_of_side (options_of a.lift)) (tuple_members a.lift.results)) s → MembersNarrow Good numbers (results_transfer u a) (tuple_members a.lift.results) s → TargetOn (record_align (width_of_side (options_of a.lower)) (tuple_members a.lower.results)) d
          → T (move_fields (results_transfer u a) (tuple_members a.lift.results) (tuple_members a.lower.results) 0 s d)
      moves s d on c to = spares_fields Good numbers (results_transfer u a) (tuple_members a.lift.results) (tuple_members a.lower.results) 0 _ s d counted.lift_results counted.lower_results (covers_record _ (tuple_members a.lower.results)) on c to

      by_flats : (x : Option (List ValType)) (s : Source) → SourceOn (record_align (width_of_side (options_of a.lift)) (tuple_members a.lift.results)) s → MembersNarrow Good numbers (results_transfer u a) (tuple_members a.lift.results) s → T (elim x [
        | Some flats ↦ move_fields (results_transfer u a) (tuple_members a.lift.results) (tuple_members a.lower.results) 0 s (Slots flats)
        | None ↦ check_tuple (options_of a.lower) a.lower.results pointer (move_fields (results_transfer u a) (tuple_members a.lift.results) (tuple_members a.lower.results) 0 s (Into pointer))
      ])
      by_flats (Some flats) s on c = moves s (Slots flats) on c tt
      by_flats None s on c = spares_region Good (options_of a.lower) MemoryOutOfBounds pointer _ _ refl (λ to. moves s (Into pointer) on c to)

  spares_cleared : {A : Type 0} (i saved : ℕ) (q : Action A) → T q → T (cleared i saved q)
  spares_cleared i saved q h = spares_set Good i 0 (spares_bind Good h (λ x. spares_set Good i saved (spares_give Good x)))

  spares_when : (b : Bool) (q : Action (List CoreValue)) → T q → T (when_due b q)
  spares_when true q h = h
  spares_when false q h = spares_give Good []

  spares_call : (i : Import) (args : List CoreValue) (ts : List ValType) → tells_check i ≡ false → T (make_call i args ts)
  spares_call i args ts e = spares_ask Good i args ts e (λ rs g. spares_give Good rs)

  spares_read_slots : (b : Bool) → T (read_slots b)
  spares_read_slots false = spares_give Good _
  spares_read_slots true = spares_ask Good _ [] _ refl (λ x g. spares_ask Good _ [] _ refl (λ y k. spares_give Good _))

  spares_write_slots : (b : Bool) (s : Slotted) → T (write_slots b s)
  spares_write_slots false s = spares_give Good []
  spares_write_slots true s = spares_ask Good _ s.first [] refl (λ x g. spares_ask Good _ s.second [] refl (λ y k. spares_give Good []))

  spares_finish : (b : Bool) (f : Option CoreDef) (given : List CoreValue) (s : Slotted) → T (finish_call b f given s)
  spares_finish b None given s = spares_give Good []
  spares_finish b (Some f) given s =
      spares_bind Good (spares_read_slots b) (λ own. spares_bind Good (spares_write_slots b s) (λ x. spares_bind Good (spares_call (import.CoreDef f) given [] refl) (λ y. spares_write_slots b own)))

  pub spares_sync : ((rs : List CoreValue) → Core a.callee rs → AreNarrowResults a rs) → (args : List CoreValue) → AreNarrowParams a args → T (sync u a args)
  spares_sync answered args narrow =
      spares_get Good a.lower.instance (λ saved.
      spares_bind Good (spares_unless Good CannotLeaveComponent (not (nat_eq saved 0)) refl (λ e. spares_give Good [])) (λ x.
      spares_bind Good (spares_when (enters u a) _ (spares_call import.EnterSyncCall _ [] refl)) (λ y.
      spares_get Good a.lift.instance (λ lift_saved.
      spares_bind Good (spares_cleared a.lift.instance lift_saved (move_params u a args) (spares_params args narrow)) (λ core.
      spares_ask Good (import.CoreDef a.callee) core (lift_signature_of a).results refl (λ given good.
      spares_bind Good (spares_read_slots (u.concurrency && is_some a.lift.post_return)) (λ context.
      spares_bind Good (spares_when (enters u a) _ (spares_call import.ExitSyncCall [] [] refl)) (λ z.
      spares_bind Good (spares_cleared a.lower.instance saved (move_results u a given (last_bits args)) (spares_results given (last_bits args) (answered given good))) (λ results.
      spares_bind Good (spares_finish u.concurrency a.lift.post_return given context) (λ r. spares_give Good results))))))))))

  pub spares_start : (args : List CoreValue) → AreNarrowParams a args → T (async_start u a args)
  spares_start args narrow = spares_get Good a.lift.instance (λ saved. spares_cleared a.lift.instance saved (move_params u a args) (spares_params args narrow))

  pub spares_return : (args : List CoreValue) → AreNarrowResults a args → T (async_return u a args)
  spares_return args narrow = spares_get Good a.lower.instance (λ saved. spares_cleared a.lower.instance saved (move_results u a args (last_bits args)) (spares_results args (last_bits args) narrow))
