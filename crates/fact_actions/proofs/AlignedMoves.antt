-- In adapters the places of all nodes are aligned, so debug checks never tell of one that is not.
use Rattle.std.proofs.Common.{◌≡◌, ℕ, suc, ◌+◌, ◌*◌, ◌^◌, Bool, true, false, List, [], ◌∷◌, Option, Some, None, refl}
use Rattle.std.proofs.lemmas.Bool.{eq-eqb}
use Rattle.std.proofs.lemmas.Nat.Gcd.{dvd_refl, dvd_trans, mod-eq-zero_of_dvd}
use Rattle.std.proofs.Math.Nat.{dvd-add, dvd-mul_left}
use Rattle.std.specs.Int.{◌∣◌}
use Rattle.std.specs.Prelude.{nat_eq, nat_lt, not, ◌&&◌, is_some, if◌then◌else◌}
use Rattle.std.specs.Str.{bytes_eq}
use Rattle.fact_wasm.specs.declared.types.ValType.{ValType}
use Rattle.fact_types.specs.declared.import.Import.{Import}
use Rattle.fact_types.specs.declared.import.Import.TheVariants as import
use Rattle.fact_types.specs.declared.interface.InterfaceType.{InterfaceType}
use Rattle.fact_types.specs.declared.interface.InterfaceType.TheVariants as ty
use Rattle.fact_types.specs.declared.outside.CoreDef.{CoreDef}
use Rattle.fact_types.specs.declared.outside.StringEncoding.{StringEncoding}
use Rattle.fact_types.specs.declared.outside.StringEncoding.TheVariants as string
use Rattle.fact_types.specs.declared.outside.Transcode.{Transcode}
use Rattle.fact_types.specs.declared.outside.Trap.{Trap as Reason}
use Rattle.fact_types.specs.declared.outside.Trap.TheVariants.{ListOutOfBounds, StringOutOfBounds, MemoryOutOfBounds, InvalidChar, InvalidDiscriminant, CannotLeaveComponent, UncaughtException}
use Rattle.fact_types.specs.declared.extents.MemoryWidth.{MemoryWidth}
use Rattle.fact_types.specs.declared.extents.MemoryWidth.TheVariants.{Memory32, Memory64}
use Rattle.fact_types.specs.Adapters.{LinkedAdapter, is_wide}
use Rattle.fact_types.specs.Fields.{Field, field_of}
use Rattle.fact_types.specs.FlatShapes.{IsCounted, AreCounted}
use Rattle.fact_types.specs.Shapes.{Kind, k_record, k_variant, k_list, k_tuple, k_map, k_flags, k_enum, k_option, k_result, k_fixed, k_future, k_stream, Shape, s_plain, s_node, Members, no_members, bare, typed}
use Rattle.fact_types.specs.Signatures.{flat_values, lower_limit, lift_results_limit}
use Rattle.fact_machine.specs.declared.types.CoreValue.{CoreValue}
use Rattle.fact_machine.specs.World.{Throw, Trap, Lack}
use Rattle.fact_values.specs.Limits.{CaseType, case_type}
use Rattle.fact_values.specs.Places.{payload_place, case_bytes, flags_bytes}
use Rattle.fact_values.specs.Texts.{form_of}
use Rattle.fact_actions.specs.Actions.{Action, Give, Unreachable, ◌>>◌, trap, unless}
use Rattle.fact_actions.specs.AdapterLaws.{EachSync, EachStart, EachReturn, is_misplaced, NoneMisplaced, HasCountedTypes}
use Rattle.fact_actions.specs.Plain.{guarded_if}
use Rattle.fact_actions.specs.Running.{ImportPlaces, Ended, Gave, Halted, Strayed, run}
use Rattle.fact_actions.specs.Adapters.{AdapterTunables, Slotted, params_transfer, results_transfer, check_tuple, from_values, flat_results, move_params, move_results, last_bits, when_due, make_call, cleared, enters, read_slots, write_slots, finish_call, sync, async_start, async_return, lift_signature_of}
use Rattle.fact_types.specs.Tuples.{tuple_members}
use Rattle.fact_actions.specs.Moves.{MovingMembers, entry_extent, element_flats, part, spot, past, payload_part, payload_spot, canonical_number, plain_size, aligned_source, aligned_target, aligned_node, move_number, move_char, move_handle, move_enum, read_case, write_case, move_list, move_fixed, move_plain, move_to_plain, move_sum, move_node, move_to_node, with_field, move, move_fields, move_case}
use Rattle.fact_actions.specs.Paths.{Path, End, Limit, Resize, Pass, If, Tag, Assert, TextForm, AsUtf8, AsUtf16, AsCompactLatin1, AsCompactUtf16, path}
use Rattle.fact_actions.specs.Sides.{LiftLowerOptions, Transfer, Source, Values, AtAddress, Target, Slots, Into, options_of, width_of_side, nth_part, nth_spot, first_bits, address_value, reallocate, side_abi}
use Rattle.fact_actions.specs.Strings.{PathPoint, path_start, holds, with_tag, asserted, choose_action, transcode, walk, form_in, move_string}
use Rattle.fact_actions.proofs.Avoids.{Misses, misses, misses_later, Avoids, avoids_give, avoids_stop, avoids_visit, avoids_ask, avoids_get, avoids_set, avoids_bind, avoids_unless, avoids_each, avoids_memory, avoids_number, avoids_written, avoids_pair, avoids_pair_written, avoids_region, avoids_realloc}
use Rattle.fact_actions.proofs.States.{false_true}
use Rattle.fact_actions.proofs.Multiples.{align_in, record_align, Covers, covers_record, place_divides, size_divides, offset_divides, sum_divides, fixed_divides, FieldFits, FitsField, field_fits, PayloadFits, CaseFits, case_fits}

-- places at multiples of a number; core values have none
abbrev pub SourceOn : ℕ → Source → Type 0
SourceOn n (Values vs) = Unit {0}
SourceOn n (AtAddress a) = n ∣ a

abbrev pub TargetOn : ℕ → Target → Type 0
TargetOn n (Slots ts) = Unit {0}
TargetOn n (Into a) = n ∣ a

pub source_less : (m n : ℕ) (s : Source) → m ∣ n → SourceOn n s → SourceOn m s
source_less m n (Values vs) d h = tt
source_less m n (AtAddress a) d h = dvd_trans m d h

pub target_less : (m n : ℕ) (d : Target) → m ∣ n → TargetOn n d → TargetOn m d
target_less m n (Slots ts) k h = tt
target_less m n (Into a) k h = dvd_trans m k h

pub times_divides : (m i n : ℕ) → m ∣ n → m ∣ i * n
times_divides m i n d = dvd_trans m d (dvd-mul_left n i)

-- ---- texts

avoids_asserted : {A : Type 0} (debug : Bool) (t : Reason) (b : Bool) {q : Action A} → is_misplaced (import.Trap t) ≡ false → Avoids q → Avoids (asserted debug t b q)
avoids_asserted false t b e h = h
avoids_asserted true t b e h = avoids_unless t b e (λ is. h)

avoids_branch : {A : Type 0} (b : Bool) {q r : Action A} → Avoids q → Avoids r → Avoids (choose_action b q r)
avoids_branch true h g = h
avoids_branch false h g = g

-- no assertion of a path tells of a place
OtherTests : Path → Type 0
OtherTests End = Unit {0}
OtherTests (Limit n p) = OtherTests p
OtherTests (Resize x y p) = OtherTests p
OtherTests (Pass o rest room p) = OtherTests p
OtherTests (If test q r p) = OtherTests q × OtherTests r × OtherTests p
OtherTests (Tag p) = OtherTests p
OtherTests (Assert t test p) = (is_misplaced (import.Trap t) ≡ false) × OtherTests p

module _ (tr : Transfer) where
  avoids_transcode : (o : Transcode) (rest : Bool) (room : ℕ) (v : PathPoint) → Avoids (transcode tr o rest room v)
  avoids_transcode o rest room v = avoids_memory tr.from (λ m. avoids_memory tr.to (λ n. avoids_ask _ _ _ refl (λ rs. avoids_give _)))

  avoids_walk : (p : Path) (v : PathPoint) → OtherTests p → Avoids (walk tr p v)
  unfolding OtherTests
  avoids_walk End v h = avoids_give v
  avoids_walk (Limit n p) v h = avoids_unless StringOutOfBounds _ refl (λ e. avoids_walk p v h)
  avoids_walk (Resize x y p) v h = avoids_realloc tr.concurrency tr.to StringOutOfBounds _ _ _ _ refl (λ q d. avoids_walk p (record v { region = q }) h)
  avoids_walk (Pass o rest room p) v h = avoids_bind (avoids_transcode o rest room v) (λ u. avoids_walk p u h)
  avoids_walk (If test q r p) v h = avoids_bind (avoids_branch (holds tr test v) (avoids_walk q v h.0) (avoids_walk r v h.1)) (λ u. avoids_walk p u h.2)
  avoids_walk (Tag p) v h = avoids_walk p (with_tag v) h
  avoids_walk (Assert t test p) v h = avoids_asserted tr.debug t (holds tr test v) h.0 (avoids_walk p v h.1)

  other_tests : (f : TextForm) (e : StringEncoding) → OtherTests (path f e)
  unfolding OtherTests
  other_tests AsUtf8 string.Utf8 = tt
  other_tests AsUtf8 string.Utf16 = (tt, tt, tt)
  other_tests AsUtf8 string.CompactUtf16 = ((tt, tt, tt), (tt, tt, tt), tt)
  other_tests AsUtf16 string.Utf8 = ((refl, tt), (refl, (tt, tt, tt)), tt)
  other_tests AsUtf16 string.Utf16 = tt
  other_tests AsUtf16 string.CompactUtf16 = ((tt, tt, tt), (tt, tt, tt), tt)
  other_tests AsCompactLatin1 string.Utf8 = ((refl, tt), (refl, (tt, tt, tt)), tt)
  other_tests AsCompactLatin1 string.Utf16 = tt
  other_tests AsCompactLatin1 string.CompactUtf16 = tt
  other_tests AsCompactUtf16 string.Utf8 = ((refl, tt), (refl, (tt, tt, tt)), tt)
  other_tests AsCompactUtf16 string.Utf16 = tt
  other_tests AsCompactUtf16 string.CompactUtf16 = (refl, (tt, tt, tt))

  avoids_string : (s : Source) (d : Target) → Avoids (move_string tr s d)
  avoids_string s d =
      avoids_pair tr.debug tr.from s (λ p n.
      let f = form_in tr.from.encoding n in
      avoids_region tr.from StringOutOfBounds p _ _ refl (λ is.
      avoids_bind (avoids_walk (path f tr.to.encoding) (path_start p (form_of tr.from.encoding n).units) (other_tests f tr.to.encoding)) (λ v. avoids_pair_written tr.to d v.region v.written)))

  -- ---- plain types

  avoids_move_number : (m n : ℕ) (f : ℕ → ℕ) (s : Source) (d : Target) → Avoids (move_number tr m n f s d)
  avoids_move_number m n f s d = avoids_number tr.debug tr.from m s (λ x. avoids_written tr.to n d (f x))

  avoids_char : (s : Source) (d : Target) → Avoids (move_char tr s d)
  avoids_char s d = avoids_number tr.debug tr.from 4 s (λ n. avoids_unless InvalidChar _ refl (λ e. avoids_written tr.to 4 d n))

  avoids_handle : (i : Import) (t u : ℕ) (s : Source) (d : Target) → is_misplaced i ≡ false → Avoids (move_handle tr i t u s d)
  avoids_handle i t u s d e = avoids_number tr.debug tr.from 4 s (λ n. avoids_ask i _ _ e (λ rs. avoids_written tr.to 4 d (first_bits rs)))

  avoids_plain : (t u : InterfaceType) (s : Source) (d : Target) → Avoids (move_plain tr t u s d)
  avoids_plain ty.Char ty.Char s d = avoids_char s d
  avoids_plain ty.String ty.String s d = avoids_string s d
  avoids_plain (ty.Own i) (ty.Own j) s d = avoids_handle import.ResourceTransferOwn i.number j.number s d refl
  avoids_plain (ty.Borrow i) (ty.Borrow j) s d = avoids_handle import.ResourceTransferBorrow i.number j.number s d refl
  avoids_plain (ty.ErrorContext i) (ty.ErrorContext j) s d = avoids_handle import.ErrorContextTransfer i.number j.number s d refl
  avoids_plain t u s d = avoids_move_number (plain_size t) (plain_size u) (canonical_number t) s d

  avoids_to_plain : (t : Shape) (u : InterfaceType) (s : Source) (d : Target) → Avoids (move_to_plain tr t u s d)
  avoids_to_plain (s_plain t) u s d = avoids_plain t u s d
  avoids_to_plain (s_node k ms) u s d = avoids_stop

  -- ---- nodes at aligned places

  abbrev wf : MemoryWidth
  wf = width_of_side tr.from

  abbrev wt : MemoryWidth
  wt = width_of_side tr.to

  passes : {A : Type 0} (t : Reason) (b : Bool) {q : Action A} → b ≡ true → Avoids q → Avoids (unless t b q)
  passes t true e h = h
  passes t false e h = false_true e

  source_fits : {A : Type 0} (debug : Bool) (t : Shape) (s : Source) {q : Action A} → SourceOn (align_in wf t) s → Avoids q → Avoids (aligned_source debug tr.from t s q)
  source_fits true t (Values vs) on h = h
  source_fits true t (AtAddress a) on h = passes _ _ (eq-eqb _ 0 (mod-eq-zero_of_dvd (align_in wf t) on)) h
  source_fits false t s on h = h

  target_fits : {A : Type 0} (debug : Bool) (u : Shape) (d : Target) {q : Action A} → TargetOn (align_in wt u) d → Avoids q → Avoids (aligned_target debug tr.to u d q)
  target_fits true u (Slots ts) on h = h
  target_fits true u (Into a) on h = passes _ _ (eq-eqb _ 0 (mod-eq-zero_of_dvd (align_in wt u) on)) h
  target_fits false u d on h = h

  node_fits : {A : Type 0} (t u : Shape) (s : Source) (d : Target) {q : Action A} → SourceOn (align_in wf t) s → TargetOn (align_in wt u) d → Avoids q → Avoids (aligned_node tr t u s d q)
  node_fits t u s d on to h = source_fits tr.debug t s on (target_fits tr.debug u d to h)

  -- ---- records and sums

  pub part_on : (n : ℕ) (f : Field) (s : Source) → FieldFits wf n f → SourceOn n s → SourceOn (align_in wf f.shape) (part tr.from f s)
  part_on n f (Values vs) fits on = tt
  part_on n f (AtAddress a) fits on = dvd-add _ (dvd_trans _ fits.covered on) fits.place

  pub spot_on : (n : ℕ) (u : Shape) (end : ℕ) (d : Target) → align_in wt u ∣ n → TargetOn n d → TargetOn (align_in wt u) (spot tr.to u end d)
  spot_on n u end (Slots ts) k on = tt
  spot_on n u end (Into a) k on = dvd-add _ (dvd_trans _ k on) (place_divides wt u end)

  pub past_on : (n : ℕ) (u : Shape) (d : Target) → TargetOn n d → TargetOn n (past tr.to u d)
  past_on n u (Slots ts) on = tt
  past_on n u (Into a) on = on

  avoids_field : {k : Field → Action (List CoreValue)} (n : ℕ) (o : Option Field) → FitsField wf n o → ((f : Field) → FieldFits wf n f → Avoids (k f)) → Avoids (with_field o k)
  unfolding FitsField
  avoids_field n None fits h = avoids_stop
  avoids_field n (Some f) fits h = h f fits

  pub payload_on : (ms : Members) (p : Shape) (s : Source) → align_in wf p ∣ record_align wf ms → SourceOn (record_align wf ms) s → SourceOn (align_in wf p) (payload_part tr.from p (payload_place (side_abi tr.from) ms) s)
  payload_on ms p (Values vs) k on = tt
  payload_on ms p (AtAddress a) k on = dvd_trans _ k (dvd-add _ on (offset_divides wf (case_bytes ms) ms))

  pub payload_to : (ns : Members) (u : Shape) (d : Target) → align_in wt u ∣ record_align wt ns → TargetOn (record_align wt ns) d → TargetOn (align_in wt u) (payload_spot tr.to u (payload_place (side_abi tr.to) ns) d)
  payload_to ns u (Slots ts) k on = tt
  payload_to ns u (Into a) k on = dvd_trans _ k (dvd-add _ on (offset_divides wt (case_bytes ns) ns))

  -- the destination's payload, where there is one, has an alignment that divides a number
  CoversPayload : ℕ → Option Shape → Type 0
  CoversPayload n None = Unit {0}
  CoversPayload n (Some u) = align_in wt u ∣ n

  MovesPayload : Option Shape → (Shape → Source → Target → Action (List CoreValue)) → Type 0
  MovesPayload None f = Unit {0}
  MovesPayload (Some u) f = (p : Shape) (s : Source) (d : Target) → IsCounted p → SourceOn (align_in wf p) s → TargetOn (align_in wt u) d → Avoids (f p s d)

  avoids_write_case : (ms ns : Members) (s : Source) (d : Target) (n : ℕ) (p q : Option Shape) (f : Shape → Source → Target → Action (List CoreValue))
      → PayloadFits wf (record_align wf ms) p → CoversPayload (record_align wt ns) q → MovesPayload q f → SourceOn (record_align wf ms) s → TargetOn (record_align wt ns) d → Avoids (write_case tr ms ns s d n p q f)
  unfolding PayloadFits CoversPayload MovesPayload
  avoids_write_case ms ns s d n (Some p) (Some u) f fits covers moves on to =
      avoids_bind (avoids_written tr.to (case_bytes ns) d n) (λ tag. avoids_bind (moves p _ _ fits.1 (payload_on ms p s fits.0 on) (payload_to ns u d covers to)) (λ vs. avoids_give _))
  avoids_write_case ms ns s d n None None f fits covers moves on to = avoids_bind (avoids_written tr.to (case_bytes ns) d n) (λ tag. avoids_give _)
  avoids_write_case ms ns s d n (Some p) None f fits covers moves on to = avoids_stop
  avoids_write_case ms ns s d n None (Some u) f fits covers moves on to = avoids_stop

  bare_case : (ms ns : Members) (s : Source) (d : Target) (n : ℕ) (p : Option Shape) → PayloadFits wf (record_align wf ms) p → SourceOn (record_align wf ms) s → TargetOn (record_align wt ns) d
      → Avoids (write_case tr ms ns s d n p None (λ q s' d'. Unreachable))
  unfolding CoversPayload MovesPayload
  bare_case ms ns s d n p fits on to = avoids_write_case ms ns s d n p None _ fits tt tt on to

  typed_case : (ms ns : Members) (s : Source) (d : Target) (n : ℕ) (p : Option Shape) (u : Shape) {f : Shape → Source → Target → Action (List CoreValue)} → PayloadFits wf (record_align wf ms) p → align_in wt u ∣ record_align wt ns
      → ((q : Shape) (s' : Source) (d' : Target) → IsCounted q → SourceOn (align_in wf q) s' → TargetOn (align_in wt u) d' → Avoids (f q s' d'))
      → SourceOn (record_align wf ms) s → TargetOn (record_align wt ns) d → Avoids (write_case tr ms ns s d n p (Some u) f)
  unfolding CoversPayload MovesPayload
  typed_case ms ns s d n p u {f} fits covers moves on to = avoids_write_case ms ns s d n p (Some u) f fits covers moves on to

  avoids_if : {A : Type 0} (b : Bool) {q r : Action A} → Avoids q → Avoids r → Avoids (if b then q else r)
  avoids_if true h g = h
  avoids_if false h g = g

  -- how members are moved, between places that fit them
  record MovesMembers (ns : Members) (m : MovingMembers) : Type 0 where
    fields : (ms : Members) (s : Source) (d : Target) → AreCounted ms → SourceOn (record_align wf ms) s → TargetOn (record_align wt ns) d → Avoids (m.fields ms s d)
    case : (ms : Members) (c : CaseType) (s : Source) (d : Target) → PayloadFits wf (record_align wf ms) c.payload → SourceOn (record_align wf ms) s → TargetOn (record_align wt ns) d → Avoids (m.case ms c s d)

  avoids_read_case : (ms : Members) (s : Source) (k : CaseType → Action (List CoreValue)) → AreCounted ms → ((c : CaseType) → PayloadFits wf (record_align wf ms) c.payload → Avoids (k c)) → Avoids (read_case tr ms s k)
  unfolding CaseFits
  avoids_read_case ms s k counted h = avoids_number tr.debug tr.from (case_bytes ms) s (λ n. by_case (case_type ms n) (case_fits wf (record_align wf ms) ms n (covers_record wf ms) counted))
    where
      by_case : (o : Option CaseType) → CaseFits wf (record_align wf ms) o → Avoids {A = List CoreValue} (elim o [ None ↦ trap InvalidDiscriminant | Some c ↦ k c ])
      by_case None fits = avoids_ask _ [] [] refl (λ rs. avoids_stop)
      by_case (Some c) fits = h c fits

  avoids_sum : (ms ns : Members) (m : MovingMembers) (s : Source) (d : Target) → AreCounted ms → MovesMembers ns m → SourceOn (align_in wf (s_node k_variant ms)) s → TargetOn (align_in wt (s_node k_variant ns)) d → Avoids (move_sum tr ms m s d)
  avoids_sum ms ns m s d counted moves on to =
      avoids_read_case ms s _ counted (λ c fits. moves.case ms c s d fits (source_less _ _ s (sum_divides wf ms) on) (target_less _ _ d (sum_divides wt ns) to))

  avoids_enum : (ms ns : Members) (s : Source) (d : Target) → Avoids (move_enum tr ms ns s d)
  avoids_enum ms ns s d = avoids_number tr.debug tr.from (case_bytes ms) s (λ n. avoids_unless InvalidDiscriminant _ refl (λ e. avoids_written tr.to (case_bytes ns) d n))

  avoids_list : (ms ns : Members) (m : MovingMembers) (s : Source) (d : Target) → AreCounted ms → MovesMembers ns m → Avoids (move_list tr ms ns (m.fields ms) s d)
  avoids_list ms ns m s d counted moves =
      let e = entry_extent tr.from ms in
      let f = entry_extent tr.to ns in
      avoids_pair tr.debug tr.from s (λ p n.
      avoids_unless ListOutOfBounds (nat_lt (n * e.size) (2 ^ 32)) refl (λ e1.
      avoids_unless ListOutOfBounds (nat_lt (n * f.size) (2 ^ 32)) refl (λ e2.
      avoids_region tr.from ListOutOfBounds p (n * e.size) e.align refl (λ at.
      avoids_realloc tr.concurrency tr.to ListOutOfBounds 0 0 f.align (n * f.size) refl (λ q into.
      avoids_bind
      (avoids_each 0 n (λ i. m.fields ms (AtAddress (p + i * e.size)) (Into (q + i * f.size))) (λ i.
      moves.fields ms (AtAddress (p + i * e.size)) (Into (q + i * f.size)) counted (dvd-add _ at (times_divides _ i _ (size_divides wf ms))) (dvd-add _ into (times_divides _ i _ (size_divides wt ns)))))
      (λ vs. avoids_pair_written tr.to d q n))))))

  pub nth_on : (n flats bytes i : ℕ) (s : Source) → n ∣ bytes → SourceOn n s → SourceOn n (nth_part flats bytes i s)
  nth_on n flats bytes i (Values vs) k on = tt
  nth_on n flats bytes i (AtAddress a) k on = dvd-add _ on (times_divides n i bytes k)

  pub nth_to : (n flats bytes i : ℕ) (d : Target) → n ∣ bytes → TargetOn n d → TargetOn n (nth_spot flats bytes i d)
  nth_to n flats bytes i (Slots ts) k on = tt
  nth_to n flats bytes i (Into a) k on = dvd-add _ on (times_divides n i bytes k)

  avoids_fixed : (i j : ℕ) (ms ns : Members) (m : MovingMembers) (s : Source) (d : Target) → IsCounted (s_node (k_fixed i) ms) → IsCounted (s_node (k_fixed j) ns) → MovesMembers ns m
      → SourceOn (align_in wf (s_node (k_fixed i) ms)) s → TargetOn (align_in wt (s_node (k_fixed j) ns)) d → Avoids (move_fixed tr j ms ns (m.fields ms) s d)
  avoids_fixed i j ms ns m s d ct cu moves on to =
      avoids_each 0 j _ (λ x. moves.fields ms _ _ ct.1
      (nth_on _ (element_flats tr.from ms) _ x s (size_divides wf ms) (source_less _ _ s (fixed_divides wf i ms ct.0.0) on))
      (nth_to _ (element_flats tr.to ns) _ x d (size_divides wt ns) (target_less _ _ d (fixed_divides wt j ns cu.0.0) to)))

  avoids_node : (k : Kind) (ms : Members) (l : Kind) (ns : Members) (m : MovingMembers) (s : Source) (d : Target) → IsCounted (s_node k ms) → IsCounted (s_node l ns) → MovesMembers ns m
      → SourceOn (align_in wf (s_node k ms)) s → TargetOn (align_in wt (s_node l ns)) d → Avoids (move_node tr k ms l ns m s d)
  avoids_node k_record ms k_record ns m s d ct cu moves on to = moves.fields ms s d ct.1 on to
  avoids_node k_tuple ms k_tuple ns m s d ct cu moves on to = moves.fields ms s d ct.1 (source_less _ _ s (same_align wf ms) on) (target_less _ _ d (same_align wt ns) to)
    where
      same_align : (w : MemoryWidth) (ms : Members) → record_align w ms ∣ align_in w (s_node k_tuple ms)
      same_align Memory32 ms = dvd_refl _
      same_align Memory64 ms = dvd_refl _
  avoids_node k_variant ms k_variant ns m s d ct cu moves on to = avoids_sum ms ns m s d ct.1 moves on to
  avoids_node k_option ms k_option ns m s d ct cu moves on to = avoids_sum ms ns m s d ct.1 moves on to
  avoids_node k_result ms k_result ns m s d ct cu moves on to = avoids_sum ms ns m s d ct.1 moves on to
  avoids_node k_enum ms k_enum ns m s d ct cu moves on to = avoids_enum ms ns s d
  avoids_node k_flags ms k_flags ns m s d ct cu moves on to = avoids_move_number (flags_bytes ms) (flags_bytes ns) _ s d
  avoids_node k_list ms k_list ns m s d ct cu moves on to = avoids_list ms ns m s d ct.1 moves
  avoids_node k_map ms k_map ns m s d ct cu moves on to = avoids_list ms ns m s d ct.1 moves
  avoids_node (k_fixed i) ms (k_fixed j) ns m s d ct cu moves on to = avoids_fixed i j ms ns m s d ct cu moves on to
  avoids_node (k_future t i) ms (k_future u j) ns m s d ct cu moves on to = avoids_handle import.FutureTransfer t u s d refl
  avoids_node (k_stream t i) ms (k_stream u j) ns m s d ct cu moves on to = avoids_handle import.StreamTransfer t u s d refl
  avoids_node k ms l ns m s d ct cu moves on to = avoids_stop

  avoids_to_node : (t : Shape) (l : Kind) (ns : Members) (m : MovingMembers) (s : Source) (d : Target) → IsCounted t → IsCounted (s_node l ns) → MovesMembers ns m
      → SourceOn (align_in wf t) s → TargetOn (align_in wt (s_node l ns)) d → Avoids (move_to_node tr t l ns m s d)
  avoids_to_node (s_plain t) l ns m s d ct cu moves on to = avoids_stop
  avoids_to_node (s_node k ms) l ns m s d ct cu moves on to = avoids_visit _ (avoids_node k ms l ns m s d ct cu moves on to)

  -- ---- all types

  mutual
    unfolding move

    pub avoids_move : (t u : Shape) (s : Source) (d : Target) → IsCounted t → IsCounted u → SourceOn (align_in wf t) s → TargetOn (align_in wt u) d → Avoids (move tr t u s d)
    avoids_move t (s_plain u) s d ct cu on to = node_fits t (s_plain u) s d on to (avoids_visit 1 (avoids_to_plain t u s d))
    avoids_move t (s_node l ns) s d ct cu on to =
        node_fits t (s_node l ns) s d on to
        (avoids_to_node t l ns _ s d ct cu
        (record {
          fields = λ ms s' d' counted on' to'. avoids_fields ms ns 0 (record_align wt ns) s' d' counted cu.1 (covers_record wt ns) on' to';
          case = λ ms c s' d' fits on' to'. avoids_case ms ns c ns 0 s' d' fits cu.1 (covers_record wt ns) on' to';
        }) on to)

    pub avoids_fields : (ms ns : Members) (end n : ℕ) (s : Source) (d : Target) → AreCounted ms → AreCounted ns → Covers wt n ns → SourceOn (record_align wf ms) s → TargetOn n d → Avoids (move_fields tr ms ns end s d)
    avoids_fields ms no_members end n s d ct cu covers on to = avoids_give []
    avoids_fields ms (bare x ns) end n s d ct cu covers on to = avoids_fields ms ns end n s d ct cu covers on to
    avoids_fields ms (typed x u ns) end n s d ct cu covers on to =
        avoids_field (record_align wf ms) (field_of x ms) (field_fits x wf (record_align wf ms) ms (covers_record wf ms) ct) (λ f fits.
        avoids_bind (avoids_move f.shape u _ _ fits.counted cu.0 (part_on _ f s fits on) (spot_on n u end d covers.0 to)) (λ vs.
        avoids_bind (avoids_fields ms ns _ n s _ ct cu.1 covers.1 on (past_on n u d to)) (λ us. avoids_give _)))

    avoids_case : (ms all : Members) (c : CaseType) (ns : Members) (n : ℕ) (s : Source) (d : Target) → PayloadFits wf (record_align wf ms) c.payload → AreCounted ns → Covers wt (record_align wt all) ns
        → SourceOn (record_align wf ms) s → TargetOn (record_align wt all) d → Avoids (move_case tr ms all c ns n s d)
    avoids_case ms all c no_members n s d fits cu covers on to = avoids_stop
    avoids_case ms all c (bare x ns) n s d fits cu covers on to =
        avoids_if (bytes_eq x c.name) (bare_case ms all s d n c.payload fits on to) (avoids_case ms all c ns (suc n) s d fits cu covers on to)
    avoids_case ms all c (typed x u ns) n s d fits cu covers on to =
        avoids_if (bytes_eq x c.name) (typed_case ms all s d n c.payload u fits covers.0 (λ p s' d' cp on' to'. avoids_move p u s' d' cp cu.0 on' to') on to)
        (avoids_case ms all c ns (suc n) s d fits cu.1 covers.1 on to)

-- ---- adapters

avoids_from : {A : Type 0} (o : LiftLowerOptions) (limit : ℕ) (ts : List Shape) (vs : List CoreValue) (k : Source → Action A) → ((s : Source) → SourceOn (record_align (width_of_side o) (tuple_members ts)) s → Avoids (k s)) → Avoids (from_values o limit ts vs k)
avoids_from o limit ts vs k h = by_flats (flat_values (is_wide o.memory) limit ts)
  where
    by_flats : (x : Option (List ValType)) → Avoids (elim x [ Some flats ↦ k (Values vs) | None ↦ check_tuple o ts (first_bits vs) (k (AtAddress (first_bits vs))) ])
    by_flats (Some flats) = h (Values vs) tt
    by_flats None = avoids_region o MemoryOutOfBounds (first_bits vs) _ _ refl (λ at. h (AtAddress (first_bits vs)) at)

module _ (u : AdapterTunables) (a : LinkedAdapter) (counted : HasCountedTypes a) where
  avoids_params : (args : List CoreValue) → Avoids (move_params u a args)
  avoids_params args =
      avoids_from (options_of a.lower) (lower_limit a.lower.async_side) a.lower.params args _ (λ s on. by_flats (flat_values (is_wide a.lift.memory) 16 a.lift.params) s on)
    where
      moves : (s : Source) (d : Target) → SourceOn (record_align (width_of_side (options_of a.lower)) (tuple_members a.lower.params)) s → TargetOn (record_align (width_of_side (options_of a.lift)) (tuple_members a.lift.params)) d
          → Avoids (move_fields (params_transfer u a) (tuple_members a.lower.params) (tuple_members a.lift.params) 0 s d)
      moves s d on to = avoids_fields (params_transfer u a) (tuple_members a.lower.params) (tuple_members a.lift.params) 0 _ s d counted.lower_params counted.lift_params (covers_record _ (tuple_members a.lift.params)) on to

      by_flats : (x : Option (List ValType)) (s : Source) → SourceOn (record_align (width_of_side (options_of a.lower)) (tuple_members a.lower.params)) s → Avoids (elim x [
        | Some flats ↦ move_fields (params_transfer u a) (tuple_members a.lower.params) (tuple_members a.lift.params) 0 s (Slots flats)
        | None ↦
            let e = entry_extent (options_of a.lift) (tuple_members a.lift.params) in
            reallocate u.concurrency (options_of a.lift) MemoryOutOfBounds 0 0 e.align e.size (λ q. move_fields (params_transfer u a) (tuple_members a.lower.params) (tuple_members a.lift.params) 0 s (Into q) >> Give (address_value (options_of a.lift) q ∷ []))
      ])
      by_flats (Some flats) s on = moves s (Slots flats) on tt
      by_flats None s on =
          avoids_realloc u.concurrency (options_of a.lift) MemoryOutOfBounds 0 0 _ _ {k = λ q. move_fields (params_transfer u a) (tuple_members a.lower.params) (tuple_members a.lift.params) 0 s (Into q) >> Give (address_value (options_of a.lift) q ∷ [])} refl (λ q to. avoids_bind (moves s (Into q) on to) (λ vs. avoids_give _))

  avoids_results : (given : List CoreValue) (pointer : ℕ) → Avoids (move_results u a given pointer)
  avoids_results given pointer =
      avoids_from (options_of a.lift) (lift_results_limit a.lift.async_side) a.lift.results given _ (λ s on. by_flats (flat_results a.lower) s on)
    where
      moves : (s : Source) (d : Target) → SourceOn (record_align (width_of_side (options_of a.lift)) (tuple_members a.lift.results)) s → TargetOn (record_align (width_of_side (options_of a.lower)) (tuple_members a.lower.results)) d
          → Avoids (move_fields (results_transfer u a) (tuple_members a.lift.results) (tuple_members a.lower.results) 0 s d)
      moves s d on to = avoids_fields (results_transfer u a) (tuple_members a.lift.results) (tuple_members a.lower.results) 0 _ s d counted.lift_results counted.lower_results (covers_record _ (tuple_members a.lower.results)) on to

      by_flats : (x : Option (List ValType)) (s : Source) → SourceOn (record_align (width_of_side (options_of a.lift)) (tuple_members a.lift.results)) s → Avoids (elim x [
        | Some flats ↦ move_fields (results_transfer u a) (tuple_members a.lift.results) (tuple_members a.lower.results) 0 s (Slots flats)
        | None ↦ check_tuple (options_of a.lower) a.lower.results pointer (move_fields (results_transfer u a) (tuple_members a.lift.results) (tuple_members a.lower.results) 0 s (Into pointer))
      ])
      by_flats (Some flats) s on = moves s (Slots flats) on tt
      by_flats None s on = avoids_region (options_of a.lower) MemoryOutOfBounds pointer _ _ refl (λ to. moves s (Into pointer) on to)

  avoids_cleared : {A : Type 0} (i saved : ℕ) (q : Action A) → Avoids q → Avoids (cleared i saved q)
  avoids_cleared i saved q h = avoids_set i 0 (avoids_bind h (λ x. avoids_set i saved (avoids_give x)))

  avoids_when : (b : Bool) (q : Action (List CoreValue)) → Avoids q → Avoids (when_due b q)
  avoids_when true q h = h
  avoids_when false q h = avoids_give []

  avoids_call : (i : Import) (args : List CoreValue) (ts : List ValType) → is_misplaced i ≡ false → Avoids (make_call i args ts)
  avoids_call i args ts e = avoids_ask i args ts e (λ rs. avoids_give rs)

  avoids_read_slots : (b : Bool) → Avoids (read_slots b)
  avoids_read_slots false = avoids_give _
  avoids_read_slots true = avoids_ask _ [] _ refl (λ x. avoids_ask _ [] _ refl (λ y. avoids_give _))

  avoids_write_slots : (b : Bool) (s : Slotted) → Avoids (write_slots b s)
  avoids_write_slots false s = avoids_give []
  avoids_write_slots true s = avoids_ask _ s.first [] refl (λ x. avoids_ask _ s.second [] refl (λ y. avoids_give []))

  avoids_finish : (b : Bool) (f : Option CoreDef) (given : List CoreValue) (s : Slotted) → Avoids (finish_call b f given s)
  avoids_finish b None given s = avoids_give []
  avoids_finish b (Some f) given s =
      avoids_bind (avoids_read_slots b) (λ own. avoids_bind (avoids_write_slots b s) (λ x. avoids_bind (avoids_call (import.CoreDef f) given [] refl) (λ y. avoids_write_slots b own)))

  avoids_sync : (args : List CoreValue) → Avoids (sync u a args)
  avoids_sync args =
      avoids_get a.lower.instance (λ saved.
      avoids_bind (avoids_unless CannotLeaveComponent (not (nat_eq saved 0)) refl (λ e. avoids_give [])) (λ x.
      avoids_bind (avoids_when (enters u a) _ (avoids_call import.EnterSyncCall _ [] refl)) (λ y.
      avoids_get a.lift.instance (λ lift_saved.
      avoids_bind (avoids_cleared a.lift.instance lift_saved (move_params u a args) (avoids_params args)) (λ core.
      avoids_bind (avoids_call (import.CoreDef a.callee) core (lift_signature_of a).results refl) (λ given.
      avoids_bind (avoids_read_slots (u.concurrency && is_some a.lift.post_return)) (λ context.
      avoids_bind (avoids_when (enters u a) _ (avoids_call import.ExitSyncCall [] [] refl)) (λ z.
      avoids_bind (avoids_cleared a.lower.instance saved (move_results u a given (last_bits args)) (avoids_results given (last_bits args))) (λ results.
      avoids_bind (avoids_finish u.concurrency a.lift.post_return given context) (λ r. avoids_give results))))))))))

  avoids_start : (args : List CoreValue) → Avoids (async_start u a args)
  avoids_start args = avoids_get a.lift.instance (λ saved. avoids_cleared a.lift.instance saved (move_params u a args) (avoids_params args))

  avoids_return : (args : List CoreValue) → Avoids (async_return u a args)
  avoids_return args = avoids_get a.lower.instance (λ saved. avoids_cleared a.lower.instance saved (move_results u a args (last_bits args)) (avoids_results args (last_bits args)))

-- behind the barrier too
guarded_misses : (b : Bool) (p : ImportPlaces) (e : Ended (List CoreValue)) → Misses e → Misses (guarded_if b p e)
guarded_misses false p e h = h
guarded_misses true p (Gave n cs a w) h = h
guarded_misses true p (Halted n cs Throw w) h = misses_later n cs (run p (trap UncaughtException) w) h.none (misses p w (avoids_ask (import.Trap UncaughtException) [] [] refl (λ rs. avoids_stop)))
guarded_misses true p (Halted n cs Trap w) h = h
guarded_misses true p (Halted n cs Lack w) h = h
guarded_misses true p (Strayed n cs w) h = h

pub sync_places_aligned : EachSync (λ p a w e. HasCountedTypes a → NoneMisplaced e)
sync_places_aligned p u a args w counted = (guarded_misses u.exceptions p _ (misses p w (avoids_sync u a counted args))).none

pub start_places_aligned : EachStart (λ p a w e. HasCountedTypes a → NoneMisplaced e)
start_places_aligned p u a args w counted = (misses p w (avoids_start u a counted args)).none

pub return_places_aligned : EachReturn (λ p a w e. HasCountedTypes a → NoneMisplaced e)
return_places_aligned p u a args w counted = (misses p w (avoids_return u a counted args)).none
