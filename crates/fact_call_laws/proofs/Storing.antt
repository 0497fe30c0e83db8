-- Every value of a valid type can be stored at a place, where its room fits behind the cursor.
use Rattle.std.proofs.Common.{◌≡◌, ℕ, zero, suc, ◌+◌, ◌-◌, ◌*◌, ◌^◌, ◌≤◌, ◌<◌, Bool, true, false, List, [], ◌∷◌, length, map, Option, Some, None, refl, sym, ap, ◌∙◌, subst, arith, lit<}
use Rattle.std.specs.Prelude.{◌==◌, nat_le, option_map, replicate, sum_by, if◌then◌else◌}
use Rattle.std.specs.Char.{IsScalar}
use Rattle.std.specs.Int.{div_ceil}
use Rattle.std.specs.List.{AllByRecursion}
use Rattle.std.specs.Str.{bytes_eq}
use Rattle.std.proofs.Math.Nat.{mul_comm, pow-le-pow_right}
use Rattle.std.proofs.lemmas.Bool.{eqb-true, leb-false, leb-true}
use Rattle.fact_types.specs.declared.interface.InterfaceType.{InterfaceType}
use Rattle.fact_types.specs.declared.interface.InterfaceType.TheVariants as ty
use Rattle.fact_types.specs.declared.outside.FixedEncoding.{FixedEncoding}
use Rattle.fact_types.specs.declared.outside.FixedEncoding.TheVariants.{Utf8, Utf16, Latin1}
use Rattle.fact_types.specs.declared.outside.StringEncoding.{StringEncoding}
use Rattle.fact_types.specs.declared.outside.StringEncoding.TheVariants as encoding
use Rattle.fact_types.specs.declared.sizes.FlagsSize.TheVariants.{Size0, Size1, Size2, Size4Plus}
use Rattle.fact_types.specs.declared.extents.MemoryWidth.{MemoryWidth}
use Rattle.fact_types.specs.declared.extents.MemoryWidth.TheVariants.{Memory32, Memory64}
use Rattle.fact_types.specs.Agrees.{chosen, names_of}
use Rattle.fact_types.specs.Layout.{aligned, extent, extents, flags_extent, flags_size, greatest_size, payloads, record_layout, variant_layout}
use Rattle.fact_types.specs.Shapes.{Kind, k_record, k_variant, k_list, k_tuple, k_map, k_flags, k_enum, k_option, k_result, k_fixed, k_future, k_stream, Shape, s_plain, s_node, Members, no_members, bare, typed, ends_of, layout_of, layouts_of, next_of, place_of, plain_layout}
use Rattle.fact_types.specs.Options.{◌>>=◌}
use Rattle.fact_machine.specs.World.{bytes_of, put_at, with_number}
use Rattle.fact_types.specs.Valid.{IsValid}
use Rattle.fact_types.proofs.AlignLaws.{aligned_bounds}
use Rattle.fact_types.proofs.FieldLaws.{greatest_align_pos}
use Rattle.fact_types.proofs.PlaceLaws.{align_pos, ends_grow, ends_within}
use Rattle.fact_types.proofs.ValidLaws.{valid_takes_bytes}
use Rattle.fact_types.specs.Signatures.{pointer_bytes}
use Rattle.fact_values.specs.declared.side.SideAbi.{SideAbi}
use Rattle.fact_values.specs.declared.value.HandleKind.TheVariants.{Future, Stream}
use Rattle.fact_values.specs.declared.value.Value.{Value, out-Value, roll-Value, roll-out-Value}
use Rattle.fact_values.specs.declared.value.Value.TheOpen.{Value-F}
use Rattle.fact_values.specs.declared.value.Value.TheOpen as o
use Rattle.fact_values.specs.declared.value.Value.TheVariants as value
use Rattle.fact_values.specs.Formed.{AreBare}
use Rattle.fact_values.specs.IsA.{AreMembers, HasCase, IsA, IsCase, IsElement, IsFixedList, IsFlags, IsListOf, IsMap, IsOnePayload, IsPlainValue, IsRecord, IsTuple}
use Rattle.fact_values.specs.Load.{load, load_case, load_members}
use Rattle.fact_values.specs.Numbers.{Plain, text, flags_of_number, number_in, plain_of}
use Rattle.fact_values.specs.Places.{Pair, case_bytes, count_of_members, element_extent, extent_on, flags_bytes, payload_place, width_of}
use Rattle.fact_values.specs.Texts.{spelled_text, unit_bytes, units_of_text}
use Rattle.fact_values.proofs.IsALaws.{bytes_are}
use Rattle.fact_action_laws.specs.MoveTerms.{AreWellFormed, IsWellFormed, IsWellFormedBy}
use Rattle.fact_action_laws.proofs.Elements.{takes_some}
use Rattle.fact_action_laws.proofs.Theorem.{AreValid, members_valid}
use Rattle.fact_lowering.specs.Lowered.{IsPut, ReadsAt, ReadsEach, ReadsEntries, ReadsMembers, own_measure, own_room, own_rooms}
use Rattle.fact_lowering.specs.Lowerings.{ReadsCase, own_case}
use Rattle.fact_lowering.specs.Room.{measured, measured_payload, or_own, shape_named}
use Rattle.fact_lowering.specs.Stores.{IsShort}
use Rattle.fact_lowering.specs.Storings.{tagged_count, text_align}
use Rattle.fact_lowering.specs.TextForms.{IsByFormAt, IsCaseByFormAt, stored_in}
use Rattle.fact_lowering.proofs.OwnRooms.{IsCaseKind, case_room, fixed_room, list_room, map_room, own_any, own_sum, record_room, rooms_sum, tuple_room}
use Rattle.fact_lowering.proofs.SmallAlignments.{all_small, small}
use Rattle.fact_lowering.proofs.SpellingLaws.{stored_spells, text_few, text_units}
use Rattle.fact_lowering.proofs.StoreCases.{case_fits, payload_within}
use Rattle.fact_lowering.proofs.StoreKinds.{behind_put, fixed_of, list_of, map_of, record_of, tuple_of}
use Rattle.fact_lowering.proofs.StoreLeaves.{taken, text_align_some}
use Rattle.fact_lowering.proofs.StoreNodes.{case_of, flags_of, flags_size_is, future_of, plain_is, stream_of}
use Rattle.fact_lowering.proofs.StoreSteps.{IsBehind, behind_size, pair_stored}
use Rattle.fact_lowering.proofs.StoreWalks.{element_forms, element_reads, entry_forms, entry_read, entry_reads, entry_room}
use Rattle.fact_lowering.proofs.Stored.{IsNoText, pair_written, reads_case, reads_elements, reads_entries, reads_fixed, reads_flags, reads_future, reads_number, reads_record, reads_stream, reads_tuple, there_is}
use Rattle.fact_lowering.proofs.StoredTexts.{text_put, text_room}
use Rattle.fact_host.specs.Rules.{AreWrittenBytes}
use Rattle.fact_call_laws.proofs.PlainNumbers.{flags_back, flags_number, flags_small, handle_number, plain_number, plain_size}
use Rattle.fact_call_laws.proofs.Puts.{HasBytes, Puts, bytes_behind, less_bytes, number_bytes, put_bytes, puts_all, puts_both, puts_nothing, puts_number, puts_wider}
use Rattle.fact_call_laws.proofs.SpelledBytes.{spelled_bytes}

-- ---- small laws

is_no_text : (q : Plain) → (q ≡ text → ⊥) → IsNoText q
is_no_text text f = f refl
is_no_text _ f = tt

-- whether a plain type is the texts'
pub data IsText (y : InterfaceType) : Type 0 where
  Texts : y ≡ ty.String → IsText y
  NoTexts : (plain_of y ≡ text → ⊥) → IsText y

pub which_text : (y : InterfaceType) → IsText y
which_text ty.String = Texts refl
which_text ty.Bool = NoTexts (λ e. cc)
which_text ty.S8 = NoTexts (λ e. cc)
which_text ty.U8 = NoTexts (λ e. cc)
which_text ty.S16 = NoTexts (λ e. cc)
which_text ty.U16 = NoTexts (λ e. cc)
which_text ty.S32 = NoTexts (λ e. cc)
which_text ty.U32 = NoTexts (λ e. cc)
which_text ty.S64 = NoTexts (λ e. cc)
which_text ty.U64 = NoTexts (λ e. cc)
which_text ty.Float32 = NoTexts (λ e. cc)
which_text ty.Float64 = NoTexts (λ e. cc)
which_text ty.Char = NoTexts (λ e. cc)
which_text (ty.Own i) = NoTexts (λ e. cc)
which_text (ty.Borrow i) = NoTexts (λ e. cc)
which_text (ty.ErrorContext i) = NoTexts (λ e. cc)
which_text _ = NoTexts (λ e. cc)

small_text : (e : StringEncoding) → text_align e ≤ 2
small_text encoding.Utf8 = omega arith
small_text encoding.Utf16 = omega arith
small_text encoding.CompactUtf16 = omega arith

pub none_named : (names : List (List ℕ)) → names ≡ [] → names ≡ [] ∷ [] → ⊥
none_named names none e = let z : 0 ≡ 1 = ap (λ (l : List (List ℕ)). length l) (sym none ∙ e) in omega (arith, z)

le_times : (n k : ℕ) → 1 ≤ k → n ≤ n * k
le_times zero k h = omega arith
le_times (suc n) k h = omega (arith, le_times n k h, h)

some_bytes : (w : MemoryWidth) (s : Shape) → IsValid s → 1 ≤ (extent w (layout_of s)).size
some_bytes Memory32 s v = (valid_takes_bytes s v).memory32
some_bytes Memory64 s v = (valid_takes_bytes s v).memory64

pub one_word : (n : ℕ) → 16 < n → n ≤ 32 → div_ceil n 32 ≡ 1
one_word n some few = omega (arith, some, few)

few_units : (e : FixedEncoding) (n : ℕ) → n ≤ n * unit_bytes e
few_units Utf8 n = omega arith
few_units Utf16 n = omega arith
few_units Latin1 n = omega arith

-- flags of so many names fit the bytes that they take
wide_enough : (n : ℕ) → 1 ≤ n → n ≤ 32 → 2 ^ n ≤ 256 ^ (flags_extent (flags_size n)).size
wide_enough n some few = by_size (n == 0) (nat_le n 8) (nat_le n 16) refl refl refl
  where
    by_size : (a b c : Bool) → (n == 0) ≡ a → nat_le n 8 ≡ b → nat_le n 16 ≡ c → 2 ^ n ≤ 256 ^ (flags_extent (if a then Size0 else (if b then Size1 else (if c then Size2 else Size4Plus (div_ceil n 32))))).size
    by_size true b c e f g = absurd (let z : n ≡ 0 = eqb-true n 0 e in omega (arith, z, some))
    by_size false true c e f g = let le : 2 ^ n ≤ 2 ^ 8 = pow-le-pow_right (lit< tt) (leb-true n 8 f) in le
    by_size false false true e f g = let le : 2 ^ n ≤ 2 ^ 16 = pow-le-pow_right (lit< tt) (leb-true n 16 g) in le
    by_size false false false e f g =
        let one : div_ceil n 32 ≡ 1 = one_word n (omega (arith, leb-false n 16 g)) few in
        let le : 2 ^ n ≤ 2 ^ 32 = pow-le-pow_right (lit< tt) few in
        subst (λ k. 2 ^ n ≤ 256 ^ (k * 4)) (sym one) le

-- flags are as many as their names
pub named : (fs : List (List ℕ × Bool)) (ms : Members) → map (λ f. f.0) fs ≡ names_of ms → length fs ≡ count_of_members ms
named fs ms e = sym (mapped fs) ∙ ap (λ (l : List (List ℕ)). length l) e ∙ count_names ms
  where
    mapped : (fs : List (List ℕ × Bool)) → length (map (λ f. f.0) fs) ≡ length fs
    mapped [] = refl
    mapped (f ∷ fs) = ap suc (mapped fs)

    count_names : (ms : Members) → length (names_of ms) ≡ count_of_members ms
    count_names no_members = refl
    count_names (bare n ms) = ap suc (count_names ms)
    count_names (typed n s ms) = ap suc (count_names ms)

module _ (side : SideAbi) where
  -- ---- what can be stored

  -- values of a type
  pub record Stores (s : Shape) : Type 0 where
    pub by : (v : Value) → IsA s v → (place low : ℕ) (m : List ℕ) → place + (extent_on side s).size ≤ low → HasBytes low (own_room side s v) m → Puts (ReadsAt side s v place) place (extent_on side s).size low (own_room side s v) m

  -- and of members, behind so many bytes
  pub record StoresMembers (ms : Members) : Type 0 where
    pub by : (vs : List Value) → AreMembers ms vs → (place behind low : ℕ) (m : List ℕ) → place + ends_of (width_of side) ms behind ≤ low → HasBytes low (own_sum side ms vs) m
        → Puts (ReadsMembers side ms vs place behind) (place + behind) (ends_of (width_of side) ms behind - behind) low (own_sum side ms vs) m

  -- A case of a name: its number, and what can be stored of its payload.
  pub data HasStoredCase (ms : Members) (x : List ℕ) (vs : List Value) : Type 0 where
    BareOne : (i : ℕ) → i < count_of_members ms → vs ≡ [] → ((b : List ℕ) (a : ℕ) → load_case side b ms i a ≡ Some (value.Case x [])) → ((b : List ℕ) (a : ℕ) → IsCaseByFormAt side b ms i a) → HasStoredCase ms x vs
    PaidOne : (i : ℕ) → i < count_of_members ms → (s : Shape) (v : Value) → vs ≡ v ∷ [] → IsA s v → Stores s
        → ((b : List ℕ) (a : ℕ) → load_case side b ms i a ≡ option_map (λ w. value.Case x (w ∷ [])) (load side b s a)) → ((b : List ℕ) (a : ℕ) → IsByFormAt side b s a → IsCaseByFormAt side b ms i a)
        → (extent_on side s).size ≤ greatest_size (extents (width_of side) (payloads (layouts_of ms))) → ((p : Option Shape) → measured_payload (own_measure side) ms x (v ∷ []) p ≡ own_room side s v) → HasStoredCase ms x vs

  pub record StoresCases (ms : Members) : Type 0 where
    pub by : (x : List ℕ) (vs : List Value) → HasCase ms x vs → HasStoredCase ms x vs

  -- the first member's type
  abbrev pub StoresFirst : Members → Type 0
  StoresFirst no_members = Unit {0}
  StoresFirst (bare n ms) = Unit {0}
  StoresFirst (typed n s ms) = Stores s

  -- another value that is the same
  same_value : (s : Shape) (v u : Value) (place low : ℕ) (m : List ℕ) → v ≡ u → (HasBytes low (own_room side s u) m → Puts (ReadsAt side s u place) place (extent_on side s).size low (own_room side s u) m)
      → HasBytes low (own_room side s v) m → Puts (ReadsAt side s v place) place (extent_on side s).size low (own_room side s v) m
  same_value s v u place low m e f h = subst (λ w. Puts (ReadsAt side s w place) place (extent_on side s).size low (own_room side s w) m) (sym e) (f (subst (λ w. HasBytes low (own_room side s w) m) e h))

  -- ---- behind a pointer and a length

  pair_puts : (s : Shape) (v : Value) (p : Pair) (a low high : ℕ) (m after : List ℕ) → IsBehind s → a + (extent_on side s).size ≤ low → IsShort m → AreWrittenBytes after → IsPut side s v p low high m after → Puts (ReadsAt side s v a) a (extent_on side s).size low (own_room side s v) m
  pair_puts s v p a low high m after behind below short are put =
      let k : ℕ = pointer_bytes (width_of side) in
      let size = behind_size side s behind in
      let fits : a + (k + k) ≤ high = omega (arith, size, below, put.written.rises.up) in
      let w = pair_written side after a p.pointer p.count high fits put.written.rises.inside put.pointer_small put.count_small in
      record {
        high = high;
        after = with_number k (with_number k after a p.pointer) (a + k) p.count;
        written = pair_stored side s v p a low high m after (with_number k (with_number k after a p.pointer) (a + k) p.count) behind below put w;
        are = put_bytes (with_number k after a p.pointer) (a + k) (bytes_of k p.count) (put_bytes after a (bytes_of k p.pointer) are (number_bytes k p.pointer)) (number_bytes k p.count);
      }

  -- ---- types without members

  number_stores : (y : InterfaceType) → (plain_of y ≡ text → ⊥) → Stores (s_plain y)
  number_stores y never = record {
    by = λ v is place low m below h.
        let n = plain_number y v never (plain_is y v is) in
        let size : (extent_on side (s_plain y)).size ≡ (plain_layout y).size32 = plain_size (width_of side) y never in
        puts_wider place (extent_on side (s_plain y)).size (own_room side (s_plain y) v) (omega arith) (omega arith) (omega arith) (λ b e r. r)
        (puts_number (ReadsAt side (s_plain y) v place) (extent_on side (s_plain y)).size place low n.number m below (less_bytes low 0 (own_room side (s_plain y) v) m (omega arith) h) (subst (λ k. n.number < 256 ^ k) (sym size) n.small)
        (λ b at. reads_number side b y place n.number v (is_no_text (plain_of y) never) at n.stands));
  }

  text_stores : Stores (s_plain ty.String)
  text_stores = record { by = λ v is place low m below h. of_text v place low m below h (out-Value v) (sym (roll-out-Value v)) (plain_is ty.String v is) }
    where
      spelled : (cs : List ℕ) → AllByRecursion IsScalar cs → (place low : ℕ) (m : List ℕ) → place + (extent_on side (s_plain ty.String)).size ≤ low → HasBytes low (own_room side (s_plain ty.String) (value.Str cs)) m
          → Puts (ReadsAt side (s_plain ty.String) (value.Str cs) place) place (extent_on side (s_plain ty.String)).size low (own_room side (s_plain ty.String) (value.Str cs)) m
      spelled cs scalar place low m below h =
          let e : FixedEncoding = stored_in side.encoding cs in
          let bs : List ℕ = spelled_text e cs in
          let pointer : ℕ = aligned low (text_align side.encoding) in
          let at = taken low (text_align side.encoding) pointer refl (text_align_some side.encoding) in
          let room : own_room side (s_plain ty.String) (value.Str cs) ≡ 8 + 16 * length cs = text_room side cs in
          let few : length bs ≤ 4 * length cs = text_few e cs in
          let near : text_align side.encoding ≤ 2 = small_text side.encoding in
          let fits : pointer + length bs ≤ length m = omega (arith, at.1, near, few, room, h.fits) in
          let units : units_of_text e cs * unit_bytes e ≡ length bs = sym (text_units e cs) in
          let put =
          text_put side cs low m pointer (pointer + length bs) (units_of_text e cs) (put_at m pointer bs) scalar (record { inside = omega (arith, h.fits); short = h.short }) at.0 at.1 at.2 fits refl refl units (omega (arith, units, few_units e (units_of_text e cs))) in
          pair_puts (s_plain ty.String) (value.Str cs) (record { pointer = pointer; count = tagged_count side.encoding e (units_of_text e cs) }) place low (pointer + length bs) m (put_at m pointer bs) refl below h.short
          (put_bytes m pointer bs h.are (spelled_bytes e cs (stored_spells side.encoding cs scalar))) put

      of_text : (v : Value) (place low : ℕ) (m : List ℕ) → place + (extent_on side (s_plain ty.String)).size ≤ low → HasBytes low (own_room side (s_plain ty.String) v) m → (w : Value-F Value) → v ≡ roll-Value w → IsPlainValue text w
          → Puts (ReadsAt side (s_plain ty.String) v place) place (extent_on side (s_plain ty.String)).size low (own_room side (s_plain ty.String) v) m
      of_text v place low m below h (o.Str cs) e scalar = same_value (s_plain ty.String) v (value.Str cs) place low m (e ∙ value.rolls-Str cs) (spelled cs scalar place low m below) h
      of_text v place low m below h w e is = absurd is

  plain_stores : (y : InterfaceType) → Stores (s_plain y)
  plain_stores y = by (which_text y)
    where
      by : IsText y → Stores (s_plain y)
      by (Texts e) = subst (λ z. Stores (s_plain z)) (sym e) text_stores
      by (NoTexts never) = number_stores y never

  -- ---- records and tuples

  -- all members of a record or a tuple
  pub all_members : (ms : Members) → StoresMembers ms → (vs : List Value) → AreMembers ms vs → (place low size : ℕ) (m : List ℕ) → ends_of (width_of side) ms 0 ≤ size → place + size ≤ low → HasBytes low (own_rooms side ms vs) m
      → Puts (ReadsMembers side ms vs place 0) place size low (own_rooms side ms vs) m
  all_members ms S vs are place low size m ends below h =
      let sum = rooms_sum side ms vs in
      puts_wider place size (own_rooms side ms vs) (omega arith) (omega (arith, ends)) (omega (arith, sum)) (λ b e r. r) (S.by vs are place 0 low m (omega (arith, ends, below)) (less_bytes low (own_sum side ms vs) (own_rooms side ms vs) m (omega (arith, sum)) h))

  record_stores : (ms : Members) → StoresMembers ms → Stores (s_node k_record ms)
  record_stores ms S = record { by = λ v is place low m below h. by v place low m below h (out-Value v) (sym (roll-out-Value v)) (record_of ms v is) }
    where
      ends : ends_of (width_of side) ms 0 ≤ (extent_on side (s_node k_record ms)).size
      ends = ends_within (width_of side) ms

      by : (v : Value) (place low : ℕ) (m : List ℕ) → place + (extent_on side (s_node k_record ms)).size ≤ low → HasBytes low (own_room side (s_node k_record ms) v) m → (w : Value-F Value) → v ≡ roll-Value w → IsRecord ms (λ vs. AreMembers ms vs) w
          → Puts (ReadsAt side (s_node k_record ms) v place) place (extent_on side (s_node k_record ms)).size low (own_room side (s_node k_record ms) v) m
      by v place low m below h (o.Record fs) e is =
          same_value (s_node k_record ms) v (value.Record fs) place low m (e ∙ value.rolls-Record fs)
          (λ g.
          let room = record_room side ms fs in
          puts_wider place (extent_on side (s_node k_record ms)).size (own_room side (s_node k_record ms) (value.Record fs)) (omega arith) (omega arith) (omega (arith, room)) (λ b e r. reads_record side b ms place fs is.0 r)
          (all_members ms S (map (λ f. f.1) fs) is.1 place low (extent_on side (s_node k_record ms)).size m ends below (less_bytes low (own_rooms side ms (map (λ f. f.1) fs)) (own_room side (s_node k_record ms) (value.Record fs)) m (omega (arith, room)) g)))
          h
      by v place low m below h w e is = absurd is

  tuple_stores : (ms : Members) → StoresMembers ms → Stores (s_node k_tuple ms)
  tuple_stores ms S = record { by = λ v is place low m below h. by v place low m below h (out-Value v) (sym (roll-out-Value v)) (tuple_of ms v is) }
    where
      ends : ends_of (width_of side) ms 0 ≤ (extent_on side (s_node k_tuple ms)).size
      ends = ends_within (width_of side) ms

      by : (v : Value) (place low : ℕ) (m : List ℕ) → place + (extent_on side (s_node k_tuple ms)).size ≤ low → HasBytes low (own_room side (s_node k_tuple ms) v) m → (w : Value-F Value) → v ≡ roll-Value w → IsTuple (λ vs. AreMembers ms vs) w
          → Puts (ReadsAt side (s_node k_tuple ms) v place) place (extent_on side (s_node k_tuple ms)).size low (own_room side (s_node k_tuple ms) v) m
      by v place low m below h (o.Tuple vs) e is =
          same_value (s_node k_tuple ms) v (value.Tuple vs) place low m (e ∙ value.rolls-Tuple vs)
          (λ g.
          let room = tuple_room side ms vs in
          puts_wider place (extent_on side (s_node k_tuple ms)).size (own_room side (s_node k_tuple ms) (value.Tuple vs)) (omega arith) (omega arith) (omega (arith, room)) (λ b e r. reads_tuple side b ms place vs r)
          (all_members ms S vs is place low (extent_on side (s_node k_tuple ms)).size m ends below (less_bytes low (own_rooms side ms vs) (own_room side (s_node k_tuple ms) (value.Tuple vs)) m (omega (arith, room)) g)))
          h
      by v place low m below h w e is = absurd is

  -- ---- lists of a fixed length

  fixed_stores : (n : ℕ) (ms : Members) → IsWellFormedBy (k_fixed n) ms → StoresFirst ms → Stores (s_node (k_fixed n) ms)
  unfolding IsA
  fixed_stores n no_members formed S = absurd (none_named [] refl formed.0)
  fixed_stores n (bare x ms) formed S = absurd formed.1
  fixed_stores n (typed x s ms) formed S = record { by = λ v is place low m below h. by v place low m below h (out-Value v) (sym (roll-out-Value v)) (fixed_of n (typed x s ms) v is) }
    where
      node : Shape
      node = s_node (k_fixed n) (typed x s ms)

      size : (w : MemoryWidth) → (extent w (layout_of node)).size ≡ (extent w (layout_of s)).size * n
      size Memory32 = refl
      size Memory64 = refl

      elements : (vs : List Value) → length vs ≡ n → AllByRecursion (λ v. IsA s v) vs → (place low : ℕ) (m : List ℕ) → place + (extent_on side node).size ≤ low → HasBytes low (own_room side node (value.List vs)) m
          → Puts (ReadsAt side node (value.List vs) place) place (extent_on side node).size low (own_room side node (value.List vs)) m
      elements vs count are place low m below h =
          let stride : ℕ = (extent_on side s).size in
          let room = fixed_room side n x s ms vs in
          let all : length vs * stride ≡ (extent_on side node).size = ap (λ k. k * stride) count ∙ mul_comm n stride ∙ sym (size (width_of side)) in
          puts_wider place (extent_on side node).size (own_room side node (value.List vs)) (omega arith) (omega (arith, all)) (omega (arith, room)) (λ b e r. reads_fixed side b n x s ms place vs count r)
          (puts_all (element_reads side s) (element_forms side s) (own_room side s) stride (λ v. IsA s v) (λ v is at low m below h. S.by v is at low m below h) vs are place low m (omega (arith, all, below))
          (less_bytes low (sum_by (own_room side s) vs) (own_room side node (value.List vs)) m (omega (arith, room)) h))

      by : (v : Value) (place low : ℕ) (m : List ℕ) → place + (extent_on side node).size ≤ low → HasBytes low (own_room side node v) m → (w : Value-F Value) → v ≡ roll-Value w → IsFixedList n (λ w. IsElement (typed x s ms) w) w → Puts (ReadsAt side node v place) place (extent_on side node).size low (own_room side node v) m
      by v place low m below h (o.List vs) e is = same_value node v (value.List vs) place low m (e ∙ value.rolls-List vs) (elements vs is.0 is.1 place low m below) h
      by v place low m below h w e is = absurd is

  -- ---- lists and maps behind pointers

  list_stores : (ms : Members) → IsWellFormedBy k_list ms → AreValid ms → StoresFirst ms → Stores (s_node k_list ms)
  unfolding IsA
  list_stores no_members formed valid S = absurd (none_named [] refl formed.0)
  list_stores (bare x ms) formed valid S = absurd formed.1
  list_stores (typed x s ms) formed valid S = record { by = λ v is place low m below h. by v place low m below h (out-Value v) (sym (roll-out-Value v)) (list_of (typed x s ms) v is) }
    where
      node : Shape
      node = s_node k_list (typed x s ms)

      elements : (vs : List Value) → AllByRecursion (λ v. IsA s v) vs → (place low : ℕ) (m : List ℕ) → place + (extent_on side node).size ≤ low → HasBytes low (own_room side node (value.List vs)) m
          → Puts (ReadsAt side node (value.List vs) place) place (extent_on side node).size low (own_room side node (value.List vs)) m
      elements vs are place low m below h =
          let stride : ℕ = (extent_on side s).size in
          let align : ℕ = (extent_on side s).align in
          let pointer : ℕ = aligned low align in
          let at = taken low align pointer refl (align_pos (width_of side) s) in
          let near : align ≤ 8 = small (width_of side) s in
          let room = list_room side x s ms vs in
          let mid : ℕ = pointer + length vs * stride in
          let inside : mid + sum_by (own_room side s) vs ≤ length m = omega (arith, at.1, near, room, h.fits) in
          let items =
          puts_all (element_reads side s) (element_forms side s) (own_room side s) stride (λ v. IsA s v) (λ v is at low m below h. S.by v is at low m below h) vs are pointer mid m (omega arith) (record { fits = inside; short = h.short; are = h.are }) in
          let some = le_times (length vs) stride (some_bytes (width_of side) s valid.0) in
          let count : length vs < 2 ^ 32 = (let brief : length m < 2 ^ 31 = h.short in omega (arith, some, inside, brief)) in
          let put =
          behind_put side node (value.List vs) low pointer mid items.high (length vs * stride) align (sum_by (own_room side s) vs) m items.after at.0 at.1 near refl (record { inside = omega (arith, h.fits); short = h.short }) (length vs) count
          (ReadsEach side s stride vs pointer) items.written (sym room) (λ b e r. reads_elements side b x s ms pointer vs at.2 (omega (arith, inside, e)) r) in
          pair_puts node (value.List vs) (record { pointer = pointer; count = length vs }) place low items.high m items.after tt below h.short items.are put

      by : (v : Value) (place low : ℕ) (m : List ℕ) → place + (extent_on side node).size ≤ low → HasBytes low (own_room side node v) m → (w : Value-F Value) → v ≡ roll-Value w → IsListOf (λ w. IsElement (typed x s ms) w) w → Puts (ReadsAt side node v place) place (extent_on side node).size low (own_room side node v) m
      by v place low m below h (o.List vs) e is = same_value node v (value.List vs) place low m (e ∙ value.rolls-List vs) (elements vs is place low m below) h
      by v place low m below h w e is = absurd is

  map_stores : (ms : Members) → IsWellFormedBy k_map ms → AreValid ms → StoresMembers ms → Stores (s_node k_map ms)
  map_stores no_members formed valid S = absurd (let z : 0 ≡ 2 = ap (λ (l : List (List ℕ)). length l) formed.0 in omega (arith, z))
  map_stores (bare x ms) formed valid S = absurd formed.1
  map_stores (typed x s ms) formed valid S = record { by = λ v is place low m below h. by v place low m below h (out-Value v) (sym (roll-out-Value v)) (map_of (typed x s ms) v is) }
    where
      both : Members
      both = typed x s ms

      node : Shape
      node = s_node k_map both

      align_few : (w : MemoryWidth) → (extent w (record_layout (payloads (layouts_of both)))).align ≤ 8
      align_few Memory32 = all_small Memory32 both
      align_few Memory64 = all_small Memory64 both

      align_some : (w : MemoryWidth) → 1 ≤ (extent w (record_layout (payloads (layouts_of both)))).align
      align_some Memory32 = greatest_align_pos (extents Memory32 (payloads (layouts_of both)))
      align_some Memory64 = greatest_align_pos (extents Memory64 (payloads (layouts_of both)))

      ends : ends_of (width_of side) both 0 ≤ (element_extent side k_map both).size
      ends = ends_within (width_of side) both

      entry_stores : (e : Value × Value) → AreMembers both (e.0 ∷ e.1 ∷ []) → (at low : ℕ) (m : List ℕ) → at + (element_extent side k_map both).size ≤ low → HasBytes low (entry_room side both e) m
          → Puts (λ b. (entry_reads side both b at ≡ Some e) × entry_forms side both b at) at (element_extent side k_map both).size low (entry_room side both e) m
      entry_stores e is at low m below h =
          puts_wider at (element_extent side k_map both).size (entry_room side both e) (omega arith) (omega arith) (omega arith) (λ b eq r. entry_read side both e at b r)
          (all_members both S (e.0 ∷ e.1 ∷ []) is at low (element_extent side k_map both).size m ends below h)

      entries : (es : List (Value × Value)) → AllByRecursion (λ e. AreMembers both (e.0 ∷ e.1 ∷ [])) es → (place low : ℕ) (m : List ℕ) → place + (extent_on side node).size ≤ low → HasBytes low (own_room side node (value.Map es)) m
          → Puts (ReadsAt side node (value.Map es) place) place (extent_on side node).size low (own_room side node (value.Map es)) m
      entries es are place low m below h =
          let stride : ℕ = (element_extent side k_map both).size in
          let align : ℕ = (element_extent side k_map both).align in
          let pointer : ℕ = aligned low align in
          let at = taken low align pointer refl (align_some (width_of side)) in
          let near : align ≤ 8 = align_few (width_of side) in
          let room = map_room side both es in
          let mid : ℕ = pointer + length es * stride in
          let inside : mid + sum_by (entry_room side both) es ≤ length m = omega (arith, at.1, near, room, h.fits) in
          let items =
          puts_all (entry_reads side both) (entry_forms side both) (entry_room side both) stride (λ e. AreMembers both (e.0 ∷ e.1 ∷ [])) entry_stores es are pointer mid m (omega arith) (record { fits = inside; short = h.short; are = h.are }) in
          let one : 1 ≤ stride = (let q = takes_some (width_of side) x s ms valid.0 in omega (arith, q, ends)) in
          let some = le_times (length es) stride one in
          let count : length es < 2 ^ 32 = (let brief : length m < 2 ^ 31 = h.short in omega (arith, some, inside, brief)) in
          let put =
          behind_put side node (value.Map es) low pointer mid items.high (length es * stride) align (sum_by (entry_room side both) es) m items.after at.0 at.1 near refl (record { inside = omega (arith, h.fits); short = h.short }) (length es) count
          (ReadsEntries side both stride es pointer) items.written (sym room) (λ b e r. reads_entries side b both pointer es at.2 (omega (arith, inside, e)) r) in
          pair_puts node (value.Map es) (record { pointer = pointer; count = length es }) place low items.high m items.after tt below h.short items.are put

      by : (v : Value) (place low : ℕ) (m : List ℕ) → place + (extent_on side node).size ≤ low → HasBytes low (own_room side node v) m → (w : Value-F Value) → v ≡ roll-Value w → IsMap (λ vs. AreMembers both vs) w → Puts (ReadsAt side node v place) place (extent_on side node).size low (own_room side node v) m
      by v place low m below h (o.Map es) e is = same_value node v (value.Map es) place low m (e ∙ value.rolls-Map es) (entries es is place low m below) h
      by v place low m below h w e is = absurd is

  -- ---- flags and handles

  flags_stores : (ms : Members) → count_of_members ms ≤ 32 → 1 ≤ count_of_members ms → Stores (s_node k_flags ms)
  flags_stores ms few some = record { by = λ v is place low m below h. by v place low m below h (out-Value v) (sym (roll-out-Value v)) (flags_of ms v is) }
    where
      node : Shape
      node = s_node k_flags ms

      by : (v : Value) (place low : ℕ) (m : List ℕ) → place + (extent_on side node).size ≤ low → HasBytes low (own_room side node v) m → (w : Value-F Value) → v ≡ roll-Value w → IsFlags ms w → Puts (ReadsAt side node v place) place (extent_on side node).size low (own_room side node v) m
      by v place low m below h (o.Flags fs) e is =
          let size = flags_size_is side ms in
          let count : length fs ≡ count_of_members ms = named fs ms is in
          let small : flags_number fs < 256 ^ flags_bytes ms = omega (arith, flags_small fs, ap (λ k. 2 ^ k) count, wide_enough (count_of_members ms) some few) in
          let back : flags_of_number (names_of ms) (flags_number fs) ≡ fs = ap (λ ns. flags_of_number ns (flags_number fs)) (sym is) ∙ flags_back fs in
          subst (λ u. Puts (ReadsAt side node u place) place (extent_on side node).size low (own_room side node v) m) (sym (e ∙ value.rolls-Flags fs))
          (puts_wider place (extent_on side node).size (own_room side node v) (omega arith) (omega (arith, size)) (omega arith) (λ b e r. r)
          (puts_number (ReadsAt side node (value.Flags fs) place) (flags_bytes ms) place low (flags_number fs) m (omega (arith, below, size)) (less_bytes low 0 (own_room side node v) m (omega arith) h) small (λ b at. reads_flags side b ms place (flags_number fs) fs at back)))
      by v place low m below h w e is = absurd is

  handle_puts : (s : Shape) (v : Value) (n place low : ℕ) (m : List ℕ) → n < 2 ^ 32 → (extent_on side s).size ≡ 4 → ((b : List ℕ) → number_in b 4 place ≡ Some n → ReadsAt side s v place b) → place + (extent_on side s).size ≤ low → HasBytes low (own_room side s v) m
      → Puts (ReadsAt side s v place) place (extent_on side s).size low (own_room side s v) m
  handle_puts s v n place low m small size reads below h =
      puts_wider place (extent_on side s).size (own_room side s v) (omega arith) (omega (arith, size)) (omega arith) (λ b e r. r) (puts_number (ReadsAt side s v place) 4 place low n m (omega (arith, below, size)) (less_bytes low 0 (own_room side s v) m (omega arith) h) (omega (arith, small)) reads)

  future_stores : (table instance : ℕ) (ms : Members) → Stores (s_node (k_future table instance) ms)
  future_stores table instance ms = record {
    by = λ v is place low m below h.
        let x = handle_number Future table v (future_of table instance ms v is) in
        handle_puts (s_node (k_future table instance) ms) v x.number place low m x.small (size (width_of side)) (λ b at. subst (λ u. ReadsAt side (s_node (k_future table instance) ms) u place b) (sym x.is) (reads_future side b table instance ms place x.number at)) below h;
  }
    where
      size : (w : MemoryWidth) → (extent w (layout_of (s_node (k_future table instance) ms))).size ≡ 4
      size Memory32 = refl
      size Memory64 = refl

  stream_stores : (table instance : ℕ) (ms : Members) → Stores (s_node (k_stream table instance) ms)
  stream_stores table instance ms = record {
    by = λ v is place low m below h.
        let x = handle_number Stream table v (stream_of table instance ms v is) in
        handle_puts (s_node (k_stream table instance) ms) v x.number place low m x.small (size (width_of side)) (λ b at. subst (λ u. ReadsAt side (s_node (k_stream table instance) ms) u place b) (sym x.is) (reads_stream side b table instance ms place x.number at)) below h;
  }
    where
      size : (w : MemoryWidth) → (extent w (layout_of (s_node (k_stream table instance) ms))).size ≡ 4
      size Memory32 = refl
      size Memory64 = refl

  -- ---- cases

  bare_read : (ms : Members) (x : List ℕ) (i : ℕ) → ((b : List ℕ) (a : ℕ) → load_case side b ms i a ≡ Some (value.Case x [])) → ((b : List ℕ) (a : ℕ) → IsCaseByFormAt side b ms i a) → (b : List ℕ) (a : ℕ) → number_in b (case_bytes ms) a ≡ Some i → ReadsCase side ms x [] a b
  bare_read ms x i loads forms b a at = (
    ap (λ o. o >>= (λ n. load_case side b ms n (a + payload_place side ms))) at ∙ loads b (a + payload_place side ms),
    there_is (number_in b (case_bytes ms) a) i (λ n. IsCaseByFormAt side b ms n (a + payload_place side ms)) at (forms b (a + payload_place side ms)),
  )

  variant_stores : (k : Kind) (ms : Members) → IsCaseKind k → layout_of (s_node k ms) ≡ variant_layout (layouts_of ms) → count_of_members ms ≤ 268435456 → StoresCases ms → Stores (s_node k ms)
  variant_stores k ms kind laid few S = record { by = λ v is place low m below h. by v place low m below h (out-Value v) (sym (roll-out-Value v)) (case_of k ms v kind is) }
    where
      node : Shape
      node = s_node k ms

      whole : (extent_on side node).size ≡ (extent (width_of side) (variant_layout (layouts_of ms))).size
      whole = ap (λ l. (extent (width_of side) l).size) laid

      number_small : (i : ℕ) → i < count_of_members ms → i < 256 ^ case_bytes ms
      number_small i lt = case_fits (count_of_members ms) i lt (omega (arith, lt, few))

      stored : (x : List ℕ) (vs : List Value) → HasStoredCase ms x vs → (place low : ℕ) (m : List ℕ) → place + (extent_on side node).size ≤ low → HasBytes low (own_room side node (value.Case x vs)) m
          → Puts (ReadsAt side node (value.Case x vs) place) place (extent_on side node).size low (own_room side node (value.Case x vs)) m
      stored x vs (BareOne i lt none loads forms) place low m below h =
          let inner = payload_within side ms in
          puts_wider place (extent_on side node).size (own_room side node (value.Case x vs)) (omega arith) (omega (arith, inner.0, inner.1, whole)) (omega arith)
          (λ b e r. subst (λ us. ReadsAt side node (value.Case x us) place b) (sym none) (reads_case side b k ms place x [] kind (bare_read ms x i loads forms b place r)))
          (puts_number (λ b. number_in b (case_bytes ms) place ≡ Some i) (case_bytes ms) place low i m (omega (arith, below, inner.0, inner.1, whole)) (less_bytes low 0 (own_room side node (value.Case x vs)) m (omega arith) h) (number_small i lt) (λ b r. r))
      stored x vs (PaidOne i lt s w is_one is T loads forms size room) place low m below h =
          let inner = payload_within side ms in
          let spent : own_room side node (value.Case x vs) ≡ own_room side s w = case_room side k ms x vs kind ∙ ap (own_case side ms x) is_one ∙ room (shape_named x ms) in
          let number =
          puts_number (λ b. number_in b (case_bytes ms) place ≡ Some i) (case_bytes ms) place low i m (omega (arith, below, inner.0, inner.1, whole)) (less_bytes low 0 (own_room side node (value.Case x vs)) m (omega arith) h) (number_small i lt) (λ b r. r) in
          let payload = T.by w is (place + payload_place side ms) number.high number.after (omega (arith, below, size, inner.1, whole, number.written.rises.up)) (bytes_behind (own_room side s w) (own_room side node (value.Case x vs)) (omega (arith, spent)) h number) in
          puts_wider place (extent_on side node).size (own_room side node (value.Case x vs)) (omega arith) (omega arith) (omega (arith, spent))
          (λ b e r. subst (λ us. ReadsAt side node (value.Case x us) place b) (sym is_one) (reads_case side b k ms place x (w ∷ []) kind (
            ap (λ o. o >>= (λ n. load_case side b ms n (place + payload_place side ms))) r.0 ∙ loads b (place + payload_place side ms) ∙ ap (option_map (λ u. value.Case x (u ∷ []))) r.1.0,
            there_is (number_in b (case_bytes ms) place) i (λ n. IsCaseByFormAt side b ms n (place + payload_place side ms)) r.0 (forms b (place + payload_place side ms) r.1.1),
          )))
          (puts_both place (extent_on side node).size (omega arith) (omega (arith, inner.0)) (omega (arith, size, inner.1, whole)) (omega (arith, below, size, inner.1, whole)) number payload)

      by : (v : Value) (place low : ℕ) (m : List ℕ) → place + (extent_on side node).size ≤ low → HasBytes low (own_room side node v) m → (w : Value-F Value) → v ≡ roll-Value w → IsCase (λ x vs. HasCase ms x vs) w → Puts (ReadsAt side node v place) place (extent_on side node).size low (own_room side node v) m
      by v place low m below h (o.Case x vs) e is = same_value node v (value.Case x vs) place low m (e ∙ value.rolls-Case x vs) (stored x vs (S.by x vs is) place low m below) h
      by v place low m below h w e is = absurd is

  no_cases : StoresCases no_members
  unfolding IsA
  no_cases = record { by = λ x vs h. absurd h }

  -- behind a member that is not the one
  later_case : (n x : List ℕ) (ms ns : Members) (vs : List Value) → bytes_eq n x ≡ false → count_of_members ns ≡ suc (count_of_members ms) → greatest_size (extents (width_of side) (payloads (layouts_of ms))) ≤ greatest_size (extents (width_of side) (payloads (layouts_of ns)))
      → ((b : List ℕ) (i a : ℕ) → load_case side b ns (suc i) a ≡ load_case side b ms i a) → ((b : List ℕ) (i a : ℕ) → IsCaseByFormAt side b ms i a → IsCaseByFormAt side b ns (suc i) a)
      → ((v : Value) (p : Option Shape) → measured_payload (own_measure side) ns x (v ∷ []) p ≡ measured_payload (own_measure side) ms x (v ∷ []) p) → HasStoredCase ms x vs → HasStoredCase ns x vs
  later_case n x ms ns vs other count size loads forms room (BareOne i lt none l f) = BareOne (suc i) (omega (arith, lt, count)) none (λ b a. loads b i a ∙ l b a) (λ b a. forms b i a (f b a))
  later_case n x ms ns vs other count size loads forms room (PaidOne i lt s v one is T l f fits spent) =
      PaidOne (suc i) (omega (arith, lt, count)) s v one is T (λ b a. loads b i a ∙ l b a) (λ b a g. forms b i a (f b a g)) (omega (arith, fits, size)) (λ p. room v p ∙ spent p)

  bare_cases : (n : List ℕ) (ms : Members) → StoresCases ms → StoresCases (bare n ms)
  unfolding IsA load IsByFormAt measured
  bare_cases n ms S = record { by = λ x vs h. by x vs (bytes_eq n x) refl h }
    where
      by : (x : List ℕ) (vs : List Value) (b : Bool) → bytes_eq n x ≡ b → chosen b (vs ≡ []) (HasCase ms x vs) → HasStoredCase (bare n ms) x vs
      by x vs true e h = BareOne 0 (omega arith) h (λ b a. ap (λ z. Some (value.Case z [])) (bytes_are n x e)) (λ b a. tt)
      by x vs false e h =
          later_case n x ms (bare n ms) vs e refl (omega arith) (λ b i a. refl) (λ b i a f. f) (λ v p. ap (λ (b : Bool). if b then 0 else measured_payload (own_measure side) ms x (v ∷ []) p) e) (S.by x vs h)

  typed_cases : (n : List ℕ) (s : Shape) (ms : Members) → Stores s → StoresCases ms → StoresCases (typed n s ms)
  unfolding IsA load IsByFormAt measured
  typed_cases n s ms T S = record { by = λ x vs h. by x vs (bytes_eq n x) refl h }
    where
      here : (x : List ℕ) (vs : List Value) → bytes_eq n x ≡ true → IsOnePayload (λ v. IsA s v) vs → HasStoredCase (typed n s ms) x vs
      here x [] e h = absurd h
      here x (v ∷ []) e h =
          PaidOne 0 (omega arith) s v refl h T (λ b a. ap (λ z. option_map (λ w. value.Case z (w ∷ [])) (load side b s a)) (bytes_are n x e)) (λ b a f. f) (omega arith)
          (λ p. ap (λ (b : Bool). if b then measured (own_measure side) s (or_own s p) v else measured_payload (own_measure side) ms x (v ∷ []) p) e ∙ own_any side s (or_own s p) s v)
      here x (v ∷ (u ∷ vs)) e h = absurd h

      by : (x : List ℕ) (vs : List Value) (b : Bool) → bytes_eq n x ≡ b → chosen b (IsOnePayload (λ v. IsA s v) vs) (HasCase ms x vs) → HasStoredCase (typed n s ms) x vs
      by x vs true e h = here x vs e h
      by x vs false e h =
          later_case n x ms (typed n s ms) vs e refl (omega arith) (λ b i a. refl) (λ b i a f. f)
          (λ v p. ap (λ (b : Bool). if b then measured (own_measure side) s (or_own s p) v else measured_payload (own_measure side) ms x (v ∷ []) p) e) (S.by x vs h)

  -- ---- members

  no_member : StoresMembers no_members
  unfolding IsA load IsByFormAt
  no_member = record { by = λ vs are place behind low m below h. by vs are place behind low m h }
    where
      by : (vs : List Value) → AreMembers no_members vs → (place behind low : ℕ) (m : List ℕ) → HasBytes low 0 m → Puts (ReadsMembers side no_members vs place behind) (place + behind) (behind - behind) low 0 m
      by [] are place behind low m h = puts_nothing (ReadsMembers side no_members [] place behind) (place + behind) (behind - behind) low m h (λ b. (refl, tt))
      by (v ∷ vs) are place behind low m h = absurd are

  bare_member : (n : List ℕ) (ms : Members) → StoresMembers ms → StoresMembers (bare n ms)
  unfolding IsA load IsByFormAt
  bare_member n ms S = record { by = λ vs are place behind low m below h. S.by vs are place behind low m below h }

  typed_member : (n : List ℕ) (s : Shape) (ms : Members) → Stores s → StoresMembers ms → StoresMembers (typed n s ms)
  unfolding IsA load IsByFormAt
  typed_member n s ms T S = record { by = by }
    where
      by : (vs : List Value) → AreMembers (typed n s ms) vs → (place behind low : ℕ) (m : List ℕ) → place + ends_of (width_of side) ms (next_of (width_of side) s behind) ≤ low → HasBytes low (own_sum side (typed n s ms) vs) m
          → Puts (ReadsMembers side (typed n s ms) vs place behind) (place + behind) (ends_of (width_of side) ms (next_of (width_of side) s behind) - behind) low (own_sum side (typed n s ms) vs) m
      by [] are place behind low m below h = absurd are
      by (v ∷ vs) are place behind low m below h =
          let start : ℕ = place_of (width_of side) s behind in
          let next : ℕ = next_of (width_of side) s behind in
          let end : ℕ = ends_of (width_of side) ms next in
          let wide : behind ≤ start = (aligned_bounds behind (extent (width_of side) (layout_of s)).align (align_pos (width_of side) s)).0 in
          let grows : next ≤ end = ends_grow (width_of side) ms next in
          let first = T.by v are.0 (place + start) low m (omega (arith, below, grows)) (less_bytes low (own_room side s v) (own_room side s v + own_sum side ms vs) m (omega arith) h) in
          let rest = S.by vs are.1 place next first.high first.after (omega (arith, below, first.written.rises.up)) (bytes_behind (own_sum side ms vs) (own_room side s v + own_sum side ms vs) (omega arith) h first) in
          puts_wider (place + behind) (end - behind) (own_room side s v + own_sum side ms vs) (omega arith) (omega arith) (omega arith)
          (λ b e r. (ap (λ o. o >>= (λ w. load_members side b ms place next >>= (λ ws. Some (w ∷ ws)))) r.0.0 ∙ ap (λ o. o >>= (λ ws. Some (v ∷ ws))) r.1.0, (r.0.1, r.1.1)))
          (puts_both (place + behind) (end - behind) (omega (arith, wide)) (omega arith) (omega (arith, wide, grows)) (omega (arith, below, grows)) first rest)

  -- ---- any type

  bare_layouts : (ms : Members) → AreBare ms → layouts_of ms ≡ replicate (length (layouts_of ms)) None
  bare_layouts no_members h = refl
  bare_layouts (bare n ms) h = ap (λ l. None ∷ l) (bare_layouts ms h)
  bare_layouts (typed n s ms) h = absurd h

  node_stores : (k : Kind) (ms : Members) → IsValid (s_node k ms) → IsWellFormedBy k ms → StoresMembers ms → StoresCases ms → StoresFirst ms → Stores (s_node k ms)
  node_stores k_record ms valid formed M C F = record_stores ms M
  node_stores k_tuple ms valid formed M C F = tuple_stores ms M
  node_stores k_variant ms valid formed M C F = variant_stores k_variant ms tt refl valid.ruled.0.few C
  node_stores k_option ms valid formed M C F = variant_stores k_option ms tt refl valid.ruled.0.few C
  node_stores k_result ms valid formed M C F = variant_stores k_result ms tt refl valid.ruled.0.few C
  node_stores k_enum ms valid formed M C F = variant_stores k_enum ms tt (ap variant_layout (sym (bare_layouts ms formed))) valid.ruled.0.few C
  node_stores k_list ms valid formed M C F = list_stores ms formed (members_valid k_list ms valid) F
  node_stores k_map ms valid formed M C F = map_stores ms formed (members_valid k_map ms valid) M
  node_stores k_flags ms valid formed M C F = flags_stores ms valid.ruled.0.enough.1 valid.ruled.0.enough.0
  node_stores (k_fixed n) ms valid formed M C F = fixed_stores n ms formed F
  node_stores (k_future table instance) ms valid formed M C F = future_stores table instance ms
  node_stores (k_stream table instance) ms valid formed M C F = stream_stores table instance ms

  mutual
    pub stores : (s : Shape) → IsValid s → IsWellFormed s → Stores s
    stores (s_plain y) valid formed = plain_stores y
    stores (s_node k ms) valid formed =
        node_stores k ms valid formed.0 (members_stores ms (members_valid k ms valid) formed.1) (cases_stores ms (members_valid k ms valid) formed.1) (first_stores ms (members_valid k ms valid) formed.1)

    pub members_stores : (ms : Members) → AreValid ms → AreWellFormed ms → StoresMembers ms
    members_stores no_members valid formed = no_member
    members_stores (bare n ms) valid formed = bare_member n ms (members_stores ms valid formed)
    members_stores (typed n s ms) valid formed = typed_member n s ms (stores s valid.0 formed.0) (members_stores ms valid.1 formed.1)

    cases_stores : (ms : Members) → AreValid ms → AreWellFormed ms → StoresCases ms
    cases_stores no_members valid formed = no_cases
    cases_stores (bare n ms) valid formed = bare_cases n ms (cases_stores ms valid formed)
    cases_stores (typed n s ms) valid formed = typed_cases n s ms (stores s valid.0 formed.0) (cases_stores ms valid.1 formed.1)

    first_stores : (ms : Members) → AreValid ms → AreWellFormed ms → StoresFirst ms
    first_stores no_members valid formed = tt
    first_stores (bare n ms) valid formed = tt
    first_stores (typed n s ms) valid formed = stores s valid.0 formed.0
