-- The code of one field, and then the code of the fields behind it, in any module and function.
use Rattle.std.proofs.Common.{◌≡◌, ℕ, ◌+◌, ◌≤◌, Bool, true, List, ◌++◌, length, take, drop, Some, refl, sym, ap, ◌∙◌, subst, arith}
use Rattle.std.proofs.lemmas.List.{length-append}
use Rattle.fact_wasm.specs.declared.types.ValType.{ValType}
use Rattle.fact_wasm.specs.declared.instr.Instr.{Instr}
use Rattle.fact_wasm.specs.declared.module.WasmModule.{WasmModule}
use Rattle.fact_machine.specs.declared.types.CoreValue.{CoreValue}
use Rattle.fact_types.specs.declared.flats.FlatType.{FlatType}
use Rattle.fact_types.specs.declared.extents.MemoryWidth.{MemoryWidth}
use Rattle.fact_types.specs.declared.extents.MemoryWidth.TheVariants.{Memory32, Memory64}
use Rattle.fact_types.specs.Fields.{Field, field_of}
use Rattle.fact_types.specs.FlatShapes.{flat, flat_members, AreCounted}
use Rattle.fact_types.specs.Shapes.{Shape, Members, typed, place_of, next_of, ends_of}
use Rattle.fact_types.specs.Signatures.{width}
use Rattle.fact_types.proofs.PlaceLaws.{ends_grow}
use Rattle.fact_values.specs.Limits.{place_in}
use Rattle.fact_actions.specs.Actions.{Action}
use Rattle.fact_actions.specs.Moves.{flat_length}
use Rattle.fact_actions.specs.Running.{ImportPlaces}
use Rattle.fact_actions.specs.Sides.{LiftLowerOptions, Source, Target, width_of_side}
use Rattle.fact_code_laws.specs.Places.{Slot, From, InLocals, InMemory, To, ToLocals, ToMemory, FromUsed, ToUsed, Setting, Moves, to_past}
use Rattle.fact_code_laws.proofs.FieldMoves.{from_part, to_spot, with_to, IsApartAt, moves_member}
use Rattle.fact_code_laws.proofs.Rules.{within}
use Rattle.fact_emit.specs.declared.places.Sides.{Sides}
use Rattle.fact_emit.specs.Fitting.{SlotsFit, CanRead, CanWrite, bytes_of_shape, AreWithin, FitsShapes, FitsFields, MovesFields}
use Rattle.fact_emit.specs.Parts.{offset_on, from_behind, to_behind, bytes_by}
use Rattle.fact_emit.specs.Places.{setting_of, HasDistinctSlots, TargetTaken, Using}
use Rattle.fact_emit.proofs.PartPlaces.{used_take, used_drop, locals_take, locals_drop, distinct_take, distinct_drop, apart_at, room_take, room_drop, room_length, with_more, with_within}
use Rattle.fact_emit.proofs.Using.{used_more}
use Rattle.fact_kinds.specs.Asks.{MovesHelped, MovesHelpedFields}
use Rattle.fact_kinds.proofs.Found.{IsAmong, among, holds_found}
use Rattle.fact_kinds.proofs.WithinRooms.{part_within, past_within, spot_within}

-- ---- slots

module _ {locals : List ValType} where
  pub slots_front : (xs ys : List FlatType) (ss : List Slot) → SlotsFit locals ss (xs ++ ys) → SlotsFit locals (take (length xs) ss) xs
  slots_front xs ys ss f =
      let room = room_take xs ys ss f.room in
      record { room = room; typed = locals_take locals (length xs) ss f.typed; few = omega (arith, room_length xs (take (length xs) ss) room, room_length (xs ++ ys) ss f.room, length-append xs ys, f.few) }

  pub slots_behind : (xs ys : List FlatType) (ss : List Slot) → SlotsFit locals ss (xs ++ ys) → SlotsFit locals (drop (length xs) ss) ys
  slots_behind xs ys ss f =
      let room = room_drop xs ys ss f.room in
      record { room = room; typed = locals_drop locals (length xs) ss f.typed; few = omega (arith, room_length ys (drop (length xs) ss) room, room_length (xs ++ ys) ss f.room, length-append xs ys, f.few) }

-- an offset so many bytes on is their sum where that is not too large
pub exact : (a b : ℕ) → a + b ≤ 4294967295 → offset_on a b ≡ a + b
exact a b h = omega (arith, h)

by_place_in : (w : MemoryWidth) (f : Field) → bytes_by w f.place32 f.place64 ≡ place_in w f
by_place_in Memory32 f = refl
by_place_in Memory64 f = refl

-- ---- the place of a field at the source

abbrev pub IsFew : To → Type 0
IsFew (ToLocals slots) = length slots ≤ 16
IsFew (ToMemory memory base offset) = Unit {0}

module _ (M : WasmModule) (p : ImportPlaces) (locals : List ValType) (o : LiftLowerOptions) (memory64 : Bool) (ms : Members) (f : Field) (counted : AreCounted ms) (x : IsAmong (width_of_side o) ms 0 0 f) where
  abbrev field_place : ℕ
  field_place = place_in (width_of_side o) f

  abbrev there : From → From
  there src = from_part (flat_length o f.shape) f.flat_place field_place src

  field_within : field_place + bytes_of_shape (width_of_side o) f.shape ≤ ends_of (width_of_side o) ms 0
  field_within = subst (λ n. n + bytes_of_shape (width_of_side o) f.shape ≤ ends_of (width_of_side o) ms 0) (by_place_in (width_of_side o) f) x.within

  field_read : (src : From) → CanRead M p locals o memory64 src (flat_members (width_of_side o) ms) (ends_of (width_of_side o) ms 0) → CanRead M p locals o memory64 (there src) (flat (width_of_side o) f.shape) (bytes_of_shape (width_of_side o) f.shape)
  field_read (InLocals slots) c =
      let all = room_length (flat_members (width_of_side o) ms) slots c.room in
      let front = x.place counted (omega (arith, all, c.few)) in
      let fits = slots_front (flat (width_of_side o) f.shape) x.rest (drop (length x.front) slots) (slots_behind x.front (flat (width_of_side o) f.shape ++ x.rest) slots (subst (SlotsFit locals slots) x.is c)) in
      let zero_more : 0 + length x.front ≡ length x.front = omega arith in
      subst (λ n. SlotsFit locals (take (flat_length o f.shape) (drop n slots)) (flat (width_of_side o) f.shape)) (sym (front ∙ zero_more)) fits
  field_read (InMemory memory base offset) c = record { side = c.side; local = c.local; reach = omega (arith, field_within, c.reach) }

  -- the numbers of a part are those of the field
  field_part : (skip count bytes : ℕ) → (f.flat_place ≤ 16 → skip ≡ f.flat_place) → (length (flat (width_of_side o) f.shape) ≤ 16 → count ≡ length (flat (width_of_side o) f.shape)) → bytes ≡ field_place
      → (src : From) → CanRead M p locals o memory64 src (flat_members (width_of_side o) ms) (ends_of (width_of_side o) ms 0) → from_behind skip count bytes src ≡ there src
  field_part skip count bytes s c b (InLocals slots) r =
      let all = room_length (flat_members (width_of_side o) ms) slots r.room in
      let front = x.place counted (omega (arith, all, r.few)) in
      let parts = ap length x.is ∙ length-append x.front (flat (width_of_side o) f.shape ++ x.rest) in
      let more = length-append (flat (width_of_side o) f.shape) x.rest in
      ap (λ n. InLocals (take count (drop n slots))) (s (omega (arith, front, parts, all, r.few)))
      ∙ ap (λ n. InLocals (take n (drop f.flat_place slots))) (c (omega (arith, parts, more, all, r.few)))
  field_part skip count bytes s c b (InMemory memory base offset) r =
      ap (λ n. InMemory memory base (offset_on offset n)) b ∙ ap (InMemory memory base) (exact offset field_place (omega (arith, field_within, r.reach)))

-- ---- the place of a field at the destination

module _ (M : WasmModule) (p : ImportPlaces) (locals : List ValType) (o : LiftLowerOptions) (memory64 : Bool) (u : Shape) (y : List ℕ) (ns : Members) (end : ℕ) where
  abbrev spot_of : To → To
  spot_of dst = to_spot (flat_length o u) (place_of (width_of_side o) u end) dst

  abbrev CanWriteAll : To → Type 0
  CanWriteAll dst = CanWrite M p locals o memory64 dst (flat_members (width_of_side o) (typed y u ns)) (ends_of (width_of_side o) (typed y u ns) end)

  spot_write : (dst : To) → CanWriteAll dst → CanWrite M p locals o memory64 (spot_of dst) (flat (width_of_side o) u) (bytes_of_shape (width_of_side o) u)
  spot_write (ToLocals slots) c = slots_front (flat (width_of_side o) u) (flat_members (width_of_side o) ns) slots c
  spot_write (ToMemory memory base offset) c = record { side = c.side; local = c.local; reach = omega (arith, ends_grow (width_of_side o) ns (next_of (width_of_side o) u end), c.reach) }

  past_write : (dst : To) → CanWriteAll dst → CanWrite M p locals o memory64 (to_past (flat_length o u) dst) (flat_members (width_of_side o) ns) (ends_of (width_of_side o) ns (next_of (width_of_side o) u end))
  past_write (ToLocals slots) c = slots_behind (flat (width_of_side o) u) (flat_members (width_of_side o) ns) slots c
  past_write (ToMemory memory base offset) c = c

  few_slots : (dst : To) → CanWriteAll dst → IsFew dst
  few_slots (ToLocals slots) c = c.few
  few_slots (ToMemory memory base offset) c = tt

  -- the numbers of a spot are those of the field
  spot_part : (count place : ℕ) → (length (flat (width_of_side o) u) ≤ 16 → count ≡ length (flat (width_of_side o) u)) → place ≡ place_of (width_of_side o) u end → (dst : To) → CanWriteAll dst → to_behind 0 count place dst ≡ spot_of dst
  spot_part count place c p (ToLocals slots) r =
      let all = room_length (flat_members (width_of_side o) (typed y u ns)) slots r.room in
      ap (λ n. ToLocals (take n slots)) (c (omega (arith, all, length-append (flat (width_of_side o) u) (flat_members (width_of_side o) ns), r.few)))
  spot_part count place c p (ToMemory memory base offset) r =
      ap (λ n. ToMemory memory base (offset_on offset n)) p ∙ ap (ToMemory memory base) (exact offset (place_of (width_of_side o) u end) (omega (arith, ends_grow (width_of_side o) ns (next_of (width_of_side o) u end), r.reach)))

  past_part : (count : ℕ) → (length (flat (width_of_side o) u) ≤ 16 → count ≡ length (flat (width_of_side o) u)) → (dst : To) → CanWriteAll dst → to_past count dst ≡ to_past (flat_length o u) dst
  past_part count c (ToLocals slots) r =
      let all = room_length (flat_members (width_of_side o) (typed y u ns)) slots r.room in
      ap (λ n. ToLocals (drop n slots)) (c (omega (arith, all, length-append (flat (width_of_side o) u) (flat_members (width_of_side o) ns), r.few)))
  past_part count c (ToMemory memory base offset) r = refl

-- ---- locals in use

module _ {taken used : ℕ → Bool} {src : From} {dst : To} (h : Using taken used src dst) where
  pub using_spot : (count place bytes n room : ℕ) → Using taken used (from_part count place bytes src) (to_spot n room dst)
  using_spot count place bytes n room = record { within = h.within; from = from src h.from; to = to dst h.to; target = target dst h.target; distinct = distinct dst h.distinct }
    where
      from : (src : From) → FromUsed used src → FromUsed used (from_part count place bytes src)
      from (InLocals slots) u = used_take used count (drop place slots) (used_drop used place slots u)
      from (InMemory memory base offset) u = u

      to : (dst : To) → ToUsed used dst → ToUsed used (to_spot n room dst)
      to (ToLocals slots) u = tt
      to (ToMemory memory base offset) u = u

      target : (dst : To) → TargetTaken taken dst → TargetTaken taken (to_spot n room dst)
      target (ToLocals slots) u = used_take taken n slots u
      target (ToMemory memory base offset) u = tt

      distinct : (dst : To) → HasDistinctSlots dst → HasDistinctSlots (to_spot n room dst)
      distinct (ToLocals slots) u = distinct_take n slots u
      distinct (ToMemory memory base offset) u = tt

  pub using_past : (n room : ℕ) → Using taken (with_to used (to_spot n room dst)) src (to_past n dst)
  using_past n room = record { within = within_past dst h.target; from = from dst src h.from; to = to dst h.to; target = target dst h.target; distinct = distinct dst h.distinct }
    where
      within_past : (dst : To) → TargetTaken taken dst → (i : ℕ) → with_to used (to_spot n room dst) i ≡ true → taken i ≡ true
      within_past (ToLocals slots) t = with_within used taken h.within (take n slots) (used_take taken n slots t)
      within_past (ToMemory memory base offset) t = h.within

      more : (dst : To) (i : ℕ) → used i ≡ true → with_to used (to_spot n room dst) i ≡ true
      more (ToLocals slots) i u = with_more used (take n slots) i u
      more (ToMemory memory base offset) i u = u

      from : (dst : To) (src : From) → FromUsed used src → FromUsed (with_to used (to_spot n room dst)) src
      from dst (InLocals slots) u = used_more (more dst) slots u
      from dst (InMemory memory base offset) u = more dst base u

      to : (dst : To) → ToUsed used dst → ToUsed (with_to used (to_spot n room dst)) (to_past n dst)
      to (ToLocals slots) u = tt
      to (ToMemory memory base offset) u = u

      target : (dst : To) → TargetTaken taken dst → TargetTaken taken (to_past n dst)
      target (ToLocals slots) u = used_drop taken n slots u
      target (ToMemory memory base offset) u = tt

      distinct : (dst : To) → HasDistinctSlots dst → HasDistinctSlots (to_past n dst)
      distinct (ToLocals slots) u = distinct_drop n slots u
      distinct (ToMemory memory base offset) u = tt

pub apart_dst : (n : ℕ) (dst : To) → HasDistinctSlots dst → IsApartAt n dst
apart_dst n (ToLocals slots) h = apart_at n slots h
apart_dst n (ToMemory memory base offset) h = tt

-- steps that are not taken are not told of
spare_none : {S : Setting} {used : ℕ → Bool} {spare : ℕ} {from : From} {to : To} {act : Source → Target → Action (List CoreValue)} {code : List Instr} → Moves S used 0 spare from to act code → Moves S used 0 0 from to act code
spare_none m = record { effect = λ ls s d e st g r. within (omega arith) (m.effect ls s d e st g r); typed = m.typed }

-- ---- both

-- Where the numbers of a part at the source and of a spot at the destination are those of a field: the code of its move and
-- code of the fields behind it move them all.
pub fields_join_paid : {sides : Sides} {taken : ℕ → Bool} {psrc src : From} {pdst dst after : To} {ms ns : Members} {y : List ℕ} {u : Shape} {end next : ℕ} {f : Field} (skip cnt bytes count place : ℕ)
    → field_of y ms ≡ Some f → AreCounted ms
    → psrc ≡ from_behind skip cnt bytes src → pdst ≡ to_behind 0 count place dst → after ≡ to_past count dst
    → (f.flat_place ≤ 16 → skip ≡ f.flat_place) → ((w : MemoryWidth) → length (flat w f.shape) ≤ 16 → cnt ≡ length (flat w f.shape)) → bytes ≡ bytes_by (width sides.from.memory64) f.place32 f.place64
    → ((w : MemoryWidth) → length (flat w u) ≤ 16 → count ≡ length (flat w u)) → place ≡ place_of (width sides.to.memory64) u end → next ≡ next_of (width sides.to.memory64) u end
    → (M : WasmModule) (p : ImportPlaces) (locals : List ValType) (c k : List Instr) → MovesHelped sides psrc pdst taken f.shape u M p locals c → MovesFields sides src after taken ms ns next M p locals k
    → MovesHelpedFields sides src dst taken ms (typed y u ns) end M p locals (c ++ k)
fields_join_paid {sides} {taken} {psrc} {src} {pdst} {dst} {after} {ms} {ns} {y} {u} {end} {next} {f} skip cnt bytes count place found counted src_is spot_is past_is skip_is cnt_is bytes_is count_is place_is next_is M p locals c k one rest = record {
  moves = λ a b rooms used using fit.
      let S = setting_of sides a b rooms M p locals in
      let x : IsAmong (width_of_side a) ms 0 0 f = subst (λ n. IsAmong (width_of_side a) ms 0 n f) (zeros (width_of_side a)) (among (width_of_side a) y ms 0 0 0 f found) in
      let bytes_are : bytes ≡ place_in (width_of_side a) f = bytes_is ∙ ap (λ m. bytes_by (width m) f.place32 f.place64) (sym fit.from_wide) ∙ by_place_in (width_of_side a) f in
      let place_are : place ≡ place_of (width_of_side b) u end = place_is ∙ ap (λ m. place_of (width m) u end) (sym fit.to_wide) in
      let next_are : next ≡ next_of (width_of_side b) u end = next_is ∙ ap (λ m. next_of (width m) u end) (sym fit.to_wide) in
      let n = flat_length b u in
      let room = place_of (width_of_side b) u end in
      let part = from_part (flat_length a f.shape) f.flat_place (place_in (width_of_side a) f) src in
      let part_is : psrc ≡ part = src_is ∙ field_part M p locals a S.from64 ms f counted x skip cnt bytes skip_is (cnt_is (width_of_side a)) bytes_are src fit.reads in
      let to_is : pdst ≡ to_spot n room dst = spot_is ∙ spot_part M p locals b S.to64 u y ns end count place (count_is (width_of_side b)) place_are dst fit.writes in
      let after_is : after ≡ to_past n dst = past_is ∙ past_part M p locals b S.to64 u y ns end count (count_is (width_of_side b)) dst fit.writes in
      let here = using_spot using (flat_length a f.shape) f.flat_place (place_in (width_of_side a) f) n room in
      let grown = ends_grow (width_of_side b) ns (next_of (width_of_side b) u end) in
      let within_here : AreWithin rooms part (to_spot n room dst) (bytes_of_shape (width_of_side a) f.shape) (bytes_of_shape (width_of_side b) u) = record {
        source = part_within rooms.from (ends_of (width_of_side a) ms 0) (bytes_of_shape (width_of_side a) f.shape) (flat_length a f.shape) f.flat_place (place_in (width_of_side a) f) src (field_within M p locals a S.from64 ms f counted x) fit.within.source;
        target = spot_within rooms.to (ends_of (width_of_side b) (typed y u ns) end) (bytes_of_shape (width_of_side b) u) n room dst (omega (arith, grown)) fit.within.target;
      } in
      let fits_here : FitsShapes sides S f.shape u part (to_spot n room dst) = record { from_wide = fit.from_wide; to_wide = fit.to_wide; reads = field_read M p locals a S.from64 ms f counted x src fit.reads; writes = spot_write M p locals b S.to64 u y ns end dst fit.writes; within = within_here; lists = λ h. fit.lists (holds_found y ms 0 0 0 f found h) } in
      let fits_later : FitsFields sides S ms ns (next_of (width_of_side b) u end) src (to_past n dst) = record { from_wide = fit.from_wide; to_wide = fit.to_wide; reads = fit.reads; writes = past_write M p locals b S.to64 u y ns end dst fit.writes; within = record { source = fit.within.source; target = past_within rooms.to (ends_of (width_of_side b) (typed y u ns) end) n dst fit.within.target }; lists = fit.lists } in
      let one' = subst (λ s. MovesHelped sides s (to_spot n room dst) taken f.shape u M p locals c) part_is (subst (λ d. MovesHelped sides psrc d taken f.shape u M p locals c) to_is one) in
      let rest' = subst (λ e. MovesFields sides src (to_past n dst) taken ms ns e M p locals k) next_are (subst (λ d. MovesFields sides src d taken ms ns next M p locals k) after_is rest) in
      (moves_member ms ns y u end f found using.from using.to (apart_dst n dst using.distinct)
      (one'.moves a b rooms used here fits_here) (rest'.moves a b rooms (with_to used (to_spot n room dst)) (using_past using n room) fits_later));
}
  where
    zeros : (w : MemoryWidth) → bytes_by w 0 0 ≡ 0
    zeros Memory32 = refl
    zeros Memory64 = refl

-- the same, whose steps that are left are not told of
pub fields_join : {sides : Sides} {taken : ℕ → Bool} {psrc src : From} {pdst dst after : To} {ms ns : Members} {y : List ℕ} {u : Shape} {end next : ℕ} {f : Field} (skip cnt bytes count place : ℕ)
    → field_of y ms ≡ Some f → AreCounted ms
    → psrc ≡ from_behind skip cnt bytes src → pdst ≡ to_behind 0 count place dst → after ≡ to_past count dst
    → (f.flat_place ≤ 16 → skip ≡ f.flat_place) → ((w : MemoryWidth) → length (flat w f.shape) ≤ 16 → cnt ≡ length (flat w f.shape)) → bytes ≡ bytes_by (width sides.from.memory64) f.place32 f.place64
    → ((w : MemoryWidth) → length (flat w u) ≤ 16 → count ≡ length (flat w u)) → place ≡ place_of (width sides.to.memory64) u end → next ≡ next_of (width sides.to.memory64) u end
    → (M : WasmModule) (p : ImportPlaces) (locals : List ValType) (c k : List Instr) → MovesHelped sides psrc pdst taken f.shape u M p locals c → MovesFields sides src after taken ms ns next M p locals k
    → MovesFields sides src dst taken ms (typed y u ns) end M p locals (c ++ k)
fields_join skip cnt bytes count place found counted src_is spot_is past_is skip_is cnt_is bytes_is count_is place_is next_is M p locals c k one rest =
    let paid = fields_join_paid skip cnt bytes count place found counted src_is spot_is past_is skip_is cnt_is bytes_is count_is place_is next_is M p locals c k one rest in
    record { moves = λ a b rooms used using fit. spare_none (paid.moves a b rooms used using fit) }
