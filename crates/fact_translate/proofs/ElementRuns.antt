-- Elements of a list of fixed length that are moved one by one.
use Rattle.std.proofs.Common.{◌≡◌, ℕ, zero, suc, ◌+◌, ◌*◌, ◌<◌, ◌≤◌, Bool, true, false, ◌||◌, List, [], ◌∷◌, ◌++◌, refl, sym, ap, ◌∙◌, subst, arith, length, take, drop, append-nil, append_assoc, length-append}
use Rattle.std.specs.Prelude.{min, unwrap_or}
use Rattle.fact_wasm.specs.declared.instr.Instr.{Instr}
use Rattle.fact_wasm.specs.declared.types.ValType.{ValType}
use Rattle.fact_wasm.specs.declared.module.WasmModule.{WasmModule}
use Rattle.fact_types.specs.declared.flats.FlatType.{FlatType}
use Rattle.fact_types.specs.declared.interface.InterfaceType.{InterfaceType}
use Rattle.fact_types.specs.declared.extents.Extent.{Extent}
use Rattle.fact_types.specs.declared.extents.MemoryWidth.{MemoryWidth}
use Rattle.fact_types.specs.declared.extents.MemoryWidth.TheVariants.{Memory32, Memory64}
use Rattle.fact_types.specs.Adapters.{is_wide}
use Rattle.fact_types.specs.Fields.{Field}
use Rattle.fact_types.specs.FlatShapes.{flat, flat_members, times, IsCounted}
use Rattle.fact_types.specs.Heights.{height}
use Rattle.fact_types.specs.Layout.{extent}
use Rattle.fact_types.specs.PointerPairs.{has_pointer_pair}
use Rattle.fact_types.specs.Shapes.{Shape, Members, no_members, layout_of, next_of, place_of}
use Rattle.fact_types.specs.Signatures.{width}
use Rattle.fact_types.specs.Tables.{Tables, HasShape}
use Rattle.fact_machine.specs.declared.types.CoreValue.{CoreValue}
use Rattle.fact_values.specs.Limits.{place_in}
use Rattle.fact_actions.specs.Actions.{Action}
use Rattle.fact_actions.specs.Moves.{element_flats, entry_extent, flat_length, move, move_fields}
use Rattle.fact_actions.specs.Running.{ImportPlaces}
use Rattle.fact_actions.specs.Sides.{LiftLowerOptions, Source, Target, width_of_side}
use Rattle.fact_actions.specs.Outlining.{translates, translates_times}
use Rattle.fact_actions.proofs.ValidTypes.{single_extent}
use Rattle.fact_code_laws.specs.Does.{Locals}
use Rattle.fact_code_laws.specs.Places.{Slot, From, InLocals, InMemory, To, ToLocals, ToMemory, Setting, transfer, Moves, Stood, FromUsed, ToUsed, to_past}
use Rattle.fact_code_laws.proofs.FieldMoves.{from_part, to_spot, with_to, IsApartAt, moves_same, moves_member, moves_no_local, moves_no_member}
use Rattle.fact_code_laws.proofs.FixedMoves.{elements_from, moves_element, moves_fixed_by_parts}
use Rattle.fact_code_laws.proofs.Keeping.{keeps_all}
use Rattle.fact_code_laws.proofs.Rules.{done}
use Rattle.fact_code_laws.proofs.TypingLaws.{typed_done}
use Rattle.fact_emit.specs.declared.places.Sides.{Sides}
use Rattle.fact_emit.specs.declared.writer.Writer.{Writer}
use Rattle.fact_emit.specs.Asked.{AskedHelper}
use Rattle.fact_emit.specs.Emits.{GrewAsking, EmitsAsking}
use Rattle.fact_emit.specs.Fitting.{CanRead, CanWrite, SlotsFit, AreWithin, FromWithin, ToWithin, FitsShapes, MovesNode, bytes_of_shape}
use Rattle.fact_emit.specs.Movable.{CanMoveMember}
use Rattle.fact_emit.specs.MovesValue.{Act, MovesValue}
use Rattle.fact_emit.specs.Parts.{offset_on}
use Rattle.fact_emit.specs.Pieces.{Piece}
use Rattle.fact_emit.specs.Places.{setting_of}
use Rattle.fact_emit.specs.Requests.{ServesLists}
use Rattle.fact_emit.specs.Writers.{taken_in}
use Rattle.fact_emit.proofs.Emitting.{emits_as, emits_nothing, emits_then, grew_nothing, grew_on}
use Rattle.fact_emit.proofs.PartPlaces.{room_length}
use Rattle.fact_kinds.specs.declared.fixed.FixedElements.{FixedElements}
use Rattle.fact_kinds.specs.Asks.{AreAsked, MovesHelped}
use Rattle.fact_kinds.specs.FixedLists.{nth_from, nth_to}
use Rattle.fact_kinds.specs.Moved.{MovedValue}
use Rattle.fact_kinds.specs.MovedFixed.{AreFixedElements, MovedElements, fixed_of}
use Rattle.fact_kinds.specs.declared.fuel.Fuel.{Fuel}
use Rattle.fact_kinds.specs.Translations.{TranslatesAs, place_of_source, place_of_target}
use Rattle.fact_kinds.proofs.Asking.{asked_both}
use Rattle.fact_kinds.proofs.FieldJoin.{apart_dst, slots_behind, slots_front, using_past, using_spot}
use Rattle.fact_kinds.proofs.FixedJoin.{fixed_bytes}
use Rattle.fact_kinds.proofs.Found.{flat_is}
use Rattle.fact_kinds.proofs.ListMembers.{first_place, single}
use Rattle.fact_kinds.proofs.WithinRooms.{part_within, past_within, spot_within}
use Rattle.fact_kinds.proofs.Translating.{both_translated, nothing_translated, part_place, past_place, spot_place, translated_at}

-- ---- what is left of a list

-- A list of so many elements can be read, and elements written from that of a number on, behind the slots of those before it.
pub record FitsElements (sides : Sides) (S : Setting) (all i n : ℕ) (s u : Shape) (src : From) (dst : To) : Type 0 where
  pub from_wide : is_wide S.from.memory ≡ S.from64
  pub to_wide : is_wide S.to.memory ≡ S.to64
  pub reads : CanRead S.whole S.places S.locals S.from S.from64 src (times all (flat_members (width_of_side S.from) (single s))) (bytes_of_shape (width_of_side S.from) s * all)
  pub writes : CanWrite S.whole S.places S.locals S.to S.to64 dst (times n (flat_members (width_of_side S.to) (single u))) (bytes_of_shape (width_of_side S.to) u * (i + n))
  pub within : AreWithin S.rooms src dst (bytes_of_shape (width_of_side S.from) s * all) (bytes_of_shape (width_of_side S.to) u * (i + n))
  pub lists : has_pointer_pair s ≡ true → ServesLists sides.from sides.to S.whole S.places S.from S.to

abbrev pub element_moves : (i n : ℕ) → Shape → Shape → Act
element_moves i n s u tr x y =
    elements_from (element_flats tr.from (single s)) (bytes_of_shape (width_of_side tr.from) s) (element_flats tr.to (single u)) (bytes_of_shape (width_of_side tr.to) u) (λ x y. move_fields tr (single s) (single u) 0 x y) i n x y

-- Code that moves so many elements from that of a number on.
abbrev pub MovesElements : Sides → From → To → (ℕ → Bool) → (all i n : ℕ) → Shape → Shape → Piece
MovesElements sides src dst taken all i n s u = MovesValue sides src dst taken 0 (λ S. FitsElements sides S all i n s u src dst) (element_moves i n s u)

-- ---- an element as the only member of a tuple

take_again : {A : Type 0} (n : ℕ) (xs : List A) → take n (take n xs) ≡ take n xs
take_again zero xs = refl
take_again (suc n) [] = refl
take_again (suc n) (x ∷ xs) = ap (λ l. x ∷ l) (take_again n xs)

drop_taken : {A : Type 0} (n : ℕ) (xs : List A) → drop n (take n xs) ≡ []
drop_taken zero xs = refl
drop_taken (suc n) [] = refl
drop_taken (suc n) (x ∷ xs) = drop_taken n xs

part_again : (n place bytes z : ℕ) (src : From) → z ≡ 0 → from_part n 0 z (from_part n place bytes src) ≡ from_part n place bytes src
part_again n place bytes z (InLocals slots) e = ap InLocals (take_again n (drop place slots))
part_again n place bytes z (InMemory memory base offset) e = let same : offset + bytes + z ≡ offset + bytes = omega (arith, e) in ap (InMemory memory base) same

spot_again : (n bytes z : ℕ) (dst : To) → z ≡ 0 → to_spot n z (to_spot n bytes dst) ≡ to_spot n bytes dst
spot_again n bytes z (ToLocals slots) e = ap ToLocals (take_again n slots)
spot_again n bytes z (ToMemory memory base offset) e = let same : offset + bytes + z ≡ offset + bytes = omega (arith, e) in ap (ToMemory memory base) same

nothing_left : {S : Setting} {used : ℕ → Bool} {from : From} (n bytes : ℕ) (dst : To) (ms : Members) (end : ℕ) → Moves S used 0 0 from (to_past n (to_spot n bytes dst)) (move_fields (transfer S) ms no_members end) []
nothing_left {S} {used} {from} n bytes (ToLocals slots) ms end = subst (λ ss. Moves S used 0 0 from (ToLocals ss) (move_fields (transfer S) ms no_members end) []) (sym (drop_taken n slots)) (moves_no_local ms end)
nothing_left n bytes (ToMemory memory base offset) ms end = moves_no_member ms end

one_flats : (w : MemoryWidth) (s : Shape) → flat_members w (single s) ≡ flat w s
one_flats w s = append-nil (flat w s)

first_zero : (w : MemoryWidth) (s : Shape) → place_of w s 0 ≡ 0
first_zero w s = first_place (extent w (layout_of s)).align

abbrev only_field : Shape → Field
only_field s = record { shape = s; flat_place = 0; place32 = place_of Memory32 s 0; place64 = place_of Memory64 s 0 }

field_zero : (w : MemoryWidth) (s : Shape) → place_in w (only_field s) ≡ 0
field_zero Memory32 s = first_zero Memory32 s
field_zero Memory64 s = first_zero Memory64 s

-- Code that moves an element moves it as the only member of a tuple.
single_at : {S : Setting} {used : ℕ → Bool} {c : List Instr} (s u : Shape) (n place bytes m room : ℕ) (src : From) (dst : To) → n ≡ flat_length S.from s → m ≡ flat_length S.to u
    → FromUsed used (from_part n place bytes src) → ToUsed used (to_spot m room dst) → IsApartAt (flat_length S.to u) (to_spot m room dst)
    → Moves S used 0 100 (from_part n place bytes src) (to_spot m room dst) (move (transfer S) s u) c
    → Moves S used 0 100 (from_part n place bytes src) (to_spot m room dst) (move_fields (transfer S) (single s) (single u) 0) c
single_at {S} {used} {c} s u n place bytes m room src dst en em fu tu apart one =
    let part : From = from_part n place bytes src in
    let spot : To = to_spot m room dst in
    let act : Source → Target → Action (List CoreValue) = move (transfer S) s u in
    let z : ℕ = place_in (width_of_side S.from) (only_field s) in
    let z' : ℕ = place_of (width_of_side S.to) u 0 in
    let part_is : from_part (flat_length S.from s) 0 z part ≡ part = ap (λ k. from_part k 0 z part) (sym en) ∙ part_again n place bytes z src (field_zero (width_of_side S.from) s) in
    let spot_is : to_spot (flat_length S.to u) z' spot ≡ spot = ap (λ k. to_spot k z' spot) (sym em) ∙ spot_again m room z' dst (first_zero (width_of_side S.to) u) in
    let here = subst (λ y. Moves S used 0 100 y (to_spot (flat_length S.to u) z' spot) act c) (sym part_is) (subst (λ y. Moves S used 0 100 part y act c) (sym spot_is) one) in
    let none = subst (λ k. Moves S (with_to used (to_spot (flat_length S.to u) z' spot)) 0 0 part (to_past k spot) (move_fields (transfer S) (single s) no_members (next_of (width_of_side S.to) u 0)) []) em (nothing_left m room dst (single s) (next_of (width_of_side S.to) u 0)) in
    subst (Moves S used 0 100 part spot (move_fields (transfer S) (single s) (single u) 0)) (append-nil c)
    (moves_member (single s) no_members [] u 0 (only_field s) refl fu tu apart here none)

-- ---- the places of elements

times_add : (i k : ℕ) (xs : List FlatType) → times (i + k) xs ≡ times i xs ++ times k xs
times_add zero k xs = let same : 0 + k ≡ k = omega arith in ap (λ n. times n xs) same
times_add (suc i) k xs =
    let same : suc i + k ≡ suc (i + k) = omega arith in
    ap (λ n. times n xs) same ∙ ap (λ ys. xs ++ ys) (times_add i k xs) ∙ sym (append_assoc xs (times i xs) (times k xs))

length_times : (n : ℕ) (xs : List FlatType) → length (times n xs) ≡ n * length xs
length_times zero xs = omega arith
length_times (suc n) xs = let h = length_times n xs in omega (arith, h, length-append xs (times n xs))

-- the bytes of an element are among those of all
byte_room : (i n size offset most : ℕ) → offset + size * (i + suc n) ≤ most → offset + i * size + size ≤ most
byte_room i n size offset most le = omega (arith, le)

part_room : (i n size : ℕ) → i * size + size ≤ size * (i + suc n)
part_room i n size = omega arith

few_flats : (i n f most : ℕ) → (i + suc n) * f ≤ most → (f ≤ most) × (i * f ≤ most)
few_flats i n f most le = (omega (arith, le), omega (arith, le))

module _ (M : WasmModule) (p : ImportPlaces) (locals : List ValType) (o : LiftLowerOptions) (memory64 : Bool) (s : Shape) (i n : ℕ) where
  abbrev flats : List FlatType
  flats = flat_members (width_of_side o) (single s)

  abbrev bytes : ℕ
  bytes = bytes_of_shape (width_of_side o) s

  abbrev ReadsAll : From → Type 0
  ReadsAll src = CanRead M p locals o memory64 src (times (i + suc n) flats) (bytes * (i + suc n))

  abbrev WritesLeft : To → Type 0
  WritesLeft dst = CanWrite M p locals o memory64 dst (times (suc n) flats) (bytes * (i + suc n))

  element_read : (src : From) → ReadsAll src → CanRead M p locals o memory64 (from_part (length flats) (i * length flats) (i * bytes) src) (flat (width_of_side o) s) bytes
  element_read (InLocals slots) c =
      let split = subst (SlotsFit locals slots) (times_add i (suc n) flats) c in
      let front = slots_front flats (times n flats) (drop (length (times i flats)) slots) (slots_behind (times i flats) (flats ++ times n flats) slots split) in
      subst (λ k. SlotsFit locals (take (length flats) (drop k slots)) (flat (width_of_side o) s)) (length_times i flats)
      (subst (SlotsFit locals (take (length flats) (drop (length (times i flats)) slots))) (one_flats (width_of_side o) s) front)
  element_read (InMemory memory base offset) c = record { side = c.side; local = c.local; reach = byte_room i n bytes offset 4294967295 c.reach }

  element_write : (dst : To) → WritesLeft dst → CanWrite M p locals o memory64 (to_spot (length flats) (i * bytes) dst) (flat (width_of_side o) s) bytes
  element_write (ToLocals slots) c = subst (SlotsFit locals (take (length flats) slots)) (one_flats (width_of_side o) s) (slots_front flats (times n flats) slots c)
  element_write (ToMemory memory base offset) c = record { side = c.side; local = c.local; reach = byte_room i n bytes offset 4294967295 c.reach }

  rest_write : (dst : To) → WritesLeft dst → CanWrite M p locals o memory64 (to_past (length flats) dst) (times n flats) (bytes * (suc i + n))
  rest_write (ToLocals slots) c = slots_behind flats (times n flats) slots c
  rest_write (ToMemory memory base offset) c = record { side = c.side; local = c.local; reach = let le = c.reach in omega (arith, le) }

  few_source : (slots : List Slot) → ReadsAll (InLocals slots) → (length flats ≤ 16) × (i * length flats ≤ 16)
  few_source slots c = few_flats i n (length flats) 16 (let all = room_length (times (i + suc n) flats) slots c.room in omega (arith, all, length_times (i + suc n) flats, c.few))

  few_target : (slots : List Slot) → WritesLeft (ToLocals slots) → length flats ≤ 16
  few_target slots c = let all = room_length (times (suc n) flats) slots c.room in omega (arith, all, length-append flats (times n flats), c.few)

  -- the numbers of a part are those of the element
  module _ (count size : ℕ) (count_is : length (flat (width_of_side o) s) ≤ 16 → count ≡ length (flat (width_of_side o) s)) (size_is : size ≡ bytes) where
    counted : length flats ≤ 16 → count ≡ length flats
    counted few = let same = ap length (one_flats (width_of_side o) s) in count_is (omega (arith, same, few)) ∙ sym same

    nth_part_is : (src : From) → ReadsAll src → nth_from count size i src ≡ from_part (length flats) (i * length flats) (i * bytes) src
    nth_part_is (InLocals slots) c =
        let few = few_source slots c in
        let exact : min (i * length flats) 18446744073709551615 ≡ i * length flats = omega (arith, few.1) in
        ap (λ k. InLocals (take k (drop (min (i * k) 18446744073709551615) slots))) (counted few.0) ∙ ap (λ k. InLocals (take (length flats) (drop k slots))) exact
    nth_part_is (InMemory memory base offset) c =
        let room = byte_room i n bytes offset 4294967295 c.reach in
        let exact : offset_on offset (min (i * bytes) 4294967295) ≡ offset + i * bytes = omega (arith, room) in
        ap (λ b. InMemory memory base (offset_on offset (min (i * b) 4294967295))) size_is ∙ ap (InMemory memory base) exact

    nth_spot_is : (dst : To) → WritesLeft dst → nth_to count size i dst ≡ to_spot (length flats) (i * bytes) dst
    nth_spot_is (ToLocals slots) c = ap (λ k. ToLocals (take k slots)) (counted (few_target slots c))
    nth_spot_is (ToMemory memory base offset) c =
        let room = byte_room i n bytes offset 4294967295 c.reach in
        let exact : offset_on offset (min (i * bytes) 4294967295) ≡ offset + i * bytes = omega (arith, room) in
        ap (λ b. ToMemory memory base (offset_on offset (min (i * b) 4294967295))) size_is ∙ ap (ToMemory memory base) exact

    past_is : (dst : To) → WritesLeft dst → to_past count dst ≡ to_past (length flats) dst
    past_is (ToLocals slots) c = ap (λ k. ToLocals (drop k slots)) (counted (few_target slots c))
    past_is (ToMemory memory base offset) c = refl

-- ---- an element, and then the others

-- the numbers that the code of elements is written by: their flat types, where these are few, and their bytes
pub record AreElementNumbers (sides : Sides) (s u : Shape) (from_count from_size to_count to_size : ℕ) : Type 0 where
  pub from_counted : (w : MemoryWidth) → length (flat w s) ≤ 16 → from_count ≡ length (flat w s)
  pub to_counted : (w : MemoryWidth) → length (flat w u) ≤ 16 → to_count ≡ length (flat w u)
  pub from_bytes : from_size ≡ (extent (width sides.from.memory64) (layout_of s)).size
  pub to_bytes : to_size ≡ (extent (width sides.to.memory64) (layout_of u)).size

elements_join : {sides : Sides} {src : From} {dst : To} {taken : ℕ → Bool} {s u : Shape} {from_count from_size to_count to_size : ℕ} → AreElementNumbers sides s u from_count from_size to_count to_size → (i n : ℕ)
    → (M : WasmModule) (p : ImportPlaces) (locals : List ValType) (c k : List Instr) → MovesHelped sides (nth_from from_count from_size i src) (nth_to to_count to_size i dst) taken s u M p locals c
    → MovesElements sides src (to_past to_count dst) taken (i + suc n) (suc i) n s u M p locals k → MovesElements sides src dst taken (i + suc n) i (suc n) s u M p locals (c ++ k)
elements_join {sides} {src} {dst} {taken} {s} {u} {from_count} {from_size} {to_count} {to_size} h i n M p locals c k one rest = record {
  moves = λ a b rooms used using fit.
      let S = setting_of sides a b rooms M p locals in
      let f = element_flats a (single s) in
      let g = element_flats b (single u) in
      let size = bytes_of_shape (width_of_side a) s in
      let size' = bytes_of_shape (width_of_side b) u in
      let part : From = from_part f (i * f) (i * size) src in
      let spot : To = to_spot g (i * size') dst in
      let from_is : nth_from from_count from_size i src ≡ part = nth_part_is M p locals a S.from64 s i n from_count from_size (h.from_counted (width_of_side a)) (h.from_bytes ∙ ap (λ m. (extent (width m) (layout_of s)).size) (sym fit.from_wide)) src fit.reads in
      let to_bytes_is = h.to_bytes ∙ ap (λ m. (extent (width m) (layout_of u)).size) (sym fit.to_wide) in
      let to_is : nth_to to_count to_size i dst ≡ spot = nth_spot_is M p locals b S.to64 u i n to_count to_size (h.to_counted (width_of_side b)) to_bytes_is dst fit.writes in
      let after_is : to_past to_count dst ≡ to_past g dst = past_is M p locals b S.to64 u i n to_count to_size (h.to_counted (width_of_side b)) to_bytes_is dst fit.writes in
      let one' = subst (λ x. MovesHelped sides x spot taken s u M p locals c) from_is (subst (λ y. MovesHelped sides (nth_from from_count from_size i src) y taken s u M p locals c) to_is one) in
      let rest' = subst (λ y. MovesElements sides src y taken (i + suc n) (suc i) n s u M p locals k) after_is rest in
      let here = using_spot using f (i * f) (i * size) g (i * size') in
      let room' : size' * (suc i + n) ≡ size' * (i + suc n) = omega arith in
      let fits_here : FitsShapes sides S s u part spot = record {
        from_wide = fit.from_wide;
        to_wide = fit.to_wide;
        reads = element_read M p locals a S.from64 s i n src fit.reads;
        writes = element_write M p locals b S.to64 u i n dst fit.writes;
        within = record { source = part_within rooms.from (size * (i + suc n)) size f (i * f) (i * size) src (part_room i n size) fit.within.source; target = spot_within rooms.to (size' * (i + suc n)) size' g (i * size') dst (part_room i n size') fit.within.target };
        lists = fit.lists;
      } in
      let fits_later : FitsElements sides S (i + suc n) (suc i) n s u src (to_past g dst) = record {
        from_wide = fit.from_wide;
        to_wide = fit.to_wide;
        reads = fit.reads;
        writes = rest_write M p locals b S.to64 u i n dst fit.writes;
        within = record { source = fit.within.source; target = subst (ToWithin rooms.to (to_past g dst)) (sym room') (past_within rooms.to _ g dst fit.within.target) };
        lists = fit.lists;
      } in
      moves_element f size g size' (λ x y. move_fields (transfer S) (single s) (single u) 0 x y) i n using.from using.to (apart_dst g dst using.distinct)
      (single_at s u f (i * f) (i * size) g (i * size') src dst (ap length (one_flats (width_of_side a) s)) (ap length (one_flats (width_of_side b) u)) here.from here.to (apart_dst (flat_length b u) spot here.distinct) (one'.moves a b rooms used here fits_here))
      (rest'.moves a b rooms (with_to used spot) (using_past using g (i * size')) fits_later);
}

-- no element is left
elements_none : {sides : Sides} {src : From} {dst : To} {taken : ℕ → Bool} {s u : Shape} (all i : ℕ) (M : WasmModule) (p : ImportPlaces) (locals : List ValType) → MovesElements sides src dst taken all i 0 s u M p locals []
elements_none {dst = dst} {s = s} {u} all i M p locals = record {
  moves = λ a b rooms used using fit. record {
    effect = λ ls x y e st g r. done refl (stood b _ _ dst ls fit.writes, keeps_all);
    typed = typed_done;
  };
}
  where
    stood : (o : LiftLowerOptions) (memory64 : Bool) (most : ℕ) (dst : To) (ls : Locals) → CanWrite M p locals o memory64 dst [] most → Stood ls dst []
    stood o memory64 _ (ToLocals []) ls c = tt
    stood o memory64 _ (ToLocals (s ∷ ss)) ls c = absurd c.room
    stood o memory64 _ (ToMemory memory base offset) ls c = refl

-- All elements are the list.
elements_all : {sides : Sides} {src : From} {dst : To} {taken : ℕ → Bool} {s u : Shape} (all : ℕ) (M : WasmModule) (p : ImportPlaces) (locals : List ValType) (code : List Instr)
    → MovesElements sides src dst taken all 0 all s u M p locals code → MovesNode sides src dst taken (fixed_of all s) (fixed_of all u) M p locals code
elements_all {sides} {src} {dst} {s = s} {u} all M p locals code m = record {
  moves = λ a b rooms used using fit.
      let S = setting_of sides a b rooms M p locals in
      let act : Source → Target → Action (List CoreValue) = λ x y. move_fields (transfer S) (single s) (single u) 0 x y in
      let size_is : bytes_of_shape (width_of_side a) s ≡ (entry_extent a (single s)).size = ap (λ (x : Extent). x.size) (sym (single_extent (width_of_side a) s)) in
      let size_is' : bytes_of_shape (width_of_side b) u ≡ (entry_extent b (single u)).size = ap (λ (x : Extent). x.size) (sym (single_extent (width_of_side b) u)) in
      let zero_more : all ≡ 0 + all = omega arith in
      let w = width_of_side a in
      let w' = width_of_side b in
      let bytes_are : bytes_of_shape w' (fixed_of all u) ≡ bytes_of_shape w' u * (0 + all) = fixed_bytes w' all u ∙ ap (λ k. bytes_of_shape w' u * k) zero_more in
      let fits : FitsElements sides S all 0 all s u src dst = record {
        from_wide = fit.from_wide;
        to_wide = fit.to_wide;
        reads = subst (CanRead M p locals a S.from64 src (times all (flat_members w (single s)))) (fixed_bytes w all s) fit.reads;
        writes = subst (CanWrite M p locals b S.to64 dst (times all (flat_members w' (single u)))) bytes_are fit.writes;
        within = record { source = subst (FromWithin rooms.from src) (fixed_bytes w all s) fit.within.source; target = subst (ToWithin rooms.to dst) bytes_are fit.within.target };
        lists = λ e. fit.lists (ap (λ b. b || false) e);
      } in
      moves_fixed_by_parts S used (single s) (single u) all
      (moves_same (λ x y. ap (λ z. elements_from (element_flats a (single s)) z (element_flats b (single u)) (bytes_of_shape (width_of_side b) u) act 0 all x y) size_is
      ∙ ap (λ z. elements_from (element_flats a (single s)) (entry_extent a (single s)).size (element_flats b (single u)) z act 0 all x y) size_is')
      (m.moves a b rooms used using fits));
}

-- ---- as it is written

-- How a loop over elements stands before the element of a number: code for those that are left, behind what was written, moves all.
pub record ElementsRun (t : Tables) (from to : InterfaceType) (e : FixedElements) (i : ℕ) (sides : Sides) (src : From) (dst spots : To) (before between : Fuel) (first now : Writer) : Type 0 where
  pub asks : List AskedHelper
  pub grew : GrewAsking asks first now
  pub asked : AreAsked t sides (suc (height t to)) now.sections asks
  pub goes_on : (s u : Shape) → HasShape t from s → HasShape t to u → IsCounted s → IsCounted u → CanMoveMember s u → AreFixedElements sides e s u → (n : ℕ) → i + n ≡ e.count → (later : List AskedHelper) (last : Writer)
      → EmitsAsking later now last (MovesElements sides src spots (taken_in first) e.count i n s u) → EmitsAsking (asks ++ later) first last (MovesElements sides src dst (taken_in first) e.count 0 e.count s u)
  pub place : place_of_target spots ≡ place_of_target dst
  pub translated : (s u : Shape) → HasShape t from s → HasShape t to u → IsCounted s → IsCounted u → CanMoveMember s u → (n : ℕ) → i + n ≡ e.count → (later : List AskedHelper) (after : Fuel)
      → TranslatesAs t sides src dst between after later (λ i r. translates_times n (translates i r s u)) → TranslatesAs t sides src dst before after (asks ++ later) (λ i r. translates_times e.count (translates i r s u))

pub elements_begin : {t : Tables} {from to : InterfaceType} {e : FixedElements} {sides : Sides} {src : From} {dst : To} {first : Writer} {before : Fuel} → ElementsRun t from to e 0 sides src dst dst before before first first
elements_begin {t} {e = e} {sides} {src} {dst} {first} {before} = record {
  grew = grew_nothing first;
  asks = [];
  asked = record { each = tt };
  goes_on = λ s u hs hu cs cu can elements n is later last x. let same : n ≡ e.count = omega (arith, is) in subst (λ k. EmitsAsking later first last (MovesElements sides src dst (taken_in first) e.count 0 k s u)) same x;
  place = refl;
  translated = λ s u hs hu cs cu can n is later after x. let same : n ≡ e.count = omega (arith, is) in subst (λ k. TranslatesAs t sides src dst before after later (λ i r. translates_times k (translates i r s u))) same x;
}

pub element_passed : {t : Tables} {from to : InterfaceType} {e : FixedElements} {i : ℕ} {sides : Sides} {src psrc : From} {dst spots spot after : To} {first now then' : Writer} {begun between left : Fuel} (from_count to_count : ℕ)
    → ((s : Shape) → HasShape t from s → from_count ≡ unwrap_or (layout_of s).flat_count 0) → ((u : Shape) → HasShape t to u → to_count ≡ unwrap_or (layout_of u).flat_count 0)
    → psrc ≡ nth_from from_count e.from_size i src → spot ≡ nth_to to_count e.to_size i spots → after ≡ to_past to_count spots → MovedValue t from to sides psrc spot between left now then'
    → i < e.count → ElementsRun t from to e i sides src dst spots begun between first now → ElementsRun t from to e (i + 1) sides src dst after begun left first then'
element_passed {t} {e = e} {i} {sides} {src} {psrc} {dst} {spots} {spot} {after} {first} {now} {then'} {begun} {between} {left} from_count to_count from_is to_is part_at spot_at after_at m lt r = record {
  grew = grew_on r.grew m.grew;
  asks = r.asks ++ m.asks;
  asked = asked_both m.grew.imports r.asks m.asks r.asked m.asked;
  goes_on = λ s u hs hu cs cu can elements n is later last x.
      let numbers : AreElementNumbers sides s u from_count e.from_size to_count e.to_size = record {
        from_counted = λ w few. from_is s hs ∙ flat_is w s (layout_of s).flat_count refl cs few;
        to_counted = λ w few. to_is u hu ∙ flat_is w u (layout_of u).flat_count refl cu few;
        from_bytes = elements.from;
        to_bytes = elements.to;
      } in
      let taken : ℕ → Bool = taken_in first in
      let still : taken_in now ≡ taken = λ j. λ i. (r.grew.still i) j in
      let all_is : i + suc n ≡ e.count = omega (arith, is) in
      let next : i + 1 ≡ suc i = omega arith in
      let one = subst (λ t. EmitsAsking m.asks now then' (MovesHelped sides (nth_from from_count e.from_size i src) (nth_to to_count e.to_size i spots) t s u)) still
      (subst (λ y. EmitsAsking m.asks now then' (MovesHelped sides (nth_from from_count e.from_size i src) y (taken_in now) s u)) spot_at (subst (λ y. EmitsAsking m.asks now then' (MovesHelped sides y spot (taken_in now) s u)) part_at (m.emits s u hs hu cs cu can))) in
      let rest = subst (λ a. EmitsAsking later then' last (MovesElements sides src (to_past to_count spots) taken a (suc i) n s u)) (sym all_is)
      (subst (λ j. EmitsAsking later then' last (MovesElements sides src (to_past to_count spots) taken e.count j n s u)) next (subst (λ y. EmitsAsking later then' last (MovesElements sides src y taken e.count (i + 1) n s u)) after_at x)) in
      subst (λ asks. EmitsAsking asks first last (MovesElements sides src dst taken e.count 0 e.count s u)) (sym (append_assoc r.asks m.asks later))
      (r.goes_on s u hs hu cs cu can elements (suc n) all_is (m.asks ++ later) last (subst (λ a. EmitsAsking (m.asks ++ later) now last (MovesElements sides src spots taken a i (suc n) s u)) all_is (emits_then (elements_join numbers i n) one rest)));
  place = ap place_of_target after_at ∙ past_place to_count spots ∙ r.place;
  translated = λ s u hs hu cs cu can n is later last x.
      let all_is : i + suc n ≡ e.count = omega (arith, is) in
      let here : TranslatesAs t sides src dst between left m.asks (λ i r. translates i r s u) =
      translated_at (ap place_of_source part_at ∙ part_place (min (i * from_count) 18446744073709551615) from_count (min (i * e.from_size) 4294967295) src)
      (ap place_of_target spot_at ∙ spot_place 0 to_count (min (i * e.to_size) 4294967295) spots ∙ r.place) (m.translated s u hs hu cs cu can) in
      let both : TranslatesAs t sides src dst between last (m.asks ++ later) (λ i r. translates_times (suc n) (translates i r s u)) = both_translated here x in
      subst (λ asks. TranslatesAs t sides src dst begun last asks (λ i r. translates_times e.count (translates i r s u))) (sym (append_assoc r.asks m.asks later))
      (r.translated s u hs hu cs cu can (suc n) all_is (m.asks ++ later) last both);
}

pub elements_end : {t : Tables} {from to : InterfaceType} {e : FixedElements} {i : ℕ} {sides : Sides} {src : From} {dst spots : To} {first last : Writer} {before after : Fuel} → i ≡ e.count → ElementsRun t from to e i sides src dst spots before after first last
    → MovedElements t from to e e.count sides src dst before after first last
elements_end {t} {e = e} {i} {sides} {src} {dst} {spots} {first} {last} {before} {after} is r = record {
  grew = r.grew;
  asks = r.asks;
  asked = r.asked;
  emits = λ s u hs hu cs cu can elements.
      subst (λ asks. EmitsAsking asks first last (MovesNode sides src dst (taken_in first) (fixed_of e.count s) (fixed_of e.count u))) (append-nil r.asks)
      (emits_as (elements_all e.count) (r.goes_on s u hs hu cs cu can elements 0 (omega (arith, is)) [] last (emits_nothing (λ M p locals. elements_none e.count i M p locals))));
  translated = λ s u hs hu cs cu can.
      subst (λ asks. TranslatesAs t sides src dst before after asks (λ i r. translates_times e.count (translates i r s u))) (append-nil r.asks)
      (r.translated s u hs hu cs cu can 0 (omega (arith, is)) [] after (nothing_translated (λ i r n. refl)));
}
