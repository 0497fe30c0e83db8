-- The code of a list: what stands in front of its elements, the loop, and the new list behind it, in locals that are taken around all.
use Rattle.std.proofs.Common.{◌≡◌, ℕ, zero, suc, ◌<◌, ◌≤◌, Bool, true, false, List, [], ◌∷◌, ◌++◌, Option, Some, refl, sym, ap, ◌∙◌, subst, arith, append_assoc}
use Rattle.std.specs.Prelude.{nat_eq}
use Rattle.std.specs.List.{AllByRecursion, filter_map}
use Rattle.fact_wasm.specs.declared.types.ValType.{ValType}
use Rattle.fact_wasm.specs.declared.types.ValType.TheVariants as val
use Rattle.fact_wasm.specs.declared.instr.Instr.{Instr}
use Rattle.fact_wasm.specs.declared.instr.Instr.TheVariants as I
use Rattle.fact_wasm.specs.declared.module.WasmModule.{WasmModule}
use Rattle.fact_types.specs.declared.abi.CanonicalAbiInfo.{CanonicalAbiInfo}
use Rattle.fact_types.specs.declared.import.Import.TheVariants as import
use Rattle.fact_types.specs.declared.outside.UnsafeIntrinsic.TheVariants as slot
use Rattle.fact_types.specs.declared.outside.Trap.TheVariants.{UnalignedPointer, ListOutOfBounds}
use Rattle.fact_types.specs.declared.extents.MemoryWidth.{MemoryWidth}
use Rattle.fact_types.specs.declared.extents.MemoryWidth.TheVariants.{Memory32, Memory64}
use Rattle.fact_types.specs.FlatShapes.{pointer as flat_pointer}
use Rattle.fact_types.specs.Layout.{extent, payloads, record_layout, pointer_pair_layout}
use Rattle.fact_types.specs.Shapes.{k_tuple, k_list, k_map, s_node, Members, layouts_of, ends_of}
use Rattle.fact_types.specs.Signatures.{width}
use Rattle.fact_types.specs.Sound.{TakesBytes}
use Rattle.fact_types.proofs.PlaceLaws.{ends_within}
use Rattle.fact_machine.specs.declared.types.CoreValue.{CoreValue}
use Rattle.fact_types.specs.Adapters.{is_wide}
use Rattle.fact_actions.specs.Actions.{Action, Visit}
use Rattle.fact_actions.specs.Moves.{move_fields, move_list, entry_extent}
use Rattle.fact_actions.specs.Running.{ImportPlaces}
use Rattle.fact_actions.specs.Sides.{LiftLowerOptions, Source, AtAddress, Target, Into, width_of_side}
use Rattle.fact_code_laws.specs.Code.{counted_code}
use Rattle.fact_code_laws.specs.Lists.{is_few, few_guard, bytes_code, bump_code, count_code, left_code, address_code, put_code}
use Rattle.fact_code_laws.specs.Places.{From, InMemory, To, ToMemory, DebugChecks, Rooms, Setting, transfer, AreLocals, Moves, size_of, widen}
use Rattle.fact_code_laws.specs.Tests.{HasUnaligned, pointer_of_width, read_into, region_code}
use Rattle.fact_code_laws.proofs.Blocks.{weaker}
use Rattle.fact_code_laws.proofs.Keeping.{room_at}
use Rattle.fact_code_laws.proofs.ListCode.{realloc_code}
use Rattle.fact_code_laws.proofs.ListMoves.{list_code, slots_of}
use Rattle.fact_code_laws.proofs.ListNodes.{ListPlaces, IsList, listed, moves_elements}
use Rattle.fact_code_laws.proofs.ListTurns.{list_type}
use Rattle.fact_code_laws.proofs.Pairs.{PairFrom, PairTo, all_from, second_from, all_to}
use Rattle.fact_code_laws.proofs.Temporaries.{Temporaries}
use Rattle.fact_code_laws.proofs.UsedLocals.{with_temps, temps_here}
use Rattle.fact_emit.specs.declared.places.Sides.{Sides}
use Rattle.fact_emit.specs.declared.writer.Writer.{Writer}
use Rattle.fact_emit.specs.Asked.{AskedHelper}
use Rattle.fact_emit.specs.Emits.{GrewAsking, EmitsAsking}
use Rattle.fact_emit.specs.Imports.{AreOnce}
use Rattle.fact_emit.specs.Fitting.{CanRead, CanWrite, FitsFields, MovesNode}
use Rattle.fact_emit.specs.NamedFunctions.{defined_place}
use Rattle.fact_emit.specs.Numbers.{HasUpperAt}
use Rattle.fact_emit.specs.Pairs.{length_from, length_to, put_pair_code}
use Rattle.fact_emit.specs.Pieces.{Both}
use Rattle.fact_emit.specs.Places.{AreDistinctSlots, checks_at, setting_of, Using}
use Rattle.fact_emit.specs.RuntimeCalls.{slots_of as slots_at_of}
use Rattle.fact_emit.specs.Requests.{request_code, ServesLists}
use Rattle.fact_emit.specs.Writers.{Began}
use Rattle.fact_emit.proofs.BroughtLaws.{brought_as, brought_between}
use Rattle.fact_emit.proofs.Emitting.{body_is, same_locals, same_still, same_types, sooner, still_numbers}
use Rattle.fact_emit.proofs.ImportLaws.{extended_none, extended_on, grows_on}
use Rattle.fact_emit.proofs.NamedLaws.{ranged_append}
use Rattle.fact_kinds.specs.declared.lists.Elements.{Elements}
use Rattle.fact_kinds.specs.declared.lists.ListLocals.{ListLocals}
use Rattle.fact_kinds.specs.Asks.{MovesHelpedFields}
use Rattle.fact_kinds.specs.Lists.{list_slots, OpensList, ClosesList, begin_code, asks_code, list_context, turn_end_code}
use Rattle.fact_kinds.proofs.Alignments.{aligns_shape}
use Rattle.fact_kinds.proofs.ListRanged.{counted_named, counted_ranged, left_ranged, put_ranged, turn_end_ranged}
use Rattle.fact_kinds.proofs.PairPlaces.{PairReads, PairWrites, pair_from, pair_to, second_from_is, second_to_is, first_readable, second_readable, first_from_typed, second_from_typed, first_writable, second_writable, first_to_typed, second_to_typed, from_used, read_first_is, put_first_is, apart_of}
use Rattle.fact_kinds.proofs.SlotTemporaries.{slot_at, all_at, typed_at, distinct_at, unkept, with_temps_within}

-- ---- the locals as temporaries

types_are : (w1 w2 : Bool) (l : ListLocals) (j : ℕ) → j < 10 → (slot_at (list_slots w1 w2 l) j).1 ≡ list_type w1 w2 j
types_are w1 w2 l zero h = refl
types_are w1 w2 l (suc zero) h = refl
types_are w1 w2 l (suc (suc zero)) h = refl
types_are w1 w2 l (suc (suc (suc zero))) h = refl
types_are w1 w2 l (suc (suc (suc (suc zero)))) h = refl
types_are w1 w2 l (suc (suc (suc (suc (suc zero))))) h = refl
types_are w1 w2 l (suc (suc (suc (suc (suc (suc zero)))))) h = refl
types_are w1 w2 l (suc (suc (suc (suc (suc (suc (suc zero))))))) h = refl
types_are w1 w2 l (suc (suc (suc (suc (suc (suc (suc (suc zero)))))))) h = refl
types_are w1 w2 l (suc (suc (suc (suc (suc (suc (suc (suc (suc zero))))))))) h = refl
types_are w1 w2 l (suc (suc (suc (suc (suc (suc (suc (suc (suc (suc j)))))))))) h = absurd (omega (arith, h))

-- ---- the code as that of a list's pieces

-- an entry of a list's members
abbrev pub entry_layout : Members → CanonicalAbiInfo
entry_layout ms = record_layout (payloads (layouts_of ms))

-- all parts, one behind the other
abbrev parts_code : (reads1 reads2 request puts : List Instr) (from64 to64 : Bool) (s1 a1 s2 a2 : ℕ) (log1 log2 : Option ℕ) (memory1 memory2 unaligned outside : ℕ) → ListLocals → (body : List Instr) → List Instr
parts_code reads1 reads2 request puts from64 to64 s1 a1 s2 a2 log1 log2 memory1 memory2 unaligned outside l body =
    reads1 ++ (reads2 ++ (few_guard (is_few from64 s1) l.number s1 outside ++ (few_guard (is_few to64 s2) l.number s2 outside
    ++ (bytes_code l.number s1 ++ (I.LocalSet l.bytes ∷ (region_code memory1 from64 log1 a1 l.pointer l.bytes l.length unaligned outside
    ++ (bytes_code l.number s2 ++ (I.LocalSet l.bytes ∷ (request
    ++ (region_code memory2 to64 log2 a2 l.address l.bytes l.length unaligned outside
    ++ (address_code from64 l.pointer ++ (I.LocalSet l.source ∷ (address_code to64 l.address ++ (I.LocalSet l.target ∷ I.LocalGet l.number ∷ I.LocalSet l.left
    ∷ (counted_code (left_code l.left) (body ++ (bump_code from64 l.source s1 ++ (bump_code to64 l.target s2 ++ count_code l.left))) ++ puts)))))))))))))))

-- code of an element was written in a loop, and the new list behind it
pub record LoopsList (sides : Sides) (x : Elements) (l : ListLocals) (taken : ℕ → Bool) (ms ns : Members) (dst : To) (M : WasmModule) (p : ImportPlaces) (locals : List ValType) (code : List Instr) : Type 0 where
  pub body : List Instr
  pub moves : MovesHelpedFields sides (InMemory sides.from.memory l.source 0) (ToMemory sides.to.memory l.target 0) taken ms ns 0 M p locals body
  pub is : code ≡ counted_code (left_code l.left) (body ++ turn_end_code sides.from.memory64 sides.to.memory64 x l) ++ put_pair_code sides.to.memory64 l.address l.number dst

-- what is known of the elements and of the locals when the code is written
pub record WritesList (sides : Sides) (x : Elements) (l : ListLocals) (taken inner : ℕ → Bool) (ms ns : Members) : Type 0 where
  pub from_size : x.from_size ≡ (extent (width sides.from.memory64) (entry_layout ms)).size
  pub from_align : x.from_align ≡ (extent (width sides.from.memory64) (entry_layout ms)).align
  pub to_size : x.to_size ≡ (extent (width sides.to.memory64) (entry_layout ns)).size
  pub to_align : x.to_align ≡ (extent (width sides.to.memory64) (entry_layout ns)).align
  pub from_small : ends_of (width sides.from.memory64) ms 0 ≤ 4294967295
  pub to_small : ends_of (width sides.to.memory64) ns 0 ≤ 4294967295
  pub from_takes : TakesBytes (entry_layout ms)
  pub to_takes : TakesBytes (entry_layout ns)
  pub free : AllByRecursion (λ s. taken s.0 ≡ false) (list_slots sides.from.memory64 sides.to.memory64 l)
  pub distinct : AreDistinctSlots (list_slots sides.from.memory64 sides.to.memory64 l)
  pub inside : (i : ℕ) → taken i ≡ true → inner i ≡ true
  pub temps : AllByRecursion (λ s. inner s.0 ≡ true) (list_slots sides.from.memory64 sides.to.memory64 l)

some_bytes : (w : MemoryWidth) (c : CanonicalAbiInfo) → TakesBytes c → 0 < (extent w c).size
some_bytes Memory32 c h = h.memory32
some_bytes Memory64 c h = h.memory64

-- what the parts are, as they were written
written_is : {sides : Sides} {x : Elements} {l : ListLocals} {src : From} {dst : To} {inner : ℕ → Bool} {ms ns : Members} (M : WasmModule) (p : ImportPlaces) (locals : List ValType) (c k : List Instr)
    → OpensList sides x l src M p locals c → (loop : LoopsList sides x l inner ms ns dst M p locals k)
    → c ++ k ≡ parts_code (read_into (checks_at sides.debug p) sides.from.memory64 src l.pointer) (read_into (checks_at sides.debug p) sides.from.memory64 (length_from sides.from.memory64 src) l.number)
    (request_code sides.concurrency (slots_at_of p (list_context l)) sides.to.realloc sides.to.memory64 x.to_align l.bytes ++ (widen (pointer_of_width sides.to.memory64) val.I64 ++ I.LocalSet l.address ∷ []))
    (put_pair_code sides.to.memory64 l.address l.number dst)
    sides.from.memory64 sides.to.memory64 x.from_size x.from_align x.to_size x.to_align sides.from.page_size_log2 sides.to.page_size_log2 sides.from.memory sides.to.memory (p.function (import.Trap UnalignedPointer)) (p.function (import.Trap ListOutOfBounds)) l loop.body
written_is {sides} {x} {l} {src} {dst} M p locals c k opened loop =
    let unaligned : ℕ = p.function (import.Trap UnalignedPointer) in
    let outside : ℕ = p.function (import.Trap ListOutOfBounds) in
    let from64 = sides.from.memory64 in
    let to64 = sides.to.memory64 in
    let r1 : List Instr = read_into (checks_at sides.debug p) from64 src l.pointer in
    let r2 : List Instr = read_into (checks_at sides.debug p) from64 (length_from from64 src) l.number in
    let f1 : List Instr = few_guard (is_few from64 x.from_size) l.number x.from_size outside in
    let f2 : List Instr = few_guard (is_few to64 x.to_size) l.number x.to_size outside in
    let g1 : List Instr = region_code sides.from.memory from64 sides.from.page_size_log2 x.from_align l.pointer l.bytes l.length unaligned outside in
    let g2 : List Instr = region_code sides.to.memory to64 sides.to.page_size_log2 x.to_align l.address l.bytes l.length unaligned outside in
    let request : List Instr = request_code sides.concurrency (slots_at_of p (list_context l)) sides.to.realloc to64 x.to_align l.bytes in
    let keep : List Instr = widen (pointer_of_width to64) val.I64 ++ I.LocalSet l.address ∷ [] in
    let asks : List Instr = asks_code sides.concurrency p sides.to x.to_size x.to_align l in
    let begin : List Instr = begin_code from64 to64 l in
    let last : List Instr = asks ++ begin in
    let bytes1 : List Instr = bytes_code l.number x.from_size in
    let bytes2 : List Instr = bytes_code l.number x.to_size in
    let begun : begin ++ k ≡ address_code from64 l.pointer ++ (I.LocalSet l.source ∷ (address_code to64 l.address ++ (I.LocalSet l.target ∷ I.LocalGet l.number ∷ I.LocalSet l.left ∷ k))) =
    append_assoc (address_code from64 l.pointer) (I.LocalSet l.source ∷ (address_code to64 l.address ++ (I.LocalSet l.target ∷ I.LocalGet l.number ∷ I.LocalSet l.left ∷ []))) k
    ∙ ap (λ e. address_code from64 l.pointer ++ (I.LocalSet l.source ∷ e)) (append_assoc (address_code to64 l.address) (I.LocalSet l.target ∷ I.LocalGet l.number ∷ I.LocalSet l.left ∷ []) k) in
    let asked : (e : List Instr) → (request ++ (keep ++ g2)) ++ e ≡ (request ++ keep) ++ (g2 ++ e) = λ e.
    append_assoc request (keep ++ g2) e ∙ ap (λ k. request ++ k) (append_assoc keep g2 e) ∙ sym (append_assoc request keep (g2 ++ e)) in
    let ends : last ++ k ≡ bytes2 ++ (I.LocalSet l.bytes ∷ ((request ++ keep) ++ (g2 ++ (begin ++ k)))) =
    append_assoc asks begin k ∙ append_assoc bytes2 (I.LocalSet l.bytes ∷ (request ++ (keep ++ g2))) (begin ++ k) ∙ ap (λ e. bytes2 ++ (I.LocalSet l.bytes ∷ e)) (asked (begin ++ k)) in
    let f2r : List Instr = bytes1 ++ (I.LocalSet l.bytes ∷ (g1 ++ last)) in
    ap (λ c. c ++ k) opened.is
    ∙ append_assoc r1 (r2 ++ (f1 ++ (f2 ++ f2r))) k ∙ ap (λ e. r1 ++ e) (append_assoc r2 (f1 ++ (f2 ++ f2r)) k
    ∙ ap (λ e. r2 ++ e) (append_assoc f1 (f2 ++ f2r) k ∙ ap (λ e. f1 ++ e) (append_assoc f2 f2r k ∙ ap (λ e. f2 ++ e) (append_assoc bytes1 (I.LocalSet l.bytes ∷ (g1 ++ last)) k
    ∙ ap (λ e. bytes1 ++ (I.LocalSet l.bytes ∷ e)) (append_assoc g1 last k
    ∙ ap (λ e. g1 ++ e) (ends ∙ ap (λ e. bytes2 ++ (I.LocalSet l.bytes ∷ ((request ++ keep) ++ (g2 ++ e)))) (begun
    ∙ ap (λ e. address_code from64 l.pointer ++ (I.LocalSet l.source ∷ (address_code to64 l.address ++ (I.LocalSet l.target ∷ I.LocalGet l.number ∷ I.LocalSet l.left ∷ e)))) loop.is)))))))

-- ---- what it does

module _ {sides : Sides} {x : Elements} {l : ListLocals} {taken inner : ℕ → Bool} {ms ns : Members} (h : WritesList sides x l taken inner ms ns) (M : WasmModule) (p : ImportPlaces) (locals : List ValType) (typed : AreLocals locals (list_slots sides.from.memory64 sides.to.memory64 l))
    (a b : LiftLowerOptions) (rooms : Rooms) (used : ℕ → Bool) where
  abbrev S : Setting
  S = setting_of sides a b rooms M p locals

  -- all bytes of an element have addresses
  abbrev element_rooms : Rooms
  element_rooms = record { from = (entry_extent a ms).size; to = (entry_extent b ns).size }

  abbrev temp : ℕ → ℕ
  temp j = (slot_at (list_slots sides.from.memory64 sides.to.memory64 l) j).0

  temporaries : ((i : ℕ) → used i ≡ true → taken i ≡ true) → Temporaries locals used 10 temp (list_type sides.from.memory64 sides.to.memory64)
  temporaries within = record {
    distinct = distinct_at (list_slots sides.from.memory64 sides.to.memory64 l) h.distinct;
    typed = λ j lt. typed_at locals (list_slots sides.from.memory64 sides.to.memory64 l) typed j lt ∙ ap Some (types_are sides.from.memory64 sides.to.memory64 l j lt);
    free = λ j lt. unkept within (temp j) (all_at (λ s. taken s.0 ≡ false) (list_slots sides.from.memory64 sides.to.memory64 l) h.free j lt);
  }

  -- the elements are moved with all temporaries in use
  element_using : ((i : ℕ) → used i ≡ true → taken i ≡ true) → Using inner (with_temps used temp 10) (InMemory sides.from.memory l.source 0) (ToMemory sides.to.memory l.target 0)
  element_using within = record {
    within = with_temps_within used inner temp (λ i u. h.inside i (within i u)) 10 (λ j lt. all_at (λ s. inner s.0 ≡ true) (list_slots sides.from.memory64 sides.to.memory64 l) h.temps j lt);
    from = temps_here used temp 10 6 (omega arith);
    to = temps_here used temp 10 7 (omega arith);
    target = tt;
    distinct = tt;
  }

  element_fits : is_wide a.memory ≡ sides.from.memory64 → is_wide b.memory ≡ sides.to.memory64 → ServesLists sides.from sides.to M p a b → FitsFields sides (setting_of sides a b element_rooms M p locals) ms ns 0 (InMemory sides.from.memory l.source 0) (ToMemory sides.to.memory l.target 0)
  element_fits from_wide to_wide serves = record {
    from_wide = from_wide;
    to_wide = to_wide;
    reads = record { side = serves.from_memory.side; local = (typed_at locals (list_slots sides.from.memory64 sides.to.memory64 l) typed 6 (omega arith)); reach = let r = subst (λ m. ends_of (width m) ms 0 ≤ 4294967295) (sym from_wide) h.from_small in omega (arith, r) };
    writes = record { side = serves.to_memory.side; local = (typed_at locals (list_slots sides.from.memory64 sides.to.memory64 l) typed 7 (omega arith)); reach = let r = subst (λ m. ends_of (width m) ns 0 ≤ 4294967295) (sym to_wide) h.to_small in omega (arith, r) };
    within = record { source = let le = ends_within (width_of_side a) ms in omega (arith, le); target = let le = ends_within (width_of_side b) ns in omega (arith, le) };
    lists = λ some. serves;
  }

  -- The code is that of the list's pieces, and does what a list's move does.
  module _ (from : PairFrom) (to : PairTo) (from_wide : is_wide a.memory ≡ sides.from.memory64) (to_wide : is_wide b.memory ≡ sides.to.memory64) (serves : ServesLists sides.from sides.to M p a b)
      (reads : PairReads M p locals (checks_at sides.debug p) a sides.from.memory64 from) (writes : PairWrites M p locals (checks_at sides.debug p) b sides.to.memory64 to) (using : Using taken used (all_from from) (all_to to))
      {c k : List Instr} (opened : OpensList sides x l (all_from from) M p locals c) (loop : LoopsList sides x l inner ms ns (all_to to) M p locals k) where
    abbrev places : ListPlaces
    places = record {
      from = from;
      to = to;
      memory1 = sides.from.memory;
      memory2 = sides.to.memory;
      temp = temp;
      unaligned = p.function (import.Trap UnalignedPointer);
      outside = p.function (import.Trap ListOutOfBounds);
      realloc = serves.realloc.def;
      realloc_at = serves.realloc.place;
      get0 = p.function (import.UnsafeIntrinsic slot.ContextGetI32_0);
      get1 = p.function (import.UnsafeIntrinsic slot.ContextGetI32_1);
      set0 = p.function (import.UnsafeIntrinsic slot.ContextSetI32_0);
      set1 = p.function (import.UnsafeIntrinsic slot.ContextSetI32_1);
    }

    abbrev act : Source → Target → Action (List CoreValue)
    act s d = move_fields (transfer S) ms ns 0 s d

    abbrev checks : DebugChecks
    checks = checks_at sides.debug p

    size1_is : x.from_size ≡ (entry_extent a ms).size
    size1_is = h.from_size ∙ ap (λ m. (extent (width m) (entry_layout ms)).size) (sym from_wide)

    align1_is : x.from_align ≡ (entry_extent a ms).align
    align1_is = h.from_align ∙ ap (λ m. (extent (width m) (entry_layout ms)).align) (sym from_wide)

    size2_is : x.to_size ≡ (entry_extent b ns).size
    size2_is = h.to_size ∙ ap (λ m. (extent (width m) (entry_layout ns)).size) (sym to_wide)

    align2_is : x.to_align ≡ (entry_extent b ns).align
    align2_is = h.to_align ∙ ap (λ m. (extent (width m) (entry_layout ns)).align) (sym to_wide)

    second_is : length_from sides.from.memory64 (all_from from) ≡ second_from (size_of (pointer_of_width sides.from.memory64)) from
    second_is = second_from_is M p locals checks a sides.from.memory64 from reads

    is_list : IsList S used places ms ns loop.body act
    is_list =
        let moves = loop.moves.moves a b element_rooms (with_temps used temp 10) (element_using using.within) (element_fits from_wide to_wide serves) in
        let from_uses = from_used used (size_of (pointer_of_width sides.from.memory64)) from using.from in
        record {
          some1 = some_bytes (width_of_side a) (entry_layout ms) h.from_takes;
          some2 = some_bytes (width_of_side b) (entry_layout ns) h.to_takes;
          masks1 = (aligns_shape (width_of_side a) (s_node k_tuple ms)).masks;
          masks2 = (aligns_shape (width_of_side b) (s_node k_tuple ns)).masks;
          temps = temporaries using.within;
          side1 = serves.from_memory.side;
          side2 = serves.to_memory.side;
          aligned1 = subst (λ n. HasUnaligned (nat_eq n 1) M p places.unaligned) align1_is opened.from_unaligned;
          aligned2 = subst (λ n. HasUnaligned (nat_eq n 1) M p places.unaligned) align2_is opened.to_unaligned;
          traps = opened.outside;
          realloc_is = serves.realloc.given;
          reallocs = serves.realloc.knows;
          slots = opened.slots;
          readable1 = first_readable M p locals checks a sides.from.memory64 from reads opened.has_pointer;
          readable2 = second_readable M p locals checks a sides.from.memory64 from reads (subst (HasUpperAt M p checks (pointer_of_width sides.from.memory64)) second_is opened.has_number);
          from_used1 = from_uses.0;
          from_used2 = from_uses.1;
          from_typed1 = first_from_typed M p locals checks a sides.from.memory64 from reads;
          from_typed2 = second_from_typed M p locals checks a sides.from.memory64 from reads;
          writable1 = first_writable M p locals checks b sides.to.memory64 to writes;
          writable2 = second_writable M p locals checks b sides.to.memory64 to writes;
          to_used = using.to;
          to_typed1 = first_to_typed M p locals checks b sides.to.memory64 to writes;
          to_typed2 = second_to_typed M p locals checks b sides.to.memory64 to writes;
          apart = apart_of l.number h.free.1.0 to using;
          element_does = λ ls y z e there there' room room'.
              weaker (λ vs. refl) (λ vs ls' r. r.1)
              (moves.effect ls (AtAddress y) (Into z) e (record { start = y; there = there; is = omega arith }) (record { start = z; there = there'; is = omega arith })
              (record { source = room_at sides.from.memory64 l.source y (entry_extent a ms).size there room; target = room_at sides.to.memory64 l.target z (entry_extent b ns).size there' room' }));
          element_typed = moves.typed;
        }

    request_is : (request_code sides.concurrency (slots_at_of p (list_context l)) sides.to.realloc sides.to.memory64 x.to_align l.bytes ++ (widen (pointer_of_width sides.to.memory64) val.I64 ++ I.LocalSet l.address ∷ []))
        ≡ realloc_code sides.concurrency (slots_of (listed S used places ms ns loop.body act)) sides.to.memory64 (entry_extent b ns).align l.bytes l.address serves.realloc.place
    request_is =
        let keep : List Instr = widen (pointer_of_width sides.to.memory64) val.I64 ++ I.LocalSet l.address ∷ [] in
        ap (λ o. request_code sides.concurrency (slots_at_of p (list_context l)) o sides.to.memory64 x.to_align l.bytes ++ keep) serves.realloc.is
        ∙ ap (λ n. request_code sides.concurrency (slots_at_of p (list_context l)) (Some serves.realloc.place) sides.to.memory64 n l.bytes ++ keep) align2_is

    code_is : c ++ k ≡ list_code S (listed S used places ms ns loop.body act) serves.from_memory.side.log2 serves.to_memory.side.log2
    code_is =
        let reads1 = read_first_is checks sides.from.memory64 l.pointer from in
        let reads2 = ap (λ f. read_into checks sides.from.memory64 f l.number) second_is in
        let puts1 = put_first_is sides.to.memory64 l.address to in
        let puts2 = ap (λ d. put_code sides.to.memory64 l.number d) (second_to_is M p locals checks b sides.to.memory64 to writes) in
        let log1 = sym serves.from_memory.log2 in
        let log2 = sym serves.to_memory.log2 in
        written_is M p locals c k opened loop
        ∙ (λ i. parts_code (reads1 i) (reads2 i) (request_is i) (puts1 i ++ puts2 i) sides.from.memory64 sides.to.memory64 (size1_is i) (align1_is i) (size2_is i) (align2_is i)
        (log1 i) (log2 i) sides.from.memory sides.to.memory places.unaligned places.outside l loop.body)

    pair_moves : Moves S used 0 516 (all_from from) (all_to to) (λ s d. Visit 1 (move_list (transfer S) ms ns act s d)) (c ++ k)
    unfolding is_list
    pair_moves = subst (Moves S used 0 516 (all_from from) (all_to to) (λ s d. Visit 1 (move_list (transfer S) ms ns act s d))) (sym code_is) (moves_elements S used places ms ns loop.body act is_list)

-- ---- a list, and a map

module _ {sides : Sides} {x : Elements} {l : ListLocals} {taken inner : ℕ → Bool} {ms ns : Members} (h : WritesList sides x l taken inner ms ns) where
  list_moves : {src : From} {dst : To} (M : WasmModule) (p : ImportPlaces) (locals : List ValType) (a b : LiftLowerOptions) (rooms : Rooms) (used : ℕ → Bool) → AreLocals locals (list_slots sides.from.memory64 sides.to.memory64 l)
      → is_wide a.memory ≡ sides.from.memory64 → is_wide b.memory ≡ sides.to.memory64 → ServesLists sides.from sides.to M p a b
      → CanRead M p locals a sides.from.memory64 src (flat_pointer (width_of_side a) ∷ flat_pointer (width_of_side a) ∷ []) (extent (width_of_side a) pointer_pair_layout).size
      → CanWrite M p locals b sides.to.memory64 dst (flat_pointer (width_of_side b) ∷ flat_pointer (width_of_side b) ∷ []) (extent (width_of_side b) pointer_pair_layout).size
      → Using taken used src dst → (c k : List Instr) → OpensList sides x l src M p locals c → LoopsList sides x l inner ms ns dst M p locals k
      → Moves (setting_of sides a b rooms M p locals) used 0 516 src dst (λ s d. Visit 1 (move_list (transfer (setting_of sides a b rooms M p locals)) ms ns (λ s d. move_fields (transfer (setting_of sides a b rooms M p locals)) ms ns 0 s d) s d)) (c ++ k)
  list_moves {src} {dst} M p locals a b rooms used typed from_wide to_wide serves reads writes using c k opened loop =
      let from64 = sides.from.memory64 in
      let to64 = sides.to.memory64 in
      let reads' = subst (λ m. CanRead M p locals a from64 src (flat_pointer (width m) ∷ flat_pointer (width m) ∷ []) (extent (width m) pointer_pair_layout).size) from_wide reads in
      let writes' = subst (λ m. CanWrite M p locals b to64 dst (flat_pointer (width m) ∷ flat_pointer (width m) ∷ []) (extent (width m) pointer_pair_layout).size) to_wide writes in
      let (from, from_is) = pair_from M p locals a from64 (flat_pointer (width from64)) (extent (width from64) pointer_pair_layout).size src reads' in
      let (to, to_is) = pair_to M p locals b to64 (flat_pointer (width to64)) (extent (width to64) pointer_pair_layout).size dst writes' in
      let S = setting_of sides a b rooms M p locals in
      let act : Source → Target → Action (List CoreValue) = λ s d. Visit 1 (move_list (transfer S) ms ns (λ s d. move_fields (transfer S) ms ns 0 s d) s d) in
      subst (λ s. Moves S used 0 516 s dst act (c ++ k)) (sym from_is) (subst (λ d. Moves S used 0 516 (all_from from) d act (c ++ k)) (sym to_is)
      (pair_moves h M p locals typed a b rooms used from to from_wide to_wide serves
      (subst (λ s. CanRead M p locals a from64 s (flat_pointer (width from64) ∷ flat_pointer (width from64) ∷ []) (extent (width from64) pointer_pair_layout).size) from_is reads')
      (subst (λ d. CanWrite M p locals b to64 d (flat_pointer (width to64) ∷ flat_pointer (width to64) ∷ []) (extent (width to64) pointer_pair_layout).size) to_is writes')
      (subst (λ d. Using taken used (all_from from) d) to_is (subst (λ s. Using taken used s dst) from_is using))
      (subst (λ s. OpensList sides x l s M p locals c) from_is opened) (subst (λ d. LoopsList sides x l inner ms ns d M p locals k) to_is loop)))

  pub list_piece : {src : From} {dst : To} (M : WasmModule) (p : ImportPlaces) (locals : List ValType) (code : List Instr) → AreLocals locals (list_slots sides.from.memory64 sides.to.memory64 l)
      → Both (OpensList sides x l src) (LoopsList sides x l inner ms ns dst) M p locals code → MovesNode sides src dst taken (s_node k_list ms) (s_node k_list ns) M p locals code
  list_piece {src} {dst} M p locals code typed k =
      subst (MovesNode sides src dst taken (s_node k_list ms) (s_node k_list ns) M p locals) (sym k.is) (record {
        moves = λ a b rooms used using fit. list_moves M p locals a b rooms used typed fit.from_wide fit.to_wide (fit.lists refl) fit.reads fit.writes using k.first k.second k.first_holds k.second_holds;
      })

  pub map_piece : {src : From} {dst : To} (M : WasmModule) (p : ImportPlaces) (locals : List ValType) (code : List Instr) → AreLocals locals (list_slots sides.from.memory64 sides.to.memory64 l)
      → Both (OpensList sides x l src) (LoopsList sides x l inner ms ns dst) M p locals code → MovesNode sides src dst taken (s_node k_map ms) (s_node k_map ns) M p locals code
  map_piece {src} {dst} M p locals code typed k =
      subst (MovesNode sides src dst taken (s_node k_map ms) (s_node k_map ns) M p locals) (sym k.is) (record {
        moves = λ a b rooms used using fit. list_moves M p locals a b rooms used typed fit.from_wide fit.to_wide (fit.lists refl) fit.reads fit.writes using k.first k.second k.first_holds k.second_holds;
      })

-- ---- as it was written

-- the code of an element was written aside, and became a loop
pub looped_grew : {asks : List AskedHelper} {c d e f : Writer} {sides : Sides} {x : Elements} {l : ListLocals} {dst : To} {outer : List Instr} → Began c d outer → GrewAsking asks d e → ClosesList sides x l outer dst e f → GrewAsking asks c f
looped_grew {c = c} {d} {e} {f} {sides} {x} {l} {dst} began m closed =
    let from64 = sides.from.memory64 in
    let to64 = sides.to.memory64 in
    let test : List Instr = left_code l.left in
    let ends : List Instr = turn_end_code from64 to64 x l in
    let puts : List Instr = put_code to64 l.address dst ++ put_code to64 l.number (length_to to64 dst) in
    let put = ranged_append 0 0 (put_code to64 l.address dst) (put_code to64 l.number (length_to to64 dst)) (put_ranged to64 l.address dst) (put_ranged to64 l.number (length_to to64 dst)) in
    let loop : List Instr → List Instr = λ body. counted_code test (body ++ ends) ++ puts in
    record {
      added = loop m.added;
      code = closed.code ∙ ap (λ o. o ++ loop e.code.items) began.outer ∙ ap (λ b. c.code.items ++ loop b) (body_is began.code m);
      calls = ap (filter_map defined_place) (counted_named test m.added ends puts (left_ranged l.left) (turn_end_ranged from64 to64 x l) put) ∙ m.calls;
      brought = brought_as (counted_named test m.added ends puts (left_ranged l.left) (turn_end_ranged from64 to64 x l) put) (counted_ranged test m.added ends puts (left_ranged l.left) (turn_end_ranged from64 to64 x l) put)
          (brought_between began.imports (sym closed.imports) m.brought);
      imports = extended_on (extended_none began.imports) (extended_on m.imports (extended_none closed.imports));
      once = λ o. subst AreOnce (sym closed.imports) (m.once (subst AreOnce (sym began.imports) o));
      locals = grows_on (same_locals c d began.locals) (grows_on m.locals (same_locals e f closed.locals));
      numbers = λ n. still_numbers e f (same_types e f closed.locals) (m.numbers (still_numbers c d (same_types c d began.locals) n));
      still = λ j. same_still e f closed.locals j ∙ m.still j ∙ same_still c d began.locals j;
    }

pub looped : {asks : List AskedHelper} {c d e f : Writer} {sides : Sides} {x : Elements} {l : ListLocals} {dst : To} {outer : List Instr} {taken : ℕ → Bool} {ms ns : Members} → Began c d outer
    → EmitsAsking asks d e (MovesHelpedFields sides (InMemory sides.from.memory l.source 0) (ToMemory sides.to.memory l.target 0) taken ms ns 0) → ClosesList sides x l outer dst e f
    → EmitsAsking asks c f (LoopsList sides x l taken ms ns dst)
unfolding looped_grew
looped {c = c} {d} {e} {f} began m closed = record {
  grew = looped_grew began m.grew closed;
  does = λ M p locals later h. record { body = m.grew.added; moves = m.does M p locals (sooner {a = e} (extended_none closed.imports) (same_locals e f closed.locals) later) h; is = refl };
}
