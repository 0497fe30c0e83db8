-- A list of fixed length from memory to memory: its loop, by the code of an element.
use Rattle.std.proofs.Common.{◌≡◌, ℕ, zero, suc, ◌+◌, ◌*◌, ◌<◌, ◌≤◌, Bool, true, false, List, [], ◌∷◌, ◌++◌, refl, sym, ap, ◌∙◌, subst, arith, append-nil}
use Rattle.std.specs.Prelude.{nat_eq, if◌then◌else◌}
use Rattle.std.specs.List.{AllByRecursion, filter_map}
use Rattle.std.proofs.lemmas.Bool.{eqb-true, eqb-false}
use Rattle.fact_wasm.specs.declared.instr.BlockType.TheVariants.{Empty}
use Rattle.fact_wasm.specs.declared.instr.Instr.{Instr, the_lemmas}
use Rattle.fact_wasm.specs.declared.instr.Instr.TheVariants as I
use Rattle.fact_wasm.specs.declared.types.ValType.{ValType}
use Rattle.fact_wasm.specs.declared.module.WasmModule.{WasmModule}
use Rattle.fact_wasm.specs.Ranges.{AreRanged}
use Rattle.fact_types.specs.declared.extents.Extent.{Extent}
use Rattle.fact_types.specs.declared.extents.MemoryWidth.{MemoryWidth}
use Rattle.fact_types.specs.declared.extents.MemoryWidth.TheVariants.{Memory32, Memory64}
use Rattle.fact_types.specs.Layout.{extent}
use Rattle.fact_types.specs.Shapes.{Shape, layout_of, ends_of}
use Rattle.fact_types.specs.Signatures.{width}
use Rattle.fact_machine.specs.declared.types.CoreValue.{CoreValue}
use Rattle.fact_actions.specs.Actions.{Action}
use Rattle.fact_actions.specs.Moves.{entry_extent, move_fields}
use Rattle.fact_actions.specs.Running.{ImportPlaces}
use Rattle.fact_actions.specs.Sides.{LiftLowerOptions, Source, Target, width_of_side}
use Rattle.fact_actions.proofs.ValidTypes.{single_extent}
use Rattle.fact_code_laws.specs.FixedLists.{FixedMove, again_code, countdown_code, offset_code}
use Rattle.fact_code_laws.specs.Lists.{add_code, bump_code, const_code}
use Rattle.fact_code_laws.specs.Places.{From, InMemory, To, ToMemory, Rooms, Setting, transfer, AreLocals}
use Rattle.fact_code_laws.proofs.FixedLoops.{IsFixedMove, with_fixed}
use Rattle.fact_code_laws.proofs.FixedMoves.{moves_fixed_in_memory}
use Rattle.fact_code_laws.proofs.UsedLocals.{with_local, local_here, local_more}
use Rattle.fact_emit.specs.declared.places.Address.{Address}
use Rattle.fact_emit.specs.declared.places.Sides.{Sides}
use Rattle.fact_emit.specs.declared.writer.Writer.{Writer}
use Rattle.fact_emit.specs.Asked.{AskedHelper}
use Rattle.fact_emit.specs.Emits.{Grew, GrewAsking, EmitsAsking}
use Rattle.fact_emit.specs.Fitting.{bytes_of_shape, FitsShapes, FitsFields, MovesNode}
use Rattle.fact_emit.specs.Imports.{AreOnce}
use Rattle.fact_emit.specs.NamedFunctions.{defined_place, functions_named}
use Rattle.fact_emit.specs.Pieces.{Is, Both}
use Rattle.fact_emit.specs.Places.{AreDistinctSlots, setting_of, Using}
use Rattle.fact_emit.specs.Writers.{Began, EndedBody, TookAll, FreedAll, Wrote, taken_in}
use Rattle.fact_emit.proofs.BroughtLaws.{brought_as, brought_between}
use Rattle.fact_emit.proofs.Emitting.{body_is, emits_both, emits_wrote, grew_on, grew_wrote, same_locals, same_still, same_types, sooner, still_numbers}
use Rattle.fact_emit.proofs.ImportLaws.{extended_none, extended_on, grows_on}
use Rattle.fact_emit.proofs.NamedLaws.{named_append, named_loop, names_none, ranged_append, ranged_in, ranged_loop, ranged_none}
use Rattle.fact_emit.proofs.RangedCode.{get_ranged, set_ranged}
use Rattle.fact_emit.proofs.RequestRanged.{const_ranged}
use Rattle.fact_kinds.specs.declared.fixed.FixedElements.{FixedElements}
use Rattle.fact_kinds.specs.declared.fixed.FixedLocals.{FixedLocals}
use Rattle.fact_kinds.specs.Asks.{MovesHelpedFields}
use Rattle.fact_kinds.specs.FixedLists.{ClosesFixed, fixed_begin_code, fixed_end_code, fixed_numbers, fixed_slots}
use Rattle.fact_kinds.specs.MovedFixed.{AreFixedElements, fixed_of}
use Rattle.fact_kinds.proofs.SlotTemporaries.{unkept}
use Rattle.fact_kinds.proofs.ListMembers.{first_place, single}
use Rattle.fact_kinds.proofs.ListRanged.{bump_ranged}
use Rattle.fact_emit.proofs.FreedLocals.{all_inside, all_taken, emits_around_all, grew_around_all, inside_taken}

-- ---- its code is in range, and names what that of an element does

add_ranged : (memory64 : Bool) → AreRanged 0 0 (add_code memory64 ∷ [])
add_ranged true = ranged_none 0 0 (add_code true ∷ []) (simp the_lemmas)
add_ranged false = ranged_none 0 0 (add_code false ∷ []) (simp the_lemmas)

offset_ranged : (memory64 : Bool) (base offset local : ℕ) → AreRanged 0 0 (offset_code memory64 base offset local)
offset_ranged memory64 base offset local =
    ranged_append 0 0 (I.LocalGet base ∷ []) (const_code memory64 offset ∷ add_code memory64 ∷ I.LocalSet local ∷ []) (get_ranged base)
    (ranged_append 0 0 (const_code memory64 offset ∷ []) (add_code memory64 ∷ I.LocalSet local ∷ []) (const_ranged memory64 offset)
    (ranged_append 0 0 (add_code memory64 ∷ []) (I.LocalSet local ∷ []) (add_ranged memory64) (set_ranged local)))

pub fixed_begin_ranged : (from64 to64 : Bool) (e : FixedElements) (l : FixedLocals) (from to : Address) → AreRanged 0 0 (fixed_begin_code from64 to64 e l from to)
fixed_begin_ranged from64 to64 e l from to =
    let last : List Instr = I.I32Const e.count ∷ I.LocalSet l.left ∷ [] in
    ranged_append 0 0 (offset_code from64 from.local from.offset l.source) (offset_code to64 to.local to.offset l.target ++ last) (offset_ranged from64 from.local from.offset l.source)
    (ranged_append 0 0 (offset_code to64 to.local to.offset l.target) last (offset_ranged to64 to.local to.offset l.target) (ranged_none 0 0 last (simp the_lemmas)))

pub fixed_end_ranged : (from64 to64 : Bool) (e : FixedElements) (l : FixedLocals) → AreRanged 0 0 (fixed_end_code from64 to64 e l)
fixed_end_ranged from64 to64 e l = ranged_append 0 0 (bump_code from64 l.source e.from_size) (bump_code to64 l.target e.to_size) (bump_ranged from64 l.source e.from_size) (bump_ranged to64 l.target e.to_size)

module _ (left : ℕ) (body ends : List Instr) (ended : AreRanged 0 0 ends) where
  again_ranged : AreRanged 0 0 (again_code left)
  again_ranged = ranged_none 0 0 (again_code left) (simp the_lemmas)

  countdown_named : functions_named (countdown_code left (body ++ ends)) ≡ functions_named body
  countdown_named =
      named_loop Empty ((body ++ ends) ++ again_code left) ∙ named_append (body ++ ends) (again_code left)
      ∙ (λ i. named_append body ends i ++ names_none (again_code left) again_ranged i) ∙ append-nil (functions_named body ++ functions_named ends)
      ∙ (λ i. functions_named body ++ names_none ends ended i) ∙ append-nil (functions_named body)

  countdown_ranged : (imports funcs : ℕ) → AreRanged imports funcs body → AreRanged imports funcs (countdown_code left (body ++ ends))
  countdown_ranged imports funcs h =
      let more = λ (code : List Instr) (r : AreRanged 0 0 code). ranged_in 0 imports 0 funcs (omega arith) (omega arith) code r in
      ranged_loop imports funcs Empty ((body ++ ends) ++ again_code left)
      (ranged_append imports funcs (body ++ ends) (again_code left) (ranged_append imports funcs body ends h (more ends ended)) (more (again_code left) again_ranged))

-- ---- what is known when it is written

-- what is known of a list when its code is written
pub record WritesFixed (sides : Sides) (e : FixedElements) (l : FixedLocals) (taken inner : ℕ → Bool) (s u : Shape) : Type 0 where
  pub elements : AreFixedElements sides e s u
  pub free : AllByRecursion (λ s. taken s.0 ≡ false) (fixed_slots sides.from.memory64 sides.to.memory64 l)
  pub distinct : AreDistinctSlots (fixed_slots sides.from.memory64 sides.to.memory64 l)
  pub inside : (i : ℕ) → taken i ≡ true → inner i ≡ true
  pub temps : AllByRecursion (λ s. inner s.0 ≡ true) (fixed_slots sides.from.memory64 sides.to.memory64 l)

-- the loop of its elements, by the code of one
pub record LoopsFixed (sides : Sides) (e : FixedElements) (l : FixedLocals) (inner : ℕ → Bool) (s u : Shape) (M : WasmModule) (p : ImportPlaces) (locals : List ValType) (code : List Instr) : Type 0 where
  pub body : List Instr
  pub moves : MovesHelpedFields sides (InMemory sides.from.memory l.source 0) (ToMemory sides.to.memory l.target 0) inner (single s) (single u) 0 M p locals body
  pub is : code ≡ countdown_code l.left (body ++ fixed_end_code sides.from.memory64 sides.to.memory64 e l)

-- ---- what it does

-- a list takes the bytes of its elements
pub fixed_bytes : (w : MemoryWidth) (n : ℕ) (s : Shape) → bytes_of_shape w (fixed_of n s) ≡ bytes_of_shape w s * n
fixed_bytes Memory32 n s = refl
fixed_bytes Memory64 n s = refl

-- the only member ends behind its own bytes
single_ends : (w : MemoryWidth) (s : Shape) → ends_of w (single s) 0 ≡ bytes_of_shape w s
single_ends w s = ap (λ n. n + (extent w (layout_of s)).size) (first_place (extent w (layout_of s)).align) ∙ omega arith

with_one : (used inner : ℕ → Bool) (a : ℕ) → ((i : ℕ) → used i ≡ true → inner i ≡ true) → inner a ≡ true → (i : ℕ) → with_local used a i ≡ true → inner i ≡ true
with_one used inner a h t i u = go (nat_eq i a) refl u
  where
    go : (q : Bool) → nat_eq i a ≡ q → (if q then true else used i) ≡ true → inner i ≡ true
    go true e u = ap inner (eqb-true i a e) ∙ t
    go false e u = h i u

-- as many elements as there are bytes at most
count_small : (n size room offset : ℕ) → 0 < size → offset + size * n ≤ room → n ≤ room
count_small n zero room offset some le = absurd (omega arith)
count_small n (suc size) room offset some le = omega (arith, le)

module _ {sides : Sides} {e : FixedElements} {l : FixedLocals} {taken inner : ℕ → Bool} {s u : Shape} (h : WritesFixed sides e l taken inner s u) (from to : Address) (M : WasmModule) (p : ImportPlaces) (locals : List ValType) (typed : AreLocals locals (fixed_slots sides.from.memory64 sides.to.memory64 l))
    (a b : LiftLowerOptions) (rooms : Rooms) (used : ℕ → Bool) where
  abbrev S : Setting
  S = setting_of sides a b rooms M p locals

  abbrev src : From
  src = InMemory sides.from.memory from.local from.offset

  abbrev dst : To
  dst = ToMemory sides.to.memory to.local to.offset

  abbrev fixed : FixedMove
  fixed = record {
    count = e.count;
    size1 = e.from_size;
    size2 = e.to_size;
    memory1 = sides.from.memory;
    base1 = from.local;
    offset1 = from.offset;
    memory2 = sides.to.memory;
    base2 = to.local;
    offset2 = to.offset;
    source = l.source;
    target = l.target;
    left = l.left;
  }

  abbrev element_rooms : Rooms
  element_rooms = record { from = e.from_size; to = e.to_size }

  abbrev act : Source → Target → Action (List CoreValue)
  act x y = move_fields (transfer S) (single s) (single u) 0 x y

  module _ (using : Using taken used src dst) (fit : FitsShapes sides S (fixed_of e.count s) (fixed_of e.count u) src dst) where
    from_size : e.from_size ≡ (extent (width_of_side a) (layout_of s)).size
    from_size = h.elements.from ∙ ap (λ m. (extent (width m) (layout_of s)).size) (sym fit.from_wide)

    to_size : e.to_size ≡ (extent (width_of_side b) (layout_of u)).size
    to_size = h.elements.to ∙ ap (λ m. (extent (width m) (layout_of u)).size) (sym fit.to_wide)

    -- the elements are moved with all locals of the list in use
    element_using : Using inner (with_fixed used fixed) (InMemory sides.from.memory l.source 0) (ToMemory sides.to.memory l.target 0)
    element_using = record {
      within = with_one (with_local (with_local used l.source) l.target) inner l.left (with_one (with_local used l.source) inner l.target (with_one used inner l.source (λ i t. h.inside i (using.within i t)) h.temps.0) h.temps.1.0) h.temps.1.1.0;
      from = local_more (with_local (with_local used l.source) l.target) l.left l.source (local_more (with_local used l.source) l.target l.source (local_here used l.source));
      to = local_more (with_local (with_local used l.source) l.target) l.left l.target (local_here (with_local used l.source) l.target);
      target = tt;
      distinct = tt;
    }

    all_from : from.offset + e.from_size * e.count ≤ 4294967295
    all_from = subst (λ z. from.offset + z * e.count ≤ 4294967295) (sym from_size) (subst (λ z. from.offset + z ≤ 4294967295) (fixed_bytes (width_of_side a) e.count s) fit.reads.reach)

    all_to : to.offset + e.to_size * e.count ≤ 4294967295
    all_to = subst (λ z. to.offset + z * e.count ≤ 4294967295) (sym to_size) (subst (λ z. to.offset + z ≤ 4294967295) (fixed_bytes (width_of_side b) e.count u) fit.writes.reach)

    one_of : (n size offset : ℕ) → 0 < n → offset + size * n ≤ 4294967295 → size ≤ 4294967295
    one_of zero size offset some le = absurd (omega arith)
    one_of (suc n) size offset some le = omega (arith, le)

    element_fits : FitsFields sides (setting_of sides a b element_rooms M p locals) (single s) (single u) 0 (InMemory sides.from.memory l.source 0) (ToMemory sides.to.memory l.target 0)
    element_fits =
        let from_ends : ends_of (width_of_side a) (single s) 0 ≡ e.from_size = single_ends (width_of_side a) s ∙ sym from_size in
        let to_ends : ends_of (width_of_side b) (single u) 0 ≡ e.to_size = single_ends (width_of_side b) u ∙ sym to_size in
        let from_few = one_of e.count e.from_size from.offset h.elements.some all_from in
        let to_few = one_of e.count e.to_size to.offset h.elements.some all_to in
        record {
          from_wide = fit.from_wide;
          to_wide = fit.to_wide;
          reads = record { side = fit.reads.side; local = typed.0; reach = omega (arith, from_ends, from_few) };
          writes = record { side = fit.writes.side; local = typed.1.0; reach = omega (arith, to_ends, to_few) };
          within = record { source = omega (arith, from_ends); target = omega (arith, to_ends) };
          lists = fit.lists;
        }

    is_fixed : {body : List Instr} → MovesHelpedFields sides (InMemory sides.from.memory l.source 0) (ToMemory sides.to.memory l.target 0) inner (single s) (single u) 0 M p locals body → IsFixedMove S used fixed act body
    is_fixed m = record {
      some = h.elements.some;
      few = let le = count_small e.count e.from_size 4294967295 from.offset h.elements.from_some all_from in omega (arith, le);
      some1 = h.elements.from_some;
      some2 = h.elements.to_some;
      source = record { typed = typed.0; free = unkept using.within l.source h.free.0 };
      target = record { typed = typed.1.0; free = unkept using.within l.target h.free.1.0 };
      left = record { typed = typed.1.1.0; free = unkept using.within l.left h.free.1.1.0 };
      source_target = eqb-false l.source l.target h.distinct.0.0;
      source_left = eqb-false l.source l.left h.distinct.0.1.0;
      target_left = eqb-false l.target l.left h.distinct.1.0.0;
      typed1 = fit.reads.local;
      typed2 = fit.writes.local;
      used2 = using.to;
      room1 = let le : from.offset + e.from_size * e.count ≤ rooms.from = subst (λ z. from.offset + z * e.count ≤ rooms.from) (sym from_size) (subst (λ z. from.offset + z ≤ rooms.from) (fixed_bytes (width_of_side a) e.count s) fit.within.source) in omega (arith, le);
      room2 = let le : to.offset + e.to_size * e.count ≤ rooms.to = subst (λ z. to.offset + z * e.count ≤ rooms.to) (sym to_size) (subst (λ z. to.offset + z ≤ rooms.to) (fixed_bytes (width_of_side b) e.count u) fit.within.target) in omega (arith, le);
      element_moves = m.moves a b element_rooms (with_fixed used fixed) element_using element_fits;
    }

    entry_from : e.from_size ≡ (entry_extent a (single s)).size
    entry_from = from_size ∙ ap (λ (x : Extent). x.size) (sym (single_extent (width_of_side a) s))

    entry_to : e.to_size ≡ (entry_extent b (single u)).size
    entry_to = to_size ∙ ap (λ (x : Extent). x.size) (sym (single_extent (width_of_side b) u))

module _ {sides : Sides} {e : FixedElements} {l : FixedLocals} {taken inner : ℕ → Bool} {s u : Shape} (h : WritesFixed sides e l taken inner s u) (from to : Address) where
  -- Code that begins the addresses and the count, and then loops over the code of an element, moves the list.
  fixed_piece : (M : WasmModule) (p : ImportPlaces) (locals : List ValType) (code : List Instr) → AreLocals locals (fixed_slots sides.from.memory64 sides.to.memory64 l)
      → Both (Is (fixed_begin_code sides.from.memory64 sides.to.memory64 e l from to)) (LoopsFixed sides e l inner s u) M p locals code
      → MovesNode sides (InMemory sides.from.memory from.local from.offset) (ToMemory sides.to.memory to.local to.offset) taken (fixed_of e.count s) (fixed_of e.count u) M p locals code
  fixed_piece M p locals code typed k =
      let loop = k.second_holds in
      let code_is : code ≡ fixed_begin_code sides.from.memory64 sides.to.memory64 e l from to ++ countdown_code l.left (loop.body ++ fixed_end_code sides.from.memory64 sides.to.memory64 e l) = k.is ∙ (λ i. k.first_holds i ++ loop.is i) in
      subst (MovesNode sides (InMemory sides.from.memory from.local from.offset) (ToMemory sides.to.memory to.local to.offset) taken (fixed_of e.count s) (fixed_of e.count u) M p locals) (sym code_is) (record {
        moves = λ a b rooms used using fit.
            moves_fixed_in_memory (setting_of sides a b rooms M p locals) used (single s) (single u) (fixed h from to M p locals typed a b rooms used) loop.body
            (entry_from h from to M p locals typed a b rooms used using fit) (entry_to h from to M p locals typed a b rooms used using fit) (is_fixed h from to M p locals typed a b rooms used using fit loop.moves);
      })

-- ---- as it was written

-- the code of an element was written aside, and became a loop
pub fixed_looped_grew : {asks : List AskedHelper} {c d e f : Writer} {sides : Sides} {x : FixedElements} {l : FixedLocals} {outer : List Instr} → Began c d outer → GrewAsking asks d e → ClosesFixed sides x l outer e f → GrewAsking asks c f
fixed_looped_grew {c = c} {d} {e} {f} {sides} {x} {l} began m closed =
    let ends : List Instr = fixed_end_code sides.from.memory64 sides.to.memory64 x l in
    let loop : List Instr → List Instr = λ body. countdown_code l.left (body ++ ends) in
    let ended = fixed_end_ranged sides.from.memory64 sides.to.memory64 x l in
    record {
      added = loop m.added;
      code = closed.code ∙ ap (λ o. o ++ loop e.code.items) began.outer ∙ ap (λ b. c.code.items ++ loop b) (body_is began.code m);
      calls = ap (filter_map defined_place) (countdown_named l.left m.added ends ended) ∙ m.calls;
      brought = brought_as (countdown_named l.left m.added ends ended) (countdown_ranged l.left m.added ends ended) (brought_between began.imports (sym closed.imports) m.brought);
      imports = extended_on (extended_none began.imports) (extended_on m.imports (extended_none closed.imports));
      once = λ o. subst AreOnce (sym closed.imports) (m.once (subst AreOnce (sym began.imports) o));
      locals = grows_on (same_locals c d began.locals) (grows_on m.locals (same_locals e f closed.locals));
      numbers = λ n. still_numbers e f (same_types e f closed.locals) (m.numbers (still_numbers c d (same_types c d began.locals) n));
      still = λ j. same_still e f closed.locals j ∙ m.still j ∙ same_still c d began.locals j;
    }

fixed_looped : {asks : List AskedHelper} {c d e f : Writer} {sides : Sides} {x : FixedElements} {l : FixedLocals} {outer : List Instr} {taken : ℕ → Bool} {s u : Shape} → Began c d outer
    → EmitsAsking asks d e (MovesHelpedFields sides (InMemory sides.from.memory l.source 0) (ToMemory sides.to.memory l.target 0) taken (single s) (single u) 0) → ClosesFixed sides x l outer e f → EmitsAsking asks c f (LoopsFixed sides x l taken s u)
unfolding fixed_looped_grew
fixed_looped {c = c} {d} {e} {f} began m closed = record {
  grew = fixed_looped_grew began m.grew closed;
  does = λ M p locals later h. record { body = m.grew.added; moves = m.does M p locals (sooner {a = e} (extended_none closed.imports) (same_locals e f closed.locals) later) h; is = refl };
}

module _ {sides : Sides} {a b c d e f g : Writer} {x : FixedElements} {l : FixedLocals} {outer : List Instr} (from to : Address)
    (took : TookAll a b (fixed_slots sides.from.memory64 sides.to.memory64 l)) (opened : Wrote b c (fixed_begin_code sides.from.memory64 sides.to.memory64 x l from to)) (began : Began c d outer) (closed : ClosesFixed sides x l outer e f) (freed : FreedAll f g (fixed_numbers l)) where
  begin_grew : Grew b c
  begin_grew = grew_wrote (fixed_begin_ranged sides.from.memory64 sides.to.memory64 x l from to) opened

  pub fixed_grew : {asks : List AskedHelper} → GrewAsking asks d e → GrewAsking asks a g
  fixed_grew m = grew_around_all took (grew_on begin_grew (fixed_looped_grew began m closed)) freed

  -- Code that moves an element, in the loop of a list, moves the list.
  pub fixed_emits : {asks : List AskedHelper} {s u : Shape} → AreFixedElements sides x s u → EmitsAsking asks d e (MovesHelpedFields sides (InMemory sides.from.memory l.source 0) (ToMemory sides.to.memory l.target 0) (taken_in d) (single s) (single u) 0)
      → EmitsAsking asks a g (MovesNode sides (InMemory sides.from.memory from.local from.offset) (ToMemory sides.to.memory to.local to.offset) (taken_in a) (fixed_of x.count s) (fixed_of x.count u))
  fixed_emits elements m =
      let still : (i : ℕ) → taken_in d i ≡ taken_in c i = λ i. same_still c d began.locals i in
      let writes : WritesFixed sides x l (taken_in a) (taken_in d) _ _ = record {
        elements = elements;
        free = took.were_free;
        distinct = took.distinct;
        inside = inside_taken d took begin_grew still;
        temps = all_inside d took begin_grew still;
      } in
      emits_around_all (λ M p locals code typed both. fixed_piece writes from to M p locals code typed both) took
      (emits_both (emits_wrote (fixed_begin_ranged sides.from.memory64 sides.to.memory64 x l from to) opened) (fixed_looped began m closed)) freed

-- the locals are still in use when they are freed
pub fixed_taken : {asks : List AskedHelper} {sides : Sides} {a b c d e f : Writer} {x : FixedElements} {l : FixedLocals} {outer : List Instr} (from to : Address) → TookAll a b (fixed_slots sides.from.memory64 sides.to.memory64 l)
    → Wrote b c (fixed_begin_code sides.from.memory64 sides.to.memory64 x l from to) → Began c d outer → ClosesFixed sides x l outer e f → GrewAsking asks d e → AllByRecursion (λ i. taken_in f i ≡ true) (fixed_numbers l)
fixed_taken {sides = sides} {a} {b} {c} {d} {e} {f} {x} {l} from to took opened began closed moved =
    let begun : Grew b c = grew_wrote (fixed_begin_ranged sides.from.memory64 sides.to.memory64 x l from to) opened in
    all_taken b f (fixed_slots sides.from.memory64 sides.to.memory64 l) (λ i. same_still e f closed.locals i ∙ moved.still i ∙ same_still c d began.locals i ∙ begun.still i) took.taken

-- the end of a loop that was written
pub fixed_closed : {a b c d : Writer} {sides : Sides} {x : FixedElements} {l : FixedLocals} {outer body : List Instr} → Wrote a b (fixed_end_code sides.from.memory64 sides.to.memory64 x l) → EndedBody b c outer body → Wrote c d (countdown_code l.left body) → ClosesFixed sides x l outer a d
fixed_closed {l = l} {outer} {body} t ended counted = record {
  code = counted.code ∙ ap (λ c. c ++ countdown_code l.left body) ended.code ∙ ap (λ c. outer ++ countdown_code l.left c) (ended.body ∙ t.code);
  locals = counted.locals ∙ ended.locals ∙ t.locals;
  imports = counted.imports ∙ ended.imports ∙ t.imports;
}
