-- The elements of lists and the entries of maps, member by member.
use Rattle.std.proofs.Common.{◌≡◌, ◌≢◌, ℕ, ◌+◌, ◌*◌, ◌/◌, ◌%◌, ◌<◌, ◌≤◌, min, Bool, true, List, [], ◌∷◌, Some, refl, sym, ap, ◌∙◌, subst, arith, append-nil}
use Rattle.std.specs.Prelude.{unwrap_or}
use Rattle.std.specs.List.{AllByRecursion}
use Rattle.std.proofs.Math.Nat.{div-add-mod}
use Rattle.fact_entity.specs.declared.id.Id.{Id}
use Rattle.fact_entity.specs.declared.table.TypeLists.{TypeLists}
use Rattle.fact_wasm.specs.declared.types.ValType.{ValType}
use Rattle.fact_wasm.specs.declared.instr.Instr.{Instr}
use Rattle.fact_wasm.specs.declared.module.WasmModule.{WasmModule}
use Rattle.fact_wasm.specs.Ranges.{AreRanged}
use Rattle.fact_types.specs.declared.interface.InterfaceType.{InterfaceType}
use Rattle.fact_types.specs.declared.interface.InterfaceType.TheVariants as ty
use Rattle.fact_types.specs.declared.extents.Extent.{Extent}
use Rattle.fact_types.specs.declared.extents.MemoryWidth.{MemoryWidth}
use Rattle.fact_types.specs.declared.extents.MemoryWidth.TheVariants.{Memory32, Memory64}
use Rattle.fact_types.specs.FlatShapes.{IsCounted}
use Rattle.fact_types.specs.Heights.{height}
use Rattle.fact_types.specs.Layout.{extent, aligned, record_layout}
use Rattle.fact_types.specs.Shapes.{k_list, k_map, Shape, s_plain, s_node, Members, no_members, typed, layout_of, place_of, next_of, ends_of}
use Rattle.fact_types.specs.Signatures.{width}
use Rattle.fact_types.specs.Sound.{TakesBytes}
use Rattle.fact_types.specs.Tables.{Tables, HasShape, HasMembers}
use Rattle.fact_actions.specs.Running.{ImportPlaces}
use Rattle.fact_actions.specs.Outlining.{in_memories}
use Rattle.fact_actions.proofs.ValidTypes.{single_extent}
use Rattle.fact_code_laws.specs.Places.{From, InMemory, To, ToMemory}
use Rattle.fact_emit.specs.declared.places.Sides.{Sides}
use Rattle.fact_emit.specs.declared.writer.Writer.{Writer}
use Rattle.fact_emit.specs.Asked.{AskedHelper}
use Rattle.fact_emit.specs.Emits.{Grew, GrewAsking, Emits, EmitsAsking}
use Rattle.fact_emit.specs.Fitting.{MovesNode}
use Rattle.fact_emit.specs.Movable.{CanMove, CanMoveFields, CanMoveElements}
use Rattle.fact_emit.specs.Parts.{bytes_by}
use Rattle.fact_emit.specs.Writers.{AreDistinctNumbers, taken_in, Began, TookAll, FreedAll, Wrote}
use Rattle.fact_emit.proofs.Emitting.{emits_as, emits_both, grew_on, grew_wrote, same_still}
use Rattle.fact_emit.proofs.ImportLaws.{extended_none}
use Rattle.fact_kinds.specs.declared.lists.Elements.{Elements}
use Rattle.fact_kinds.specs.declared.lists.ListLocals.{ListLocals}
use Rattle.fact_kinds.specs.Asks.{MovesHelped, MovesHelpedFields}
use Rattle.fact_kinds.specs.Lists.{list_slots, list_numbers, OpensList, ClosesList}
use Rattle.fact_kinds.specs.Moved.{MovedNode, MovedValue}
use Rattle.fact_kinds.specs.declared.fuel.Fuel.{Fuel}
use Rattle.fact_kinds.proofs.Asking.{asked_on}
use Rattle.fact_kinds.proofs.FieldJoin.{fields_join_paid}
use Rattle.fact_kinds.proofs.Found.{flat_is}
use Rattle.fact_kinds.proofs.ListJoin.{WritesList, entry_layout, list_piece, looped, looped_grew, map_piece}
use Rattle.fact_kinds.proofs.MemberRuns.{NextMember, open_next, none_left, nothing_moves}
use Rattle.fact_emit.proofs.FreedLocals.{grew_around_all, emits_around_all, inside_taken, all_inside, all_taken, all_distinct}
use Rattle.fact_kinds.proofs.TypeKinds.{list_kind, list_type}
use Rattle.fact_kinds.proofs.Translating.{translated_in_memories, translated_with}
use Rattle.fact_kinds.proofs.TranslatedShapes.{single_is, translated_shapes}

-- ---- entries, whatever they are

-- what is known of the entries of one side when their code is written
pub record AreEntries (memory64 : Bool) (ms : Members) (size align : ℕ) : Type 0 where
  pub size_is : size ≡ (extent (width memory64) (entry_layout ms)).size
  pub align_is : align ≡ (extent (width memory64) (entry_layout ms)).align
  pub small : ends_of (width memory64) ms 0 ≤ 4294967295

module _ {sides : Sides} {src : From} {dst : To} {a b c d e f g : Writer} {x : Elements} {l : ListLocals} {outer : List Instr}
    (took : TookAll a b (list_slots sides.from.memory64 sides.to.memory64 l)) (opened : Emits b c (OpensList sides x l src)) (began : Began c d outer)
    (closed : ClosesList sides x l outer dst e f) (freed : FreedAll f g (list_numbers l)) where
  pub entries_grew : {asks : List AskedHelper} → GrewAsking asks d e → GrewAsking asks a g
  entries_grew m = grew_around_all took (grew_on opened.grew (looped_grew began m closed)) freed

  module _ {ms ns : Members} (from : AreEntries sides.from.memory64 ms x.from_size x.from_align) (to : AreEntries sides.to.memory64 ns x.to_size x.to_align) (from_takes : TakesBytes (entry_layout ms)) (to_takes : TakesBytes (entry_layout ns))
      {asks : List AskedHelper} (moved : EmitsAsking asks d e (MovesHelpedFields sides (InMemory sides.from.memory l.source 0) (ToMemory sides.to.memory l.target 0) (taken_in d) ms ns 0)) where
    same_taken : (i : ℕ) → taken_in d i ≡ taken_in c i
    same_taken i = same_still c d began.locals i

    writes : WritesList sides x l (taken_in a) (taken_in d) ms ns
    writes = record {
      from_size = from.size_is;
      from_align = from.align_is;
      to_size = to.size_is;
      to_align = to.align_is;
      from_small = from.small;
      to_small = to.small;
      from_takes = from_takes;
      to_takes = to_takes;
      free = took.were_free;
      distinct = took.distinct;
      inside = inside_taken d took opened.grew same_taken;
      temps = all_inside d took opened.grew same_taken;
    }

    -- Code that moves the members of an entry, in the loop of a list, moves the list.
    pub list_emits : EmitsAsking asks a g (MovesNode sides src dst (taken_in a) (s_node k_list ms) (s_node k_list ns))
    list_emits = emits_around_all (λ M p locals code typed both. list_piece writes M p locals code typed both) took (emits_both opened (looped began moved closed)) freed

    -- and so it is of a map
    pub map_emits : EmitsAsking asks a g (MovesNode sides src dst (taken_in a) (s_node k_map ms) (s_node k_map ns))
    map_emits = emits_around_all (λ M p locals code typed both. map_piece writes M p locals code typed both) took (emits_both opened (looped began moved closed)) freed

-- ---- the first member stands at the begin

pub first_place : (a : ℕ) → aligned 0 a ≡ 0
unfolding aligned
first_place a = let rest : 0 % a ≡ 0 = omega arith in ap (λ r. (0 / a + min 1 r) * a) rest ∙ omega (arith, div-add-mod 0 a, rest)

-- ---- one member

abbrev pub single : Shape → Members
single s = typed [] s no_members

-- a list has an element of a type
pub list_element : (t : Tables) (y : InterfaceType) (ms : Members) → HasMembers t (([], Some y) ∷ []) ms → (s : Shape) × HasShape t y s × (ms ≡ single s)
list_element t y ms h =
    let n : NextMember t (([], Some y) ∷ []) 0 [] y ms = open_next t (([], Some y) ∷ []) 0 [] y ms h in
    (n.shape, n.shaped, n.is ∙ ap (typed [] n.shape) (none_left t n.more n.has))

pub first_bytes : (w : MemoryWidth) (s : Shape) → 0 ≡ bytes_by w (place_of Memory32 s 0) (place_of Memory64 s 0)
first_bytes Memory32 s = sym (first_place (extent Memory32 (layout_of s)).align)
first_bytes Memory64 s = sym (first_place (extent Memory64 (layout_of s)).align)

-- what stands behind it begins at its own bytes
pub first_next : (w : MemoryWidth) (s : Shape) → next_of w s 0 ≡ (extent w (layout_of s)).size
first_next w s = ap (λ n. n + (extent w (layout_of s)).size) (first_place (extent w (layout_of s)).align) ∙ omega arith

-- code that moves an element moves the members of the element's tuple
pub single_moved : {sides : Sides} {taken : ℕ → Bool} {memory base memory' base' : ℕ} (s u : Shape) → IsCounted s → IsCounted u → (M : WasmModule) (p : ImportPlaces) (locals : List ValType) (code : List Instr)
    → MovesHelped sides (InMemory memory base 0) (ToMemory memory' base' 0) taken s u M p locals code → MovesHelpedFields sides (InMemory memory base 0) (ToMemory memory' base' 0) taken (single s) (single u) 0 M p locals code
single_moved {sides} {taken} {memory} {base} {memory'} {base'} s u cs cu M p locals code one =
    subst (MovesHelpedFields sides (InMemory memory base 0) (ToMemory memory' base' 0) taken (single s) (single u) 0 M p locals) (append-nil code)
    (fields_join_paid {psrc = InMemory memory base 0} {src = InMemory memory base 0} {pdst = ToMemory memory' base' 0} {dst = ToMemory memory' base' 0} {after = ToMemory memory' base' 0}
    {f = record { shape = s; flat_place = 0; place32 = place_of Memory32 s 0; place64 = place_of Memory64 s 0 }}
    0 (unwrap_or (layout_of s).flat_count 0) 0 (unwrap_or (layout_of u).flat_count 0) 0 refl (cs, tt) refl refl refl (λ le. refl) (λ w few. flat_is w s (layout_of s).flat_count refl cs few) (first_bytes (width sides.from.memory64) s)
    (λ w few. flat_is w u (layout_of u).flat_count refl cu few) (sym (first_place (extent (width sides.to.memory64) (layout_of u)).align)) refl M p locals code [] one (nothing_moves M p locals))

-- the bytes and the alignment of an element, where it takes some bytes
pub record IsElement (t : Tables) (memory64 : Bool) (y : InterfaceType) (size align : ℕ) : Type 0 where
  pub size_is : (s : Shape) → HasShape t y s → 0 < (extent (width memory64) (layout_of s)).size → size ≡ (extent (width memory64) (layout_of s)).size
  pub align_is : (s : Shape) → HasShape t y s → align ≡ (extent (width memory64) (layout_of s)).align
  pub small : (s : Shape) → HasShape t y s → (extent (width memory64) (layout_of s)).size ≤ 4294967295

pub takes_bytes : (w : MemoryWidth) (s : Shape) → TakesBytes (record_layout (layout_of s ∷ [])) → 0 < (extent w (layout_of s)).size
takes_bytes w s h = subst (λ (e : Extent). 0 < e.size) (single_extent w s) (some w h)
  where
    some : (w : MemoryWidth) → TakesBytes (record_layout (layout_of s ∷ [])) → 0 < (extent w (record_layout (layout_of s ∷ []))).size
    some Memory32 h = h.memory32
    some Memory64 h = h.memory64

single_entries : {t : Tables} {memory64 : Bool} {y : InterfaceType} {size align : ℕ} → IsElement t memory64 y size align → (s : Shape) → HasShape t y s → TakesBytes (entry_layout (single s)) → AreEntries memory64 (single s) size align
single_entries {memory64 = memory64} x s h takes = record {
  size_is = x.size_is s h (takes_bytes (width memory64) s takes) ∙ ap (λ (e : Extent). e.size) (sym (single_extent (width memory64) s));
  align_is = x.align_is s h ∙ ap (λ (e : Extent). e.align) (sym (single_extent (width memory64) s));
  small = subst (λ n. n ≤ 4294967295) (sym (first_next (width memory64) s)) (x.small s h);
}

-- ---- lists

module _ {t : Tables} {sides : Sides} {src : From} {dst : To} {a b c d e f g : Writer} {x : Elements} {l : ListLocals} {outer : List Instr} {y z : InterfaceType} {before after : Fuel}
    (took : TookAll a b (list_slots sides.from.memory64 sides.to.memory64 l)) (opened : Emits b c (OpensList sides x l src)) (began : Began c d outer)
    (moved : MovedValue t y z sides (InMemory sides.from.memory l.source 0) (ToMemory sides.to.memory l.target 0) before after d e) (closed : ClosesList sides x l outer dst e f) (freed : FreedAll f g (list_numbers l))
    (from : IsElement t sides.from.memory64 y x.from_size x.from_align) (to : IsElement t sides.to.memory64 z x.to_size x.to_align) where
  single_emits : (s u : Shape) → HasShape t y s → HasShape t z u → IsCounted s → IsCounted u → CanMoveElements (single s) (single u) (CanMoveFields (single s) (single u))
      → EmitsAsking moved.asks a g (MovesNode sides src dst (taken_in a) (s_node k_list (single s)) (s_node k_list (single u)))
  single_emits s u hs hu cs cu can =
      list_emits took opened began closed freed (single_entries from s hs can.from_bytes) (single_entries to u hu can.to_bytes) can.from_bytes can.to_bytes
      (emits_as (single_moved s u cs cu) (moved.emits s u hs hu cs cu can.fields.0))

  -- A list was moved by the code of its elements.
  pub list_moved : (i j : Id TypeLists) → ((ms : Members) → HasShape t (ty.List i) (s_node k_list ms) → HasMembers t (([], Some y) ∷ []) ms) → ((ns : Members) → HasShape t (ty.List j) (s_node k_list ns) → HasMembers t (([], Some z) ∷ []) ns)
      → height t z < height t (ty.List j) → MovedNode t (ty.List i) (ty.List j) sides src dst before after a g
  list_moved i j members members' lower = record {
    grew = entries_grew took opened began closed freed moved.grew;
    asks = moved.asks;
    asked = asked_on (extended_none (freed.imports ∙ closed.imports)) (omega (arith, lower)) moved.asks moved.asked;
    emits = λ s u hs hu cs cu can.
        let (ms, is_s) = list_kind t i s hs in
        let (ns, is_u) = list_kind t j u hu in
        let (s1, hs1, ms_is) = list_element t y ms (members ms (subst (HasShape t (ty.List i)) is_s hs)) in
        let (u1, hu1, ns_is) = list_element t z ns (members' ns (subst (HasShape t (ty.List j)) is_u hu)) in
        let s_is : s ≡ s_node k_list (single s1) = is_s ∙ ap (s_node k_list) ms_is in
        let u_is : u ≡ s_node k_list (single u1) = is_u ∙ ap (s_node k_list) ns_is in
        let can' : CanMove (s_node k_list (single s1)) (s_node k_list (single u1)) = subst (CanMove (s_node k_list (single s1))) u_is (subst (λ s. CanMove s u) s_is can) in
        subst (λ s. EmitsAsking moved.asks a g (MovesNode sides src dst (taken_in a) s u)) (sym s_is) (subst (λ u. EmitsAsking moved.asks a g (MovesNode sides src dst (taken_in a) (s_node k_list (single s1)) u)) (sym u_is)
        (single_emits s1 u1 hs1 hu1 (subst IsCounted s_is cs).1.0 (subst IsCounted u_is cu).1.0 can'));
    translated = λ s u hs hu cs cu can.
        let (ms, is_s) = list_kind t i s hs in
        let (ns, is_u) = list_kind t j u hu in
        let (s1, hs1, ms_is) = list_element t y ms (members ms (subst (HasShape t (ty.List i)) is_s hs)) in
        let (u1, hu1, ns_is) = list_element t z ns (members' ns (subst (HasShape t (ty.List j)) is_u hu)) in
        let s_is : s ≡ s_node k_list (single s1) = is_s ∙ ap (s_node k_list) ms_is in
        let u_is : u ≡ s_node k_list (single u1) = is_u ∙ ap (s_node k_list) ns_is in
        let can' : CanMove (s_node k_list (single s1)) (s_node k_list (single u1)) = subst (CanMove (s_node k_list (single s1))) u_is (subst (λ s. CanMove s u) s_is can) in
        translated_shapes s_is u_is (translated_with (λ i r n route. single_is i (in_memories r) s1 u1 n)
        (translated_in_memories (moved.translated s1 u1 hs1 hu1 (subst IsCounted s_is cs).1.0 (subst IsCounted u_is cu).1.0 can'.fields.0)));
  }

-- a list at a type of another kind, whose values are not moved
pub list_alone : {t : Tables} {from : InterfaceType} {sides : Sides} {src : From} {dst : To} {first last : Writer} {before : Fuel} {xs : List Instr} → AreRanged 0 0 xs → (i : Id TypeLists) (to : InterfaceType) → from ≡ ty.List i → ((j : Id TypeLists) → to ≢ ty.List j) → Wrote first last xs → MovedNode t from to sides src dst before before first last
list_alone {t} ranged i to is other w = record {
  grew = grew_wrote ranged w;
  asks = [];
  asked = record { each = tt };
  emits = λ s u hs hu cs cu can. let (ms, is_s) = list_kind t i s (subst (λ y. HasShape t y s) is hs) in absurd (alone ms u hu (subst (λ s. CanMove s u) is_s can));
  translated = λ s u hs hu cs cu can. let (ms, is_s) = list_kind t i s (subst (λ y. HasShape t y s) is hs) in absurd (alone ms u hu (subst (λ s. CanMove s u) is_s can));
}
  where
    alone : (ms : Members) (u : Shape) → HasShape t to u → CanMove (s_node k_list ms) u → ⊥
    alone ms (s_plain b) hu can = can
    alone ms (s_node k_list ns) hu can = let (j, at) = list_type t to ns hu in other j at
    alone ms (s_node _ ns) hu can = can

-- the locals are still in use when they are freed
pub locals_taken : {asks : List AskedHelper} {a b c d e f : Writer} {sides : Sides} {x : Elements} {l : ListLocals} {dst : To} {outer : List Instr} → TookAll a b (list_slots sides.from.memory64 sides.to.memory64 l) → Grew b c → Began c d outer → GrewAsking asks d e → ClosesList sides x l outer dst e f
    → AllByRecursion (λ i. taken_in f i ≡ true) (list_numbers l) × AreDistinctNumbers (list_numbers l)
locals_taken {a = a} {b} {c} {d} {e} {f} {sides} {l = l} took opened began moved closed =
    let slots = list_slots sides.from.memory64 sides.to.memory64 l in
    (all_taken b f slots (λ i. same_still e f closed.locals i ∙ moved.still i ∙ same_still c d began.locals i ∙ opened.still i) took.taken, all_distinct slots took.distinct)
