-- A list or a map as a node: what its type's move does, by what the code of its elements does.
use Rattle.std.proofs.Common.{◌≡◌, ℕ, ◌+◌, ◌-◌, ◌*◌, ◌%◌, ◌^◌, ◌<◌, ◌≤◌, Bool, true, false, List, [], ◌∷◌, ◌++◌, Option, Some, None, refl, sym, ap, ◌∙◌, subst, arith, slice_get}
use Rattle.std.specs.Prelude.{nat_lt, nat_eq, bit_and}
use Rattle.fact_wasm.specs.declared.instr.Instr.{Instr}
use Rattle.fact_wasm.specs.declared.module.WasmModule.{WasmModule}
use Rattle.fact_types.specs.declared.outside.CoreDef.{CoreDef}
use Rattle.fact_types.specs.declared.outside.Trap.TheVariants.{ListOutOfBounds}
use Rattle.fact_types.specs.declared.import.Import.TheVariants as import
use Rattle.fact_types.specs.declared.extents.Extent.{Extent}
use Rattle.fact_types.specs.Adapters.{is_wide}
use Rattle.fact_types.specs.Shapes.{k_list, k_map, s_node, Members}
use Rattle.fact_types.specs.Signatures.{address as pointer_type, pointer_bytes, width}
use Rattle.fact_machine.specs.declared.types.CoreValue.{CoreValue}
use Rattle.fact_machine.specs.declared.types.CoreValue.TheVariants.{I32}
use Rattle.fact_machine.specs.Typing.{address_bits, address_type, address_operand}
use Rattle.fact_actions.specs.Actions as action
use Rattle.fact_actions.specs.Actions.{Action, Give, Visit, Ask, ◌>>=◌, unless, each}
use Rattle.fact_actions.specs.Moves.{entry_extent, move_list, move, move_fields}
use Rattle.fact_actions.specs.Running.{ImportPlaces}
use Rattle.fact_actions.specs.Sides.{LiftLowerOptions, Transfer, Source, AtAddress, Target, Into, first_bits, read_number, write_number, nth_part, nth_spot, check_region, get_slots, set_slots}
use Rattle.fact_code_laws.specs.Does.{Locals, Onward, held_types, Does}
use Rattle.fact_code_laws.specs.Knows.{KnowsFunction}
use Rattle.fact_code_laws.specs.Places.{Setting, transfer, SideMemory, Readable, Writable, FromUsed, ToUsed, FromTyped, ToTyped, Stood, KeepsLocals, Moves, node_check, size_of}
use Rattle.fact_code_laws.specs.Typed.{OnStack, IsTyped}
use Rattle.fact_code_laws.proofs.Rules.{visit}
use Rattle.fact_code_laws.proofs.Blocks.{weaker}
use Rattle.fact_code_laws.proofs.Aligned.{Checked, moves_checked}
use Rattle.fact_code_laws.proofs.Temporaries.{Temporaries}
use Rattle.fact_code_laws.specs.Tests.{HasUnaligned, pointer_of_width}
use Rattle.fact_code_laws.proofs.Slots.{HasSlotsIf}
use Rattle.fact_code_laws.proofs.Pairs.{PairFrom, PairTo, PairToLocals, PairToMemory, all_from, first_from, second_from, all_to, first_to, second_to, stands_first, stands_second, behind_first, IsApart, goes_first, goes_second, first_stays, both_stand}
use Rattle.fact_code_laws.proofs.UsedLocals.{with_local, with_temps, local_here, local_more, temps_more, temps_here}
use Rattle.fact_code_laws.proofs.ListCode.{list_action}
use Rattle.fact_code_laws.proofs.ListTurns.{list_type}
use Rattle.fact_code_laws.proofs.ListMoves.{ListMove, IsListMove, slots_of, list_code, list_does}
use Rattle.fact_code_laws.proofs.ListTyped.{typed_list}

-- ---- the action

-- bytes of addresses
abbrev bytes_of_width : Bool → ℕ
bytes_of_width w = pointer_bytes (width w)

abbrev region_with : {A : Type 0} → Bool → LiftLowerOptions → Bool → Option CoreDef → (align size : ℕ) → (ℕ → Action A) → Action A
region_with concurrency o w realloc align size k =
    elim realloc [
      | None ↦ action.Unreachable
      | Some f ↦
          get_slots concurrency (λ a b. set_slots concurrency (I32 0 ∷ []) (I32 0 ∷ [])
          (Ask (import.CoreDef f) (address_operand w 0 ∷ address_operand w 0 ∷ address_operand w align ∷ address_operand w size ∷ []) (pointer_type w ∷ []) (λ rs.
          set_slots concurrency a b (check_region o ListOutOfBounds (first_bits rs) size align (k (first_bits rs))))))
    ]

-- a list's move, over the widths of its sides, and realloc
abbrev list_with : Transfer → (w1 w2 : Bool) → Option CoreDef → Extent → Extent → (Source → Target → Action (List CoreValue)) → Source → Target → Action (List CoreValue)
list_with tr w1 w2 realloc e f element s d =
    read_number tr.debug tr.from (bytes_of_width w1) (nth_part 1 (bytes_of_width w1) 0 s) (λ p.
    read_number tr.debug tr.from (bytes_of_width w1) (nth_part 1 (bytes_of_width w1) 1 s) (λ n.
    unless ListOutOfBounds (nat_lt (n * e.size) (2 ^ 32)) (
    unless ListOutOfBounds (nat_lt (n * f.size) (2 ^ 32)) (
    check_region tr.from ListOutOfBounds p (n * e.size) e.align (
    region_with tr.concurrency tr.to w2 realloc f.align (n * f.size) (λ q.
    each n (λ i. element (AtAddress (p + i * e.size)) (Into (q + i * f.size))) >>= (λ vs.
    write_number tr.to (bytes_of_width w2) (nth_spot 1 (bytes_of_width w2) 0 d) q >>= (λ a.
    write_number tr.to (bytes_of_width w2) (nth_spot 1 (bytes_of_width w2) 1 d) n >>= (λ b. Give (a ++ b))))))))))

by_width : (tr : Transfer) (w1 w2 : Bool) (realloc : CoreDef) (e f : Extent) (element : Source → Target → Action (List CoreValue)) (s : Source) (d : Target)
    → list_with tr w1 w2 (Some realloc) e f element s d
    ≡ list_action tr.debug tr.concurrency w1 w2 tr.from tr.to realloc e.size e.align f.size f.align element
    (nth_part 1 (size_of (pointer_of_width w1)) 0 s) (nth_part 1 (size_of (pointer_of_width w1)) 1 s) (nth_spot 1 (size_of (pointer_of_width w2)) 0 d) (nth_spot 1 (size_of (pointer_of_width w2)) 1 d)
by_width tr false false realloc e f element s d = refl
by_width tr false true realloc e f element s d = refl
by_width tr true false realloc e f element s d = refl
by_width tr true true realloc e f element s d = refl

list_is : (tr : Transfer) (w1 w2 : Bool) (realloc : CoreDef) (ms ns : Members) (element : Source → Target → Action (List CoreValue)) (s : Source) (d : Target)
    → is_wide tr.from.memory ≡ w1 → is_wide tr.to.memory ≡ w2 → tr.to.realloc ≡ Some realloc
    → move_list tr ms ns element s d ≡ list_with tr w1 w2 (Some realloc) (entry_extent tr.from ms) (entry_extent tr.to ns) element s d
list_is tr w1 w2 realloc ms ns element s d h1 h2 h3 =
    ap (λ w. list_with tr w (is_wide tr.to.memory) tr.to.realloc (entry_extent tr.from ms) (entry_extent tr.to ns) element s d) h1
    ∙ ap (λ w. list_with tr w1 w tr.to.realloc (entry_extent tr.from ms) (entry_extent tr.to ns) element s d) h2
    ∙ ap (λ r. list_with tr w1 w2 r (entry_extent tr.from ms) (entry_extent tr.to ns) element s d) h3

-- ---- its places

-- where a list's pointer and length stand and go, its temporaries, and the places of what its code calls
pub record ListPlaces : Type 0 where
  pub from : PairFrom
  pub to : PairTo
  pub memory1 : ℕ
  pub memory2 : ℕ
  pub temp : ℕ → ℕ
  pub unaligned : ℕ
  pub outside : ℕ
  pub realloc : CoreDef
  pub realloc_at : ℕ
  pub get0 : ℕ
  pub get1 : ℕ
  pub set0 : ℕ
  pub set1 : ℕ

pub used_more : (used : ℕ → Bool) (other : ℕ) (to : PairTo) → ToUsed used (all_to to) → ToUsed (with_local used other) (first_to to)
used_more used other (PairToLocals a b) u = tt
used_more used other (PairToMemory memory base offset) u = local_more used other base u

pub used_behind : (used : ℕ → Bool) (bytes : ℕ) (to : PairTo) → ToUsed used (all_to to) → ToUsed (behind_first used to) (second_to bytes to)
used_behind used bytes (PairToLocals a b) u = tt
used_behind used bytes (PairToMemory memory base offset) u = u

pub behind_more : (used : ℕ → Bool) (to : PairTo) (i : ℕ) → used i ≡ true → behind_first used to i ≡ true
behind_more used (PairToLocals a b) i u = local_more used a.0 i u
behind_more used (PairToMemory memory base offset) i u = u

pub wide_is : {M : WasmModule} {p : ImportPlaces} {o : LiftLowerOptions} {memory64 : Bool} {memory : ℕ} → SideMemory M p o memory64 memory → is_wide o.memory ≡ memory64
wide_is h = ap is_wide h.is ∙ h.wide

module _ (S : Setting) (used : ℕ → Bool) (b : ListPlaces) (ms ns : Members) (code : List Instr) (element : Source → Target → Action (List CoreValue)) where
  -- a list of elements that this code moves
  abbrev pub listed : ListMove
  listed = record {
    size1 = (entry_extent S.from ms).size;
    align1 = (entry_extent S.from ms).align;
    size2 = (entry_extent S.to ns).size;
    align2 = (entry_extent S.to ns).align;
    temp = b.temp;
    unaligned = b.unaligned;
    outside = b.outside;
    realloc = b.realloc;
    realloc_at = b.realloc_at;
    get0 = b.get0;
    get1 = b.get1;
    set0 = b.set0;
    set1 = b.set1;
    memory1 = b.memory1;
    memory2 = b.memory2;
    pointer1 = first_from b.from;
    length1 = second_from (size_of (pointer_of_width S.from64)) b.from;
    pointer2 = first_to b.to;
    length2 = second_to (size_of (pointer_of_width S.to64)) b.to;
    code = code;
    element = element;
  }

  -- what its code needs of its setting, and of its elements
  pub record IsList : Type 0 where
    pub some1 : 0 < (entry_extent S.from ms).size
    pub some2 : 0 < (entry_extent S.to ns).size
    pub masks1 : (x : ℕ) → bit_and x ((entry_extent S.from ms).align - 1) ≡ x % (entry_extent S.from ms).align
    pub masks2 : (x : ℕ) → bit_and x ((entry_extent S.to ns).align - 1) ≡ x % (entry_extent S.to ns).align
    pub temps : Temporaries S.locals used 10 b.temp (list_type S.from64 S.to64)
    pub side1 : SideMemory S.whole S.places S.from S.from64 b.memory1
    pub side2 : SideMemory S.whole S.places S.to S.to64 b.memory2
    pub aligned1 : HasUnaligned (nat_eq (entry_extent S.from ms).align 1) S.whole S.places b.unaligned
    pub aligned2 : HasUnaligned (nat_eq (entry_extent S.to ns).align 1) S.whole S.places b.unaligned
    pub traps : KnowsFunction S.whole S.places (import.Trap ListOutOfBounds) b.outside [] []
    pub realloc_is : S.to.realloc ≡ Some b.realloc
    pub reallocs : KnowsFunction S.whole S.places (import.CoreDef b.realloc) b.realloc_at (address_type S.to64 ∷ address_type S.to64 ∷ address_type S.to64 ∷ address_type S.to64 ∷ []) (address_type S.to64 ∷ [])
    pub slots : HasSlotsIf S.concurrency S.whole S.places (slots_of listed)
    pub readable1 : Readable S.whole S.places S.checks S.from S.from64 (pointer_of_width S.from64) (first_from b.from)
    pub readable2 : Readable S.whole S.places S.checks S.from S.from64 (pointer_of_width S.from64) (second_from (size_of (pointer_of_width S.from64)) b.from)
    pub from_used1 : FromUsed used (first_from b.from)
    pub from_used2 : FromUsed used (second_from (size_of (pointer_of_width S.from64)) b.from)
    pub from_typed1 : FromTyped S.locals S.from64 (first_from b.from)
    pub from_typed2 : FromTyped S.locals S.from64 (second_from (size_of (pointer_of_width S.from64)) b.from)
    pub writable1 : Writable S.whole S.places S.to S.to64 (pointer_of_width S.to64) (first_to b.to)
    pub writable2 : Writable S.whole S.places S.to S.to64 (pointer_of_width S.to64) (second_to (size_of (pointer_of_width S.to64)) b.to)
    pub to_used : ToUsed used (all_to b.to)
    pub to_typed1 : ToTyped S.locals S.to64 (first_to b.to)
    pub to_typed2 : ToTyped S.locals S.to64 (second_to (size_of (pointer_of_width S.to64)) b.to)
    pub apart : IsApart (b.temp 1) b.to
    pub element_does : (ls : Locals) (x y : ℕ) → held_types ls ≡ S.locals → slice_get ls (b.temp 6) ≡ Some (Some (address_operand S.from64 x)) → slice_get ls (b.temp 7) ≡ Some (Some (address_operand S.to64 y)) → x + (entry_extent S.from ms).size ≤ 2 ^ address_bits S.from64 → y + (entry_extent S.to ns).size ≤ 2 ^ address_bits S.to64
        → Does S.whole S.places Onward 0 100 [] ls code (element (AtAddress x) (Into y)) (λ vs. []) (λ vs ls'. KeepsLocals (with_temps used b.temp 10) ls ls')
    pub element_typed : IsTyped S.whole S.locals [] code [] (OnStack [])

  module _ (h : IsList) where
    is_listed : IsListMove S used (with_temps used b.temp 10) (with_local used (b.temp 1)) (behind_first used b.to) listed
    is_listed = record {
      some1 = h.some1;
      some2 = h.some2;
      masks1 = h.masks1;
      masks2 = h.masks2;
      temps = h.temps;
      side1 = h.side1;
      side2 = h.side2;
      aligned1 = h.aligned1;
      aligned2 = h.aligned2;
      traps = h.traps;
      reallocs = h.reallocs;
      slots = h.slots;
      readable1 = h.readable1;
      readable2 = h.readable2;
      from_used1 = h.from_used1;
      from_used2 = h.from_used2;
      writable1 = h.writable1;
      writable2 = h.writable2;
      to_used1 = used_more used (b.temp 1) b.to h.to_used;
      to_used2 = used_behind used (size_of (pointer_of_width S.to64)) b.to h.to_used;
      inner_used = λ i u. temps_more used b.temp 10 i u;
      inner_temps = λ j lt. temps_here used b.temp 10 j lt;
      used2_used = behind_more used b.to;
      used1_used = λ i u. local_more used (b.temp 1) i u;
      used1_number = local_here used (b.temp 1);
      stays = first_stays used (size_of (pointer_of_width S.to64)) b.to;
      element_does = h.element_does;
    }

    -- Code that moves a list, with its checks and its new region, within the steps that one node has beside its elements.
    pub moves_elements : Moves S used 0 516 (all_from b.from) (all_to b.to) (λ s d. Visit 1 (move_list (transfer S) ms ns element s d)) (list_code S listed h.side1.log2 h.side2.log2)
    unfolding is_listed
    moves_elements = record {
      effect = λ ls s d e st g rooms.
          let is = list_is (transfer S) S.from64 S.to64 b.realloc ms ns element s d (wide_is h.side1) (wide_is h.side2) h.realloc_is ∙ by_width (transfer S) S.from64 S.to64 b.realloc (entry_extent S.from ms) (entry_extent S.to ns) element s d in
          subst (λ q. Does S.whole S.places Onward 0 516 [] ls (list_code S listed h.side1.log2 h.side2.log2) (Visit 1 q) (λ vs. []) (λ vs ls'. Stood ls' (all_to b.to) vs × KeepsLocals used ls ls')) (sym is)
          (visit (omega arith) (weaker (λ vs. refl) (λ vs ls' r. (subst (Stood ls' (all_to b.to)) (sym r.is) (both_stand used (size_of (pointer_of_width S.to64)) b.to ls' r.pointer_values r.length_values r.pointer_stands r.length_stands), r.keeps))
          (list_does is_listed ls e (nth_spot 1 (size_of (pointer_of_width S.to64)) 0 d) (nth_spot 1 (size_of (pointer_of_width S.to64)) 1 d)
          (λ l k. goes_first used S.to64 (size_of (pointer_of_width S.to64)) (b.temp 1) k b.to d h.apart h.to_used g) (λ l k. goes_second used S.to64 (size_of (pointer_of_width S.to64)) (b.temp 1) k b.to d h.apart h.to_used g)
          (nth_part 1 (size_of (pointer_of_width S.from64)) 0 s) (nth_part 1 (size_of (pointer_of_width S.from64)) 1 s) (stands_first ls S.from64 (size_of (pointer_of_width S.from64)) b.from s st) (stands_second ls S.from64 (size_of (pointer_of_width S.from64)) b.from s st))));
      typed = typed_list is_listed h.from_typed1 h.from_typed2 h.to_typed1 h.to_typed2 h.element_typed;
    }

-- ---- the moves of types

module _ (S : Setting) (used : ℕ → Bool) (b : ListPlaces) (ms ns : Members) (code : List Instr) (h : IsList S used b ms ns code (λ s d. move_fields (transfer S) ms ns 0 s d)) (from_align to_align : ℕ) where
  -- a list, by the code of its elements
  pub moves_list : Checked S (s_node k_list ms) (s_node k_list ns) from_align to_align (all_from b.from) (all_to b.to)
      → Moves S used 0 500 (all_from b.from) (all_to b.to) (move (transfer S) (s_node k_list ms) (s_node k_list ns)) (node_check S from_align to_align (all_from b.from) (all_to b.to) ++ list_code S (listed S used b ms ns code (λ s d. move_fields (transfer S) ms ns 0 s d)) h.side1.log2 h.side2.log2)
  unfolding move
  moves_list c = moves_checked c (moves_elements S used b ms ns code (λ s d. move_fields (transfer S) ms ns 0 s d) h)

  -- a map, by the code of its entries
  pub moves_map : Checked S (s_node k_map ms) (s_node k_map ns) from_align to_align (all_from b.from) (all_to b.to)
      → Moves S used 0 500 (all_from b.from) (all_to b.to) (move (transfer S) (s_node k_map ms) (s_node k_map ns)) (node_check S from_align to_align (all_from b.from) (all_to b.to) ++ list_code S (listed S used b ms ns code (λ s d. move_fields (transfer S) ms ns 0 s d)) h.side1.log2 h.side2.log2)
  unfolding move
  moves_map c = moves_checked c (moves_elements S used b ms ns code (λ s d. move_fields (transfer S) ms ns 0 s d) h)
