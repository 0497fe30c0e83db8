-- Lists of fixed length as nodes: by a loop from memory to memory, and else element by element.
use Rattle.std.proofs.Common.{◌≡◌, ℕ, zero, suc, ◌+◌, ◌*◌, ◌≤◌, Bool, List, [], ◌++◌, refl, ap, ◌∙◌, arith, take, drop}
use Rattle.std.proofs.lemmas.List.{drop-drop}
use Rattle.fact_wasm.specs.declared.types.ValType.{ValType}
use Rattle.fact_wasm.specs.declared.instr.Instr.{Instr}
use Rattle.fact_types.specs.Shapes.{k_fixed, s_node, Members}
use Rattle.fact_machine.specs.declared.types.CoreValue.{CoreValue}
use Rattle.fact_actions.specs.Actions.{Action, Give, Visit, ◌>>=◌, each_from, each}
use Rattle.fact_actions.specs.Moves.{element_flats, entry_extent, move_fixed, move, move_fields}
use Rattle.fact_actions.specs.Sides.{Source, Values, AtAddress, Target, Slots, Into, nth_part, nth_spot}
use Rattle.fact_code_laws.specs.FixedLists.{FixedMove, fixed_code}
use Rattle.fact_code_laws.specs.Places.{Setting, transfer, From, InMemory, To, ToLocals, ToMemory, Moves, FromUsed, ToUsed, node_check, to_past}
use Rattle.fact_code_laws.proofs.Aligned.{Checked, moves_checked}
use Rattle.fact_code_laws.proofs.FieldMoves.{from_part, source_part, to_spot, target_spot, target_past, with_to, IsApartAt, moves_field, moves_same}
use Rattle.fact_code_laws.proofs.FixedLoops.{IsFixedMove, moves_fixed_loop}
use Rattle.fact_code_laws.proofs.Keeping.{keeps_all}
use Rattle.fact_code_laws.proofs.Rules.{done, visit, within}
use Rattle.fact_code_laws.proofs.TypingLaws.{typed_done}

-- ---- one by one

-- So many elements from one of a number on, each from its part of the source to the next room of what is left of the target: slots are
-- left over behind those that are filled, and a place in memory is as it was.
abbrev pub elements_from : (flats1 size1 flats2 size2 : ℕ) → (Source → Target → Action (List CoreValue)) → (i count : ℕ) → Source → Target → Action (List CoreValue)
elements_from flats1 size1 flats2 size2 element i zero s d = Give []
elements_from flats1 size1 flats2 size2 element i (suc n) s d =
    element (source_part flats1 (i * flats1) (i * size1) s) (target_spot flats2 (i * size2) d) >>= (λ vs.
    elements_from flats1 size1 flats2 size2 element (suc i) n s (target_past flats2 d) >>= (λ us. Give (vs ++ us)))

module _ (flats1 size1 flats2 size2 : ℕ) (element : Source → Target → Action (List CoreValue)) where
  abbrev nth : Source → Target → ℕ → Action (List CoreValue)
  nth s d i = element (nth_part flats1 size1 i s) (nth_spot flats2 size2 i d)

  abbrev rest : ℕ → ℕ → Source → Target → Action (List CoreValue)
  rest i n s d = elements_from flats1 size1 flats2 size2 element i n s d

  one_then : {q q' : Action (List CoreValue)} (one : Action (List CoreValue)) → q ≡ q' → (one >>= (λ vs. q >>= (λ us. Give (vs ++ us)))) ≡ (one >>= (λ vs. q' >>= (λ us. Give (vs ++ us))))
  one_then one e = ap (λ q. one >>= (λ vs. q >>= (λ us. Give (vs ++ us)))) e

  part_is : (i : ℕ) (s : Source) → source_part flats1 (i * flats1) (i * size1) s ≡ nth_part flats1 size1 i s
  part_is i (Values vs) = refl
  part_is i (AtAddress a) = refl

  in_memory : (n i : ℕ) (s : Source) (a : ℕ) → rest i n s (Into a) ≡ each_from i n (nth s (Into a))
  in_memory zero i s a = refl
  in_memory (suc n) i s a = ap (λ p. element p (Into (a + i * size2)) >>= (λ vs. rest (suc i) n s (Into a) >>= (λ us. Give (vs ++ us)))) (part_is i s) ∙ one_then (nth s (Into a) i) (in_memory n (suc i) s a)

  in_slots : (n i : ℕ) (s : Source) (ts : List ValType) → rest i n s (Slots (drop (i * flats2) ts)) ≡ each_from i n (nth s (Slots ts))
  in_slots zero i s ts = refl
  in_slots (suc n) i s ts =
      let past : drop flats2 (drop (i * flats2) ts) ≡ drop (suc i * flats2) ts = drop-drop flats2 (i * flats2) ts ∙ ap (λ m. drop m ts) (omega arith) in
      ap (λ p. element p (Slots (take flats2 (drop (i * flats2) ts))) >>= (λ vs. rest (suc i) n s (Slots (drop flats2 (drop (i * flats2) ts))) >>= (λ us. Give (vs ++ us)))) (part_is i s)
      ∙ one_then (nth s (Slots ts) i) (ap (λ us. rest (suc i) n s (Slots us)) past ∙ in_slots n (suc i) s ts)

  elements_are : (n : ℕ) (s : Source) (d : Target) → rest 0 n s d ≡ each n (nth s d)
  elements_are n s (Into a) = in_memory n 0 s a
  elements_are n s (Slots ts) =
      let none : 0 ≡ 0 * flats2 = omega arith in
      ap (λ m. rest 0 n s (Slots (drop m ts))) none ∙ in_slots n 0 s ts

  module _ {S : Setting} {used : ℕ → Bool} {from : From} where
    -- no element is left
    pub moves_no_element : (i : ℕ) {memory base offset : ℕ} → Moves S used 0 0 from (ToMemory memory base offset) (λ s d. rest i 0 s d) []
    moves_no_element i = record { effect = λ ls s d e st g rooms. done refl (refl, keeps_all); typed = typed_done }

    pub moves_no_slot : (i : ℕ) → Moves S used 0 0 from (ToLocals []) (λ s d. rest i 0 s d) []
    moves_no_slot i = record { effect = λ ls s d e st g rooms. done refl (tt, keeps_all); typed = typed_done }

    -- an element, and then the others, while the locals of its destination are in use
    pub moves_element : {to : To} (i n : ℕ) {code1 code2 : List Instr} → FromUsed used from → ToUsed used to → IsApartAt flats2 to
        → Moves S used 0 100 (from_part flats1 (i * flats1) (i * size1) from) (to_spot flats2 (i * size2) to) element code1
        → Moves S (with_to used (to_spot flats2 (i * size2) to)) 0 0 from (to_past flats2 to) (λ s d. rest (suc i) n s d) code2
        → Moves S used 0 0 from to (λ s d. rest i (suc n) s d) (code1 ++ code2)
    moves_element i n fu tu apart one two =
        let all = moves_field flats1 (i * flats1) (i * size1) flats2 (i * size2) fu tu apart one two in
        record { effect = λ ls s d e st g rooms. within (omega arith) (all.effect ls s d e st g rooms); typed = all.typed }

    -- all elements
    pub moves_elements : {to : To} (n : ℕ) {code : List Instr} → Moves S used 0 0 from to (λ s d. rest 0 n s d) code → Moves S used 0 0 from to (λ s d. each n (nth s d)) code
    moves_elements n m = moves_same (elements_are n) m

-- ---- nodes

-- the weight of a node pays for what its elements do not
moves_paid : {S : Setting} {used : ℕ → Bool} {extra : ℕ} {from : From} {to : To} {act : Source → Target → Action (List CoreValue)} {code : List Instr} → extra ≤ 384 → Moves S used extra 0 from to act code → Moves S used 0 516 from to (λ s d. Visit 1 (act s d)) code
moves_paid few m = record { effect = λ ls s d e st g rooms. visit (omega (arith, few)) (m.effect ls s d e st g rooms); typed = m.typed }

module _ (S : Setting) (used : ℕ → Bool) (ms ns : Members) where
  abbrev pub element_moves : Source → Target → Action (List CoreValue)
  element_moves s d = move_fields (transfer S) ms ns 0 s d

  -- a list from memory to memory
  pub moves_fixed_in_memory : (l : FixedMove) (code : List Instr) → l.size1 ≡ (entry_extent S.from ms).size → l.size2 ≡ (entry_extent S.to ns).size → IsFixedMove S used l element_moves code
      → Moves S used 0 516 (InMemory l.memory1 l.base1 l.offset1) (ToMemory l.memory2 l.base2 l.offset2) (λ s d. Visit 1 (move_fixed (transfer S) l.count ms ns element_moves s d)) (fixed_code S.from64 S.to64 l code)
  moves_fixed_in_memory l code e1 e2 h =
      moves_paid (omega arith)
      (moves_same (λ s d. ap (λ z. each l.count (λ i. element_moves (nth_part (element_flats S.from ms) z i s) (nth_spot (element_flats S.to ns) l.size2 i d))) e1
      ∙ ap (λ z. each l.count (λ i. element_moves (nth_part (element_flats S.from ms) (entry_extent S.from ms).size i s) (nth_spot (element_flats S.to ns) z i d))) e2)
      (moves_fixed_loop h (element_flats S.from ms) (element_flats S.to ns)))

  -- a list whose elements are moved one by one
  pub moves_fixed_by_parts : {from : From} {to : To} (n : ℕ) {code : List Instr} → Moves S used 0 0 from to (λ s d. elements_from (element_flats S.from ms) (entry_extent S.from ms).size (element_flats S.to ns) (entry_extent S.to ns).size element_moves 0 n s d) code
      → Moves S used 0 516 from to (λ s d. Visit 1 (move_fixed (transfer S) n ms ns element_moves s d)) code
  moves_fixed_by_parts n m = moves_paid (omega arith) (moves_elements (element_flats S.from ms) (entry_extent S.from ms).size (element_flats S.to ns) (entry_extent S.to ns).size element_moves n m)

  -- with the checks of its places in front
  pub moves_fixed_node : {from : From} {to : To} (m n : ℕ) {code : List Instr} {from_align to_align : ℕ} → Checked S (s_node (k_fixed m) ms) (s_node (k_fixed n) ns) from_align to_align from to
      → Moves S used 0 516 from to (λ s d. Visit 1 (move_fixed (transfer S) n ms ns element_moves s d)) code
      → Moves S used 0 500 from to (move (transfer S) (s_node (k_fixed m) ms) (s_node (k_fixed n) ns)) (node_check S from_align to_align from to ++ code)
  unfolding move
  moves_fixed_node m n c moved = moves_checked c moved
