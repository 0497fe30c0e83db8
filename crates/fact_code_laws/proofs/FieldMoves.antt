-- One field of a record, and then the others.
use Rattle.std.proofs.Common.{◌≡◌, ℕ, zero, suc, ◌+◌, Bool, true, false, List, [], ◌∷◌, ◌++◌, Some, refl, sym, ap, ◌∙◌, subst, arith, take, drop}
use Rattle.fact_wasm.specs.declared.types.ValType.{ValType}
use Rattle.fact_wasm.specs.declared.instr.Instr.{Instr}
use Rattle.fact_machine.specs.declared.types.CoreValue.{CoreValue}
use Rattle.fact_values.specs.Limits.{place_in}
use Rattle.fact_actions.specs.Actions.{Action, Give, ◌>>=◌, Visit}
use Rattle.fact_actions.specs.Sides.{Transfer, width_of_side, Source, Values, AtAddress, Target, Slots, Into}
use Rattle.fact_types.specs.Fields.{Field, field_of}
use Rattle.fact_types.specs.Shapes.{Shape, Members, no_members, typed, place_of, next_of, s_node, k_record, k_tuple}
use Rattle.fact_actions.specs.Moves.{flat_length, part, spot, past, with_field, move, move_fields}
use Rattle.fact_code_laws.specs.Does.{Locals, Onward, Does}
use Rattle.fact_code_laws.specs.Places.{Setting, transfer, Slot, From, InLocals, InMemory, To, ToLocals, ToMemory, AreHeld, StandsAt, AreFree, MayGo, Stood, KeepsLocals, FromRoom, ToRoom, InRooms, Moves, AreUsed, FromUsed, ToUsed, node_check, to_past, IsNone}
use Rattle.fact_code_laws.proofs.Rules.{in_turn, done, visit, within}
use Rattle.fact_code_laws.proofs.Blocks.{mapped}
use Rattle.fact_code_laws.proofs.Keeping.{keeps_all, keeps_then, held_kept, stands_kept, goes_kept, rooms_kept}
use Rattle.fact_code_laws.proofs.UsedLocals.{with_local, local_here, local_more, local_other}
use Rattle.fact_code_laws.proofs.TypingLaws.{typed_done, typed_then}
use Rattle.fact_code_laws.proofs.Aligned.{Checked, moves_checked}

-- ---- parts of places: so many core values behind some, and so many bytes on

abbrev pub from_part : (count place bytes : ℕ) → From → From
from_part count place bytes (InLocals ss) = InLocals (take count (drop place ss))
from_part count place bytes (InMemory memory base offset) = InMemory memory base (offset + bytes)

abbrev pub source_part : (count place bytes : ℕ) → Source → Source
source_part count place bytes (Values vs) = Values (take count (drop place vs))
source_part count place bytes (AtAddress a) = AtAddress (a + bytes)

abbrev pub to_spot : (count bytes : ℕ) → To → To
to_spot count bytes (ToLocals ss) = ToLocals (take count ss)
to_spot count bytes (ToMemory memory base offset) = ToMemory memory base (offset + bytes)

abbrev pub target_spot : (count bytes : ℕ) → Target → Target
target_spot count bytes (Slots ts) = Slots (take count ts)
target_spot count bytes (Into a) = Into (a + bytes)

abbrev pub target_past : (count : ℕ) → Target → Target
target_past count (Slots ts) = Slots (drop count ts)
target_past count (Into a) = Into a

-- ---- what holds of parts

module _ (ls : Locals) where
  held_take : (n : ℕ) (ss : List Slot) (vs : List CoreValue) → AreHeld ls ss vs → AreHeld ls (take n ss) (take n vs)
  held_take zero ss vs h = tt
  held_take (suc n) [] [] h = tt
  held_take (suc n) [] (v ∷ vs) h = absurd h
  held_take (suc n) (s ∷ ss) [] h = absurd h
  held_take (suc n) (s ∷ ss) (v ∷ vs) h = (h.0, held_take n ss vs h.1)

  held_drop : (n : ℕ) (ss : List Slot) (vs : List CoreValue) → AreHeld ls ss vs → AreHeld ls (drop n ss) (drop n vs)
  held_drop zero ss vs h = h
  held_drop (suc n) [] [] h = tt
  held_drop (suc n) [] (v ∷ vs) h = absurd h
  held_drop (suc n) (s ∷ ss) [] h = absurd h
  held_drop (suc n) (s ∷ ss) (v ∷ vs) h = held_drop n ss vs h.1

  held_both : (n : ℕ) (ss : List Slot) (vs us : List CoreValue) → AreHeld ls (take n ss) vs → AreHeld ls (drop n ss) us → AreHeld ls ss (vs ++ us)
  held_both zero ss [] us h g = g
  held_both zero ss (v ∷ vs) us h g = absurd h
  held_both (suc n) [] [] us h g = g
  held_both (suc n) [] (v ∷ vs) us h g = absurd h
  held_both (suc n) (s ∷ ss) [] us h g = absurd h
  held_both (suc n) (s ∷ ss) (v ∷ vs) us h g = (h.0, held_both n ss vs us h.1 g)

module _ (used : ℕ → Bool) (ls : Locals) where
  free_take : (n : ℕ) (ss : List Slot) (ts : List ValType) → AreFree used ls ss ts → AreFree used ls (take n ss) (take n ts)
  free_take zero ss ts h = tt
  free_take (suc n) [] [] h = tt
  free_take (suc n) [] (t ∷ ts) h = absurd h
  free_take (suc n) (s ∷ ss) [] h = absurd h
  free_take (suc n) (s ∷ ss) (t ∷ ts) h = (h.0, h.1, h.2, free_take n ss ts h.3)

  free_drop : (n : ℕ) (ss : List Slot) (ts : List ValType) → AreFree used ls ss ts → AreFree used ls (drop n ss) (drop n ts)
  free_drop zero ss ts h = h
  free_drop (suc n) [] [] h = tt
  free_drop (suc n) [] (t ∷ ts) h = absurd h
  free_drop (suc n) (s ∷ ss) [] h = absurd h
  free_drop (suc n) (s ∷ ss) (t ∷ ts) h = free_drop n ss ts h.3

-- ---- the locals that are in use behind a field

abbrev pub with_slots : (ℕ → Bool) → List Slot → ℕ → Bool
with_slots used [] = used
with_slots used (s ∷ ss) = with_local (with_slots used ss) s.0

abbrev pub with_to : (ℕ → Bool) → To → ℕ → Bool
with_to used (ToLocals ss) = with_slots used ss
with_to used (ToMemory memory base offset) = used

-- no local of the second is one of the first
abbrev pub AreApart : List Slot → List Slot → Type 0
AreApart ss [] = Unit {0}
AreApart ss (t ∷ ts) = IsNone t.0 ss × AreApart ss ts

-- the locals behind a field are none of its own
abbrev pub IsApartAt : ℕ → To → Type 0
IsApartAt count (ToLocals ss) = AreApart (take count ss) (drop count ss)
IsApartAt count (ToMemory memory base offset) = Unit {0}

pub slots_more : (used : ℕ → Bool) (ss : List Slot) (i : ℕ) → used i ≡ true → with_slots used ss i ≡ true
slots_more used [] i u = u
slots_more used (s ∷ ss) i u = local_more (with_slots used ss) s.0 i (slots_more used ss i u)

pub slots_other : (used : ℕ → Bool) (ss : List Slot) (i : ℕ) → IsNone i ss → used i ≡ false → with_slots used ss i ≡ false
slots_other used [] i n u = u
slots_other used (s ∷ ss) i n u = local_other (with_slots used ss) s.0 i n.0 (slots_other used ss i n.1 u)

pub slots_here : (used : ℕ → Bool) (ss : List Slot) → AreUsed (with_slots used ss) ss
slots_here used [] = tt
slots_here used (s ∷ ss) = (local_here (with_slots used ss) s.0, wider ss (slots_here used ss))
  where
    wider : (ts : List Slot) → AreUsed (with_slots used ss) ts → AreUsed (with_local (with_slots used ss) s.0) ts
    wider [] u = tt
    wider (t ∷ ts) u = (local_more (with_slots used ss) s.0 t.0 u.0, wider ts u.1)

pub free_behind : (used : ℕ → Bool) (ls : Locals) (ss ss' : List Slot) (ts : List ValType) → AreApart ss ss' → AreFree used ls ss' ts → AreFree (with_slots used ss) ls ss' ts
free_behind used ls ss [] [] a f = tt
free_behind used ls ss [] (t ∷ ts) a f = absurd f
free_behind used ls ss (s ∷ ss') [] a f = absurd f
free_behind used ls ss (s ∷ ss') (t ∷ ts) a f = (f.0, f.1, slots_other used ss s.0 a.0 f.2, free_behind used ls ss ss' ts a.1 f.3)

module _ (memory64 : Bool) where
  pub stands_part : (ls : Locals) (count place bytes : ℕ) (from : From) (s : Source) → StandsAt ls memory64 from s → StandsAt ls memory64 (from_part count place bytes from) (source_part count place bytes s)
  stands_part ls count place bytes (InLocals ss) (Values vs) h = held_take ls count (drop place ss) (drop place vs) (held_drop ls place ss vs h)
  stands_part ls count place bytes (InLocals ss) (AtAddress a) h = absurd h
  stands_part ls count place bytes (InMemory memory base offset) (Values vs) h = absurd h
  stands_part ls count place bytes (InMemory memory base offset) (AtAddress a) h = record { start = h.start; there = h.there; is = let e = h.is in omega arith }

  pub goes_spot : (used : ℕ → Bool) (ls : Locals) (count bytes : ℕ) (to : To) (d : Target) → MayGo used ls memory64 to d → MayGo used ls memory64 (to_spot count bytes to) (target_spot count bytes d)
  goes_spot used ls count bytes (ToLocals ss) (Slots ts) h = free_take used ls count ss ts h
  goes_spot used ls count bytes (ToLocals ss) (Into a) h = absurd h
  goes_spot used ls count bytes (ToMemory memory base offset) (Slots ts) h = absurd h
  goes_spot used ls count bytes (ToMemory memory base offset) (Into a) h = record { start = h.start; there = h.there; is = let e = h.is in omega arith }

  pub goes_past : (used : ℕ → Bool) (ls : Locals) (count bytes : ℕ) (to : To) (d : Target) → IsApartAt count to → MayGo used ls memory64 to d → MayGo (with_to used (to_spot count bytes to)) ls memory64 (to_past count to) (target_past count d)
  goes_past used ls count bytes (ToLocals ss) (Slots ts) a h = free_behind used ls (take count ss) (drop count ss) (drop count ts) a (free_drop used ls count ss ts h)
  goes_past used ls count bytes (ToLocals ss) (Into x) a h = absurd h
  goes_past used ls count bytes (ToMemory memory base offset) (Slots ts) a h = absurd h
  goes_past used ls count bytes (ToMemory memory base offset) (Into x) a h = h

-- parts are found by the same locals
from_part_room : (ls : Locals) (memory64 : Bool) (count place bytes : ℕ) (from : From) (n : ℕ) → FromRoom ls memory64 from n → FromRoom ls memory64 (from_part count place bytes from) n
from_part_room ls memory64 count place bytes (InLocals ss) n r = tt
from_part_room ls memory64 count place bytes (InMemory memory base offset) n r = r

to_spot_room : (ls : Locals) (memory64 : Bool) (count bytes : ℕ) (to : To) (n : ℕ) → ToRoom ls memory64 to n → ToRoom ls memory64 (to_spot count bytes to) n
to_spot_room ls memory64 count bytes (ToLocals ss) n r = tt
to_spot_room ls memory64 count bytes (ToMemory memory base offset) n r = r

to_past_room : (ls : Locals) (memory64 : Bool) (count : ℕ) (to : To) (n : ℕ) → ToRoom ls memory64 to n → ToRoom ls memory64 (to_past count to) n
to_past_room ls memory64 count (ToLocals ss) n r = tt
to_past_room ls memory64 count (ToMemory memory base offset) n r = r

pub rooms_part : {S : Setting} {ls : Locals} (count place bytes : ℕ) (from : From) (to : To) → InRooms S ls from to → InRooms S ls (from_part count place bytes from) to
rooms_part {S} {ls} count place bytes from to r = record { source = from_part_room ls S.from64 count place bytes from S.rooms.from r.source; target = r.target }

pub rooms_spot : {S : Setting} {ls : Locals} (count bytes : ℕ) (from : From) (to : To) → InRooms S ls from to → InRooms S ls from (to_spot count bytes to)
rooms_spot {S} {ls} count bytes from to r = record { source = r.source; target = to_spot_room ls S.to64 count bytes to S.rooms.to r.target }

pub rooms_past : {S : Setting} {ls : Locals} (count : ℕ) (from : From) (to : To) → InRooms S ls from to → InRooms S ls from (to_past count to)
rooms_past {S} {ls} count from to r = record { source = r.source; target = to_past_room ls S.to64 count to S.rooms.to r.target }

pub to_more : (used : ℕ → Bool) (to : To) (i : ℕ) → used i ≡ true → with_to used to i ≡ true
to_more used (ToLocals ss) i u = slots_more used ss i u
to_more used (ToMemory memory base offset) i u = u

pub stood_stays : (used : ℕ → Bool) (to : To) {ls ls' : Locals} (vs : List CoreValue) → KeepsLocals (with_to used to) ls ls' → Stood ls to vs → Stood ls' to vs
stood_stays used (ToLocals ss) vs k h = held_kept k ss vs (slots_here used ss) h
stood_stays used (ToMemory memory base offset) vs k h = h

pub stood_both : (ls : Locals) (count bytes : ℕ) (to : To) (vs us : List CoreValue) → Stood ls (to_spot count bytes to) vs → Stood ls (to_past count to) us → Stood ls to (vs ++ us)
stood_both ls count bytes (ToLocals ss) vs us h g = held_both ls count ss vs us h g
stood_both ls count bytes (ToMemory memory base offset) vs us h g = ap (λ l. l ++ us) h ∙ g

-- ---- the move

-- A field is moved from its part to the next room, and then the others, while the first one's locals are in use.
pub moves_field : {S : Setting} {used : ℕ → Bool} {e1 e2 s1 s2 : ℕ} {from : From} {to : To} {move1 move2 : Source → Target → Action (List CoreValue)} {code1 code2 : List Instr} (count place bytes room_count room : ℕ)
    → FromUsed used from → ToUsed used to → IsApartAt room_count to
    → Moves S used e1 s1 (from_part count place bytes from) (to_spot room_count room to) move1 code1
    → Moves S (with_to used (to_spot room_count room to)) e2 s2 from (to_past room_count to) move2 code2
    → Moves S used (e1 + e2) (s1 + s2) from to (λ s d. move1 (source_part count place bytes s) (target_spot room_count room d) >>= (λ vs. move2 s (target_past room_count d) >>= (λ us. Give (vs ++ us)))) (code1 ++ code2)
moves_field {S} {used} {from = from} {to} count place bytes room_count room fu tu apart one two = record {
  effect = λ ls s d e st g rooms.
      in_turn (one.effect ls (source_part count place bytes s) (target_spot room_count room d) e (stands_part S.from64 ls count place bytes from s st) (goes_spot S.to64 used ls room_count room to d g) (rooms_spot room_count room (from_part count place bytes from) to (rooms_part count place bytes from to rooms))) (λ vs ls1 r.
      mapped (λ us. vs ++ us) (λ us. refl)
      (λ us ls2 q. (stood_both ls2 room_count room to vs us (stood_stays used (to_spot room_count room to) vs q.1 r.0) q.0, keeps_then r.1 (record { same = λ i u. q.1.same i (to_more used (to_spot room_count room to) i u); types = q.1.types })))
      (two.effect ls1 s (target_past room_count d) (r.1.types ∙ e) (stands_kept r.1 S.from64 from s fu st) (goes_past S.to64 used ls1 room_count room to d apart (goes_kept r.1 S.to64 to d tu g)) (rooms_past room_count from to (rooms_kept r.1 from to fu tu rooms))));
  typed = typed_then one.typed two.typed;
}

-- ---- records

-- code that does a move does each move that is the same action at all places
pub moves_same : {S : Setting} {used : ℕ → Bool} {extra spare : ℕ} {from : From} {to : To} {move1 move2 : Source → Target → Action (List CoreValue)} {code : List Instr}
    → ((s : Source) (d : Target) → move1 s d ≡ move2 s d) → Moves S used extra spare from to move1 code → Moves S used extra spare from to move2 code
moves_same {S} {used} {extra} {spare} {from} {to} {move1} {move2} {code} h m = record {
  effect = λ ls s d e st g rooms. subst (λ q. Does S.whole S.places Onward extra spare [] ls code q (λ vs. []) (λ vs ls'. Stood ls' to vs × KeepsLocals used ls ls')) (h s d) (m.effect ls s d e st g rooms);
  typed = m.typed;
}

module _ (tr : Transfer) (ms ns : Members) (x : List ℕ) (u : Shape) (end : ℕ) (f : Field) where
  -- the first member at its parts, and then the others
  abbrev member_first : Source → Target → Action (List CoreValue)
  member_first s d =
      move tr f.shape u (source_part (flat_length tr.from f.shape) f.flat_place (place_in (width_of_side tr.from) f) s) (target_spot (flat_length tr.to u) (place_of (width_of_side tr.to) u end) d) >>= (λ vs.
      move_fields tr ms ns (next_of (width_of_side tr.to) u end) s (target_past (flat_length tr.to u) d) >>= (λ us. Give (vs ++ us)))

  abbrev by_field : Source → Target → Field → Action (List CoreValue)
  by_field s d g =
      move tr g.shape u (part tr.from g s) (spot tr.to u end d) >>= (λ vs.
      move_fields tr ms ns (next_of (width_of_side tr.to) u end) s (past tr.to u d) >>= (λ us. Give (vs ++ us)))

  member_is : field_of x ms ≡ Some f → (s : Source) (d : Target) → member_first s d ≡ move_fields tr ms (typed x u ns) end s d
  unfolding move
  member_is h (Values vs) (Slots ts) = sym (ap (λ o. with_field o (by_field (Values vs) (Slots ts))) h)
  member_is h (Values vs) (Into b) = sym (ap (λ o. with_field o (by_field (Values vs) (Into b))) h)
  member_is h (AtAddress a) (Slots ts) = sym (ap (λ o. with_field o (by_field (AtAddress a) (Slots ts))) h)
  member_is h (AtAddress a) (Into b) = sym (ap (λ o. with_field o (by_field (AtAddress a) (Into b))) h)

-- Code for the fields of a record, one after another: the first is moved from the source field of its name.
pub moves_member : {S : Setting} {used : ℕ → Bool} {e1 e2 s1 s2 : ℕ} {from : From} {to : To} {code1 code2 : List Instr} (ms ns : Members) (x : List ℕ) (u : Shape) (end : ℕ) (f : Field) → field_of x ms ≡ Some f → FromUsed used from → ToUsed used to → IsApartAt (flat_length S.to u) to
    → Moves S used e1 s1 (from_part (flat_length S.from f.shape) f.flat_place (place_in (width_of_side S.from) f) from) (to_spot (flat_length S.to u) (place_of (width_of_side S.to) u end) to) (move (transfer S) f.shape u) code1
    → Moves S (with_to used (to_spot (flat_length S.to u) (place_of (width_of_side S.to) u end) to)) e2 s2 from (to_past (flat_length S.to u) to) (move_fields (transfer S) ms ns (next_of (width_of_side S.to) u end)) code2
    → Moves S used (e1 + e2) (s1 + s2) from to (move_fields (transfer S) ms (typed x u ns) end) (code1 ++ code2)
moves_member {S} ms ns x u end f h fu tu apart one two =
    moves_same (member_is (transfer S) ms ns x u end f h)
    (moves_field (flat_length S.from f.shape) f.flat_place (place_in (width_of_side S.from) f) (flat_length S.to u) (place_of (width_of_side S.to) u end) fu tu apart one two)

-- no field is left
pub moves_no_member : {S : Setting} {used : ℕ → Bool} {from : From} {memory base offset : ℕ} (ms : Members) (end : ℕ) → Moves S used 0 0 from (ToMemory memory base offset) (move_fields (transfer S) ms no_members end) []
unfolding move
moves_no_member ms end = record { effect = λ ls s d e st g rooms. done refl (refl, keeps_all); typed = typed_done }

pub moves_no_local : {S : Setting} {used : ℕ → Bool} {from : From} (ms : Members) (end : ℕ) → Moves S used 0 0 from (ToLocals []) (move_fields (transfer S) ms no_members end) []
unfolding move
moves_no_local ms end = record { effect = λ ls s d e st g rooms. done refl (tt, keeps_all); typed = typed_done }

-- a node of one, whose weight pays for what its parts do not
pub moves_visited : {S : Setting} {used : ℕ → Bool} {from : From} {to : To} {act : Source → Target → Action (List CoreValue)} {code : List Instr} → Moves S used 0 0 from to act code → Moves S used 0 516 from to (λ s d. Visit 1 (act s d)) code
moves_visited m = record { effect = λ ls s d e st g rooms. visit (omega arith) (m.effect ls s d e st g rooms); typed = m.typed }

-- whose weight pays for nothing but its parts, so that all of it is left
pub moves_unpaid : {S : Setting} {used : ℕ → Bool} {from : From} {to : To} {act : Source → Target → Action (List CoreValue)} {code : List Instr} → Moves S used 0 0 from to act code → Moves S used 0 900 from to (λ s d. Visit 1 (act s d)) code
moves_unpaid m = record { effect = λ ls s d e st g rooms. visit (omega arith) (m.effect ls s d e st g rooms); typed = m.typed }

-- less of it
pub moves_less : {S : Setting} {used : ℕ → Bool} {from : From} {to : To} {act : Source → Target → Action (List CoreValue)} {code : List Instr} → Moves S used 0 900 from to act code → Moves S used 0 516 from to act code
moves_less m = record { effect = λ ls s d e st g rooms. within (omega arith) (m.effect ls s d e st g rooms); typed = m.typed }

module _ {S : Setting} {used : ℕ → Bool} {from : From} {to : To} {code : List Instr} {ms ns : Members} {from_align to_align : ℕ} (m : Moves S used 0 0 from to (move_fields (transfer S) ms ns 0) code) where
  -- a record, by the code of its fields
  pub moves_record : Checked S (s_node k_record ms) (s_node k_record ns) from_align to_align from to → Moves S used 0 500 from to (move (transfer S) (s_node k_record ms) (s_node k_record ns)) (node_check S from_align to_align from to ++ code)
  unfolding move
  moves_record c = moves_checked c (moves_visited m)

  -- a tuple, by the code of its members
  pub moves_tuple : Checked S (s_node k_tuple ms) (s_node k_tuple ns) from_align to_align from to → Moves S used 0 500 from to (move (transfer S) (s_node k_tuple ms) (s_node k_tuple ns)) (node_check S from_align to_align from to ++ code)
  unfolding move
  moves_tuple c = moves_checked c (moves_visited m)
