-- Lists of fixed length from memory to memory: an element is moved, and both addresses go on.
use Rattle.std.proofs.Common.{◌≡◌, ◌≢◌, ℕ, zero, suc, ◌+◌, ◌-◌, ◌*◌, ◌^◌, ◌<◌, ◌≤◌, Bool, true, false, List, [], ◌∷◌, ◌++◌, Some, refl, sym, ap, ◌∙◌, subst, arith, slice_get}
use Rattle.fact_wasm.specs.declared.types.ValType.{ValType}
use Rattle.fact_wasm.specs.declared.types.ValType.TheVariants as val
use Rattle.fact_wasm.specs.declared.instr.Instr.{Instr}
use Rattle.fact_wasm.specs.declared.instr.Instr.TheVariants as I
use Rattle.fact_wasm.specs.declared.instr.Instr.TheOpen as o
use Rattle.fact_wasm.specs.declared.module.WasmModule.{WasmModule}
use Rattle.fact_machine.specs.declared.types.CoreValue.{CoreValue}
use Rattle.fact_machine.specs.declared.types.CoreValue.TheVariants.{I32}
use Rattle.fact_machine.specs.Typing.{address_bits, address_type, address_operand}
use Rattle.fact_machine.proofs.RowLaws.{leaves_i32_const}
use Rattle.fact_actions.specs.Actions.{Action, each}
use Rattle.fact_actions.specs.Running.{ImportPlaces}
use Rattle.fact_actions.specs.Sides.{Source, Values, AtAddress, Target, Slots, Into, nth_part, nth_spot}
use Rattle.fact_code_laws.specs.Does.{Locals, Way, Onward, held_types, Does}
use Rattle.fact_code_laws.specs.FixedLists.{FixedMove, offset_code, fixed_turn, fixed_code}
use Rattle.fact_code_laws.specs.Places.{Setting, InMemory, ToMemory, StandsAt, MayGo, InRooms, KeepsLocals, Moves, limit_of}
use Rattle.fact_code_laws.specs.Tests.{pointer_of_width}
use Rattle.fact_code_laws.specs.Typed.{OnStack, IsTyped}
use Rattle.fact_code_laws.proofs.Blocks.{weaker, same_run, alone}
use Rattle.fact_code_laws.proofs.Countdown.{IsTurned, counted_down, typed_countdown}
use Rattle.fact_code_laws.proofs.Keeping.{keeps_then, room_at}
use Rattle.fact_code_laws.proofs.ListCode.{pushes_wrapped, address_typed, bumps}
use Rattle.fact_code_laws.proofs.ListTyped.{takes_const, takes_add, typed_bump}
use Rattle.fact_code_laws.proofs.Numbers.{set_keeps}
use Rattle.fact_code_laws.proofs.Rules.{IsSet, within, in_turn, pushing, local_set, done}
use Rattle.fact_code_laws.proofs.TypedRows.{takes_plain, takes_local_get, takes_local_set}
use Rattle.fact_code_laws.proofs.TypingLaws.{typed_then, typed_next, typed_one}
use Rattle.fact_code_laws.proofs.UsedLocals.{with_local, local_here, local_more}

-- ---- its locals

-- the locals in use while an element is moved
abbrev pub with_fixed : (ℕ → Bool) → FixedMove → ℕ → Bool
with_fixed used l = with_local (with_local (with_local used l.source) l.target) l.left

-- a local of a type that may be changed
pub record IsFreeLocal (locals : List ValType) (used : ℕ → Bool) (i : ℕ) (t : ValType) : Type 0 where
  pub typed : slice_get locals i ≡ Some t
  pub free : used i ≡ false

-- the setting of elements, whose bytes have addresses
abbrev pub element_setting : Setting → (from_bytes to_bytes : ℕ) → Setting
element_setting S from_bytes to_bytes = record S { rooms = record { from = from_bytes; to = to_bytes } }

-- What the code of a list needs of its setting, and of that of its elements. All elements are within the room behind the addresses
-- of the places.
pub record IsFixedMove (S : Setting) (used : ℕ → Bool) (l : FixedMove) (element : Source → Target → Action (List CoreValue)) (code : List Instr) : Type 0 where
  pub some : 0 < l.count
  pub few : l.count < 2 ^ 32
  pub some1 : 0 < l.size1
  pub some2 : 0 < l.size2
  pub source : IsFreeLocal S.locals used l.source (address_type S.from64)
  pub target : IsFreeLocal S.locals used l.target (address_type S.to64)
  pub left : IsFreeLocal S.locals used l.left val.I32
  pub source_target : l.source ≢ l.target
  pub source_left : l.source ≢ l.left
  pub target_left : l.target ≢ l.left
  pub typed1 : slice_get S.locals l.base1 ≡ Some (address_type S.from64)
  pub typed2 : slice_get S.locals l.base2 ≡ Some (address_type S.to64)
  pub used2 : used l.base2 ≡ true
  pub room1 : l.offset1 + l.count * l.size1 ≤ S.rooms.from
  pub room2 : l.offset2 + l.count * l.size2 ≤ S.rooms.to
  pub element_moves : Moves (element_setting S l.size1 l.size2) (with_fixed used l) 0 100 (InMemory l.memory1 l.source 0) (ToMemory l.memory2 l.target 0) element code

-- ---- addresses

limit_addresses : (memory64 : Bool) (n : ℕ) → n < 2 ^ address_bits memory64 → n < limit_of (pointer_of_width memory64)
limit_addresses true n h = h
limit_addresses false n h = h

-- an element of so many has its bytes within those of all, and where another is left, the next one's begin is within them
one_within : (i m e p end : ℕ) → p + (suc i + m) * e ≤ end → p + i * e + e ≤ end
one_within i m e p end le = omega (arith, le)

next_within : (i m e p end : ℕ) → 0 < e → p + (suc i + suc m) * e ≤ end → p + i * e + e < end
next_within i m e p end some le = omega (arith, some, le)

module _ (n : ℕ) (memory64 : Bool) (p e : ℕ) (all : p + n * e ≤ 2 ^ address_bits memory64) where
  element_within : (i : ℕ) → i < n → p + i * e + e ≤ 2 ^ address_bits memory64
  element_within i lt =
      let same : n ≡ suc i + (n - suc i) = omega arith in
      one_within i (n - suc i) e p (2 ^ address_bits memory64) (subst (λ k. p + k * e ≤ 2 ^ address_bits memory64) same all)

  -- an address that goes on is that of the next element, where there is one
  next_is : (i x : ℕ) → 0 < e → (p + i * e + e < limit_of (pointer_of_width memory64) → x ≡ p + i * e + e) → suc i < n → x ≡ p + suc i * e
  next_is i x some up lt =
      let same : n ≡ suc i + suc (n - suc (suc i)) = omega arith in
      let inside = next_within i (n - suc (suc i)) e p (2 ^ address_bits memory64) some (subst (λ k. p + k * e ≤ 2 ^ address_bits memory64) same all) in
      up (limit_addresses memory64 (p + i * e + e) inside) ∙ omega arith

-- the address that is so far from another, in front of other code
offsets : {A : Type 0} {M : WasmModule} {p : ImportPlaces} {way : Way} {extra spare : ℕ} {ins : List CoreValue} {ls : Locals} {c : List Instr} {q : Action A} {out : A → List CoreValue} {Holds : A → Locals → Type 0}
    (memory64 : Bool) (base offset local start : ℕ) → slice_get ls base ≡ Some (Some (address_operand memory64 start)) → start + offset < 2 ^ address_bits memory64 → slice_get (held_types ls) local ≡ Some (address_type memory64)
    → ((ls' : Locals) → IsSet local (address_operand memory64 (start + offset)) ls ls' → Does M p way extra spare ins ls' c q out Holds)
    → Does M p way (4 + extra) spare ins ls (offset_code memory64 base offset local ++ c) q out Holds
offsets {ls = ls} memory64 base offset local start h lt t go =
    let b = pushes_wrapped memory64 base start offset h in
    let is : b.0 ≡ start + offset = b.2 (limit_addresses memory64 (start + offset) lt) in
    within (omega arith) (pushing b.1 (local_set (address_type memory64) t (address_typed memory64 b.0) (λ ls' set. go ls' (subst (λ x. IsSet local (address_operand memory64 x) ls ls') is set))))

-- ---- the loop

module _ {S : Setting} {used : ℕ → Bool} {l : FixedMove} {element : Source → Target → Action (List CoreValue)} {code : List Instr} (h : IsFixedMove S used l element code) (first : Locals) (e : held_types first ≡ S.locals) (a b : ℕ)
    (all1 : a + l.count * l.size1 ≤ 2 ^ address_bits S.from64) (all2 : b + l.count * l.size2 ≤ 2 ^ address_bits S.to64) where
  -- how the locals stand before the turn of this number
  record FixedTurn (i : ℕ) (ls : Locals) : Type 0 where
    pub keeps : KeepsLocals used first ls
    pub left : slice_get ls l.left ≡ Some (Some (I32 (l.count - i)))
    pub source : i < l.count → slice_get ls l.source ≡ Some (Some (address_operand S.from64 (a + i * l.size1)))
    pub target : i < l.count → slice_get ls l.target ≡ Some (Some (address_operand S.to64 (b + i * l.size2)))

  inner : ℕ → Bool
  inner = with_fixed used l

  inner_used : (i : ℕ) → used i ≡ true → inner i ≡ true
  unfolding inner
  inner_used i u = local_more (with_local (with_local used l.source) l.target) l.left i (local_more (with_local used l.source) l.target i (local_more used l.source i u))

  inner_source : inner l.source ≡ true
  unfolding inner
  inner_source = local_more (with_local (with_local used l.source) l.target) l.left l.source (local_more (with_local used l.source) l.target l.source (local_here used l.source))

  inner_target : inner l.target ≡ true
  unfolding inner
  inner_target = local_more (with_local (with_local used l.source) l.target) l.left l.target (local_here (with_local used l.source) l.target)

  inner_left : inner l.left ≡ true
  unfolding inner
  inner_left = local_here (with_local (with_local used l.source) l.target) l.left

  fixed_turned : (i : ℕ) (ls : Locals) → suc i ≤ l.count → FixedTurn i ls
      → Does S.whole S.places Onward 8 100 [] ls (fixed_turn S.from64 S.to64 l code) (element (AtAddress (a + i * l.size1)) (Into (b + i * l.size2))) (λ vs. []) (λ vs ls'. IsTurned l.left l.count FixedTurn i vs ls')
  unfolding inner
  fixed_turned i ls lt t =
      let types : held_types ls ≡ S.locals = t.keeps.types ∙ e in
      let at1 = t.source lt in
      let at2 = t.target lt in
      let one = h.element_moves.effect ls (AtAddress (a + i * l.size1)) (Into (b + i * l.size2)) types (record { start = a + i * l.size1; there = at1; is = omega arith }) (record { start = b + i * l.size2; there = at2; is = omega arith })
      (record { source = room_at S.from64 l.source (a + i * l.size1) l.size1 at1 (element_within l.count S.from64 a l.size1 all1 i lt); target = room_at S.to64 l.target (b + i * l.size2) l.size2 at2 (element_within l.count S.to64 b l.size2 all2 i lt) }) in
      same_run (alone S.places (element (AtAddress (a + i * l.size1)) (Into (b + i * l.size2)))) (within (omega arith) (in_turn one (λ vs ls1 r.
      let k = r.1 in
      let types1 : held_types ls1 ≡ S.locals = k.types ∙ types in
      bumps S.from64 l.source (a + i * l.size1) l.size1 (k.same l.source inner_source ∙ at1) (ap (λ m. slice_get m l.source) types1 ∙ h.source.typed) (λ x up ls2 s2.
      let types2 : held_types ls2 ≡ S.locals = s2.types ∙ types1 in
      bumps S.to64 l.target (b + i * l.size2) l.size2 (s2.others l.target (λ same. h.source_target (sym same)) ∙ (k.same l.target inner_target ∙ at2)) (ap (λ m. slice_get m l.target) types2 ∙ h.target.typed) (λ y up' ls3 s3.
      let types3 : held_types ls3 ≡ S.locals = s3.types ∙ types2 in
      let keeps3 = keeps_then (keeps_then (keeps_then t.keeps (record { same = λ j u. k.same j (inner_used j u); types = k.types })) (set_keeps h.source.free s2)) (set_keeps h.target.free s3) in
      done refl (record {
        none = r.0;
        typed = ap (λ m. slice_get m l.left) types3 ∙ h.left.typed;
        count = s3.others l.left (λ same. h.target_left (sym same)) ∙ (s2.others l.left (λ same. h.source_left (sym same)) ∙ (k.same l.left inner_left ∙ t.left));
        next = λ ls4 s4. record {
          keeps = keeps_then keeps3 (set_keeps h.left.free s4);
          left = s4.here;
          source = λ more. s4.others l.source h.source_left ∙ (s3.others l.source h.source_target ∙ (s2.here ∙ ap (λ z. Some (Some (address_operand S.from64 z))) (next_is l.count S.from64 a l.size1 all1 i x h.some1 up more)));
          target = λ more. s4.others l.target h.target_left ∙ (s3.here ∙ ap (λ z. Some (Some (address_operand S.to64 z))) (next_is l.count S.to64 b l.size2 all2 i y h.some2 up' more));
        };
      }))))))

-- ---- the whole code

module _ {S : Setting} {used : ℕ → Bool} {l : FixedMove} {element : Source → Target → Action (List CoreValue)} {code : List Instr} (h : IsFixedMove S used l element code) where
  from_start : (start a room end : ℕ) → a ≡ start + l.offset1 → l.offset1 + l.count * l.size1 ≤ room → start + room ≤ end → a + l.count * l.size1 ≤ end
  from_start start a room end is fits le = omega (arith, is, fits, le)

  to_start : (start b room end : ℕ) → b ≡ start + l.offset2 → l.offset2 + l.count * l.size2 ≤ room → start + room ≤ end → b + l.count * l.size2 ≤ end
  to_start start b room end is fits le = omega (arith, is, fits, le)

  some_bytes : (n e end p : ℕ) → 0 < n → 0 < e → p + n * e ≤ end → p < end
  some_bytes zero e end p hn he le = absurd (omega arith)
  some_bytes (suc n) zero end p hn he le = absurd (omega arith)
  some_bytes (suc n) (suc e) end p hn he le = omega (arith, le)

  -- The elements are moved one after another, by addresses that never leave their memories.
  pub fixed_does : (ls : Locals) (a b start1 start2 : ℕ) → held_types ls ≡ S.locals → slice_get ls l.base1 ≡ Some (Some (address_operand S.from64 start1)) → slice_get ls l.base2 ≡ Some (Some (address_operand S.to64 start2)) → a ≡ start1 + l.offset1 → b ≡ start2 + l.offset2
      → start1 + S.rooms.from ≤ 2 ^ address_bits S.from64 → start2 + S.rooms.to ≤ 2 ^ address_bits S.to64
      → Does S.whole S.places Onward 10 0 [] ls (fixed_code S.from64 S.to64 l code) (each l.count (λ i. element (AtAddress (a + i * l.size1)) (Into (b + i * l.size2)))) (λ vs. []) (λ vs ls'. (vs ≡ []) × KeepsLocals used ls ls')
  fixed_does ls a b start1 start2 e there1 there2 is1 is2 room1 room2 =
      let all1 = from_start start1 a S.rooms.from (2 ^ address_bits S.from64) is1 h.room1 room1 in
      let all2 = to_start start2 b S.rooms.to (2 ^ address_bits S.to64) is2 h.room2 room2 in
      let lt1 : a < 2 ^ address_bits S.from64 = some_bytes l.count l.size1 (2 ^ address_bits S.from64) a h.some h.some1 all1 in
      let lt2 : b < 2 ^ address_bits S.to64 = some_bytes l.count l.size2 (2 ^ address_bits S.to64) b h.some h.some2 all2 in
      let begin1 : start1 + l.offset1 ≡ a + 0 * l.size1 = omega (arith, is1) in
      let begin2 : start2 + l.offset2 ≡ b + 0 * l.size2 = omega (arith, is2) in
      let whole : l.count ≡ l.count - 0 = omega arith in
      within (omega arith) (offsets S.from64 l.base1 l.offset1 l.source start1 there1 (subst (λ x. x < 2 ^ address_bits S.from64) is1 lt1) (ap (λ m. slice_get m l.source) e ∙ h.source.typed) (λ ls1 s1.
      let k1 = set_keeps h.source.free s1 in
      offsets S.to64 l.base2 l.offset2 l.target start2 (k1.same l.base2 h.used2 ∙ there2) (subst (λ x. x < 2 ^ address_bits S.to64) is2 lt2) (ap (λ m. slice_get m l.target) (s1.types ∙ e) ∙ h.target.typed) (λ ls2 s2.
      pushing {a = I.I32Const l.count ∷ []} {t = 1} (record { by = λ w vs. leaves_i32_const }) (local_set val.I32 (ap (λ m. slice_get m l.left) (s2.types ∙ (s1.types ∙ e)) ∙ h.left.typed) refl (λ ls3 s3.
      weaker (λ vs. refl) (λ vs ls' r. (r.0, r.1.keeps))
      (counted_down l.left l.count h.few (λ i. element (AtAddress (a + i * l.size1)) (Into (b + i * l.size2))) (FixedTurn h ls e a b all1 all2) (omega arith) (fixed_turned h ls e a b all1 all2) ls3 h.some (record {
        keeps = keeps_then k1 (keeps_then (set_keeps h.target.free s2) (set_keeps h.left.free s3));
        left = s3.here ∙ ap (λ m. Some (Some (I32 m))) whole;
        source = λ more. s3.others l.source h.source_left ∙ (s2.others l.source h.source_target ∙ (s1.here ∙ ap (λ x. Some (Some (address_operand S.from64 x))) begin1));
        target = λ more. s3.others l.target h.target_left ∙ (s2.here ∙ ap (λ x. Some (Some (address_operand S.to64 x))) begin2);
      })))))))

  typed_offset : (memory64 : Bool) (base offset local : ℕ) → slice_get S.locals base ≡ Some (address_type memory64) → slice_get S.locals local ≡ Some (address_type memory64) → IsTyped S.whole S.locals [] (offset_code memory64 base offset local) [] (OnStack [])
  typed_offset memory64 base offset local hb hl = typed_next (takes_local_get hb) (typed_next (takes_const memory64 offset) (typed_next (takes_add memory64) (typed_one (takes_local_set hl))))

  -- Code that moves a list of fixed length from memory to memory.
  pub moves_fixed_loop : (flats1 flats2 : ℕ) → Moves S used 10 0 (InMemory l.memory1 l.base1 l.offset1) (ToMemory l.memory2 l.base2 l.offset2) (λ s d. each l.count (λ i. element (nth_part flats1 l.size1 i s) (nth_spot flats2 l.size2 i d))) (fixed_code S.from64 S.to64 l code)
  moves_fixed_loop flats1 flats2 = record {
    effect = λ ls s d e st g rooms. by_places ls s d e st g rooms;
    typed =
        typed_then (typed_offset S.from64 l.base1 l.offset1 l.source h.typed1 h.source.typed) (typed_then (typed_offset S.to64 l.base2 l.offset2 l.target h.typed2 h.target.typed)
        (typed_next (takes_plain (o.I32Const _) (I.outs-I32Const _) refl) (typed_next (takes_local_set h.left.typed)
        (typed_countdown l.left h.left.typed (typed_then h.element_moves.typed (typed_then (typed_bump S.from64 l.source l.size1 h.source.typed) (typed_bump S.to64 l.target l.size2 h.target.typed)))))));
  }
    where
      by_places : (ls : Locals) (s : Source) (d : Target) → held_types ls ≡ S.locals → StandsAt ls S.from64 (InMemory l.memory1 l.base1 l.offset1) s → MayGo used ls S.to64 (ToMemory l.memory2 l.base2 l.offset2) d → InRooms S ls (InMemory l.memory1 l.base1 l.offset1) (ToMemory l.memory2 l.base2 l.offset2)
          → Does S.whole S.places Onward 10 0 [] ls (fixed_code S.from64 S.to64 l code) (each l.count (λ i. element (nth_part flats1 l.size1 i s) (nth_spot flats2 l.size2 i d))) (λ vs. []) (λ vs ls'. (vs ≡ []) × KeepsLocals used ls ls')
      by_places ls (Values vs) d e st g rooms = absurd st
      by_places ls (AtAddress a) (Slots ts) e st g rooms = absurd g
      by_places ls (AtAddress a) (Into b) e st g rooms = fixed_does ls a b st.start g.start e st.there g.there st.is g.is (rooms.source.within st.start st.there) (rooms.target.within g.start g.there)
