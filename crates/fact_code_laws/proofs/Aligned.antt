-- With debug checks on, the places of a node are tested before it is moved.
use Rattle.std.proofs.Common.{◌≡◌, ℕ, ◌+◌, ◌-◌, ◌%◌, ◌^◌, Bool, true, false, List, [], ◌∷◌, ◌++◌, Some, refl, sym, ap, ◌∙◌, subst, arith, append_assoc, slice_get}
use Rattle.std.specs.Prelude.{nat_eq, bit_and}
use Rattle.std.proofs.lemmas.Bool.{eqb-true, eq-eqb}
use Rattle.std.proofs.lemmas.Grind.{and_numeral}
use Rattle.std.proofs.lemmas.Nat.{and_comm}
use Rattle.fact_wasm.specs.declared.types.ValType.{ValType}
use Rattle.fact_wasm.specs.declared.types.ValType.TheVariants as val
use Rattle.fact_wasm.specs.declared.instr.Instr.{Instr}
use Rattle.fact_wasm.specs.declared.instr.Instr.TheVariants as I
use Rattle.fact_wasm.specs.declared.instr.Instr.TheOpen as o
use Rattle.fact_wasm.specs.declared.module.WasmModule.{WasmModule}
use Rattle.fact_types.specs.declared.outside.Trap.TheVariants.{DebugAssertPointerAligned}
use Rattle.fact_types.specs.Layout.{extent}
use Rattle.fact_types.specs.Shapes.{Shape, layout_of}
use Rattle.fact_machine.specs.declared.types.CoreValue.{CoreValue}
use Rattle.fact_machine.specs.declared.types.CoreValue.TheVariants.{I32}
use Rattle.fact_machine.specs.Numerics.{truth}
use Rattle.fact_machine.specs.Exits.{Falls}
use Rattle.fact_machine.specs.Typing.{address_bits, address_type, address_operand}
use Rattle.fact_machine.proofs.Laws.{leaves_next, leaves_as}
use Rattle.fact_machine.proofs.RowLaws.{leaves_local_get, leaves_i32_const}
use Rattle.fact_machine.proofs.NumericLaws.{leaves_i64_const, leaves_i32_add, leaves_i64_add, leaves_i32_and, leaves_i64_and, leaves_i32_eqz, leaves_i64_eqz}
use Rattle.fact_actions.specs.Actions.{Action, unless}
use Rattle.fact_actions.specs.Moves.{aligned_source, aligned_target, aligned_node}
use Rattle.fact_actions.specs.Running.{ImportPlaces}
use Rattle.fact_actions.specs.Sides.{LiftLowerOptions, Source, Values, AtAddress, Target, Slots, Into, width_of_side}
use Rattle.fact_code_laws.specs.Does.{Locals, Way, Onward, Does, PushesValue}
use Rattle.fact_code_laws.specs.Places.{From, InLocals, InMemory, To, ToLocals, ToMemory, StandsAt, MayGo, Stood, KeepsLocals, DebugChecks, Off, On, is_on, Setting, transfer, Moves, place_test, place_check, from_check, to_check, node_check, HasAligned, FromChecked, ToChecked, FromTyped, ToTyped}
use Rattle.fact_code_laws.specs.Typed.{OperandsBehind, OnStack, IsTyped}
use Rattle.fact_code_laws.proofs.Rules.{within}
use Rattle.fact_code_laws.proofs.Blocks.{guard}
use Rattle.fact_code_laws.proofs.TypingLaws.{typed_next, typed_one}
use Rattle.fact_code_laws.proofs.TypedRows.{takes_plain, takes_local_get}
use Rattle.fact_code_laws.proofs.TypedShapes.{takes_guard}
use Rattle.fact_types.specs.declared.extents.MemoryWidth.{MemoryWidth}
use Rattle.fact_types.specs.declared.extents.MemoryWidth.TheVariants.{Memory32, Memory64}
use Rattle.fact_types.specs.declared.abi.CanonicalAbiInfo.{CanonicalAbiInfo}

-- ---- alignments

-- what a mask and a sum that wraps leave of an address, as far as its alignment goes
pub record Aligns (align : ℕ) : Type 0 where
  pub masks : (n : ℕ) → bit_and n (align - 1) ≡ n % align
  pub wraps : (memory64 : Bool) (n : ℕ) → (n % 2 ^ address_bits memory64) % align ≡ n % align

wraps_two : (memory64 : Bool) (n : ℕ) → (n % 2 ^ address_bits memory64) % 2 ≡ n % 2
wraps_two true n = omega arith
wraps_two false n = omega arith

wraps_four : (memory64 : Bool) (n : ℕ) → (n % 2 ^ address_bits memory64) % 4 ≡ n % 4
wraps_four true n = omega arith
wraps_four false n = omega arith

wraps_eight : (memory64 : Bool) (n : ℕ) → (n % 2 ^ address_bits memory64) % 8 ≡ n % 8
wraps_eight true n = omega arith
wraps_eight false n = omega arith

pub aligns_one : Aligns 1
aligns_one = record { masks = λ n. and_comm n 0 ∙ omega arith; wraps = λ memory64 n. omega arith }

pub aligns_two : Aligns 2
aligns_two = record { masks = λ n. and_numeral n 0 refl; wraps = wraps_two }

pub aligns_four : Aligns 4
aligns_four = record { masks = λ n. and_numeral n 2 refl; wraps = wraps_four }

pub aligns_eight : Aligns 8
aligns_eight = record { masks = λ n. and_numeral n 6 refl; wraps = wraps_eight }

-- ---- the test of a place

module _ (align : ℕ) (al : Aligns align) (base offset start a : ℕ) (is : a ≡ start + offset) where
  tested_is : (memory64 : Bool) → nat_eq (bit_and ((start + offset) % 2 ^ address_bits memory64) (align - 1)) 0 ≡ nat_eq (a % align) 0
  tested_is memory64 = ap (λ n. nat_eq n 0) (al.masks ((start + offset) % 2 ^ address_bits memory64) ∙ al.wraps memory64 (start + offset) ∙ ap (λ n. n % align) (sym is))

  pushes_place : {M : WasmModule} {ls : Locals} (memory64 : Bool) → slice_get ls base ≡ Some (Some (address_operand memory64 start)) → PushesValue M 6 ls (place_test memory64 base offset align) (I32 (truth (nat_eq (a % align) 0)))
  pushes_place {ls = ls} true there = record {
    by = λ w vs.
        leaves_next (leaves_local_get there) (leaves_next leaves_i64_const (leaves_next leaves_i64_add (leaves_next leaves_i64_const (leaves_next leaves_i64_and
        (leaves_as (ap (λ b. Falls w (I32 (truth b) ∷ vs) ls) (tested_is true)) leaves_i64_eqz)))));
  }
  pushes_place {ls = ls} false there = record {
    by = λ w vs.
        leaves_next (leaves_local_get there) (leaves_next leaves_i32_const (leaves_next leaves_i32_add (leaves_next leaves_i32_const (leaves_next leaves_i32_and
        (leaves_as (ap (λ b. Falls w (I32 (truth b) ∷ vs) ls) (tested_is false)) leaves_i32_eqz)))));
  }

abbrev pub at_place : {A : Type 0} → DebugChecks → (a align : ℕ) → Action A → Action A
at_place Off a align q = q
at_place (On upper aligned) a align q = unless DebugAssertPointerAligned (nat_eq (a % align) 0) q

module _ {A : Type 0} {M : WasmModule} {p : ImportPlaces} {way : Way} {extra spare : ℕ} {ins : List CoreValue} {ls : Locals} {c : List Instr} {q : Action A} {out : A → List CoreValue} {Holds : A → Locals → Type 0} where
  place_does : (checks : DebugChecks) (one : Bool) (memory64 : Bool) (base offset start a align : ℕ) → nat_eq align 1 ≡ one → HasAligned one M p checks → Aligns align → slice_get ls base ≡ Some (Some (address_operand memory64 start)) → a ≡ start + offset
      → Does M p way extra spare ins ls c q out Holds → Does M p way (8 + extra) spare ins ls (place_check one checks memory64 base offset align ++ c) (at_place checks a align q) out Holds
  place_does Off true memory64 base offset start a align e h al there is d = within (omega arith) d
  place_does Off false memory64 base offset start a align e h al there is d = within (omega arith) d
  place_does (On upper aligned) true memory64 base offset start a align e h al there is d =
      let single : align ≡ 1 = eqb-true align 1 e in
      let none : a % align ≡ 0 = ap (λ n. a % n) single ∙ omega arith in
      subst (λ b. Does M p way (8 + extra) spare ins ls c (unless DebugAssertPointerAligned b q) out Holds) (sym (eq-eqb (a % align) 0 none)) (within (omega arith) d)
  place_does (On upper aligned) false memory64 base offset start a align e h al there is d =
      within (omega arith) (guard (nat_eq (a % align) 0) h (pushes_place align al base offset start a is memory64 there) (λ good. d))

  source_does : (checks : DebugChecks) (memory64 : Bool) (from : From) (s : Source) (o : LiftLowerOptions) (t : Shape) (align : ℕ) → (extent (width_of_side o) (layout_of t)).align ≡ align → Aligns align → FromChecked M p checks align from → StandsAt ls memory64 from s
      → Does M p way extra spare ins ls c q out Holds → Does M p way (8 + extra) spare ins ls (from_check checks memory64 align from ++ c) (aligned_source (is_on checks) o t s q) out Holds
  source_does Off memory64 (InLocals slots) (Values vs) o t align e al h st d = within (omega arith) d
  source_does (On upper aligned) memory64 (InLocals slots) (Values vs) o t align e al h st d = within (omega arith) d
  source_does checks memory64 (InLocals slots) (AtAddress a) o t align e al h st d = absurd st
  source_does checks memory64 (InMemory memory base offset) (Values vs) o t align e al h st d = absurd st
  source_does checks memory64 (InMemory memory base offset) (AtAddress a) o t align e al h st d =
      subst (λ r. Does M p way (8 + extra) spare ins ls (from_check checks memory64 align (InMemory memory base offset) ++ c) r out Holds) (same checks)
      (place_does checks (nat_eq align 1) memory64 base offset st.start a align refl h al st.there st.is d)
    where
      same : (checks : DebugChecks) → at_place checks a align q ≡ aligned_source (is_on checks) o t (AtAddress a) q
      same Off = refl
      same (On upper aligned) = ap (λ n. unless DebugAssertPointerAligned (nat_eq (a % n) 0) q) (sym e)

  target_does : (used : ℕ → Bool) (checks : DebugChecks) (memory64 : Bool) (to : To) (g : Target) (o : LiftLowerOptions) (t : Shape) (align : ℕ) → (extent (width_of_side o) (layout_of t)).align ≡ align → Aligns align → ToChecked M p checks align to → MayGo used ls memory64 to g
      → Does M p way extra spare ins ls c q out Holds → Does M p way (8 + extra) spare ins ls (to_check checks memory64 align to ++ c) (aligned_target (is_on checks) o t g q) out Holds
  target_does used Off memory64 (ToLocals slots) (Slots ts) o t align e al h st d = within (omega arith) d
  target_does used (On upper aligned) memory64 (ToLocals slots) (Slots ts) o t align e al h st d = within (omega arith) d
  target_does used checks memory64 (ToLocals slots) (Into a) o t align e al h st d = absurd st
  target_does used checks memory64 (ToMemory memory base offset) (Slots ts) o t align e al h st d = absurd st
  target_does used checks memory64 (ToMemory memory base offset) (Into a) o t align e al h st d =
      subst (λ r. Does M p way (8 + extra) spare ins ls (to_check checks memory64 align (ToMemory memory base offset) ++ c) r out Holds) (same checks)
      (place_does checks (nat_eq align 1) memory64 base offset st.start a align refl h al st.there st.is d)
    where
      same : (checks : DebugChecks) → at_place checks a align q ≡ aligned_target (is_on checks) o t (Into a) q
      same Off = refl
      same (On upper aligned) = ap (λ n. unless DebugAssertPointerAligned (nat_eq (a % n) 0) q) (sym e)

-- ---- its operands

typed_test : {M : WasmModule} {locals : List ValType} (memory64 : Bool) (base offset align : ℕ) → slice_get locals base ≡ Some (address_type memory64) → IsTyped M locals [] (place_test memory64 base offset align) [] (OnStack (val.I32 ∷ []))
typed_test true base offset align h =
    typed_next (takes_local_get h) (typed_next (takes_plain (o.I64Const _) (I.outs-I64Const _) refl) (typed_next (takes_plain o.I64Add I.outs-I64Add refl)
    (typed_next (takes_plain (o.I64Const _) (I.outs-I64Const _) refl) (typed_next (takes_plain o.I64And I.outs-I64And refl) (typed_one (takes_plain o.I64Eqz I.outs-I64Eqz refl))))))
typed_test false base offset align h =
    typed_next (takes_local_get h) (typed_next (takes_plain (o.I32Const _) (I.outs-I32Const _) refl) (typed_next (takes_plain o.I32Add I.outs-I32Add refl)
    (typed_next (takes_plain (o.I32Const _) (I.outs-I32Const _) refl) (typed_next (takes_plain o.I32And I.outs-I32And refl) (typed_one (takes_plain o.I32Eqz I.outs-I32Eqz refl))))))

module _ {M : WasmModule} {locals : List ValType} {labels : List (List ValType)} {ins : List ValType} {outs : OperandsBehind} {c : List Instr} (p : ImportPlaces) where
  typed_place : (checks : DebugChecks) (one : Bool) (memory64 : Bool) (base offset align : ℕ) → HasAligned one M p checks → slice_get locals base ≡ Some (address_type memory64) → IsTyped M locals labels c ins outs
      → IsTyped M locals labels (place_check one checks memory64 base offset align ++ c) ins outs
  typed_place checks true memory64 base offset align h l x = x
  typed_place Off false memory64 base offset align h l x = x
  typed_place (On upper aligned) false memory64 base offset align h l x = takes_guard h (typed_test memory64 base offset align l) x

  typed_source : (checks : DebugChecks) (memory64 : Bool) (align : ℕ) (from : From) → FromChecked M p checks align from → FromTyped locals memory64 from → IsTyped M locals labels c ins outs → IsTyped M locals labels (from_check checks memory64 align from ++ c) ins outs
  typed_source checks memory64 align (InLocals slots) h t x = x
  typed_source checks memory64 align (InMemory memory base offset) h t x = typed_place checks (nat_eq align 1) memory64 base offset align h t.local x

  typed_target : (checks : DebugChecks) (memory64 : Bool) (align : ℕ) (to : To) → ToChecked M p checks align to → ToTyped locals memory64 to → IsTyped M locals labels c ins outs → IsTyped M locals labels (to_check checks memory64 align to ++ c) ins outs
  typed_target checks memory64 align (ToLocals slots) h t x = x
  typed_target checks memory64 align (ToMemory memory base offset) h t x = typed_place checks (nat_eq align 1) memory64 base offset align h t.local x

-- ---- a node

-- two places whose alignments are these, and the functions of the traps of their checks
pub record Checked (S : Setting) (t u : Shape) (from_align to_align : ℕ) (from : From) (to : To) : Type 0 where
  pub from_is : (extent (width_of_side S.from) (layout_of t)).align ≡ from_align
  pub to_is : (extent (width_of_side S.to) (layout_of u)).align ≡ to_align
  pub from_aligns : Aligns from_align
  pub to_aligns : Aligns to_align
  pub from_checked : FromChecked S.whole S.places S.checks from_align from
  pub to_checked : ToChecked S.whole S.places S.checks to_align to
  pub from_typed : FromTyped S.locals S.from64 from
  pub to_typed : ToTyped S.locals S.to64 to

by_width : (c : CanonicalAbiInfo) (align : ℕ) → c.align32 ≡ align → c.align64 ≡ align → (w : MemoryWidth) → (extent w c).align ≡ align
by_width c align e32 e64 Memory32 = e32
by_width c align e32 e64 Memory64 = e64

-- two places of nodes of one layout, whose alignment is the same in memories of both widths
pub checked_by : {S : Setting} {from : From} {to : To} {t u : Shape} (align : ℕ) → (layout_of t).align32 ≡ align → (layout_of t).align64 ≡ align → (layout_of u).align32 ≡ align → (layout_of u).align64 ≡ align → Aligns align
    → FromChecked S.whole S.places S.checks align from → ToChecked S.whole S.places S.checks align to → FromTyped S.locals S.from64 from → ToTyped S.locals S.to64 to → Checked S t u align align from to
checked_by {S} {from} {to} {t} {u} align e f g h al a b x y = record {
  from_is = by_width (layout_of t) align e f (width_of_side S.from);
  to_is = by_width (layout_of u) align g h (width_of_side S.to);
  from_aligns = al;
  to_aligns = al;
  from_checked = a;
  to_checked = b;
  from_typed = x;
  to_typed = y;
}

-- a place of one byte's alignment asks for no trap
pub one_from : (M : WasmModule) (p : ImportPlaces) (checks : DebugChecks) (from : From) → FromChecked M p checks 1 from
one_from M p checks (InLocals slots) = tt
one_from M p checks (InMemory memory base offset) = tt

pub one_to : (M : WasmModule) (p : ImportPlaces) (checks : DebugChecks) (to : To) → ToChecked M p checks 1 to
one_to M p checks (ToLocals slots) = tt
one_to M p checks (ToMemory memory base offset) = tt

-- Code that moves the value of a node moves the node, with the checks of its places in front.
pub moves_checked : {S : Setting} {used : ℕ → Bool} {extra spare : ℕ} {from : From} {to : To} {act : Source → Target → Action (List CoreValue)} {code : List Instr} {t u : Shape} {from_align to_align : ℕ}
    → Checked S t u from_align to_align from to → Moves S used extra (16 + spare) from to act code
    → Moves S used extra spare from to (λ s d. aligned_node (transfer S) t u s d (act s d)) (node_check S from_align to_align from to ++ code)
moves_checked {S} {used} {extra} {spare} {from} {to} {act} {code} {t} {u} {from_align} {to_align} h m = record {
  effect = λ ls s d e st g rooms.
      let all = source_does S.checks S.from64 from s S.from t from_align h.from_is h.from_aligns h.from_checked st
      (target_does used S.checks S.to64 to d S.to u to_align h.to_is h.to_aligns h.to_checked g (m.effect ls s d e st g rooms)) in
      within (omega arith) (subst (λ c. Does S.whole S.places Onward (8 + (8 + extra)) (16 + spare) [] ls c (aligned_node (transfer S) t u s d (act s d)) (λ vs. []) (λ vs ls'. Stood ls' to vs × KeepsLocals used ls ls')) (sym (append_assoc (from_check S.checks S.from64 from_align from) (to_check S.checks S.to64 to_align to) code)) all);
  typed =
      subst (λ c. IsTyped S.whole S.locals [] c [] (OnStack [])) (sym (append_assoc (from_check S.checks S.from64 from_align from) (to_check S.checks S.to64 to_align to) code))
      (typed_source S.places S.checks S.from64 from_align from h.from_checked h.from_typed (typed_target S.places S.checks S.to64 to_align to h.to_checked h.to_typed m.typed));
}
