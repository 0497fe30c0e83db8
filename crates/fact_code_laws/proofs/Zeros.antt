-- Zeros in locals.
use Rattle.std.proofs.Common.{◌≡◌, ℕ, ◌+◌, ◌≤◌, Bool, true, false, List, [], ◌∷◌, length, Some, refl, sym, ap, ◌∙◌, subst, arith, slice_get}
use Rattle.std.specs.Prelude.{nat_eq}
use Rattle.std.proofs.lemmas.Bool.{eqb-true, eq-eqb}
use Rattle.fact_wasm.specs.declared.types.ValType.{ValType}
use Rattle.fact_wasm.specs.declared.types.ValType.TheVariants as val
use Rattle.fact_wasm.specs.declared.instr.Instr.TheVariants as I
use Rattle.fact_wasm.specs.declared.instr.Instr.TheOpen as o
use Rattle.fact_wasm.specs.declared.module.WasmModule.{WasmModule}
use Rattle.fact_machine.specs.Machine.{has_type}
use Rattle.fact_machine.specs.Typing.{is_number}
use Rattle.fact_machine.specs.Typed.{is_value}
use Rattle.fact_machine.proofs.RowLaws.{leaves_i32_const}
use Rattle.fact_machine.proofs.NumericLaws.{leaves_i64_const, leaves_f32_const, leaves_f64_const}
use Rattle.fact_actions.specs.Actions.{Give}
use Rattle.fact_actions.specs.Running.{ImportPlaces}
use Rattle.fact_actions.specs.Sides.{core_value, zeros}
use Rattle.fact_code_laws.specs.Cases.{zero_const, zero_slots}
use Rattle.fact_code_laws.specs.Does.{Locals, held_types, Onward, Does, PushesValue}
use Rattle.fact_code_laws.specs.Places.{Slot, Held, AreHeld, AreFree, AreLocals, AreDistinctSlots, KeepsLocals, Number, N8, N16, N32, N64, MayHold, IsNone}
use Rattle.fact_code_laws.specs.Typed.{OnStack, IsTyped}
use Rattle.fact_code_laws.proofs.Blocks.{mapped}
use Rattle.fact_code_laws.proofs.FieldMoves.{AreApart, with_slots, free_behind, slots_more, slots_here}
use Rattle.fact_code_laws.proofs.Keeping.{keeps_all, keeps_then, held_kept}
use Rattle.fact_code_laws.proofs.Numbers.{set_keeps}
use Rattle.fact_code_laws.proofs.Rules.{within, pushing, local_set, done}
use Rattle.fact_code_laws.proofs.TypingLaws.{Takes, typed_done, typed_next}
use Rattle.fact_code_laws.proofs.TypedRows.{takes_plain, takes_local_set}

-- locals of types of numbers
abbrev pub AreNumbers : List Slot → Type 0
AreNumbers [] = Unit {0}
AreNumbers (s ∷ ss) = (is_number s.1 ≡ true) × AreNumbers ss

pub holds_number : (n : Number) (t : ValType) → MayHold n t → is_number t ≡ true
holds_number n val.I32 h = refl
holds_number n val.I64 h = refl
holds_number n val.F32 h = refl
holds_number n val.F64 h = refl
holds_number N8 val.FuncRef h = absurd h
holds_number N16 val.FuncRef h = absurd h
holds_number N32 val.FuncRef h = absurd h
holds_number N64 val.FuncRef h = absurd h

pushes_zero : {M : WasmModule} {ls : Locals} (t : ValType) → is_number t ≡ true → PushesValue M 1 ls (zero_const t ∷ []) (core_value t 0)
pushes_zero val.I32 h = record { by = λ w vs. leaves_i32_const }
pushes_zero val.I64 h = record { by = λ w vs. leaves_i64_const }
pushes_zero val.F32 h = record { by = λ w vs. leaves_f32_const }
pushes_zero val.F64 h = record { by = λ w vs. leaves_f64_const }
pushes_zero val.FuncRef h = cc

takes_zero : {M : WasmModule} {locals : List ValType} {labels : List (List ValType)} (t : ValType) → is_number t ≡ true → Takes M locals labels (zero_const t) [] (OnStack (t ∷ []))
takes_zero val.I32 h = takes_plain (o.I32Const 0) (I.outs-I32Const 0) refl
takes_zero val.I64 h = takes_plain (o.I64Const 0) (I.outs-I64Const 0) refl
takes_zero val.F32 h = takes_plain (o.F32Const 0) (I.outs-F32Const 0) refl
takes_zero val.F64 h = takes_plain (o.F64Const 0) (I.outs-F64Const 0) refl
takes_zero val.FuncRef h = cc

zero_type : (t : ValType) → is_number t ≡ true → has_type (core_value t 0) t ≡ true
zero_type val.I32 h = refl
zero_type val.I64 h = refl
zero_type val.F32 h = refl
zero_type val.F64 h = refl
zero_type val.FuncRef h = cc

zero_value : (t : ValType) → is_number t ≡ true → is_value (core_value t 0) t ≡ true
zero_value val.I32 h = refl
zero_value val.I64 h = refl
zero_value val.F32 h = refl
zero_value val.F64 h = refl
zero_value val.FuncRef h = cc

-- ---- locals behind one that was set

turned : (a b : ℕ) → nat_eq a b ≡ false → nat_eq b a ≡ false
turned a b h = go (nat_eq b a) refl
  where
    go : (q : Bool) → nat_eq b a ≡ q → nat_eq b a ≡ false
    go true e = absurd (let no : true ≡ false = sym (eq-eqb a b (sym (eqb-true b a e))) ∙ h in cc)
    go false e = e

apart_one : (s : Slot) (ss : List Slot) → IsNone s.0 ss → AreApart (s ∷ []) ss
apart_one s [] h = tt
apart_one s (t ∷ ts) h = ((turned s.0 t.0 h.0, tt), apart_one s ts h.1)

-- locals may be changed where they have the same types
free_types : (used : ℕ → Bool) (ls ls' : Locals) → held_types ls' ≡ held_types ls → (ss : List Slot) (ts : List ValType) → AreFree used ls ss ts → AreFree used ls' ss ts
free_types used ls ls' e [] [] f = tt
free_types used ls ls' e [] (t ∷ ts) f = absurd f
free_types used ls ls' e (s ∷ ss) [] f = absurd f
free_types used ls ls' e (s ∷ ss) (t ∷ ts) f = (f.0, ap (λ l. slice_get l s.0) e ∙ f.1, f.2, free_types used ls ls' e ss ts f.3)

-- Zeros are put into the slots, one after another.
pub zeros_put : {M : WasmModule} {p : ImportPlaces} (used : ℕ → Bool) (ls : Locals) (ss : List Slot) (ts : List ValType) → AreNumbers ss → AreDistinctSlots ss → AreFree used ls ss ts
    → Does M p Onward (length ss + length ss) 0 [] ls (zero_slots ss) (Give (zeros ts)) (λ vs. []) (λ vs ls'. AreHeld ls' ss vs × KeepsLocals used ls ls')
zeros_put used ls [] [] n a f = within (omega arith) (done refl (tt, keeps_all))
zeros_put used ls [] (t ∷ ts) n a f = absurd f
zeros_put used ls (s ∷ ss) [] n a f = absurd f
zeros_put {M} {p} used ls (s ∷ ss) (t ∷ ts) n a f =
    let kept : ℕ → Bool = with_slots used (s ∷ []) in
    let rest : AreFree kept ls ss ts = free_behind used ls (s ∷ []) ss ts (apart_one s ss a.0) f.3 in
    let all : Does M p Onward (1 + (1 + (length ss + length ss))) 0 [] ls (zero_slots (s ∷ ss)) (Give (core_value s.1 0 ∷ zeros ts)) (λ vs. []) (λ vs ls'. AreHeld ls' (s ∷ ss) vs × KeepsLocals used ls ls') =
    pushing (pushes_zero s.1 n.0) (within (omega arith) (local_set s.1 (f.1 ∙ ap (λ t. Some t) (sym f.0)) (zero_type s.1 n.0) (λ ls1 set.
    mapped (λ vs. core_value s.1 0 ∷ vs) (λ vs. refl) (λ vs ls2 h.
    let first : Held ls1 s (core_value s.1 0) = record { there = set.here; value = zero_value s.1 n.0 } in
    let k : KeepsLocals used ls1 ls2 = record { same = λ i u. h.1.same i (slots_more used (s ∷ []) i u); types = h.1.types } in
    (((held_kept h.1 (s ∷ []) (core_value s.1 0 ∷ []) (slots_here used (s ∷ [])) (first, tt)).0, h.0), keeps_then (set_keeps f.2 set) k))
    (zeros_put kept ls1 ss ts n.1 a.1 (free_types kept ls ls1 set.types ss ts rest))))) in
    let both : 1 + (1 + (length ss + length ss)) + 0 ≤ (length (s ∷ ss) + length (s ∷ ss)) + 0 = omega arith in
    within both (subst (λ t. Does M p Onward (1 + (1 + (length ss + length ss))) 0 [] ls (zero_slots (s ∷ ss)) (Give (core_value t 0 ∷ zeros ts)) (λ vs. []) (λ vs ls'. AreHeld ls' (s ∷ ss) vs × KeepsLocals used ls ls')) f.0 all)

pub typed_zeros : {M : WasmModule} {locals : List ValType} (ss : List Slot) → AreNumbers ss → AreLocals locals ss → IsTyped M locals [] (zero_slots ss) [] (OnStack [])
typed_zeros [] n l = typed_done
typed_zeros (s ∷ ss) n l = typed_next (takes_zero s.1 n.0) (typed_next (takes_local_set l.0) (typed_zeros ss n.1 l.1))
