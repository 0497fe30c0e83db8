use Rattle.std.proofs.Common.{◌≡◌, ◌⊎◌, Bool, true, false, refl, sym, ap, ◌∙◌, inl, inr}
use Rattle.fact_wasm.specs.declared.instr.MemArg.{MemArg}
use Rattle.fact_wasm.specs.declared.instr.Instr.{Instr, Instr-F, out-Instr, roll-Instr, roll-out-Instr}
use Rattle.fact_wasm.specs.declared.instr.Instr.TheOpen as o
use Rattle.fact_wasm.specs.declared.instr.Instr.TheVariants as v
use Rattle.fact_interpreter.specs.Running.{is_access, is_control, is_numeric}
use Rattle.fact_interpreter.proofs.begin.begin_data.Goals as goal

infixr 10 ◌or◌
◌or◌ : {A B C : Type 0} → (A → C) → (B → C) → A ⊎ B → C
◌or◌ f g (inl a) = f a
◌or◌ f g (inr b) = g b

-- an instruction is among those that the test takes where its outermost layer is
module _ (test : Instr-F Instr → Bool) (i : Instr) where
  is : {j : Instr} {x : Instr-F Instr} → out-Instr j ≡ x → test x ≡ true → i ≡ j → test (out-Instr i) ≡ true
  is o t e = ap (λ (k : Instr). test (out-Instr k)) e ∙ ap test o ∙ t

  with_place : {j : MemArg → Instr} {x : MemArg → Instr-F Instr} → ((m : MemArg) → out-Instr (j m) ≡ x m) → ((m : MemArg) → test (x m) ≡ true)
      → (m : MemArg) × (i ≡ j m) → test (out-Instr i) ≡ true
  with_place o t p = is (o p.0) (t p.0) p.1

pub begin_access-requires : goal.begin_access-requires
begin_access-requires c =
    (with_place is_access _ v.outs-I32Load (λ m. refl)
    or with_place is_access _ v.outs-I64Load (λ m. refl)
    or with_place is_access _ v.outs-F32Load (λ m. refl)
    or with_place is_access _ v.outs-F64Load (λ m. refl)
    or with_place is_access _ v.outs-I32Load8S (λ m. refl)
    or with_place is_access _ v.outs-I32Load8U (λ m. refl)
    or with_place is_access _ v.outs-I32Load16S (λ m. refl)
    or with_place is_access _ v.outs-I32Load16U (λ m. refl)
    or with_place is_access _ v.outs-I32Store (λ m. refl)
    or with_place is_access _ v.outs-I64Store (λ m. refl)
    or with_place is_access _ v.outs-F32Store (λ m. refl)
    or with_place is_access _ v.outs-F64Store (λ m. refl)
    or with_place is_access _ v.outs-I32Store8 (λ m. refl)
    or with_place is_access _ v.outs-I32Store16 (λ m. refl)) c.in-I32Load.is

-- what no arm takes is numeric
left : (c : goal.After-begin_numeric-arg-1) (x : Instr-F Instr) → c.args.instr.now ≡ roll-Instr x → is_control x ≡ false → is_numeric x ≡ true
left c o.Unreachable e k = absurd cc
left c (o.Block t b) e k = absurd cc
left c (o.Loop t b) e k = absurd cc
left c (o.If t b u) e k = absurd cc
left c (o.Br l) e k = absurd cc
left c (o.BrIf l) e k = absurd cc
left c (o.BrTable ls l) e k = absurd cc
left c (o.Call f) e k = absurd cc
left c (o.TryTable t ls b) e k = absurd cc
left c (o.RefFunc f) e k = absurd cc
left c o.Drop e k = absurd (c.in_default.not-Drop (e ∙ v.rolls-Drop))
left c o.Select e k = absurd (c.in_default.not-Select (e ∙ v.rolls-Select))
left c (o.LocalGet n) e k = absurd (c.in_default.not-LocalGet n (e ∙ v.rolls-LocalGet n))
left c (o.LocalSet n) e k = absurd (c.in_default.not-LocalSet n (e ∙ v.rolls-LocalSet n))
left c (o.LocalTee n) e k = absurd (c.in_default.not-LocalTee n (e ∙ v.rolls-LocalTee n))
left c (o.GlobalGet n) e k = absurd (c.in_default.not-GlobalGet n (e ∙ v.rolls-GlobalGet n))
left c (o.GlobalSet n) e k = absurd (c.in_default.not-GlobalSet n (e ∙ v.rolls-GlobalSet n))
left c (o.MemorySize n) e k = absurd (c.in_default.not-MemorySize n (e ∙ v.rolls-MemorySize n))
left c (o.I32Const n) e k = absurd (c.in_default.not-I32Const n (e ∙ v.rolls-I32Const n))
left c (o.I64Const n) e k = absurd (c.in_default.not-I64Const n (e ∙ v.rolls-I64Const n))
left c (o.F32Const n) e k = absurd (c.in_default.not-F32Const n (e ∙ v.rolls-F32Const n))
left c (o.F64Const n) e k = absurd (c.in_default.not-F64Const n (e ∙ v.rolls-F64Const n))
left c (o.I32Load n) e k = absurd (c.in_default.not-I32Load n (e ∙ v.rolls-I32Load n))
left c (o.I64Load n) e k = absurd (c.in_default.not-I64Load n (e ∙ v.rolls-I64Load n))
left c (o.F32Load n) e k = absurd (c.in_default.not-F32Load n (e ∙ v.rolls-F32Load n))
left c (o.F64Load n) e k = absurd (c.in_default.not-F64Load n (e ∙ v.rolls-F64Load n))
left c (o.I32Load8S n) e k = absurd (c.in_default.not-I32Load8S n (e ∙ v.rolls-I32Load8S n))
left c (o.I32Load8U n) e k = absurd (c.in_default.not-I32Load8U n (e ∙ v.rolls-I32Load8U n))
left c (o.I32Load16S n) e k = absurd (c.in_default.not-I32Load16S n (e ∙ v.rolls-I32Load16S n))
left c (o.I32Load16U n) e k = absurd (c.in_default.not-I32Load16U n (e ∙ v.rolls-I32Load16U n))
left c (o.I32Store n) e k = absurd (c.in_default.not-I32Store n (e ∙ v.rolls-I32Store n))
left c (o.I64Store n) e k = absurd (c.in_default.not-I64Store n (e ∙ v.rolls-I64Store n))
left c (o.F32Store n) e k = absurd (c.in_default.not-F32Store n (e ∙ v.rolls-F32Store n))
left c (o.F64Store n) e k = absurd (c.in_default.not-F64Store n (e ∙ v.rolls-F64Store n))
left c (o.I32Store8 n) e k = absurd (c.in_default.not-I32Store8 n (e ∙ v.rolls-I32Store8 n))
left c (o.I32Store16 n) e k = absurd (c.in_default.not-I32Store16 n (e ∙ v.rolls-I32Store16 n))
left c _ e k = refl

pub begin_numeric-requires : goal.begin_numeric-requires
begin_numeric-requires c = left c (out-Instr c.args.instr.now) (sym (roll-out-Instr c.args.instr.now)) c.requires
