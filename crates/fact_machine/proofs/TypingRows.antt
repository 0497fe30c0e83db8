-- Typing by rows, and stretches of code in a row.
use Rattle.std.proofs.Common.{◌≡◌, true, List, [], ◌∷◌, ◌++◌, Option, Some, None, refl, sym, ap, ◌∙◌}
use Rattle.std.specs.Prelude.{option_and_then}
use Rattle.fact_wasm.specs.declared.types.ValType.{ValType}
use Rattle.fact_wasm.specs.declared.types.ValType.TheVariants.{I32, I64, F32, F64, FuncRef}
use Rattle.fact_wasm.specs.declared.instr.Instr.{Instr, out-Instr, fold_out-Instr, map-Instr}
use Rattle.fact_wasm.specs.declared.instr.Instr.TheOpen as o
use Rattle.fact_wasm.specs.declared.instr.Instr.TheOpen.{Instr-F}
use Rattle.fact_machine.specs.Typing.{Operands, Known, only_if, same_type, pop_all, push_all, change, instruction_type, Context, Typing, typing_row, typing, code_typing}

-- what an instruction does to operands, by its row
pub typing_is : (i : Instr) → typing i ≡ typing_row (map-Instr Instr Typing typing (out-Instr i))
typing_is i = fold_out-Instr Typing typing_row i

abbrev pub row_of : Instr-F Instr → Typing
row_of f = typing_row (map-Instr Instr Typing typing f)

-- an instruction that looks at nothing else is typed by its signature
pub plain_row : (f : Instr-F Typing) (t : List ValType × ValType) (G : Context) (s : Operands) → instruction_type f ≡ Some t → typing_row f G s ≡ change t.0 (t.1 ∷ []) s
plain_row o.Unreachable t G s h = cc
plain_row (o.Block a b) t G s h = cc
plain_row (o.Loop a b) t G s h = cc
plain_row (o.If a b c) t G s h = cc
plain_row (o.Br l) t G s h = cc
plain_row (o.BrIf l) t G s h = cc
plain_row (o.BrTable a b) t G s h = cc
plain_row (o.Call f) t G s h = cc
plain_row o.Drop t G s h = cc
plain_row o.Select t G s h = cc
plain_row (o.TryTable a b c) t G s h = cc
plain_row (o.LocalGet n) t G s h = cc
plain_row (o.LocalSet n) t G s h = cc
plain_row (o.LocalTee n) t G s h = cc
plain_row (o.GlobalGet n) t G s h = cc
plain_row (o.GlobalSet n) t G s h = cc
plain_row (o.I32Load m) t G s h = cc
plain_row (o.I64Load m) t G s h = cc
plain_row (o.F32Load m) t G s h = cc
plain_row (o.F64Load m) t G s h = cc
plain_row (o.I32Load8S m) t G s h = cc
plain_row (o.I32Load8U m) t G s h = cc
plain_row (o.I32Load16S m) t G s h = cc
plain_row (o.I32Load16U m) t G s h = cc
plain_row (o.I32Store m) t G s h = cc
plain_row (o.I64Store m) t G s h = cc
plain_row (o.F32Store m) t G s h = cc
plain_row (o.F64Store m) t G s h = cc
plain_row (o.I32Store8 m) t G s h = cc
plain_row (o.I32Store16 m) t G s h = cc
plain_row (o.MemorySize n) t G s h = cc
plain_row (o.RefFunc f) t G s h = cc
plain_row _ t G s h = ap (λ x. option_and_then (λ u. change u.0 (u.1 ∷ []) s) x) h

-- ---- operands

pub same_self : (t : ValType) → same_type t t ≡ true
same_self I32 = refl
same_self I64 = refl
same_self F32 = refl
same_self F64 = refl
same_self FuncRef = refl

-- operands that are there are taken
pub popped : (ts us : List ValType) → pop_all ts (Known (ts ++ us)) ≡ Some (Known us)
popped [] us = refl
popped (t ∷ ts) us = ap (λ b. option_and_then (λ s. pop_all ts s) (only_if b (Some (Known (ts ++ us))))) (same_self t) ∙ popped ts us

-- and others given in their place
pub changed : (ins outs us : List ValType) → change ins outs (Known (ins ++ us)) ≡ Some (Known (outs ++ us))
changed ins outs us = ap (λ o. option_and_then (λ s. Some (push_all outs s)) o) (popped ins us)

-- ---- one piece of code after another

and_then_assoc : {A B C : Type 0} (a : Option A) (f : A → Option B) (g : B → Option C) → option_and_then g (option_and_then f a) ≡ option_and_then (λ x. option_and_then g (f x)) a
and_then_assoc None f g = refl
and_then_assoc (Some a) f g = refl

and_then_same : {A B : Type 0} (a : Option A) (f g : A → Option B) → ((x : A) → f x ≡ g x) → option_and_then f a ≡ option_and_then g a
and_then_same None f g h = refl
and_then_same (Some a) f g h = h a

pub sequence_is : (G : Context) (a b : List Instr) (s : Operands) → code_typing G (a ++ b) s ≡ option_and_then (λ s'. code_typing G b s') (code_typing G a s)
sequence_is G [] b s = refl
sequence_is G (i ∷ a) b s = and_then_same (typing i G s) _ _ (λ s'. sequence_is G a b s') ∙ sym (and_then_assoc (typing i G s) (λ s'. code_typing G a s') (λ s'. code_typing G b s'))
