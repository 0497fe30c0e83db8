-- Moves of handles: a function of the runtime takes each from a table of the one side to one of the other.
use Rattle.std.proofs.Common.{ℕ, Bool, false, List, [], ◌∷◌, ◌++◌, refl, arith, sym, subst, reverse}
use Rattle.fact_wasm.specs.declared.types.ValType.TheVariants as val
use Rattle.fact_wasm.specs.declared.instr.Instr.{Instr}
use Rattle.fact_wasm.specs.declared.instr.Instr.TheVariants as I
use Rattle.fact_wasm.specs.declared.instr.Instr.TheOpen as o
use Rattle.fact_machine.specs.declared.types.CoreValue.TheVariants.{I32}
use Rattle.fact_machine.proofs.RowLaws.{leaves_i32_const}
use Rattle.fact_actions.specs.Sides.{Source, Target, write_number, first_bits}
use Rattle.fact_actions.specs.Moves.{move_handle}
use Rattle.fact_code_laws.specs.Does.{Locals, Onward, Does}
use Rattle.fact_code_laws.specs.Knows.{KnowsFunction}
use Rattle.fact_code_laws.specs.Places.{Setting, transfer, FitsNumber, From, To, StandsAt, MayGo, Stood, KeepsLocals, Moves, N32, read_code, code_before, code_behind, DebugChecks}
use Rattle.fact_code_laws.proofs.Rules.{within, visit, pushing}
use Rattle.fact_code_laws.proofs.Numbers.{reads, begins, writes, below_number}
use Rattle.fact_code_laws.proofs.TypingLaws.{typed_then, typed_next}
use Rattle.fact_code_laws.proofs.TypedRows.{takes_plain, takes_import}
use Rattle.fact_code_laws.proofs.TypedPlaces.{typed_read, typed_before, typed_behind, below_type}
use Rattle.fact_actions.specs.Actions.{Visit}
use Rattle.fact_types.specs.declared.import.Import.{Import}
use Rattle.fact_wasm.specs.declared.instr.FuncName.TheVariants as func
use Rattle.fact_code_laws.proofs.Primitives.{ask}
use Rattle.fact_code_laws.proofs.ListCode.{answer_is}

abbrev pub handle_code : DebugChecks → (from_table to_table place : ℕ) → From → To → List Instr
handle_code checks from_table to_table place from to = code_before to ++ (read_code checks N32 from ++ (I.I32Const from_table ∷ I.I32Const to_table ∷ I.Call (func.Import place) ∷ code_behind N32 to))

module _ (S : Setting) (used : ℕ → Bool) (from : From) (to : To) (h : FitsNumber S N32 from to) (what : Import) (from_table to_table place : ℕ) (calls : KnowsFunction S.whole S.places what place (val.I32 ∷ val.I32 ∷ val.I32 ∷ []) (val.I32 ∷ [])) where
  handle_does : (ls : Locals) (s : Source) (d : Target) → StandsAt ls S.from64 from s → MayGo used ls S.to64 to d
      → Does S.whole S.places Onward 14 0 [] ls (handle_code S.checks from_table to_table place from to) (move_handle (transfer S) what from_table to_table s d) (λ vs. []) (λ vs ls'. Stood ls' to vs × KeepsLocals used ls ls')
  handle_does ls s d st g =
      within (omega arith) (begins S.to64 used to d g (reads S.checks N32 S.from S.from64 from s h.readable st (λ x lt.
      pushing {a = I.I32Const from_table ∷ []} {t = 1} (record { by = λ w vs. leaves_i32_const }) (pushing {a = I.I32Const to_table ∷ []} {t = 1} (record { by = λ w vs. leaves_i32_const })
      (ask (I32 x ∷ I32 from_table ∷ I32 to_table ∷ []) calls refl (λ rs v.
      let one = answer_is false rs v in
      subst (λ us. Does S.whole S.places Onward 2 0 (reverse us ++ below_number S.to64 used ls to d g) ls (code_behind N32 to) (write_number S.to 4 d (first_bits rs)) (λ vs. []) (λ vs ls'. Stood ls' to vs × KeepsLocals used ls ls')) (sym one.0)
      (writes used N32 S.to S.to64 to d h.writable g one.1)))))))

  -- A handle is read, taken over and written, within the steps that one node has beside its checks.
  pub moves_handle : Moves S used 0 516 from to (λ s d. Visit 1 (move_handle (transfer S) what from_table to_table s d)) (handle_code S.checks from_table to_table place from to)
  moves_handle = record {
    effect = λ ls s d e st g rooms. visit (omega arith) (handle_does ls s d st g);
    typed =
        typed_then (typed_before S.to64 to h.to_typed) (typed_then (typed_read S.places S.checks S.from S.from64 N32 from h.readable h.from_typed)
        (typed_next (takes_plain (o.I32Const _) (I.outs-I32Const _) refl) (typed_next (takes_plain (o.I32Const _) (I.outs-I32Const _) refl)
        (typed_next (takes_import (below_type S.to64 to ++ []) calls) (typed_behind S.places S.to S.to64 N32 to h.writable h.to_typed)))));
  }
