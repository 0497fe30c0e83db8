-- How each control and variable instruction is left, one lemma for each row. Those with a body and calls are in Structure and
-- OutsideCalls, the others in NumericLaws and MemoryRows.
use Rattle.std.proofs.Common.{◌≡◌, ◌≢◌, ℕ, zero, suc, true, List, [], ◌∷◌, Option, Some, refl, ap, ◌∙◌, slice_get, slice_set}
use Rattle.fact_wasm.specs.declared.instr.FuncName.TheVariants.{Import, Defined}
use Rattle.fact_wasm.specs.declared.instr.Instr.{Instr, out-Instr}
use Rattle.fact_wasm.specs.declared.instr.Instr.TheOpen.{Instr-F}
use Rattle.fact_wasm.specs.declared.instr.Instr.TheVariants as I
use Rattle.fact_wasm.specs.declared.module.WasmFunc.{WasmFunc}
use Rattle.fact_wasm.specs.declared.module.WasmModule.{WasmModule}
use Rattle.fact_machine.specs.declared.types.CoreValue.{CoreValue}
use Rattle.fact_machine.specs.declared.types.CoreValue.TheVariants.{I32, Func}
use Rattle.fact_machine.specs.declared.types.End.TheVariants.{Trapped}
use Rattle.fact_machine.specs.World.{World, set_global}
use Rattle.fact_machine.specs.Machine.{Around, At, Did, Goes, act, or_stuck, check, may_follow, has_type, type_of, set_local, label_at, func_import}
use Rattle.fact_machine.specs.Exits.{Exit, Falls, Branches, Halts, leads, Leaves}
use Rattle.fact_machine.proofs.Laws.{leaves_one}

assigned : (w : World) (ls : List (Option CoreValue)) (n : ℕ) (v : CoreValue) (old : Option CoreValue) (go : List (Option CoreValue) → Did)
    → slice_get ls n ≡ Some old → may_follow old v ≡ true → set_local w n v ls go ≡ go (slice_set ls n (Some v))
assigned w ls n v old go h t =
    ap (λ o. or_stuck w o (λ old. check w (may_follow old v) (go (slice_set ls n (Some v))))) h
    ∙ ap (λ b. check w b (go (slice_set ls n (Some v)))) t

module _ {M : WasmModule} {w : World} {vs : List CoreValue} {ls : List (Option CoreValue)} where
  -- an instruction whose row is known
  pub leaves_row : {i : Instr} {x : Exit} (f : Instr-F Instr) → out-Instr i ≡ f → ((rest : List Instr) (k : Around) → act M f w vs ls rest k ≡ leads x rest k) → Leaves M 1 (i ∷ []) w vs ls x
  leaves_row f e h = leaves_one (λ rest k. ap (λ o. act M o w vs ls rest k) e ∙ h rest k)

  -- unreachable traps
  pub leaves_unreachable : Leaves M 1 (I.Unreachable ∷ []) w vs ls (Halts Trapped w)
  leaves_unreachable = leaves_row _ I.outs-Unreachable (λ rest k. refl)

  -- i32.const pushes its number
  pub leaves_i32_const : {n : ℕ} → Leaves M 1 (I.I32Const n ∷ []) w vs ls (Falls w (I32 n ∷ vs) ls)
  leaves_i32_const {n} = leaves_row _ (I.outs-I32Const n) (λ rest k. refl)

  -- local.get pushes what the local holds
  pub leaves_local_get : {n : ℕ} {v : CoreValue} → slice_get ls n ≡ Some (Some v) → Leaves M 1 (I.LocalGet n ∷ []) w vs ls (Falls w (v ∷ vs) ls)
  leaves_local_get {n} h = leaves_row _ (I.outs-LocalGet n) (λ rest k. ap (λ o. or_stuck w o (λ o'. or_stuck w o' (λ v. Goes (At w (v ∷ vs) ls rest k)))) h)

  -- global.get pushes what the global holds
  pub leaves_global_get : {n : ℕ} {v : CoreValue} → slice_get w.state.globals n ≡ Some v → Leaves M 1 (I.GlobalGet n ∷ []) w vs ls (Falls w (v ∷ vs) ls)
  leaves_global_get {n} h = leaves_row _ (I.outs-GlobalGet n) (λ rest k. ap (λ o. or_stuck w o (λ v. Goes (At w (v ∷ vs) ls rest k))) h)

  -- local.set takes the top into the local
  pub leaves_local_set : {n : ℕ} {v : CoreValue} {old : Option CoreValue} → slice_get ls n ≡ Some old
      → may_follow old v ≡ true → Leaves M 1 (I.LocalSet n ∷ []) w (v ∷ vs) ls (Falls w vs (slice_set ls n (Some v)))
  leaves_local_set {n} {v} {old} h t = leaves_one (λ rest k. ap (λ o. act M o w (v ∷ vs) ls rest k) (I.outs-LocalSet n) ∙ assigned w ls n v old (λ l. Goes (At w vs l rest k)) h t)

  -- local.tee leaves it on the stack too
  pub leaves_local_tee : {n : ℕ} {v : CoreValue} {old : Option CoreValue} → slice_get ls n ≡ Some old
      → may_follow old v ≡ true → Leaves M 1 (I.LocalTee n ∷ []) w (v ∷ vs) ls (Falls w (v ∷ vs) (slice_set ls n (Some v)))
  leaves_local_tee {n} {v} {old} h t = leaves_one (λ rest k. ap (λ o. act M o w (v ∷ vs) ls rest k) (I.outs-LocalTee n) ∙ assigned w ls n v old (λ l. Goes (At w (v ∷ vs) l rest k)) h t)

  -- global.set takes the top into the global, and the trace has the write
  pub leaves_global_set : {n : ℕ} {v old : CoreValue} → slice_get w.state.globals n ≡ Some old
      → has_type v (type_of old) ≡ true → Leaves M 1 (I.GlobalSet n ∷ []) w (v ∷ vs) ls (Falls (set_global n v w) vs ls)
  leaves_global_set {n} {v} {old} h t = leaves_one (λ rest k.
      ap (λ o. act M o w (v ∷ vs) ls rest k) (I.outs-GlobalSet n)
      ∙ ap (λ o. or_stuck w o (λ old. check w (has_type v (type_of old)) (Goes (At (set_global n v w) vs ls rest k)))) h
      ∙ ap (λ b. check w b (Goes (At (set_global n v w) vs ls rest k))) t)

-- how br_if is left, by the number on top
abbrev pub br_if_exit : ℕ → ℕ → World → List CoreValue → List (Option CoreValue) → Exit
br_if_exit zero l w vs ls = Falls w vs ls
br_if_exit (suc c) l w vs ls = Branches w l vs ls

module _ {M : WasmModule} {w : World} {vs : List CoreValue} {ls : List (Option CoreValue)} {l : ℕ} where
  -- br_if by cases
  pub leaves_br_if : (c : ℕ) → Leaves M 1 (I.BrIf l ∷ []) w (I32 c ∷ vs) ls (br_if_exit c l w vs ls)
  leaves_br_if zero = leaves_one (λ rest k. ap (λ o. act M o w (I32 0 ∷ vs) ls rest k) (I.outs-BrIf l))
  leaves_br_if (suc c) = leaves_one (λ rest k. ap (λ o. act M o w (I32 (suc c) ∷ vs) ls rest k) (I.outs-BrIf l))

  -- it falls through at zero
  pub leaves_br_if_zero : Leaves M 1 (I.BrIf l ∷ []) w (I32 0 ∷ vs) ls (Falls w vs ls)
  leaves_br_if_zero = leaves_br_if 0

  -- and branches at any other number
  pub leaves_br_if_taken : (c : ℕ) → c ≢ 0 → Leaves M 1 (I.BrIf l ∷ []) w (I32 c ∷ vs) ls (Branches w l vs ls)
  leaves_br_if_taken zero h = absurd (h refl)
  leaves_br_if_taken (suc c) h = leaves_br_if (suc c)

module _ {M : WasmModule} {w : World} {vs : List CoreValue} {ls : List (Option CoreValue)} where
  -- br
  pub leaves_br : {l : ℕ} → Leaves M 1 (I.Br l ∷ []) w vs ls (Branches w l vs ls)
  leaves_br {l} = leaves_row _ (I.outs-Br l) (λ rest k. refl)

  -- br_table
  pub leaves_br_table : {labels : List ℕ} {last i : ℕ} → Leaves M 1 (I.BrTable labels last ∷ []) w (I32 i ∷ vs) ls (Branches w (label_at labels last i) vs ls)
  leaves_br_table {labels} {last} = leaves_row _ (I.outs-BrTable labels last) (λ rest k. refl)

  -- ref.func of an imported function
  pub leaves_ref_import : {n ty : ℕ} → func_import M.imports n ≡ Some ty → Leaves M 1 (I.RefFunc (Import n) ∷ []) w vs ls (Falls w (Func (Import n) ∷ vs) ls)
  leaves_ref_import {n} h = leaves_row _ (I.outs-RefFunc (Import n)) (λ rest k. ap (λ o. or_stuck w o (λ ty. Goes (At w (Func (Import n) ∷ vs) ls rest k))) h)

  -- ref.func of a function that the module defines
  pub leaves_ref_defined : {n : ℕ} {f : WasmFunc} → slice_get M.funcs n ≡ Some f → Leaves M 1 (I.RefFunc (Defined n) ∷ []) w vs ls (Falls w (Func (Defined n) ∷ vs) ls)
  leaves_ref_defined {n} h = leaves_row _ (I.outs-RefFunc (Defined n)) (λ rest k. ap (λ o. or_stuck w o (λ f. Goes (At w (Func (Defined n) ∷ vs) ls rest k))) h)
