-- Handles that are taken over by functions of the runtime.
use Rattle.std.proofs.Common.{◌≡◌, ℕ, List, [], ◌∷◌, ◌++◌, Some, refl, sym, ap, ◌∙◌, subst, append_assoc}
use Rattle.fact_wasm.specs.declared.instr.Instr.{Instr, the_lemmas}
use Rattle.fact_wasm.specs.declared.instr.Instr.TheVariants as I
use Rattle.fact_wasm.specs.declared.module.WasmModule.{WasmModule}
use Rattle.fact_wasm.specs.declared.types.FuncType.{FuncType}
use Rattle.fact_wasm.specs.declared.types.ValType.{ValType}
use Rattle.fact_wasm.specs.Ranges.{AreRanged}
use Rattle.fact_types.specs.declared.interface.InterfaceType.{InterfaceType}
use Rattle.fact_types.specs.declared.interface.InterfaceType.TheVariants as ty
use Rattle.fact_actions.specs.Running.{ImportPlaces}
use Rattle.fact_code_laws.specs.Knows.{KnowsFunction}
use Rattle.fact_code_laws.specs.Places.{From, To, N32, read_code, code_before, code_behind}
use Rattle.fact_code_laws.proofs.Handles.{handle_code, moves_handle}
use Rattle.fact_emit.specs.declared.handles.HandleTransfer.{HandleTransfer}
use Rattle.fact_emit.specs.declared.places.Sides.{Sides}
use Rattle.fact_emit.specs.declared.writer.Writer.{Writer}
use Rattle.fact_emit.specs.Emits.{Emits}
use Rattle.fact_emit.specs.Handles.{MovesHandle, handle_moves, handle_transfer}
use Rattle.fact_emit.specs.MovesValue.{MovesValue}
use Rattle.fact_emit.specs.Numbers.{FitsUnchecked, HasUpperAt, ReadsNumber}
use Rattle.fact_emit.specs.Pieces.{Is}
use Rattle.fact_emit.specs.Places.{checks_at, setting_of}
use Rattle.fact_emit.specs.Runtime.{import_of, transfer_type}
use Rattle.fact_emit.specs.RuntimeCalls.{CallsRuntime, runtime_call}
use Rattle.fact_emit.specs.Writers.{Wrote, taken_in}
use Rattle.fact_emit.proofs.Emitting.{emits_then, emits_wrote, wrote_then}
use Rattle.fact_emit.proofs.NumberMoves.{ReadsThen, fits_checked, reads_then}
use Rattle.fact_emit.proofs.RangedCode.{before_ranged, behind_ranged}
use Rattle.fact_emit.proofs.NamedLaws.{ranged_none}
use Rattle.fact_types.proofs.ShapeLaws.{same_some}

-- ---- the code

tables_ranged : (from to : ℕ) → AreRanged 0 0 (I.I32Const from ∷ I.I32Const to ∷ [])
tables_ranged from to = ranged_none 0 0 (I.I32Const from ∷ I.I32Const to ∷ []) (simp the_lemmas)

-- the call, and the number that it answers put at its place
abbrev CallsThen : HandleTransfer → To → WasmModule → ImportPlaces → List ValType → List Instr → Type 0
CallsThen h dst M p locals code = KnowsFunction M p (import_of h.function) (p.function (import_of h.function)) transfer_type.params transfer_type.results × (code ≡ runtime_call p h.function ∷ code_behind N32 dst)

calls_then : {a b c : Writer} (dst : To) (h : HandleTransfer) → MovesHandle h → Emits a b (CallsRuntime h.function) → Wrote b c (code_behind N32 dst) → Emits a c (CallsThen h dst)
calls_then dst h is x y =
    emits_then (λ M p locals c k g e. (subst (λ (t : FuncType). KnowsFunction M p (import_of h.function) (p.function (import_of h.function)) t.params t.results) is g.has, λ i. g.is i ++ e i)) x (emits_wrote (behind_ranged N32 dst) y)

-- A number that is read, handed to the function, and what that answers written.
pub handle_emits : {a b c d e f g : Writer} {src : From} {dst : To} (sides : Sides) (h : HandleTransfer) → MovesHandle h
    → Wrote a b (code_before dst) → Emits b c (ReadsNumber sides.debug N32 src) → Wrote c d (I.I32Const h.from_table ∷ []) → Wrote d e (I.I32Const h.to_table ∷ []) → Emits e f (CallsRuntime h.function) → Wrote f g (code_behind N32 dst)
    → Emits a g (MovesValue sides src dst (taken_in a) 516 (FitsUnchecked N32 src dst) (handle_moves h))
handle_emits {a} {src = src} {dst} sides h is x y z v u w =
    let tables : List Instr = I.I32Const h.from_table ∷ I.I32Const h.to_table ∷ [] in
    emits_then {P = λ M p locals c. HasUpperAt M p (checks_at sides.debug p) N32 src × (c ≡ code_before dst ++ (read_code (checks_at sides.debug p) N32 src ++ tables))} {Q = CallsThen h dst}
    (λ M p locals c k front back.
    let reads : List Instr = read_code (checks_at sides.debug p) N32 src in
    let all : c ++ k ≡ handle_code (checks_at sides.debug p) h.from_table h.to_table (p.function (import_of h.function)) src dst =
    ap (λ c. c ++ k) front.1 ∙ append_assoc (code_before dst) (reads ++ tables) k ∙ ap (λ c. code_before dst ++ c) (append_assoc reads tables k)
    ∙ ap (λ k. code_before dst ++ (reads ++ (tables ++ k))) back.1 in
    subst (λ code. MovesValue sides src dst (taken_in a) 516 (FitsUnchecked N32 src dst) (handle_moves h) M p locals code) (sym all)
    (record {
      moves = λ o o' rooms used using fits.
          let S = setting_of sides o o' rooms M p locals in
          moves_handle S used src dst (fits_checked S front.0 fits) (import_of h.function) h.from_table h.to_table (p.function (import_of h.function)) back.0;
    }))
    (emits_then {P = Is (code_before dst)} {Q = ReadsThen sides.debug N32 src tables} (λ M p locals c k e q. (q.0, λ i. e i ++ q.1 i)) (emits_wrote (before_ranged dst) x) (reads_then (tables_ranged h.from_table h.to_table) y (wrote_then z v)))
    (calls_then dst h is u w)

-- the transfers of handles take and give what transfers do
pub transfers_handles : (from to : InterfaceType) (h : HandleTransfer) → handle_transfer from to ≡ Some h → MovesHandle h
transfers_handles (ty.Own i) (ty.Own j) h e = subst MovesHandle (same_some _ _ h refl e) refl
transfers_handles (ty.Borrow i) (ty.Borrow j) h e = subst MovesHandle (same_some _ _ h refl e) refl
transfers_handles (ty.Future i) (ty.Future j) h e = subst MovesHandle (same_some _ _ h refl e) refl
transfers_handles (ty.Stream i) (ty.Stream j) h e = subst MovesHandle (same_some _ _ h refl e) refl
transfers_handles (ty.ErrorContext i) (ty.ErrorContext j) h e = subst MovesHandle (same_some _ _ h refl e) refl
transfers_handles _ _ h e = cc
