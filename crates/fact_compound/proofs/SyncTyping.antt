-- The code of a sync adapter is typed where its parts are.
use Rattle.std.proofs.Common.{◌≡◌, ℕ, Bool, true, false, List, [], ◌∷◌, ◌++◌, Option, Some, None, refl, sym, ap, ◌∙◌, subst, append_assoc, append-nil, reverse, slice_get}
use Rattle.std.proofs.lemmas.List.{reverse-append}
use Rattle.fact_wasm.specs.declared.types.ValType.{ValType}
use Rattle.fact_wasm.specs.declared.types.ValType.TheVariants as val
use Rattle.fact_wasm.specs.declared.instr.FuncName.TheVariants as func
use Rattle.fact_wasm.specs.declared.instr.Instr.{Instr}
use Rattle.fact_wasm.specs.declared.instr.Instr.TheVariants as I
use Rattle.fact_wasm.specs.declared.instr.Instr.TheOpen as op
use Rattle.fact_wasm.specs.declared.module.WasmModule.{WasmModule}
use Rattle.fact_types.specs.Adapters.{LinkedAdapter}
use Rattle.fact_types.specs.declared.outside.CoreDef.{CoreDef}
use Rattle.fact_actions.specs.Adapters.{AdapterTunables, lift_signature_of}
use Rattle.fact_actions.specs.Running.{ImportPlaces}
use Rattle.fact_code_laws.specs.Context.{restore_code}
use Rattle.fact_code_laws.specs.Knows.{KnowsFlags}
use Rattle.fact_code_laws.specs.Places.{Slot, AreLocals}
use Rattle.fact_code_laws.specs.Typed.{OnStack, IsTyped}
use Rattle.fact_code_laws.proofs.TypedRows.{takes_plain, takes_local_get, takes_local_set, takes_global_get, takes_global_set, takes_import}
use Rattle.fact_code_laws.proofs.TypedShapes.{takes_guard, typed_barrier}
use Rattle.fact_code_laws.proofs.ContextSteps.{typed_reads, typed_writes}
use Rattle.fact_code_laws.proofs.TypingLaws.{typed_done, typed_then, typed_next, typed_one}
use Rattle.fact_steps.specs.Code.{call_code, enter_code, exit_code, finish_code, popped_code, pushed_code}
use Rattle.fact_compound.specs.Code.{SyncParts, with_barrier, cleared_code, steps_code, sync_code}
use Rattle.fact_compound.proofs.FlagGuards.{takes_local_tee}
use Rattle.fact_compound.proofs.SyncSteps.{slot_types, SyncLocals, TellsIf, IsPostReturn, SyncImports}
use Rattle.fact_compound.specs.Written.{KnowsUncaught}

pub reversed_types : (t : ValType) (ts ins : List ValType) → reverse ts ++ (t ∷ ins) ≡ reverse (t ∷ ts) ++ ins
reversed_types t ts ins = sym (ap (λ us. us ++ ins) (reverse-append (t ∷ []) ts) ∙ append_assoc (reverse ts) (t ∷ []) ins)

module _ {M : WasmModule} {locals : List ValType} where
  pub typed_pushed : (ss : List Slot) (ins : List ValType) → AreLocals locals ss → IsTyped M locals [] (pushed_code ss) ins (OnStack (reverse (slot_types ss) ++ ins))
  typed_pushed [] ins l = typed_done
  typed_pushed (s ∷ ss) ins l = typed_next (takes_local_get l.0) (subst (λ us. IsTyped M locals [] (pushed_code ss) (s.1 ∷ ins) (OnStack us)) (reversed_types s.1 (slot_types ss) ins) (typed_pushed ss (s.1 ∷ ins) l.1))

  typed_popped : (ss : List Slot) (ins : List ValType) → AreLocals locals ss → IsTyped M locals [] (popped_code ss) (reverse (slot_types ss) ++ ins) (OnStack ins)
  typed_popped [] ins l = typed_done
  typed_popped (s ∷ ss) ins l =
      subst (λ us. IsTyped M locals [] (popped_code (s ∷ ss)) us (OnStack ins)) (reversed_types s.1 (slot_types ss) ins) (typed_then (typed_popped ss (s.1 ∷ ins) l.1) (typed_one (takes_local_set l.0)))

  pub typed_cleared : {p : ImportPlaces} {i flags : ℕ} (saved : ℕ) {c : List Instr} → KnowsFlags M p i flags → slice_get locals saved ≡ Some val.I32 → IsTyped M locals [] c [] (OnStack []) → IsTyped M locals [] (cleared_code flags saved c) [] (OnStack [])
  typed_cleared saved h l x =
      typed_next (takes_plain (op.I32Const _) (I.outs-I32Const _) refl) (typed_next (takes_global_set h) (typed_then x (typed_next (takes_local_get l) (typed_one (takes_global_set h)))))

  typed_entered : (p : ImportPlaces) (enter exit : ℕ) (told : Bool) (instance : ℕ) → TellsIf told M p enter exit → IsTyped M locals [] (enter_code told instance enter) [] (OnStack [])
  typed_entered p enter exit false instance h = typed_done
  typed_entered p enter exit true instance h = typed_next (takes_plain (op.I32Const _) (I.outs-I32Const _) refl) (typed_next (takes_plain (op.I32Const _) (I.outs-I32Const _) refl) (typed_one (takes_import [] h.0)))

  typed_exited : (p : ImportPlaces) (enter exit : ℕ) (told : Bool) → TellsIf told M p enter exit → IsTyped M locals [] (exit_code told exit) [] (OnStack [])
  typed_exited p enter exit false h = typed_done
  typed_exited p enter exit true h = typed_one (takes_import [] h.1)

  module _ {p : ImportPlaces} {slots : List Slot} {kept with_given with_slots with_results : ℕ → Bool} {u : AdapterTunables} (a : LinkedAdapter) (s : SyncParts) (has : SyncImports M p u a s) (l : SyncLocals s slots kept with_given with_slots with_results locals) where
    typed_finished : IsTyped M locals [] (finish_code s.context s.post_return s.callee_slots s.own_slots s.given) [] (OnStack [])
    typed_finished = by_post a.lift.post_return s.post_return has.post_return
      where
        by_post : (o : Option CoreDef) (n : Option ℕ) → IsPostReturn M p (lift_signature_of a).results o n → IsTyped M locals [] (finish_code s.context n s.callee_slots s.own_slots s.given) [] (OnStack [])
        by_post None None h = typed_done
        by_post (Some f) (Some n) h =
            let called : IsTyped M locals [] (I.Call (func.Import n) ∷ restore_code s.context s.own_slots) (reverse (slot_types s.given) ++ []) (OnStack []) =
            subst (λ ts. IsTyped M locals [] (I.Call (func.Import n) ∷ restore_code s.context s.own_slots) (reverse ts ++ []) (OnStack [])) (sym has.given) (typed_next (takes_import [] h) (typed_writes p s.context s.own_slots with_results has.writes_own l.own_slots)) in
            typed_then (typed_reads p s.context s.own_slots with_results has.reads_own l.own_slots) (typed_then (typed_writes p s.context s.callee_slots with_given has.writes l.callee_slots) (typed_then (typed_pushed s.given [] l.given_typed) called))
        by_post None (Some n) h = absurd h
        by_post (Some f) None h = absurd h

    -- The steps leave nothing on the stack.
    typed_steps : {pc rc : List Instr} → AreLocals locals s.core → IsTyped M locals [] pc [] (OnStack []) → IsTyped M locals [] rc [] (OnStack []) → IsTyped M locals [] (steps_code s pc rc) [] (OnStack [])
    typed_steps core x y =
        let called : IsTyped M locals [] (call_code s.core s.lift_flags s.lift_saved s.callee s.given) [] (OnStack []) =
        typed_then (typed_pushed s.core [] core) (typed_next (takes_local_get l.lift_saved_typed) (typed_next (takes_global_set has.lift_flags) (typed_next (takes_import [] has.callee)
        (subst (λ ts. IsTyped M locals [] (popped_code s.given) (reverse ts ++ []) (OnStack [])) has.given (typed_popped s.given [] l.given_typed))))) in
        typed_then (takes_guard {c = []} has.may_leave (typed_next (takes_global_get has.lower_flags) (typed_one (takes_local_tee l.saved_typed))) typed_done)
        (typed_then (typed_entered p s.enter s.exit s.told s.instance has.tells)
        (typed_then (typed_next (takes_global_get has.lift_flags) (typed_next (takes_local_set l.lift_saved_typed) (typed_next (takes_plain (op.I32Const _) (I.outs-I32Const _) refl) (typed_one (takes_global_set has.lift_flags)))))
        (typed_then x (typed_then called (typed_then (typed_reads p s.context s.callee_slots with_given has.reads l.callee_slots) (typed_then (typed_exited p s.enter s.exit s.told has.tells)
        (typed_then (typed_cleared s.saved has.lower_flags l.saved_typed y) typed_finished)))))))

    typed_barred : {c : List Instr} (exceptions : Bool) (place : Option ℕ) → KnowsUncaught exceptions M p place → IsTyped M locals [] c [] (OnStack []) → IsTyped M locals [] (with_barrier place c) [] (OnStack [])
    typed_barred false None h x = x
    typed_barred true (Some n) h x = typed_barrier h x
    typed_barred false (Some n) h x = absurd h
    typed_barred true None h x = absurd h

    pub typed_sync : {pc rc : List Instr} → AreLocals locals s.core → AreLocals locals s.results → IsTyped M locals [] pc [] (OnStack []) → IsTyped M locals [] rc [] (OnStack []) → IsTyped M locals [] (sync_code s pc rc) [] (OnStack (reverse (slot_types s.results)))
    typed_sync core results x y =
        typed_then (typed_barred u.exceptions s.uncaught has.barrier (typed_steps core x y))
        (subst (λ us. IsTyped M locals [] (pushed_code s.results) [] (OnStack us)) (append-nil (reverse (slot_types s.results))) (typed_pushed s.results [] results))
