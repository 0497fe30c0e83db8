-- The state before a call that was answered by a trap is typed.
use Rattle.std.proofs.Common.{List, [], ◌∷◌, ◌++◌, sym, subst}
use Rattle.std.specs.List.{AllZip}
use Rattle.std.proofs.lemmas.List.Elements.{All-head, All-tail}
use Rattle.fact_wasm.specs.declared.module.WasmModule.{WasmModule}
use Rattle.fact_wasm.specs.declared.types.ValType.{ValType}
use Rattle.fact_machine.specs.declared.types.CoreValue.{CoreValue}
use Rattle.fact_machine.specs.declared.types.Event.{Event}
use Rattle.fact_machine.specs.declared.types.Outcome.{Outcome}
use Rattle.fact_machine.specs.Causes.{answers_of}
use Rattle.fact_machine.specs.Typed.{IsValue, TypedAnswer, TypedState, type_of_import}
use Rattle.fact_check.specs.Constants.{AreBits}
use Rattle.fact_check.specs.Soundness.{AreArguments, HasTypedAnswers, RunsSeeTyped, SeeTyped}
use Rattle.fact_call_laws.proofs.Setting.{Called, Setting, log, run_is}
use Rattle.fact_call_laws.proofs.Trapped.{AtTrap}

-- the bits of typed values are as many as their types have
pub bits_of_typed : (vs : List CoreValue) (ts : List ValType) → AllZip (λ v t. IsValue v t) vs ts → AreBits vs
bits_of_typed [] ts h = tt
bits_of_typed (v ∷ vs) [] h = absurd h
bits_of_typed (v ∷ vs) (t ∷ ts) h = (h.0.1, bits_of_typed vs ts h.1)

-- the last of calls sees a typed state, where all are answered by typed answers
pub seen_last : (m : WasmModule) (front : List Event) (e : Event) → SeeTyped m (front ++ e ∷ []) → HasTypedAnswers m (front ++ e ∷ []) → TypedState m e.before
seen_last m [] e h answers = h.0
seen_last m (v ∷ front) e h answers =
    seen_last m front e (h.2 (All-head (λ (z : Event). TypedAnswer m z.func z.before z.answer) v (front ++ e ∷ []) answers)) (All-tail (λ (z : Event). TypedAnswer m z.func z.before z.answer) v (front ++ e ∷ []) answers)

-- and is told arguments of its import's types
pub told_last : (m : WasmModule) (front : List Event) (e : Event) → SeeTyped m (front ++ e ∷ []) → HasTypedAnswers m (front ++ e ∷ []) → AreArguments (type_of_import m e.func) e.args
told_last m [] e h answers = h.1
told_last m (v ∷ front) e h answers =
    told_last m front e (h.2 (All-head (λ (z : Event). TypedAnswer m z.func z.before z.answer) v (front ++ e ∷ []) answers)) (All-tail (λ (z : Event). TypedAnswer m z.func z.before z.answer) v (front ++ e ∷ []) answers)

module _ (seen : RunsSeeTyped) (x : Setting) (h : Called x) where
  log_seen : SeeTyped x.code (log x)
  log_seen =
      subst (λ (o : Outcome). SeeTyped x.code o.log) (sym (run_is x h))
      (seen x.code x.function h.outcome.args h.outcome.first (answers_of (log x)) x.steps h.promised.constants (bits_of_typed h.outcome.args _ h.outcome.args_typed) h.outcome.state_typed)

  pub seen_typed : (t : AtTrap x h) → TypedState x.code t.event.before
  seen_typed t = seen_last x.code t.front t.event (subst (SeeTyped x.code) t.log_is log_seen) (subst (HasTypedAnswers x.code) t.log_is h.outcome.answers_typed)
