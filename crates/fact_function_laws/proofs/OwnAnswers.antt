-- What a run has called so far, whatever its end. On the answers in its log alone it is the same so far, and then makes no more calls; so it
-- comes to what the action comes to with these answers, and has called by then what that has called.
use Rattle.std.proofs.Common.{◌≡◌, ℕ, ◌+◌, ◌≤◌, List, sym, ap, ◌∙◌, subst, arith}
use Rattle.fact_wasm.specs.declared.types.FuncType.{FuncType}
use Rattle.fact_wasm.specs.declared.types.ValType.{ValType}
use Rattle.fact_wasm.specs.declared.module.WasmModule.{WasmModule}
use Rattle.fact_machine.specs.declared.types.Answer.{Answer}
use Rattle.fact_machine.specs.declared.types.CoreValue.{CoreValue}
use Rattle.fact_machine.specs.declared.types.Event.{Event}
use Rattle.fact_machine.specs.declared.types.MachineState.{MachineState}
use Rattle.fact_machine.specs.declared.types.Outcome.{Outcome}
use Rattle.fact_machine.specs.Causes.{answers_of}
use Rattle.fact_machine.specs.Exits.{first_world}
use Rattle.fact_machine.specs.Machine.{run_of}
use Rattle.fact_machine.specs.Trace.{Grows}
use Rattle.fact_machine.specs.Typed.{TypedAnswer}
use Rattle.fact_machine.specs.World.{World}
use Rattle.fact_machine.proofs.Answered.{no_more_calls, runs_on_its_answers}
use Rattle.fact_machine.proofs.Grows.{grows_to}
use Rattle.fact_types.specs.declared.import.Import.{Import}
use Rattle.fact_types.specs.Adapters.{LinkedAdapter}
use Rattle.fact_actions.specs.Honest.{IsStraight}
use Rattle.fact_actions.specs.Running.{ImportPlaces, Call, Ended, calls_in}
use Rattle.fact_function_laws.specs.Names.{AreCalls}
use Rattle.fact_function_laws.specs.Runs.{IsTypedFrom}
use Rattle.fact_function_laws.proofs.Fronts.{grown_all, taken_fronts}
use Rattle.fact_function_laws.proofs.FunctionRuns.{EndsIn, comes_to_end, is_named_plain}

-- ---- a run on the answers in a log alone

module _ (m : WasmModule) (f : ℕ) (args : List CoreValue) (before : MachineState) (answers : List Answer) (steps : ℕ) where
  abbrev its_log : List Event
  its_log = (run_of m f args before answers steps).log

  abbrev pub its_answers : List Answer
  its_answers = answers_of its_log

  -- at each number of steps
  abbrev own_log : ℕ → List Event
  own_log n = (run_of m f args before its_answers n).log

  same_log : own_log steps ≡ its_log
  same_log = ap (λ (o : Outcome). o.log) (runs_on_its_answers m f args before answers steps)

  -- it has taken all its answers
  all_taken : answers_of (own_log steps) ≡ its_answers
  all_taken = ap answers_of same_log

  pub stays_so : (n : ℕ) → steps ≤ n → own_log n ≡ its_log
  stays_so n more = no_more_calls m f args before its_answers steps n more all_taken ∙ same_log

  pub own_front : (n : ℕ) → Grows (own_log n) its_log
  own_front n = grows_to same_log (taken_fronts m f args before its_answers steps all_taken n)

-- ---- functions of adapters

-- The calls of this log are those of this end.
pub record HasCalled (m : WasmModule) (is : List Import) (log : List Event) (e : Ended (List CoreValue)) : Type 0 where
  pub goes_straight : IsStraight e
  pub its_calls : (cs : List Call) → AreCalls m is log cs → cs ≡ calls_in e

module _ (m : WasmModule) (is : List Import) (p : ImportPlaces) (types : Import → List ValType) (adapters : List LinkedAdapter) (f : ℕ) (ty : FuncType) (extra : ℕ) (end : List CoreValue → World → Ended (List CoreValue))
    (h : EndsIn m is p types adapters f ty extra end)
    (args : List CoreValue) (before : MachineState) (answers : List Answer) (steps : ℕ)
    (typed : IsTypedFrom m ty.params args before (run_of m f args before answers steps).log) where
  own_typed : (n : ℕ) → IsTypedFrom m ty.params args before (own_log m f args before answers steps n)
  own_typed n = record {
    state = typed.state;
    arguments = typed.arguments;
    answers = grown_all (λ (e : Event). TypedAnswer m e.func e.before e.answer) (own_log m f args before answers steps n) (run_of m f args before answers steps).log (own_front m f args before answers steps n) typed.answers;
  }

  -- a run that is typed so far has called what the action calls with the answers in its log
  pub has_called : HasCalled m is (run_of m f args before answers steps).log (end args (first_world before (its_answers m f args before answers steps)))
  has_called =
      let plain = (is_named_plain m is p types adapters f ty extra end h args before (its_answers m f args before answers steps) own_typed).plain in
      let n : ℕ = steps + plain.steps in
      let e = comes_to_end m is p types adapters f ty extra end h args before (its_answers m f args before answers steps) own_typed n (plain.is n (omega arith)) in
      let same = stays_so m f args before answers steps n (omega arith) in
      record { goes_straight = e.goes_straight; its_calls = λ cs are. e.its_calls cs (subst (λ l. AreCalls m is l cs) (sym same) are) }
