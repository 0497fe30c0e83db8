-- Runs of the function of an adapter, by what its body comes to. Where a run has ended, and is typed there, it has come to that; before,
-- its trace is a front of it.
use Rattle.std.proofs.Common.{◌≡◌, ◌≢◌, ℕ, ◌+◌, ◌≤◌, true, List, [], ◌∷◌, All, Some, refl, sym, ap, ◌∙◌, subst, arith, inl, inr, map, reverse, slice_get}
use Rattle.std.specs.List.{AllZip}
use Rattle.std.proofs.lemmas.Bool.{cases_lt}
use Rattle.fact_wasm.specs.declared.types.ValType.{ValType}
use Rattle.fact_wasm.specs.declared.types.FuncType.{FuncType}
use Rattle.fact_wasm.specs.declared.module.WasmFunc.{WasmFunc}
use Rattle.fact_wasm.specs.declared.module.WasmModule.{WasmModule}
use Rattle.fact_machine.specs.declared.types.Answer.{Answer}
use Rattle.fact_machine.specs.declared.types.CoreValue.{CoreValue}
use Rattle.fact_machine.specs.declared.types.End.TheVariants.{Going, Stuck}
use Rattle.fact_machine.specs.declared.types.Event.{Event}
use Rattle.fact_machine.specs.declared.types.MachineState.{MachineState}
use Rattle.fact_machine.specs.declared.types.Outcome.{Outcome}
use Rattle.fact_machine.specs.Exits.{Calls, entry_locals, first_world}
use Rattle.fact_machine.specs.Machine.{have_types, run_of}
use Rattle.fact_machine.specs.Typed.{IsValue, TypedAnswer, are_values, type_of_import}
use Rattle.fact_machine.specs.Trace.{Grows, trace_of}
use Rattle.fact_machine.specs.World.{World, calls}
use Rattle.fact_machine.proofs.Grows.{grows_to, run_log, run_log_more, run_trace_more}
use Rattle.fact_machine.proofs.TypedTests.{values_decided}
use Rattle.fact_types.specs.declared.import.Import.{Import}
use Rattle.fact_types.specs.Adapters.{LinkedAdapter}
use Rattle.fact_actions.specs.AdapterLaws.{EndsTyped}
use Rattle.fact_actions.specs.Honest.{IsStraight}
use Rattle.fact_actions.specs.Laws.{Follows, call_event}
use Rattle.fact_actions.specs.Plain.{named_outcome}
use Rattle.fact_actions.specs.Running.{ImportPlaces, Call, Ended, calls_in, is_state, world_in}
use Rattle.fact_code_laws.specs.Does.{EndsSo, Onward}
use Rattle.fact_code_laws.specs.Knows.{ArePlacesOf}
use Rattle.fact_code_laws.specs.PieceLaws.{HaveResultTypes}
use Rattle.fact_code_laws.specs.Runs.{IsPlainRun, RunsAs, numbered_outcome}
use Rattle.fact_code_laws.proofs.Functions.{bodies_are_plain, bodies_run}
use Rattle.fact_code_laws.proofs.TypedStates.{states_agree}
use Rattle.fact_emit.specs.ImportSection.{NamesImports, mentions}
use Rattle.fact_function_laws.specs.Names.{AreCalls, IsNamedLog}
use Rattle.fact_function_laws.specs.Runs.{IsNamedRun, IsTypedFrom}
use Rattle.fact_function_laws.proofs.Fronts.{fronts, grown_all, stays}
use Rattle.fact_function_laws.proofs.ImportNumbers.{IsNaming, calls_are, named_log}
use Rattle.fact_function_laws.proofs.LoggedImports.{run_told}
use Rattle.fact_function_laws.proofs.Outcomes.{HasTraced, has_traced, named_calls, straight_not_stuck, traces_grow}
use Rattle.fact_function_laws.proofs.TypedCalls.{typed_calls}

values_have_types : (vs : List CoreValue) (ts : List ValType) → AllZip (λ v t. IsValue v t) vs ts → have_types vs ts ≡ true
values_have_types [] [] h = refl
values_have_types [] (t ∷ ts) h = absurd h
values_have_types (v ∷ vs) [] h = absurd h
values_have_types (v ∷ vs) (t ∷ ts) h = rw (h.0.0) (values_have_types vs ts h.1)

-- The body of the function of this number and of this type comes to this end from each world on, with typed arguments, in a module that names
-- its imports and has them at these places. The end follows its calls, and does not go astray on answers of these types.
pub record EndsIn (m : WasmModule) (is : List Import) (p : ImportPlaces) (types : Import → List ValType) (adapters : List LinkedAdapter) (f : ℕ) (ty : FuncType) (extra : ℕ) (end : List CoreValue → World → Ended (List CoreValue)) : Type 0 where
  pub function : WasmFunc
  pub function_is : slice_get m.funcs f ≡ Some function
  pub type_is : slice_get m.types function.ty ≡ Some ty
  pub names : NamesImports m is adapters
  pub naming : IsNaming m is p
  pub are : ArePlacesOf m p
  pub types_are : (i : Import) (t : FuncType) → type_of_import m (p.function i) ≡ Some t → types i ≡ t.results
  pub ends : (args : List CoreValue) (w : World) → are_values args ty.params ≡ true → EndsSo m p Onward extra 0 w [] (entry_locals function args) function.body reverse (HaveResultTypes ty) (end args w)
  pub follows : (args : List CoreValue) (w : World) → Follows p w (end args w)
  pub stays_typed : (args : List CoreValue) (w : World) → EndsTyped p types w (end args w)

-- A run has come to this end: its calls are those of it.
pub record HasEndedIn (m : WasmModule) (is : List Import) (p : ImportPlaces) (o : Outcome) (e : Ended (List CoreValue)) : Type 0 where
  pub goes_straight : IsStraight e
  pub outcome : o ≡ numbered_outcome p (named_outcome e)
  pub its_calls : (cs : List Call) → AreCalls m is o.log cs → cs ≡ calls_in e

module _ (m : WasmModule) (is : List Import) (p : ImportPlaces) (types : Import → List ValType) (adapters : List LinkedAdapter) (f : ℕ) (ty : FuncType) (extra : ℕ) (end : List CoreValue → World → Ended (List CoreValue))
    (h : EndsIn m is p types adapters f ty extra end)
    (args : List CoreValue) (before : MachineState) (answers : List Answer) where
  abbrev last : Ended (List CoreValue)
  last = end args (first_world before answers)

  abbrev at : ℕ → Outcome
  at steps = run_of m f args before answers steps

  -- each event is a call of something that is imported
  named_at : (steps : ℕ) → IsNamedLog m is (at steps).log
  named_at steps = named_log m is (mentions adapters) h.names.named (at steps).log (run_told m f args before answers steps)

  module _ (log : List Event) (typed : IsTypedFrom m ty.params args before log) where
    pub state_typed : is_state p before ≡ true
    state_typed = (states_agree m p before h.are).1 typed.state

    pub args_typed : are_values args ty.params ≡ true
    args_typed = (values_decided args ty.params).1 typed.arguments

    takes_args : Calls m f args h.function ty
    takes_args = record { func_is = h.function_is; type_is = h.type_is; typed = values_have_types args ty.params typed.arguments }

    body_ends : EndsSo m p Onward extra 0 (first_world before answers) [] (entry_locals h.function args) h.function.body reverse (HaveResultTypes ty) last
    body_ends = h.ends args (first_world before answers) args_typed

    pub runs_as : RunsAs m f args before answers extra 0 (λ (vs : List CoreValue). vs) last
    runs_as = bodies_run m p f args h.function ty before answers extra 0 last takes_args state_typed body_ends

    traced : HasTraced m f args before answers (world_in last)
    traced = has_traced m f args before answers extra last runs_as

    -- where the log is typed up to there, the end is not astray
    straight_by : IsTypedFrom m ty.params args before (at traced.steps).log → IsStraight last
    straight_by there =
        let log_there = run_log m f args before answers traced.steps ∙ ap calls traced.trace ∙ (h.follows args (first_world before answers)).log in
        let events = subst (All (λ (e : Event). TypedAnswer m e.func e.before e.answer)) log_there there.answers in
        (h.stays_typed args (first_world before answers) state_typed (typed_calls m p types h.are h.types_are (calls_in last) events)).0

    plain_by : IsStraight last → IsPlainRun m p f args before answers (named_outcome last)
    plain_by straight = bodies_are_plain m p f args h.function ty before answers extra 0 last takes_args state_typed body_ends (h.follows args (first_world before answers)) straight

  -- ---- a run that is typed at all numbers of steps

  module _ (all : (steps : ℕ) → IsTypedFrom m ty.params args before (at steps).log) where
    pub straight : IsStraight last
    straight = straight_by (at 0).log (all 0) (all (traced (at 0).log (all 0)).steps)

    is_plain : IsPlainRun m p f args before answers (named_outcome last)
    is_plain = plain_by (at 0).log (all 0) straight

    pub is_named_plain : IsNamedRun m is p f args before answers (named_outcome last)
    is_named_plain =
        let named = named_at is_plain.steps in
        let log = ap (λ (o : Outcome). o.log) (is_plain.is is_plain.steps (omega arith)) in
        let are : AreCalls m is (map (call_event p) (named_outcome last).log) named.calls = subst (λ l. AreCalls m is l named.calls) log named.are_calls in
        record { plain = is_plain; are_calls = subst (AreCalls m is (map (call_event p) (named_outcome last).log)) (calls_are m is p h.naming (named_outcome last).log named.calls are) are }

    -- where it is plain, it has come to its end
    pub comes_to_end : (steps : ℕ) → at steps ≡ numbered_outcome p (named_outcome last) → HasEndedIn m is p (at steps) last
    comes_to_end steps settled = record {
      goes_straight = straight;
      outcome = settled;
      its_calls = λ cs are.
          let there : AreCalls m is (map (call_event p) (named_outcome last).log) cs = subst (λ (o : Outcome). AreCalls m is o.log cs) settled are in
          calls_are m is p h.naming (named_outcome last).log cs there ∙ named_calls last;
    }

  -- ---- a run that has ended, and is typed there

  pub has_ended : (steps : ℕ) → IsTypedFrom m ty.params args before (at steps).log → (at steps).end ≢ Going → HasEndedIn m is p (at steps) last
  has_ended steps typed over =
      let plain = is_plain always in
      let same = sym (stays m f args before answers steps over (steps + plain.steps) (omega arith)) in
      comes_to_end always steps (same ∙ plain.is (steps + plain.steps) (omega arith))
    where
      always : (n : ℕ) → IsTypedFrom m ty.params args before (at n).log
      always n = record {
        state = typed.state;
        arguments = typed.arguments;
        answers = grown_all (λ (e : Event). TypedAnswer m e.func e.before e.answer) (at n).log (at steps).log (fronts m f args before answers steps over n) typed.answers;
      }

  -- ---- a run that is typed so far

  pub not_stuck : (steps : ℕ) → IsTypedFrom m ty.params args before (at steps).log → (at steps).end ≢ Stuck
  not_stuck steps typed q =
      let ended = has_ended steps typed (λ g. let bad : Stuck ≡ Going = sym q ∙ g in cc) in
      straight_not_stuck last ended.goes_straight (sym (ap (λ (o : Outcome). o.end) ended.outcome) ∙ q)

  -- its trace is a front of what is done in the end
  pub trace_front : (steps : ℕ) → IsTypedFrom m ty.params args before (at steps).log → Grows (trace_of m f args before answers steps) (world_in last).trace
  trace_front steps typed =
      let there = traced (at steps).log typed in
      elim (cases_lt steps there.steps) [
        | inl less ↦ grows_to there.trace (run_trace_more m f args before answers steps there.steps (omega (arith, less)))
        | inr more ↦ traces_grow m f args before answers extra last (straight_by (at steps).log typed (earlier there.steps (omega (arith, more)))) (runs_as (at steps).log typed) steps
      ]
    where
      earlier : (n : ℕ) → n ≤ steps → IsTypedFrom m ty.params args before (at n).log
      earlier n less = record {
        state = typed.state;
        arguments = typed.arguments;
        answers = grown_all (λ (e : Event). TypedAnswer m e.func e.before e.answer) (at n).log (at steps).log (run_log_more m f args before answers n steps less) typed.answers;
      }
