-- What a function that behaves does not do: call its callee twice, or anything for ever.
use Rattle.std.proofs.Common.{◌≡◌, Bool, true, false, List, [], ◌∷◌, ◌++◌, Some, refl, sym, ap, ◌∙◌, subst, arith, cond, filter, slice_get}
use Rattle.std.proofs.lemmas.List.Elements.{filter-append}
use Rattle.fact_wasm.specs.declared.module.WasmModule.{WasmModule}
use Rattle.fact_machine.specs.declared.types.Event.{Event}
use Rattle.fact_machine.specs.Machine.{run_of}
use Rattle.fact_types.specs.declared.import.Import.{Import}
use Rattle.fact_actions.specs.Calls.{is_call_of, is_import_of}
use Rattle.fact_actions.specs.Running.{Call}
use Rattle.fact_actions.proofs.OwnParts.{same_self}
use Rattle.fact_function_laws.specs.Laws.{NoSecondCall, RunsStayShort}
use Rattle.fact_function_laws.specs.Names.{AreCalls}
use Rattle.fact_function_laws.specs.Runs.{CallNoTrap, EndsSoon, is_trap_import}
use Rattle.fact_function_laws.proofs.Fronts.{fronts, grown_length, stays}
use Rattle.fact_function_laws.proofs.Outcomes.{over_not_going}

pub no_second_call : NoSecondCall
no_second_call p a args first calls given last h =
    let once = h.once in
    let is_callee = is_call_of a.callee in
    let here : is_callee once.callee ≡ true = ap (is_import_of a.callee) once.callee_is ∙ same_self a.callee in
    let one : filter is_callee (once.callee ∷ once.behind) ≡ once.callee ∷ [] = rw (here) (ap (λ l. once.callee ∷ l) once.none_behind) in
    let all : filter is_callee calls ≡ once.callee ∷ [] =
    ap (filter is_callee) once.calls_are ∙ filter-append is_callee once.before (once.callee ∷ once.behind) ∙ (λ k. once.none_before k ++ one k) in
    ap (λ l. slice_get l 1) all

-- the calls of a front of a log are of no trap where none of the log's is
front_no_trap : (m : WasmModule) (is : List Import) (log more : List Event) (cs ds : List Call) → AreCalls m is log cs → AreCalls m is (log ++ more) ds → CallNoTrap ds → CallNoTrap cs
front_no_trap m is [] more [] ds h g none = refl
front_no_trap m is [] more (c ∷ cs) ds h g none = absurd h
front_no_trap m is (e ∷ log) more [] ds h g none = absurd h
front_no_trap m is (e ∷ log) more (c ∷ cs) [] h g none = absurd g
front_no_trap m is (e ∷ log) more (c ∷ cs) (d ∷ ds) h g none =
    let both : Some c.what ≡ Some d.what = sym h.0.what ∙ g.0.what in
    let same : c.what ≡ d.what = cc in
    by (is_trap_import d.what) (ap is_trap_import same) (λ rest. front_no_trap m is log more cs ds h.1 g.1 rest) none
  where
    by : (b : Bool) → is_trap_import c.what ≡ b → (CallNoTrap ds → CallNoTrap cs) → cond b (d ∷ filter (λ (x : Call). is_trap_import x.what) ds) (filter (λ (x : Call). is_trap_import x.what) ds) ≡ [] → CallNoTrap (c ∷ cs)
    by true e front none = cc
    by false e front none = rw (e) (front none)

pub runs_stay_short : RunsStayShort
runs_stay_short m is u a f args before answers h given =
    let ends = h.comes_to_end args before answers given.honest given.checks given.limits in
    let soon : EndsSoon m is a args before (run_of m f args before answers ends.0) = ends.1 in
    let over = over_not_going (run_of m f args before answers ends.0).end soon.over in
    record {
      last = ends.0;
      over = soon.over;
      stays = stays m f args before answers ends.0 over;
      calls = soon.calls;
      are_calls = soon.are_calls;
      no_trap = λ steps so_far are.
          let grows = fronts m f args before answers ends.0 over steps in
          let honest = given.honest ends.0 in
          front_no_trap m is (run_of m f args before answers steps).log grows.more so_far honest.calls are (subst (λ log. AreCalls m is log honest.calls) grows.is honest.are_calls) (h.calls_no_trap args before answers ends.0 honest soon.over);
      few_calls = λ steps. omega (arith, soon.few, grown_length _ _ (fronts m f args before answers ends.0 over steps));
    }
