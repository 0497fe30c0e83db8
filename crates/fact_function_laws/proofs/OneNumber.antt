-- The worked module of one u32: its run is computed, and all that is asked of it holds.
use Rattle.std.proofs.Common.{◌≡◌, ℕ, false, true, List, [], ◌∷◌, refl, sym, ap, subst, arith}
use Rattle.std.specs.Fmt.{digits}
use Rattle.std.specs.List.{AllByRecursion}
use Rattle.std.proofs.lemmas.Bool.{leb-true}
use Rattle.std.proofs.lemmas.List.Elements.{All-from_recursion}
use Rattle.fact_wasm.specs.declared.instr.Instr.TheVariants as I
use Rattle.fact_machine.specs.declared.types.Answer.TheVariants.{Returns}
use Rattle.fact_machine.specs.declared.types.End.TheVariants.{Returned, Going}
use Rattle.fact_machine.specs.declared.types.Event.{Event}
use Rattle.fact_machine.specs.declared.types.Outcome.{Outcome}
use Rattle.fact_machine.specs.Machine.{run_of}
use Rattle.fact_machine.specs.Typed.{TypedAnswer}
use Rattle.fact_machine.proofs.TypedTests.{answer_decided, state_decided, values_decided}
use Rattle.fact_types.specs.declared.import.Import.TheVariants as known
use Rattle.fact_values.specs.Lift.{bits_of, lift_leading}
use Rattle.fact_values.specs.Limits.{AreWithinLimits}
use Rattle.fact_values.specs.UpperHalves.{IsNarrowThroughout}
use Rattle.fact_values.specs.Weight.{weight, weight_members}
use Rattle.fact_actions.specs.Adapters.{AdapterTunables}
use Rattle.fact_actions.specs.Honest.{AreHonestSync}
use Rattle.fact_actions.specs.Running.{ImportPlaces, Call}
use Rattle.fact_action_laws.specs.Faithful.{IsInLimits, ResultsAreThere, whole_weight}
use Rattle.fact_action_laws.specs.PassingChecks.{PassChecks}
use Rattle.fact_emit.specs.ImportSection.{Flags, Callee, NamesImports}
use Rattle.fact_function_laws.specs.Names.{places_in, AreCalls}
use Rattle.fact_function_laws.specs.Runs.{IsHonestSoFar}
use Rattle.fact_function_laws.specs.Worked.{OneNumberArrives, takes_i32, u32_adapter, u32_answers, u32_args, u32_calls, u32_imports, u32_module, u32_state}
use Rattle.fact_function_laws.proofs.FineRuns.{IsFine, fine_run, in_middle}
use Rattle.fact_function_laws.proofs.NamedImports.{imports_apart, no_start_calls, transcoders_named, types_apart}

abbrev p : ImportPlaces
p = places_in u32_module u32_imports

-- ---- the run

ruleset rows = (I.outs-Block, I.outs-BrIf, I.outs-Call, I.outs-GlobalGet, I.outs-GlobalSet, I.outs-LocalGet, I.outs-LocalSet, I.outs-LocalTee, I.outs-I32Const)

abbrev event : Event
event = record { func = 0; args = u32_args; before = u32_state; answer = Returns [] u32_state }

abbrev returned : Outcome
returned = record { end = Returned []; state = u32_state; log = event ∷ [] }

ran : run_of u32_module 0 u32_args u32_state u32_answers 16 ≡ returned
ran = simp rows

goes_on : (run_of u32_module 0 u32_args u32_state u32_answers 15).end ≡ Going
goes_on = simp rows

-- ---- honest, within limits, and as debug checks ask

are_honest : AreHonestSync p u32_adapter u32_args u32_calls
are_honest = (tt, (λ e. let bad : false ≡ true = e in cc, λ e. let bad : false ≡ true = e in cc), tt)

abbrev honest : IsHonestSoFar u32_module u32_imports u32_adapter u32_args u32_state (event ∷ [])
honest = record {
  typed = record {
    state = (state_decided u32_module u32_state).0 refl;
    arguments = (values_decided u32_args takes_i32.params).0 refl;
    answers = All-from_recursion (λ (e : Event). TypedAnswer u32_module e.func e.before e.answer) (event ∷ []) ((answer_decided u32_module 0 u32_state (Returns [] u32_state)).0 refl, tt);
  };
  calls = u32_calls;
  are_calls = (record { what = refl; args = refl; before = refl; answer = refl }, tt);
  honest = are_honest;
}

-- the callee gives nothing
abbrev IsThere : Call → Type 0
IsThere c = c.what ≡ known.CoreDef u32_adapter.callee → ResultsAreThere p u32_adapter c

limits : IsInLimits p u32_adapter u32_args u32_state u32_calls
unfolding lift_leading AreWithinLimits
limits = record {
  may_leave = λ e. let bad : 1 ≡ 0 = ap bits_of e in omega (arith, bad);
  params = record { values = _; there = refl; bounds = (tt, tt) };
  area = tt;
  results = λ before c behind e. in_middle IsThere before c behind (subst (AllByRecursion IsThere) e (λ what. record { values = []; there = refl; bounds = tt }, tt));
}

checks : (u : AdapterTunables) (calls : List Call) → PassChecks u u32_adapter u32_args calls
unfolding IsNarrowThroughout
checks u calls = record { params = λ debug. ((refl, tt), tt); results = λ debug before callee behind e what. tt }

weighs : whole_weight p u32_adapter u32_args u32_state u32_calls ≡ 1
unfolding lift_leading weight weight_members
weighs = refl

-- ---- names

names : NamesImports u32_module u32_imports (u32_adapter ∷ [])
unfolding digits
names = record {
  defs = refl;
  named = (
    (Flags 1, (0, leb-true 1 3 refl, refl), refl),
    ((Flags 0, (1, leb-true 2 3 refl, refl), refl), ((Callee u32_adapter.name takes_i32, (2, leb-true 3 3 refl, refl), record { is_from = refl; is_named = refl; is_typed = refl }), (record { is_from = refl; is_named = refl; is_typed = refl }, tt))),
  );
  transcoders = transcoders_named u32_module.types u32_module.imports u32_imports (tt, (tt, (tt, (tt, tt))));
  task_calls = record { starts = no_start_calls u32_module.types (u32_adapter ∷ []) u32_module.imports u32_imports (tt, (tt, (tt, (tt, tt)))) (refl, tt); prepares = tt };
  once = imports_apart u32_imports refl;
  signatures = types_apart u32_module.types refl;
}

-- ---- the whole

fine : (steps : ℕ) → IsFine u32_module u32_imports u32_adapter u32_args u32_state (run_of u32_module 0 u32_args u32_state u32_answers steps).log
fine = fine_run u32_module u32_imports u32_adapter u32_args u32_state 0 u32_answers 16 returned ran (λ e. let bad : Returned [] ≡ Going = e in cc) (honest, limits)

pub one_number_arrives : OneNumberArrives
one_number_arrives = record {
  names = names;
  honest = λ steps. (fine steps).0;
  checks = λ u steps. checks u (fine steps).0.calls;
  limits = λ steps. (fine steps).1;
  going = goes_on;
  returned = ap (λ (x : Outcome). x.end) ran;
  are_calls = subst (λ (x : Outcome). AreCalls u32_module u32_imports x.log u32_calls) (sym ran) honest.are_calls;
  weighs = weighs;
  bound = leb-true 16 2000 refl;
}
