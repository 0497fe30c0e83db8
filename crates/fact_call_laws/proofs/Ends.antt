-- A run whose answers are all honest is over where it does not go on, and its values weigh as much as values that fit may.
use Rattle.std.proofs.Common.{◌≡◌, ◌≢◌, ℕ, ◌<◌, ◌≤◌, ◌⊎◌, Bool, true, false, cond, List, [], ◌∷◌, ◌++◌, Option, Some, inl, inr, refl, sym, ap, ◌∙◌, subst, arith, length, append-nil, append_assoc}
use Rattle.std.specs.Cmp.{second_so}
use Rattle.std.proofs.lemmas.Bool.{cases_lt, leb-true, true≢false}
use Rattle.fact_wasm.specs.declared.module.WasmModule.{WasmModule}
use Rattle.fact_types.specs.declared.outside.CoreDef.{CoreDef}
use Rattle.fact_types.specs.declared.import.Import.{Import}
use Rattle.fact_types.specs.declared.import.Import.TheVariants as import
use Rattle.fact_types.specs.Shapes.{Shape}
use Rattle.fact_types.specs.Tuples.{tuple_members}
use Rattle.fact_machine.specs.declared.types.End.TheVariants.{Going}
use Rattle.fact_machine.specs.declared.types.Event.{Event}
use Rattle.fact_machine.specs.declared.types.Outcome.{Outcome}
use Rattle.fact_machine.specs.Causes.{answers_of}
use Rattle.fact_machine.specs.Machine.{run_of}
use Rattle.fact_values.specs.declared.value.Value.{Value}
use Rattle.fact_values.specs.Weight.{weight_members}
use Rattle.fact_actions.specs.Calls.{is_call_of, is_import_of}
use Rattle.fact_actions.specs.Honest.{AreHonestSync}
use Rattle.fact_actions.specs.Running.{Call}
use Rattle.fact_action_laws.specs.Faithful.{answered_weight, params_given, results_answered, weight_of_values, whole_weight}
use Rattle.fact_action_laws.specs.PassingChecks.{PassChecks}
use Rattle.fact_lowering.specs.Room.{fits}
use Rattle.fact_host.specs.declared.known.Known.{Known}
use Rattle.fact_host.specs.declared.calling.HostCall.{HostCall}
use Rattle.fact_host.specs.declared.roles.Role.{Role}
use Rattle.fact_host.specs.Hosts.{AreAnswersUntil}
use Rattle.fact_host.specs.Rules.{AreAnswers, CallShapes}
use Rattle.fact_function_laws.specs.Laws.{IsAnsweredInLimits, StaysShort}
use Rattle.fact_function_laws.specs.Names.{AreCalls}
use Rattle.fact_function_laws.specs.Runs.{IsHonestSoFar, IsOver}
use Rattle.fact_function_laws.proofs.AtOne.{answered_at_one}
use Rattle.fact_function_laws.proofs.FewCalls.{runs_stay_short}
use Rattle.fact_function_laws.proofs.Fronts.{stays, taken_fronts}
use Rattle.fact_call_laws.proofs.Given.{given_is}
use Rattle.fact_call_laws.proofs.Setting.{Called, Named, Setting, are_calls, calls, lift_results_are, log, lower_params_are, places, run, run_is, typed}
use Rattle.fact_call_laws.proofs.Steps.{same_exact}
use Rattle.fact_call_laws.proofs.Within.{in_limits, results_are}

-- all events of a log are answered by the rules until some knowledge
pub all_until : (Named : ℕ → Role → Type 0) (c : HostCall) (s : CallShapes) (answered : Option (List Value)) (k : Known) (events : List Event) → AreAnswers Named c s answered k events → (last : Known) × AreAnswersUntil Named c s answered k events last
all_until Named c s answered k [] h = (k, refl)
all_until Named c s answered k (e ∷ es) h = let r = all_until Named c s answered h.2 es h.4 in (r.0, (h.0, h.1, h.2, h.3, r.1))

-- values that fit weigh at most so much
weight_fits : (ts us : List Shape) (vs : List Value) → fits ts us vs ≡ true → weight_members (tuple_members ts) vs ≤ 1000000
weight_fits ts us vs e = leb-true (weight_members (tuple_members ts) vs) 1000000 (second_so _ _ (second_so _ _ e))

-- the calls of a front of a log are a front of its calls
front_calls : (m : WasmModule) (is : List Import) (log more : List Event) (cs all : List Call) → AreCalls m is log cs → AreCalls m is (log ++ more) all → (ds : List Call) × (all ≡ cs ++ ds)
front_calls m is [] more [] all h g = (all, refl)
front_calls m is [] more (c ∷ cs) all h g = absurd h
front_calls m is (e ∷ log) more [] all h g = absurd h
front_calls m is (e ∷ log) more (c ∷ cs) [] h g = absurd g
front_calls m is (e ∷ log) more (c ∷ cs) (d ∷ all) h g =
    let both : Some d.what ≡ Some c.what = sym g.0.what ∙ h.0.what in
    let what : d.what ≡ c.what = cc in
    let one : d ≡ c = λ k. record { what = what k; args = (g.0.args ∙ sym h.0.args) k; before = (g.0.before ∙ sym h.0.before) k; answer = (g.0.answer ∙ sym h.0.answer) k } in
    let rest = front_calls m is log more cs all h.1 g.1 in
    (rest.0, λ k. one k ∷ rest.1 k)

-- a call that is the callee's is a call of it
is_callee : (f : CoreDef) (i : Import) → is_import_of f i ≡ true → i ≡ import.CoreDef f
is_callee f (import.CoreDef d) h = ap import.CoreDef (sym (same_exact f d h))
is_callee f i h = absurd (true≢false (sym h))

module _ (x : Setting) (h : Called x) (whole : AreHonestSync (places x) x.adapter h.outcome.args (calls x)) where
  ruled : (last : Known) × AreAnswersUntil (Named x) x.call x.shapes (Some x.answered) h.outcome.known (log x) last
  ruled = all_until (Named x) x.call x.shapes (Some x.answered) h.outcome.known (log x) h.outcome.ruled

  -- ---- weights

  params_light : weight_of_values x.adapter.lower.params (params_given (places x) x.adapter h.outcome.args h.outcome.first) ≤ 1000000
  params_light =
      let light = weight_fits x.shapes.lower_params x.shapes.lift_params x.values h.suited.1 in
      omega (arith, light, ap (weight_of_values x.adapter.lower.params) (given_is x h), ap (λ ts. weight_members (tuple_members ts) x.values) (lower_params_are x h))

  answered_light : (cs ds front : List Call) → calls x ≡ front ++ (cs ++ ds) → answered_weight (places x) x.adapter cs ≤ 1000000
  answered_light [] ds front e = omega arith
  answered_light (c ∷ cs) ds front e = by (is_call_of x.adapter.callee c) refl (answered_light cs ds (front ++ c ∷ []) (e ∙ sym (append_assoc front (c ∷ []) (cs ++ ds))))
    where
      here : is_call_of x.adapter.callee c ≡ true → weight_of_values x.adapter.lift.results (results_answered (places x) x.adapter c) ≤ 1000000
      here is =
          let are = results_are x h (log x) [] ruled.0 (sym (append-nil (log x))) ruled.1 whole front c (cs ++ ds) e (is_callee x.adapter.callee c.what is) in
          let light = weight_fits x.shapes.lift_results x.shapes.lower_results x.answered h.answer_fits in
          omega (arith, light, ap (weight_of_values x.adapter.lift.results) are, ap (λ ts. weight_members (tuple_members ts) x.answered) (lift_results_are x h))

      by : (b : Bool) → is_call_of x.adapter.callee c ≡ b → answered_weight (places x) x.adapter cs ≤ 1000000 → cond b (weight_of_values x.adapter.lift.results (results_answered (places x) x.adapter c)) (answered_weight (places x) x.adapter cs) ≤ 1000000
      by true is more = here is
      by false is more = more

  -- ---- the run

  abbrev pub after : ℕ → Outcome
  after steps = run_of x.code x.function h.outcome.args h.outcome.first (answers_of (log x)) steps

  taken : answers_of (run x h).log ≡ answers_of (log x)
  taken = ap (λ (o : Outcome). answers_of o.log) (sym (run_is x h))

  abbrev honest_run : IsHonestSoFar x.code x.imports x.adapter h.outcome.args h.outcome.first (run x h).log
  honest_run = record { typed = typed x h; calls = calls x; are_calls = are_calls x h; honest = whole }

  -- after any number of steps the values weigh as much as values that fit may
  pub light : (steps : ℕ) (cs : List Call) → AreCalls x.code x.imports (after steps).log cs → whole_weight (places x) x.adapter h.outcome.args h.outcome.first cs ≤ 2000000
  light steps cs are =
      let g = taken_fronts x.code x.function h.outcome.args h.outcome.first (answers_of (log x)) x.steps taken steps in
      let f = front_calls x.code x.imports (after steps).log g.more cs (calls x) are (subst (λ l. AreCalls x.code x.imports l (calls x)) g.is (are_calls x h)) in
      omega (arith, params_light, answered_light cs f.0 [] f.1)

  checks : PassChecks x.tunables x.adapter h.outcome.args (calls x)
  checks = record {
    params = λ debug. absurd (true≢false (sym debug ∙ h.promised.no_debug));
    results = λ debug. absurd (true≢false (sym debug ∙ h.promised.no_debug));
  }

  pub answered : IsAnsweredInLimits x.code x.imports x.tunables x.adapter x.function h.outcome.args h.outcome.first (answers_of (log x))
  answered =
      answered_at_one x.code x.imports x.tunables x.adapter x.function h.outcome.args h.outcome.first (answers_of (log x)) x.steps (inr taken) honest_run checks (in_limits x h (log x) [] ruled.0 (sym (append-nil (log x))) ruled.1 whole)

  short : StaysShort x.code x.imports x.adapter x.function h.outcome.args h.outcome.first (answers_of (log x))
  short = runs_stay_short x.code x.imports x.tunables x.adapter x.function h.outcome.args h.outcome.first (answers_of (log x)) h.promised.behaves answered

  -- where it does not go on it is over
  pub ended : (run x h).end ≢ Going → IsOver (run x h).end
  ended stopped = by (cases_lt x.steps short.last)
    where
      by : (x.steps < short.last) ⊎ (short.last ≤ x.steps) → IsOver (run x h).end
      by (inr le) = subst (λ (o : Outcome). IsOver o.end) (sym (short.stays x.steps le)) short.over
      by (inl lt) = subst (λ (o : Outcome). IsOver o.end) (stays x.code x.function h.outcome.args h.outcome.first (answers_of (log x)) x.steps stopped short.last (omega (arith, lt))) short.over

  -- it made no more calls than its values account for
  pub few : length (log x) ≤ 60000030
  few =
      let made = short.few_calls x.steps in
      let weight = light short.last short.calls short.are_calls in
      omega (arith, made, weight, ap (λ (o : Outcome). length o.log) (run_is x h))
