-- A run whose answers are honest up to its end, and whose values exist within limits, is so at each number of steps.
use Rattle.std.proofs.Common.{◌≡◌, ◌≢◌, ℕ, List, [], ◌∷◌, ◌++◌, refl, sym, ap, ◌∙◌, subst, append_assoc}
use Rattle.std.specs.List.{AllByRecursion}
use Rattle.fact_wasm.specs.declared.module.WasmModule.{WasmModule}
use Rattle.fact_machine.specs.declared.types.Answer.{Answer}
use Rattle.fact_machine.specs.declared.types.CoreValue.{CoreValue}
use Rattle.fact_machine.specs.declared.types.End.TheVariants.{Going}
use Rattle.fact_machine.specs.declared.types.Event.{Event}
use Rattle.fact_machine.specs.declared.types.MachineState.{MachineState}
use Rattle.fact_machine.specs.declared.types.Outcome.{Outcome}
use Rattle.fact_machine.specs.Machine.{run_of}
use Rattle.fact_machine.specs.Trace.{Grows}
use Rattle.fact_machine.specs.Typed.{TypedAnswer}
use Rattle.fact_types.specs.declared.import.Import.{Import}
use Rattle.fact_types.specs.Adapters.{LinkedAdapter}
use Rattle.fact_actions.specs.Honest.{AreHonestSync}
use Rattle.fact_actions.specs.Regions.{landed, params_landing, sync_moved_on}
use Rattle.fact_actions.specs.Running.{ImportPlaces, Call}
use Rattle.fact_action_laws.specs.Faithful.{IsInLimits}
use Rattle.fact_action_laws.proofs.Apart.{honest_apart}
use Rattle.fact_function_laws.specs.Names.{places_in, AreCalls}
use Rattle.fact_function_laws.specs.Runs.{IsHonestSoFar}
use Rattle.fact_function_laws.proofs.Fronts.{fronts, grown_all}

-- what holds of all calls holds of one in their middle
pub in_middle : (P : Call → Type 0) (before : List Call) (c : Call) (behind : List Call) → AllByRecursion P (before ++ (c ∷ behind)) → P c
in_middle P [] c behind h = h.0
in_middle P (x ∷ before) c behind h = in_middle P before c behind h.1

module _ (m : WasmModule) (is : List Import) (a : LinkedAdapter) (args : List CoreValue) (before : MachineState) where
  abbrev p : ImportPlaces
  p = places_in m is

  -- the calls of a front of a log
  record FrontCalls (log : List Event) (calls : List Call) : Type 0 where
    pub front : List Call
    pub behind : List Call
    pub calls_are : calls ≡ front ++ behind
    pub are_calls : AreCalls m is log front

  front_calls : (log more : List Event) (calls : List Call) → AreCalls m is (log ++ more) calls → FrontCalls log calls
  front_calls [] more calls h = record { front = []; behind = calls; calls_are = refl; are_calls = tt }
  front_calls (e ∷ log) more [] h = absurd h
  front_calls (e ∷ log) more (c ∷ calls) h =
      let rest = front_calls log more calls h.1 in
      record { front = c ∷ rest.front; behind = rest.behind; calls_are = ap (λ cs. c ∷ cs) rest.calls_are; are_calls = (h.0, rest.are_calls) }

  front_limits : (calls front behind : List Call) → calls ≡ front ++ behind → IsInLimits p a args before calls → IsInLimits p a args before front
  front_limits calls front behind e h = record {
    may_leave = h.may_leave;
    params = h.params;
    area = h.area;
    results = λ earlier callee later is what. h.results earlier callee (later ++ behind) (e ∙ ap (λ cs. cs ++ behind) is ∙ append_assoc earlier (callee ∷ later) behind) what;
  }

  -- an honest run with this log, within limits
  abbrev pub IsFine : List Event → Type 0
  IsFine log = (h : IsHonestSoFar m is a args before log) × IsInLimits p a args before h.calls

  front_fine : (xs ys : List Event) → Grows xs ys → IsFine ys → IsFine xs
  front_fine xs ys g fine =
      let h : IsHonestSoFar m is a args before ys = fine.0 in
      let f = front_calls xs g.more h.calls (subst (λ log. AreCalls m is log h.calls) g.is h.are_calls) in
      let two = honest_apart p a (sync_moved_on a args) (landed (params_landing a)) f.front f.behind (subst (AreHonestSync p a args) f.calls_are h.honest) in (
        record {
          typed = record { state = h.typed.state; arguments = h.typed.arguments; answers = grown_all (λ (e : Event). TypedAnswer m e.func e.before e.answer) xs ys g h.typed.answers };
          calls = f.front;
          are_calls = f.are_calls;
          honest = two.0;
        },
        front_limits h.calls f.front f.behind f.calls_are fine.1,
      )

  pub fine_run : (f : ℕ) (answers : List Answer) (last : ℕ) (o : Outcome) → run_of m f args before answers last ≡ o → o.end ≢ Going → IsFine o.log
      → (steps : ℕ) → IsFine (run_of m f args before answers steps).log
  fine_run f answers last o e over h steps =
      let going : (run_of m f args before answers last).end ≢ Going = λ q. over (sym (ap (λ (o : Outcome). o.end) e) ∙ q) in
      let there : IsFine (run_of m f args before answers last).log = subst (λ (o : Outcome). IsFine o.log) (sym e) h in
      front_fine _ _ (fronts m f args before answers last going steps) there
