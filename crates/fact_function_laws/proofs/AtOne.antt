-- What is known of a run at one number of steps, at which it is over or has taken all its answers, is known at all: it has called a front of what
-- it has called there.
use Rattle.std.proofs.Common.{◌≡◌, ℕ, List, [], ◌∷◌, ◌++◌, refl, ap, ◌∙◌, subst, append_assoc, inl, inr}
use Rattle.fact_wasm.specs.declared.module.WasmModule.{WasmModule}
use Rattle.fact_wasm.specs.declared.types.ValType.{ValType}
use Rattle.fact_machine.specs.declared.types.Answer.{Answer}
use Rattle.fact_machine.specs.declared.types.CoreValue.{CoreValue}
use Rattle.fact_machine.specs.declared.types.Event.{Event}
use Rattle.fact_machine.specs.declared.types.MachineState.{MachineState}
use Rattle.fact_machine.specs.Machine.{run_of}
use Rattle.fact_machine.specs.Trace.{Grows}
use Rattle.fact_machine.specs.Typed.{TypedAnswer}
use Rattle.fact_types.specs.declared.import.Import.{Import}
use Rattle.fact_types.specs.Adapters.{LinkedAdapter}
use Rattle.fact_actions.specs.Adapters.{AdapterTunables}
use Rattle.fact_actions.specs.Honest.{AreHonest, AreHonestSync}
use Rattle.fact_actions.specs.Regions.{Position, landed, moved_on, params_landing, results_landing, sync_moved_on}
use Rattle.fact_actions.specs.Running.{ImportPlaces, Call}
use Rattle.fact_action_laws.specs.Faithful.{IsInLimits}
use Rattle.fact_action_laws.specs.PassingChecks.{PassChecks}
use Rattle.fact_compound.specs.AsyncParts.{part_type}
use Rattle.fact_compound.specs.declared.asyncs.AsyncPart.{AsyncPart}
use Rattle.fact_compound.specs.declared.asyncs.AsyncPart.TheVariants as part
use Rattle.fact_function_laws.specs.AsyncRuns.{AreHonestIn}
use Rattle.fact_function_laws.specs.Laws.{AnsweredAtOne, MakesNoMoreCalls, PartAnsweredAtOne, TypedAtOne}
use Rattle.fact_function_laws.specs.Names.{places_in, AreCalls}
use Rattle.fact_function_laws.specs.Runs.{HasCallsFrom, IsTypedFrom}
use Rattle.fact_function_laws.proofs.Fronts.{fronts, grown_all, taken_fronts}

-- ---- fronts of calls

record BeginCalls (m : WasmModule) (is : List Import) (log : List Event) (calls : List Call) : Type 0 where
  pub front : List Call
  pub behind : List Call
  pub calls_are : calls ≡ front ++ behind
  pub are_calls : AreCalls m is log front

begin_calls : (m : WasmModule) (is : List Import) (log more : List Event) (calls : List Call) → AreCalls m is (log ++ more) calls → BeginCalls m is log calls
begin_calls m is [] more calls h = record { front = []; behind = calls; calls_are = refl; are_calls = tt }
begin_calls m is (e ∷ log) more [] h = absurd h
begin_calls m is (e ∷ log) more (c ∷ calls) h = let b = begin_calls m is log more calls h.1 in record { front = c ∷ b.front; behind = b.behind; calls_are = ap (λ l. c ∷ l) b.calls_are; are_calls = (h.0, b.are_calls) }

honest_front : (p : ImportPlaces) (a : LinkedAdapter) (next : Call → Position → Position) (x : Position) (cs ds : List Call) → AreHonest p a next x (cs ++ ds) → AreHonest p a next x cs
honest_front p a next x [] ds h = tt
honest_front p a next x (c ∷ cs) ds h = (h.0, h.1, honest_front p a next (next c x) cs ds h.2)

honest_part_front : (x : AsyncPart) (p : ImportPlaces) (a : LinkedAdapter) (args : List CoreValue) (cs ds : List Call) → AreHonestIn x p a args (cs ++ ds) → AreHonestIn x p a args cs
honest_part_front part.Start p a args cs ds h = honest_front p a moved_on (landed (params_landing a)) cs ds h
honest_part_front part.Return p a args cs ds h = honest_front p a moved_on (landed (results_landing a args)) cs ds h

limits_front : (p : ImportPlaces) (a : LinkedAdapter) (args : List CoreValue) (first : MachineState) (cs ds : List Call) → IsInLimits p a args first (cs ++ ds) → IsInLimits p a args first cs
limits_front p a args first cs ds h = record {
  may_leave = h.may_leave;
  params = h.params;
  area = h.area;
  results = λ front callee behind e is. h.results front callee (behind ++ ds) (ap (λ l. l ++ ds) e ∙ append_assoc front (callee ∷ behind) ds) is;
}

checks_front : (u : AdapterTunables) (a : LinkedAdapter) (args : List CoreValue) (cs ds : List Call) → PassChecks u a args (cs ++ ds) → PassChecks u a args cs
checks_front u a args cs ds h = record {
  params = h.params;
  results = λ debug front callee behind e is. h.results debug front callee (behind ++ ds) (ap (λ l. l ++ ds) e ∙ append_assoc front (callee ∷ behind) ds) is;
}

-- ---- runs

module _ (m : WasmModule) (f : ℕ) (args : List CoreValue) (before : MachineState) (answers : List Answer) (last : ℕ) (no_more : MakesNoMoreCalls m f args before answers last) where
  begins_log : (steps : ℕ) → Grows (run_of m f args before answers steps).log (run_of m f args before answers last).log
  begins_log steps = elim no_more [ inl over ↦ fronts m f args before answers last over steps | inr all ↦ taken_fronts m f args before answers last all steps ]

  typed_always : (params : List ValType) → IsTypedFrom m params args before (run_of m f args before answers last).log → (steps : ℕ) → IsTypedFrom m params args before (run_of m f args before answers steps).log
  typed_always params typed steps = record {
    state = typed.state;
    arguments = typed.arguments;
    answers = grown_all (λ (e : Event). TypedAnswer m e.func e.before e.answer) (run_of m f args before answers steps).log (run_of m f args before answers last).log (begins_log steps) typed.answers;
  }

  module _ (is : List Import) (params : List ValType) (Honest : List Call → Type 0) (there : HasCallsFrom m is params Honest args before (run_of m f args before answers last).log) where
    so_far : (steps : ℕ) → BeginCalls m is (run_of m f args before answers steps).log there.calls
    so_far steps = let g = begins_log steps in begin_calls m is (run_of m f args before answers steps).log g.more there.calls (subst (λ l. AreCalls m is l there.calls) g.is there.are_calls)

    -- where what holds of calls holds of their fronts
    abbrev calls_always : ((cs ds : List Call) → Honest (cs ++ ds) → Honest cs) → (steps : ℕ) → HasCallsFrom m is params Honest args before (run_of m f args before answers steps).log
    calls_always front steps = record {
      typed = typed_always params there.typed steps;
      calls = (so_far steps).front;
      are_calls = (so_far steps).are_calls;
      honest = front (so_far steps).front (so_far steps).behind (subst Honest (so_far steps).calls_are there.honest);
    }

pub typed_at_one : TypedAtOne
typed_at_one m f params args before answers last no_more typed = typed_always m f args before answers last no_more params typed

pub answered_at_one : AnsweredAtOne
answered_at_one m is u a f args before answers last no_more there checks limits = record {
  honest = calls_always m f args before answers last no_more is a.lower.core_type.params (AreHonestSync (places_in m is) a args) there (honest_front (places_in m is) a (sync_moved_on a args) (landed (params_landing a)));
  checks = λ steps.
      let b = so_far m f args before answers last no_more is a.lower.core_type.params (AreHonestSync (places_in m is) a args) there steps in
      checks_front u a args b.front b.behind (subst (PassChecks u a args) b.calls_are checks);
  limits = λ steps.
      let b = so_far m f args before answers last no_more is a.lower.core_type.params (AreHonestSync (places_in m is) a args) there steps in
      limits_front (places_in m is) a args before b.front b.behind (subst (IsInLimits (places_in m is) a args before) b.calls_are limits);
}

pub part_answered_at_one : PartAnsweredAtOne
part_answered_at_one x m is a f args before answers last no_more there =
    calls_always m f args before answers last no_more is (part_type x a).params (AreHonestIn x (places_in m is) a args) there (honest_part_front x (places_in m is) a args)
