-- A run that returned, all of whose answers are honest, carried the arguments and the results, with the numbers that the host's transfers answered.
use Rattle.std.proofs.Common.{◌≡◌, ℕ, suc, ◌+◌, inl, inr, Bool, true, false, List, [], ◌∷◌, ◌++◌, Option, Some, None, refl, sym, ap, ◌∙◌, subst, arith, cond, filter, length}
use Rattle.std.specs.Prelude.{option_map}
use Rattle.std.proofs.lemmas.Bool.{eq-eqb, true≢false}
use Rattle.std.proofs.lemmas.Bool.Decides.{eqb_tells}
use Rattle.fact_types.specs.declared.import.Import.TheVariants as import
use Rattle.fact_types.specs.Shapes.{Shape}
use Rattle.fact_types.specs.Tuples.{tuple_members}
use Rattle.fact_types.proofs.ShapeLaws.{same_some}
use Rattle.fact_machine.specs.declared.types.Answer.TheVariants.{Returns}
use Rattle.fact_machine.specs.declared.types.CoreValue.{CoreValue}
use Rattle.fact_machine.specs.declared.types.End.TheVariants.{Returned}
use Rattle.fact_machine.specs.declared.types.Event.{Event}
use Rattle.fact_machine.specs.declared.types.MachineState.{MachineState}
use Rattle.fact_machine.specs.declared.types.Outcome.{Outcome}
use Rattle.fact_machine.specs.Causes.{answers_of}
use Rattle.fact_values.specs.declared.value.Value.{Value}
use Rattle.fact_values.specs.Carry.{take_number}
use Rattle.fact_values.specs.Handles.{cross_places}
use Rattle.fact_values.specs.Tuples.{lift_param_values, lift_result_values, lower_result_values, sync_lower_results}
use Rattle.fact_actions.specs.Calls.{is_call_of, results, side_memory, state_after}
use Rattle.fact_actions.specs.Honest.{AreHonest, AreHonestSync}
use Rattle.fact_actions.specs.Running.{Call}
use Rattle.fact_actions.specs.Sides.{options_of, side_abi}
use Rattle.fact_actions.proofs.OwnParts.{same_self}
use Rattle.fact_action_laws.specs.Faithful.{IsFaithful, all_handles}
use Rattle.fact_action_laws.specs.Items.{crossings, numbers}
use Rattle.fact_host.specs.declared.calling.HostCall.{HostCall}
use Rattle.fact_host.specs.declared.known.Known.{Known}
use Rattle.fact_host.specs.declared.roles.Role.{Role}
use Rattle.fact_host.specs.Called.{called_params, called_results, handle_count, numbers_from}
use Rattle.fact_host.specs.Contract.{first_call, params_reached, results_reached}
use Rattle.fact_host.specs.Describes.{named_calls}
use Rattle.fact_host.specs.Hosts.{AreAnswersUntil}
use Rattle.fact_host.specs.Rules.{AreAnswers, CallShapes, side_bytes}
use Rattle.fact_lowering.specs.Room.{room}
use Rattle.fact_emit.specs.ImportSection.{a_function}
use Rattle.fact_function_laws.specs.Runs.{IsHonestSoFar}
use Rattle.fact_call_laws.specs.Carrying.{CallHasCarried}
use Rattle.fact_call_laws.proofs.Back.{lifts_so}
use Rattle.fact_call_laws.proofs.Bridge.{core_is, is_what, stands_so}
use Rattle.fact_call_laws.proofs.CarriedTypes.{given_typed, got_typed}
use Rattle.fact_call_laws.proofs.Given.{abi_is, given_is, passed_so, side_is}
use Rattle.fact_call_laws.proofs.Numbers.{Numbered, numbered, stored_transfers}
use Rattle.fact_call_laws.proofs.Places.{CalleeDid, HonestParts, Parts, Ruled, callee_did, honest_parts, parts, ruled_parts}
use Rattle.fact_call_laws.proofs.Positions.{Answered, answered_so}
use Rattle.fact_call_laws.proofs.Setting.{Called, Named, Setting, are_calls, calls, described, is_import, lift_params_are, lift_results_are, log, lower_params_are, lower_results_are, names, places, run, run_is, typed}
use Rattle.fact_call_laws.proofs.Standing.{apart, placed}
use Rattle.fact_call_laws.proofs.Steps.{call_by}
use Rattle.fact_call_laws.proofs.Trapped.{map_on, next, start}

-- ---- carried values

abbrev carried_by : (ps qs : List Shape) → List Value → List ℕ → Option (List Value)
carried_by ps qs vs ns = option_map (λ r. r.0) (cross_places take_number (tuple_members ps) vs (tuple_members qs) ns)

carried_so : (ps ps' qs qs' : List Shape) (vs vs' : List Value) (ns ns' : List ℕ) (outs : List Value) → ps ≡ ps' → qs ≡ qs' → vs ≡ vs' → ns ≡ ns' → cross_places take_number (tuple_members ps) vs (tuple_members qs) ns ≡ Some (outs, []) → carried_by ps' qs' vs' ns' ≡ Some outs
carried_so ps ps' qs qs' vs vs' ns ns' outs e f g k h =
    sym (ap (λ z. carried_by z qs vs ns) e ∙ ap (λ z. carried_by ps' z vs ns) f ∙ ap (λ z. carried_by ps' qs' z ns) g ∙ ap (λ z. carried_by ps' qs' vs' z) k) ∙ ap (option_map (λ r. r.0)) h

handles_so : (ps ps' qs qs' : List Shape) (vs vs' : List Value) → ps ≡ ps' → qs ≡ qs' → vs ≡ vs' → length (all_handles ps qs vs) ≡ handle_count ps' qs' vs'
handles_so ps ps' qs qs' vs vs' e f g = ap (λ z. length (all_handles z qs vs)) e ∙ ap (λ z. length (all_handles ps' z vs)) f ∙ ap (λ z. length (all_handles ps' qs' z)) g

-- ---- the first call of a function

abbrev NoneCalls : ℕ → List Event → Type 0
NoneCalls n [] = Unit {0}
NoneCalls n (e ∷ es) = (e.func ≡ n → ⊥) × NoneCalls n es

first_found : (n : ℕ) (front : List Event) (e : Event) (behind : List Event) → NoneCalls n front → e.func ≡ n → first_call n (front ++ (e ∷ behind)) ≡ Some e
first_found n [] e behind none is = ap (λ b. cond b (Some e) (first_call n behind)) (eq-eqb n e.func (sym is))
first_found n (v ∷ front) e behind none is = elim (eqb_tells n v.func) [
  | inl same ↦ absurd (none.0 (sym same.1))
  | inr other ↦ ap (λ b. cond b (Some v) (first_call n (front ++ (e ∷ behind)))) other.0 ∙ first_found n front e behind none.1 is
]

-- what is known at the end of events that are answered by the rules
ends_known : (Named : ℕ → Role → Type 0) (c : HostCall) (s : CallShapes) (answered : Option (List Value)) (k : Known) (log : List Event) → AreAnswers Named c s answered k log → (last : Known) × AreAnswersUntil Named c s answered k log last
ends_known Named c s answered k [] h = (k, refl)
ends_known Named c s answered k (e ∷ es) h = let r = ends_known Named c s answered h.2 es h.4 in (r.0, (h.0, h.1, h.2, h.3, r.1))

-- What came of a call at the end of its run.
pub record Came (x : Setting) (h : Called x) : Type 0 where
  pub params : x.outcome.params ≡ params_reached x.call x.shapes (log x)
  pub results : x.outcome.results ≡ results_reached x.call x.shapes h.outcome.args x.outcome.outcome.end x.outcome.outcome.state

module _ (x : Setting) (h : Called x) (whole : AreHonestSync (places x) x.adapter h.outcome.args (calls x)) (values : List CoreValue) (returned : (run x h).end ≡ Returned values) where
  abbrev honest_run : IsHonestSoFar x.code x.imports x.adapter h.outcome.args h.outcome.first (run x h).log
  honest_run = record { typed = typed x h; calls = calls x; are_calls = are_calls x h; honest = whole }

  faithful : IsFaithful (places x) x.adapter h.outcome.args h.outcome.first (calls x) values (run x h).state
  faithful = h.promised.behaves.is_faithful h.outcome.args h.outcome.first (answers_of (log x)) x.steps values honest_run returned

  -- ---- the callee's call

  abbrev call_of : Event → Call
  call_of e = call_by (names x e.func) e.args e.before e.answer

  split : Parts call_of (log x) faithful.once.before faithful.once.callee faithful.once.behind
  split = parts call_of (log x) faithful.once.before faithful.once.callee faithful.once.behind faithful.once.calls_are

  last : (last : Known) × AreAnswersUntil (Named x) x.call x.shapes (Some x.answered) h.outcome.known (log x) last
  last = ends_known (Named x) x.call x.shapes (Some x.answered) h.outcome.known (log x) h.outcome.ruled

  ruled : Ruled (Named x) x.call x.shapes (Some x.answered) h.outcome.known last.0 split.front split.middle split.behind
  ruled = ruled_parts (Named x) x.call x.shapes (Some x.answered) h.outcome.known last.0 split.front split.middle split.behind (subst (λ l. AreAnswersUntil (Named x) x.call x.shapes (Some x.answered) h.outcome.known l last.0) split.is last.1)

  honest : HonestParts (places x) x.adapter (next x h) (start x h) (named_calls (names x) split.front) (call_of split.middle) (named_calls (names x) split.behind)
  honest =
      honest_parts (places x) x.adapter (next x h) (start x h) (named_calls (names x) split.front) (call_of split.middle) (named_calls (names x) split.behind)
      (subst (AreHonest (places x) x.adapter (next x h) (start x h)) (ap (named_calls (names x)) split.is ∙ map_on call_of split.front (split.middle ∷ split.behind)) whole)

  what : names x split.middle.func ≡ import.CoreDef x.adapter.callee
  what = ap (λ (c : Call). c.what) split.middle_is ∙ faithful.once.callee_is

  one : Answered x.code x.types x.call (places x) x.adapter (names x) (described x h) h.callable.once h.outcome.args x.shapes (Some x.answered) ruled.known ruled.known_behind split.middle
  one = answered_so x.code x.types x.call (places x) x.adapter (names x) (described x h) h.callable.once h.outcome.args x.shapes (Some x.answered) (Named x) (is_import x h) ruled.known ruled.known_behind split.middle ruled.role ruled.named ruled.rule honest.returned

  did : CalleeDid x.code x.types x.call (places x) x.adapter (names x) (described x h) h.callable.once h.outcome.args x.shapes (Some x.answered) (Named x) (is_import x h) ruled.known ruled.known_behind split.middle one
  did = callee_did x.code x.types x.call (places x) x.adapter (names x) (described x h) h.callable.once h.outcome.args x.shapes (Some x.answered) (Named x) (is_import x h) ruled.known ruled.known_behind split.middle one what

  callee_is : faithful.once.callee ≡ call_by (names x split.middle.func) split.middle.args split.middle.before (Returns one.results one.after)
  callee_is = sym split.middle_is ∙ ap (λ z. call_by (names x split.middle.func) split.middle.args split.middle.before z) one.answer

  -- ---- numbers

  before_numbers : Numbered x.call (places x) x.adapter x.shapes (Some x.answered) (names x) (Named x) (is_import x h) h.outcome.known ruled.known (named_calls (names x) split.front)
  before_numbers = numbered x.call (places x) x.adapter x.shapes (Some x.answered) (names x) (Named x) (is_import x h) (next x h) h.outcome.known ruled.known (start x h) split.front ruled.front_ruled honest.front_honest

  behind_numbers : Numbered x.call (places x) x.adapter x.shapes (Some x.answered) (names x) (Named x) (is_import x h) ruled.known_behind last.0 (named_calls (names x) split.behind)
  behind_numbers = numbered x.call (places x) x.adapter x.shapes (Some x.answered) (names x) (Named x) (is_import x h) (next x h) ruled.known_behind last.0 _ split.behind ruled.behind_ruled honest.behind_honest

  -- ---- parameters

  params_are : faithful.params.values ≡ x.values
  params_are = same_some _ faithful.params.values x.values faithful.params.there (given_is x h)

  params_count : length (crossings (named_calls (names x) split.front)) ≡ handle_count x.shapes.lower_params x.shapes.lift_params x.values
  params_count =
      ap (λ l. length (crossings l)) split.front_is ∙ ap length faithful.params.handles_are
      ∙ handles_so x.adapter.lower.params x.shapes.lower_params x.adapter.lift.params x.shapes.lift_params faithful.params.values x.values (lower_params_are x h) (lift_params_are x h) params_are

  params_numbers : numbers faithful.once.before ≡ numbers_from 1 (handle_count x.shapes.lower_params x.shapes.lift_params x.values)
  params_numbers = ap numbers (sym split.front_is) ∙ before_numbers.are ∙ ap (λ n. numbers_from (suc n) (length (crossings (named_calls (names x) split.front)))) h.outcome.known_first.transfers ∙ ap (numbers_from 1) params_count

  params_called : called_params x.shapes.lower_params x.shapes.lift_params x.values ≡ Some faithful.params.outs
  params_called =
      carried_so x.adapter.lower.params x.shapes.lower_params x.adapter.lift.params x.shapes.lift_params faithful.params.values x.values (numbers faithful.once.before) _ faithful.params.outs (lower_params_are x h) (lift_params_are x h) params_are params_numbers
      faithful.params.carried.are

  -- the callee's number
  number_of : (n : ℕ) (r : Role) → Named x n r → names x n ≡ import.CoreDef x.adapter.callee → n ≡ x.call.callee
  number_of n r q e =
      let s = stands_so x.code x.imports x.adapters h.promised.names h.callable.adapter x.types x.call x.adapter x.function h.calls n q.0 q.1 in
      let is = is_what x.code x.imports x.adapters h.promised.names h.callable.adapter x.types x.call x.adapter x.function h.calls n q.0 q.1 in
      sym (placed a_function x.code.imports x.imports (apart x.imports h.promised.names.once) n (import.CoreDef x.adapter.callee) refl (s.there ∙ ap Some (sym is ∙ e))) ∙ h.calls.callee

  not_called : (k j : Known) (front : List Event) → AreAnswersUntil (Named x) x.call x.shapes (Some x.answered) k front j → filter (is_call_of x.adapter.callee) (named_calls (names x) front) ≡ [] → NoneCalls x.call.callee front
  not_called k j [] rules none = tt
  not_called k j (e ∷ es) rules none = by (λ g. not_called rules.2 j es rules.4 g) (is_call_of x.adapter.callee (call_of e)) refl none
    where
      by : (filter (is_call_of x.adapter.callee) (named_calls (names x) es) ≡ [] → NoneCalls x.call.callee es) → (b : Bool) → is_call_of x.adapter.callee (call_of e) ≡ b → cond b (call_of e ∷ filter (is_call_of x.adapter.callee) (named_calls (names x) es)) (filter (is_call_of x.adapter.callee) (named_calls (names x) es)) ≡ [] → (e.func ≡ x.call.callee → ⊥) × NoneCalls x.call.callee es
      by more true q none = absurd cc
      by more false q none = (
        (λ is.
            let core = core_is x.code x.imports x.adapters h.promised.names h.callable.adapter x.types x.call x.adapter x.function h.calls x.adapter.callee e.func rules.1.0 rules.1.1 (h.calls.callee ∙ sym is) in
            true≢false (sym (ap (λ z. is_call_of x.adapter.callee (call_by z e.args e.before e.answer)) core ∙ same_self x.adapter.callee) ∙ q)),
        more none,
      )

  first_is : first_call x.call.callee (log x) ≡ Some split.middle
  first_is =
      ap (first_call x.call.callee) split.is
      ∙ first_found x.call.callee split.front split.middle split.behind (not_called h.outcome.known ruled.known split.front ruled.front_ruled (ap (filter (is_call_of x.adapter.callee)) split.front_is ∙ faithful.once.none_before))
      (number_of split.middle.func ruled.role ruled.named what)

  params_reached_so : Came x h → x.outcome.params ≡ Some faithful.params.outs
  params_reached_so came =
      came.params ∙ ap (λ o. elim o as (λ (z : Option Event). Option (List Value)) [ None ↦ None | Some e ↦ lift_param_values x.call.lift.abi (side_bytes x.call.lift e.before) x.shapes.lift_params e.args ]) first_is
      ∙ passed_so x h split.middle.before split.middle.args
      ∙ ap (λ (c : Call). lift_param_values (side_abi (options_of x.adapter.lift)) (side_memory (places x) (options_of x.adapter.lift) c.before) x.adapter.lift.params c.args) split.middle_is ∙ faithful.params.stand

  -- the callee's call in the log
  pub record IsAsked : Type 0 where
    pub front : List Event
    pub event : Event
    pub behind : List Event
    pub log_is : log x ≡ front ++ (event ∷ behind)
    pub is_callee : event.func ≡ x.call.callee
    pub results : List CoreValue
    pub after : MachineState
    pub answer_is : event.answer ≡ Returns results after

  -- it was called, and returned
  pub asked : IsAsked
  asked = record {
    front = split.front;
    event = split.middle;
    behind = split.behind;
    log_is = split.is;
    is_callee = number_of split.middle.func ruled.role ruled.named what;
    results = one.results;
    after = one.after;
    answer_is = one.answer;
  }

  -- ---- results

  answered_are : faithful.results.values ≡ x.answered
  answered_are =
      let lifts = lifts_so x h one.results one.after did.values did.stores.lifts in
      let same : did.values ≡ x.answered = same_some (Some x.answered) did.values x.answered did.answer_is refl in
      same_some _ faithful.results.values x.answered faithful.results.there
      (ap (λ c. lift_result_values x.adapter.lift.async_side (side_abi (options_of x.adapter.lift)) (side_memory (places x) (options_of x.adapter.lift) (state_after c)) x.adapter.lift.results (results c)) callee_is ∙ lifts ∙ ap Some same)

  behind_first : suc ruled.known_behind.transfers ≡ 1 + handle_count x.shapes.lower_params x.shapes.lift_params x.values
  behind_first =
      let kept = stored_transfers x.call (places x) x.adapter x.shapes (Some x.answered) (room x.shapes.lift_results x.shapes.lower_results did.values) ruled.known ruled.known_behind split.middle.before one.after x.call.lift.memory did.stores.stored in
      omega (arith, kept, before_numbers.next, params_count, h.outcome.known_first.transfers)

  results_numbers : numbers faithful.once.behind ≡ numbers_from (1 + handle_count x.shapes.lower_params x.shapes.lift_params x.values) (handle_count x.shapes.lift_results x.shapes.lower_results x.answered)
  results_numbers =
      ap numbers (sym split.behind_is) ∙ behind_numbers.are ∙ ap (λ n. numbers_from n (length (crossings (named_calls (names x) split.behind)))) behind_first
      ∙ ap (numbers_from (1 + handle_count x.shapes.lower_params x.shapes.lift_params x.values))
      (ap (λ l. length (crossings l)) split.behind_is ∙ ap length faithful.results.handles_are
      ∙ handles_so x.adapter.lift.results x.shapes.lift_results x.adapter.lower.results x.shapes.lower_results faithful.results.values x.answered (lift_results_are x h) (lower_results_are x h) answered_are)

  results_called : called_results x.shapes.lower_params x.shapes.lift_params x.shapes.lift_results x.shapes.lower_results x.values x.answered ≡ Some faithful.results.outs
  results_called =
      carried_so x.adapter.lift.results x.shapes.lift_results x.adapter.lower.results x.shapes.lower_results faithful.results.values x.answered (numbers faithful.once.behind) _ faithful.results.outs (lift_results_are x h) (lower_results_are x h) answered_are results_numbers
      faithful.results.carried.are

  got_so : (st : MachineState)
      → sync_lower_results x.call.lower.abi (side_bytes x.call.lower st) x.shapes.lower_results h.outcome.args values ≡ lower_result_values x.adapter.lower.async_side (side_abi (options_of x.adapter.lower)) (side_memory (places x) (options_of x.adapter.lower) st) x.adapter.lower.results h.outcome.args values
  got_so st =
      sym (ap (λ b. lower_result_values b (side_abi (options_of x.adapter.lower)) (side_memory (places x) (options_of x.adapter.lower) st) x.adapter.lower.results h.outcome.args values) h.calls.lower.is_sync
      ∙ ap (λ s. sync_lower_results s (side_memory (places x) (options_of x.adapter.lower) st) x.adapter.lower.results h.outcome.args values) (abi_is x.types (places x) x.call.lower x.adapter.lower h.calls.lower)
      ∙ ap (λ l. sync_lower_results x.call.lower.abi l x.adapter.lower.results h.outcome.args values) (side_is x.types (places x) x.call.lower x.adapter.lower h.calls.lower st)
      ∙ ap (λ rs. sync_lower_results x.call.lower.abi (side_bytes x.call.lower st) rs h.outcome.args values) (lower_results_are x h))

  results_reached_so : Came x h → x.outcome.results ≡ Some faithful.results.outs
  results_reached_so came =
      came.results ∙ ap (λ (o : Outcome). results_reached x.call x.shapes h.outcome.args o.end o.state) (run_is x h)
      ∙ ap (λ e. results_reached x.call x.shapes h.outcome.args e (run x h).state) returned ∙ got_so (run x h).state ∙ faithful.results.stand

  -- ---- the whole

  pub carried : Came x h → CallHasCarried x.shapes x.values x.answered x.outcome
  carried came = record {
    values = values;
    returned = ap (λ (o : Outcome). o.end) (run_is x h) ∙ returned;
    given = faithful.params.outs;
    given_are = params_called;
    given_typed = given_typed x h faithful.params.outs params_called;
    params = params_reached_so came;
    got = faithful.results.outs;
    got_are = results_called;
    got_typed = got_typed x h faithful.results.outs results_called;
    results = results_reached_so came;
  }
