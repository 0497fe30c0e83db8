-- What the callee of an adapter was given, where a run came to its call: the arguments, carried.
use Rattle.std.proofs.Common.{◌≡◌, ◌≢◌, ℕ, zero, suc, inr, false, All, List, [], ◌∷◌, ◌++◌, Option, Some, None, refl, sym, ap, ◌∙◌, subst, arith, length, slice_get}
use Rattle.std.specs.List.{AllZip, filter_map}
use Rattle.std.specs.Prelude.{option_map, if◌then◌else◌}
use Rattle.std.proofs.lemmas.Bool.{eq-eqb}
use Rattle.std.proofs.lemmas.List.Elements.{All-append, All-cons, All-head, All-nil, All-tail}
use Rattle.fact_wasm.specs.declared.module.WasmModule.{WasmModule}
use Rattle.fact_wasm.specs.declared.types.ValType.TheVariants as val
use Rattle.fact_types.specs.declared.import.Import.{Import}
use Rattle.fact_types.specs.declared.import.Import.TheVariants as import
use Rattle.fact_types.specs.Adapters.{LinkedAdapter, is_wide}
use Rattle.fact_types.specs.Signatures.{lower_by, sync_lower}
use Rattle.fact_types.specs.Tables.{Tables}
use Rattle.fact_types.specs.Tuples.{tuple_members}
use Rattle.fact_types.proofs.ShapeLaws.{none_some, same_some}
use Rattle.fact_machine.specs.declared.types.CoreValue.{CoreValue}
use Rattle.fact_machine.specs.declared.types.CoreValue.TheVariants.{I32}
use Rattle.fact_machine.specs.declared.types.Event.{Event}
use Rattle.fact_machine.specs.declared.types.Outcome.{Outcome}
use Rattle.fact_machine.specs.Causes.{answers_of}
use Rattle.fact_machine.specs.Machine.{run_of}
use Rattle.fact_machine.specs.Typed.{IsValue, TypedAnswer, type_of_global}
use Rattle.fact_values.specs.declared.value.Value.{Value}
use Rattle.fact_values.specs.Carry.{take_number}
use Rattle.fact_values.specs.Handles.{cross_places}
use Rattle.fact_values.specs.Lift.{bits_of}
use Rattle.fact_values.specs.Tuples.{lift_param_values, lower_param_values}
use Rattle.fact_actions.specs.Adapters.{AdapterTunables}
use Rattle.fact_actions.specs.Calls.{side_memory}
use Rattle.fact_actions.specs.Order.{flag_in}
use Rattle.fact_actions.specs.Regions.{landed, params_landing, sync_moved_on}
use Rattle.fact_actions.specs.Running.{Call}
use Rattle.fact_actions.specs.Sides.{options_of, side_abi}
use Rattle.fact_action_laws.specs.Faithful.{IsTransferred, all_handles, params_given, params_passed}
use Rattle.fact_action_laws.specs.Items.{crossings, numbers}
use Rattle.fact_host.specs.declared.calling.HostCall.{HostCall}
use Rattle.fact_host.specs.declared.known.Known.{Known}
use Rattle.fact_host.specs.declared.roles.Role.{Role}
use Rattle.fact_host.specs.declared.roles.Role.TheVariants as role
use Rattle.fact_host.specs.Called.{called_params, handle_count, numbers_from}
use Rattle.fact_host.specs.Contract.{HasReached, IsCallable, IsNameable, steps_given}
use Rattle.fact_host.specs.Describes.{Describes, IsImportOf, named_calls}
use Rattle.fact_host.specs.HonestLaws.{HasRole}
use Rattle.fact_host.specs.Hosts.{AreAnswersUntil}
use Rattle.fact_host.specs.Roles.{IsRoleBy, is_place, role_by_place}
use Rattle.fact_host.specs.Rules.{AreAnswers, CallShapes, side_bytes}
use Rattle.fact_emit.specs.ImportSection.{mentions}
use Rattle.fact_function_laws.specs.Names.{AreCalls, IsNamedLog, places_in}
use Rattle.fact_function_laws.specs.Runs.{IsHonestUntilTrapSoFar, IsTypedRun}
use Rattle.fact_function_laws.proofs.ImportNumbers.{named_log}
use Rattle.fact_function_laws.proofs.LoggedImports.{run_told}
use Rattle.fact_call_laws.specs.Carrying.{CallsAdapter, IsPromised}
use Rattle.fact_call_laws.proofs.Bridge.{are_named, describes, names_in}
use Rattle.fact_call_laws.proofs.Given.{abi_is, side_is}
use Rattle.fact_call_laws.proofs.Numbers.{Numbered, numbered}
use Rattle.fact_call_laws.proofs.Setting.{one_shapes}
use Rattle.fact_call_laws.proofs.Steps.{call_by}
use Rattle.fact_call_laws.proofs.Trapped.{map_on}

-- ---- lists

zip_at : {A B : Type 0} (R : A → B → Type 0) (xs : List A) (ys : List B) (k : ℕ) (x : A) → AllZip R xs ys → slice_get xs k ≡ Some x → (y : B) × (slice_get ys k ≡ Some y)
zip_at R [] ys k x h e = absurd (none_some (slice_get [] k) x refl e)
zip_at R (z ∷ xs) [] k x h e = absurd h
zip_at R (z ∷ xs) (y ∷ ys) zero x h e = (y, refl)
zip_at R (z ∷ xs) (y ∷ ys) (suc k) x h e = zip_at R xs ys k x h.1 e

all_at : {A : Type 0} (P : A → Type 0) (xs : List A) (k : ℕ) (x : A) → All P xs → slice_get xs k ≡ Some x → P x
all_at P [] k x h e = absurd (none_some (slice_get [] k) x refl e)
all_at P (y ∷ xs) zero x h e = subst P (same_some (Some y) y x refl e) (All-head P y xs h)
all_at P (y ∷ xs) (suc k) x h e = all_at P xs k x (All-tail P y xs h) e

-- all events of a log are answered by the rules until some knowledge
all_until : (Named : ℕ → Role → Type 0) (c : HostCall) (s : CallShapes) (answered : Option (List Value)) (k : Known) (events : List Event) → AreAnswers Named c s answered k events → (last : Known) × AreAnswersUntil Named c s answered k events last
all_until Named c s answered k [] h = (k, refl)
all_until Named c s answered k (e ∷ es) h = let r = all_until Named c s answered h.2 es h.4 in (r.0, (h.0, h.1, h.2, h.3, r.1))

-- the place of the callee has its role
callee_place : (c : HostCall) → role_by_place c c.callee ≡ Some role.Callee
callee_place c = ap
    (λ b. if b then Some role.Callee
    else (if is_place c.lift.realloc c.callee then Some role.LiftRealloc
    else (if is_place c.lower.realloc c.callee then Some role.LowerRealloc
    else (if is_place c.post_return c.callee then Some role.PostReturn else None)))) (eq-eqb c.callee c.callee refl)

-- ---- a run that came to the callee's call

module _ (m : WasmModule) (is : List Import) (u : AdapterTunables) (a : LinkedAdapter) (adapters : List LinkedAdapter) (f : ℕ) (t : Tables) (c : HostCall) (s : CallShapes) (values params : List Value)
    (promised : IsPromised m is u a adapters f) (calls : CallsAdapter m is t c a f) (callable : IsCallable m t c s) (h : HasReached m t c s values params) where
  abbrev names : ℕ → Import
  names = names_in m is

  abbrev log : List Event
  log = h.outcome.log

  described : Describes m t c (places_in m is) a names
  described = describes m is adapters promised.names callable.adapter t c a f calls promised.checked.own_callee

  is_import : (n : ℕ) (r : Role) → HasRole m c n r → IsImportOf (places_in m is) a r (names n)
  is_import n r q = described.functions n q.0 r q.1 q.2

  abbrev run : Outcome
  run = run_of m f h.args h.first (answers_of log) steps_given

  run_is : h.outcome ≡ run
  run_is = h.is_run ∙ ap (λ n. run_of m n h.args h.first (answers_of log) steps_given) calls.func

  -- ---- types

  lower_params_are : a.lower.params ≡ s.lower_params
  lower_params_are = one_shapes t c.lower.params a.lower.params s.lower_params calls.lower.params callable.shapes.lower_params

  lower_results_are : a.lower.results ≡ s.lower_results
  lower_results_are = one_shapes t c.lower.results a.lower.results s.lower_results calls.lower.results callable.shapes.lower_results

  lift_params_are : a.lift.params ≡ s.lift_params
  lift_params_are = one_shapes t c.lift.params a.lift.params s.lift_params calls.lift.params callable.shapes.lift_params

  core_params_are : (sync_lower c.lower.abi.memory64 s.lower_params s.lower_results).params ≡ a.lower.core_type.params
  core_params_are =
      sym (promised.core_params
      ∙ ap (λ b. (lower_by b (is_wide a.lower.memory) a.lower.params a.lower.results).params) calls.lower.is_sync
      ∙ ap (λ w. (sync_lower w a.lower.params a.lower.results).params) calls.lower.memory64
      ∙ ap (λ ps. (sync_lower c.lower.abi.memory64 ps a.lower.results).params) lower_params_are
      ∙ ap (λ rs. (sync_lower c.lower.abi.memory64 s.lower_params rs).params) lower_results_are)

  answers_typed : All (λ e. TypedAnswer m e.func e.before e.answer) log
  answers_typed =
      subst (All (λ e. TypedAnswer m e.func e.before e.answer)) (sym h.log_is)
      (All-append (λ e. TypedAnswer m e.func e.before e.answer) h.front (h.event ∷ []) h.answers_typed
      (All-cons (λ e. TypedAnswer m e.func e.before e.answer) h.event [] (subst (TypedAnswer m h.event.func h.event.before) (sym h.traps) tt) (All-nil (λ e. TypedAnswer m e.func e.before e.answer))))

  typed_log : IsTypedRun m a h.args h.first log
  typed_log = record {
    state = h.state_typed;
    arguments = subst (λ ts. AllZip (λ v t. IsValue v t) h.args ts) core_params_are h.args_typed;
    answers = answers_typed;
  }

  typed : IsTypedRun m a h.args h.first run.log
  typed = subst (λ (o : Outcome). IsTypedRun m a h.args h.first o.log) run_is typed_log

  -- ---- calls

  are_calls : AreCalls m is run.log (named_calls names log)
  are_calls =
      let n : IsNamedLog m is run.log = named_log m is (mentions adapters) promised.names.named run.log (run_told m f h.args h.first (answers_of log) steps_given) in
      subst (λ (o : Outcome). AreCalls m is run.log (named_calls names o.log)) (sym run_is) (are_named m is run.log n.calls n.are_calls)

  abbrev before : List Call
  before = named_calls names h.front

  abbrev last_call : Call
  last_call = call_by (names h.event.func) h.event.args h.event.before h.event.answer

  calls_are : named_calls names log ≡ before ++ last_call ∷ []
  calls_are = ap (named_calls names) h.log_is ∙ map_on (λ (e : Event). call_by (names e.func) e.args e.before e.answer) h.front (h.event ∷ [])

  to_trap : IsHonestUntilTrapSoFar m is a h.args h.first run.log
  to_trap = record {
    typed = typed;
    calls = named_calls names log;
    are_calls = are_calls;
    honest = inr (record { front = before; last = last_call; calls_are = calls_are; front_honest = h.honest (places_in m is) a names described; last_traps = h.traps });
  }

  -- the lower side may leave
  may_leave : flag_in (places_in m is) a.lower.instance h.first.globals ≢ I32 0
  may_leave e =
      let at = zip_at (λ t v. IsValue v t) (filter_map type_of_global m.imports) h.first.globals ((places_in m is).flags a.lower.instance) val.I32 h.state_typed.globals promised.places.lower_flags in
      let one : at.0 ≡ I32 1 = all_at (λ v. v ≡ I32 1) h.first.globals ((places_in m is).flags a.lower.instance) at.0 h.flags at.1 in
      let flag : flag_in (places_in m is) a.lower.instance h.first.globals ≡ at.0 = ap (λ o. elim o as (λ (z : Option CoreValue). CoreValue) [ None ↦ I32 0 | Some v ↦ v ]) at.1 in
      let bad : ◌≡◌ {A = ℕ} 1 0 = ap bits_of (sym one ∙ sym flag ∙ e) in
      omega (arith, bad)

  -- it is the callee's call
  what : names h.event.func ≡ import.CoreDef a.callee
  what =
      let n = All-head (IsNameable m) c.callee _ callable.named in
      ap names h.is_callee ∙ described.functions c.callee n.import role.Callee n.there (subst (IsRoleBy m n.import role.Callee) (sym (callee_place c)) refl)

  transferred : IsTransferred a.lower.params a.lift.params (params_given (places_in m is) a h.args h.first) (params_passed (places_in m is) a last_call) before
  unfolding to_trap
  transferred = promised.behaves.callee_is_given h.args h.first (answers_of log) steps_given to_trap promised.no_debug may_leave before last_call [] calls_are what

  -- ---- values

  given_is : params_given (places_in m is) a h.args h.first ≡ Some values
  given_is =
      ap (λ b. lower_param_values b (side_abi (options_of a.lower)) (side_memory (places_in m is) (options_of a.lower) h.first) a.lower.params h.args) calls.lower.is_sync
      ∙ ap (λ z. lower_param_values false z (side_memory (places_in m is) (options_of a.lower) h.first) a.lower.params h.args) (abi_is t (places_in m is) c.lower a.lower calls.lower)
      ∙ ap (λ l. lower_param_values false c.lower.abi l a.lower.params h.args) (side_is t (places_in m is) c.lower a.lower calls.lower h.first)
      ∙ ap (λ ps. lower_param_values false c.lower.abi (side_bytes c.lower h.first) ps h.args) lower_params_are
      ∙ h.stored

  passed_is : params_passed (places_in m is) a last_call ≡ Some params
  passed_is =
      ap (λ z. lift_param_values z (side_memory (places_in m is) (options_of a.lift) h.event.before) a.lift.params h.event.args) (abi_is t (places_in m is) c.lift a.lift calls.lift)
      ∙ ap (λ l. lift_param_values c.lift.abi l a.lift.params h.event.args) (side_is t (places_in m is) c.lift a.lift calls.lift h.event.before)
      ∙ ap (λ ps. lift_param_values c.lift.abi (side_bytes c.lift h.event.before) ps h.event.args) lift_params_are
      ∙ h.lifts

  values_are : transferred.values ≡ values
  values_are = same_some _ transferred.values values transferred.there given_is

  outs_are : transferred.outs ≡ params
  outs_are = same_some _ transferred.outs params transferred.stand passed_is

  -- ---- numbers

  ruled : (last : Known) × AreAnswersUntil (HasRole m c) c s None h.known h.front last
  ruled = all_until (HasRole m c) c s None h.known h.front (h.ruled None)

  before_numbers : Numbered c (places_in m is) a s None names (HasRole m c) is_import h.known ruled.0 before
  before_numbers = numbered c (places_in m is) a s None names (HasRole m c) is_import (sync_moved_on a h.args) h.known ruled.0 (landed (params_landing a)) h.front ruled.1 (h.honest (places_in m is) a names described)

  count_is : length (crossings before) ≡ handle_count s.lower_params s.lift_params values
  count_is =
      ap length transferred.handles_are ∙ ap (λ ps. length (all_handles ps a.lift.params transferred.values)) lower_params_are ∙ ap (λ qs. length (all_handles s.lower_params qs transferred.values)) lift_params_are
      ∙ ap (λ vs. length (all_handles s.lower_params s.lift_params vs)) values_are

  numbers_are : numbers before ≡ numbers_from 1 (handle_count s.lower_params s.lift_params values)
  numbers_are = before_numbers.are ∙ ap (λ n. numbers_from (suc n) (length (crossings before))) h.known_first.transfers ∙ ap (numbers_from 1) count_is

  abbrev carried_by : List ℕ → Option (List Value)
  carried_by ns = option_map (λ r. r.0) (cross_places take_number (tuple_members s.lower_params) values (tuple_members s.lift_params) ns)

  -- So it was given the arguments, carried.
  pub given_carried : called_params s.lower_params s.lift_params values ≡ Some params
  given_carried =
      ap carried_by (sym numbers_are)
      ∙ ap (λ vs. option_map (λ r. r.0) (cross_places take_number (tuple_members s.lower_params) vs (tuple_members s.lift_params) (numbers before))) (sym values_are)
      ∙ ap (λ qs. option_map (λ r. r.0) (cross_places take_number (tuple_members s.lower_params) transferred.values (tuple_members qs) (numbers before))) (sym lift_params_are)
      ∙ ap (λ ps. option_map (λ r. r.0) (cross_places take_number (tuple_members ps) transferred.values (tuple_members a.lift.params) (numbers before))) (sym lower_params_are)
      ∙ ap (option_map (λ r. r.0)) transferred.carried.are ∙ ap (λ vs. Some vs) outs_are
