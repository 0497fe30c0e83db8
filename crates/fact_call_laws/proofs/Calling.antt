-- The callee's call is not answered by a trap.
use Rattle.std.proofs.Common.{◌≡◌, ℕ, ◌+◌, ◌≤◌, false, [], Some, refl, sym, ap, ◌∙◌, subst, arith, append-nil}
use Rattle.std.proofs.lemmas.Bool.{true≢false}
use Rattle.fact_types.specs.declared.import.Import.TheVariants as import
use Rattle.fact_types.proofs.ShapeLaws.{none_some, same_some}
use Rattle.fact_machine.specs.Causes.{answers_of}
use Rattle.fact_actions.specs.Regions.{params_landing}
use Rattle.fact_actions.specs.Requests.{answers_in, requests_in}
use Rattle.fact_actions.specs.Sides.{options_of}
use Rattle.fact_action_laws.specs.Faithful.{IsTransferred, params_given, params_passed}
use Rattle.fact_action_laws.specs.Requested.{CallOwnRealloc}
use Rattle.fact_action_laws.specs.Rooms.{requests_bytes}
use Rattle.fact_lowering.specs.Room.{room}
use Rattle.fact_host.specs.declared.roles.Role.TheVariants as role
use Rattle.fact_host.specs.Rules.{Again, Answers, MustNotCall, NoParams, NoRoomForResults, cursor_of, params_of}
use Rattle.fact_host.proofs.RequestsFit.{param_requests_fit}
use Rattle.fact_call_laws.proofs.Back.{answered_room}
use Rattle.fact_call_laws.proofs.Cursors.{requests_on, rises}
use Rattle.fact_call_laws.proofs.Fits.{lift_long}
use Rattle.fact_call_laws.proofs.Given.{args_typed, cursor_zero, given_is, given_members, given_room, passed_so, state_typed, sync_sides}
use Rattle.fact_call_laws.proofs.Places.{NoCallee, no_callee_on, outside_no_callee, own_no_callee, uncalled}
use Rattle.fact_call_laws.proofs.Reallocs.{outside_none}
use Rattle.fact_call_laws.proofs.Segments.{IsCalling, callee_stands}
use Rattle.fact_call_laws.proofs.Setting.{Called, Named, Setting, described, is_import, log, may_leave, names, places, to_trap}
use Rattle.fact_call_laws.proofs.Steps.{distinct}
use Rattle.fact_call_laws.proofs.Trapped.{AtTrap, before, calls_are, first_known, gave_up, it_stands, last_call, start}

module _ (x : Setting) (h : Called x) (t : AtTrap x h) (what : names x t.event.func ≡ import.CoreDef x.adapter.callee) where
  calling : IsCalling (places x) x.tunables x.adapter h.outcome.args h.outcome.first (before x h t) (last_call x h t)
  calling = callee_stands (places x) x.tunables x.adapter h.outcome.args h.outcome.first h.promised.checked.own_callee (before x h t) (last_call x h t) what (it_stands x h t)

  -- it was not called before
  first_time : t.last.returned ≡ false
  first_time =
      let own : NoCallee x.adapter calling.passed.params =
      own_no_callee x.adapter (options_of x.adapter.lift) calling.passed.params [] h.promised.checked.own_callee.lift_realloc (subst (λ l. CallOwnRealloc (options_of x.adapter.lift) l) (sym (append-nil calling.passed.params)) calling.passed.params_are) in
      let none : NoCallee x.adapter (before x h t) = subst (NoCallee x.adapter) (sym calling.front_is) (no_callee_on x.adapter calling.passed.enter calling.passed.params (outside_no_callee x.adapter calling.passed.enter calling.passed.enter_is) own) in
      uncalled x.code x.types x.call (places x) x.adapter (names x) (described x h) h.callable.once h.outcome.args x.shapes (Some x.answered) (Named x) (is_import x h) h.outcome.known t.last (start x h) t.front t.ruled t.honest none ∙ h.outcome.known_first.returned

  -- its parameters lift
  pub passed : IsTransferred x.adapter.lower.params x.adapter.lift.params (params_given (places x) x.adapter h.outcome.args h.outcome.first) (params_passed (places x) x.adapter (last_call x h t)) (before x h t)
  passed =
      h.promised.behaves.callee_is_given h.outcome.args h.outcome.first (answers_of (log x)) x.steps (to_trap x h) h.promised.no_debug (may_leave x h) (before x h t) (last_call x h t) [] (calls_are x h t) what

  pub lifted : params_of x.call x.shapes.lift_params t.event ≡ Some passed.outs
  lifted = passed_so x h t.event.before t.event.args ∙ passed.stand

  -- parameters have taken little of the lift side's memory
  taken : (n : ℕ) → x.call.lift.memory ≡ Some n → cursor_of t.last n ≤ 16384
  taken n here =
      let first : cursor_of h.outcome.known n ≡ 0 = cursor_zero h.outcome.known n (λ cursor e. h.outcome.known_first.others n cursor e (λ q. distinct x.code x.types x.call (places x) x.adapter (names x) (described x h) h.callable.once h.outcome.args n here q)) in
      let rise =
      rises x.code x.types x.call (places x) x.adapter (names x) (described x h) h.callable.once h.outcome.args x.shapes (Some x.answered) (Named x) (is_import x h) false n h.outcome.known t.last (start x h) t.front here t.ruled t.honest (gave_up x h t) (first_known x h)
      h.outcome.known_first.returned first_time in
      let split : requests_bytes (requests_in (params_landing x.adapter) (before x h t)) ≡ requests_bytes (requests_in (params_landing x.adapter) calling.passed.enter) + requests_bytes (requests_in (params_landing x.adapter) calling.passed.params) =
      ap (λ l. requests_bytes (requests_in (params_landing x.adapter) l)) calling.front_is ∙ requests_on (params_landing x.adapter) calling.passed.enter calling.passed.params in
      let none : requests_bytes (requests_in (params_landing x.adapter) calling.passed.enter) ≡ 0 = ap requests_bytes (outside_none (params_landing x.adapter) calling.passed.enter calling.passed.enter_is) in
      let fit = param_requests_fit (places x) x.tunables x.adapter h.outcome.args h.outcome.first x.values (answers_in (params_landing x.adapter) calling.passed.params) h.promised.checked (sync_sides x h) (state_typed x h h.outcome.first h.outcome.state_typed) (args_typed x h) (given_is x h) (given_members x h) calling.passed.params_shrink in
      omega (arith, first, rise, split, none, ap requests_bytes calling.passed.params_ask, fit, given_room x h)

  pub callee : Answers x.call x.shapes (Some x.answered) role.Callee t.last t.event t.behind → ⊥
  callee rule = by (rule.answers.traps.0 t.traps)
    where
      by : MustNotCall t.last x.call x.shapes.lift_params rule.has_room t.event → ⊥
      by (Again e) = true≢false (sym e ∙ first_time)
      by (NoParams e) = none_some (params_of x.call x.shapes.lift_params t.event) passed.outs e lifted
      by (NoRoomForResults e) =
          let lacks = rule.lacks_room e in
          let same : x.answered ≡ lacks.values = same_some (Some x.answered) x.answered lacks.values refl lacks.is_answer in
          let little : room x.shapes.lift_results x.shapes.lower_results lacks.values ≤ 16384 = subst (λ vs. room x.shapes.lift_results x.shapes.lower_results vs ≤ 16384) same (answered_room x h) in
          omega (arith, lacks.full, little, taken lacks.memory lacks.named, lift_long x h t lacks.memory lacks.named)
