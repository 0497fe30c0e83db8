-- There is room for every request, and so none is answered by a trap.
use Rattle.std.proofs.Common.{◌≡◌, ◌≢◌, ℕ, ◌+◌, ◌≤◌, All, true, false, [], ◌∷◌, Option, Some, None, refl, sym, ap, ◌∙◌, subst, arith, cond, length}
use Rattle.std.specs.Prelude.{option_map}
use Rattle.fact_types.specs.declared.outside.CoreDef.{CoreDef}
use Rattle.fact_types.specs.declared.import.Import.TheVariants as import
use Rattle.fact_types.specs.Adapters.{same_def}
use Rattle.fact_machine.specs.Lengths.{SeeLengths, lengths_of}
use Rattle.fact_machine.specs.Typed.{TypedAnswer}
use Rattle.fact_actions.specs.Calls.{is_call_of, is_call_of_any}
use Rattle.fact_actions.specs.Regions.{is_request, params_landing}
use Rattle.fact_actions.specs.Requests.{request_of, requests_in}
use Rattle.fact_actions.specs.Sides.{options_of}
use Rattle.fact_action_laws.specs.Rooms.{request_bytes, requests_bytes}
use Rattle.fact_host.specs.declared.roles.Role.TheVariants as role
use Rattle.fact_host.specs.Describes.{IsImportOf}
use Rattle.fact_host.specs.Rules.{Answers, ReallocsAt, bytes_of_memory, cursor_of, memory_at}
use Rattle.fact_host.proofs.RequestsFit.{param_requests_fit}
use Rattle.fact_call_laws.proofs.Bridge.{IsAt}
use Rattle.fact_call_laws.proofs.Cursors.{request_first, requests_on, rises}
use Rattle.fact_call_laws.proofs.Given.{args_typed, cursor_zero, given_is, given_members, given_room, see_longer, state_typed, sync_sides}
use Rattle.fact_call_laws.proofs.Places.{NoCallee, no_callee_on, outside_no_callee, own_no_callee, uncalled}
use Rattle.fact_call_laws.proofs.Reallocs.{grown_bytes, not_refused, outside_none}
use Rattle.fact_call_laws.proofs.Segments.{InParams, lift_realloc_stands}
use Rattle.fact_call_laws.proofs.Setting.{Called, Named, Setting, described, is_import, names, places, see_lengths}
use Rattle.fact_actions.proofs.OwnParts.{same_self}
use Rattle.fact_types.proofs.ShapeLaws.{none_some, same_some}
use Rattle.fact_call_laws.proofs.Steps.{call_by, distinct, lift_not_lower, lift_not_post, place_of}
use Rattle.fact_call_laws.proofs.Trapped.{AtTrap, before, gave_up, first_known, it_stands, last_call, start}

module _ (x : Setting) (h : Called x) (t : AtTrap x h) where
  -- ---- memories

  -- a memory is as long as it was at first, or longer
  pub longer : (n : ℕ) → length (memory_at h.outcome.first n) ≤ length (memory_at t.event.before n)
  longer n =
      see_longer x.code h.outcome.first t.front t.event n (lengths_of h.outcome.first) (omega arith) (subst (SeeLengths (lengths_of h.outcome.first)) t.log_is (see_lengths x h))
      (subst (All (λ v. TypedAnswer x.code v.func v.before v.answer)) t.log_is h.outcome.answers_typed)

  pub lift_long : (n : ℕ) → x.call.lift.memory ≡ Some n → 65536 ≤ length (memory_at t.event.before n)
  lift_long n e =
      let there : x.call.lift.memory ≢ None = λ q. let bad : Some n ≡ None = sym e ∙ q in cc in
      let first : length (memory_at h.outcome.first n) ≡ 65536 = ap (λ o. length (bytes_of_memory o h.outcome.first)) (sym e) ∙ h.outcome.lift_memory.bytes there in
      omega (arith, first, longer n)

  -- ---- the lift side

  lift_place : (f : CoreDef) → x.adapter.lift.realloc ≡ Some f → x.call.lift.realloc ≡ Some ((places x).function (import.CoreDef f))
  lift_place f e = place_of x.code x.types x.call (places x) x.adapter (names x) (described x h) h.callable.once h.outcome.args x.adapter.lift.realloc x.call.lift.realloc f h.calls.lift.realloc e

  not_lower : (f : CoreDef) → x.adapter.lift.realloc ≡ Some f → x.adapter.lower.realloc ≡ Some f → ⊥
  not_lower f e g =
      lift_not_lower x.code x.types x.call (places x) x.adapter (names x) (described x h) h.callable.once h.outcome.args ((places x).function (import.CoreDef f)) ((places x).function (import.CoreDef f)) (lift_place f e)
      (place_of x.code x.types x.call (places x) x.adapter (names x) (described x h) h.callable.once h.outcome.args x.adapter.lower.realloc x.call.lower.realloc f h.calls.lower.realloc g) refl

  not_post : (f : CoreDef) → x.adapter.lift.realloc ≡ Some f → x.adapter.lift.post_return ≡ Some f → ⊥
  not_post f e g =
      lift_not_post x.code x.types x.call (places x) x.adapter (names x) (described x h) h.callable.once h.outcome.args ((places x).function (import.CoreDef f)) ((places x).function (import.CoreDef f)) (lift_place f e)
      (place_of x.code x.types x.call (places x) x.adapter (names x) (described x h) h.callable.once h.outcome.args x.adapter.lift.post_return x.call.post_return f h.calls.post_return g) refl

  -- The callee was not called before a request of parameters.
  params_uncalled : InParams (places x) x.tunables x.adapter h.outcome.args h.outcome.first (before x h t) (last_call x h t) → t.last.returned ≡ false
  params_uncalled i =
      let none : NoCallee x.adapter (before x h t) =
      subst (NoCallee x.adapter) (sym i.front_is)
      (no_callee_on x.adapter i.enter i.moved (outside_no_callee x.adapter i.enter i.enter_is) (own_no_callee x.adapter (options_of x.adapter.lift) i.moved (last_call x h t ∷ []) h.promised.checked.own_callee.lift_realloc i.moved_own)) in
      uncalled x.code x.types x.call (places x) x.adapter (names x) (described x h) h.callable.once h.outcome.args x.shapes (Some x.answered) (Named x) (is_import x h) h.outcome.known t.last (start x h) t.front t.ruled t.honest none ∙ h.outcome.known_first.returned

  -- what parameters ask of the lift side's memory
  params_take : (n : ℕ) → x.call.lift.memory ≡ Some n → (i : InParams (places x) x.tunables x.adapter h.outcome.args h.outcome.first (before x h t) (last_call x h t)) → is_request (params_landing x.adapter) (last_call x h t) ≡ true
      → cursor_of t.last n + request_bytes (request_of (last_call x h t)) ≤ 16384
  params_take n here i request =
      let first : cursor_of h.outcome.known n ≡ 0 = cursor_zero h.outcome.known n (λ cursor e. h.outcome.known_first.others n cursor e (λ q. distinct x.code x.types x.call (places x) x.adapter (names x) (described x h) h.callable.once h.outcome.args n here q)) in
      let rise =
      rises x.code x.types x.call (places x) x.adapter (names x) (described x h) h.callable.once h.outcome.args x.shapes (Some x.answered) (Named x) (is_import x h) false n h.outcome.known t.last (start x h) t.front here t.ruled t.honest (gave_up x h t)
      (first_known x h) h.outcome.known_first.returned (params_uncalled i) in
      let split : requests_bytes (requests_in (params_landing x.adapter) (before x h t)) ≡ requests_bytes (requests_in (params_landing x.adapter) i.enter) + requests_bytes (requests_in (params_landing x.adapter) i.moved) =
      ap (λ l. requests_bytes (requests_in (params_landing x.adapter) l)) i.front_is ∙ requests_on (params_landing x.adapter) i.enter i.moved in
      let none : requests_bytes (requests_in (params_landing x.adapter) i.enter) ≡ 0 = ap requests_bytes (outside_none (params_landing x.adapter) i.enter i.enter_is) in
      let all = requests_on (params_landing x.adapter) i.moved (last_call x h t ∷ []) in
      let one = request_first (params_landing x.adapter) (last_call x h t) [] request in
      let grown = grown_bytes _ _ i.begin in
      let fit = param_requests_fit (places x) x.tunables x.adapter h.outcome.args h.outcome.first x.values i.answers h.promised.checked (sync_sides x h) (state_typed x h h.outcome.first h.outcome.state_typed) (args_typed x h) (given_is x h) (given_members x h) i.shrink in
      omega (arith, first, rise, split, none, all, one, grown, fit, given_room x h)

  -- no request of parameters is answered by a trap
  pub lift_realloc : IsImportOf (places x) x.adapter role.LiftRealloc (names x t.event.func) → IsAt x.call t.event.func role.LiftRealloc → Answers x.call x.shapes (Some x.answered) role.LiftRealloc t.last t.event t.behind → ⊥
  lift_realloc what at rule = by x.adapter.lift.realloc refl what
    where
      by_memory : (f : CoreDef) → x.adapter.lift.realloc ≡ Some f → names x t.event.func ≡ import.CoreDef f → (o : Option ℕ) → x.call.lift.memory ≡ o → ReallocsAt t.last x.call.lift (cond t.last.returned false true) t.event t.behind o → ⊥
      by_memory f q e None here rule = let none : None ≡ Some t.event.func = sym (h.callable.lift_means.with_memory here) ∙ at in cc
      by_memory f q e (Some n) here rule =
          let own : same_def x.adapter.callee f ≡ false = h.promised.checked.own_callee.lift_realloc f q in
          let i = lift_realloc_stands (places x) x.tunables x.adapter h.outcome.args h.outcome.first f (before x h t) (last_call x h t) e own (not_lower f q) (not_post f q) (it_stands x h t) in
          let phase : t.last.returned ≡ false = params_uncalled i in
          let request : is_request (params_landing x.adapter) (last_call x h t) ≡ true = ap (λ o. is_call_of_any o (last_call x h t)) q ∙ ap (λ z. is_call_of f (call_by z t.event.args t.event.before t.event.answer)) e ∙ same_self f in
          not_refused x h t false (cond t.last.returned false true) n f here e q own phase (ap (λ z. cond z false true) phase) (omega (arith, params_take n here i request, lift_long n here)) (rule.traps.0 t.traps)

      by : (o : Option CoreDef) → x.adapter.lift.realloc ≡ o → option_map (λ d. import.CoreDef d) o ≡ Some (names x t.event.func) → ⊥
      by None q e = none_some None (names x t.event.func) refl e
      by (Some f) q e = by_memory f q (sym (same_some (Some (import.CoreDef f)) (import.CoreDef f) (names x t.event.func) refl e)) x.call.lift.memory refl rule
