-- There is room for the requests of results, and so none is answered by a trap.
use Rattle.std.proofs.Common.{◌≡◌, ◌≢◌, ℕ, ◌+◌, ◌≤◌, All, true, false, List, [], ◌∷◌, ◌++◌, Option, Some, None, refl, sym, ap, ◌∙◌, subst, arith, append_assoc, length}
use Rattle.std.specs.Prelude.{is_some, option_map}
use Rattle.std.specs.List.{AllZip}
use Rattle.std.proofs.lemmas.List.Elements.{All-head, All-tail}
use Rattle.fact_types.specs.declared.abi.CanonicalAbiInfo.{CanonicalAbiInfo}
use Rattle.fact_types.specs.declared.flats.FlatType.{FlatType}
use Rattle.fact_types.specs.declared.outside.CoreDef.{CoreDef}
use Rattle.fact_types.specs.declared.import.Import.TheVariants as import
use Rattle.fact_types.specs.declared.extents.MemoryWidth.{MemoryWidth}
use Rattle.fact_types.specs.declared.extents.MemoryWidth.TheVariants.{Memory32, Memory64}
use Rattle.fact_types.specs.Adapters.{is_wide, same_def}
use Rattle.fact_types.specs.FlatShapes.{flat_all}
use Rattle.fact_types.specs.Layout.{extent}
use Rattle.fact_types.specs.Shapes.{layout_of}
use Rattle.fact_types.specs.Signatures.{lift_by, sync_lift}
use Rattle.fact_types.specs.Tuples.{tuple_members, tuple_of}
use Rattle.fact_types.proofs.ShapeLaws.{none_some, same_some}
use Rattle.fact_machine.specs.declared.types.Answer.TheVariants.{Returns}
use Rattle.fact_machine.specs.declared.types.CoreValue.{CoreValue}
use Rattle.fact_machine.specs.declared.types.Event.{Event}
use Rattle.fact_machine.specs.declared.types.MachineState.{MachineState}
use Rattle.fact_machine.specs.Typed.{IsValue, TypedAnswer, TypedState, are_values}
use Rattle.fact_machine.proofs.TypedTests.{values_decided}
use Rattle.fact_values.specs.declared.value.Value.{Value}
use Rattle.fact_values.specs.IsA.{AreMembers}
use Rattle.fact_values.specs.Places.{width_of}
use Rattle.fact_values.specs.Tuples.{lift_result_values}
use Rattle.fact_actions.specs.Adapters.{lift_signature_of}
use Rattle.fact_actions.specs.Calls.{is_call_of, is_call_of_any, results, side_memory, state_after}
use Rattle.fact_actions.specs.Confined.{GiveUpLive}
use Rattle.fact_actions.specs.Honest.{AreHonest}
use Rattle.fact_actions.specs.Regions.{Position, is_request, results_landing}
use Rattle.fact_actions.specs.Requests.{request_of, requests_in}
use Rattle.fact_actions.specs.Running.{Call, is_state}
use Rattle.fact_actions.specs.Sides.{options_of, side_abi}
use Rattle.fact_actions.proofs.OwnParts.{same_self}
use Rattle.fact_action_laws.specs.Rooms.{request_bytes, requests_bytes}
use Rattle.fact_lowering.specs.Room.{greatest_bytes, inner_room, measured_places, room}
use Rattle.fact_host.specs.declared.roles.Role.TheVariants as role
use Rattle.fact_host.specs.Contract.{area_room}
use Rattle.fact_host.specs.Describes.{IsImportOf, named_calls}
use Rattle.fact_host.specs.Hosts.{AreAnswersUntil}
use Rattle.fact_host.specs.Rules.{Answers, ReallocsAt, bytes_of_memory, cursor_of, memory_at, side_bytes}
use Rattle.fact_host.proofs.RequestsFit.{result_requests_fit}
use Rattle.fact_call_laws.proofs.Bridge.{IsAt}
use Rattle.fact_call_laws.proofs.Cursors.{after_stored, call_keeps, keeps, request_first, requests_on, returned_stays, rises}
use Rattle.fact_call_laws.proofs.Fits.{longer}
use Rattle.fact_call_laws.proofs.Given.{abi_is, room_fits, side_is, state_typed, sync_sides}
use Rattle.fact_call_laws.proofs.Places.{CalleeDid, HonestParts, Parts, Ruled, callee_did, gives_behind, honest_parts, parts, ruled_parts}
use Rattle.fact_call_laws.proofs.Positions.{Answered, Holds, along, answered_so, answered_step, position_after}
use Rattle.fact_call_laws.proofs.Reallocs.{grown_bytes, not_refused, outside_none}
use Rattle.fact_call_laws.proofs.Segments.{InResults, lower_realloc_stands}
use Rattle.fact_call_laws.proofs.Setting.{Called, Named, Setting, described, is_import, lift_params_are, lift_results_are, log, lower_results_are, names, places}
use Rattle.fact_call_laws.proofs.Steps.{call_by, distinct, lift_not_lower, lower_not_post, place_of}
use Rattle.fact_call_laws.proofs.Trapped.{AtTrap, before, first_known, gave_up, it_stands, last_call, map_on, next, start}

-- the one in the middle
pub all_middle : {A : Type 0} (P : A → Type 0) (xs : List A) (y : A) (zs : List A) → All P (xs ++ (y ∷ zs)) → P y
all_middle P [] y zs h = All-head P y zs h
all_middle P (x ∷ xs) y zs h = all_middle P xs y zs (All-tail P x (xs ++ (y ∷ zs)) h)

-- the size of a layout is no more than the greatest
pub size_most : (w : MemoryWidth) (a b : CanonicalAbiInfo) → (extent w b).size ≤ greatest_bytes a b
size_most Memory32 a b = omega arith
size_most Memory64 a b = omega arith

module _ (x : Setting) (h : Called x) where
  -- ---- what the callee answered

  pub answered_room : room x.shapes.lift_results x.shapes.lower_results x.answered ≤ 16384
  answered_room = room_fits x.shapes.lift_results x.shapes.lower_results x.answered h.answer_fits

  -- the return area
  pub area_fits : area_room x.call x.shapes ≤ 16384
  area_fits = by (flat_all (width_of x.call.lower.abi) 1 x.shapes.lower_results)
    where
      by : (o : Option (List FlatType)) → elim o as (λ (z : Option (List FlatType)). ℕ) [ Some flats ↦ 0 | None ↦ 8 + (extent (width_of x.call.lower.abi) (layout_of (tuple_of x.shapes.lower_results))).size ] ≤ 16384
      by (Some flats) = omega arith
      by None = omega (arith, answered_room, size_most (width_of x.call.lower.abi) (layout_of (tuple_of x.shapes.lift_results)) (layout_of (tuple_of x.shapes.lower_results)))

  core_results_are : (sync_lift x.call.lift.abi.memory64 x.shapes.lift_params x.shapes.lift_results).results ≡ (lift_signature_of x.adapter).results
  core_results_are =
      sym (ap (λ b. (lift_by b (is_some x.adapter.lift.callback) (is_wide x.adapter.lift.memory) x.adapter.lift.params x.adapter.lift.results).results) h.calls.lift.is_sync
      ∙ ap (λ w. (sync_lift w x.adapter.lift.params x.adapter.lift.results).results) h.calls.lift.memory64
      ∙ ap (λ ps. (sync_lift x.call.lift.abi.memory64 ps x.adapter.lift.results).results) (lift_params_are x h)
      ∙ ap (λ rs. (sync_lift x.call.lift.abi.memory64 x.shapes.lift_params rs).results) (lift_results_are x h))

  -- what lifts in the terms of the call lifts in those of the adapter
  pub lifts_so : (values : List CoreValue) (st : MachineState) (vs : List Value) → lift_result_values false x.call.lift.abi (side_bytes x.call.lift st) x.shapes.lift_results values ≡ Some vs
      → lift_result_values x.adapter.lift.async_side (side_abi (options_of x.adapter.lift)) (side_memory (places x) (options_of x.adapter.lift) st) x.adapter.lift.results values ≡ Some vs
  lifts_so values st vs e =
      ap (λ b. lift_result_values b (side_abi (options_of x.adapter.lift)) (side_memory (places x) (options_of x.adapter.lift) st) x.adapter.lift.results values) h.calls.lift.is_sync
      ∙ ap (λ s. lift_result_values false s (side_memory (places x) (options_of x.adapter.lift) st) x.adapter.lift.results values) (abi_is x.types (places x) x.call.lift x.adapter.lift h.calls.lift)
      ∙ ap (λ l. lift_result_values false x.call.lift.abi l x.adapter.lift.results values) (side_is x.types (places x) x.call.lift x.adapter.lift h.calls.lift st)
      ∙ ap (λ rs. lift_result_values false x.call.lift.abi (side_bytes x.call.lift st) rs values) (lift_results_are x h) ∙ e

  pub core_typed : (values : List CoreValue) → AllZip (λ v ty. IsValue v ty) values (sync_lift x.call.lift.abi.memory64 x.shapes.lift_params x.shapes.lift_results).results → are_values values (lift_signature_of x.adapter).results ≡ true
  core_typed values z = (values_decided values (lift_signature_of x.adapter).results).1 (subst (λ ts. AllZip (λ v ty. IsValue v ty) values ts) core_results_are z)

  pub answered_members : AreMembers (tuple_members x.adapter.lift.results) x.answered
  answered_members = subst (λ ts. AreMembers (tuple_members ts) x.answered) (sym (lift_results_are x h)) h.answer_suited

  module _ (t : AtTrap x h) where
    abbrev call_of : Event → Call
    call_of e = call_by (names x e.func) e.args e.before e.answer

    -- ---- behind the callee's answer

    module _ (i : InResults (places x) x.tunables x.adapter h.outcome.args h.outcome.first (before x h t) (last_call x h t)) where
      abbrev until_callee : List Call
      until_callee = i.answered.passed.enter ++ i.answered.passed.params

      split : Parts call_of t.front until_callee i.answered.callee (i.answered.between ++ i.moved)
      split = parts call_of t.front until_callee i.answered.callee (i.answered.between ++ i.moved) (i.front_is ∙ sym (append_assoc i.answered.passed.enter i.answered.passed.params (i.answered.callee ∷ (i.answered.between ++ i.moved))))

      calls_split : before x h t ≡ named_calls (names x) split.front ++ (call_of split.middle ∷ named_calls (names x) split.behind)
      calls_split = ap (named_calls (names x)) split.is ∙ map_on call_of split.front (split.middle ∷ split.behind)

      ruled : Ruled (Named x) x.call x.shapes (Some x.answered) h.outcome.known t.last split.front split.middle split.behind
      ruled = ruled_parts (Named x) x.call x.shapes (Some x.answered) h.outcome.known t.last split.front split.middle split.behind (subst (λ l. AreAnswersUntil (Named x) x.call x.shapes (Some x.answered) h.outcome.known l t.last) split.is t.ruled)

      honest : HonestParts (places x) x.adapter (next x h) (start x h) (named_calls (names x) split.front) (call_of split.middle) (named_calls (names x) split.behind)
      honest = honest_parts (places x) x.adapter (next x h) (start x h) (named_calls (names x) split.front) (call_of split.middle) (named_calls (names x) split.behind) (subst (AreHonest (places x) x.adapter (next x h) (start x h)) calls_split t.honest)

      abbrev at_callee : Position
      at_callee = position_after (next x h) (start x h) (named_calls (names x) split.front)

      gives : GiveUpLive x.adapter (next x h) (next x h (call_of split.middle) at_callee) (named_calls (names x) split.behind)
      gives = gives_behind x.adapter (next x h) (start x h) (named_calls (names x) split.front) (call_of split.middle) (named_calls (names x) split.behind) (subst (GiveUpLive x.adapter (next x h) (start x h)) calls_split (gave_up x h t))

      one : Answered x.code x.types x.call (places x) x.adapter (names x) (described x h) h.callable.once h.outcome.args x.shapes (Some x.answered) ruled.known ruled.known_behind split.middle
      one = answered_so x.code x.types x.call (places x) x.adapter (names x) (described x h) h.callable.once h.outcome.args x.shapes (Some x.answered) (Named x) (is_import x h) ruled.known ruled.known_behind split.middle ruled.role ruled.named ruled.rule honest.returned

      did : CalleeDid x.code x.types x.call (places x) x.adapter (names x) (described x h) h.callable.once h.outcome.args x.shapes (Some x.answered) (Named x) (is_import x h) ruled.known ruled.known_behind split.middle one
      did = callee_did x.code x.types x.call (places x) x.adapter (names x) (described x h) h.callable.once h.outcome.args x.shapes (Some x.answered) (Named x) (is_import x h) ruled.known ruled.known_behind split.middle one (ap (λ (c : Call). c.what) split.middle_is ∙ i.answered.callee_is)

      known_at : Holds x.code x.types x.call (places x) x.adapter (names x) (described x h) h.callable.once h.outcome.args ruled.known at_callee
      known_at = along x.code x.types x.call (places x) x.adapter (names x) (described x h) h.callable.once h.outcome.args x.shapes (Some x.answered) (Named x) (is_import x h) h.outcome.known ruled.known (start x h) split.front ruled.front_ruled honest.front_honest (first_known x h)

      known_behind : Holds x.code x.types x.call (places x) x.adapter (names x) (described x h) h.callable.once h.outcome.args ruled.known_behind (next x h (call_of split.middle) at_callee)
      known_behind = answered_step x.code x.types x.call (places x) x.adapter (names x) (described x h) h.callable.once h.outcome.args x.shapes (Some x.answered) ruled.known ruled.known_behind at_callee split.middle one known_at honest.honest

      called : ruled.known_behind.returned ≡ true
      called = after_stored x.code x.types x.call (places x) x.adapter (names x) (described x h) h.callable.once h.outcome.args x.shapes (Some x.answered) (Named x) (is_import x h) (room x.shapes.lift_results x.shapes.lower_results did.values) ruled.known ruled.known_behind split.middle.before one.after did.stores.stored

      pub last_called : t.last.returned ≡ true
      last_called = returned_stays x.code x.types x.call (places x) x.adapter (names x) (described x h) h.callable.once h.outcome.args x.shapes (Some x.answered) (Named x) (is_import x h) ruled.known_behind t.last (next x h (call_of split.middle) at_callee) split.behind ruled.behind_ruled honest.behind_honest called

      -- ---- what the callee answered stands for the values

      callee_is : i.answered.callee ≡ call_by (names x split.middle.func) split.middle.args split.middle.before (Returns one.results one.after)
      callee_is = sym split.middle_is ∙ ap (λ z. call_by (names x split.middle.func) split.middle.args split.middle.before z) one.answer

      values_are : did.values ≡ x.answered
      values_are = same_some (Some x.answered) did.values x.answered did.answer_is refl

      after_typed : TypedState x.code one.after
      after_typed =
          let log_split : log x ≡ split.front ++ (split.middle ∷ (split.behind ++ t.event ∷ [])) = t.log_is ∙ ap (λ l. l ++ t.event ∷ []) split.is ∙ append_assoc split.front (split.middle ∷ split.behind) (t.event ∷ []) in
          let typed = all_middle (λ v. TypedAnswer x.code v.func v.before v.answer) split.front split.middle (split.behind ++ t.event ∷ []) (subst (All (λ v. TypedAnswer x.code v.func v.before v.answer)) log_split h.outcome.answers_typed) in
          (subst (TypedAnswer x.code split.middle.func split.middle.before) one.answer typed).1

      fit : requests_bytes (requests_in (results_landing x.adapter h.outcome.args) (i.moved ++ last_call x h t ∷ [])) ≤ measured_places inner_room (tuple_members x.adapter.lift.results) x.answered (tuple_members x.adapter.lower.results)
      fit =
          let rs : results i.answered.callee ≡ one.results = ap results callee_is in
          let left : state_after i.answered.callee ≡ one.after = ap state_after callee_is in
          let typed : is_state (places x) (state_after i.answered.callee) ≡ true = subst (λ s. is_state (places x) s ≡ true) (sym left) (state_typed x h one.after after_typed) in
          let core : are_values (results i.answered.callee) (lift_signature_of x.adapter).results ≡ true = subst (λ l. are_values l (lift_signature_of x.adapter).results ≡ true) (sym rs) (core_typed one.results did.core) in
          let lifts = lifts_so one.results one.after x.answered (did.stores.lifts ∙ ap Some values_are) in
          let there = ap (λ l. lift_result_values x.adapter.lift.async_side (side_abi (options_of x.adapter.lift)) (side_memory (places x) (options_of x.adapter.lift) (state_after i.answered.callee)) x.adapter.lift.results l) rs
          ∙ ap (λ s. lift_result_values x.adapter.lift.async_side (side_abi (options_of x.adapter.lift)) (side_memory (places x) (options_of x.adapter.lift) s) x.adapter.lift.results one.results) left ∙ lifts in
          let asked = result_requests_fit (places x) x.tunables x.adapter h.outcome.args (results i.answered.callee) (state_after i.answered.callee) x.answered i.answers h.promised.checked (sync_sides x h) typed core there answered_members i.shrink in
          omega (arith, grown_bytes _ _ i.begin, asked)

      -- ---- the lower side's memory

      pub results_take : (n : ℕ) → x.call.lower.memory ≡ Some n → is_request (results_landing x.adapter h.outcome.args) (last_call x h t) ≡ true → cursor_of t.last n + request_bytes (request_of (last_call x h t)) ≤ 49152
      results_take n here request =
          let other : x.call.lift.memory ≡ Some n → ⊥ = λ q. distinct x.code x.types x.call (places x) x.adapter (names x) (described x h) h.callable.once h.outcome.args n q here in
          let kept = keeps x.code x.types x.call (places x) x.adapter (names x) (described x h) h.callable.once h.outcome.args x.shapes (Some x.answered) (Named x) (is_import x h) n h.outcome.known ruled.known (start x h) split.front other ruled.front_ruled honest.front_honest h.outcome.known_first.returned did.first in
          let kept_on = call_keeps x.code x.types x.call (places x) x.adapter (names x) (described x h) h.callable.once h.outcome.args x.shapes (Some x.answered) (Named x) (is_import x h) (room x.shapes.lift_results x.shapes.lower_results did.values) n ruled.known ruled.known_behind split.middle.before one.after other did.stores.stored in
          let rise =
          rises x.code x.types x.call (places x) x.adapter (names x) (described x h) h.callable.once h.outcome.args x.shapes (Some x.answered) (Named x) (is_import x h) true n ruled.known_behind t.last (next x h (call_of split.middle) at_callee) split.behind here ruled.behind_ruled honest.behind_honest gives known_behind called last_called in
          let whole : requests_bytes (requests_in (results_landing x.adapter h.outcome.args) (named_calls (names x) split.behind)) ≡ requests_bytes (requests_in (results_landing x.adapter h.outcome.args) i.answered.between) + requests_bytes (requests_in (results_landing x.adapter h.outcome.args) i.moved) =
          ap (λ l. requests_bytes (requests_in (results_landing x.adapter h.outcome.args) l)) split.behind_is ∙ requests_on (results_landing x.adapter h.outcome.args) i.answered.between i.moved in
          let none : requests_bytes (requests_in (results_landing x.adapter h.outcome.args) i.answered.between) ≡ 0 = ap requests_bytes (outside_none (results_landing x.adapter h.outcome.args) i.answered.between i.answered.between_is) in
          let all = requests_on (results_landing x.adapter h.outcome.args) i.moved (last_call x h t ∷ []) in
          let last = request_first (results_landing x.adapter h.outcome.args) (last_call x h t) [] request in
          let first = h.outcome.known_first.lower n here in
          let args_room : room x.shapes.lower_params x.shapes.lift_params x.values ≤ 16384 = room_fits x.shapes.lower_params x.shapes.lift_params x.values h.suited.1 in
          let within : measured_places inner_room (tuple_members x.adapter.lift.results) x.answered (tuple_members x.adapter.lower.results) ≡ measured_places inner_room (tuple_members x.shapes.lift_results) x.answered (tuple_members x.shapes.lower_results) =
          ap (λ ts. measured_places inner_room (tuple_members ts) x.answered (tuple_members x.adapter.lower.results)) (lift_results_are x h) ∙ ap (λ us. measured_places inner_room (tuple_members x.shapes.lift_results) x.answered (tuple_members us)) (lower_results_are x h) in
          omega (arith, kept, kept_on, rise, whole, none, all, last, first, args_room, area_fits, within, answered_room, fit)

    -- ---- requests of results

    lower_long : (n : ℕ) → x.call.lower.memory ≡ Some n → 65536 ≤ length (memory_at t.event.before n)
    lower_long n e =
        let there : x.call.lower.memory ≢ None = λ q. let bad : Some n ≡ None = sym e ∙ q in cc in
        let first : length (memory_at h.outcome.first n) ≡ 65536 = ap (λ o. length (bytes_of_memory o h.outcome.first)) (sym e) ∙ h.outcome.lower_memory.bytes there in
        omega (arith, first, longer x h t n)

    lower_place : (f : CoreDef) → x.adapter.lower.realloc ≡ Some f → x.call.lower.realloc ≡ Some ((places x).function (import.CoreDef f))
    lower_place f e = place_of x.code x.types x.call (places x) x.adapter (names x) (described x h) h.callable.once h.outcome.args x.adapter.lower.realloc x.call.lower.realloc f h.calls.lower.realloc e

    not_lift : (f : CoreDef) → x.adapter.lower.realloc ≡ Some f → x.adapter.lift.realloc ≡ Some f → ⊥
    not_lift f e g =
        lift_not_lower x.code x.types x.call (places x) x.adapter (names x) (described x h) h.callable.once h.outcome.args ((places x).function (import.CoreDef f)) ((places x).function (import.CoreDef f))
        (place_of x.code x.types x.call (places x) x.adapter (names x) (described x h) h.callable.once h.outcome.args x.adapter.lift.realloc x.call.lift.realloc f h.calls.lift.realloc g) (lower_place f e) refl

    not_post : (f : CoreDef) → x.adapter.lower.realloc ≡ Some f → x.adapter.lift.post_return ≡ Some f → ⊥
    not_post f e g =
        lower_not_post x.code x.types x.call (places x) x.adapter (names x) (described x h) h.callable.once h.outcome.args ((places x).function (import.CoreDef f)) ((places x).function (import.CoreDef f)) (lower_place f e)
        (place_of x.code x.types x.call (places x) x.adapter (names x) (described x h) h.callable.once h.outcome.args x.adapter.lift.post_return x.call.post_return f h.calls.post_return g) refl

    -- none is answered by a trap
    pub lower_realloc : IsImportOf (places x) x.adapter role.LowerRealloc (names x t.event.func) → IsAt x.call t.event.func role.LowerRealloc → Answers x.call x.shapes (Some x.answered) role.LowerRealloc t.last t.event t.behind → ⊥
    lower_realloc what at rule = by x.adapter.lower.realloc refl what
      where
        by_memory : (f : CoreDef) → x.adapter.lower.realloc ≡ Some f → names x t.event.func ≡ import.CoreDef f → (o : Option ℕ) → x.call.lower.memory ≡ o → ReallocsAt t.last x.call.lower t.last.returned t.event t.behind o → ⊥
        by_memory f q e None here rule = let none : None ≡ Some t.event.func = sym (h.callable.lower_means.with_memory here) ∙ at in cc
        by_memory f q e (Some n) here rule =
            let own : same_def x.adapter.callee f ≡ false = h.promised.checked.own_callee.lower_realloc f q in
            let i = lower_realloc_stands (places x) x.tunables x.adapter h.outcome.args h.outcome.first f (before x h t) (last_call x h t) e own (not_lift f q) (not_post f q) (it_stands x h t) in
            let request : is_request (results_landing x.adapter h.outcome.args) (last_call x h t) ≡ true = ap (λ o. is_call_of_any o (last_call x h t)) q ∙ ap (λ z. is_call_of f (call_by z t.event.args t.event.before t.event.answer)) e ∙ same_self f in
            not_refused x h t true t.last.returned n f here e q own (last_called i) (last_called i) (omega (arith, results_take i n here request, lower_long n here)) (rule.traps.0 t.traps)

        by : (o : Option CoreDef) → x.adapter.lower.realloc ≡ o → option_map (λ d. import.CoreDef d) o ≡ Some (names x t.event.func) → ⊥
        by None q e = none_some None (names x t.event.func) refl e
        by (Some f) q e = by_memory f q (sym (same_some (Some (import.CoreDef f)) (import.CoreDef f) (names x t.event.func) refl e)) x.call.lower.memory refl rule
