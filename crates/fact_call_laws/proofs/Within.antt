-- The values of a call on a host are within limits: the arguments, and what the callee answered, wherever it did.
use Rattle.std.proofs.Common.{◌≡◌, ℕ, zero, suc, ◌≤◌, All, List, [], ◌∷◌, ◌++◌, Option, Some, None, refl, sym, ap, ◌∙◌, subst, arith, append_assoc, get_or, length, map}
use Rattle.fact_types.specs.declared.import.Import.TheVariants as import
use Rattle.fact_types.specs.Shapes.{layout_of}
use Rattle.fact_types.specs.Tuples.{tuple_members, tuple_of}
use Rattle.fact_types.proofs.ShapeLaws.{same_some}
use Rattle.fact_machine.specs.declared.types.Answer.TheVariants.{Returns}
use Rattle.fact_machine.specs.declared.types.Event.{Event}
use Rattle.fact_machine.specs.Lengths.{SeeLengths, lengths_of}
use Rattle.fact_machine.specs.Typed.{TypedAnswer, TypedState}
use Rattle.fact_actions.specs.Calls.{side_memory}
use Rattle.fact_actions.specs.Honest.{AreHonest, AreHonestSync}
use Rattle.fact_actions.specs.Running.{Call}
use Rattle.fact_actions.specs.Sides.{options_of, side_abi, width_of_side}
use Rattle.fact_action_laws.specs.Faithful.{IsInLimits, ParamsAreThere, ResultsAreThere, results_answered}
use Rattle.fact_action_laws.proofs.Grounding.{members_ruled}
use Rattle.fact_action_laws.proofs.Membered.{members_formed}
use Rattle.fact_action_laws.specs.Requested.{params_parts, results_parts}
use Rattle.fact_action_laws.specs.Rooms.{parts_bytes}
use Rattle.fact_action_laws.proofs.TupleRooms.{params_take_no_more, results_take_no_more}
use Rattle.fact_lowering.specs.Room.{inner_room, measured_places}
use Rattle.fact_host.specs.declared.known.Known.{Known}
use Rattle.fact_host.specs.Describes.{named_calls}
use Rattle.fact_host.specs.Hosts.{AreAnswersUntil}
use Rattle.fact_host.specs.Rules.{Answers, bytes_of_memory}
use Rattle.fact_host.proofs.ItemRooms.{align_in, layout_most, places_in_room, size_in}
use Rattle.fact_call_laws.proofs.Area.{area_sound}
use Rattle.fact_call_laws.proofs.Back.{all_middle, answered_members, answered_room, core_typed, lifts_so}
use Rattle.fact_call_laws.proofs.Bounds.{params_within, results_within}
use Rattle.fact_call_laws.proofs.Given.{args_typed, given_is, given_members, given_room, side_is, state_typed, sync_sides}
use Rattle.fact_call_laws.proofs.Places.{CalleeDid, HonestParts, Parts, Ruled, callee_did, honest_parts, parts, ruled_parts}
use Rattle.fact_call_laws.proofs.Positions.{Answered, answered_so}
use Rattle.fact_call_laws.proofs.Setting.{Called, Named, Setting, described, is_import, lift_results_are, log, lower_results_are, may_leave, names, places, see_lengths}
use Rattle.fact_call_laws.proofs.Stays.{AsLong, answer_long, see_long}
use Rattle.fact_call_laws.proofs.Steps.{call_by, event_of}
use Rattle.fact_call_laws.proofs.Trapped.{map_on, next, start}

length_at : (ms : List (List ℕ)) (n : ℕ) → length (get_or ms n []) ≡ get_or (map length ms) n 0
length_at [] n = refl
length_at (m ∷ ms) zero = refl
length_at (m ∷ ms) (suc n) = length_at ms n

module _ (x : Setting) (h : Called x) where
  -- a memory that a side names has 65,536 bytes at first, and none stands for no bytes
  first_short : (o : Option ℕ) → (o ≡ x.call.lift.memory) → length (bytes_of_memory o h.outcome.first) ≤ 65536
  first_short None e = omega arith
  first_short (Some n) e =
      let there : x.call.lift.memory ≡ None → ⊥ = λ q. let bad : Some n ≡ None = e ∙ q in cc in
      omega (arith, ap (λ o. length (bytes_of_memory o h.outcome.first)) e, h.outcome.lift_memory.bytes there)

  lower_short : (o : Option ℕ) → (o ≡ x.call.lower.memory) → length (bytes_of_memory o h.outcome.first) ≤ 65536
  lower_short None e = omega arith
  lower_short (Some n) e =
      let there : x.call.lower.memory ≡ None → ⊥ = λ q. let bad : Some n ≡ None = e ∙ q in cc in
      omega (arith, ap (λ o. length (bytes_of_memory o h.outcome.first)) e, h.outcome.lower_memory.bytes there)

  pub params_there : ParamsAreThere (places x) x.adapter h.outcome.args h.outcome.first
  params_there =
      let w = width_of_side (options_of x.adapter.lift) in
      let from = layout_of (tuple_of x.adapter.lower.params) in
      let to = layout_of (tuple_of x.adapter.lift.params) in
      let typed = state_typed x h h.outcome.first h.outcome.state_typed in
      let taken = params_take_no_more (places x) x.tunables x.adapter h.outcome.args h.outcome.first x.values h.promised.checked (sync_sides x h) typed (args_typed x h) (given_is x h) in
      let inner = places_in_room (side_abi (options_of x.adapter.lift)) (tuple_members x.adapter.lift.params) (tuple_members x.adapter.lower.params) x.values h.promised.checked.params_agree
      (members_ruled 0 x.adapter.lower.params h.promised.checked.lower_params.valid) (members_ruled 0 x.adapter.lift.params h.promised.checked.lift_params.valid) (members_formed 0 x.adapter.lower.params h.promised.checked.lower_params.formed)
      (members_formed 0 x.adapter.lift.params h.promised.checked.lift_params.formed) (given_members x h) in
      let few : parts_bytes (options_of x.adapter.lift).encoding (params_parts (places x) x.tunables x.adapter h.outcome.args h.outcome.first) ≤ 16384 =
      omega (arith, taken, inner, align_in w to (layout_most (tuple_of x.adapter.lift.params)), size_in w from to, given_room x h) in
      let short : length (side_memory (places x) (options_of x.adapter.lower) h.outcome.first) ≤ 65536 =
      omega (arith, ap length (side_is x.types (places x) x.call.lower x.adapter.lower h.calls.lower h.outcome.first), lower_short x.call.lower.memory refl) in
      params_within (places x) x.tunables x.adapter h.outcome.args h.outcome.first x.values h.promised.checked (sync_sides x h) short (args_typed x h) (given_is x h) few

  -- A front of the log whose answers are honest.
  module _ (front rest : List Event) (last : Known) (log_is : log x ≡ front ++ rest) (ruled : AreAnswersUntil (Named x) x.call x.shapes (Some x.answered) h.outcome.known front last) (honest : AreHonestSync (places x) x.adapter h.outcome.args (named_calls (names x) front)) where
    abbrev call_of : Event → Call
    call_of e = call_by (names x e.func) e.args e.before e.answer

    module _ (cs : List Call) (callee : Call) (ds : List Call) (is : named_calls (names x) front ≡ cs ++ (callee ∷ ds)) (what : callee.what ≡ import.CoreDef x.adapter.callee) where
      split : Parts call_of front cs callee ds
      split = parts call_of front cs callee ds is

      calls_split : named_calls (names x) front ≡ named_calls (names x) split.front ++ (call_of split.middle ∷ named_calls (names x) split.behind)
      calls_split = ap (named_calls (names x)) split.is ∙ map_on call_of split.front (split.middle ∷ split.behind)

      ruled_here : Ruled (Named x) x.call x.shapes (Some x.answered) h.outcome.known last split.front split.middle split.behind
      ruled_here = ruled_parts (Named x) x.call x.shapes (Some x.answered) h.outcome.known last split.front split.middle split.behind (subst (λ l. AreAnswersUntil (Named x) x.call x.shapes (Some x.answered) h.outcome.known l last) split.is ruled)

      honest_here : HonestParts (places x) x.adapter (next x h) (start x h) (named_calls (names x) split.front) (call_of split.middle) (named_calls (names x) split.behind)
      honest_here = honest_parts (places x) x.adapter (next x h) (start x h) (named_calls (names x) split.front) (call_of split.middle) (named_calls (names x) split.behind) (subst (AreHonest (places x) x.adapter (next x h) (start x h)) calls_split honest)

      one : Answered x.code x.types x.call (places x) x.adapter (names x) (described x h) h.callable.once h.outcome.args x.shapes (Some x.answered) ruled_here.known ruled_here.known_behind split.middle
      one = answered_so x.code x.types x.call (places x) x.adapter (names x) (described x h) h.callable.once h.outcome.args x.shapes (Some x.answered) (Named x) (is_import x h) ruled_here.known ruled_here.known_behind split.middle ruled_here.role ruled_here.named ruled_here.rule honest_here.returned

      did : CalleeDid x.code x.types x.call (places x) x.adapter (names x) (described x h) h.callable.once h.outcome.args x.shapes (Some x.answered) (Named x) (is_import x h) ruled_here.known ruled_here.known_behind split.middle one
      did = callee_did x.code x.types x.call (places x) x.adapter (names x) (described x h) h.callable.once h.outcome.args x.shapes (Some x.answered) (Named x) (is_import x h) ruled_here.known ruled_here.known_behind split.middle one (ap (λ (c : Call). c.what) split.middle_is ∙ what)

      callee_is : callee ≡ call_by (names x split.middle.func) split.middle.args split.middle.before (Returns one.results one.after)
      callee_is = sym split.middle_is ∙ ap (λ z. call_by (names x split.middle.func) split.middle.args split.middle.before z) one.answer

      log_split : log x ≡ split.front ++ (split.middle ∷ (split.behind ++ rest))
      log_split = log_is ∙ ap (λ l. l ++ rest) split.is ∙ append_assoc split.front (split.middle ∷ split.behind) rest

      after_typed : TypedState x.code one.after
      after_typed =
          let typed = all_middle (λ v. TypedAnswer x.code v.func v.before v.answer) split.front split.middle (split.behind ++ rest) (subst (All (λ v. TypedAnswer x.code v.func v.before v.answer)) log_split h.outcome.answers_typed) in
          (subst (TypedAnswer x.code split.middle.func split.middle.before) one.answer typed).1

      as_long : AsLong split.middle.before one.after
      as_long = answer_long x.call x.shapes (Some x.answered) ruled_here.role ruled_here.known ruled_here.known_behind split.middle.func split.middle.args one.results split.middle.before one.after
          (subst (λ z. Answers x.call x.shapes (Some x.answered) ruled_here.role ruled_here.known (event_of split.middle.func split.middle.args split.middle.before z) ruled_here.known_behind) one.answer ruled_here.rule)

      short_by : (o : Option ℕ) → o ≡ x.call.lift.memory → length (bytes_of_memory o one.after) ≤ 65536
      short_by None e = omega arith
      short_by (Some n) e =
          let first : get_or (lengths_of h.outcome.first) n 0 ≤ 65536 = omega (arith, first_short (Some n) e, length_at h.outcome.first.memories n) in
          let before = see_long (Named x) x.call x.shapes (Some x.answered) h.outcome.known ruled_here.known split.front split.middle (split.behind ++ rest) (lengths_of h.outcome.first) n 65536 first ruled_here.front_ruled (subst (SeeLengths (lengths_of h.outcome.first)) log_split (see_lengths x h)) in
          omega (arith, before, as_long n)

      short : length (side_memory (places x) (options_of x.adapter.lift) one.after) ≤ 65536
      short = omega (arith, ap length (side_is x.types (places x) x.call.lift x.adapter.lift h.calls.lift one.after), short_by x.call.lift.memory refl)

      same_values : did.values ≡ x.answered
      same_values = same_some (Some x.answered) did.values x.answered did.answer_is refl

      -- they are what the callee answered
      pub results_are : results_answered (places x) x.adapter callee ≡ Some x.answered
      results_are = ap (results_answered (places x) x.adapter) callee_is ∙ lifts_so x h one.results one.after x.answered (did.stores.lifts ∙ ap Some same_values)

      pub results_there : ResultsAreThere (places x) x.adapter callee
      results_there =
          let lifts = lifts_so x h one.results one.after x.answered (did.stores.lifts ∙ ap Some same_values) in
          let core = core_typed x h one.results did.core in
          let typed = state_typed x h one.after after_typed in
          let taken = results_take_no_more (places x) x.tunables x.adapter h.outcome.args one.results one.after x.answered h.promised.checked (sync_sides x h) typed core lifts in
          let inner = places_in_room (side_abi (options_of x.adapter.lower)) (tuple_members x.adapter.lower.results) (tuple_members x.adapter.lift.results) x.answered h.promised.checked.results_agree
          (members_ruled 0 x.adapter.lift.results h.promised.checked.lift_results.valid) (members_ruled 0 x.adapter.lower.results h.promised.checked.lower_results.valid) (members_formed 0 x.adapter.lift.results h.promised.checked.lift_results.formed)
          (members_formed 0 x.adapter.lower.results h.promised.checked.lower_results.formed) (answered_members x h) in
          let room_is : measured_places inner_room (tuple_members x.adapter.lift.results) x.answered (tuple_members x.adapter.lower.results) ≡ measured_places inner_room (tuple_members x.shapes.lift_results) x.answered (tuple_members x.shapes.lower_results) =
          ap (λ ts. measured_places inner_room (tuple_members ts) x.answered (tuple_members x.adapter.lower.results)) (lift_results_are x h) ∙ ap (λ us. measured_places inner_room (tuple_members x.shapes.lift_results) x.answered (tuple_members us)) (lower_results_are x h) in
          let few : parts_bytes (options_of x.adapter.lower).encoding (results_parts (places x) x.tunables x.adapter h.outcome.args one.results one.after) ≤ 16384 = omega (arith, taken, inner, room_is, answered_room x h) in
          subst (ResultsAreThere (places x) x.adapter) (sym callee_is) (record {
            values = x.answered;
            there = lifts;
            bounds = results_within (places x) x.tunables x.adapter h.outcome.args one.results one.after x.answered h.promised.checked (sync_sides x h) short core lifts few;
          })

    pub in_limits : IsInLimits (places x) x.adapter h.outcome.args h.outcome.first (named_calls (names x) front)
    in_limits = record { may_leave = may_leave x h; params = params_there; area = area_sound x h; results = results_there }
