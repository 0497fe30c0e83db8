-- A function that does its adapter's action behaves. Where a run has ended, and is typed there, it is what the action comes to; so
-- each law of the actions of adapters is one of its runs: there is one lemma for each clause of `Behaves`, by the law that it cites.
use Rattle.std.proofs.Common.{◌≡◌, ◌≢◌, ℕ, ◌+◌, ◌*◌, ◌≤◌, true, false, List, [], ◌∷◌, Some, sym, ap, ◌∙◌, subst, arith, inl, inr, length, map, reverse, ◌++◌}
use Rattle.fact_wasm.specs.declared.module.WasmModule.{WasmModule}
use Rattle.fact_machine.specs.declared.types.Answer.{Answer}
use Rattle.fact_machine.specs.declared.types.CoreValue.{CoreValue}
use Rattle.fact_machine.specs.declared.types.CoreValue.TheVariants.{I32}
use Rattle.fact_machine.specs.declared.types.End.{End}
use Rattle.fact_machine.specs.declared.types.End.TheVariants.{Returned, Going, Stuck}
use Rattle.fact_machine.specs.declared.types.Event.{Event}
use Rattle.fact_machine.specs.declared.types.MachineState.{MachineState}
use Rattle.fact_machine.specs.declared.types.Outcome.{Outcome}
use Rattle.fact_machine.specs.Exits.{entry_locals, first_world}
use Rattle.fact_machine.specs.Machine.{run_of}
use Rattle.fact_machine.specs.Trace.{Grows, trace_of}
use Rattle.fact_machine.specs.World.{Trap, Throw, Lack, calls}
use Rattle.fact_machine.proofs.Grows.{run_log}
use Rattle.fact_machine.proofs.Laws.{IsOver as HasEnded, over_or_going}
use Rattle.fact_types.specs.declared.import.Import.{Import}
use Rattle.fact_types.specs.declared.import.Import.TheVariants as import
use Rattle.fact_types.specs.Adapters.{LinkedAdapter}
use Rattle.fact_actions.specs.Adapters.{AdapterTunables, lower_signature_of}
use Rattle.fact_actions.specs.Confined.{GiveUpLive, AreOwnWrites, AreRangedSync, HaveHonestTranscoders, room_in}
use Rattle.fact_actions.specs.Honest.{IsHonestFrom, IsHonestRun, IsStraight}
use Rattle.fact_actions.specs.Laws.{call_event}
use Rattle.fact_actions.specs.Order.{AreOrderedCalls, flag_in}
use Rattle.fact_actions.specs.Plain.{ended_sync, named_outcome}
use Rattle.fact_actions.specs.Regions.{landed, params_landing, sync_moved_on}
use Rattle.fact_actions.specs.Running.{Call, Ended, Gave, Halted, Strayed, calls_in, is_state, moved_weight, world_in}
use Rattle.fact_actions.proofs.Barriers.{sync_runs_follow}
use Rattle.fact_actions.proofs.Confines.{writes_are_confined, requests_give_up_live}
use Rattle.fact_actions.proofs.Ordered.{calls_are_ordered}
use Rattle.fact_actions.proofs.Stays.{typed_runs_stay}
use Rattle.fact_code_laws.specs.Runs.{RunReturns, RunsAs}
use Rattle.fact_action_laws.specs.Faithful.{IsFaithful, IsInLimits, IsTransferred, WhereGiven, params_given, params_passed, whole_weight}
use Rattle.fact_action_laws.proofs.Ending.{honest_returned}
use Rattle.fact_action_laws.proofs.Stopping.{AreReturned}
use Rattle.fact_action_laws.specs.Answerable.{CanBeAnswered}
use Rattle.fact_action_laws.specs.Premises.{KnowsMemories}
use Rattle.fact_action_laws.specs.ReadTexts.{AreValuesThere, ReadTexts}
use Rattle.fact_action_laws.specs.Requested.{AsksForValues, StopsFinishing}
use Rattle.fact_action_laws.proofs.AdapterRanges.{transcoders_are_ranged, transcoders_can_be_answered}
use Rattle.fact_action_laws.proofs.AdapterReads.{transcoders_read_texts}
use Rattle.fact_action_laws.specs.PassingChecks.{PassChecks}
use Rattle.fact_action_laws.proofs.ChecksPass.{adapters_come_to_end}
use Rattle.fact_action_laws.proofs.Finished.{adapters_are_faithful, adapters_weigh}
use Rattle.fact_action_laws.proofs.Prefixes.{callees_are_given}
use Rattle.fact_action_laws.proofs.AdapterRequests.{requests_are_called_for}
use Rattle.fact_function_laws.specs.Functions.{IsAdapterFunction, core_results, start_results}
use Rattle.fact_function_laws.specs.Laws.{FunctionsBehave}
use Rattle.fact_function_laws.specs.Names.{places_in, AreCalls}
use Rattle.fact_function_laws.specs.Runs.{CallNoTrap, EndsSoon, HasAsked, IsHonestSoFar, IsHonestUntilTrapSoFar, IsNamedPlainRun, IsOver, IsTypedRun}
use Rattle.fact_function_laws.proofs.Fronts.{stays}
use Rattle.fact_function_laws.proofs.ImportNumbers.{places_name, as_many}
use Rattle.fact_function_laws.proofs.TypedCalls.{are_places, named_types}
use Rattle.fact_function_laws.proofs.FunctionRuns.{EndsIn, HasEndedIn, args_typed, comes_to_end, has_ended, is_named_plain, not_stuck, runs_as, state_typed, trace_front}
use Rattle.fact_function_laws.proofs.Outcomes.{GaveResults, gave_results, gives_or_lacks, over_not_going, over_of, returned_not_going}
use Rattle.fact_function_laws.proofs.OwnAnswers.{HasCalled, has_called, its_answers}
use Rattle.fact_function_laws.proofs.OwnWrites.{own_front}
use Rattle.fact_function_laws.proofs.Rooms.{has_room}
use Rattle.fact_function_laws.proofs.TrapsLast.{adapter_calls_no_trap}
use Rattle.fact_wasm.specs.declared.types.FuncType.{FuncType}
use Rattle.fact_machine.specs.Typed.{are_values}
use Rattle.fact_actions.specs.TypedAnswers.{result_types}
use Rattle.fact_code_laws.specs.Does.{EndsSo, Onward}
use Rattle.fact_code_laws.specs.PieceLaws.{HaveResultTypes}
use Rattle.fact_compound.specs.Syncs.{lower_type_of}
use Rattle.fact_emit.specs.ImportSection.{mentions}

-- ---- ends

ended_is_over : {e : End} → HasEnded e → e ≢ Going
ended_is_over h q = subst HasEnded q h

-- ---- runs

module _ (m : WasmModule) (is : List Import) (u : AdapterTunables) (a : LinkedAdapter) (adapters : List LinkedAdapter) (f : ℕ) (h : IsAdapterFunction m is u a adapters f)
    (args : List CoreValue) (before : MachineState) (answers : List Answer) where
  -- what the adapter's action comes to
  abbrev end : Ended (List CoreValue)
  end = ended_sync (places_in m is) u a args (first_world before answers)

  abbrev at : ℕ → Outcome
  at steps = run_of m f args before answers steps

  -- and so does the function's body
  ends_in : EndsIn m is (places_in m is) (result_types (core_results m is) (start_results m is)) adapters f a.lower.core_type 1000 (λ xs w. ended_sync (places_in m is) u a xs w)
  ends_in = record {
    function = h.function;
    function_is = h.function_is;
    type_is = h.type_is ∙ ap Some (sym h.core_type);
    names = h.names;
    naming = places_name m is;
    are = are_places m is;
    types_are = named_types m is (mentions adapters) h.names.named;
    ends = λ xs w typed.
        let own : are_values xs (lower_type_of a).params ≡ true = subst (λ (t : FuncType). are_values xs t.params ≡ true) h.core_type typed in
        subst (λ (t : FuncType). EndsSo m (places_in m is) Onward 1000 0 w [] (entry_locals h.function xs) h.function.body reverse (HaveResultTypes t) (ended_sync (places_in m is) u a xs w)) (sym h.core_type) ((h.does.does xs own).by w);
    follows = λ xs w. sync_runs_follow (places_in m is) u a xs w;
    stays_typed = λ xs w. typed_runs_stay (places_in m is) u a xs w (core_results m is) (start_results m is) h.places h.core_types;
  }

  plain : ((steps : ℕ) → IsTypedRun m a args before (at steps).log) → IsNamedPlainRun m is f args before answers (named_outcome end)
  plain all = is_named_plain m is (places_in m is) _ adapters f a.lower.core_type 1000 _ ends_in args before answers all

  never_stuck : (steps : ℕ) → IsTypedRun m a args before (at steps).log → (at steps).end ≢ Stuck
  never_stuck steps typed = not_stuck m is (places_in m is) _ adapters f a.lower.core_type 1000 _ ends_in args before answers steps typed

  -- a run that has ended, and is typed there
  ended : (steps : ℕ) → IsTypedRun m a args before (at steps).log → (at steps).end ≢ Going → HasEndedIn m is (places_in m is) (at steps) end
  ended steps typed over = has_ended m is (places_in m is) _ adapters f a.lower.core_type 1000 _ ends_in args before answers steps typed over

  ends_so : (steps : ℕ) → HasEndedIn m is (places_in m is) (at steps) end → (at steps).end ≡ (named_outcome end).end
  ends_so steps e = ap (λ (o : Outcome). o.end) e.outcome

  is_typed_state : (log : List Event) → IsTypedRun m a args before log → is_state (places_in m is) before ≡ true
  is_typed_state log typed = state_typed m is (places_in m is) _ adapters f a.lower.core_type 1000 _ ends_in args before answers log typed

  -- ---- a run that is typed so far

  module _ (steps : ℕ) (typed : IsTypedRun m a args before (at steps).log) where
    abbrev front : Grows (trace_of m f args before answers steps) (world_in end).trace
    front = trace_front m is (places_in m is) _ adapters f a.lower.core_type 1000 _ ends_in args before answers steps typed

    is_confined : (cs : List Call) → AreCalls m is (at steps).log cs
        → AreOwnWrites (places_in m is) (sync_moved_on a args) (landed (params_landing a)) (room_in (places_in m is) (landed (params_landing a)) before) (trace_of m f args before answers steps) cs
    is_confined cs are =
        let whole = writes_are_confined (places_in m is) u a args before answers h.checked.own_callee (has_room (places_in m is) a h.checked) in
        let log : calls (trace_of m f args before answers steps ++ front.more) ≡ map (call_event (places_in m is)) (calls_in end) = ap calls (sym front.is) ∙ (ends_in.follows args (first_world before answers)).log in
        own_front m is (sync_moved_on a args) (landed (params_landing a)) (room_in (places_in m is) (landed (params_landing a)) before) (trace_of m f args before answers steps) front.more (calls_in end) log
        (subst (λ es. AreOwnWrites (places_in m is) (sync_moved_on a args) (landed (params_landing a)) (room_in (places_in m is) (landed (params_landing a)) before) es (calls_in end)) front.is whole) cs
        (subst (λ l. AreCalls m is l cs) (run_log m f args before answers steps) are)

  -- what the action comes to with the answers in the log so far alone
  abbrev so_far : ℕ → Ended (List CoreValue)
  so_far steps = ended_sync (places_in m is) u a args (first_world before (its_answers m f args before answers steps))

  called_so_far : (steps : ℕ) → IsTypedRun m a args before (at steps).log → HasCalled m is (at steps).log (so_far steps)
  called_so_far steps typed = has_called m is (places_in m is) _ adapters f a.lower.core_type 1000 _ ends_in args before answers steps typed

  memories : KnowsMemories (places_in m is) a
  memories = record { lower = h.checked.lower_memory; lift = h.checked.lift_memory; two = h.checked.memories }

  gives_up_live : (steps : ℕ) (cs : List Call) → IsTypedRun m a args before (at steps).log → AreCalls m is (at steps).log cs → GiveUpLive a (sync_moved_on a args) (landed (params_landing a)) cs
  gives_up_live steps cs typed are =
      let e = called_so_far steps typed in
      subst (GiveUpLive a (sync_moved_on a args) (landed (params_landing a))) (sym (e.its_calls cs are))
      (requests_give_up_live (places_in m is) u a args (first_world before (its_answers m f args before answers steps)) h.checked.own_callee (has_room (places_in m is) a h.checked))

  is_ranged : (steps : ℕ) (cs : List Call) → IsTypedRun m a args before (at steps).log → AreCalls m is (at steps).log cs → HaveHonestTranscoders (places_in m is) cs → AreRangedSync (places_in m is) a args cs
  is_ranged steps cs typed are honest =
      let e = called_so_far steps typed in
      let same = e.its_calls cs are in
      subst (AreRangedSync (places_in m is) a args) (sym same)
      (transcoders_are_ranged (places_in m is) u a args (first_world before (its_answers m f args before answers steps)) h.checked.own_callee memories (is_typed_state (at steps).log typed) e.goes_straight (subst (HaveHonestTranscoders (places_in m is)) same honest))

  can_be_answered : (steps : ℕ) (cs : List Call) → IsTypedRun m a args before (at steps).log → AreCalls m is (at steps).log cs → HaveHonestTranscoders (places_in m is) cs → CanBeAnswered (places_in m is) cs
  can_be_answered steps cs typed are honest =
      let e = called_so_far steps typed in
      let same = e.its_calls cs are in
      subst (CanBeAnswered (places_in m is)) (sym same)
      (transcoders_can_be_answered (places_in m is) u a args (first_world before (its_answers m f args before answers steps)) h.checked.own_callee memories (is_typed_state (at steps).log typed) e.goes_straight (subst (HaveHonestTranscoders (places_in m is)) same honest))

  -- ---- runs that returned

  module _ (steps : ℕ) (results : List CoreValue) (typed : IsTypedRun m a args before (at steps).log) (returns : (at steps).end ≡ Returned results) where
    its_end : HasEndedIn m is (places_in m is) (at steps) end
    its_end = ended steps typed (returned_not_going returns)

    gave : GaveResults end results
    gave = gave_results end results its_end.goes_straight (sym (ends_so steps its_end) ∙ returns)

    its_state : (at steps).state ≡ gave.world.state
    its_state = ap (λ (o : Outcome). o.state) its_end.outcome ∙ ap (λ (e : Ended (List CoreValue)). (named_outcome e).state) gave.is

    gave_calls : (calls : List Call) → AreCalls m is (at steps).log calls → calls ≡ gave.calls
    gave_calls calls are = its_end.its_calls calls are ∙ ap calls_in gave.is

    is_ordered : (calls : List Call) → AreCalls m is (at steps).log calls → AreOrderedCalls (places_in m is) u a before calls (at steps).state
    is_ordered calls are =
        let ordered = calls_are_ordered (places_in m is) u a args (first_world before answers) gave.world gave.weight gave.calls results gave.is in
        subst (λ cs. AreOrderedCalls (places_in m is) u a before cs (at steps).state) (sym (gave_calls calls are))
        (subst (λ s. AreOrderedCalls (places_in m is) u a before gave.calls s) (sym its_state) ordered)

    returns_by : RunReturns m f args before answers 1000 0 (λ (vs : List CoreValue). vs) gave.weight results gave.world
    returns_by = subst (λ (e : Ended (List CoreValue)). RunsAs m f args before answers 1000 0 (λ (vs : List CoreValue). vs) e) gave.is (runs_as m is (places_in m is) _ adapters f a.lower.core_type 1000 _ ends_in args before answers (at steps).log typed)

    -- from its last step on the run is the same
    same_from : (n : ℕ) → returns_by.steps ≤ n → at n ≡ at steps
    same_from n more =
        returns_by.comes.outcome n more ∙ sym (returns_by.comes.outcome (steps + returns_by.steps) (omega arith))
        ∙ stays m f args before answers steps (returned_not_going returns) (steps + returns_by.steps) (omega arith)

  -- ---- honest runs

  -- at an end whose calls are those so far
  honest_at : {Honest : List Call → Type 0} (e : Ended (List CoreValue)) (steps : ℕ) → IsTypedRun m a args before (at steps).log → IsStraight e → (calls : List Call) → calls ≡ calls_in e → Honest calls
      → IsHonestFrom (places_in m is) (lower_signature_of a).params Honest args before e
  honest_at {Honest} e steps typed straight calls same honest = record {
    state_typed = is_typed_state (at steps).log typed;
    args_typed = subst (λ (t : FuncType). are_values args t.params ≡ true) h.core_type (args_typed m is (places_in m is) _ adapters f a.lower.core_type 1000 _ ends_in args before answers (at steps).log typed);
    typed = straight;
    honest = subst Honest same honest;
  }

  honest_run : {Honest : List Call → Type 0} (steps : ℕ) → IsTypedRun m a args before (at steps).log → HasEndedIn m is (places_in m is) (at steps) end → (calls : List Call) → AreCalls m is (at steps).log calls → Honest calls
      → IsHonestFrom (places_in m is) (lower_signature_of a).params Honest args before end
  honest_run {Honest} steps typed e calls are honest = honest_at {Honest = Honest} end steps typed e.goes_straight calls (e.its_calls calls are) honest

  module _ (steps : ℕ) (results : List CoreValue) (honest : IsHonestSoFar m is a args before (at steps).log) (returns : (at steps).end ≡ Returned results) where
    run_is_honest : IsHonestRun (places_in m is) a args before end
    run_is_honest = honest_run steps honest.typed (its_end steps results honest.typed returns) honest.calls honest.are_calls honest.honest

    abbrev given : GaveResults end results
    given = gave steps results honest.typed returns

    is_faithful : IsFaithful (places_in m is) a args before honest.calls results (at steps).state
    is_faithful =
        let whole = adapters_are_faithful (places_in m is) u a args (first_world before answers) h.checked h.sync_sides run_is_honest in
        let faithful : IsFaithful (places_in m is) a args before given.calls results given.world.state = subst (λ (e : Ended (List CoreValue)). WhereGiven e (λ cs vs w. IsFaithful (places_in m is) a args before cs vs w.state)) given.is whole in
        subst (λ cs. IsFaithful (places_in m is) a args before cs results (at steps).state) (sym (gave_calls steps results honest.typed returns honest.calls honest.are_calls))
        (subst (λ s. IsFaithful (places_in m is) a args before given.calls results s) (sym (its_state steps results honest.typed returns)) faithful)

    weighs : given.weight ≡ whole_weight (places_in m is) a args before honest.calls
    weighs =
        let whole = adapters_weigh (places_in m is) u a args (first_world before answers) h.checked h.sync_sides run_is_honest in
        let by_end : moved_weight end ≡ whole_weight (places_in m is) a args before given.calls = subst (λ (e : Ended (List CoreValue)). WhereGiven e (λ cs vs w. moved_weight end ≡ whole_weight (places_in m is) a args before cs)) given.is whole in
        ap moved_weight (sym given.is) ∙ by_end ∙ ap (whole_weight (places_in m is) a args before) (sym (gave_calls steps results honest.typed returns honest.calls honest.are_calls))

    takes_few_steps : at (1000 * (whole_weight (places_in m is) a args before honest.calls + 1)) ≡ at steps
    takes_few_steps = same_from steps results honest.typed returns (1000 * (whole_weight (places_in m is) a args before honest.calls + 1)) (omega (arith, (returns_by steps results honest.typed returns).bound, weighs))

  -- ---- requests

  asked_by : (e : Ended (List CoreValue)) → IsStraight e → AsksForValues (places_in m is) u a args before e → HasAsked (places_in m is) u a args before (named_outcome e).end (calls_in e)
  asked_by (Gave n cs vs w) s r = r
  asked_by (Halted n cs Trap w) s r = r
  asked_by (Halted n cs Throw w) s r = r
  asked_by (Halted n cs Lack w) s r = r
  asked_by (Strayed n cs w) s r = absurd s

  asked_so_far : (e : Ended (List CoreValue)) → IsStraight e → AsksForValues (places_in m is) u a args before e → HasAsked (places_in m is) u a args before Going (calls_in e)
  asked_so_far (Gave n cs vs w) s r = λ may. StopsFinishing r
  asked_so_far (Halted n cs t w) s r = r
  asked_so_far (Strayed n cs w) s r = absurd s

  asks : (steps : ℕ) (honest : IsHonestUntilTrapSoFar m is a args before (at steps).log) → HasAsked (places_in m is) u a args before (at steps).end honest.calls
  asks steps honest = elim (over_or_going (at steps).end) [ inl ended ↦ asked (ended_is_over ended) | inr going ↦ subst (λ e. HasAsked (places_in m is) u a args before e honest.calls) (sym going) asked_going ]
    where
      asked : (at steps).end ≢ Going → HasAsked (places_in m is) u a args before (at steps).end honest.calls
      asked over =
          let e = ended steps honest.typed over in
          let honest_end = honest_run steps honest.typed e honest.calls honest.are_calls honest.honest in
          let requested = requests_are_called_for (places_in m is) u a args (first_world before answers) h.checked honest_end in
          subst (λ e. HasAsked (places_in m is) u a args before e honest.calls) (sym (ends_so steps e))
          (subst (HasAsked (places_in m is) u a args before (named_outcome end).end) (sym (e.its_calls honest.calls honest.are_calls)) (asked_by end e.goes_straight requested))

      asked_going : HasAsked (places_in m is) u a args before Going honest.calls
      asked_going =
          let e = called_so_far steps honest.typed in
          let same = e.its_calls honest.calls honest.are_calls in
          let honest_end = honest_at (so_far steps) steps honest.typed e.goes_straight honest.calls same honest.honest in
          let requested = requests_are_called_for (places_in m is) u a args (first_world before (its_answers m f args before answers steps)) h.checked honest_end in
          subst (HasAsked (places_in m is) u a args before Going) (sym same) (asked_so_far (so_far steps) e.goes_straight requested)

  callee_is_given : (steps : ℕ) (honest : IsHonestUntilTrapSoFar m is a args before (at steps).log) → u.debug ≡ false → flag_in (places_in m is) a.lower.instance before.globals ≢ I32 0
      → (front : List Call) (callee : Call) (behind : List Call) → honest.calls ≡ front ++ (callee ∷ behind) → callee.what ≡ import.CoreDef a.callee
      → IsTransferred a.lower.params a.lift.params (params_given (places_in m is) a args before) (params_passed (places_in m is) a callee) front
  callee_is_given steps honest off may front callee behind parted called =
      let e = called_so_far steps honest.typed in
      let same = e.its_calls honest.calls honest.are_calls in
      callees_are_given (places_in m is) u a args (first_world before (its_answers m f args before answers steps)) off may h.checked h.sync_sides
      (honest_at (so_far steps) steps honest.typed e.goes_straight honest.calls same honest.honest) front callee behind (sym same ∙ parted) called

  reads_texts : (steps : ℕ) (honest : IsHonestUntilTrapSoFar m is a args before (at steps).log) → flag_in (places_in m is) a.lower.instance before.globals ≢ I32 0
      → AreValuesThere (places_in m is) a args before honest.calls → ReadTexts (places_in m is) honest.calls
  reads_texts steps honest may there =
      let e = called_so_far steps honest.typed in
      let same = e.its_calls honest.calls honest.are_calls in
      subst (ReadTexts (places_in m is)) (sym same)
      (transcoders_read_texts (places_in m is) u a args (first_world before (its_answers m f args before answers steps)) may h.checked h.sync_sides
      (honest_at (so_far steps) steps honest.typed e.goes_straight honest.calls same honest.honest) (subst (AreValuesThere (places_in m is) a args before) same there))

  -- ---- traps

  calls_no_trap : (steps : ℕ) (honest : IsHonestSoFar m is a args before (at steps).log) → IsOver (at steps).end → CallNoTrap honest.calls
  calls_no_trap steps honest over =
      let e = ended steps honest.typed (over_not_going (at steps).end over) in
      let same = e.its_calls honest.calls honest.are_calls in
      let returned = honest_returned (places_in m is) a (sync_moved_on a args) (landed (params_landing a)) honest.calls honest.honest in
      let gives = gives_or_lacks end e.goes_straight (subst IsOver (ends_so steps e) over) in
      subst CallNoTrap (sym same) (adapter_calls_no_trap u a (places_in m is) args (first_world before answers) (subst AreReturned same returned) gives)

  -- ---- runs that come to their end

  module _ (honest : (steps : ℕ) → IsHonestSoFar m is a args before (at steps).log) (pass : (steps : ℕ) → PassChecks u a args (honest steps).calls) (limits : (steps : ℕ) → IsInLimits (places_in m is) a args before (honest steps).calls) where
    always : (steps : ℕ) → IsTypedRun m a args before (at steps).log
    always steps = (honest steps).typed

    ends : (steps : ℕ) × EndsSoon m is a args before (at steps)
    ends =
        let settles = (plain always).plain in
        let last = settles.steps in
        let e = comes_to_end m is (places_in m is) _ adapters f a.lower.core_type 1000 _ ends_in args before answers always last (settles.is last (omega arith)) in
        let same : (honest last).calls ≡ calls_in end = e.its_calls (honest last).calls (honest last).are_calls in
        let honest_end = honest_run last (always last) e (honest last).calls (honest last).are_calls (honest last).honest in
        let comes = adapters_come_to_end (places_in m is) u a args (first_world before answers) (subst (PassChecks u a args) same (pass last)) h.checked h.sync_sides honest_end (subst (IsInLimits (places_in m is) a args before) same (limits last)) in
        let long : length (at last).log ≡ length (honest last).calls = as_many m is (at last).log (honest last).calls (honest last).are_calls in (
          last,
          record {
            over = subst IsOver (sym (ends_so last e)) (over_of end comes.ends);
            calls = (honest last).calls;
            are_calls = (honest last).are_calls;
            few = omega (arith, long, ap length same, comes.few, ap (whole_weight (places_in m is) a args before) same);
          },
        )

pub functions_behave : FunctionsBehave
functions_behave m is u a adapters f h = record {
  plain = λ args before answers typed. plain m is u a adapters f h args before answers typed;
  not_stuck = λ args before answers steps typed. never_stuck m is u a adapters f h args before answers steps typed;
  is_faithful = λ args before answers steps results honest returns. is_faithful m is u a adapters f h args before answers steps results honest returns;
  takes_few_steps = λ args before answers steps results honest returns. takes_few_steps m is u a adapters f h args before answers steps results honest returns;
  is_ordered = λ args before answers steps results calls typed are returns. is_ordered m is u a adapters f h args before answers steps results typed returns calls are;
  requests_are_called_for = λ args before answers steps honest. asks m is u a adapters f h args before answers steps honest;
  callee_is_given = λ args before answers steps honest off may front callee behind parted called. callee_is_given m is u a adapters f h args before answers steps honest off may front callee behind parted called;
  reads_texts = λ args before answers steps honest may there. reads_texts m is u a adapters f h args before answers steps honest may there;
  calls_no_trap = λ args before answers steps honest over. calls_no_trap m is u a adapters f h args before answers steps honest over;
  is_confined = λ args before answers steps cs typed are. is_confined m is u a adapters f h args before answers steps typed cs are;
  gives_up_live = λ args before answers steps cs typed are. gives_up_live m is u a adapters f h args before answers steps cs typed are;
  is_ranged = λ args before answers steps cs typed are honest. is_ranged m is u a adapters f h args before answers steps cs typed are honest;
  can_be_answered = λ args before answers steps cs typed are honest. can_be_answered m is u a adapters f h args before answers steps cs typed are honest;
  comes_to_end = λ args before answers honest pass limits. ends m is u a adapters f h args before answers honest pass limits;
}
