-- A function that moves the values of one part of an async adapter: where a run has ended, and is typed there, it is what that part's action
-- comes to; so each law of these actions is one of its runs.
use Rattle.std.proofs.Common.{◌≡◌, ◌≢◌, ℕ, ◌+◌, ◌*◌, ◌≤◌, true, List, Option, sym, ap, ◌∙◌, subst, arith, inl, inr, length, map, ◌++◌}
use Rattle.fact_wasm.specs.declared.module.WasmModule.{WasmModule}
use Rattle.fact_machine.specs.declared.types.Answer.{Answer}
use Rattle.fact_machine.specs.declared.types.CoreValue.{CoreValue}
use Rattle.fact_machine.specs.declared.types.End.{End}
use Rattle.fact_machine.specs.declared.types.End.TheVariants.{Returned, Going}
use Rattle.fact_machine.specs.declared.types.Event.{Event}
use Rattle.fact_machine.specs.declared.types.MachineState.{MachineState}
use Rattle.fact_machine.specs.declared.types.Outcome.{Outcome}
use Rattle.fact_machine.specs.Exits.{first_world}
use Rattle.fact_machine.specs.Machine.{run_of}
use Rattle.fact_machine.specs.Trace.{Grows, trace_of}
use Rattle.fact_machine.specs.World.{World, Trap, Throw, Lack, calls}
use Rattle.fact_machine.proofs.Grows.{run_log}
use Rattle.fact_machine.proofs.Laws.{IsOver as HasEnded, over_or_going}
use Rattle.fact_types.specs.Adapters.{LinkedAdapter}
use Rattle.fact_types.specs.declared.import.Import.{Import}
use Rattle.fact_types.specs.declared.outside.CoreDef.{CoreDef}
use Rattle.fact_wasm.specs.declared.types.ValType.{ValType}
use Rattle.fact_actions.specs.Adapters.{AdapterTunables}
use Rattle.fact_actions.specs.AdapterLaws.{EndsTyped}
use Rattle.fact_actions.specs.Confined.{AreOwnWrites, HasRoomForValues, HaveHonestTranscoders, IsConfinedFrom, room_in}
use Rattle.fact_actions.specs.Honest.{IsHonestFrom, IsStraight}
use Rattle.fact_actions.specs.Laws.{call_event}
use Rattle.fact_actions.specs.Plain.{named_outcome}
use Rattle.fact_actions.specs.Regions.{landed, moved_on}
use Rattle.fact_actions.specs.Running.{ImportPlaces, Call, Ended, Gave, Halted, Strayed, calls_in, is_state, moved_weight, run, world_in}
use Rattle.fact_actions.specs.Calls.{HasOwnCallee}
use Rattle.fact_actions.specs.TypedAnswers.{HasPlaces, HaveCoreTypes, result_types}
use Rattle.fact_actions.proofs.Confines.{return_writes_are_confined, start_writes_are_confined}
use Rattle.fact_actions.proofs.Follows.{runs_follow}
use Rattle.fact_actions.proofs.Ordered.{return_is_transfer, start_is_transfer}
use Rattle.fact_actions.proofs.Stays.{typed_returns_stay, typed_starts_stay}
use Rattle.fact_code_laws.specs.Runs.{RunReturns, RunsAs}
use Rattle.fact_action_laws.specs.Faithful.{WhereGiven}
use Rattle.fact_action_laws.specs.FaithfulLaws.{IsCheckedAdapter}
use Rattle.fact_action_laws.specs.TransferLaws.{EndsInFew}
use Rattle.fact_action_laws.proofs.Returns.{returns_faithful, returns_weigh}
use Rattle.fact_action_laws.proofs.Starts.{starts_faithful, starts_weigh}
use Rattle.fact_action_laws.proofs.ChecksPass.{returns_come_to_end, starts_come_to_end}
use Rattle.fact_action_laws.specs.Answerable.{CanBeAnswered}
use Rattle.fact_action_laws.specs.Premises.{KnowsMemories}
use Rattle.fact_action_laws.specs.Requested.{AsksForParts}
use Rattle.fact_action_laws.specs.Trapped.{AreHonestUntilTrap}
use Rattle.fact_action_laws.proofs.AdapterRanges.{return_transcoders_are_ranged, return_transcoders_can_be_answered, start_transcoders_are_ranged, start_transcoders_can_be_answered}
use Rattle.fact_action_laws.proofs.Finished.{texts_move}
use Rattle.fact_action_laws.proofs.AsyncRequests.{asks_so_far, return_requests_are_called_for, start_requests_are_called_for}
use Rattle.fact_emit.specs.ImportSection.{mentions}
use Rattle.fact_compound.specs.AsyncParts.{part_action, part_type}
use Rattle.fact_compound.specs.declared.asyncs.AsyncPart.{AsyncPart}
use Rattle.fact_compound.specs.declared.asyncs.AsyncPart.TheVariants as part
use Rattle.fact_function_laws.specs.AsyncRuns.{AreHonestIn, AreRangedIn, AreThereIn, HasAskedIn, HasMoved, IsClearedTransfer, IsHonestIn, IsHonestUntilTrapIn, IsOverIn, IsTypedIn, part_landing, part_transfer, part_weight, request_parts, PassesChecksIn}
use Rattle.fact_function_laws.specs.Functions.{IsPartFunctionOf, core_results, start_results}
use Rattle.fact_function_laws.specs.Laws.{PartFunctionsTransfer}
use Rattle.fact_function_laws.specs.Names.{places_in, AreCalls}
use Rattle.fact_function_laws.specs.Runs.{CallNoTrap, IsNamedRun, IsOver}
use Rattle.fact_function_laws.proofs.Fronts.{stays}
use Rattle.fact_function_laws.proofs.FunctionRuns.{EndsIn, HasEndedIn, args_typed, comes_to_end, has_ended, is_named_plain, not_stuck, runs_as, state_typed, trace_front}
use Rattle.fact_function_laws.proofs.ImportNumbers.{as_many, places_name}
use Rattle.fact_function_laws.proofs.Outcomes.{GaveResults, gave_results, gives_or_lacks, over_not_going, over_of, returned_not_going}
use Rattle.fact_function_laws.proofs.OwnAnswers.{HasCalled, has_called, its_answers}
use Rattle.fact_function_laws.proofs.OwnWrites.{own_front}
use Rattle.fact_function_laws.proofs.Rooms.{has_room}
use Rattle.fact_function_laws.proofs.TrapsLast.{part_no_trap}
use Rattle.fact_function_laws.proofs.TypedCalls.{are_places, named_types}

-- ---- the laws of either part

module _ (p : ImportPlaces) (u : AdapterTunables) (a : LinkedAdapter) where
  part_stays : (x : AsyncPart) (xs : List CoreValue) (w : World) (core : CoreDef → List ValType) (start : (callback post_return : Option CoreDef) → List ValType) → HasPlaces p a → HaveCoreTypes core a
      → EndsTyped p (result_types core start) w (run p (part_action x u a xs) w)
  part_stays part.Start xs w core start places types = typed_starts_stay p u a xs w core start places types
  part_stays part.Return xs w core start places types = typed_returns_stay p u a xs w core start places types

  module _ (args : List CoreValue) (before : MachineState) (answers : List Answer) where
    abbrev come_to : AsyncPart → Ended (List CoreValue)
    come_to x = run p (part_action x u a args) (first_world before answers)

    abbrev AreHonestFrom : AsyncPart → (List Call → Type 0) → Type 0
    AreHonestFrom x Honest = IsHonestFrom p (part_type x a).params Honest args before (come_to x)

    part_confined : (x : AsyncPart) → HasOwnCallee a → HasRoomForValues a → IsConfinedFrom p moved_on (part_landing x a args) before (come_to x)
    part_confined part.Start own room = start_writes_are_confined p u a args before answers own room
    part_confined part.Return own room = return_writes_are_confined p u a args before answers own room

    part_ranged : (x : AsyncPart) → HasOwnCallee a → KnowsMemories p a → is_state p before ≡ true → IsStraight (come_to x) → HaveHonestTranscoders p (calls_in (come_to x)) → AreRangedIn x p a args (calls_in (come_to x))
    part_ranged part.Start own memories = start_transcoders_are_ranged p u a args (first_world before answers) own memories
    part_ranged part.Return own memories = return_transcoders_are_ranged p u a args (first_world before answers) own memories

    part_answered : (x : AsyncPart) → HasOwnCallee a → KnowsMemories p a → is_state p before ≡ true → IsStraight (come_to x) → HaveHonestTranscoders p (calls_in (come_to x)) → CanBeAnswered p (calls_in (come_to x))
    part_answered part.Start own memories = start_transcoders_can_be_answered p u a args (first_world before answers) own memories
    part_answered part.Return own memories = return_transcoders_can_be_answered p u a args (first_world before answers) own memories

    part_cleared : (x : AsyncPart) (w : World) (n : ℕ) (cs : List Call) (vs : List CoreValue) → come_to x ≡ Gave n cs vs w → IsClearedTransfer x p u.concurrency a before cs w.state
    part_cleared part.Start w n cs vs is = start_is_transfer p u a args (first_world before answers) w n cs vs is
    part_cleared part.Return w n cs vs is = return_is_transfer p u a args (first_world before answers) w n cs vs is

    part_moved : (x : AsyncPart) → IsCheckedAdapter p a → AreHonestFrom x (AreHonestIn x p a args) → WhereGiven (come_to x) (λ cs vs w. HasMoved x p a args before cs vs w.state)
    part_moved part.Start checked h = starts_faithful p u a args (first_world before answers) checked (texts_move p u a checked) h
    part_moved part.Return checked h = returns_faithful p u a args (first_world before answers) checked (texts_move p u a checked) h

    part_weighed : (x : AsyncPart) → IsCheckedAdapter p a → AreHonestFrom x (AreHonestIn x p a args) → WhereGiven (come_to x) (λ cs vs w. moved_weight (come_to x) ≡ part_weight x p a args before)
    part_weighed part.Start checked h = starts_weigh p u a args (first_world before answers) checked (texts_move p u a checked) h
    part_weighed part.Return checked h = returns_weigh p u a args (first_world before answers) checked (texts_move p u a checked) h

    part_asked : (x : AsyncPart) → KnowsMemories p a → AreHonestFrom x (AreHonestUntilTrap (AreHonestIn x p a args)) → AsksForParts (part_transfer x u a) (part_landing x a args) (request_parts x p u a args before) (come_to x)
    part_asked part.Start memories h = start_requests_are_called_for p u a args (first_world before answers) memories h
    part_asked part.Return memories h = return_requests_are_called_for p u a args (first_world before answers) memories h

    part_few : (x : AsyncPart) → IsCheckedAdapter p a → PassesChecksIn x u a args → AreThereIn x p a args before → AreHonestFrom x (AreHonestIn x p a args) → EndsInFew (part_weight x p a args before) (come_to x)
    part_few part.Start checked pass there h = starts_come_to_end p u a args (first_world before answers) pass checked h there
    part_few part.Return checked pass there h = returns_come_to_end p u a args (first_world before answers) pass checked h there.0 there.1

-- ---- functions

module _ (x : AsyncPart) (m : WasmModule) (is : List Import) (u : AdapterTunables) (a : LinkedAdapter) (adapters : List LinkedAdapter) (f : ℕ) (h : IsPartFunctionOf x m is u a adapters f) where
  abbrev p : ImportPlaces
  p = places_in m is

  abbrev comes_to : List CoreValue → World → Ended (List CoreValue)
  comes_to xs w = run p (part_action x u a xs) w

  ends_in : EndsIn m is p (result_types (core_results m is) (start_results m is)) adapters f (part_type x a) 1000 comes_to
  ends_in = record {
    function = h.function;
    function_is = h.function_is;
    type_is = h.type_is;
    names = h.names;
    naming = places_name m is;
    are = are_places m is;
    types_are = named_types m is (mentions adapters) h.names.named;
    ends = λ xs w typed. (h.does.does xs typed).by w;
    follows = λ xs w. runs_follow p (part_action x u a xs) w;
    stays_typed = λ xs w. part_stays p u a x xs w (core_results m is) (start_results m is) h.places h.core_types;
  }

  memories : KnowsMemories p a
  memories = record { lower = h.checked.lower_memory; lift = h.checked.lift_memory; two = h.checked.memories }

  -- ---- runs

  module _ (args : List CoreValue) (before : MachineState) (answers : List Answer) where
    abbrev end : Ended (List CoreValue)
    end = comes_to args (first_world before answers)

    abbrev at : ℕ → Outcome
    at steps = run_of m f args before answers steps

    plain : ((steps : ℕ) → IsTypedIn x m a args before (at steps).log) → IsNamedRun m is p f args before answers (named_outcome end)
    plain all = is_named_plain m is p _ adapters f (part_type x a) 1000 _ ends_in args before answers all

    ended : (steps : ℕ) → IsTypedIn x m a args before (at steps).log → (at steps).end ≢ Going → HasEndedIn m is p (at steps) end
    ended steps typed over = has_ended m is p _ adapters f (part_type x a) 1000 _ ends_in args before answers steps typed over

    ends_so : (steps : ℕ) → HasEndedIn m is p (at steps) end → (at steps).end ≡ (named_outcome end).end
    ends_so steps e = ap (λ (o : Outcome). o.end) e.outcome

    is_typed_state : (log : List Event) → IsTypedIn x m a args before log → is_state p before ≡ true
    is_typed_state log typed = state_typed m is p _ adapters f (part_type x a) 1000 _ ends_in args before answers log typed

    -- ---- a run that is typed so far

    confined : IsConfinedFrom p moved_on (part_landing x a args) before end
    confined = part_confined p u a args before answers x h.checked.own_callee (has_room p a h.checked)

    is_confined : (steps : ℕ) (cs : List Call) → IsTypedIn x m a args before (at steps).log → AreCalls m is (at steps).log cs
        → AreOwnWrites p moved_on (landed (part_landing x a args)) (room_in p (landed (part_landing x a args)) before) (trace_of m f args before answers steps) cs
    is_confined steps cs typed are =
        let front : Grows (trace_of m f args before answers steps) (world_in end).trace = trace_front m is p _ adapters f (part_type x a) 1000 _ ends_in args before answers steps typed in
        let log : calls (trace_of m f args before answers steps ++ front.more) ≡ map (call_event p) (calls_in end) = ap calls (sym front.is) ∙ (ends_in.follows args (first_world before answers)).log in
        own_front m is moved_on (landed (part_landing x a args)) (room_in p (landed (part_landing x a args)) before) (trace_of m f args before answers steps) front.more (calls_in end) log
        (subst (λ es. AreOwnWrites p moved_on (landed (part_landing x a args)) (room_in p (landed (part_landing x a args)) before) es (calls_in end)) front.is confined) cs
        (subst (λ l. AreCalls m is l cs) (run_log m f args before answers steps) are)

    -- what the action comes to with the answers in the log so far alone
    abbrev so_far : ℕ → Ended (List CoreValue)
    so_far steps = comes_to args (first_world before (its_answers m f args before answers steps))

    called_so_far : (steps : ℕ) → IsTypedIn x m a args before (at steps).log → HasCalled m is (at steps).log (so_far steps)
    called_so_far steps typed = has_called m is p _ adapters f (part_type x a) 1000 _ ends_in args before answers steps typed

    is_ranged : (steps : ℕ) (cs : List Call) → IsTypedIn x m a args before (at steps).log → AreCalls m is (at steps).log cs → HaveHonestTranscoders p cs → AreRangedIn x p a args cs
    is_ranged steps cs typed are honest =
        let e = called_so_far steps typed in
        let same = e.its_calls cs are in
        subst (AreRangedIn x p a args) (sym same)
        (part_ranged p u a args before (its_answers m f args before answers steps) x h.checked.own_callee memories (is_typed_state (at steps).log typed) e.goes_straight (subst (HaveHonestTranscoders p) same honest))

    can_be_answered : (steps : ℕ) (cs : List Call) → IsTypedIn x m a args before (at steps).log → AreCalls m is (at steps).log cs → HaveHonestTranscoders p cs → CanBeAnswered p cs
    can_be_answered steps cs typed are honest =
        let e = called_so_far steps typed in
        let same = e.its_calls cs are in
        subst (CanBeAnswered p) (sym same)
        (part_answered p u a args before (its_answers m f args before answers steps) x h.checked.own_callee memories (is_typed_state (at steps).log typed) e.goes_straight (subst (HaveHonestTranscoders p) same honest))

    -- ---- runs that returned

    module _ (steps : ℕ) (results : List CoreValue) (typed : IsTypedIn x m a args before (at steps).log) (returns : (at steps).end ≡ Returned results) where
      its_end : HasEndedIn m is p (at steps) end
      its_end = ended steps typed (returned_not_going returns)

      gave : GaveResults end results
      gave = gave_results end results its_end.goes_straight (sym (ends_so steps its_end) ∙ returns)

      its_state : (at steps).state ≡ gave.world.state
      its_state = ap (λ (o : Outcome). o.state) its_end.outcome ∙ ap (λ (e : Ended (List CoreValue)). (named_outcome e).state) gave.is

      gave_calls : (cs : List Call) → AreCalls m is (at steps).log cs → cs ≡ gave.calls
      gave_calls cs are = its_end.its_calls cs are ∙ ap calls_in gave.is

      is_transfer : (cs : List Call) → AreCalls m is (at steps).log cs → IsClearedTransfer x p u.concurrency a before cs (at steps).state
      is_transfer cs are =
          subst (λ ds. IsClearedTransfer x p u.concurrency a before ds (at steps).state) (sym (gave_calls cs are)) (subst (λ s. IsClearedTransfer x p u.concurrency a before gave.calls s) (sym its_state) (part_cleared p u a args before answers x gave.world gave.weight gave.calls results gave.is))

      returns_by : RunReturns m f args before answers 1000 0 (λ (vs : List CoreValue). vs) gave.weight results gave.world
      returns_by =
          subst (λ (e : Ended (List CoreValue)). RunsAs m f args before answers 1000 0 (λ (vs : List CoreValue). vs) e) gave.is (runs_as m is p _ adapters f (part_type x a) 1000 _ ends_in args before answers (at steps).log typed)

      same_from : (n : ℕ) → returns_by.steps ≤ n → at n ≡ at steps
      same_from n more =
          returns_by.comes.outcome n more ∙ sym (returns_by.comes.outcome (steps + returns_by.steps) (omega arith))
          ∙ stays m f args before answers steps (returned_not_going returns) (steps + returns_by.steps) (omega arith)

    -- ---- honest runs

    -- at an end whose calls are those so far
    honest_at : {Honest : List Call → Type 0} (e : Ended (List CoreValue)) (steps : ℕ) → IsTypedIn x m a args before (at steps).log → IsStraight e → (cs : List Call) → cs ≡ calls_in e → Honest cs
        → IsHonestFrom p (part_type x a).params Honest args before e
    honest_at {Honest} e steps typed straight cs same honest = record {
      state_typed = is_typed_state (at steps).log typed;
      args_typed = args_typed m is p _ adapters f (part_type x a) 1000 _ ends_in args before answers (at steps).log typed;
      typed = straight;
      honest = subst Honest same honest;
    }

    honest_run : {Honest : List Call → Type 0} (steps : ℕ) → IsTypedIn x m a args before (at steps).log → HasEndedIn m is p (at steps) end → (cs : List Call) → AreCalls m is (at steps).log cs → Honest cs
        → IsHonestFrom p (part_type x a).params Honest args before end
    honest_run {Honest} steps typed e cs are honest = honest_at {Honest = Honest} end steps typed e.goes_straight cs (e.its_calls cs are) honest

    module _ (steps : ℕ) (results : List CoreValue) (honest : IsHonestIn x m is a args before (at steps).log) (returns : (at steps).end ≡ Returned results) where
      run_is_honest : IsHonestFrom p (part_type x a).params (AreHonestIn x p a args) args before end
      run_is_honest = honest_run steps honest.typed (its_end steps results honest.typed returns) honest.calls honest.are_calls honest.honest

      abbrev given : GaveResults end results
      given = gave steps results honest.typed returns

      is_faithful : HasMoved x p a args before honest.calls results (at steps).state
      is_faithful =
          subst (λ cs. HasMoved x p a args before cs results (at steps).state) (sym (gave_calls steps results honest.typed returns honest.calls honest.are_calls))
          (subst (λ s. HasMoved x p a args before given.calls results s) (sym (its_state steps results honest.typed returns))
          (subst (λ (e : Ended (List CoreValue)). WhereGiven e (λ cs vs w. HasMoved x p a args before cs vs w.state)) given.is (part_moved p u a args before answers x h.checked run_is_honest)))

      weighs : given.weight ≡ part_weight x p a args before
      weighs = ap moved_weight (sym given.is) ∙ subst (λ (e : Ended (List CoreValue)). WhereGiven e (λ cs vs w. moved_weight end ≡ part_weight x p a args before)) given.is (part_weighed p u a args before answers x h.checked run_is_honest)

      takes_few_steps : at (1000 * (part_weight x p a args before + 1)) ≡ at steps
      takes_few_steps = same_from steps results honest.typed returns (1000 * (part_weight x p a args before + 1)) (omega (arith, (returns_by steps results honest.typed returns).bound, weighs))

    -- ---- requests

    asked_by : (e : Ended (List CoreValue)) → IsStraight e → AsksForParts (part_transfer x u a) (part_landing x a args) (request_parts x p u a args before) e
        → HasAskedIn (part_transfer x u a) (part_landing x a args) (request_parts x p u a args before) (named_outcome e).end (calls_in e)
    asked_by (Gave n cs vs w) s r = r.0
    asked_by (Halted n cs Trap w) s r = r.0
    asked_by (Halted n cs Throw w) s r = r.0
    asked_by (Halted n cs Lack w) s r = r.0
    asked_by (Strayed n cs w) s r = absurd s

    abbrev Asked : End → List Call → Type 0
    Asked e cs = HasAskedIn (part_transfer x u a) (part_landing x a args) (request_parts x p u a args before) e cs

    asks : (steps : ℕ) (honest : IsHonestUntilTrapIn x m is a args before (at steps).log) → Asked (at steps).end honest.calls
    asks steps honest = elim (over_or_going (at steps).end) [ inl done ↦ asked (λ q. subst HasEnded q done) | inr going ↦ subst (λ e. Asked e honest.calls) (sym going) asked_going ]
      where
        asked : (at steps).end ≢ Going → Asked (at steps).end honest.calls
        asked over =
            let e = ended steps honest.typed over in
            let honest_end = honest_run steps honest.typed e honest.calls honest.are_calls honest.honest in
            subst (λ e. Asked e honest.calls) (sym (ends_so steps e)) (subst (Asked (named_outcome end).end) (sym (e.its_calls honest.calls honest.are_calls)) (asked_by end e.goes_straight (part_asked p u a args before answers x memories honest_end)))

        asked_going : Asked Going honest.calls
        asked_going =
            let w : World = first_world before (its_answers m f args before answers steps) in
            let e = called_so_far steps honest.typed in
            let same = e.its_calls honest.calls honest.are_calls in
            let honest_end = honest_at (so_far steps) steps honest.typed e.goes_straight honest.calls same honest.honest in
            subst (Asked Going) (sym same)
            (asks_so_far p (part_transfer x u a) (part_landing x a args) (request_parts x p u a args before) (part_action x u a args) w e.goes_straight (part_asked p u a args before (its_answers m f args before answers steps) x memories honest_end))

    -- ---- traps

    calls_no_trap : (steps : ℕ) (honest : IsHonestIn x m is a args before (at steps).log) → IsOver (at steps).end → CallNoTrap honest.calls
    calls_no_trap steps honest over =
        let e = ended steps honest.typed (over_not_going (at steps).end over) in
        let gives = gives_or_lacks end e.goes_straight (subst IsOver (ends_so steps e) over) in
        subst CallNoTrap (sym (e.its_calls honest.calls honest.are_calls)) (part_no_trap u a x p args (first_world before answers) gives)

    -- ---- runs that come to their end

    module _ (pass : PassesChecksIn x u a args) (honest : (steps : ℕ) → IsHonestIn x m is a args before (at steps).log) (there : AreThereIn x p a args before) where
      ends : (steps : ℕ) × IsOverIn (part_weight x p a args before) (at steps)
      ends =
          let settles = (plain (λ steps. (honest steps).typed)).plain in
          let last = settles.steps in
          let e = comes_to_end m is p _ adapters f (part_type x a) 1000 _ ends_in args before answers (λ steps. (honest steps).typed) last (settles.is last (omega arith)) in
          let same : (honest last).calls ≡ calls_in end = e.its_calls (honest last).calls (honest last).are_calls in
          let comes = part_few p u a args before answers x h.checked pass there (honest_run last (honest last).typed e (honest last).calls (honest last).are_calls (honest last).honest) in
          let long : length (at last).log ≡ length (honest last).calls = as_many m is (at last).log (honest last).calls (honest last).are_calls in
          (last, record { over = subst IsOver (sym (ends_so last e)) (over_of end comes.ends); few = omega (arith, long, ap length same, comes.few) })

pub part_functions_transfer : PartFunctionsTransfer
part_functions_transfer x m is u a adapters f h = record {
  plain = λ args before answers typed. plain x m is u a adapters f h args before answers typed;
  not_stuck = λ args before answers steps typed. not_stuck m is (places_in m is) _ adapters f (part_type x a) 1000 _ (ends_in x m is u a adapters f h) args before answers steps typed;
  is_faithful = λ args before answers steps results honest returns. is_faithful x m is u a adapters f h args before answers steps results honest returns;
  takes_few_steps = λ args before answers steps results honest returns. takes_few_steps x m is u a adapters f h args before answers steps results honest returns;
  is_transfer = λ args before answers steps results cs typed are returns. is_transfer x m is u a adapters f h args before answers steps results typed returns cs are;
  requests_are_called_for = λ args before answers steps honest. asks x m is u a adapters f h args before answers steps honest;
  calls_no_trap = λ args before answers steps honest over. calls_no_trap x m is u a adapters f h args before answers steps honest over;
  is_confined = λ args before answers steps cs typed are. is_confined x m is u a adapters f h args before answers steps cs typed are;
  is_ranged = λ args before answers steps cs typed are honest. is_ranged x m is u a adapters f h args before answers steps cs typed are honest;
  can_be_answered = λ args before answers steps cs typed are honest. can_be_answered x m is u a adapters f h args before answers steps cs typed are honest;
  comes_to_end = λ args before answers pass honest there. ends x m is u a adapters f h args before answers pass honest there;
}
