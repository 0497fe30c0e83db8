-- Honest runs within limits of whole sync adapters without debug checks come to their end, and make few calls.
use Rattle.std.proofs.Common.{◌≡◌, ℕ, ◌+◌, ◌*◌, ◌≤◌, inl, inr, Bool, true, false, List, [], ◌∷◌, ◌++◌, length, Option, Some, None, refl, sym, ap, ◌∙◌, subst, arith, append_assoc, append-nil}
use Rattle.std.specs.Prelude.{if◌then◌else◌}
use Rattle.std.specs.List.{zip, AllByRecursion}
use Rattle.std.proofs.lemmas.Bool.{false≢true}
use Rattle.std.proofs.lemmas.List.{length-append}
use Rattle.fact_wasm.specs.declared.types.ValType.{ValType}
use Rattle.fact_types.specs.Adapters.{LinkedAdapter, is_wide}
use Rattle.fact_types.specs.Agrees.{AgreesPlaces}
use Rattle.fact_types.specs.Shapes.{Shape}
use Rattle.fact_types.specs.Signatures.{address, flat_values, flat_params, unless_flat}
use Rattle.fact_types.specs.Tuples.{tuple_members}
use Rattle.fact_machine.specs.declared.types.CoreValue.{CoreValue}
use Rattle.fact_machine.specs.Typed.{are_values}
use Rattle.fact_machine.specs.World.{World, Stop, Trap, Throw, Lack}
use Rattle.fact_values.specs.declared.side.SideAbi.{SideAbi}
use Rattle.fact_values.specs.declared.value.Value.{Value}
use Rattle.fact_values.specs.IsA.{AreMembers}
use Rattle.fact_values.specs.Places.{typed_names}
use Rattle.fact_actions.specs.Adapters.{AdapterTunables, flat_results, last_bits, move_params, move_results, sync, lower_signature_of, lift_signature_of}
use Rattle.fact_actions.specs.Calls.{side_memory, results, state_after, is_call_of, is_import_of}
use Rattle.fact_actions.specs.Honest.{AreHonest, AreHonestSync, IsStraight, IsHonestRun}
use Rattle.fact_actions.specs.Moves.{entry_extent}
use Rattle.fact_actions.specs.Regions.{Position, Region, IsAreaSound, IsSoundRegion, landed, moved_on, sync_moved_on, params_landing, results_landing}
use Rattle.fact_actions.specs.Running.{ImportPlaces, Call, Ended, Gave, Halted, Strayed, heavier, later, is_state, calls_in, moved_weight, run}
use Rattle.fact_actions.specs.Sides.{options_of}
use Rattle.fact_types.specs.declared.outside.Trap.TheVariants.{UncaughtException}
use Rattle.fact_actions.specs.Actions.{trap}
use Rattle.fact_actions.specs.Plain.{ended_sync, guarded_if}
use Rattle.fact_actions.proofs.AdapterEnds.{few_calls}
use Rattle.fact_action_laws.proofs.Parting.{When}
use Rattle.fact_actions.proofs.OwnParts.{same_self}
use Rattle.fact_types.specs.declared.import.Import.TheVariants as import
use Rattle.fact_action_laws.specs.Faithful.{params_given, results_answered, weight_of_values, whole_weight, answered_weight, ParamsAreThere, ResultsAreThere, IsFaithful, IsInLimits, ComesToEnd}
use Rattle.fact_action_laws.specs.FaithfulLaws.{quiet, AreWellFormedTypes, IsCheckedAdapter, TextsMove, RunsComeToEnd}
use Rattle.fact_action_laws.specs.HonestMoves.{AreHonestCalls}
use Rattle.fact_action_laws.specs.Items.{items_fields, BeginItemCalls}
use Rattle.fact_action_laws.specs.Judged.{Judged, RunsHonestly}
use Rattle.fact_action_laws.specs.MoveTerms.{MayStop}
use Rattle.fact_action_laws.specs.Places.{to_side, HasSideMemory}
use Rattle.fact_action_laws.specs.Regions.{TransferSetting, IsInHand, AreBytesOf}
use Rattle.fact_action_laws.proofs.Apart.{advance, honest_apart, within_transfer, around_stays, around_leaves}
use Rattle.fact_action_laws.proofs.Called.{AllCalled, called_append}
use Rattle.fact_action_laws.proofs.Coming.{come, come_all, within, within_all}
use Rattle.fact_action_laws.proofs.Counted.{places_bound, calls_few, begun_calls_few}
use Rattle.fact_action_laws.proofs.Deliveries.{params_setting, ParamsCome, params_are_come, params_does, params_honest, results_setting, ResultsCome, results_are_come, results_does, results_honest, area_is_live}
use Rattle.fact_action_laws.proofs.FaithfulRuns.{synced, synced_is, gives_faithfully}
use Rattle.fact_action_laws.proofs.Grounding.{members_ruled, still_there}
use Rattle.fact_action_laws.proofs.MoveLaws.{AreMoved}
use Rattle.fact_action_laws.proofs.Membered.{items_placed, members_formed}
use Rattle.fact_action_laws.proofs.Once.{NoneCalls, Differs, none_calls, params_differ, results_differ, aside_differs, other_none}
use Rattle.fact_action_laws.proofs.NewRegions.{grown_bytes}
use Rattle.fact_action_laws.proofs.Stopping.{AreReturned, returned_behind, IsEntered, IsPassedOn, IsAnswered, StopsAt, Entering, InParams, Calling, InResults, Finishing, calls_before, calls_answered, moves_back, Stopping, stops_sync}
use Rattle.fact_action_laws.proofs.Transfers.{AreInLimits, called_for, WentBy, IsPlaceOf}
use Rattle.fact_action_laws.proofs.TypedArgs.{lower_numeric, lift_numeric, AreNumeric}
use Rattle.fact_action_laws.proofs.Weighed.{answered_once, does_give_so}

-- ---- counts

-- values call for no more items than they weigh
tuple_few : (side : SideAbi) (ss ds : List Shape) → AgreesPlaces (tuple_members ss) (tuple_members ds) → AreWellFormedTypes ss → AreWellFormedTypes ds → (rs : List Value) → AreMembers (tuple_members ss) rs → length rs ≡ length (typed_names (tuple_members ss))
    → (source : Option (List Value)) → source ≡ Some rs → length (items_fields side (tuple_members ss) (zip (typed_names (tuple_members ss)) rs) (tuple_members ds)) ≤ weight_of_values ss source
tuple_few side ss ds agree s d rs are long source from =
    let e = ap length (items_placed ss ds agree rs long side) in
    let n = places_bound side (tuple_members ds) (tuple_members ss) rs agree (members_ruled 0 ss s.valid) (members_ruled 0 ds d.valid) (members_formed 0 ss s.formed) (members_formed 0 ds d.formed) are in
    let w = ap (weight_of_values ss) from in
    omega (arith, e, n, w)

module _ (c : TransferSetting) (ss us : List Shape) (rs : List Value) (most : ℕ) (few : length (items_fields (to_side c) (tuple_members ss) (zip (typed_names (tuple_members ss)) rs) (tuple_members us)) ≤ most) where
  begun_few : (q : Option (List ValType)) (cs : List Call) → BeginItemCalls (called_for c ss us q rs) cs → length cs ≤ 7 + 29 * most
  begun_few (Some flats) cs h = let n = begun_calls_few _ cs h in omega (arith, n, few)
  begun_few None cs (inl h) = let n = h.few in omega (arith, n)
  begun_few None cs (inr h) = let one = h.left.few in let more = begun_calls_few _ h.others h.right in let l = ap length h.is ∙ length-append h.first h.others in omega (arith, one, more, l, few)

  moved_few : (gs : List Region) (m : List ℕ) (d : _) (n : ℕ) (cs : List Call) (vs : List CoreValue) (w : World) → AreMoved c gs m (tuple_members ss) (tuple_members us) 0 d rs n cs vs w → length cs ≤ 29 * most
  moved_few gs m d n cs vs w h = let k = calls_few _ cs h.told in omega (arith, k, few)

  went_few : (q : Option (List ValType)) (gs : List Region) (m : List ℕ) (n : ℕ) (cs : List Call) (vs : List CoreValue) (w : World) → WentBy c ss us q gs m rs n cs vs w → length cs ≤ 7 + 29 * most
  went_few (Some flats) gs m n cs vs w h = let k = moved_few _ _ _ n cs vs w h in omega (arith, k)
  went_few None gs m n cs vs w h = let one = h.new.told.few in let more = moved_few _ _ _ n h.others [] w h.moved in let l = ap length h.is ∙ length-append h.first h.others in omega (arith, one, more, l)

-- the memory of the source is as before
went_keeps : (c : TransferSetting) (ss us : List Shape) (q : Option (List ValType)) (gs : List Region) (m : List ℕ) (rs : List Value) (n : ℕ) (cs : List Call) (vs : List CoreValue) (w : World) → WentBy c ss us q gs m rs n cs vs w → AreBytesOf c.places c.transfer.from w.state c.source
went_keeps c ss us (Some flats) gs m rs n cs vs w h = h.leaves.ready.from
went_keeps c ss us None gs m rs n cs vs w h = h.moved.leaves.ready.from

-- What is said of an action holds of a stop behind honest calls.
does_stop_so : {A : Type 0} (c : TransferSetting) (gs : List Region) (H : Stop → List Call → Type 0) (P : ℕ → List Call → A → World → Type 0) (q : _) (w : World) (n : ℕ) (cs : List Call) (s : Stop) (w' : World)
    → RunsHonestly c gs H P q w → run c.places q w ≡ Halted n cs s w' → AreHonestCalls c gs cs → H s cs
does_stop_so c gs H P q w n cs s w' d e h = subst (λ x. Judged c gs H P x) e d.judged.by h

-- A stop within limits is where an answer lacks.
pub record LacksSoon (most : ℕ) (s : Stop) (cs : List Call) : Type 0 where
  pub lacks : s ≡ Lack
  pub few : length cs ≤ most

lacks_soon : (Fit : Type 0) (is : List _) (most : ℕ) (s : Stop) (cs : List Call) → Fit → (BeginItemCalls is cs → length cs ≤ most) → MayStop Fit is s cs → LacksSoon most s cs
lacks_soon Fit is most Trap cs fit few h = absurd (h fit)
lacks_soon Fit is most Throw cs fit few h = absurd h
lacks_soon Fit is most Lack cs fit few h = record { lacks = refl; few = few h }

-- ---- honest calls

pub honest_returned : (p : ImportPlaces) (a : LinkedAdapter) (next : Call → Position → Position) (x : Position) (cs : List Call) → AreHonest p a next x cs → AreReturned cs
honest_returned p a next x [] h = tt
honest_returned p a next x (c ∷ cs) h = (h.0, honest_returned p a next (next c x) cs h.2)

module _ (p : ImportPlaces) (u : AdapterTunables) (a : LinkedAdapter) (args : List CoreValue) (w : World) where
  abbrev on : Call → Position → Position
  on = sync_moved_on a args

  -- The transfer of parameters in an honest run.
  pub record ParamsApart (t : IsEntered p u a args w) (ps others : List Call) : Type 0 where
    pub begins : t.before_params.state.memories ≡ w.state.memories
    pub params : AreHonest p a moved_on (landed (params_landing a)) ps
    pub remain : AreHonest p a on (advance on (landed (params_landing a)) ps) others

  pub params_apart : (t : IsEntered p u a args w) (ps others : List Call) → NoneCalls a ps → AreHonestSync p a args (t.enter ++ (ps ++ others)) → ParamsApart t ps others
  params_apart t ps others none h =
      let start = landed (params_landing a) in
      let one = honest_apart p a on start t.enter (ps ++ others) h in
      let two = honest_apart p a on start ps others (subst (λ y. AreHonest p a on y (ps ++ others)) (around_stays p a args start t.enter t.entered.around) one.1) in
      record {
        begins = around_leaves p a args on start w.state.memories t.enter t.before_params.state.memories t.entered.around t.entered.follow one.0;
        params = within_transfer p a args start ps none two.0;
        remain = two.1;
      }

  -- That of results.
  pub record ResultsApart (t : IsAnswered p u a args w) (back : List Call) : Type 0 where
    pub returns : t.before_results.state.memories ≡ (state_after t.callee).memories
    pub back_honest : AreHonest p a moved_on (landed (results_landing a args)) back

  pub results_apart : (t : IsAnswered p u a args w) (back others : List Call) (x : Position) → NoneCalls a back → AreHonest p a on x (t.callee ∷ (t.between ++ (back ++ others))) → ResultsApart t back
  results_apart t back others x none h =
      let second = landed (results_landing a args) in
      let called : is_call_of a.callee t.callee ≡ true = ap (is_import_of a.callee) t.callee_is ∙ same_self a.callee in
      let one = honest_apart p a on second t.between (back ++ others) (subst (λ b. AreHonest p a on (if b then second else moved_on t.callee x) (t.between ++ (back ++ others))) called h.2) in
      let two = honest_apart p a on second back others (subst (λ y. AreHonest p a on y (back ++ others)) (around_stays p a args second t.between t.left.around) one.1) in
      record {
        returns = around_leaves p a args on second (state_after t.callee).memories t.between t.before_results.state.memories t.left.around t.left.follow one.0;
        back_honest = within_transfer p a args second back none two.0;
      }

-- ---- the transfers

module _ (p : ImportPlaces) (u : AdapterTunables) (b : LinkedAdapter) where
  abbrev a : LinkedAdapter
  a = synced b

  module _ (x : IsCheckedAdapter p a) (texts : TextsMove p u a) (args : List CoreValue) (w : World) (typed : is_state p w.state ≡ true) (args_typed : are_values args (lower_signature_of a).params ≡ true) (area : IsAreaSound p a args w.state)
      (there : ParamsAreThere p a args w.state) where
    abbrev others : List ValType
    others = unless_flat (address (is_wide a.lower.memory) ∷ []) (flat_values (is_wide a.lower.memory) 1 a.lower.results)

    abbrev numeric : AreNumeric (flat_params (is_wide a.lower.memory) 16 a.lower.params ++ others)
    numeric = lower_numeric (is_wide a.lower.memory) a.lower.params a.lower.results

    abbrev given_setting : TransferSetting
    given_setting = params_setting p u a x texts w.state typed

    -- what is given weighs this
    abbrev given_weight : ℕ
    given_weight = weight_of_values a.lower.params (params_given p a args w.state)

    given_come : ParamsCome p u a x texts w.state typed args others numeric args_typed there.values
    given_come =
        params_are_come p u a x texts w.state typed args others numeric args_typed there.values
        (come given_setting a.lower.params a.lift.params (members_formed 0 a.lower.params x.lower_params.formed) 16 there.values args others numeric args_typed x.params_behind there.there)

    given_within : AreInLimits given_setting a.lower.params a.lift.params (flat_values (is_wide a.lower.memory) 16 a.lower.params) args
    given_within = within given_setting a.lower.params a.lift.params (members_formed 0 a.lower.params x.lower_params.formed) 16 there.values args there.there there.bounds

    given_few : length (items_fields (to_side given_setting) (tuple_members a.lower.params) (zip (typed_names (tuple_members a.lower.params)) there.values) (tuple_members a.lift.params)) ≤ given_weight
    given_few = tuple_few (to_side given_setting) a.lower.params a.lift.params x.params_agree x.lower_params x.lift_params there.values given_come.are given_come.long (params_given p a args w.state) there.there

    -- Those that went make few calls, and leave the memory that they came from.
    record HaveGone (cs : List Call) (v' : World) : Type 0 where
      few : length cs ≤ 7 + 29 * given_weight
      keeps : AreBytesOf p (options_of a.lower) v'.state (side_memory p (options_of a.lower) w.state)

    -- parameters are carried
    module _ (v : World) (same : v.state.memories ≡ w.state.memories) where
      given_honest : (e : Ended (List CoreValue)) → run p (move_params (quiet u) a args) v ≡ e → AreHonest p a moved_on (landed (params_landing a)) (calls_in e) → AreHonestCalls given_setting [] (calls_in e)
      given_honest e is h = params_honest p u a x texts w.state typed args others numeric args_typed v same e is h

      params_stop : (n : ℕ) (cs : List Call) (s : Stop) (v' : World) → run p (move_params (quiet u) a args) v ≡ Halted n cs s v' → AreHonest p a moved_on (landed (params_landing a)) cs → LacksSoon (7 + 29 * given_weight) s cs
      params_stop n cs s v' is h =
          lacks_soon _ _ (7 + 29 * given_weight) s cs given_within (begun_few given_setting a.lower.params a.lift.params there.values given_weight given_few (flat_values (is_wide a.lift.memory) 16 a.lift.params) cs)
          (does_stop_so given_setting [] _ _ (move_params (quiet u) a args) v n cs s v' (params_does p u a x texts w.state typed args others numeric args_typed v same there.values given_come.come) is (given_honest _ is h))

      params_gave : (n : ℕ) (cs : List Call) (vs : List CoreValue) (v' : World) → run p (move_params (quiet u) a args) v ≡ Gave n cs vs v' → AreHonest p a moved_on (landed (params_landing a)) cs → HaveGone cs v'
      params_gave n cs vs v' is h =
          let went = does_give_so given_setting [] _ _ (move_params (quiet u) a args) v n cs vs v' (params_does p u a x texts w.state typed args others numeric args_typed v same there.values given_come.come) is (given_honest _ is h) in
          record {
            few = went_few given_setting a.lower.params a.lift.params there.values given_weight given_few (flat_values (is_wide a.lift.memory) 16 a.lift.params) [] (side_memory p (options_of a.lift) w.state) n cs vs v' went;
            keeps = went_keeps given_setting a.lower.params a.lift.params (flat_values (is_wide a.lift.memory) 16 a.lift.params) [] (side_memory p (options_of a.lift) w.state) there.values n cs vs v' went;
          }

    -- results are carried back, from what the callee answered
    module _ (k : Call) (answer_typed : are_values (results k) (lift_signature_of a).results ≡ true) (answer_state : is_state p (state_after k) ≡ true)
        (room : HasSideMemory (options_of a.lower) → length (side_memory p (options_of a.lower) w.state) ≤ length (side_memory p (options_of a.lower) (state_after k))) (back_there : ResultsAreThere p a k) where
      abbrev answered_setting : TransferSetting
      answered_setting = results_setting p u a x texts args (state_after k) answer_state

      abbrev back_numeric : AreNumeric (flat_params (is_wide a.lift.memory) 1 a.lift.results)
      back_numeric = lift_numeric (is_wide a.lift.memory) a.lift.params a.lift.results

      abbrev back_weight : ℕ
      back_weight = weight_of_values a.lift.results (results_answered p a k)

      back_come : ResultsCome p u a x texts args (state_after k) answer_state (results k) back_numeric answer_typed back_there.values
      back_come =
          results_are_come p u a x texts args (state_after k) answer_state (results k) back_numeric answer_typed back_there.values
          (come_all answered_setting a.lift.results a.lower.results (members_formed 0 a.lift.results x.lift_results.formed) 1 back_there.values (results k) back_numeric answer_typed x.results_behind back_there.there)

      back_within : AreInLimits answered_setting a.lift.results a.lower.results (flat_values (is_wide a.lift.memory) 1 a.lift.results) (results k)
      back_within = within_all answered_setting a.lift.results a.lower.results (members_formed 0 a.lift.results x.lift_results.formed) 1 back_there.values (results k) answer_typed back_there.there back_there.bounds

      back_few : length (items_fields (to_side answered_setting) (tuple_members a.lift.results) (zip (typed_names (tuple_members a.lift.results)) back_there.values) (tuple_members a.lower.results)) ≤ back_weight
      back_few = tuple_few (to_side answered_setting) a.lift.results a.lower.results x.results_agree x.lift_results x.lower_results back_there.values back_come.are back_come.long (results_answered p a k) back_there.there

      -- the return area has room for them
      back_place : IsPlaceOf answered_setting a.lift.results a.lower.results (flat_results a.lower) (last_bits args) (IsInHand answered_setting []) (side_memory p (options_of a.lower) (state_after k))
      back_place = go (flat_results a.lower) refl area
        where
          go : (q : Option (List ValType)) → flat_results a.lower ≡ q
              → AllByRecursion (IsSoundRegion (length (side_memory p (options_of a.lower) w.state))) (elim q [ Some flats ↦ [] | None ↦ record { at = last_bits args; size = (entry_extent (options_of a.lower) (tuple_members a.lower.results)).size; align = (entry_extent (options_of a.lower) (tuple_members a.lower.results)).align } ∷ [] ])
              → IsPlaceOf answered_setting a.lift.results a.lower.results q (last_bits args) (IsInHand answered_setting []) (side_memory p (options_of a.lower) (state_after k))
          go (Some flats) e h = tt
          go None e h =
              let memory = x.results_into e in
              let inside = h.0.inside in
              let enough = room memory in (
                memory,
                h.0.aligned,
                omega (arith, inside, enough),
                area_is_live p u a x texts args (state_after k) answer_state (flat_results a.lower) refl e,
              )

      module _ (v : World) (same : v.state.memories ≡ (state_after k).memories) where
        back_honest : (e : Ended (List CoreValue)) → run p (move_results (quiet u) a (results k) (last_bits args)) v ≡ e → AreHonest p a moved_on (landed (results_landing a args)) (calls_in e) → AreHonestCalls answered_setting [] (calls_in e)
        back_honest e is h = results_honest p u a x texts args (state_after k) answer_state (results k) back_numeric answer_typed v same e is h

        results_stop : (n : ℕ) (cs : List Call) (s : Stop) (v' : World) → run p (move_results (quiet u) a (results k) (last_bits args)) v ≡ Halted n cs s v' → AreHonest p a moved_on (landed (results_landing a args)) cs → LacksSoon (29 * back_weight) s cs
        results_stop n cs s v' is h =
            lacks_soon _ _ (29 * back_weight) s cs back_within (λ g. let m = begun_calls_few _ cs g in omega (arith, m, back_few))
            (does_stop_so answered_setting [] _ _ (move_results (quiet u) a (results k) (last_bits args)) v n cs s v' (results_does p u a x texts args (state_after k) answer_state (results k) back_numeric answer_typed v same back_there.values back_come.come back_place) is (back_honest _ is h))

        results_gave : (n : ℕ) (cs : List Call) (vs : List CoreValue) (v' : World) → run p (move_results (quiet u) a (results k) (last_bits args)) v ≡ Gave n cs vs v' → AreHonest p a moved_on (landed (results_landing a args)) cs → length cs ≤ 29 * back_weight
        results_gave n cs vs v' is h =
            moved_few answered_setting a.lift.results a.lower.results back_there.values back_weight back_few [] (side_memory p (options_of a.lower) (state_after k)) _ n cs vs v'
            (does_give_so answered_setting [] _ _ (move_results (quiet u) a (results k) (last_bits args)) v n cs vs v' (results_does p u a x texts args (state_after k) answer_state (results k) back_numeric answer_typed v same back_there.values back_come.come back_place) is (back_honest _ is h))

    -- ---- the whole

    -- no call of the transfer of parameters is of the callee
    given_differ : (v : World) (e : Ended (List CoreValue)) → run p (move_params (quiet u) a args) v ≡ e → AllCalled (Differs a) (calls_in e)
    given_differ v e is = subst (λ e. AllCalled (Differs a) (calls_in e)) is (params_differ p (quiet u) a x v args)

    -- parameters that were passed on
    module _ (t : IsPassedOn p (quiet u) a args w) (others : List Call) (honest : AreHonestSync p a args (calls_before p (quiet u) a args w t others)) where
      passed_apart : ParamsApart p (quiet u) a args w t.start t.params others
      passed_apart = params_apart p (quiet u) a args w t.start t.params others (none_calls a t.params (given_differ t.start.before_params _ t.params_run)) honest

      gone : HaveGone t.params t.behind_params
      gone = params_gave t.start.before_params passed_apart.begins t.params_weight t.params t.core t.behind_params t.params_run passed_apart.params

    -- where results are there for each call of the callee
    abbrev AnswersAreThere : List Call → Type 0
    AnswersAreThere cs = (before : List Call) (callee : Call) (behind : List Call) → cs ≡ before ++ (callee ∷ behind) → callee.what ≡ import.CoreDef a.callee → ResultsAreThere p a callee

    -- the callee answered
    module _ (t : IsAnswered p (quiet u) a args w) (back more cs : List Call) (is : cs ≡ calls_answered p (quiet u) a args w t (back ++ more)) (honest : AreHonestSync p a args cs) (limits : AnswersAreThere cs) (none : NoneCalls a back) where
      abbrev tail : List Call
      tail = t.between ++ (back ++ more)

      abbrev start : IsEntered p (quiet u) a args w
      start = t.passed.start

      answered_honest : AreHonestSync p a args (calls_before p (quiet u) a args w t.passed (t.callee ∷ tail))
      answered_honest = subst (AreHonestSync p a args) is honest

      cut : cs ≡ (start.enter ++ t.passed.params) ++ (t.callee ∷ tail)
      cut = is ∙ sym (append_assoc start.enter t.passed.params (t.callee ∷ tail))

      answer_there : ResultsAreThere p a t.callee
      answer_there = limits (start.enter ++ t.passed.params) t.callee tail cut t.callee_is

      answer_room : HasSideMemory (options_of a.lower) → length (side_memory p (options_of a.lower) w.state) ≤ length (side_memory p (options_of a.lower) (state_after t.callee))
      answer_room memory =
          (grown_bytes p (options_of a.lower) a.lower.memory t.callee.before (state_after t.callee) _ memory
          (still_there p (options_of a.lower) t.passed.behind_params.state t.callee.before _ t.callee_before (gone t.passed (t.callee ∷ tail) answered_honest).keeps) t.answer_grown).1

      back_apart : ResultsApart p (quiet u) a args w t back
      back_apart = results_apart p (quiet u) a args w t back more (advance (sync_moved_on a args) (landed (params_landing a)) t.passed.params) none (passed_apart t.passed (t.callee ∷ tail) answered_honest).remain

      abbrev answer_weight : ℕ
      answer_weight = weight_of_values a.lift.results (results_answered p a t.callee)

      answer_weighs : answered_weight p a cs ≡ answer_weight
      answer_weighs =
          ap (answered_weight p a) cut
          ∙ answered_once p a (start.enter ++ t.passed.params) t.callee tail
          (none_calls a (start.enter ++ t.passed.params) (called_append (Differs a) start.enter t.passed.params (aside_differs a None start.enter (other_none a) start.entered.around) (given_differ start.before_params _ t.passed.params_run)))
          (ap (is_import_of a.callee) t.callee_is ∙ same_self a.callee)

      -- few calls come before the transfer of results
      answer_few : length cs ≤ 12 + (29 * given_weight + (length back + length more))
      answer_few =
          let l1 = ap length is ∙ length-append start.enter (t.passed.params ++ (t.callee ∷ tail)) in
          let l2 = length-append t.passed.params (t.callee ∷ tail) in
          let l3 = length-append t.between (back ++ more) in
          let l4 = length-append back more in
          let f1 = start.few in
          let f2 = (gone t.passed (t.callee ∷ tail) answered_honest).few in
          let f3 = t.few in
          omega (arith, l1, l2, l3, l4, f1, f2, f3)

    back_differ : (t : IsAnswered p (quiet u) a args w) (e : Ended (List CoreValue)) → run p (moves_back p (quiet u) a args w t) t.before_results ≡ e → AllCalled (Differs a) (calls_in e)
    back_differ t e is = subst (λ e. AllCalled (Differs a) (calls_in e)) is (results_differ p (quiet u) a x t.before_results (results t.callee) (last_bits args))

    answered_returned : (t : IsAnswered p (quiet u) a args w) (back more cs : List Call) → cs ≡ calls_answered p (quiet u) a args w t (back ++ more) → AreHonestSync p a args cs → AreReturned more
    answered_returned t back more cs e honest =
        returned_behind back more (returned_behind t.between (back ++ more) (returned_behind t.passed.params (t.callee ∷ (t.between ++ (back ++ more))) (returned_behind t.passed.start.enter _ (subst AreReturned e (honest_returned p a _ _ cs honest)))).1)

    -- A run within limits stops only where an answer lacks, and soon for what it carries.
    pub ended_at : (s : Stop) (cs : List Call) → StopsAt p (quiet u) a args w s cs → AreHonestSync p a args cs → AnswersAreThere cs → LacksSoon (30 * (whole_weight p a args w.state cs + 1)) s cs
    ended_at s cs (Entering h) honest limits = record { lacks = h.lacks (honest_returned p a _ _ cs honest); few = let f = h.few in omega (arith, f) }
    ended_at s cs (InParams t n ps v is e) honest limits =
        let apart = params_apart p (quiet u) a args w t ps [] (none_calls a ps (given_differ t.before_params _ is)) (subst (AreHonestSync p a args) (e ∙ ap (λ l. t.enter ++ l) (sym (append-nil ps))) honest) in
        let r = params_stop t.before_params apart.begins n ps s v is apart.params in
        let l = ap length e ∙ length-append t.enter ps in
        let f1 = t.few in
        let f2 = r.few in
        record { lacks = r.lacks; few = omega (arith, l, f1, f2) }
    ended_at s cs (Calling t others h e) honest limits =
        let g = gone t others (subst (AreHonestSync p a args) e honest) in
        let returned = returned_behind t.params others (returned_behind t.start.enter (t.params ++ others) (subst AreReturned e (honest_returned p a _ _ cs honest))) in
        let l = ap length e ∙ length-append t.start.enter (t.params ++ others) in
        let l2 = length-append t.params others in
        let f1 = t.start.few in
        let f2 = g.few in
        let f3 = h.few in
        record { lacks = h.lacks returned; few = omega (arith, l, l2, f1, f2, f3) }
    ended_at s cs (InResults t n back v is e) honest limits =
        let none = none_calls a back (back_differ t _ is) in
        let e2 : cs ≡ calls_answered p (quiet u) a args w t (back ++ []) = e ∙ ap (calls_answered p (quiet u) a args w t) (sym (append-nil back)) in
        let r = results_stop t.callee t.answer_typed t.answer_state (answer_room t back [] cs e2 honest limits none) (answer_there t back [] cs e2 honest limits none) t.before_results (back_apart t back [] cs e2 honest limits none).returns n back s v is
        (back_apart t back [] cs e2 honest limits none).back_honest in
        let f = answer_few t back [] cs e2 honest limits none in
        let w = answer_weighs t back [] cs e2 honest limits none in
        let m = r.few in
        record { lacks = r.lacks; few = omega (arith, f, w, m) }
    ended_at s cs (Finishing t n back vs v more is h e) honest limits =
        let none = none_calls a back (back_differ t _ is) in
        let m = results_gave t.callee t.answer_typed t.answer_state (answer_room t back more cs e honest limits none) (answer_there t back more cs e honest limits none) t.before_results (back_apart t back more cs e honest limits none).returns n back vs v is
        (back_apart t back more cs e honest limits none).back_honest in
        let f = answer_few t back more cs e honest limits none in
        let w = answer_weighs t back more cs e honest limits none in
        let l = h.few in
        record { lacks = h.lacks (answered_returned t back more cs e honest); few = omega (arith, f, w, m, l) }

-- ---- with the barrier

trap_lacks : Trap ≡ Lack → ⊥
trap_lacks e = false≢true (ap (λ s. elim s [ Trap ↦ false | Throw ↦ false | Lack ↦ true ]) e)

throw_lacks : Throw ≡ Lack → ⊥
throw_lacks e = false≢true (ap (λ s. elim s [ Trap ↦ false | Throw ↦ false | Lack ↦ true ]) e)

pub calls_behind : {A : Type 0} (n : ℕ) (cs : List Call) (e : Ended A) → calls_in (heavier n (later cs e)) ≡ cs ++ calls_in e
calls_behind n cs (Gave m ds a w) = refl
calls_behind n cs (Halted m ds s w) = refl
calls_behind n cs (Strayed m ds w) = refl

module _ (p : ImportPlaces) (u : AdapterTunables) (b : LinkedAdapter) (args : List CoreValue) (w : World) where
  abbrev adapter : LinkedAdapter
  adapter = synced b

  module _ (x : IsCheckedAdapter p adapter) (texts : TextsMove p u adapter) (typed : is_state p w.state ≡ true) (args_typed : are_values args (lower_signature_of adapter).params ≡ true) (area : IsAreaSound p adapter args w.state) (there : ParamsAreThere p adapter args w.state) where
    comes : (guard : Bool) (e : Ended (List CoreValue)) → Stopping e (StopsAt p (quiet u) adapter args w) → AreHonestSync p adapter args (calls_in (guarded_if guard p e)) → AnswersAreThere p u b x texts args w typed args_typed area there (calls_in (guarded_if guard p e))
        → length (calls_in (guarded_if guard p e)) ≤ 30 * (moved_weight (guarded_if guard p e) + 1) → When (guarded_if guard p e) (λ n cs vs w'. IsFaithful p adapter args w.state cs vs w'.state × (n ≡ whole_weight p adapter args w.state cs)) → IsStraight (guarded_if guard p e)
        → ComesToEnd p adapter args w.state (guarded_if guard p e)
    comes true (Gave n cs vs v) stop honest limits few weighs straight = let k = weighs.1 in record { ends = tt; few = omega (arith, few, k) }
    comes false (Gave n cs vs v) stop honest limits few weighs straight = let k = weighs.1 in record { ends = tt; few = omega (arith, few, k) }
    comes true (Strayed n cs v) stop honest limits few weighs straight = absurd straight
    comes false (Strayed n cs v) stop honest limits few weighs straight = absurd straight
    comes true (Halted n cs Lack v) stop honest limits few weighs straight = record { ends = tt; few = (ended_at p u b x texts args w typed args_typed area there Lack cs stop honest limits).few }
    comes false (Halted n cs Lack v) stop honest limits few weighs straight = record { ends = tt; few = (ended_at p u b x texts args w typed args_typed area there Lack cs stop honest limits).few }
    comes true (Halted n cs Trap v) stop honest limits few weighs straight = absurd (trap_lacks (ended_at p u b x texts args w typed args_typed area there Trap cs stop honest limits).lacks)
    comes false (Halted n cs Trap v) stop honest limits few weighs straight = absurd (trap_lacks (ended_at p u b x texts args w typed args_typed area there Trap cs stop honest limits).lacks)
    comes false (Halted n cs Throw v) stop honest limits few weighs straight = absurd (throw_lacks (ended_at p u b x texts args w typed args_typed area there Throw cs stop honest limits).lacks)
    comes true (Halted n cs Throw v) stop honest limits few weighs straight =
        let more = calls_in (run p (trap {A = List CoreValue} UncaughtException) v) in
        let is = calls_behind n cs (run p (trap {A = List CoreValue} UncaughtException) v) in
        absurd (throw_lacks (ended_at p u b x texts args w typed args_typed area there Throw cs stop (honest_apart p adapter (sync_moved_on adapter args) (landed (params_landing adapter)) cs more (subst (AreHonestSync p adapter args) is honest)).0
        (λ before callee behind e. limits before callee (behind ++ more) (is ∙ ap (λ l. l ++ more) e ∙ append_assoc before (callee ∷ behind) more))).lacks)

abbrev EndsWell : (p : ImportPlaces) (u : AdapterTunables) (args : List CoreValue) (w : World) → LinkedAdapter → Type 0
EndsWell p u args w a =
    IsCheckedAdapter p a → TextsMove p u a → IsHonestRun p a args w.state (ended_sync p (quiet u) a args w)
    → IsInLimits p a args w.state (calls_in (ended_sync p (quiet u) a args w)) → ComesToEnd p a args w.state (ended_sync p (quiet u) a args w)

ends_well : (p : ImportPlaces) (u : AdapterTunables) (args : List CoreValue) (w : World) (b : LinkedAdapter) → EndsWell p u args w (synced b)
ends_well p u args w b x texts honest limits =
    comes p u b args w x texts honest.state_typed honest.args_typed limits.area limits.params u.exceptions (run p (sync (quiet u) (synced b) args) w) (stops_sync p (quiet u) (synced b) args w limits.may_leave).so
    honest.honest limits.results (few_calls p (quiet u) (synced b) args w) (gives_faithfully p (quiet u) args w b x (record { params = texts.params; results = texts.results }) honest) honest.typed

-- debug checks are off
quiet_is : (u : AdapterTunables) → u.debug ≡ false → quiet u ≡ u
quiet_is u h = (λ i. record u { debug = sym h i })

pub runs_come_to_end : RunsComeToEnd
runs_come_to_end p u a args w off x sides texts honest limits =
    subst (λ t. IsHonestRun p a args w.state (ended_sync p t a args w) → IsInLimits p a args w.state (calls_in (ended_sync p t a args w)) → ComesToEnd p a args w.state (ended_sync p t a args w)) (quiet_is u off)
    (subst (EndsWell p u args w) (synced_is a sides) (ends_well p u args w a) x texts) honest limits
