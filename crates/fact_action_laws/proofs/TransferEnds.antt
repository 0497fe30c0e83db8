-- The functions of async adapters that move parameters and results come to their end, where the values are within limits.
use Rattle.std.proofs.Common.{◌≡◌, ℕ, ◌+◌, ◌*◌, ◌≤◌, true, false, List, [], ◌∷◌, length, Option, Some, None, refl, sym, ap, ◌∙◌, subst, arith}
use Rattle.std.specs.List.{zip, AllByRecursion}
use Rattle.fact_wasm.specs.declared.types.ValType.{ValType}
use Rattle.fact_types.specs.Adapters.{LinkedAdapter, is_wide}
use Rattle.fact_types.specs.Agrees.{AgreesPlaces}
use Rattle.fact_types.specs.Shapes.{Shape}
use Rattle.fact_types.specs.Signatures.{flat_values, lower_limit, lift_results_limit}
use Rattle.fact_types.specs.Tuples.{tuple_members}
use Rattle.fact_machine.specs.declared.types.CoreValue.{CoreValue}
use Rattle.fact_machine.specs.Typed.{are_values}
use Rattle.fact_machine.specs.World.{World, Stop, Trap, Throw, Lack}
use Rattle.fact_values.specs.declared.value.Value.{Value}
use Rattle.fact_values.specs.IsA.{AreMembers}
use Rattle.fact_values.specs.Places.{typed_names}
use Rattle.fact_values.specs.Weight.{weight_members}
use Rattle.fact_actions.specs.Actions.{Action}
use Rattle.fact_actions.specs.Adapters.{AdapterTunables, start_params, return_params, async_start, async_return, flat_results, last_bits, move_params, move_results}
use Rattle.fact_actions.specs.AdapterLaws.{IsFew}
use Rattle.fact_actions.specs.Calls.{side_memory}
use Rattle.fact_actions.specs.Honest.{AreHonestStart, AreHonestReturn, IsStraight}
use Rattle.fact_actions.specs.Moves.{entry_extent}
use Rattle.fact_actions.specs.Regions.{Region, IsSoundRegion, IsAreaSound}
use Rattle.fact_actions.specs.Running.{ImportPlaces, Call, Ended, Gave, Halted, Strayed, is_state, calls_in, run}
use Rattle.fact_actions.specs.Sides.{options_of}
use Rattle.fact_actions.proofs.AdapterEnds.{few_start_calls, few_return_calls}
use Rattle.fact_action_laws.specs.Faithful.{params_given, weight_of_values, ParamsAreThere}
use Rattle.fact_action_laws.specs.FaithfulLaws.{quiet, AreWellFormedTypes, IsCheckedAdapter, TextsMove}
use Rattle.fact_action_laws.specs.HonestMoves.{AreHonestCalls}
use Rattle.fact_action_laws.specs.Items.{items_fields, BeginItemCalls, ValueItem}
use Rattle.fact_action_laws.specs.Judged.{Judged, RunsHonestly}
use Rattle.fact_action_laws.specs.MoveTerms.{MayStop}
use Rattle.fact_action_laws.specs.Places.{to_side}
use Rattle.fact_action_laws.specs.Regions.{TransferSetting, IsInHand}
use Rattle.fact_action_laws.specs.TransferLaws.{leading_results, results_taken, TakenAreThere, EndsInFew, StartsComeToEnd, ReturnsComeToEnd}
use Rattle.fact_action_laws.proofs.Cleared.{IsButForFlags, cleared_is}
use Rattle.fact_action_laws.proofs.Coming.{come, within, come_all, within_all}
use Rattle.fact_action_laws.proofs.Counted.{places_bound, begun_calls_few}
use Rattle.fact_action_laws.proofs.Deliveries.{params_are_come, params_does, params_honest, results_are_come, results_does, results_honest, area_is_live}
use Rattle.fact_action_laws.proofs.Grounding.{members_ruled}
use Rattle.fact_action_laws.proofs.Membered.{items_placed, members_formed}
use Rattle.fact_action_laws.proofs.Starts.{meanwhile, numeric, all_typed, in_quiet}
use Rattle.fact_action_laws.proofs.Starts as starts
use Rattle.fact_action_laws.proofs.Returns as returns
use Rattle.fact_action_laws.proofs.Transfers.{AreInLimits, IsPlaceOf, called_for}

-- ---- counts

-- a tuple calls for no more items than it weighs
tuple_items : (c : TransferSetting) (ss us : List Shape) → AgreesPlaces (tuple_members ss) (tuple_members us) → AreWellFormedTypes ss → AreWellFormedTypes us → (rs : List Value) → AreMembers (tuple_members ss) rs → length rs ≡ length (typed_names (tuple_members ss))
    → length (items_fields (to_side c) (tuple_members ss) (zip (typed_names (tuple_members ss)) rs) (tuple_members us)) ≤ weight_members (tuple_members ss) rs
tuple_items c ss us agree s d rs are long =
    let e = ap length (items_placed ss us agree rs long (to_side c)) in
    let n = places_bound (to_side c) (tuple_members us) (tuple_members ss) rs agree (members_ruled 0 ss s.valid) (members_ruled 0 us d.valid) (members_formed 0 ss s.formed) (members_formed 0 us d.formed) are in
    omega (arith, e, n)

-- so the calls that it has begun are few, with those of its own region
begun_are_few : (c : TransferSetting) (ss us : List Shape) (rs : List Value) (n : ℕ) → length (items_fields (to_side c) (tuple_members ss) (zip (typed_names (tuple_members ss)) rs) (tuple_members us)) ≤ n
    → (q : Option (List ValType)) (cs : List Call) → BeginItemCalls (called_for c ss us q rs) cs → length cs ≤ 30 * (n + 1)
begun_are_few c ss us rs n le (Some flats) cs h = let k = begun_calls_few (called_for c ss us (Some flats) rs) cs h in omega (arith, k, le)
begun_are_few c ss us rs n le None cs h = let k = begun_calls_few (called_for c ss us None rs) cs h in omega (arith, k, le)

-- ---- ends

-- A stop within limits lacks an answer.
ends_lacking : (Fit : Type 0) (is : List ValueItem) (weight n : ℕ) (cs : List Call) (s : Stop) (w : World) → MayStop Fit is s cs → Fit → (BeginItemCalls is cs → length cs ≤ 30 * (weight + 1)) → EndsInFew weight (Halted n cs s w)
ends_lacking Fit is weight n cs Trap w h fit few = absurd (h fit)
ends_lacking Fit is weight n cs Throw w h fit few = absurd h
ends_lacking Fit is weight n cs Lack w h fit few = record { ends = tt; few = few h }

-- What is said of an action holds of its stop.
stop_so : {A : Type 0} {c : TransferSetting} {gs : List Region} {H : Stop → List Call → Type 0} {P : ℕ → List Call → A → World → Type 0} {q : Action A} {w : World} (n : ℕ) (cs : List Call) (s : Stop) (w' : World)
    → RunsHonestly c gs H P q w → run c.places q w ≡ Halted n cs s w' → AreHonestCalls c gs cs → H s cs
stop_so {c} {gs} {H} {P} n cs s w' d e h = subst (λ x. Judged c gs H P x) e d.judged.by h

quiet_is : (u : AdapterTunables) → u.debug ≡ false → quiet u ≡ u
quiet_is u h = (λ i. record u { debug = sym h i })

-- ---- parameters

module _ (p : ImportPlaces) (u : AdapterTunables) (a : LinkedAdapter) (x : IsCheckedAdapter p a) (texts : TextsMove p u a) (args : List CoreValue) (w : World)
    (typed : is_state p w.state ≡ true) (args_typed : are_values args (start_params a) ≡ true) (t : ParamsAreThere p a args w.state) where
  abbrev c : TransferSetting
  c = starts.c p u a x texts args w typed args_typed

  abbrev given_weight : ℕ
  given_weight = weight_of_values a.lower.params (params_given p a args w.state)

  started_ends : (e : Ended (List CoreValue)) → run p (async_start (quiet u) a args) w ≡ e → IsStraight e → AreHonestStart p a (calls_in e) → EndsInFew given_weight e
  started_ends e is straight h = go e is (subst (λ e. IsButForFlags e (run p (move_params (quiet u) a args) (meanwhile p u a x texts args w typed args_typed))) is (cleared_is p a.lift.instance (move_params (quiet u) a args) w)) straight h
    where
      at : World
      at = meanwhile p u a x texts args w typed args_typed

      go : (e : Ended (List CoreValue)) → run p (async_start (quiet u) a args) w ≡ e → IsButForFlags e (run p (move_params (quiet u) a args) at) → IsStraight e → AreHonestStart p a (calls_in e) → EndsInFew given_weight e
      go (Gave n cs vs w2) is f straight h =
          let few : length cs ≤ 30 * (n + 1) = subst IsFew is (few_start_calls p (quiet u) a args w) in
          let weighs = (in_quiet p u a x texts args w typed args_typed (Gave n cs vs w2) is h).weighs in
          record { ends = tt; few = omega (arith, few, weighs) }
      go (Strayed n cs w2) is f straight h = absurd straight
      go (Halted n cs s w2) is f straight h =
          let rs = t.values in
          let all = all_typed p u a x texts args w typed args_typed in
          let num = numeric p u a x texts args w typed args_typed in
          let formed = members_formed 0 a.lower.params x.lower_params.formed in
          let comes = come c a.lower.params a.lift.params formed (lower_limit a.lower.async_side) rs args [] num all x.params_behind t.there in
          let k = params_are_come p u a x texts w.state typed args [] num all rs comes in
          let does = params_does p u a x texts w.state typed args [] num all at refl rs comes in
          let honest = params_honest p u a x texts w.state typed args [] num all at refl _ f h in
          let stops = stop_so n cs s w2 does f honest in
          let few = tuple_items c a.lower.params a.lift.params x.params_agree x.lower_params x.lift_params rs k.are k.long in
          let weighs : given_weight ≡ weight_members (tuple_members a.lower.params) rs = ap (weight_of_values a.lower.params) t.there in
          ends_lacking (AreInLimits c a.lower.params a.lift.params (flat_values (is_wide a.lower.memory) (lower_limit a.lower.async_side) a.lower.params) args) (called_for c a.lower.params a.lift.params (flat_values (is_wide a.lift.memory) 16 a.lift.params) rs) given_weight n cs s w2 stops (within c a.lower.params a.lift.params formed (lower_limit a.lower.async_side) rs args t.there t.bounds)
          (begun_are_few c a.lower.params a.lift.params rs given_weight (omega (arith, few, weighs)) (flat_values (is_wide a.lift.memory) 16 a.lift.params) cs)

pub starts_come_to_end : StartsComeToEnd
starts_come_to_end p u a args w x texts h off t =
    let same = quiet_is u off in
    started_ends p u a x texts args w h.state_typed h.args_typed t (run p (async_start u a args) w) (ap (λ u. run p (async_start u a args) w) same) h.typed h.honest

-- ---- results

module _ (p : ImportPlaces) (u : AdapterTunables) (a : LinkedAdapter) (x : IsCheckedAdapter p a) (texts : TextsMove p u a) (args : List CoreValue) (w : World)
    (typed : is_state p w.state ≡ true) (args_typed : are_values args (return_params a) ≡ true) (t : TakenAreThere p a args w.state) (area : IsAreaSound p a args w.state) where
  abbrev r : TransferSetting
  r = returns.c p u a x texts args w typed args_typed

  abbrev handed_weight : ℕ
  handed_weight = weight_of_values a.lift.results (results_taken p a args w.state)

  -- the return area is in order
  abbrev area_by : Option (List ValType) → List Region
  area_by q = elim q [
    | Some flats ↦ []
    | None ↦ record { at = last_bits args; size = (entry_extent (options_of a.lower) (tuple_members a.lower.results)).size; align = (entry_extent (options_of a.lower) (tuple_members a.lower.results)).align } ∷ []
  ]

  placed : (q : Option (List ValType)) → flat_results a.lower ≡ q → IsPlaceOf r a.lift.results a.lower.results q (last_bits args) (IsInHand r []) (side_memory p (options_of a.lower) w.state)
  placed (Some flats) e = tt
  placed None e =
      let sound = subst (λ q. AllByRecursion (IsSoundRegion (length (side_memory p (options_of a.lower) w.state))) (area_by q)) e area in
      (x.results_into e, sound.0.aligned, sound.0.inside, area_is_live p u a x texts args w.state typed (flat_results a.lower) refl e)

  handed_ends : (e : Ended (List CoreValue)) → run p (async_return (quiet u) a args) w ≡ e → IsStraight e → AreHonestReturn p a args (calls_in e) → EndsInFew handed_weight e
  handed_ends e is straight h = go e is (subst (λ e. IsButForFlags e (run p (move_results (quiet u) a args (last_bits args)) (returns.meanwhile p u a x texts args w typed args_typed))) is (cleared_is p a.lower.instance (move_results (quiet u) a args (last_bits args)) w)) straight h
    where
      at : World
      at = returns.meanwhile p u a x texts args w typed args_typed

      given : List CoreValue
      given = leading_results a.lift args

      go : (e : Ended (List CoreValue)) → run p (async_return (quiet u) a args) w ≡ e → IsButForFlags e (run p (move_results (quiet u) a args (last_bits args)) at) → IsStraight e → AreHonestReturn p a args (calls_in e) → EndsInFew handed_weight e
      go (Gave n cs vs w2) is f straight h =
          let few : length cs ≤ 30 * (n + 1) = subst IsFew is (few_return_calls p (quiet u) a args w) in
          let weighs = (returns.in_quiet p u a x texts args w typed args_typed (Gave n cs vs w2) is h).weighs in
          record { ends = tt; few = omega (arith, few, weighs) }
      go (Strayed n cs w2) is f straight h = absurd straight
      go (Halted n cs s w2) is f straight h =
          let rs = t.values in
          let num = returns.numeric p u a x texts args w typed args_typed in
          let all = returns.given_typed p u a x texts args w typed args_typed in
          let formed = members_formed 0 a.lift.results x.lift_results.formed in
          let comes = come_all r a.lift.results a.lower.results formed (lift_results_limit a.lift.async_side) rs given num all x.results_behind t.there in
          let k = results_are_come p u a x texts args w.state typed given num all rs comes in
          let does = results_does p u a x texts args w.state typed given num all at refl rs comes (placed (flat_results a.lower) refl) in
          let ran = ap (λ q. run p q at) (returns.same_move p u a x texts args w typed args_typed) ∙ f in
          let honest = results_honest p u a x texts args w.state typed given num all at refl _ ran h in
          let stops = stop_so n cs s w2 does ran honest in
          let its = items_fields (to_side r) (tuple_members a.lift.results) (zip (typed_names (tuple_members a.lift.results)) rs) (tuple_members a.lower.results) in
          let few = tuple_items r a.lift.results a.lower.results x.results_agree x.lift_results x.lower_results rs k.are k.long in
          let weighs : handed_weight ≡ weight_members (tuple_members a.lift.results) rs = ap (weight_of_values a.lift.results) t.there in
          ends_lacking (AreInLimits r a.lift.results a.lower.results (flat_values (is_wide a.lift.memory) (lift_results_limit a.lift.async_side) a.lift.results) given) its handed_weight n cs s w2 stops
          (within_all r a.lift.results a.lower.results formed (lift_results_limit a.lift.async_side) rs given all t.there t.bounds)
          (λ b. let m = begun_calls_few its cs b in omega (arith, m, few, weighs))

pub returns_come_to_end : ReturnsComeToEnd
returns_come_to_end p u a args w x texts h off t area =
    let same = quiet_is u off in
    handed_ends p u a x texts args w h.state_typed h.args_typed t area (run p (async_return u a args) w) (ap (λ u. run p (async_return u a args) w) same) h.typed h.honest
