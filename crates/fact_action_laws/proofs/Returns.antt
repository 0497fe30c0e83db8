-- The function of an async adapter that moves results: an honest run that gives something has carried them.
use Rattle.std.proofs.Common.{◌≡◌, ℕ, ◌⊎◌, inl, inr, Bool, true, false, List, [], ◌∷◌, ◌++◌, length, map, take, Option, Some, None, refl, sym, ap, ◌∙◌, subst, arith}
use Rattle.std.proofs.lemmas.Bool.{false≢true}
use Rattle.std.proofs.lemmas.List.{length-map}
use mathlib.Core.Path.{fun_ext}
use Rattle.fact_wasm.specs.declared.types.ValType.{ValType}
use Rattle.fact_types.specs.Adapters.{Side, LinkedAdapter, is_wide}
use Rattle.fact_types.specs.Agrees.{AgreesPlaces}
use Rattle.fact_types.specs.Flat.{value_type}
use Rattle.fact_types.specs.FlatShapes.{flat_all}
use Rattle.fact_types.specs.Shapes.{Shape, no_members}
use Rattle.fact_types.specs.Signatures.{address, flat_or, unless_flat, flat_values, flat_params, lower_pointer, lift_results_limit}
use Rattle.fact_types.specs.Tuples.{tuple_members}
use Rattle.fact_types.specs.declared.flats.FlatType.{FlatType}
use Rattle.fact_machine.specs.declared.types.CoreValue.{CoreValue}
use Rattle.fact_machine.specs.declared.types.MachineState.{MachineState}
use Rattle.fact_machine.specs.Typed.{is_value, are_values}
use Rattle.fact_machine.specs.World.{World}
use Rattle.fact_values.specs.declared.value.Value.{Value}
use Rattle.fact_values.specs.Canonical.{AreCanonicalAt, AreCanonicalFlat}
use Rattle.fact_values.specs.IsA.{AreMembers}
use Rattle.fact_values.specs.Lift.{lift_members}
use Rattle.fact_values.specs.Places.{typed_names}
use Rattle.fact_values.specs.Tuples.{load_tuple, behind_last, lower_result_values}
use Rattle.fact_actions.specs.Actions.{Action}
use Rattle.fact_actions.specs.Adapters.{AdapterTunables, check_tuple, flat_results, into_results, last_bits, return_params, async_return, move_results}
use Rattle.fact_actions.specs.AdapterLaws.{IsChecked}
use Rattle.fact_actions.specs.Calls.{side_memory}
use Rattle.fact_actions.specs.Honest.{AreHonestReturn, IsHonestReturn}
use Rattle.fact_actions.specs.Moves.{move_fields}
use Rattle.fact_actions.specs.Regions.{Region, return_area}
use Rattle.fact_actions.specs.Running.{ImportPlaces, Call, Ended, Gave, Halted, Strayed, is_state, moved_weight, calls_in, run}
use Rattle.fact_actions.specs.Sides.{Source, Values, AtAddress, Slots, Into, options_of, first_bits, width_of_side}
use Rattle.fact_actions.proofs.CheckedMoves.{return_checked}
use Rattle.fact_action_laws.specs.Faithful.{flat_results_of, WhereGiven, weight_of_values}
use Rattle.fact_action_laws.specs.FaithfulLaws.{quiet, setting_of_results, IsCheckedAdapter, TextsMove}
use Rattle.fact_action_laws.specs.HonestMoves.{AreHonestCalls}
use Rattle.fact_action_laws.specs.MoveTerms.{AreWellFormed}
use Rattle.fact_action_laws.specs.Places.{to_side, IsSource}
use Rattle.fact_action_laws.specs.Regions.{TransferSetting, IsInHand, AreBytesOf}
use Rattle.fact_action_laws.specs.TransferLaws.{leading_results, results_taken, HasHandedResults, ReturnsAreFaithful, ReturnsWeigh}
use Rattle.fact_action_laws.proofs.Cleared.{IsButForFlags, without_flags, cleared_is}
use Rattle.fact_action_laws.proofs.Deliveries.{results_setting, results_are_come, results_come_or_never, results_does, results_honest}
use Rattle.fact_action_laws.proofs.Grounding.{source_typed}
use Rattle.fact_action_laws.proofs.Landed.{flat_of, HasLanded, results_landed}
use Rattle.fact_action_laws.proofs.Landing.{all_each, bytes_there, behind_return, stands_behind}
use Rattle.fact_action_laws.proofs.MoveLaws.{AreMoved, MembersStand}
use Rattle.fact_action_laws.proofs.Membered.{members_formed, moved_carries}
use Rattle.fact_action_laws.specs.Judged.{GivesNothing}
use Rattle.fact_action_laws.proofs.Starts.{flat_numeric, not_given, given_so}
use Rattle.fact_action_laws.proofs.Targets.{both_true, left_true, right_true}
use Rattle.fact_action_laws.proofs.Transfers.{ComeBy, IsPlaceOf, spot_of, ends_at, leading, leads, flats_are}
use Rattle.fact_action_laws.proofs.TypedArgs.{AreNumeric}
use Rattle.fact_action_laws.proofs.Weighed.{does_give_so, moved_weighs}

-- ---- leading arguments

typed_leading : (xs ys : List ValType) (vs : List CoreValue) → are_values vs (xs ++ ys) ≡ true → are_values (take (length xs) vs) xs ≡ true
typed_leading [] ys vs h = refl
typed_leading (x ∷ xs) ys [] h = absurd (false≢true h)
typed_leading (x ∷ xs) ys (v ∷ vs) h = both_true (is_value v x) (are_values (take (length xs) vs) xs) (left_true (is_value v x) _ h) (typed_leading xs ys vs (right_true (is_value v x) _ h))

numeric_more : (ts us : List ValType) → AreNumeric ts → AreNumeric us → AreNumeric (ts ++ us)
numeric_more [] us h k = k
numeric_more (t ∷ ts) us h k = (h.0, numeric_more ts us h.1 k)

address_numeric : (wide : Bool) → AreNumeric (address wide ∷ [])
address_numeric true = (tt, tt)
address_numeric false = (tt, tt)

pointer_numeric : (async wide : Bool) (rs : List Shape) → AreNumeric (lower_pointer async wide rs)
pointer_numeric true wide [] = tt
pointer_numeric true wide (r ∷ rs) = address_numeric wide
pointer_numeric false wide rs = go (flat_values wide 1 rs)
  where
    go : (o : Option (List ValType)) → AreNumeric (unless_flat (address wide ∷ []) o)
    go None = address_numeric wide
    go (Some vs) = tt

-- Results are moved from their own core values, whatever follows them.
module _ (p : ImportPlaces) (u : AdapterTunables) (a : LinkedAdapter) (area : List Region) (source : List ℕ) (args : List CoreValue) (others : List ValType)
    (numeric : AreNumeric (flat_params (is_wide a.lift.memory) (lift_results_limit a.lift.async_side) a.lift.results ++ others)) (typed : are_values args (flat_params (is_wide a.lift.memory) (lift_results_limit a.lift.async_side) a.lift.results ++ others) ≡ true) where
  abbrev r : TransferSetting
  r = setting_of_results p u a area source

  abbrev limit : ℕ
  limit = lift_results_limit a.lift.async_side

  abbrev wide : Bool
  wide = is_wide a.lift.memory

  -- by their flat types, where they have some
  abbrev rest : (pointer : ℕ) → Source → Action (List CoreValue)
  rest pointer s = into_results a.lower pointer (λ d. move_fields r.transfer (tuple_members a.lift.results) (tuple_members a.lower.results) 0 s d)

  abbrev moved_by : (pointer : ℕ) → Option (List ValType) → List CoreValue → Action (List CoreValue)
  moved_by pointer q vs = elim q [ Some flats ↦ rest pointer (Values vs) | None ↦ check_tuple (options_of a.lift) a.lift.results (first_bits vs) (rest pointer (AtAddress (first_bits vs))) ]

  leading_moved : (pointer : ℕ) → move_results u a (leading_results a.lift args) pointer ≡ move_results u a args pointer
  leading_moved pointer = go (flat_all (width_of_side (options_of a.lift)) limit a.lift.results) refl (λ flats e. source_typed r a.lift.results a.lower.results limit args others numeric typed flats e)
    where
      first : (vs : List CoreValue) → first_bits (take 1 vs) ≡ first_bits vs
      first [] = refl
      first (v ∷ vs) = refl

      go : (o : Option (List FlatType)) → flat_all (width_of_side (options_of a.lift)) limit a.lift.results ≡ o
          → ((flats : List ValType) → flat_of (flat_all (width_of_side (options_of a.lift)) limit a.lift.results) ≡ Some flats → IsSource r (leading r a.lift.results a.lower.results) (Values (take (leading r a.lift.results a.lower.results) args)))
          → moved_by pointer (flat_of o) (take (length (flat_or (address wide ∷ []) (flat_of o))) args) ≡ moved_by pointer (flat_of o) args
      go None e is = ap (λ n. check_tuple (options_of a.lift) a.lift.results n (rest pointer (AtAddress n))) (first args)
      go (Some fs) e is =
          let same = flats_are (width_of_side (options_of a.lift)) 0 a.lift.results fs (all_each (width_of_side (options_of a.lift)) limit a.lift.results fs e) in
          let long : length (map value_type fs) ≡ leading r a.lift.results a.lower.results = length-map fs value_type ∙ ap length (sym same) in
          ap (λ n. rest pointer (Values (take n args))) long
          ∙ ap (λ F. into_results a.lower pointer F) (fun_ext (λ d. leads r a.lift.results a.lower.results args d (is (map value_type fs) (ap flat_of e))))

-- ---- results of either kind of lower side

-- a side that results go to, of this kind
abbrev marked : TransferSetting → (ss us : List Shape) → Side → Bool → Side
marked c ss us s b = record (ends_at c ss us s) { async_side = b }

module _ (c : TransferSetting) (ss : List Shape) (rs : List Value) (are : AreMembers (tuple_members ss) rs) (long : length rs ≡ length (typed_names (tuple_members ss))) (source : Option (List Value)) (from : source ≡ Some rs)
    (s : Side) (m : List ℕ) (k : ℕ) (cs : List Call) (given args : List CoreValue) (ts : List ValType) (w : World) (last : MachineState) (same : last.memories ≡ w.state.memories) where
  abbrev bytes : List ℕ
  bytes = side_memory c.places c.transfer.to last

  there : (now : List ℕ) → AreBytesOf c.places c.transfer.to w.state now → bytes ≡ now
  there now t = bytes_there c.places c.transfer.to last now (subst (λ ms. AreBytesOf c.places c.transfer.to (record { memories = ms; globals = last.globals }) now) (sym same) t)

  -- behind the return pointer of an async side
  behind_landed : (us : List Shape) → AgreesPlaces (tuple_members ss) (tuple_members us) → are_values args (ts ++ address (is_wide c.transfer.to.memory) ∷ []) ≡ true → IsPlaceOf c ss us None (last_bits args) (IsInHand c []) m
      → AreMoved c [] m (tuple_members ss) (tuple_members us) 0 (Into (last_bits args)) rs k cs given w → HasLanded c ss us source (behind_last (to_side c) bytes us args) cs bytes None given (last_bits args)
  behind_landed us agree typed place moved =
      let now = moved.leaves.now in
      let is : bytes ≡ now = there now moved.leaves.ready.to in
      let stand : MembersStand c (tuple_members us) 0 moved.outs (Into (last_bits args)) given now = moved.leaves.placed.stands.holds now (record { same = λ j f. refl; room = omega arith }) in
      record {
        transferred = moved_carries c [] m ss us (Into (last_bits args)) rs k cs given w agree are long moved source _ from
            (behind_return (is_wide c.transfer.to.memory) c.transfer.to.encoding bytes us ts args typed
            ∙ ap (λ b. load_tuple (to_side c) b us (last_bits args)) is
            ∙ stands_behind c us (last_bits args) moved.outs given now place.1 (omega (arith, place.2, moved.leaves.placed.room)) stand);
        canonical = subst (λ b. AreCanonicalAt (to_side c) b (tuple_members us) (last_bits args) 0) (sym is) stand.1;
      }

  -- no results
  none_landed : AgreesPlaces (tuple_members ss) no_members → AreMoved c [] m (tuple_members ss) no_members 0 (Slots []) rs k cs given w → HasLanded c ss [] source (Some []) cs bytes (Some []) given (last_bits args)
  unfolding lift_members
  none_landed agree moved =
      let now = moved.leaves.now in
      let stand : MembersStand c no_members 0 moved.outs (Slots []) given now = moved.leaves.placed.stands.holds now (record { same = λ j f. refl; room = omega arith }) in
      record {
        transferred = moved_carries c [] m ss [] (Slots []) rs k cs given w agree are long moved source (Some []) from stand.0;
        canonical = subst (λ b. AreCanonicalFlat (to_side c) b no_members given) (sym (there now moved.leaves.ready.to)) stand.1;
      }

  by_kind : (b : Bool) (us : List Shape) → AgreesPlaces (tuple_members ss) (tuple_members us) → AreWellFormed (tuple_members us) → are_values args (ts ++ lower_pointer b (is_wide c.transfer.to.memory) us) ≡ true
      → IsPlaceOf c ss us (flat_results (marked c ss us s b)) (last_bits args) (IsInHand c []) m → AreMoved c [] m (tuple_members ss) (tuple_members us) 0 (spot_of c ss us (flat_results (marked c ss us s b)) (last_bits args)) rs k cs given w
      → HasLanded c ss us source (lower_result_values b (to_side c) bytes us args given) cs bytes (flat_results_of (marked c ss us s b)) given (last_bits args)
  by_kind false us agree formed typed place moved = results_landed c ss us agree formed rs are long source from m k cs given args ts w last same typed place moved
  by_kind true [] agree formed typed place moved = none_landed agree moved
  by_kind true (u ∷ us) agree formed typed place moved = behind_landed (u ∷ us) agree typed place moved

-- ---- runs

module _ (p : ImportPlaces) (u : AdapterTunables) (a : LinkedAdapter) (x : IsCheckedAdapter p a) (texts : TextsMove p u a) (args : List CoreValue) (w : World)
    (typed : is_state p w.state ≡ true) (args_typed : are_values args (return_params a) ≡ true) where
  abbrev pub c : TransferSetting
  c = results_setting p u a x texts args w.state typed

  -- where the results are moved
  abbrev pub meanwhile : World
  meanwhile = without_flags p a.lower.instance w

  abbrev pub given : List CoreValue
  given = leading_results a.lift args

  abbrev leading_types : List ValType
  leading_types = flat_params (is_wide a.lift.memory) (lift_results_limit a.lift.async_side) a.lift.results

  abbrev pointer_types : List ValType
  pointer_types = lower_pointer a.lower.async_side (is_wide a.lower.memory) a.lower.results

  pub numeric : AreNumeric leading_types
  numeric = flat_numeric (is_wide a.lift.memory) (lift_results_limit a.lift.async_side) a.lift.results

  pub given_typed : are_values given leading_types ≡ true
  given_typed = typed_leading leading_types pointer_types args args_typed

  pub same_move : move_results (quiet u) a given (last_bits args) ≡ move_results (quiet u) a args (last_bits args)
  same_move =
      leading_moved p (quiet u) a (return_area a args) (side_memory p (options_of a.lift) w.state) args pointer_types
      (numeric_more leading_types pointer_types numeric (pointer_numeric a.lower.async_side (is_wide a.lower.memory) a.lower.results)) args_typed (last_bits args)

  -- What a run that gives something has done.
  pub record Handed (n : ℕ) (cs : List Call) (vs : List CoreValue) (s : MachineState) : Type 0 where
    pub handed : HasHandedResults p a args w.state cs vs s
    pub weighs : n ≡ weight_of_values a.lift.results (results_taken p a args w.state)

  handed : (n : ℕ) (cs : List Call) (vs : List CoreValue) (w' : World) (s : MachineState) → run p (move_results (quiet u) a given (last_bits args)) meanwhile ≡ Gave n cs vs w' → s.memories ≡ w'.state.memories → AreHonestReturn p a args cs → Handed n cs vs s
  handed n cs vs w' s is same h = go (results_come_or_never p u a x texts args w.state typed given numeric given_typed meanwhile refl)
    where
      honest : AreHonestCalls c [] cs
      honest = results_honest p u a x texts args w.state typed given numeric given_typed meanwhile refl _ is h

      go : (((rs : List Value) × ComeBy c a.lift.results a.lower.results (flat_values (is_wide a.lift.memory) (lift_results_limit a.lift.async_side) a.lift.results) given rs)
          × IsPlaceOf c a.lift.results a.lower.results (flat_results a.lower) (last_bits args) (IsInHand c []) (side_memory p (options_of a.lower) w.state))
          ⊎ GivesNothing c [] (move_results (quiet u) a given (last_bits args)) meanwhile → Handed n cs vs s
      go (inr never) = absurd (does_give_so c [] _ _ (move_results (quiet u) a given (last_bits args)) meanwhile n cs vs w' never is honest)
      go (inl (k, place)) =
          let rs = k.0 in
          let m = side_memory p (options_of a.lower) w.state in
          let come = results_are_come p u a x texts args w.state typed given numeric given_typed rs k.1 in
          let formed = members_formed 0 a.lower.results x.lower_results.formed in
          let does = results_does p u a x texts args w.state typed given numeric given_typed meanwhile refl rs k.1 place in
          let moved = does_give_so c [] _ _ (move_results (quiet u) a given (last_bits args)) meanwhile n cs vs w' does is honest in
          let landed = by_kind c a.lift.results rs come.are come.long (results_taken p a args w.state) come.answered a.lower m n cs vs args leading_types w' s same a.lower.async_side a.lower.results x.results_agree formed args_typed place moved in
          record {
            handed = record { results = landed.transferred; canonical = landed.canonical };
            weighs = moved_weighs c [] m a.lift.results a.lower.results (spot_of c a.lift.results a.lower.results (flat_results a.lower) (last_bits args)) rs n cs vs w' x.results_agree come.long moved (results_taken p a args w.state) come.answered;
          }

  -- the whole function, without debug checks
  pub in_quiet : (e : Ended (List CoreValue)) → run p (async_return (quiet u) a args) w ≡ e → AreHonestReturn p a args (calls_in e) → WhereGiven e (λ cs vs w'. Handed (moved_weight e) cs vs w'.state)
  in_quiet e is h = go e (subst (λ e. IsButForFlags e (run p (move_results (quiet u) a args (last_bits args)) meanwhile)) is (cleared_is p a.lower.instance (move_results (quiet u) a args (last_bits args)) w)) h
    where
      go : (e : Ended (List CoreValue)) → IsButForFlags e (run p (move_results (quiet u) a args (last_bits args)) meanwhile) → AreHonestReturn p a args (calls_in e) → WhereGiven e (λ cs vs w'. Handed (moved_weight e) cs vs w'.state)
      go (Gave n cs vs w2) f h = handed n cs vs f.0 w2.state (ap (λ q. run p q meanwhile) same_move ∙ f.1) f.2 h
      go (Halted n cs s w2) f h = tt
      go (Strayed n cs w2) f h = tt

-- Debug checks only cut a run short.
module _ (p : ImportPlaces) (u : AdapterTunables) (a : LinkedAdapter) (args : List CoreValue) (w : World) (x : IsCheckedAdapter p a) (texts : TextsMove p u a) (h : IsHonestReturn p a args w.state (run p (async_return u a args) w)) where
  each_return : WhereGiven (run p (async_return u a args) w) (λ cs vs w'. Handed p u a x texts args w h.state_typed h.args_typed (moved_weight (run p (async_return u a args) w)) cs vs w'.state)
  each_return = go (run p (async_return u a args) w) h.honest (return_checked p u a args w)
    where
      go : (e : Ended (List CoreValue)) → AreHonestReturn p a args (calls_in e) → IsChecked e (run p (async_return (quiet u) a args) w) → WhereGiven e (λ cs vs w'. Handed p u a x texts args w h.state_typed h.args_typed (moved_weight e) cs vs w'.state)
      go e honest (inl same) = in_quiet p u a x texts args w h.state_typed h.args_typed e (sym same) honest
      go e honest (inr short) = not_given e _ short.ends

pub returns_faithful : ReturnsAreFaithful
returns_faithful p u a args w x texts h = given_so (run p (async_return u a args) w) _ _ (each_return p u a args w x texts h) (λ cs vs w' s. s.handed)

pub returns_weigh : ReturnsWeigh
returns_weigh p u a args w x texts h = given_so (run p (async_return u a args) w) _ _ (each_return p u a args w x texts h) (λ cs vs w' s. s.weighs)
