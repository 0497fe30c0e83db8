-- Honest runs of whole sync adapters that give something are faithful, and the nodes that they moved weigh what was carried.
use Rattle.std.proofs.Common.{◌≡◌, ℕ, ◌⊎◌, inl, inr, ⊎_elim, Bool, true, false, List, [], ◌∷◌, ◌++◌, length, Option, Some, None, refl, sym, ap, ◌∙◌, subst, arith, append_assoc}
use Rattle.fact_wasm.specs.declared.types.ValType.{ValType}
use Rattle.fact_types.specs.Adapters.{LinkedAdapter, is_wide}
use Rattle.fact_types.specs.Shapes.{Shape}
use Rattle.fact_types.specs.Signatures.{address, flat_values, flat_params, unless_flat}
use Rattle.fact_types.specs.Tuples.{tuple_members}
use Rattle.fact_machine.specs.declared.types.CoreValue.{CoreValue}
use Rattle.fact_machine.specs.World.{World}
use Rattle.fact_machine.specs.Typed.{are_values}
use Rattle.fact_values.specs.declared.value.Value.{Value}
use Rattle.fact_values.specs.Places.{typed_names}
use Rattle.fact_actions.specs.Adapters.{AdapterTunables, flat_results, last_bits, move_params, move_results, lower_signature_of, sync}
use Rattle.fact_actions.specs.AdapterLaws.{HasNotGiven}
use Rattle.fact_actions.specs.Calls.{side_memory, results, state_after, is_call_of, is_import_of}
use Rattle.fact_actions.specs.Honest.{AreHonestSync, IsHonestRun}
use Rattle.fact_actions.specs.Plain.{ended_sync, guarded_if}
use Rattle.fact_actions.specs.Regions.{Region}
use Rattle.fact_actions.specs.Running.{ImportPlaces, Call, Ended, Gave, Halted, Strayed, is_state, moved_weight, run, calls_in}
use Rattle.fact_actions.specs.Sides.{options_of, first_bits, width_of_side}
use Rattle.fact_actions.proofs.CheckedMoves.{sync_checked}
use Rattle.fact_actions.proofs.OwnParts.{same_self}
use Rattle.fact_values.specs.Tuples.{lower_result_values, lift_param_values}
use Rattle.fact_action_laws.specs.Faithful.{IsFaithful, WhereGiven, params_given, params_passed, results_answered, results_got, flat_results_of, weight_of_values, whole_weight, answered_weight}
use Rattle.fact_action_laws.specs.FaithfulLaws.{quiet, IsCheckedAdapter, HasSyncSides, TextsMove, RunsAreFaithful, RunsWeigh}
use Rattle.fact_action_laws.specs.Places.{to_side}
use Rattle.fact_action_laws.specs.Regions.{TransferSetting, IsInHand}
use Rattle.fact_action_laws.proofs.Assembled.{assembled}
use Rattle.fact_action_laws.proofs.Deliveries.{params_setting, params_are_come, params_come_or_never, params_does, params_honest, results_setting, results_are_come, results_come_or_never, results_does, results_honest}
use Rattle.fact_action_laws.proofs.Framed.{IsParted, parted, when_guarded}
use Rattle.fact_action_laws.proofs.Landed.{HasLanded, params_landed, results_landed}
use Rattle.fact_action_laws.proofs.Membered.{members_formed}
use Rattle.fact_action_laws.proofs.Once.{none_before}
use Rattle.fact_action_laws.proofs.TransferHonesty.{AreHonestParts, honest_parts}
use Rattle.fact_action_laws.proofs.Transfers.{WentBy, IsPlaceOf, spot_of, ComeBy}
use Rattle.fact_action_laws.proofs.TypedArgs.{lower_numeric, lift_numeric, AreNumeric}
use Rattle.fact_action_laws.proofs.Weighed.{does_give_so, moved_weighs, answered_once}
use Rattle.fact_types.specs.Agrees.{AgreesPlaces}
use Rattle.fact_types.specs.declared.flats.FlatType.{FlatType}
use Rattle.fact_types.specs.FlatShapes.{flat_all}
use Rattle.fact_action_laws.specs.HonestMoves.{AreHonestCalls}
use Rattle.fact_action_laws.proofs.Parting.{When, parts_so, parts_self}
use Rattle.fact_action_laws.specs.Judged.{GivesNothing}

-- an adapter with sync sides
abbrev pub synced : LinkedAdapter → LinkedAdapter
synced a = record a { lower = record a.lower { async_side = false }; lift = record a.lift { async_side = false } }

pub synced_is : (a : LinkedAdapter) → HasSyncSides a → synced a ≡ a
synced_is a h = (λ i. record a { lower = record a.lower { async_side = sym h.lower i }; lift = record a.lift { async_side = sym h.lift i } })

-- what parameters weigh that were passed on
went_weighs : (c : TransferSetting) (ss us : List Shape) (q : Option (List ValType)) (gs : List Region) (m : List ℕ) (rs : List Value) (n : ℕ) (cs : List Call) (vs : List CoreValue) (w : World)
    → AgreesPlaces (tuple_members ss) (tuple_members us) → length rs ≡ length (typed_names (tuple_members ss)) → WentBy c ss us q gs m rs n cs vs w → (source : Option (List Value)) → source ≡ Some rs → n ≡ weight_of_values ss source
went_weighs c ss us (Some flats) gs m rs n cs vs w agree long went source from = moved_weighs c _ _ ss us _ rs n cs vs w agree long went source from
went_weighs c ss us None gs m rs n cs vs w agree long went source from = moved_weighs c _ _ ss us _ rs n _ _ w agree long went.moved source from

-- Both that a transfer landed and what it weighs.
record Came (c : TransferSetting) (ss us : List Shape) (source destination : Option (List Value)) (calls : List Call) (bytes : List ℕ) (flats : Option (List FlatType)) (given : List CoreValue) (pointer n : ℕ) : Type 0 where
  pub landed : HasLanded c ss us source destination calls bytes flats given pointer
  pub weighs : n ≡ weight_of_values ss source

module _ (p : ImportPlaces) (u : AdapterTunables) (b : LinkedAdapter) where
  abbrev a : LinkedAdapter
  a = synced b

  module _ (x : IsCheckedAdapter p a) (texts : TextsMove p u a) (args : List CoreValue) (w : World) (typed : is_state p w.state ≡ true) (args_typed : are_values args (lower_signature_of a).params ≡ true) where
    abbrev others : List ValType
    others = unless_flat (address (is_wide a.lower.memory) ∷ []) (flat_values (is_wide a.lower.memory) 1 a.lower.results)

    -- the transfer of parameters
    params_came : (n : ℕ) (cs : List Call) (vs : List CoreValue) (w' : World) (k : IsParted p (quiet u) a args w n cs vs w') → AreHonestParts p (quiet u) a args w n cs vs w' k
        → Came (params_setting p u a x texts w.state typed) a.lower.params a.lift.params (params_given p a args w.state) (params_passed p a k.callee) k.params (side_memory p (options_of a.lift) k.callee.before) (flat_all (width_of_side (options_of a.lift)) 16 a.lift.params) k.callee.args (first_bits k.callee.args) k.params_weight
    params_came n cs vs w' k parts = go (params_come_or_never p u a x texts w.state typed args others numeric args_typed k.before_params parts.begins)
      where
        c : TransferSetting
        c = params_setting p u a x texts w.state typed

        numeric : AreNumeric (flat_params (is_wide a.lower.memory) 16 a.lower.params ++ others)
        numeric = lower_numeric (is_wide a.lower.memory) a.lower.params a.lower.results

        honest : AreHonestCalls c [] k.params
        honest = params_honest p u a x texts w.state typed args others numeric args_typed k.before_params parts.begins _ k.params_run parts.params

        go : ((rs : List Value) × ComeBy c a.lower.params a.lift.params (flat_values (is_wide a.lower.memory) 16 a.lower.params) args rs) ⊎ GivesNothing c [] (move_params (quiet u) a args) k.before_params
            → Came c a.lower.params a.lift.params (params_given p a args w.state) (params_passed p a k.callee) k.params (side_memory p (options_of a.lift) k.callee.before) (flat_all (width_of_side (options_of a.lift)) 16 a.lift.params) k.callee.args (first_bits k.callee.args) k.params_weight
        go (inr never) = absurd (does_give_so c [] _ _ (move_params (quiet u) a args) k.before_params k.params_weight k.params k.core k.behind_params never k.params_run honest)
        go (inl h) =
            let rs = h.0 in
            let m = side_memory p (options_of a.lift) w.state in
            let come = params_are_come p u a x texts w.state typed args others numeric args_typed rs h.1 in
            let formed = members_formed 0 a.lift.params x.lift_params.formed in
            let does = params_does p u a x texts w.state typed args others numeric args_typed k.before_params parts.begins rs h.1 in
            let went = does_give_so c [] _ _ (move_params (quiet u) a args) k.before_params k.params_weight k.params k.core k.behind_params does k.params_run honest in
            record {
              landed = subst (λ core. HasLanded c a.lower.params a.lift.params (params_given p a args w.state) (lift_param_values (to_side c) (side_memory p (options_of a.lift) k.callee.before) a.lift.params core) k.params (side_memory p (options_of a.lift) k.callee.before) (flat_all (width_of_side (options_of a.lift)) 16 a.lift.params) core (first_bits core)) (sym k.callee_args)
                  (params_landed c a.lower.params a.lift.params x.params_agree formed rs come.are come.long (params_given p a args w.state) come.given m k.params_weight k.params k.core k.behind_params k.callee.before k.callee_before went);
              weighs = went_weighs c a.lower.params a.lift.params (flat_values (is_wide a.lift.memory) 16 a.lift.params) [] m rs k.params_weight k.params k.core k.behind_params x.params_agree come.long went (params_given p a args w.state) come.given;
            }

    -- the transfer of results
    results_came : (n : ℕ) (cs : List Call) (vs : List CoreValue) (w' : World) (k : IsParted p (quiet u) a args w n cs vs w') → AreHonestParts p (quiet u) a args w n cs vs w' k
        → Came (results_setting p u a x texts args (state_after k.callee) k.answer_state) a.lift.results a.lower.results (results_answered p a k.callee) (results_got p a args vs w'.state) k.back (side_memory p (options_of a.lower) w'.state) (flat_results_of a.lower) vs (last_bits args) k.results_weight
    results_came n cs vs w' k parts = go (results_come_or_never p u a x texts args (state_after k.callee) k.answer_state (results k.callee) numeric k.answer_typed k.before_results parts.returns)
      where
        c : TransferSetting
        c = results_setting p u a x texts args (state_after k.callee) k.answer_state

        numeric : AreNumeric (flat_params (is_wide a.lift.memory) 1 a.lift.results)
        numeric = lift_numeric (is_wide a.lift.memory) a.lift.params a.lift.results

        honest : AreHonestCalls c [] k.back
        honest = results_honest p u a x texts args (state_after k.callee) k.answer_state (results k.callee) numeric k.answer_typed k.before_results parts.returns _ k.results_run parts.results

        go : (((rs : List Value) × ComeBy c a.lift.results a.lower.results (flat_values (is_wide a.lift.memory) 1 a.lift.results) (results k.callee) rs) × IsPlaceOf c a.lift.results a.lower.results (flat_results a.lower) (last_bits args) (IsInHand c []) (side_memory p (options_of a.lower) (state_after k.callee)))
            ⊎ GivesNothing c [] (move_results (quiet u) a (results k.callee) (last_bits args)) k.before_results
            → Came c a.lift.results a.lower.results (results_answered p a k.callee) (results_got p a args vs w'.state) k.back (side_memory p (options_of a.lower) w'.state) (flat_results_of a.lower) vs (last_bits args) k.results_weight
        go (inr never) = absurd (does_give_so c [] _ _ (move_results (quiet u) a (results k.callee) (last_bits args)) k.before_results k.results_weight k.back vs k.behind_results never k.results_run honest)
        go (inl (h, place)) =
            let rs = h.0 in
            let m = side_memory p (options_of a.lower) (state_after k.callee) in
            let come = results_are_come p u a x texts args (state_after k.callee) k.answer_state (results k.callee) numeric k.answer_typed rs h.1 in
            let formed = members_formed 0 a.lower.results x.lower_results.formed in
            let does = results_does p u a x texts args (state_after k.callee) k.answer_state (results k.callee) numeric k.answer_typed k.before_results parts.returns rs h.1 place in
            let moved = does_give_so c [] _ _ (move_results (quiet u) a (results k.callee) (last_bits args)) k.before_results k.results_weight k.back vs k.behind_results does k.results_run honest in
            record {
              landed = subst (λ bytes. HasLanded c a.lift.results a.lower.results (results_answered p a k.callee) (lower_result_values false (to_side c) bytes a.lower.results args vs) k.back bytes (flat_results_of a.lower) vs (last_bits args)) (sym parts.kept)
                  (results_landed c a.lift.results a.lower.results x.results_agree formed rs come.are come.long (results_answered p a k.callee) come.answered m k.results_weight k.back vs args (flat_params (is_wide a.lower.memory) 16 a.lower.params) k.behind_results k.behind_results.state refl args_typed place moved);
              weighs = moved_weighs c [] m a.lift.results a.lower.results (spot_of c a.lift.results a.lower.results (flat_results a.lower) (last_bits args)) rs k.results_weight k.back vs k.behind_results x.results_agree come.long moved (results_answered p a k.callee) come.answered;
            }

    -- A run that gives something is faithful, and weighs what it carried.
    pub record Faithfully (n : ℕ) (cs : List Call) (vs : List CoreValue) (w' : World) : Type 0 where
      pub faithful : IsFaithful p a args w.state cs vs w'.state
      pub weighs : n ≡ whole_weight p a args w.state cs

    faithfully : (n : ℕ) (cs : List Call) (vs : List CoreValue) (w' : World) → AreHonestSync p a args cs → IsParted p (quiet u) a args w n cs vs w' → Faithfully n cs vs w'
    faithfully n cs vs w' honest k =
        let parts = honest_parts p (quiet u) a args w n cs vs w' x k honest in
        let one = params_came n cs vs w' k parts in
        let two = results_came n cs vs w' k parts in
        let called : is_call_of a.callee k.callee ≡ true = ap (is_import_of a.callee) k.callee_is ∙ same_self a.callee in
        let answered : answered_weight p a cs ≡ weight_of_values a.lift.results (results_answered p a k.callee) =
        ap (answered_weight p a) (k.calls_are ∙ sym (append_assoc k.enter k.params (k.callee ∷ (k.between ++ (k.back ++ k.finish)))))
        ∙ answered_once p a (k.enter ++ k.params) k.callee (k.between ++ (k.back ++ k.finish)) (none_before p (quiet u) a args w n cs vs w' k x) called in
        record {
          faithful = assembled p (quiet u) a args w n cs vs w' x k one.landed.transferred two.landed.transferred one.landed.canonical two.landed.canonical;
          weighs = omega (arith, k.weight_is, one.weighs, two.weighs, answered);
        }

-- ---- with debug checks, and behind the barrier

-- what was given with checks is given without them
unchecked : (p : ImportPlaces) (u : AdapterTunables) (a : LinkedAdapter) (args : List CoreValue) (w w' : World) (n : ℕ) (cs : List Call) (vs : List CoreValue) → run p (sync u a args) w ≡ Gave n cs vs w' → run p (sync (quiet u) a args) w ≡ Gave n cs vs w'
unchecked p u a args w w' n cs vs e = ⊎_elim (λ same. sym same ∙ e) (λ cut. absurd (subst HasNotGiven e cut.ends)) (sync_checked p u a args w)

taken_apart : (p : ImportPlaces) (u : AdapterTunables) (a : LinkedAdapter) (args : List CoreValue) (w : World) → When (ended_sync p u a args w) (λ n cs vs w'. IsParted p (quiet u) a args w n cs vs w')
taken_apart p u a args w =
    when_guarded p u.exceptions (run p (sync u a args) w) (λ n cs vs w'. IsParted p (quiet u) a args w n cs vs w')
    (parts_so (parts_self p (sync u a args) w) (λ n cs vs w' e. parted p (quiet u) a args w w' n cs vs (ap (guarded_if u.exceptions p) (unchecked p u a args w w' n cs vs e) ∙ given_stays p u.exceptions n cs vs w'))).so
  where
    given_stays : (p : ImportPlaces) (b : Bool) (n : ℕ) (cs : List Call) (vs : List CoreValue) (w' : World) → guarded_if b p (Gave n cs vs w') ≡ Gave n cs vs w'
    given_stays p true n cs vs w' = refl
    given_stays p false n cs vs w' = refl

-- What an honest run gives is faithful, and weighs what it carried.
abbrev pub GivesFaithfully : (p : ImportPlaces) (u : AdapterTunables) (args : List CoreValue) (w : World) → LinkedAdapter → Type 0
GivesFaithfully p u args w a =
    IsCheckedAdapter p a → TextsMove p u a → IsHonestRun p a args w.state (ended_sync p u a args w)
    → When (ended_sync p u a args w) (λ n cs vs w'. IsFaithful p a args w.state cs vs w'.state × (n ≡ whole_weight p a args w.state cs))

pub gives_faithfully : (p : ImportPlaces) (u : AdapterTunables) (args : List CoreValue) (w : World) (b : LinkedAdapter) → GivesFaithfully p u args w (synced b)
gives_faithfully p u args w b x texts honest = go (ended_sync p u (synced b) args w) honest.honest (taken_apart p u (synced b) args w)
  where
    go : (e : Ended (List CoreValue)) → AreHonestSync p (synced b) args (calls_in e) → When e (λ n cs vs w'. IsParted p (quiet u) (synced b) args w n cs vs w')
        → When e (λ n cs vs w'. IsFaithful p (synced b) args w.state cs vs w'.state × (n ≡ whole_weight p (synced b) args w.state cs))
    go (Gave n cs vs w') h k = let r = faithfully p u b x texts args w honest.state_typed honest.args_typed n cs vs w' h k in (r.faithful, r.weighs)
    go (Halted n cs s w') h k = tt
    go (Strayed n cs w') h k = tt

pub runs_are_faithful : RunsAreFaithful
runs_are_faithful p u a args w x sides texts honest =
    go (ended_sync p u a args w) (subst (GivesFaithfully p u args w) (synced_is a sides) (gives_faithfully p u args w a) x texts honest)
  where
    go : (e : Ended (List CoreValue)) → When e (λ n cs vs w'. IsFaithful p a args w.state cs vs w'.state × (n ≡ whole_weight p a args w.state cs)) → WhereGiven e (λ cs vs w'. IsFaithful p a args w.state cs vs w'.state)
    go (Gave n cs vs w') h = h.0
    go (Halted n cs s w') h = tt
    go (Strayed n cs w') h = tt

pub runs_weigh : RunsWeigh
runs_weigh p u a args w x sides texts honest =
    go (ended_sync p u a args w) (subst (GivesFaithfully p u args w) (synced_is a sides) (gives_faithfully p u args w a) x texts honest)
  where
    go : (e : Ended (List CoreValue)) → When e (λ n cs vs w'. IsFaithful p a args w.state cs vs w'.state × (n ≡ whole_weight p a args w.state cs)) → WhereGiven e (λ cs vs w'. moved_weight e ≡ whole_weight p a args w.state cs)
    go (Gave n cs vs w') h = h.1
    go (Halted n cs s w') h = tt
    go (Strayed n cs w') h = tt
