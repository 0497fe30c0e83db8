-- What a transfer of a checked adapter comes to in a typed state: the values that come in are those that are given, and by honest
-- calls they are passed on.
use Rattle.std.proofs.Common.{◌≡◌, ℕ, ◌+◌, ◌≤◌, ◌<◌, ◌⊎◌, inl, inr, true, List, [], ◌∷◌, ◌++◌, length, Option, Some, None, refl, sym, ◌∙◌, subst, append-nil, take}
use Rattle.fact_wasm.specs.declared.types.ValType.{ValType}
use Rattle.fact_types.specs.Adapters.{LinkedAdapter, is_wide}
use Rattle.fact_types.specs.Shapes.{Shape}
use Rattle.fact_types.specs.Signatures.{flat_values, flat_params, lower_limit, lift_results_limit}
use Rattle.fact_types.specs.Tuples.{tuple_members}
use Rattle.fact_machine.specs.declared.types.CoreValue.{CoreValue}
use Rattle.fact_machine.specs.declared.types.MachineState.{MachineState}
use Rattle.fact_machine.specs.World.{World}
use Rattle.fact_machine.specs.Typed.{are_values}
use Rattle.fact_values.specs.declared.value.Value.{Value}
use Rattle.fact_values.specs.IsA.{AreMembers}
use Rattle.fact_values.specs.Places.{typed_names}
use Rattle.fact_values.specs.Tuples.{flat_or_behind}
use Rattle.fact_values.proofs.TupleLaws.{tuples_are}
use Rattle.fact_actions.specs.Adapters.{AdapterTunables, flat_results, last_bits, move_params, move_results}
use Rattle.fact_actions.specs.Calls.{side_memory}
use Rattle.fact_actions.specs.Honest.{AreHonest}
use Rattle.fact_actions.specs.Moves.{entry_extent}
use Rattle.fact_actions.specs.Regions.{IsInAny, landed, moved_on, params_landing, results_landing, return_area}
use Rattle.fact_actions.specs.Running.{ImportPlaces, Ended, is_state, calls_in, run}
use Rattle.fact_actions.specs.Sides.{options_of, Values, AtAddress, first_bits}
use Rattle.fact_action_laws.specs.Faithful.{params_given}
use Rattle.fact_action_laws.specs.FaithfulLaws.{setting_of_params, setting_of_results, quiet, IsCheckedAdapter, TextsMove}
use Rattle.fact_action_laws.specs.HonestMoves.{AreHonestCalls}
use Rattle.fact_action_laws.specs.MoveTerms.{AreSupplied, MayStop}
use Rattle.fact_action_laws.specs.Places.{from_side, to_side, IsGrounded, HoldsMemories}
use Rattle.fact_action_laws.specs.Regions.{TransferSetting, IsInHand}
use Rattle.fact_action_laws.specs.Items.{items_fields}
use Rattle.fact_action_laws.proofs.Adapted.{params_carried, results_carried}
use Rattle.fact_action_laws.proofs.Called.{AllCalled}
use Rattle.fact_action_laws.proofs.Fields.{members_taken}
use Rattle.fact_action_laws.proofs.Grounding.{byte_below, has_bytes, still_there, cores_in_range, source_typed, members_ruled, members_have_pointers}
use Rattle.fact_action_laws.proofs.Honestly.{IsOfTransfer, params_of_transfer, results_of_transfer, honest_are}
use Rattle.fact_action_laws.proofs.MoveLaws.{AreLawfulMoves, AreMoved}
use Rattle.fact_action_laws.proofs.Membered.{fields_agree, members_formed, members_valid}
use Rattle.fact_action_laws.proofs.Refusals.{RefusesFields}
use Rattle.fact_action_laws.proofs.Refused.{tuple_lacks, params_come, results_come, come_back}
use Rattle.fact_action_laws.proofs.Transfers.{ComeBy, AreInLimits, called_for, WentBy, IsPlaceOf, spot_of, leading}
use Rattle.fact_action_laws.proofs.TypedArgs.{AreNumeric, typed_in_range, in_range_leading}
use Rattle.fact_action_laws.proofs.Weights.{taken_length}
use Rattle.fact_action_laws.proofs.Coming.{take_typed}
use Rattle.fact_types.proofs.ShapeLaws.{none_some}
use Rattle.fact_action_laws.specs.Judged.{RunsHonestly, GivesNothing}
use Rattle.std.specs.List.{zip}

-- as many values come in as the tuple has members
come_length : (c : TransferSetting) (ts us : List Shape) (q : Option (List ValType)) (vs : List CoreValue) (rs : List Value) → ComeBy c ts us q vs rs → length rs ≡ length (typed_names (tuple_members ts))
come_length c ts us (Some flats) vs rs h = taken_length c (tuple_members ts) (Values (take (leading c ts us) vs)) rs h.1
come_length c ts us None vs rs h = taken_length c (tuple_members ts) (AtAddress (first_bits vs)) rs h.3

-- the types of a transfer
record AreTypesOf (c : TransferSetting) (ts us : List Shape) : Type 0 where
  pub moves : AreLawfulMoves c (tuple_members ts) (tuple_members us) 0
  pub refuses : RefusesFields c (tuple_members ts) (tuple_members us) 0 (λ s. members_taken c (tuple_members ts) s ≡ None)

module _ (p : ImportPlaces) (u : AdapterTunables) (a : LinkedAdapter) (x : IsCheckedAdapter p a) (texts : TextsMove p u a) where
  -- ---- parameters

  module _ (s : MachineState) (typed : is_state p s ≡ true) where
    abbrev pub params_setting : TransferSetting
    params_setting = setting_of_params p (quiet u) a (side_memory p (options_of a.lower) s)

    pub params_grounded : IsGrounded params_setting
    params_grounded = record { quiet = refl; bytes = λ j. byte_below _ j (has_bytes p (options_of a.lower) s x.lower_memory typed).bytes; apart = x.memories }

    pub params_supply : AreSupplied params_setting (tuple_members a.lower.params)
    params_supply e = x.params_supplied (sym (members_have_pointers 0 a.lower.params) ∙ e)

    params_types : AreTypesOf params_setting a.lower.params a.lift.params
    params_types =
        let r = tuple_lacks params_setting params_grounded (texts.params _ params_grounded) a.lower.params a.lift.params x.params_agree
        (members_valid 0 a.lower.params x.lower_params.valid) (members_formed 0 a.lower.params x.lower_params.formed) (members_valid 0 a.lift.params x.lift_params.valid) (members_formed 0 a.lift.params x.lift_params.formed) params_supply in
        record { moves = r.0; refuses = r.1 }

    module _ (args : List CoreValue) (others : List ValType) (numeric : AreNumeric (flat_params (is_wide a.lower.memory) (lower_limit a.lower.async_side) a.lower.params ++ others))
        (args_typed : are_values args (flat_params (is_wide a.lower.memory) (lower_limit a.lower.async_side) a.lower.params ++ others) ≡ true) where
      -- what comes in is what is given
      pub record ParamsCome (rs : List Value) : Type 0 where
        pub come : ComeBy params_setting a.lower.params a.lift.params (flat_values (is_wide a.lower.memory) (lower_limit a.lower.async_side) a.lower.params) args rs
        pub given : params_given p a args s ≡ Some rs
        pub are : AreMembers (tuple_members a.lower.params) rs
        pub long : length rs ≡ length (typed_names (tuple_members a.lower.params))

      pub params_are_come : (rs : List Value) → ComeBy params_setting a.lower.params a.lift.params (flat_values (is_wide a.lower.memory) (lower_limit a.lower.async_side) a.lower.params) args rs → ParamsCome rs
      params_are_come rs come =
          let given = come_back params_setting a.lower.params a.lift.params (members_formed 0 a.lower.params x.lower_params.formed) (lower_limit a.lower.async_side) rs args others args_typed come in
          record {
            come = come;
            given = given;
            are = tuples_are (from_side params_setting) (side_memory p (options_of a.lower) s) (has_bytes p (options_of a.lower) s x.lower_memory typed).bytes (lower_limit a.lower.async_side) a.lower.params (members_ruled 0 a.lower.params x.lower_params.valid) _ rs
                (cores_in_range _ (in_range_leading (length (flat_params (is_wide a.lower.memory) (lower_limit a.lower.async_side) a.lower.params)) args (typed_in_range args _ numeric args_typed))) given;
            long = come_length params_setting a.lower.params a.lift.params (flat_values (is_wide a.lower.memory) (lower_limit a.lower.async_side) a.lower.params) args rs come;
          }

      module _ (w : World) (same : w.state.memories ≡ s.memories) where
        pub params_ready : HoldsMemories params_setting (side_memory p (options_of a.lift) s) w
        params_ready = record {
          from = still_there p (options_of a.lower) s w.state _ same (has_bytes p (options_of a.lower) s x.lower_memory typed).there;
          to = still_there p (options_of a.lift) s w.state _ same (has_bytes p (options_of a.lift) s x.lift_memory typed).there;
        }

        pub params_come_or_never : ((rs : List Value) × ComeBy params_setting a.lower.params a.lift.params (flat_values (is_wide a.lower.memory) (lower_limit a.lower.async_side) a.lower.params) args rs) ⊎ GivesNothing params_setting [] (move_params (quiet u) a args) w
        params_come_or_never =
            params_come params_setting a.lower.params a.lift.params [] w (side_memory p (options_of a.lift) s) params_ready params_types.refuses x.params_into (lower_limit a.lower.async_side) args
            (source_typed params_setting a.lower.params a.lift.params (lower_limit a.lower.async_side) args others numeric args_typed) x.params_behind

        -- the transfer of what comes in
        pub params_does : (rs : List Value) → ComeBy params_setting a.lower.params a.lift.params (flat_values (is_wide a.lower.memory) (lower_limit a.lower.async_side) a.lower.params) args rs
            → RunsHonestly params_setting []
            (MayStop (AreInLimits params_setting a.lower.params a.lift.params (flat_values (is_wide a.lower.memory) (lower_limit a.lower.async_side) a.lower.params) args) (called_for params_setting a.lower.params a.lift.params (flat_values (is_wide a.lift.memory) 16 a.lift.params) rs))
            (WentBy params_setting a.lower.params a.lift.params (flat_values (is_wide a.lift.memory) 16 a.lift.params) [] (side_memory p (options_of a.lift) s) rs) (move_params (quiet u) a args) w
        params_does rs come =
            params_carried p (quiet u) a (side_memory p (options_of a.lower) s) params_grounded (texts.params _ params_grounded) (fields_agree a.lower.params a.lift.params x.params_agree)
            (members_valid 0 a.lower.params x.lower_params.valid) (members_formed 0 a.lower.params x.lower_params.formed) (members_valid 0 a.lift.params x.lift_params.valid) (members_formed 0 a.lift.params x.lift_params.formed) params_supply x.params_into
            args rs w (side_memory p (options_of a.lift) s) come params_ready

        -- honest calls of the transfer
        pub params_honest : (e : Ended (List CoreValue)) → run p (move_params (quiet u) a args) w ≡ e → AreHonest p a moved_on (landed (params_landing a)) (calls_in e) → AreHonestCalls params_setting [] (calls_in e)
        params_honest e is h =
            honest_are params_setting x.memories a [] (calls_in e) (subst (λ e. AllCalled (IsOfTransfer (options_of a.lower) (options_of a.lift)) (calls_in e)) is (params_of_transfer (quiet u) a p w args)) h

  -- ---- results

  module _ (args : List CoreValue) (s : MachineState) (typed : is_state p s ≡ true) where
    abbrev pub results_setting : TransferSetting
    results_setting = setting_of_results p (quiet u) a (return_area a args) (side_memory p (options_of a.lift) s)

    pub results_grounded : IsGrounded results_setting
    results_grounded = record { quiet = refl; bytes = λ j. byte_below _ j (has_bytes p (options_of a.lift) s x.lift_memory typed).bytes; apart = λ m n e f k. x.memories n m f e (sym k) }

    pub results_supply : AreSupplied results_setting (tuple_members a.lift.results)
    results_supply e = x.results_supplied (sym (members_have_pointers 0 a.lift.results) ∙ e)

    results_types : AreTypesOf results_setting a.lift.results a.lower.results
    results_types =
        let r = tuple_lacks results_setting results_grounded (texts.results _ _ results_grounded) a.lift.results a.lower.results x.results_agree
        (members_valid 0 a.lift.results x.lift_results.valid) (members_formed 0 a.lift.results x.lift_results.formed) (members_valid 0 a.lower.results x.lower_results.valid) (members_formed 0 a.lower.results x.lower_results.formed) results_supply in
        record { moves = r.0; refuses = r.1 }

    -- the return area belongs to the transfer
    pub area_is_live : (q : Option (List ValType)) → flat_results a.lower ≡ q → q ≡ None → (j : ℕ) → last_bits args ≤ j → j < last_bits args + (entry_extent (options_of a.lower) (tuple_members a.lower.results)).size → IsInHand results_setting [] j
    area_is_live (Some flats) e none j lo hi = absurd (none_some None flats refl (sym none))
    area_is_live None e none j lo hi =
        inr (subst (λ q. IsInAny (elim q [ Some flats ↦ [] | None ↦ record { at = last_bits args; size = (entry_extent (options_of a.lower) (tuple_members a.lower.results)).size; align = (entry_extent (options_of a.lower) (tuple_members a.lower.results)).align } ∷ [] ]) j) (sym e) (inl (lo, hi)))

    module _ (given : List CoreValue) (numeric : AreNumeric (flat_params (is_wide a.lift.memory) (lift_results_limit a.lift.async_side) a.lift.results))
        (given_typed : are_values given (flat_params (is_wide a.lift.memory) (lift_results_limit a.lift.async_side) a.lift.results) ≡ true) where
      numeric_nil : AreNumeric (flat_params (is_wide a.lift.memory) (lift_results_limit a.lift.async_side) a.lift.results ++ [])
      numeric_nil = subst AreNumeric (sym (append-nil (flat_params (is_wide a.lift.memory) (lift_results_limit a.lift.async_side) a.lift.results))) numeric

      typed_nil : are_values given (flat_params (is_wide a.lift.memory) (lift_results_limit a.lift.async_side) a.lift.results ++ []) ≡ true
      typed_nil = subst (λ l. are_values given l ≡ true) (sym (append-nil (flat_params (is_wide a.lift.memory) (lift_results_limit a.lift.async_side) a.lift.results))) given_typed

      pub record ResultsCome (rs : List Value) : Type 0 where
        pub come : ComeBy results_setting a.lift.results a.lower.results (flat_values (is_wide a.lift.memory) (lift_results_limit a.lift.async_side) a.lift.results) given rs
        pub answered : flat_or_behind (from_side results_setting) (side_memory p (options_of a.lift) s) (lift_results_limit a.lift.async_side) a.lift.results given ≡ Some rs
        pub are : AreMembers (tuple_members a.lift.results) rs
        pub long : length rs ≡ length (typed_names (tuple_members a.lift.results))

      pub results_are_come : (rs : List Value) → ComeBy results_setting a.lift.results a.lower.results (flat_values (is_wide a.lift.memory) (lift_results_limit a.lift.async_side) a.lift.results) given rs → ResultsCome rs
      results_are_come rs come =
          let is : flat_or_behind (from_side results_setting) (side_memory p (options_of a.lift) s) (lift_results_limit a.lift.async_side) a.lift.results given ≡ Some rs =
          subst (λ l. flat_or_behind (from_side results_setting) (side_memory p (options_of a.lift) s) (lift_results_limit a.lift.async_side) a.lift.results l ≡ Some rs) (take_typed given _ given_typed)
          (come_back results_setting a.lift.results a.lower.results (members_formed 0 a.lift.results x.lift_results.formed) (lift_results_limit a.lift.async_side) rs given [] typed_nil come) in
          record {
            come = come;
            answered = is;
            are = tuples_are (from_side results_setting) (side_memory p (options_of a.lift) s) (has_bytes p (options_of a.lift) s x.lift_memory typed).bytes (lift_results_limit a.lift.async_side) a.lift.results (members_ruled 0 a.lift.results x.lift_results.valid) given rs
                (cores_in_range given (typed_in_range given _ numeric given_typed)) is;
            long = come_length results_setting a.lift.results a.lower.results (flat_values (is_wide a.lift.memory) (lift_results_limit a.lift.async_side) a.lift.results) given rs come;
          }

      module _ (w : World) (same : w.state.memories ≡ s.memories) where
        pub results_ready : HoldsMemories results_setting (side_memory p (options_of a.lower) s) w
        results_ready = record {
          from = still_there p (options_of a.lift) s w.state _ same (has_bytes p (options_of a.lift) s x.lift_memory typed).there;
          to = still_there p (options_of a.lower) s w.state _ same (has_bytes p (options_of a.lower) s x.lower_memory typed).there;
        }

        pub results_come_or_never : (((rs : List Value) × ComeBy results_setting a.lift.results a.lower.results (flat_values (is_wide a.lift.memory) (lift_results_limit a.lift.async_side) a.lift.results) given rs)
            × IsPlaceOf results_setting a.lift.results a.lower.results (flat_results a.lower) (last_bits args) (IsInHand results_setting []) (side_memory p (options_of a.lower) s))
            ⊎ GivesNothing results_setting [] (move_results (quiet u) a given (last_bits args)) w
        results_come_or_never =
            results_come results_setting a.lift.results a.lower.results [] w (side_memory p (options_of a.lower) s) results_ready results_types.refuses a.lower (lift_results_limit a.lift.async_side) (last_bits args) given
            (source_typed results_setting a.lift.results a.lower.results (lift_results_limit a.lift.async_side) given [] numeric_nil typed_nil) x.results_behind x.results_into (λ none. area_is_live (flat_results a.lower) refl none)

        -- the transfer of what the callee answered
        pub results_does : (rs : List Value) → ComeBy results_setting a.lift.results a.lower.results (flat_values (is_wide a.lift.memory) (lift_results_limit a.lift.async_side) a.lift.results) given rs
            → IsPlaceOf results_setting a.lift.results a.lower.results (flat_results a.lower) (last_bits args) (IsInHand results_setting []) (side_memory p (options_of a.lower) s)
            → RunsHonestly results_setting []
            (MayStop (AreInLimits results_setting a.lift.results a.lower.results (flat_values (is_wide a.lift.memory) (lift_results_limit a.lift.async_side) a.lift.results) given)
            (items_fields (to_side results_setting) (tuple_members a.lift.results) (zip (typed_names (tuple_members a.lift.results)) rs) (tuple_members a.lower.results)))
            (AreMoved results_setting [] (side_memory p (options_of a.lower) s) (tuple_members a.lift.results) (tuple_members a.lower.results) 0 (spot_of results_setting a.lift.results a.lower.results (flat_results a.lower) (last_bits args)) rs)
            (move_results (quiet u) a given (last_bits args)) w
        results_does rs come place =
            results_carried p (quiet u) a (return_area a args) (side_memory p (options_of a.lift) s) results_grounded (texts.results _ _ results_grounded) (fields_agree a.lift.results a.lower.results x.results_agree)
            (members_valid 0 a.lift.results x.lift_results.valid) (members_formed 0 a.lift.results x.lift_results.formed) (members_valid 0 a.lower.results x.lower_results.valid) (members_formed 0 a.lower.results x.lower_results.formed) results_supply
            given (last_bits args) rs w (side_memory p (options_of a.lower) s) come results_ready place

        pub results_honest : (e : Ended (List CoreValue)) → run p (move_results (quiet u) a given (last_bits args)) w ≡ e → AreHonest p a moved_on (landed (results_landing a args)) (calls_in e) → AreHonestCalls results_setting [] (calls_in e)
        results_honest e is h =
            honest_are results_setting results_grounded.apart a [] (calls_in e) (subst (λ e. AllCalled (IsOfTransfer (options_of a.lift) (options_of a.lower)) (calls_in e)) is (results_of_transfer (quiet u) a p w given (last_bits args))) h
