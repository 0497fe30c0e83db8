-- The texts among the parts of parameters and of results are there, where their values are.
use Rattle.std.proofs.Common.{◌≡◌, ℕ, true, List, [], ◌∷◌, length, take, drop, Option, Some, None, sym, ap, ◌∙◌, subst, arith}
use Rattle.std.proofs.lemmas.List.{take-append-drop}
use Rattle.fact_wasm.specs.declared.types.ValType.{ValType}
use Rattle.fact_types.specs.Adapters.{LinkedAdapter, is_wide}
use Rattle.fact_types.specs.Agrees.{AgreesPlaces}
use Rattle.fact_types.specs.Shapes.{Shape, Members}
use Rattle.fact_types.specs.Signatures.{address, unless_flat, flat_values}
use Rattle.fact_types.specs.Tuples.{tuple_members}
use Rattle.fact_machine.specs.declared.types.CoreValue.{CoreValue}
use Rattle.fact_machine.specs.declared.types.MachineState.{MachineState}
use Rattle.fact_machine.specs.Typed.{are_values}
use Rattle.fact_values.specs.declared.value.Value.{Value}
use Rattle.fact_values.specs.Tuples.{lift_result_values}
use Rattle.fact_actions.specs.Adapters.{AdapterTunables, lower_signature_of, lift_signature_of}
use Rattle.fact_actions.specs.Calls.{side_memory}
use Rattle.fact_actions.specs.Regions.{return_area}
use Rattle.fact_actions.specs.Requests.{RequestPart, tuple_part}
use Rattle.fact_actions.specs.Running.{ImportPlaces, is_state}
use Rattle.fact_actions.specs.Sides.{Values, AtAddress, options_of, side_abi, first_bits}
use Rattle.fact_action_laws.specs.Faithful.{params_given}
use Rattle.fact_action_laws.specs.FaithfulLaws.{AreWellFormedTypes, HasSyncSides, setting_of_params, setting_of_results, IsCheckedAdapter}
use Rattle.fact_action_laws.specs.MoveTerms.{AreSupplied}
use Rattle.fact_action_laws.specs.Regions.{TransferSetting}
use Rattle.fact_action_laws.proofs.Coming.{come, come_all}
use Rattle.fact_action_laws.proofs.FaithfulRuns.{synced, synced_is}
use Rattle.fact_action_laws.proofs.Grounding.{byte_below, has_bytes, members_have_pointers}
use Rattle.fact_action_laws.proofs.Membered.{members_formed, members_valid, fields_agree}
use Rattle.fact_action_laws.proofs.Transfers.{ComeBy, leading}
use Rattle.fact_action_laws.proofs.TypedArgs.{lower_numeric, lift_numeric}
use Rattle.fact_action_laws.specs.Parts.{parts_of_fields}
use Rattle.fact_action_laws.specs.Requested.{params_parts, results_parts}
use Rattle.fact_action_laws.proofs.Encoded.{AreSmallBytes}
use Rattle.fact_action_laws.proofs.PartRooms.{FieldsTake, fields_take}
use Rattle.fact_action_laws.proofs.PartTexts.{AreTextsThere}
use Rattle.fact_action_laws.proofs.TupleRooms.{parts_lead}

-- ---- tuples

module _ (c : TransferSetting) (small : AreSmallBytes c.source) (ts us : List Shape) (from : AreWellFormedTypes ts) (to : AreWellFormedTypes us) (agree : AgreesPlaces (tuple_members ts) (tuple_members us)) (supplied : AreSupplied c (tuple_members ts)) where
  abbrev ms : Members
  ms = tuple_members ts

  abbrev ns : Members
  ns = tuple_members us

  fields : FieldsTake c small ms ns
  fields = fields_take c small ns ms (fields_agree ts us agree) (members_valid 0 ts from.valid) (members_formed 0 ts from.formed) (members_valid 0 us to.valid) (members_formed 0 us to.formed) supplied

  -- those of the values that core values stand for, flat ones or behind a pointer
  tuple_there : (q : Option (List ValType)) (args : List CoreValue) (rs : List Value) → ComeBy c ts us q args rs → AreTextsThere c (parts_of_fields c ms ns (elim q [ Some flats ↦ Values args | None ↦ AtAddress (first_bits args) ]))
  tuple_there (Some flats) args rs h =
      let n = leading c ts us in
      let long : length (take n args) ≡ n = h.0.0 in
      let same : parts_of_fields c ms ns (Values (take n args)) ≡ parts_of_fields c ms ns (Values args)
      = parts_lead c ms ns (take n args) (drop n args) (omega (arith, long)) ∙ ap (λ l. parts_of_fields c ms ns (Values l)) (take-append-drop n args) in
      subst (AreTextsThere c) same (fields.there (Values (take n args)) rs h.0 h.1)
  tuple_there None args rs h = fields.there (AtAddress (first_bits args)) rs h.0 h.3

-- ---- adapters

module _ (p : ImportPlaces) (u : AdapterTunables) (b : LinkedAdapter) (x : IsCheckedAdapter p (synced b)) (args : List CoreValue) (s : MachineState) (typed : is_state p s ≡ true) (vs : List Value) where
  abbrev a : LinkedAdapter
  a = synced b

  params_there : are_values args (lower_signature_of a).params ≡ true → params_given p a args s ≡ Some vs → AreTextsThere (setting_of_params p u a (side_memory p (options_of a.lower) s)) (params_parts p u a args s)
  params_there args_typed given = by_flats (flat_values (is_wide a.lift.memory) 16 a.lift.params)
    where
      bytes : List ℕ
      bytes = side_memory p (options_of a.lower) s

      c : TransferSetting
      c = setting_of_params p u a bytes

      inner : List RequestPart
      inner = parts_of_fields c (tuple_members a.lower.params) (tuple_members a.lift.params) (elim (flat_values (is_wide a.lower.memory) 16 a.lower.params) [ Some flats ↦ Values args | None ↦ AtAddress (first_bits args) ])

      trailing : List ValType
      trailing = unless_flat (address (is_wide a.lower.memory) ∷ []) (flat_values (is_wide a.lower.memory) 1 a.lower.results)

      inner_there : AreTextsThere c inner
      inner_there =
          tuple_there c (λ j. byte_below bytes j (has_bytes p (options_of a.lower) s x.lower_memory typed).bytes) a.lower.params a.lift.params x.lower_params x.lift_params x.params_agree (λ e. x.params_supplied (sym (members_have_pointers 0 a.lower.params) ∙ e))
          (flat_values (is_wide a.lower.memory) 16 a.lower.params) args vs
          (come c a.lower.params a.lift.params (members_formed 0 a.lower.params x.lower_params.formed) 16 vs args trailing (lower_numeric (is_wide a.lower.memory) a.lower.params a.lower.results) args_typed x.params_behind given)

      by_flats : (q : Option (List ValType)) → AreTextsThere c (elim q [ Some flats ↦ inner | None ↦ tuple_part (options_of a.lift) a.lift.params ∷ inner ])
      by_flats (Some flats) = inner_there
      by_flats None = inner_there

  results_there : (given : List CoreValue) → are_values given (lift_signature_of a).results ≡ true → lift_result_values a.lift.async_side (side_abi (options_of a.lift)) (side_memory p (options_of a.lift) s) a.lift.results given ≡ Some vs
      → AreTextsThere (setting_of_results p u a (return_area a args) (side_memory p (options_of a.lift) s)) (results_parts p u a args given s)
  results_there given given_typed is =
      tuple_there c (λ j. byte_below bytes j (has_bytes p (options_of a.lift) s x.lift_memory typed).bytes) a.lift.results a.lower.results x.lift_results x.lower_results x.results_agree (λ e. x.results_supplied (sym (members_have_pointers 0 a.lift.results) ∙ e))
      (flat_values (is_wide a.lift.memory) 1 a.lift.results) given vs
      (come_all c a.lift.results a.lower.results (members_formed 0 a.lift.results x.lift_results.formed) 1 vs given (lift_numeric (is_wide a.lift.memory) a.lift.params a.lift.results) given_typed x.results_behind is)
    where
      bytes : List ℕ
      bytes = side_memory p (options_of a.lift) s

      c : TransferSetting
      c = setting_of_results p u a (return_area a args) bytes

pub params_texts : (p : ImportPlaces) (u : AdapterTunables) (a : LinkedAdapter) (args : List CoreValue) (s : MachineState) (vs : List Value) → IsCheckedAdapter p a → HasSyncSides a → is_state p s ≡ true → are_values args (lower_signature_of a).params ≡ true
    → params_given p a args s ≡ Some vs → AreTextsThere (setting_of_params p u a (side_memory p (options_of a.lower) s)) (params_parts p u a args s)
params_texts p u a args s vs x sides state_typed args_typed given = subst (λ a. Law a) (synced_is a sides) (λ x t g. params_there p u a x args s state_typed vs t g) x args_typed given
  where
    Law : LinkedAdapter → Type 0
    Law a = IsCheckedAdapter p a → are_values args (lower_signature_of a).params ≡ true → params_given p a args s ≡ Some vs → AreTextsThere (setting_of_params p u a (side_memory p (options_of a.lower) s)) (params_parts p u a args s)

pub results_texts : (p : ImportPlaces) (u : AdapterTunables) (a : LinkedAdapter) (args given : List CoreValue) (s : MachineState) (vs : List Value) → IsCheckedAdapter p a → HasSyncSides a → is_state p s ≡ true → are_values given (lift_signature_of a).results ≡ true
    → lift_result_values a.lift.async_side (side_abi (options_of a.lift)) (side_memory p (options_of a.lift) s) a.lift.results given ≡ Some vs
    → AreTextsThere (setting_of_results p u a (return_area a args) (side_memory p (options_of a.lift) s)) (results_parts p u a args given s)
results_texts p u a args given s vs x sides state_typed given_typed is = subst (λ a. Law a) (synced_is a sides) (λ x t g. results_there p u a x args s state_typed vs given t g) x given_typed is
  where
    Law : LinkedAdapter → Type 0
    Law a =
        IsCheckedAdapter p a → are_values given (lift_signature_of a).results ≡ true → lift_result_values a.lift.async_side (side_abi (options_of a.lift)) (side_memory p (options_of a.lift) s) a.lift.results given ≡ Some vs
        → AreTextsThere (setting_of_results p u a (return_area a args) (side_memory p (options_of a.lift) s)) (results_parts p u a args given s)
