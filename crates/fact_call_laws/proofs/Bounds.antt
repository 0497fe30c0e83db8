-- The parameters and the results of a sync adapter that call for little are within limits.
use Rattle.std.proofs.Common.{◌≡◌, ℕ, ◌≤◌, true, List, [], ◌∷◌, length, map, take, drop, Option, Some, None, sym, ap, ◌∙◌, subst, arith}
use Rattle.std.proofs.lemmas.List.{take-append-drop}
use Rattle.fact_wasm.specs.declared.types.ValType.{ValType}
use Rattle.fact_types.specs.declared.flats.FlatType.{FlatType}
use Rattle.fact_types.specs.Adapters.{LinkedAdapter, is_wide}
use Rattle.fact_types.specs.Agrees.{AgreesPlaces}
use Rattle.fact_types.specs.Flat.{value_type}
use Rattle.fact_types.specs.FlatShapes.{flat_all}
use Rattle.fact_types.specs.Shapes.{Shape, Members}
use Rattle.fact_types.specs.Signatures.{address, flat_or, flat_params, flat_values, lift_results_limit, unless_flat}
use Rattle.fact_types.specs.Tuples.{tuple_members}
use Rattle.fact_machine.specs.declared.types.CoreValue.{CoreValue}
use Rattle.fact_machine.specs.declared.types.MachineState.{MachineState}
use Rattle.fact_machine.specs.Typed.{are_values}
use Rattle.fact_values.specs.declared.value.Value.{Value}
use Rattle.fact_values.specs.Tuples.{behind_only, flat_or_behind, lift_all, lift_result_values, where_flat}
use Rattle.fact_actions.specs.Adapters.{AdapterTunables, lift_signature_of, lower_signature_of}
use Rattle.fact_actions.specs.Calls.{side_memory}
use Rattle.fact_actions.specs.Regions.{return_area}
use Rattle.fact_actions.specs.Requests.{RequestPart, tuple_part}
use Rattle.fact_actions.specs.Running.{ImportPlaces}
use Rattle.fact_actions.specs.Sides.{AtAddress, Values, first_bits, options_of, side_abi, width_of_side}
use Rattle.fact_action_laws.specs.Faithful.{AreInBounds, ParamsAreThere, params_given}
use Rattle.fact_action_laws.specs.FaithfulLaws.{AreWellFormedTypes, HasSyncSides, IsCheckedAdapter, setting_of_params, setting_of_results}
use Rattle.fact_action_laws.specs.MoveTerms.{AreSupplied, AreWellFormed, moving}
use Rattle.fact_action_laws.specs.Places.{from_side}
use Rattle.fact_action_laws.specs.Regions.{TransferSetting}
use Rattle.fact_action_laws.proofs.Coming.{come, come_all, take_typed}
use Rattle.fact_action_laws.proofs.FaithfulRuns.{synced, synced_is}
use Rattle.fact_action_laws.proofs.Grounding.{members_have_pointers}
use Rattle.fact_action_laws.proofs.Landed.{flat_of}
use Rattle.fact_action_laws.proofs.MoveLaws.{AreFit}
use Rattle.fact_action_laws.proofs.Membered.{fields_agree, members_formed, members_valid}
use Rattle.fact_action_laws.proofs.Transfers.{AreInLimits, ComeBy, leading}
use Rattle.fact_action_laws.proofs.Tupled.{leading_same}
use Rattle.fact_action_laws.proofs.TypedArgs.{lift_numeric, lower_numeric}
use Rattle.fact_action_laws.specs.Parts.{parts_of_fields}
use Rattle.fact_action_laws.specs.Requested.{params_parts, results_parts}
use Rattle.fact_action_laws.specs.Rooms.{parts_bytes}
use Rattle.fact_action_laws.proofs.TupleRooms.{parts_lead}
use Rattle.fact_call_laws.proofs.Limits.{FieldsFit, fields_fit}

-- ---- tuples

module _ (c : TransferSetting) (short : length c.source ≤ 65536) (ts us : List Shape) (from : AreWellFormedTypes ts) (to : AreWellFormedTypes us) (agree : AgreesPlaces (tuple_members ts) (tuple_members us)) (supplied : AreSupplied c (tuple_members ts)) where
  abbrev ms : Members
  ms = tuple_members ts

  abbrev ns : Members
  ns = tuple_members us

  fields : FieldsFit c short ms ns
  fields = fields_fit c short ns ms (fields_agree ts us agree) (members_valid 0 ts from.valid) (members_formed 0 ts from.formed) (members_valid 0 us to.valid) (members_formed 0 us to.formed) supplied

  tuple_fits : (q : Option (List ValType)) (args : List CoreValue) (rs : List Value) → ComeBy c ts us q args rs
      → parts_bytes c.transfer.to.encoding (parts_of_fields c ms ns (elim q [ Some flats ↦ Values args | None ↦ AtAddress (first_bits args) ])) ≤ 16384 → AreInLimits c ts us q args
  tuple_fits (Some flats) args rs h few =
      let n = leading c ts us in
      let long : length (take n args) ≡ n = h.0.0 in
      let same : parts_of_fields c ms ns (Values (take n args)) ≡ parts_of_fields c ms ns (Values args)
      = parts_lead c ms ns (take n args) (drop n args) (omega (arith, long)) ∙ ap (λ l. parts_of_fields c ms ns (Values l)) (take-append-drop n args) in
      fields.by (Values (take n args)) rs h.0 h.1 (omega (arith, few, ap (parts_bytes c.transfer.to.encoding) same))
  tuple_fits None args rs h few = fields.by (AtAddress (first_bits args)) rs h.0 h.3 few

-- ---- what comes in within limits is so as values

module _ (c : TransferSetting) (ts us : List Shape) (formed : AreWellFormed (tuple_members ts)) (limit : ℕ) (rs : List Value) where
  bounds : (args : List CoreValue) → flat_or_behind (from_side c) c.source limit ts (take (length (flat_params (is_wide c.transfer.from.memory) limit ts)) args) ≡ Some rs → AreInLimits c ts us (flat_values (is_wide c.transfer.from.memory) limit ts) args
      → AreInBounds (moving c) (flat_all (width_of_side c.transfer.from) limit ts) ts us (take (length (flat_params (is_wide c.transfer.from.memory) limit ts)) args)
  bounds args h b = go (flat_all (width_of_side c.transfer.from) limit ts) h b
    where
      behind : (args : List CoreValue) → AreInLimits c ts us None args → AreInBounds (moving c) None ts us (take 1 args)
      behind [] b = b
      behind (v ∷ vs) b = b

      go : (o : Option (List FlatType)) → where_flat o (lift_all (from_side c) c.source ts (take (length (flat_or (address (is_wide c.transfer.from.memory) ∷ []) (flat_of o))) args)) (behind_only (from_side c) c.source ts (take (length (flat_or (address (is_wide c.transfer.from.memory) ∷ []) (flat_of o))) args)) ≡ Some rs
          → AreInLimits c ts us (flat_of o) args → AreInBounds (moving c) o ts us (take (length (flat_or (address (is_wide c.transfer.from.memory) ∷ []) (flat_of o))) args)
      go (Some fs) h b = subst (λ l. AreFit c (tuple_members ts) (tuple_members us) (Values l)) (leading_same c ts formed (length (map value_type fs)) args rs h) b
      go None h b = behind args b

  -- where no others follow
  bounds_all : (given : List CoreValue) → are_values given (flat_params (is_wide c.transfer.from.memory) limit ts) ≡ true → flat_or_behind (from_side c) c.source limit ts given ≡ Some rs → AreInLimits c ts us (flat_values (is_wide c.transfer.from.memory) limit ts) given
      → AreInBounds (moving c) (flat_all (width_of_side c.transfer.from) limit ts) ts us given
  bounds_all given typed h b =
      let same = take_typed given (flat_params (is_wide c.transfer.from.memory) limit ts) typed in
      subst (λ l. AreInBounds (moving c) (flat_all (width_of_side c.transfer.from) limit ts) ts us l) same (bounds given (subst (λ l. flat_or_behind (from_side c) c.source limit ts l ≡ Some rs) (sym same) h) b)

-- ---- adapters

-- what the results of an adapter are that the callee left in a state
abbrev pub ResultsIn : ImportPlaces → LinkedAdapter → (given : List CoreValue) → MachineState → Type 0
ResultsIn p a given left =
    AreInBounds (record { from = side_abi (options_of a.lift); to = side_abi (options_of a.lower); bytes = side_memory p (options_of a.lift) left }) (flat_all (width_of_side (options_of a.lift)) (lift_results_limit a.lift.async_side) a.lift.results) a.lift.results a.lower.results given

module _ (p : ImportPlaces) (u : AdapterTunables) (b : LinkedAdapter) (x : IsCheckedAdapter p (synced b)) (args : List CoreValue) (s : MachineState) (vs : List Value) where
  abbrev a : LinkedAdapter
  a = synced b

  params_in : length (side_memory p (options_of a.lower) s) ≤ 65536 → are_values args (lower_signature_of a).params ≡ true → params_given p a args s ≡ Some vs → parts_bytes (options_of a.lift).encoding (params_parts p u a args s) ≤ 16384 → ParamsAreThere p a args s
  params_in short args_typed given few = record { values = vs; there = given; bounds = bounds c a.lower.params a.lift.params (members_formed 0 a.lower.params x.lower_params.formed) 16 vs args given limits }
    where
      c : TransferSetting
      c = setting_of_params p u a (side_memory p (options_of a.lower) s)

      inner : List RequestPart
      inner = parts_of_fields c (tuple_members a.lower.params) (tuple_members a.lift.params) (elim (flat_values (is_wide a.lower.memory) 16 a.lower.params) [ Some flats ↦ Values args | None ↦ AtAddress (first_bits args) ])

      trailing : List ValType
      trailing = unless_flat (address (is_wide a.lower.memory) ∷ []) (flat_values (is_wide a.lower.memory) 1 a.lower.results)

      by_flats : (q : Option (List ValType)) → parts_bytes (options_of a.lift).encoding (elim q [ Some flats ↦ inner | None ↦ tuple_part (options_of a.lift) a.lift.params ∷ inner ]) ≤ 16384 → parts_bytes (options_of a.lift).encoding inner ≤ 16384
      by_flats (Some flats) h = h
      by_flats None h = omega (arith, h)

      limits : AreInLimits c a.lower.params a.lift.params (flat_values (is_wide a.lower.memory) 16 a.lower.params) args
      limits =
          tuple_fits c short a.lower.params a.lift.params x.lower_params x.lift_params x.params_agree (λ e. x.params_supplied (sym (members_have_pointers 0 a.lower.params) ∙ e))
          (flat_values (is_wide a.lower.memory) 16 a.lower.params) args vs
          (come c a.lower.params a.lift.params (members_formed 0 a.lower.params x.lower_params.formed) 16 vs args trailing (lower_numeric (is_wide a.lower.memory) a.lower.params a.lower.results) args_typed x.params_behind given)
          (by_flats (flat_values (is_wide a.lift.memory) 16 a.lift.params) few)

  results_in : (given : List CoreValue) → length (side_memory p (options_of a.lift) s) ≤ 65536 → are_values given (lift_signature_of a).results ≡ true
      → lift_result_values a.lift.async_side (side_abi (options_of a.lift)) (side_memory p (options_of a.lift) s) a.lift.results given ≡ Some vs → parts_bytes (options_of a.lower).encoding (results_parts p u a args given s) ≤ 16384 → ResultsIn p a given s
  results_in given short given_typed is few =
      bounds_all c a.lift.results a.lower.results (members_formed 0 a.lift.results x.lift_results.formed) 1 vs given given_typed is
      (tuple_fits c short a.lift.results a.lower.results x.lift_results x.lower_results x.results_agree (λ e. x.results_supplied (sym (members_have_pointers 0 a.lift.results) ∙ e)) (flat_values (is_wide a.lift.memory) 1 a.lift.results) given vs
      (come_all c a.lift.results a.lower.results (members_formed 0 a.lift.results x.lift_results.formed) 1 vs given (lift_numeric (is_wide a.lift.memory) a.lift.params a.lift.results) given_typed x.results_behind is) few)
    where
      c : TransferSetting
      c = setting_of_results p u a (return_area a args) (side_memory p (options_of a.lift) s)

pub params_within : (p : ImportPlaces) (u : AdapterTunables) (a : LinkedAdapter) (args : List CoreValue) (s : MachineState) (vs : List Value) → IsCheckedAdapter p a → HasSyncSides a → length (side_memory p (options_of a.lower) s) ≤ 65536 → are_values args (lower_signature_of a).params ≡ true
    → params_given p a args s ≡ Some vs → parts_bytes (options_of a.lift).encoding (params_parts p u a args s) ≤ 16384 → ParamsAreThere p a args s
params_within p u a args s vs x sides short args_typed given few = subst (λ a. Law a) (synced_is a sides) (λ x l t g f. params_in p u a x args s vs l t g f) x short args_typed given few
  where
    Law : LinkedAdapter → Type 0
    Law a =
        IsCheckedAdapter p a → length (side_memory p (options_of a.lower) s) ≤ 65536 → are_values args (lower_signature_of a).params ≡ true → params_given p a args s ≡ Some vs
        → parts_bytes (options_of a.lift).encoding (params_parts p u a args s) ≤ 16384 → ParamsAreThere p a args s

pub results_within : (p : ImportPlaces) (u : AdapterTunables) (a : LinkedAdapter) (args given : List CoreValue) (s : MachineState) (vs : List Value) → IsCheckedAdapter p a → HasSyncSides a → length (side_memory p (options_of a.lift) s) ≤ 65536 → are_values given (lift_signature_of a).results ≡ true
    → lift_result_values a.lift.async_side (side_abi (options_of a.lift)) (side_memory p (options_of a.lift) s) a.lift.results given ≡ Some vs → parts_bytes (options_of a.lower).encoding (results_parts p u a args given s) ≤ 16384 → ResultsIn p a given s
results_within p u a args given s vs x sides short given_typed is few = subst (λ a. Law a) (synced_is a sides) (λ x l t g f. results_in p u a x args s vs given l t g f) x short given_typed is few
  where
    Law : LinkedAdapter → Type 0
    Law a =
        IsCheckedAdapter p a → length (side_memory p (options_of a.lift) s) ≤ 65536 → are_values given (lift_signature_of a).results ≡ true
        → lift_result_values a.lift.async_side (side_abi (options_of a.lift)) (side_memory p (options_of a.lift) s) a.lift.results given ≡ Some vs → parts_bytes (options_of a.lower).encoding (results_parts p u a args given s) ≤ 16384 → ResultsIn p a given s
