-- What values ask of realloc fits in their room.
use Rattle.std.specs.Prelude.{◌≡◌, ◌≤◌, true, List, Some}
use Rattle.fact_types.specs.Adapters.{LinkedAdapter}
use Rattle.fact_types.specs.Agrees.{Agrees}
use Rattle.fact_types.specs.Shapes.{Shape}
use Rattle.fact_types.specs.Tuples.{tuple_members}
use Rattle.fact_types.specs.Valid.{IsRuled}
use Rattle.fact_machine.specs.declared.types.CoreValue.{CoreValue}
use Rattle.fact_machine.specs.declared.types.MachineState.{MachineState}
use Rattle.fact_machine.specs.Typed.{are_values}
use Rattle.fact_values.specs.declared.side.SideAbi.{SideAbi}
use Rattle.fact_values.specs.declared.value.Value.{Value}
use Rattle.fact_values.specs.IsA.{IsA, AreMembers}
use Rattle.fact_values.specs.Tuples.{lift_result_values}
use Rattle.fact_actions.specs.Adapters.{AdapterTunables, lower_signature_of, lift_signature_of, params_transfer, results_transfer}
use Rattle.fact_actions.specs.Calls.{side_memory}
use Rattle.fact_actions.specs.Requests.{parts_requests}
use Rattle.fact_actions.specs.Running.{ImportPlaces, is_state}
use Rattle.fact_actions.specs.Sides.{options_of, side_abi}
use Rattle.fact_action_laws.specs.Faithful.{params_given}
use Rattle.fact_action_laws.specs.FaithfulLaws.{IsCheckedAdapter, HasSyncSides}
use Rattle.fact_action_laws.specs.Items.{items}
use Rattle.fact_action_laws.specs.MoveTerms.{IsWellFormed}
use Rattle.fact_action_laws.specs.Requested.{params_parts, results_parts}
use Rattle.fact_action_laws.specs.Rooms.{items_bytes, requests_bytes, AllCutsShrink}
use Rattle.fact_lowering.specs.Room.{measured, measured_places, inner_room, room}

-- What a value calls for on its way to a side takes no more bytes than its inner room.
abbrev pub ItemsFit : Type 0
ItemsFit =
    (side : SideAbi) (t u : Shape) (v : Value) → Agrees t u → IsRuled t → IsRuled u → IsWellFormed t → IsWellFormed u → IsA t v
    → items_bytes (items side t u v) ≤ measured inner_room t u v

-- The requests of a sync adapter's transfers take no more bytes than the room of the values, by all answers so far by which no region that is cut
-- grows: those of parameters with the region of their tuple, and those of results, whose tuple the caller has room for, without it.
abbrev pub ParamRequestsFit : Type 0
ParamRequestsFit =
    (p : ImportPlaces) (u : AdapterTunables) (a : LinkedAdapter) (args : List CoreValue) (first : MachineState) (vs : List Value) (answers : List (List CoreValue))
    → IsCheckedAdapter p a → HasSyncSides a → is_state p first ≡ true → are_values args (lower_signature_of a).params ≡ true → params_given p a args first ≡ Some vs
    → AreMembers (tuple_members a.lower.params) vs → AllCutsShrink (params_transfer u a) (params_parts p u a args first) answers
    → requests_bytes (parts_requests (params_transfer u a) (params_parts p u a args first) answers) ≤ room a.lower.params a.lift.params vs

abbrev pub ResultRequestsFit : Type 0
ResultRequestsFit =
    (p : ImportPlaces) (u : AdapterTunables) (a : LinkedAdapter) (args given : List CoreValue) (left : MachineState) (vs : List Value) (answers : List (List CoreValue))
    → IsCheckedAdapter p a → HasSyncSides a → is_state p left ≡ true → are_values given (lift_signature_of a).results ≡ true
    → lift_result_values a.lift.async_side (side_abi (options_of a.lift)) (side_memory p (options_of a.lift) left) a.lift.results given ≡ Some vs
    → AreMembers (tuple_members a.lift.results) vs → AllCutsShrink (results_transfer u a) (results_parts p u a args given left) answers
    → requests_bytes (parts_requests (results_transfer u a) (results_parts p u a args given left) answers) ≤ measured_places inner_room (tuple_members a.lift.results) vs (tuple_members a.lower.results)
