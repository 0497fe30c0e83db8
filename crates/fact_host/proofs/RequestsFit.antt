-- The requests of a transfer fit in the room of its values.
use Rattle.std.proofs.Common.{arith}
use Rattle.fact_types.specs.Shapes.{layout_of}
use Rattle.fact_types.specs.Tuples.{tuple_members, tuple_of}
use Rattle.fact_actions.specs.Adapters.{params_transfer, results_transfer}
use Rattle.fact_actions.specs.Sides.{options_of, side_abi, width_of_side}
use Rattle.fact_action_laws.proofs.Grounding.{members_ruled}
use Rattle.fact_action_laws.proofs.Membered.{members_formed}
use Rattle.fact_action_laws.specs.Requested.{params_parts, results_parts}
use Rattle.fact_action_laws.proofs.RequestRooms.{requests_take_no_more}
use Rattle.fact_action_laws.proofs.TupleRooms.{params_take_no_more, results_take_no_more}
use Rattle.fact_host.specs.Fitting.{ParamRequestsFit, ResultRequestsFit}
use Rattle.fact_host.proofs.ItemRooms.{align_in, size_in, layout_most, places_in_room}

pub param_requests_fit : ParamRequestsFit
param_requests_fit p u a args first vs answers x sides typed args_typed given are cut =
    let w = width_of_side (options_of a.lift) in
    let from = layout_of (tuple_of a.lower.params) in
    let to = layout_of (tuple_of a.lift.params) in
    let asked = requests_take_no_more (params_transfer u a) (params_parts p u a args first) answers cut in
    let parts = params_take_no_more p u a args first vs x sides typed args_typed given in
    let inner = places_in_room (side_abi (options_of a.lift)) (tuple_members a.lift.params) (tuple_members a.lower.params) vs x.params_agree (members_ruled 0 a.lower.params x.lower_params.valid) (members_ruled 0 a.lift.params x.lift_params.valid)
    (members_formed 0 a.lower.params x.lower_params.formed) (members_formed 0 a.lift.params x.lift_params.formed) are in
    omega (arith, asked, parts, inner, align_in w to (layout_most (tuple_of a.lift.params)), size_in w from to)

pub result_requests_fit : ResultRequestsFit
result_requests_fit p u a args given left vs answers x sides typed given_typed is are cut =
    let asked = requests_take_no_more (results_transfer u a) (results_parts p u a args given left) answers cut in
    let parts = results_take_no_more p u a args given left vs x sides typed given_typed is in
    let inner = places_in_room (side_abi (options_of a.lower)) (tuple_members a.lower.results) (tuple_members a.lift.results) vs x.results_agree (members_ruled 0 a.lift.results x.lift_results.valid) (members_ruled 0 a.lower.results x.lower_results.valid)
    (members_formed 0 a.lift.results x.lift_results.formed) (members_formed 0 a.lower.results x.lower_results.formed) are in
    omega (arith, asked, parts, inner)
