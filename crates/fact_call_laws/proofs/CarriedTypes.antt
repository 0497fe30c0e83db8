-- What a call carried is of the types of the side that it was carried to.
use Rattle.std.proofs.Common.{◌≡◌, ◌+◌, ◌≤◌, List, Some, subst, arith}
use Rattle.fact_types.specs.Tuples.{tuple_members}
use Rattle.fact_values.specs.declared.value.Value.{Value}
use Rattle.fact_values.specs.Formed.{AreFormed}
use Rattle.fact_values.specs.Weight.{weight_members}
use Rattle.fact_action_laws.specs.FaithfulLaws.{AreWellFormedTypes}
use Rattle.fact_host.specs.Called.{called_params, called_results, handle_count}
use Rattle.fact_host.specs.Contract.{AreOfTypes}
use Rattle.fact_call_laws.proofs.CarriedLists.{count_few, fitting_weight, types_carried, types_formed}
use Rattle.fact_call_laws.proofs.Setting.{Called, Setting, lift_params_are, lift_results_are, lower_params_are, lower_results_are}

module _ (x : Setting) (h : Called x) where
  lower_params_formed : AreFormed (tuple_members x.shapes.lower_params)
  lower_params_formed = types_formed x.types x.call.lower.params x.shapes.lower_params 0 h.callable.shapes.lower_params

  lift_params_formed : AreFormed (tuple_members x.shapes.lift_params)
  lift_params_formed = types_formed x.types x.call.lift.params x.shapes.lift_params 0 h.callable.shapes.lift_params

  lift_results_formed : AreFormed (tuple_members x.shapes.lift_results)
  lift_results_formed = types_formed x.types x.call.lift.results x.shapes.lift_results 0 h.callable.shapes.lift_results

  lower_results_formed : AreFormed (tuple_members x.shapes.lower_results)
  lower_results_formed = types_formed x.types x.call.lower.results x.shapes.lower_results 0 h.callable.shapes.lower_results

  params_few : handle_count x.shapes.lower_params x.shapes.lift_params x.values ≤ weight_members (tuple_members x.shapes.lower_params) x.values
  params_few =
      count_few x.call.lower.abi x.shapes.lower_params x.shapes.lift_params x.values lower_params_formed lift_params_formed
      (subst AreWellFormedTypes (lower_params_are x h) h.promised.checked.lower_params) (subst AreWellFormedTypes (lift_params_are x h) h.promised.checked.lift_params) h.callable.params_agree h.suited.0

  results_few : handle_count x.shapes.lift_results x.shapes.lower_results x.answered ≤ weight_members (tuple_members x.shapes.lift_results) x.answered
  results_few =
      count_few x.call.lift.abi x.shapes.lift_results x.shapes.lower_results x.answered lift_results_formed lower_results_formed
      (subst AreWellFormedTypes (lift_results_are x h) h.promised.checked.lift_results) (subst AreWellFormedTypes (lower_results_are x h) h.promised.checked.lower_results) h.callable.results_agree h.answer_suited

  -- what the callee was given
  pub given_typed : (given : List Value) → called_params x.shapes.lower_params x.shapes.lift_params x.values ≡ Some given → AreOfTypes x.shapes.lift_params given
  given_typed given e =
      let few = params_few in
      let weight = fitting_weight x.shapes.lower_params x.shapes.lift_params x.values h.suited.1 in
      types_carried x.shapes.lower_params x.shapes.lift_params x.values given 1 lower_params_formed lift_params_formed h.callable.params_agree h.suited.0 (omega (arith, few, weight)) e

  -- what the caller got
  pub got_typed : (got : List Value) → called_results x.shapes.lower_params x.shapes.lift_params x.shapes.lift_results x.shapes.lower_results x.values x.answered ≡ Some got → AreOfTypes x.shapes.lower_results got
  got_typed got e =
      let before = params_few in
      let few = results_few in
      let weight_before = fitting_weight x.shapes.lower_params x.shapes.lift_params x.values h.suited.1 in
      let weight = fitting_weight x.shapes.lift_results x.shapes.lower_results x.answered h.answer_fits in
      types_carried x.shapes.lift_results x.shapes.lower_results x.answered got (1 + handle_count x.shapes.lower_params x.shapes.lift_params x.values) lift_results_formed lower_results_formed h.callable.results_agree h.answer_suited
      (omega (arith, before, few, weight_before, weight)) e
