use Rattle.fact_action_laws.proofs.AdapterReads.{transcoders_read_texts}
use Rattle.fact_action_laws.proofs.AdapterRanges.{transcoders_are_ranged, start_transcoders_are_ranged, return_transcoders_are_ranged, transcoders_can_be_answered, start_transcoders_can_be_answered, return_transcoders_can_be_answered}
use Rattle.fact_action_laws.proofs.Finished.{texts_are_moved, texts_move, adapters_are_faithful, adapters_weigh}
use Rattle.fact_action_laws.proofs.ChecksPass.{adapters_come_to_end, starts_come_to_end, returns_come_to_end, checks_pass, start_checks_pass, return_checks_pass}
use Rattle.fact_action_laws.proofs.Means.{transcoders_need_means}
use Rattle.fact_action_laws.proofs.PastLimits.{limits_are_those_of_paths, long_walks_trap, texts_past_limits_trap, some_texts_outgrow}
use Rattle.fact_action_laws.proofs.RequestRooms.{requests_take_no_more}
use Rattle.fact_action_laws.proofs.AdapterRequests.{requests_are_called_for}
use Rattle.fact_action_laws.proofs.FirstRequest.{first_request_is_called_for}
use Rattle.fact_action_laws.proofs.PartRooms.{parts_take_no_more}
use Rattle.fact_action_laws.proofs.Prefixes.{callees_are_given}
use Rattle.fact_action_laws.proofs.Trapped.{answers_are_so_far}
use Rattle.fact_action_laws.proofs.TupleRooms.{params_take_no_more, results_take_no_more}
use Rattle.fact_action_laws.proofs.AsyncRequests.{start_requests_are_called_for, return_requests_are_called_for}
use Rattle.fact_action_laws.proofs.adapter_value_laws.laws_of_adapter_values.Goals as goal

pub returns : goal.returns
returns c = record {
  transcoders_are_ranged = transcoders_are_ranged;
  start_transcoders_are_ranged = start_transcoders_are_ranged;
  return_transcoders_are_ranged = return_transcoders_are_ranged;
  transcoders_can_be_answered = transcoders_can_be_answered;
  start_transcoders_can_be_answered = start_transcoders_can_be_answered;
  return_transcoders_can_be_answered = return_transcoders_can_be_answered;
  transcoders_need_means = transcoders_need_means;
  transcoders_read_texts = transcoders_read_texts;
  texts_are_moved = texts_are_moved;
  texts_move = texts_move;
  adapters_are_faithful = adapters_are_faithful;
  adapters_weigh = adapters_weigh;
  adapters_come_to_end = adapters_come_to_end;
  starts_come_to_end = starts_come_to_end;
  returns_come_to_end = returns_come_to_end;
  checks_pass = checks_pass;
  start_checks_pass = start_checks_pass;
  return_checks_pass = return_checks_pass;
  limits_are_those_of_paths = limits_are_those_of_paths;
  long_walks_trap = long_walks_trap;
  texts_past_limits_trap = texts_past_limits_trap;
  some_texts_outgrow = some_texts_outgrow;
  requests_are_called_for = requests_are_called_for;
  start_requests_are_called_for = start_requests_are_called_for;
  return_requests_are_called_for = return_requests_are_called_for;
  first_request_is_called_for = first_request_is_called_for;
  answers_are_so_far = answers_are_so_far;
  callees_are_given = callees_are_given;
  parts_take_no_more = parts_take_no_more;
  params_take_no_more = params_take_no_more;
  results_take_no_more = results_take_no_more;
  requests_take_no_more = requests_take_no_more;
}
