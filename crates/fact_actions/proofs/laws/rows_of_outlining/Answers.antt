-- laws::rows_of_outlining
use Rattle.fact_actions.proofs.OutlinedRows.{three_chars_are_outlined, helpers_are_shared, nest_is_outlined, fixed_lists_ask, functions_have_fuel, free_types_ask, members_ask_in_order}
use Rattle.fact_actions.proofs.laws.rows_of_outlining.Goals as goal

pub returns : goal.returns
returns c = record {
  three_chars = three_chars_are_outlined;
  helpers_are_shared = helpers_are_shared;
  nest_of_lists = nest_is_outlined;
  fixed_lists = fixed_lists_ask;
  fuel_of_functions = functions_have_fuel;
  free_types = free_types_ask;
  orders_of_members = members_ask_in_order;
}
