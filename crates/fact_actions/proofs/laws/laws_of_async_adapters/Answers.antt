use Rattle.fact_actions.proofs.AlignedMoves.{start_places_aligned, return_places_aligned}
use Rattle.fact_actions.proofs.AdapterEnds.{few_start_calls, few_return_calls, async_calls_twice, async_calls_write_nothing}
use Rattle.fact_actions.proofs.Sources.{start_leaves_source, return_leaves_source}
use Rattle.fact_actions.proofs.Stays.{typed_starts_stay, typed_returns_stay, typed_async_calls_stay}
use Rattle.fact_actions.proofs.Confines.{start_writes_are_confined, return_writes_are_confined, start_requests_give_up_live, return_requests_give_up_live}
use Rattle.fact_actions.proofs.Ordered.{start_is_transfer, return_is_transfer}
use Rattle.fact_actions.proofs.laws.laws_of_async_adapters.Goals as goal

pub returns : goal.returns
returns c = record {
  start_is_transfer = start_is_transfer;
  return_is_transfer = return_is_transfer;
  start_leaves_source = start_leaves_source;
  return_leaves_source = return_leaves_source;
  start_calls_are_few = few_start_calls;
  return_calls_are_few = few_return_calls;
  typed_starts_stay = typed_starts_stay;
  typed_returns_stay = typed_returns_stay;
  start_writes_are_confined = start_writes_are_confined;
  return_writes_are_confined = return_writes_are_confined;
  start_requests_give_up_live = start_requests_give_up_live;
  return_requests_give_up_live = return_requests_give_up_live;
  start_places_are_aligned = start_places_aligned;
  return_places_are_aligned = return_places_aligned;
  async_calls_twice = async_calls_twice;
  async_calls_write_nothing = async_calls_write_nothing;
  typed_async_calls_stay = typed_async_calls_stay;
}
