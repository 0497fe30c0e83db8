use Rattle.fact_action_laws.proofs.Returns.{returns_faithful, returns_weigh}
use Rattle.fact_action_laws.proofs.Starts.{starts_faithful, starts_weigh}
use Rattle.fact_action_laws.proofs.TransferEnds.{starts_come_to_end, returns_come_to_end}
use Rattle.fact_action_laws.proofs.async_laws.laws_of_async_transfers.Goals as goal

pub returns : goal.returns
returns c = record {
  starts_are_faithful = starts_faithful;
  starts_weigh = starts_weigh;
  starts_come_to_end = starts_come_to_end;
  returns_are_faithful = returns_faithful;
  returns_weigh = returns_weigh;
  returns_come_to_end = returns_come_to_end;
}
