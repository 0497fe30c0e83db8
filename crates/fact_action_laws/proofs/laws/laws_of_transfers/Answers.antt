use Rattle.fact_action_laws.proofs.Converse.{moves_are_lawful, moves_refuse}
use Rattle.fact_action_laws.proofs.Ending.{runs_come_to_end}
use Rattle.fact_action_laws.proofs.FaithfulRuns.{runs_are_faithful, runs_weigh}
use Rattle.fact_action_laws.proofs.PointerPairs.{own_memories_serve}
use Rattle.fact_action_laws.proofs.Shaped.{shapes_are_well_formed, tuples_agree}
use Rattle.fact_action_laws.proofs.laws.laws_of_transfers.Goals as goal

pub returns : goal.returns
returns c = record {
  moves_are_lawful = moves_are_lawful;
  moves_refuse = moves_refuse;
  runs_are_faithful = runs_are_faithful;
  runs_weigh = runs_weigh;
  runs_come_to_end = runs_come_to_end;
  own_memories_serve = own_memories_serve;
  shapes_are_well_formed = shapes_are_well_formed;
  tuples_agree = tuples_agree;
}
