use Rattle.fact_machine.proofs.Replays.{world_is_replayed, later_is_replayed, run_is_replayed, calls_see_replay, replay_append}
use Rattle.fact_machine.proofs.replay_laws.laws_of_replay.Goals as goal

pub returns : goal.returns
returns c = record {
  world_is_replayed = world_is_replayed;
  later_is_replayed = later_is_replayed;
  run_is_replayed = run_is_replayed;
  calls_see_replay = calls_see_replay;
  replays_add = replay_append;
}
