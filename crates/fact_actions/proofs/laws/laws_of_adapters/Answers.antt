use Rattle.fact_actions.proofs.AlignedMoves.{sync_places_aligned}
use Rattle.fact_actions.proofs.Asking.{requests_grow}
use Rattle.fact_actions.proofs.Barriers.{sync_runs_follow}
use Rattle.fact_actions.proofs.AdapterEnds.{few_calls, same_instance_traps}
use Rattle.fact_actions.proofs.Once.{called_once}
use Rattle.fact_actions.proofs.ValidTypes.{valid_types_serve}
use Rattle.fact_actions.proofs.Sources.{sources_are_left}
use Rattle.fact_actions.proofs.Stays.{typed_runs_stay, typed_same_instance_stays}
use Rattle.fact_actions.proofs.CheckedMoves.{sync_checked, start_checked, return_checked}
use Rattle.fact_actions.proofs.Confines.{writes_are_confined, requests_give_up_live}
use Rattle.fact_actions.proofs.Ordered.{calls_are_ordered}
use Rattle.fact_actions.proofs.NamedPlain.{sync_is_named}
use Rattle.fact_actions.proofs.laws.laws_of_adapters.Goals as goal

pub returns : goal.returns
returns c = record {
  calls_are_few = few_calls;
  sync_runs_follow = sync_runs_follow;
  calls_are_ordered = calls_are_ordered;
  callee_is_called_once = called_once;
  sources_are_left = sources_are_left;
  typed_runs_stay = typed_runs_stay;
  writes_are_confined = writes_are_confined;
  requests_give_up_live = requests_give_up_live;
  outcomes_are_named = sync_is_named;
  same_instance_traps = same_instance_traps;
  typed_same_instance_stays = typed_same_instance_stays;
  requests_grow = requests_grow;
  checks_only_stop = (sync_checked, start_checked, return_checked);
  places_are_aligned = sync_places_aligned;
  valid_types_serve = valid_types_serve;
}
