use Rattle.fact_steps.proofs.WrittenSteps.{restored_finish, still_there}
use Rattle.fact_steps.proofs.steps.restore_and_finish.Goals as goal

pub finish_call-requires : goal.finish_call-requires
finish_call-requires c = still_there _ c.in_ok-restore_flags.ensures c.requires

pub returns : goal.returns
returns c = restored_finish _ _ _ _ _ _ _ c.in_ok-restore_flags.ensures c.in_ok-finish_call.ensures
