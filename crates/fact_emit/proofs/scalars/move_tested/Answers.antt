use Rattle.fact_emit.proofs.Using.{moves_around}
use Rattle.fact_emit.proofs.scalars.move_tested.Goals as goal

pub returns : goal.returns
returns c = moves_around c.in_ok-local.ensures c.in_ok-move_tested_by.ensures c.in_ok-free_local.ensures
