use Rattle.fact_compound.proofs.TuplesWritten.{params_moved_on, params_passed_on}
use Rattle.fact_compound.proofs.tuples.pass_params.Goals as goal

pub returns-in_ok-move_params : goal.returns-in_ok-move_params
returns-in_ok-move_params c = params_moved_on c.if-not-passed.true c.in_ok-move_params.ensures

pub returns-else-not-passed : goal.returns-else-not-passed
returns-else-not-passed c = params_passed_on c.if-not-passed.false
