use Rattle.fact_kinds.proofs.FixedJoin.{fixed_closed}
use Rattle.fact_kinds.proofs.fixed.close_fixed.Goals as goal

pub returns : goal.returns
returns c = fixed_closed c.in_ok-end_fixed_turn.ensures c.end-body.ensures c.in_ok-put_countdown.ensures
