use Rattle.fact_emit.proofs.AreaMoves.{area_emits}
use Rattle.fact_emit.proofs.pointers.check_area_by.Goals as goal

pub returns : goal.returns
returns c = area_emits c.args.temporaries c.from.ensures c.in_ok-widen_address.ensures c.in_ok-put.ensures c.in_ok-put-2.ensures c.in_ok-check_region.ensures
