use Rattle.fact_emit.proofs.NumberMoves.{scaled_put, not_scaled}
use Rattle.fact_emit.proofs.numbers.put_scaled.Goals as goal

pub returns-in_ok-put-2 : goal.returns-in_ok-put-2
returns-in_ok-put-2 c = scaled_put c.if-factor-ne1.true c.in_ok-put.ensures c.in_ok-put-2.ensures

pub returns-else-factor-ne1 : goal.returns-else-factor-ne1
returns-else-factor-ne1 c = not_scaled c.args.w.now c.if-factor-ne1.false
