use Rattle.fact_emit.proofs.NumberMoves.{tested_emits}
use Rattle.fact_emit.proofs.scalars.move_tested_by.Goals as goal

pub returns : goal.returns
returns c = tested_emits _ _ _ c.requires c.in_ok-open.ensures c.in_ok-read_number.ensures c.in_ok-put.ensures c.in_ok-put_number_test.ensures c.in_ok-put-2.ensures c.in_ok-write_number.ensures
