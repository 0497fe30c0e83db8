use Rattle.fact_emit.proofs.NumberMoves.{pointer_emits}
use Rattle.fact_emit.proofs.pointers.read_pointer.Goals as goal

pub returns : goal.returns
returns c = pointer_emits c.pointer_number-number.ensures c.in_ok-read_number.ensures c.in_ok-put_widened.ensures c.in_ok-put.ensures
