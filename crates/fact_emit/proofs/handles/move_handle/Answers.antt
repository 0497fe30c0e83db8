use Rattle.fact_emit.proofs.HandleMoves.{handle_emits}
use Rattle.fact_emit.proofs.handles.move_handle.Goals as goal

pub returns : goal.returns
returns c = handle_emits c.args.sides c.args.transfer c.requires c.in_ok-open.ensures c.in_ok-read_number.ensures c.in_ok-put.ensures c.in_ok-put-2.ensures c.in_ok-call_runtime.ensures c.in_ok-write_number.ensures
