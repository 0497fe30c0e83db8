use Rattle.fact_emit.proofs.RuntimeMoves.{saves_emits}
use Rattle.fact_emit.proofs.context.save_context.Goals as goal

pub returns : goal.returns
returns c = saves_emits c.args.is_on c.args.locals c.in_ok-read_context.ensures c.in_ok-zero_context.ensures
