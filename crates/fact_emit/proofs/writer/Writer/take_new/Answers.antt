use Rattle.fact_emit.proofs.Locals.{took_added}
use Rattle.fact_emit.proofs.writer.Writer.take_new.Goals as goal

pub returns : goal.returns
returns c = took_added _ _ _ _ c.requires c.in_ok-local.ensures
