use Rattle.fact_run.proofs.ChainEnds.{replied-chain}
use Rattle.fact_run.proofs.chain_mode.chain_reply.Goals as goal

pub returns-in-Ok-clause-reply : goal.returns-in-Ok-clause-reply
returns-in-Ok-clause-reply g c =
    replied-chain _ _ _ _ c.in-Ok.bytes.items c.reply_to.result c.in-Ok.ensures.all (rw c.deref.ensures.value at c.reply_to.ensures)
