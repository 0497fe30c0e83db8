use Rattle.fact_run.proofs.ChainEnds.{told-chain}
use Rattle.fact_run.proofs.chain_mode.reply_to.Goals as goal

pub returns : goal.returns
returns c = told-chain c.args.fuel c.args.bytes.now c.reply_to_chain.result c.told_chain_reply.result c.reply_to_chain.ensures c.told_chain_reply.ensures
