use Rattle.fact_run.proofs.Ends.{replied-counts, replied-read}
use Rattle.fact_run.proofs.mode.reply_uncalled.Goals as goal

pub returns-in-Ok-clause-reply : goal.returns-in-Ok-clause-reply
returns-in-Ok-clause-reply g c = replied-counts _ _ _ _ _ c.in-Some.is c.requires.unchecked c.requires.uncalled c.requires.unchained c.in-Ok.ensures

pub returns-in-None-clause-reply : goal.returns-in-None-clause-reply
returns-in-None-clause-reply g c = replied-read _ _ _ _ c.plan_reply.result c.in-None.is c.requires.unchecked c.requires.uncalled c.requires.unchained c.plan_reply.ensures.reply
