use Rattle.fact_emit.proofs.RequestMoves.{calls_realloc}
use Rattle.fact_emit.proofs.RequestRanged.{realloc_on}
use Rattle.fact_emit.proofs.requests.put_request.Goals as goal

pub returns : goal.returns
returns c = calls_realloc c.args.region (realloc_on c.requires.realloc c.in_ok-save_context.ensures.grew) c.in_ok-save_context.ensures c.in_ok-put_ask.ensures c.in_ok-restore_context.ensures
