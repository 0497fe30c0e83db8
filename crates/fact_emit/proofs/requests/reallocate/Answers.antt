use Rattle.fact_emit.proofs.requests.reallocate.Goals as goal
use Rattle.fact_emit.proofs.RequestMoves.{asks_region}

pub returns : goal.returns
returns c = asks_region c.args.region c.in_ok-put_request.ensures c.in_ok-keep_address.ensures c.in_ok-check_region.ensures
