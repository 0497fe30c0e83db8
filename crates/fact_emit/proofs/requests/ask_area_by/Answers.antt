use Rattle.std.proofs.Common.{◌∙◌}
use Rattle.fact_emit.proofs.NewAreaMoves.{new_area_emits}
use Rattle.fact_emit.proofs.requests.ask_area_by.Goals as goal
use Rattle.fact_emit.proofs.RequestRanged.{realloc_same}

pub reallocate-requires : goal.reallocate-requires
reallocate-requires c = record { aligned = c.requires.aligned; realloc = realloc_same (c.in_ok-put-2.ensures.imports ∙ c.in_ok-put.ensures.imports) c.requires.realloc }

pub returns : goal.returns
returns c = new_area_emits c.args.temporaries c.args.context c.from.ensures c.in_ok-put.ensures c.in_ok-put-2.ensures c.in_ok-reallocate.ensures c.in_ok-put_address.ensures c.in_ok-put-3.ensures
