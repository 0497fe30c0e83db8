use Rattle.fact_emit.proofs.RequestRanged.{realloc_same}
use Rattle.fact_kinds.proofs.ListParts.{list_asked}
use Rattle.fact_kinds.proofs.lists.ask_list.Goals as goal

pub reallocate-requires : goal.reallocate-requires
reallocate-requires c = record { aligned = c.requires.aligned; realloc = realloc_same c.in_ok-put_bytes.ensures.imports c.requires.realloc }

pub returns : goal.returns
returns c = list_asked c.args.l c.in_ok-put_bytes.ensures c.in_ok-reallocate.ensures
