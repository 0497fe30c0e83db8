use Rattle.fact_kinds.proofs.ListParts.{list_closed}
use Rattle.fact_kinds.proofs.lists.close_list.Goals as goal

pub returns : goal.returns
returns c = list_closed c.in_ok-test.ensures c.in_ok-end_turn.ensures c.end-body.ensures c.in_ok-put_counted.ensures c.in_ok-write_pair.ensures
