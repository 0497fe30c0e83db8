use Rattle.fact_emit.proofs.Emitting.{grew_on}
use Rattle.fact_emit.proofs.RequestRanged.{realloc_on}
use Rattle.fact_kinds.proofs.ListParts.{list_opened}
use Rattle.fact_kinds.proofs.lists.open_list.Goals as goal

pub ask_list-requires : goal.ask_list-requires
ask_list-requires c = record {
  aligned = c.requires.to_align;
  realloc = realloc_on c.requires.realloc (grew_on c.in_ok-read_pair.ensures.grew (grew_on c.in_ok-check_few.ensures.grew (grew_on c.in_ok-check_few-2.ensures.grew c.in_ok-check_bytes.ensures.grew)));
}

pub returns : goal.returns
returns c = list_opened c.in_ok-read_pair.ensures c.in_ok-check_few.ensures c.in_ok-check_few-2.ensures c.in_ok-check_bytes.ensures c.in_ok-ask_list.ensures c.in_ok-begin_elements.ensures
