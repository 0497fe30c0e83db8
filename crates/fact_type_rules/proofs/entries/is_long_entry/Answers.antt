use Rattle.fact_type_rules.proofs.KindLaws.{long-tuple}
use Rattle.fact_type_rules.proofs.entries.is_long_entry.Goals as goal

pub returns-in-Tuple : goal.returns-in-Tuple
returns-in-Tuple c = rw c.in-Tuple.is (long-tuple c.args.types.now c.in-Tuple.i c.index-in-Tuple.result.now c.len-in-Tuple.result c.index-in-Tuple.ensures c.len-in-Tuple.ensures)
