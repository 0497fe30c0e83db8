use Rattle.fact_value_json.proofs.ReadLaws.{all_counted, not_counted}
use Rattle.fact_value_json.proofs.reading.counted_items.Goals as goal

pub returns-then-list-count-clause-items : goal.returns-then-list-count-clause-items
returns-then-list-count-clause-items c = all_counted _ c.in_ok-list.list.now c.args.count c.in_ok-list.ensures c.if-list-count.true

pub returns-else-list-count-clause-items : goal.returns-else-list-count-clause-items
returns-else-list-count-clause-items c = rw c.wrong_kind.ensures (not_counted _ c.in_ok-list.list.now c.args.count c.in_ok-list.ensures c.if-list-count.false)
