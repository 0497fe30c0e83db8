use Rattle.fact_convert.proofs.Merged.{one_more_entry, all_entries}
use Rattle.fact_convert.proofs.finish.import_types_of.Goals as goal

pub loop-name-preserved : goal.loop-name-preserved
loop-name-preserved c = one_more_entry c.as_slice-name-items.result.now c.loop-name.name-index c.loop-name-item.result _ _ _ c.loop-name-test.true c.loop-name-item.is c.in_ok-try_clone.ensures c.loop-name.invariant c.in_ok-put.ensures

pub returns : goal.returns
returns c = all_entries _ _ c.as_slice-name-items.ensures c.loop-name.name-index _ c.loop-name-test.false c.loop-name.invariant
