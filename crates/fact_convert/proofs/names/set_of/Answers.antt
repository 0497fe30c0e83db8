use Rattle.fact_convert.proofs.Merged.{one_more_name, all_names}
use Rattle.fact_convert.proofs.names.set_of.Goals as goal

pub loop-name-preserved : goal.loop-name-preserved
loop-name-preserved c = one_more_name c.args.names.now c.loop-name.name-index c.name-item.result _ _ _ c.loop-name-test.true c.name-item.is c.in_ok-try_clone.ensures c.loop-name.invariant c.in_ok-insert.ensures.keys

pub returns : goal.returns
returns c = all_names c.args.names.now c.loop-name.name-index _ c.loop-name-test.false c.loop-name.invariant
