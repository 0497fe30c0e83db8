use Rattle.fact_convert.proofs.FinishLaws.{index_there, one_more_export, all_exports}
use Rattle.fact_convert.proofs.finish.export_types_of.Goals as goal

pub index-requires : goal.index-requires
index-requires c = index_there c.args.component.now _ c.as_slice-name-items.ensures c.loop-name.name-index c.loop-name-item.result c.loop-name-test.true c.loop-name-item.is c.requires

pub loop-name-preserved : goal.loop-name-preserved
loop-name-preserved c = one_more_export c.args.component.now.export_items c.as_slice-name-items.result.now c.loop-name.name-index c.loop-name-item.result _ _ _ _ _ c.loop-name-test.true c.loop-name-item.is c.loop-name.invariant c.type_of_item-ty.ensures c.index.ensures c.in_ok-extern_data.ensures c.in_ok-put.ensures

pub returns : goal.returns
returns c = all_exports c.args.component.now.export_items _ _ c.as_slice-name-items.ensures c.loop-name.name-index _ c.loop-name-test.false c.loop-name.invariant
