use Rattle.std.proofs.Common.{◌∙◌}
use Rattle.std.proofs.lemmas.List.{take_all}
use Rattle.fact_plan_types.proofs.ListedLaws.{next_name}
use Rattle.fact_plan_types.proofs.members.set_of_names.Goals as goal

pub loop-name-preserved : goal.loop-name-preserved
loop-name-preserved c =
    next_name c.args.names.now _ _ c.loop-name.name-index c.name-item.result _ c.requires c.loop-name-test.true c.name-item.is c.in_ok-try_clone.ensures c.loop-name.invariant c.in_ok-insert.ensures.keys

pub returns : goal.returns
returns c = c.loop-name.invariant ∙ take_all c.loop-name.name-index c.args.names.now c.loop-name-test.false
