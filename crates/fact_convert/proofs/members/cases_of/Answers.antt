use Rattle.std.proofs.Common.{rules}
use Rattle.fact_convert.proofs.Listing.{no_cases, one_more_case, all_cases}
use Rattle.fact_convert.proofs.members.cases_of.Goals as goal

pub loop-name-init : goal.loop-name-init
loop-name-init c = no_cases c.args.cases.now c.args.types.now _ (search rules)

pub loop-name-preserved : goal.loop-name-preserved
loop-name-preserved c = one_more_case c.args.cases.now c.args.types.now c.loop-name.name-index c.loop-name-item.result _ _ _ _ _ c.loop-name-test.true c.loop-name-item.is c.loop-name.invariant c.take_payload-taken.ensures.taken c.take_payload-taken.ensures.left c.in_ok-put.ensures

pub returns : goal.returns
returns c = all_cases c.args.cases.now c.args.types.now c.loop-name.name-index _ _ c.loop-name-test.false c.loop-name.invariant
