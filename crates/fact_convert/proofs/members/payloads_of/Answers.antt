use Rattle.fact_convert.proofs.Listing.{one_more_payload}
use Rattle.fact_convert.proofs.members.payloads_of.Goals as goal

pub loop-payload-preserved : goal.loop-payload-preserved
loop-payload-preserved c = one_more_payload c.args.cases.now c.loop-payload.payload-index c.loop-payload-item.result _ _ c.loop-payload-test.true c.loop-payload-item.is c.loop-payload.invariant c.in_ok-push_payload.ensures
