use Rattle.fact_convert.proofs.Listing.{field_added, all_fields}
use Rattle.fact_convert.proofs.members.fields_of.Goals as goal

pub loop-i-preserved : goal.loop-i-preserved
loop-i-preserved c = field_added c.args.fields.now c.args.types.now c.loop-i.i _ _ _ _ _ c.loop-i-test.true c.index-fields-i.is c.member_at-ty.ensures c.in_ok-field.ensures c.loop-i.invariant c.in_ok-push.ensures.ok

pub returns : goal.returns
returns c = all_fields c.args.fields.now c.args.types.now c.loop-i.i _ c.loop-i-test.false c.requires c.loop-i.invariant
