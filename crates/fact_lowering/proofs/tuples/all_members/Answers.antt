use Rattle.std.proofs.Common.{arith}
use Rattle.fact_lowering.proofs.TupleBehind.{all_told, one_more_member}
use Rattle.fact_lowering.proofs.tuples.all_members.Goals as goal

pub loop-ty-preserved : goal.loop-ty-preserved
loop-ty-preserved c = one_more_member c.loop-ty.members _ c.args.tys.now c.loop-ty.ty-index _ c.loop-ty-test.true c.loop-ty.invariant c.in_ok-push.ensures.ok

pub returns : goal.returns
returns c = all_told c.loop-ty.members c.args.tys.now c.loop-ty.ty-index (omega (arith, c.loop-ty-test.false)) c.loop-ty.invariant
