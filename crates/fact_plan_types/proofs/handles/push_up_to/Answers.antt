use Rattle.std.proofs.Common.{arith}
use Rattle.fact_plan_types.proofs.PushLaws.{pushes_none, pushes_then}
use Rattle.fact_plan_types.proofs.handles.push_up_to.Goals as goal

pub loop-builder-init : goal.loop-builder-init
loop-builder-init c = record { pushes = pushes_none _ _ c.requires.first; more = omega arith; few = omega arith }

pub loop-builder-preserved : goal.loop-builder-preserved
loop-builder-preserved c = record {
  pushes = pushes_then _ _ _ _ c.loop-builder.invariant.pushes c.in_ok-push_next.ensures.pushed;
  more = omega (arith, c.loop-builder.invariant.more, c.in_ok-push_next.ensures.longer);
  few = omega (arith, c.loop-builder.invariant.few, c.in_ok-push_next.ensures.longer);
}
