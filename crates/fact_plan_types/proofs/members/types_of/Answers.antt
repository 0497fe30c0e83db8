use Rattle.fact_types.specs.Tables.{IsLive}
use Rattle.fact_plan_types.proofs.ShapeLists.{one-more, all-more}
use Rattle.fact_plan_types.proofs.members.types_of.Goals as goal

pub loop-ty-preserved : goal.loop-ty-preserved
loop-ty-preserved c = record {
  shaped = λ t ss h. one-more t ss _ _ _ c.args.refs.now c.loop-ty.ty-index _ c.in_ok-push.ensures.items c.loop-ty-test.true (c.loop-ty.invariant.shaped t ss h) (c.type_of.ensures.shaped t ss h);
  live = λ t h. all-more (IsLive t) _ _ _ c.in_ok-push.ensures.items (c.loop-ty.invariant.live t h) (c.type_of.ensures.live t h);
}
