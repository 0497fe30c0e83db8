-- A turn makes the nest one level deeper.
use Rattle.std.proofs.Common.{◌∙◌}
use Rattle.fact_generate.proofs.FormTypes.{nest-deeper}
use Rattle.fact_generate.proofs.types.add_nest_types.Goals as goal

pub loop-level-preserved : goal.loop-level-preserved
loop-level-preserved c =
    nest-deeper c.len-place.result c.loop-level.level c.args.types.now c.loop-level.types c.push.new.self c.push-in-loop-level.new.self c.nest_ref-inner.result c.from_vec.result c.loop-level.invariant c.nest_ref-inner.ensures
    (c.from_vec.ensures ∙ c.in_ok-members.ensures.items) c.in_ok-push.ensures.ok c.in_ok-push-2.ensures.ok
