use Rattle.fact_builder.proofs.GrowthLaws.{future_keeps}
use Rattle.fact_builder.proofs.PlainLaws.{pushed_future}
use Rattle.fact_builder.proofs.pushes.TypeFutureEntry.push.Goals as goal

pub invariant_of-types : goal.invariant_of-types
invariant_of-types c = pushed_future _ _ _ c.args.self c.push_future.result c.types.invariant c.reveal.ensures.sound c.push_future.ensures.table c.push_future.ensures.refused

pub returns-clause-keeps : goal.returns-clause-keeps
returns-clause-keeps c = future_keeps _ _ _ c.types.view_is c.args.self c.push_future.result c.reveal.ensures.sound c.push_future.ensures.table c.push_future.ensures.refused
