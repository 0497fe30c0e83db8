use Rattle.fact_builder.proofs.GrowthLaws.{stream_keeps}
use Rattle.fact_builder.proofs.PlainLaws.{pushed_stream}
use Rattle.fact_builder.proofs.pushes.TypeStreamEntry.push.Goals as goal

pub invariant_of-types : goal.invariant_of-types
invariant_of-types c = pushed_stream _ _ _ c.args.self c.push_stream.result c.types.invariant c.reveal.ensures.sound c.push_stream.ensures.table c.push_stream.ensures.refused

pub returns-clause-keeps : goal.returns-clause-keeps
returns-clause-keeps c = stream_keeps _ _ _ c.types.view_is c.args.self c.push_stream.result c.reveal.ensures.sound c.push_stream.ensures.table c.push_stream.ensures.refused
