use Rattle.fact_builder.proofs.GrowthLaws.{func_keeps}
use Rattle.fact_builder.proofs.PlainLaws.{pushed_func}
use Rattle.fact_builder.proofs.pushes.TypeFuncEntry.push.Goals as goal

pub invariant_of-types : goal.invariant_of-types
invariant_of-types c = pushed_func _ _ _ c.args.self c.push_func.result c.types.invariant c.push_func.ensures.table c.push_func.ensures.refused

pub returns-clause-keeps : goal.returns-clause-keeps
returns-clause-keeps c = func_keeps _ _ _ c.types.view_is c.args.self c.push_func.result c.push_func.ensures.table c.push_func.ensures.refused
