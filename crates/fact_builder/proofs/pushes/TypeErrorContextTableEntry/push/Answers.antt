use Rattle.fact_builder.proofs.GrowthLaws.{error_context_table_keeps}
use Rattle.fact_builder.proofs.PlainLaws.{pushed_error_context_table}
use Rattle.fact_builder.proofs.pushes.TypeErrorContextTableEntry.push.Goals as goal

pub invariant_of-types : goal.invariant_of-types
invariant_of-types c = pushed_error_context_table _ _ _ c.args.self c.push_error_context_table.result c.types.invariant c.push_error_context_table.ensures.table c.push_error_context_table.ensures.refused

pub returns-clause-keeps : goal.returns-clause-keeps
returns-clause-keeps c = error_context_table_keeps _ _ _ c.types.view_is c.args.self c.push_error_context_table.result c.push_error_context_table.ensures.table c.push_error_context_table.ensures.refused
