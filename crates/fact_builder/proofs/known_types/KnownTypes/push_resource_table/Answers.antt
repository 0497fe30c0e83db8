use Rattle.fact_builder.proofs.GrowthLaws.{resource_table_keeps}
use Rattle.fact_builder.proofs.PlainLaws.{pushed_resource_table}
use Rattle.fact_builder.proofs.known_types.KnownTypes.push_resource_table.Goals as goal

pub invariant_of-self : goal.invariant_of-self
invariant_of-self c = pushed_resource_table _ _ _ c.args.ty c.push_resource_table.result c.self.invariant c.push_resource_table.ensures.table c.push_resource_table.ensures.refused

pub returns-clause-keeps : goal.returns-clause-keeps
returns-clause-keeps c = resource_table_keeps _ _ _ c.self.view_is c.args.ty c.push_resource_table.result c.push_resource_table.ensures.table c.push_resource_table.ensures.refused
