use Rattle.fact_builder.proofs.GrowthLaws.{made_table_keeps}
use Rattle.fact_builder.proofs.PlainLaws.{made_resource_table}
use Rattle.fact_builder.proofs.known_types.KnownTypes.make_resource_table.Goals as goal

pub invariant_of-self : goal.invariant_of-self
invariant_of-self c = made_resource_table _ _ _ _ _ c.args.id c.make_table.result c.self.invariant c.make_table.ensures.made c.make_table.ensures.refused

pub returns-clause-keeps : goal.returns-clause-keeps
returns-clause-keeps c = made_table_keeps _ _ _ _ _ c.self.view_is c.args.id c.make_table.result c.make_table.ensures.made c.make_table.ensures.refused
