use Rattle.fact_builder.proofs.ItemLaws.{items_keep, items_kept}
use Rattle.fact_builder.proofs.known_types.KnownTypes.push_module.Goals as goal

pub invariant_of-self : goal.invariant_of-self
invariant_of-self c = items_kept _ _ _ _ _ _ c.push_module.result c.self.invariant c.push_module.ensures.table c.push_module.ensures.refused

pub returns-clause-keeps : goal.returns-clause-keeps
returns-clause-keeps c = items_keep _ _ _ c.self.view_is _ _ _ c.push_module.result c.push_module.ensures.table c.push_module.ensures.refused
