use Rattle.fact_types.proofs.PushLaws.{pushed_resource_table}
use Rattle.fact_types.proofs.tables.ComponentTypes.push_resource_table.Goals as goal

pub invariant_of-self : goal.invariant_of-self
invariant_of-self c = pushed_resource_table _ _ _ _ c.push.ensures.list c.push.ensures.refused c.self.invariant
