use Rattle.fact_types.proofs.PushLaws.{pushed_module}
use Rattle.fact_types.proofs.tables.ComponentTypes.push_module.Goals as goal

pub invariant_of-self : goal.invariant_of-self
invariant_of-self c = pushed_module _ _ _ _ c.push.ensures.list c.push.ensures.refused c.self.invariant
