use Rattle.fact_types.proofs.PushLaws.{pushed_map}
use Rattle.fact_types.proofs.tables.ComponentTypes.push_map.Goals as goal

pub invariant_of-self : goal.invariant_of-self
invariant_of-self c = pushed_map _ _ c.self.view_is _ _ _ c.push.ensures.list c.push.ensures.refused c.self.invariant c.requires
