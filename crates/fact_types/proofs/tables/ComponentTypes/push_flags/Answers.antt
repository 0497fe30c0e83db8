use Rattle.fact_types.proofs.PushLaws.{pushed_flags}
use Rattle.fact_types.proofs.tables.ComponentTypes.push_flags.Goals as goal

pub invariant_of-self : goal.invariant_of-self
invariant_of-self c = pushed_flags _ _ c.self.view_is _ _ _ c.push.ensures.list c.push.ensures.refused c.self.invariant c.requires
