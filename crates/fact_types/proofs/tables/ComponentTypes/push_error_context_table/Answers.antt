use Rattle.fact_types.proofs.PushLaws.{pushed_error_context_table}
use Rattle.fact_types.proofs.tables.ComponentTypes.push_error_context_table.Goals as goal

pub invariant_of-self : goal.invariant_of-self
invariant_of-self c = pushed_error_context_table _ _ _ _ c.push.ensures.list c.push.ensures.refused c.self.invariant
