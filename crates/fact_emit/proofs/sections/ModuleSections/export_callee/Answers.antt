use Rattle.fact_emit.specs.contracts.sections.ModuleSections.{the_view}
use Rattle.fact_emit.proofs.StateLaws.{callees-indexed}
use Rattle.fact_emit.proofs.sections.ModuleSections.export_callee.Goals as goal

pub invariant_of-self-2 : goal.invariant_of-self-2
invariant_of-self-2 c = callees-indexed (the_view c.self.inside) _ _ _ c.self.invariant _
