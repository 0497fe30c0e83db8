use Rattle.fact_emit.specs.contracts.sections.ModuleSections.{the_view}
use Rattle.fact_emit.proofs.StateLaws.{exported-indexed}
use Rattle.fact_emit.proofs.sections.ModuleSections.export.Goals as goal

pub invariant_of-self-2 : goal.invariant_of-self-2
invariant_of-self-2 c = exported-indexed (the_view c.self.inside) _ _ _ c.self.invariant _
