use Rattle.fact_emit.proofs.StateLaws.{counted}
use Rattle.fact_emit.specs.contracts.sections.ModuleSections.{the_view}
use Rattle.fact_emit.specs.ImportSection.{a_function}
use Rattle.fact_emit.proofs.sections.ModuleSections.function_count.Goals as goal

pub returns : goal.returns
returns c = counted (the_view c.self.inside) c.args.self.now c.self.view_is _ _ _ c.self.invariant a_function _ c.len.ensures.count
