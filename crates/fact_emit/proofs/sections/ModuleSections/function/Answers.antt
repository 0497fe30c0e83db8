use Rattle.fact_emit.specs.contracts.sections.ModuleSections.{the_view}
use Rattle.fact_emit.proofs.StateLaws.{type-there, typed-indexed, typed-once}
use Rattle.fact_emit.proofs.sections.ModuleSections.function.Goals as goal

pub invariant_of-self : goal.invariant_of-self
invariant_of-self c = typed-indexed (the_view c.self.inside) _ _ _ _ c.self.invariant c.function.ensures.keeps

pub returns-clause-types : goal.returns-clause-types
returns-clause-types c = type-there c.function.result (the_view c.self.inside) c.args.self.now c.self.view_is _ _ c.function.ensures.place c.function.ensures.keeps c.function.ensures.list

pub returns-clause-once : goal.returns-clause-once
returns-clause-once c = typed-once (the_view c.self.inside) c.args.self.now c.self.view_is _ _ _ _ c.self.invariant c.function.ensures.keeps
