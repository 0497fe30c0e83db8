use Rattle.fact_emit.specs.contracts.sections.ModuleSections.{the_view}
use Rattle.fact_emit.proofs.StateLaws.{type-there, typed-indexed, typed-once}
use Rattle.fact_emit.proofs.sections.ModuleSections.transcoder_type.Goals as goal

pub invariant_of-self : goal.invariant_of-self
invariant_of-self c = typed-indexed (the_view c.self.inside) _ _ _ _ c.self.invariant c.type_number.ensures.keeps

pub returns-clause-types : goal.returns-clause-types
returns-clause-types c = type-there c.type_number.result (the_view c.self.inside) c.args.self.now c.self.view_is _ _ c.type_number.ensures.place c.type_number.ensures.keeps c.type_number.ensures.list

pub returns-clause-once : goal.returns-clause-once
returns-clause-once c = typed-once (the_view c.self.inside) c.args.self.now c.self.view_is _ _ _ _ c.self.invariant c.type_number.ensures.keeps
