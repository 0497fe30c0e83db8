use Rattle.fact_emit.specs.contracts.sections.ModuleSections.{the_view}
use Rattle.fact_emit.proofs.StateLaws.{defined-indexed}
use Rattle.fact_emit.proofs.sections.ModuleSections.define.Goals as goal

pub invariant_of-self-2 : goal.invariant_of-self-2
invariant_of-self-2 c = defined-indexed (the_view c.self.inside) _ _ _ c.self.invariant c.args.self.now c.self.view_is _ _ c.in_ok-push.ensures.ok (c.may_define.ensures c.if-not-may_define.false)
