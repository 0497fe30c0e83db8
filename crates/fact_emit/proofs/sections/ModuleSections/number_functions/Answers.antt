use Rattle.std.proofs.Common.{◌≡◌, ◌+◌, ap, arith}
use Rattle.fact_emit.specs.States.{next_number}
use Rattle.fact_emit.specs.contracts.sections.ModuleSections.{the_view}
use Rattle.fact_emit.proofs.HelperLaws.{numbered-indexed, numbered-once}
use Rattle.fact_emit.proofs.sections.ModuleSections.number_functions.Goals as goal

pub invariant_of-self : goal.invariant_of-self
invariant_of-self c =
    let same : next_number (the_view c.self.inside) ≡ next_number c.args.self.now = ap next_number c.self.view_is in
    numbered-indexed (the_view c.self.inside) c.args.self.now c.self.view_is (c.next_number-number.result + c.args.count) _ _ _ c.self.invariant (omega (arith, same, c.next_number-number.ensures))
    (omega (arith, same, c.next_number-number.ensures, c.len.ensures.count, c.if-count-len.false, c.self.invariant.numbered))

pub returns-clause-once : goal.returns-clause-once
returns-clause-once c = numbered-once (the_view c.self.inside) c.args.self.now c.self.view_is (c.next_number-number.result + c.args.count)
