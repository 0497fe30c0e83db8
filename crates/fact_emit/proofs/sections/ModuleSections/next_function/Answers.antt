use Rattle.std.proofs.Common.{arith}
use Rattle.fact_emit.specs.contracts.sections.ModuleSections.{the_view}
use Rattle.fact_emit.proofs.StateLaws.{functions-counted}
use Rattle.fact_emit.proofs.sections.ModuleSections.next_function.Goals as goal

-- each function has a number
pub overflow_cast-result : goal.overflow_cast-result
overflow_cast-result c = omega (arith, c.len.ensures.count, c.self.invariant.numbered)

pub returns : goal.returns
returns c = functions-counted (the_view c.self.inside) c.args.self.now c.self.view_is _ _ _ c.self.invariant _ c.len.ensures.count
