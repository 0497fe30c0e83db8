use Rattle.fact_steps.proofs.SameNumbers.{other_types, same_numbers}
use Rattle.fact_steps.proofs.passing.are_same_numbers.Goals as goal

pub returns-then-eq : goal.returns-then-eq
returns-then-eq c = same_numbers _ _ _ _ c.eq.ensures c.if-eq.true c.are_numbers.ensures

pub returns-else-eq : goal.returns-else-eq
returns-else-eq c = other_types _ _ _ c.eq.ensures c.if-eq.false
