use Rattle.std.proofs.Common.{◌≡◌, length, reverse}
use Rattle.fact_machine.specs.Typing.{pop_all}
use Rattle.fact_check.specs.Operands.{operands_of}
use Rattle.fact_check.proofs.operands.Operands.pop_all.Given as goal

abbrev pub invariant-loop-left : goal.invariant-loop-left
invariant-loop-left l = pop_all (reverse l.types) (operands_of l.initial.self) ≡ pop_all (reverse l.left) (operands_of l.self)

abbrev pub decreases-loop-left : goal.decreases-loop-left
decreases-loop-left l = length l.left
