use Rattle.std.proofs.Common.{◌≡◌, length, reverse}
use Rattle.std.specs.Prelude.{is_some}
use Rattle.fact_machine.specs.Typing.{Known, pop_all}
use Rattle.fact_check.proofs.operands.known_end_in.Given as goal

abbrev pub invariant-loop-left : goal.invariant-loop-left
invariant-loop-left l = is_some (pop_all (reverse l.types) (Known (reverse l.known))) ≡ is_some (pop_all (reverse l.left) (Known (reverse l.below)))

abbrev pub decreases-loop-left : goal.decreases-loop-left
decreases-loop-left l = length l.left
