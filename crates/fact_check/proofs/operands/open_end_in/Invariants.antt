use Rattle.std.proofs.Common.{◌≡◌, ◌≤◌, length, reverse}
use Rattle.std.specs.Prelude.{is_some}
use Rattle.fact_machine.specs.Typing.{Open, pop_all}
use Rattle.fact_check.proofs.operands.open_end_in.Given as goal

abbrev pub invariant-loop-left : goal.invariant-loop-left
invariant-loop-left l = record {
  same : is_some (pop_all (reverse l.types) (Open (reverse l.known))) ≡ is_some (pop_all (reverse l.left) (Open (reverse l.below)));
  fewer : length l.below ≤ length l.known;
}

abbrev pub decreases-loop-left : goal.decreases-loop-left
decreases-loop-left l = length l.left
