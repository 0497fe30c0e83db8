use Rattle.std.proofs.Common.{◌≡◌, ◌≤◌, ◌<◌, ◌^◌, ◌++◌}
use Rattle.fact_binary.specs.Numbers.{groups}
use Rattle.fact_binary.proofs.number.push_groups.Given as goal

abbrev pub invariant-loop-left : goal.invariant-loop-left
invariant-loop-left l = record { low : 1 ≤ l.left; fits : l.rest < 128 ^ l.left; bytes : l.out.items ++ groups l.left l.rest ≡ l.fn.out.items ++ groups l.k l.n }

abbrev pub decreases-loop-left : goal.decreases-loop-left
decreases-loop-left l = l.left
