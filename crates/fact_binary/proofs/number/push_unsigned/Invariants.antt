use Rattle.std.proofs.Common.{◌+◌, ◌-◌, ◌≡◌, ◌<◌, ◌^◌, ◌++◌}
use Rattle.fact_binary.specs.Numbers.{unsigned}
use Rattle.fact_binary.proofs.number.push_unsigned.Given as goal

abbrev pub invariant-loop-rest : goal.invariant-loop-rest
invariant-loop-rest l = record { below : l.rest < 2 ^ 64; bytes : l.out.items ++ unsigned l.rest ≡ l.fn.out.items ++ unsigned l.n }

abbrev pub decreases-loop-rest : goal.decreases-loop-rest
decreases-loop-rest l = l.rest + 1 - 128
