use Rattle.std.proofs.Common.{◌≡◌, ◌+◌, ◌-◌, ◌<◌, ◌^◌}
use Rattle.fact_binary.specs.Numbers.{count}
use Rattle.fact_binary.proofs.number.group_count.Given as goal

abbrev pub invariant-loop-rest : goal.invariant-loop-rest
invariant-loop-rest l = record { below : l.rest < 128 ^ 10; so_far : l.k + count l.rest ≡ count l.n + 1 }

abbrev pub decreases-loop-rest : goal.decreases-loop-rest
decreases-loop-rest l = l.rest + 1 - 128
