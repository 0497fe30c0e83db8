-- The plan is that of the adapters so far.
use Rattle.std.proofs.Common.{◌≡◌}
use Rattle.fact_generate.specs.Generated.{generated}
use Rattle.fact_generate.proofs.plan.generate.Given as goal

abbrev pub invariant-loop-k : goal.invariant-loop-k
invariant-loop-k l = l.plan ≡ generated l.k
