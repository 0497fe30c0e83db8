use Rattle.std.proofs.Common.{◌≡◌, ◌++◌, ◌-◌}
use Rattle.std.specs.Prelude.{replicate}
use Rattle.fact_lowering.proofs.flats.repeated.Given as goal

abbrev pub invariant-loop : goal.invariant-loop
invariant-loop l = l.flats ++ replicate (l.count - l.counter) l.flat ≡ replicate l.count l.flat
