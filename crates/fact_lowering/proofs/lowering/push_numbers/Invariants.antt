use Rattle.std.proofs.Common.{◌≡◌, ◌++◌, drop}
use Rattle.fact_lowering.specs.Lowerings.{cores_of}
use Rattle.fact_lowering.proofs.lowering.push_numbers.Given as goal

abbrev pub invariant-loop-place : goal.invariant-loop-place
invariant-loop-place l = l.out ++ cores_of (drop l.place l.slots) (drop l.place l.numbers) ≡ l.fn.out ++ cores_of l.slots l.numbers
