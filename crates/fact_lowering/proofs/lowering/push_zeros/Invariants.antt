use Rattle.std.proofs.Common.{◌≡◌, ◌++◌, drop}
use Rattle.fact_lowering.specs.CoreSteps.{zeros_of}
use Rattle.fact_lowering.proofs.lowering.push_zeros.Given as goal

abbrev pub invariant-loop-slot : goal.invariant-loop-slot
invariant-loop-slot l = l.out ++ zeros_of (drop l.slot-index l.slots) ≡ l.fn.out ++ zeros_of l.slots
