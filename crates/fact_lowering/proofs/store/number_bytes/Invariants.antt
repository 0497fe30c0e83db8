use Rattle.std.proofs.Common.{◌≡◌, ◌++◌, ◌-◌}
use Rattle.fact_machine.specs.World.{bytes_of}
use Rattle.fact_lowering.proofs.store.number_bytes.Given as goal

abbrev pub invariant-loop : goal.invariant-loop
invariant-loop l = l.bytes.items ++ bytes_of (l.size - l.counter) l.rest ≡ bytes_of l.size l.number
