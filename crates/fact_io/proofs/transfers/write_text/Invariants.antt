use Rattle.std.proofs.Common.{◌≡◌, ◌-◌, ◌≤◌, length, take}
use Rattle.std.specs.Io.KnownBytes.{Appends}
use Rattle.fact_io.proofs.transfers.write_text.Given as goal

abbrev pub invariant-pieces : goal.invariant-pieces
invariant-pieces g l = record {
  within : l.at ≤ length l.text;
  appended : Appends (g.K.Sink.written l.fn.out) (g.K.Sink.written l.out) (take l.at l.text);
  no_fault : g.K.Sink.faults l.out ≡ g.K.Sink.faults l.fn.out;
}

-- each write takes a byte
abbrev pub decreases-pieces : goal.decreases-pieces
decreases-pieces g l = length l.text - l.at
