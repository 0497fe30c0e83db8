use Rattle.std.proofs.Common.{◌≡◌, ◌+◌, ◌-◌, ◌≤◌, vec_len}
use Rattle.std.specs.Io.KnownBytes.{Consumes}
use Rattle.fact_io.specs.declared.transfers.TheConstants.{INPUT_LIMIT}
use Rattle.fact_io.proofs.transfers.read_all.Given as goal

abbrev pub invariant-turns : goal.invariant-turns
invariant-turns g l = record {
  within : vec_len l.bytes ≤ INPUT_LIMIT + 1;
  taken : Consumes (g.S.Source.left l.fn.source) (g.S.Source.left l.source) l.bytes.items;
  no_fault : g.S.Source.faults l.source ≡ g.S.Source.faults l.fn.source;
}

-- each turn takes a byte
abbrev pub decreases-turns : goal.decreases-turns
decreases-turns g l = INPUT_LIMIT + 1 - vec_len l.bytes
