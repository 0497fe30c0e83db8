use Rattle.std.proofs.Common.{◌≡◌, ◌++◌, drop}
use Rattle.fact_actions.specs.Transcoders.{widened}
use Rattle.fact_host.proofs.transcoders.widened.Given as goal

abbrev pub invariant-loop-byte : goal.invariant-loop-byte
invariant-loop-byte l = l.all.items ++ widened (drop l.byte-index l.bytes) ≡ widened l.bytes
