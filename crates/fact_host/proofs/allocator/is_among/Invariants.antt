use Rattle.std.proofs.Common.{◌≡◌, drop}
use Rattle.fact_host.specs.Rules.{is_live}
use Rattle.fact_host.proofs.allocator.is_among.Given as goal

abbrev pub invariant-loop-other : goal.invariant-loop-other
invariant-loop-other l = is_live l.region (drop l.other-index l.fn.regions) ≡ is_live l.region l.fn.regions
