use Rattle.std.proofs.Common.{◌≡◌, ◌++◌, ◌∷◌, drop}
use Rattle.std.specs.Prelude.{cond}
use Rattle.fact_host.specs.Rules.{live_without}
use Rattle.fact_host.proofs.allocator.replaced.Given as goal

abbrev pub invariant-loop-region : goal.invariant-loop-region
invariant-loop-region l = l.all ++ cond l.is_replaced (drop l.region-index l.fn.regions) (live_without l.old (drop l.region-index l.fn.regions)) ≡ l.fn.new ∷ live_without l.old l.fn.regions
