use Rattle.std.proofs.Common.{◌≤◌}
use Rattle.fact_types.specs.Shapes.{Members}
use Rattle.fact_abi.specs.Nodes.{AreOf}
use Rattle.fact_abi.specs.Loading.{Aligning}
use Rattle.fact_lowering.proofs.places.Lowering.payload_place.Given as goal

abbrev pub invariant-loop-case : goal.invariant-loop-case
invariant-loop-case l = (1 ≤ l.greatest) × ((ms : Members) → AreOf l.self.types.now l.cases ms → Aligning l.self.types.now l.self.side ms l.cases l.case-index l.greatest)
