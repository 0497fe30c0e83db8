use Rattle.std.proofs.Common.{◌≡◌}
use Rattle.fact_types.specs.Agrees.{names_of}
use Rattle.fact_types.specs.Shapes.{Members}
use Rattle.fact_types.specs.Tables.{Tables}
use Rattle.fact_abi.specs.Finding.{Seeking}
use Rattle.fact_abi.specs.Nodes.{AreOf}
use Rattle.fact_abi.proofs.carrying.type_of_name.Given as goal

abbrev pub invariant-loop-place : goal.invariant-loop-place
invariant-loop-place l = (t : Tables) (ms : Members) → l.node.names ≡ names_of ms → AreOf t l.node.types ms → Seeking t ms l.node.names l.node.types l.place l.name
