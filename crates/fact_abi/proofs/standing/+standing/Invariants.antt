use Rattle.std.proofs.Common.{◌+◌, ◌*◌, ◌≤◌, length}
use Rattle.fact_types.specs.FlatShapes.{flat}
use Rattle.fact_types.specs.Heights.{height}
use Rattle.fact_types.specs.Shapes.{Shape, Members}
use Rattle.fact_types.specs.Signatures.{width}
use Rattle.fact_types.specs.Tables.{HasShape}
use Rattle.fact_abi.specs.Leading.{Adding, IsWidening, Counting}
use Rattle.fact_abi.specs.Nodes.{AreOf}
use Rattle.fact_abi.proofs.standing.+standing.Given as goal

abbrev pub decreases-leading_values : goal.decreases-leading_values
decreases-leading_values l = 4 * height l.types.now l.ty.now + 3

abbrev pub decreases-leading_of_node : goal.decreases-leading_of_node
decreases-leading_of_node l = 4 * height l.types.now l.ty.now + 2

abbrev pub decreases-leading_members : goal.decreases-leading_members
decreases-leading_members l = 4 * height l.types.now l.owner.now

abbrev pub invariant-leading_members-loop-member : goal.invariant-leading_members-loop-member
invariant-leading_members-loop-member l =
    (l.total ≤ length l.values) × ((ms : Members) → AreOf l.types l.members ms → Adding l.types (width l.side.memory64) l.values ms l.members l.member-index l.total)

abbrev pub decreases-leading_case : goal.decreases-leading_case
decreases-leading_case l = 4 * height l.types.now l.owner.now + 1

abbrev pub decreases-leading_payloads : goal.decreases-leading_payloads
decreases-leading_payloads l = 4 * height l.types.now l.owner.now

abbrev pub invariant-leading_payloads-loop-case : goal.invariant-leading_payloads-loop-case
invariant-leading_payloads-loop-case l =
    (l.most ≤ length l.values) × ((ms : Members) → AreOf l.types l.cases ms → IsWidening l.types (width l.side.memory64) l.values ms l.cases l.case-index l.most)

abbrev pub decreases-leading_elements : goal.decreases-leading_elements
decreases-leading_elements l = 4 * height l.types.now l.owner.now

abbrev pub invariant-leading_elements-loop : goal.invariant-leading_elements-loop
invariant-leading_elements-loop l =
    (l.total ≤ length l.values) × ((s : Shape) → HasShape l.types l.element s → Counting (flat (width l.side.memory64) s) l.count l.counter l.total l.values)
