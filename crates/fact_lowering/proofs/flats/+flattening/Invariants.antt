use Rattle.std.proofs.Common.{◌+◌, ◌*◌, ◌≤◌, length}
use Rattle.fact_types.specs.Heights.{height}
use Rattle.fact_types.specs.Shapes.{Members}
use Rattle.fact_types.specs.Signatures.{width}
use Rattle.fact_abi.specs.Nodes.{AreOf}
use Rattle.fact_lowering.proofs.FlatLaws.{Flattened, Widened}
use Rattle.fact_lowering.proofs.flats.+flattening.Given as goal

abbrev pub decreases-flat_types : goal.decreases-flat_types
decreases-flat_types l = 4 * height l.types.now l.ty.now + 3

abbrev pub decreases-flat_of_node : goal.decreases-flat_of_node
decreases-flat_of_node l = 4 * height l.types.now l.ty.now + 2

abbrev pub decreases-flat_members : goal.decreases-flat_members
decreases-flat_members l = 4 * height l.types.now l.owner.now + 1

abbrev pub invariant-flat_members-loop-member : goal.invariant-flat_members-loop-member
invariant-flat_members-loop-member l = (length l.all.items ≤ 16) × ((ms : Members) → AreOf l.types l.members ms → Flattened l.types (width l.memory64) ms l.members l.member-index l.all.items)

abbrev pub decreases-flat_member : goal.decreases-flat_member
decreases-flat_member l = 4 * height l.types.now l.owner.now

abbrev pub decreases-flat_elements : goal.decreases-flat_elements
decreases-flat_elements l = 4 * height l.types.now l.owner.now + 1

abbrev pub decreases-flat_cases : goal.decreases-flat_cases
decreases-flat_cases l = 4 * height l.types.now l.owner.now + 1

abbrev pub invariant-flat_cases-loop-case : goal.invariant-flat_cases-loop-case
invariant-flat_cases-loop-case l = (ms : Members) → AreOf l.types l.cases ms → Widened l.types (width l.memory64) ms l.cases l.case-index l.any
