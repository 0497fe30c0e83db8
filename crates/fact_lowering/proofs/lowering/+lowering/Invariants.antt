use Rattle.std.proofs.Common.{◌+◌, ◌*◌, ◌≤◌, map}
use Rattle.fact_types.specs.Heights.{height}
use Rattle.fact_types.specs.Shapes.{k_record, k_tuple, Shape, s_node, Members}
use Rattle.fact_types.specs.Tables.{HasShape}
use Rattle.fact_lowering.proofs.CoreMembers.{LowersMembers, LowersElements}
use Rattle.fact_lowering.proofs.lowering.+lowering.Given as goal

abbrev pub decreases-lower_value : goal.decreases-lower_value
decreases-lower_value l = 6 * height l.to.now.types.now l.ty.now + 5

abbrev pub decreases-lower_node : goal.decreases-lower_node
decreases-lower_node l = 6 * height l.to.now.types.now l.ty.now + 4

abbrev pub decreases-lower_fields : goal.decreases-lower_fields
decreases-lower_fields l = 6 * height l.to.now.types.now l.ty.now + 3

abbrev pub decreases-lower_members : goal.decreases-lower_members
decreases-lower_members l = 6 * height l.to.now.types.now l.ty.now + 3

abbrev pub decreases-lower_member : goal.decreases-lower_member
decreases-lower_member l = 6 * height l.to.now.types.now l.ty.now + 6

abbrev pub decreases-lower_elements : goal.decreases-lower_elements
decreases-lower_elements l = 6 * height l.to.now.types.now l.ty.now + 3

abbrev pub decreases-lower_case : goal.decreases-lower_case
decreases-lower_case l = 6 * height l.to.now.types.now l.ty.now + 3

abbrev pub decreases-lower_payload : goal.decreases-lower_payload
decreases-lower_payload l = 6 * height l.to.now.types.now l.owner.now + 1

abbrev pub invariant-lower_fields-loop-member : goal.invariant-lower_fields-loop-member
invariant-lower_fields-loop-member l =
    (l.taken ≤ l.member-index)
    × ((ms : Members) → HasShape l.to.types.now l.ty (s_node k_record ms)
    → LowersMembers l.to.types.now l.to.side ms l.members (map (λ f. f.1) l.fields) l.slots l.fn.store.cursor l.fn.store.bytes.items l.fn.out l.member-index l.taken l.at l.store.cursor l.store.bytes.items l.out)

abbrev pub invariant-lower_members-loop-member : goal.invariant-lower_members-loop-member
invariant-lower_members-loop-member l =
    (l.taken ≤ l.member-index)
    × ((ms : Members) → HasShape l.to.types.now l.ty (s_node k_tuple ms)
    → LowersMembers l.to.types.now l.to.side ms l.members l.values l.slots l.fn.store.cursor l.fn.store.bytes.items l.fn.out l.member-index l.taken l.at l.store.cursor l.store.bytes.items l.out)

abbrev pub invariant-lower_elements-loop-first : goal.invariant-lower_elements-loop-first
invariant-lower_elements-loop-first l =
    (s : Shape) → HasShape l.to.types.now l.element s
    → LowersElements l.to.side s l.items l.slots l.fn.store.cursor l.fn.store.bytes.items l.fn.out l.first-index l.at l.store.cursor l.store.bytes.items l.out
