use Rattle.std.proofs.Common.{◌≡◌, ◌+◌, ◌*◌, ◌≤◌, length}
use Rattle.std.specs.Prelude.{true}
use Rattle.fact_types.specs.FlatShapes.{flat, flat_members, times}
use Rattle.fact_types.specs.Heights.{height}
use Rattle.fact_types.specs.Shapes.{Shape, Members}
use Rattle.fact_types.specs.Signatures.{width}
use Rattle.fact_types.specs.Tables.{HasShape}
use Rattle.fact_abi.specs.Leading.{can_lead, Lifted, LiftedEach}
use Rattle.fact_values.specs.Lift.{lift_leading}
use Rattle.fact_abi.specs.Nodes.{AreOf}
use Rattle.fact_abi.proofs.lifting.+lifting.Given as goal

abbrev pub decreases-lift_value : goal.decreases-lift_value
decreases-lift_value l = 4 * height l.types.now l.ty.now + 3

abbrev pub decreases-lift_node : goal.decreases-lift_node
decreases-lift_node l = 4 * height l.types.now l.ty.now + 2

abbrev pub decreases-lift_record : goal.decreases-lift_record
decreases-lift_record l = 4 * height l.types.now l.owner.now + 1

abbrev pub decreases-lift_tuple : goal.decreases-lift_tuple
decreases-lift_tuple l = 4 * height l.types.now l.owner.now + 1

abbrev pub decreases-lift_members : goal.decreases-lift_members
decreases-lift_members l = 4 * height l.types.now l.owner.now

abbrev pub invariant-lift_members-loop-member : goal.invariant-lift_members-loop-member
invariant-lift_members-loop-member l =
    (l.at ≤ length l.values) × ((ms : Members) → AreOf l.types l.members ms → can_lead (flat_members (width l.side.memory64) ms) l.values ≡ true → Lifted l.types l.side l.bytes l.values ms l.members l.member-index l.at l.lifted)

abbrev pub decreases-lift_variant : goal.decreases-lift_variant
decreases-lift_variant l = 4 * height l.types.now l.owner.now + 1

abbrev pub decreases-lift_case : goal.decreases-lift_case
decreases-lift_case l = 4 * height l.types.now l.owner.now

abbrev pub decreases-lift_fixed_list : goal.decreases-lift_fixed_list
decreases-lift_fixed_list l = 4 * height l.types.now l.owner.now

abbrev pub invariant-lift_fixed_list-loop : goal.invariant-lift_fixed_list-loop
invariant-lift_fixed_list-loop l =
    (l.at ≤ length l.values)
    × ((s : Shape) → HasShape l.types l.element s → can_lead (times l.count (flat (width l.side.memory64) s)) l.values ≡ true
    → LiftedEach (flat (width l.side.memory64) s) (λ us. lift_leading l.side l.bytes s us) l.count l.counter l.at l.values l.lifted)
