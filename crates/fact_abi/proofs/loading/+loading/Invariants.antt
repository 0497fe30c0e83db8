use Rattle.std.proofs.Common.{◌≡◌, ◌+◌, ◌*◌}
use Rattle.fact_types.specs.Heights.{height}
use Rattle.fact_types.specs.Shapes.{Shape, Members}
use Rattle.fact_types.specs.Options.{◌>>=◌}
use Rattle.fact_types.specs.Tables.{HasShape}
use Rattle.fact_values.specs.Load.{load, load_members, entry_of}
use Rattle.fact_abi.specs.Loading.{Loading, Repeating}
use Rattle.fact_abi.specs.Nodes.{AreOf}
use Rattle.fact_abi.proofs.loading.+loading.Given as goal

abbrev pub decreases-load_value : goal.decreases-load_value
decreases-load_value l = 6 * height l.types.now l.ty.now + 5

abbrev pub decreases-load_node : goal.decreases-load_node
decreases-load_node l = 6 * height l.types.now l.ty.now + 4

abbrev pub decreases-load_record : goal.decreases-load_record
decreases-load_record l = 6 * height l.types.now l.owner.now + 1

abbrev pub decreases-load_tuple : goal.decreases-load_tuple
decreases-load_tuple l = 6 * height l.types.now l.owner.now + 1

abbrev pub decreases-load_members : goal.decreases-load_members
decreases-load_members l = 6 * height l.types.now l.owner.now

abbrev pub invariant-load_members-loop-member : goal.invariant-load_members-loop-member
invariant-load_members-loop-member l = (ms : Members) → AreOf l.types l.members ms → Loading l.types l.side l.bytes ms l.members l.member-index l.offset l.address l.values

abbrev pub decreases-load_variant : goal.decreases-load_variant
decreases-load_variant l = 6 * height l.types.now l.owner.now + 1

abbrev pub decreases-load_case : goal.decreases-load_case
decreases-load_case l = 6 * height l.types.now l.owner.now

abbrev pub decreases-load_list : goal.decreases-load_list
decreases-load_list l = 6 * height l.types.now l.owner.now + 2

abbrev pub decreases-list_behind : goal.decreases-list_behind
decreases-list_behind l = 6 * height l.types.now l.owner.now + 1

abbrev pub decreases-load_fixed_list : goal.decreases-load_fixed_list
decreases-load_fixed_list l = 6 * height l.types.now l.owner.now + 1

abbrev pub decreases-load_elements : goal.decreases-load_elements
decreases-load_elements l = 6 * height l.types.now l.owner.now

abbrev pub invariant-load_elements-loop : goal.invariant-load_elements-loop
invariant-load_elements-loop l =
    (l.at ≡ l.address + l.counter * l.size)
    × ((s : Shape) → HasShape l.types l.element s → Repeating (λ b. load l.side l.bytes s b) l.count l.size l.counter l.at l.address l.values)

abbrev pub decreases-load_map : goal.decreases-load_map
decreases-load_map l = 6 * height l.types.now l.owner.now + 3

abbrev pub decreases-map_behind : goal.decreases-map_behind
decreases-map_behind l = 6 * height l.types.now l.owner.now + 2

abbrev pub decreases-load_entries : goal.decreases-load_entries
decreases-load_entries l = 6 * height l.types.now l.owner.now + 1

abbrev pub invariant-load_entries-loop : goal.invariant-load_entries-loop
invariant-load_entries-loop l =
    (l.at ≡ l.address + l.counter * l.size) × (l.members ≡ l.node.types)
    × ((ms : Members) → AreOf l.types l.node.types ms → Repeating (λ b. load_members l.side l.bytes ms b 0 >>= (λ vs. entry_of vs)) l.count l.size l.counter l.at l.address l.entries)
