use Rattle.std.proofs.Common.{◌≡◌, ℕ, ◌+◌, ◌*◌, ◌≤◌, max, List, length, map}
use Rattle.fact_types.specs.Heights.{height}
use Rattle.fact_types.specs.Shapes.{Shape, Members}
use Rattle.fact_types.specs.Tables.{HasShape}
use Rattle.fact_abi.specs.Nodes.{AreOf}
use Rattle.fact_values.specs.IsA.{AreMembers}
use Rattle.fact_lowering.specs.Lowered.{own_room, own_rooms}
use Rattle.fact_lowering.specs.Storings.{AreEntryMembers, height_over}
use Rattle.fact_lowering.proofs.StoreWalks.{Storing, Itemwise, element_reads, element_forms, entry_reads, entry_forms, entry_room}
use Rattle.fact_lowering.proofs.storing.+storing.Given as goal

abbrev pub decreases-store_value : goal.decreases-store_value
decreases-store_value l = 8 * height l.to.now.types.now l.ty.now + 7

abbrev pub decreases-store_node : goal.decreases-store_node
decreases-store_node l = 8 * height l.to.now.types.now l.ty.now + 6

abbrev pub decreases-store_record : goal.decreases-store_record
decreases-store_record l = 8 * height_over l.to.now.types.now l.members.now + 1

abbrev pub decreases-store_fields : goal.decreases-store_fields
decreases-store_fields l = 8 * height_over l.to.now.types.now l.members.now

abbrev pub decreases-store_tuple : goal.decreases-store_tuple
decreases-store_tuple l = 8 * height_over l.to.now.types.now l.members.now + 1

abbrev pub decreases-store_members : goal.decreases-store_members
decreases-store_members l = 8 * height_over l.to.now.types.now l.members.now

abbrev pub decreases-store_fixed : goal.decreases-store_fixed
decreases-store_fixed l = 8 * height l.to.now.types.now l.element.now + 10

abbrev pub decreases-store_elements : goal.decreases-store_elements
decreases-store_elements l = 8 * height l.to.now.types.now l.element.now + 9

abbrev pub decreases-store_case : goal.decreases-store_case
decreases-store_case l = 8 * height_over l.to.now.types.now l.node.now.types

abbrev pub decreases-store_pair : goal.decreases-store_pair
decreases-store_pair l = 8 * height l.to.now.types.now l.ty.now + 5

abbrev pub decreases-store_behind : goal.decreases-store_behind
decreases-store_behind l = 8 * height l.to.now.types.now l.ty.now + 4

abbrev pub decreases-store_list : goal.decreases-store_list
decreases-store_list l = 8 * height l.to.now.types.now l.element.now + 11

abbrev pub decreases-store_map : goal.decreases-store_map
decreases-store_map l = 8 * max (height l.to.now.types.now l.key.now) (height l.to.now.types.now l.item.now) + 11

abbrev pub decreases-store_entries : goal.decreases-store_entries
decreases-store_entries l = 8 * max (height l.to.now.types.now l.key.now) (height l.to.now.types.now l.item.now) + 10

abbrev pub decreases-store_entry : goal.decreases-store_entry
decreases-store_entry l = 8 * max (height l.to.now.types.now l.key.now) (height l.to.now.types.now l.item.now) + 9

abbrev pub invariant-store_members-loop-member : goal.invariant-store_members-loop-member
invariant-store_members-loop-member l =
    (l.taken ≤ l.member-index)
    × ((ms : Members) → AreOf l.to.types.now l.members ms → AreMembers ms l.values
    → Storing l.to.types.now l.to.side ms l.members l.values l.member-index l.offset l.taken l.address l.fn.store.cursor l.store.cursor l.fn.store.bytes.items l.store.bytes.items)

abbrev pub invariant-store_fields-loop-member : goal.invariant-store_fields-loop-member
invariant-store_fields-loop-member l =
    (l.taken ≤ l.member-index)
    × ((ms : Members) → AreOf l.to.types.now l.members ms → AreMembers ms (map (λ f. f.1) l.fields)
    → Storing l.to.types.now l.to.side ms l.members (map (λ f. f.1) l.fields) l.member-index l.offset l.taken l.address l.fn.store.cursor l.store.cursor l.fn.store.bytes.items l.store.bytes.items)

abbrev pub invariant-store_elements-loop-value : goal.invariant-store_elements-loop-value
invariant-store_elements-loop-value l =
    (s : Shape) → HasShape l.to.types.now l.element s
    → Itemwise (element_reads l.to.side s) (element_forms l.to.side s) (own_room l.to.side s) l.size l.values l.address l.fn.store.cursor l.fn.store.bytes.items l.value-index l.at l.store.cursor l.store.bytes.items

abbrev pub invariant-store_entries-loop-entry : goal.invariant-store_entries-loop-entry
invariant-store_entries-loop-entry l =
    (ms : Members) → AreEntryMembers l.to.types.now l.key l.item ms
    → Itemwise (entry_reads l.to.side ms) (entry_forms l.to.side ms) (entry_room l.to.side ms) l.size l.entries l.address l.fn.store.cursor l.fn.store.bytes.items l.entry-index l.at l.store.cursor l.store.bytes.items
