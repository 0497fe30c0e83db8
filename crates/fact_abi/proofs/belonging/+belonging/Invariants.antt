use Rattle.std.proofs.Common.{◌↔◌, ◌+◌, ◌*◌, ◌≤◌, drop}
use Rattle.std.specs.Prelude.{map}
use Rattle.std.specs.List.{AllByRecursion}
use Rattle.fact_types.specs.Heights.{height}
use Rattle.fact_types.specs.Shapes.{Shape, Members}
use Rattle.fact_types.specs.Tables.{HasShape}
use Rattle.fact_abi.specs.Finding.{Matching}
use Rattle.fact_values.specs.IsA.{IsA}
use Rattle.fact_abi.specs.Nodes.{AreOf}
use Rattle.fact_abi.proofs.belonging.+belonging.Given as goal

abbrev pub decreases-is_value_of : goal.decreases-is_value_of
decreases-is_value_of l = 5 * height l.types.now l.ty.now + 4

abbrev pub decreases-is_of_node : goal.decreases-is_of_node
decreases-is_of_node l = 5 * height l.types.now l.ty.now + 3

abbrev pub decreases-is_record : goal.decreases-is_record
decreases-is_record l = 5 * height l.types.now l.owner.now + 2

abbrev pub decreases-are_fields : goal.decreases-are_fields
decreases-are_fields l = 5 * height l.types.now l.owner.now + 1

abbrev pub invariant-are_fields-loop-place : goal.invariant-are_fields-loop-place
invariant-are_fields-loop-place l = (l.at ≤ l.place) × ((ms : Members) → AreOf l.types l.node.types ms → Matching l.types ms l.node.types l.place l.at (map (λ f. f.1) l.fields))

abbrev pub decreases-values_taken : goal.decreases-values_taken
decreases-values_taken l = 5 * height l.types.now l.owner.now

abbrev pub decreases-is_tuple : goal.decreases-is_tuple
decreases-is_tuple l = 5 * height l.types.now l.owner.now + 2

abbrev pub decreases-are_members : goal.decreases-are_members
decreases-are_members l = 5 * height l.types.now l.owner.now + 1

abbrev pub invariant-are_members-loop-place : goal.invariant-are_members-loop-place
invariant-are_members-loop-place l = (l.at ≤ l.place) × ((ms : Members) → AreOf l.types l.node.types ms → Matching l.types ms l.node.types l.place l.at l.values)

abbrev pub decreases-is_case : goal.decreases-is_case
decreases-is_case l = 5 * height l.types.now l.owner.now + 1

abbrev pub decreases-is_list : goal.decreases-is_list
decreases-is_list l = 5 * height l.types.now l.owner.now + 2

abbrev pub decreases-is_fixed_list : goal.decreases-is_fixed_list
decreases-is_fixed_list l = 5 * height l.types.now l.owner.now + 2

abbrev pub decreases-are_elements : goal.decreases-are_elements
decreases-are_elements l = 5 * height l.types.now l.owner.now + 1

abbrev pub invariant-are_elements-loop-value : goal.invariant-are_elements-loop-value
invariant-are_elements-loop-value l = (s : Shape) → HasShape l.types l.element s → (AllByRecursion (λ v. IsA s v) l.values ↔ AllByRecursion (λ v. IsA s v) (drop l.value-index l.values))

abbrev pub decreases-is_map : goal.decreases-is_map
decreases-is_map l = 5 * height l.types.now l.owner.now + 2

abbrev pub decreases-are_entries : goal.decreases-are_entries
decreases-are_entries l = 5 * height l.types.now l.owner.now + 1

abbrev pub invariant-are_entries-loop-entry : goal.invariant-are_entries-loop-entry
invariant-are_entries-loop-entry l =
    (s u : Shape) → HasShape l.types l.key s → HasShape l.types l.item u
    → (AllByRecursion (λ e. IsA s e.0 × IsA u e.1) l.entries ↔ AllByRecursion (λ e. IsA s e.0 × IsA u e.1) (drop l.entry-index l.entries))
