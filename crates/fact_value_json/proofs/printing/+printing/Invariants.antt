use Rattle.std.proofs.Common.{◌≡◌, ◌+◌, ◌*◌, [], ◌∷◌, map}
use Rattle.std.specs.List.{AllByRecursion}
use Rattle.serde_json.specs.View.{view, members_view}
use Rattle.fact_types.specs.Heights.{height}
use Rattle.fact_types.specs.Shapes.{Shape, Members}
use Rattle.fact_types.specs.Tables.{HasShape}
use Rattle.fact_values.specs.IsA.{IsA, AreMembers}
use Rattle.fact_values.specs.Places.{typed_names}
use Rattle.fact_value_json.specs.Printing.{data_of, data_places, entry_data}
use Rattle.fact_value_json.specs.Walks.{AreAllOf}
use Rattle.fact_value_json.proofs.PrintWalkLaws.{FieldsPrinted, ItemsPrinted, PlacesPrinted}
use Rattle.fact_value_json.proofs.printing.+printing.Given as goal

abbrev pub decreases-print_value : goal.decreases-print_value
decreases-print_value l = 6 * height l.types.now l.ty.now + 5

abbrev pub decreases-print_node : goal.decreases-print_node
decreases-print_node l = 6 * height l.types.now l.ty.now + 4

abbrev pub decreases-print_record : goal.decreases-print_record
decreases-print_record l = 6 * height l.types.now l.owner.now + 3

abbrev pub decreases-print_fields : goal.decreases-print_fields
decreases-print_fields l = 6 * height l.types.now l.owner.now + 2

abbrev pub decreases-print_tuple : goal.decreases-print_tuple
decreases-print_tuple l = 6 * height l.types.now l.owner.now + 3

abbrev pub decreases-print_places : goal.decreases-print_places
decreases-print_places l = 6 * height l.types.now l.owner.now + 2

abbrev pub decreases-print_list : goal.decreases-print_list
decreases-print_list l = 6 * height l.types.now l.owner.now + 3

abbrev pub decreases-print_items : goal.decreases-print_items
decreases-print_items l = 6 * height l.types.now l.owner.now + 2

abbrev pub decreases-print_map : goal.decreases-print_map
decreases-print_map l = 6 * height l.types.now l.owner.now + 3

abbrev pub decreases-print_entries : goal.decreases-print_entries
decreases-print_entries l = 6 * height l.types.now l.owner.now + 2

abbrev pub decreases-print_entry : goal.decreases-print_entry
decreases-print_entry l = 6 * height l.types.now l.owner.now + 1

abbrev pub decreases-print_case : goal.decreases-print_case
decreases-print_case l = 6 * height l.types.now l.owner.now + 3

abbrev pub decreases-print_payload : goal.decreases-print_payload
decreases-print_payload l = 6 * height l.types.now l.owner.now + 2

abbrev pub decreases-print_member : goal.decreases-print_member
decreases-print_member l = 6 * height l.types.now l.owner.now

abbrev pub invariant-print_fields-loop-place : goal.invariant-print_fields-loop-place
invariant-print_fields-loop-place l = (ms : Members) → AreAllOf l.types l.node ms → map (λ f. f.0) l.fields ≡ typed_names ms → AreMembers ms (map (λ f. f.1) l.fields) → FieldsPrinted l.types l.node.types ms l.fields l.place (members_view l.members.entries)

abbrev pub invariant-print_places-loop-place : goal.invariant-print_places-loop-place
invariant-print_places-loop-place l = (ms : Members) → AreAllOf l.types l.node ms → AreMembers ms l.values → PlacesPrinted l.types l.node.types ms l.values l.place (map view l.list.items)

abbrev pub invariant-print_items-loop-value : goal.invariant-print_items-loop-value
invariant-print_items-loop-value l = (s : Shape) → HasShape l.types l.element s → AllByRecursion (λ v. IsA s v) l.values → ItemsPrinted (λ v. IsA s v) (λ v. data_of s v) l.values l.value-index (map view l.list.items)

abbrev pub invariant-print_entries-loop-entry : goal.invariant-print_entries-loop-entry
invariant-print_entries-loop-entry l = (ms : Members) → AreAllOf l.types l.node ms → AllByRecursion (λ e. AreMembers ms (e.0 ∷ e.1 ∷ [])) l.entries → ItemsPrinted (λ e. AreMembers ms (e.0 ∷ e.1 ∷ [])) (entry_data (λ vs. data_places ms vs)) l.entries l.entry-index (map view l.list.items)
