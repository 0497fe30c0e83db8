use Rattle.std.proofs.Common.{◌≡◌, ◌+◌, ◌*◌, ◌≤◌, ◌∷◌, [], Option, Some}
use Rattle.fact_types.specs.declared.interface.InterfaceType.{InterfaceType}
use Rattle.fact_types.specs.Agrees.{names_of}
use Rattle.fact_types.specs.Heights.{height}
use Rattle.fact_types.specs.Shapes.{Shape, Members}
use Rattle.fact_values.specs.Places.{typed_names}
use Rattle.fact_values.specs.Weight.{weight_element, weight_members}
use Rattle.fact_abi.specs.Finding.{IsTypeOf}
use Rattle.fact_abi.specs.Nodes.{AreOf}
use Rattle.fact_lowering.specs.Room.{measured_element, measured_places}
use Rattle.fact_lowering.proofs.RoomLaws.{FieldsLeft, PlacesLeft, SumsLeft, WeightsLeft}
use Rattle.fact_lowering.proofs.room.+measuring.Given as goal

abbrev pub decreases-asked_by : goal.decreases-asked_by
decreases-asked_by l = 8 * height l.types.now l.from.now + 7

abbrev pub decreases-asked_by_kind : goal.decreases-asked_by_kind
decreases-asked_by_kind l = 8 * height l.types.now l.from.now + 6

abbrev pub decreases-asked_of_kind : goal.decreases-asked_of_kind
decreases-asked_of_kind l = 8 * height l.types.now l.from.now + 5

abbrev pub decreases-asked_by_node : goal.decreases-asked_by_node
decreases-asked_by_node l = 8 * height l.types.now l.from.now + 4

abbrev pub decreases-asked_at : goal.decreases-asked_at
decreases-asked_at l = 8 * height l.types.now l.owner.now

abbrev pub decreases-asked_by_tuple : goal.decreases-asked_by_tuple
decreases-asked_by_tuple l = 8 * height l.types.now l.from.now + 3

abbrev pub decreases-asked_by_members : goal.decreases-asked_by_members
decreases-asked_by_members l = 8 * height l.types.now l.from.now + 2

abbrev pub invariant-asked_by_members-loop-place : goal.invariant-asked_by_members-loop-place
invariant-asked_by_members-loop-place l =
    (l.at ≤ l.place) × ((ms ns : Members) → AreOf l.types l.source.types ms → AreOf l.types l.target.types ns → PlacesLeft l.types ms ns l.source.types l.target.types l.place l.at l.values l.all)

abbrev pub decreases-asked_by_record : goal.decreases-asked_by_record
decreases-asked_by_record l = 8 * height l.types.now l.from.now + 3

abbrev pub decreases-asked_by_fields : goal.decreases-asked_by_fields
decreases-asked_by_fields l = 8 * height l.types.now l.from.now + 2

abbrev pub invariant-asked_by_fields-loop-place : goal.invariant-asked_by_fields-loop-place
invariant-asked_by_fields-loop-place l =
    (l.at ≤ l.place) × ((ms ns : Members) → l.source.names ≡ typed_names ms → AreOf l.types l.source.types ms → l.target.names ≡ names_of ns → AreOf l.types l.target.types ns
    → FieldsLeft l.types ms ns l.source.types l.source.names l.place l.at l.fields l.all)

abbrev pub decreases-asked_by_fixed_list : goal.decreases-asked_by_fixed_list
decreases-asked_by_fixed_list l = 8 * height l.types.now l.from.now + 3

abbrev pub decreases-asked_by_elements : goal.decreases-asked_by_elements
decreases-asked_by_elements l = 8 * height l.types.now l.from.now + 2

abbrev pub invariant-asked_by_elements-loop-place : goal.invariant-asked_by_elements-loop-place
invariant-asked_by_elements-loop-place l =
    (ms ns : Members) → AreOf l.types l.source.types ms → AreOf l.types l.target.types ns → SumsLeft (λ m w. measured_element m ms w ns) (λ w. weight_element ms w) l.values l.place l.all

abbrev pub decreases-asked_by_list : goal.decreases-asked_by_list
decreases-asked_by_list l = 8 * height l.types.now l.from.now + 3

abbrev pub decreases-asked_by_map : goal.decreases-asked_by_map
decreases-asked_by_map l = 8 * height l.types.now l.from.now + 3

abbrev pub decreases-asked_by_entries : goal.decreases-asked_by_entries
decreases-asked_by_entries l = 8 * height l.types.now l.from.now + 2

abbrev pub invariant-asked_by_entries-loop-entry : goal.invariant-asked_by_entries-loop-entry
invariant-asked_by_entries-loop-entry l =
    (x y : InterfaceType) (ms ns : Members) → l.source.types ≡ Some x ∷ Some y ∷ [] → AreOf l.types l.source.types ms → AreOf l.types l.target.types ns
    → SumsLeft (λ m e. measured_places m ms (e.0 ∷ e.1 ∷ []) ns) (λ e. weight_members ms (e.0 ∷ e.1 ∷ [])) l.entries l.entry-index l.all

abbrev pub decreases-asked_by_entry : goal.decreases-asked_by_entry
decreases-asked_by_entry l = 8 * height l.types.now l.from.now + 1

abbrev pub decreases-asked_by_case : goal.decreases-asked_by_case
decreases-asked_by_case l = 8 * height l.types.now l.from.now + 3

abbrev pub decreases-asked_by_payload : goal.decreases-asked_by_payload
decreases-asked_by_payload l = 8 * height l.types.now l.owner.now + 2

abbrev pub decreases-weights_of : goal.decreases-weights_of
decreases-weights_of l = 8 * height l.types.now l.owner.now + 1

abbrev pub invariant-weights_of-loop-place : goal.invariant-weights_of-loop-place
invariant-weights_of-loop-place l =
    (x p : Option Shape) → IsTypeOf l.types l.from x → IsTypeOf l.types l.to p → WeightsLeft x l.values l.place l.all
