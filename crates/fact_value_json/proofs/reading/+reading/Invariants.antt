use Rattle.std.proofs.Common.{◌≡◌, ◌+◌, ◌*◌, length}
use Rattle.serde_json.specs.View.{view}
use Rattle.fact_types.specs.Agrees.{names_of}
use Rattle.fact_types.specs.Heights.{height}
use Rattle.fact_types.specs.Shapes.{Shape, Members}
use Rattle.fact_types.specs.Tables.{HasShape}
use Rattle.fact_values.specs.Places.{typed_names}
use Rattle.fact_value_json.specs.Reading.{read, read_places, entry_in}
use Rattle.fact_value_json.specs.Walks.{AreAllOf}
use Rattle.fact_value_json.proofs.StepLaws.{ItemsRead}
use Rattle.fact_value_json.proofs.WalkLaws.{FieldsRead, PlacesRead}
use Rattle.fact_value_json.proofs.reading.+reading.Given as goal

abbrev pub decreases-read_value : goal.decreases-read_value
decreases-read_value l = 8 * height l.types.now l.ty.now + 6

abbrev pub decreases-read_item : goal.decreases-read_item
decreases-read_item l = 8 * height l.types.now l.ty.now + 7

abbrev pub decreases-read_node : goal.decreases-read_node
decreases-read_node l = 8 * height l.types.now l.ty.now + 5

abbrev pub decreases-read_record : goal.decreases-read_record
decreases-read_record l = 8 * height l.types.now l.owner.now + 4

abbrev pub decreases-read_fields : goal.decreases-read_fields
decreases-read_fields l = 8 * height l.types.now l.owner.now + 3

abbrev pub decreases-read_field : goal.decreases-read_field
decreases-read_field l = 8 * height l.types.now l.owner.now + 2

abbrev pub decreases-read_member : goal.decreases-read_member
decreases-read_member l = 8 * height l.types.now l.owner.now + 1

abbrev pub decreases-read_tuple : goal.decreases-read_tuple
decreases-read_tuple l = 8 * height l.types.now l.owner.now + 4

abbrev pub decreases-read_places : goal.decreases-read_places
decreases-read_places l = 8 * height l.types.now l.owner.now + 2

abbrev pub decreases-read_map : goal.decreases-read_map
decreases-read_map l = 8 * height l.types.now l.owner.now + 4

abbrev pub decreases-read_entry : goal.decreases-read_entry
decreases-read_entry l = 8 * height l.types.now l.owner.now + 3

abbrev pub decreases-read_case : goal.decreases-read_case
decreases-read_case l = 8 * height l.types.now l.owner.now + 4

abbrev pub decreases-read_choice : goal.decreases-read_choice
decreases-read_choice l = 8 * height l.types.now l.owner.now + 3

abbrev pub decreases-read_payload : goal.decreases-read_payload
decreases-read_payload l = 8 * height l.types.now l.owner.now + 2

abbrev pub decreases-read_list : goal.decreases-read_list
decreases-read_list l = 8 * height l.types.now l.owner.now + 4

abbrev pub decreases-read_fixed_list : goal.decreases-read_fixed_list
decreases-read_fixed_list l = 8 * height l.types.now l.owner.now + 4

abbrev pub decreases-read_items : goal.decreases-read_items
decreases-read_items l = 8 * height l.types.now l.owner.now + 3

abbrev pub invariant-read_fields-loop-place : goal.invariant-read_fields-loop-place
invariant-read_fields-loop-place l = (ms : Members) → AreAllOf l.types l.node ms → l.node.names ≡ names_of ms → FieldsRead l.types l.node ms (view l.json) l.place l.values

abbrev pub invariant-read_places-loop-place : goal.invariant-read_places-loop-place
invariant-read_places-loop-place l = (ms : Members) → AreAllOf l.types l.node ms → PlacesRead l.types l.node.types ms l.list l.place l.values

abbrev pub invariant-read_items-loop-place : goal.invariant-read_items-loop-place
invariant-read_items-loop-place l = (s : Shape) → HasShape l.types l.element s → ItemsRead (λ d. read s d) l.list l.place l.values

abbrev pub invariant-read_map-loop-place : goal.invariant-read_map-loop-place
invariant-read_map-loop-place l = (ms : Members) → AreAllOf l.types l.node ms → ItemsRead (entry_in (length (typed_names ms)) (λ i ds. read_places ms i ds)) l.list l.place l.entries
