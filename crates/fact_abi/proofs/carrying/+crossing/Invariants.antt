use Rattle.std.proofs.Common.{◌≡◌, ◌+◌, ◌*◌, ◌≤◌, List, ℕ}
use Rattle.fact_types.specs.Agrees.{Agrees, AgreesFields, AgreesPlaces, names_of}
use Rattle.fact_types.specs.Heights.{height}
use Rattle.fact_types.specs.Shapes.{Shape, Members, typed}
use Rattle.fact_types.specs.Tables.{HasShape}
use Rattle.fact_values.specs.Carry.{take_number}
use Rattle.fact_abi.specs.CrossingWalks.{Naming, Placing, Listing, entry_crossed}
use Rattle.fact_values.specs.Handles.{cross}
use Rattle.fact_abi.specs.Nodes.{AreOf}
use Rattle.fact_abi.proofs.carrying.+crossing.Given as goal

abbrev pub decreases-cross_value : goal.decreases-cross_value
decreases-cross_value l = 8 * height l.types.now l.to.now + 6

abbrev pub decreases-cross_node : goal.decreases-cross_node
decreases-cross_node l = 8 * height l.types.now l.to.now + 5

abbrev pub decreases-cross_record : goal.decreases-cross_record
decreases-cross_record l = 8 * height l.types.now l.to.now + 3

abbrev pub decreases-cross_fields : goal.decreases-cross_fields
decreases-cross_fields l = 8 * height l.types.now l.to.now + 2

abbrev pub invariant-cross_fields-loop-place : goal.invariant-cross_fields-loop-place
invariant-cross_fields-loop-place l =
    (ms ns : Members) → l.source.names ≡ names_of ms → AreOf l.types l.source.types ms → l.target.names ≡ names_of ns → AreOf l.types l.target.types ns → AgreesFields ms ns
    → Naming l.types ms ns l.fields l.target.names l.target.types l.place l.values l.fn.numbers l.numbers

abbrev pub decreases-cross_field : goal.decreases-cross_field
decreases-cross_field l = 8 * height l.types.now l.to.now + 1

abbrev pub decreases-cross_named : goal.decreases-cross_named
decreases-cross_named l = 8 * height l.types.now l.to.now + 7

abbrev pub decreases-cross_tuple : goal.decreases-cross_tuple
decreases-cross_tuple l = 8 * height l.types.now l.to.now + 3

abbrev pub decreases-cross_members : goal.decreases-cross_members
decreases-cross_members l = 8 * height l.types.now l.to.now + 2

abbrev pub invariant-cross_members-loop-place : goal.invariant-cross_members-loop-place
invariant-cross_members-loop-place l =
    (l.at ≤ l.place) × ((ms ns : Members) → AreOf l.types l.source.types ms → AreOf l.types l.target.types ns → AgreesPlaces ms ns
    → Placing l.types ms ns l.source.types l.target.types l.place l.at l.values l.crossed l.fn.numbers l.numbers)

abbrev pub decreases-cross_member : goal.decreases-cross_member
decreases-cross_member l = 8 * height l.types.now l.to.now + 1

abbrev pub decreases-cross_case : goal.decreases-cross_case
decreases-cross_case l = 8 * height l.types.now l.to.now + 2

abbrev pub decreases-cross_payload : goal.decreases-cross_payload
decreases-cross_payload l = 8 * height l.types.now l.to.now + 1

abbrev pub decreases-cross_list : goal.decreases-cross_list
decreases-cross_list l = 8 * height l.types.now l.to.now + 3

abbrev pub decreases-cross_elements : goal.decreases-cross_elements
decreases-cross_elements l = 8 * height l.types.now l.owner.now + 2

abbrev pub invariant-cross_elements-loop-value : goal.invariant-cross_elements-loop-value
invariant-cross_elements-loop-value l =
    (s d : Shape) → HasShape l.types l.from s → HasShape l.types l.to d → Agrees s d → Listing (λ v. cross take_number s d v) l.values l.value-index l.crossed l.fn.numbers l.numbers

abbrev pub decreases-cross_map : goal.decreases-cross_map
decreases-cross_map l = 8 * height l.types.now l.to.now + 4

abbrev pub decreases-cross_entries : goal.decreases-cross_entries
decreases-cross_entries l = 8 * height l.types.now l.to.now + 3

abbrev pub invariant-cross_entries-loop-entry : goal.invariant-cross_entries-loop-entry
invariant-cross_entries-loop-entry l =
    (m n k j : List ℕ) (s d u e : Shape) (ms ns : Members) → AreOf l.types l.source.types (typed m s (typed k u ms)) → AreOf l.types l.target.types (typed n d (typed j e ns)) → Agrees s d → Agrees u e
    → Listing (entry_crossed s d u e) l.entries l.entry-index l.crossed l.fn.numbers l.numbers

abbrev pub decreases-cross_part : goal.decreases-cross_part
decreases-cross_part l = 8 * height l.types.now l.to.now + 2
