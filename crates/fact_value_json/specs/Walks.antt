-- Cited by private clauses alone.
-- What walks over the members of a type read and print.
use Rattle.std.specs.Prelude.{◌≡◌, ℤ, pos, negsuc, ℕ, ◌^◌, ◌<◌, List, [], ◌∷◌, length, map, Option, Some, None, Result, Ok}
use Rattle.std.specs.List.{AllByRecursion, zip}
use Rattle.serde_json.specs.Data as json
use Rattle.serde_json.specs.Data.{Data, Items}
use Rattle.fact_types.specs.declared.interface.InterfaceType.{InterfaceType}
use Rattle.fact_types.specs.Agrees.{names_of}
use Rattle.fact_types.specs.Shapes.{Shape, Members, no_members, bare, typed}
use Rattle.fact_types.specs.Tables.{Tables, HasShape}
use Rattle.fact_plan.specs.declared.fault.PlanFault.{PlanFault}
use Rattle.fact_plan.specs.Fault.{Gives, at_step, place_step, ◌>>=◌}
use Rattle.fact_plan.specs.Parts.{field, list_in, items_from}
use Rattle.fact_abi.specs.declared.nodes.Node.{Node}
use Rattle.fact_values.specs.declared.value.Value.{Value, out-Value}
use Rattle.fact_values.specs.declared.value.Value.TheOpen.{Value-F}
use Rattle.fact_values.specs.declared.value.Value.TheOpen as o
use Rattle.fact_values.specs.declared.value.Value.TheVariants as value
use Rattle.fact_abi.specs.Finding.{IsTypeOf}
use Rattle.fact_values.specs.IsA.{IsA, AreMembers, HasCase, IsRecord, IsTuple, IsListOf, IsMap, IsCase}
use Rattle.fact_abi.specs.Nodes.{AreOf}
use Rattle.fact_values.specs.Places.{typed_names}
use Rattle.fact_value_json.specs.Printing.{data_of, data_places, data_case, object_of, record_data, tuple_data, list_data, entry_data, map_data, case_data}
use Rattle.fact_value_json.specs.Reading.{counted_items, entry_in, fields_in, null_in, only_member, places_in, read, read_case, read_fields, read_places}

-- What a value of a type is read as, and what a value is read as at a place.
abbrev pub ReadsValue : Tables → InterfaceType → Data → Result Value PlanFault → Type 0
ReadsValue t ty d r = (s : Shape) → HasShape t ty s → Gives (read s d) r

abbrev pub ReadsItem : Tables → InterfaceType → ℕ → Data → Result Value PlanFault → Type 0
ReadsItem t ty i d r = (s : Shape) → HasShape t ty s → Gives (at_step (place_step i) (read s d)) r

-- What the member of a place is read as, where it has a type; and its field, at a name.
abbrev pub ReadsMember : Tables → Option InterfaceType → Data → Result Value PlanFault → Type 0
ReadsMember t y d r = (s : Shape) → IsTypeOf t y (Some s) → Gives (read s d) r

abbrev pub ReadsField : Tables → Option InterfaceType → List ℕ → Data → Result Value PlanFault → Type 0
ReadsField t y n d r = (s : Shape) → IsTypeOf t y (Some s) → Gives (field (λ e. read s e) n d) r

-- What a payload is read as: null where its case has none.
abbrev pub payload_in : Option Shape → Data → Result (List Value) PlanFault
payload_in None d = null_in d >>= (λ _. Ok [])
payload_in (Some s) d = read s d >>= (λ v. Ok (v ∷ []))

abbrev pub ReadsPayload : Tables → Option InterfaceType → Data → Result (List Value) PlanFault → Type 0
ReadsPayload t y d r = (p : Option Shape) → IsTypeOf t y p → Gives (payload_in p d) r

-- Members, each of which has a type.
abbrev pub AreTyped : Members → Type 0
AreTyped no_members = Unit {0}
AreTyped (bare n ms) = ⊥
AreTyped (typed n s ms) = AreTyped ms

pub record AreAllOf (t : Tables) (x : Node) (ms : Members) : Type 0 where
  pub of : AreOf t x.types ms
  pub typed : AreTyped ms

-- What the members of a type are read as.
abbrev pub ReadsFields : Tables → Node → Data → Result (List Value) PlanFault → Type 0
ReadsFields t x d r = (ms : Members) → AreAllOf t x ms → x.names ≡ names_of ms → Gives (read_fields ms d) r

abbrev pub ReadsRecord : Tables → Node → Data → Result Value PlanFault → Type 0
ReadsRecord t x d r = (ms : Members) → AreAllOf t x ms → x.names ≡ names_of ms → Gives (fields_in (typed_names ms) (λ e. read_fields ms e) d) r

abbrev pub ReadsPlaces : Tables → Node → Data → Result (List Value) PlanFault → Type 0
ReadsPlaces t x d r = (ms : Members) → AreAllOf t x ms → Gives (places_in (length (typed_names ms)) (λ i ds. read_places ms i ds) d) r

abbrev pub ReadsTuple : Tables → Node → Data → Result Value PlanFault → Type 0
ReadsTuple t x d r = (ms : Members) → AreAllOf t x ms → Gives (places_in (length (typed_names ms)) (λ i ds. read_places ms i ds) d >>= (λ vs. Ok (value.Tuple vs))) r

abbrev pub ReadsEntry : Tables → Node → Data → Result (Value × Value) PlanFault → Type 0
ReadsEntry t x d r = (ms : Members) → AreAllOf t x ms → Gives (entry_in (length (typed_names ms)) (λ i ds. read_places ms i ds) d) r

abbrev pub ReadsMap : Tables → Node → Data → Result Value PlanFault → Type 0
ReadsMap t x d r = (ms : Members) → AreAllOf t x ms → Gives (list_in (entry_in (length (typed_names ms)) (λ i ds. read_places ms i ds)) d >>= (λ es. Ok (value.Map es))) r

abbrev pub ReadsChoice : Tables → Node → List ℕ → Data → Result Value PlanFault → Type 0
ReadsChoice t x n d r = (ms : Members) → AreOf t x.types ms → x.names ≡ names_of ms → Gives (read_case ms n d) r

abbrev pub ReadsCase : Tables → Node → Data → Result Value PlanFault → Type 0
ReadsCase t x d r = (ms : Members) → AreOf t x.types ms → x.names ≡ names_of ms → Gives (only_member d >>= (λ m. read_case ms m.0 m.1)) r

-- Elements of a list.
abbrev pub ReadsItems : Tables → InterfaceType → Items → Result (List Value) PlanFault → Type 0
ReadsItems t ty ds r = (s : Shape) → HasShape t ty s → Gives (items_from (λ d. read s d) 0 ds) r

abbrev pub ReadsList : Tables → InterfaceType → Data → Result Value PlanFault → Type 0
ReadsList t ty d r = (s : Shape) → HasShape t ty s → Gives (list_in (λ d. read s d) d >>= (λ vs. Ok (value.List vs))) r

abbrev pub ReadsFixedList : Tables → InterfaceType → ℕ → Data → Result Value PlanFault → Type 0
ReadsFixedList t ty n d r = (s : Shape) → HasShape t ty s → Gives (counted_items n d >>= (λ ds. items_from (λ d. read s d) 0 ds >>= (λ vs. Ok (value.List vs)))) r

-- ---- printing

-- An integer of at most 64 bits, with a sign or without one.
abbrev pub IsOf64Bits : ℤ → Type 0
IsOf64Bits (pos n) = n < 2 ^ 64
IsOf64Bits (negsuc n) = n < 2 ^ 63

-- The integer of a value, if it is one, is of at most 64 bits.
abbrev pub HasFewBits : Value-F Value → Type 0
HasFewBits (o.Int z) = IsOf64Bits z
HasFewBits _ = Unit {0}

-- What a value of a type is printed as, and a value of the member of a place, where it has a type.
abbrev pub PrintsValue : Tables → InterfaceType → Value → Data → Type 0
PrintsValue t ty v d = (s : Shape) → HasShape t ty s → IsA s v → d ≡ data_of s v

abbrev pub PrintsMember : Tables → Option InterfaceType → Value → Data → Type 0
PrintsMember t y v d = (s : Shape) → IsTypeOf t y (Some s) → IsA s v → d ≡ data_of s v

-- What values of the members of a type are printed as, one by one; and fields, at their names.
abbrev pub PrintsPlaces : Tables → Node → List Value → List Data → Type 0
PrintsPlaces t x vs ds = (ms : Members) → AreAllOf t x ms → AreMembers ms vs → ds ≡ data_places ms vs

abbrev pub PrintsFields : Tables → Node → List (List ℕ × Value) → json.Members → Type 0
PrintsFields t x fs es = (ms : Members) → AreAllOf t x ms → map (λ f. f.0) fs ≡ typed_names ms → AreMembers ms (map (λ f. f.1) fs) → es ≡ object_of (zip (typed_names ms) (data_places ms (map (λ f. f.1) fs))) json.no_members

abbrev pub PrintsRecord : Tables → Node → Value → Data → Type 0
PrintsRecord t x v d = (ms : Members) → AreAllOf t x ms → IsRecord ms (λ vs. AreMembers ms vs) (out-Value v) → d ≡ record_data (typed_names ms) (λ vs. data_places ms vs) v

abbrev pub PrintsTuple : Tables → Node → Value → Data → Type 0
PrintsTuple t x v d = (ms : Members) → AreAllOf t x ms → IsTuple (λ vs. AreMembers ms vs) (out-Value v) → d ≡ tuple_data (λ vs. data_places ms vs) v

-- Elements of a list, and entries of a map.
abbrev pub PrintsItems : Tables → InterfaceType → List Value → List Data → Type 0
PrintsItems t ty vs ds = (s : Shape) → HasShape t ty s → AllByRecursion (λ v. IsA s v) vs → ds ≡ map (λ v. data_of s v) vs

abbrev pub PrintsList : Tables → InterfaceType → Value → Data → Type 0
PrintsList t ty v d = (s : Shape) → HasShape t ty s → IsListOf (λ v. IsA s v) (out-Value v) → d ≡ list_data (λ v. data_of s v) v

abbrev pub PrintsEntry : Tables → Node → Value × Value → Data → Type 0
PrintsEntry t x e d = (ms : Members) → AreAllOf t x ms → AreMembers ms (e.0 ∷ e.1 ∷ []) → d ≡ entry_data (λ vs. data_places ms vs) e

abbrev pub PrintsEntries : Tables → Node → List (Value × Value) → List Data → Type 0
PrintsEntries t x es ds = (ms : Members) → AreAllOf t x ms → AllByRecursion (λ e. AreMembers ms (e.0 ∷ e.1 ∷ [])) es → ds ≡ map (entry_data (λ vs. data_places ms vs)) es

abbrev pub PrintsMap : Tables → Node → Value → Data → Type 0
PrintsMap t x v d = (ms : Members) → AreAllOf t x ms → IsMap (λ vs. AreMembers ms vs) (out-Value v) → d ≡ map_data (λ vs. data_places ms vs) v

-- A case, and its payload.
abbrev pub PrintsPayload : Tables → Node → List ℕ → List Value → Data → Type 0
PrintsPayload t x n vs d = (ms : Members) → AreOf t x.types ms → x.names ≡ names_of ms → HasCase ms n vs → d ≡ data_case ms n vs

abbrev pub PrintsCase : Tables → Node → Value → Data → Type 0
PrintsCase t x v d = (ms : Members) → AreOf t x.types ms → x.names ≡ names_of ms → IsCase (λ n vs. HasCase ms n vs) (out-Value v) → d ≡ case_data (λ n vs. data_case ms n vs) v
