-- Cited by private clauses alone.
-- What a walk over a value that crosses knows: what a step gives, and what is left of a walk.
use Rattle.std.specs.Prelude.{◌≡◌, ℕ, ◌+◌, List, ◌++◌, drop, Bool, true, false, Option, Some, None, option_map}
use Rattle.std.specs.List.{zip}
use Rattle.std.specs.Str.{bytes_eq}
use Rattle.fact_types.specs.declared.interface.InterfaceType.{InterfaceType}
use Rattle.fact_types.specs.Agrees.{Agrees, AgreesFields, AgreesPlaces, chosen, named, names_of}
use Rattle.fact_types.specs.Shapes.{Shape, Members, no_members, bare, typed}
use Rattle.fact_types.specs.Tables.{Tables, HasShape}
use Rattle.fact_values.specs.declared.value.Value.{Value, out-Value}
use Rattle.fact_values.specs.declared.value.Value.TheVariants as value
use Rattle.fact_values.specs.Carry.{take_number}
use Rattle.fact_values.specs.Handles.{Step, done_step, then_step, given, each_step, cross, cross_fields, cross_places, cross_case}
use Rattle.fact_abi.specs.Nodes.{AreOf}
use Rattle.fact_values.specs.Opened.{fields_in, members_in, elements_in, map_entries_in, case_in}
use Rattle.fact_values.specs.Places.{typed_names}

-- What a step gives, with the numbers that it leaves.
abbrev pub StepGives : {A : Type 0} → Option A → List ℕ → Option (A × List ℕ) → Type 0
StepGives None left r = r ≡ None
StepGives (Some a) left r = r ≡ Some (a, left)

-- What a payload gives of the case of a name.
abbrev pub PayloadGives : List ℕ → Option (List Value) → List ℕ → Option (Value × List ℕ) → Type 0
PayloadGives x None left r = r ≡ None
PayloadGives x (Some vs) left r = r ≡ Some (value.Case x vs, left)

-- What a value of a type becomes in another one that agrees with it.
abbrev pub CrossingGives : Tables → InterfaceType → InterfaceType → Value → List ℕ → List ℕ → Option Value → Type 0
CrossingGives t from to v numbers left o = (s d : Shape) → HasShape t from s → HasShape t to d → Agrees s d → StepGives o left (cross take_number s d v numbers)

-- What records and tuples become, by their members.
abbrev pub record_crossed : Members → Members → Value → Step (List ℕ) Value
record_crossed ms ns v = given (fields_in (out-Value v)) (λ fs. then_step (cross_fields take_number ms fs ns) (λ us. done_step (value.Record (zip (typed_names ns) us))))

abbrev pub tuple_crossed : Members → Members → Value → Step (List ℕ) Value
tuple_crossed ms ns v = given (members_in (out-Value v)) (λ vs. then_step (cross_places take_number ms vs ns) (λ us. done_step (value.Tuple us)))

-- What lists, maps and cases become, by the shapes of their members.
abbrev pub list_crossed : Shape → Shape → Value → Step (List ℕ) Value
list_crossed s d v = given (elements_in (out-Value v)) (λ vs. then_step (each_step (λ w. cross take_number s d w) vs) (λ us. done_step (value.List us)))

abbrev pub entry_crossed : Shape → Shape → Shape → Shape → Value × Value → Step (List ℕ) (Value × Value)
entry_crossed s d u e entry = then_step (cross take_number s d entry.0) (λ k. then_step (cross take_number u e entry.1) (λ w. done_step (k, w)))

abbrev pub map_crossed : Shape → Shape → Shape → Shape → Value → Step (List ℕ) Value
map_crossed s d u e v = given (map_entries_in (out-Value v)) (λ es. then_step (each_step (entry_crossed s d u e) es) (λ fs. done_step (value.Map fs)))

abbrev pub case_crossed : Members → Members → Value → Step (List ℕ) Value
case_crossed ms ns v = given (case_in (out-Value v)) (λ c. cross_case take_number (named c.name ms) c.name c.payload ns)

-- The first case of a name: a payload that is given agrees with its own.
abbrev pub Meets : List ℕ → Option Shape → Members → Type 0
Meets x p no_members = Unit {0}
Meets x p (bare n ns) = chosen (bytes_eq n x) (Unit {0}) (Meets x p ns)
Meets x p (typed n d ns) = chosen (bytes_eq n x) ((s : Shape) → p ≡ Some s → Agrees s d) (Meets x p ns)

-- ---- walks

-- Followed these values, what is left gives the others.
pub record Followed {A : Type 0} (all left : Option (List A × List ℕ)) (values : List A) : Type 0 where
  pub same : all ≡ option_map (λ r. (values ++ r.0, r.1)) left

-- In front of the field of a place, with these values of the fields before it, and these numbers left.
pub record Naming (t : Tables) (ms ns : Members) (fields : List (List ℕ × Value)) (names : List (List ℕ)) (types : List (Option InterfaceType)) (i : ℕ) (values : List Value) (numbers left : List ℕ) : Type 0 where
  pub rest : Members
  pub has : AreOf t (drop i types) rest
  pub names_left : drop i names ≡ names_of rest
  pub agree : AgreesFields ms rest
  pub behind : Followed (cross_fields take_number ms fields ns numbers) (cross_fields take_number ms fields rest left) values

-- Past the field of a place, or no value of the fields.
abbrev pub NamingGives : Tables → (ms ns : Members) → List (List ℕ × Value) → List (List ℕ) → List (Option InterfaceType) → ℕ → List Value → List ℕ → List ℕ → Bool → Type 0
NamingGives t ms ns fields names types i values numbers left true = Naming t ms ns fields names types (i + 1) values numbers left
NamingGives t ms ns fields names types i values numbers left false = cross_fields take_number ms fields ns numbers ≡ None

-- In front of the member of a place, with so many values before it, what these became, and these numbers left.
pub record Placing (t : Tables) (ms ns : Members) (sources targets : List (Option InterfaceType)) (i at : ℕ) (values crossed : List Value) (numbers left : List ℕ) : Type 0 where
  pub from : Members
  pub to : Members
  pub from_has : AreOf t (drop i sources) from
  pub to_has : AreOf t (drop i targets) to
  pub agree : AgreesPlaces from to
  pub behind : Followed (cross_places take_number ms values ns numbers) (cross_places take_number from (drop at values) to left) crossed

-- Past the member of a place and what it takes of the values, or no values of the members.
abbrev pub PlacingGives : Tables → (ms ns : Members) → List (Option InterfaceType) → List (Option InterfaceType) → ℕ → ℕ → List Value → List Value → List ℕ → List ℕ → Option ℕ → Type 0
PlacingGives t ms ns sources targets i at values crossed numbers left (Some n) = Placing t ms ns sources targets (i + 1) (at + n) values crossed numbers left
PlacingGives t ms ns sources targets i at values crossed numbers left None = cross_places take_number ms values ns numbers ≡ None

-- In front of an item, with what the ones before it became, and these numbers left.
abbrev pub Listing : {A B : Type 0} → (A → Step (List ℕ) B) → List A → ℕ → List B → List ℕ → List ℕ → Type 0
Listing f items i crossed numbers left = Followed (each_step f items numbers) (each_step f (drop i items) left) crossed
