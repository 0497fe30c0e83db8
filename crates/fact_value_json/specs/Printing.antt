-- How values of types are printed as JSON: what is printed of a value is what it is read from.
use Rattle.std.specs.Prelude.{ℕ, List, [], ◌∷◌, map, filter, Bool, Option, Some, None, if◌then◌else◌, encode_utf8, encode_utf8_all}
use Rattle.std.specs.List.{zip}
use Rattle.std.specs.Str.{bytes_eq}
use Rattle.serde_json.specs.Data.{unsigned, Data, null, boolean, number, string, array, object, Members, no_members, member, put}
use Rattle.serde_json.specs.Find.{of_integer}
use Rattle.serde_json.specs.View.{items_of}
use Rattle.serde_json.specs.Written.{compact_text}
use Rattle.fact_types.specs.Shapes.{Kind, k_record, k_variant, k_list, k_tuple, k_map, k_flags, k_enum, k_option, k_result, k_fixed, k_future, k_stream, Shape, s_plain, s_node}
use Rattle.fact_types.specs.Shapes as shape
use Rattle.fact_types.specs.Tuples.{tuple_members}
use Rattle.fact_values.specs.declared.value.Value.{Value, out-Value}
use Rattle.fact_values.specs.declared.value.Value.TheOpen.{Value-F}
use Rattle.fact_values.specs.declared.value.Value.TheOpen as o
use Rattle.fact_values.specs.Opened.{fields_in, members_in, elements_in, flags_in, map_entries_in, case_in}
use Rattle.fact_values.specs.Places.{typed_names}

-- what is printed of something that is there
abbrev pub where_there : {A : Type 0} → Option A → (A → Data) → Data
where_there None f = null
where_there (Some a) f = f a

-- what is printed of the first of some values, null where there is none
abbrev pub where_first : (Value → Data) → List Value → Data
where_first f [] = null
where_first f (v ∷ vs) = f v

-- Integers, floats by their bits, and handles by their numbers.
abbrev pub plain_data : Value-F Value → Data
plain_data (o.Bool b) = boolean b
plain_data (o.Int z) = number (of_integer z)
plain_data (o.Float32 n) = number (unsigned n)
plain_data (o.Float64 n) = number (unsigned n)
plain_data (o.Char c) = string (encode_utf8 c)
plain_data (o.Str cs) = string (encode_utf8_all cs)
plain_data (o.Handle kind table n) = number (unsigned n)
plain_data _ = null

-- An object of these members, each put among those before it.
abbrev pub object_of : List (List ℕ × Data) → Members → Members
object_of [] ms = ms
object_of ((k, d) ∷ more) ms = object_of more (put k d ms)

-- The names of the flags that are set, in the order of the type.
abbrev pub set_names : List (List ℕ × Bool) → List (List ℕ)
set_names flags = map (λ f. f.0) (filter (λ f. f.1) flags)

-- ---- values of each form; null where a value is of another form

-- The fields of a record at their names, as an object.
abbrev pub record_data : List (List ℕ) → (List Value → List Data) → Value → Data
record_data names places v = where_there (fields_in (out-Value v)) (λ fs. object (object_of (zip names (places (map (λ f. f.1) fs))) no_members))

abbrev pub tuple_data : (List Value → List Data) → Value → Data
tuple_data places v = where_there (members_in (out-Value v)) (λ vs. array (items_of (places vs)))

abbrev pub list_data : (Value → Data) → Value → Data
list_data element v = where_there (elements_in (out-Value v)) (λ vs. array (items_of (map element vs)))

-- A key and a value, as a list of two.
abbrev pub entry_data : (List Value → List Data) → Value × Value → Data
entry_data places e = array (items_of (places (e.0 ∷ e.1 ∷ [])))

abbrev pub map_data : (List Value → List Data) → Value → Data
map_data places v = where_there (map_entries_in (out-Value v)) (λ es. array (items_of (map (entry_data places) es)))

abbrev pub flags_data : Value → Data
flags_data v = where_there (flags_in (out-Value v)) (λ fs. array (items_of (map (λ n. string n) (set_names fs))))

abbrev pub enum_data : Value → Data
enum_data v = where_there (case_in (out-Value v)) (λ c. string c.name)

-- A case, as an object of one key.
abbrev pub case_data : (List ℕ → List Value → Data) → Value → Data
case_data payload v = where_there (case_in (out-Value v)) (λ c. object (member c.name (payload c.name c.payload) no_members))

-- How the members of a type are printed.
pub record MemberPrinters : Type 0 where
  pub places : List Value → List Data
  pub case : List ℕ → List Value → Data
  pub element : Value → Data

abbrev pub print_node : Kind → shape.Members → MemberPrinters → Value → Data
print_node k_record ms p v = record_data (typed_names ms) p.places v
print_node k_tuple ms p v = tuple_data p.places v
print_node k_list ms p v = list_data p.element v
print_node (k_fixed n) ms p v = list_data p.element v
print_node k_map ms p v = map_data p.places v
print_node k_flags ms p v = flags_data v
print_node k_enum ms p v = enum_data v
print_node k_variant ms p v = case_data p.case v
print_node k_option ms p v = case_data p.case v
print_node k_result ms p v = case_data p.case v
print_node (k_future table instance) ms p v = plain_data (out-Value v)
print_node (k_stream table instance) ms p v = plain_data (out-Value v)

unfoldable mutual
  pub data_of : Shape → Value → Data
  data_of (s_plain p) v = plain_data (out-Value v)
  data_of (s_node k ms) v = print_node k ms (record {
    places = λ vs. data_places ms vs;
    case = λ x vs. data_case ms x vs;
    element = λ w. data_element ms w;
  }) v

  -- the members that have a type, one by one
  pub data_places : shape.Members → List Value → List Data
  data_places shape.no_members vs = []
  data_places (shape.bare n ms) vs = data_places ms vs
  data_places (shape.typed n s ms) [] = []
  data_places (shape.typed n s ms) (v ∷ vs) = data_of s v ∷ data_places ms vs

  -- the payload of the first case of a name, null where it has none
  pub data_case : shape.Members → List ℕ → List Value → Data
  data_case shape.no_members x vs = null
  data_case (shape.bare n ms) x vs = if bytes_eq n x then null else data_case ms x vs
  data_case (shape.typed n s ms) x vs = if bytes_eq n x then where_first (λ v. data_of s v) vs else data_case ms x vs

  -- a value of the first member
  pub data_element : shape.Members → Value → Data
  data_element shape.no_members v = null
  data_element (shape.bare n ms) v = null
  data_element (shape.typed n s ms) v = data_of s v

-- The JSON list of values of types, and its text, with no space.
unfoldable pub values_data : List Shape → List Value → Data
values_data ss vs = array (items_of (data_places (tuple_members ss) vs))

unfoldable pub values_text : List Shape → List Value → List ℕ
values_text ss vs = compact_text (values_data ss vs)
