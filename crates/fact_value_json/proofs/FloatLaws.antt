-- No float is printed: floats are printed by their bits.
use Rattle.std.proofs.Common.{◌≡◌, ◌≤◌, ℕ, ℤ, pos, negsuc, List, [], ◌∷◌, map, Bool, true, false, ◌||◌, Some, refl, ap, ◌∙◌, subst, true≢false}
use Rattle.std.specs.Prelude.{if◌then◌else◌}
use Rattle.std.specs.List.{AllByRecursion, zip}
use Rattle.std.specs.Ordering.{nat_cmp, match_ordering}
use Rattle.std.specs.declared.cmp.Ordering.{Ordering}
use Rattle.std.specs.declared.cmp.Ordering.TheVariants.{Less, Equal, Greater}
use Rattle.std.specs.Cmp.Lexicographic.{slice_cmp}
use Rattle.std.specs.Str.{bytes_eq}
use Rattle.serde_json.specs.Data as json
use Rattle.serde_json.specs.Data.{Data, array, depth, null, object, put, string}
use Rattle.serde_json.specs.Find.{is_float, of_integer}
use Rattle.serde_json.specs.Read.{max_depth, read as read_json}
use Rattle.serde_json.specs.View.{items_of, view}
use Rattle.serde_json.specs.declared.value.Value.{Value as Json}
use Rattle.serde_json.specs.Written.{compact_text, has_float, items_have_float, members_have_float}
use Rattle.fact_types.specs.Shapes.{k_record, k_variant, k_list, k_tuple, k_map, k_flags, k_enum, k_option, k_result, k_fixed, k_future, k_stream, Shape, s_plain, s_node, Members, no_members, bare, typed}
use Rattle.fact_types.specs.Tuples.{tuple_members}
use Rattle.fact_values.specs.declared.value.Value.{Value, out-Value}
use Rattle.fact_values.specs.declared.value.Value.TheOpen.{Value-F}
use Rattle.fact_values.specs.declared.value.Value.TheOpen as o
use Rattle.fact_values.specs.Opened.{fields_in, members_in, elements_in, flags_in, map_entries_in, case_in}
use Rattle.fact_values.specs.Places.{typed_names}
use Rattle.fact_value_json.specs.Printing.{where_there, where_first, object_of, plain_data, set_names, entry_data, data_of, data_places, data_case, data_element, values_data, values_text}

or_none : (b c : Bool) → b ≡ false → c ≡ false → (b || c) ≡ false
or_none b c e f = (λ j. e j || f j)

-- ---- lists and objects

abbrev pub NoFloats : List Data → Type 0
NoFloats ds = AllByRecursion (λ d. has_float d ≡ false) ds

items_none : (ds : List Data) → NoFloats ds → items_have_float (items_of ds) ≡ false
items_none [] h = refl
items_none (d ∷ ds) h = or_none (has_float d) (items_have_float (items_of ds)) h.0 (items_none ds h.1)

all_none : {X : Type 0} (f : X → Data) (xs : List X) → ((x : X) → has_float (f x) ≡ false) → NoFloats (map f xs)
all_none f [] h = tt
all_none f (x ∷ xs) h = (h x, all_none f xs h)

later_none : (b c : Bool) → (b || c) ≡ false → c ≡ false
later_none true c e = absurd (true≢false e)
later_none false c e = e

first_none : (b c : Bool) → (b || c) ≡ false → b ≡ false
first_none true c e = absurd (true≢false e)
first_none false c e = refl

put_none_at : (k l : List ℕ) (d e : Data) (ms : json.Members) (o : Ordering) → has_float d ≡ false → members_have_float (json.member l e ms) ≡ false → (members_have_float ms ≡ false → members_have_float (put k d ms) ≡ false)
    → members_have_float (match_ordering o (json.member k d (json.member l e ms)) (json.member l d ms) (json.member l e (put k d ms))) ≡ false
put_none_at k l d e ms Less h none f = or_none (has_float d) (members_have_float (json.member l e ms)) h none
put_none_at k l d e ms Equal h none f = or_none (has_float d) (members_have_float ms) h (later_none (has_float e) (members_have_float ms) none)
put_none_at k l d e ms Greater h none f =
    or_none (has_float e) (members_have_float (put k d ms)) (first_none (has_float e) (members_have_float ms) none) (f (later_none (has_float e) (members_have_float ms) none))

put_none : (k : List ℕ) (d : Data) (ms : json.Members) → has_float d ≡ false → members_have_float ms ≡ false → members_have_float (put k d ms) ≡ false
put_none k d json.no_members h none = or_none (has_float d) false h refl
put_none k d (json.member l e ms) h none = put_none_at k l d e ms (slice_cmp nat_cmp k l) h none (λ more. put_none k d ms h more)

object_none : (ns : List (List ℕ)) (ds : List Data) (ms : json.Members) → NoFloats ds → members_have_float ms ≡ false → members_have_float (object_of (zip ns ds) ms) ≡ false
object_none [] ds ms h none = none
object_none (n ∷ ns) [] ms h none = none
object_none (n ∷ ns) (d ∷ ds) ms h none = object_none ns ds (put n d ms) h.1 (put_none n d ms h.0 none)

-- ---- values by their forms

integer_none : (z : ℤ) → is_float (of_integer z) ≡ false
integer_none (pos n) = refl
integer_none (negsuc n) = refl

plain_none : (w : Value-F Value) → has_float (plain_data w) ≡ false
plain_none (o.Int z) = integer_none z
plain_none _ = refl

record_none : (names : List (List ℕ)) (places : List Value → List Data) (w : Value-F Value) → ((vs : List Value) → NoFloats (places vs)) → has_float (where_there (fields_in w) (λ fs. object (object_of (zip names (places (map (λ f. f.1) fs))) json.no_members))) ≡ false
record_none names places (o.Record fs) h = object_none names (places (map (λ f. f.1) fs)) json.no_members (h (map (λ f. f.1) fs)) refl
record_none names places _ h = refl

tuple_none : (places : List Value → List Data) (w : Value-F Value) → ((vs : List Value) → NoFloats (places vs)) → has_float (where_there (members_in w) (λ vs. array (items_of (places vs)))) ≡ false
tuple_none places (o.Tuple vs) h = items_none (places vs) (h vs)
tuple_none places _ h = refl

list_none : (element : Value → Data) (w : Value-F Value) → ((v : Value) → has_float (element v) ≡ false) → has_float (where_there (elements_in w) (λ vs. array (items_of (map element vs)))) ≡ false
list_none element (o.List vs) h = items_none (map element vs) (all_none element vs h)
list_none element _ h = refl

map_none : (places : List Value → List Data) (w : Value-F Value) → ((vs : List Value) → NoFloats (places vs)) → has_float (where_there (map_entries_in w) (λ es. array (items_of (map (entry_data places) es)))) ≡ false
map_none places (o.Map es) h = items_none (map (entry_data places) es) (all_none (entry_data places) es (λ e. items_none (places (e.0 ∷ e.1 ∷ [])) (h (e.0 ∷ e.1 ∷ []))))
map_none places _ h = refl

flags_none : (w : Value-F Value) → has_float (where_there (flags_in w) (λ fs. array (items_of (map (λ n. string n) (set_names fs))))) ≡ false
flags_none (o.Flags fs) = items_none (map (λ n. string n) (set_names fs)) (all_none (λ n. string n) (set_names fs) (λ n. refl))
flags_none _ = refl

enum_none : (w : Value-F Value) → has_float (where_there (case_in w) (λ c. string c.name)) ≡ false
enum_none (o.Case x vs) = refl
enum_none _ = refl

cased_none : (payload : List ℕ → List Value → Data) (w : Value-F Value) → ((x : List ℕ) (vs : List Value) → has_float (payload x vs) ≡ false) → has_float (where_there (case_in w) (λ c. object (json.member c.name (payload c.name c.payload) json.no_members))) ≡ false
cased_none payload (o.Case x vs) h = or_none (has_float (payload x vs)) false (h x vs) refl
cased_none payload _ h = refl

-- ---- values of all types

chosen_none : (b : Bool) (d e : Data) → has_float d ≡ false → has_float e ≡ false → has_float (if b then d else e) ≡ false
chosen_none true d e f g = f
chosen_none false d e f g = g

first_value_none : (f : Value → Data) (vs : List Value) → ((v : Value) → has_float (f v) ≡ false) → has_float (where_first f vs) ≡ false
first_value_none f [] h = refl
first_value_none f (v ∷ vs) h = h v

mutual
  unfolding data_of

  data_none : (s : Shape) (v : Value) → has_float (data_of s v) ≡ false
  data_none (s_plain p) v = plain_none (out-Value v)
  data_none (s_node k_record ms) v = record_none (typed_names ms) (λ vs. data_places ms vs) (out-Value v) (places_none ms)
  data_none (s_node k_tuple ms) v = tuple_none (λ vs. data_places ms vs) (out-Value v) (places_none ms)
  data_none (s_node k_list ms) v = list_none (λ w. data_element ms w) (out-Value v) (element_none ms)
  data_none (s_node (k_fixed n) ms) v = list_none (λ w. data_element ms w) (out-Value v) (element_none ms)
  data_none (s_node k_map ms) v = map_none (λ vs. data_places ms vs) (out-Value v) (places_none ms)
  data_none (s_node k_flags ms) v = flags_none (out-Value v)
  data_none (s_node k_enum ms) v = enum_none (out-Value v)
  data_none (s_node k_variant ms) v = cased_none (λ x vs. data_case ms x vs) (out-Value v) (case_none ms)
  data_none (s_node k_option ms) v = cased_none (λ x vs. data_case ms x vs) (out-Value v) (case_none ms)
  data_none (s_node k_result ms) v = cased_none (λ x vs. data_case ms x vs) (out-Value v) (case_none ms)
  data_none (s_node (k_future table instance) ms) v = plain_none (out-Value v)
  data_none (s_node (k_stream table instance) ms) v = plain_none (out-Value v)

  pub places_none : (ms : Members) (vs : List Value) → NoFloats (data_places ms vs)
  places_none no_members vs = tt
  places_none (bare n ms) vs = places_none ms vs
  places_none (typed n s ms) [] = tt
  places_none (typed n s ms) (v ∷ vs) = (data_none s v, places_none ms vs)

  case_none : (ms : Members) (x : List ℕ) (vs : List Value) → has_float (data_case ms x vs) ≡ false
  case_none no_members x vs = refl
  case_none (bare n ms) x vs = chosen_none (bytes_eq n x) null (data_case ms x vs) refl (case_none ms x vs)
  case_none (typed n s ms) x vs = chosen_none (bytes_eq n x) (where_first (λ v. data_of s v) vs) (data_case ms x vs) (first_value_none (λ v. data_of s v) vs (data_none s)) (case_none ms x vs)

  element_none : (ms : Members) (v : Value) → has_float (data_element ms v) ≡ false
  element_none no_members v = refl
  element_none (bare n ms) v = refl
  element_none (typed n s ms) v = data_none s v

pub values_none : (ss : List Shape) (vs : List Value) → has_float (values_data ss vs) ≡ false
unfolding values_data
values_none ss vs = items_none (data_places (tuple_members ss) vs) (places_none (tuple_members ss) vs)

-- ---- texts of values

whole_of : (ss : List Shape) (vs : List Value) (list : List Json) (d : Data) → d ≡ array (items_of (map view list)) → map view list ≡ data_places (tuple_members ss) vs → d ≡ values_data ss vs
unfolding values_data
whole_of ss vs list d is e = is ∙ ap (λ ds. array (items_of ds)) e

pub text_printed : (ss : List Shape) (vs : List Value) (list : List Json) (d : Data) (bytes : List ℕ) → d ≡ array (items_of (map view list)) → map view list ≡ data_places (tuple_members ss) vs → (has_float d ≡ false → bytes ≡ compact_text d) → bytes ≡ values_text ss vs
unfolding values_text
text_printed ss vs list d bytes is e f = let whole = whole_of ss vs list d is e in f (ap has_float whole ∙ values_none ss vs) ∙ ap compact_text whole

pub text_reads_back : (ss : List Shape) (vs : List Value) (list : List Json) (d : Data) (bytes : List ℕ) → d ≡ array (items_of (map view list)) → map view list ≡ data_places (tuple_members ss) vs → (depth d ≤ max_depth → read_json bytes ≡ Some d) → depth (values_data ss vs) ≤ max_depth → read_json bytes ≡ Some (values_data ss vs)
text_reads_back ss vs list d bytes is e f = subst (λ d. depth d ≤ max_depth → read_json bytes ≡ Some d) (whole_of ss vs list d is e) f
