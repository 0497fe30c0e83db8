-- The room that values take on one side goes by their own type.
use Rattle.std.proofs.Common.{◌≡◌, ℕ, ◌+◌, ◌*◌, Bool, true, false, List, [], ◌∷◌, length, map, Option, Some, None, refl, sym, ap, ◌∙◌, subst, arith}
use Rattle.std.specs.Prelude.{sum_by, if◌then◌else◌}
use Rattle.std.specs.Str.{bytes_eq}
use Rattle.std.proofs.lemmas.List.Sums.{sum_by-cons}
use Rattle.fact_types.specs.Shapes.{Kind, k_record, k_variant, k_list, k_tuple, k_map, k_flags, k_enum, k_option, k_result, k_fixed, k_future, k_stream, Shape, s_plain, s_node, Members, no_members, bare, typed}
use Rattle.fact_values.specs.declared.side.SideAbi.{SideAbi}
use Rattle.fact_values.specs.declared.value.Value.{Value, out-Value}
use Rattle.fact_values.specs.declared.value.Value.TheOpen.{Value-F}
use Rattle.fact_values.specs.declared.value.Value.TheOpen as o
use Rattle.fact_values.specs.declared.value.Value.TheVariants as value
use Rattle.fact_values.specs.Handles.{only}
use Rattle.fact_values.specs.Places.{element_extent, element_layout}
use Rattle.fact_values.specs.Opened.{CaseOf, fields_in, members_in, elements_in, map_entries_in, case_in}
use Rattle.fact_lowering.specs.Lowered.{own_measure, own_room, own_rooms}
use Rattle.fact_lowering.specs.Lowerings.{own_fields, own_entries, own_case}
use Rattle.fact_lowering.specs.Storings.{own_case_of}
use Rattle.fact_lowering.specs.Room.{Measure, MeasuredParts, measured, measured_node, measured_fields, measured_payload, measured_places, measured_element, measured_case, measured_list, members_there, shape_named, first_shape, behind_first, or_own, where_there}

-- ---- parts that count alike

there_alike : {A : Type 0} (p : Option A) (f g : A → ℕ) → ((a : A) → f a ≡ g a) → where_there p f ≡ where_there p g
there_alike None f g h = refl
there_alike (Some a) f g h = h a

pub sums_alike : {A : Type 0} (f g : A → ℕ) (xs : List A) → ((a : A) → f a ≡ g a) → sum_by f xs ≡ sum_by g xs
sums_alike f g [] h = refl
sums_alike f g (x ∷ xs) h = sum_by-cons f x xs ∙ (λ i. h x i + sums_alike f g xs h i) ∙ sym (sum_by-cons g x xs)

record AreAlike (x y : MeasuredParts) : Type 0 where
  fields : (fs : List (List ℕ × Value)) → x.fields fs ≡ y.fields fs
  case : (n : List ℕ) (vs : List Value) → x.case n vs ≡ y.case n vs
  places : (vs : List Value) → x.places vs ≡ y.places vs
  element : (v : Value) → x.element v ≡ y.element v

abbrev case_count : MeasuredParts → CaseOf → ℕ
case_count x c = x.case c.name c.payload

abbrev entry_count : MeasuredParts → Value × Value → ℕ
entry_count x e = x.places (e.0 ∷ e.1 ∷ [])

abbrev list_count : SideAbi → Kind → Members → Members → MeasuredParts → List Value → ℕ
list_count side k ms ns x vs = measured_list (own_measure side) k ms ns (length vs) + sum_by x.element vs

abbrev map_count : SideAbi → Kind → Members → Members → MeasuredParts → List (Value × Value) → ℕ
map_count side k ms ns x es = measured_list (own_measure side) k ms ns (length es) + sum_by (entry_count x) es

node_alike : (side : SideAbi) (k : Kind) (ms ns ns' : Members) (x y : MeasuredParts) (v : Value) → AreAlike x y → measured_node (own_measure side) k ms ns x v ≡ measured_node (own_measure side) k ms ns' y v
node_alike side k_record ms ns ns' x y v h = there_alike (fields_in (out-Value v)) x.fields y.fields h.fields
node_alike side k_tuple ms ns ns' x y v h = there_alike (members_in (out-Value v)) x.places y.places h.places
node_alike side k_list ms ns ns' x y v h = there_alike (elements_in (out-Value v)) (list_count side k_list ms ns x) (list_count side k_list ms ns' y) (λ vs. ap (λ (n : ℕ). measured_list (own_measure side) k_list ms ns (length vs) + n) (sums_alike x.element y.element vs h.element))
node_alike side k_map ms ns ns' x y v h = there_alike (map_entries_in (out-Value v)) (map_count side k_map ms ns x) (map_count side k_map ms ns' y)
    (λ es. ap (λ (n : ℕ). measured_list (own_measure side) k_map ms ns (length es) + n) (sums_alike (entry_count x) (entry_count y) es (λ e. h.places (e.0 ∷ e.1 ∷ []))))
node_alike side (k_fixed n) ms ns ns' x y v h = there_alike (elements_in (out-Value v)) (sum_by x.element) (sum_by y.element) (λ vs. sums_alike x.element y.element vs h.element)
node_alike side k_flags ms ns ns' x y v h = refl
node_alike side k_variant ms ns ns' x y v h = there_alike (case_in (out-Value v)) (case_count x) (case_count y) (λ c. h.case c.name c.payload)
node_alike side k_enum ms ns ns' x y v h = there_alike (case_in (out-Value v)) (case_count x) (case_count y) (λ c. h.case c.name c.payload)
node_alike side k_option ms ns ns' x y v h = there_alike (case_in (out-Value v)) (case_count x) (case_count y) (λ c. h.case c.name c.payload)
node_alike side k_result ms ns ns' x y v h = there_alike (case_in (out-Value v)) (case_count x) (case_count y) (λ c. h.case c.name c.payload)
node_alike side (k_future table instance) ms ns ns' x y v h = refl
node_alike side (k_stream table instance) ms ns ns' x y v h = refl

-- what is counted of the members, towards others
abbrev own_parts : SideAbi → (ms ns : Members) → MeasuredParts
own_parts side ms ns = record {
  fields = λ fs. measured_fields (own_measure side) ms fs ns;
  case = λ x vs. measured_payload (own_measure side) ms x vs (shape_named x ns);
  places = λ vs. measured_places (own_measure side) ms vs ns;
  element = λ w. measured_element (own_measure side) ms w ns;
}

-- ---- the destination does not matter

mutual
  unfolding measured

  pub own_any : (side : SideAbi) (s d d' : Shape) (v : Value) → measured (own_measure side) s d v ≡ measured (own_measure side) s d' v
  own_any side (s_plain p) d d' v = refl
  own_any side (s_node k ms) d d' v = node_alike side k ms (members_there k ms d) (members_there k ms d') (own_parts side ms (members_there k ms d)) (own_parts side ms (members_there k ms d')) v (record {
    fields = λ fs. fields_any side ms fs (members_there k ms d) (members_there k ms d');
    case = λ x vs. payload_any side ms x vs (shape_named x (members_there k ms d)) (shape_named x (members_there k ms d'));
    places = λ vs. places_any side ms vs (members_there k ms d) (members_there k ms d');
    element = λ w. element_any side ms w (members_there k ms d) (members_there k ms d');
  })

  pub fields_any : (side : SideAbi) (ms : Members) (fs : List (List ℕ × Value)) (ns ns' : Members) → measured_fields (own_measure side) ms fs ns ≡ measured_fields (own_measure side) ms fs ns'
  fields_any side no_members fs ns ns' = refl
  fields_any side (bare x ms) fs ns ns' = fields_any side ms fs ns ns'
  fields_any side (typed x s ms) [] ns ns' = refl
  fields_any side (typed x s ms) (f ∷ fs) ns ns' = (λ i. own_any side s (or_own s (shape_named x ns)) (or_own s (shape_named x ns')) f.1 i + fields_any side ms fs ns ns' i)

  pub payload_any : (side : SideAbi) (ms : Members) (x : List ℕ) (vs : List Value) (p p' : Option Shape) → measured_payload (own_measure side) ms x vs p ≡ measured_payload (own_measure side) ms x vs p'
  payload_any side no_members x vs p p' = refl
  payload_any side (bare n ms) x vs p p' = ap (λ k. if bytes_eq n x then 0 else k) (payload_any side ms x vs p p')
  payload_any side (typed n s ms) x vs p p' = (λ i. if bytes_eq n x then there_alike (only vs) (λ v. measured (own_measure side) s (or_own s p) v) (λ v. measured (own_measure side) s (or_own s p') v) (λ v. own_any side s (or_own s p) (or_own s p') v) i
      else payload_any side ms x vs p p' i)

  pub places_any : (side : SideAbi) (ms : Members) (vs : List Value) (ns ns' : Members) → measured_places (own_measure side) ms vs ns ≡ measured_places (own_measure side) ms vs ns'
  places_any side no_members vs ns ns' = refl
  places_any side (bare x ms) vs ns ns' = places_any side ms vs (behind_first ns) (behind_first ns')
  places_any side (typed x s ms) [] ns ns' = refl
  places_any side (typed x s ms) (v ∷ vs) ns ns' = (λ i. own_any side s (or_own s (first_shape ns)) (or_own s (first_shape ns')) v i + places_any side ms vs (behind_first ns) (behind_first ns') i)

  pub element_any : (side : SideAbi) (ms : Members) (v : Value) (ns ns' : Members) → measured_element (own_measure side) ms v ns ≡ measured_element (own_measure side) ms v ns'
  element_any side no_members v ns ns' = refl
  element_any side (bare x ms) v ns ns' = refl
  element_any side (typed x s ms) v ns ns' = own_any side s (or_own s (first_shape ns)) (or_own s (first_shape ns')) v

-- ---- sums over members

-- the room of values of members, one by one
abbrev pub own_sum : SideAbi → Members → List Value → ℕ
own_sum side no_members vs = 0
own_sum side (bare x ms) vs = own_sum side ms vs
own_sum side (typed x s ms) [] = 0
own_sum side (typed x s ms) (v ∷ vs) = own_room side s v + own_sum side ms vs

places_sum : (side : SideAbi) (ms : Members) (vs : List Value) (ns : Members) → measured_places (own_measure side) ms vs ns ≡ own_sum side ms vs
unfolding measured
places_sum side no_members vs ns = refl
places_sum side (bare x ms) vs ns = places_sum side ms vs (behind_first ns)
places_sum side (typed x s ms) [] ns = refl
places_sum side (typed x s ms) (v ∷ vs) ns = (λ i. own_any side s (or_own s (first_shape ns)) s v i + places_sum side ms vs (behind_first ns) i)

fields_sum : (side : SideAbi) (ms : Members) (fs : List (List ℕ × Value)) (ns : Members) → measured_fields (own_measure side) ms fs ns ≡ own_sum side ms (map (λ f. f.1) fs)
unfolding measured
fields_sum side no_members fs ns = refl
fields_sum side (bare x ms) fs ns = fields_sum side ms fs ns
fields_sum side (typed x s ms) [] ns = refl
fields_sum side (typed x s ms) (f ∷ fs) ns = (λ i. own_any side s (or_own s (shape_named x ns)) s f.1 i + fields_sum side ms fs ns i)

pub rooms_sum : (side : SideAbi) (ms : Members) (vs : List Value) → own_rooms side ms vs ≡ own_sum side ms vs
rooms_sum side ms vs = places_sum side ms vs ms

pub fields_rooms : (side : SideAbi) (ms : Members) (fs : List (List ℕ × Value)) → own_fields side ms fs ≡ own_rooms side ms (map (λ f. f.1) fs)
fields_rooms side ms fs = fields_sum side ms fs ms ∙ sym (rooms_sum side ms (map (λ f. f.1) fs))

-- ---- the room of values by their kinds

pub record_room : (side : SideAbi) (ms : Members) (fs : List (List ℕ × Value)) → own_room side (s_node k_record ms) (value.Record fs) ≡ own_rooms side ms (map (λ f. f.1) fs)
unfolding measured
record_room side ms fs = ap (λ w. where_there (fields_in w) (λ fs. own_fields side ms fs)) (value.outs-Record fs) ∙ fields_rooms side ms fs

pub tuple_room : (side : SideAbi) (ms : Members) (vs : List Value) → own_room side (s_node k_tuple ms) (value.Tuple vs) ≡ own_rooms side ms vs
unfolding measured
tuple_room side ms vs = ap (λ w. where_there (members_in w) (λ vs. own_rooms side ms vs)) (value.outs-Tuple vs)

-- the case of a name, of the four kinds of variants
abbrev pub IsCaseKind : Kind → Type 0
IsCaseKind k_variant = Unit {0}
IsCaseKind k_enum = Unit {0}
IsCaseKind k_option = Unit {0}
IsCaseKind k_result = Unit {0}
IsCaseKind k = ⊥

pub case_rooms : (side : SideAbi) (k : Kind) (ms : Members) (v : Value) → IsCaseKind k → own_room side (s_node k ms) v ≡ own_case_of side ms v
unfolding measured
case_rooms side k_variant ms v h = refl
case_rooms side k_enum ms v h = refl
case_rooms side k_option ms v h = refl
case_rooms side k_result ms v h = refl
case_rooms side k_record ms v h = absurd h
case_rooms side k_list ms v h = absurd h
case_rooms side k_tuple ms v h = absurd h
case_rooms side k_map ms v h = absurd h
case_rooms side k_flags ms v h = absurd h
case_rooms side (k_fixed n) ms v h = absurd h
case_rooms side (k_future table instance) ms v h = absurd h
case_rooms side (k_stream table instance) ms v h = absurd h

pub case_room : (side : SideAbi) (k : Kind) (ms : Members) (x : List ℕ) (vs : List Value) → IsCaseKind k → own_room side (s_node k ms) (value.Case x vs) ≡ own_case side ms x vs
case_room side k ms x vs h = case_rooms side k ms (value.Case x vs) h ∙ ap (λ w. where_there (case_in w) (λ c. own_case side ms c.name c.payload)) (value.outs-Case x vs)

-- lists and maps
pub list_room : (side : SideAbi) (n : List ℕ) (s : Shape) (rest : Members) (vs : List Value)
    → own_room side (s_node k_list (typed n s rest)) (value.List vs) ≡ (8 + length vs * (element_extent side k_list (typed n s rest)).size) + sum_by (own_room side s) vs
unfolding measured
list_room side n s rest vs = ap (λ w. where_there (elements_in w) (λ vs. measured_list (own_measure side) k_list (typed n s rest) (typed n s rest) (length vs) + sum_by (λ v. measured_element (own_measure side) (typed n s rest) v (typed n s rest)) vs)) (value.outs-List vs)

pub fixed_room : (side : SideAbi) (count : ℕ) (n : List ℕ) (s : Shape) (rest : Members) (vs : List Value) → own_room side (s_node (k_fixed count) (typed n s rest)) (value.List vs) ≡ sum_by (own_room side s) vs
unfolding measured
fixed_room side count n s rest vs = ap (λ w. where_there (elements_in w) (λ vs. sum_by (λ v. measured_element (own_measure side) (typed n s rest) v (typed n s rest)) vs)) (value.outs-List vs)

pub map_room : (side : SideAbi) (ms : Members) (es : List (Value × Value)) → own_room side (s_node k_map ms) (value.Map es) ≡ (8 + length es * (element_extent side k_map ms).size) + own_entries side ms es
unfolding measured
map_room side ms es = ap (λ w. where_there (map_entries_in w) (λ es. measured_list (own_measure side) k_map ms ms (length es) + own_entries side ms es)) (value.outs-Map es)
