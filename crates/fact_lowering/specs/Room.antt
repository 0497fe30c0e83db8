-- How much a value asks of the memories between which it is carried: the room that it takes at most on either side, and how many
-- texts, lists, maps and handles it has. What it asks goes by both types, in the order of the source.
use Rattle.std.specs.Prelude.{ℕ, ◌+◌, ◌*◌, Bool, true, false, ◌&&◌, nat_le, max, List, [], ◌∷◌, length, Option, Some, None, sum_by, if◌then◌else◌}
use Rattle.std.specs.Str.{bytes_eq}
use Rattle.fact_types.specs.declared.abi.CanonicalAbiInfo.{CanonicalAbiInfo}
use Rattle.fact_types.specs.Shapes.{Kind, k_record, k_variant, k_list, k_tuple, k_map, k_flags, k_enum, k_option, k_result, k_fixed, k_future, k_stream, Shape, s_plain, s_node, Members, no_members, bare, typed, layout_of}
use Rattle.fact_types.specs.Tuples.{tuple_members, tuple_of}
use Rattle.fact_values.specs.declared.value.Value.{Value, out-Value}
use Rattle.fact_values.specs.declared.value.Value.TheOpen.{Value-F}
use Rattle.fact_values.specs.declared.value.Value.TheOpen as o
use Rattle.fact_values.specs.Handles.{only}
use Rattle.fact_values.specs.Numbers.{Plain, handle, text, plain_of}
use Rattle.fact_values.specs.Opened.{fields_in, members_in, elements_in, map_entries_in, case_in}
use Rattle.fact_values.specs.Places.{element_layout}
use Rattle.fact_values.specs.Weight.{weight_members}

-- What is counted of a value on its way.
pub record Measure : Type 0 where
  -- of a text, by the number of its scalar values
  pub of_text : ℕ → ℕ
  -- of a list or a map, by its length and the layouts of its elements or entries on either side
  pub of_list : ℕ → CanonicalAbiInfo → CanonicalAbiInfo → ℕ
  pub of_handle : ℕ

-- of what is there
abbrev pub where_there : {A : Type 0} → Option A → (A → ℕ) → ℕ
where_there None f = 0
where_there (Some a) f = f a

abbrev pub text_in : Value-F Value → Option (List ℕ)
text_in (o.Str chars) = Some chars
text_in _ = None

abbrev pub measured_plain : Measure → Plain → Value → ℕ
measured_plain m text v = where_there (text_in (out-Value v)) (λ cs. m.of_text (length cs))
measured_plain m (handle kind table) v = m.of_handle
measured_plain m _ v = 0

-- ---- the other type: where it is of another kind, or has no such member, the source type itself is in its place

-- two kinds of types with members of which values hold others
abbrev pub same_kind : Kind → Kind → Bool
same_kind k_record k_record = true
same_kind k_variant k_variant = true
same_kind k_list k_list = true
same_kind k_tuple k_tuple = true
same_kind k_map k_map = true
same_kind k_option k_option = true
same_kind k_result k_result = true
same_kind (k_fixed m) (k_fixed n) = true
same_kind j k = false

abbrev pub members_there : Kind → Members → Shape → Members
members_there k ms (s_plain q) = ms
members_there k ms (s_node j ns) = if same_kind k j then ns else ms

-- the shape of the first member of a name, and of the first of all; and the members behind that
abbrev pub shape_named : List ℕ → Members → Option Shape
shape_named x no_members = None
shape_named x (bare n ns) = if bytes_eq n x then None else shape_named x ns
shape_named x (typed n d ns) = if bytes_eq n x then Some d else shape_named x ns

abbrev pub first_shape : Members → Option Shape
first_shape no_members = None
first_shape (bare n ns) = None
first_shape (typed n d ns) = Some d

abbrev pub behind_first : Members → Members
behind_first no_members = no_members
behind_first (bare n ns) = ns
behind_first (typed n d ns) = ns

abbrev pub or_own : Shape → Option Shape → Shape
or_own s None = s
or_own s (Some d) = d

-- ---- what is counted

-- what is counted of the members of a source
pub record MeasuredParts : Type 0 where
  pub fields : List (List ℕ × Value) → ℕ
  pub case : List ℕ → List Value → ℕ
  pub places : List Value → ℕ
  pub element : Value → ℕ

abbrev pub measured_list : Measure → Kind → (ms ns : Members) → ℕ → ℕ
measured_list m k ms ns n = m.of_list n (element_layout k ms) (element_layout k ns)

abbrev pub measured_case : MeasuredParts → Value → ℕ
measured_case x v = where_there (case_in (out-Value v)) (λ c. x.case c.name c.payload)

-- A value of a kind of type with members ms goes to a destination with members ns.
abbrev pub measured_node : Measure → Kind → (ms ns : Members) → MeasuredParts → Value → ℕ
measured_node m k_record ms ns x v = where_there (fields_in (out-Value v)) x.fields
measured_node m k_tuple ms ns x v = where_there (members_in (out-Value v)) x.places
measured_node m k_list ms ns x v = where_there (elements_in (out-Value v)) (λ vs. measured_list m k_list ms ns (length vs) + sum_by x.element vs)
measured_node m k_map ms ns x v = where_there (map_entries_in (out-Value v)) (λ es. measured_list m k_map ms ns (length es) + sum_by (λ e. x.places (e.0 ∷ e.1 ∷ [])) es)
measured_node m (k_fixed n) ms ns x v = where_there (elements_in (out-Value v)) (sum_by x.element)
measured_node m k_flags ms ns x v = 0
measured_node m k_variant ms ns x v = measured_case x v
measured_node m k_enum ms ns x v = measured_case x v
measured_node m k_option ms ns x v = measured_case x v
measured_node m k_result ms ns x v = measured_case x v
measured_node m (k_future table instance) ms ns x v = m.of_handle
measured_node m (k_stream table instance) ms ns x v = m.of_handle

unfoldable mutual
  -- what is counted of a value of a source type that goes to a destination type
  pub measured : Measure → Shape → Shape → Value → ℕ
  measured m (s_plain p) d v = measured_plain m (plain_of p) v
  measured m (s_node k ms) d v = measured_node m k ms (members_there k ms d) (record {
    fields = λ fs. measured_fields m ms fs (members_there k ms d);
    case = λ x vs. measured_payload m ms x vs (shape_named x (members_there k ms d));
    places = λ vs. measured_places m ms vs (members_there k ms d);
    element = λ w. measured_element m ms w (members_there k ms d);
  }) v

  -- each field of the source goes to the one of its name
  pub measured_fields : Measure → Members → List (List ℕ × Value) → Members → ℕ
  measured_fields m no_members fs ns = 0
  measured_fields m (bare x ms) fs ns = measured_fields m ms fs ns
  measured_fields m (typed x s ms) [] ns = 0
  measured_fields m (typed x s ms) (f ∷ fs) ns = measured m s (or_own s (shape_named x ns)) f.1 + measured_fields m ms fs ns

  -- the payload of the case of a name, whose type in the destination may be given
  pub measured_payload : Measure → Members → List ℕ → List Value → Option Shape → ℕ
  measured_payload m no_members x vs p = 0
  measured_payload m (bare n ms) x vs p = if bytes_eq n x then 0 else measured_payload m ms x vs p
  measured_payload m (typed n s ms) x vs p = if bytes_eq n x then where_there (only vs) (λ v. measured m s (or_own s p) v) else measured_payload m ms x vs p

  -- members one by one
  pub measured_places : Measure → Members → List Value → Members → ℕ
  measured_places m no_members vs ns = 0
  measured_places m (bare x ms) vs ns = measured_places m ms vs (behind_first ns)
  measured_places m (typed x s ms) [] ns = 0
  measured_places m (typed x s ms) (v ∷ vs) ns = measured m s (or_own s (first_shape ns)) v + measured_places m ms vs (behind_first ns)

  -- a value of the first member
  pub measured_element : Measure → Members → Value → Members → ℕ
  measured_element m no_members v ns = 0
  measured_element m (bare x ms) v ns = 0
  measured_element m (typed x s ms) v ns = measured m s (or_own s (first_shape ns)) v

-- the greatest size of two layouts in either width of memory
abbrev pub greatest_bytes : CanonicalAbiInfo → CanonicalAbiInfo → ℕ
greatest_bytes a b = max (max a.size32 a.size64) (max b.size32 b.size64)

-- the room that what stands behind pointers takes: 8 bytes for its alignment, and a text up to 16 bytes for each scalar value
abbrev pub inner_room : Measure
inner_room = record { of_text = λ n. 8 + 16 * n; of_list = λ n a b. 8 + n * greatest_bytes a b; of_handle = 0 }

-- The room that values of types take, carried to others: that of their tuple, and of what stands behind pointers.
abbrev pub room : (source destination : List Shape) → List Value → ℕ
room ts us vs =
    8 + greatest_bytes (layout_of (tuple_of ts)) (layout_of (tuple_of us)) + measured_places inner_room (tuple_members ts) vs (tuple_members us)

-- the texts, lists, maps and handles, each once; a list of fixed length is none of them
abbrev pub each_once : Measure
each_once = record { of_text = λ n. 1; of_list = λ n a b. 1; of_handle = 1 }

abbrev pub pieces : (source destination : List Shape) → List Value → ℕ
pieces ts us vs = measured_places each_once (tuple_members ts) vs (tuple_members us)

-- Values that a host carries: they take at most 16,384 bytes, have at most 64 texts, lists, maps and handles, and weigh at most
-- 1,000,000.
abbrev pub fits : (source destination : List Shape) → List Value → Bool
fits ts us vs = nat_le (room ts us vs) 16384 && (nat_le (pieces ts us vs) 64 && nat_le (weight_members (tuple_members ts) vs) 1000000)
