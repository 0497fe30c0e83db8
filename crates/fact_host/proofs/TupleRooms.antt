-- The room that values of a tuple take on one side is no more than that of carrying them, and none where they hold no pointers.
use Rattle.std.proofs.Common.{◌≡◌, ℕ, suc, ◌+◌, ◌≤◌, Bool, true, false, List, [], ◌∷◌, length, Option, Some, None, refl, ap, ◌∙◌, arith}
use Rattle.std.specs.Prelude.{◌||◌, cond, max, sum_by}
use Rattle.std.specs.Str.{bytes_eq}
use Rattle.std.proofs.Math.Nat.{le-max_left, le-max_right, mul-le-mul_left}
use Rattle.std.proofs.lemmas.Bool.{true≢false}
use Rattle.std.proofs.lemmas.List.Sums.{sum_by-cons}
use Rattle.fact_types.specs.declared.abi.CanonicalAbiInfo.{CanonicalAbiInfo}
use Rattle.fact_types.specs.declared.flats.FlatType.{FlatType}
use Rattle.fact_types.specs.declared.interface.InterfaceType.{InterfaceType}
use Rattle.fact_types.specs.declared.interface.InterfaceType.TheVariants as ty
use Rattle.fact_types.specs.declared.extents.MemoryWidth.{MemoryWidth}
use Rattle.fact_types.specs.declared.extents.MemoryWidth.TheVariants.{Memory32, Memory64}
use Rattle.fact_types.specs.FlatShapes.{flat_all}
use Rattle.fact_types.specs.Layout.{extent}
use Rattle.fact_types.specs.PointerPairs.{is_string, pointer_pair_by, has_pointer_pair, have_pointer_pair, any_pointer_pair}
use Rattle.fact_types.specs.Shapes.{Kind, k_record, k_variant, k_list, k_tuple, k_map, k_flags, k_enum, k_option, k_result, k_fixed, k_future, k_stream, Shape, s_plain, s_node, Members, no_members, bare, typed, layout_of}
use Rattle.fact_types.specs.Tuples.{members_from, tuple_members, tuple_of}
use Rattle.fact_values.specs.declared.side.SideAbi.{SideAbi}
use Rattle.fact_values.specs.declared.value.Value.{Value, out-Value}
use Rattle.fact_values.specs.Handles.{only}
use Rattle.fact_values.specs.Numbers.{Plain, boolean, unsigned, signed, float32, float64, character, text, handle, nothing, plain_of}
use Rattle.fact_values.specs.Opened.{fields_in, members_in, elements_in, map_entries_in, case_in}
use Rattle.fact_values.specs.Places.{element_layout, width_of}
use Rattle.fact_values.specs.Tuples.{where_flat}
use Rattle.fact_lowering.specs.Lowered.{own_measure, own_rooms, tuple_room}
use Rattle.fact_lowering.specs.Room.{MeasuredParts, measured, measured_plain, measured_node, measured_fields, measured_payload, measured_places, measured_element, measured_list, members_there, shape_named, first_shape, behind_first, or_own, where_there, text_in, inner_room, greatest_bytes, room}

-- ---- no more

there_less : {A : Type 0} (p : Option A) (f g : A → ℕ) → ((a : A) → f a ≤ g a) → where_there p f ≤ where_there p g
there_less None f g h = omega arith
there_less (Some a) f g h = h a

sums_less : {A : Type 0} (f g : A → ℕ) (xs : List A) → ((a : A) → f a ≤ g a) → sum_by f xs ≤ sum_by g xs
sums_less f g [] h = omega arith
sums_less f g (x ∷ xs) h = omega (arith, sum_by-cons f x xs, sum_by-cons g x xs, h x, sums_less f g xs h)

record AreLess (x y : MeasuredParts) : Type 0 where
  fields : (fs : List (List ℕ × Value)) → x.fields fs ≤ y.fields fs
  case : (n : List ℕ) (vs : List Value) → x.case n vs ≤ y.case n vs
  places : (vs : List Value) → x.places vs ≤ y.places vs
  element : (v : Value) → x.element v ≤ y.element v

size_least : (w : MemoryWidth) (a b : CanonicalAbiInfo) → (extent w a).size ≤ greatest_bytes a b
size_least Memory32 a b = omega (arith, le-max_left a.size32 a.size64, le-max_left (max a.size32 a.size64) (max b.size32 b.size64))
size_least Memory64 a b = omega (arith, le-max_right a.size32 a.size64, le-max_left (max a.size32 a.size64) (max b.size32 b.size64))

list_less : (side : SideAbi) (k : Kind) (ms ns ns' : Members) (n : ℕ) → measured_list (own_measure side) k ms ns n ≤ measured_list inner_room k ms ns' n
list_less side k ms ns ns' n = let h = mul-le-mul_left n (size_least (width_of side) (element_layout k ms) (element_layout k ns')) in omega (arith, h)

node_less : (side : SideAbi) (k : Kind) (ms ns ns' : Members) (x y : MeasuredParts) (v : Value) → AreLess x y → measured_node (own_measure side) k ms ns x v ≤ measured_node inner_room k ms ns' y v
node_less side k_record ms ns ns' x y v h = there_less (fields_in (out-Value v)) _ _ h.fields
node_less side k_tuple ms ns ns' x y v h = there_less (members_in (out-Value v)) _ _ h.places
node_less side k_list ms ns ns' x y v h = there_less (elements_in (out-Value v)) _ _ (λ vs. omega (arith, list_less side k_list ms ns ns' (length vs), sums_less x.element y.element vs h.element))
node_less side k_map ms ns ns' x y v h =
    there_less (map_entries_in (out-Value v)) _ _ (λ es. omega (arith, list_less side k_map ms ns ns' (length es), sums_less (λ e. x.places (e.0 ∷ e.1 ∷ [])) (λ e. y.places (e.0 ∷ e.1 ∷ [])) es (λ e. h.places (e.0 ∷ e.1 ∷ []))))
node_less side (k_fixed n) ms ns ns' x y v h = there_less (elements_in (out-Value v)) _ _ (λ vs. sums_less x.element y.element vs h.element)
node_less side k_flags ms ns ns' x y v h = omega arith
node_less side k_variant ms ns ns' x y v h = there_less (case_in (out-Value v)) _ _ (λ c. h.case c.name c.payload)
node_less side k_enum ms ns ns' x y v h = there_less (case_in (out-Value v)) _ _ (λ c. h.case c.name c.payload)
node_less side k_option ms ns ns' x y v h = there_less (case_in (out-Value v)) _ _ (λ c. h.case c.name c.payload)
node_less side k_result ms ns ns' x y v h = there_less (case_in (out-Value v)) _ _ (λ c. h.case c.name c.payload)
node_less side (k_future table instance) ms ns ns' x y v h = omega arith
node_less side (k_stream table instance) ms ns ns' x y v h = omega arith

plain_less : (side : SideAbi) (p : Plain) (v : Value) → measured_plain (own_measure side) p v ≤ measured_plain inner_room p v
plain_less side boolean v = omega arith
plain_less side (unsigned n) v = omega arith
plain_less side (signed n) v = omega arith
plain_less side float32 v = omega arith
plain_less side float64 v = omega arith
plain_less side character v = omega arith
plain_less side text v = there_less (text_in (out-Value v)) _ _ (λ cs. omega arith)
plain_less side (handle kind table) v = omega arith
plain_less side nothing v = omega arith

either_less : (b : Bool) (i j m n : ℕ) → i ≤ m → j ≤ n → cond b i j ≤ cond b m n
either_less true i j m n h g = h
either_less false i j m n h g = g

mutual
  unfolding measured

  pub value_less : (side : SideAbi) (s d d' : Shape) (v : Value) → measured (own_measure side) s d v ≤ measured inner_room s d' v
  value_less side (s_plain p) d d' v = plain_less side (plain_of p) v
  value_less side (s_node k ms) d d' v = node_less side k ms (members_there k ms d) (members_there k ms d') _ _ v (record {
    fields = λ fs. fields_less side ms fs (members_there k ms d) (members_there k ms d');
    case = λ x vs. payload_less side ms x vs (shape_named x (members_there k ms d)) (shape_named x (members_there k ms d'));
    places = λ vs. places_less side ms vs (members_there k ms d) (members_there k ms d');
    element = λ w. element_less side ms w (members_there k ms d) (members_there k ms d');
  })

  pub fields_less : (side : SideAbi) (ms : Members) (fs : List (List ℕ × Value)) (ns ns' : Members) → measured_fields (own_measure side) ms fs ns ≤ measured_fields inner_room ms fs ns'
  fields_less side no_members fs ns ns' = omega arith
  fields_less side (bare x ms) fs ns ns' = fields_less side ms fs ns ns'
  fields_less side (typed x s ms) [] ns ns' = omega arith
  fields_less side (typed x s ms) (f ∷ fs) ns ns' = omega (arith, value_less side s (or_own s (shape_named x ns)) (or_own s (shape_named x ns')) f.1, fields_less side ms fs ns ns')

  pub payload_less : (side : SideAbi) (ms : Members) (x : List ℕ) (vs : List Value) (p p' : Option Shape) → measured_payload (own_measure side) ms x vs p ≤ measured_payload inner_room ms x vs p'
  payload_less side no_members x vs p p' = omega arith
  payload_less side (bare n ms) x vs p p' = either_less (bytes_eq n x) 0 _ 0 _ (omega arith) (payload_less side ms x vs p p')
  payload_less side (typed n s ms) x vs p p' =
      either_less (bytes_eq n x) _ _ _ _
      (there_less (only vs) (λ v. measured (own_measure side) s (or_own s p) v) (λ v. measured inner_room s (or_own s p') v) (λ v. value_less side s (or_own s p) (or_own s p') v))
      (payload_less side ms x vs p p')

  pub places_less : (side : SideAbi) (ms : Members) (vs : List Value) (ns ns' : Members) → measured_places (own_measure side) ms vs ns ≤ measured_places inner_room ms vs ns'
  places_less side no_members vs ns ns' = omega arith
  places_less side (bare x ms) vs ns ns' = places_less side ms vs (behind_first ns) (behind_first ns')
  places_less side (typed x s ms) [] ns ns' = omega arith
  places_less side (typed x s ms) (v ∷ vs) ns ns' = omega (arith, value_less side s (or_own s (first_shape ns)) (or_own s (first_shape ns')) v, places_less side ms vs (behind_first ns) (behind_first ns'))

  pub element_less : (side : SideAbi) (ms : Members) (v : Value) (ns ns' : Members) → measured_element (own_measure side) ms v ns ≤ measured_element inner_room ms v ns'
  element_less side no_members v ns ns' = omega arith
  element_less side (bare x ms) v ns ns' = omega arith
  element_less side (typed x s ms) v ns ns' = value_less side s (or_own s (first_shape ns)) (or_own s (first_shape ns')) v

where_most : (o : Option (List FlatType)) (a b m : ℕ) → a ≤ m → b ≤ m → where_flat o a b ≤ m
where_most None a b m h g = g
where_most (Some fs) a b m h g = h

-- The room on one side is no more than that of carrying the values.
pub tuple_room_most : (side : SideAbi) (limit : ℕ) (ss us : List Shape) (vs : List Value) → tuple_room side limit ss vs ≤ room ss us vs
tuple_room_most side limit ss us vs =
    let size = size_least (width_of side) (layout_of (tuple_of ss)) (layout_of (tuple_of us)) in
    let inner = places_less side (tuple_members ss) vs (tuple_members ss) (tuple_members us) in
    where_most (flat_all (width_of side) limit ss) _ _ (room ss us vs) (omega (arith, inner)) (omega (arith, size, inner))

-- ---- none

there_none : {A : Type 0} (p : Option A) (f : A → ℕ) → ((a : A) → f a ≡ 0) → where_there p f ≡ 0
there_none None f h = refl
there_none (Some a) f h = h a

sums_none : {A : Type 0} (f : A → ℕ) (xs : List A) → ((a : A) → f a ≡ 0) → sum_by f xs ≡ 0
sums_none f [] h = refl
sums_none f (x ∷ xs) h = omega (arith, sum_by-cons f x xs, h x, sums_none f xs h)

record AreNone (x : MeasuredParts) : Type 0 where
  fields : (fs : List (List ℕ × Value)) → x.fields fs ≡ 0
  case : (n : List ℕ) (vs : List Value) → x.case n vs ≡ 0
  places : (vs : List Value) → x.places vs ≡ 0
  element : (v : Value) → x.element v ≡ 0

-- but for lists and maps, and what is never looked into
node_none : (side : SideAbi) (k : Kind) (ms ns : Members) (x : MeasuredParts) (v : Value) → pointer_pair_by k (have_pointer_pair ms) ≡ false → (have_pointer_pair ms ≡ false → AreNone x) → measured_node (own_measure side) k ms ns x v ≡ 0
node_none side k_record ms ns x v not_so h = there_none (fields_in (out-Value v)) _ (h not_so).fields
node_none side k_tuple ms ns x v not_so h = there_none (members_in (out-Value v)) _ (h not_so).places
node_none side k_list ms ns x v not_so h = absurd (true≢false not_so)
node_none side k_map ms ns x v not_so h = absurd (true≢false not_so)
node_none side (k_fixed n) ms ns x v not_so h = there_none (elements_in (out-Value v)) _ (λ vs. sums_none x.element vs (h not_so).element)
node_none side k_flags ms ns x v not_so h = refl
node_none side k_variant ms ns x v not_so h = there_none (case_in (out-Value v)) _ (λ c. (h not_so).case c.name c.payload)
node_none side k_enum ms ns x v not_so h = there_none (case_in (out-Value v)) _ (λ c. (h not_so).case c.name c.payload)
node_none side k_option ms ns x v not_so h = there_none (case_in (out-Value v)) _ (λ c. (h not_so).case c.name c.payload)
node_none side k_result ms ns x v not_so h = there_none (case_in (out-Value v)) _ (λ c. (h not_so).case c.name c.payload)
node_none side (k_future table instance) ms ns x v not_so h = refl
node_none side (k_stream table instance) ms ns x v not_so h = refl

plain_none : (side : SideAbi) (p : InterfaceType) (v : Value) → is_string p ≡ false → measured_plain (own_measure side) (plain_of p) v ≡ 0
plain_none side ty.String v not_so = absurd (true≢false not_so)
plain_none side _ v not_so = refl

or_first : (a b : Bool) → (a || b) ≡ false → a ≡ false
or_first true b h = absurd (true≢false h)
or_first false b h = refl

or_rest : (a b : Bool) → (a || b) ≡ false → b ≡ false
or_rest true b h = absurd (true≢false h)
or_rest false b h = h

either_none : (b : Bool) (i j : ℕ) → i ≡ 0 → j ≡ 0 → cond b i j ≡ 0
either_none true i j h g = h
either_none false i j h g = g

mutual
  unfolding measured

  pub value_none : (side : SideAbi) (s d : Shape) (v : Value) → has_pointer_pair s ≡ false → measured (own_measure side) s d v ≡ 0
  value_none side (s_plain p) d v not_so = plain_none side p v not_so
  value_none side (s_node k ms) d v not_so = node_none side k ms (members_there k ms d) _ v not_so (λ none. record {
    fields = λ fs. fields_none side ms fs (members_there k ms d) none;
    case = λ x vs. payload_none side ms x vs (shape_named x (members_there k ms d)) none;
    places = λ vs. places_none side ms vs (members_there k ms d) none;
    element = λ w. element_none side ms w (members_there k ms d) none;
  })

  pub fields_none : (side : SideAbi) (ms : Members) (fs : List (List ℕ × Value)) (ns : Members) → have_pointer_pair ms ≡ false → measured_fields (own_measure side) ms fs ns ≡ 0
  fields_none side no_members fs ns not_so = refl
  fields_none side (bare x ms) fs ns not_so = fields_none side ms fs ns not_so
  fields_none side (typed x s ms) [] ns not_so = refl
  fields_none side (typed x s ms) (f ∷ fs) ns not_so =
      omega (arith, value_none side s (or_own s (shape_named x ns)) f.1 (or_first (has_pointer_pair s) (have_pointer_pair ms) not_so), fields_none side ms fs ns (or_rest (has_pointer_pair s) (have_pointer_pair ms) not_so))

  pub payload_none : (side : SideAbi) (ms : Members) (x : List ℕ) (vs : List Value) (p : Option Shape) → have_pointer_pair ms ≡ false → measured_payload (own_measure side) ms x vs p ≡ 0
  payload_none side no_members x vs p not_so = refl
  payload_none side (bare n ms) x vs p not_so = either_none (bytes_eq n x) 0 _ refl (payload_none side ms x vs p not_so)
  payload_none side (typed n s ms) x vs p not_so =
      either_none (bytes_eq n x) _ _
      (there_none (only vs) (λ v. measured (own_measure side) s (or_own s p) v) (λ v. value_none side s (or_own s p) v (or_first (has_pointer_pair s) (have_pointer_pair ms) not_so)))
      (payload_none side ms x vs p (or_rest (has_pointer_pair s) (have_pointer_pair ms) not_so))

  pub places_none : (side : SideAbi) (ms : Members) (vs : List Value) (ns : Members) → have_pointer_pair ms ≡ false → measured_places (own_measure side) ms vs ns ≡ 0
  places_none side no_members vs ns not_so = refl
  places_none side (bare x ms) vs ns not_so = places_none side ms vs (behind_first ns) not_so
  places_none side (typed x s ms) [] ns not_so = refl
  places_none side (typed x s ms) (v ∷ vs) ns not_so =
      omega (arith, value_none side s (or_own s (first_shape ns)) v (or_first (has_pointer_pair s) (have_pointer_pair ms) not_so), places_none side ms vs (behind_first ns) (or_rest (has_pointer_pair s) (have_pointer_pair ms) not_so))

  pub element_none : (side : SideAbi) (ms : Members) (v : Value) (ns : Members) → have_pointer_pair ms ≡ false → measured_element (own_measure side) ms v ns ≡ 0
  element_none side no_members v ns not_so = refl
  element_none side (bare x ms) v ns not_so = refl
  element_none side (typed x s ms) v ns not_so = value_none side s (or_own s (first_shape ns)) v (or_first (has_pointer_pair s) (have_pointer_pair ms) not_so)

none_from : (n : ℕ) (ss : List Shape) → any_pointer_pair ss ≡ false → have_pointer_pair (members_from n ss) ≡ false
none_from n [] h = refl
none_from n (s ∷ ss) h =
    ap (λ z. z || have_pointer_pair (members_from (suc n) ss)) (or_first (has_pointer_pair s) (any_pointer_pair ss) h) ∙ none_from (suc n) ss (or_rest (has_pointer_pair s) (any_pointer_pair ss) h)

not_true : (b : Bool) → (b ≡ true → ⊥) → b ≡ false
not_true true h = absurd (h refl)
not_true false h = refl

-- Without a memory values take no room: they hold no pointers, and stand flat.
pub tuple_room_none : (side : SideAbi) (limit : ℕ) (ss : List Shape) (vs : List Value) → (any_pointer_pair ss ≡ true → ⊥) → (flat_all (width_of side) limit ss ≡ None → ⊥) → tuple_room side limit ss vs ≡ 0
tuple_room_none side limit ss vs no_pairs is_flat = by (flat_all (width_of side) limit ss) refl
  where
    by : (o : Option (List FlatType)) → flat_all (width_of side) limit ss ≡ o → tuple_room side limit ss vs ≡ 0
    by None e = absurd (is_flat e)
    by (Some fs) e =
        ap (λ o. where_flat o (own_rooms side (tuple_members ss) vs) (8 + (extent (width_of side) (layout_of (tuple_of ss))).size + own_rooms side (tuple_members ss) vs)) e
        ∙ places_none side (tuple_members ss) vs (tuple_members ss) (none_from 0 ss (not_true (any_pointer_pair ss) no_pairs))
