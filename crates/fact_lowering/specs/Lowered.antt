-- What lowering leaves: values that stand in memory, or as core values, so that they are read back whatever is written elsewhere.
use Rattle.std.specs.Prelude.{◌≡◌, ◌⊎◌, ℕ, ◌+◌, ◌*◌, ◌%◌, ◌^◌, ◌≤◌, ◌<◌, All, List, [], ◌∷◌, ◌++◌, length, map, take, get_or, Option, Some, None}
use Rattle.std.specs.List.{AllZip}
use Rattle.fact_machine.specs.declared.types.CoreValue.{CoreValue}
use Rattle.fact_machine.specs.Typed.{IsValue}
use Rattle.fact_types.specs.declared.flats.FlatType.{FlatType}
use Rattle.fact_types.specs.Flat.{value_type}
use Rattle.fact_types.specs.FlatShapes.{flat, joined, flat_all}
use Rattle.fact_types.specs.declared.extents.Extent.{Extent}
use Rattle.fact_types.specs.Layout.{extent, payloads, record_layout}
use Rattle.fact_types.specs.Shapes.{Kind, k_list, k_map, Shape, s_plain, s_node, Members, layouts_of}
use Rattle.fact_types.specs.Signatures.{flat_params}
use Rattle.fact_types.specs.Options.{◌>>=◌}
use Rattle.fact_types.specs.Tables.{Tables, IsLive}
use Rattle.fact_types.specs.Tuples.{tuple_members, tuple_of}
use Rattle.fact_types.specs.declared.interface.InterfaceType.{InterfaceType}
use Rattle.fact_values.specs.declared.side.SideAbi.{SideAbi}
use Rattle.fact_values.specs.declared.value.Value.{Value}
use Rattle.fact_values.specs.Canonical.{EachAt, EachOf}
use Rattle.fact_values.specs.Lift.{each_of, lift_leading, lift_members}
use Rattle.fact_values.specs.Load.{entry_of, list_value, load, load_element, load_members, map_value, text_value}
use Rattle.fact_values.specs.Places.{Pair, each_at, extent_on, width_of}
use Rattle.fact_values.specs.Tuples.{where_flat, flat_or_behind}
use Rattle.fact_lowering.specs.Stores.{IsShort}
use Rattle.fact_lowering.specs.Room.{Measure, measured, measured_places}
use Rattle.fact_lowering.specs.TextForms.{AreByForm, AreByFormAt, AreElementsByForm, IsByForm, IsByFormAt, IsElementByFormAt, StandsByForm, TupleIsByForm}

-- ---- memories that agree

-- two memories of one length are the same from one place up to another
pub record AgreeWithin (low high : ℕ) (a b : List ℕ) : Type 0 where
  pub same_length : length a ≡ length b
  pub each : (j : ℕ) → low ≤ j → j < high → get_or a j 0 ≡ get_or b j 0

-- A memory was changed in two ranges alone: a place, and the part from one cursor to the next.
pub record IsChanged (place size low high : ℕ) (before after : List ℕ) : Type 0 where
  pub same_length : length before ≡ length after
  pub kept : (j : ℕ) → (j < place) ⊎ (place + size ≤ j) → (j < low) ⊎ (high ≤ j) → get_or before j 0 ≡ get_or after j 0

-- ---- what is read

-- The value at a place, and each text in its form.
abbrev pub ReadsAt : SideAbi → Shape → Value → (place : ℕ) → List ℕ → Type 0
ReadsAt side s v place bytes = (load side bytes s place ≡ Some v) × IsByFormAt side bytes s place

-- The values of the members of a record at a place, behind so many bytes of it.
abbrev pub ReadsMembers : SideAbi → Members → List Value → (place behind : ℕ) → List ℕ → Type 0
ReadsMembers side ms vs place behind bytes = (load_members side bytes ms place behind ≡ Some vs) × AreByFormAt side bytes ms place behind

-- Values of a type, one behind the other, each of so many bytes; and so entries of a map.
abbrev pub ReadsEach : SideAbi → Shape → (stride : ℕ) → List Value → (place : ℕ) → List ℕ → Type 0
ReadsEach side s stride vs place bytes = (each_at (length vs) stride (λ a. load side bytes s a) place ≡ Some vs) × EachAt (length vs) stride (λ a. IsByFormAt side bytes s a) place

abbrev pub ReadsEntries : SideAbi → Members → (stride : ℕ) → List (Value × Value) → (place : ℕ) → List ℕ → Type 0
ReadsEntries side ms stride es place bytes =
    (each_at (length es) stride (λ a. load_members side bytes ms a 0 >>= (λ vs. entry_of vs)) place ≡ Some es) × EachAt (length es) stride (λ a. AreByFormAt side bytes ms a 0) place

-- What stands behind a pointer and a length: a text, a list or a map.
abbrev pub node_behind : SideAbi → List ℕ → Kind → Members → Pair → Option Value
node_behind side bytes k_list ms p = list_value side bytes ms (λ a. load_element side bytes ms a) p
node_behind side bytes k_map ms p = map_value side bytes ms (λ a. load_members side bytes ms a 0) p
node_behind side bytes k ms p = None

abbrev pub value_behind : SideAbi → List ℕ → Shape → Pair → Option Value
value_behind side bytes (s_plain q) p = text_value side bytes p
value_behind side bytes (s_node k ms) p = node_behind side bytes k ms p

abbrev pub IsNodeBehindByForm : SideAbi → List ℕ → Kind → Members → Pair → Type 0
IsNodeBehindByForm side bytes k_list ms p = AreElementsByForm side k_list ms (λ a. IsElementByFormAt side bytes ms a) p
IsNodeBehindByForm side bytes k_map ms p = AreElementsByForm side k_map ms (λ a. AreByFormAt side bytes ms a 0) p
IsNodeBehindByForm side bytes k ms p = Unit {0}

abbrev pub IsBehindByForm : SideAbi → List ℕ → Shape → Pair → Type 0
IsBehindByForm side bytes (s_plain q) p = StandsByForm side.encoding bytes p
IsBehindByForm side bytes (s_node k ms) p = IsNodeBehindByForm side bytes k ms p

abbrev pub ReadsBehind : SideAbi → Shape → Value → Pair → List ℕ → Type 0
ReadsBehind side s v p bytes = (value_behind side bytes s p ≡ Some v) × IsBehindByForm side bytes s p

-- The value that leading core values stand for, whatever follows them.
abbrev pub ReadsAs : SideAbi → Shape → Value → List CoreValue → List ℕ → Type 0
ReadsAs side s v cores bytes = (more : List CoreValue) → (lift_leading side bytes s (cores ++ more) ≡ Some v) × IsByForm side bytes s (cores ++ more)

-- So the values of members, and values of one type.
abbrev pub ReadsMembersAs : SideAbi → Members → List Value → List CoreValue → List ℕ → Type 0
ReadsMembersAs side ms vs cores bytes = (more : List CoreValue) → (lift_members side bytes ms (cores ++ more) ≡ Some vs) × AreByForm side bytes ms (cores ++ more)

abbrev pub ReadsEachAs : SideAbi → Shape → List Value → List CoreValue → List ℕ → Type 0
ReadsEachAs side s vs cores bytes =
    (more : List CoreValue) → (each_of (length vs) (length (flat (width_of side) s)) (λ cs. lift_leading side bytes s cs) (cores ++ more) ≡ Some vs)
    × EachOf (length vs) (length (flat (width_of side) s)) (λ cs. IsByForm side bytes s cs) (cores ++ more)

-- ---- cursors

-- a cursor rose by at most so much, and stays within the memory
pub record Rises (low high most : ℕ) (bytes : List ℕ) : Type 0 where
  pub up : low ≤ high
  pub few : high ≤ low + most
  pub inside : high ≤ length bytes

-- ---- types

-- all of these types are live
abbrev pub AreAllLive : Tables → List InterfaceType → Type 0
AreAllLive t tys = All (IsLive t) tys

-- flat types joined with those behind the first
abbrev pub joined_behind : List FlatType → List FlatType → List FlatType
joined_behind [] more = more
joined_behind (f ∷ fs) more = f ∷ joined fs more

-- ---- what is written

-- the extent of a record, a tuple or an entry of a map of these members
abbrev pub record_on : SideAbi → Members → Extent
record_on side ms = extent (width_of side) (record_layout (payloads (layouts_of ms)))

-- the room that stands behind pointers takes on one side, by the type that is stored alone
abbrev pub own_measure : SideAbi → Measure
own_measure side = record { of_text = λ n. 8 + 16 * n; of_list = λ n a b. 8 + n * (extent (width_of side) a).size; of_handle = 0 }

abbrev pub own_room : SideAbi → Shape → Value → ℕ
own_room side s v = measured (own_measure side) s s v

abbrev pub own_rooms : SideAbi → Members → List Value → ℕ
own_rooms side ms vs = measured_places (own_measure side) ms vs ms

-- Something was written to a place and between two cursors: it is read in every memory that agrees there, nothing else changed, and the cursor rose
-- by no more than so much.
pub record IsWritten (Reads : List ℕ → Type 0) (place size low high most : ℕ) (before after : List ℕ) : Type 0 where
  pub reads : (other : List ℕ) → AgreeWithin place (place + size) after other → AgreeWithin low high after other → Reads other
  pub changed : IsChanged place size low high before after
  pub rises : Rises low high most after

-- a memory that is stored to: the cursor lies in it
pub record CanStore (cursor : ℕ) (bytes : List ℕ) : Type 0 where
  pub inside : cursor ≤ length bytes
  pub short : IsShort bytes

-- A place of so many bytes: aligned, before the cursor, and the cursor in the memory.
pub record HasPlace (align size place cursor : ℕ) (bytes : List ℕ) : Type 0 where
  pub aligned : place % align ≡ 0
  pub below : place + size ≤ cursor
  pub can : CanStore cursor bytes

abbrev pub HasItsPlace : SideAbi → Shape → (place cursor : ℕ) → List ℕ → Type 0
HasItsPlace side s place cursor bytes = HasPlace (extent_on side s).align (extent_on side s).size place cursor bytes

-- there was less room behind the cursor than that
abbrev pub LacksRoom : (cursor most : ℕ) → List ℕ → Type 0
LacksRoom cursor most bytes = length bytes < cursor + most

-- A value was stored at a place.
abbrev pub IsStored : SideAbi → Shape → Value → (place low high : ℕ) → (before after : List ℕ) → Type 0
IsStored side s v place low high before after = IsWritten (ReadsAt side s v place) place (extent_on side s).size low high (own_room side s v) before after

-- What stands behind a pointer and a length was put between two cursors; both are small enough for a pointer's bytes.
pub record IsPut (side : SideAbi) (s : Shape) (v : Value) (p : Pair) (low high : ℕ) (before after : List ℕ) : Type 0 where
  pub written : IsWritten (ReadsBehind side s v p) low 0 low high (own_room side s v) before after
  pub pointer_small : p.pointer < 2 ^ 32
  pub count_small : p.count < 2 ^ 32

-- Flat types are as many as those of a type, each as wide or wider; and so those of which the first are.
abbrev pub AreWideFor : List FlatType → (slots : List FlatType) → Type 0
AreWideFor flats slots = (length flats ≡ length slots) × (joined flats slots ≡ slots)

abbrev pub BeginWideFor : List FlatType → (slots : List FlatType) → Type 0
BeginWideFor flats slots = (length flats ≤ length slots) × (joined flats slots ≡ slots)

-- Core values, one for each slot, were put behind others, and what they stand for between two cursors.
pub record IsLoweredTo (Reads : List CoreValue → List ℕ → Type 0) (slots : List FlatType) (low high most : ℕ) (before after : List ℕ) (out out' : List CoreValue) : Type 0 where
  pub cores : List CoreValue
  pub pushed : out' ≡ out ++ cores
  pub typed : AllZip (λ c t. IsValue c t) cores (map value_type slots)
  pub written : IsWritten (Reads cores) low 0 low high most before after

-- A value was lowered.
abbrev pub IsLowered : SideAbi → Shape → Value → (slots : List FlatType) → (low high : ℕ) → (before after : List ℕ) → (out out' : List CoreValue) → Type 0
IsLowered side s v slots low high before after out out' = IsLoweredTo (ReadsAs side s v) slots low high (own_room side s v) before after out out'

-- ---- tuples

-- A region for a tuple: aligned, behind the old cursor, as the memory's bytes allow, and the cursor rose to its end, by no more than the size and 8.
pub record IsTakenFor (side : SideAbi) (ss : List Shape) (place low high : ℕ) (bytes : List ℕ) : Type 0 where
  pub aligned : place % (extent_on side (tuple_of ss)).align ≡ 0
  pub behind : low ≤ place
  pub end : high ≡ place + (extent_on side (tuple_of ss)).size
  pub rises : Rises low high (8 + (extent_on side (tuple_of ss)).size) bytes

-- A region for a tuple, or where there is no room for it, one that begins behind the memory, and the cursor stays.
abbrev pub IsAside : SideAbi → List Shape → (place low high : ℕ) → (bytes : List ℕ) → Type 0
IsAside side ss place low high bytes =
    IsTakenFor side ss place low high bytes
    ⊎ ((length bytes < low + 8 + (extent_on side (tuple_of ss)).size) × (place ≡ length bytes) × (high ≡ low))

-- The room that values of a tuple take on one side at most: what stands behind their pointers, and the tuple, where it is not flat up to a limit.
abbrev pub tuple_room : SideAbi → ℕ → List Shape → List Value → ℕ
tuple_room side limit ss vs =
    where_flat (flat_all (width_of side) limit ss) (own_rooms side (tuple_members ss) vs) (8 + (extent_on side (tuple_of ss)).size + own_rooms side (tuple_members ss) vs)

-- Values of a tuple were lowered: core values of the types of its signature stand for them, each text in its form, no byte before the cursor
-- changed, and the cursor rose by no more than their room.
pub record AreLowered (side : SideAbi) (limit : ℕ) (ss : List Shape) (vs : List Value) (cores : List CoreValue) (low high : ℕ) (before after : List ℕ) : Type 0 where
  pub stands : flat_or_behind side after limit ss cores ≡ Some vs
  pub forms : TupleIsByForm side after limit ss cores
  pub typed : AllZip (λ c ty. IsValue c ty) cores (flat_params side.memory64 limit ss)
  pub same_length : length after ≡ length before
  pub kept : take low after ≡ take low before
  pub rises : Rises low high (tuple_room side limit ss vs) after
