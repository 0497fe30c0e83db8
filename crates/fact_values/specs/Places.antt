-- Where the parts of values stand: discriminants, payloads and elements.
-- Component Model, canonical ABI, "Loading" and "Element Size".
use Rattle.std.specs.Prelude.{ℕ, zero, suc, ◌+◌, List, [], ◌∷◌, length, Option, Some}
use Rattle.fact_types.specs.declared.abi.CanonicalAbiInfo.{CanonicalAbiInfo}
use Rattle.fact_types.specs.declared.extents.Extent.{Extent}
use Rattle.fact_types.specs.declared.extents.MemoryWidth.{MemoryWidth}
use Rattle.fact_types.specs.Layout.{extent, extents, record_layout, zero_layout, discriminant_size, discriminant_bytes, payloads, payload_offset, flags_size, flags_extent}
use Rattle.fact_types.specs.Shapes.{Kind, k_map, Shape, Members, no_members, bare, typed, layout_of, layouts_of}
use Rattle.fact_types.specs.Signatures.{pointer_bytes, width}
use Rattle.fact_types.specs.Options.{◌>>=◌}
use Rattle.fact_values.specs.declared.side.SideAbi.{SideAbi}
use Rattle.fact_values.specs.Numbers.{number_in}

-- The width of a side's memory.
abbrev pub width_of : SideAbi → MemoryWidth
width_of side = width side.memory64

-- The extent of a value in a side's memory.
abbrev pub extent_on : SideAbi → Shape → Extent
extent_on side s = extent (width_of side) (layout_of s)

-- How many members there are.
abbrev pub count_of_members : Members → ℕ
count_of_members ms = length (layouts_of ms)

-- The bytes of the discriminant of these cases, and where their payload begins.
abbrev pub case_bytes : Members → ℕ
case_bytes ms = discriminant_bytes (discriminant_size (count_of_members ms))

abbrev pub payload_place : SideAbi → Members → ℕ
payload_place side ms = payload_offset (case_bytes ms) (extents (width_of side) (payloads (layouts_of ms)))

-- The bytes of flags of these names.
abbrev pub flags_bytes : Members → ℕ
flags_bytes ms = (flags_extent (flags_size (count_of_members ms))).size

-- The layout of an element of a list, and of an entry of a map: a tuple of key and value.
abbrev pub first_layout : List CanonicalAbiInfo → CanonicalAbiInfo
first_layout [] = zero_layout
first_layout (l ∷ ls) = l

abbrev pub element_layout : Kind → Members → CanonicalAbiInfo
element_layout k_map ms = record_layout (payloads (layouts_of ms))
element_layout k ms = first_layout (payloads (layouts_of ms))

-- Its extent; what adapters move in a list has the same, as a tuple of one member (`entry_extent`).
abbrev pub element_extent : SideAbi → Kind → Members → Extent
element_extent side k ms = extent (width_of side) (element_layout k ms)

-- The names of the members that have a type.
abbrev pub typed_names : Members → List (List ℕ)
typed_names no_members = []
typed_names (bare n ms) = typed_names ms
typed_names (typed n s ms) = n ∷ typed_names ms

-- A pointer and a length.
pub record Pair : Type 0 where
  pub pointer : ℕ
  pub count : ℕ

abbrev pub pair_at : SideAbi → List ℕ → ℕ → Option Pair
pair_at side bytes address =
    number_in bytes (pointer_bytes (width_of side)) address >>= (λ p.
    number_in bytes (pointer_bytes (width_of side)) (address + pointer_bytes (width_of side)) >>= (λ n.
    Some (record { pointer = p; count = n })))

-- So many values, each so many bytes behind the one before.
abbrev pub each_at : {A : Type 0} → ℕ → ℕ → (ℕ → Option A) → ℕ → Option (List A)
each_at zero stride f address = Some []
each_at (suc n) stride f address =
    f address >>= (λ v. each_at n stride f (address + stride) >>= (λ vs. Some (v ∷ vs)))
