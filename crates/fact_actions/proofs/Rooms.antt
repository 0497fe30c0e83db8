-- The parts of values lie within the room of the whole.
use Rattle.std.proofs.Common.{◌≡◌, ◌≢◌, ℕ, suc, ◌+◌, ◌*◌, ◌<◌, ◌≤◌, List, refl, ap, arith, length}
use Rattle.std.proofs.Math.Nat.{le-max_left, le-max_right, mul-le-mul_right}
use Rattle.fact_types.specs.declared.interface.InterfaceType.{InterfaceType}
use Rattle.fact_types.specs.declared.interface.InterfaceType.TheVariants as ty
use Rattle.fact_types.specs.declared.extents.MemoryWidth.{MemoryWidth}
use Rattle.fact_types.specs.declared.extents.MemoryWidth.TheVariants.{Memory32, Memory64}
use Rattle.fact_types.specs.Layout.{extent, extents, greatest_align, greatest_size, payloads, payload_offset, discriminant_size, discriminant_bytes, pointer_pair_layout, enum_layout, scalar_layout, variant_extent}
use Rattle.fact_types.specs.Shapes.{k_record, k_variant, k_enum, k_flags, Shape, s_plain, s_node, Members, bare, typed, layout_of, layouts_of, plain_layout, place_of, next_of, ends_of}
use Rattle.fact_types.proofs.AlignLaws.{aligned_bounds, inside_tagged}
use Rattle.fact_types.proofs.FieldLaws.{greatest_align_pos}
use Rattle.fact_types.proofs.PayloadLaws.{enum_is_scalar}
use Rattle.fact_types.proofs.PlaceLaws.{align_pos, ends_grow, ends_within}
use Rattle.fact_types.specs.Signatures.{pointer_bytes}
use Rattle.fact_values.specs.Places.{case_bytes, payload_place, flags_bytes}
use Rattle.fact_actions.specs.Sides.{LiftLowerOptions, width_of_side, bytes_of_addresses, side_abi}
use Rattle.fact_actions.specs.Moves.{entry_extent, plain_size}
use Rattle.fact_actions.specs.Confined.{node_size}

-- ---- plain types

plain_in : (w : MemoryWidth) (u : InterfaceType) → (plain_layout u).size32 ≤ (extent w (plain_layout u)).size
plain_in Memory32 u = omega arith
plain_in Memory64 ty.Bool = omega arith
plain_in Memory64 u = omega arith

-- a plain value is written in so many bytes
pub plain_room : (o : LiftLowerOptions) (u : InterfaceType) → plain_size u ≤ node_size o (s_plain u)
plain_room o u = plain_in (width_of_side o) u

-- a pointer and a length
pub pair_room : (o : LiftLowerOptions) → 2 * bytes_of_addresses o ≤ (extent (width_of_side o) pointer_pair_layout).size
pair_room o = by_width (width_of_side o)
  where
    by_width : (w : MemoryWidth) → 2 * pointer_bytes w ≤ (extent w pointer_pair_layout).size
    by_width Memory32 = omega arith
    by_width Memory64 = omega arith

pub four_room : (o : LiftLowerOptions) → 4 ≤ (extent (width_of_side o) (scalar_layout 4)).size
four_room o = by_width (width_of_side o)
  where
    by_width : (w : MemoryWidth) → 4 ≤ (extent w (scalar_layout 4)).size
    by_width Memory32 = omega arith
    by_width Memory64 = omega arith

-- an element or an entry is aligned to something
pub entry_aligned : (o : LiftLowerOptions) (ms : Members) → (entry_extent o ms).align ≢ 0
entry_aligned o ms h = omega (arith, h, align_pos (width_of_side o) (s_node k_record ms))

-- ---- sums

pub enum_room : (o : LiftLowerOptions) (ms : Members) → case_bytes ms ≤ node_size o (s_node k_enum ms)
enum_room o ms = by_width (width_of_side o)
  where
    by_width : (w : MemoryWidth) → case_bytes ms ≤ (extent w (enum_layout (length (layouts_of ms)))).size
    by_width w = let e : (extent w (enum_layout (length (layouts_of ms)))).size ≡ (extent w (scalar_layout (discriminant_bytes (discriminant_size (length (layouts_of ms)))))).size = ap (λ c. (extent w c).size) (enum_is_scalar (length (layouts_of ms))) in omega (arith, scalar_in w (discriminant_bytes (discriminant_size (length (layouts_of ms)))))
      where
        scalar_in : (w : MemoryWidth) (n : ℕ) → (extent w (scalar_layout n)).size ≡ n
        scalar_in Memory32 n = refl
        scalar_in Memory64 n = refl

pub flags_room : (o : LiftLowerOptions) (ms : Members) → flags_bytes ms ≤ node_size o (s_node k_flags ms)
flags_room o ms = by_width (width_of_side o)
  where
    by_width : (w : MemoryWidth) → flags_bytes ms ≤ (extent w (layout_of (s_node k_flags ms))).size
    by_width Memory32 = omega arith
    by_width Memory64 = omega arith

-- the room of a sum: its tag, and the greatest payload
pub sum_bytes : LiftLowerOptions → Members → ℕ
sum_bytes o ms = (variant_extent (discriminant_bytes (discriminant_size (length (layouts_of ms)))) (extents (width_of_side o) (payloads (layouts_of ms)))).size

pub sum_is : (o : LiftLowerOptions) (ms : Members) → sum_bytes o ms ≡ node_size o (s_node k_variant ms)
unfolding sum_bytes
sum_is o ms = by_width (width_of_side o)
  where
    by_width : (w : MemoryWidth) → (variant_extent (discriminant_bytes (discriminant_size (length (layouts_of ms)))) (extents w (payloads (layouts_of ms)))).size ≡ (extent w (layout_of (s_node k_variant ms))).size
    by_width Memory32 = refl
    by_width Memory64 = refl

pub tag_room : (o : LiftLowerOptions) (ms : Members) → case_bytes ms ≤ sum_bytes o ms
unfolding sum_bytes
tag_room o ms =
    let ps = extents (width_of_side o) (payloads (layouts_of ms)) in
    let d = discriminant_bytes (discriminant_size (length (layouts_of ms))) in
    omega (arith, inside_tagged d (greatest_size ps) (greatest_align ps) (greatest_align_pos ps), (aligned_bounds d (greatest_align ps) (greatest_align_pos ps)).0)

-- the greatest payload of cases
pub greatest_of : LiftLowerOptions → Members → ℕ
greatest_of o ms = greatest_size (extents (width_of_side o) (payloads (layouts_of ms)))

pub payload_room : (o : LiftLowerOptions) (ms : Members) → payload_place (side_abi o) ms + greatest_of o ms ≤ sum_bytes o ms
unfolding sum_bytes greatest_of
payload_room o ms =
    let ps = extents (width_of_side o) (payloads (layouts_of ms)) in
    let d = discriminant_bytes (discriminant_size (length (layouts_of ms))) in
    let e : payload_place (side_abi o) ms ≡ payload_offset d ps = refl in
    omega (arith, inside_tagged d (greatest_size ps) (greatest_align ps) (greatest_align_pos ps))

pub greatest_head : (o : LiftLowerOptions) (x : List ℕ) (t : Shape) (ms : Members) → (node_size o t ≤ greatest_of o (typed x t ms)) × (greatest_of o ms ≤ greatest_of o (typed x t ms))
unfolding greatest_of
greatest_head o x t ms = (le-max_left (node_size o t) (greatest_size (extents (width_of_side o) (payloads (layouts_of ms)))), le-max_right (node_size o t) (greatest_size (extents (width_of_side o) (payloads (layouts_of ms)))))

pub greatest_bare : (o : LiftLowerOptions) (x : List ℕ) (ms : Members) → greatest_of o (bare x ms) ≡ greatest_of o ms
unfolding greatest_of
greatest_bare o x ms = refl

-- ---- members

pub member_room : (o : LiftLowerOptions) (x : List ℕ) (t : Shape) (ms : Members) (end : ℕ)
    → place_of (width_of_side o) t end + node_size o t ≤ ends_of (width_of_side o) (typed x t ms) end
member_room o x t ms end = ends_grow (width_of_side o) ms (next_of (width_of_side o) t end)

pub record_room : (o : LiftLowerOptions) (ms : Members) → ends_of (width_of_side o) ms 0 ≤ node_size o (s_node k_record ms)
record_room o ms = ends_within (width_of_side o) ms

pub times_in : (i n s : ℕ) → i < n → i * s + s ≤ n * s
times_in i n s l = let h : suc i * s ≤ n * s = mul-le-mul_right s l in omega arith
