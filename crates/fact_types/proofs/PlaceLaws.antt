-- Members that stand one after another: they end no earlier than the place that they stand behind, and within the record
-- or tuple that they make.
use Rattle.std.proofs.Common.{◌≡◌, ℕ, ◌≤◌, ◌<◌, refl, arith}
use Rattle.fact_types.specs.declared.extents.MemoryWidth.{MemoryWidth}
use Rattle.fact_types.specs.declared.extents.MemoryWidth.TheVariants.{Memory32, Memory64}
use Rattle.fact_types.specs.Layout.{extent, extents, aligned, greatest_align, end_of_fields, payloads}
use Rattle.fact_types.specs.Shapes.{k_record, Shape, s_node, Members, no_members, bare, typed, layout_of, layouts_of, next_of, ends_of}
use Rattle.fact_types.specs.Sound.{IsSoundExtent}
use Rattle.fact_types.proofs.AlignLaws.{aligned_bounds, power_pos}
use Rattle.fact_types.proofs.FieldLaws.{greatest_align_pos}
use Rattle.fact_types.proofs.ShapeSound.{layout_sound}

pub sound_in : (w : MemoryWidth) (s : Shape) → IsSoundExtent (extent w (layout_of s))
sound_in Memory32 s = (layout_sound s).memory32
sound_in Memory64 s = (layout_sound s).memory64

pub align_pos : (w : MemoryWidth) (s : Shape) → 0 < (extent w (layout_of s)).align
align_pos w s = power_pos _ (sound_in w s).power

pub ends_grow : (w : MemoryWidth) (ms : Members) (n : ℕ) → n ≤ ends_of w ms n
ends_grow w no_members n = omega arith
ends_grow w (bare x ms) n = ends_grow w ms n
ends_grow w (typed x s ms) n = omega (arith, (aligned_bounds n (extent w (layout_of s)).align (align_pos w s)).0, ends_grow w ms (next_of w s n))

ends_are : (w : MemoryWidth) (ms : Members) (n : ℕ) → ends_of w ms n ≡ end_of_fields n (extents w (payloads (layouts_of ms)))
ends_are w no_members n = refl
ends_are w (bare x ms) n = ends_are w ms n
ends_are w (typed x s ms) n = ends_are w ms (next_of w s n)

rounded : (w : MemoryWidth) (ms : Members) → end_of_fields 0 (extents w (payloads (layouts_of ms))) ≤ aligned (end_of_fields 0 (extents w (payloads (layouts_of ms)))) (greatest_align (extents w (payloads (layouts_of ms))))
rounded w ms =
    let es = extents w (payloads (layouts_of ms)) in
    (aligned_bounds (end_of_fields 0 es) (greatest_align es) (greatest_align_pos es)).0

pub ends_within : (w : MemoryWidth) (ms : Members) → ends_of w ms 0 ≤ (extent w (layout_of (s_node k_record ms))).size
ends_within Memory32 ms = omega (arith, ends_are Memory32 ms 0, rounded Memory32 ms)
ends_within Memory64 ms = omega (arith, ends_are Memory64 ms 0, rounded Memory64 ms)
