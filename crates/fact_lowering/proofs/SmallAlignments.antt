-- Alignments of shapes are at most 8.
use Rattle.std.proofs.Common.{ℕ, zero, suc, ◌≤◌, List, [], ◌∷◌, length, max, replicate, Option, None, arith}
use Rattle.fact_types.specs.declared.abi.CanonicalAbiInfo.{CanonicalAbiInfo}
use Rattle.fact_types.specs.declared.interface.InterfaceType.{InterfaceType}
use Rattle.fact_types.specs.declared.interface.InterfaceType.TheVariants as ty
use Rattle.fact_types.specs.declared.sizes.DiscriminantSize.{DiscriminantSize}
use Rattle.fact_types.specs.declared.sizes.DiscriminantSize.TheVariants.{Size1, Size2, Size4}
use Rattle.fact_types.specs.declared.sizes.FlagsSize.{FlagsSize}
use Rattle.fact_types.specs.declared.sizes.FlagsSize.TheVariants as flags
use Rattle.fact_types.specs.declared.extents.MemoryWidth.{MemoryWidth}
use Rattle.fact_types.specs.declared.extents.MemoryWidth.TheVariants.{Memory32, Memory64}
use Rattle.fact_types.specs.Layout.{extent, extents, payloads, greatest_align, discriminant_bytes, flags_extent}
use Rattle.fact_types.specs.Shapes.{Kind, k_record, k_variant, k_list, k_tuple, k_map, k_flags, k_enum, k_option, k_result, k_fixed, k_future, k_stream, Shape, s_plain, s_node, Members, no_members, bare, typed, plain_layout, repeated_layout, layout_by, layout_of, layouts_of}

-- ---- at most 8

plain_small : (w : MemoryWidth) (p : InterfaceType) → (extent w (plain_layout p)).align ≤ 8
plain_small Memory32 ty.Bool = omega arith
plain_small Memory32 ty.S8 = omega arith
plain_small Memory32 ty.U8 = omega arith
plain_small Memory32 ty.S16 = omega arith
plain_small Memory32 ty.U16 = omega arith
plain_small Memory32 ty.S64 = omega arith
plain_small Memory32 ty.U64 = omega arith
plain_small Memory32 ty.Float64 = omega arith
plain_small Memory32 ty.String = omega arith
plain_small Memory32 _ = omega arith
plain_small Memory64 ty.Bool = omega arith
plain_small Memory64 ty.S8 = omega arith
plain_small Memory64 ty.U8 = omega arith
plain_small Memory64 ty.S16 = omega arith
plain_small Memory64 ty.U16 = omega arith
plain_small Memory64 ty.S64 = omega arith
plain_small Memory64 ty.U64 = omega arith
plain_small Memory64 ty.Float64 = omega arith
plain_small Memory64 ty.String = omega arith
plain_small Memory64 _ = omega arith

both_small : (a b : ℕ) → a ≤ 8 → b ≤ 8 → max a b ≤ 8
both_small a b h k = grind (arith, h, k)

first_small : (a b : ℕ) → max a b ≤ 8 → a ≤ 8
first_small a b h = grind (arith, h)

discriminant_small : (d : DiscriminantSize) → discriminant_bytes d ≤ 8
discriminant_small Size1 = omega arith
discriminant_small Size2 = omega arith
discriminant_small Size4 = omega arith

flags_small : (f : FlagsSize) → (flags_extent f).align ≤ 8
flags_small flags.Size0 = omega arith
flags_small flags.Size1 = omega arith
flags_small flags.Size2 = omega arith
flags_small (flags.Size4Plus words) = omega arith

no_payload : (w : MemoryWidth) (n : ℕ) → greatest_align (extents w (payloads (replicate n None))) ≤ 8
no_payload w zero = omega arith
no_payload w (suc n) = no_payload w n

repeated_small : (w : MemoryWidth) (n : ℕ) (cs : List CanonicalAbiInfo) → greatest_align (extents w cs) ≤ 8 → (extent w (repeated_layout n cs)).align ≤ 8
repeated_small Memory32 n [] h = omega arith
repeated_small Memory64 n [] h = omega arith
repeated_small Memory32 n (c ∷ cs) h = first_small c.align32 (greatest_align (extents Memory32 cs)) h
repeated_small Memory64 n (c ∷ cs) h = first_small c.align64 (greatest_align (extents Memory64 cs)) h

by_small : (w : MemoryWidth) (k : Kind) (ls : List (Option CanonicalAbiInfo)) → greatest_align (extents w (payloads ls)) ≤ 8 → (extent w (layout_by k ls)).align ≤ 8
by_small Memory32 k_record ls h = h
by_small Memory64 k_record ls h = h
by_small Memory32 k_tuple ls h = h
by_small Memory64 k_tuple ls h = h
by_small Memory32 k_variant ls h = both_small _ _ (discriminant_small _) h
by_small Memory64 k_variant ls h = both_small _ _ (discriminant_small _) h
by_small Memory32 k_option ls h = both_small _ _ (discriminant_small _) h
by_small Memory64 k_option ls h = both_small _ _ (discriminant_small _) h
by_small Memory32 k_result ls h = both_small _ _ (discriminant_small _) h
by_small Memory64 k_result ls h = both_small _ _ (discriminant_small _) h
by_small Memory32 k_enum ls h = both_small _ _ (discriminant_small _) (no_payload Memory32 (length ls))
by_small Memory64 k_enum ls h = both_small _ _ (discriminant_small _) (no_payload Memory64 (length ls))
by_small Memory32 k_flags ls h = flags_small _
by_small Memory64 k_flags ls h = flags_small _
by_small Memory32 k_list ls h = omega arith
by_small Memory64 k_list ls h = omega arith
by_small Memory32 k_map ls h = omega arith
by_small Memory64 k_map ls h = omega arith
by_small w (k_fixed n) ls h = repeated_small w n (payloads ls) h
by_small Memory32 (k_future table instance) ls h = omega arith
by_small Memory64 (k_future table instance) ls h = omega arith
by_small Memory32 (k_stream table instance) ls h = omega arith
by_small Memory64 (k_stream table instance) ls h = omega arith

mutual
  pub small : (w : MemoryWidth) (s : Shape) → (extent w (layout_of s)).align ≤ 8
  small w (s_plain p) = plain_small w p
  small w (s_node k ms) = by_small w k (layouts_of ms) (all_small w ms)

  pub all_small : (w : MemoryWidth) (ms : Members) → greatest_align (extents w (payloads (layouts_of ms))) ≤ 8
  all_small w no_members = omega arith
  all_small w (bare n ms) = all_small w ms
  all_small w (typed n s ms) = both_small _ _ (small w s) (all_small w ms)
