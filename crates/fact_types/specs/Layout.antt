-- The layout of values in memory, in exact numbers without a limit, for one width of memory at a time.
-- Component Model, canonical ABI, "Alignment" and "Element Size".
use Rattle.std.specs.Prelude.{ℕ, ◌+◌, ◌*◌, ◌==◌, nat_le, max, List, [], ◌∷◌, length, map, replicate, Option, Some, None, if◌then◌else◌}
use Rattle.std.specs.Int.{div_ceil}
use Rattle.fact_types.specs.declared.abi.CanonicalAbiInfo.{CanonicalAbiInfo}
use Rattle.fact_types.specs.declared.sizes.DiscriminantSize.{DiscriminantSize}
use Rattle.fact_types.specs.declared.sizes.DiscriminantSize.TheVariants.{Size1 as one_byte, Size2 as two_bytes, Size4 as four_bytes}
use Rattle.fact_types.specs.declared.sizes.FlagsSize.{FlagsSize}
use Rattle.fact_types.specs.declared.sizes.FlagsSize.TheVariants.{Size0, Size1, Size2, Size4Plus}
use Rattle.fact_types.specs.declared.variants.VariantInfo.{VariantInfo}
use Rattle.fact_types.specs.declared.extents.Extent.{Extent}
use Rattle.fact_types.specs.declared.extents.MemoryWidth.{MemoryWidth}
use Rattle.fact_types.specs.declared.extents.MemoryWidth.TheVariants.{Memory32, Memory64}
use Rattle.fact_types.specs.Flat.{add_flat, times_flat, flat_sum, flat_greatest}

-- The bytes and the alignment that a layout has in a width of memory.
abbrev pub extent : MemoryWidth → CanonicalAbiInfo → Extent
extent Memory32 c = record { size = c.size32; align = c.align32 }
extent Memory64 c = record { size = c.size64; align = c.align64 }

abbrev pub extents : MemoryWidth → List CanonicalAbiInfo → List Extent
extents w cs = map (extent w) cs

-- The layout with these extents in 32-bit and in 64-bit memories, and this count of flat types.
abbrev pub layout : (MemoryWidth → Extent) → Option ℕ → CanonicalAbiInfo
layout e count = record {
  size32 = (e Memory32).size;
  align32 = (e Memory32).align;
  size64 = (e Memory64).size;
  align64 = (e Memory64).align;
  flat_count = count;
}

-- A value that takes no byte.
abbrev pub zero_layout : CanonicalAbiInfo
zero_layout = record { size32 = 0; align32 = 1; size64 = 0; align64 = 1; flat_count = Some 0 }

-- A number, a character or a handle of so many bytes, passed as one flat type.
abbrev pub scalar_layout : ℕ → CanonicalAbiInfo
scalar_layout n = record { size32 = n; align32 = n; size64 = n; align64 = n; flat_count = Some 1 }

-- A pointer and a length, each as wide as the addresses of the memory.
abbrev pub pointer_pair_layout : CanonicalAbiInfo
pointer_pair_layout = record { size32 = 8; align32 = 4; size64 = 16; align64 = 8; flat_count = Some 2 }

-- The least multiple of an alignment that is no less than a number (`align_to`).
unfoldable pub aligned : ℕ → ℕ → ℕ
aligned n a = div_ceil n a * a

-- The greatest of the alignments, 1 where there are none.
abbrev pub greatest_align : List Extent → ℕ
greatest_align [] = 1
greatest_align (e ∷ es) = max e.align (greatest_align es)

-- The greatest of the sizes, 0 where there are none.
abbrev pub greatest_size : List Extent → ℕ
greatest_size [] = 0
greatest_size (e ∷ es) = max e.size (greatest_size es)

-- Where fields end that stand one after another from a place on, each at the next multiple of its alignment.
abbrev pub end_of_fields : ℕ → List Extent → ℕ
end_of_fields n [] = n
end_of_fields n (e ∷ es) = end_of_fields (aligned n e.align + e.size) es

-- Records and tuples (`elem_size_record`, `alignment_record`).
abbrev pub record_extent : List Extent → Extent
record_extent es = record { size = aligned (end_of_fields 0 es) (greatest_align es); align = greatest_align es }

abbrev pub record_layout : List CanonicalAbiInfo → CanonicalAbiInfo
record_layout fs = layout (λ w. record_extent (extents w fs)) (flat_sum (map (λ f. f.flat_count) fs))

-- The discriminant of so many cases (`discriminant_type`): the fewest of 1, 2 and 4 bytes that tell them apart.
abbrev pub discriminant_size : ℕ → DiscriminantSize
discriminant_size n = if nat_le n 256 then one_byte else (if nat_le n 65536 then two_bytes else four_bytes)

abbrev pub discriminant_bytes : DiscriminantSize → ℕ
discriminant_bytes one_byte = 1
discriminant_bytes two_bytes = 2
discriminant_bytes four_bytes = 4

-- The payloads of the cases that have one.
abbrev pub payloads : {A : Type 0} → List (Option A) → List A
payloads [] = []
payloads (None ∷ cs) = payloads cs
payloads (Some p ∷ cs) = p ∷ payloads cs

-- Where the payload begins behind a discriminant of d bytes: it is aligned for every case (`max_case_alignment`).
abbrev pub payload_offset : ℕ → List Extent → ℕ
payload_offset d ps = aligned d (greatest_align ps)

-- Variants (`elem_size_variant`, `alignment_variant`): the discriminant, and room for the greatest payload.
abbrev pub variant_extent : ℕ → List Extent → Extent
variant_extent d ps = record {
  size = aligned (payload_offset d ps + greatest_size ps) (max d (greatest_align ps));
  align = max d (greatest_align ps);
}

abbrev pub variant_layout : List (Option CanonicalAbiInfo) → CanonicalAbiInfo
variant_layout cs =
    layout
    (λ w. variant_extent (discriminant_bytes (discriminant_size (length cs))) (extents w (payloads cs)))
    (add_flat (Some 1) (flat_greatest (map (λ p. p.flat_count) (payloads cs))))

abbrev pub variant_info : List (Option CanonicalAbiInfo) → VariantInfo
variant_info cs = record {
  size = discriminant_size (length cs);
  payload_offset32 = payload_offset (discriminant_bytes (discriminant_size (length cs))) (extents Memory32 (payloads cs));
  payload_offset64 = payload_offset (discriminant_bytes (discriminant_size (length cs))) (extents Memory64 (payloads cs));
}

-- An enum is a variant without payloads ("Despecialization").
abbrev pub enum_layout : ℕ → CanonicalAbiInfo
enum_layout n = variant_layout (replicate n None)

-- Lists of a fixed length (`elem_size_list`): the elements one after another.
abbrev pub fixed_list_extent : Extent → ℕ → Extent
fixed_list_extent e n = record { size = e.size * n; align = e.align }

abbrev pub fixed_list_layout : CanonicalAbiInfo → ℕ → CanonicalAbiInfo
fixed_list_layout c n = layout (λ w. fixed_list_extent (extent w c) n) (times_flat c.flat_count n)

-- The room for so many flags (`elem_size_flags`): none, a byte, two, or 4 bytes for each 32 or part of them.
abbrev pub flags_size : ℕ → FlagsSize
flags_size n =
    if n == 0 then Size0 else (if nat_le n 8 then Size1 else (if nat_le n 16 then Size2 else Size4Plus (div_ceil n 32)))

abbrev pub flags_extent : FlagsSize → Extent
flags_extent Size0 = record { size = 0; align = 1 }
flags_extent Size1 = record { size = 1; align = 1 }
flags_extent Size2 = record { size = 2; align = 2 }
flags_extent (Size4Plus words) = record { size = words * 4; align = 4 }

-- The i32s that stand for flags (`flatten_flags`).
abbrev pub flags_flat : FlagsSize → ℕ
flags_flat Size0 = 0
flags_flat Size1 = 1
flags_flat Size2 = 1
flags_flat (Size4Plus words) = words

abbrev pub flags_layout : ℕ → CanonicalAbiInfo
flags_layout n = layout (λ w. flags_extent (flags_size n)) (Some (flags_flat (flags_size n)))
