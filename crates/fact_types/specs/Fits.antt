-- When a layout can be told in 32 bits: each alignment is a power of two, and each exact number of its rule is at most
-- 4,294,967,295. The numbers of a rule only grow, so that the last of them decides.
use Rattle.std.specs.Prelude.{ℕ, ◌+◌, ◌≤◌, List, length, All, Option, IfSome}
use Rattle.std.specs.Int.{IsPowerOfTwo}
use Rattle.fact_types.specs.declared.abi.CanonicalAbiInfo.{CanonicalAbiInfo}
use Rattle.fact_types.specs.declared.extents.Extent.{Extent}
use Rattle.fact_types.specs.declared.extents.MemoryWidth.{MemoryWidth}
use Rattle.fact_types.specs.declared.extents.MemoryWidth.TheVariants.{Memory32, Memory64}
use Rattle.fact_types.specs.Layout.{extent, extents, aligned, record_extent, discriminant_size, discriminant_bytes, payloads, variant_extent, fixed_list_extent}

-- A field ends within bounds behind a place.
pub record FieldFits (e : Extent) (n : ℕ) : Type 0 where
  pub power : IsPowerOfTwo e.align
  pub within : aligned n e.align + e.size ≤ 4294967295

-- Fields make a record within bounds, in a width of memory.
pub record FieldsFit (w : MemoryWidth) (fs : List CanonicalAbiInfo) : Type 0 where
  pub powers : All (λ f. IsPowerOfTwo (extent w f).align) fs
  pub within : (record_extent (extents w fs)).size ≤ 4294967295

pub record RecordFits (fs : List CanonicalAbiInfo) : Type 0 where
  pub memory32 : FieldsFit Memory32 fs
  pub memory64 : FieldsFit Memory64 fs

-- Cases make a variant within bounds, in a width of memory.
pub record CasesFit (w : MemoryWidth) (cs : List (Option CanonicalAbiInfo)) : Type 0 where
  pub powers : All (λ c. IfSome c (λ p. IsPowerOfTwo (extent w p).align)) cs
  pub within : (variant_extent (discriminant_bytes (discriminant_size (length cs))) (extents w (payloads cs))).size ≤ 4294967295

pub record VariantFits (cs : List (Option CanonicalAbiInfo)) : Type 0 where
  pub cases : length cs ≤ 4294967295
  pub memory32 : CasesFit Memory32 cs
  pub memory64 : CasesFit Memory64 cs

-- Elements make a list within bounds, in a width of memory.
pub record ElementsFit (e : Extent) (n : ℕ) : Type 0 where
  pub power : IsPowerOfTwo e.align
  pub within : (fixed_list_extent e n).size ≤ 4294967295

pub record FixedListFits (c : CanonicalAbiInfo) (n : ℕ) : Type 0 where
  pub count : n ≤ 4294967295
  pub memory32 : ElementsFit (extent Memory32 c) n
  pub memory64 : ElementsFit (extent Memory64 c) n
