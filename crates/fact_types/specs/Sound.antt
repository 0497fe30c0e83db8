-- What every layout of a type keeps: places are multiples of a power of two, and so is the number of bytes, so that
-- elements can stand one after another.
use Rattle.std.specs.Prelude.{◌≡◌, ◌≤◌, ◌%◌}
use Rattle.std.specs.Int.{IsPowerOfTwo}
use Rattle.fact_types.specs.declared.abi.CanonicalAbiInfo.{CanonicalAbiInfo}
use Rattle.fact_types.specs.declared.extents.Extent.{Extent}
use Rattle.fact_types.specs.declared.extents.MemoryWidth.TheVariants.{Memory32, Memory64}
use Rattle.fact_types.specs.Layout.{extent}

pub record IsSoundExtent (e : Extent) : Type 0 where
  pub power : IsPowerOfTwo e.align
  pub divides : e.size % e.align ≡ 0

pub record IsSoundLayout (c : CanonicalAbiInfo) : Type 0 where
  pub memory32 : IsSoundExtent (extent Memory32 c)
  pub memory64 : IsSoundExtent (extent Memory64 c)

-- Values take at least one byte in either memory.
pub record TakesBytes (c : CanonicalAbiInfo) : Type 0 where
  pub memory32 : 1 ≤ c.size32
  pub memory64 : 1 ≤ c.size64
