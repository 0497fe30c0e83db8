-- Parts of places.
use Rattle.std.specs.Prelude.{ℕ, ◌+◌, min, take, drop}
use Rattle.fact_types.specs.declared.extents.MemoryWidth.{MemoryWidth}
use Rattle.fact_types.specs.declared.extents.MemoryWidth.TheVariants.{Memory32, Memory64}
use Rattle.fact_code_laws.specs.Places.{From, InLocals, InMemory, To, ToLocals, ToMemory}

-- The largest offset is 2 to the power of 32 less 1.
abbrev pub offset_on : ℕ → ℕ → ℕ
offset_on a b = min (a + b) 4294967295

-- so many slots behind so many, and so many bytes on
abbrev pub from_behind : (skip count bytes : ℕ) → From → From
from_behind skip count bytes (InLocals slots) = InLocals (take count (drop skip slots))
from_behind skip count bytes (InMemory memory base offset) = InMemory memory base (offset_on offset bytes)

abbrev pub to_behind : (skip count bytes : ℕ) → To → To
to_behind skip count bytes (ToLocals slots) = ToLocals (take count (drop skip slots))
to_behind skip count bytes (ToMemory memory base offset) = ToMemory memory base (offset_on offset bytes)

-- the one of two numbers that a width of memory has
abbrev pub bytes_by : MemoryWidth → (memory32 memory64 : ℕ) → ℕ
bytes_by Memory32 a b = a
bytes_by Memory64 a b = b
