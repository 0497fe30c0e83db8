-- Flat types: the core types that stand for a value, and how many of them.
-- Component Model, canonical ABI, "Flattening".
use Rattle.std.specs.Prelude.{ℕ, ◌+◌, ◌*◌, nat_le, max, List, [], ◌∷◌, Option, Some, None, if◌then◌else◌}
use Rattle.fact_wasm.specs.declared.types.ValType.{ValType}
use Rattle.fact_wasm.specs.declared.types.ValType.TheVariants as V
use Rattle.fact_types.specs.declared.flats.FlatType.{FlatType}
use Rattle.fact_types.specs.declared.flats.FlatType.TheVariants.{I32, I64, F32, F64}

-- More than 16 flat types are none: the value goes through memory.
abbrev pub flat_within : ℕ → Option ℕ
flat_within n = if nat_le n 16 then Some n else None

-- The flat types of two values, one behind the other.
abbrev pub add_flat : Option ℕ → Option ℕ → Option ℕ
add_flat None b = None
add_flat (Some a) None = None
add_flat (Some a) (Some b) = flat_within (a + b)

-- The flat types of n values of one type (`flatten_list`).
abbrev pub times_flat : Option ℕ → ℕ → Option ℕ
times_flat None n = None
times_flat (Some a) n = flat_within (a * n)

-- The flat types of fields, one behind the other (`flatten_record`).
abbrev pub flat_sum : List (Option ℕ) → Option ℕ
flat_sum [] = Some 0
flat_sum (c ∷ cs) = add_flat c (flat_sum cs)

-- The more flat types of two payloads.
abbrev pub greater_flat : Option ℕ → Option ℕ → Option ℕ
greater_flat None b = None
greater_flat (Some a) None = None
greater_flat (Some a) (Some b) = Some (max a b)

-- The flat types that stand for any of the payloads, place by place (`flatten_variant`).
abbrev pub flat_greatest : List (Option ℕ) → Option ℕ
flat_greatest [] = Some 0
flat_greatest (c ∷ cs) = greater_flat c (flat_greatest cs)

-- A core type that can hold values of both types (`join`).
abbrev pub join : FlatType → FlatType → FlatType
join I32 I32 = I32
join I64 I64 = I64
join F32 F32 = F32
join F64 F64 = F64
join I32 F32 = I32
join F32 I32 = I32
join a b = I64

-- The value type of a flat type.
abbrev pub value_type : FlatType → ValType
value_type I32 = V.I32
value_type I64 = V.I64
value_type F32 = V.F32
value_type F64 = V.F64
