-- The types without members, and the values that numbers stand for: a number of bytes in memory, or a core value.
-- Component Model, canonical ABI, "Loading" (`load`) and "Flat Lifting" (`lift_flat`).
use Rattle.std.specs.Prelude.{ℤ, pos, negsuc, ℕ, ◌+◌, ◌-◌, ◌*◌, ◌/◌, ◌%◌, ◌^◌, nat_lt, nat_le, ◌==◌, List, [], ◌∷◌, length, Option, Some, None, Bool, if◌then◌else◌, ◌&&◌, ◌||◌}
use Rattle.fact_machine.specs.World.{number_at}
use Rattle.fact_types.specs.declared.interface.InterfaceType.{InterfaceType}
use Rattle.fact_types.specs.declared.interface.InterfaceType.TheVariants as ty
use Rattle.fact_values.specs.declared.value.HandleKind.{HandleKind}
use Rattle.fact_values.specs.declared.value.HandleKind.TheVariants.{Own, Borrow, ErrorContext}
use Rattle.fact_values.specs.declared.value.Value.{Value}
use Rattle.fact_values.specs.declared.value.Value.TheVariants as value

-- What a type without members is read as: a boolean, a number of so many bits, a float by its bits, a character, a text,
-- or a handle of a kind in a table.
pub data Plain : Type 0 where
  boolean : Plain
  unsigned : ℕ → Plain
  signed : ℕ → Plain
  float32 : Plain
  float64 : Plain
  character : Plain
  text : Plain
  handle : HandleKind → ℕ → Plain
  nothing : Plain

abbrev pub plain_of : InterfaceType → Plain
plain_of ty.Bool = boolean
plain_of ty.S8 = signed 8
plain_of ty.U8 = unsigned 8
plain_of ty.S16 = signed 16
plain_of ty.U16 = unsigned 16
plain_of ty.S32 = signed 32
plain_of ty.U32 = unsigned 32
plain_of ty.S64 = signed 64
plain_of ty.U64 = unsigned 64
plain_of ty.Float32 = float32
plain_of ty.Float64 = float64
plain_of ty.Char = character
plain_of ty.String = text
plain_of (ty.Own i) = handle Own i.number
plain_of (ty.Borrow i) = handle Borrow i.number
plain_of (ty.ErrorContext i) = handle ErrorContext i.number
plain_of _ = nothing

-- A number of so many bits in two's complement.
abbrev pub twos_complement : ℕ → ℕ → ℤ
twos_complement bits n = if nat_lt n (2 ^ (bits - 1)) then pos n else negsuc (2 ^ bits - 1 - n)

-- A scalar value of Unicode: no surrogate, and at most 0x10FFFF (`convert_i32_to_char`).
abbrev pub is_scalar_value : ℕ → Bool
is_scalar_value n = nat_lt n 0xD800 || (nat_le 0xE000 n && nat_lt n 0x110000)

-- The value that a number stands for. A boolean is true for every number but 0, and an integer is taken modulo its width.
abbrev pub value_of_number : Plain → ℕ → Option Value
value_of_number boolean n = Some (value.Bool (nat_lt 0 n))
value_of_number (unsigned bits) n = Some (value.Int (pos (n % 2 ^ bits)))
value_of_number (signed bits) n = Some (value.Int (twos_complement bits (n % 2 ^ bits)))
value_of_number float32 n = Some (value.Float32 n)
value_of_number float64 n = Some (value.Float64 n)
value_of_number character n = if is_scalar_value n then Some (value.Char n) else None
value_of_number (handle kind table) n = Some (value.Handle kind table n)
value_of_number text n = None
value_of_number nothing n = None

-- The flags of these names, the first by the lowest bit; bits past the last name count for nothing
-- (`unpack_flags_from_int`).
abbrev pub flags_of_number : List (List ℕ) → ℕ → List (List ℕ × Bool)
flags_of_number [] n = []
flags_of_number (x ∷ xs) n = (x, n % 2 == 1) ∷ flags_of_number xs (n / 2)

-- The number of the n bytes at an address, where they are all there.
abbrev pub number_in : List ℕ → ℕ → ℕ → Option ℕ
number_in bytes n address = if nat_le (address + n) (length bytes) then Some (number_at n bytes address) else None

-- The number that words of 32 bits make, the lowest first.
abbrev pub number_of_words : List ℕ → ℕ
number_of_words [] = 0
number_of_words (w ∷ ws) = w + 2 ^ 32 * number_of_words ws
