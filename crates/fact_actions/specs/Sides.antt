-- The two sides of a transfer of values, and the places where values stand (canonical ABI, "Canonical ABI options",
-- `LiftLowerContext`).
use Rattle.std.specs.Prelude.{ℕ, ◌+◌, ◌*◌, ◌%◌, ◌^◌, Bool, true, false, List, [], ◌∷◌, ◌++◌, take, drop, Option, Some, None, nat_lt, nat_le, nat_eq, if◌then◌else◌}
use Rattle.fact_wasm.specs.declared.types.ValType.{ValType}
use Rattle.fact_wasm.specs.declared.types.ValType.TheVariants as val
use Rattle.fact_types.specs.declared.outside.CoreDef.{CoreDef}
use Rattle.fact_types.specs.declared.outside.MemoryOption.{MemoryOption}
use Rattle.fact_types.specs.declared.outside.StringEncoding.{StringEncoding}
use Rattle.fact_types.specs.declared.outside.Trap.{Trap}
use Rattle.fact_types.specs.declared.outside.Trap.TheVariants.{UnalignedPointer, DebugAssertUpperBitsUnset}
use Rattle.fact_types.specs.declared.outside.UnsafeIntrinsic.TheVariants as slot
use Rattle.fact_types.specs.declared.extents.MemoryWidth.{MemoryWidth}
use Rattle.fact_types.specs.Adapters.{Side, is_wide}
use Rattle.fact_types.specs.Signatures.{address as pointer_type, pointer_bytes}
use Rattle.fact_machine.specs.declared.types.CoreValue.{CoreValue}
use Rattle.fact_machine.specs.declared.types.CoreValue.TheVariants.{I32, I64, F32, F64}
use Rattle.fact_machine.specs.Typing.{address_bits, address_operand}
use Rattle.fact_types.specs.declared.import.Import.TheVariants as import
use Rattle.fact_values.specs.declared.side.SideAbi.{SideAbi}
use Rattle.fact_values.specs.Lift.{bits_of}
use Rattle.fact_values.specs.Places.{width_of}
use Rattle.fact_actions.specs.Actions.{Action, Give, Read, Write, MemoryLength, Ask, Unreachable, ◌>>=◌, unless}

-- How a side keeps values in memory: all that a move asks of a side.
pub record LiftLowerOptions : Type 0 where
  pub encoding : StringEncoding
  pub memory : Option MemoryOption
  pub realloc : Option CoreDef

abbrev pub options_of : Side → LiftLowerOptions
options_of s = record { encoding = s.encoding; memory = s.memory; realloc = s.realloc }

-- values go from one side to the other
pub record Transfer : Type 0 where
  pub from : LiftLowerOptions
  pub to : LiftLowerOptions
  pub concurrency : Bool
  pub debug : Bool

-- where a value stands: in core values, or at an address of its side's memory
pub data Source : Type 0 where
  Values : List CoreValue → Source
  AtAddress : (address : ℕ) → Source

-- where a value goes: to core values of these types, or to an address of its side's memory
pub data Target : Type 0 where
  Slots : List ValType → Target
  Into : (address : ℕ) → Target

-- ---- core values

-- the core value of a type with a number as its bits
abbrev pub core_value : ValType → ℕ → CoreValue
core_value val.I32 n = I32 n
core_value val.I64 n = I64 n
core_value val.F32 n = F32 n
core_value val.F64 n = F64 n
core_value val.FuncRef n = I32 0

abbrev pub zeros : List ValType → List CoreValue
zeros [] = []
zeros (t ∷ ts) = core_value t 0 ∷ zeros ts

abbrev pub first_bits : List CoreValue → ℕ
first_bits [] = 0
first_bits (v ∷ vs) = bits_of v

-- A number of 64 bits where 32 bits are asked for is read by its low half; with debug checks the rest has to be 0.
abbrev pub low_half : {A : Type 0} → Bool → CoreValue → (ℕ → Action A) → Action A
low_half true (I64 n) k = unless DebugAssertUpperBitsUnset (nat_lt n (2 ^ 32)) (k (n % 2 ^ 32))
low_half true (F64 n) k = unless DebugAssertUpperBitsUnset (nat_lt n (2 ^ 32)) (k (n % 2 ^ 32))
low_half debug v k = k (bits_of v % 2 ^ 32)

-- a number of so many bytes among core values
abbrev pub in_value : {A : Type 0} → Bool → ℕ → List CoreValue → (ℕ → Action A) → Action A
in_value debug size [] k = Unreachable
in_value debug size (v ∷ vs) k = if nat_eq size 8 then k (bits_of v) else low_half debug v k

-- ---- memories

abbrev pub with_memory : {A : Type 0} → LiftLowerOptions → (MemoryOption → Action A) → Action A
with_memory o k = elim o.memory [ None ↦ Unreachable | Some m ↦ k m ]

-- by what the values of a side are read
abbrev pub side_abi : LiftLowerOptions → SideAbi
side_abi o = record { memory64 = is_wide o.memory; encoding = o.encoding }

abbrev pub width_of_side : LiftLowerOptions → MemoryWidth
width_of_side o = width_of (side_abi o)

-- the bytes of addresses, their type, and an address
abbrev pub bytes_of_addresses : LiftLowerOptions → ℕ
bytes_of_addresses o = pointer_bytes (width_of_side o)

abbrev pub type_of_addresses : LiftLowerOptions → ValType
type_of_addresses o = pointer_type (is_wide o.memory)

abbrev pub address_value : LiftLowerOptions → ℕ → CoreValue
address_value o n = address_operand (is_wide o.memory) n

-- modulo the width of addresses
abbrev pub wrap : LiftLowerOptions → ℕ → ℕ
wrap o n = n % 2 ^ address_bits (is_wide o.memory)

-- a number of so many bytes at a source
abbrev pub read_number : {A : Type 0} → Bool → LiftLowerOptions → ℕ → Source → (ℕ → Action A) → Action A
read_number debug o size (Values vs) k = in_value debug size vs k
read_number debug o size (AtAddress a) k = with_memory o (λ m. Read size m.def a k)

-- a number of so many bytes put at a target, and the core values that it is there
abbrev pub write_number : LiftLowerOptions → ℕ → Target → ℕ → Action (List CoreValue)
write_number o size (Slots []) n = Give []
write_number o size (Slots (t ∷ ts)) n = Give (core_value t n ∷ [])
write_number o size (Into a) n = with_memory o (λ m. Write size m.def a n (Give []))

-- the nth of parts of so many core values and so many bytes each
abbrev pub nth_part : (flats bytes n : ℕ) → Source → Source
nth_part flats bytes n (Values vs) = Values (take flats (drop (n * flats) vs))
nth_part flats bytes n (AtAddress a) = AtAddress (a + n * bytes)

abbrev pub nth_spot : (flats bytes n : ℕ) → Target → Target
nth_spot flats bytes n (Slots ts) = Slots (take flats (drop (n * flats) ts))
nth_spot flats bytes n (Into a) = Into (a + n * bytes)

-- a pointer and a length, which are as wide as the addresses of their side
abbrev pub read_pair : {A : Type 0} → Bool → LiftLowerOptions → Source → (pointer_then_length : ℕ → ℕ → Action A) → Action A
read_pair debug o s k =
    read_number debug o (bytes_of_addresses o) (nth_part 1 (bytes_of_addresses o) 0 s) (λ p.
    read_number debug o (bytes_of_addresses o) (nth_part 1 (bytes_of_addresses o) 1 s) (λ n. k p n))

abbrev pub write_pair : LiftLowerOptions → Target → (pointer length : ℕ) → Action (List CoreValue)
write_pair o d p n =
    write_number o (bytes_of_addresses o) (nth_spot 1 (bytes_of_addresses o) 0 d) p >>= (λ a.
    write_number o (bytes_of_addresses o) (nth_spot 1 (bytes_of_addresses o) 1 d) n >>= (λ b. Give (a ++ b)))

-- A region of so many bytes at a pointer: it is aligned, and lies within the memory.
abbrev pub check_region : {A : Type 0} → LiftLowerOptions → Trap → (pointer bytes align : ℕ) → Action A → Action A
check_region o t pointer bytes align p =
    unless UnalignedPointer (nat_eq (pointer % align) 0) (with_memory o (λ m. MemoryLength m.def (λ length. unless t (nat_le (pointer + bytes) length) p)))

-- ---- realloc

abbrev pub get_slots : {A : Type 0} → Bool → (List CoreValue → List CoreValue → Action A) → Action A
get_slots false k = k [] []
get_slots true k = Ask (import.UnsafeIntrinsic slot.ContextGetI32_0) [] (val.I32 ∷ []) (λ a. Ask (import.UnsafeIntrinsic slot.ContextGetI32_1) [] (val.I32 ∷ []) (λ b. k a b))

abbrev pub set_slots : {A : Type 0} → Bool → List CoreValue → List CoreValue → Action A → Action A
set_slots false a b p = p
set_slots true a b p = Ask (import.UnsafeIntrinsic slot.ContextSetI32_0) a [] (λ r. Ask (import.UnsafeIntrinsic slot.ContextSetI32_1) b [] (λ s. p))

-- Realloc of a region, behind which the answer is checked. With concurrency on the slots of the context are 0 during the call.
abbrev pub reallocate : {A : Type 0} → Bool → LiftLowerOptions → Trap → (old old_size align new_size : ℕ) → (ℕ → Action A) → Action A
reallocate concurrency o t old old_size align new_size k =
    elim o.realloc [
      | None ↦ Unreachable
      | Some f ↦
          get_slots concurrency (λ a b. set_slots concurrency (I32 0 ∷ []) (I32 0 ∷ [])
          (Ask (import.CoreDef f) (address_value o old ∷ address_value o old_size ∷ address_value o align ∷ address_value o new_size ∷ []) (type_of_addresses o ∷ []) (λ rs.
          set_slots concurrency a b (check_region o t (first_bits rs) new_size align (k (first_bits rs))))))
    ]
