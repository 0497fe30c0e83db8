-- The code of lists: their byte lengths, their regions, and addresses that go on.
use Rattle.std.specs.Prelude.{ℕ, ◌+◌, ◌-◌, ◌/◌, ◌^◌, nat_eq, Bool, true, false, ◌&&◌, not, List, [], ◌∷◌, ◌++◌}
use Rattle.fact_wasm.specs.declared.types.ValType.TheVariants as val
use Rattle.fact_wasm.specs.declared.instr.FuncName.TheVariants as func
use Rattle.fact_wasm.specs.declared.instr.Instr.{Instr}
use Rattle.fact_wasm.specs.declared.instr.Instr.TheVariants as I
use Rattle.fact_code_laws.specs.Code.{guard_code, scaled_code}
use Rattle.fact_code_laws.specs.Places.{To, narrow, code_before, code_behind}
use Rattle.fact_code_laws.specs.Tests.{pointer_of_width}

-- whether a number of things of a size have fewer than 2 to the power of 32 bytes
abbrev pub few_code : (number size : ℕ) → List Instr
few_code number size = I.LocalGet number ∷ I.I64Const ((2 ^ 32 - 1) / size + 1) ∷ I.I64LtU ∷ []

-- their bytes
abbrev pub bytes_code : (number size : ℕ) → List Instr
bytes_code number size = I.LocalGet number ∷ scaled_code size

-- a number of things of a size have fewer than 2 to the power of 32 bytes, which needs no test where they are single bytes and the
-- addresses of their side have 32 bits
abbrev pub is_few : (memory64 : Bool) → (size : ℕ) → Bool
is_few memory64 size = not memory64 && nat_eq size 1

abbrev pub few_guard : (few : Bool) → (number size place : ℕ) → List Instr
few_guard true number size place = []
few_guard false number size place = guard_code (few_code number size) place

-- a number, and a sum, of a width of addresses
abbrev pub const_code : Bool → ℕ → Instr
const_code true n = I.I64Const n
const_code false n = I.I32Const n

abbrev pub add_code : Bool → Instr
add_code true = I.I64Add
add_code false = I.I32Add

-- an address goes on by a size
abbrev pub bump_code : Bool → (local size : ℕ) → List Instr
bump_code memory64 local size = I.LocalGet local ∷ const_code memory64 size ∷ add_code memory64 ∷ I.LocalSet local ∷ []

-- one turn less is left
abbrev pub count_code : ℕ → List Instr
count_code local = I.LocalGet local ∷ I.I64Const 1 ∷ I.I64Sub ∷ I.LocalSet local ∷ []

-- whether no turn is left
abbrev pub left_code : ℕ → List Instr
left_code local = I.LocalGet local ∷ I.I64Eqz ∷ []

-- an address out of an i64
abbrev pub address_code : Bool → ℕ → List Instr
address_code memory64 i = I.LocalGet i ∷ narrow (pointer_of_width memory64) val.I64

-- a new region is asked for
abbrev pub ask_code : Bool → (align bytes place : ℕ) → List Instr
ask_code memory64 align bytes place = const_code memory64 0 ∷ const_code memory64 0 ∷ const_code memory64 align ∷ (address_code memory64 bytes ++ I.Call (func.Import place) ∷ [])

-- a number as wide as addresses, out of a local into a place
abbrev pub put_code : Bool → ℕ → To → List Instr
put_code memory64 local to = code_before to ++ (address_code memory64 local ++ code_behind (pointer_of_width memory64) to)
