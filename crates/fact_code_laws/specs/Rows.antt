-- The loads and stores of numbers, as tables: an instruction, the bytes that it moves, the value or number that it makes of them,
-- and its natural alignment (core specification, "Instructions", "Memory Instructions").
use Rattle.std.specs.Prelude.{ℕ}
use Rattle.fact_wasm.specs.declared.types.ValType.{ValType}
use Rattle.fact_wasm.specs.declared.types.ValType.TheVariants as val
use Rattle.fact_wasm.specs.declared.instr.MemArg.{MemArg}
use Rattle.fact_wasm.specs.declared.instr.Instr.{Instr}
use Rattle.fact_wasm.specs.declared.instr.Instr.TheVariants as I
use Rattle.fact_machine.specs.declared.types.CoreValue.{CoreValue}
use Rattle.fact_machine.specs.declared.types.CoreValue.TheVariants.{I32, I64}

pub data Load : Type 0 where
  LoadI32 : Load
  LoadI64 : Load
  LoadU8 : Load
  LoadU16 : Load

pub data Store : Type 0 where
  StoreI32 : Store
  StoreI64 : Store
  StoreI8 : Store
  StoreI16 : Store

abbrev pub load_code : Load → MemArg → Instr
load_code LoadI32 m = I.I32Load m
load_code LoadI64 m = I.I64Load m
load_code LoadU8 m = I.I32Load8U m
load_code LoadU16 m = I.I32Load16U m

-- the exponent of its natural alignment
abbrev pub load_align : Load → ℕ
load_align LoadI32 = 2
load_align LoadI64 = 3
load_align LoadU8 = 0
load_align LoadU16 = 1

abbrev pub load_size : Load → ℕ
load_size LoadI32 = 4
load_size LoadI64 = 8
load_size LoadU8 = 1
load_size LoadU16 = 2

abbrev pub loaded_value : Load → ℕ → CoreValue
loaded_value LoadI32 n = I32 n
loaded_value LoadI64 n = I64 n
loaded_value LoadU8 n = I32 n
loaded_value LoadU16 n = I32 n

abbrev pub load_type : Load → ValType
load_type LoadI32 = val.I32
load_type LoadI64 = val.I64
load_type LoadU8 = val.I32
load_type LoadU16 = val.I32

abbrev pub store_code : Store → MemArg → Instr
store_code StoreI32 m = I.I32Store m
store_code StoreI64 m = I.I64Store m
store_code StoreI8 m = I.I32Store8 m
store_code StoreI16 m = I.I32Store16 m

abbrev pub store_align : Store → ℕ
store_align StoreI32 = 2
store_align StoreI64 = 3
store_align StoreI8 = 0
store_align StoreI16 = 1

abbrev pub store_size : Store → ℕ
store_size StoreI32 = 4
store_size StoreI64 = 8
store_size StoreI8 = 1
store_size StoreI16 = 2

-- the value of a number that it stores
abbrev pub stored_value : Store → ℕ → CoreValue
stored_value StoreI32 n = I32 n
stored_value StoreI64 n = I64 n
stored_value StoreI8 n = I32 n
stored_value StoreI16 n = I32 n

abbrev pub store_type : Store → ValType
store_type StoreI32 = val.I32
store_type StoreI64 = val.I64
store_type StoreI8 = val.I32
store_type StoreI16 = val.I32
