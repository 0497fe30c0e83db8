-- What is done for parameters that are handed on as they are: each has one core value, which is carried as it stands.
use Rattle.std.specs.Prelude.{ℕ, zero, suc}
use Rattle.fact_wasm.specs.declared.types.ValType.{ValType}
use Rattle.fact_wasm.specs.declared.types.ValType.TheVariants as val
use Rattle.fact_types.specs.declared.interface.InterfaceType.{InterfaceType}
use Rattle.fact_types.specs.declared.interface.InterfaceType.TheVariants as ty
use Rattle.fact_actions.specs.Actions.{Action, Visit}

-- the core types of the numbers of 32 and of 64 bits
abbrev pub core_type_of : InterfaceType → ValType
core_type_of ty.S32 = val.I32
core_type_of ty.U32 = val.I32
core_type_of ty.S64 = val.I64
core_type_of ty.U64 = val.I64
core_type_of ty.Float32 = val.F32
core_type_of ty.Float64 = val.F64
core_type_of _ = val.FuncRef

-- an action that visits so many nodes first
abbrev pub visits : {A : Type 0} → ℕ → Action A → Action A
visits zero q = q
visits (suc n) q = Visit 1 (visits n q)
