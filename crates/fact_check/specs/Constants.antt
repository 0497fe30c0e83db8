-- The constants in the code of a module, as the values that they give (core specification, "Structure", "Values": the bits of a constant
-- are as many as its type has, which is so of each module that was read or made).
use Rattle.std.specs.Prelude.{List, [], ◌∷◌, ◌++◌, Some, None}
use Rattle.std.specs.List.{flat_map, AllByRecursion}
use Rattle.fact_wasm.specs.declared.instr.Instr.{Instr, fold-Instr}
use Rattle.fact_wasm.specs.declared.instr.Instr.TheOpen as o
use Rattle.fact_wasm.specs.declared.instr.Instr.TheOpen.{Instr-F}
use Rattle.fact_wasm.specs.declared.module.WasmModule.{WasmModule}
use Rattle.fact_machine.specs.declared.types.CoreValue.{CoreValue}
use Rattle.fact_machine.specs.declared.types.CoreValue.TheVariants.{I32, I64, F32, F64}
use Rattle.fact_machine.specs.Typed.{IsBits}

abbrev all : List (List CoreValue) → List CoreValue
all = flat_map (λ values. values)

abbrev pub constants_row : Instr-F (List CoreValue) → List CoreValue
constants_row (o.I32Const n) = I32 n ∷ []
constants_row (o.I64Const n) = I64 n ∷ []
constants_row (o.F32Const n) = F32 n ∷ []
constants_row (o.F64Const n) = F64 n ∷ []
constants_row (o.Block t body) = all body
constants_row (o.Loop t body) = all body
constants_row (o.TryTable t labels body) = all body
constants_row (o.If t body None) = all body
constants_row (o.If t body (Some other)) = all body ++ all other
constants_row _ = []

-- those of an instruction, in its bodies too
abbrev pub constants : Instr → List CoreValue
constants = fold-Instr (List CoreValue) constants_row

-- the bits of values are as many as their types have
abbrev pub AreBits : List CoreValue → Type 0
AreBits vs = AllByRecursion IsBits vs

-- So it is of the constants of code, and of those in the functions of a module.
abbrev pub AreTypedConstants : List Instr → Type 0
AreTypedConstants is = AllByRecursion (λ i. AreBits (constants i)) is

abbrev pub HasTypedConstants : WasmModule → Type 0
HasTypedConstants m = AllByRecursion (λ f. AreTypedConstants f.body) m.funcs
