-- What stands around the code of a payload: the number of its case, and zeros in the slots that it leaves over.
use Rattle.std.specs.Prelude.{ℕ, List, [], ◌∷◌, ◌++◌}
use Rattle.fact_wasm.specs.declared.types.ValType.{ValType}
use Rattle.fact_wasm.specs.declared.types.ValType.TheVariants as val
use Rattle.fact_wasm.specs.declared.instr.Instr.{Instr}
use Rattle.fact_wasm.specs.declared.instr.Instr.TheVariants as I
use Rattle.fact_code_laws.specs.Places.{Slot, To, ToLocals, ToMemory, Number, code_before, code_behind}

-- the discriminant, which is the number of a case, into its place
abbrev pub discriminant_code : Number → (number : ℕ) → To → List Instr
discriminant_code n number to = code_before to ++ (I.I32Const number ∷ code_behind n to)

abbrev pub zero_const : ValType → Instr
zero_const val.I64 = I.I64Const 0
zero_const val.F32 = I.F32Const 0
zero_const val.F64 = I.F64Const 0
zero_const _ = I.I32Const 0

abbrev pub zero_slots : List Slot → List Instr
zero_slots [] = []
zero_slots (s ∷ ss) = zero_const s.1 ∷ I.LocalSet s.0 ∷ zero_slots ss

-- zeros in slots
abbrev pub zero_code : To → List Instr
zero_code (ToLocals slots) = zero_slots slots
zero_code (ToMemory memory base offset) = []
