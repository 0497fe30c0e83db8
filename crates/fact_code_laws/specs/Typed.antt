-- What is said of the operands of a piece of code: that it is typed wherever it stands (core specification, "Validation",
-- "Instruction Sequences").
use Rattle.std.specs.Prelude.{◌≡◌, List, [], ◌++◌, Some}
use Rattle.fact_wasm.specs.declared.types.ValType.{ValType}
use Rattle.fact_wasm.specs.declared.instr.Instr.{Instr}
use Rattle.fact_wasm.specs.declared.module.WasmModule.{WasmModule}
use Rattle.fact_machine.specs.Typing.{Operands, Known, Open, Context, code_typing}

-- what code behind a piece of code finds on the stack, the topmost first, or that it is not reached
pub data OperandsBehind : Type 0 where
  OnStack : List ValType → OperandsBehind
  Never : OperandsBehind

abbrev pub operands_behind : OperandsBehind → (below : List ValType) → Operands
operands_behind (OnStack ts) below = Known (ts ++ below)
operands_behind Never below = Open []

abbrev pub context : WasmModule → List ValType → List (List ValType) → Context
context M locals labels = record { whole = M; locals = locals; labels = labels }

-- With these locals and these labels around it, and any labels around those, above any operands the code takes these operands.
pub record IsTyped (M : WasmModule) (locals : List ValType) (labels : List (List ValType)) (code : List Instr) (ins : List ValType) (outs : OperandsBehind) : Type 0 where
  pub by : (outer : List (List ValType)) (below : List ValType) → code_typing (context M locals (labels ++ outer)) code (Known (ins ++ below)) ≡ Some (operands_behind outs below)
