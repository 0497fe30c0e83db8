-- Laws of typed values, states and answers: each test passes exactly what it is to pass.
use Rattle.std.specs.Prelude.{◌↔◌, ℕ, IsTrue}
use Rattle.fact_wasm.specs.declared.types.ValType.{ValType}
use Rattle.fact_wasm.specs.declared.module.WasmModule.{WasmModule}
use Rattle.fact_machine.specs.declared.types.CoreValue.{CoreValue}
use Rattle.fact_machine.specs.declared.types.MachineState.{MachineState}
use Rattle.fact_machine.specs.declared.types.Answer.{Answer}
use Rattle.fact_machine.specs.Typed.{IsValue, TypedState, TypedAnswer, is_value, is_typed_state, is_typed_answer}

abbrev pub TestsValue : Type 0
TestsValue = (v : CoreValue) (t : ValType) → IsTrue (is_value v t) ↔ IsValue v t

abbrev pub TestsState : Type 0
TestsState = (m : WasmModule) (s : MachineState) → IsTrue (is_typed_state m s) ↔ TypedState m s

abbrev pub TestsAnswer : Type 0
TestsAnswer = (m : WasmModule) (f : ℕ) (before : MachineState) (a : Answer) → IsTrue (is_typed_answer m f before a) ↔ TypedAnswer m f before a
