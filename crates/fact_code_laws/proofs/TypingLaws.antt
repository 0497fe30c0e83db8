-- What is said of the operands of pieces of code, one behind another and instruction by instruction.
use Rattle.std.proofs.Common.{◌≡◌, List, [], ◌∷◌, ◌++◌, Some, refl, ap, ◌∙◌}
use Rattle.std.specs.Prelude.{option_and_then}
use Rattle.fact_wasm.specs.declared.types.ValType.{ValType}
use Rattle.fact_wasm.specs.declared.instr.Instr.{Instr, out-Instr}
use Rattle.fact_wasm.specs.declared.instr.Instr.TheOpen.{Instr-F}
use Rattle.fact_wasm.specs.declared.module.WasmModule.{WasmModule}
use Rattle.fact_machine.specs.Typing.{Known, Typing, typing, code_typing}
use Rattle.fact_machine.proofs.TypingRows.{typing_is, row_of, sequence_is}
use Rattle.fact_code_laws.specs.Typed.{OperandsBehind, OnStack, operands_behind, context, IsTyped}

module _ {M : WasmModule} {locals : List ValType} {labels : List (List ValType)} where
  -- no code
  pub typed_done : {ts : List ValType} → IsTyped M locals labels [] ts (OnStack ts)
  typed_done = record { by = λ outer below. refl }

  -- one piece of code and then another
  pub typed_then : {a b : List Instr} {ins mid : List ValType} {outs : OperandsBehind} → IsTyped M locals labels a ins (OnStack mid) → IsTyped M locals labels b mid outs → IsTyped M locals labels (a ++ b) ins outs
  typed_then {a} {b} {ins} {mid} {outs} x y = record {
    by = λ outer below.
        sequence_is (context M locals (labels ++ outer)) a b (Known (ins ++ below))
        ∙ ap (λ s. option_and_then (λ s'. code_typing (context M locals (labels ++ outer)) b s') s) (x.by outer below) ∙ y.by outer below;
  }

-- an instruction that takes these operands and gives those, in every context of these labels
pub record Takes (M : WasmModule) (locals : List ValType) (labels : List (List ValType)) (i : Instr) (ins : List ValType) (outs : OperandsBehind) : Type 0 where
  pub by : (outer : List (List ValType)) (below : List ValType) → typing i (context M locals (labels ++ outer)) (Known (ins ++ below)) ≡ Some (operands_behind outs below)

module _ {M : WasmModule} {locals : List ValType} {labels : List (List ValType)} {ins : List ValType} where
  -- an instruction by its row
  pub by_row : {i : Instr} {outs : OperandsBehind} (f : Instr-F Instr) → out-Instr i ≡ f → ((outer : List (List ValType)) (below : List ValType) → row_of f (context M locals (labels ++ outer)) (Known (ins ++ below)) ≡ Some (operands_behind outs below))
      → Takes M locals labels i ins outs
  by_row {i} f e h = record {
    by = λ outer below.
        ap (λ (x : Typing). x (context M locals (labels ++ outer)) (Known (ins ++ below))) (typing_is i)
        ∙ ap (λ g. row_of g (context M locals (labels ++ outer)) (Known (ins ++ below))) e ∙ h outer below;
  }

  -- an instruction, and code behind it
  pub typed_next : {i : Instr} {c : List Instr} {mid : List ValType} {outs : OperandsBehind} → Takes M locals labels i ins (OnStack mid) → IsTyped M locals labels c mid outs → IsTyped M locals labels (i ∷ c) ins outs
  typed_next {c = c} x y = record { by = λ outer below. ap (λ s. option_and_then (λ s'. code_typing (context M locals (labels ++ outer)) c s') s) (x.by outer below) ∙ y.by outer below }

  -- an instruction alone
  pub typed_one : {i : Instr} {outs : OperandsBehind} → Takes M locals labels i ins outs → IsTyped M locals labels (i ∷ []) ins outs
  typed_one {i} {outs} x = record { by = λ outer below. ap (λ s. option_and_then (λ s'. Some s') s) (x.by outer below) }
