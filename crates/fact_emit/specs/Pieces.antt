-- What is said of pieces of code that functions write.
use Rattle.std.specs.Prelude.{◌≡◌, List, ◌++◌}
use Rattle.fact_wasm.specs.declared.types.ValType.{ValType}
use Rattle.fact_wasm.specs.declared.instr.Instr.{Instr}
use Rattle.fact_wasm.specs.declared.module.WasmModule.{WasmModule}
use Rattle.fact_actions.specs.Running.{ImportPlaces}

-- what is said of a piece of code in a module, at its places of imports, in a function with locals of these types
abbrev pub Piece : Type 1
Piece = WasmModule → ImportPlaces → List ValType → List Instr → Type 0

-- it is this code
abbrev pub Is : List Instr → Piece
Is xs M p locals code = code ≡ xs

-- one piece of code behind another one
pub record Both (P Q : Piece) (M : WasmModule) (p : ImportPlaces) (locals : List ValType) (code : List Instr) : Type 0 where
  pub first : List Instr
  pub second : List Instr
  pub first_holds : P M p locals first
  pub second_holds : Q M p locals second
  pub is : code ≡ first ++ second
