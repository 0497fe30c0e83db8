-- A function is put into a module that is being made.
use Rattle.std.specs.Prelude.{◌≡◌, ℕ, List, [], ◌∷◌, ◌++◌}
use Rattle.fact_wasm.specs.declared.module.WasmFunc.{WasmFunc}
use Rattle.fact_wasm.specs.declared.types.FuncType.{FuncType}
use Rattle.fact_emit.specs.Brought.{Brought}
use Rattle.fact_emit.specs.Imports.{Extended}
use Rattle.fact_emit.specs.States.{HasType, ModuleSoFar, with_exported}

-- A function is put behind the functions of the module, and its export, under this name, behind the exports. Before that its type is
-- declared, and its code brings in functions of the runtime.
pub record PutsFunction (name : List ℕ) (old new : ModuleSoFar) (function : WasmFunc) : Type 0 where
  pub ty : FuncType
  pub declared : ModuleSoFar
  pub declares : HasType old declared ty
  pub written : ModuleSoFar
  pub brought : Brought declared written function.body
  pub is_last : new ≡ with_exported written name function
  pub functions : new.functions ≡ old.functions ++ function ∷ []
  pub imports : Extended old new
