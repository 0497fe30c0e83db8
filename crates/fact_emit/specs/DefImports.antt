-- Core definitions that a module imports as what they are used as.
use Rattle.std.specs.Prelude.{◌≡◌, ℕ, Option, None, Some}
use Rattle.fact_wasm.specs.declared.types.FuncType.{FuncType}
use Rattle.fact_wasm.specs.declared.module.WasmImport.{WasmImport}
use Rattle.fact_types.specs.declared.outside.CoreDef.{CoreDef}
use Rattle.fact_types.specs.declared.import.Import.TheVariants as known
use Rattle.fact_types.specs.ImportTypes.{callback_type, post_return_type, realloc_type}
use Rattle.fact_emit.specs.ImportSection.{Role, Flags, Storage, Realloc, Callback, Callee, PostReturn, StandsFor}
use Rattle.fact_emit.specs.States.{HasType, IsImported, ModuleSoFar}

-- the type of a function that is used so
abbrev pub type_of_role : Role → Option FuncType
type_of_role (Flags instance) = None
type_of_role (Storage wide page_size_log2) = None
type_of_role (Realloc wide) = Some (realloc_type wide)
type_of_role Callback = Some callback_type
type_of_role (Callee adapter ty) = Some ty
type_of_role (PostReturn adapter results) = Some (post_return_type results)

-- the type, if there is one, is among the types
abbrev pub HasTypeIfAny : (old new : ModuleSoFar) → Option FuncType → Type 0
HasTypeIfAny old new None = new ≡ old
HasTypeIfAny old new (Some ty) = HasType old new ty

-- A core definition is imported as what it is used as, and has this place among the imports of its kind. A new import has the
-- names and the type of this use.
pub record IsDefImported (old new : ModuleSoFar) (role : Role) (d : CoreDef) (place : ℕ) : Type 0 where
  pub typed : ModuleSoFar
  pub types : HasTypeIfAny old typed (type_of_role role)
  pub import : WasmImport
  pub stands : StandsFor typed.types old.section role import
  pub imported : IsImported typed new import (known.CoreDef d) place
