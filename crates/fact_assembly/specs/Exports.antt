-- What a module of adapters exports.
use Rattle.std.specs.Prelude.{◌≡◌, ℕ, List, [], ◌∷◌, ◌++◌, Option, Some, None, slice_get, if◌then◌else◌}
use Rattle.std.specs.Str.{bytes_eq}
use Rattle.std.specs.List.{flat_map}
use Rattle.fact_wasm.specs.declared.types.FuncType.{FuncType}
use Rattle.fact_wasm.specs.declared.instr.FuncName.{FuncName}
use Rattle.fact_wasm.specs.declared.instr.FuncName.TheVariants as func
use Rattle.fact_wasm.specs.declared.module.WasmFunc.{WasmFunc}
use Rattle.fact_wasm.specs.declared.module.WasmExport.{WasmExport}
use Rattle.fact_wasm.specs.declared.module.WasmModule.{WasmModule}
use Rattle.fact_types.specs.declared.outside.CoreDef.{CoreDef}
use Rattle.fact_types.specs.declared.import.Import.{Import}
use Rattle.fact_types.specs.declared.import.Import.TheVariants as known
use Rattle.fact_types.specs.Adapters.{LinkedAdapter}
use Rattle.fact_emit.specs.ImportSection.{imported_function, is_awaited}
use Rattle.fact_compound.specs.AsyncParts.{callee_name, part_name, part_type}
use Rattle.fact_compound.specs.declared.asyncs.AsyncPart.TheVariants as part

-- what an export is: a function of an adapter, of this type, or the callee of an async adapter between two instances
pub data Exported : Type 0 where
  Own : (name : List ℕ) → (ty : FuncType) → Exported
  Callee : (name : List ℕ) → (def : CoreDef) → Exported

-- the functions of an adapter that are exported, and the callee of an async one between two instances
abbrev pub exported_functions_of : LinkedAdapter → List Exported
exported_functions_of a =
    if is_awaited a
    then Own (part_name part.Start a.name) (part_type part.Start a) ∷ Own (part_name part.Return a.name) (part_type part.Return a) ∷ Own a.name a.lower.core_type ∷ []
    else Own a.name a.lower.core_type ∷ []

abbrev pub callee_of : LinkedAdapter → List Exported
callee_of a = if is_awaited a then Callee (callee_name a.name) a.callee ∷ [] else []

abbrev pub exported : List LinkedAdapter → List Exported
exported adapters = flat_map exported_functions_of adapters ++ flat_map callee_of adapters

abbrev pub function_type_in : WasmModule → Option WasmFunc → Option FuncType
function_type_in m None = None
function_type_in m (Some f) = slice_get m.types f.ty

-- the type of a function that the module defines; none of another
abbrev pub defined_type : WasmModule → FuncName → Option FuncType
defined_type m (func.Defined k) = function_type_in m (slice_get m.funcs k)
defined_type m (func.Import k) = None

abbrev pub IsExportOf : WasmModule → List Import → WasmExport → Exported → Type 0
IsExportOf m is e (Own name ty) = (e.name ≡ name) × (defined_type m e.func ≡ Some ty)
IsExportOf m is e (Callee name d) = (e.name ≡ name) × (imported_function m is e.func ≡ Some (known.CoreDef d))

-- what is exported under a name
abbrev pub exported_as : List ℕ → List WasmExport → Option FuncName
exported_as name [] = None
exported_as name (e ∷ es) = if bytes_eq e.name name then Some e.func else exported_as name es
