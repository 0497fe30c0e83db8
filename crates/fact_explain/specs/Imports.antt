-- The rows of what a module imports, as they are printed.
use Rattle.std.specs.Prelude.{ℕ, ◌≡◌, Bool, true, false, List, [], ◌++◌, Option, None, Some, codes, slice_get}
use Rattle.std.specs.Fmt.{decimal}
use Rattle.fact_wasm.specs.declared.module.ImportType.{ImportType}
use Rattle.fact_wasm.specs.declared.module.ImportType.TheVariants as import
use Rattle.fact_wasm.specs.declared.module.WasmImport.{WasmImport}
use Rattle.fact_wasm.specs.declared.types.FuncType.{FuncType}
use Rattle.fact_types.specs.declared.import.Import.{Import}
use Rattle.fact_command.specs.ImportLines.{import_line, width_text}
use Rattle.fact_explain.specs.CoreTypes.{core_text, val_text}
use Rattle.fact_explain.specs.Shown.{shown}

-- a function, by its type
abbrev pub function_text : Option FuncType → List ℕ
function_text None = codes "function"
function_text (Some t) = core_text t.params t.results

abbrev pub mutable_text : Bool → List ℕ
mutable_text true = codes "mutable "
mutable_text false = []

-- the page size of a memory, where it is not that of every memory
abbrev pub pages_text : Option ℕ → List ℕ
pages_text None = []
pages_text (Some n) = codes ", pages of 2^" ++ (decimal n ++ codes " bytes")

-- the type of an import, over the types of the module
abbrev pub import_type_text : List FuncType → ImportType → List ℕ
import_type_text types (import.Func k) = function_text (slice_get types k)
import_type_text types (import.Memory minimum wide page_size_log2) = codes "memory, " ++ (width_text wide ++ (codes " bits" ++ pages_text page_size_log2))
import_type_text types (import.Global ty mutable) = codes "global, " ++ (mutable_text mutable ++ val_text ty)

-- the row of an import: its module, its name, its type, what it is for, and its line as `--imports` prints it
abbrev pub import_row : List FuncType → WasmImport × Import → (purpose : List ℕ) → List ℕ
import_row types x purpose =
    codes "  " ++ (shown x.0.module ++ (codes " " ++ (shown x.0.name ++ (codes ": " ++ (import_type_text types x.0.ty ++ (codes "; " ++ (shown purpose ++ (codes "; " ++ import_line x.1))))))))

-- The text is the row of an import, with some purpose.
abbrev pub IsImportRow : List FuncType → ℕ → WasmImport × Import → (text : List ℕ) → Type 0
IsImportRow types k x text = (purpose : List ℕ) × (text ≡ import_row types x purpose)
