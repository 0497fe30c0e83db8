-- The binary format of modules (core specification, "Binary format", "Modules").
use Rattle.std.specs.Prelude.{◌≡◌, ℕ, ◌<◌, ◌^◌, Bool, List, [], ◌∷◌, ◌++◌, length, Option, Some, None, IsUtf8, if◌then◌else◌}
use Rattle.fact_binary.specs.Numbers.{unsigned}
use Rattle.fact_binary.specs.Grammar.{list, IsList, val_type, function_index, body_nodes, codes, AreNodes}
use Rattle.fact_wasm.specs.declared.types.ValType.{ValType}
use Rattle.fact_wasm.specs.declared.types.FuncType.{FuncType}
use Rattle.fact_wasm.specs.declared.instr.Instr.{Instr}
use Rattle.fact_wasm.specs.declared.module.ImportType.{ImportType}
use Rattle.fact_wasm.specs.declared.module.ImportType.TheVariants as import
use Rattle.fact_wasm.specs.declared.module.WasmImport.{WasmImport}
use Rattle.fact_wasm.specs.declared.module.WasmFunc.{WasmFunc}
use Rattle.fact_wasm.specs.declared.module.WasmExport.{WasmExport}
use Rattle.fact_wasm.specs.declared.module.WasmModule.{WasmModule}
use Rattle.fact_wasm.specs.Ranges.{imported_functions}

abbrev pub value_types : List ValType → List ℕ
value_types = list (λ t. val_type t ∷ [])

abbrev pub IsValueType : ValType → Type 0
IsValueType t = Unit {0}

abbrev pub func_type : FuncType → List ℕ
func_type t = 0x60 ∷ (value_types t.params ++ value_types t.results)

abbrev pub IsFuncType : FuncType → Type 0
IsFuncType t = IsList IsValueType t.params × IsList IsValueType t.results

-- bytes behind their number, a u32
abbrev pub sized : List ℕ → List ℕ
sized content = unsigned (length content) ++ content

-- a name: its byte length and its UTF-8 bytes
abbrev pub name : List ℕ → List ℕ
name text = sized text

abbrev pub IsName : List ℕ → Type 0
IsName text = (length text < 2 ^ 32) × IsUtf8 text

-- the flags of a memory type: 4 for 64 bits, 8 for a page size of its own
abbrev pub memory_flags : Bool → Option ℕ → ℕ
memory_flags wide None = if wide then 4 else 0
memory_flags wide (Some k) = if wide then 12 else 8

abbrev pub page_size : Option ℕ → List ℕ
page_size None = []
page_size (Some k) = unsigned k

abbrev pub memory_type : ℕ → Bool → Option ℕ → List ℕ
memory_type least wide page = memory_flags wide page ∷ (unsigned least ++ page_size page)

abbrev pub IsMemoryType : ℕ → Option ℕ → Type 0
IsMemoryType least None = least < 2 ^ 64
IsMemoryType least (Some k) = (least < 2 ^ 64) × (k < 2 ^ 32)

abbrev pub mutability : Bool → ℕ
mutability mutable = if mutable then 1 else 0

abbrev pub import_type : ImportType → List ℕ
import_type (import.Func t) = 0x00 ∷ unsigned t
import_type (import.Memory least wide page) = 0x02 ∷ memory_type least wide page
import_type (import.Global t mutable) = 0x03 ∷ val_type t ∷ mutability mutable ∷ []

-- the numbers of an import type are integers of 32 bits, a memory's minimum one of 64
abbrev pub IsImportType : ImportType → Type 0
IsImportType (import.Func t) = t < 2 ^ 32
IsImportType (import.Memory least wide page) = IsMemoryType least page
IsImportType (import.Global t mutable) = Unit {0}

abbrev pub IsImport : WasmImport → Type 0
IsImport i = IsName i.module × IsName i.name × IsImportType i.ty

abbrev pub import_item : WasmImport → List ℕ
import_item i = name i.module ++ (name i.name ++ import_type i.ty)

abbrev pub locals_run : ℕ × ValType → List ℕ
locals_run r = unsigned r.0 ++ val_type r.1 ∷ []

abbrev pub export_item : ℕ → WasmExport → List ℕ
export_item n e = name e.name ++ 0x00 ∷ unsigned (function_index n e.func)

abbrev pub IsExport : ℕ → WasmExport → Type 0
IsExport n e = IsName e.name × (function_index n e.func < 2 ^ 32)

abbrev pub IsRun : ℕ × ValType → Type 0
IsRun r = r.0 < 2 ^ 32

abbrev pub func_body : ℕ → List (ℕ × ValType) → List Instr → List ℕ
func_body n locals body = list locals_run locals ++ (codes (body_nodes n body) ++ 0x0B ∷ [])

-- the body of a function behind its byte length
abbrev pub code_item : ℕ → WasmFunc → List ℕ
code_item n f = sized (func_body n f.locals f.body)

abbrev pub IsBody : ℕ → List (ℕ × ValType) → List Instr → Type 0
IsBody n locals body = (length (func_body n locals body) < 2 ^ 32) × IsList IsRun locals × AreNodes (body_nodes n body)

abbrev pub IsCode : ℕ → WasmFunc → Type 0
IsCode n f = IsBody n f.locals f.body

abbrev pub HasTypeIndex : WasmFunc → Type 0
HasTypeIndex f = f.ty < 2 ^ 32

abbrev pub section : ℕ → List ℕ → List ℕ
section id content = id ∷ sized content

abbrev pub type_section : WasmModule → List ℕ
type_section m = list func_type m.types

abbrev pub import_section : WasmModule → List ℕ
import_section m = list import_item m.imports

abbrev pub function_section : WasmModule → List ℕ
function_section m = list (λ f. unsigned f.ty) m.funcs

abbrev pub export_section : WasmModule → List ℕ
export_section m = list (export_item (imported_functions m)) m.exports

abbrev pub code_section : WasmModule → List ℕ
code_section m = list (code_item (imported_functions m)) m.funcs

-- the magic number and the version
abbrev pub header : List ℕ
header = 0x00 ∷ 0x61 ∷ 0x73 ∷ 0x6D ∷ 0x01 ∷ 0x00 ∷ 0x00 ∷ 0x00 ∷ []

abbrev pub spelling : WasmModule → List ℕ
spelling m =
    header ++ (section 0x01 (type_section m) ++ (section 0x02 (import_section m) ++ (section 0x03 (function_section m) ++ (section 0x07 (export_section m) ++ section 0x0A (code_section m)))))

-- Byte lengths and counts are integers of 32 bits, and the numbers that the module holds are those of the format.
pub record Fits (m : WasmModule) : Type 0 where
  pub type_bytes : length (type_section m) < 2 ^ 32
  pub import_bytes : length (import_section m) < 2 ^ 32
  pub function_bytes : length (function_section m) < 2 ^ 32
  pub export_bytes : length (export_section m) < 2 ^ 32
  pub code_bytes : length (code_section m) < 2 ^ 32
  pub types : IsList IsFuncType m.types
  pub imports : IsList IsImport m.imports
  pub functions : IsList HasTypeIndex m.funcs
  pub exports : IsList (IsExport (imported_functions m)) m.exports
  pub bodies : IsList (IsCode (imported_functions m)) m.funcs

-- the bytes spell the module
pub record Spells (bytes : List ℕ) (m : WasmModule) : Type 0 where
  pub fits : Fits m
  pub bytes_are : bytes ≡ spelling m
