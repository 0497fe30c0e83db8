-- Cited by private clauses alone.
-- Parts of modules that are what their spelling stands for: a function by the form of name that its index has, and bodies
-- without an else body that is empty. Modules in range are made of such parts. The clauses of private functions cite it.
use Rattle.std.specs.Prelude.{◌≡◌, ℕ, ◌<◌, ◌^◌, List, ◌++◌, length}
use Rattle.std.specs.List.{AllByRecursion}
use Rattle.fact_wasm.specs.declared.types.FuncType.{FuncType}
use Rattle.fact_wasm.specs.declared.instr.Instr.{Instr}
use Rattle.fact_wasm.specs.declared.module.WasmImport.{WasmImport}
use Rattle.fact_binary.specs.declared.decoder.CodeBody.{CodeBody}
use Rattle.fact_wasm.specs.declared.module.WasmExport.{WasmExport}
use Rattle.fact_wasm.specs.declared.module.WasmFunc.{WasmFunc}
use Rattle.fact_wasm.specs.declared.module.WasmModule.{WasmModule}
use Rattle.fact_wasm.specs.Ranges.{imported_functions}
use Rattle.fact_binary.specs.Numbers.{unsigned}
use Rattle.fact_binary.specs.Grammar.{list, IsList, IsIndex, function_index, body_nodes}
use Rattle.fact_binary.specs.Spelling.{func_type, IsFuncType, import_item, IsImport, export_item, IsExport, IsBody, sized, func_body, header, section}
use Rattle.fact_binary.specs.Rebuild.{name_of, instrs_of}

abbrev pub IsOwnExport : ℕ → WasmExport → Type 0
IsOwnExport n e = IsExport n e × (name_of n (function_index n e.func) ≡ e.func)

abbrev pub code_of : ℕ → CodeBody → List ℕ
code_of n b = sized (func_body n b.locals b.body)

abbrev pub IsOwnBody : ℕ → List Instr → Type 0
IsOwnBody n is = instrs_of n (body_nodes n is) ≡ is

abbrev pub IsOwnCode : ℕ → CodeBody → Type 0
IsOwnCode n b = IsBody n b.locals b.body × IsOwnBody n b.body

-- a function's parts, of which the function section and the code section have one each
abbrev pub type_index : WasmFunc → ℕ
type_index f = f.ty

abbrev pub body_of : WasmFunc → CodeBody
body_of f = record { locals = f.locals; body = f.body }

pub record IsOwn (m : WasmModule) : Type 0 where
  pub exports : AllByRecursion (λ e. name_of (imported_functions m) (function_index (imported_functions m) e.func) ≡ e.func) m.exports
  pub bodies : AllByRecursion (λ f. IsOwnBody (imported_functions m) f.body) m.funcs

-- the types and the imports at the front of the bytes of a module, and what follows them
pub record IsModuleFront (bytes : List ℕ) (ts : List FuncType) (is : List WasmImport) (rest : List ℕ) : Type 0 where
  pub type_bytes : length (list func_type ts) < 2 ^ 32
  pub import_bytes : length (list import_item is) < 2 ^ 32
  pub types : IsList IsFuncType ts
  pub imports : IsList IsImport is
  pub spelled : bytes ≡ header ++ (section 0x01 (list func_type ts) ++ (section 0x02 (list import_item is) ++ rest))

-- the other three sections, where n functions are imported
pub record IsBack (n : ℕ) (bytes : List ℕ) (tys : List ℕ) (es : List WasmExport) (bs : List CodeBody) : Type 0 where
  pub function_bytes : length (list unsigned tys) < 2 ^ 32
  pub export_bytes : length (list (export_item n) es) < 2 ^ 32
  pub code_bytes : length (list (code_of n) bs) < 2 ^ 32
  pub functions : IsList IsIndex tys
  pub exports : IsList (IsOwnExport n) es
  pub bodies : IsList (IsOwnCode n) bs
  pub spelled : bytes ≡ section 0x03 (list unsigned tys) ++ (section 0x07 (list (export_item n) es) ++ section 0x0A (list (code_of n) bs))
