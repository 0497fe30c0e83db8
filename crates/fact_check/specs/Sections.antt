-- Cited by private clauses alone.
-- The imports of a module by their kinds, and the context of code in it.
use Rattle.std.specs.Prelude.{◌≡◌, ℕ, ◌+◌, ◌-◌, ◌<◌, ◌^◌, min, Bool, true, false, List, [], ◌∷◌, ◌++◌, Option, Some, None, length, map, reverse, slice_get}
use Rattle.std.specs.List.{filter_map}
use Rattle.std.specs.Borrow.{Bor}
use Rattle.fact_wasm.specs.declared.types.ValType.{ValType}
use Rattle.fact_wasm.specs.declared.instr.Instr.{Instr, out-Instr, map-Instr}
use Rattle.fact_wasm.specs.declared.instr.Instr.TheOpen as o
use Rattle.fact_wasm.specs.declared.instr.Instr.TheOpen.{Instr-F}
use Rattle.fact_wasm.specs.declared.module.ImportType.TheVariants as import
use Rattle.fact_wasm.specs.declared.instr.FuncName.{FuncName}
use Rattle.fact_wasm.specs.declared.instr.FuncName.TheVariants as func
use Rattle.fact_wasm.specs.declared.module.WasmImport.{WasmImport}
use Rattle.fact_wasm.specs.declared.module.WasmExport.{WasmExport}
use Rattle.fact_wasm.specs.declared.module.WasmModule.{WasmModule}
use Rattle.fact_machine.specs.Typing.{Context, Typing, is_body, is_exported, typing, typing_row, local_types}
use Rattle.fact_check.specs.Imports.{type_of_function, width_of_memory}
use Rattle.fact_check.specs.declared.section.Section.{Section}
use Rattle.fact_check.specs.declared.exported.Exported.{Exported}
use Rattle.fact_check.specs.declared.context.CodeContext.{CodeContext}
use Rattle.fact_check.specs.declared.plain.Plain.{Plain}
use Rattle.fact_check.specs.declared.plain.Plain.TheVariants as plain

-- the type of a global, and whether it may be set
abbrev pub kind_of_global : WasmImport → Option (ValType × Bool)
kind_of_global w = elim w.ty [ import.Func t ↦ None | import.Memory least wide page ↦ None | import.Global t mutable ↦ Some (t, mutable) ]

pub record IsSectionOf (s : Section) (imports : List WasmImport) : Type 0 where
  pub functions : s.functions ≡ filter_map type_of_function imports
  pub memories : s.memories ≡ filter_map width_of_memory imports
  pub globals : s.globals ≡ filter_map kind_of_global imports

-- of the functions of a form, so many in number, whether each is exported
pub record AreMarks (marks : List Bool) (form : ℕ → FuncName) (count : ℕ) (exports : List WasmExport) : Type 0 where
  pub many : length marks ≡ count
  pub each : (n : ℕ) → n < count → slice_get marks n ≡ Some (is_exported (form n) exports)

pub record IsExportedOf (e : Exported) (imports defined : ℕ) (exports : List WasmExport) : Type 0 where
  pub of_imports : AreMarks e.imports func.Import imports exports
  pub of_defined : AreMarks e.defined func.Defined defined exports

-- those of a module
abbrev pub AreExported : Exported → WasmModule → Type 0
AreExported e m = IsExportedOf e (length (filter_map type_of_function m.imports)) (length m.funcs) m.exports

-- how many locals there are up to the end of each run, with so many before; past what a number of 64 bits tells, the greatest one
abbrev pub end_of : (before : ℕ) → ℕ × ValType → ℕ
end_of before p = min (before + p.0) (2 ^ 64 - 1)

abbrev pub ends_from : (before : ℕ) → List (ℕ × ValType) → List ℕ
ends_from before [] = []
ends_from before (p ∷ ps) = end_of before p ∷ ends_from (end_of before p) ps

-- what is told of a module and a function is theirs
pub record IsCodeContext (c : CodeContext) : Type 0 where
  pub section : IsSectionOf c.section.now c.module.now.imports
  pub exported : AreExported c.exported.now c.module.now
  pub ends : c.ends ≡ ends_from 0 c.locals.now

-- labels of which the innermost is the last
abbrev pub labels_of : List (Bor (List ValType)) → List (List ValType)
labels_of labels = reverse (map (λ b. b.now) labels)

-- the context of code, in these labels
abbrev pub context_of : CodeContext → List (Bor (List ValType)) → Context
context_of c labels = record { whole = c.module.now; locals = c.params.now ++ local_types c.locals.now; labels = labels_of labels }

-- what an instruction makes of operands, by its row
abbrev pub row_of : Instr → Typing
row_of i = typing_row (map-Instr Instr Typing typing (out-Instr i))

-- the types of an instruction that is of one type wherever it stands
abbrev pub types_of_plain : Plain → List ValType × ValType
types_of_plain (plain.Constant t) = ([], t)
types_of_plain (plain.Unary a t) = (a ∷ [], t)
types_of_plain (plain.Binary a t) = (a ∷ a ∷ [], t)

-- a body that takes these parameters and ends in these results, in a label to which a branch takes these
abbrev pub body_ends : Context → (takes params results : List ValType) → List Instr → Bool
body_ends G takes params results body = is_body G takes params results (map typing body)

-- an instruction without bodies that is not of one type wherever it stands
abbrev pub is_simple : Instr-F Instr → Bool
is_simple o.Unreachable = true
is_simple (o.Br l) = true
is_simple (o.BrIf l) = true
is_simple (o.BrTable table last) = true
is_simple (o.Call f) = true
is_simple (o.RefFunc f) = true
is_simple o.Drop = true
is_simple o.Select = true
is_simple (o.LocalGet n) = true
is_simple (o.LocalSet n) = true
is_simple (o.LocalTee n) = true
is_simple (o.GlobalGet n) = true
is_simple (o.GlobalSet n) = true
is_simple (o.MemorySize n) = true
is_simple (o.I32Load m) = true
is_simple (o.I64Load m) = true
is_simple (o.F32Load m) = true
is_simple (o.F64Load m) = true
is_simple (o.I32Load8S m) = true
is_simple (o.I32Load8U m) = true
is_simple (o.I32Load16S m) = true
is_simple (o.I32Load16U m) = true
is_simple (o.I32Store m) = true
is_simple (o.I64Store m) = true
is_simple (o.F32Store m) = true
is_simple (o.F64Store m) = true
is_simple (o.I32Store8 m) = true
is_simple (o.I32Store16 m) = true
is_simple _ = false

-- a conditional, and a block with handlers
abbrev pub is_conditional : Instr-F Instr → Bool
is_conditional (o.If ty body other) = true
is_conditional _ = false

abbrev pub is_handler : Instr-F Instr → Bool
is_handler (o.TryTable ty catches body) = true
is_handler _ = false
