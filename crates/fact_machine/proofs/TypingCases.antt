-- Worked cases of well typed and of ill typed code, by computation.
use Rattle.std.proofs.Common.{◌≡◌, ℕ, ◌+◌, ◌^◌, Bool, true, false, List, [], ◌∷◌, Option, Some, None, map, refl, ap}
use Rattle.fact_wasm.specs.declared.types.ValType.{ValType}
use Rattle.fact_wasm.specs.declared.types.ValType.TheVariants.{I32, I64, F64, FuncRef}
use Rattle.fact_wasm.specs.declared.instr.BlockType.TheVariants.{Empty, Result, FunctionType}
use Rattle.fact_wasm.specs.declared.instr.FuncName.TheVariants.{Import, Defined}
use Rattle.fact_wasm.specs.declared.instr.MemArg.{MemArg}
use Rattle.fact_wasm.specs.declared.instr.Instr.{Instr, out-Instr, map-Instr}
use Rattle.fact_wasm.specs.declared.instr.Instr.TheVariants as I
use Rattle.fact_wasm.specs.declared.module.ImportType.{ImportType}
use Rattle.fact_wasm.specs.declared.module.ImportType.TheVariants as import
use Rattle.fact_wasm.specs.declared.module.WasmImport.{WasmImport}
use Rattle.fact_wasm.specs.declared.module.WasmFunc.{WasmFunc}
use Rattle.fact_wasm.specs.declared.module.WasmModule.{WasmModule}
use Rattle.fact_machine.specs.Typing.{Operands, Known, Open, Context, Typing, typing, typing_row, code_typing, is_memory_type, is_typed_function, typed_module}
use Rattle.fact_machine.proofs.TypingRows.{typing_is}

-- an instruction by its row
typing_at : (i : Instr) (G : Context) (s : Operands) → typing i G s ≡ typing_row (map-Instr Instr Typing typing (out-Instr i)) G s
typing_at i G s = ap (λ (x : Typing). x G s) (typing_is i)

-- ---- a module and a context

abbrev imported : ImportType → WasmImport
imported t = record { «module» = []; name = []; ty = t }

-- Type 0 takes an i32 and an f64 and gives an i64, type 1 takes and gives nothing. One function is imported, a memory of 32 bits
-- and one of 64, a global that may be set and one that may not.
abbrev example : WasmModule
example = record {
  types = record { params = I32 ∷ F64 ∷ []; results = I64 ∷ [] } ∷ record { params = []; results = [] } ∷ [];
  imports = imported (import.Func 0) ∷ imported (import.Memory 0 false None) ∷ imported (import.Memory 0 true None) ∷ imported (import.Global I32 true) ∷ imported (import.Global I64 false) ∷ [];
  funcs = record { ty = 1; locals = []; body = [] } ∷ record { ty = 1; locals = []; body = [] } ∷ [];
  exports = record { name = 97 ∷ []; func = Defined 0 } ∷ [];
}

abbrev place : (align offset memory : ℕ) → MemArg
place align offset memory = record { offset = offset; align = align; memory_index = memory }

abbrev function : ℕ → List (ℕ × ValType) → List Instr → WasmFunc
function ty locals body = record { ty = ty; locals = locals; body = body }

-- ---- tables: what is computed, and what it is to be

abbrev Hold : {A : Type 0} → List (A × A) → Type 0
Hold rows = map (λ r. r.0) rows ≡ map (λ r. r.1) rows

abbrev Row : Type 0
Row = Option Operands × Option Operands

-- what code makes of these operands, with a local of each type, inside a label that takes an i32, inside one that takes nothing
abbrev makes : List Instr → List ValType → Option Operands → Row
makes code ins outs = (code_typing (record { whole = example; locals = I32 ∷ FuncRef ∷ []; labels = (I32 ∷ []) ∷ [] ∷ [] }) code (Known ins), outs)

abbrev gives : List Instr → (ins outs : List ValType) → Row
gives code ins outs = makes code ins (Some (Known outs))

abbrev fails : List Instr → List ValType → Row
fails code ins = makes code ins None

abbrev is_typed : ℕ → List (ℕ × ValType) → List Instr → Bool → Bool × Bool
is_typed ty locals body b = (is_typed_function example (function ty locals body), b)

operands : Hold (
    gives (I.I32Add ∷ []) (I32 ∷ I32 ∷ F64 ∷ []) (I32 ∷ F64 ∷ []) ∷ fails (I.I32Add ∷ []) (I32 ∷ I64 ∷ [])
    ∷ fails (I.I32Add ∷ []) (I32 ∷ []) ∷ gives (I.Select ∷ []) (I32 ∷ F64 ∷ F64 ∷ []) (F64 ∷ [])
    ∷ fails (I.Select ∷ []) (I32 ∷ FuncRef ∷ FuncRef ∷ []) ∷ gives (I.LocalSet 1 ∷ []) (FuncRef ∷ []) []
    ∷ fails (I.LocalSet 2 ∷ []) (I32 ∷ [])
    ∷ [])
operands = simp (typing_at, I.outs-I32Add, I.outs-Select, I.outs-LocalSet)

-- in code that is not reached
not_reached : Hold (
    makes (I.Unreachable ∷ I.I32Add ∷ []) [] (Some (Open (Some I32 ∷ []))) ∷ makes (I.Unreachable ∷ I.Select ∷ []) [] (Some (Open (None ∷ [])))
    ∷ fails (I.Unreachable ∷ I.F64Const 0 ∷ I.I32Add ∷ []) []
    ∷ [])
not_reached = simp (typing_at, I.outs-Unreachable, I.outs-I32Add, I.outs-Select, I.outs-F64Const)

-- a type that is not declared, a result of one case alone, labels of two arities and past the last; a handler's label counts from
-- outside of its block
blocks : Hold (
    gives (I.Block (Result I32) (I.I32Const 7 ∷ []) ∷ []) [] (I32 ∷ []) ∷ fails (I.Block Empty (I.Drop ∷ []) ∷ []) (I32 ∷ [])
    ∷ gives (I.Block (FunctionType 0) (I.Drop ∷ I.Drop ∷ I.I64Const 7 ∷ []) ∷ []) (F64 ∷ I32 ∷ []) (I64 ∷ [])
    ∷ fails (I.Block (FunctionType 2) [] ∷ []) [] ∷ fails (I.If (Result I32) (I.I32Const 7 ∷ []) None ∷ []) (I32 ∷ [])
    ∷ makes (I.Br 0 ∷ []) (I32 ∷ F64 ∷ []) (Some (Open [])) ∷ fails (I.Br 0 ∷ []) []
    ∷ fails (I.Br 2 ∷ []) [] ∷ gives (I.Loop (Result I64) (I.Br 0 ∷ []) ∷ []) [] (I64 ∷ [])
    ∷ makes (I.BrTable (0 ∷ 0 ∷ []) 0 ∷ []) (I32 ∷ I32 ∷ []) (Some (Open [])) ∷ fails (I.BrTable (0 ∷ []) 1 ∷ []) (I32 ∷ I32 ∷ [])
    ∷ gives (I.TryTable Empty (1 ∷ []) [] ∷ []) [] [] ∷ fails (I.TryTable Empty (0 ∷ []) [] ∷ []) []
    ∷ [])
blocks = simp (typing_at, I.outs-Block, I.outs-Loop, I.outs-If, I.outs-Br, I.outs-BrTable, I.outs-TryTable, I.outs-Drop, I.outs-I32Const, I.outs-I64Const)

-- an alignment above the natural one, an offset past 32 bits, and an address of the other width
memories : Hold (
    gives (I.I32Load (place 2 7 0) ∷ []) (I32 ∷ []) (I32 ∷ []) ∷ gives (I.F64Load (place 3 (2 ^ 32) 1) ∷ []) (I64 ∷ []) (F64 ∷ [])
    ∷ fails (I.I32Load16U (place 2 0 0) ∷ []) (I32 ∷ []) ∷ fails (I.I32Load8U (place 0 (2 ^ 32) 0) ∷ []) (I32 ∷ [])
    ∷ fails (I.I64Store (place 3 0 1) ∷ []) (I64 ∷ I32 ∷ []) ∷ fails (I.MemorySize 2 ∷ []) []
    ∷ [])
memories = simp (typing_at, I.outs-I32Load, I.outs-F64Load, I.outs-I32Load16U, I.outs-I32Load8U, I.outs-I64Store, I.outs-MemorySize)

-- functions that are not there, or not exported, and a global that is a constant
functions_and_globals : Hold (
    gives (I.Call (Import 0) ∷ []) (F64 ∷ I32 ∷ []) (I64 ∷ []) ∷ fails (I.Call (Defined 2) ∷ []) []
    ∷ gives (I.RefFunc (Defined 0) ∷ []) [] (FuncRef ∷ []) ∷ fails (I.RefFunc (Defined 1) ∷ []) []
    ∷ fails (I.GlobalSet 1 ∷ []) (I64 ∷ [])
    ∷ [])
functions_and_globals = simp (typing_at, I.outs-Call, I.outs-RefFunc, I.outs-GlobalSet)

-- locals that are references, and none of them
whole_functions : Hold (
    is_typed 0 ((2, I64) ∷ []) (I.LocalGet 3 ∷ []) true ∷ is_typed 0 ((2, I64) ∷ []) (I.LocalGet 4 ∷ []) false
    ∷ is_typed 1 ((1, FuncRef) ∷ []) [] false ∷ is_typed 1 ((0, FuncRef) ∷ []) [] true
    ∷ is_typed 1 [] (I.I32Const 7 ∷ []) false
    ∷ [])
whole_functions = simp (typing_at, I.outs-LocalGet, I.outs-I32Const)

-- a name that is exported twice; the most bytes and pages, and pages of other sizes
modules : Hold (
    (typed_module example, true)
    ∷ (typed_module (record example { exports = record { name = 97 ∷ []; func = Defined 0 } ∷ record { name = 97 ∷ []; func = Defined 1 } ∷ [] }), false)
    ∷ (is_memory_type false None (2 ^ 16), true) ∷ (is_memory_type false None (2 ^ 16 + 1), false)
    ∷ (is_memory_type false (Some 0) (2 ^ 32), false) ∷ (is_memory_type true (Some 1) 0, false)
    ∷ [])
modules = refl
