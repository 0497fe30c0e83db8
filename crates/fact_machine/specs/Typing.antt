-- When code is well typed (core specification, "Validation", "Instructions" and "Modules", with the memories of 64 bits, the page
-- sizes and the exception handling of its later versions), as functions that compute. Lists of operands have the topmost first;
-- lists of parameters, of results and of the types of labels have the last on top.
use Rattle.std.specs.Prelude.{ℕ, zero, suc, ◌*◌, ◌^◌, Bool, true, false, ◌&&◌, ◌||◌, not, nat_lt, nat_le, nat_eq, List, [], ◌∷◌, ◌++◌, length, map, replicate, reverse, Option, Some, None, is_some, option_map, option_and_then, slice_get}
use Rattle.std.specs.List.{flat_map, list_all, list_any}
use Rattle.std.specs.Str.{bytes_eq}
use Rattle.fact_wasm.specs.declared.types.ValType.{ValType}
use Rattle.fact_wasm.specs.declared.types.ValType.TheVariants.{I32, I64, F32, F64, FuncRef}
use Rattle.fact_wasm.specs.declared.types.FuncType.{FuncType}
use Rattle.fact_wasm.specs.declared.instr.FuncName.{FuncName}
use Rattle.fact_wasm.specs.declared.instr.FuncName.TheVariants as func
use Rattle.fact_wasm.specs.declared.instr.BlockType.{BlockType}
use Rattle.fact_wasm.specs.declared.instr.BlockType.TheVariants.{Empty, Result, FunctionType}
use Rattle.fact_wasm.specs.declared.instr.MemArg.{MemArg}
use Rattle.fact_wasm.specs.declared.instr.Instr.{Instr, fold-Instr}
use Rattle.fact_wasm.specs.declared.instr.Instr.TheOpen as o
use Rattle.fact_wasm.specs.declared.instr.Instr.TheOpen.{Instr-F}
use Rattle.fact_wasm.specs.declared.module.ImportType.TheVariants as import
use Rattle.fact_wasm.specs.declared.module.WasmImport.{WasmImport}
use Rattle.fact_wasm.specs.declared.module.WasmFunc.{WasmFunc}
use Rattle.fact_wasm.specs.declared.module.WasmExport.{WasmExport}
use Rattle.fact_wasm.specs.declared.module.WasmModule.{WasmModule}
use Rattle.fact_machine.specs.declared.types.CoreValue.{CoreValue}
use Rattle.fact_machine.specs.declared.types.CoreValue.TheVariants as value
use Rattle.fact_machine.specs.Machine.{memory_import, page_bytes}
use Rattle.fact_machine.specs.Typed.{type_of_import}

-- ---- operands

-- The types of the operands on the stack. `Known`: just these. `Open`, in code that is not reached: these, and below them any
-- ("stack-polymorphic"); None is the type that matches every type.
pub data Operands : Type 0 where
  Known : List ValType → Operands
  Open : List (Option ValType) → Operands

abbrev pub only_if : {A : Type 0} → Bool → Option A → Option A
only_if true a = a
only_if false a = None

abbrev pub same_type : ValType → ValType → Bool
same_type I32 I32 = true
same_type I64 I64 = true
same_type F32 F32 = true
same_type F64 F64 = true
same_type FuncRef FuncRef = true
same_type _ _ = false

abbrev pub is_number : ValType → Bool
is_number FuncRef = false
is_number _ = true

abbrev pub matches : ValType → Option ValType → Bool
matches t None = true
matches t (Some u) = same_type t u

-- an operand of a type is taken
abbrev pub pop : ValType → Operands → Option Operands
pop t (Known []) = None
pop t (Known (u ∷ us)) = only_if (same_type t u) (Some (Known us))
pop t (Open []) = Some (Open [])
pop t (Open (u ∷ us)) = only_if (matches t u) (Some (Open us))

-- operands of these types are taken, the first from the top
abbrev pub pop_all : List ValType → Operands → Option Operands
pop_all [] s = Some s
pop_all (t ∷ ts) s = option_and_then (λ s'. pop_all ts s') (pop t s)

-- operands of these types are given, the first topmost
abbrev pub push_all : List ValType → Operands → Operands
push_all ts (Known us) = Known (ts ++ us)
push_all ts (Open us) = Open (map (λ t. Some t) ts ++ us)

-- these are taken, and those are given
abbrev pub change : (ins outs : List ValType) → Operands → Option Operands
change ins outs s = option_and_then (λ s'. Some (push_all outs s')) (pop_all ins s)

-- these are taken, and the code behind is not reached
abbrev pub jump : (ins : List ValType) → Operands → Option Operands
jump ins s = option_and_then (λ s'. Some (Open [])) (pop_all ins s)

abbrev pub is_empty : Operands → Bool
is_empty (Known []) = true
is_empty (Known (t ∷ ts)) = false
is_empty (Open []) = true
is_empty (Open (t ∷ ts)) = false

-- whether these results, and nothing else, are there at the end
abbrev pub ends : (results : List ValType) → Option Operands → Bool
ends results None = false
ends results (Some s) = elim (pop_all (reverse results) s) [ None ↦ false | Some s' ↦ is_empty s' ]

-- an operand of any type is taken
abbrev pub drop_operand : Operands → Option Operands
drop_operand (Known []) = None
drop_operand (Known (t ∷ ts)) = Some (Known ts)
drop_operand (Open []) = Some (Open [])
drop_operand (Open (t ∷ ts)) = Some (Open ts)

abbrev pub may_be_number : Option ValType → Bool
may_be_number None = true
may_be_number (Some t) = is_number t

-- the type of both, where it is one of numbers
abbrev pub common_number : Option ValType → Option ValType → Option (Option ValType)
common_number None u = only_if (may_be_number u) (Some u)
common_number (Some t) u = only_if (is_number t && matches t u) (Some (Some t))

-- two operands of one type of numbers are taken, and one of them is given
abbrev pub choose : Operands → Option Operands
choose (Known (t ∷ u ∷ us)) = only_if (is_number t && same_type t u) (Some (Known (t ∷ us)))
choose (Known _) = None
choose (Open []) = Some (Open (None ∷ []))
choose (Open (t ∷ [])) = option_and_then (λ x. Some (Open (x ∷ []))) (common_number t None)
choose (Open (t ∷ u ∷ us)) = option_and_then (λ x. Some (Open (x ∷ us))) (common_number t u)

-- ---- instructions of one type

-- Of an instruction that is of one type wherever it stands: the types that it takes, the topmost first, and the type that it
-- gives.
abbrev pub instruction_type : {A : Type 0} → Instr-F A → Option (List ValType × ValType)
instruction_type (o.I32Const n) = Some ([], I32)
instruction_type (o.I64Const n) = Some ([], I64)
instruction_type (o.F32Const n) = Some ([], F32)
instruction_type (o.F64Const n) = Some ([], F64)
instruction_type o.I32Eqz = Some (I32 ∷ [], I32)
instruction_type o.I32Eq = Some (I32 ∷ I32 ∷ [], I32)
instruction_type o.I32Ne = Some (I32 ∷ I32 ∷ [], I32)
instruction_type o.I32LtU = Some (I32 ∷ I32 ∷ [], I32)
instruction_type o.I32GtU = Some (I32 ∷ I32 ∷ [], I32)
instruction_type o.I32GeU = Some (I32 ∷ I32 ∷ [], I32)
instruction_type o.I64Eqz = Some (I64 ∷ [], I32)
instruction_type o.I64Eq = Some (I64 ∷ I64 ∷ [], I32)
instruction_type o.I64Ne = Some (I64 ∷ I64 ∷ [], I32)
instruction_type o.I64LtU = Some (I64 ∷ I64 ∷ [], I32)
instruction_type o.I64GtU = Some (I64 ∷ I64 ∷ [], I32)
instruction_type o.I64GeU = Some (I64 ∷ I64 ∷ [], I32)
instruction_type o.I32Add = Some (I32 ∷ I32 ∷ [], I32)
instruction_type o.I32Sub = Some (I32 ∷ I32 ∷ [], I32)
instruction_type o.I32Mul = Some (I32 ∷ I32 ∷ [], I32)
instruction_type o.I32And = Some (I32 ∷ I32 ∷ [], I32)
instruction_type o.I32Or = Some (I32 ∷ I32 ∷ [], I32)
instruction_type o.I32Xor = Some (I32 ∷ I32 ∷ [], I32)
instruction_type o.I32Shl = Some (I32 ∷ I32 ∷ [], I32)
instruction_type o.I32ShrU = Some (I32 ∷ I32 ∷ [], I32)
instruction_type o.I64Add = Some (I64 ∷ I64 ∷ [], I64)
instruction_type o.I64Sub = Some (I64 ∷ I64 ∷ [], I64)
instruction_type o.I64Mul = Some (I64 ∷ I64 ∷ [], I64)
instruction_type o.I64And = Some (I64 ∷ I64 ∷ [], I64)
instruction_type o.I64Or = Some (I64 ∷ I64 ∷ [], I64)
instruction_type o.I64Xor = Some (I64 ∷ I64 ∷ [], I64)
instruction_type o.I64Shl = Some (I64 ∷ I64 ∷ [], I64)
instruction_type o.I64ShrU = Some (I64 ∷ I64 ∷ [], I64)
instruction_type o.I32WrapI64 = Some (I64 ∷ [], I32)
instruction_type o.I64ExtendI32U = Some (I32 ∷ [], I64)
instruction_type o.I32ReinterpretF32 = Some (F32 ∷ [], I32)
instruction_type o.I64ReinterpretF64 = Some (F64 ∷ [], I64)
instruction_type o.F32ReinterpretI32 = Some (I32 ∷ [], F32)
instruction_type o.F64ReinterpretI64 = Some (I64 ∷ [], F64)
instruction_type o.I32Extend8S = Some (I32 ∷ [], I32)
instruction_type o.I32Extend16S = Some (I32 ∷ [], I32)
instruction_type _ = None

-- ---- contexts

-- the module around the code, the types of the locals, and those of the labels around it, the innermost first
pub record Context : Type 0 where
  pub whole : WasmModule
  pub locals : List ValType
  pub labels : List (List ValType)

abbrev pub inside : (label : List ValType) → Context → Context
inside label G = record G { labels = label ∷ G.labels }

-- what a piece of code makes of the operands in a context, if it is well typed there
abbrev pub Typing : Type 0
Typing = Context → Operands → Option Operands

-- one after another
abbrev pub chain : List Typing → Typing
chain [] G s = Some s
chain (x ∷ xs) G s = option_and_then (λ s'. chain xs G s') (x G s)

-- the parameters and the results of a block, whose type has to be there
abbrev pub types_of_block : List FuncType → BlockType → Option (List ValType × List ValType)
types_of_block types Empty = Some ([], [])
types_of_block types (Result t) = Some ([], t ∷ [])
types_of_block types (FunctionType n) = option_map (λ t. (t.params, t.results)) (slice_get types n)

abbrev pub function_type : WasmModule → FuncName → Option FuncType
function_type M (func.Import n) = type_of_import M n
function_type M (func.Defined n) = option_and_then (λ f. slice_get M.types f.ty) (slice_get M.funcs n)

-- the nth imported global: its type, and whether it may be set
abbrev pub global_import : List WasmImport → ℕ → Option (ValType × Bool)
global_import [] n = None
global_import (i ∷ is) n = elim i.ty [ import.Func t ↦ global_import is n | import.Memory a b c ↦ global_import is n | import.Global t mutable ↦ elim n [ zero ↦ Some (t, mutable) | suc m ↦ global_import is m ] ]

abbrev pub same_function : FuncName → FuncName → Bool
same_function (func.Import m) (func.Import n) = nat_eq m n
same_function (func.Defined m) (func.Defined n) = nat_eq m n
same_function _ _ = false

abbrev pub is_exported : FuncName → List WasmExport → Bool
is_exported f es = list_any (λ e. same_function f e.func) es

-- The bits of a memory's addresses, their type, and an address as an operand (core specification, "Address Types"). The canonical
-- ABI has pointers of the same types, which fact_types makes of flat types: this crate knows no canonical ABI.
abbrev pub address_bits : (memory64 : Bool) → ℕ
address_bits true = 64
address_bits false = 32

abbrev pub address_type : (memory64 : Bool) → ValType
address_type true = I64
address_type false = I32

abbrev pub address_operand : (memory64 : Bool) → ℕ → CoreValue
address_operand true a = value.I64 a
address_operand false a = value.I32 a

-- The type of the address at a place of so many bytes, by their exponent. The place is aligned to no more than its bytes, and its
-- offset is one that the memory's addresses could say.
abbrev pub address_at : Context → (natural : ℕ) → MemArg → Option ValType
address_at G natural m =
    option_and_then (λ k. only_if (nat_le m.align natural && nat_lt m.offset (2 ^ address_bits k.0)) (Some (address_type k.0)))
    (memory_import G.whole.imports m.memory_index)

-- ---- the table of instructions

-- a body that takes these parameters and ends in these results, and to whose label a branch takes these
abbrev pub is_body : Context → (label params results : List ValType) → List Typing → Bool
is_body G label params results body = ends results (chain body (inside label G) (Known (reverse params)))

-- a block, whose bodies are well typed by its parameters and results
abbrev pub in_block : Context → BlockType → (are_bodies : List ValType → List ValType → Bool) → Operands → Option Operands
in_block G bt are_bodies s = option_and_then (λ t. only_if (are_bodies t.0 t.1) (change (reverse t.0) (reverse t.1) s)) (types_of_block G.whole.types bt)

abbrev pub or_nothing : Option (List Typing) → List Typing
or_nothing None = []
or_nothing (Some body) = body

-- a label that is there, that takes so many operands, and the operands are there
abbrev pub is_target : Context → (arity : ℕ) → Operands → ℕ → Bool
is_target G arity s l = elim (slice_get G.labels l) [ None ↦ false | Some ts ↦ nat_eq (length ts) arity && is_some (pop_all (reverse ts) s) ]

-- a label that is there and takes nothing
abbrev pub is_catch : Context → ℕ → Bool
is_catch G l = elim (slice_get G.labels l) [ None ↦ false | Some ts ↦ nat_eq (length ts) 0 ]

abbrev pub load_typing : (natural : ℕ) → ValType → MemArg → Typing
load_typing natural t m G s = option_and_then (λ a. change (a ∷ []) (t ∷ []) s) (address_at G natural m)

abbrev pub store_typing : (natural : ℕ) → ValType → MemArg → Typing
store_typing natural t m G s = option_and_then (λ a. change (t ∷ a ∷ []) [] s) (address_at G natural m)

-- What an instruction makes of the operands, its bodies being typed so. A handler's label counts from outside of its block.
abbrev pub typing_row : Instr-F Typing → Typing
typing_row o.Unreachable G s = Some (Open [])
typing_row (o.Block bt body) G s = in_block G bt (λ params results. is_body G results params results body) s
typing_row (o.Loop bt body) G s = in_block G bt (λ params results. is_body G params params results body) s
typing_row (o.If bt body other) G s = option_and_then (λ s'. in_block G bt (λ params results. is_body G results params results body && is_body G results params results (or_nothing other)) s') (pop I32 s)
typing_row (o.TryTable bt catches body) G s = in_block G bt (λ params results. list_all (is_catch G) catches && is_body G results params results body) s
typing_row (o.Br l) G s = option_and_then (λ ts. jump (reverse ts) s) (slice_get G.labels l)
typing_row (o.BrIf l) G s = option_and_then (λ ts. option_and_then (λ s'. change (reverse ts) (reverse ts) s') (pop I32 s)) (slice_get G.labels l)
typing_row (o.BrTable labels last) G s = option_and_then (λ ts. option_and_then (λ s'. only_if (list_all (is_target G (length ts) s') labels) (jump (reverse ts) s')) (pop I32 s)) (slice_get G.labels last)
typing_row (o.Call f) G s = option_and_then (λ t. change (reverse t.params) (reverse t.results) s) (function_type G.whole f)
typing_row (o.RefFunc f) G s = option_and_then (λ t. only_if (is_exported f G.whole.exports) (change [] (FuncRef ∷ []) s)) (function_type G.whole f)
typing_row o.Drop G s = drop_operand s
typing_row o.Select G s = option_and_then choose (pop I32 s)
typing_row (o.LocalGet n) G s = option_and_then (λ t. change [] (t ∷ []) s) (slice_get G.locals n)
typing_row (o.LocalSet n) G s = option_and_then (λ t. change (t ∷ []) [] s) (slice_get G.locals n)
typing_row (o.LocalTee n) G s = option_and_then (λ t. change (t ∷ []) (t ∷ []) s) (slice_get G.locals n)
typing_row (o.GlobalGet n) G s = option_and_then (λ g. change [] (g.0 ∷ []) s) (global_import G.whole.imports n)
typing_row (o.GlobalSet n) G s = option_and_then (λ g. only_if g.1 (change (g.0 ∷ []) [] s)) (global_import G.whole.imports n)
typing_row (o.I32Load m) G s = load_typing 2 I32 m G s
typing_row (o.I64Load m) G s = load_typing 3 I64 m G s
typing_row (o.F32Load m) G s = load_typing 2 F32 m G s
typing_row (o.F64Load m) G s = load_typing 3 F64 m G s
typing_row (o.I32Load8S m) G s = load_typing 0 I32 m G s
typing_row (o.I32Load8U m) G s = load_typing 0 I32 m G s
typing_row (o.I32Load16S m) G s = load_typing 1 I32 m G s
typing_row (o.I32Load16U m) G s = load_typing 1 I32 m G s
typing_row (o.I32Store m) G s = store_typing 2 I32 m G s
typing_row (o.I64Store m) G s = store_typing 3 I64 m G s
typing_row (o.F32Store m) G s = store_typing 2 F32 m G s
typing_row (o.F64Store m) G s = store_typing 3 F64 m G s
typing_row (o.I32Store8 m) G s = store_typing 0 I32 m G s
typing_row (o.I32Store16 m) G s = store_typing 1 I32 m G s
typing_row (o.MemorySize n) G s = option_and_then (λ k. change [] (address_type k.0 ∷ []) s) (memory_import G.whole.imports n)
typing_row i G s = option_and_then (λ t. change t.0 (t.1 ∷ []) s) (instruction_type i)

abbrev pub typing : Instr → Typing
typing = fold-Instr Typing typing_row

-- what code makes of the operands in a context, if it is well typed there
abbrev pub code_typing : Context → List Instr → Operands → Option Operands
code_typing G code s = chain (map typing code) G s

-- ---- functions

abbrev pub local_types : List (ℕ × ValType) → List ValType
local_types = flat_map (λ p. replicate p.0 p.1)

abbrev pub function_context : WasmModule → FuncType → WasmFunc → Context
function_context M t f = record { whole = M; locals = t.params ++ local_types f.locals; labels = t.results ∷ [] }

-- a body of a function of a type
abbrev pub is_typed_body : WasmModule → WasmFunc → FuncType → Bool
is_typed_body M f t = ends t.results (code_typing (function_context M t f) f.body (Known []))

-- declared locals of a type are numbers, or there are none of them
abbrev pub declares_numbers : ℕ × ValType → Bool
declares_numbers p = nat_eq p.0 0 || is_number p.1

-- a function whose type is there, whose locals beyond its parameters are numbers, and whose body takes nothing and ends in its
-- results
abbrev pub is_typed_function : WasmModule → WasmFunc → Bool
is_typed_function M f = list_all declares_numbers f.locals && elim (slice_get M.types f.ty) [ None ↦ false | Some t ↦ is_typed_body M f t ]

-- the nth function that the module defines is there and well typed
abbrev pub typed_function : WasmModule → ℕ → Bool
typed_function M n = elim (slice_get M.funcs n) [ None ↦ false | Some f ↦ is_typed_function M f ]

-- ---- modules

-- pages of 65,536 bytes or of one
abbrev pub is_page_size : Option ℕ → Bool
is_page_size None = true
is_page_size (Some log2) = nat_eq log2 0 || nat_eq log2 16

-- a memory of no more bytes at first than its addresses tell apart, and of no more pages than a number of their width says
abbrev pub is_memory_type : (memory64 : Bool) → (log2 : Option ℕ) → (minimum : ℕ) → Bool
is_memory_type memory64 log2 minimum =
    is_page_size log2 && (nat_le (minimum * page_bytes log2) (2 ^ address_bits memory64) && nat_lt minimum (2 ^ address_bits memory64))

abbrev pub is_typed_import : WasmModule → WasmImport → Bool
is_typed_import M i = elim i.ty [ import.Func t ↦ is_some (slice_get M.types t) | import.Memory minimum memory64 log2 ↦ is_memory_type memory64 log2 minimum | import.Global t mutable ↦ true ]

abbrev pub is_typed_export : WasmModule → WasmExport → Bool
is_typed_export M e = is_some (function_type M e.func)

-- no two exports have one name
abbrev pub are_distinct : List WasmExport → Bool
are_distinct [] = true
are_distinct (e ∷ es) = not (list_any (λ d. bytes_eq e.name d.name) es) && are_distinct es

-- A module whose imports, exports and functions are well typed, and whose exports have distinct names.
abbrev pub typed_module : WasmModule → Bool
typed_module M = list_all (is_typed_import M) M.imports && (list_all (is_typed_export M) M.exports && (are_distinct M.exports && list_all (is_typed_function M) M.funcs))
