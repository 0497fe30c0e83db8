-- Cited by private clauses alone.
-- The instruction that a tree of the grammar stands for: the table of instructions read from the right.
use Rattle.std.specs.Prelude.{ℕ, ◌-◌, List, [], ◌∷◌, Option, Some, None, nat_eq, nat_lt, if◌then◌else◌}
use Rattle.fact_wasm.specs.declared.instr.BlockType.{BlockType}
use Rattle.fact_wasm.specs.declared.instr.FuncName.{FuncName}
use Rattle.fact_wasm.specs.declared.instr.FuncName.TheVariants as func
use Rattle.fact_wasm.specs.declared.instr.MemArg.{MemArg}
use Rattle.fact_wasm.specs.declared.instr.Instr.{Instr, roll-Instr}
use Rattle.fact_wasm.specs.declared.instr.Instr.TheOpen as o
use Rattle.fact_wasm.specs.declared.instr.Instr.TheOpen.{Instr-F}
use Rattle.fact_binary.specs.Grammar.{Arg, Index, Int32, Int64, Float32, Float64, Typ, Memory, Labels, Catches, InstrNode, Leaf, Nest, Choice, Nodes, Nil, Cons}

-- the function of an index, where n functions are imported
abbrev pub name_of : ℕ → ℕ → FuncName
name_of n k = if nat_lt k n then func.Import k else func.Defined (k - n)

abbrev pub look_up : {A : Type 0} → A → List (ℕ × A) → ℕ → A
look_up default [] op = default
look_up default (r ∷ rs) op = if nat_eq r.0 op then r.1 else look_up default rs op

abbrev pub plain_rows : List (ℕ × Instr-F Instr)
plain_rows =
    (0x00, o.Unreachable)
    ∷ (0x1A, o.Drop)
    ∷ (0x1B, o.Select)
    ∷ (0x45, o.I32Eqz)
    ∷ (0x46, o.I32Eq)
    ∷ (0x47, o.I32Ne)
    ∷ (0x49, o.I32LtU)
    ∷ (0x4B, o.I32GtU)
    ∷ (0x4F, o.I32GeU)
    ∷ (0x50, o.I64Eqz)
    ∷ (0x51, o.I64Eq)
    ∷ (0x52, o.I64Ne)
    ∷ (0x54, o.I64LtU)
    ∷ (0x56, o.I64GtU)
    ∷ (0x5A, o.I64GeU)
    ∷ (0x6A, o.I32Add)
    ∷ (0x6B, o.I32Sub)
    ∷ (0x6C, o.I32Mul)
    ∷ (0x71, o.I32And)
    ∷ (0x72, o.I32Or)
    ∷ (0x73, o.I32Xor)
    ∷ (0x74, o.I32Shl)
    ∷ (0x76, o.I32ShrU)
    ∷ (0x7C, o.I64Add)
    ∷ (0x7D, o.I64Sub)
    ∷ (0x7E, o.I64Mul)
    ∷ (0x83, o.I64And)
    ∷ (0x84, o.I64Or)
    ∷ (0x85, o.I64Xor)
    ∷ (0x86, o.I64Shl)
    ∷ (0x88, o.I64ShrU)
    ∷ (0xA7, o.I32WrapI64)
    ∷ (0xAD, o.I64ExtendI32U)
    ∷ (0xBC, o.I32ReinterpretF32)
    ∷ (0xBD, o.I64ReinterpretF64)
    ∷ (0xBE, o.F32ReinterpretI32)
    ∷ (0xBF, o.F64ReinterpretI64)
    ∷ (0xC0, o.I32Extend8S)
    ∷ (0xC1, o.I32Extend16S)
    ∷ []

abbrev pub index_rows : List (ℕ × (ℕ → ℕ → Instr-F Instr))
index_rows =
    (0x0C, λ n k. o.Br k)
    ∷ (0x0D, λ n k. o.BrIf k)
    ∷ (0x10, λ n k. o.Call (name_of n k))
    ∷ (0x20, λ n k. o.LocalGet k)
    ∷ (0x21, λ n k. o.LocalSet k)
    ∷ (0x22, λ n k. o.LocalTee k)
    ∷ (0x23, λ n k. o.GlobalGet k)
    ∷ (0x24, λ n k. o.GlobalSet k)
    ∷ (0x3F, λ n k. o.MemorySize k)
    ∷ (0xD2, λ n k. o.RefFunc (name_of n k))
    ∷ []

abbrev pub memory_rows : List (ℕ × (MemArg → Instr-F Instr))
memory_rows =
    (0x28, λ m. o.I32Load m)
    ∷ (0x29, λ m. o.I64Load m)
    ∷ (0x2A, λ m. o.F32Load m)
    ∷ (0x2B, λ m. o.F64Load m)
    ∷ (0x2C, λ m. o.I32Load8S m)
    ∷ (0x2D, λ m. o.I32Load8U m)
    ∷ (0x2E, λ m. o.I32Load16S m)
    ∷ (0x2F, λ m. o.I32Load16U m)
    ∷ (0x36, λ m. o.I32Store m)
    ∷ (0x37, λ m. o.I64Store m)
    ∷ (0x38, λ m. o.F32Store m)
    ∷ (0x39, λ m. o.F64Store m)
    ∷ (0x3A, λ m. o.I32Store8 m)
    ∷ (0x3B, λ m. o.I32Store16 m)
    ∷ []

abbrev pub body_rows : List (ℕ × (BlockType → List Instr → Instr-F Instr))
body_rows =
    (0x02, λ t body. o.Block t body)
    ∷ (0x03, λ t body. o.Loop t body)
    ∷ []

abbrev pub leaf_of : ℕ → ℕ → List Arg → Instr-F Instr
leaf_of n op [] = look_up o.Unreachable plain_rows op
leaf_of n op (Index k ∷ []) = look_up (λ n k. o.Unreachable) index_rows op n k
leaf_of n op (Memory m ∷ []) = look_up (λ m. o.Unreachable) memory_rows op m
leaf_of n op (Int32 x ∷ []) = o.I32Const x
leaf_of n op (Int64 x ∷ []) = o.I64Const x
leaf_of n op (Float32 x ∷ []) = o.F32Const x
leaf_of n op (Float64 x ∷ []) = o.F64Const x
leaf_of n op (Labels ls ∷ Index l ∷ []) = o.BrTable ls l
leaf_of n op _ = o.Unreachable

abbrev pub nest_of : ℕ → List Arg → List Instr → Instr-F Instr
nest_of op (Typ t ∷ []) body = look_up (λ t body. o.Unreachable) body_rows op t body
nest_of op (Typ t ∷ Catches ls ∷ []) body = o.TryTable t ls body
nest_of op _ body = o.Unreachable

-- an else body is there where it is not empty
abbrev pub other_of : List Instr → Option (List Instr)
other_of [] = None
other_of (i ∷ is) = Some (i ∷ is)

abbrev pub choice_of : List Arg → List Instr → List Instr → Instr-F Instr
choice_of (Typ t ∷ []) body other = o.If t body (other_of other)
choice_of _ body other = o.Unreachable

unfoldable mutual
  pub instr_of : ℕ → InstrNode → Instr
  instr_of n (Leaf op xs) = roll-Instr (leaf_of n op xs)
  instr_of n (Nest op xs body) = roll-Instr (nest_of op xs (instrs_of n body))
  instr_of n (Choice op xs body other) = roll-Instr (choice_of xs (instrs_of n body) (instrs_of n other))

  pub instrs_of : ℕ → Nodes → List Instr
  instrs_of n Nil = []
  instrs_of n (Cons i is) = instr_of n i ∷ instrs_of n is
