-- The binary format of instructions (core specification, "Binary format", "Instructions").
use Rattle.std.specs.Prelude.{◌≡◌, ℕ, ◌+◌, ◌*◌, ◌<◌, ◌^◌, List, [], ◌∷◌, ◌++◌, length, map, Some, None, nat_eq, if◌then◌else◌}
use Rattle.std.specs.List.{flat_map, AllByRecursion}
use Rattle.std.specs.Int.{w32, w64, cast_signed, to_le_bytes}
use Rattle.fact_binary.specs.Numbers.{unsigned, signed, groups, count}
use Rattle.fact_wasm.specs.declared.types.ValType.{ValType}
use Rattle.fact_wasm.specs.declared.types.ValType.TheVariants as val
use Rattle.fact_wasm.specs.declared.instr.BlockType.{BlockType}
use Rattle.fact_wasm.specs.declared.instr.BlockType.TheVariants as block
use Rattle.fact_wasm.specs.declared.instr.FuncName.{FuncName}
use Rattle.fact_wasm.specs.declared.instr.FuncName.TheVariants as func
use Rattle.fact_wasm.specs.declared.instr.MemArg.{MemArg}
use Rattle.fact_wasm.specs.declared.instr.Instr.{Instr, fold-Instr}
use Rattle.fact_wasm.specs.declared.instr.Instr.TheOpen as o
use Rattle.fact_wasm.specs.declared.instr.Instr.TheOpen.{Instr-F}

-- a list: its length, a u32, and its items
abbrev pub list : {A : Type 0} → (A → List ℕ) → List A → List ℕ
list f xs = unsigned (length xs) ++ flat_map f xs

abbrev pub IsList : {A : Type 0} → (A → Type 0) → List A → Type 0
IsList P xs = (length xs < 2 ^ 32) × AllByRecursion P xs

abbrev pub val_type : ValType → ℕ
val_type val.I32 = 0x7F
val_type val.I64 = 0x7E
val_type val.F32 = 0x7D
val_type val.F64 = 0x7C
val_type val.FuncRef = 0x70

-- a type index in a block type is a signed integer
abbrev pub block_type : BlockType → List ℕ
block_type block.Empty = 0x40 ∷ []
block_type (block.Result t) = val_type t ∷ []
block_type (block.FunctionType n) = groups (count (2 * n)) n

-- the alignment's exponent and the offset, and between them the memory where it is not the first, which 64 above the exponent tells
abbrev pub memarg : MemArg → List ℕ
memarg m =
    if nat_eq m.memory_index 0 then unsigned m.align ++ unsigned m.offset else unsigned (m.align + 64) ++ (unsigned m.memory_index ++ unsigned m.offset)

-- a clause of try_table that catches all
abbrev pub catch_all : ℕ → List ℕ
catch_all label = 0x02 ∷ unsigned label

-- the index of a function, where n functions are imported
abbrev pub function_index : ℕ → FuncName → ℕ
function_index n (func.Import i) = i
function_index n (func.Defined i) = i + n

-- ---- immediates: an index, constants by their bits, a block's type, a memory's place, labels, catch clauses

pub data Arg : Type 0 where
  Index : ℕ → Arg
  Int32 : ℕ → Arg
  Int64 : ℕ → Arg
  Float32 : ℕ → Arg
  Float64 : ℕ → Arg
  Typ : BlockType → Arg
  Memory : MemArg → Arg
  Labels : List ℕ → Arg
  Catches : List ℕ → Arg

pub data ImmediateKind : Type 0 where
  AnIndex : ImmediateKind
  AnInt32 : ImmediateKind
  AnInt64 : ImmediateKind
  AFloat32 : ImmediateKind
  AFloat64 : ImmediateKind
  ATyp : ImmediateKind
  AMemory : ImmediateKind
  SomeLabels : ImmediateKind
  SomeCatches : ImmediateKind

abbrev pub kind : Arg → ImmediateKind
kind (Index n) = AnIndex
kind (Int32 n) = AnInt32
kind (Int64 n) = AnInt64
kind (Float32 n) = AFloat32
kind (Float64 n) = AFloat64
kind (Typ t) = ATyp
kind (Memory m) = AMemory
kind (Labels ls) = SomeLabels
kind (Catches ls) = SomeCatches

abbrev pub arg : Arg → List ℕ
arg (Index n) = unsigned n
arg (Int32 n) = signed (cast_signed w32 n)
arg (Int64 n) = signed (cast_signed w64 n)
arg (Float32 n) = to_le_bytes w32 n
arg (Float64 n) = to_le_bytes w64 n
arg (Typ t) = block_type t
arg (Memory m) = memarg m
arg (Labels ls) = list unsigned ls
arg (Catches ls) = list catch_all ls

abbrev pub args : List Arg → List ℕ
args = flat_map arg

abbrev pub IsBlockType : BlockType → Type 0
IsBlockType (block.FunctionType n) = n < 2 ^ 32
IsBlockType _ = Unit {0}

abbrev pub IsMemArg : MemArg → Type 0
IsMemArg m = (m.align < 64) × (m.offset < 2 ^ 64) × (m.memory_index < 2 ^ 32)

abbrev pub IsIndex : ℕ → Type 0
IsIndex n = n < 2 ^ 32

abbrev pub IsArg : Arg → Type 0
IsArg (Index n) = n < 2 ^ 32
IsArg (Int32 n) = n < 2 ^ 32
IsArg (Int64 n) = n < 2 ^ 64
IsArg (Float32 n) = n < 2 ^ 32
IsArg (Float64 n) = n < 2 ^ 64
IsArg (Typ t) = IsBlockType t
IsArg (Memory m) = IsMemArg m
IsArg (Labels ls) = IsList IsIndex ls
IsArg (Catches ls) = IsList IsIndex ls

-- ---- instructions: immediates alone, with a body, or with a body and another for the other case, which may be empty

mutual
  pub data InstrNode : Type 0 where
    Leaf : (op : ℕ) → (xs : List Arg) → InstrNode
    Nest : (op : ℕ) → (xs : List Arg) → (body : Nodes) → InstrNode
    Choice : (op : ℕ) → (xs : List Arg) → (body other : Nodes) → InstrNode

  pub data Nodes : Type 0 where
    Nil : Nodes
    Cons : InstrNode → Nodes → Nodes

-- what stands behind the first body of a choice: its end, or the other body where that is not empty
abbrev pub choice_end : Nodes → List ℕ → List ℕ
choice_end Nil bytes = 0x0B ∷ []
choice_end (Cons i is) bytes = 0x05 ∷ (bytes ++ 0x0B ∷ [])

unfoldable mutual
  pub code : InstrNode → List ℕ
  code (Leaf op xs) = op ∷ args xs
  code (Nest op xs body) = op ∷ (args xs ++ (codes body ++ 0x0B ∷ []))
  code (Choice op xs body other) = op ∷ (args xs ++ (codes body ++ choice_end other (codes other)))

  pub codes : Nodes → List ℕ
  codes Nil = []
  codes (Cons i is) = code i ++ codes is

pub data InstrShape : Type 0 where
  NoShape : InstrShape
  Flat : List ImmediateKind → InstrShape
  Body : List ImmediateKind → InstrShape
  Bodies : List ImmediateKind → InstrShape

-- the rows of the table of instructions: which immediates stand behind an opcode
abbrev pub rows : List (ℕ × InstrShape)
rows =
    (0x00, Flat [])
    ∷ (0x02, Body (ATyp ∷ []))
    ∷ (0x03, Body (ATyp ∷ []))
    ∷ (0x04, Bodies (ATyp ∷ []))
    ∷ (0x0C, Flat (AnIndex ∷ []))
    ∷ (0x0D, Flat (AnIndex ∷ []))
    ∷ (0x0E, Flat (SomeLabels ∷ AnIndex ∷ []))
    ∷ (0x10, Flat (AnIndex ∷ []))
    ∷ (0x1A, Flat [])
    ∷ (0x1B, Flat [])
    ∷ (0x1F, Body (ATyp ∷ SomeCatches ∷ []))
    ∷ (0x20, Flat (AnIndex ∷ []))
    ∷ (0x21, Flat (AnIndex ∷ []))
    ∷ (0x22, Flat (AnIndex ∷ []))
    ∷ (0x23, Flat (AnIndex ∷ []))
    ∷ (0x24, Flat (AnIndex ∷ []))
    ∷ (0x28, Flat (AMemory ∷ []))
    ∷ (0x29, Flat (AMemory ∷ []))
    ∷ (0x2A, Flat (AMemory ∷ []))
    ∷ (0x2B, Flat (AMemory ∷ []))
    ∷ (0x2C, Flat (AMemory ∷ []))
    ∷ (0x2D, Flat (AMemory ∷ []))
    ∷ (0x2E, Flat (AMemory ∷ []))
    ∷ (0x2F, Flat (AMemory ∷ []))
    ∷ (0x36, Flat (AMemory ∷ []))
    ∷ (0x37, Flat (AMemory ∷ []))
    ∷ (0x38, Flat (AMemory ∷ []))
    ∷ (0x39, Flat (AMemory ∷ []))
    ∷ (0x3A, Flat (AMemory ∷ []))
    ∷ (0x3B, Flat (AMemory ∷ []))
    ∷ (0x3F, Flat (AnIndex ∷ []))
    ∷ (0x41, Flat (AnInt32 ∷ []))
    ∷ (0x42, Flat (AnInt64 ∷ []))
    ∷ (0x43, Flat (AFloat32 ∷ []))
    ∷ (0x44, Flat (AFloat64 ∷ []))
    ∷ (0x45, Flat [])
    ∷ (0x46, Flat [])
    ∷ (0x47, Flat [])
    ∷ (0x49, Flat [])
    ∷ (0x4B, Flat [])
    ∷ (0x4F, Flat [])
    ∷ (0x50, Flat [])
    ∷ (0x51, Flat [])
    ∷ (0x52, Flat [])
    ∷ (0x54, Flat [])
    ∷ (0x56, Flat [])
    ∷ (0x5A, Flat [])
    ∷ (0x6A, Flat [])
    ∷ (0x6B, Flat [])
    ∷ (0x6C, Flat [])
    ∷ (0x71, Flat [])
    ∷ (0x72, Flat [])
    ∷ (0x73, Flat [])
    ∷ (0x74, Flat [])
    ∷ (0x76, Flat [])
    ∷ (0x7C, Flat [])
    ∷ (0x7D, Flat [])
    ∷ (0x7E, Flat [])
    ∷ (0x83, Flat [])
    ∷ (0x84, Flat [])
    ∷ (0x85, Flat [])
    ∷ (0x86, Flat [])
    ∷ (0x88, Flat [])
    ∷ (0xA7, Flat [])
    ∷ (0xAD, Flat [])
    ∷ (0xBC, Flat [])
    ∷ (0xBD, Flat [])
    ∷ (0xBE, Flat [])
    ∷ (0xBF, Flat [])
    ∷ (0xC0, Flat [])
    ∷ (0xC1, Flat [])
    ∷ (0xD2, Flat (AnIndex ∷ []))
    ∷ []

abbrev pub find_row : List (ℕ × InstrShape) → ℕ → InstrShape
find_row [] op = NoShape
find_row (r ∷ rs) op = if nat_eq r.0 op then r.1 else find_row rs op

unfoldable pub shape : ℕ → InstrShape
shape op = find_row rows op

-- a tree whose rows are in the table, with numbers in range
unfoldable mutual
  pub IsNode : InstrNode → Type 0
  IsNode (Leaf op xs) = (shape op ≡ Flat (map kind xs)) × AllByRecursion IsArg xs
  IsNode (Nest op xs body) = (shape op ≡ Body (map kind xs)) × AllByRecursion IsArg xs × AreNodes body
  IsNode (Choice op xs body other) = (shape op ≡ Bodies (map kind xs)) × AllByRecursion IsArg xs × AreNodes body × AreNodes other

  pub AreNodes : Nodes → Type 0
  AreNodes Nil = Unit {0}
  AreNodes (Cons i is) = IsNode i × AreNodes is

-- ---- which row an instruction is, where n functions are imported

abbrev pub nodes : List InstrNode → Nodes
nodes [] = Nil
nodes (i ∷ is) = Cons i (nodes is)

abbrev pub instr_node : ℕ → Instr-F InstrNode → InstrNode
instr_node n o.Unreachable = Leaf 0x00 []
instr_node n (o.Block t body) = Nest 0x02 (Typ t ∷ []) (nodes body)
instr_node n (o.Loop t body) = Nest 0x03 (Typ t ∷ []) (nodes body)
instr_node n (o.If t body None) = Choice 0x04 (Typ t ∷ []) (nodes body) Nil
instr_node n (o.If t body (Some other)) = Choice 0x04 (Typ t ∷ []) (nodes body) (nodes other)
instr_node n (o.Br k) = Leaf 0x0C (Index k ∷ [])
instr_node n (o.BrIf k) = Leaf 0x0D (Index k ∷ [])
instr_node n (o.BrTable ls l) = Leaf 0x0E (Labels ls ∷ Index l ∷ [])
instr_node n (o.Call f) = Leaf 0x10 (Index (function_index n f) ∷ [])
instr_node n o.Drop = Leaf 0x1A []
instr_node n o.Select = Leaf 0x1B []
instr_node n (o.TryTable t ls body) = Nest 0x1F (Typ t ∷ Catches ls ∷ []) (nodes body)
instr_node n (o.LocalGet k) = Leaf 0x20 (Index k ∷ [])
instr_node n (o.LocalSet k) = Leaf 0x21 (Index k ∷ [])
instr_node n (o.LocalTee k) = Leaf 0x22 (Index k ∷ [])
instr_node n (o.GlobalGet k) = Leaf 0x23 (Index k ∷ [])
instr_node n (o.GlobalSet k) = Leaf 0x24 (Index k ∷ [])
instr_node n (o.I32Load m) = Leaf 0x28 (Memory m ∷ [])
instr_node n (o.I64Load m) = Leaf 0x29 (Memory m ∷ [])
instr_node n (o.F32Load m) = Leaf 0x2A (Memory m ∷ [])
instr_node n (o.F64Load m) = Leaf 0x2B (Memory m ∷ [])
instr_node n (o.I32Load8S m) = Leaf 0x2C (Memory m ∷ [])
instr_node n (o.I32Load8U m) = Leaf 0x2D (Memory m ∷ [])
instr_node n (o.I32Load16S m) = Leaf 0x2E (Memory m ∷ [])
instr_node n (o.I32Load16U m) = Leaf 0x2F (Memory m ∷ [])
instr_node n (o.I32Store m) = Leaf 0x36 (Memory m ∷ [])
instr_node n (o.I64Store m) = Leaf 0x37 (Memory m ∷ [])
instr_node n (o.F32Store m) = Leaf 0x38 (Memory m ∷ [])
instr_node n (o.F64Store m) = Leaf 0x39 (Memory m ∷ [])
instr_node n (o.I32Store8 m) = Leaf 0x3A (Memory m ∷ [])
instr_node n (o.I32Store16 m) = Leaf 0x3B (Memory m ∷ [])
instr_node n (o.MemorySize k) = Leaf 0x3F (Index k ∷ [])
instr_node n (o.I32Const x) = Leaf 0x41 (Int32 x ∷ [])
instr_node n (o.I64Const x) = Leaf 0x42 (Int64 x ∷ [])
instr_node n (o.F32Const x) = Leaf 0x43 (Float32 x ∷ [])
instr_node n (o.F64Const x) = Leaf 0x44 (Float64 x ∷ [])
instr_node n o.I32Eqz = Leaf 0x45 []
instr_node n o.I32Eq = Leaf 0x46 []
instr_node n o.I32Ne = Leaf 0x47 []
instr_node n o.I32LtU = Leaf 0x49 []
instr_node n o.I32GtU = Leaf 0x4B []
instr_node n o.I32GeU = Leaf 0x4F []
instr_node n o.I64Eqz = Leaf 0x50 []
instr_node n o.I64Eq = Leaf 0x51 []
instr_node n o.I64Ne = Leaf 0x52 []
instr_node n o.I64LtU = Leaf 0x54 []
instr_node n o.I64GtU = Leaf 0x56 []
instr_node n o.I64GeU = Leaf 0x5A []
instr_node n o.I32Add = Leaf 0x6A []
instr_node n o.I32Sub = Leaf 0x6B []
instr_node n o.I32Mul = Leaf 0x6C []
instr_node n o.I32And = Leaf 0x71 []
instr_node n o.I32Or = Leaf 0x72 []
instr_node n o.I32Xor = Leaf 0x73 []
instr_node n o.I32Shl = Leaf 0x74 []
instr_node n o.I32ShrU = Leaf 0x76 []
instr_node n o.I64Add = Leaf 0x7C []
instr_node n o.I64Sub = Leaf 0x7D []
instr_node n o.I64Mul = Leaf 0x7E []
instr_node n o.I64And = Leaf 0x83 []
instr_node n o.I64Or = Leaf 0x84 []
instr_node n o.I64Xor = Leaf 0x85 []
instr_node n o.I64Shl = Leaf 0x86 []
instr_node n o.I64ShrU = Leaf 0x88 []
instr_node n o.I32WrapI64 = Leaf 0xA7 []
instr_node n o.I64ExtendI32U = Leaf 0xAD []
instr_node n o.I32ReinterpretF32 = Leaf 0xBC []
instr_node n o.I64ReinterpretF64 = Leaf 0xBD []
instr_node n o.F32ReinterpretI32 = Leaf 0xBE []
instr_node n o.F64ReinterpretI64 = Leaf 0xBF []
instr_node n o.I32Extend8S = Leaf 0xC0 []
instr_node n o.I32Extend16S = Leaf 0xC1 []
instr_node n (o.RefFunc f) = Leaf 0xD2 (Index (function_index n f) ∷ [])

abbrev pub node : ℕ → Instr → InstrNode
node n = fold-Instr InstrNode (instr_node n)

abbrev pub opcode : InstrNode → ℕ
opcode (Leaf op xs) = op
opcode (Nest op xs a) = op
opcode (Choice op xs a b) = op

-- the instructions of a body, one after another
abbrev pub body_nodes : ℕ → List Instr → Nodes
body_nodes n is = nodes (map (node n) is)
