-- Cited by private clauses alone.
-- What the readers of instructions answer.
use Rattle.std.specs.Prelude.{◌≡◌, ℕ, List, [], ◌∷◌, ◌++◌, map}
use Rattle.std.specs.List.{AllByRecursion}
use Rattle.fact_wasm.specs.declared.instr.BlockType.{BlockType}
use Rattle.fact_wasm.specs.declared.instr.Instr.{Instr}
use Rattle.fact_binary.specs.declared.forms.IndexRow.{IndexRow}
use Rattle.fact_binary.specs.declared.forms.IndexRow.TheVariants as index
use Rattle.fact_binary.specs.declared.forms.FuncRow.{FuncRow}
use Rattle.fact_binary.specs.declared.forms.FuncRow.TheVariants as func
use Rattle.fact_binary.specs.declared.forms.MemoryRow.{MemoryRow}
use Rattle.fact_binary.specs.declared.forms.MemoryRow.TheVariants as memory
use Rattle.fact_binary.specs.declared.forms.LeafRow.{LeafRow}
use Rattle.fact_binary.specs.declared.forms.LeafRow.TheVariants as leaf
use Rattle.fact_binary.specs.declared.forms.BodyRow.{BodyRow}
use Rattle.fact_binary.specs.declared.forms.BodyRow.TheVariants as nest
use Rattle.fact_binary.specs.declared.forms.Form.{Form}
use Rattle.fact_binary.specs.declared.forms.Form.TheVariants as form
use Rattle.fact_binary.specs.Answers.{IsEnd}
use Rattle.fact_binary.specs.Grammar.{Arg, Typ, Catches, ImmediateKind, AnIndex, AnInt32, AnInt64, AFloat32, AFloat64, ATyp, AMemory, SomeLabels, SomeCatches, kind, args, IsArg, InstrNode, Leaf, Nest, Choice, Flat, Body, Bodies, NoShape, shape, node, body_nodes, code, codes, IsNode, AreNodes}
use Rattle.fact_binary.specs.Rebuild.{instr_of, instrs_of}

abbrev pub index_op : IndexRow → ℕ
index_op index.Br = 0x0C
index_op index.BrIf = 0x0D
index_op index.LocalGet = 0x20
index_op index.LocalSet = 0x21
index_op index.LocalTee = 0x22
index_op index.GlobalGet = 0x23
index_op index.GlobalSet = 0x24
index_op index.MemorySize = 0x3F

abbrev pub func_op : FuncRow → ℕ
func_op func.Call = 0x10
func_op func.RefFunc = 0xD2

abbrev pub memory_op : MemoryRow → ℕ
memory_op memory.I32Load = 0x28
memory_op memory.I64Load = 0x29
memory_op memory.F32Load = 0x2A
memory_op memory.F64Load = 0x2B
memory_op memory.I32Load8S = 0x2C
memory_op memory.I32Load8U = 0x2D
memory_op memory.I32Load16S = 0x2E
memory_op memory.I32Load16U = 0x2F
memory_op memory.I32Store = 0x36
memory_op memory.I64Store = 0x37
memory_op memory.F32Store = 0x38
memory_op memory.F64Store = 0x39
memory_op memory.I32Store8 = 0x3A
memory_op memory.I32Store16 = 0x3B

abbrev pub leaf_op : LeafRow → ℕ
leaf_op (leaf.Index r) = index_op r
leaf_op (leaf.Func r) = func_op r
leaf_op (leaf.Memory r) = memory_op r
leaf_op leaf.Int32 = 0x41
leaf_op leaf.Int64 = 0x42
leaf_op leaf.Float32 = 0x43
leaf_op leaf.Float64 = 0x44
leaf_op leaf.Labels = 0x0E

abbrev pub leaf_kinds : LeafRow → List ImmediateKind
leaf_kinds (leaf.Index r) = AnIndex ∷ []
leaf_kinds (leaf.Func r) = AnIndex ∷ []
leaf_kinds (leaf.Memory r) = AMemory ∷ []
leaf_kinds leaf.Int32 = AnInt32 ∷ []
leaf_kinds leaf.Int64 = AnInt64 ∷ []
leaf_kinds leaf.Float32 = AFloat32 ∷ []
leaf_kinds leaf.Float64 = AFloat64 ∷ []
leaf_kinds leaf.Labels = SomeLabels ∷ AnIndex ∷ []

abbrev pub body_op : BodyRow → ℕ
body_op nest.Block = 0x02
body_op nest.Loop = 0x03
body_op nest.TryTable = 0x1F

abbrev pub body_kinds : BodyRow → List ImmediateKind
body_kinds nest.TryTable = ATyp ∷ SomeCatches ∷ []
body_kinds nest.Block = ATyp ∷ []
body_kinds nest.Loop = ATyp ∷ []

-- the immediates before a body; only try_table has catch clauses
abbrev pub head_args : BodyRow → BlockType → List ℕ → List Arg
head_args nest.TryTable t ls = Typ t ∷ Catches ls ∷ []
head_args nest.Block t ls = Typ t ∷ []
head_args nest.Loop t ls = Typ t ∷ []

-- the row of an opcode
abbrev pub Formed : ℕ → Form → Type 0
Formed op (form.Plain i) = (shape op ≡ Flat []) × ((n : ℕ) → (node n i ≡ Leaf op []) × (instr_of n (Leaf op []) ≡ i))
Formed op (form.Leaf r) = (shape op ≡ Flat (leaf_kinds r)) × (leaf_op r ≡ op)
Formed op (form.Body r) = (shape op ≡ Body (body_kinds r)) × (body_op r ≡ op)
Formed op form.If = (shape op ≡ Bodies (ATyp ∷ [])) × (op ≡ 0x04)
Formed op form.Unknown = shape op ≡ NoShape

abbrev pub operands : InstrNode → List Arg
operands (Leaf op xs) = xs
operands (Nest op xs body) = xs
operands (Choice op xs body other) = xs

-- an instruction of the row whose immediates stand at the front of the bytes
pub record IsLeafAt (n : ℕ) (r : LeafRow) (bytes : List ℕ) (i : Instr) (rest : List ℕ) : Type 0 where
  pub row : node n i ≡ Leaf (leaf_op r) (operands (node n i))
  pub kinds : map kind (operands (node n i)) ≡ leaf_kinds r
  pub fits : AllByRecursion IsArg (operands (node n i))
  pub own : instr_of n (node n i) ≡ i
  pub spelled : bytes ≡ args (operands (node n i)) ++ rest

-- an instruction that stands at the front of the bytes
pub record IsInstrAt (n : ℕ) (bytes : List ℕ) (i : Instr) (rest : List ℕ) : Type 0 where
  pub fits : IsNode (node n i)
  pub own : instr_of n (node n i) ≡ i
  pub spelled : bytes ≡ code (node n i) ++ rest

-- a body that stands there, with the byte that ends it
pub record IsBodyAt (n : ℕ) (bytes : List ℕ) (is : List Instr) (b : ℕ) (rest : List ℕ) : Type 0 where
  pub ends : IsEnd b
  pub fits : AreNodes (body_nodes n is)
  pub own : instrs_of n (body_nodes n is) ≡ is
  pub spelled : bytes ≡ codes (body_nodes n is) ++ b ∷ rest
