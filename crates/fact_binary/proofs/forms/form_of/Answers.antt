use Rattle.std.proofs.Common.{◌≡◌, ℕ, [], refl, ◌∙◌}
use Rattle.fact_wasm.specs.declared.instr.Instr.{Instr, Instr-F, roll-Instr, map-Instr}
use Rattle.fact_wasm.specs.declared.instr.Instr.TheVariants as v
use Rattle.fact_binary.specs.declared.forms.IndexRow.TheVariants as index
use Rattle.fact_binary.specs.declared.forms.FuncRow.TheVariants as func
use Rattle.fact_binary.specs.declared.forms.MemoryRow.TheVariants as memory
use Rattle.fact_binary.specs.declared.forms.LeafRow.{LeafRow}
use Rattle.fact_binary.specs.declared.forms.LeafRow.TheVariants as row
use Rattle.fact_binary.specs.declared.forms.BodyRow.{BodyRow}
use Rattle.fact_binary.specs.declared.forms.BodyRow.TheVariants as body
use Rattle.fact_binary.specs.declared.forms.Form.TheVariants as form
use Rattle.fact_binary.specs.Forms.{Formed, leaf_op, leaf_kinds, body_op, body_kinds}
use Rattle.fact_binary.specs.Grammar.{InstrNode, Leaf, Flat, Body, shape, instr_node, node}
use Rattle.fact_binary.specs.Rebuild.{instr_of}
use Rattle.fact_binary.proofs.Layers.{node-layer}
use Rattle.fact_binary.proofs.forms.form_of.Goals as goal

module _ (op k : ℕ) (o : op ≡ k) where
  plain : (i : Instr) (x : Instr-F Instr) → roll-Instr x ≡ i → shape k ≡ Flat [] → ((n : ℕ) → instr_node n (map-Instr Instr InstrNode (node n) x) ≡ Leaf k [])
      → ((n : ℕ) → instr_of n (Leaf k []) ≡ roll-Instr x) → Formed op (form.Plain i)
  plain i x e s r b = rw o (s, λ n. (node-layer i x e n ∙ r n, b n ∙ e))

  leaf : (r : LeafRow) → shape k ≡ Flat (leaf_kinds r) → leaf_op r ≡ k → Formed op (form.Leaf r)
  leaf r s e = rw o (s, e)

  nest : (r : BodyRow) → shape k ≡ Body (body_kinds r) → body_op r ≡ k → Formed op (form.Body r)
  nest r s e = rw o (s, e)

pub returns-in-0 : goal.returns-in-0
unfolding shape instr_of
returns-in-0 c = plain _ _ c.in-0.is _ _ v.rolls-Unreachable refl (λ n. refl) (λ n. refl)

pub returns-in-2 : goal.returns-in-2
unfolding shape
returns-in-2 c = nest _ _ c.in-2.is body.Block refl refl

pub returns-in-3 : goal.returns-in-3
unfolding shape
returns-in-3 c = nest _ _ c.in-3.is body.Loop refl refl

pub returns-in-12 : goal.returns-in-12
unfolding shape
returns-in-12 c = leaf _ _ c.in-12.is (row.Index index.Br) refl refl

pub returns-in-13 : goal.returns-in-13
unfolding shape
returns-in-13 c = leaf _ _ c.in-13.is (row.Index index.BrIf) refl refl

pub returns-in-14 : goal.returns-in-14
unfolding shape
returns-in-14 c = leaf _ _ c.in-14.is row.Labels refl refl

pub returns-in-16 : goal.returns-in-16
unfolding shape
returns-in-16 c = leaf _ _ c.in-16.is (row.Func func.Call) refl refl

pub returns-in-26 : goal.returns-in-26
unfolding shape instr_of
returns-in-26 c = plain _ _ c.in-26.is _ _ v.rolls-Drop refl (λ n. refl) (λ n. refl)

pub returns-in-27 : goal.returns-in-27
unfolding shape instr_of
returns-in-27 c = plain _ _ c.in-27.is _ _ v.rolls-Select refl (λ n. refl) (λ n. refl)

pub returns-in-31 : goal.returns-in-31
unfolding shape
returns-in-31 c = nest _ _ c.in-31.is body.TryTable refl refl

pub returns-in-32 : goal.returns-in-32
unfolding shape
returns-in-32 c = leaf _ _ c.in-32.is (row.Index index.LocalGet) refl refl

pub returns-in-33 : goal.returns-in-33
unfolding shape
returns-in-33 c = leaf _ _ c.in-33.is (row.Index index.LocalSet) refl refl

pub returns-in-34 : goal.returns-in-34
unfolding shape
returns-in-34 c = leaf _ _ c.in-34.is (row.Index index.LocalTee) refl refl

pub returns-in-35 : goal.returns-in-35
unfolding shape
returns-in-35 c = leaf _ _ c.in-35.is (row.Index index.GlobalGet) refl refl

pub returns-in-36 : goal.returns-in-36
unfolding shape
returns-in-36 c = leaf _ _ c.in-36.is (row.Index index.GlobalSet) refl refl

pub returns-in-40 : goal.returns-in-40
unfolding shape
returns-in-40 c = leaf _ _ c.in-40.is (row.Memory memory.I32Load) refl refl

pub returns-in-41 : goal.returns-in-41
unfolding shape
returns-in-41 c = leaf _ _ c.in-41.is (row.Memory memory.I64Load) refl refl

pub returns-in-42 : goal.returns-in-42
unfolding shape
returns-in-42 c = leaf _ _ c.in-42.is (row.Memory memory.F32Load) refl refl

pub returns-in-43 : goal.returns-in-43
unfolding shape
returns-in-43 c = leaf _ _ c.in-43.is (row.Memory memory.F64Load) refl refl

pub returns-in-44 : goal.returns-in-44
unfolding shape
returns-in-44 c = leaf _ _ c.in-44.is (row.Memory memory.I32Load8S) refl refl

pub returns-in-45 : goal.returns-in-45
unfolding shape
returns-in-45 c = leaf _ _ c.in-45.is (row.Memory memory.I32Load8U) refl refl

pub returns-in-46 : goal.returns-in-46
unfolding shape
returns-in-46 c = leaf _ _ c.in-46.is (row.Memory memory.I32Load16S) refl refl

pub returns-in-47 : goal.returns-in-47
unfolding shape
returns-in-47 c = leaf _ _ c.in-47.is (row.Memory memory.I32Load16U) refl refl

pub returns-in-54 : goal.returns-in-54
unfolding shape
returns-in-54 c = leaf _ _ c.in-54.is (row.Memory memory.I32Store) refl refl

pub returns-in-55 : goal.returns-in-55
unfolding shape
returns-in-55 c = leaf _ _ c.in-55.is (row.Memory memory.I64Store) refl refl

pub returns-in-56 : goal.returns-in-56
unfolding shape
returns-in-56 c = leaf _ _ c.in-56.is (row.Memory memory.F32Store) refl refl

pub returns-in-57 : goal.returns-in-57
unfolding shape
returns-in-57 c = leaf _ _ c.in-57.is (row.Memory memory.F64Store) refl refl

pub returns-in-58 : goal.returns-in-58
unfolding shape
returns-in-58 c = leaf _ _ c.in-58.is (row.Memory memory.I32Store8) refl refl

pub returns-in-59 : goal.returns-in-59
unfolding shape
returns-in-59 c = leaf _ _ c.in-59.is (row.Memory memory.I32Store16) refl refl

pub returns-in-63 : goal.returns-in-63
unfolding shape
returns-in-63 c = leaf _ _ c.in-63.is (row.Index index.MemorySize) refl refl

pub returns-in-65 : goal.returns-in-65
unfolding shape
returns-in-65 c = leaf _ _ c.in-65.is row.Int32 refl refl

pub returns-in-66 : goal.returns-in-66
unfolding shape
returns-in-66 c = leaf _ _ c.in-66.is row.Int64 refl refl

pub returns-in-67 : goal.returns-in-67
unfolding shape
returns-in-67 c = leaf _ _ c.in-67.is row.Float32 refl refl

pub returns-in-68 : goal.returns-in-68
unfolding shape
returns-in-68 c = leaf _ _ c.in-68.is row.Float64 refl refl

pub returns-in-69 : goal.returns-in-69
unfolding shape instr_of
returns-in-69 c = plain _ _ c.in-69.is _ _ v.rolls-I32Eqz refl (λ n. refl) (λ n. refl)

pub returns-in-70 : goal.returns-in-70
unfolding shape instr_of
returns-in-70 c = plain _ _ c.in-70.is _ _ v.rolls-I32Eq refl (λ n. refl) (λ n. refl)

pub returns-in-71 : goal.returns-in-71
unfolding shape instr_of
returns-in-71 c = plain _ _ c.in-71.is _ _ v.rolls-I32Ne refl (λ n. refl) (λ n. refl)

pub returns-in-73 : goal.returns-in-73
unfolding shape instr_of
returns-in-73 c = plain _ _ c.in-73.is _ _ v.rolls-I32LtU refl (λ n. refl) (λ n. refl)

pub returns-in-75 : goal.returns-in-75
unfolding shape instr_of
returns-in-75 c = plain _ _ c.in-75.is _ _ v.rolls-I32GtU refl (λ n. refl) (λ n. refl)

pub returns-in-79 : goal.returns-in-79
unfolding shape instr_of
returns-in-79 c = plain _ _ c.in-79.is _ _ v.rolls-I32GeU refl (λ n. refl) (λ n. refl)

pub returns-in-80 : goal.returns-in-80
unfolding shape instr_of
returns-in-80 c = plain _ _ c.in-80.is _ _ v.rolls-I64Eqz refl (λ n. refl) (λ n. refl)

pub returns-in-81 : goal.returns-in-81
unfolding shape instr_of
returns-in-81 c = plain _ _ c.in-81.is _ _ v.rolls-I64Eq refl (λ n. refl) (λ n. refl)

pub returns-in-82 : goal.returns-in-82
unfolding shape instr_of
returns-in-82 c = plain _ _ c.in-82.is _ _ v.rolls-I64Ne refl (λ n. refl) (λ n. refl)

pub returns-in-84 : goal.returns-in-84
unfolding shape instr_of
returns-in-84 c = plain _ _ c.in-84.is _ _ v.rolls-I64LtU refl (λ n. refl) (λ n. refl)

pub returns-in-86 : goal.returns-in-86
unfolding shape instr_of
returns-in-86 c = plain _ _ c.in-86.is _ _ v.rolls-I64GtU refl (λ n. refl) (λ n. refl)

pub returns-in-90 : goal.returns-in-90
unfolding shape instr_of
returns-in-90 c = plain _ _ c.in-90.is _ _ v.rolls-I64GeU refl (λ n. refl) (λ n. refl)

pub returns-in-106 : goal.returns-in-106
unfolding shape instr_of
returns-in-106 c = plain _ _ c.in-106.is _ _ v.rolls-I32Add refl (λ n. refl) (λ n. refl)

pub returns-in-107 : goal.returns-in-107
unfolding shape instr_of
returns-in-107 c = plain _ _ c.in-107.is _ _ v.rolls-I32Sub refl (λ n. refl) (λ n. refl)

pub returns-in-108 : goal.returns-in-108
unfolding shape instr_of
returns-in-108 c = plain _ _ c.in-108.is _ _ v.rolls-I32Mul refl (λ n. refl) (λ n. refl)

pub returns-in-113 : goal.returns-in-113
unfolding shape instr_of
returns-in-113 c = plain _ _ c.in-113.is _ _ v.rolls-I32And refl (λ n. refl) (λ n. refl)

pub returns-in-114 : goal.returns-in-114
unfolding shape instr_of
returns-in-114 c = plain _ _ c.in-114.is _ _ v.rolls-I32Or refl (λ n. refl) (λ n. refl)

pub returns-in-115 : goal.returns-in-115
unfolding shape instr_of
returns-in-115 c = plain _ _ c.in-115.is _ _ v.rolls-I32Xor refl (λ n. refl) (λ n. refl)

pub returns-in-116 : goal.returns-in-116
unfolding shape instr_of
returns-in-116 c = plain _ _ c.in-116.is _ _ v.rolls-I32Shl refl (λ n. refl) (λ n. refl)

pub returns-in-118 : goal.returns-in-118
unfolding shape instr_of
returns-in-118 c = plain _ _ c.in-118.is _ _ v.rolls-I32ShrU refl (λ n. refl) (λ n. refl)

pub returns-in-124 : goal.returns-in-124
unfolding shape instr_of
returns-in-124 c = plain _ _ c.in-124.is _ _ v.rolls-I64Add refl (λ n. refl) (λ n. refl)

pub returns-in-125 : goal.returns-in-125
unfolding shape instr_of
returns-in-125 c = plain _ _ c.in-125.is _ _ v.rolls-I64Sub refl (λ n. refl) (λ n. refl)

pub returns-in-126 : goal.returns-in-126
unfolding shape instr_of
returns-in-126 c = plain _ _ c.in-126.is _ _ v.rolls-I64Mul refl (λ n. refl) (λ n. refl)

pub returns-in-131 : goal.returns-in-131
unfolding shape instr_of
returns-in-131 c = plain _ _ c.in-131.is _ _ v.rolls-I64And refl (λ n. refl) (λ n. refl)

pub returns-in-132 : goal.returns-in-132
unfolding shape instr_of
returns-in-132 c = plain _ _ c.in-132.is _ _ v.rolls-I64Or refl (λ n. refl) (λ n. refl)

pub returns-in-133 : goal.returns-in-133
unfolding shape instr_of
returns-in-133 c = plain _ _ c.in-133.is _ _ v.rolls-I64Xor refl (λ n. refl) (λ n. refl)

pub returns-in-134 : goal.returns-in-134
unfolding shape instr_of
returns-in-134 c = plain _ _ c.in-134.is _ _ v.rolls-I64Shl refl (λ n. refl) (λ n. refl)

pub returns-in-136 : goal.returns-in-136
unfolding shape instr_of
returns-in-136 c = plain _ _ c.in-136.is _ _ v.rolls-I64ShrU refl (λ n. refl) (λ n. refl)

pub returns-in-167 : goal.returns-in-167
unfolding shape instr_of
returns-in-167 c = plain _ _ c.in-167.is _ _ v.rolls-I32WrapI64 refl (λ n. refl) (λ n. refl)

pub returns-in-173 : goal.returns-in-173
unfolding shape instr_of
returns-in-173 c = plain _ _ c.in-173.is _ _ v.rolls-I64ExtendI32U refl (λ n. refl) (λ n. refl)

pub returns-in-188 : goal.returns-in-188
unfolding shape instr_of
returns-in-188 c = plain _ _ c.in-188.is _ _ v.rolls-I32ReinterpretF32 refl (λ n. refl) (λ n. refl)

pub returns-in-189 : goal.returns-in-189
unfolding shape instr_of
returns-in-189 c = plain _ _ c.in-189.is _ _ v.rolls-I64ReinterpretF64 refl (λ n. refl) (λ n. refl)

pub returns-in-190 : goal.returns-in-190
unfolding shape instr_of
returns-in-190 c = plain _ _ c.in-190.is _ _ v.rolls-F32ReinterpretI32 refl (λ n. refl) (λ n. refl)

pub returns-in-191 : goal.returns-in-191
unfolding shape instr_of
returns-in-191 c = plain _ _ c.in-191.is _ _ v.rolls-F64ReinterpretI64 refl (λ n. refl) (λ n. refl)

pub returns-in-192 : goal.returns-in-192
unfolding shape instr_of
returns-in-192 c = plain _ _ c.in-192.is _ _ v.rolls-I32Extend8S refl (λ n. refl) (λ n. refl)

pub returns-in-193 : goal.returns-in-193
unfolding shape instr_of
returns-in-193 c = plain _ _ c.in-193.is _ _ v.rolls-I32Extend16S refl (λ n. refl) (λ n. refl)

pub returns-in-210 : goal.returns-in-210
unfolding shape
returns-in-210 c = leaf _ _ c.in-210.is (row.Func func.RefFunc) refl refl
