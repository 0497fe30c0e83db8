use Rattle.std.proofs.Common.{sym, ◌∙◌}
use Rattle.fact_wasm.specs.declared.instr.Instr.TheVariants as v
use Rattle.fact_binary.proofs.Layers.{opcode-layer}
use Rattle.fact_binary.proofs.code.opcode.Goals as goal

pub returns-in-Unreachable : goal.returns-in-Unreachable
returns-in-Unreachable c = opcode-layer _ _ (v.rolls-Unreachable ∙ sym c.in-Unreachable.is)

pub returns-in-Block : goal.returns-in-Block
returns-in-Block c = opcode-layer _ _ (v.rolls-Block _ _ ∙ sym c.in-Block.is)

pub returns-in-Loop : goal.returns-in-Loop
returns-in-Loop c = opcode-layer _ _ (v.rolls-Loop _ _ ∙ sym c.in-Loop.is)

pub returns-in-Br : goal.returns-in-Br
returns-in-Br c = opcode-layer _ _ (v.rolls-Br _ ∙ sym c.in-Br.is)

pub returns-in-BrIf : goal.returns-in-BrIf
returns-in-BrIf c = opcode-layer _ _ (v.rolls-BrIf _ ∙ sym c.in-BrIf.is)

pub returns-in-BrTable : goal.returns-in-BrTable
returns-in-BrTable c = opcode-layer _ _ (v.rolls-BrTable _ _ ∙ sym c.in-BrTable.is)

pub returns-in-Call : goal.returns-in-Call
returns-in-Call c = opcode-layer _ _ (v.rolls-Call _ ∙ sym c.in-Call.is)

pub returns-in-Drop : goal.returns-in-Drop
returns-in-Drop c = opcode-layer _ _ (v.rolls-Drop ∙ sym c.in-Drop.is)

pub returns-in-Select : goal.returns-in-Select
returns-in-Select c = opcode-layer _ _ (v.rolls-Select ∙ sym c.in-Select.is)

pub returns-in-TryTable : goal.returns-in-TryTable
returns-in-TryTable c = opcode-layer _ _ (v.rolls-TryTable _ _ _ ∙ sym c.in-TryTable.is)

pub returns-in-LocalGet : goal.returns-in-LocalGet
returns-in-LocalGet c = opcode-layer _ _ (v.rolls-LocalGet _ ∙ sym c.in-LocalGet.is)

pub returns-in-LocalSet : goal.returns-in-LocalSet
returns-in-LocalSet c = opcode-layer _ _ (v.rolls-LocalSet _ ∙ sym c.in-LocalSet.is)

pub returns-in-LocalTee : goal.returns-in-LocalTee
returns-in-LocalTee c = opcode-layer _ _ (v.rolls-LocalTee _ ∙ sym c.in-LocalTee.is)

pub returns-in-GlobalGet : goal.returns-in-GlobalGet
returns-in-GlobalGet c = opcode-layer _ _ (v.rolls-GlobalGet _ ∙ sym c.in-GlobalGet.is)

pub returns-in-GlobalSet : goal.returns-in-GlobalSet
returns-in-GlobalSet c = opcode-layer _ _ (v.rolls-GlobalSet _ ∙ sym c.in-GlobalSet.is)

pub returns-in-I32Load : goal.returns-in-I32Load
returns-in-I32Load c = opcode-layer _ _ (v.rolls-I32Load _ ∙ sym c.in-I32Load.is)

pub returns-in-I64Load : goal.returns-in-I64Load
returns-in-I64Load c = opcode-layer _ _ (v.rolls-I64Load _ ∙ sym c.in-I64Load.is)

pub returns-in-F32Load : goal.returns-in-F32Load
returns-in-F32Load c = opcode-layer _ _ (v.rolls-F32Load _ ∙ sym c.in-F32Load.is)

pub returns-in-F64Load : goal.returns-in-F64Load
returns-in-F64Load c = opcode-layer _ _ (v.rolls-F64Load _ ∙ sym c.in-F64Load.is)

pub returns-in-I32Load8S : goal.returns-in-I32Load8S
returns-in-I32Load8S c = opcode-layer _ _ (v.rolls-I32Load8S _ ∙ sym c.in-I32Load8S.is)

pub returns-in-I32Load8U : goal.returns-in-I32Load8U
returns-in-I32Load8U c = opcode-layer _ _ (v.rolls-I32Load8U _ ∙ sym c.in-I32Load8U.is)

pub returns-in-I32Load16S : goal.returns-in-I32Load16S
returns-in-I32Load16S c = opcode-layer _ _ (v.rolls-I32Load16S _ ∙ sym c.in-I32Load16S.is)

pub returns-in-I32Load16U : goal.returns-in-I32Load16U
returns-in-I32Load16U c = opcode-layer _ _ (v.rolls-I32Load16U _ ∙ sym c.in-I32Load16U.is)

pub returns-in-I32Store : goal.returns-in-I32Store
returns-in-I32Store c = opcode-layer _ _ (v.rolls-I32Store _ ∙ sym c.in-I32Store.is)

pub returns-in-I64Store : goal.returns-in-I64Store
returns-in-I64Store c = opcode-layer _ _ (v.rolls-I64Store _ ∙ sym c.in-I64Store.is)

pub returns-in-F32Store : goal.returns-in-F32Store
returns-in-F32Store c = opcode-layer _ _ (v.rolls-F32Store _ ∙ sym c.in-F32Store.is)

pub returns-in-F64Store : goal.returns-in-F64Store
returns-in-F64Store c = opcode-layer _ _ (v.rolls-F64Store _ ∙ sym c.in-F64Store.is)

pub returns-in-I32Store8 : goal.returns-in-I32Store8
returns-in-I32Store8 c = opcode-layer _ _ (v.rolls-I32Store8 _ ∙ sym c.in-I32Store8.is)

pub returns-in-I32Store16 : goal.returns-in-I32Store16
returns-in-I32Store16 c = opcode-layer _ _ (v.rolls-I32Store16 _ ∙ sym c.in-I32Store16.is)

pub returns-in-MemorySize : goal.returns-in-MemorySize
returns-in-MemorySize c = opcode-layer _ _ (v.rolls-MemorySize _ ∙ sym c.in-MemorySize.is)

pub returns-in-I32Const : goal.returns-in-I32Const
returns-in-I32Const c = opcode-layer _ _ (v.rolls-I32Const _ ∙ sym c.in-I32Const.is)

pub returns-in-I64Const : goal.returns-in-I64Const
returns-in-I64Const c = opcode-layer _ _ (v.rolls-I64Const _ ∙ sym c.in-I64Const.is)

pub returns-in-F32Const : goal.returns-in-F32Const
returns-in-F32Const c = opcode-layer _ _ (v.rolls-F32Const _ ∙ sym c.in-F32Const.is)

pub returns-in-F64Const : goal.returns-in-F64Const
returns-in-F64Const c = opcode-layer _ _ (v.rolls-F64Const _ ∙ sym c.in-F64Const.is)

pub returns-in-I32Eqz : goal.returns-in-I32Eqz
returns-in-I32Eqz c = opcode-layer _ _ (v.rolls-I32Eqz ∙ sym c.in-I32Eqz.is)

pub returns-in-I32Eq : goal.returns-in-I32Eq
returns-in-I32Eq c = opcode-layer _ _ (v.rolls-I32Eq ∙ sym c.in-I32Eq.is)

pub returns-in-I32Ne : goal.returns-in-I32Ne
returns-in-I32Ne c = opcode-layer _ _ (v.rolls-I32Ne ∙ sym c.in-I32Ne.is)

pub returns-in-I32LtU : goal.returns-in-I32LtU
returns-in-I32LtU c = opcode-layer _ _ (v.rolls-I32LtU ∙ sym c.in-I32LtU.is)

pub returns-in-I32GtU : goal.returns-in-I32GtU
returns-in-I32GtU c = opcode-layer _ _ (v.rolls-I32GtU ∙ sym c.in-I32GtU.is)

pub returns-in-I32GeU : goal.returns-in-I32GeU
returns-in-I32GeU c = opcode-layer _ _ (v.rolls-I32GeU ∙ sym c.in-I32GeU.is)

pub returns-in-I64Eqz : goal.returns-in-I64Eqz
returns-in-I64Eqz c = opcode-layer _ _ (v.rolls-I64Eqz ∙ sym c.in-I64Eqz.is)

pub returns-in-I64Eq : goal.returns-in-I64Eq
returns-in-I64Eq c = opcode-layer _ _ (v.rolls-I64Eq ∙ sym c.in-I64Eq.is)

pub returns-in-I64Ne : goal.returns-in-I64Ne
returns-in-I64Ne c = opcode-layer _ _ (v.rolls-I64Ne ∙ sym c.in-I64Ne.is)

pub returns-in-I64LtU : goal.returns-in-I64LtU
returns-in-I64LtU c = opcode-layer _ _ (v.rolls-I64LtU ∙ sym c.in-I64LtU.is)

pub returns-in-I64GtU : goal.returns-in-I64GtU
returns-in-I64GtU c = opcode-layer _ _ (v.rolls-I64GtU ∙ sym c.in-I64GtU.is)

pub returns-in-I64GeU : goal.returns-in-I64GeU
returns-in-I64GeU c = opcode-layer _ _ (v.rolls-I64GeU ∙ sym c.in-I64GeU.is)

pub returns-in-I32Add : goal.returns-in-I32Add
returns-in-I32Add c = opcode-layer _ _ (v.rolls-I32Add ∙ sym c.in-I32Add.is)

pub returns-in-I32Sub : goal.returns-in-I32Sub
returns-in-I32Sub c = opcode-layer _ _ (v.rolls-I32Sub ∙ sym c.in-I32Sub.is)

pub returns-in-I32Mul : goal.returns-in-I32Mul
returns-in-I32Mul c = opcode-layer _ _ (v.rolls-I32Mul ∙ sym c.in-I32Mul.is)

pub returns-in-I32And : goal.returns-in-I32And
returns-in-I32And c = opcode-layer _ _ (v.rolls-I32And ∙ sym c.in-I32And.is)

pub returns-in-I32Or : goal.returns-in-I32Or
returns-in-I32Or c = opcode-layer _ _ (v.rolls-I32Or ∙ sym c.in-I32Or.is)

pub returns-in-I32Xor : goal.returns-in-I32Xor
returns-in-I32Xor c = opcode-layer _ _ (v.rolls-I32Xor ∙ sym c.in-I32Xor.is)

pub returns-in-I32Shl : goal.returns-in-I32Shl
returns-in-I32Shl c = opcode-layer _ _ (v.rolls-I32Shl ∙ sym c.in-I32Shl.is)

pub returns-in-I32ShrU : goal.returns-in-I32ShrU
returns-in-I32ShrU c = opcode-layer _ _ (v.rolls-I32ShrU ∙ sym c.in-I32ShrU.is)

pub returns-in-I64Add : goal.returns-in-I64Add
returns-in-I64Add c = opcode-layer _ _ (v.rolls-I64Add ∙ sym c.in-I64Add.is)

pub returns-in-I64Sub : goal.returns-in-I64Sub
returns-in-I64Sub c = opcode-layer _ _ (v.rolls-I64Sub ∙ sym c.in-I64Sub.is)

pub returns-in-I64Mul : goal.returns-in-I64Mul
returns-in-I64Mul c = opcode-layer _ _ (v.rolls-I64Mul ∙ sym c.in-I64Mul.is)

pub returns-in-I64And : goal.returns-in-I64And
returns-in-I64And c = opcode-layer _ _ (v.rolls-I64And ∙ sym c.in-I64And.is)

pub returns-in-I64Or : goal.returns-in-I64Or
returns-in-I64Or c = opcode-layer _ _ (v.rolls-I64Or ∙ sym c.in-I64Or.is)

pub returns-in-I64Xor : goal.returns-in-I64Xor
returns-in-I64Xor c = opcode-layer _ _ (v.rolls-I64Xor ∙ sym c.in-I64Xor.is)

pub returns-in-I64Shl : goal.returns-in-I64Shl
returns-in-I64Shl c = opcode-layer _ _ (v.rolls-I64Shl ∙ sym c.in-I64Shl.is)

pub returns-in-I64ShrU : goal.returns-in-I64ShrU
returns-in-I64ShrU c = opcode-layer _ _ (v.rolls-I64ShrU ∙ sym c.in-I64ShrU.is)

pub returns-in-I32WrapI64 : goal.returns-in-I32WrapI64
returns-in-I32WrapI64 c = opcode-layer _ _ (v.rolls-I32WrapI64 ∙ sym c.in-I32WrapI64.is)

pub returns-in-I64ExtendI32U : goal.returns-in-I64ExtendI32U
returns-in-I64ExtendI32U c = opcode-layer _ _ (v.rolls-I64ExtendI32U ∙ sym c.in-I64ExtendI32U.is)

pub returns-in-I32ReinterpretF32 : goal.returns-in-I32ReinterpretF32
returns-in-I32ReinterpretF32 c = opcode-layer _ _ (v.rolls-I32ReinterpretF32 ∙ sym c.in-I32ReinterpretF32.is)

pub returns-in-I64ReinterpretF64 : goal.returns-in-I64ReinterpretF64
returns-in-I64ReinterpretF64 c = opcode-layer _ _ (v.rolls-I64ReinterpretF64 ∙ sym c.in-I64ReinterpretF64.is)

pub returns-in-F32ReinterpretI32 : goal.returns-in-F32ReinterpretI32
returns-in-F32ReinterpretI32 c = opcode-layer _ _ (v.rolls-F32ReinterpretI32 ∙ sym c.in-F32ReinterpretI32.is)

pub returns-in-F64ReinterpretI64 : goal.returns-in-F64ReinterpretI64
returns-in-F64ReinterpretI64 c = opcode-layer _ _ (v.rolls-F64ReinterpretI64 ∙ sym c.in-F64ReinterpretI64.is)

pub returns-in-I32Extend8S : goal.returns-in-I32Extend8S
returns-in-I32Extend8S c = opcode-layer _ _ (v.rolls-I32Extend8S ∙ sym c.in-I32Extend8S.is)

pub returns-in-I32Extend16S : goal.returns-in-I32Extend16S
returns-in-I32Extend16S c = opcode-layer _ _ (v.rolls-I32Extend16S ∙ sym c.in-I32Extend16S.is)

pub returns-in-RefFunc : goal.returns-in-RefFunc
returns-in-RefFunc c = opcode-layer _ _ (v.rolls-RefFunc _ ∙ sym c.in-RefFunc.is)
