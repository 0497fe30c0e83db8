use Rattle.std.proofs.Common.{sym}
use Rattle.fact_wasm.proofs.copies.copy_flat.Goals as goal

pub returns-in-Unreachable : goal.returns-in-Unreachable
returns-in-Unreachable c = sym c.in-Unreachable.is

pub returns-in-Br : goal.returns-in-Br
returns-in-Br c = sym c.in-Br.is

pub returns-in-BrIf : goal.returns-in-BrIf
returns-in-BrIf c = sym c.in-BrIf.is

pub returns-in-Call : goal.returns-in-Call
returns-in-Call c = sym c.in-Call.is

pub returns-in-Drop : goal.returns-in-Drop
returns-in-Drop c = sym c.in-Drop.is

pub returns-in-Select : goal.returns-in-Select
returns-in-Select c = sym c.in-Select.is

pub returns-in-LocalGet : goal.returns-in-LocalGet
returns-in-LocalGet c = sym c.in-LocalGet.is

pub returns-in-LocalSet : goal.returns-in-LocalSet
returns-in-LocalSet c = sym c.in-LocalSet.is

pub returns-in-LocalTee : goal.returns-in-LocalTee
returns-in-LocalTee c = sym c.in-LocalTee.is

pub returns-in-GlobalGet : goal.returns-in-GlobalGet
returns-in-GlobalGet c = sym c.in-GlobalGet.is

pub returns-in-GlobalSet : goal.returns-in-GlobalSet
returns-in-GlobalSet c = sym c.in-GlobalSet.is

pub returns-in-I32Load : goal.returns-in-I32Load
returns-in-I32Load c = sym c.in-I32Load.is

pub returns-in-I64Load : goal.returns-in-I64Load
returns-in-I64Load c = sym c.in-I64Load.is

pub returns-in-F32Load : goal.returns-in-F32Load
returns-in-F32Load c = sym c.in-F32Load.is

pub returns-in-F64Load : goal.returns-in-F64Load
returns-in-F64Load c = sym c.in-F64Load.is

pub returns-in-I32Load8S : goal.returns-in-I32Load8S
returns-in-I32Load8S c = sym c.in-I32Load8S.is

pub returns-in-I32Load8U : goal.returns-in-I32Load8U
returns-in-I32Load8U c = sym c.in-I32Load8U.is

pub returns-in-I32Load16S : goal.returns-in-I32Load16S
returns-in-I32Load16S c = sym c.in-I32Load16S.is

pub returns-in-I32Load16U : goal.returns-in-I32Load16U
returns-in-I32Load16U c = sym c.in-I32Load16U.is

pub returns-in-I32Store : goal.returns-in-I32Store
returns-in-I32Store c = sym c.in-I32Store.is

pub returns-in-I64Store : goal.returns-in-I64Store
returns-in-I64Store c = sym c.in-I64Store.is

pub returns-in-F32Store : goal.returns-in-F32Store
returns-in-F32Store c = sym c.in-F32Store.is

pub returns-in-F64Store : goal.returns-in-F64Store
returns-in-F64Store c = sym c.in-F64Store.is

pub returns-in-I32Store8 : goal.returns-in-I32Store8
returns-in-I32Store8 c = sym c.in-I32Store8.is

pub returns-in-I32Store16 : goal.returns-in-I32Store16
returns-in-I32Store16 c = sym c.in-I32Store16.is

pub returns-in-MemorySize : goal.returns-in-MemorySize
returns-in-MemorySize c = sym c.in-MemorySize.is

pub returns-in-I32Const : goal.returns-in-I32Const
returns-in-I32Const c = sym c.in-I32Const.is

pub returns-in-I64Const : goal.returns-in-I64Const
returns-in-I64Const c = sym c.in-I64Const.is

pub returns-in-F32Const : goal.returns-in-F32Const
returns-in-F32Const c = sym c.in-F32Const.is

pub returns-in-F64Const : goal.returns-in-F64Const
returns-in-F64Const c = sym c.in-F64Const.is

pub returns-in-I32Eqz : goal.returns-in-I32Eqz
returns-in-I32Eqz c = sym c.in-I32Eqz.is

pub returns-in-I32Eq : goal.returns-in-I32Eq
returns-in-I32Eq c = sym c.in-I32Eq.is

pub returns-in-I32Ne : goal.returns-in-I32Ne
returns-in-I32Ne c = sym c.in-I32Ne.is

pub returns-in-I32LtU : goal.returns-in-I32LtU
returns-in-I32LtU c = sym c.in-I32LtU.is

pub returns-in-I32GtU : goal.returns-in-I32GtU
returns-in-I32GtU c = sym c.in-I32GtU.is

pub returns-in-I32GeU : goal.returns-in-I32GeU
returns-in-I32GeU c = sym c.in-I32GeU.is

pub returns-in-I64Eqz : goal.returns-in-I64Eqz
returns-in-I64Eqz c = sym c.in-I64Eqz.is

pub returns-in-I64Eq : goal.returns-in-I64Eq
returns-in-I64Eq c = sym c.in-I64Eq.is

pub returns-in-I64Ne : goal.returns-in-I64Ne
returns-in-I64Ne c = sym c.in-I64Ne.is

pub returns-in-I64LtU : goal.returns-in-I64LtU
returns-in-I64LtU c = sym c.in-I64LtU.is

pub returns-in-I64GtU : goal.returns-in-I64GtU
returns-in-I64GtU c = sym c.in-I64GtU.is

pub returns-in-I64GeU : goal.returns-in-I64GeU
returns-in-I64GeU c = sym c.in-I64GeU.is

pub returns-in-I32Add : goal.returns-in-I32Add
returns-in-I32Add c = sym c.in-I32Add.is

pub returns-in-I32Sub : goal.returns-in-I32Sub
returns-in-I32Sub c = sym c.in-I32Sub.is

pub returns-in-I32Mul : goal.returns-in-I32Mul
returns-in-I32Mul c = sym c.in-I32Mul.is

pub returns-in-I32And : goal.returns-in-I32And
returns-in-I32And c = sym c.in-I32And.is

pub returns-in-I32Or : goal.returns-in-I32Or
returns-in-I32Or c = sym c.in-I32Or.is

pub returns-in-I32Xor : goal.returns-in-I32Xor
returns-in-I32Xor c = sym c.in-I32Xor.is

pub returns-in-I32Shl : goal.returns-in-I32Shl
returns-in-I32Shl c = sym c.in-I32Shl.is

pub returns-in-I32ShrU : goal.returns-in-I32ShrU
returns-in-I32ShrU c = sym c.in-I32ShrU.is

pub returns-in-I64Add : goal.returns-in-I64Add
returns-in-I64Add c = sym c.in-I64Add.is

pub returns-in-I64Sub : goal.returns-in-I64Sub
returns-in-I64Sub c = sym c.in-I64Sub.is

pub returns-in-I64Mul : goal.returns-in-I64Mul
returns-in-I64Mul c = sym c.in-I64Mul.is

pub returns-in-I64And : goal.returns-in-I64And
returns-in-I64And c = sym c.in-I64And.is

pub returns-in-I64Or : goal.returns-in-I64Or
returns-in-I64Or c = sym c.in-I64Or.is

pub returns-in-I64Xor : goal.returns-in-I64Xor
returns-in-I64Xor c = sym c.in-I64Xor.is

pub returns-in-I64Shl : goal.returns-in-I64Shl
returns-in-I64Shl c = sym c.in-I64Shl.is

pub returns-in-I64ShrU : goal.returns-in-I64ShrU
returns-in-I64ShrU c = sym c.in-I64ShrU.is

pub returns-in-I32WrapI64 : goal.returns-in-I32WrapI64
returns-in-I32WrapI64 c = sym c.in-I32WrapI64.is

pub returns-in-I64ExtendI32U : goal.returns-in-I64ExtendI32U
returns-in-I64ExtendI32U c = sym c.in-I64ExtendI32U.is

pub returns-in-I32ReinterpretF32 : goal.returns-in-I32ReinterpretF32
returns-in-I32ReinterpretF32 c = sym c.in-I32ReinterpretF32.is

pub returns-in-I64ReinterpretF64 : goal.returns-in-I64ReinterpretF64
returns-in-I64ReinterpretF64 c = sym c.in-I64ReinterpretF64.is

pub returns-in-F32ReinterpretI32 : goal.returns-in-F32ReinterpretI32
returns-in-F32ReinterpretI32 c = sym c.in-F32ReinterpretI32.is

pub returns-in-F64ReinterpretI64 : goal.returns-in-F64ReinterpretI64
returns-in-F64ReinterpretI64 c = sym c.in-F64ReinterpretI64.is

pub returns-in-I32Extend8S : goal.returns-in-I32Extend8S
returns-in-I32Extend8S c = sym c.in-I32Extend8S.is

pub returns-in-I32Extend16S : goal.returns-in-I32Extend16S
returns-in-I32Extend16S c = sym c.in-I32Extend16S.is

pub returns-in-RefFunc : goal.returns-in-RefFunc
returns-in-RefFunc c = sym c.in-RefFunc.is
