use Rattle.std.proofs.Common.{◌≡◌, None, refl, sym, ◌∙◌}
use Rattle.fact_wasm.specs.declared.instr.Instr.{Instr, Instr-F, out-Instr, roll-Instr, roll-out-Instr}
use Rattle.fact_wasm.specs.declared.instr.Instr.TheOpen as o
use Rattle.fact_wasm.specs.declared.instr.Instr.TheVariants as v
use Rattle.fact_machine.specs.Typing.{instruction_type}
use Rattle.fact_check.proofs.plain.plain_of.Goals as goal
use Rattle.fact_check.proofs.plain.plain_of.Goals.{In_default}

-- each instruction of one type is taken by an arm
left : (c : In_default) (x : Instr-F Instr) → c.args.instr.now ≡ roll-Instr x → None ≡ instruction_type x
left c (o.I32Const n) e = absurd (c.in_default.not-I32Const n (e ∙ v.rolls-I32Const n))
left c (o.I64Const n) e = absurd (c.in_default.not-I64Const n (e ∙ v.rolls-I64Const n))
left c (o.F32Const n) e = absurd (c.in_default.not-F32Const n (e ∙ v.rolls-F32Const n))
left c (o.F64Const n) e = absurd (c.in_default.not-F64Const n (e ∙ v.rolls-F64Const n))
left c o.I32Eqz e = absurd (c.in_default.not-I32Eqz (e ∙ v.rolls-I32Eqz))
left c o.I32Extend8S e = absurd (c.in_default.not-I32Extend8S (e ∙ v.rolls-I32Extend8S))
left c o.I32Extend16S e = absurd (c.in_default.not-I32Extend16S (e ∙ v.rolls-I32Extend16S))
left c o.I64Eqz e = absurd (c.in_default.not-I64Eqz (e ∙ v.rolls-I64Eqz))
left c o.I32WrapI64 e = absurd (c.in_default.not-I32WrapI64 (e ∙ v.rolls-I32WrapI64))
left c o.I64ExtendI32U e = absurd (c.in_default.not-I64ExtendI32U (e ∙ v.rolls-I64ExtendI32U))
left c o.I32ReinterpretF32 e = absurd (c.in_default.not-I32ReinterpretF32 (e ∙ v.rolls-I32ReinterpretF32))
left c o.I64ReinterpretF64 e = absurd (c.in_default.not-I64ReinterpretF64 (e ∙ v.rolls-I64ReinterpretF64))
left c o.F32ReinterpretI32 e = absurd (c.in_default.not-F32ReinterpretI32 (e ∙ v.rolls-F32ReinterpretI32))
left c o.F64ReinterpretI64 e = absurd (c.in_default.not-F64ReinterpretI64 (e ∙ v.rolls-F64ReinterpretI64))
left c o.I32Eq e = absurd (c.in_default.not-I32Eq (e ∙ v.rolls-I32Eq))
left c o.I32Ne e = absurd (c.in_default.not-I32Ne (e ∙ v.rolls-I32Ne))
left c o.I32LtU e = absurd (c.in_default.not-I32LtU (e ∙ v.rolls-I32LtU))
left c o.I32GtU e = absurd (c.in_default.not-I32GtU (e ∙ v.rolls-I32GtU))
left c o.I32GeU e = absurd (c.in_default.not-I32GeU (e ∙ v.rolls-I32GeU))
left c o.I32Add e = absurd (c.in_default.not-I32Add (e ∙ v.rolls-I32Add))
left c o.I32Sub e = absurd (c.in_default.not-I32Sub (e ∙ v.rolls-I32Sub))
left c o.I32Mul e = absurd (c.in_default.not-I32Mul (e ∙ v.rolls-I32Mul))
left c o.I32And e = absurd (c.in_default.not-I32And (e ∙ v.rolls-I32And))
left c o.I32Or e = absurd (c.in_default.not-I32Or (e ∙ v.rolls-I32Or))
left c o.I32Xor e = absurd (c.in_default.not-I32Xor (e ∙ v.rolls-I32Xor))
left c o.I32Shl e = absurd (c.in_default.not-I32Shl (e ∙ v.rolls-I32Shl))
left c o.I32ShrU e = absurd (c.in_default.not-I32ShrU (e ∙ v.rolls-I32ShrU))
left c o.I64Eq e = absurd (c.in_default.not-I64Eq (e ∙ v.rolls-I64Eq))
left c o.I64Ne e = absurd (c.in_default.not-I64Ne (e ∙ v.rolls-I64Ne))
left c o.I64LtU e = absurd (c.in_default.not-I64LtU (e ∙ v.rolls-I64LtU))
left c o.I64GtU e = absurd (c.in_default.not-I64GtU (e ∙ v.rolls-I64GtU))
left c o.I64GeU e = absurd (c.in_default.not-I64GeU (e ∙ v.rolls-I64GeU))
left c o.I64Add e = absurd (c.in_default.not-I64Add (e ∙ v.rolls-I64Add))
left c o.I64Sub e = absurd (c.in_default.not-I64Sub (e ∙ v.rolls-I64Sub))
left c o.I64Mul e = absurd (c.in_default.not-I64Mul (e ∙ v.rolls-I64Mul))
left c o.I64And e = absurd (c.in_default.not-I64And (e ∙ v.rolls-I64And))
left c o.I64Or e = absurd (c.in_default.not-I64Or (e ∙ v.rolls-I64Or))
left c o.I64Xor e = absurd (c.in_default.not-I64Xor (e ∙ v.rolls-I64Xor))
left c o.I64Shl e = absurd (c.in_default.not-I64Shl (e ∙ v.rolls-I64Shl))
left c o.I64ShrU e = absurd (c.in_default.not-I64ShrU (e ∙ v.rolls-I64ShrU))
left c _ e = refl

pub returns-in_default : goal.returns-in_default
returns-in_default c = left c (out-Instr c.args.instr.now) (sym (roll-out-Instr c.args.instr.now))
