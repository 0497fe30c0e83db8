use Rattle.std.proofs.Common.{◌≡◌, Option, List, true, sym, ap, ◌∙◌}
use Rattle.fact_wasm.specs.declared.instr.Instr.{Instr, Instr-F, out-Instr, roll-Instr, roll-out-Instr}
use Rattle.fact_wasm.specs.declared.instr.Instr.TheOpen as o
use Rattle.fact_wasm.specs.declared.instr.Instr.TheVariants as v
use Rattle.fact_wasm.specs.declared.module.WasmModule.{WasmModule}
use Rattle.fact_machine.specs.declared.types.CoreValue.{CoreValue}
use Rattle.fact_machine.specs.World.{World}
use Rattle.fact_machine.specs.Machine.{Around, act}
use Rattle.fact_interpreter.specs.Running.{is_numeric}
use Rattle.fact_interpreter.proofs.begin.operation_of.Goals as goal
use Rattle.fact_interpreter.proofs.begin.operation_of.Goals.{In_default}

-- every instruction of the family is taken by an arm
taken : (c : In_default) (x : Instr-F Instr) → c.args.instr.now ≡ roll-Instr x → is_numeric x ≡ true → ⊥
taken c o.I32Eqz e t = c.in_default.not-I32Eqz (e ∙ v.rolls-I32Eqz)
taken c o.I32Eq e t = c.in_default.not-I32Eq (e ∙ v.rolls-I32Eq)
taken c o.I32Ne e t = c.in_default.not-I32Ne (e ∙ v.rolls-I32Ne)
taken c o.I32LtU e t = c.in_default.not-I32LtU (e ∙ v.rolls-I32LtU)
taken c o.I32GtU e t = c.in_default.not-I32GtU (e ∙ v.rolls-I32GtU)
taken c o.I32GeU e t = c.in_default.not-I32GeU (e ∙ v.rolls-I32GeU)
taken c o.I64Eqz e t = c.in_default.not-I64Eqz (e ∙ v.rolls-I64Eqz)
taken c o.I64Eq e t = c.in_default.not-I64Eq (e ∙ v.rolls-I64Eq)
taken c o.I64Ne e t = c.in_default.not-I64Ne (e ∙ v.rolls-I64Ne)
taken c o.I64LtU e t = c.in_default.not-I64LtU (e ∙ v.rolls-I64LtU)
taken c o.I64GtU e t = c.in_default.not-I64GtU (e ∙ v.rolls-I64GtU)
taken c o.I64GeU e t = c.in_default.not-I64GeU (e ∙ v.rolls-I64GeU)
taken c o.I32Add e t = c.in_default.not-I32Add (e ∙ v.rolls-I32Add)
taken c o.I32Sub e t = c.in_default.not-I32Sub (e ∙ v.rolls-I32Sub)
taken c o.I32Mul e t = c.in_default.not-I32Mul (e ∙ v.rolls-I32Mul)
taken c o.I32And e t = c.in_default.not-I32And (e ∙ v.rolls-I32And)
taken c o.I32Or e t = c.in_default.not-I32Or (e ∙ v.rolls-I32Or)
taken c o.I32Xor e t = c.in_default.not-I32Xor (e ∙ v.rolls-I32Xor)
taken c o.I32Shl e t = c.in_default.not-I32Shl (e ∙ v.rolls-I32Shl)
taken c o.I32ShrU e t = c.in_default.not-I32ShrU (e ∙ v.rolls-I32ShrU)
taken c o.I64Add e t = c.in_default.not-I64Add (e ∙ v.rolls-I64Add)
taken c o.I64Sub e t = c.in_default.not-I64Sub (e ∙ v.rolls-I64Sub)
taken c o.I64Mul e t = c.in_default.not-I64Mul (e ∙ v.rolls-I64Mul)
taken c o.I64And e t = c.in_default.not-I64And (e ∙ v.rolls-I64And)
taken c o.I64Or e t = c.in_default.not-I64Or (e ∙ v.rolls-I64Or)
taken c o.I64Xor e t = c.in_default.not-I64Xor (e ∙ v.rolls-I64Xor)
taken c o.I64Shl e t = c.in_default.not-I64Shl (e ∙ v.rolls-I64Shl)
taken c o.I64ShrU e t = c.in_default.not-I64ShrU (e ∙ v.rolls-I64ShrU)
taken c o.I32WrapI64 e t = c.in_default.not-I32WrapI64 (e ∙ v.rolls-I32WrapI64)
taken c o.I64ExtendI32U e t = c.in_default.not-I64ExtendI32U (e ∙ v.rolls-I64ExtendI32U)
taken c o.I32ReinterpretF32 e t = c.in_default.not-I32ReinterpretF32 (e ∙ v.rolls-I32ReinterpretF32)
taken c o.I64ReinterpretF64 e t = c.in_default.not-I64ReinterpretF64 (e ∙ v.rolls-I64ReinterpretF64)
taken c o.F32ReinterpretI32 e t = c.in_default.not-F32ReinterpretI32 (e ∙ v.rolls-F32ReinterpretI32)
taken c o.F64ReinterpretI64 e t = c.in_default.not-F64ReinterpretI64 (e ∙ v.rolls-F64ReinterpretI64)
taken c o.I32Extend8S e t = c.in_default.not-I32Extend8S (e ∙ v.rolls-I32Extend8S)
taken c o.I32Extend16S e t = c.in_default.not-I32Extend16S (e ∙ v.rolls-I32Extend16S)
taken c _ e t = absurd cc

pub unreachable-requires : goal.unreachable-requires
unreachable-requires c = taken c (out-Instr c.args.instr.now) (sym (roll-out-Instr c.args.instr.now)) c.requires

-- what an instruction does, by its outermost layer
does : (i j : Instr) (x : Instr-F Instr) → i ≡ j → out-Instr j ≡ x → (M : WasmModule) (w : World) (vs : List CoreValue) (ls : List (Option CoreValue)) (rest : List Instr) (k : Around)
    → act M x w vs ls rest k ≡ act M (out-Instr i) w vs ls rest k
does i j x e o M w vs ls rest k = ap (λ (y : Instr-F Instr). act M y w vs ls rest k) (sym o) ∙ ap (λ (i : Instr). act M (out-Instr i) w vs ls rest k) (sym e)

pub returns-in-I32Eqz : goal.returns-in-I32Eqz
returns-in-I32Eqz c = does _ _ _ c.in-I32Eqz.is v.outs-I32Eqz

pub returns-in-I32Eq : goal.returns-in-I32Eq
returns-in-I32Eq c = does _ _ _ c.in-I32Eq.is v.outs-I32Eq

pub returns-in-I32Ne : goal.returns-in-I32Ne
returns-in-I32Ne c = does _ _ _ c.in-I32Ne.is v.outs-I32Ne

pub returns-in-I32LtU : goal.returns-in-I32LtU
returns-in-I32LtU c = does _ _ _ c.in-I32LtU.is v.outs-I32LtU

pub returns-in-I32GtU : goal.returns-in-I32GtU
returns-in-I32GtU c = does _ _ _ c.in-I32GtU.is v.outs-I32GtU

pub returns-in-I32GeU : goal.returns-in-I32GeU
returns-in-I32GeU c = does _ _ _ c.in-I32GeU.is v.outs-I32GeU

pub returns-in-I64Eqz : goal.returns-in-I64Eqz
returns-in-I64Eqz c = does _ _ _ c.in-I64Eqz.is v.outs-I64Eqz

pub returns-in-I64Eq : goal.returns-in-I64Eq
returns-in-I64Eq c = does _ _ _ c.in-I64Eq.is v.outs-I64Eq

pub returns-in-I64Ne : goal.returns-in-I64Ne
returns-in-I64Ne c = does _ _ _ c.in-I64Ne.is v.outs-I64Ne

pub returns-in-I64LtU : goal.returns-in-I64LtU
returns-in-I64LtU c = does _ _ _ c.in-I64LtU.is v.outs-I64LtU

pub returns-in-I64GtU : goal.returns-in-I64GtU
returns-in-I64GtU c = does _ _ _ c.in-I64GtU.is v.outs-I64GtU

pub returns-in-I64GeU : goal.returns-in-I64GeU
returns-in-I64GeU c = does _ _ _ c.in-I64GeU.is v.outs-I64GeU

pub returns-in-I32Add : goal.returns-in-I32Add
returns-in-I32Add c = does _ _ _ c.in-I32Add.is v.outs-I32Add

pub returns-in-I32Sub : goal.returns-in-I32Sub
returns-in-I32Sub c = does _ _ _ c.in-I32Sub.is v.outs-I32Sub

pub returns-in-I32Mul : goal.returns-in-I32Mul
returns-in-I32Mul c = does _ _ _ c.in-I32Mul.is v.outs-I32Mul

pub returns-in-I32And : goal.returns-in-I32And
returns-in-I32And c = does _ _ _ c.in-I32And.is v.outs-I32And

pub returns-in-I32Or : goal.returns-in-I32Or
returns-in-I32Or c = does _ _ _ c.in-I32Or.is v.outs-I32Or

pub returns-in-I32Xor : goal.returns-in-I32Xor
returns-in-I32Xor c = does _ _ _ c.in-I32Xor.is v.outs-I32Xor

pub returns-in-I32Shl : goal.returns-in-I32Shl
returns-in-I32Shl c = does _ _ _ c.in-I32Shl.is v.outs-I32Shl

pub returns-in-I32ShrU : goal.returns-in-I32ShrU
returns-in-I32ShrU c = does _ _ _ c.in-I32ShrU.is v.outs-I32ShrU

pub returns-in-I64Add : goal.returns-in-I64Add
returns-in-I64Add c = does _ _ _ c.in-I64Add.is v.outs-I64Add

pub returns-in-I64Sub : goal.returns-in-I64Sub
returns-in-I64Sub c = does _ _ _ c.in-I64Sub.is v.outs-I64Sub

pub returns-in-I64Mul : goal.returns-in-I64Mul
returns-in-I64Mul c = does _ _ _ c.in-I64Mul.is v.outs-I64Mul

pub returns-in-I64And : goal.returns-in-I64And
returns-in-I64And c = does _ _ _ c.in-I64And.is v.outs-I64And

pub returns-in-I64Or : goal.returns-in-I64Or
returns-in-I64Or c = does _ _ _ c.in-I64Or.is v.outs-I64Or

pub returns-in-I64Xor : goal.returns-in-I64Xor
returns-in-I64Xor c = does _ _ _ c.in-I64Xor.is v.outs-I64Xor

pub returns-in-I64Shl : goal.returns-in-I64Shl
returns-in-I64Shl c = does _ _ _ c.in-I64Shl.is v.outs-I64Shl

pub returns-in-I64ShrU : goal.returns-in-I64ShrU
returns-in-I64ShrU c = does _ _ _ c.in-I64ShrU.is v.outs-I64ShrU

pub returns-in-I32WrapI64 : goal.returns-in-I32WrapI64
returns-in-I32WrapI64 c = does _ _ _ c.in-I32WrapI64.is v.outs-I32WrapI64

pub returns-in-I64ExtendI32U : goal.returns-in-I64ExtendI32U
returns-in-I64ExtendI32U c = does _ _ _ c.in-I64ExtendI32U.is v.outs-I64ExtendI32U

pub returns-in-I32ReinterpretF32 : goal.returns-in-I32ReinterpretF32
returns-in-I32ReinterpretF32 c = does _ _ _ c.in-I32ReinterpretF32.is v.outs-I32ReinterpretF32

pub returns-in-I64ReinterpretF64 : goal.returns-in-I64ReinterpretF64
returns-in-I64ReinterpretF64 c = does _ _ _ c.in-I64ReinterpretF64.is v.outs-I64ReinterpretF64

pub returns-in-F32ReinterpretI32 : goal.returns-in-F32ReinterpretI32
returns-in-F32ReinterpretI32 c = does _ _ _ c.in-F32ReinterpretI32.is v.outs-F32ReinterpretI32

pub returns-in-F64ReinterpretI64 : goal.returns-in-F64ReinterpretI64
returns-in-F64ReinterpretI64 c = does _ _ _ c.in-F64ReinterpretI64.is v.outs-F64ReinterpretI64

pub returns-in-I32Extend8S : goal.returns-in-I32Extend8S
returns-in-I32Extend8S c = does _ _ _ c.in-I32Extend8S.is v.outs-I32Extend8S

pub returns-in-I32Extend16S : goal.returns-in-I32Extend16S
returns-in-I32Extend16S c = does _ _ _ c.in-I32Extend16S.is v.outs-I32Extend16S
