use Rattle.std.proofs.Common.{◌≡◌, true, sym, ◌∙◌}
use Rattle.fact_wasm.specs.declared.instr.Instr.{Instr, Instr-F, out-Instr, roll-Instr, roll-out-Instr}
use Rattle.fact_wasm.specs.declared.instr.Instr.TheOpen as o
use Rattle.fact_wasm.specs.declared.instr.Instr.TheVariants as v
use Rattle.fact_interpreter.specs.Running.{is_access}
use Rattle.fact_interpreter.proofs.begin.begin_access.Goals as goal
use Rattle.fact_interpreter.proofs.begin.begin_access.Goals.{In_default}

-- every instruction of the family is taken by an arm
taken : (c : In_default) (x : Instr-F Instr) → c.args.instr.now ≡ roll-Instr x → is_access x ≡ true → ⊥
taken c (o.I32Load m) e t = c.in_default.not-I32Load m (e ∙ v.rolls-I32Load m)
taken c (o.I64Load m) e t = c.in_default.not-I64Load m (e ∙ v.rolls-I64Load m)
taken c (o.F32Load m) e t = c.in_default.not-F32Load m (e ∙ v.rolls-F32Load m)
taken c (o.F64Load m) e t = c.in_default.not-F64Load m (e ∙ v.rolls-F64Load m)
taken c (o.I32Load8S m) e t = c.in_default.not-I32Load8S m (e ∙ v.rolls-I32Load8S m)
taken c (o.I32Load8U m) e t = c.in_default.not-I32Load8U m (e ∙ v.rolls-I32Load8U m)
taken c (o.I32Load16S m) e t = c.in_default.not-I32Load16S m (e ∙ v.rolls-I32Load16S m)
taken c (o.I32Load16U m) e t = c.in_default.not-I32Load16U m (e ∙ v.rolls-I32Load16U m)
taken c (o.I32Store m) e t = c.in_default.not-I32Store m (e ∙ v.rolls-I32Store m)
taken c (o.I64Store m) e t = c.in_default.not-I64Store m (e ∙ v.rolls-I64Store m)
taken c (o.F32Store m) e t = c.in_default.not-F32Store m (e ∙ v.rolls-F32Store m)
taken c (o.F64Store m) e t = c.in_default.not-F64Store m (e ∙ v.rolls-F64Store m)
taken c (o.I32Store8 m) e t = c.in_default.not-I32Store8 m (e ∙ v.rolls-I32Store8 m)
taken c (o.I32Store16 m) e t = c.in_default.not-I32Store16 m (e ∙ v.rolls-I32Store16 m)
taken c _ e t = absurd cc

pub unreachable-requires : goal.unreachable-requires
unreachable-requires c = taken c (out-Instr c.args.instr.now) (sym (roll-out-Instr c.args.instr.now)) c.requires
