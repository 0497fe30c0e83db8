use Rattle.std.proofs.Common.{◌≡◌, false, refl, sym, ◌∙◌}
use Rattle.fact_wasm.specs.declared.instr.Instr.{Instr, Instr-F, out-Instr, roll-Instr, roll-out-Instr}
use Rattle.fact_wasm.specs.declared.instr.Instr.TheOpen as o
use Rattle.fact_wasm.specs.declared.instr.Instr.TheVariants as v
use Rattle.fact_interpreter.specs.Running.{is_control}
use Rattle.fact_interpreter.proofs.begin.begin_row.Goals as goal

-- what no arm takes is no control instruction
left : (c : goal.After-begin_data-arg-1) (x : Instr-F Instr) → c.args.instr.now ≡ roll-Instr x → is_control x ≡ false
left c o.Unreachable e = absurd (c.in_default.not-Unreachable (e ∙ v.rolls-Unreachable))
left c (o.Block t b) e = absurd (c.in_default.not-Block t b (e ∙ v.rolls-Block t b))
left c (o.Loop t b) e = absurd (c.in_default.not-Loop t b (e ∙ v.rolls-Loop t b))
left c (o.If t b u) e = absurd (c.in_default.not-If t b u (e ∙ v.rolls-If t b u))
left c (o.Br l) e = absurd (c.in_default.not-Br l (e ∙ v.rolls-Br l))
left c (o.BrIf l) e = absurd (c.in_default.not-BrIf l (e ∙ v.rolls-BrIf l))
left c (o.BrTable ls l) e = absurd (c.in_default.not-BrTable ls l (e ∙ v.rolls-BrTable ls l))
left c (o.Call f) e = absurd (c.in_default.not-Call f (e ∙ v.rolls-Call f))
left c (o.TryTable t ls b) e = absurd (c.in_default.not-TryTable t ls b (e ∙ v.rolls-TryTable t ls b))
left c (o.RefFunc f) e = absurd (c.in_default.not-RefFunc f (e ∙ v.rolls-RefFunc f))
left c _ e = refl

pub begin_data-requires : goal.begin_data-requires
begin_data-requires c = left c (out-Instr c.args.instr.now) (sym (roll-out-Instr c.args.instr.now))
