use Rattle.std.proofs.Common.{◌≡◌, ◌-◌, ◌+◌, suc, sym, ap, ◌∙◌, arith}
use Rattle.fact_interpreter.specs.Running.{config_of, did_of}
use Rattle.fact_interpreter.proofs.Steps.{exec_goes}
use Rattle.fact_interpreter.proofs.run.go_on.Goals as goal

pub loop-preserved : goal.loop-preserved
loop-preserved c =
    let n : c.args.steps - c.loop.counter ≡ suc (c.args.steps - (c.loop.counter + 1)) = omega arith in
    exec_goes c.args.«module».now (c.args.steps - (c.loop.counter + 1)) _ (config_of c.loop.run) (config_of c.advance.new.run)
    (sym (ap (λ o. did_of o c.advance.new.run) c.in_default.is) ∙ c.in_ok-end.ensures) n
    ∙ c.loop.invariant
