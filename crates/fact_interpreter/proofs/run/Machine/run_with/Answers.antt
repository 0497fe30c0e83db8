use Rattle.std.proofs.Common.{◌≡◌, sym, ap, ◌∙◌}
use Rattle.fact_machine.specs.Machine.{run_of}
use Rattle.fact_machine.specs.Causes.{answers_of}
use Rattle.fact_interpreter.proofs.Asked.{run_asked}
use Rattle.fact_interpreter.proofs.run.Machine.run_with.Goals as goal

pub returns-in_ok-outcome-in-Ok-clause-outcome : goal.returns-in_ok-outcome-in-Ok-clause-outcome
returns-in_ok-outcome-in-Ok-clause-outcome g c =
    c.in_ok-outcome-in-Ok.ensures
    ∙ run_asked c.args.«module».now c.args.func c.args.args.now c.args.state.now c.args.steps _ _ c.in-Ok.end c.in_ok-run.run' c.call_and_ask.new.run c.in_ok-run.ensures c.in-Ok.ensures.runs
    ∙ ap (λ o. run_of c.args.«module».now c.args.func c.args.args.now c.args.state.now (answers_of o.log) c.args.steps) (sym c.in_ok-outcome-in-Ok.ensures)
