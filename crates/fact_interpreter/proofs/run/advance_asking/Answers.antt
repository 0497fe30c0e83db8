use Rattle.std.proofs.Common.{◌≡◌, [], sym, ap, ◌∙◌, subst}
use Rattle.std.proofs.lemmas.Result.{IfOk-weaker}
use Rattle.fact_interpreter.specs.declared.settle.Settled.TheVariants as settled
use Rattle.fact_machine.specs.World.{log_of}
use Rattle.fact_interpreter.specs.Running.{IsSettled, world_of}
use Rattle.fact_interpreter.proofs.Asked.{settled_world, settled_step, asked_same, asked_finished, asked_breaks}
use Rattle.fact_interpreter.proofs.run.advance_asking.Goals as goal

pub begin_asked-requires-clause-none : goal.begin_asked-requires-clause-none
begin_asked-requires-clause-none g c =
    ap (λ w. w.answers) (settled_world c.in_ok-how.how c.args.run.now c.settle.new.run c.in_ok-how.ensures) ∙ c.requires.none

pub returns-in-Begins-clause-does : goal.returns-in-Begins-clause-does
returns-in-Begins-clause-does g c =
    let is : IsSettled settled.Begins c.args.run.now c.settle.new.run = subst (λ how. IsSettled how c.args.run.now c.settle.new.run) c.in-Begins.is c.in_ok-how.ensures in
    IfOk-weaker c.begin_asked.result _ _
    (λ end h. asked_same h (settled_step c.args.module.now c.args.run.now c.settle.new.run is) (ap log_of (sym (settled_world settled.Begins c.args.run.now c.settle.new.run is))))
    c.begin_asked.ensures.does

pub returns-in-Finished-clause-does : goal.returns-in-Finished-clause-does
returns-in-Finished-clause-does g c =
    let is : IsSettled settled.Finished c.args.run.now c.settle.new.run = subst (λ how. IsSettled how c.args.run.now c.settle.new.run) c.in-Finished.is c.in_ok-how.ensures in
    asked_finished c.args.module.now c.args.run.now c.settle.new.run c.results.new.run c.results.result (g.O.Outside.events c.args.outside.now) is c.results.ensures.results c.results.ensures.world c.requires.none

pub returns-in-Breaks-clause-does : goal.returns-in-Breaks-clause-does
returns-in-Breaks-clause-does g c =
    let is : IsSettled settled.Breaks c.args.run.now c.settle.new.run = subst (λ how. IsSettled how c.args.run.now c.settle.new.run) c.in-Breaks.is c.in_ok-how.ensures in
    asked_breaks c.args.module.now c.args.run.now c.settle.new.run (g.O.Outside.events c.args.outside.now) is c.requires.none
