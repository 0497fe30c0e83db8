use Rattle.std.proofs.Common.{◌≡◌, [], ◌∷◌, ◌++◌, sym, ap, ◌∙◌}
use Rattle.std.proofs.lemmas.Result.{IfOk-weaker}
use Rattle.fact_machine.specs.declared.types.TraceEntry.TheVariants.{Called}
use Rattle.fact_machine.specs.Machine.{Bottom}
use Rattle.fact_interpreter.specs.Running.{world_of, around_of, answering}
use Rattle.fact_interpreter.proofs.Asked.{asked_once, asked_behind}
use Rattle.fact_interpreter.proofs.asking.take_answer.Goals as goal

pub returns : goal.returns
returns c =
    let run = c.args.run.now in
    let none : run.answers.now ≡ [] = c.requires.none in
    let pushed : c.push.new.self ≡ run.trace ++ Called c.in_ok-event.event ∷ [] = c.in_ok-push.ensures.ok in
    IfOk-weaker c.follow.result _ _
    (λ end did. asked_behind [] _ (asked_once (world_of run) c.args.func c.args.args c.args.answer.now run.stack run.locals run.code.now (around_of run.around Bottom) end c.follow.new.run c.in_ok-event.event c.in_ok-event.ensures
    (did ∙ ap (λ w. answering c.args.answer.now w run.stack run.locals run.code.now (around_of run.around Bottom)) (λ i. record { state = run.state; answers = none i; trace = pushed i }))) (ap (λ z. z ∷ []) (sym c.in_ok-event.ensures)))
    c.follow.ensures
