use Rattle.std.proofs.lemmas.Result.{IfOk-weaker}
use Rattle.std.proofs.Common.{◌≡◌, None, ap, sym, ◌∙◌}
use Rattle.fact_interpreter.specs.Asked.{begins_with_import}
use Rattle.fact_interpreter.proofs.Asked.{asked_own}
use Rattle.fact_interpreter.proofs.asking.begin_asked.Goals as goal

pub returns-in-None-clause-does : goal.returns-in-None-clause-does
returns-in-None-clause-does g c =
    let none : begins_with_import c.args.run.now.code.now ≡ None = sym c.import_called.ensures ∙ c.in-None.is in
    IfOk-weaker c.begin.result _ _
    (λ end is. asked_own c.args.module.now c.args.run.now c.begin.new.run end (g.O.Outside.events c.args.outside.now) none c.requires.there c.requires.none is) c.begin.ensures
