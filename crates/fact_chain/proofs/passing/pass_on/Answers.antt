use Rattle.std.proofs.Common.{subst}
use Rattle.std.specs.Prelude.{IfErr, IfOk}
use Rattle.fact_chain.specs.Between.{IsSecondError, IsSecondOutcome}
use Rattle.fact_chain.proofs.passing.pass_on.Goals as goal

pub returns-in-Ok-clause-outcome : goal.returns-in-Ok-clause-outcome
returns-in-Ok-clause-outcome c =
    subst (λ rs. IfOk c.call_scripted.result (IsSecondOutcome c.args.«module».now c.args.types.now c.args.second.now c.args.params.now rs)) c.in-Ok.ensures c.call_scripted.ensures.outcome

pub returns-in-Ok-clause-error : goal.returns-in-Ok-clause-error
returns-in-Ok-clause-error c =
    subst (λ rs. IfErr c.call_scripted.result (IsSecondError c.args.types.now c.args.second.now c.args.params.now rs)) c.in-Ok.ensures c.call_scripted.ensures.error

pub returns-in-Err-clause-error : goal.returns-in-Err-clause-error
returns-in-Err-clause-error c = λ s shapes. tt
