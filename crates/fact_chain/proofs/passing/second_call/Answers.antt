use Rattle.std.proofs.Common.{subst}
use Rattle.fact_chain.specs.Passing.{IsPassed}
use Rattle.fact_chain.proofs.PassedLaws.{kept_nothing}
use Rattle.fact_chain.proofs.passing.second_call.Goals as goal

pub returns-in-Ok : goal.returns-in-Ok
returns-in-Ok c = subst (λ vs. IsPassed c.args.«module».now c.args.types.now c.args.second.now vs c.args.results.now c.second_call_with.result) c.in-Ok.ensures c.second_call_with.ensures

pub returns-in-Err : goal.returns-in-Err
returns-in-Err c = kept_nothing c.args.«module».now c.args.types.now c.args.second.now c.args.params.now c.args.results.now
