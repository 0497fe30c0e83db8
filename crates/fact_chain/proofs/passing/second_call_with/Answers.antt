use Rattle.std.proofs.Common.{subst}
use Rattle.fact_chain.specs.Between.{IsSecondError, IsSecondOutcome}
use Rattle.fact_chain.proofs.PassedLaws.{kept_error}
use Rattle.fact_chain.proofs.passing.second_call_with.Goals as goal

pub returns-in-Ok : goal.returns-in-Ok
returns-in-Ok c =
    let m = c.args.«module».now in
    let t = c.args.types.now in
    let second = c.args.second.now in
    c.kept_of.ensures m t second c.args.results.now (subst (λ vs. IsSecondOutcome m t second vs c.args.results.now c.in-Ok.outcome) c.as_slice.ensures c.in-Ok.ensures.outcome)

pub returns-in-Err : goal.returns-in-Err
returns-in-Err c =
    let t = c.args.types.now in
    let second = c.args.second.now in
    kept_error c.args.«module».now t second c.args.given c.args.results.now c.in-Err.error (subst (λ vs. IsSecondError t second vs c.args.results.now c.in-Err.error) c.as_slice.ensures c.in-Err.ensures.error)
