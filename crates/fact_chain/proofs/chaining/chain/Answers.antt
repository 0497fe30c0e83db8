use Rattle.std.proofs.Common.{subst}
use Rattle.std.specs.Prelude.{IfErr, IfOk}
use Rattle.fact_chain.specs.Chained.{IsChainCause, IsChained}
use Rattle.fact_chain.proofs.ChainLaws.{no_memory}
use Rattle.fact_chain.proofs.chaining.chain.Goals as goal

pub returns-in-Ok-clause-chained : goal.returns-in-Ok-clause-chained
returns-in-Ok-clause-chained c =
    subst (λ rs. IfOk c.chain_to.result (IsChained c.args.«module».now c.args.types.now c.args.first.now c.args.second.now c.args.args.now rs)) c.in-Ok.ensures c.chain_to.ensures.chained

pub returns-in-Ok-clause-cause : goal.returns-in-Ok-clause-cause
returns-in-Ok-clause-cause c =
    subst (λ rs. IfErr c.chain_to.result (IsChainCause c.args.«module».now c.args.types.now c.args.first.now c.args.second.now c.args.args.now rs)) c.in-Ok.ensures c.chain_to.ensures.cause

pub returns-in-Err-clause-cause : goal.returns-in-Err-clause-cause
returns-in-Err-clause-cause c = no_memory c.args.«module».now c.args.types.now c.args.first.now c.args.second.now c.args.args.now c.args.results.now
