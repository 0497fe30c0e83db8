use Rattle.fact_chain.proofs.ChainLaws.{chain_cause, chained, passing_on, stays_itself}
use Rattle.fact_chain.proofs.chaining.chain_to.Goals as goal

pub call-outcome-requires-clause-callable : goal.call-outcome-requires-clause-callable
call-outcome-requires-clause-callable c = (c.requires.first.shapes, c.requires.first.callable)

pub call-outcome-requires-clause-ready : goal.call-outcome-requires-clause-ready
call-outcome-requires-clause-ready c = c.new-passing.ensures.ready

pub returns-in-Ok-clause-chained : goal.returns-in-Ok-clause-chained
returns-in-Ok-clause-chained c =
    let m = c.args.«module».now in
    let t = c.args.types.now in
    let p = c.call-outcome.new.callee in
    let stay = c.call-outcome.ensures.stays c.new-passing.result (stays_itself c.new-passing.result c.new-passing.ensures.holds) in
    chained m t c.args.first.now c.args.second.now c.args.args.now c.args.results p c.requires.first (passing_on m t c.args.second.now c.args.results c.new-passing.result p c.new-passing.ensures.passes stay) stay.holds c.in-Ok.outer c.into_outcome-inner.result
    c.into_outcome-inner.ensures c.in-Ok.ensures.outcome c.in-Ok.ensures.no_cause

pub returns-in-Err-clause-cause : goal.returns-in-Err-clause-cause
returns-in-Err-clause-cause c =
    let m = c.args.«module».now in
    let t = c.args.types.now in
    let p = c.call-outcome.new.callee in
    let stay = c.call-outcome.ensures.stays c.new-passing.result (stays_itself c.new-passing.result c.new-passing.ensures.holds) in
    chain_cause m t c.args.first.now c.args.second.now c.args.args.now c.args.results p (passing_on m t c.args.second.now c.args.results c.new-passing.result p c.new-passing.ensures.passes stay) stay.holds c.in-Err.error c.in-Err.ensures.reached c.in-Err.ensures.cause
