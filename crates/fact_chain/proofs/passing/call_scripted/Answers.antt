use Rattle.std.proofs.Common.{◌∙◌, arith, refl}
use Rattle.fact_chain.proofs.PassedLaws.{unasked, with_error, with_outcome}
use Rattle.fact_chain.proofs.passing.call_scripted.Goals as goal

pub call-answer-requires-clause-callable : goal.call-answer-requires-clause-callable
call-answer-requires-clause-callable c = (c.requires.shapes, c.requires.callable)

pub call-answer-requires-clause-fresh : goal.call-answer-requires-clause-fresh
call-answer-requires-clause-fresh c = record { no_error = c.new-callee.ensures.last; no_answer = unasked c.new-callee.result c.new-callee.ensures.asked; not_given = refl }

pub returns-clause-outcome : goal.returns-clause-outcome
returns-clause-outcome c =
    let callee = c.call-answer.new.callee in
    let stay = c.call-answer.ensures.stays c.new-callee.result (record { results = refl; wants_memory = λ le. le }) in
    with_outcome c.args.«module».now c.args.types.now c.args.second.now c.args.params.now c.args.results callee c.call-answer.result (stay.results ∙ c.new-callee.ensures.results) c.call-answer.ensures.outcome c.call-answer.ensures.no_cause

pub returns-clause-error : goal.returns-clause-error
returns-clause-error c =
    let callee = c.call-answer.new.callee in
    let stay = c.call-answer.ensures.stays c.new-callee.result (record { results = refl; wants_memory = λ le. le }) in
    with_error c.args.types.now c.args.second.now c.args.params.now c.args.results callee c.call-answer.result (stay.results ∙ c.new-callee.ensures.results) (stay.wants_memory (omega (arith, c.new-callee.ensures.last))) c.call-answer.ensures.cause
