use Rattle.std.proofs.Common.{◌≡◌, ◌∙◌, ◌≤◌, None, arith, refl, subst}
use Rattle.fact_host.specs.Contract.{HasNoCause, IsHostCause, IsOutcomeOf}
use Rattle.fact_call_mode.specs.Replies.{answered}
use Rattle.fact_call_mode.proofs.WantsOfMemory.{call_wants}
use Rattle.fact_call_mode.proofs.hosting.outcome_of.Goals as goal

pub call-requires-clause-callable : goal.call-requires-clause-callable
call-requires-clause-callable c = (c.requires.callable.0, c.requires.callable.1)

pub returns-in-Ok : goal.returns-in-Ok
returns-in-Ok c =
    let callee = c.call.new.callee in
    let same : callee.results ≡ c.args.results = (c.in-Ok.ensures.stays c.new-callee.result (record { results = refl; wants_memory = λ few. few })).results ∙ c.new-callee.ensures.results in (
      callee.last,
      callee.asked,
      record {
        outcome = λ s shapes. subst (λ vs. IsOutcomeOf c.args.fused.now.«module» c.args.types.now c.args.host.now s c.args.args.now (answered callee.asked vs) None c.in-Ok.outcome) same (c.in-Ok.ensures.outcome s shapes);
        no_cause = λ s shapes. subst (λ vs. HasNoCause s c.args.args.now callee.last (answered callee.asked vs)) same (c.in-Ok.ensures.no_cause s shapes);
      },
    )

pub out_of_memory-requires : goal.out_of_memory-requires
out_of_memory-requires c =
    let callee = c.call.new.callee in
    let s = c.requires.callable.0 in
    let stays = c.in-Err.ensures.stays c.new-callee.result (record { results = refl; wants_memory = λ few. few }) in
    let same : callee.results ≡ c.args.results = stays.results ∙ c.new-callee.ensures.results in
    let few : callee.last ≤ 1 = stays.wants_memory (omega (arith, c.new-callee.ensures.last)) in
    call_wants s c.args.args.now c.args.results callee.last callee.asked c.requires.callable.2 few c.in-Err.error
    (subst (λ vs. IsHostCause s c.args.args.now callee.last (answered callee.asked vs) c.in-Err.error) same (c.in-Err.ensures.cause s c.requires.callable.1.shapes))
