use Rattle.fact_steps.proofs.WrittenSteps.{finish_emits, no_finish}
use Rattle.fact_steps.proofs.steps.finish_call.Goals as goal

pub returns-in_ok-call_post_return-in-Some : goal.returns-in_ok-call_post_return-in-Some
returns-in_ok-call_post_return-in-Some c = finish_emits _ _ _ _ _ _ c.in-Some.is c.in_ok-call_post_return-in-Some.ensures

pub returns-in-None : goal.returns-in-None
returns-in-None c = no_finish c.args.w.now _ _ _ _ _ c.in-None.is
