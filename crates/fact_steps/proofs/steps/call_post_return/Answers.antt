use Rattle.fact_steps.proofs.WrittenSteps.{post_emits}
use Rattle.fact_steps.proofs.steps.call_post_return.Goals as goal

pub returns : goal.returns
returns c = post_emits _ _ _ _ _ c.requires c.in_ok-read_context.ensures c.in_ok-restore_context.ensures c.in_ok-push_locals.ensures c.in_ok-put.ensures c.in_ok-restore_context-2.ensures
