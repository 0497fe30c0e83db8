use Rattle.fact_steps.proofs.WrittenSteps.{exit_emits, no_exit}
use Rattle.fact_steps.proofs.steps.exit_call.Goals as goal

pub returns-in_ok-call_runtime : goal.returns-in_ok-call_runtime
returns-in_ok-call_runtime c = exit_emits c.args.told c.if-told.true c.in_ok-call_runtime.ensures

pub returns-else-told : goal.returns-else-told
returns-else-told c = no_exit c.args.w.now c.args.told c.if-told.false
