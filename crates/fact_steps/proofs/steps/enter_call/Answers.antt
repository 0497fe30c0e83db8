use Rattle.fact_steps.proofs.WrittenSteps.{enter_emits, no_enter}
use Rattle.fact_steps.proofs.steps.enter_call.Goals as goal

pub returns-in_ok-call_runtime : goal.returns-in_ok-call_runtime
returns-in_ok-call_runtime c = enter_emits c.args.told c.args.instance c.if-told.true c.in_ok-put.ensures c.in_ok-put-2.ensures c.in_ok-call_runtime.ensures

pub returns-else-told : goal.returns-else-told
returns-else-told c = no_enter c.args.w.now c.args.told c.args.instance c.if-told.false
