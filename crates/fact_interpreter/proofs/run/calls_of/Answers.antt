use Rattle.fact_machine.proofs.Traces.{calls_called, calls_other}
use Rattle.fact_interpreter.proofs.run.calls_of.Goals as goal

pub loop-entry-preserved-in-Continue-1 : goal.loop-entry-preserved-in-Continue-1
loop-entry-preserved-in-Continue-1 c =
    calls_called c.loop-entry.yielded c.in-Some.entry c.in-Called.event c.loop-entry.log c.push.new.self c.in-Called.is c.loop-entry.invariant c.in_ok-push.ensures.ok

pub loop-entry-preserved : goal.loop-entry-preserved
loop-entry-preserved c = calls_other c.loop-entry.yielded c.in-Some.entry c.loop-entry.log c.in_default.not-Called c.loop-entry.invariant
