use Rattle.fact_explain.proofs.Ended.{no-usage-with, not-done, not-written, tells-plan, unmade, with-plan}
use Rattle.fact_explain.proofs.top.ending_of.Goals as goal

pub returns-in-Ok-clause-end : goal.returns-in-Ok-clause-end
returns-in-Ok-clause-end g c = with-plan _ _ _ _ _ c.in-Ok.plan c.end_with.result c.in-Ok.ensures.plan c.end_with.ensures.end

pub returns-in-Ok-clause-done : goal.returns-in-Ok-clause-done
returns-in-Ok-clause-done g c = λ is. tells-plan _ _ _ c.in-Ok.plan _ c.in-Ok.ensures.plan (c.end_with.ensures.done is)

pub returns-in-Ok-clause-part : goal.returns-in-Ok-clause-part
returns-in-Ok-clause-part g c = λ is. tells-plan _ _ _ c.in-Ok.plan _ c.in-Ok.ensures.plan (c.end_with.ensures.part is)

pub returns-in-Ok-clause-untouched : goal.returns-in-Ok-clause-untouched
returns-in-Ok-clause-untouched g c = no-usage-with _ _ c.end_with.result c.end_with.ensures.end

pub returns-in-Err-clause-end : goal.returns-in-Err-clause-end
returns-in-Err-clause-end g c = unmade _ _ _ _ _ _ _ c.in-Err.ensures.end

pub returns-in-Err-clause-done : goal.returns-in-Err-clause-done
returns-in-Err-clause-done g c = not-done _ _ _ _ _ _ _ c.in-Err.ensures.end

pub returns-in-Err-clause-part : goal.returns-in-Err-clause-part
returns-in-Err-clause-part g c = not-written _ _ _ _ _ _ _ c.in-Err.ensures.end
