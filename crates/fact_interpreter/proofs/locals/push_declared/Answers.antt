use Rattle.fact_interpreter.proofs.Declared.{locals_more}
use Rattle.fact_interpreter.proofs.locals.push_declared.Goals as goal

pub loop-count-preserved : goal.loop-count-preserved
loop-count-preserved c =
    locals_more c.args.runs.now c.loop-count.count-index _ c.args.locals.now c.loop-count.locals c.push_several.new.locals c.first_value.result c.loop-count-test.true c.first_value.ensures c.loop-count.invariant c.in_ok-push_several.ensures
