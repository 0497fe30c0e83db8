use Rattle.fact_check.specs.Sections.{ends_from}
use Rattle.fact_check.proofs.LocalRuns.{one_end_more}
use Rattle.fact_check.proofs.locals.ends_of.Goals as goal

pub loop-count-preserved : goal.loop-count-preserved
loop-count-preserved c =
    one_end_more c.args.locals.now c.loop-count.count-index _ (ends_from 0 c.args.locals.now) c.loop-count.ends c.push.new.self c.loop-count.end c.saturating_add-end.result
    c.loop-count-test.true c.saturating_add-end.ensures c.in_ok-push.ensures.ok c.loop-count.invariant
