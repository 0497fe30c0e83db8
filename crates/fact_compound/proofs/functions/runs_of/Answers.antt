use Rattle.std.proofs.Common.{arith}
use Rattle.fact_compound.proofs.Runs.{runs_first, runs_next, runs_all}
use Rattle.fact_compound.proofs.functions.runs_of.Goals as goal

pub loop-at-init : goal.loop-at-init
loop-at-init c = runs_first c.new-runs.ensures

pub loop-at-preserved : goal.loop-at-preserved
loop-at-preserved c = runs_next _ c.loop-at-test.true c.in_ok-add_run.ensures c.loop-at.invariant

pub returns : goal.returns
returns c = runs_all (omega (arith, c.loop-at-test.false)) c.loop-at.invariant
