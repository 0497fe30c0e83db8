use Rattle.fact_steps.proofs.LocalRuns.{PopsOn}
use Rattle.std.specs.Prelude.{◌≤◌, length}
use Rattle.fact_steps.proofs.steps.pop_locals.Given as goal

abbrev pub invariant-loop-left : goal.invariant-loop-left
invariant-loop-left l = (l.left ≤ length l.locals) × PopsOn l.locals l.left l.fn.w l.w

abbrev pub decreases-loop-left : goal.decreases-loop-left
decreases-loop-left l = l.left
