use Rattle.fact_steps.proofs.LocalRuns.{PushesOn}
use Rattle.fact_steps.proofs.steps.push_locals.Given as goal

abbrev pub invariant-loop-at : goal.invariant-loop-at
invariant-loop-at l = PushesOn l.locals l.at l.fn.w l.w
