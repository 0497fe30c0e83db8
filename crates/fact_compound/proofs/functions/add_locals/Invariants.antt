use Rattle.fact_compound.proofs.LocalsAdded.{AddsOn}
use Rattle.fact_compound.proofs.functions.add_locals.Given as goal

abbrev pub invariant-loop-at : goal.invariant-loop-at
invariant-loop-at l = AddsOn l.types l.at l.fn.w l.w l.locals.items
