use Rattle.std.proofs.Common.{length}
use Rattle.fact_compound.proofs.WaitingHelpers.{AddsWaiting}
use Rattle.fact_compound.proofs.helpers.add_waiting.Given as goal

abbrev pub invariant-loop-place : goal.invariant-loop-place
invariant-loop-place l = AddsWaiting l.first l.place (length l.sections.helpers) l.fn.waiting l.waiting l.fn.written l.written
