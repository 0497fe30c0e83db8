use Rattle.std.proofs.Common.{◌+◌, ◌-◌, ◌^◌, length}
use Rattle.fact_compound.specs.Helpers.{AreBeingWritten}
use Rattle.fact_compound.proofs.helpers.write_waiting.Given as goal

abbrev pub invariant-loop-place : goal.invariant-loop-place
invariant-loop-place l = AreBeingWritten l.fn.types.tables l.fn.debug l.fn.concurrency l.fn.fuel l.fn.first l.fn.sections l.sections l.waiting l.written

abbrev pub decreases-loop-place : goal.decreases-loop-place
decreases-loop-place l = 2 ^ 64 + length l.waiting - length l.written
