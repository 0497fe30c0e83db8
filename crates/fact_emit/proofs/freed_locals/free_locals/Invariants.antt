use Rattle.std.specs.Prelude.{drop}
use Rattle.fact_emit.proofs.FreedLocals.{FreedSoFar}
use Rattle.fact_emit.proofs.freed_locals.free_locals.Given as goal

abbrev pub invariant-loop-local : goal.invariant-loop-local
invariant-loop-local l = FreedSoFar l.fn.w l.w l.locals (drop l.local-index l.locals)
