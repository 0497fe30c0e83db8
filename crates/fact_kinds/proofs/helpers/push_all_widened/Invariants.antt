use Rattle.std.specs.Prelude.{drop}
use Rattle.fact_kinds.proofs.HelperCodes.{PushedSoFar}
use Rattle.fact_kinds.proofs.helpers.push_all_widened.Given as goal

abbrev pub invariant-loop-local : goal.invariant-loop-local
invariant-loop-local l = PushedSoFar l.fn.w l.w l.locals (drop l.local-index l.locals)
