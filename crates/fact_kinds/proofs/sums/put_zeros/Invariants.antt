use Rattle.fact_kinds.proofs.ZeroCode.{ZerosLeft}
use Rattle.fact_kinds.proofs.sums.put_zeros.Given as goal

abbrev pub invariant-loop-local : goal.invariant-loop-local
invariant-loop-local l = ZerosLeft l.locals l.local-index l.fn.w l.w
