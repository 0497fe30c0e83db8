use Rattle.std.proofs.Common.{subst, sym}
use Rattle.fact_wasm.specs.Ranges.{AreRanged}
use Rattle.fact_emit.proofs.CheckMoves.{aligned_emits, no_aligned_emits}
use Rattle.fact_emit.proofs.RangedCode.{aligned_ranged}
use Rattle.fact_emit.proofs.pointers.check_aligned.Goals as goal

pub put_guard-requires : goal.put_guard-requires
put_guard-requires c = subst (AreRanged 0 0) (sym c.in_ok-test.ensures) (aligned_ranged _ _)

pub returns-in_ok-put_guard : goal.returns-in_ok-put_guard
returns-in_ok-put_guard c = aligned_emits _ _ c.if-align-ne1.true c.in_ok-test.ensures c.in_ok-put_guard.ensures

pub returns-else-align-ne1 : goal.returns-else-align-ne1
returns-else-align-ne1 c = no_aligned_emits _ _ _ c.if-align-ne1.false
