use Rattle.std.proofs.Common.{subst, sym}
use Rattle.fact_wasm.specs.Ranges.{AreRanged}
use Rattle.fact_steps.proofs.RangedSteps.{kept_ranged}
use Rattle.fact_steps.proofs.WrittenSteps.{may_leave_emits}
use Rattle.fact_steps.proofs.steps.check_may_leave.Goals as goal

pub put_guard-requires : goal.put_guard-requires
put_guard-requires c = subst (AreRanged 0 0) (sym c.in_ok-test.ensures.items) (kept_ranged _ _)

pub returns : goal.returns
returns c = may_leave_emits _ _ c.in_ok-test.ensures.items c.in_ok-put_guard.ensures
