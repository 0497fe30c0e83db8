use Rattle.fact_kinds.proofs.HelperCodes.{TookDown}
use Rattle.fact_kinds.proofs.helpers.set_all_widened.Given as goal

abbrev pub invariant-loop-left : goal.invariant-loop-left
invariant-loop-left l = TookDown l.fn.w l.w l.flats l.locals l.left

abbrev pub decreases-loop-left : goal.decreases-loop-left
decreases-loop-left l = l.left
