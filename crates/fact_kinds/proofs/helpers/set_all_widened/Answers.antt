use Rattle.fact_kinds.proofs.HelperCodes.{took_begin}
use Rattle.fact_kinds.proofs.helpers.set_all_widened.Goals as goal

pub loop-left-init : goal.loop-left-init
loop-left-init c = took_begin _ _ _ _ c.min-left.ensures
