use Rattle.std.proofs.Common.{refl}
use Rattle.fact_call_mode.proofs.places.func_named.Goals as goal

pub loop-export-init : goal.loop-export-init
loop-export-init c = refl
