use Rattle.std.proofs.Common.{sym, append-nil}
use Rattle.fact_compound.proofs.EntryFunctions.{arguments_next}
use Rattle.fact_compound.proofs.entries.push_arguments.Goals as goal

pub loop-number-init : goal.loop-number-init
loop-number-init c = sym (append-nil _)

pub loop-number-preserved : goal.loop-number-preserved
loop-number-preserved c = arguments_next _ _ c.in_ok-push.ensures.items c.loop-number.invariant
