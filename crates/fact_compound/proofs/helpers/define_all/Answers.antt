use Rattle.fact_compound.proofs.WaitingHelpers.{defines_next, defines_none}
use Rattle.fact_compound.proofs.helpers.define_all.Goals as goal

pub loop-function-init : goal.loop-function-init
loop-function-init c = defines_none c.args.sections.now

pub loop-function-preserved : goal.loop-function-preserved
loop-function-preserved c = defines_next c.args.sections.now c.loop-function.yielded c.in-Some.function c.loop-function.invariant c.in_ok-define.ensures.defined
