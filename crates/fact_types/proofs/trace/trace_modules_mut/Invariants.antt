use Rattle.std.specs.Fn.{CalledAtMut}
use Rattle.fact_types.specs.Traces.{module_indices, IsAlikeModule}
use Rattle.fact_types.proofs.TraceLaws.{RetracedTo}
use Rattle.fact_types.proofs.trace.trace_modules_mut.Given as goal

abbrev pub invariant-loop-i : goal.invariant-loop-i
invariant-loop-i g l =
    goal.F-IsAlwaysCallable g l.func
    × RetracedTo (CalledAtMut g.F.FnMut) module_indices IsAlikeModule l.fn.func l.fn.modules l.func l.modules l.i
