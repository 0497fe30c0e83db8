use Rattle.std.specs.Fn.{CalledAtMut}
use Rattle.fact_types.proofs.AlikeLaws.{EntriesTo}
use Rattle.fact_types.proofs.trace.trace_entities_mut.Given as goal

abbrev pub invariant-loop-i : goal.invariant-loop-i
invariant-loop-i g l = goal.F-IsAlwaysCallable g l.func × EntriesTo (CalledAtMut g.F.FnMut) l.fn.func l.fn.entities.entries l.func l.entities.entries l.i
