use Rattle.std.proofs.Common.{sym, arith, of_calls}
use Rattle.std.specs.Fn.{CalledAtMut}
use Rattle.fact_types.proofs.AlikeLaws.{entry_alike, entries_next, entries_stop, entries_stay_alike}
use Rattle.fact_types.proofs.TraceLaws.{retraced_none, retraced_all}
use Rattle.fact_types.proofs.trace.trace_entities_mut.Goals as goal

pub loop-i-init : goal.loop-i-init
loop-i-init g c = (search of_calls, retraced_none _ _ _ _ _ entry_alike)

pub returns-in_err-trace_entity_mut-clause-visits : goal.returns-in_err-trace_entity_mut-clause-visits
returns-in_err-trace_entity_mut-clause-visits g c =
    entries_stop (CalledAtMut g.F.FnMut) _ _ _ _ c.loop-i.entities.entries c.loop-i.i c.in-Some.entity.now c.trace_entity_mut.new.entity c.in_err-trace_entity_mut.field-0.0 c.from_residual.result
    (sym c.in-Some.ensures.value) (grind arith) c.loop-i.invariant.1 c.in_err-trace_entity_mut.ensures.visits

pub returns-in_err-trace_entity_mut-clause-alike : goal.returns-in_err-trace_entity_mut-clause-alike
returns-in_err-trace_entity_mut-clause-alike g c =
    entries_stay_alike (CalledAtMut g.F.FnMut) _ _ _ c.loop-i.entities.entries c.loop-i.i c.in-Some.entity.now c.trace_entity_mut.new.entity
    (sym c.in-Some.ensures.value) c.loop-i.invariant.1 c.in_err-trace_entity_mut.ensures.alike

pub loop-i-preserved : goal.loop-i-preserved
loop-i-preserved g c = (
  c.in_ok-trace_entity_mut.ensures.callable,
  entries_next (CalledAtMut g.F.FnMut) _ _ _ _ c.loop-i.entities.entries c.loop-i.i c.in-Some.entity.now c.trace_entity_mut.new.entity
      (sym c.in-Some.ensures.value) c.loop-i.invariant.1 c.in_ok-trace_entity_mut.ensures.visits c.in_ok-trace_entity_mut.ensures.alike,
)

pub returns-clause-visits : goal.returns-clause-visits
returns-clause-visits g c =
    retraced_all (CalledAtMut g.F.FnMut) _ _ c.args.func.now c.args.entities.now.entries c.loop-i.func c.loop-i.entities.entries c.loop-i.i (omega (arith, c.loop-i-test.false, c.len-i-end.ensures.len)) c.loop-i.invariant.1
