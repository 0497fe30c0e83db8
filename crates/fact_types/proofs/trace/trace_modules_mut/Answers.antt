use Rattle.std.proofs.Common.{sym, ap, arith, of_calls}
use Rattle.std.specs.Fn.{CalledAtMut}
use Rattle.fact_types.specs.Traces.{module_indices, IsAlikeModule}
use Rattle.fact_types.proofs.AlikeLaws.{module_alike}
use Rattle.fact_types.proofs.TraceLaws.{retraced_none, retraced_next, retraced_stop, alike_stop, retraced_all}
use Rattle.fact_types.proofs.trace.trace_modules_mut.Goals as goal

pub loop-i-init : goal.loop-i-init
loop-i-init g c = (search of_calls, retraced_none _ _ _ _ _ module_alike)

pub returns-in_err-trace_mut-clause-visits : goal.returns-in_err-trace_mut-clause-visits
returns-in_err-trace_mut-clause-visits g c =
    retraced_stop (CalledAtMut g.F.FnMut) module_indices IsAlikeModule _ _ _ _ c.loop-i.modules c.loop-i.i c.from_u32.result.number c.in-Some.module.now c.trace_mut.new.self c.in_err-trace_mut.field-0.0 c.from_residual.result
    (ap (λ k. k.number) c.from_u32.ensures) (sym c.in-Some.ensures.value) (grind arith) c.loop-i.invariant.1 c.in_err-trace_mut.ensures.visits

pub returns-in_err-trace_mut-clause-alike : goal.returns-in_err-trace_mut-clause-alike
returns-in_err-trace_mut-clause-alike g c =
    alike_stop (CalledAtMut g.F.FnMut) module_indices IsAlikeModule _ _ _ c.loop-i.modules c.loop-i.i c.from_u32.result.number c.in-Some.module.now c.trace_mut.new.self
    (ap (λ k. k.number) c.from_u32.ensures) (sym c.in-Some.ensures.value) c.loop-i.invariant.1 c.in_err-trace_mut.ensures.alike

pub loop-i-preserved : goal.loop-i-preserved
loop-i-preserved g c = (
  c.in_ok-trace_mut.ensures.callable,
  retraced_next (CalledAtMut g.F.FnMut) module_indices IsAlikeModule _ _ _ _ c.loop-i.modules c.loop-i.i c.from_u32.result.number c.in-Some.module.now c.trace_mut.new.self
      (ap (λ k. k.number) c.from_u32.ensures) (sym c.in-Some.ensures.value) c.loop-i.invariant.1 c.in_ok-trace_mut.ensures.visits c.in_ok-trace_mut.ensures.alike,
)

pub returns-clause-visits : goal.returns-clause-visits
returns-clause-visits g c =
    retraced_all (CalledAtMut g.F.FnMut) module_indices IsAlikeModule c.args.func.now c.args.modules.now c.loop-i.func c.loop-i.modules c.loop-i.i (omega (arith, c.loop-i-test.false, c.len-i-end.ensures.count, c.len-i-end.ensures.fits)) c.loop-i.invariant.1
