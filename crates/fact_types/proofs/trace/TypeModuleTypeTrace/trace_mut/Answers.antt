use Rattle.std.proofs.Common.{refl, sym, ap, arith}
use Rattle.std.specs.Fn.{CalledAtMut}
use Rattle.fact_types.specs.Traces.{module_indices}
use Rattle.fact_types.proofs.AlikeLaws.{alike_imports}
use Rattle.fact_types.proofs.TraceLaws.{each_both, each_first}
use Rattle.fact_types.proofs.trace.TypeModuleTypeTrace.trace_mut.Goals as goal

pub returns-in_err-trace_entities_mut-clause-visits : goal.returns-in_err-trace_entities_mut-clause-visits
returns-in_err-trace_entities_mut-clause-visits g c =
    each_first (CalledAtMut g.F.FnMut) c.args.func.now c.trace_entities_mut.new.func (module_indices c.args.self.now) _ _ _ _ c.in_err-trace_entities_mut.field-0.0 c.from_residual.result (sym (ap module_indices c.self.view_is)) refl (grind arith) c.in_err-trace_entities_mut.ensures.visits

pub returns-in_err-trace_entities_mut-clause-alike : goal.returns-in_err-trace_entities_mut-clause-alike
returns-in_err-trace_entities_mut-clause-alike g c = alike_imports _ _ _ c.self.view_is refl c.in_err-trace_entities_mut.ensures.alike

pub returns-clause-visits : goal.returns-clause-visits
returns-clause-visits g c =
    each_both (CalledAtMut g.F.FnMut) c.args.func.now c.trace_entities_mut.new.func c.trace_entities_mut-2.new.func (module_indices c.args.self.now) _ _ _ _ _ c.trace_entities_mut-2.result (sym (ap module_indices c.self.view_is)) refl c.in_ok-trace_entities_mut.ensures.visits c.trace_entities_mut-2.ensures.visits
