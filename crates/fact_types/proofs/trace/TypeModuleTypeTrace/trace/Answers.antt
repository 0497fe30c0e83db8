use Rattle.std.proofs.Common.{sym, ap, arith}
use Rattle.fact_types.specs.Traces.{module_indices}
use Rattle.fact_types.proofs.TraceLaws.{visits_both, visits_first}
use Rattle.fact_types.proofs.trace.TypeModuleTypeTrace.trace.Given as given
use Rattle.fact_types.proofs.trace.TypeModuleTypeTrace.trace.Goals as goal

pub returns-in_err-trace_entities-clause-visits : goal.returns-in_err-trace_entities-clause-visits
returns-in_err-trace_entities-clause-visits g c =
    visits_first (given.F-step g) c.args.func.now c.trace_entities.new.func (module_indices c.args.self.now) _ _ c.in_err-trace_entities.field-0.0 c.from_residual.result (sym (ap module_indices c.self.view_is)) (grind arith) c.in_err-trace_entities.ensures.visits

pub returns-clause-visits : goal.returns-clause-visits
returns-clause-visits g c =
    visits_both (given.F-step g) c.args.func.now c.trace_entities.new.func c.trace_entities-2.new.func (module_indices c.args.self.now) _ _ c.trace_entities-2.result (sym (ap module_indices c.self.view_is)) c.in_ok-trace_entities.ensures.visits c.trace_entities-2.ensures.visits
