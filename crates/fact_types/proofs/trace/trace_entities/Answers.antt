use Rattle.std.proofs.Common.{refl, ◌∙◌, arith}
use Rattle.std.specs.Prelude.{Ok}
use Rattle.fact_types.specs.Traces.{named_index}
use Rattle.fact_types.proofs.AlikeLaws.{by_values}
use Rattle.fact_types.proofs.TraceLaws.{visited_next, visited_stop, visited_all}
use Rattle.fact_types.proofs.trace.trace_entities.Given as given
use Rattle.fact_types.proofs.trace.trace_entities.Goals as goal

pub returns-in_err-trace_entity-clause-visits : goal.returns-in_err-trace_entity-clause-visits
returns-in_err-trace_entity-clause-visits g c =
    by_values (given.F-step g) c.args.func.now c.trace_entity.new.func c.args.entities.now.entries c.as_slice-entity-items.result.now c.from_residual.result (c.as_slice-entity-items.ensures ∙ c.values.ensures.rest)
    (visited_stop (given.F-step g) named_index c.args.func.now c.as_slice-entity-items.result.now c.loop-entity.func c.trace_entity.new.func c.loop-entity.entity-index _ _ c.in_err-trace_entity.field-0.0 c.from_residual.result
    c.loop-entity-test.true refl (grind arith) c.loop-entity.invariant.1 c.in_err-trace_entity.ensures.visits)

pub loop-entity-preserved : goal.loop-entity-preserved
loop-entity-preserved g c = (
  c.in_ok-trace_entity.ensures.callable,
  visited_next (given.F-step g) named_index c.args.func.now c.as_slice-entity-items.result.now c.loop-entity.func c.trace_entity.new.func c.loop-entity.entity-index _ _
      c.loop-entity-test.true refl c.loop-entity.invariant.1 c.in_ok-trace_entity.ensures.visits,
)

pub returns-clause-visits : goal.returns-clause-visits
returns-clause-visits g c =
    by_values (given.F-step g) c.args.func.now c.loop-entity.func c.args.entities.now.entries c.as_slice-entity-items.result.now (Ok tt) (c.as_slice-entity-items.ensures ∙ c.values.ensures.rest)
    (visited_all (given.F-step g) named_index c.args.func.now c.as_slice-entity-items.result.now c.loop-entity.func c.loop-entity.entity-index c.loop-entity-test.false c.loop-entity.invariant.1)
