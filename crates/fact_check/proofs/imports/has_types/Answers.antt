use Rattle.fact_check.proofs.Types.{other_params, results_decide}
use Rattle.fact_check.proofs.imports.has_types.Goals as goal

pub returns-then-eq : goal.returns-then-eq
returns-then-eq c = results_decide c.args.ty.now c.args.params.now c.args.results.now _ _ _ _ c.as_slice.ensures c.as_slice-then-eq.ensures c.eq.ensures c.if-eq.true c.eq-then-eq.ensures

pub returns-else-eq : goal.returns-else-eq
returns-else-eq c = other_params c.args.ty.now c.args.params.now c.args.results.now _ _ c.as_slice.ensures c.eq.ensures c.if-eq.false
