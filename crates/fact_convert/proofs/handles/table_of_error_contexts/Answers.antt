use Rattle.std.proofs.Common.{ap, ◌∙◌}
use Rattle.std.proofs.lemmas.Result.{err_from_is_err_and}
use Rattle.fact_builder.specs.declared.error.BuildError.TheVariants.{NoInstance}
use Rattle.fact_builder.specs.Builder.{Builder}
use Rattle.fact_convert.proofs.Coming.{comes_out, comes_at_once}
use Rattle.fact_convert.proofs.HandleLaws.{error_context_made, error_context_full}
use Rattle.fact_convert.proofs.Opening.{comes_still}
use Rattle.fact_convert.proofs.handles.table_of_error_contexts.Goals as goal

pub returns-in_err-instance-clause-comes : goal.returns-in_err-instance-clause-comes
returns-in_err-instance-clause-comes c = λ s. comes_out _ _ _ _ _ c.from_residual.result _ (let p = err_from_is_err_and c.from_residual.result c.from_residual.ensures.1 in (p.0, p.1, p.2 ∙ c.in_err-instance.ensures.none.0)) (comes_at_once s _ _ _ NoInstance c.in_err-instance.ensures.none.1)

pub returns-in_err-index-clause-comes : goal.returns-in_err-index-clause-comes
returns-in_err-index-clause-comes c = λ s.
    (comes_still s _ _ c.add_error_context_table_type.new.self _ _ _ c.in_err-index.ensures.refused
    (comes_out _ _ _ _ _ c.from_residual-in_err-index.result _ (err_from_is_err_and c.from_residual-in_err-index.result c.from_residual-in_err-index.ensures.1)
    (error_context_full s c.args.builder.now c.in_ok-instance.instance _ c.add_error_context_table_type.result _ c.in_ok-instance.ensures.set c.in_err-index.was c.add_error_context_table_type.ensures.too_large)))

pub returns-clause-comes : goal.returns-clause-comes
returns-clause-comes c = λ s.
    (error_context_made s c.args.builder.now c.add_error_context_table_type.new.self c.in_ok-instance.instance c.in_ok-index.index c.in_ok-instance.ensures.set c.in_ok-index.ensures.interned c.in_ok-index.ensures.entry c.in_ok-index.ensures.rest c.in_ok-index.ensures.keeps c.in_ok-index.ensures.too_large)

pub returns-in_err-index-clause-kept : goal.returns-in_err-index-clause-kept
returns-in_err-index-clause-kept c = ap (λ (b : Builder). b.resources) c.in_err-index.ensures.refused

pub returns-clause-kept : goal.returns-clause-kept
returns-clause-kept c = ap (λ (b : Builder). b.resources) c.in_ok-index.ensures.rest
