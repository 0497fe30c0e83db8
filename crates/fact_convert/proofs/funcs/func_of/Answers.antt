use Rattle.std.proofs.Common.{map, refl, ap, ◌∙◌}
use Rattle.std.proofs.lemmas.Result.{err_from_is_err_and}
use Rattle.fact_types.specs.declared.interface.InterfaceType.TheVariants as plain
use Rattle.fact_convert.proofs.Coming.{comes_out, comes_then, comes_not, comes_short}
use Rattle.fact_convert.proofs.FuncLaws.{func_made, func_full, func_from}
use Rattle.fact_convert.proofs.Growing.{types_stay}
use Rattle.fact_convert.proofs.Opening.{comes_still}
use Rattle.fact_convert.proofs.funcs.func_of.Goals as goal

pub tuple_of-requires-2 : goal.tuple_of-requires-2
tuple_of-requires-2 c = λ i d l. c.in_ok-params.ensures.keeps.live _ (c.requires.results i d l)

pub returns-in_err-params : goal.returns-in_err-params
returns-in_err-params c = λ s a b. comes_out _ _ _ _ _ c.from_residual.result _ (err_from_is_err_and c.from_residual.result c.from_residual.ensures.1) (comes_not _ _ _ _ _ _ _ _ (c.in_err-params.ensures.comes s _ a))

pub returns-in_err-results : goal.returns-in_err-results
returns-in_err-results c = λ s a b. let p = c.in_ok-params.ensures.comes s _ a in comes_out _ _ _ _ _ c.from_residual-in_err-results.result _ (err_from_is_err_and c.from_residual-in_err-results.result c.from_residual-in_err-results.ensures.1) (comes_then _ _ _ _ _ _ _ _ _ _ p (comes_not _ _ _ _ _ _ _ _ (c.in_err-results.ensures.comes s _ (types_stay s _ _ p.grows _ _ b))))

pub returns-in_err-param_names : goal.returns-in_err-param_names
returns-in_err-param_names c = λ s a b. let p = c.in_ok-params.ensures.comes s _ a in let r = c.in_ok-results.ensures.comes s _ (types_stay s _ _ p.grows _ _ b) in comes_out _ _ _ _ _ c.from_residual-in_err-param_names.result _ (err_from_is_err_and c.from_residual-in_err-param_names.result c.from_residual-in_err-param_names.ensures.1) (comes_short _ _ _ _ _ _ _ _ (comes_then _ _ _ _ _ _ _ _ _ _ p r))

pub returns : goal.returns
returns c = λ s a b. let p = c.in_ok-params.ensures.comes s _ a in let r = c.in_ok-results.ensures.comes s _ (types_stay s _ _ p.grows _ _ b) in
    comes_then _ _ _ _ _ _ _ _ _ _ (comes_then _ _ _ _ _ _ _ _ _ _ p r)
    ((func_made s _ c.add_func_type.new.self c.args.func.now (record { async_ = c.args.func.now.async_; param_names = c.in_ok-param_names.param_names; params = c.in_ok-params.params; results = c.in_ok-results.results }) c.in_ok-index.index (func_from s _ _ r.grows c.args.func.now (record { async_ = c.args.func.now.async_; param_names = c.in_ok-param_names.param_names; params = c.in_ok-params.params; results = c.in_ok-results.results }) refl (c.in_ok-param_names.ensures ∙ ap (map (λ p. p.0)) c.as_slice.ensures) p.converts.1 r.converts.1) c.in_ok-index.ensures.interned c.in_ok-index.ensures.entry c.in_ok-index.ensures.rest c.in_ok-index.ensures.keeps c.in_ok-index.ensures.too_large))

pub add_func_type-requires : goal.add_func_type-requires
add_func_type-requires c = record { params = c.in_ok-results.ensures.keeps.live (plain.Tuple c.in_ok-params.params) c.in_ok-params.ensures.live; results = c.in_ok-results.ensures.live }

pub returns-in_err-index : goal.returns-in_err-index
returns-in_err-index c = λ s a b. let p = c.in_ok-params.ensures.comes s _ a in let r = c.in_ok-results.ensures.comes s _ (types_stay s _ _ p.grows _ _ b) in
    comes_out _ _ _ _ _ c.from_residual-in_err-index.result _ (err_from_is_err_and c.from_residual-in_err-index.result c.from_residual-in_err-index.ensures.1)
    (comes_then _ _ _ _ _ _ _ _ _ _ (comes_then _ _ _ _ _ _ _ _ _ _ p r)
    ((comes_still _ _ _ _ _ _ _ c.in_err-index.ensures.refused (func_full s _ c.args.func.now (record { async_ = c.args.func.now.async_; param_names = c.in_ok-param_names.param_names; params = c.in_ok-params.params; results = c.in_ok-results.results }) _ c.add_func_type.result _ (func_from s _ _ r.grows c.args.func.now (record { async_ = c.args.func.now.async_; param_names = c.in_ok-param_names.param_names; params = c.in_ok-params.params; results = c.in_ok-results.results }) refl (c.in_ok-param_names.ensures ∙ ap (map (λ p. p.0)) c.as_slice.ensures) p.converts.1 r.converts.1) c.in_err-index.was c.add_func_type.ensures.too_large))))
