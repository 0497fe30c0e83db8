use Rattle.std.proofs.Common.{◌≡◌, sym, ◌∙◌, subst, ap, All, List, map}
use Rattle.std.specs.Prelude.{length}
use Rattle.std.specs.List.{AllZip}
use Rattle.std.proofs.lemmas.Result.{err_from_is_err_and}
use Rattle.fact_source.specs.declared.defined.ComponentValType.{ComponentValType}
use Rattle.fact_source.specs.Live.{IsValueBelow}
use Rattle.fact_source.specs.SourceTables.{SourceTables}
use Rattle.fact_types.specs.declared.interface.InterfaceType.{InterfaceType}
use Rattle.fact_convert.specs.Conversion.{BuilderGrows}
use Rattle.fact_builder.specs.Builder.{Builder}
use Rattle.fact_convert.specs.Converted.{IsTypeFrom}
use Rattle.fact_convert.proofs.Coming.{comes_out, comes_to_nothing, comes_then, comes_not, comes_as, comes_for, comes_ready}
use Rattle.fact_convert.proofs.FuncLaws.{func_tasks_at, func_def, params_live, result_live}
use Rattle.fact_convert.proofs.Growing.{types_stay}
use Rattle.fact_convert.proofs.Listing.{types_live}
use Rattle.fact_convert.proofs.Opening.{first_failed}
use Rattle.fact_convert.proofs.funcs.func_type.Goals as goal

-- what the types of the parameters became is so behind the slice that is handed on
all_from : (s : SourceTables) (a b : Builder) → BuilderGrows a b → (vs ws : List ComponentValType) (ts us : List InterfaceType) → vs ≡ ws → us ≡ ts → AllZip (IsTypeFrom s a) vs ts → AllZip (IsTypeFrom s b) ws us
all_from s a b g vs ws ts us e q h = subst (λ xs. AllZip (IsTypeFrom s b) xs us) e (subst (AllZip (IsTypeFrom s b) vs) (sym q) (types_stay s a b g vs ts h))

same_from : (s : SourceTables) (b : Builder) (vs : List ComponentValType) (ts us : List InterfaceType) → us ≡ ts → AllZip (IsTypeFrom s b) vs ts → AllZip (IsTypeFrom s b) vs us
same_from s b vs ts us q h = subst (AllZip (IsTypeFrom s b) vs) (sym q) h

pub types_of_values-requires-clause-live : goal.types_of_values-requires-clause-live
types_of_values-requires-clause-live c = subst (All (IsValueBelow (length c.args.types.now.defined))) (sym (c.as_slice-2.ensures ∙ c.in_ok-named.ensures ∙ ap (map (λ p. p.1)) c.as_slice.ensures)) (params_live c.args.types.now c.reveal.ensures _ _ (sym c.in-Some.ensures.value))

pub types_of_payload-requires-clause-ready : goal.types_of_payload-requires-clause-ready
types_of_payload-requires-clause-ready c = comes_ready _ _ _ _ _ _ c.in_ok-params.ensures c.requires.ready

pub types_of_payload-requires-clause-live : goal.types_of_payload-requires-clause-live
types_of_payload-requires-clause-live c = result_live c.args.types.now c.reveal.ensures _ _ (sym c.in-Some.ensures.value)

pub returns-in_err-named : goal.returns-in_err-named
returns-in_err-named c = comes_out _ _ _ _ _ c.from_residual.result _ (err_from_is_err_and c.from_residual.result c.from_residual.ensures.1) (comes_to_nothing _ _ _ _)

pub returns-in_err-params : goal.returns-in_err-params
returns-in_err-params c = comes_out _ _ _ _ _ c.from_residual-in_err-params.result _ (err_from_is_err_and c.from_residual-in_err-params.result c.from_residual-in_err-params.ensures.1) (comes_as _ _ _ _ _ _ _ (func_tasks_at c.args.types.now c.args.id c.in-Some.func.now (sym c.in-Some.ensures.value) _ (c.as_slice-2.ensures ∙ c.in_ok-named.ensures ∙ ap (map (λ p. p.1)) c.as_slice.ensures)) (first_failed _ _ _ _ _ _ _ _ _ c.in_err-params.ensures))

pub returns-in_err-results : goal.returns-in_err-results
returns-in_err-results c = comes_out _ _ _ _ _ c.from_residual-in_err-results.result _ (err_from_is_err_and c.from_residual-in_err-results.result c.from_residual-in_err-results.ensures.1) (comes_as _ _ _ _ _ _ _ (func_tasks_at c.args.types.now c.args.id c.in-Some.func.now (sym c.in-Some.ensures.value) _ (c.as_slice-2.ensures ∙ c.in_ok-named.ensures ∙ ap (map (λ p. p.1)) c.as_slice.ensures)) (comes_not _ _ _ _ _ _ _ _ (comes_then _ _ _ _ _ _ _ _ _ _ c.in_ok-params.ensures c.in_err-results.ensures)))

pub returns : goal.returns
returns c =
    let there = sym c.in-Some.ensures.value in
    let named = c.as_slice-2.ensures ∙ c.in_ok-named.ensures ∙ ap (map (λ p. p.1)) c.as_slice.ensures in
    let p = c.in_ok-params.ensures in
    let r = c.in_ok-results.ensures in
    let params = all_from c.args.types.now _ _ r.grows _ _ _ _ named c.as_slice-3.ensures p.converts.1 in
    let results = same_from c.args.types.now _ _ _ _ c.as_slice-4.ensures r.converts.1 in
    comes_as _ _ _ _ _ _ _ (func_tasks_at c.args.types.now c.args.id c.in-Some.func.now there _ named)
    (comes_then _ _ _ _ _ _ _ _ _ _ (comes_then _ _ _ _ _ _ _ _ _ _ p r) (comes_for _ _ _ _ _ _ _ (λ i h. func_def _ _ c.args.id c.in-Some.func.now i there h) (c.func_of.ensures c.args.types.now params results)))

pub func_of-requires-clause-params : goal.func_of-requires-clause-params
func_of-requires-clause-params c =
    let p = c.in_ok-params.ensures in
    let r = c.in_ok-results.ensures in
    types_live c.args.types.now _ (r.kept_live (p.kept_live c.requires.ready.kept)) _ _ (all_from c.args.types.now _ _ r.grows _ _ _ _ (c.as_slice-2.ensures ∙ c.in_ok-named.ensures ∙ ap (map (λ p. p.1)) c.as_slice.ensures) c.as_slice-3.ensures p.converts.1)

pub func_of-requires-clause-results : goal.func_of-requires-clause-results
func_of-requires-clause-results c =
    let p = c.in_ok-params.ensures in
    let r = c.in_ok-results.ensures in
    types_live c.args.types.now _ (r.kept_live (p.kept_live c.requires.ready.kept)) _ _ (same_from c.args.types.now _ _ _ _ c.as_slice-4.ensures r.converts.1)
