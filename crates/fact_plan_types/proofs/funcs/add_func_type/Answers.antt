use Rattle.std.proofs.Common.{◌∙◌, ap, inl, inr, length, map, refl, List, Ok, subst, sym, All}
use Rattle.std.proofs.lemmas.Result.{err_from_is_err_and}
use Rattle.fact_types.specs.declared.interface.InterfaceType.TheVariants.{Tuple as t_tuple}
use Rattle.fact_plan.specs.declared.plan.PlanRef.{PlanRef}
use Rattle.fact_plan_types.specs.Adding.{MakesTuple}
use Rattle.fact_plan_types.specs.TypeRules.{IsFrom, param_types}
use Rattle.fact_plan_types.proofs.FuncLaws.{func_adds, params_refused, results_refused}
use Rattle.fact_plan_types.proofs.MemberLaws.{live_keep}
use Rattle.fact_plan_types.proofs.ReadyLaws.{none_of}
use Rattle.fact_plan_types.proofs.funcs.add_func_type.Goals as goal

pub add_tuple-requires-clause-known : goal.add_tuple-requires-clause-known
add_tuple-requires-clause-known c =
    let same = c.as_slice-3.ensures.value ∙ c.in_ok-param_types.ensures ∙ ap (map (λ x. x.1)) c.as_slice.ensures in
    subst (All (λ r. IsFrom (length c.args.types.now) r → ⊥)) (sym same) (none_of _ (param_types c.args.func.now) (λ a. c.requires.known (inl a)))

pub add_tuple-requires-2 : goal.add_tuple-requires-2
add_tuple-requires-2 c = record {
  live = live_keep _ _ c.in_ok-params.ensures.keeps c.args.types.now c.requires.live;
  known = subst (All (λ r. IsFrom (length c.args.types.now) r → ⊥)) (sym c.as_slice-4.ensures) (none_of _ c.args.func.now.results (λ a. c.requires.known (inr a)));
}

pub add_func_type-requires : goal.add_func_type-requires
add_func_type-requires c = record { params = c.in_ok-results.ensures.keeps.live (t_tuple c.in_ok-params.params) c.in_ok-params.ensures.live; results = c.in_ok-results.ensures.live }

pub returns-in_err-params : goal.returns-in_err-params
returns-in_err-params c =
    let p = err_from_is_err_and c.from_residual-in_err-params.result c.from_residual-in_err-params.ensures.1 in
    let same = c.as_slice-3.ensures.value ∙ c.in_ok-param_types.ensures ∙ ap (map (λ x. x.1)) c.as_slice.ensures in
    params_refused c.args.builder.now c.add_tuple.new.builder _ _ c.args.func.now _ _ _ _ _ same c.in_err-params.was c.add_tuple.ensures p.1 p.2

pub returns-in_err-results : goal.returns-in_err-results
returns-in_err-results c =
    let p = err_from_is_err_and c.from_residual-in_err-results.result c.from_residual-in_err-results.ensures.1 in
    let b = c.add_tuple.new.builder in
    let made = subst (λ (rs : List PlanRef). MakesTuple b c.add_tuple-2.new.builder c.args.types.now rs c.add_tuple-2.result) c.as_slice-4.ensures c.add_tuple-2.ensures in
    results_refused c.args.builder.now b c.add_tuple-2.new.builder c.args.types.now c.args.func.now _ c.in_ok-params.params _ _ _ _ c.in_ok-params.ensures c.in_err-results.was made p.1 p.2

pub returns : goal.returns
returns c =
    let b = c.add_tuple.new.builder in
    let same = c.as_slice-3.ensures.value ∙ c.in_ok-param_types.ensures ∙ ap (map (λ x. x.1)) c.as_slice.ensures in
    let made = subst (λ (rs : List PlanRef). MakesTuple b c.add_tuple-2.new.builder c.args.types.now rs (Ok c.in_ok-results.results)) c.as_slice-4.ensures c.in_ok-results.ensures in
    let a = c.add_func_type.ensures in
    func_adds c.args.builder.now b c.add_tuple-2.new.builder c.add_func_type.new.self c.args.types.now c.args.func.now _
    (record { async_ = c.args.func.now.async_; param_names = c.in_ok-param_names.param_names; params = c.in_ok-params.params; results = c.in_ok-results.results })
    c.add_func_type.result same refl (c.in_ok-param_names.ensures ∙ ap (map (λ x. x.0)) c.as_slice-2.ensures) c.in_ok-params.ensures made a.interned a.entry a.rest a.keeps (λ q. (a.too_large.0 q).1)
