-- The number of the tuple of an adapter's results, in the types of its plan, is the one that the plan gives it.
use Rattle.std.proofs.Common.{◌≡◌, ◌∙◌, ℕ, Option, None, Some, ap, sym, slice_get}
use Rattle.fact_types.specs.declared.kinds.TypeFunc.{TypeFunc}
use Rattle.fact_plan.specs.declared.plan.FusePlan.{FusePlan}
use Rattle.fact_plan.specs.declared.plan.PlanAdapter.{PlanAdapter}
use Rattle.fact_plan.specs.declared.plan.PlanFunc.{PlanFunc}
use Rattle.fact_plan_types.specs.declared.plan_types.PlanTypes.{PlanTypes}
use Rattle.fact_plan_types.specs.PlanTypes.{AreTypesOf, tuple_number}
use Rattle.fact_adapter_rules.specs.declared.adapter.Adapter.{Adapter}
use Rattle.fact_adapter_rules.specs.PlanLinks.{LinksAdapter}
use Rattle.fact_adapter_rules.proofs.LinkLaws.{beside}
use Rattle.fact_compound.specs.Entries.{tuple_of_results}
use Rattle.fact_module.specs.Fused.{result_tuple}

abbrev in_tables : Option TypeFunc → ℕ
in_tables o = elim o as (λ (x : Option TypeFunc). ℕ) [ None ↦ 0 | Some f ↦ f.results.number ]

abbrev in_plan : FusePlan → Option PlanFunc → ℕ
in_plan p o = elim o as (λ (x : Option PlanFunc). ℕ) [ None ↦ 0 | Some f ↦ tuple_number p f.results ]

abbrev of_adapter : FusePlan → Option PlanAdapter → ℕ
of_adapter p o = elim o as (λ (x : Option PlanAdapter). ℕ) [ None ↦ 0 | Some a ↦ in_plan p (slice_get p.funcs a.lift.ty) ]

tuple-here : (p : FusePlan) (t : PlanTypes) (k : ℕ) (x : PlanAdapter) (a : Adapter) → AreTypesOf p t → slice_get p.adapters k ≡ Some x → LinksAdapter p t.builder x a
    → slice_get t.funcs x.lift.ty ≡ Some a.lift_ty → tuple_of_results t.builder.tables a.lift_ty ≡ result_tuple p k
tuple-here p t k x a types there links ty =
    let func = beside _ _ _ types.numbers x.lift.ty a.lift_ty ty in
    let signature = links.stands.lift.signature in
    ap in_tables signature.func_there ∙ (func.2 signature.func signature.func_there).1 ∙ sym (ap (of_adapter p) there ∙ ap (in_plan p) func.1)

-- so it has for an adapter that was made the same
pub tuple-made : (p : FusePlan) (t : PlanTypes) (k : ℕ) (x : PlanAdapter) (a made : Adapter) → made ≡ a → AreTypesOf p t → slice_get p.adapters k ≡ Some x → LinksAdapter p t.builder x a
    → slice_get t.funcs x.lift.ty ≡ Some a.lift_ty → tuple_of_results t.builder.tables made.lift_ty ≡ result_tuple p k
tuple-made p t k x a made same types there links ty = ap (λ (y : Adapter). tuple_of_results t.builder.tables y.lift_ty) same ∙ tuple-here p t k x a types there links ty
