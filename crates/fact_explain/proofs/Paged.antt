-- The lines of a page, where there was memory for them.
use Rattle.std.proofs.Common.{◌≡◌, ℕ, false, true, List, ◌∷◌, ◌++◌, Some, Result, Ok, Err, IfOk, subst, codes, string_bytes, String, Global, zip}
use Rattle.std.specs.Prelude.{slice_get}
use Rattle.std.specs.Fmt.{decimal}
use Rattle.fact_entity.specs.declared.id.Id.{Id}
use Rattle.fact_entity.specs.declared.table.TypeFuncs.{TypeFuncs}
use Rattle.fact_types.specs.Functions.{HasSignature}
use Rattle.fact_types.specs.Shapes.{Shape}
use Rattle.fact_types.proofs.ShapeLaws.{same_some}
use Rattle.fact_plan.specs.declared.plan.FusePlan.{FusePlan}
use Rattle.fact_plan.specs.declared.plan.PlanAdapter.{PlanAdapter}
use Rattle.fact_plan.specs.declared.plan.PlanFunc.{PlanFunc}
use Rattle.fact_plan.specs.declared.plan.PlanSide.{PlanSide}
use Rattle.fact_plan.specs.declared.plan.PlanType.{PlanType}
use Rattle.fact_plan_types.specs.PlanShapes.{plan_shapes}
use Rattle.fact_plan_types.specs.PlanTypes.{AreTypesOf}
use Rattle.fact_plan_types.specs.TypeRules.{param_shapes, result_shapes}
use Rattle.fact_plan_types.specs.declared.plan_types.PlanTypes.{PlanTypes}
use Rattle.fact_adapter_rules.proofs.LinkLaws.{beside}
use Rattle.fact_module.specs.declared.fusion.Fused.{Fused}
use Rattle.fact_module.specs.Fused.{IsFused}
use Rattle.fact_explain.specs.Layouts.{entry_line}
use Rattle.fact_explain.specs.Imports.{IsImportRow}
use Rattle.fact_explain.specs.Pages.{IsImportPart, IsPage, IsPlanPart, IsAdapterPart, IsSidePart, IsTypePart}
use Rattle.fact_explain.specs.Concatenations.{IsConcatenation}
use Rattle.fact_explain.specs.Shown.{shown}
use Rattle.fact_explain.specs.Sides.{lift_text, lower_text}

-- a side, whose function has this notation
pub side-told : {E : Type 0} (r : Result (String Global) E) (text_of : List Shape → List Shape → List ℕ → List ℕ) (p : FusePlan) (t : PlanTypes) (s : PlanSide) (ty : Id TypeFuncs) (function : List ℕ)
    → AreTypesOf p t → slice_get t.funcs s.ty ≡ Some ty → IfOk r (λ w. (ps rs : List Shape) → HasSignature t.builder.tables ty ps rs → string_bytes w ≡ text_of ps rs function) → IfOk r (λ w. IsSidePart text_of p s (string_bytes w))
side-told (Err x) text_of p t s ty function h at l = tt
side-told (Ok w) text_of p t s ty function h at l = λ f there.
    let b = beside _ _ _ h.funcs s.ty ty at in
    let same : b.0 ≡ f = same_some (slice_get p.funcs s.ty) b.0 f b.1 there in
    let signed : HasSignature t.builder.tables ty (param_shapes p f) (result_shapes p f) =
    subst (λ (g : PlanFunc). HasSignature t.builder.tables ty (param_shapes p g) (result_shapes p g)) same b.2.signature in
    (function, l (param_shapes p f) (result_shapes p f) signed)

pub adapter-told : {E : Type 0} (r : Result (String Global) E) (p : FusePlan) (k : ℕ) (a : PlanAdapter) (name lift lower : List ℕ) → name ≡ shown a.name → IsSidePart (lift_text k a.lift) p a.lift lift
    → IsSidePart (lower_text k a.lower) p a.lower lower → IfOk r (λ w. string_bytes w ≡ codes "adapter " ++ (decimal k ++ (codes ", \"" ++ (name ++ (codes "\"\n" ++ (lift ++ lower)))))) → IfOk r (λ w. IsAdapterPart p k a (string_bytes w))
adapter-told (Err x) p k a name lift lower is l m e = tt
adapter-told (Ok w) p k a name lift lower is l m e = record { lift = lift; is_lift = l; lower = lower; is_lower = m; is_text = rw is at e }

pub type-told : {E : Type 0} (r : Result (String Global) E) (p : FusePlan) (k : ℕ) (t : PlanType) (notation written narrow wide : List ℕ) → written ≡ shown notation → narrow ≡ entry_line false (plan_shapes p) k t
    → wide ≡ entry_line true (plan_shapes p) k t → IfOk r (λ w. string_bytes w ≡ codes "  plan.types." ++ (decimal k ++ (codes ": " ++ (written ++ 10 ∷ (narrow ++ wide))))) → IfOk r (λ w. IsTypePart p k t (string_bytes w))
type-told (Err x) p k t notation written narrow wide is n m e = tt
type-told (Ok w) p k t notation written narrow wide is n m e = record { notation = notation; is_text = rw (is, n, m) at e }

pub plan-told : {E : Type 0} (r : Result (String Global) E) (p : FusePlan) (adapters types : List ℕ) → IsConcatenation (IsAdapterPart p) 0 p.adapters adapters → IsConcatenation (IsTypePart p) 0 p.types types
    → IfOk r (λ w. string_bytes w ≡ adapters ++ (codes "types\n" ++ types)) → IfOk r (λ w. IsPlanPart p (string_bytes w))
plan-told (Err x) p adapters types those these e = tt
plan-told (Ok w) p adapters types those these e = record { adapters = adapters; are_adapters = those; types = types; are_types = these; is_text = e }

pub imports-told : {E : Type 0} (r : Result (String Global) E) (f : Fused) (rows : List ℕ) → IsConcatenation (IsImportRow f.module.types) 0 (zip f.module.imports f.imports) rows → IfOk r (λ w. string_bytes w ≡ codes "imports\n" ++ rows) → IfOk r (λ w. IsImportPart f (string_bytes w))
imports-told (Err x) f rows h e = tt
imports-told (Ok w) f rows h e = record { rows = rows; are_rows = h; is_text = e }

pub page-told : {E : Type 0} (r : Result (String Global) E) (p : FusePlan) (told imports : List ℕ) → IsPlanPart p told → (f : Fused) × IsFused f p × IsImportPart f imports → IfOk r (λ w. string_bytes w ≡ told ++ imports)
    → IfOk r (λ w. IsPage p (string_bytes w))
page-told (Err x) p told imports t h e = tt
page-told (Ok w) p told imports t h e = record { plan_part = told; is_plan_part = t; fused = h.0; is_fused = h.1; import_part = imports; is_import_part = h.2; is_text = e }
