-- The functions of a plan are live in the builder of its types, and its types stand for shapes.
use Rattle.std.proofs.Common.{◌≡◌, ◌<◌, ℕ, zero, suc, List, [], ◌∷◌, length, None, Some, refl, sym, subst, arith}
use Rattle.std.specs.Prelude.{slice_get}
use Rattle.std.proofs.lemmas.Option.{slice_get_within}
use Rattle.std.proofs.lemmas.Slice.Zip.{AllZip-long}
use Rattle.fact_entity.specs.declared.id.Id.{Id}
use Rattle.fact_entity.specs.declared.table.TypeFuncs.{TypeFuncs}
use Rattle.fact_types.specs.Functions.{HaveShapes}
use Rattle.fact_types.specs.declared.interface.InterfaceType.{InterfaceType}
use Rattle.fact_types.specs.Shapes.{Shape, layout_of}
use Rattle.fact_types.specs.Layout.{scalar_layout}
use Rattle.fact_types.specs.Tables.{Tables, HasShape}
use Rattle.fact_types.proofs.ShapeLaws.{none_some, same_some}
use Rattle.fact_explain.specs.Layouts.{shape_at}
use Rattle.fact_plan.specs.declared.plan.FusePlan.{FusePlan}
use Rattle.fact_plan.specs.declared.plan.PlanFunc.{PlanFunc}
use Rattle.fact_plan_types.specs.PlanTypes.{AreTypesOf}
use Rattle.fact_plan_types.specs.declared.plan_types.PlanTypes.{PlanTypes}
use Rattle.fact_adapter_rules.proofs.LinkLaws.{beside}

pub func-live : (p : FusePlan) (t : PlanTypes) (k : ℕ) (ty : Id TypeFuncs) → AreTypesOf p t → slice_get t.funcs k ≡ Some ty → ty.number < length t.builder.tables.functions
func-live p t k ty h at = let f = beside _ _ _ h.funcs k ty at in slice_get_within _ _ _ f.2.signature.func_there

-- the shape of the type at a place, and of none
pub at-some : (t : Tables) (types : List InterfaceType) (ss : List Shape) (k : ℕ) (ty : InterfaceType) → HaveShapes t types ss → slice_get types k ≡ Some ty → HasShape t ty (shape_at ss k)
at-some t [] ss k ty h e = absurd (none_some None ty refl e)
at-some t (x ∷ xs) [] k ty h e = absurd h
at-some t (x ∷ xs) (s ∷ ss) zero ty h e = subst (λ (y : InterfaceType). HasShape t y s) (same_some (Some x) x ty refl e) h.0
at-some t (x ∷ xs) (s ∷ ss) (suc k) ty h e = at-some t xs ss k ty h.1 e

pub at-none : (t : Tables) (types : List InterfaceType) (ss : List Shape) (k : ℕ) → HaveShapes t types ss → slice_get types k ≡ None → scalar_layout 1 ≡ layout_of (shape_at ss k)
at-none t [] [] k h e = refl
at-none t [] (s ∷ ss) k h e = absurd h
at-none t (x ∷ xs) [] k h e = absurd h
at-none t (x ∷ xs) (s ∷ ss) zero h e = absurd (none_some (Some x) x e refl)
at-none t (x ∷ xs) (s ∷ ss) (suc k) h e = at-none t xs ss k h.1 e

-- what one list has the other one of its length has
pub lacking : (X Y : Type 0) (xs : List X) (ys : List Y) (k : ℕ) (y : Y) → length xs ≡ length ys → slice_get xs k ≡ None → slice_get ys k ≡ Some y → ⊥
lacking X Y [] [] k y same none there = cc
lacking X Y [] (b ∷ ys) k y same none there = omega arith
lacking X Y (a ∷ xs) [] k y same none there = cc
lacking X Y (a ∷ xs) (b ∷ ys) zero y same none there = cc
lacking X Y (a ∷ xs) (b ∷ ys) (suc k) y same none there = lacking X Y xs ys k y (omega arith) none there

-- a function of the plan has one in the builder
pub func-there : (p : FusePlan) (t : PlanTypes) (k : ℕ) (f : PlanFunc) → AreTypesOf p t → slice_get t.funcs k ≡ None → slice_get p.funcs k ≡ Some f → ⊥
func-there p t k f h none there = lacking _ _ t.funcs p.funcs k f (sym (AllZip-long _ _ _ h.funcs)) none there
