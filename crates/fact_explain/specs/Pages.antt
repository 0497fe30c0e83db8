-- A page that tells a plan without faults. It is fixed but for how functions and types are written, and for the words that say what an import is for; and
-- of these it is fixed that they stand in their line (`shown`).
use Rattle.std.specs.Prelude.{ℕ, ◌≡◌, true, false, List, ◌∷◌, ◌++◌, Some, codes, slice_get, zip}
use Rattle.std.specs.Fmt.{decimal}
use Rattle.fact_types.specs.Shapes.{Shape}
use Rattle.fact_plan.specs.declared.plan.FusePlan.{FusePlan}
use Rattle.fact_plan.specs.declared.plan.PlanAdapter.{PlanAdapter}
use Rattle.fact_plan.specs.declared.plan.PlanFunc.{PlanFunc}
use Rattle.fact_plan.specs.declared.plan.PlanSide.{PlanSide}
use Rattle.fact_plan.specs.declared.plan.PlanType.{PlanType}
use Rattle.fact_plan_types.specs.PlanShapes.{plan_shapes}
use Rattle.fact_plan_types.specs.TypeRules.{param_shapes, result_shapes}
use Rattle.fact_module.specs.declared.fusion.Fused.{Fused}
use Rattle.fact_module.specs.Fused.{IsFused}
use Rattle.fact_explain.specs.Imports.{IsImportRow}
use Rattle.fact_explain.specs.Layouts.{entry_line}
use Rattle.fact_explain.specs.Concatenations.{IsConcatenation}
use Rattle.fact_explain.specs.Shown.{shown}
use Rattle.fact_explain.specs.Sides.{lift_text, lower_text}

-- The text is the lines of a side, with some notation of its function; a plan without faults has each function that a side names.
abbrev pub IsSidePart : (text_of : List Shape → List Shape → List ℕ → List ℕ) → FusePlan → PlanSide → (text : List ℕ) → Type 0
IsSidePart text_of p s text = (f : PlanFunc) → slice_get p.funcs s.ty ≡ Some f → (function : List ℕ) × (text ≡ text_of (param_shapes p f) (result_shapes p f) function)

-- The text is the lines of the adapter at a place: its name, and both sides.
pub record IsAdapterPart (p : FusePlan) (k : ℕ) (a : PlanAdapter) (text : List ℕ) : Type 0 where
  pub lift : List ℕ
  pub is_lift : IsSidePart (lift_text k a.lift) p a.lift lift
  pub lower : List ℕ
  pub is_lower : IsSidePart (lower_text k a.lower) p a.lower lower
  pub is_text : text ≡ codes "adapter " ++ (decimal k ++ (codes ", \"" ++ (shown a.name ++ (codes "\"\n" ++ (lift ++ lower)))))

-- The text is the lines of the type at a place: what it is, in some notation, and its layouts in memories of both widths.
pub record IsTypePart (p : FusePlan) (k : ℕ) (e : PlanType) (text : List ℕ) : Type 0 where
  pub notation : List ℕ
  pub is_text : text ≡ codes "  plan.types." ++ (decimal k ++ (codes ": " ++ (shown notation ++ 10 ∷ (entry_line false (plan_shapes p) k e ++ entry_line true (plan_shapes p) k e))))

-- The text is what is told of a plan without its module: the lines of its adapters, and of its types.
pub record IsPlanPart (p : FusePlan) (text : List ℕ) : Type 0 where
  pub adapters : List ℕ
  pub are_adapters : IsConcatenation (IsAdapterPart p) 0 p.adapters adapters
  pub types : List ℕ
  pub are_types : IsConcatenation (IsTypePart p) 0 p.types types
  pub is_text : text ≡ adapters ++ (codes "types\n" ++ types)

-- The text is the rows of what a module imports.
pub record IsImportPart (f : Fused) (text : List ℕ) : Type 0 where
  pub rows : List ℕ
  pub are_rows : IsConcatenation (IsImportRow f.module.types) 0 (zip f.module.imports f.imports) rows
  pub is_text : text ≡ codes "imports\n" ++ rows

pub record IsPage (p : FusePlan) (text : List ℕ) : Type 0 where
  pub plan_part : List ℕ
  pub is_plan_part : IsPlanPart p plan_part
  pub fused : Fused
  pub is_fused : IsFused fused p
  pub import_part : List ℕ
  pub is_import_part : IsImportPart fused import_part
  pub is_text : text ≡ plan_part ++ import_part
