-- The lines of both sides of an adapter, as they are printed.
use Rattle.std.specs.Prelude.{ℕ, List, [], ◌∷◌, ◌++◌, codes, is_some}
use Rattle.std.specs.Fmt.{decimal}
use Rattle.fact_types.specs.declared.signature.Signature.{Signature}
use Rattle.fact_types.specs.Shapes.{Shape}
use Rattle.fact_types.specs.Signatures.{lift_by, lower_by}
use Rattle.fact_plan.specs.declared.plan.PlanSide.{PlanSide}
use Rattle.fact_explain.specs.CoreTypes.{signature_text}
use Rattle.fact_explain.specs.Shown.{shown}
use Rattle.fact_explain.specs.Needs.{is_wide_memory, lift_needs, lower_needs}

-- what the canonical ABI gives a side over the shapes of its function's parameters and results, where it lifts the function and where it lowers it
abbrev pub core_type_to_lift : PlanSide → (params results : List Shape) → Signature
core_type_to_lift s ps rs = lift_by s.async_ (is_some s.callback) (is_wide_memory s.memory) ps rs

abbrev pub core_type_to_lower : PlanSide → (params results : List Shape) → Signature
core_type_to_lower s ps rs = lower_by s.async_ (is_wide_memory s.memory) ps rs

-- the first line of a side, by its key in the plan, the place of its adapter, and its function in some notation
abbrev pub side_head : (key : List ℕ) → (k : ℕ) → PlanSide → (function : List ℕ) → List ℕ
side_head key k s function = codes "  plan.adapters." ++ (decimal k ++ (codes "." ++ (key ++ (codes ", of instance " ++ (decimal s.instance ++ (codes ": " ++ (shown function ++ 10 ∷ [])))))))

-- the lines of a side, by its core type and the lines of what it needs
abbrev pub side_text : (key : List ℕ) → (k : ℕ) → PlanSide → (function : List ℕ) → Signature → (needs : List ℕ) → List ℕ
side_text key k s function given needs = side_head key k s function ++ (codes "    core_type " ++ (signature_text given ++ 10 ∷ needs))

abbrev pub lift_text : (k : ℕ) → PlanSide → (params results : List Shape) → (function : List ℕ) → List ℕ
lift_text k s ps rs function = side_text (codes "lift") k s function (core_type_to_lift s ps rs) (lift_needs s ps rs)

abbrev pub lower_text : (k : ℕ) → PlanSide → (params results : List Shape) → (function : List ℕ) → List ℕ
lower_text k s ps rs function = side_text (codes "lower") k s function (core_type_to_lower s ps rs) (lower_needs s ps rs)
