-- Cited by private clauses alone.
-- What a side has, by which one of its adapter it is.
use Rattle.std.specs.Prelude.{ℕ, ◌≡◌, Bool, ◌||◌, List, codes}
use Rattle.fact_types.specs.declared.signature.Signature.{Signature}
use Rattle.fact_types.specs.PointerPairs.{any_pointer_pair}
use Rattle.fact_types.specs.Shapes.{Shape}
use Rattle.fact_plan.specs.declared.plan.PlanSide.{PlanSide}
use Rattle.fact_explain.specs.declared.sides.Needs.{Needs}
use Rattle.fact_explain.specs.declared.sides.Passed.{Passed}
use Rattle.fact_explain.specs.declared.sides.Role.{Role}
use Rattle.fact_explain.specs.declared.sides.Role.TheVariants as role
use Rattle.fact_explain.specs.Needs.{lift_needs, lift_params_by_pointer, lift_results_by_pointer, lower_needs, lower_params_by_pointer, lower_results_by_pointer}
use Rattle.fact_explain.specs.Sides.{lift_text, core_type_to_lift, lower_text, core_type_to_lower}

abbrev pub key_text : Role → List ℕ
key_text role.Lift = codes "lift"
key_text role.Lower = codes "lower"

abbrev pub signature_by : Role → PlanSide → (params results : List Shape) → Signature
signature_by role.Lift = core_type_to_lift
signature_by role.Lower = core_type_to_lower

abbrev pub params_by_pointer : Role → PlanSide → (params : List Shape) → Bool
params_by_pointer role.Lift = lift_params_by_pointer
params_by_pointer role.Lower = lower_params_by_pointer

abbrev pub results_by_pointer : Role → PlanSide → (results : List Shape) → Bool
results_by_pointer role.Lift = lift_results_by_pointer
results_by_pointer role.Lower = lower_results_by_pointer

abbrev pub needs_by : Role → PlanSide → (params results : List Shape) → List ℕ
needs_by role.Lift = lift_needs
needs_by role.Lower = lower_needs

abbrev pub text_by : Role → (k : ℕ) → PlanSide → (params results : List Shape) → (function : List ℕ) → List ℕ
text_by role.Lift = lift_text
text_by role.Lower = lower_text

-- whether a side calls realloc, by whether its parameters go through a pointer, and whether parameters and results hold strings, lists or maps
abbrev pub realloc_by : Role → (params_by_pointer params_hold results_hold : Bool) → Bool
realloc_by role.Lift params_by_pointer params_hold results_hold = params_by_pointer || params_hold
realloc_by role.Lower params_by_pointer params_hold results_hold = results_hold

-- what a side needs
pub record HasNeeds (r : Role) (s : PlanSide) (ps rs : List Shape) (n : Needs) : Type 0 where
  pub params : n.params_by_pointer ≡ params_by_pointer r s ps
  pub results : n.results_by_pointer ≡ results_by_pointer r s rs
  pub memory : n.memory ≡ ((params_by_pointer r s ps || results_by_pointer r s rs) || (any_pointer_pair ps || any_pointer_pair rs))
  pub realloc : n.realloc ≡ realloc_by r (params_by_pointer r s ps) (any_pointer_pair ps) (any_pointer_pair rs)

-- how values are passed
pub record HasPassing (is_by_pointer : Bool) (ss : List Shape) (p : Passed) : Type 0 where
  pub by_pointer : p.by_pointer ≡ is_by_pointer
  pub holds_pointer : p.holds_pointer ≡ any_pointer_pair ss
