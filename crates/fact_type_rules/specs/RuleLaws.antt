-- How the rules for the types of a plan, the rules for shapes, and validity hang together.
use Rattle.std.specs.Prelude.{◌↔◌, ℕ, ◌≤◌, ◌⊎◌, List, Any, Some}
use Rattle.fact_types.specs.declared.interface.InterfaceType.{InterfaceType}
use Rattle.fact_types.specs.Shapes.{Shape}
use Rattle.fact_types.specs.Tables.{Tables, HasShape}
use Rattle.fact_types.specs.Valid.{IsValid}
use Rattle.fact_plan.specs.declared.plan.PlanType.{PlanType}
use Rattle.fact_plan.specs.declared.plan.FusePlan.{FusePlan}
use Rattle.fact_plan_types.specs.Faults.{bad_type, too_large}
use Rattle.fact_plan_types.specs.PlanShapes.{HandleTables, entry_shape}
use Rattle.fact_plan_types.specs.TypeRules.{IsErrorContext, TypeHas, most_entries, types_in}
use Rattle.fact_type_rules.specs.TypeFaults.{AnyIn, IsBadShape, IsLargeShape}

-- A shape is none, or too large, whatever the types in it are.
abbrev pub BreaksRule : Shape → Type 0
BreaksRule s = IsBadShape s ⊎ IsLargeShape s

-- A type is valid exactly where neither it nor a type in it is none or too large.
abbrev pub ValidBreaksNone : Type 0
ValidBreaksNone = (t : Tables) (ty : InterfaceType) (s : Shape) → HasShape t ty s → (IsValid s ↔ (AnyIn BreaksRule s → ⊥))

-- An entry of a plan is no type exactly where its shape is none, or a member is the word of an error context, which a shape does
-- not tell.
abbrev pub BadByShape : Type 0
BadByShape =
    (p : FusePlan) (k : ℕ) (before : List Shape) (h : HandleTables) (e : PlanType) → (TypeHas p k e (Some (entry_shape before h e)) bad_type ↔ (IsBadShape (entry_shape before h e) ⊎ Any IsErrorContext (types_in e)))

-- It is too large exactly where its place in the plan is, or its shape is.
abbrev pub LargeByShape : Type 0
LargeByShape =
    (p : FusePlan) (k : ℕ) (before : List Shape) (h : HandleTables) (e : PlanType) → (TypeHas p k e (Some (entry_shape before h e)) too_large ↔ ((most_entries ≤ k) ⊎ IsLargeShape (entry_shape before h e)))
