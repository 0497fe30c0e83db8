-- Cited by private clauses alone.
-- What stands of a plan in a builder when its entries, or its functions, before a place have been added.
use Rattle.std.specs.Prelude.{◌⊎◌, ◌≡◌, ℕ, ◌+◌, ◌*◌, ◌<◌, ◌≤◌, List, [], ◌++◌, All, Any, length, drop, take, Option, Some, None, IsTrue}
use Rattle.fact_types.specs.declared.interface.InterfaceType.{InterfaceType}
use Rattle.fact_types.specs.Functions.{HaveShapes}
use Rattle.fact_types.specs.Shapes.{Shape}
use Rattle.fact_types.specs.Tables.{IsLive}
use Rattle.fact_types.specs.Valid.{IsValid}
use Rattle.fact_builder.specs.Builder.{Builder}
use Rattle.fact_types.specs.Handles.{has_borrow}
use Rattle.fact_plan.specs.declared.plan.PlanFunc.{PlanFunc}
use Rattle.fact_plan.specs.declared.plan.FusePlan.{FusePlan}
use Rattle.fact_plan_types.specs.declared.rules.Rule.{Rule}
use Rattle.fact_plan_types.specs.declared.rules.Rule.TheVariants as rule
use Rattle.fact_plan_types.specs.Adding.{AreFirst, IsFilled}
use Rattle.fact_plan_types.specs.Faults.{Fault, HaveNoFault}
use Rattle.fact_plan_types.specs.PlanShapes.{HandleTables, plan_shapes, shapes_from, tuples_among}
use Rattle.fact_plan_types.specs.PlanTypes.{HasTuples, func_tuples, tables_named}
use Rattle.fact_plan_types.specs.Standing.{Stand}
use Rattle.fact_plan_types.specs.TypeRules.{HasFuncFault, HasTypeFault, IsBadFunc, IsLongFunc, NamesNoType, most_entries}

-- The entries before place k have no fault, and their types stand in the builder.
pub record HasTypes (p : FusePlan) (k : ℕ) (b : Builder) (types : List InterfaceType) : Type 0 where
  pub shapes : List Shape
  pub handles : HandleTables
  pub stand : Stand b.tables types shapes handles
  pub whole : shapes_from shapes handles (drop k p.types) ≡ plan_shapes p
  pub count : length types ≡ k
  pub place : k ≤ most_entries
  pub filled : IsFilled k b.tables
  pub first : AreFirst p b.tables
  pub named : length b.tables.resource_tables ≡ tables_named (take k p.types)
  pub tuples : HasTuples b.tables (tuples_among [] shapes)
  pub valid : All IsValid shapes
  pub faultless : (j : ℕ) (g : Fault) → j < k → HasTypeFault p j g → ⊥

-- No entry of types has a fault, nor has a function before place k, and all types stand in the builder.
pub record HasFuncs (p : FusePlan) (k : ℕ) (b : Builder) (types : List InterfaceType) : Type 0 where
  pub live : All (IsLive b.tables) types
  pub shaped : HaveShapes b.tables types (plan_shapes p)
  pub count : length types ≡ length p.types
  pub place : k ≤ most_entries
  pub filled : IsFilled (most_entries + 2 * k) b.tables
  pub first : AreFirst p b.tables
  pub named : length b.tables.resource_tables ≡ tables_named p.types
  pub tuples : HasTuples b.tables (tuples_among [] (plan_shapes p ++ func_tuples (plan_shapes p) (take k p.funcs)))
  pub valid : All IsValid (plan_shapes p)
  pub typed : HaveNoFault (HasTypeFault p)
  pub faultless : (j : ℕ) (g : Fault) → j < k → HasFuncFault p j g → ⊥

-- a function is no type, or holds borrows in its results
abbrev pub IsNoFunc : PlanFunc → (results : List Shape) → Type 0
IsNoFunc f results = IsBadFunc f ⊎ Any (λ s. IsTrue (has_borrow s)) results

-- The first rule that a function at a place breaks, but for those on the layouts of its tuples.
abbrev pub FuncBreaksFirst : FusePlan → ℕ → PlanFunc → (results : List Shape) → Option Rule → Type 0
FuncBreaksFirst p k f results (Some rule.UnknownIndex) = NamesNoType (length p.types) f
FuncBreaksFirst p k f results (Some rule.BadType) = (NamesNoType (length p.types) f → ⊥) × IsNoFunc f results
FuncBreaksFirst p k f results (Some rule.TooLarge) = (NamesNoType (length p.types) f → ⊥) × (IsNoFunc f results → ⊥) × IsLongFunc k f
FuncBreaksFirst p k f results None = (NamesNoType (length p.types) f → ⊥) × (IsNoFunc f results → ⊥) × (IsLongFunc k f → ⊥)
