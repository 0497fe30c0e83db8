-- Cited by private clauses alone.
-- Which rule an entry or a function breaks first, of those that look at it alone and at what the plan has.
use Rattle.std.specs.Prelude.{ℕ, length, Option, Some, None}
use Rattle.fact_plan.specs.declared.plan.PlanType.{PlanType}
use Rattle.fact_plan.specs.declared.plan.PlanFunc.{PlanFunc}
use Rattle.fact_plan.specs.declared.plan.FusePlan.{FusePlan}
use Rattle.fact_plan_types.specs.declared.rules.Rule.{Rule}
use Rattle.fact_plan_types.specs.declared.rules.Rule.TheVariants as rule
use Rattle.fact_plan_types.specs.Faults.{Fault, unknown_index, bad_type, too_large}
use Rattle.fact_plan_types.specs.TypeRules.{IsBadFunc, IsBadType, IsLongFunc, NamesNoType, IsLongEntry, NamesUnknown}

-- the first rule that an entry at a place breaks
abbrev pub Breaks : FusePlan → ℕ → PlanType → Option Rule → Type 0
Breaks p k e (Some rule.UnknownIndex) = NamesUnknown p k e
Breaks p k e (Some rule.BadType) = (NamesUnknown p k e → ⊥) × IsBadType e
Breaks p k e (Some rule.TooLarge) = (NamesUnknown p k e → ⊥) × (IsBadType e → ⊥) × IsLongEntry k e
Breaks p k e None = (NamesUnknown p k e → ⊥) × (IsBadType e → ⊥) × (IsLongEntry k e → ⊥)

-- The first rule that a function at a place breaks, but for those on the layouts and the borrows of its types.
abbrev pub FuncBreaks : FusePlan → ℕ → PlanFunc → Option Rule → Type 0
FuncBreaks p k f (Some rule.UnknownIndex) = NamesNoType (length p.types) f
FuncBreaks p k f (Some rule.BadType) = (NamesNoType (length p.types) f → ⊥) × IsBadFunc f
FuncBreaks p k f (Some rule.TooLarge) = (NamesNoType (length p.types) f → ⊥) × (IsBadFunc f → ⊥) × IsLongFunc k f
FuncBreaks p k f None = (NamesNoType (length p.types) f → ⊥) × (IsBadFunc f → ⊥) × (IsLongFunc k f → ⊥)

-- the fault of breaking a rule
abbrev pub fault_of : Rule → Fault
fault_of rule.UnknownIndex = unknown_index
fault_of rule.BadType = bad_type
fault_of rule.TooLarge = too_large
