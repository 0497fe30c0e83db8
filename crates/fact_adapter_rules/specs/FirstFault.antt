-- The first fault of a plan: types before functions before adapters, each list from its front, and at an entry the kinds of
-- faults in their order.
use Rattle.fact_plan.specs.declared.plan.FusePlan.{FusePlan}
use Rattle.fact_plan_types.specs.declared.error.Place.{Place}
use Rattle.fact_plan_types.specs.declared.error.Place.TheVariants.{TypeEntry, Func, Adapter}
use Rattle.fact_plan_types.specs.Faults.{Fault, IsFirstFault, HaveNoFault}
use Rattle.fact_plan_types.specs.PlanTypes.{HasFaultlessTypes, IsFirstOfTypes}
use Rattle.fact_adapter_rules.specs.AdapterRules.{HasAdapterFault}

-- The first fault of a plan is this one, at this place: types and functions before adapters.
abbrev pub IsFirstAt : FusePlan → Fault → Place → Type 0
IsFirstAt p f (TypeEntry k) = IsFirstOfTypes p f (TypeEntry k)
IsFirstAt p f (Func k) = IsFirstOfTypes p f (Func k)
IsFirstAt p f (Adapter k) = HasFaultlessTypes p × IsFirstFault (HasAdapterFault p) k f

-- The plan has no fault.
pub record IsFaultlessPlan (p : FusePlan) : Type 0 where
  pub types : HasFaultlessTypes p
  pub adapters : HaveNoFault (HasAdapterFault p)
