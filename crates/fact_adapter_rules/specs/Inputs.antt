-- What the bytes of a plan hold, by the rules: a plan with a fault, or one without.
use Rattle.std.specs.Prelude.{ℕ, List}
use Rattle.fact_plan.specs.declared.plan.FusePlan.{FusePlan}
use Rattle.fact_plan.specs.Inputs.{HoldsPlan}
use Rattle.fact_plan_types.specs.declared.error.Place.{Place}
use Rattle.fact_plan_types.specs.Faults.{Fault}
use Rattle.fact_adapter_rules.specs.FirstFault.{IsFaultlessPlan, IsFirstAt}

-- They hold a plan whose first fault is this one, at this place.
pub record HoldsRefusal (bytes : List ℕ) (f : Fault) (place : Place) : Type 0 where
  pub plan : FusePlan
  pub is_plan : HoldsPlan bytes plan
  pub is_first : IsFirstAt plan f place

-- They hold a plan that has no fault.
pub record HoldsFaultless (bytes : List ℕ) : Type 0 where
  pub plan : FusePlan
  pub is_plan : HoldsPlan bytes plan
  pub faultless : IsFaultlessPlan plan
