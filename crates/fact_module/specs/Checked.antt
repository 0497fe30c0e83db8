-- What the check of bytes makes of the module of a plan.
use Rattle.fact_plan.specs.declared.plan.FusePlan.{FusePlan}
use Rattle.fact_adapter_rules.specs.FirstFault.{IsFaultlessPlan}
use Rattle.fact_check.specs.Accepted.{IsAccepted}
use Rattle.fact_module.specs.declared.fusion.Fused.{Fused}
use Rattle.fact_module.specs.Fused.{IsFused}

-- The bytes of the module of each plan without faults are accepted: they spell it, its imports are those of adapter modules, and it is well
-- typed.
abbrev pub FusedAreAccepted : Type 0
FusedAreAccepted = (f : Fused) (p : FusePlan) → IsFused f p → IsFaultlessPlan p → IsAccepted f.bytes f.module
