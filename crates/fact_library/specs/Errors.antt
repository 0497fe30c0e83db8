-- Cited by private clauses alone.
-- What a fault and a refusal of a plan come to.
use Rattle.std.specs.Prelude.{◌≡◌, Option, Some, codes, string_bytes}
use Rattle.fact_plan.specs.declared.plan.FusePlan.{FusePlan}
use Rattle.fact_plan.specs.declared.fault.PlanFault.{PlanFault}
use Rattle.fact_plan.specs.Fault.{IsNotMemory, fault_line}
use Rattle.fact_plan_types.specs.declared.error.Place.{Place}
use Rattle.fact_plan_types.specs.Faults.{Fault}
use Rattle.fact_adapter_rules.specs.FirstFault.{IsFirstAt}
use Rattle.fact_command.specs.Refusal.{refusal_line}
use Rattle.fact_library.specs.declared.errors.CompileError.{CompileError}
use Rattle.fact_library.specs.declared.errors.CompileError.TheVariants as error

-- what a fault of a value comes to
abbrev pub EndsAsFault : PlanFault → CompileError → Type 0
EndsAsFault f (error.BadPlan line) = IsNotMemory f × (string_bytes line ≡ fault_line (codes "plan") f)
EndsAsFault f error.OutOfMemory = Unit {0}
EndsAsFault f error.TooLong = ⊥
EndsAsFault f error.NotJson = ⊥
EndsAsFault f (error.Refused line) = ⊥

-- what a refusal comes to, where it tells a fault
abbrev pub EndsAsRefusal : Option (Fault × Place) → CompileError → Type 0
EndsAsRefusal (Some x) (error.Refused line) = string_bytes line ≡ refusal_line x.0 x.1
EndsAsRefusal x error.OutOfMemory = Unit {0}
EndsAsRefusal x e = ⊥

-- what a plan comes to without a module
abbrev pub IsErrorOfPlan : FusePlan → CompileError → Type 0
IsErrorOfPlan p (error.Refused line) = (f : Fault) × (place : Place) × IsFirstAt p f place × (string_bytes line ≡ refusal_line f place)
IsErrorOfPlan p error.OutOfMemory = Unit {0}
IsErrorOfPlan p error.TooLong = ⊥
IsErrorOfPlan p error.NotJson = ⊥
IsErrorOfPlan p (error.BadPlan line) = ⊥
