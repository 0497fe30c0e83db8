-- What the bytes of a plan come to.
use Rattle.std.specs.Prelude.{ℕ, ◌≡◌, ◌≤◌, Bool, List, length, Result, Ok, Err, ◌⊎◌, codes, string_bytes}
use Rattle.std.specs.List.{AllZip}
use Rattle.fact_wasm.specs.declared.module.WasmModule.{WasmModule}
use Rattle.fact_wasm.specs.Ranges.{InRange}
use Rattle.fact_binary.specs.Spelling.{Spells}
use Rattle.fact_check.specs.Accepted.{IsAccepted}
use Rattle.fact_plan.specs.declared.plan.FusePlan.{FusePlan}
use Rattle.fact_plan.specs.declared.fault.PlanFault.{PlanFault}
use Rattle.fact_plan.specs.Fault.{fault_line}
use Rattle.fact_plan_types.specs.declared.error.Place.{Place}
use Rattle.fact_plan_types.specs.Faults.{Fault}
use Rattle.fact_adapter_rules.specs.FirstFault.{IsFaultlessPlan}
use Rattle.fact_module.specs.declared.fusion.Fused.{Fused}
use Rattle.fact_module.specs.Fused.{IsFused}
use Rattle.fact_command.specs.declared.status.Status.{Status}
use Rattle.fact_command.specs.declared.status.Status.TheVariants as status
use Rattle.fact_command.specs.Status.{line_of}
use Rattle.fact_command.specs.Refusal.{refusal_line}
use Rattle.fact_plan.specs.Inputs.{HoldsBadPlan, HoldsNoJson, HoldsPlan, IsTooLong, limit, tuned}
use Rattle.fact_adapter_rules.specs.Inputs.{HoldsFaultless, HoldsRefusal}
use Rattle.fact_library.specs.declared.errors.CompileError.{CompileError}
use Rattle.fact_library.specs.declared.errors.CompileError.TheVariants as error
use Rattle.fact_library.specs.declared.compiling.Compiled.{Compiled}
use Rattle.fact_records.specs.Records.{Means, Names}

-- ---- a module

-- The module is that of the plan: its bytes spell it and no other module in range, and are accepted by the check of bytes.
pub record IsModuleOf (debug : Bool) (fuel : ℕ) (p : FusePlan) (f : Fused) : Type 0 where
  pub fused : IsFused f (tuned debug fuel p)
  pub is_only : (m : WasmModule) → InRange m → Spells f.bytes m → m ≡ f.module
  pub accepted : IsAccepted f.bytes f.module

-- The bytes hold a plan that has no fault, and the module is its.
pub record HoldsModule (debug : Bool) (fuel : ℕ) (bytes : List ℕ) (f : Fused) : Type 0 where
  pub plan : FusePlan
  pub holds : HoldsPlan bytes plan
  pub faultless : IsFaultlessPlan plan
  pub made : IsModuleOf debug fuel plan f

-- There is one record for each import, in order, with its names and with what it stands for.
pub record IsCompiled (c : Compiled) (f : Fused) : Type 0 where
  pub fused : c.fused ≡ f
  pub names : AllZip (Names (string_bytes c.text)) c.records.items f.module.imports
  pub means : AllZip (Means (string_bytes c.text)) c.records.items f.imports

-- ---- no module

-- what bytes hold for which there is this error, with the line that tells it; where they are too many it is never want of memory
abbrev pub IsErrorOf : List ℕ → CompileError → Type 0
IsErrorOf bytes error.TooLong = IsTooLong bytes
IsErrorOf bytes error.NotJson = HoldsNoJson bytes
IsErrorOf bytes (error.BadPlan line) = (f : PlanFault) × HoldsBadPlan bytes f × (string_bytes line ≡ fault_line (codes "plan") f)
IsErrorOf bytes (error.Refused line) = (f : Fault) × (place : Place) × HoldsRefusal bytes f place × (string_bytes line ≡ refusal_line f place)
IsErrorOf bytes error.OutOfMemory = length bytes ≤ limit

-- the status with which `factc` ends for the same reason, and the line that it tells
abbrev pub status_of_error : CompileError → Status
status_of_error error.TooLong = status.TooLong
status_of_error error.NotJson = status.NotJson
status_of_error (error.BadPlan line) = status.BadPlan
status_of_error (error.Refused line) = status.Refused
status_of_error error.OutOfMemory = status.OutOfMemory

abbrev pub line_of_error : CompileError → List ℕ
line_of_error error.TooLong = line_of status.TooLong
line_of_error error.NotJson = line_of status.NotJson
line_of_error (error.BadPlan line) = string_bytes line
line_of_error (error.Refused line) = string_bytes line
line_of_error error.OutOfMemory = line_of status.OutOfMemory

-- the status of a result
abbrev pub status_in : Result Compiled CompileError → Status
status_in (Ok c) = status.Done
status_in (Err e) = status_of_error e

-- The end is this one, or a want of memory.
abbrev pub IsOrMemory : (wanted s : Status) → Type 0
IsOrMemory wanted s = (s ≡ wanted) ⊎ (s ≡ status.OutOfMemory)

-- What the bytes hold leads to the end of its kind, or to a want of memory, but that too many bytes lead to theirs alone.
pub record EndsAs (bytes : List ℕ) (s : Status) : Type 0 where
  pub too_long : IsTooLong bytes → s ≡ status.TooLong
  pub not_json : HoldsNoJson bytes → IsOrMemory status.NotJson s
  pub bad_plan : ((f : PlanFault) × HoldsBadPlan bytes f) → IsOrMemory status.BadPlan s
  pub refused : ((f : Fault) × (place : Place) × HoldsRefusal bytes f place) → IsOrMemory status.Refused s
  pub faultless : HoldsFaultless bytes → IsOrMemory status.Done s
