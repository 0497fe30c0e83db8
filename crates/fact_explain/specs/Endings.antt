-- Cited by private clauses alone.
-- How a run ends: with a page, without a plan, or without words that ask for one.
use Rattle.std.specs.Prelude.{ℕ, ◌≡◌, List, None, Ok, Err, codes, option_map, string_bytes}
use Rattle.serde_json.specs.Data.{Data}
use Rattle.fact_plan.specs.declared.fault.PlanFault.{PlanFault}
use Rattle.fact_plan.specs.declared.plan.FusePlan.{FusePlan}
use Rattle.fact_plan.specs.Fault.{fault_line}
use Rattle.fact_plan.specs.Plan.{plan_of}
use Rattle.fact_plan_types.specs.declared.error.Place.{Place}
use Rattle.fact_plan_types.specs.Faults.{Fault}
use Rattle.fact_adapter_rules.specs.FirstFault.{IsFirstAt}
use Rattle.fact_command.specs.Refusal.{refusal_line}
use Rattle.fact_command.specs.Status.{line_of}
use Rattle.fact_command.specs.declared.status.Status.{Status}
use Rattle.fact_command.specs.declared.status.Status.TheVariants as status
use Rattle.fact_run.specs.Run.{ReadsPlan}
use Rattle.fact_explain.specs.declared.ending.Ending.{Ending}
use Rattle.fact_explain.specs.Explained.{Begins, text_in}

-- the text of an end
abbrev pub ending_text : Ending → List ℕ
ending_text e = text_in e.status (option_map string_bytes e.told)

-- the end of a run that had no memory
abbrev pub no_memory : Ending
no_memory = record { status = status.OutOfMemory; told = None }

-- The end has the status, and its text begins with the line.
pub record IsTold (s : Status) (line : List ℕ) (e : Ending) : Type 0 where
  pub has_status : e.status ≡ s
  pub begins : Begins line (ending_text e)

-- what a JSON value comes to that is no plan without faults, by the status and the text
abbrev pub IsEndOfValue : Data → Status → List ℕ → Type 0
IsEndOfValue v status.BadPlan text = (f : PlanFault) × (plan_of v ≡ Err f) × Begins (fault_line (codes "plan") f) text
IsEndOfValue v status.Refused text = (p : FusePlan) × (plan_of v ≡ Ok p) × (f : Fault) × (place : Place) × IsFirstAt p f place × Begins (refusal_line f place) text
IsEndOfValue v status.OutOfMemory text = text ≡ line_of status.OutOfMemory
IsEndOfValue v _ text = ⊥

-- a page was written, or a write failed, or there was no memory for a page
abbrev pub IsEndBy : (write : Type 0) → Status → Type 0
IsEndBy write status.Done = Unit {0}
IsEndBy write status.WriteFault = write
IsEndBy write status.OutOfMemory = Unit {0}
IsEndBy write _ = ⊥

pub record IsEndWith (write : Type 0) (e : Ending) : Type 0 where
  pub by : IsEndBy write e.status
  pub plain : e.told ≡ None

-- The words do not ask for a plan to be read, or there was no memory to read them.
abbrev pub IsUnasked : List (List ℕ) → Status → Type 0
IsUnasked words status.Usage = ReadsPlan words → ⊥
IsUnasked words status.OutOfMemory = Unit {0}
IsUnasked words _ = ⊥
