-- What is said of an input that is no plan without faults: it begins with the line that a run of the program tells of the same input, and more may stand
-- behind it.
use Rattle.std.specs.Prelude.{ℕ, ◌≡◌, List, ◌++◌, Option, None, Some, codes}
use Rattle.fact_io.specs.Transfers.{TakesPast}
use Rattle.fact_plan.specs.declared.fault.PlanFault.{PlanFault}
use Rattle.fact_plan.specs.declared.plan.FusePlan.{FusePlan}
use Rattle.fact_plan.specs.Fault.{fault_line}
use Rattle.fact_plan_types.specs.declared.error.Place.{Place}
use Rattle.fact_plan_types.specs.Faults.{Fault}
use Rattle.fact_adapter_rules.specs.FirstFault.{IsFaultlessPlan}
use Rattle.fact_command.specs.declared.command.CommandOptions.{CommandOptions}
use Rattle.fact_command.specs.Command.{reading}
use Rattle.fact_command.specs.Refusal.{refusal_line}
use Rattle.fact_command.specs.Status.{line_of}
use Rattle.fact_command.specs.declared.status.Status.{Status}
use Rattle.fact_command.specs.declared.status.Status.TheVariants as status
use Rattle.fact_module.specs.declared.fusion.Fused.{Fused}
use Rattle.fact_module.specs.Fused.{IsFused}
use Rattle.fact_plan.specs.Inputs.{HoldsBadPlan, HoldsNoJson, HoldsPlan, limit}
use Rattle.fact_adapter_rules.specs.Inputs.{HoldsRefusal}
use Rattle.fact_run.specs.Run.{IsPlanMode, Read, ReadsPlan, configured}
use Rattle.fact_explain.specs.Pages.{IsPage}

-- The text begins with the line.
pub record Begins (line text : List ℕ) : Type 0 where
  pub more : List ℕ
  pub is_text : text ≡ line ++ more

-- ---- the text of an end

-- the line of an end that is told alike for every input: that of `run`, but for words that are no command
abbrev pub plain_line : Status → List ℕ
plain_line status.Usage = codes "usage: factplan [--wasm FILE] [--debug] [--fuel N]\n"
plain_line s = line_of s

-- the line of an ending
abbrev pub text_in : Status → Option (List ℕ) → List ℕ
text_in s None = plain_line s
text_in s (Some text) = text

-- ---- what bytes come to that are no more than an input may have

-- They hold no plan without faults: by the status, and the text that is told.
abbrev pub IsEndOf : List ℕ → Status → List ℕ → Type 0
IsEndOf bytes status.NotJson text = HoldsNoJson bytes × Begins (line_of status.NotJson) text
IsEndOf bytes status.BadPlan text = (f : PlanFault) × HoldsBadPlan bytes f × Begins (fault_line (codes "plan") f) text
IsEndOf bytes status.Refused text = (f : Fault) × (place : Place) × HoldsRefusal bytes f place × Begins (refusal_line f place) text
IsEndOf bytes status.OutOfMemory text = text ≡ line_of status.OutOfMemory
IsEndOf bytes _ text = ⊥

-- The bytes hold this plan, and it has no fault.
pub record HoldsFaultlessPlan (bytes : List ℕ) (p : FusePlan) : Type 0 where
  pub is_plan : HoldsPlan bytes p
  pub faultless : IsFaultlessPlan p

-- ---- what a source comes to

-- A plan without faults was read.
abbrev pub ReadsFaultless : Option (List ℕ) → Option (List ℕ) → Type 0
ReadsFaultless left left' = (p : FusePlan) × Read left left' (λ bytes. HoldsFaultlessPlan bytes p)

-- No plan without faults was: by the status, what the source had, whether a read failed, and the text that is told.
abbrev pub IsEndWithout : Option (List ℕ) → Option (List ℕ) → (read : Type 0) → Status → List ℕ → Type 0
IsEndWithout left left' read status.ReadFault text = read × (text ≡ line_of status.ReadFault)
IsEndWithout left left' read status.TooLong text = TakesPast left left' limit × (text ≡ line_of status.TooLong)
IsEndWithout left left' read status.NotJson text = Read left left' (λ bytes. IsEndOf bytes status.NotJson text)
IsEndWithout left left' read status.BadPlan text = Read left left' (λ bytes. IsEndOf bytes status.BadPlan text)
IsEndWithout left left' read status.Refused text = Read left left' (λ bytes. IsEndOf bytes status.Refused text)
IsEndWithout left left' read status.OutOfMemory text = text ≡ line_of status.OutOfMemory
IsEndWithout left left' read _ text = ⊥

-- The words ask for a plan to be read, and none without faults was; or they do not.
abbrev pub IsEndUnmade : List (List ℕ) → Option (List ℕ) → Option (List ℕ) → (read : Type 0) → Status → List ℕ → Type 0
IsEndUnmade words left left' read status.Usage text = (ReadsPlan words → ⊥) × (text ≡ plain_line status.Usage)
IsEndUnmade words left left' read status.OutOfMemory text = text ≡ line_of status.OutOfMemory
IsEndUnmade words left left' read s text = ReadsPlan words × IsEndWithout left left' read s text

-- The words ask for a plan to be read, one without faults was, and a page was written or a write failed; or one of these ends came.
abbrev pub IsEnd : List (List ℕ) → Option (List ℕ) → Option (List ℕ) → (read write : Type 0) → Status → List ℕ → Type 0
IsEnd words left left' read write status.Done text = ReadsPlan words × ReadsFaultless left left' × (text ≡ line_of status.Done)
IsEnd words left left' read write status.WriteFault text = ReadsPlan words × write × ReadsFaultless left left' × (text ≡ line_of status.WriteFault)
IsEnd words left left' read write s text = IsEndUnmade words left left' read s text

-- The words ask for a plan to be read, one without faults was, and this is it with the tunables that the words ask for.
pub record IsPlanUnder (words : List (List ℕ)) (left left' : Option (List ℕ)) (p : FusePlan) : Type 0 where
  pub options : CommandOptions
  pub is_read : reading words ≡ Some options
  pub mode : IsPlanMode options
  pub plan : FusePlan
  pub holds : Read left left' (λ input. HoldsFaultlessPlan input plan)
  pub is_configured : p ≡ configured options plan

-- The bytes are those of the module of such a plan.
pub record AreModuleBytes (words : List (List ℕ)) (left left' : Option (List ℕ)) (bytes : List ℕ) : Type 0 where
  pub plan : FusePlan
  pub is_plan : IsPlanUnder words left left' plan
  pub fused : Fused
  pub is_fused : IsFused fused plan
  pub is_bytes : bytes ≡ fused.bytes

-- Such a plan was read, and of a page that tells it this was sent.
pub record TellsPlan (words : List (List ℕ)) (left left' : Option (List ℕ)) (Sent : List ℕ → Type 0) : Type 0 where
  pub plan : FusePlan
  pub is_plan : IsPlanUnder words left left' plan
  pub page : List ℕ
  pub is_page : IsPage plan page
  pub sent : Sent page
