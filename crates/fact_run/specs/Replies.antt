-- Cited by private clauses alone.
-- What an inner answer and an ending say of the source and of the sink.
use Rattle.std.specs.Prelude.{ℕ, ◌≡◌, ◌≢◌, Bool, true, false, List, Option, Some, None, codes, string_bytes}
use Rattle.std.specs.Io.KnownBytes.{Appends, Keeps}
use Rattle.fact_io.specs.Transfers.{AppendsFront, TakesPast}
use Rattle.fact_plan.specs.declared.fault.PlanFault.{PlanFault}
use Rattle.fact_plan.specs.declared.plan.FusePlan.{FusePlan}
use Rattle.fact_plan.specs.Fault.{IsNotMemory, fault_line}
use Rattle.fact_plan.specs.Inputs.{HasInput, HoldsNoJson, limit}
use Rattle.fact_command.specs.declared.command.CommandOptions.{CommandOptions}
use Rattle.fact_command.specs.declared.status.Status.{Status}
use Rattle.fact_command.specs.declared.status.Status.TheVariants as status
use Rattle.fact_run.specs.declared.reply.Reply.{Reply}
use Rattle.fact_run.specs.declared.reply.Reply.TheVariants as reply
use Rattle.fact_run.specs.declared.ending.Ending.{Ending}
use Rattle.fact_plan_types.specs.declared.error.Place.{Place}
use Rattle.fact_plan_types.specs.Faults.{Fault}
use Rattle.fact_adapter_rules.specs.FirstFault.{IsFaultlessPlan, IsFirstAt}
use Rattle.fact_command.specs.Command.{reading}
use Rattle.fact_command.specs.Refusal.{refusal_line}
use Rattle.fact_wasm.specs.declared.module.WasmModule.{WasmModule}
use Rattle.fact_check.specs.Accepted.{IsAccepted, IsCause}
use Rattle.fact_check.specs.declared.error.CheckError.{CheckError}
use Rattle.fact_check.specs.declared.error.CheckError.TheVariants as error
use Rattle.fact_run.specs.Check.{HoldsNoHex, HoldsRejected, accepted_line, rejected_line}
use Rattle.fact_plan_types.specs.PlanTypes.{told as told_fault}
use Rattle.fact_call_mode.specs.declared.reply.CallReply.{CallReply}
use Rattle.fact_call_mode.specs.declared.reply.CallReply.TheVariants as call_reply
use Rattle.fact_call_mode.specs.Calls.{IsNotCallable, IsOverLimit}
use Rattle.fact_call_mode.specs.Inputs.{call_input}
use Rattle.fact_chain_mode.specs.ChainInputs.{chain_input}
use Rattle.fact_chain_mode.specs.ChainTexts.{IsChainOverLimit, IsNotChained}
use Rattle.fact_run.specs.Run.{HoldsBadValueBy, HoldsBadPlanBy, HoldsOverLimitBy, HoldsRefusalBy, IsCallMode, IsChainMode, IsJsonMode, Prints, Read, Sends, SendsAccepted, SendsCall, SendsChain, SendsPage}
use Rattle.fact_command.specs.Status.{line_of}

-- the line tells the fault that the bytes hold, of a plan or of the input of a call or a chain
pub record TellsBadPlan (chain : Bool) (call : Option (List ℕ)) (bytes : List ℕ) (line : List ℕ) : Type 0 where
  pub fault : PlanFault
  pub holds : HoldsBadPlanBy chain call bytes fault
  pub is_line : line ≡ fault_line (codes "plan") fault

-- the line tells the first fault of the plan that the bytes hold, or that their input has
pub record TellsRefusalIn (chain : Bool) (call : Option (List ℕ)) (bytes : List ℕ) (line : List ℕ) : Type 0 where
  pub fault : Fault
  pub place : Place
  pub holds : HoldsRefusalBy chain call bytes fault place
  pub is_line : line ≡ refusal_line fault place

-- what a fault comes to that was met where a plan, or the input of a call or a chain, is read
abbrev pub IsReplyToBadPlan : PlanFault → Reply → Type 0
IsReplyToBadPlan f (reply.BadPlan line) = IsNotMemory f × (string_bytes line ≡ fault_line (codes "plan") f)
IsReplyToBadPlan f reply.OutOfMemory = Unit {0}
IsReplyToBadPlan f _ = ⊥

-- what a refusal comes to, where it tells a fault
abbrev pub IsReplyToRefusal : Option (Fault × Place) → Reply → Type 0
IsReplyToRefusal (Some x) (reply.Refused line) = string_bytes line ≡ refusal_line x.0 x.1
IsReplyToRefusal _ reply.OutOfMemory = Unit {0}
IsReplyToRefusal _ _ = ⊥

-- the line tells the first fault of the plan
pub record TellsRefusal (p : FusePlan) (line : List ℕ) : Type 0 where
  pub fault : Fault
  pub place : Place
  pub is_first : IsFirstAt p fault place
  pub is_line : line ≡ refusal_line fault place

-- what a plan comes to
abbrev pub IsReplyToPlan : CommandOptions → FusePlan → Reply → Type 0
IsReplyToPlan o p (reply.Page text) = IsFaultlessPlan p × Prints o p (string_bytes text)
IsReplyToPlan o p (reply.Refused line) = TellsRefusal p (string_bytes line)
IsReplyToPlan o p reply.OutOfMemory = Unit {0}
IsReplyToPlan o p _ = ⊥

-- what some bytes, no more than an input may have, come to
abbrev pub IsReplyTo : CommandOptions → List ℕ → Reply → Type 0
IsReplyTo o bytes (reply.Page text) = SendsPage o bytes (λ sent. sent ≡ string_bytes text)
IsReplyTo o bytes reply.ReadFault = ⊥
IsReplyTo o bytes reply.TooLong = ⊥
IsReplyTo o bytes reply.NotJson = HoldsNoJson bytes
IsReplyTo o bytes (reply.BadPlan line) = TellsBadPlan false None bytes (string_bytes line)
IsReplyTo o bytes (reply.Refused line) = TellsRefusalIn false None bytes (string_bytes line)
IsReplyTo o bytes reply.NotHex = ⊥
IsReplyTo o bytes (reply.Rejected line) = ⊥
IsReplyTo o bytes reply.NotCallable = ⊥
IsReplyTo o bytes reply.NotChained = ⊥
IsReplyTo o bytes (reply.BadValue line) = ⊥
IsReplyTo o bytes reply.OverLimit = ⊥
IsReplyTo o bytes reply.OutOfMemory = Unit {0}

-- what a source comes to
abbrev pub IsReply : CommandOptions → Option (List ℕ) → Option (List ℕ) → Type 0 → Reply → Type 0
IsReply o left left' fault reply.ReadFault = fault
IsReply o left left' fault reply.TooLong = TakesPast left left' limit
IsReply o left left' fault reply.OutOfMemory = Unit {0}
IsReply o left left' fault r = Read left left' (λ bytes. IsReplyTo o bytes r)

-- the line tells what is no value of a type, in the input of a call or of a chain that the bytes hold
pub record TellsBadValue (chain : Bool) (call : Option (List ℕ)) (bytes : List ℕ) (line : List ℕ) : Type 0 where
  pub fault : PlanFault
  pub holds : HoldsBadValueBy chain call bytes fault
  pub is_line : line ≡ fault_line (codes "value") fault

-- what a fault comes to that was met where values are read
abbrev pub IsReplyToBadValue : PlanFault → Reply → Type 0
IsReplyToBadValue f (reply.BadValue line) = IsNotMemory f × (string_bytes line ≡ fault_line (codes "value") f)
IsReplyToBadValue f reply.OutOfMemory = Unit {0}
IsReplyToBadValue f _ = ⊥

-- what the reply to a call comes to
abbrev pub IsToldReply : CallReply → Reply → Type 0
IsToldReply call_reply.NotJson r = r ≡ reply.NotJson
IsToldReply (call_reply.BadPlan f) r = IsReplyToBadPlan f r
IsToldReply (call_reply.Refused e) r = IsReplyToRefusal (told_fault e) r
IsToldReply call_reply.NotCallable r = r ≡ reply.NotCallable
IsToldReply (call_reply.BadValue f) r = IsReplyToBadValue f r
IsToldReply call_reply.OverLimit r = r ≡ reply.OverLimit
IsToldReply (call_reply.Page text) r = r ≡ reply.Page text
IsToldReply call_reply.OutOfMemory r = r ≡ reply.OutOfMemory

-- what the bytes of the input of a call come to, no more than an input may have
abbrev pub IsReplyToCalled : (fuel : ℕ) → (name bytes : List ℕ) → Reply → Type 0
IsReplyToCalled fuel name bytes (reply.Page text) = SendsCall fuel name bytes (λ sent. sent ≡ string_bytes text)
IsReplyToCalled fuel name bytes reply.NotJson = HoldsNoJson bytes
IsReplyToCalled fuel name bytes (reply.BadPlan line) = TellsBadPlan false (Some name) bytes (string_bytes line)
IsReplyToCalled fuel name bytes (reply.Refused line) = TellsRefusalIn false (Some name) bytes (string_bytes line)
IsReplyToCalled fuel name bytes reply.NotCallable = HasInput call_input bytes (IsNotCallable name)
IsReplyToCalled fuel name bytes (reply.BadValue line) = TellsBadValue false (Some name) bytes (string_bytes line)
IsReplyToCalled fuel name bytes reply.OverLimit = HasInput call_input bytes (IsOverLimit name)
IsReplyToCalled fuel name bytes reply.OutOfMemory = Unit {0}
IsReplyToCalled fuel name bytes _ = ⊥

-- what a source comes to whose input is that of a call
abbrev pub IsCallReply : (fuel : ℕ) → (name : List ℕ) → Option (List ℕ) → Option (List ℕ) → Type 0 → Reply → Type 0
IsCallReply fuel name left left' fault reply.ReadFault = fault
IsCallReply fuel name left left' fault reply.TooLong = TakesPast left left' limit
IsCallReply fuel name left left' fault reply.OutOfMemory = Unit {0}
IsCallReply fuel name left left' fault r = Read left left' (λ bytes. IsReplyToCalled fuel name bytes r)

-- and the reply to a chain: no names of adapters that lead to one another
abbrev pub IsToldChainReply : CallReply → Reply → Type 0
IsToldChainReply call_reply.NotCallable r = r ≡ reply.NotChained
IsToldChainReply c r = IsToldReply c r

-- what the bytes of the input of a chain come to, no more than an input may have
abbrev pub IsReplyToChained : (fuel : ℕ) → (bytes : List ℕ) → Reply → Type 0
IsReplyToChained fuel bytes (reply.Page text) = SendsChain fuel bytes (λ sent. sent ≡ string_bytes text)
IsReplyToChained fuel bytes reply.NotJson = HoldsNoJson bytes
IsReplyToChained fuel bytes (reply.BadPlan line) = TellsBadPlan true None bytes (string_bytes line)
IsReplyToChained fuel bytes (reply.Refused line) = TellsRefusalIn true None bytes (string_bytes line)
IsReplyToChained fuel bytes reply.NotChained = HasInput chain_input bytes IsNotChained
IsReplyToChained fuel bytes (reply.BadValue line) = TellsBadValue true None bytes (string_bytes line)
IsReplyToChained fuel bytes reply.OverLimit = HasInput chain_input bytes IsChainOverLimit
IsReplyToChained fuel bytes reply.OutOfMemory = Unit {0}
IsReplyToChained fuel bytes _ = ⊥

-- what a source comes to whose input is that of a chain
abbrev pub IsChainReply : (fuel : ℕ) → Option (List ℕ) → Option (List ℕ) → Type 0 → Reply → Type 0
IsChainReply fuel left left' fault reply.ReadFault = fault
IsChainReply fuel left left' fault reply.TooLong = TakesPast left left' limit
IsChainReply fuel left left' fault reply.OutOfMemory = Unit {0}
IsChainReply fuel left left' fault r = Read left left' (λ bytes. IsReplyToChained fuel bytes r)

-- the line tells the cause for which the bytes of an input are rejected
pub record TellsRejection (input : List ℕ) (line : List ℕ) : Type 0 where
  pub cause : CheckError
  pub holds : HoldsRejected input cause
  pub is_line : line ≡ rejected_line cause

-- what a cause comes to
abbrev pub IsReplyToCause : CheckError → Reply → Type 0
IsReplyToCause e (reply.Rejected line) = (e ≢ error.OutOfMemory) × (string_bytes line ≡ rejected_line e)
IsReplyToCause e reply.OutOfMemory = Unit {0}
IsReplyToCause e _ = ⊥

-- what bytes come to that are checked
abbrev pub IsReplyToBytes : List ℕ → Reply → Type 0
IsReplyToBytes bytes (reply.Page text) = (m : WasmModule) × IsAccepted bytes m × (string_bytes text ≡ accepted_line m)
IsReplyToBytes bytes (reply.Rejected line) = (e : CheckError) × (e ≢ error.OutOfMemory) × IsCause bytes e × (string_bytes line ≡ rejected_line e)
IsReplyToBytes bytes reply.OutOfMemory = Unit {0}
IsReplyToBytes bytes _ = ⊥

-- what an input comes to that is checked, no longer than an input may be
abbrev pub IsReplyToCheck : List ℕ → Reply → Type 0
IsReplyToCheck input (reply.Page text) = SendsAccepted input (λ sent. sent ≡ string_bytes text)
IsReplyToCheck input reply.NotHex = HoldsNoHex input
IsReplyToCheck input (reply.Rejected line) = TellsRejection input (string_bytes line)
IsReplyToCheck input reply.OutOfMemory = Unit {0}
IsReplyToCheck input _ = ⊥

-- what a source comes to whose input is checked
abbrev pub IsCheckReply : Option (List ℕ) → Option (List ℕ) → Type 0 → Reply → Type 0
IsCheckReply left left' fault reply.ReadFault = fault
IsCheckReply left left' fault reply.TooLong = TakesPast left left' limit
IsCheckReply left left' fault reply.OutOfMemory = Unit {0}
IsCheckReply left left' fault r = Read left left' (λ input. IsReplyToCheck input r)

-- what a run with these options comes to, and in which mode
abbrev pub IsReplyUnder : CommandOptions → Option (List ℕ) → Option (List ℕ) → Type 0 → Reply → Type 0
IsReplyUnder o left left' fault (reply.Page text) = Sends o left left' (λ sent. sent ≡ string_bytes text)
IsReplyUnder o left left' fault reply.ReadFault = fault
IsReplyUnder o left left' fault reply.TooLong = TakesPast left left' limit
IsReplyUnder o left left' fault reply.NotJson = IsJsonMode o × Read left left' HoldsNoJson
IsReplyUnder o left left' fault (reply.BadPlan line) = IsJsonMode o × Read left left' (λ bytes. TellsBadPlan o.chain o.call bytes (string_bytes line))
IsReplyUnder o left left' fault (reply.Refused line) = IsJsonMode o × Read left left' (λ bytes. TellsRefusalIn o.chain o.call bytes (string_bytes line))
IsReplyUnder o left left' fault reply.NotHex = (o.check ≡ true) × Read left left' HoldsNoHex
IsReplyUnder o left left' fault (reply.Rejected line) = (o.check ≡ true) × Read left left' (λ input. TellsRejection input (string_bytes line))
IsReplyUnder o left left' fault reply.NotCallable = (name : List ℕ) × IsCallMode o name × Read left left' (λ bytes. HasInput call_input bytes (IsNotCallable name))
IsReplyUnder o left left' fault reply.NotChained = IsChainMode o × Read left left' (λ bytes. HasInput chain_input bytes IsNotChained)
IsReplyUnder o left left' fault (reply.BadValue line) = IsJsonMode o × Read left left' (λ bytes. TellsBadValue o.chain o.call bytes (string_bytes line))
IsReplyUnder o left left' fault reply.OverLimit = IsJsonMode o × Read left left' (λ bytes. HoldsOverLimitBy o.chain o.call bytes)
IsReplyUnder o left left' fault reply.OutOfMemory = Unit {0}

-- the replies of a run that reads nothing
abbrev pub IsReplyUnread : Reply → Type 0
IsReplyUnread (reply.Page text) = Unit {0}
IsReplyUnread reply.OutOfMemory = Unit {0}
IsReplyUnread _ = ⊥

-- how a run ends with a reply, where the page of one that has a page was written
abbrev pub ending_with : Reply → Ending
ending_with (reply.Page text) = record { status = status.Done; told = None }
ending_with reply.ReadFault = record { status = status.ReadFault; told = None }
ending_with reply.TooLong = record { status = status.TooLong; told = None }
ending_with reply.NotJson = record { status = status.NotJson; told = None }
ending_with (reply.BadPlan line) = record { status = status.BadPlan; told = Some line }
ending_with (reply.Refused line) = record { status = status.Refused; told = Some line }
ending_with reply.NotHex = record { status = status.NotHex; told = None }
ending_with (reply.Rejected line) = record { status = status.Rejected; told = Some line }
ending_with reply.NotCallable = record { status = status.NotCallable; told = None }
ending_with reply.NotChained = record { status = status.NotChained; told = None }
ending_with (reply.BadValue line) = record { status = status.BadValue; told = Some line }
ending_with reply.OverLimit = record { status = status.OverLimit; told = None }
ending_with reply.OutOfMemory = record { status = status.OutOfMemory; told = None }

-- the line of an ending
abbrev pub line_in : Status → Option (List ℕ) → List ℕ
line_in s None = line_of s
line_in s (Some line) = line

-- how a run with these options ends, in which mode it may, and with the line that tells it
abbrev pub IsEndUnder : CommandOptions → Option (List ℕ) → Option (List ℕ) → Type 0 → Option (List ℕ) → Option (List ℕ) → Type 0 → Status → List ℕ → Type 0
IsEndUnder o left left' read old new write status.Done line = Sends o left left' (λ text. Appends old new text) × (line ≡ line_of status.Done)
IsEndUnder o left left' read old new write status.Usage line = ⊥
IsEndUnder o left left' read old new write status.ReadFault line = read × Keeps old new × (line ≡ line_of status.ReadFault)
IsEndUnder o left left' read old new write status.WriteFault line = write × Sends o left left' (λ text. AppendsFront old new text) × (line ≡ line_of status.WriteFault)
IsEndUnder o left left' read old new write status.TooLong line = TakesPast left left' limit × Keeps old new × (line ≡ line_of status.TooLong)
IsEndUnder o left left' read old new write status.NotJson line = IsJsonMode o × Read left left' HoldsNoJson × Keeps old new × (line ≡ line_of status.NotJson)
IsEndUnder o left left' read old new write status.BadPlan line = IsJsonMode o × Read left left' (λ bytes. TellsBadPlan o.chain o.call bytes line) × Keeps old new
IsEndUnder o left left' read old new write status.Refused line = IsJsonMode o × Read left left' (λ bytes. TellsRefusalIn o.chain o.call bytes line) × Keeps old new
IsEndUnder o left left' read old new write status.NotHex line = (o.check ≡ true) × Read left left' HoldsNoHex × Keeps old new × (line ≡ line_of status.NotHex)
IsEndUnder o left left' read old new write status.Rejected line = (o.check ≡ true) × Read left left' (λ input. TellsRejection input line) × Keeps old new
IsEndUnder o left left' read old new write status.NotCallable line = (name : List ℕ) × IsCallMode o name × Read left left' (λ bytes. HasInput call_input bytes (IsNotCallable name)) × Keeps old new × (line ≡ line_of status.NotCallable)
IsEndUnder o left left' read old new write status.NotChained line = IsChainMode o × Read left left' (λ bytes. HasInput chain_input bytes IsNotChained) × Keeps old new × (line ≡ line_of status.NotChained)
IsEndUnder o left left' read old new write status.BadValue line = IsJsonMode o × Read left left' (λ bytes. TellsBadValue o.chain o.call bytes line) × Keeps old new
IsEndUnder o left left' read old new write status.OverLimit line = IsJsonMode o × Read left left' (λ bytes. HoldsOverLimitBy o.chain o.call bytes) × Keeps old new × (line ≡ line_of status.OverLimit)
IsEndUnder o left left' read old new write status.OutOfMemory line = Keeps old new × (line ≡ line_of status.OutOfMemory)

-- how a run ends
abbrev pub IsEnding : List (List ℕ) → Option (List ℕ) → Option (List ℕ) → Type 0 → Option (List ℕ) → Option (List ℕ) → Type 0 → Status → List ℕ → Type 0
IsEnding words left left' read old new write status.Usage line = (reading words ≡ None) × Keeps old new × (line ≡ line_of status.Usage)
IsEnding words left left' read old new write status.OutOfMemory line = Keeps old new × (line ≡ line_of status.OutOfMemory)
IsEnding words left left' read old new write s line = (o : CommandOptions) × (reading words ≡ Some o) × IsEndUnder o left left' read old new write s line
