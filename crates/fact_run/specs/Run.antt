-- What a run reads and writes. That it wrote the module of a plan, with all that this promises, is `SendsPage`, by `Prints`; that it counted, checked,
-- called or chained, the other records of `SendsBy`.
use Rattle.std.specs.Prelude.{ℕ, ◌≡◌, List, [], ◌∷◌, ◌++◌, length, Bool, true, false, if◌then◌else◌, Option, Some, None, IsSome, IsSomeAnd, ◌⊎◌, codes}
use Rattle.std.specs.Io.KnownBytes.{Appends}
use Rattle.std.specs.Fmt.{decimal}
use Rattle.hex.specs.Hex.{encode_lower}
use Rattle.fact_wasm.specs.declared.module.WasmModule.{WasmModule}
use Rattle.fact_wasm.specs.Ranges.{InRange}
use Rattle.fact_binary.specs.Spelling.{Spells}
use Rattle.fact_io.specs.Faults.{Rose}
use Rattle.fact_io.specs.Transfers.{AppendsFront, TakesAll}
use Rattle.fact_plan.specs.declared.plan.FusePlan.{FusePlan}
use Rattle.fact_plan.specs.declared.fault.PlanFault.{PlanFault}
use Rattle.fact_plan.specs.Inputs.{HasInput, HoldsBadPlan, HoldsFaultyInput, HoldsInput, HoldsNoJson, IsTooLong, tuned}
use Rattle.fact_plan_types.specs.declared.error.Place.{Place}
use Rattle.fact_plan_types.specs.Faults.{Fault}
use Rattle.fact_adapter_rules.specs.FirstFault.{IsFirstAt}
use Rattle.fact_adapter_rules.specs.Inputs.{HoldsFaultless, HoldsRefusal}
use Rattle.fact_generate.specs.Generated.{generated}
use Rattle.fact_module.specs.declared.fusion.Fused.{Fused}
use Rattle.fact_types.specs.declared.import.Import.{Import}
use Rattle.fact_module.specs.Fused.{IsFused}
use Rattle.fact_command.specs.declared.command.CommandOptions.{CommandOptions}
use Rattle.fact_command.specs.declared.status.Status.{Status}
use Rattle.fact_command.specs.declared.status.Status.TheVariants as status
use Rattle.fact_command.specs.Command.{reading}
use Rattle.fact_call_mode.specs.Calls.{HasBadValue, IsNotCallable, IsOverLimit, TellsCallInput}
use Rattle.fact_call_mode.specs.Inputs.{CallInput, call_input}
use Rattle.fact_chain_mode.specs.ChainInputs.{ChainInput, chain_input}
use Rattle.fact_chain_mode.specs.ChainTexts.{HasBadChainValue, IsChainOverLimit, IsNotChained, TellsChainInput}
use Rattle.fact_run.specs.Check.{HoldsAccepted, accepted_line}
use Rattle.fact_command.specs.ImportLines.{import_lines}

-- ---- what an input of some bytes comes to: each input comes to one of these

-- Where two adapters are chained, or one of some name is called, the bytes hold an input in place of a plan: its first fault, and the first fault of
-- its plan.
abbrev pub HoldsBadPlanBy : (chain : Bool) → (call : Option (List ℕ)) → List ℕ → PlanFault → Type 0
HoldsBadPlanBy true call bytes f = HoldsFaultyInput chain_input bytes f
HoldsBadPlanBy false None bytes f = HoldsBadPlan bytes f
HoldsBadPlanBy false (Some name) bytes f = HoldsFaultyInput call_input bytes f

abbrev pub HoldsRefusalBy : (chain : Bool) → (call : Option (List ℕ)) → List ℕ → Fault → Place → Type 0
HoldsRefusalBy true call bytes f place = HasInput chain_input bytes (λ i. IsFirstAt i.plan f place)
HoldsRefusalBy false None bytes f place = HoldsRefusal bytes f place
HoldsRefusalBy false (Some name) bytes f place = HasInput call_input bytes (λ i. IsFirstAt i.plan f place)

-- And there the values have this first fault, or do not fit.
abbrev pub HoldsBadValueBy : (chain : Bool) → (call : Option (List ℕ)) → List ℕ → PlanFault → Type 0
HoldsBadValueBy true call bytes f = HasInput chain_input bytes (λ i. HasBadChainValue i f)
HoldsBadValueBy false None bytes f = ⊥
HoldsBadValueBy false (Some name) bytes f = HasInput call_input bytes (λ i. HasBadValue name i f)

abbrev pub HoldsOverLimitBy : (chain : Bool) → (call : Option (List ℕ)) → List ℕ → Type 0
HoldsOverLimitBy true call bytes = HasInput chain_input bytes IsChainOverLimit
HoldsOverLimitBy false None bytes = ⊥
HoldsOverLimitBy false (Some name) bytes = HasInput call_input bytes (IsOverLimit name)

-- All that the source had was taken, and it is so.
pub record Read (left left' : Option (List ℕ)) (P : List ℕ → Type 0) : Type 0 where
  pub bytes : List ℕ
  pub all : TakesAll left left' bytes
  pub is_so : P bytes

-- ---- what is written

-- the plan with the tunables of the run: debug checks where the plan or the words ask for them, and the words' fuel
abbrev pub configured : CommandOptions → FusePlan → FusePlan
configured o p = tuned o.debug o.fuel p

-- bytes in lower-case hex and a newline
abbrev pub hex_line : List ℕ → List ℕ
hex_line bytes = encode_lower bytes ++ 10 ∷ []

-- the printed text of a module: its bytes, and the lines of its imports where they are asked for
abbrev pub page : List ℕ → List Import → Bool → List ℕ
page bytes imports asked = hex_line bytes ++ (if asked then import_lines imports else [])

-- The text prints the module of the plan: its bytes spell it, and no other module in range.
pub record Prints (o : CommandOptions) (p : FusePlan) (text : List ℕ) : Type 0 where
  pub fused : Fused
  pub is_fused : IsFused fused (configured o p)
  pub is_only : (m : WasmModule) → InRange m → Spells fused.bytes m → m ≡ fused.module
  pub is_page : text ≡ page fused.bytes fused.imports o.imports

-- The bytes hold a plan without faults, and of the text that prints its module this was sent.
pub record SendsPage (o : CommandOptions) (bytes : List ℕ) (Sent : List ℕ → Type 0) : Type 0 where
  pub holds : HoldsFaultless bytes
  pub text : List ℕ
  pub prints : Prints o holds.plan text
  pub sent : Sent text

-- a line of a name and a number in decimal
abbrev pub count_line : List ℕ → ℕ → List ℕ
count_line name n = name ++ (codes " " ++ (decimal n ++ 10 ∷ []))

-- how many adapters a plan has, and of its module how many functions it defines, how many imports it has and how many bytes spell it
abbrev pub counts : FusePlan → Fused → List ℕ
counts p f =
    count_line (codes "adapters") (length p.adapters) ++ (count_line (codes "functions") (length f.«module».funcs)
    ++ (count_line (codes "imports") (length f.«module».imports) ++ count_line (codes "bytes") (length f.bytes)))

-- The text tells the counts of a module of the plan that is generated for so many adapters.
pub record Counts (o : CommandOptions) (n : ℕ) (text : List ℕ) : Type 0 where
  pub fused : Fused
  pub is_fused : IsFused fused (configured o (generated n))
  pub is_counts : text ≡ counts (generated n) fused

-- Of the text that tells these counts this was sent.
pub record SendsCounts (o : CommandOptions) (n : ℕ) (Sent : List ℕ → Type 0) : Type 0 where
  pub text : List ℕ
  pub counted : Counts o n text
  pub sent : Sent text

-- ---- the mode

-- The digits of an input spell an adapter module, and of the line that tells it this was sent.
pub record SendsAccepted (input : List ℕ) (Sent : List ℕ → Type 0) : Type 0 where
  pub found : WasmModule
  pub holds : HoldsAccepted input found
  pub sent : Sent (accepted_line found)

-- The bytes hold an input, and of the text that tells the call of an adapter of it this was sent.
pub record SendsCall (fuel : ℕ) (name bytes : List ℕ) (Sent : List ℕ → Type 0) : Type 0 where
  pub input : CallInput
  pub holds : HoldsInput call_input bytes input
  pub text : List ℕ
  pub tells : TellsCallInput fuel name input text
  pub sent : Sent text

-- The bytes hold an input, and of the text that tells the chain of two adapters of it this was sent.
pub record SendsChain (fuel : ℕ) (bytes : List ℕ) (Sent : List ℕ → Type 0) : Type 0 where
  pub input : ChainInput
  pub holds : HoldsInput chain_input bytes input
  pub text : List ℕ
  pub tells : TellsChainInput fuel input text
  pub sent : Sent text

-- What was sent: where bytes are checked of the line that accepts them, where an adapter is called or two are chained of the text that tells it, where
-- a plan is generated of its counts, and else of the text that prints the module of the plan that was read.
abbrev pub SendsBy : (check chain : Bool) → (call : Option (List ℕ)) → Option ℕ → CommandOptions → (left left' : Option (List ℕ)) → (List ℕ → Type 0) → Type 0
SendsBy true chain call generate o left left' Sent = Read left left' (λ input. SendsAccepted input Sent)
SendsBy false true call generate o left left' Sent = Read left left' (λ bytes. SendsChain o.fuel bytes Sent)
SendsBy false false (Some name) generate o left left' Sent = Read left left' (λ bytes. SendsCall o.fuel name bytes Sent)
SendsBy false false None None o left left' Sent = Read left left' (λ bytes. SendsPage o bytes Sent)
SendsBy false false None (Some n) o left left' Sent = SendsCounts o n Sent

abbrev pub Sends : CommandOptions → (left left' : Option (List ℕ)) → (List ℕ → Type 0) → Type 0
Sends o left left' Sent = SendsBy o.check o.chain o.call o.generate o left left' Sent

-- a plan is read
pub record IsPlanMode (o : CommandOptions) : Type 0 where
  pub not_generated : o.generate ≡ None
  pub not_checked : o.check ≡ false
  pub not_called : o.call ≡ None
  pub not_chained : o.chain ≡ false

-- the adapter of a name is called
pub record IsCallMode (o : CommandOptions) (name : List ℕ) : Type 0 where
  pub not_generated : o.generate ≡ None
  pub not_checked : o.check ≡ false
  pub called : o.call ≡ Some name
  pub not_chained : o.chain ≡ false

-- two adapters are chained
pub record IsChainMode (o : CommandOptions) : Type 0 where
  pub not_generated : o.generate ≡ None
  pub not_checked : o.check ≡ false
  pub not_called : o.call ≡ None
  pub chained : o.chain ≡ true

-- one of these: a JSON text is read
pub record IsJsonMode (o : CommandOptions) : Type 0 where
  pub not_generated : o.generate ≡ None
  pub not_checked : o.check ≡ false

-- The command takes the words, and a plan is read.
abbrev pub ReadsPlan : List (List ℕ) → Type 0
ReadsPlan words = IsSomeAnd (reading words) IsPlanMode

-- The command takes the words, and a JSON text is read, of a plan or of the input of a call or a chain.
abbrev pub ReadsJson : List (List ℕ) → Type 0
ReadsJson words = IsSomeAnd (reading words) IsJsonMode

-- The command takes the words, and the adapter of a name is called.
abbrev pub AsksCall : List (List ℕ) → (name : List ℕ) → Type 0
AsksCall words name = IsSomeAnd (reading words) (λ o. IsCallMode o name)

-- The command takes the words, and two adapters are chained.
abbrev pub AsksChain : List (List ℕ) → Type 0
AsksChain words = IsSomeAnd (reading words) IsChainMode

-- The command takes the words, and a plan is generated.
abbrev pub GeneratesPlan : List (List ℕ) → Type 0
GeneratesPlan words = IsSomeAnd (reading words) (λ o. IsSome o.generate)

-- The command takes the words, and bytes are checked.
abbrev pub ChecksBytes : List (List ℕ) → Type 0
ChecksBytes words = IsSomeAnd (reading words) (λ o. o.check ≡ true)

-- the ends of a run that reads nothing
abbrev pub IsEndUnread : Status → Type 0
IsEndUnread s = (s ≡ status.Done) ⊎ ((s ≡ status.WriteFault) ⊎ (s ≡ status.OutOfMemory))

-- ---- sources and lines

-- A front of the line was appended, and all of it where no fault rose.
pub record TellsLine (old new : Option (List ℕ)) (before now : ℕ) (line : List ℕ) : Type 0 where
  pub front : AppendsFront old new line
  pub whole : (Rose before now → ⊥) → Appends old new line

-- The command takes the words, a plan is read, and no read failed.
pub record IsUndisturbedPlan (words : List (List ℕ)) (before now : ℕ) : Type 0 where
  pub reads : ReadsPlan words
  pub no_fault : Rose before now → ⊥

-- The command takes the words, bytes are checked, and no read failed.
pub record IsUndisturbedCheck (words : List (List ℕ)) (before now : ℕ) : Type 0 where
  pub checks : ChecksBytes words
  pub no_fault : Rose before now → ⊥

-- The end is this one, or a want of memory.
abbrev pub IsOrMemory : Status → Status → Type 0
IsOrMemory wanted s = (s ≡ wanted) ⊎ (s ≡ status.OutOfMemory)

-- The command takes the words, the adapter of a name is called, and no read failed.
pub record IsUndisturbedCall (words : List (List ℕ)) (name : List ℕ) (before now : ℕ) : Type 0 where
  pub asks : AsksCall words name
  pub no_fault : Rose before now → ⊥

-- How a run that calls the adapter of a name ends, by what the bytes hold, where none can be called with them.
pub record EndsAsCall (name bytes : List ℕ) (s : Status) : Type 0 where
  pub too_long : IsTooLong bytes → IsOrMemory status.TooLong s
  pub not_json : HoldsNoJson bytes → IsOrMemory status.NotJson s
  pub bad_plan : ((f : PlanFault) × HoldsFaultyInput call_input bytes f) → IsOrMemory status.BadPlan s
  pub refused : ((f : Fault) × (place : Place) × HasInput call_input bytes (λ i. IsFirstAt i.plan f place)) → IsOrMemory status.Refused s
  pub not_callable : HasInput call_input bytes (IsNotCallable name) → IsOrMemory status.NotCallable s
  pub bad_value : ((f : PlanFault) × HasInput call_input bytes (λ i. HasBadValue name i f)) → IsOrMemory status.BadValue s
  pub over_limit : HasInput call_input bytes (IsOverLimit name) → IsOrMemory status.OverLimit s

-- The command takes the words, two adapters are chained, and no read failed.
pub record IsUndisturbedChain (words : List (List ℕ)) (before now : ℕ) : Type 0 where
  pub asks : AsksChain words
  pub no_fault : Rose before now → ⊥

-- How a run that chains two adapters ends, by what the bytes hold, where none can be chained with them.
pub record EndsAsChain (bytes : List ℕ) (s : Status) : Type 0 where
  pub too_long : IsTooLong bytes → IsOrMemory status.TooLong s
  pub not_json : HoldsNoJson bytes → IsOrMemory status.NotJson s
  pub bad_plan : ((f : PlanFault) × HoldsFaultyInput chain_input bytes f) → IsOrMemory status.BadPlan s
  pub refused : ((f : Fault) × (place : Place) × HasInput chain_input bytes (λ i. IsFirstAt i.plan f place)) → IsOrMemory status.Refused s
  pub not_chained : HasInput chain_input bytes IsNotChained → IsOrMemory status.NotChained s
  pub bad_value : ((f : PlanFault) × HasInput chain_input bytes (λ i. HasBadChainValue i f)) → IsOrMemory status.BadValue s
  pub over_limit : HasInput chain_input bytes IsChainOverLimit → IsOrMemory status.OverLimit s
