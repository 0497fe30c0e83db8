-- How the ends of a run that calls an adapter follow from what was read.
use Rattle.std.proofs.Common.{◌≡◌, ℕ, zero, suc, ◌≤◌, Bool, true, false, List, length, Option, None, Some, Result, Ok, Err, IfSome, ◌⊎◌, inl, inr, refl, sym, subst, ap, ◌∙◌, arith, string_bytes}
use Rattle.std.specs.Prelude.{IsSomeAnd, codes, nat_lt}
use Rattle.std.proofs.lemmas.Bool.{false≢true, lt-ltb, le-ltb}
use Rattle.std.specs.Io.KnownBytes.{Appends}
use Rattle.serde_json.specs.Data.{Data}
use Rattle.fact_io.specs.Transfers.{AppendsFront, TakesAll}
use Rattle.fact_io.specs.Faults.{Rose}
use Rattle.fact_types.proofs.ShapeLaws.{none_some, same_some}
use Rattle.fact_types.specs.Adapters.{LinkedAdapter}
use Rattle.fact_plan.specs.declared.fault.PlanFault.{PlanFault}
use Rattle.fact_plan.specs.Fault.{fault_line}
use Rattle.fact_plan.specs.Reading.{value_in}
use Rattle.fact_plan.specs.Inputs.{HasInput, HoldsFaultyInput, HoldsInput, HoldsNoJson, IsTooLong, limit}
use Rattle.fact_plan_types.specs.declared.error.Place.{Place}
use Rattle.fact_plan_types.specs.Faults.{Fault}
use Rattle.fact_adapter_rules.specs.Adapters.{adapters_of}
use Rattle.fact_adapter_rules.specs.FirstFault.{IsFaultlessPlan, IsFirstAt}
use Rattle.fact_adapter_rules.proofs.FaultLaws.{faultless-first}
use Rattle.fact_values.specs.declared.value.Value.{Value}
use Rattle.fact_call_mode.specs.declared.reply.CallReply.{CallReply}
use Rattle.fact_call_mode.specs.declared.reply.CallReply.TheVariants as call_reply
use Rattle.fact_call_mode.specs.Calls.{AreBadCallValues, AreOver, HasBadValue, HasCall, IsNotCallable, IsOverLimit, NamesCallable, args_of, callable_named, fits_args, fits_results, results_of}
use Rattle.fact_call_mode.specs.Inputs.{CallInput, call_input}
use Rattle.fact_call_mode.specs.Replies.{IsReplyToCall}
use Rattle.fact_command.specs.declared.command.CommandOptions.{CommandOptions}
use Rattle.fact_command.specs.declared.status.Status.{Status}
use Rattle.fact_command.specs.declared.status.Status.TheVariants as status
use Rattle.fact_command.specs.Command.{HasOneMode, reading}
use Rattle.fact_run.specs.declared.reply.Reply.{Reply}
use Rattle.fact_run.specs.declared.reply.Reply.TheVariants as reply
use Rattle.fact_run.specs.Replies.{IsCallReply, IsEnding, IsReplyToCalled, IsReplyToBadPlan, IsReplyToRefusal, IsReplyToBadValue, IsReplyUnder, IsToldReply, TellsBadValue, TellsBadPlan, TellsRefusalIn}
use Rattle.fact_run.specs.Run.{AsksCall, EndsAsCall, HoldsBadValueBy, HoldsOverLimitBy, IsCallMode, IsOrMemory, IsUndisturbedCall, Read, Sends, SendsBy, SendsCall, TellsLine}
use Rattle.fact_run.proofs.Ends.{fault-by, over-by, over-in, past, refusal-by, refused-in, sends-in, so, told-in, value-by, value-in}

-- ---- from what was read to a reply

-- the line of a fault in the input
told-bad : (fuel : ℕ) (name bytes : List ℕ) (f : PlanFault) (r : Reply) → HoldsFaultyInput call_input bytes f → IsReplyToBadPlan f r → IsReplyToCalled fuel name bytes r
told-bad fuel name bytes f (reply.BadPlan line) h e = record { fault = f; holds = h; is_line = e.1 }
told-bad fuel name bytes f reply.OutOfMemory h e = tt
told-bad fuel name bytes f (reply.Page text) h e = absurd e
told-bad fuel name bytes f reply.ReadFault h e = absurd e
told-bad fuel name bytes f reply.TooLong h e = absurd e
told-bad fuel name bytes f reply.NotJson h e = absurd e
told-bad fuel name bytes f (reply.Refused line) h e = absurd e
told-bad fuel name bytes f reply.NotHex h e = absurd e
told-bad fuel name bytes f (reply.Rejected line) h e = absurd e
told-bad fuel name bytes f reply.NotCallable h e = absurd e
told-bad fuel name bytes f reply.NotChained h e = absurd e
told-bad fuel name bytes f (reply.BadValue line) h e = absurd e
told-bad fuel name bytes f reply.OverLimit h e = absurd e

-- of the plan in it
told-refused : (fuel : ℕ) (name bytes : List ℕ) (f : Fault) (place : Place) (r : Reply) → HasInput call_input bytes (λ i. IsFirstAt i.plan f place) → IsReplyToRefusal (Some (f, place)) r → IsReplyToCalled fuel name bytes r
told-refused fuel name bytes f place (reply.Refused line) h e = record { fault = f; place = place; holds = h; is_line = e }
told-refused fuel name bytes f place reply.OutOfMemory h e = tt
told-refused fuel name bytes f place (reply.Page text) h e = absurd e
told-refused fuel name bytes f place reply.ReadFault h e = absurd e
told-refused fuel name bytes f place reply.TooLong h e = absurd e
told-refused fuel name bytes f place reply.NotJson h e = absurd e
told-refused fuel name bytes f place (reply.BadPlan line) h e = absurd e
told-refused fuel name bytes f place reply.NotHex h e = absurd e
told-refused fuel name bytes f place (reply.Rejected line) h e = absurd e
told-refused fuel name bytes f place reply.NotCallable h e = absurd e
told-refused fuel name bytes f place reply.NotChained h e = absurd e
told-refused fuel name bytes f place (reply.BadValue line) h e = absurd e
told-refused fuel name bytes f place reply.OverLimit h e = absurd e

-- and of its values
told-value : (fuel : ℕ) (name bytes : List ℕ) (f : PlanFault) (r : Reply) → HasInput call_input bytes (λ i. HasBadValue name i f) → IsReplyToBadValue f r → IsReplyToCalled fuel name bytes r
told-value fuel name bytes f (reply.BadValue line) h e = record { fault = f; holds = h; is_line = e.1 }
told-value fuel name bytes f reply.OutOfMemory h e = tt
told-value fuel name bytes f (reply.Page text) h e = absurd e
told-value fuel name bytes f reply.ReadFault h e = absurd e
told-value fuel name bytes f reply.TooLong h e = absurd e
told-value fuel name bytes f reply.NotJson h e = absurd e
told-value fuel name bytes f (reply.BadPlan line) h e = absurd e
told-value fuel name bytes f (reply.Refused line) h e = absurd e
told-value fuel name bytes f reply.NotHex h e = absurd e
told-value fuel name bytes f (reply.Rejected line) h e = absurd e
told-value fuel name bytes f reply.NotCallable h e = absurd e
told-value fuel name bytes f reply.NotChained h e = absurd e
told-value fuel name bytes f reply.OverLimit h e = absurd e

-- the line of each reply to a call
pub told-call : (fuel : ℕ) (name bytes : List ℕ) (c : CallReply) (r : Reply) → IsReplyToCall fuel name bytes c → IsToldReply c r → IsReplyToCalled fuel name bytes r
told-call fuel name bytes call_reply.NotJson r h e = subst (IsReplyToCalled fuel name bytes) (sym e) h
told-call fuel name bytes (call_reply.BadPlan f) r h e = told-bad fuel name bytes f r h.1 e
told-call fuel name bytes (call_reply.Refused error) r h e =
    let t = h.is_so in
    told-refused fuel name bytes t.fault t.place r (record { input = h.input; holds = h.holds; is_so = t.is_first }) (subst (λ o. IsReplyToRefusal o r) t.is_told e)
told-call fuel name bytes call_reply.NotCallable r h e = subst (IsReplyToCalled fuel name bytes) (sym e) h
told-call fuel name bytes (call_reply.BadValue f) r h e = told-value fuel name bytes f r (record { input = h.input; holds = h.holds; is_so = h.is_so.1 }) e
told-call fuel name bytes call_reply.OverLimit r h e = subst (IsReplyToCalled fuel name bytes) (sym e) h
told-call fuel name bytes (call_reply.Page text) r h e =
    subst (IsReplyToCalled fuel name bytes) (sym e) (record { input = h.input; holds = h.holds; text = string_bytes text; tells = h.is_so; sent = refl })
told-call fuel name bytes call_reply.OutOfMemory r h e = subst (IsReplyToCalled fuel name bytes) (sym e) tt

-- all the bytes of a source
pub replied-call : (fuel : ℕ) (name : List ℕ) (left left' : Option (List ℕ)) (fault : Type 0) (bytes : List ℕ) (r : Reply) → TakesAll left left' bytes → IsReplyToCalled fuel name bytes r → IsCallReply fuel name left left' fault r
replied-call fuel name left left' fault bytes (reply.Page text) all h = record { bytes = bytes; all = all; is_so = h }
replied-call fuel name left left' fault bytes reply.ReadFault all h = absurd h
replied-call fuel name left left' fault bytes reply.TooLong all h = absurd h
replied-call fuel name left left' fault bytes reply.NotJson all h = record { bytes = bytes; all = all; is_so = h }
replied-call fuel name left left' fault bytes (reply.BadPlan line) all h = record { bytes = bytes; all = all; is_so = h }
replied-call fuel name left left' fault bytes (reply.Refused line) all h = record { bytes = bytes; all = all; is_so = h }
replied-call fuel name left left' fault bytes reply.NotHex all h = absurd h
replied-call fuel name left left' fault bytes (reply.Rejected line) all h = absurd h
replied-call fuel name left left' fault bytes reply.NotCallable all h = record { bytes = bytes; all = all; is_so = h }
replied-call fuel name left left' fault bytes reply.NotChained all h = absurd h
replied-call fuel name left left' fault bytes (reply.BadValue line) all h = record { bytes = bytes; all = all; is_so = h }
replied-call fuel name left left' fault bytes reply.OverLimit all h = record { bytes = bytes; all = all; is_so = h }
replied-call fuel name left left' fault bytes reply.OutOfMemory all h = tt

-- ---- modes

-- where an adapter is called, that is all that is done
pub is-call-mode : (o : CommandOptions) (name : List ℕ) → HasOneMode o → o.call ≡ Some name → IsCallMode o name
is-call-mode o name one e = let alone = one.call name e in record { not_generated = alone.0; not_checked = alone.1; called = e; not_chained = alone.2 }

-- what a source comes to, where an adapter is called
pub replied-called : (o : CommandOptions) (name : List ℕ) (left left' : Option (List ℕ)) (fault : Type 0) (r : Reply) → IsCallMode o name → IsCallReply o.fuel name left left' fault r → IsReplyUnder o left left' fault r
replied-called o name left left' fault (reply.Page text) mode h = sends-in false false (Some name) None o left left' (λ sent. sent ≡ string_bytes text) mode.not_checked mode.not_chained mode.called mode.not_generated h
replied-called o name left left' fault reply.ReadFault mode h = h
replied-called o name left left' fault reply.TooLong mode h = h
replied-called o name left left' fault reply.NotJson mode h = (record { not_generated = mode.not_generated; not_checked = mode.not_checked }, h)
replied-called o name left left' fault (reply.BadPlan line) mode h = (record { not_generated = mode.not_generated; not_checked = mode.not_checked }, told-in false (Some name) o left left' (string_bytes line) mode.not_chained mode.called h)
replied-called o name left left' fault (reply.Refused line) mode h = (record { not_generated = mode.not_generated; not_checked = mode.not_checked }, refused-in false (Some name) o left left' (string_bytes line) mode.not_chained mode.called h)
replied-called o name left left' fault reply.NotHex mode h = absurd h.is_so
replied-called o name left left' fault (reply.Rejected line) mode h = absurd h.is_so
replied-called o name left left' fault reply.NotCallable mode h = (name, mode, h)
replied-called o name left left' fault reply.NotChained mode h = absurd h.is_so
replied-called o name left left' fault (reply.BadValue line) mode h = (record { not_generated = mode.not_generated; not_checked = mode.not_checked }, value-in false (Some name) o left left' (string_bytes line) mode.not_chained mode.called h)
replied-called o name left left' fault reply.OverLimit mode h = (record { not_generated = mode.not_generated; not_checked = mode.not_checked }, over-in false (Some name) o left left' mode.not_chained mode.called h)
replied-called o name left left' fault reply.OutOfMemory mode h = tt

-- the words ask for the call
options-call : (words : List (List ℕ)) (o : CommandOptions) (name : List ℕ) → reading words ≡ Some o → AsksCall words name → IsCallMode o name
options-call words o name e g = let P : Option CommandOptions → Type 0 = λ r. IsSomeAnd r (λ x. IsCallMode x name) in subst P e g

none-calls : (words : List (List ℕ)) (name : List ℕ) → reading words ≡ None → AsksCall words name → ⊥
none-calls words name e g = let P : Option CommandOptions → Type 0 = λ r. IsSomeAnd r (λ x. IsCallMode x name) in subst P e g

pub call-asked : (words : List (List ℕ)) (o : CommandOptions) (name : List ℕ) → reading words ≡ Some o → IsCallMode o name → AsksCall words name
call-asked words o name e h = let P : Option CommandOptions → Type 0 = λ r. IsSomeAnd r (λ x. IsCallMode x name) in subst P (sym e) h

-- of one name
same-name : (o : CommandOptions) (x y : List ℕ) → IsCallMode o x → IsCallMode o y → x ≡ y
same-name o x y a b = same_some o.call x y a.called b.called

-- what was sent
sent-called : (words : List (List ℕ)) (o : CommandOptions) (name : List ℕ) (left left' : Option (List ℕ)) (Sent : List ℕ → Type 0) → reading words ≡ Some o → AsksCall words name → Sends o left left' Sent
    → Read left left' (λ bytes. SendsCall o.fuel name bytes Sent)
sent-called words o name left left' Sent e asks h =
    let mode = options-call words o name e asks in
    let P : Bool → Type 0 = λ b. SendsBy b o.chain o.call o.generate o left left' Sent in
    let L : Bool → Type 0 = λ b. SendsBy false b o.call o.generate o left left' Sent in
    let N : Option (List ℕ) → Type 0 = λ x. SendsBy false false x o.generate o left left' Sent in
    subst N mode.called (subst L mode.not_chained (subst P mode.not_checked h))

-- ---- each input comes to one end

-- what the bytes of an input hold at an end
abbrev pub IsOfCall : (name : List ℕ) → Status → List ℕ → Type 0
IsOfCall name status.TooLong bytes = IsTooLong bytes
IsOfCall name status.NotJson bytes = HoldsNoJson bytes
IsOfCall name status.BadPlan bytes = (f : PlanFault) × HoldsFaultyInput call_input bytes f
IsOfCall name status.Refused bytes = (f : Fault) × (place : Place) × HasInput call_input bytes (λ i. IsFirstAt i.plan f place)
IsOfCall name status.NotCallable bytes = HasInput call_input bytes (IsNotCallable name)
IsOfCall name status.BadValue bytes = (f : PlanFault) × HasInput call_input bytes (λ i. HasBadValue name i f)
IsOfCall name status.OverLimit bytes = HasInput call_input bytes (IsOverLimit name)
IsOfCall name status.Done bytes = HasInput call_input bytes (HasCall name)
IsOfCall name status.WriteFault bytes = HasInput call_input bytes (HasCall name)
IsOfCall name _ bytes = ⊥

-- an input of which a call was told is one with a call
with-call : (fuel : ℕ) (name bytes : List ℕ) (Sent : List ℕ → Type 0) → SendsCall fuel name bytes Sent → HasInput call_input bytes (HasCall name)
with-call fuel name bytes Sent a = record { input = a.input; holds = a.holds; is_so = a.tells.called }

-- an end without a fault, of a run that calls an adapter, tells what the bytes hold
call-end-of : (words : List (List ℕ)) (name bytes : List ℕ) (left' : Option (List ℕ)) (read : Type 0) (old new : Option (List ℕ)) (write : Type 0) (s : Status) (line : List ℕ)
    → IsEnding words (Some bytes) left' read old new write s line → AsksCall words name → (read → ⊥) → IsOfCall name s bytes ⊎ (s ≡ status.OutOfMemory)
call-end-of words name bytes left' read old new write status.Done line h given none =
    let a = so bytes left' (λ b. SendsCall h.0.fuel name b (λ text. Appends old new text)) (sent-called words h.0 name (Some bytes) left' (λ text. Appends old new text) h.1 given h.2.0) in
    inl (with-call h.0.fuel name bytes (λ text. Appends old new text) a)
call-end-of words name bytes left' read old new write status.Usage line h given none = absurd (none-calls words name h.0 given)
call-end-of words name bytes left' read old new write status.ReadFault line h given none = absurd (none h.2.0)
call-end-of words name bytes left' read old new write status.WriteFault line h given none =
    let a = so bytes left' (λ b. SendsCall h.0.fuel name b (λ text. AppendsFront old new text)) (sent-called words h.0 name (Some bytes) left' (λ text. AppendsFront old new text) h.1 given h.2.1) in
    inl (with-call h.0.fuel name bytes (λ text. AppendsFront old new text) a)
call-end-of words name bytes left' read old new write status.TooLong line h given none = inl (past bytes left' h.2.0)
call-end-of words name bytes left' read old new write status.NotJson line h given none = inl (so bytes left' HoldsNoJson h.2.1)
call-end-of words name bytes left' read old new write status.BadPlan line h given none =
    let t = so bytes left' (λ b. TellsBadPlan h.0.chain h.0.call b line) h.2.1 in
    let mode = options-call words h.0 name h.1 given in
    inl (t.fault, fault-by h.0 false (Some name) bytes t.fault mode.not_chained mode.called t.holds)
call-end-of words name bytes left' read old new write status.Refused line h given none =
    let t = so bytes left' (λ b. TellsRefusalIn h.0.chain h.0.call b line) h.2.1 in
    let mode = options-call words h.0 name h.1 given in
    inl (t.fault, t.place, refusal-by h.0 false (Some name) bytes t.fault t.place mode.not_chained mode.called t.holds)
call-end-of words name bytes left' read old new write status.NotHex line h given none = absurd (false≢true (sym (options-call words h.0 name h.1 given).not_checked ∙ h.2.0))
call-end-of words name bytes left' read old new write status.Rejected line h given none = absurd (false≢true (sym (options-call words h.0 name h.1 given).not_checked ∙ h.2.0))
call-end-of words name bytes left' read old new write status.NotCallable line h given none =
    let P : List ℕ → Type 0 = λ x. HasInput call_input bytes (IsNotCallable x) in
    inl (subst P (same-name h.0 h.2.0 name h.2.1 (options-call words h.0 name h.1 given)) (so bytes left' (λ b. HasInput call_input b (IsNotCallable h.2.0)) h.2.2))
call-end-of words name bytes left' read old new write status.NotChained line h given none = absurd (false≢true (sym (options-call words h.0 name h.1 given).not_chained ∙ h.2.0.chained))
call-end-of words name bytes left' read old new write status.BadValue line h given none =
    let t = so bytes left' (λ b. TellsBadValue h.0.chain h.0.call b line) h.2.1 in
    let mode = options-call words h.0 name h.1 given in
    inl (t.fault, value-by h.0 false (Some name) bytes t.fault mode.not_chained mode.called t.holds)
call-end-of words name bytes left' read old new write status.OverLimit line h given none =
    let mode = options-call words h.0 name h.1 given in
    inl (over-by h.0 false (Some name) bytes mode.not_chained mode.called (so bytes left' (λ b. HoldsOverLimitBy h.0.chain h.0.call b) h.2.1))
call-end-of words name bytes left' read old new write status.OutOfMemory line h given none = inr refl

-- ---- how far the reading of an input comes: to its length, to JSON, to an input, to an adapter, to values, to their room, or past these

abbrev fit_stage : (args results : Bool) → ℕ
fit_stage false results = 5
fit_stage true false = 5
fit_stage true true = 6

abbrev values_stage : LinkedAdapter → Result (List Value) PlanFault → Result (List Value) PlanFault → ℕ
values_stage a (Err f) results = 4
values_stage a (Ok args) (Err f) = 4
values_stage a (Ok args) (Ok results) = fit_stage (fits_args a args) (fits_results a results)

abbrev adapter_stage : CallInput → Option LinkedAdapter → ℕ
adapter_stage i None = 3
adapter_stage i (Some a) = values_stage a (args_of a i) (results_of a i)

abbrev input_stage : (name : List ℕ) → Result CallInput PlanFault → ℕ
input_stage name (Err f) = 2
input_stage name (Ok i) = adapter_stage i (callable_named name (adapters_of i.plan))

abbrev value_stage : (name : List ℕ) → Option Data → ℕ
value_stage name None = 1
value_stage name (Some v) = input_stage name (call_input v)

abbrev stage : (name : List ℕ) → Bool → Option Data → ℕ
stage name true v = 0
stage name false v = value_stage name v

abbrev stage_of : (name bytes : List ℕ) → ℕ
stage_of name bytes = stage name (nat_lt limit (length bytes)) (value_in bytes)

-- the end that comes at a stage
abbrev end_at : ℕ → Status
end_at zero = status.TooLong
end_at (suc zero) = status.NotJson
end_at (suc (suc zero)) = status.BadPlan
end_at (suc (suc (suc zero))) = status.NotCallable
end_at (suc (suc (suc (suc zero)))) = status.BadValue
end_at (suc (suc (suc (suc (suc zero))))) = status.OverLimit
end_at (suc (suc (suc (suc (suc (suc n)))))) = status.Done

module _ (name bytes : List ℕ) where
  stage-long : IsTooLong bytes → stage_of name bytes ≡ 0
  stage-long h = ap (λ b. stage name b (value_in bytes)) (lt-ltb limit (length bytes) h)

  stage-value : (v : Option Data) → length bytes ≤ limit → value_in bytes ≡ v → stage_of name bytes ≡ value_stage name v
  stage-value v within e = ap (λ b. stage name b (value_in bytes)) (le-ltb limit (length bytes) within) ∙ ap (value_stage name) e

  stage-json : HoldsNoJson bytes → stage_of name bytes ≡ 1
  stage-json h = stage-value None h.within h.no_json

  stage-fault : (f : PlanFault) → HoldsFaultyInput call_input bytes f → stage_of name bytes ≡ 2
  stage-fault f h = stage-value (Some h.value) h.within h.is_json ∙ ap (input_stage name) h.is_fault

  stage-input : (i : CallInput) → HoldsInput call_input bytes i → stage_of name bytes ≡ adapter_stage i (callable_named name (adapters_of i.plan))
  stage-input i h = stage-value (Some h.value) h.within h.is_json ∙ ap (input_stage name) h.is_input

  stage-none : HasInput call_input bytes (IsNotCallable name) → stage_of name bytes ≡ 3
  stage-none h = stage-input h.input h.holds ∙ ap (adapter_stage h.input) h.is_so.none

  stage-callable : (i : CallInput) (a : LinkedAdapter) → HoldsInput call_input bytes i → NamesCallable name i a → stage_of name bytes ≡ values_stage a (args_of a i) (results_of a i)
  stage-callable i a h c = stage-input i h ∙ ap (adapter_stage i) c.named

  faulty : (i : CallInput) (a : LinkedAdapter) (f : PlanFault) → AreBadCallValues a i f → values_stage a (args_of a i) (results_of a i) ≡ 4
  faulty i a f (inl e) = ap (λ r. values_stage a r (results_of a i)) e
  faulty i a f (inr e) = ap (λ r. values_stage a r (results_of a i)) e.1 ∙ ap (values_stage a (Ok e.0)) e.2

  stage-bad : (f : PlanFault) → HasInput call_input bytes (λ i. HasBadValue name i f) → stage_of name bytes ≡ 4
  stage-bad f h = stage-callable h.input h.is_so.adapter h.holds h.is_so.callable ∙ faulty h.input h.is_so.adapter f h.is_so.faulty

  over : (i : CallInput) (a : LinkedAdapter) (o : AreOver a i) → values_stage a (args_of a i) (results_of a i) ≡ 5
  over i a o =
      ap (λ r. values_stage a r (results_of a i)) o.values.args_are ∙ ap (values_stage a (Ok o.args)) o.values.results_are ∙ by (fits_args a o.args) (fits_results a o.results) o.over
    where
      by : (x y : Bool) → (x ≡ false) ⊎ (y ≡ false) → fit_stage x y ≡ 5
      by x y (inl e) = ap (λ b. fit_stage b y) e
      by false y (inr e) = refl
      by true y (inr e) = ap (fit_stage true) e

  stage-over : HasInput call_input bytes (IsOverLimit name) → stage_of name bytes ≡ 5
  stage-over h = stage-callable h.input h.is_so.adapter h.holds h.is_so.callable ∙ over h.input h.is_so.adapter h.is_so.over

  stage-call : HasInput call_input bytes (HasCall name) → stage_of name bytes ≡ 6
  stage-call h =
      let c = h.is_so in
      stage-callable h.input c.adapter h.holds c.callable ∙ ap (λ r. values_stage c.adapter r (results_of c.adapter h.input)) c.fitting.values.args_are ∙ ap (values_stage c.adapter (Ok c.args)) c.fitting.values.results_are
      ∙ ap (λ b. fit_stage b (fits_results c.adapter c.results)) c.fitting.args_fit ∙ ap (fit_stage true) c.fitting.results_fit

  -- the bytes hold one input
  one-input : (i j : CallInput) → HoldsInput call_input bytes i → HoldsInput call_input bytes j → i ≡ j
  one-input i j h k =
      let values : h.value ≡ k.value = cc (h.is_json, k.is_json) in
      cc (h.is_input, k.is_input, ap call_input values)

  abbrev Refusal : Type 0
  Refusal = (f : Fault) × (place : Place) × HasInput call_input bytes (λ i. IsFirstAt i.plan f place)

  -- an input whose plan has no fault has no first one
  not-refused : (i : CallInput) → HoldsInput call_input bytes i → IsFaultlessPlan i.plan → Refusal → ⊥
  not-refused i h sound r =
      let q = r.2 in
      faultless-first i.plan r.0 r.1 sound (subst (λ (x : CallInput). IsFirstAt x.plan r.0 r.1) (one-input q.input i q.holds h) q.is_so)

  -- nor have bytes that hold no input
  long-input : IsTooLong bytes → Refusal → ⊥
  long-input h r = omega (arith, h, r.2.holds.within)

  no-input : HoldsNoJson bytes → Refusal → ⊥
  no-input h r = none_some (value_in bytes) r.2.holds.value h.no_json r.2.holds.is_json

  faulty-input : (f : PlanFault) → HoldsFaultyInput call_input bytes f → Refusal → ⊥
  faulty-input f h r =
      let values : h.value ≡ r.2.holds.value = cc (h.is_json, r.2.holds.is_json) in
      absurd (cc (h.is_fault, r.2.holds.is_input, ap call_input values))

  -- an end is that of its stage, but for that of a refusal and for a write fault
  data At (s : Status) : Type 0 where
    Refuses : Refusal → At s
    Writes : s ≡ status.WriteFault → stage_of name bytes ≡ 6 → At s
    Ends : s ≡ end_at (stage_of name bytes) → At s

  at : (s : Status) → IsOfCall name s bytes → At s
  at status.TooLong h = Ends (sym (ap end_at (stage-long h)))
  at status.NotJson h = Ends (sym (ap end_at (stage-json h)))
  at status.BadPlan h = Ends (sym (ap end_at (stage-fault h.0 h.1)))
  at status.Refused h = Refuses h
  at status.NotCallable h = Ends (sym (ap end_at (stage-none h)))
  at status.NotChained h = absurd h
  at status.BadValue h = Ends (sym (ap end_at (stage-bad h.0 h.1)))
  at status.OverLimit h = Ends (sym (ap end_at (stage-over h)))
  at status.Done h = Ends (sym (ap end_at (stage-call h)))
  at status.WriteFault h = Writes refl (stage-call h)
  at status.Usage h = absurd h
  at status.ReadFault h = absurd h
  at status.NotHex h = absurd h
  at status.Rejected h = absurd h
  at status.OutOfMemory h = absurd h

  -- so the stage of the bytes decides
  decided : (n : ℕ) (s : Status) → stage_of name bytes ≡ n → (Refusal → ⊥) → (s ≡ status.WriteFault → n ≡ 6 → ⊥) → IsOfCall name s bytes ⊎ (s ≡ status.OutOfMemory) → IsOrMemory (end_at n) s
  decided n s e sound clean (inr memory) = inr memory
  decided n s e sound clean (inl h) = by (at s h)
    where
      by : At s → IsOrMemory (end_at n) s
      by (Refuses r) = absurd (sound r)
      by (Writes w six) = absurd (clean w (sym e ∙ six))
      by (Ends same) = inl (same ∙ ap end_at e)

  refused-call : (s : Status) → Refusal → IsOfCall name s bytes ⊎ (s ≡ status.OutOfMemory) → IsOrMemory status.Refused s
  refused-call s r (inr memory) = inr memory
  refused-call status.Refused r (inl h) = inl refl
  refused-call status.TooLong r (inl h) = absurd (long-input h r)
  refused-call status.NotJson r (inl h) = absurd (no-input h r)
  refused-call status.BadPlan r (inl h) = absurd (faulty-input h.0 h.1 r)
  refused-call status.NotCallable r (inl h) = absurd (not-refused h.input h.holds h.is_so.faultless r)
  refused-call status.NotChained r (inl h) = absurd h
  refused-call status.BadValue r (inl h) = absurd (not-refused h.1.input h.1.holds h.1.is_so.callable.faultless r)
  refused-call status.OverLimit r (inl h) = absurd (not-refused h.input h.holds h.is_so.callable.faultless r)
  refused-call status.Done r (inl h) = absurd (not-refused h.input h.holds h.is_so.callable.faultless r)
  refused-call status.WriteFault r (inl h) = absurd (not-refused h.input h.holds h.is_so.callable.faultless r)
  refused-call status.Usage r (inl h) = absurd h
  refused-call status.ReadFault r (inl h) = absurd h
  refused-call status.NotHex r (inl h) = absurd h
  refused-call status.Rejected r (inl h) = absurd h
  refused-call status.OutOfMemory r (inl h) = absurd h

  -- how such a run ends
  ends : (s : Status) → IsOfCall name s bytes ⊎ (s ≡ status.OutOfMemory) → EndsAsCall name bytes s
  ends s h = record {
    too_long = λ p. decided 0 s (stage-long p) (long-input p) (λ w e. absurd (omega (arith, e))) h;
    not_json = λ p. decided 1 s (stage-json p) (no-input p) (λ w e. absurd (omega (arith, e))) h;
    bad_plan = λ p. decided 2 s (stage-fault p.0 p.1) (faulty-input p.0 p.1) (λ w e. absurd (omega (arith, e))) h;
    refused = λ p. refused-call s p h;
    not_callable = λ p. decided 3 s (stage-none p) (not-refused p.input p.holds p.is_so.faultless) (λ w e. absurd (omega (arith, e))) h;
    bad_value = λ p. decided 4 s (stage-bad p.0 p.1) (not-refused p.1.input p.1.holds p.1.is_so.callable.faultless) (λ w e. absurd (omega (arith, e))) h;
    over_limit = λ p. decided 5 s (stage-over p) (not-refused p.input p.holds p.is_so.callable.faultless) (λ w e. absurd (omega (arith, e))) h;
  }

  called-end : (s : Status) → (s ≡ status.WriteFault → ⊥) → HasInput call_input bytes (HasCall name) → IsOfCall name s bytes ⊎ (s ≡ status.OutOfMemory) → IsOrMemory status.Done s
  called-end s clean p h = decided 6 s (stage-call p) (not-refused p.input p.holds p.is_so.callable.faultless) (λ w e. clean w) h

-- Where an adapter is called, what a source's bytes hold decides the end.
pub exactly-called : (words : List (List ℕ)) (name : List ℕ) (left left' : Option (List ℕ)) (before now : ℕ) (old new : Option (List ℕ)) (write : Type 0) (s : Status) (line : List ℕ)
    → IsEnding words left left' (Rose before now) old new write s line → IsUndisturbedCall words name before now → IfSome left (λ bytes. EndsAsCall name bytes s)
exactly-called words name None left' before now old new write s line h calm = tt
exactly-called words name (Some bytes) left' before now old new write s line h calm =
    ends name bytes s (call-end-of words name bytes left' (Rose before now) old new write s line h calm.asks calm.no_fault)

pub complete-call : (words : List (List ℕ)) (name : List ℕ) (left left' : Option (List ℕ)) (before now : ℕ) (old new : Option (List ℕ)) (write : Type 0) (s : Status) (line : List ℕ) → (s ≡ status.WriteFault → ⊥)
    → IsEnding words left left' (Rose before now) old new write s line → IsUndisturbedCall words name before now → IfSome left (λ bytes. HasInput call_input bytes (HasCall name) → IsOrMemory status.Done s)
complete-call words name None left' before now old new write s line clean h calm = tt
complete-call words name (Some bytes) left' before now old new write s line clean h calm =
    λ p. called-end name bytes s clean p (call-end-of words name bytes left' (Rose before now) old new write s line h calm.asks calm.no_fault)

-- ---- what is told

-- What is no value was told, where its line was.
pub told-bad-value : (chain : Bool) (call : Option (List ℕ)) (left left' : Option (List ℕ)) (line : List ℕ) (old new : Option (List ℕ)) (before now : ℕ) → Read left left' (λ bytes. TellsBadValue chain call bytes line) → TellsLine old new before now line
    → Read left left' (λ bytes. (f : PlanFault) × HoldsBadValueBy chain call bytes f × TellsLine old new before now (fault_line (codes "value") f))
told-bad-value chain call left left' line old new before now r h = record {
  bytes = r.bytes;
  all = r.all;
  is_so = (r.is_so.fault, r.is_so.holds, subst (λ (l : List ℕ). TellsLine old new before now l) r.is_so.is_line h);
}
