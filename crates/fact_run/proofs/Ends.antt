-- How the ends of a run follow from what was read and written.
use Rattle.std.proofs.Common.{◌≡◌, ◌≢◌, ℕ, zero, suc, ◌≤◌, ◌<◌, Bool, true, false, List, [], ◌++◌, length, Option, None, Some, Result, Ok, Err, OnOk, OnErr, IfSome, ◌⊎◌, inl, inr, refl, sym, subst, ap, ◌∙◌, arith, append-nil, length-append, string_bytes}
use Rattle.std.specs.Prelude.{⊤, IsSome, IsSomeAnd, codes, nat_lt}
use Rattle.std.proofs.lemmas.Bool.{false≢true, lt-ltb, le-ltb}
use Rattle.std.specs.Io.KnownBytes.{Appends}
use Rattle.std.proofs.KnownBytes.{Consumes-nil}
use Rattle.serde_json.specs.Data.{Data}
use Rattle.fact_io.specs.Transfers.{AppendsFront, TakesAll, TakesPast, TakesUpTo}
use Rattle.fact_io.specs.Faults.{Rose}
use Rattle.fact_plan.specs.declared.plan.FusePlan.{FusePlan}
use Rattle.fact_plan.specs.declared.fault.PlanFault.{PlanFault}
use Rattle.fact_plan.specs.declared.fault.PlanFault.TheVariants as fault
use Rattle.fact_plan.specs.Fault.{IsNotMemory, UnlessMemory, fault_line}
use Rattle.fact_plan.specs.Plan.{plan_of}
use Rattle.fact_plan.specs.Reading.{value_in}
use Rattle.fact_plan.specs.Inputs.{HoldsBadPlan, HoldsNoJson, HoldsPlan, IsTooLong, limit}
use Rattle.fact_plan_types.specs.declared.error.Place.{Place}
use Rattle.fact_plan_types.specs.Faults.{Fault}
use Rattle.fact_adapter_rules.specs.FirstFault.{IsFaultlessPlan, IsFirstAt}
use Rattle.fact_adapter_rules.proofs.FaultLaws.{faultless-first}
use Rattle.fact_adapter_rules.specs.Inputs.{HoldsFaultless, HoldsRefusal}
use Rattle.fact_command.specs.declared.status.Status.{Status}
use Rattle.fact_command.specs.declared.status.Status.TheVariants as status
use Rattle.fact_run.specs.declared.reply.Reply.{Reply}
use Rattle.fact_run.specs.declared.reply.Reply.TheVariants as reply
use Rattle.fact_run.specs.Replies.{IsEnding, IsReply, IsReplyTo, IsReplyToBadPlan, IsReplyToPlan, IsReplyUnder, IsReplyUnread, TellsBadValue, TellsBadPlan, TellsRefusalIn, ending_with}
use Rattle.fact_command.specs.declared.command.CommandOptions.{CommandOptions}
use Rattle.fact_command.specs.Command.{reading}
use Rattle.fact_command.specs.Refusal.{refusal_line}
use Rattle.fact_command.specs.Status.{line_of}
use Rattle.fact_types.proofs.ShapeLaws.{none_some}
use Rattle.fact_run.specs.Run.{Counts, GeneratesPlan, HoldsBadValueBy, HoldsBadPlanBy, HoldsOverLimitBy, HoldsRefusalBy, IsCallMode, IsChainMode, IsEndUnread, IsJsonMode, IsOrMemory, IsPlanMode, IsUndisturbedPlan, Read, ReadsJson, ReadsPlan, Sends, SendsAccepted, SendsBy, SendsCall, SendsChain, SendsCounts, SendsPage, TellsLine}

-- ---- from what was read to a reply

-- said of a fault that is no want of memory
unless : (f : PlanFault) (P : Type 0) → IsNotMemory f → UnlessMemory f P → P
unless fault.OutOfMemory P n h = absurd n
unless (fault.Missing path) P n h = h
unless (fault.UnknownKey path) P n h = h
unless (fault.WrongKind path) P n h = h
unless (fault.OutOfRange path) P n h = h

-- a fault that the bytes hold
pub replied-fault : (o : CommandOptions) (bytes : List ℕ) (v : Data) (f : PlanFault) (r : Reply) → length bytes ≤ limit → value_in bytes ≡ Some v → UnlessMemory f (plan_of v ≡ Err f) → IsReplyToBadPlan f r → IsReplyTo o bytes r
replied-fault o bytes v f (reply.BadPlan line) within j h e = record {
  fault = f;
  holds = record { within = within; value = v; is_json = j; is_fault = unless f (plan_of v ≡ Err f) e.0 h };
  is_line = e.1;
}
replied-fault o bytes v f reply.OutOfMemory within j h e = tt
replied-fault o bytes v f (reply.Page text) within j h e = absurd e
replied-fault o bytes v f reply.ReadFault within j h e = absurd e
replied-fault o bytes v f reply.TooLong within j h e = absurd e
replied-fault o bytes v f reply.NotJson within j h e = absurd e
replied-fault o bytes v f (reply.Refused line) within j h e = absurd e
replied-fault o bytes v f reply.NotHex within j h e = absurd e
replied-fault o bytes v f (reply.Rejected line) within j h e = absurd e
replied-fault o bytes v f reply.NotCallable within j h e = absurd e
replied-fault o bytes v f reply.NotChained within j h e = absurd e
replied-fault o bytes v f (reply.BadValue line) within j h e = absurd e
replied-fault o bytes v f reply.OverLimit within j h e = absurd e

-- a plan that the bytes hold
pub replied-plan : (o : CommandOptions) (bytes : List ℕ) (p : FusePlan) (r : Reply) → HoldsPlan bytes p → IsReplyToPlan o p r → IsReplyTo o bytes r
replied-plan o bytes p (reply.Page text) h e = record {
  holds = record { plan = p; is_plan = h; faultless = e.0 };
  text = string_bytes text;
  prints = e.1;
  sent = refl;
}
replied-plan o bytes p (reply.Refused line) h e = record {
  fault = e.fault;
  place = e.place;
  holds = record { plan = p; is_plan = h; is_first = e.is_first };
  is_line = e.is_line;
}
replied-plan o bytes p reply.OutOfMemory h e = tt
replied-plan o bytes p (reply.BadPlan line) h e = absurd e
replied-plan o bytes p reply.ReadFault h e = absurd e
replied-plan o bytes p reply.TooLong h e = absurd e
replied-plan o bytes p reply.NotJson h e = absurd e
replied-plan o bytes p reply.NotHex h e = absurd e
replied-plan o bytes p (reply.Rejected line) h e = absurd e
replied-plan o bytes p reply.NotCallable h e = absurd e
replied-plan o bytes p reply.NotChained h e = absurd e
replied-plan o bytes p (reply.BadValue line) h e = absurd e
replied-plan o bytes p reply.OverLimit h e = absurd e

-- a source of which nothing was taken
pub untaken : (left : Option (List ℕ)) (most : ℕ) → TakesUpTo left left most
untaken left most = record { bytes = []; taken = Consumes-nil left; within = omega arith }

-- all the bytes of a source
pub replied : (o : CommandOptions) (left left' : Option (List ℕ)) (fault : Type 0) (bytes : List ℕ) (r : Reply) → TakesAll left left' bytes → IsReplyTo o bytes r → IsReply o left left' fault r
replied o left left' fault bytes (reply.Page text) all h = record { bytes = bytes; all = all; is_so = h }
replied o left left' fault bytes reply.ReadFault all h = absurd h
replied o left left' fault bytes reply.TooLong all h = absurd h
replied o left left' fault bytes reply.NotJson all h = record { bytes = bytes; all = all; is_so = h }
replied o left left' fault bytes (reply.BadPlan line) all h = record { bytes = bytes; all = all; is_so = h }
replied o left left' fault bytes (reply.Refused line) all h = record { bytes = bytes; all = all; is_so = h }
replied o left left' fault bytes reply.NotHex all h = absurd h
replied o left left' fault bytes (reply.Rejected line) all h = absurd h
replied o left left' fault bytes reply.NotCallable all h = absurd h
replied o left left' fault bytes reply.NotChained all h = absurd h
replied o left left' fault bytes (reply.BadValue line) all h = absurd h
replied o left left' fault bytes reply.OverLimit all h = absurd h
replied o left left' fault bytes reply.OutOfMemory all h = tt

-- ---- from a reply to an end

-- what was sent of a text
sent-as : (o : CommandOptions) (bytes : List ℕ) (P Q : List ℕ → Type 0) → ((t : List ℕ) → P t → Q t) → SendsPage o bytes P → SendsPage o bytes Q
sent-as o bytes P Q f a = record { holds = a.holds; text = a.text; prints = a.prints; sent = f a.text a.sent }

sent-counts : (o : CommandOptions) (n : ℕ) (text : List ℕ) (Q : List ℕ → Type 0) → SendsCounts o n (λ sent. sent ≡ text) → Q text → SendsCounts o n Q
sent-counts o n text Q a q = record { text = a.text; counted = a.counted; sent = subst Q (sym a.sent) q }

sent-accepted : (input text : List ℕ) (Q : List ℕ → Type 0) → SendsAccepted input (λ sent. sent ≡ text) → Q text → SendsAccepted input Q
sent-accepted input text Q a q = record { found = a.found; holds = a.holds; sent = subst Q (sym a.sent) q }

sent-call : (fuel : ℕ) (name bytes text : List ℕ) (Q : List ℕ → Type 0) → SendsCall fuel name bytes (λ sent. sent ≡ text) → Q text → SendsCall fuel name bytes Q
sent-call fuel name bytes text Q a q = record { input = a.input; holds = a.holds; text = a.text; tells = a.tells; sent = subst Q (sym a.sent) q }

sent-chain : (fuel : ℕ) (bytes text : List ℕ) (Q : List ℕ → Type 0) → SendsChain fuel bytes (λ sent. sent ≡ text) → Q text → SendsChain fuel bytes Q
sent-chain fuel bytes text Q a q = record { input = a.input; holds = a.holds; text = a.text; tells = a.tells; sent = subst Q (sym a.sent) q }

sent-by : (check chain : Bool) (call : Option (List ℕ)) (m : Option ℕ) (o : CommandOptions) (left left' : Option (List ℕ)) (text : List ℕ) (Q : List ℕ → Type 0) → SendsBy check chain call m o left left' (λ sent. sent ≡ text) → Q text
    → SendsBy check chain call m o left left' Q
sent-by true chain call m o left left' text Q r q = record { bytes = r.bytes; all = r.all; is_so = sent-accepted r.bytes text Q r.is_so q }
sent-by false true call m o left left' text Q r q = record { bytes = r.bytes; all = r.all; is_so = sent-chain o.fuel r.bytes text Q r.is_so q }
sent-by false false (Some name) m o left left' text Q r q = record { bytes = r.bytes; all = r.all; is_so = sent-call o.fuel name r.bytes text Q r.is_so q }
sent-by false false None None o left left' text Q r q = record {
  bytes = r.bytes;
  all = r.all;
  is_so = sent-as o r.bytes (λ sent. sent ≡ text) Q (λ t e. subst Q (sym e) q) r.is_so;
}
sent-by false false None (Some n) o left left' text Q a q = sent-counts o n text Q a q

-- the text that a run comes to was sent
pub sent-of : (o : CommandOptions) (left left' : Option (List ℕ)) (text : List ℕ) (Q : List ℕ → Type 0) → Sends o left left' (λ sent. sent ≡ text) → Q text → Sends o left left' Q
sent-of o left left' text Q r q = sent-by o.check o.chain o.call o.generate o left left' text Q r q

-- ---- modes

-- what was sent in a mode
pub sends-in : (check chain : Bool) (call : Option (List ℕ)) (m : Option ℕ) (o : CommandOptions) (left left' : Option (List ℕ)) (Sent : List ℕ → Type 0) → o.check ≡ check → o.chain ≡ chain → o.call ≡ call → o.generate ≡ m
    → SendsBy check chain call m o left left' Sent → Sends o left left' Sent
sends-in check chain call m o left left' Sent c l n g h =
    let P : Bool → Type 0 = λ b. SendsBy b chain call m o left left' Sent in
    let L : Bool → Type 0 = λ b. SendsBy o.check b call m o left left' Sent in
    let N : Option (List ℕ) → Type 0 = λ x. SendsBy o.check o.chain x m o left left' Sent in
    let Q : Option ℕ → Type 0 = λ k. SendsBy o.check o.chain o.call k o left left' Sent in
    subst Q (sym g) (subst N (sym n) (subst L (sym l) (subst P (sym c) h)))

-- a fault and a refusal that were told of a plan that was read
pub told-in : (chain : Bool) (call : Option (List ℕ)) (o : CommandOptions) (left left' : Option (List ℕ)) (line : List ℕ) → o.chain ≡ chain → o.call ≡ call → Read left left' (λ bytes. TellsBadPlan chain call bytes line)
    → Read left left' (λ bytes. TellsBadPlan o.chain o.call bytes line)
told-in chain call o left left' line l n h =
    let L : Bool → Type 0 = λ b. Read left left' (λ bytes. TellsBadPlan b call bytes line) in
    let P : Option (List ℕ) → Type 0 = λ x. Read left left' (λ bytes. TellsBadPlan o.chain x bytes line) in
    subst P (sym n) (subst L (sym l) h)

pub refused-in : (chain : Bool) (call : Option (List ℕ)) (o : CommandOptions) (left left' : Option (List ℕ)) (line : List ℕ) → o.chain ≡ chain → o.call ≡ call → Read left left' (λ bytes. TellsRefusalIn chain call bytes line)
    → Read left left' (λ bytes. TellsRefusalIn o.chain o.call bytes line)
refused-in chain call o left left' line l n h =
    let L : Bool → Type 0 = λ b. Read left left' (λ bytes. TellsRefusalIn b call bytes line) in
    let P : Option (List ℕ) → Type 0 = λ x. Read left left' (λ bytes. TellsRefusalIn o.chain x bytes line) in
    subst P (sym n) (subst L (sym l) h)

-- and a fault of values, and such that do not fit
pub value-in : (chain : Bool) (call : Option (List ℕ)) (o : CommandOptions) (left left' : Option (List ℕ)) (line : List ℕ) → o.chain ≡ chain → o.call ≡ call → Read left left' (λ bytes. TellsBadValue chain call bytes line)
    → Read left left' (λ bytes. TellsBadValue o.chain o.call bytes line)
value-in chain call o left left' line l n h =
    let L : Bool → Type 0 = λ b. Read left left' (λ bytes. TellsBadValue b call bytes line) in
    let P : Option (List ℕ) → Type 0 = λ x. Read left left' (λ bytes. TellsBadValue o.chain x bytes line) in
    subst P (sym n) (subst L (sym l) h)

pub over-in : (chain : Bool) (call : Option (List ℕ)) (o : CommandOptions) (left left' : Option (List ℕ)) → o.chain ≡ chain → o.call ≡ call → Read left left' (λ bytes. HoldsOverLimitBy chain call bytes) → Read left left' (λ bytes. HoldsOverLimitBy o.chain o.call bytes)
over-in chain call o left left' l n h =
    let L : Bool → Type 0 = λ b. Read left left' (λ bytes. HoldsOverLimitBy b call bytes) in
    let P : Option (List ℕ) → Type 0 = λ x. Read left left' (λ bytes. HoldsOverLimitBy o.chain x bytes) in
    subst P (sym n) (subst L (sym l) h)

-- what a source comes to, where a plan is read
pub replied-read : (o : CommandOptions) (left left' : Option (List ℕ)) (fault : Type 0) (r : Reply) → o.generate ≡ None → o.check ≡ false → o.call ≡ None → o.chain ≡ false → IsReply o left left' fault r → IsReplyUnder o left left' fault r
replied-read o left left' fault (reply.Page text) none unchecked uncalled unchained h = sends-in false false None None o left left' (λ sent. sent ≡ string_bytes text) unchecked unchained uncalled none h
replied-read o left left' fault reply.ReadFault none unchecked uncalled unchained h = h
replied-read o left left' fault reply.TooLong none unchecked uncalled unchained h = h
replied-read o left left' fault reply.NotJson none unchecked uncalled unchained h = (record { not_generated = none; not_checked = unchecked }, h)
replied-read o left left' fault (reply.BadPlan line) none unchecked uncalled unchained h = (record { not_generated = none; not_checked = unchecked }, told-in false None o left left' (string_bytes line) unchained uncalled h)
replied-read o left left' fault (reply.Refused line) none unchecked uncalled unchained h = (record { not_generated = none; not_checked = unchecked }, refused-in false None o left left' (string_bytes line) unchained uncalled h)
replied-read o left left' fault reply.NotHex none unchecked uncalled unchained h = absurd h.is_so
replied-read o left left' fault (reply.Rejected line) none unchecked uncalled unchained h = absurd h.is_so
replied-read o left left' fault reply.NotCallable none unchecked uncalled unchained h = absurd h.is_so
replied-read o left left' fault reply.NotChained none unchecked uncalled unchained h = absurd h.is_so
replied-read o left left' fault (reply.BadValue line) none unchecked uncalled unchained h = absurd h.is_so
replied-read o left left' fault reply.OverLimit none unchecked uncalled unchained h = absurd h.is_so
replied-read o left left' fault reply.OutOfMemory none unchecked uncalled unchained h = h

-- counts that were made of a plan that is generated
pub replied-counts : (o : CommandOptions) (n : ℕ) (left left' : Option (List ℕ)) (text : List ℕ) → o.generate ≡ Some n → o.check ≡ false → o.call ≡ None → o.chain ≡ false → Counts o n text → Sends o left left' (λ sent. sent ≡ text)
replied-counts o n left left' text some unchecked uncalled unchained made =
    sends-in false false None (Some n) o left left' (λ sent. sent ≡ text) unchecked unchained uncalled some (record { text = text; counted = made; sent = refl })

-- a run that reads nothing ends as such runs do
pub ended-unread : (r : Reply) → IsReplyUnread r → IsEndUnread (ending_with r).status
ended-unread (reply.Page text) h = inl refl
ended-unread reply.OutOfMemory h = inr (inr refl)
ended-unread reply.ReadFault h = absurd h
ended-unread reply.TooLong h = absurd h
ended-unread reply.NotJson h = absurd h
ended-unread (reply.BadPlan line) h = absurd h
ended-unread (reply.Refused line) h = absurd h
ended-unread reply.NotHex h = absurd h
ended-unread (reply.Rejected line) h = absurd h
ended-unread reply.NotCallable h = absurd h
ended-unread reply.NotChained h = absurd h
ended-unread (reply.BadValue line) h = absurd h
ended-unread reply.OverLimit h = absurd h

pub unread-done : (s : Status) → IsEndUnread s → (s ≡ status.WriteFault → ⊥) → IsOrMemory status.Done s
unread-done s (inl done) clean = inl done
unread-done s (inr (inl fault)) clean = absurd (clean fault)
unread-done s (inr (inr memory)) clean = inr memory

-- the words ask for a plan that is generated, or for one that is read
pub options-generate : (words : List (List ℕ)) (o : CommandOptions) → reading words ≡ Some o → GeneratesPlan words → IsSome o.generate
options-generate words o e g = let P : Option CommandOptions → Type 0 = λ r. IsSomeAnd r (λ x. IsSome x.generate) in subst P e g

options-read : (words : List (List ℕ)) (o : CommandOptions) → reading words ≡ Some o → ReadsPlan words → IsPlanMode o
options-read words o e g = let P : Option CommandOptions → Type 0 = λ r. IsSomeAnd r IsPlanMode in subst P e g

pub none-generates : (words : List (List ℕ)) → reading words ≡ None → GeneratesPlan words → ⊥
none-generates words e g = let P : Option CommandOptions → Type 0 = λ r. IsSomeAnd r (λ x. IsSome x.generate) in subst P e g

none-reads : (words : List (List ℕ)) → reading words ≡ None → ReadsPlan words → ⊥
none-reads words e g = let P : Option CommandOptions → Type 0 = λ r. IsSomeAnd r IsPlanMode in subst P e g

-- and the other way round, of a JSON text
pub json-read : (words : List (List ℕ)) (o : CommandOptions) → reading words ≡ Some o → IsJsonMode o → ReadsJson words
json-read words o e h = let P : Option CommandOptions → Type 0 = λ r. IsSomeAnd r IsJsonMode in subst P (sym e) h

-- what was sent of a plan that was read
sent-read : (words : List (List ℕ)) (o : CommandOptions) (left left' : Option (List ℕ)) (Sent : List ℕ → Type 0) → reading words ≡ Some o → ReadsPlan words → Sends o left left' Sent
    → Read left left' (λ bytes. SendsPage o bytes Sent)
sent-read words o left left' Sent e reads h =
    let mode = options-read words o e reads in
    let P : Bool → Type 0 = λ b. SendsBy b o.chain o.call o.generate o left left' Sent in
    let L : Bool → Type 0 = λ b. SendsBy false b o.call o.generate o left left' Sent in
    let N : Option (List ℕ) → Type 0 = λ x. SendsBy false false x o.generate o left left' Sent in
    let Q : Option ℕ → Type 0 = λ m. SendsBy false false None m o left left' Sent in
    subst Q mode.not_generated (subst N mode.not_called (subst L mode.not_chained (subst P mode.not_checked h)))

-- ---- each input comes to one end

-- how far the reading of an input comes: to its length, to JSON, to a plan, or past these
abbrev pub plan_stage : Result FusePlan PlanFault → ℕ
plan_stage (Err f) = 2
plan_stage (Ok p) = 3

abbrev pub value_stage : Option Data → ℕ
value_stage None = 1
value_stage (Some v) = plan_stage (plan_of v)

abbrev pub stage : Bool → Option Data → ℕ
stage true v = 0
stage false v = value_stage v

abbrev pub stage_of : List ℕ → ℕ
stage_of bytes = stage (nat_lt limit (length bytes)) (value_in bytes)

-- the end that comes at a stage, where none is past it
abbrev pub end_at : ℕ → Status
end_at zero = status.TooLong
end_at (suc zero) = status.NotJson
end_at (suc (suc n)) = status.BadPlan

stage-long : (bytes : List ℕ) → IsTooLong bytes → stage_of bytes ≡ 0
stage-long bytes h = ap (λ b. stage b (value_in bytes)) (lt-ltb limit (length bytes) h)

stage-value : (bytes : List ℕ) (v : Option Data) → length bytes ≤ limit → value_in bytes ≡ v → stage_of bytes ≡ value_stage v
stage-value bytes v within e = ap (λ b. stage b (value_in bytes)) (le-ltb limit (length bytes) within) ∙ ap value_stage e

stage-json : (bytes : List ℕ) → HoldsNoJson bytes → stage_of bytes ≡ 1
stage-json bytes h = stage-value bytes None h.within h.no_json

stage-fault : (bytes : List ℕ) (f : PlanFault) → HoldsBadPlan bytes f → stage_of bytes ≡ 2
stage-fault bytes f h = stage-value bytes (Some h.value) h.within h.is_json ∙ ap plan_stage h.is_fault

stage-plan : (bytes : List ℕ) (p : FusePlan) → HoldsPlan bytes p → stage_of bytes ≡ 3
stage-plan bytes p h = stage-value bytes (Some h.value) h.within h.is_json ∙ ap plan_stage h.is_input

-- the bytes hold one plan
one-plan : (bytes : List ℕ) (p q : FusePlan) → HoldsPlan bytes p → HoldsPlan bytes q → p ≡ q
one-plan bytes p q h k =
    let values : h.value ≡ k.value = cc (h.is_json, k.is_json) in
    cc (h.is_input, k.is_input, ap plan_of values)

-- what the bytes of an input hold at an end
abbrev pub IsOf : Status → List ℕ → Type 0
IsOf status.TooLong bytes = IsTooLong bytes
IsOf status.NotJson bytes = HoldsNoJson bytes
IsOf status.BadPlan bytes = (f : PlanFault) × HoldsBadPlan bytes f
IsOf status.Refused bytes = (f : Fault) × (place : Place) × HoldsRefusal bytes f place
IsOf status.Done bytes = HoldsFaultless bytes
IsOf status.WriteFault bytes = HoldsFaultless bytes
IsOf _ bytes = ⊥

-- all that a source of these bytes had was taken
all-taken : (bytes : List ℕ) (left' : Option (List ℕ)) (taken : List ℕ) → TakesAll (Some bytes) left' taken → taken ≡ bytes
all-taken bytes None taken all = absurd all.taken
all-taken bytes (Some ys) taken all = sym (all.taken ∙ ap (λ (t : List ℕ). taken ++ t) all.ended ∙ append-nil taken)

-- and it is so of these bytes
pub so : (bytes : List ℕ) (left' : Option (List ℕ)) (P : List ℕ → Type 0) → Read (Some bytes) left' P → P bytes
so bytes left' P r = subst P (all-taken bytes left' r.bytes r.all) r.is_so

pub past : (bytes : List ℕ) (left' : Option (List ℕ)) → TakesPast (Some bytes) left' limit → IsTooLong bytes
past bytes None r = absurd r.taken
past bytes (Some ys) r = omega (arith, r.past, ap length r.taken, length-append r.bytes ys)

-- where a plan is read, no bytes are checked
unchecked : (words : List (List ℕ)) (o : CommandOptions) → reading words ≡ Some o → ReadsPlan words → o.check ≡ true → ⊥
unchecked words o e given check = false≢true (sym (options-read words o e given).not_checked ∙ check)

-- nor is an adapter called
uncalled : (words : List (List ℕ)) (o : CommandOptions) (name : List ℕ) → reading words ≡ Some o → ReadsPlan words → IsCallMode o name → ⊥
uncalled words o name e given mode = none_some o.call name (options-read words o e given).not_called mode.called

-- nor are two chained
unchained : (words : List (List ℕ)) (o : CommandOptions) → reading words ≡ Some o → ReadsPlan words → IsChainMode o → ⊥
unchained words o e given mode = false≢true (sym (options-read words o e given).not_chained ∙ mode.chained)

-- what the bytes hold is what they hold in this mode
pub fault-by : (o : CommandOptions) (chain : Bool) (call : Option (List ℕ)) (bytes : List ℕ) (f : PlanFault) → o.chain ≡ chain → o.call ≡ call → HoldsBadPlanBy o.chain o.call bytes f → HoldsBadPlanBy chain call bytes f
fault-by o chain call bytes f l n h =
    let L : Bool → Type 0 = λ b. HoldsBadPlanBy b o.call bytes f in
    let P : Option (List ℕ) → Type 0 = λ x. HoldsBadPlanBy chain x bytes f in
    subst P n (subst L l h)

pub refusal-by : (o : CommandOptions) (chain : Bool) (call : Option (List ℕ)) (bytes : List ℕ) (f : Fault) (place : Place) → o.chain ≡ chain → o.call ≡ call → HoldsRefusalBy o.chain o.call bytes f place → HoldsRefusalBy chain call bytes f place
refusal-by o chain call bytes f place l n h =
    let L : Bool → Type 0 = λ b. HoldsRefusalBy b o.call bytes f place in
    let P : Option (List ℕ) → Type 0 = λ x. HoldsRefusalBy chain x bytes f place in
    subst P n (subst L l h)

pub value-by : (o : CommandOptions) (chain : Bool) (call : Option (List ℕ)) (bytes : List ℕ) (f : PlanFault) → o.chain ≡ chain → o.call ≡ call → HoldsBadValueBy o.chain o.call bytes f → HoldsBadValueBy chain call bytes f
value-by o chain call bytes f l n h =
    let L : Bool → Type 0 = λ b. HoldsBadValueBy b o.call bytes f in
    let P : Option (List ℕ) → Type 0 = λ x. HoldsBadValueBy chain x bytes f in
    subst P n (subst L l h)

pub over-by : (o : CommandOptions) (chain : Bool) (call : Option (List ℕ)) (bytes : List ℕ) → o.chain ≡ chain → o.call ≡ call → HoldsOverLimitBy o.chain o.call bytes → HoldsOverLimitBy chain call bytes
over-by o chain call bytes l n h =
    let L : Bool → Type 0 = λ b. HoldsOverLimitBy b o.call bytes in
    let P : Option (List ℕ) → Type 0 = λ x. HoldsOverLimitBy chain x bytes in
    subst P n (subst L l h)

-- an end without a fault, of a run whose words are read, tells what the bytes hold
end-of : (words : List (List ℕ)) (bytes : List ℕ) (left' : Option (List ℕ)) (read : Type 0) (old new : Option (List ℕ)) (write : Type 0) (s : Status) (line : List ℕ)
    → IsEnding words (Some bytes) left' read old new write s line → ReadsPlan words → (read → ⊥) → IsOf s bytes ⊎ (s ≡ status.OutOfMemory)
end-of words bytes left' read old new write status.Done line h given none = inl (so bytes left' (λ b. SendsPage h.0 b (λ text. Appends old new text)) (sent-read words h.0 (Some bytes) left' (λ text. Appends old new text) h.1 given h.2.0)).holds
end-of words bytes left' read old new write status.Usage line h given none = absurd (none-reads words h.0 given)
end-of words bytes left' read old new write status.ReadFault line h given none = absurd (none h.2.0)
end-of words bytes left' read old new write status.WriteFault line h given none = inl (so bytes left' (λ b. SendsPage h.0 b (λ text. AppendsFront old new text)) (sent-read words h.0 (Some bytes) left' (λ text. AppendsFront old new text) h.1 given h.2.1)).holds
end-of words bytes left' read old new write status.TooLong line h given none = inl (past bytes left' h.2.0)
end-of words bytes left' read old new write status.NotJson line h given none = inl (so bytes left' HoldsNoJson h.2.1)
end-of words bytes left' read old new write status.BadPlan line h given none =
    let t = so bytes left' (λ b. TellsBadPlan h.0.chain h.0.call b line) h.2.1 in
    let mode = options-read words h.0 h.1 given in
    inl (t.fault, fault-by h.0 false None bytes t.fault mode.not_chained mode.not_called t.holds)
end-of words bytes left' read old new write status.Refused line h given none =
    let t = so bytes left' (λ b. TellsRefusalIn h.0.chain h.0.call b line) h.2.1 in
    let mode = options-read words h.0 h.1 given in
    inl (t.fault, t.place, refusal-by h.0 false None bytes t.fault t.place mode.not_chained mode.not_called t.holds)
end-of words bytes left' read old new write status.NotHex line h given none = absurd (unchecked words h.0 h.1 given h.2.0)
end-of words bytes left' read old new write status.Rejected line h given none = absurd (unchecked words h.0 h.1 given h.2.0)
end-of words bytes left' read old new write status.NotCallable line h given none = absurd (uncalled words h.0 h.2.0 h.1 given h.2.1)
end-of words bytes left' read old new write status.NotChained line h given none = absurd (unchained words h.0 h.1 given h.2.0)
end-of words bytes left' read old new write status.BadValue line h given none =
    let t = so bytes left' (λ b. TellsBadValue h.0.chain h.0.call b line) h.2.1 in
    let mode = options-read words h.0 h.1 given in
    absurd (value-by h.0 false None bytes t.fault mode.not_chained mode.not_called t.holds)
end-of words bytes left' read old new write status.OverLimit line h given none =
    let mode = options-read words h.0 h.1 given in
    absurd (over-by h.0 false None bytes mode.not_chained mode.not_called (so bytes left' (λ b. HoldsOverLimitBy h.0.chain h.0.call b) h.2.1))
end-of words bytes left' read old new write status.OutOfMemory line h given none = inr refl

-- words that are not read are told so
pub usage-end : (words : List (List ℕ)) (left left' : Option (List ℕ)) (read : Type 0) (old new : Option (List ℕ)) (write : Type 0) (s : Status) (line : List ℕ)
    → IsEnding words left left' read old new write s line → reading words ≡ None → IsOrMemory status.Usage s
usage-end words left left' read old new write status.Usage line h none = inl refl
usage-end words left left' read old new write status.OutOfMemory line h none = inr refl
usage-end words left left' read old new write status.Done line h none = cc
usage-end words left left' read old new write status.ReadFault line h none = cc
usage-end words left left' read old new write status.WriteFault line h none = cc
usage-end words left left' read old new write status.TooLong line h none = cc
usage-end words left left' read old new write status.NotJson line h none = cc
usage-end words left left' read old new write status.BadPlan line h none = cc
usage-end words left left' read old new write status.Refused line h none = cc
usage-end words left left' read old new write status.NotHex line h none = cc
usage-end words left left' read old new write status.Rejected line h none = cc
usage-end words left left' read old new write status.NotCallable line h none = cc
usage-end words left left' read old new write status.NotChained line h none = cc
usage-end words left left' read old new write status.BadValue line h none = cc
usage-end words left left' read old new write status.OverLimit line h none = cc

-- before a plan is read, an end is that of its stage
of-stage : (s : Status) (bytes : List ℕ) → IsOf s bytes → (stage_of bytes ≡ 3) ⊎ (s ≡ end_at (stage_of bytes))
of-stage status.TooLong bytes h = inr (sym (ap end_at (stage-long bytes h)))
of-stage status.NotJson bytes h = inr (sym (ap end_at (stage-json bytes h)))
of-stage status.BadPlan bytes h = inr (sym (ap end_at (stage-fault bytes h.0 h.1)))
of-stage status.Refused bytes h = inl (stage-plan bytes h.2.plan h.2.is_plan)
of-stage status.Done bytes h = inl (stage-plan bytes h.plan h.is_plan)
of-stage status.WriteFault bytes h = inl (stage-plan bytes h.plan h.is_plan)
of-stage status.Usage bytes h = absurd h
of-stage status.ReadFault bytes h = absurd h
of-stage status.NotHex bytes h = absurd h
of-stage status.Rejected bytes h = absurd h
of-stage status.NotCallable bytes h = absurd h
of-stage status.NotChained bytes h = absurd h
of-stage status.BadValue bytes h = absurd h
of-stage status.OverLimit bytes h = absurd h
of-stage status.OutOfMemory bytes h = absurd h

at-stage : (n : ℕ) (s : Status) (bytes : List ℕ) → n < 3 → stage_of bytes ≡ n → IsOf s bytes ⊎ (s ≡ status.OutOfMemory) → IsOrMemory (end_at n) s
at-stage n s bytes early e (inr memory) = inr memory
at-stage n s bytes early e (inl h) = elim (of-stage s bytes h) [
  | inl late ↦ absurd (omega (arith, late, e))
  | inr same ↦ inl (same ∙ ap end_at e)
]

pub long-end : (s : Status) (bytes : List ℕ) → IsTooLong bytes → IsOf s bytes ⊎ (s ≡ status.OutOfMemory) → IsOrMemory status.TooLong s
long-end s bytes h = at-stage 0 s bytes (omega arith) (stage-long bytes h)

pub json-end : (s : Status) (bytes : List ℕ) → HoldsNoJson bytes → IsOf s bytes ⊎ (s ≡ status.OutOfMemory) → IsOrMemory status.NotJson s
json-end s bytes h = at-stage 1 s bytes (omega arith) (stage-json bytes h)

pub fault-end : (s : Status) (bytes : List ℕ) → ((f : PlanFault) × HoldsBadPlan bytes f) → IsOf s bytes ⊎ (s ≡ status.OutOfMemory) → IsOrMemory status.BadPlan s
fault-end s bytes h = at-stage 2 s bytes (omega arith) (stage-fault bytes h.0 h.1)

-- the bytes hold no plan that has a fault and one that has none
not-sound : (bytes : List ℕ) (p : FusePlan) → HoldsPlan bytes p → IsFaultlessPlan p → ((f : Fault) × (place : Place) × HoldsRefusal bytes f place) → ⊥
not-sound bytes p h sound r =
    let q = r.2 in
    faultless-first p r.0 r.1 sound (subst (λ x. IsFirstAt x r.0 r.1) (one-plan bytes q.plan p q.is_plan h) q.is_first)

-- an end before a plan is read is none of a plan
not-early : (n : ℕ) (bytes : List ℕ) (p : FusePlan) → HoldsPlan bytes p → n < 3 → stage_of bytes ≡ n → ⊥
not-early n bytes p h early e = omega (arith, stage-plan bytes p h, e)

pub refused-end : (s : Status) (bytes : List ℕ) → ((f : Fault) × (place : Place) × HoldsRefusal bytes f place) → IsOf s bytes ⊎ (s ≡ status.OutOfMemory) → IsOrMemory status.Refused s
refused-end s bytes r (inr memory) = inr memory
refused-end status.Refused bytes r (inl h) = inl refl
refused-end status.Done bytes r (inl h) = absurd (not-sound bytes h.plan h.is_plan h.faultless r)
refused-end status.WriteFault bytes r (inl h) = absurd (not-sound bytes h.plan h.is_plan h.faultless r)
refused-end status.TooLong bytes r (inl h) = absurd (not-early 0 bytes r.2.plan r.2.is_plan (omega arith) (stage-long bytes h))
refused-end status.NotJson bytes r (inl h) = absurd (not-early 1 bytes r.2.plan r.2.is_plan (omega arith) (stage-json bytes h))
refused-end status.BadPlan bytes r (inl h) = absurd (not-early 2 bytes r.2.plan r.2.is_plan (omega arith) (stage-fault bytes h.0 h.1))
refused-end status.Usage bytes r (inl h) = absurd h
refused-end status.ReadFault bytes r (inl h) = absurd h
refused-end status.NotHex bytes r (inl h) = absurd h
refused-end status.Rejected bytes r (inl h) = absurd h
refused-end status.NotCallable bytes r (inl h) = absurd h
refused-end status.NotChained bytes r (inl h) = absurd h
refused-end status.BadValue bytes r (inl h) = absurd h
refused-end status.OverLimit bytes r (inl h) = absurd h
refused-end status.OutOfMemory bytes r (inl h) = absurd h

pub faultless-end : (s : Status) (bytes : List ℕ) → (s ≡ status.WriteFault → ⊥) → HoldsFaultless bytes → IsOf s bytes ⊎ (s ≡ status.OutOfMemory) → IsOrMemory status.Done s
faultless-end s bytes unfaulted b (inr memory) = inr memory
faultless-end status.Refused bytes unfaulted b (inl h) = absurd (not-sound bytes b.plan b.is_plan b.faultless h)
faultless-end status.Done bytes unfaulted b (inl h) = inl refl
faultless-end status.WriteFault bytes unfaulted b (inl h) = absurd (unfaulted refl)
faultless-end status.TooLong bytes unfaulted b (inl h) = absurd (not-early 0 bytes b.plan b.is_plan (omega arith) (stage-long bytes h))
faultless-end status.NotJson bytes unfaulted b (inl h) = absurd (not-early 1 bytes b.plan b.is_plan (omega arith) (stage-json bytes h))
faultless-end status.BadPlan bytes unfaulted b (inl h) = absurd (not-early 2 bytes b.plan b.is_plan (omega arith) (stage-fault bytes h.0 h.1))
faultless-end status.Usage bytes unfaulted b (inl h) = absurd h
faultless-end status.ReadFault bytes unfaulted b (inl h) = absurd h
faultless-end status.NotHex bytes unfaulted b (inl h) = absurd h
faultless-end status.Rejected bytes unfaulted b (inl h) = absurd h
faultless-end status.NotCallable bytes unfaulted b (inl h) = absurd h
faultless-end status.NotChained bytes unfaulted b (inl h) = absurd h
faultless-end status.BadValue bytes unfaulted b (inl h) = absurd h
faultless-end status.OverLimit bytes unfaulted b (inl h) = absurd h
faultless-end status.OutOfMemory bytes unfaulted b (inl h) = absurd h

-- Where the words are read, what holds of a source's bytes decides the end.
pub exactly : (words : List (List ℕ)) (left left' : Option (List ℕ)) (before now : ℕ) (old new : Option (List ℕ)) (write : Type 0) (s wanted : Status) (line : List ℕ) (P : List ℕ → Type 0)
    → ((bytes : List ℕ) → P bytes → IsOf s bytes ⊎ (s ≡ status.OutOfMemory) → IsOrMemory wanted s)
    → IsEnding words left left' (Rose before now) old new write s line → IsUndisturbedPlan words before now → IfSome left (λ bytes. P bytes → IsOrMemory wanted s)
exactly words None left' before now old new write s wanted line P decides h calm = tt
exactly words (Some bytes) left' before now old new write s wanted line P decides h calm =
    λ p. decides bytes p (end-of words bytes left' (Rose before now) old new write s line h calm.reads calm.no_fault)

-- a write fault has its cause
pub no-write-fault : (words : List (List ℕ)) (left left' : Option (List ℕ)) (read : Type 0) (old new : Option (List ℕ)) (write : Type 0) (s : Status) (line : List ℕ)
    → IsEnding words left left' read old new write s line → (write → ⊥) → s ≡ status.WriteFault → ⊥
no-write-fault words left left' read old new write s line h none e =
    let P : Status → Type 0 = λ t. IsEnding words left left' read old new write t line in none (subst P e h).2.0

-- the line of an end, but for one that names a fault
pub plain-line : (words : List (List ℕ)) (left left' : Option (List ℕ)) (read : Type 0) (old new : Option (List ℕ)) (write : Type 0) (s : Status) (line : List ℕ)
    → IsEnding words left left' read old new write s line → s ≢ status.BadPlan → s ≢ status.Refused → s ≢ status.Rejected → s ≢ status.BadValue → line ≡ line_of s
plain-line words left left' read old new write status.Done line h bad refused rejected value = h.2.1
plain-line words left left' read old new write status.Usage line h bad refused rejected value = h.2
plain-line words left left' read old new write status.ReadFault line h bad refused rejected value = h.2.2
plain-line words left left' read old new write status.WriteFault line h bad refused rejected value = h.2.2
plain-line words left left' read old new write status.TooLong line h bad refused rejected value = h.2.2
plain-line words left left' read old new write status.NotJson line h bad refused rejected value = h.2.3
plain-line words left left' read old new write status.BadPlan line h bad refused rejected value = absurd (bad refl)
plain-line words left left' read old new write status.Refused line h bad refused rejected value = absurd (refused refl)
plain-line words left left' read old new write status.NotHex line h bad refused rejected value = h.2.3
plain-line words left left' read old new write status.Rejected line h bad refused rejected value = absurd (rejected refl)
plain-line words left left' read old new write status.NotCallable line h bad refused rejected value = h.2.4
plain-line words left left' read old new write status.NotChained line h bad refused rejected value = h.2.3
plain-line words left left' read old new write status.BadValue line h bad refused rejected value = absurd (value refl)
plain-line words left left' read old new write status.OverLimit line h bad refused rejected value = h.2.3
plain-line words left left' read old new write status.OutOfMemory line h bad refused rejected value = h.1

-- The fault of a plan was told, where its line was.
pub told-fault : (chain : Bool) (call : Option (List ℕ)) (left left' : Option (List ℕ)) (line : List ℕ) (old new : Option (List ℕ)) (before now : ℕ) → Read left left' (λ bytes. TellsBadPlan chain call bytes line) → TellsLine old new before now line
    → Read left left' (λ bytes. (f : PlanFault) × HoldsBadPlanBy chain call bytes f × TellsLine old new before now (fault_line (codes "plan") f))
told-fault chain call left left' line old new before now r h = record {
  bytes = r.bytes;
  all = r.all;
  is_so = (r.is_so.fault, r.is_so.holds, subst (λ (l : List ℕ). TellsLine old new before now l) r.is_so.is_line h);
}

-- The refusal of a plan was told, where its line was.
pub told-refusal : (chain : Bool) (call : Option (List ℕ)) (left left' : Option (List ℕ)) (line : List ℕ) (old new : Option (List ℕ)) (before now : ℕ) → Read left left' (λ bytes. TellsRefusalIn chain call bytes line) → TellsLine old new before now line
    → Read left left' (λ bytes. (f : Fault) × (place : Place) × HoldsRefusalBy chain call bytes f place × TellsLine old new before now (refusal_line f place))
told-refusal chain call left left' line old new before now r h = record {
  bytes = r.bytes;
  all = r.all;
  is_so = (r.is_so.fault, r.is_so.place, r.is_so.holds, subst (λ (l : List ℕ). TellsLine old new before now l) r.is_so.is_line h);
}

-- an end that is this one
pub is-end : (words : List (List ℕ)) (left left' : Option (List ℕ)) (read : Type 0) (old new : Option (List ℕ)) (write : Type 0) (s t : Status) (line : List ℕ)
    → IsEnding words left left' read old new write s line → s ≡ t → IsEnding words left left' read old new write t line
is-end words left left' read old new write s t line h e =
    let P : Status → Type 0 = λ u. IsEnding words left left' read old new write u line in subst P e h

-- what was written at an end that says so
pub printed : (words : List (List ℕ)) (left left' : Option (List ℕ)) (read : Type 0) (old new : Option (List ℕ)) (write : Type 0) (s : Status) (line : List ℕ)
    → IsEnding words left left' read old new write s line → s ≡ status.Done
    → (o : CommandOptions) × (reading words ≡ Some o) × Sends o left left' (λ text. Appends old new text)
printed words left left' read old new write s line h e = let k = is-end words left left' read old new write s status.Done line h e in (k.0, k.1, k.2.0)

pub printed-front : (words : List (List ℕ)) (left left' : Option (List ℕ)) (read : Type 0) (old new : Option (List ℕ)) (write : Type 0) (s : Status) (line : List ℕ)
    → IsEnding words left left' read old new write s line → s ≡ status.WriteFault
    → (o : CommandOptions) × (reading words ≡ Some o) × Sends o left left' (λ text. AppendsFront old new text)
printed-front words left left' read old new write s line h e = let k = is-end words left left' read old new write s status.WriteFault line h e in (k.0, k.1, k.2.1)

-- a line that was written, whole or in part
pub told : {E : Type 0} (r : Result ⊤ E) (old new : Option (List ℕ)) (before now : ℕ) (line : List ℕ)
    → OnOk r (Appends old new line) → OnErr r (AppendsFront old new line) → OnErr r (Rose before now) → TellsLine old new before now line
told (Ok x) old new before now line whole part rose = record {
  front = record { front = line; rest = []; split = sym (append-nil line); appended = whole };
  whole = λ clean. whole;
}
told (Err e) old new before now line whole part rose = record { front = part; whole = λ clean. absurd (clean rose) }
