-- How the ends of a run that chains two adapters follow from what was read.
use Rattle.std.proofs.Common.{◌≡◌, ℕ, zero, suc, ◌≤◌, ◌<◌, Bool, true, false, List, length, Option, None, Some, Result, Ok, Err, IfSome, ◌⊎◌, inl, inr, refl, sym, subst, ap, ◌∙◌, arith, string_bytes}
use Rattle.std.specs.Prelude.{IsSomeAnd, nat_lt}
use Rattle.std.proofs.lemmas.Bool.{false≢true, true≢false, lt-ltb, le-ltb}
use Rattle.std.specs.Io.KnownBytes.{Appends}
use Rattle.serde_json.specs.Data.{Data}
use Rattle.fact_io.specs.Transfers.{AppendsFront, TakesAll}
use Rattle.fact_io.specs.Faults.{Rose}
use Rattle.fact_types.proofs.ShapeLaws.{none_some, same_some}
use Rattle.fact_types.specs.Adapters.{LinkedAdapter}
use Rattle.fact_types.specs.Shapes.{Shape}
use Rattle.fact_plan.specs.declared.fault.PlanFault.{PlanFault}
use Rattle.fact_plan.specs.Reading.{value_in}
use Rattle.fact_plan.specs.Inputs.{HasInput, HoldsFaultyInput, HoldsInput, HoldsNoJson, IsTooLong, limit}
use Rattle.fact_plan_types.specs.declared.error.Place.{Place}
use Rattle.fact_plan_types.specs.Faults.{Fault}
use Rattle.fact_adapter_rules.specs.Adapters.{adapters_of}
use Rattle.fact_adapter_rules.specs.FirstFault.{IsFaultlessPlan, IsFirstAt}
use Rattle.fact_adapter_rules.proofs.FaultLaws.{faultless-first}
use Rattle.fact_values.specs.declared.value.Value.{Value}
use Rattle.fact_lowering.specs.Room.{fits}
use Rattle.fact_host.specs.Rules.{CallShapes}
use Rattle.fact_chain_laws.specs.Chains.{FitBothWays, IsOverOneWay, passed_back, passed_on}
use Rattle.fact_call_mode.specs.declared.reply.CallReply.{CallReply}
use Rattle.fact_call_mode.specs.declared.reply.CallReply.TheVariants as call_reply
use Rattle.fact_call_mode.specs.Calls.{callable_named}
use Rattle.fact_call_mode.specs.Replies.{shapes_of}
use Rattle.fact_chain_mode.specs.ChainInputs.{ChainInput, chain_input}
use Rattle.fact_chain_mode.specs.ChainReplies.{IsReplyToChain}
use Rattle.fact_chain_mode.specs.ChainTexts.{AreBadChainValues, HasBadChainValue, HasChain, HasChainValues, IsChainOverLimit, IsNotChained, LeadsNowhere, NamesChained, chain_args, chain_results, leads_to}
use Rattle.fact_command.specs.declared.command.CommandOptions.{CommandOptions}
use Rattle.fact_command.specs.declared.status.Status.{Status}
use Rattle.fact_command.specs.declared.status.Status.TheVariants as status
use Rattle.fact_command.specs.Command.{HasOneMode, reading}
use Rattle.fact_run.specs.declared.reply.Reply.{Reply}
use Rattle.fact_run.specs.declared.reply.Reply.TheVariants as reply
use Rattle.fact_run.specs.Replies.{IsChainReply, IsEnding, IsReplyToChained, IsReplyToBadPlan, IsReplyToRefusal, IsReplyToBadValue, IsReplyUnder, IsToldChainReply, TellsBadValue, TellsBadPlan, TellsRefusalIn}
use Rattle.fact_run.specs.Run.{AsksChain, EndsAsChain, HoldsOverLimitBy, IsChainMode, IsOrMemory, IsUndisturbedChain, Read, Sends, SendsBy, SendsChain}
use Rattle.fact_run.proofs.Ends.{fault-by, over-by, over-in, past, refusal-by, refused-in, sends-in, so, told-in, value-by, value-in}

-- ---- from what was read to a reply

-- the line of a fault in the input
told-bad : (fuel : ℕ) (bytes : List ℕ) (f : PlanFault) (r : Reply) → HoldsFaultyInput chain_input bytes f → IsReplyToBadPlan f r → IsReplyToChained fuel bytes r
told-bad fuel bytes f (reply.BadPlan line) h e = record { fault = f; holds = h; is_line = e.1 }
told-bad fuel bytes f reply.OutOfMemory h e = tt
told-bad fuel bytes f (reply.Page text) h e = absurd e
told-bad fuel bytes f reply.ReadFault h e = absurd e
told-bad fuel bytes f reply.TooLong h e = absurd e
told-bad fuel bytes f reply.NotJson h e = absurd e
told-bad fuel bytes f (reply.Refused line) h e = absurd e
told-bad fuel bytes f reply.NotHex h e = absurd e
told-bad fuel bytes f (reply.Rejected line) h e = absurd e
told-bad fuel bytes f reply.NotCallable h e = absurd e
told-bad fuel bytes f reply.NotChained h e = absurd e
told-bad fuel bytes f (reply.BadValue line) h e = absurd e
told-bad fuel bytes f reply.OverLimit h e = absurd e

-- of the plan in it
told-refused : (fuel : ℕ) (bytes : List ℕ) (f : Fault) (place : Place) (r : Reply) → HasInput chain_input bytes (λ i. IsFirstAt i.plan f place) → IsReplyToRefusal (Some (f, place)) r → IsReplyToChained fuel bytes r
told-refused fuel bytes f place (reply.Refused line) h e = record { fault = f; place = place; holds = h; is_line = e }
told-refused fuel bytes f place reply.OutOfMemory h e = tt
told-refused fuel bytes f place (reply.Page text) h e = absurd e
told-refused fuel bytes f place reply.ReadFault h e = absurd e
told-refused fuel bytes f place reply.TooLong h e = absurd e
told-refused fuel bytes f place reply.NotJson h e = absurd e
told-refused fuel bytes f place (reply.BadPlan line) h e = absurd e
told-refused fuel bytes f place reply.NotHex h e = absurd e
told-refused fuel bytes f place (reply.Rejected line) h e = absurd e
told-refused fuel bytes f place reply.NotCallable h e = absurd e
told-refused fuel bytes f place reply.NotChained h e = absurd e
told-refused fuel bytes f place (reply.BadValue line) h e = absurd e
told-refused fuel bytes f place reply.OverLimit h e = absurd e

-- and of its values
told-value : (fuel : ℕ) (bytes : List ℕ) (f : PlanFault) (r : Reply) → HasInput chain_input bytes (λ i. HasBadChainValue i f) → IsReplyToBadValue f r → IsReplyToChained fuel bytes r
told-value fuel bytes f (reply.BadValue line) h e = record { fault = f; holds = h; is_line = e.1 }
told-value fuel bytes f reply.OutOfMemory h e = tt
told-value fuel bytes f (reply.Page text) h e = absurd e
told-value fuel bytes f reply.ReadFault h e = absurd e
told-value fuel bytes f reply.TooLong h e = absurd e
told-value fuel bytes f reply.NotJson h e = absurd e
told-value fuel bytes f (reply.BadPlan line) h e = absurd e
told-value fuel bytes f (reply.Refused line) h e = absurd e
told-value fuel bytes f reply.NotHex h e = absurd e
told-value fuel bytes f (reply.Rejected line) h e = absurd e
told-value fuel bytes f reply.NotCallable h e = absurd e
told-value fuel bytes f reply.NotChained h e = absurd e
told-value fuel bytes f reply.OverLimit h e = absurd e

-- the line of each reply to a chain
pub told-chain : (fuel : ℕ) (bytes : List ℕ) (c : CallReply) (r : Reply) → IsReplyToChain fuel bytes c → IsToldChainReply c r → IsReplyToChained fuel bytes r
told-chain fuel bytes call_reply.NotJson r h e = subst (IsReplyToChained fuel bytes) (sym e) h
told-chain fuel bytes (call_reply.BadPlan f) r h e = told-bad fuel bytes f r h.1 e
told-chain fuel bytes (call_reply.Refused error) r h e =
    let t = h.is_so in
    told-refused fuel bytes t.fault t.place r (record { input = h.input; holds = h.holds; is_so = t.is_first }) (subst (λ o. IsReplyToRefusal o r) t.is_told e)
told-chain fuel bytes call_reply.NotCallable r h e = subst (IsReplyToChained fuel bytes) (sym e) h
told-chain fuel bytes (call_reply.BadValue f) r h e = told-value fuel bytes f r (record { input = h.input; holds = h.holds; is_so = h.is_so.1 }) e
told-chain fuel bytes call_reply.OverLimit r h e = subst (IsReplyToChained fuel bytes) (sym e) h
told-chain fuel bytes (call_reply.Page text) r h e =
    subst (IsReplyToChained fuel bytes) (sym e) (record { input = h.input; holds = h.holds; text = string_bytes text; tells = h.is_so; sent = refl })
told-chain fuel bytes call_reply.OutOfMemory r h e = subst (IsReplyToChained fuel bytes) (sym e) tt

-- all the bytes of a source
pub replied-chain : (fuel : ℕ) (left left' : Option (List ℕ)) (fault : Type 0) (bytes : List ℕ) (r : Reply) → TakesAll left left' bytes → IsReplyToChained fuel bytes r → IsChainReply fuel left left' fault r
replied-chain fuel left left' fault bytes (reply.Page text) all h = record { bytes = bytes; all = all; is_so = h }
replied-chain fuel left left' fault bytes reply.ReadFault all h = absurd h
replied-chain fuel left left' fault bytes reply.TooLong all h = absurd h
replied-chain fuel left left' fault bytes reply.NotJson all h = record { bytes = bytes; all = all; is_so = h }
replied-chain fuel left left' fault bytes (reply.BadPlan line) all h = record { bytes = bytes; all = all; is_so = h }
replied-chain fuel left left' fault bytes (reply.Refused line) all h = record { bytes = bytes; all = all; is_so = h }
replied-chain fuel left left' fault bytes reply.NotHex all h = absurd h
replied-chain fuel left left' fault bytes (reply.Rejected line) all h = absurd h
replied-chain fuel left left' fault bytes reply.NotCallable all h = absurd h
replied-chain fuel left left' fault bytes reply.NotChained all h = record { bytes = bytes; all = all; is_so = h }
replied-chain fuel left left' fault bytes (reply.BadValue line) all h = record { bytes = bytes; all = all; is_so = h }
replied-chain fuel left left' fault bytes reply.OverLimit all h = record { bytes = bytes; all = all; is_so = h }
replied-chain fuel left left' fault bytes reply.OutOfMemory all h = tt

-- ---- modes

-- where two adapters are chained, that is all that is done
pub is-chain-mode : (o : CommandOptions) → HasOneMode o → o.chain ≡ true → IsChainMode o
is-chain-mode o one e = let alone = one.chain e in record { not_generated = alone.0; not_checked = alone.1; not_called = alone.2; chained = e }

-- what a source comes to, where two adapters are chained
pub replied-chained : (o : CommandOptions) (left left' : Option (List ℕ)) (fault : Type 0) (r : Reply) → IsChainMode o → IsChainReply o.fuel left left' fault r → IsReplyUnder o left left' fault r
replied-chained o left left' fault (reply.Page text) mode h = sends-in false true None None o left left' (λ sent. sent ≡ string_bytes text) mode.not_checked mode.chained mode.not_called mode.not_generated h
replied-chained o left left' fault reply.ReadFault mode h = h
replied-chained o left left' fault reply.TooLong mode h = h
replied-chained o left left' fault reply.NotJson mode h = (record { not_generated = mode.not_generated; not_checked = mode.not_checked }, h)
replied-chained o left left' fault (reply.BadPlan line) mode h = (record { not_generated = mode.not_generated; not_checked = mode.not_checked }, told-in true None o left left' (string_bytes line) mode.chained mode.not_called h)
replied-chained o left left' fault (reply.Refused line) mode h = (record { not_generated = mode.not_generated; not_checked = mode.not_checked }, refused-in true None o left left' (string_bytes line) mode.chained mode.not_called h)
replied-chained o left left' fault reply.NotHex mode h = absurd h.is_so
replied-chained o left left' fault (reply.Rejected line) mode h = absurd h.is_so
replied-chained o left left' fault reply.NotCallable mode h = absurd h.is_so
replied-chained o left left' fault reply.NotChained mode h = (mode, h)
replied-chained o left left' fault (reply.BadValue line) mode h = (record { not_generated = mode.not_generated; not_checked = mode.not_checked }, value-in true None o left left' (string_bytes line) mode.chained mode.not_called h)
replied-chained o left left' fault reply.OverLimit mode h = (record { not_generated = mode.not_generated; not_checked = mode.not_checked }, over-in true None o left left' mode.chained mode.not_called h)
replied-chained o left left' fault reply.OutOfMemory mode h = tt

-- the words ask for the chain
options-chain : (words : List (List ℕ)) (o : CommandOptions) → reading words ≡ Some o → AsksChain words → IsChainMode o
options-chain words o e g = let P : Option CommandOptions → Type 0 = λ r. IsSomeAnd r IsChainMode in subst P e g

none-chains : (words : List (List ℕ)) → reading words ≡ None → AsksChain words → ⊥
none-chains words e g = let P : Option CommandOptions → Type 0 = λ r. IsSomeAnd r IsChainMode in subst P e g

pub chain-asked : (words : List (List ℕ)) (o : CommandOptions) → reading words ≡ Some o → IsChainMode o → AsksChain words
chain-asked words o e h = let P : Option CommandOptions → Type 0 = λ r. IsSomeAnd r IsChainMode in subst P (sym e) h

-- what was sent
sent-chained : (words : List (List ℕ)) (o : CommandOptions) (left left' : Option (List ℕ)) (Sent : List ℕ → Type 0) → reading words ≡ Some o → AsksChain words → Sends o left left' Sent
    → Read left left' (λ bytes. SendsChain o.fuel bytes Sent)
sent-chained words o left left' Sent e asks h =
    let mode = options-chain words o e asks in
    let P : Bool → Type 0 = λ b. SendsBy b o.chain o.call o.generate o left left' Sent in
    let L : Bool → Type 0 = λ b. SendsBy false b o.call o.generate o left left' Sent in
    subst L mode.chained (subst P mode.not_checked h)

-- ---- each input comes to one end

-- what the bytes of an input hold at an end
abbrev pub IsOfChain : Status → List ℕ → Type 0
IsOfChain status.TooLong bytes = IsTooLong bytes
IsOfChain status.NotJson bytes = HoldsNoJson bytes
IsOfChain status.BadPlan bytes = (f : PlanFault) × HoldsFaultyInput chain_input bytes f
IsOfChain status.Refused bytes = (f : Fault) × (place : Place) × HasInput chain_input bytes (λ i. IsFirstAt i.plan f place)
IsOfChain status.NotChained bytes = HasInput chain_input bytes IsNotChained
IsOfChain status.BadValue bytes = (f : PlanFault) × HasInput chain_input bytes (λ i. HasBadChainValue i f)
IsOfChain status.OverLimit bytes = HasInput chain_input bytes IsChainOverLimit
IsOfChain status.Done bytes = HasInput chain_input bytes HasChain
IsOfChain status.WriteFault bytes = HasInput chain_input bytes HasChain
IsOfChain _ bytes = ⊥

-- an input of which a chain was told is one with a chain
with-chain : (fuel : ℕ) (bytes : List ℕ) (Sent : List ℕ → Type 0) → SendsChain fuel bytes Sent → HasInput chain_input bytes HasChain
with-chain fuel bytes Sent a = record { input = a.input; holds = a.holds; is_so = a.tells.has }

-- an end without a fault, of a run that chains two adapters, tells what the bytes hold
chain-end-of : (words : List (List ℕ)) (bytes : List ℕ) (left' : Option (List ℕ)) (read : Type 0) (old new : Option (List ℕ)) (write : Type 0) (s : Status) (line : List ℕ)
    → IsEnding words (Some bytes) left' read old new write s line → AsksChain words → (read → ⊥) → IsOfChain s bytes ⊎ (s ≡ status.OutOfMemory)
chain-end-of words bytes left' read old new write status.Done line h given none =
    let a = so bytes left' (λ b. SendsChain h.0.fuel b (λ text. Appends old new text)) (sent-chained words h.0 (Some bytes) left' (λ text. Appends old new text) h.1 given h.2.0) in
    inl (with-chain h.0.fuel bytes (λ text. Appends old new text) a)
chain-end-of words bytes left' read old new write status.Usage line h given none = absurd (none-chains words h.0 given)
chain-end-of words bytes left' read old new write status.ReadFault line h given none = absurd (none h.2.0)
chain-end-of words bytes left' read old new write status.WriteFault line h given none =
    let a = so bytes left' (λ b. SendsChain h.0.fuel b (λ text. AppendsFront old new text)) (sent-chained words h.0 (Some bytes) left' (λ text. AppendsFront old new text) h.1 given h.2.1) in
    inl (with-chain h.0.fuel bytes (λ text. AppendsFront old new text) a)
chain-end-of words bytes left' read old new write status.TooLong line h given none = inl (past bytes left' h.2.0)
chain-end-of words bytes left' read old new write status.NotJson line h given none = inl (so bytes left' HoldsNoJson h.2.1)
chain-end-of words bytes left' read old new write status.BadPlan line h given none =
    let t = so bytes left' (λ b. TellsBadPlan h.0.chain h.0.call b line) h.2.1 in
    let mode = options-chain words h.0 h.1 given in
    inl (t.fault, fault-by h.0 true None bytes t.fault mode.chained mode.not_called t.holds)
chain-end-of words bytes left' read old new write status.Refused line h given none =
    let t = so bytes left' (λ b. TellsRefusalIn h.0.chain h.0.call b line) h.2.1 in
    let mode = options-chain words h.0 h.1 given in
    inl (t.fault, t.place, refusal-by h.0 true None bytes t.fault t.place mode.chained mode.not_called t.holds)
chain-end-of words bytes left' read old new write status.NotHex line h given none = absurd (false≢true (sym (options-chain words h.0 h.1 given).not_checked ∙ h.2.0))
chain-end-of words bytes left' read old new write status.Rejected line h given none = absurd (false≢true (sym (options-chain words h.0 h.1 given).not_checked ∙ h.2.0))
chain-end-of words bytes left' read old new write status.NotCallable line h given none = absurd (false≢true (sym h.2.1.not_chained ∙ (options-chain words h.0 h.1 given).chained))
chain-end-of words bytes left' read old new write status.NotChained line h given none = inl (so bytes left' (λ b. HasInput chain_input b IsNotChained) h.2.1)
chain-end-of words bytes left' read old new write status.BadValue line h given none =
    let t = so bytes left' (λ b. TellsBadValue h.0.chain h.0.call b line) h.2.1 in
    let mode = options-chain words h.0 h.1 given in
    inl (t.fault, value-by h.0 true None bytes t.fault mode.chained mode.not_called t.holds)
chain-end-of words bytes left' read old new write status.OverLimit line h given none =
    let mode = options-chain words h.0 h.1 given in
    inl (over-by h.0 true None bytes mode.chained mode.not_called (so bytes left' (λ b. HoldsOverLimitBy h.0.chain h.0.call b) h.2.1))
chain-end-of words bytes left' read old new write status.OutOfMemory line h given none = inr refl

-- ---- how far the reading of an input comes: to its length, to JSON, to an input, to two adapters, to values, or past these

abbrev values_stage : Result (List Value) PlanFault → Result (List Value) PlanFault → ℕ
values_stage (Err f) results = 4
values_stage (Ok args) (Err f) = 4
values_stage (Ok args) (Ok results) = 5

abbrev led_stage : ChainInput → (a b : LinkedAdapter) → Bool → ℕ
led_stage i a b false = 3
led_stage i a b true = values_stage (chain_args a i) (chain_results b i)

abbrev names_stage : ChainInput → (first second : Option LinkedAdapter) → ℕ
names_stage i None second = 3
names_stage i (Some a) None = 3
names_stage i (Some a) (Some b) = led_stage i a b (leads_to a b)

abbrev input_stage : Result ChainInput PlanFault → ℕ
input_stage (Err f) = 2
input_stage (Ok i) = names_stage i (callable_named i.first (adapters_of i.plan)) (callable_named i.second (adapters_of i.plan))

abbrev value_stage : Option Data → ℕ
value_stage None = 1
value_stage (Some v) = input_stage (chain_input v)

abbrev stage : Bool → Option Data → ℕ
stage true v = 0
stage false v = value_stage v

abbrev stage_of : (bytes : List ℕ) → ℕ
stage_of bytes = stage (nat_lt limit (length bytes)) (value_in bytes)

-- the end that comes at a stage before the last one
abbrev end_at : ℕ → Status
end_at zero = status.TooLong
end_at (suc zero) = status.NotJson
end_at (suc (suc zero)) = status.BadPlan
end_at (suc (suc (suc zero))) = status.NotChained
end_at (suc (suc (suc (suc n)))) = status.BadValue

-- ---- values that fit on each of their ways do not fail to on one

module _ (s z : CallShapes) (args results : List Value) (fit : FitBothWays s z args results) where
  clash : (ts us : List Shape) (vs : List Value) → fits ts us vs ≡ true → fits ts us vs ≡ false → ⊥
  clash ts us vs p q = true≢false (sym p ∙ q)

  pub not-over : IsOverOneWay s z args results → ⊥
  not-over (inl e) = clash s.lower_params s.lift_params args fit.args_fit e
  not-over (inr (inl e)) =
      let same : e.0 ≡ fit.between = same_some (passed_on s args) e.0 fit.between e.1 fit.between_is in
      clash z.lower_params z.lift_params fit.between fit.between_fits (subst (λ vs. fits z.lower_params z.lift_params vs ≡ false) same e.2)
  not-over (inr (inr (inl e))) = clash z.lift_results z.lower_results results fit.results_fit e
  not-over (inr (inr (inr e))) =
      let same : e.0 ≡ fit.between = same_some (passed_on s args) e.0 fit.between e.1 fit.between_is in
      let back : passed_back z fit.between results ≡ Some e.2.0 = subst (λ vs. passed_back z vs results ≡ Some e.2.0) same e.2.1 in
      let last : e.2.0 ≡ fit.back = same_some (passed_back z fit.between results) e.2.0 fit.back back fit.back_is in
      clash s.lift_results s.lower_results fit.back fit.back_fits (subst (λ vs. fits s.lift_results s.lower_results vs ≡ false) last e.2.2)

-- the values of an input are those of one pair of adapters
record AreSame (a b c d : LinkedAdapter) (args results xs ys : List Value) : Type 0 where
  first : a ≡ c
  second : b ≡ d
  args_are : args ≡ xs
  results_are : results ≡ ys

ok_once : {A : Type 0} (r : Result A PlanFault) (x y : A) → r ≡ Ok x → r ≡ Ok y → x ≡ y
ok_once r x y e g = cc

same-values : (i : ChainInput) (a b c d : LinkedAdapter) (args results xs ys : List Value) → HasChainValues i a b args results → HasChainValues i c d xs ys → AreSame a b c d args results xs ys
same-values i a b c d args results xs ys h k =
    let first : a ≡ c = same_some (callable_named i.first (adapters_of i.plan)) a c h.names.first k.names.first in
    let second : b ≡ d = same_some (callable_named i.second (adapters_of i.plan)) b d h.names.second k.names.second in
    record {
      first = first;
      second = second;
      args_are = ok_once (chain_args c i) args xs (subst (λ x. chain_args x i ≡ Ok args) first h.values.args_are) k.values.args_are;
      results_are = ok_once (chain_results d i) results ys (subst (λ x. chain_results x i ≡ Ok results) second h.values.results_are) k.values.results_are;
    }

-- an input whose values fit is none whose values do not
not-both : (i : ChainInput) → IsChainOverLimit i → HasChain i → ⊥
not-both i o h =
    let same = same-values i o.first o.second h.first h.second o.args o.results h.args h.results o.values h.values in
    let at_first : IsOverOneWay (shapes_of h.first) (shapes_of o.second) o.args o.results = subst (λ a. IsOverOneWay (shapes_of a) (shapes_of o.second) o.args o.results) same.first o.over in
    let at_second : IsOverOneWay (shapes_of h.first) (shapes_of h.second) o.args o.results = subst (λ b. IsOverOneWay (shapes_of h.first) (shapes_of b) o.args o.results) same.second at_first in
    let with_args : IsOverOneWay (shapes_of h.first) (shapes_of h.second) h.args o.results = subst (λ vs. IsOverOneWay (shapes_of h.first) (shapes_of h.second) vs o.results) same.args_are at_second in
    let with_results : IsOverOneWay (shapes_of h.first) (shapes_of h.second) h.args h.results = subst (λ vs. IsOverOneWay (shapes_of h.first) (shapes_of h.second) h.args vs) same.results_are with_args in
    not-over (shapes_of h.first) (shapes_of h.second) h.args h.results h.fitting with_results

module _ (bytes : List ℕ) where
  stage-long : IsTooLong bytes → stage_of bytes ≡ 0
  stage-long h = ap (λ b. stage b (value_in bytes)) (lt-ltb limit (length bytes) h)

  stage-value : (v : Option Data) → length bytes ≤ limit → value_in bytes ≡ v → stage_of bytes ≡ value_stage v
  stage-value v within e = ap (λ b. stage b (value_in bytes)) (le-ltb limit (length bytes) within) ∙ ap value_stage e

  stage-json : HoldsNoJson bytes → stage_of bytes ≡ 1
  stage-json h = stage-value None h.within h.no_json

  stage-fault : (f : PlanFault) → HoldsFaultyInput chain_input bytes f → stage_of bytes ≡ 2
  stage-fault f h = stage-value (Some h.value) h.within h.is_json ∙ ap input_stage h.is_fault

  stage-input : (i : ChainInput) → HoldsInput chain_input bytes i → stage_of bytes ≡ names_stage i (callable_named i.first (adapters_of i.plan)) (callable_named i.second (adapters_of i.plan))
  stage-input i h = stage-value (Some h.value) h.within h.is_json ∙ ap input_stage h.is_input

  nowhere : (i : ChainInput) (first second : Option LinkedAdapter) → LeadsNowhere first second → names_stage i first second ≡ 3
  nowhere i None second h = refl
  nowhere i (Some a) None h = refl
  nowhere i (Some a) (Some b) h = ap (led_stage i a b) h

  stage-none : HasInput chain_input bytes IsNotChained → stage_of bytes ≡ 3
  stage-none h = stage-input h.input h.holds ∙ nowhere h.input (callable_named h.input.first (adapters_of h.input.plan)) (callable_named h.input.second (adapters_of h.input.plan)) h.is_so.nowhere

  stage-chained : (i : ChainInput) (a b : LinkedAdapter) → HoldsInput chain_input bytes i → NamesChained i a b → stage_of bytes ≡ values_stage (chain_args a i) (chain_results b i)
  stage-chained i a b h c =
      stage-input i h ∙ ap (λ o. names_stage i o (callable_named i.second (adapters_of i.plan))) c.first ∙ ap (names_stage i (Some a)) c.second ∙ ap (led_stage i a b) c.leads

  faulty : (i : ChainInput) (a b : LinkedAdapter) (f : PlanFault) → AreBadChainValues a b i f → values_stage (chain_args a i) (chain_results b i) ≡ 4
  faulty i a b f (inl e) = ap (λ r. values_stage r (chain_results b i)) e
  faulty i a b f (inr e) = ap (λ r. values_stage r (chain_results b i)) e.1 ∙ ap (values_stage (Ok e.0)) e.2

  stage-bad : (f : PlanFault) → HasInput chain_input bytes (λ i. HasBadChainValue i f) → stage_of bytes ≡ 4
  stage-bad f h = stage-chained h.input h.is_so.first h.is_so.second h.holds h.is_so.names ∙ faulty h.input h.is_so.first h.is_so.second f h.is_so.fault

  stage-values : (i : ChainInput) (a b : LinkedAdapter) (args results : List Value) → HoldsInput chain_input bytes i → HasChainValues i a b args results → stage_of bytes ≡ 5
  stage-values i a b args results h v =
      stage-chained i a b h v.names ∙ ap (λ r. values_stage r (chain_results b i)) v.values.args_are ∙ ap (values_stage (Ok args)) v.values.results_are

  stage-over : HasInput chain_input bytes IsChainOverLimit → stage_of bytes ≡ 5
  stage-over h = stage-values h.input h.is_so.first h.is_so.second h.is_so.args h.is_so.results h.holds h.is_so.values

  stage-chain : HasInput chain_input bytes HasChain → stage_of bytes ≡ 5
  stage-chain h = stage-values h.input h.is_so.first h.is_so.second h.is_so.args h.is_so.results h.holds h.is_so.values

  -- the bytes hold one input
  one-input : (i j : ChainInput) → HoldsInput chain_input bytes i → HoldsInput chain_input bytes j → i ≡ j
  one-input i j h k =
      let values : h.value ≡ k.value = cc (h.is_json, k.is_json) in
      cc (h.is_input, k.is_input, ap chain_input values)

  over-and-fit : HasInput chain_input bytes IsChainOverLimit → HasInput chain_input bytes HasChain → ⊥
  over-and-fit o h = not-both h.input (subst IsChainOverLimit (one-input o.input h.input o.holds h.holds) o.is_so) h.is_so

  abbrev Refusal : Type 0
  Refusal = (f : Fault) × (place : Place) × HasInput chain_input bytes (λ i. IsFirstAt i.plan f place)

  -- an input whose plan has no fault has no first one
  not-refused : (i : ChainInput) → HoldsInput chain_input bytes i → IsFaultlessPlan i.plan → Refusal → ⊥
  not-refused i h sound r =
      let q = r.2 in
      faultless-first i.plan r.0 r.1 sound (subst (λ (x : ChainInput). IsFirstAt x.plan r.0 r.1) (one-input q.input i q.holds h) q.is_so)

  -- nor have bytes that hold no input
  long-input : IsTooLong bytes → Refusal → ⊥
  long-input h r = omega (arith, h, r.2.holds.within)

  no-input : HoldsNoJson bytes → Refusal → ⊥
  no-input h r = none_some (value_in bytes) r.2.holds.value h.no_json r.2.holds.is_json

  faulty-input : (f : PlanFault) → HoldsFaultyInput chain_input bytes f → Refusal → ⊥
  faulty-input f h r =
      let values : h.value ≡ r.2.holds.value = cc (h.is_json, r.2.holds.is_json) in
      absurd (cc (h.is_fault, r.2.holds.is_input, ap chain_input values))

  -- an end is that of its stage, but for that of a refusal, and where the values are of their types
  data At (s : Status) : Type 0 where
    Refuses : Refusal → At s
    Over : s ≡ status.OverLimit → HasInput chain_input bytes IsChainOverLimit → At s
    Chains : (s ≡ status.Done) ⊎ (s ≡ status.WriteFault) → HasInput chain_input bytes HasChain → At s
    Ends : stage_of bytes < 5 → s ≡ end_at (stage_of bytes) → At s

  early : (n : ℕ) (s : Status) → n < 5 → stage_of bytes ≡ n → s ≡ end_at n → At s
  early n s few e is = Ends (omega (arith, few, e)) (is ∙ sym (ap end_at e))

  at : (s : Status) → IsOfChain s bytes → At s
  at status.TooLong h = early 0 status.TooLong (omega arith) (stage-long h) refl
  at status.NotJson h = early 1 status.NotJson (omega arith) (stage-json h) refl
  at status.BadPlan h = early 2 status.BadPlan (omega arith) (stage-fault h.0 h.1) refl
  at status.Refused h = Refuses h
  at status.NotChained h = early 3 status.NotChained (omega arith) (stage-none h) refl
  at status.BadValue h = early 4 status.BadValue (omega arith) (stage-bad h.0 h.1) refl
  at status.OverLimit h = Over refl h
  at status.Done h = Chains (inl refl) h
  at status.WriteFault h = Chains (inr refl) h
  at status.Usage h = absurd h
  at status.ReadFault h = absurd h
  at status.NotHex h = absurd h
  at status.Rejected h = absurd h
  at status.NotCallable h = absurd h
  at status.OutOfMemory h = absurd h

  -- so the stage of the bytes decides, where it is before the last one
  decided : (n : ℕ) (s : Status) → n < 5 → stage_of bytes ≡ n → (Refusal → ⊥) → IsOfChain s bytes ⊎ (s ≡ status.OutOfMemory) → IsOrMemory (end_at n) s
  decided n s few e sound (inr memory) = inr memory
  decided n s few e sound (inl h) = by (at s h)
    where
      by : At s → IsOrMemory (end_at n) s
      by (Refuses r) = absurd (sound r)
      by (Over is o) = absurd (omega (arith, few, e, stage-over o))
      by (Chains is c) = absurd (omega (arith, few, e, stage-chain c))
      by (Ends below same) = inl (same ∙ ap end_at e)

  over-decides : (s : Status) → HasInput chain_input bytes IsChainOverLimit → IsOfChain s bytes ⊎ (s ≡ status.OutOfMemory) → IsOrMemory status.OverLimit s
  over-decides s o (inr memory) = inr memory
  over-decides s o (inl h) = by (at s h)
    where
      by : At s → IsOrMemory status.OverLimit s
      by (Refuses r) = absurd (not-refused o.input o.holds o.is_so.values.names.faultless r)
      by (Over is p) = inl is
      by (Chains is c) = absurd (over-and-fit o c)
      by (Ends below same) = absurd (omega (arith, below, stage-over o))

  pub chain-decides : (s : Status) → (s ≡ status.WriteFault → ⊥) → HasInput chain_input bytes HasChain → IsOfChain s bytes ⊎ (s ≡ status.OutOfMemory) → IsOrMemory status.Done s
  chain-decides s clean c (inr memory) = inr memory
  chain-decides s clean c (inl h) = by (at s h)
    where
      done : (s ≡ status.Done) ⊎ (s ≡ status.WriteFault) → IsOrMemory status.Done s
      done (inl is) = inl is
      done (inr is) = absurd (clean is)

      by : At s → IsOrMemory status.Done s
      by (Refuses r) = absurd (not-refused c.input c.holds c.is_so.values.names.faultless r)
      by (Over is o) = absurd (over-and-fit o c)
      by (Chains is d) = done is
      by (Ends below same) = absurd (omega (arith, below, stage-chain c))

  refused-chain : (s : Status) → Refusal → IsOfChain s bytes ⊎ (s ≡ status.OutOfMemory) → IsOrMemory status.Refused s
  refused-chain s r (inr memory) = inr memory
  refused-chain status.Refused r (inl h) = inl refl
  refused-chain status.TooLong r (inl h) = absurd (long-input h r)
  refused-chain status.NotJson r (inl h) = absurd (no-input h r)
  refused-chain status.BadPlan r (inl h) = absurd (faulty-input h.0 h.1 r)
  refused-chain status.NotChained r (inl h) = absurd (not-refused h.input h.holds h.is_so.faultless r)
  refused-chain status.BadValue r (inl h) = absurd (not-refused h.1.input h.1.holds h.1.is_so.names.faultless r)
  refused-chain status.OverLimit r (inl h) = absurd (not-refused h.input h.holds h.is_so.values.names.faultless r)
  refused-chain status.Done r (inl h) = absurd (not-refused h.input h.holds h.is_so.values.names.faultless r)
  refused-chain status.WriteFault r (inl h) = absurd (not-refused h.input h.holds h.is_so.values.names.faultless r)
  refused-chain status.Usage r (inl h) = absurd h
  refused-chain status.ReadFault r (inl h) = absurd h
  refused-chain status.NotHex r (inl h) = absurd h
  refused-chain status.Rejected r (inl h) = absurd h
  refused-chain status.NotCallable r (inl h) = absurd h
  refused-chain status.OutOfMemory r (inl h) = absurd h

  -- how such a run ends
  pub ends : (s : Status) → IsOfChain s bytes ⊎ (s ≡ status.OutOfMemory) → EndsAsChain bytes s
  ends s h = record {
    too_long = λ p. decided 0 s (omega arith) (stage-long p) (long-input p) h;
    not_json = λ p. decided 1 s (omega arith) (stage-json p) (no-input p) h;
    bad_plan = λ p. decided 2 s (omega arith) (stage-fault p.0 p.1) (faulty-input p.0 p.1) h;
    refused = λ p. refused-chain s p h;
    not_chained = λ p. decided 3 s (omega arith) (stage-none p) (not-refused p.input p.holds p.is_so.faultless) h;
    bad_value = λ p. decided 4 s (omega arith) (stage-bad p.0 p.1) (not-refused p.1.input p.1.holds p.1.is_so.names.faultless) h;
    over_limit = λ p. over-decides s p h;
  }

-- Where two adapters are chained, what a source's bytes hold decides the end.
pub exactly-chained : (words : List (List ℕ)) (left left' : Option (List ℕ)) (before now : ℕ) (old new : Option (List ℕ)) (write : Type 0) (s : Status) (line : List ℕ)
    → IsEnding words left left' (Rose before now) old new write s line → IsUndisturbedChain words before now → IfSome left (λ bytes. EndsAsChain bytes s)
exactly-chained words None left' before now old new write s line h calm = tt
exactly-chained words (Some bytes) left' before now old new write s line h calm =
    ends bytes s (chain-end-of words bytes left' (Rose before now) old new write s line h calm.asks calm.no_fault)

pub complete-chain : (words : List (List ℕ)) (left left' : Option (List ℕ)) (before now : ℕ) (old new : Option (List ℕ)) (write : Type 0) (s : Status) (line : List ℕ) → (s ≡ status.WriteFault → ⊥)
    → IsEnding words left left' (Rose before now) old new write s line → IsUndisturbedChain words before now → IfSome left (λ bytes. HasInput chain_input bytes HasChain → IsOrMemory status.Done s)
complete-chain words None left' before now old new write s line clean h calm = tt
complete-chain words (Some bytes) left' before now old new write s line clean h calm =
    λ p. chain-decides bytes s clean p (chain-end-of words bytes left' (Rose before now) old new write s line h calm.asks calm.no_fault)
