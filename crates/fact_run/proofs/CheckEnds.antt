-- How the ends of a run that checks bytes follow from what was read.
use Rattle.std.proofs.Common.{◌≡◌, ℕ, ◌≤◌, Bool, true, List, length, Option, None, Some, IfSome, ◌⊎◌, inl, inr, refl, sym, subst, ◌∙◌, arith, string_bytes}
use Rattle.std.specs.Prelude.{IsSome, IsSomeAnd}
use Rattle.std.proofs.lemmas.Bool.{false≢true}
use Rattle.std.specs.Io.KnownBytes.{Appends}
use Rattle.fact_io.specs.Transfers.{AppendsFront, TakesAll}
use Rattle.fact_io.specs.Faults.{Rose}
use Rattle.fact_wasm.specs.declared.module.WasmModule.{WasmModule}
use Rattle.fact_plan.specs.Inputs.{IsTooLong, limit}
use Rattle.fact_check.specs.Accepted.{AcceptedHasNoCause, IsCause}
use Rattle.fact_check.specs.declared.error.CheckError.{CheckError}
use Rattle.fact_command.specs.declared.status.Status.{Status}
use Rattle.fact_command.specs.declared.status.Status.TheVariants as status
use Rattle.fact_run.specs.declared.reply.Reply.{Reply}
use Rattle.fact_run.specs.declared.reply.Reply.TheVariants as reply
use Rattle.fact_command.specs.declared.command.CommandOptions.{CommandOptions}
use Rattle.fact_command.specs.Command.{reading}
use Rattle.fact_run.specs.Check.{HoldsAccepted, HoldsHex, HoldsNoHex, HoldsRejected, rejected_line}
use Rattle.fact_run.specs.Replies.{IsCheckReply, IsEnding, IsReplyToBytes, IsReplyToCause, IsReplyToCheck, IsReplyUnder, TellsRejection}
use Rattle.fact_run.specs.Run.{ChecksBytes, IsCallMode, IsChainMode, IsJsonMode, IsOrMemory, IsUndisturbedCheck, Read, Sends, SendsAccepted, SendsBy, TellsLine}
use Rattle.fact_run.proofs.Ends.{past, so}

-- ---- from what was read to a reply

-- a cause that bytes have
pub replied-cause : (bytes : List ℕ) (e : CheckError) (r : Reply) → IsCause bytes e → IsReplyToCause e r → IsReplyToBytes bytes r
replied-cause bytes e (reply.Rejected line) h k = (e, k.0, h, k.1)
replied-cause bytes e reply.OutOfMemory h k = tt
replied-cause bytes e (reply.Page text) h k = absurd k
replied-cause bytes e reply.ReadFault h k = absurd k
replied-cause bytes e reply.TooLong h k = absurd k
replied-cause bytes e reply.NotJson h k = absurd k
replied-cause bytes e (reply.BadPlan line) h k = absurd k
replied-cause bytes e (reply.Refused line) h k = absurd k
replied-cause bytes e reply.NotHex h k = absurd k
replied-cause bytes e reply.NotCallable h k = absurd k
replied-cause bytes e reply.NotChained h k = absurd k
replied-cause bytes e (reply.BadValue line) h k = absurd k
replied-cause bytes e reply.OverLimit h k = absurd k

-- bytes whose digits an input has
pub replied-bytes : (input bytes : List ℕ) (r : Reply) → HoldsHex input bytes → IsReplyToBytes bytes r → IsReplyToCheck input r
replied-bytes input bytes (reply.Page text) h k = record { found = k.0; holds = record { bytes = bytes; holds = h; accepted = k.1 }; sent = sym k.2 }
replied-bytes input bytes (reply.Rejected line) h k = record { cause = k.0; holds = record { bytes = bytes; holds = h; told = k.1; cause = k.2 }; is_line = k.3 }
replied-bytes input bytes reply.OutOfMemory h k = tt
replied-bytes input bytes reply.ReadFault h k = absurd k
replied-bytes input bytes reply.TooLong h k = absurd k
replied-bytes input bytes reply.NotJson h k = absurd k
replied-bytes input bytes (reply.BadPlan line) h k = absurd k
replied-bytes input bytes (reply.Refused line) h k = absurd k
replied-bytes input bytes reply.NotHex h k = absurd k
replied-bytes input bytes reply.NotCallable h k = absurd k
replied-bytes input bytes reply.NotChained h k = absurd k
replied-bytes input bytes (reply.BadValue line) h k = absurd k
replied-bytes input bytes reply.OverLimit h k = absurd k

-- all the bytes of a source
pub replied-input : (left left' : Option (List ℕ)) (fault : Type 0) (input : List ℕ) (r : Reply) → TakesAll left left' input → IsReplyToCheck input r → IsCheckReply left left' fault r
replied-input left left' fault input (reply.Page text) all h = record { bytes = input; all = all; is_so = h }
replied-input left left' fault input reply.ReadFault all h = absurd h
replied-input left left' fault input reply.TooLong all h = absurd h
replied-input left left' fault input reply.NotJson all h = absurd h
replied-input left left' fault input (reply.BadPlan line) all h = absurd h
replied-input left left' fault input (reply.Refused line) all h = absurd h
replied-input left left' fault input reply.NotCallable all h = absurd h
replied-input left left' fault input reply.NotChained all h = absurd h
replied-input left left' fault input (reply.BadValue line) all h = absurd h
replied-input left left' fault input reply.OverLimit all h = absurd h
replied-input left left' fault input reply.NotHex all h = record { bytes = input; all = all; is_so = h }
replied-input left left' fault input (reply.Rejected line) all h = record { bytes = input; all = all; is_so = h }
replied-input left left' fault input reply.OutOfMemory all h = tt

-- what a source comes to, where bytes are checked
pub replied-checked : (o : CommandOptions) (left left' : Option (List ℕ)) (fault : Type 0) (r : Reply) → o.check ≡ true → IsCheckReply left left' fault r → IsReplyUnder o left left' fault r
replied-checked o left left' fault (reply.Page text) check h =
    let P : Bool → Type 0 = λ b. SendsBy b o.chain o.call o.generate o left left' (λ sent. sent ≡ string_bytes text) in subst P (sym check) h
replied-checked o left left' fault reply.ReadFault check h = h
replied-checked o left left' fault reply.TooLong check h = h
replied-checked o left left' fault reply.NotJson check h = absurd h.is_so
replied-checked o left left' fault (reply.BadPlan line) check h = absurd h.is_so
replied-checked o left left' fault (reply.Refused line) check h = absurd h.is_so
replied-checked o left left' fault reply.NotCallable check h = absurd h.is_so
replied-checked o left left' fault reply.NotChained check h = absurd h.is_so
replied-checked o left left' fault (reply.BadValue line) check h = absurd h.is_so
replied-checked o left left' fault reply.OverLimit check h = absurd h.is_so
replied-checked o left left' fault reply.NotHex check h = (check, h)
replied-checked o left left' fault (reply.Rejected line) check h = (check, h)
replied-checked o left left' fault reply.OutOfMemory check h = h

-- ---- modes

-- where bytes are checked, nothing is generated
pub not-generated : (o : CommandOptions) → o.generate ≡ None → IsSome o.generate → ⊥
not-generated o none some = let P : Option ℕ → Type 0 = λ m. IsSome m in false≢true (subst P none some)

-- the words ask that bytes are checked
options-check : (words : List (List ℕ)) (o : CommandOptions) → reading words ≡ Some o → ChecksBytes words → o.check ≡ true
options-check words o e g = let P : Option CommandOptions → Type 0 = λ r. IsSomeAnd r (λ x. x.check ≡ true) in subst P e g

none-checks : (words : List (List ℕ)) → reading words ≡ None → ChecksBytes words → ⊥
none-checks words e g = let P : Option CommandOptions → Type 0 = λ r. IsSomeAnd r (λ x. x.check ≡ true) in subst P e g

pub bytes-checked : (words : List (List ℕ)) (o : CommandOptions) → reading words ≡ Some o → o.check ≡ true → ChecksBytes words
bytes-checked words o e h = let P : Option CommandOptions → Type 0 = λ r. IsSomeAnd r (λ x. x.check ≡ true) in subst P (sym e) h

-- then no JSON text is read, no adapter is called, and none are chained
not-read : (words : List (List ℕ)) (o : CommandOptions) → reading words ≡ Some o → ChecksBytes words → IsJsonMode o → ⊥
not-read words o e given mode = false≢true (sym mode.not_checked ∙ options-check words o e given)

not-called : (words : List (List ℕ)) (o : CommandOptions) (name : List ℕ) → reading words ≡ Some o → ChecksBytes words → IsCallMode o name → ⊥
not-called words o name e given mode = false≢true (sym mode.not_checked ∙ options-check words o e given)

not-chained : (words : List (List ℕ)) (o : CommandOptions) → reading words ≡ Some o → ChecksBytes words → IsChainMode o → ⊥
not-chained words o e given mode = false≢true (sym mode.not_checked ∙ options-check words o e given)

-- what was sent of bytes that were checked
sent-checked : (words : List (List ℕ)) (o : CommandOptions) (left left' : Option (List ℕ)) (Sent : List ℕ → Type 0) → reading words ≡ Some o → ChecksBytes words → Sends o left left' Sent
    → Read left left' (λ input. SendsAccepted input Sent)
sent-checked words o left left' Sent e given h = let P : Bool → Type 0 = λ b. SendsBy b o.chain o.call o.generate o left left' Sent in subst P (options-check words o e given) h

-- ---- each input comes to one end

-- what an input holds at an end
abbrev pub IsOfCheck : Status → List ℕ → Type 0
IsOfCheck status.TooLong input = IsTooLong input
IsOfCheck status.NotHex input = HoldsNoHex input
IsOfCheck status.Rejected input = (e : CheckError) × HoldsRejected input e
IsOfCheck status.Done input = (m : WasmModule) × HoldsAccepted input m
IsOfCheck status.WriteFault input = (m : WasmModule) × HoldsAccepted input m
IsOfCheck _ input = ⊥

-- an end without a fault, of a run that checks bytes, tells what the input holds
check-end-of : (words : List (List ℕ)) (input : List ℕ) (left' : Option (List ℕ)) (read : Type 0) (old new : Option (List ℕ)) (write : Type 0) (s : Status) (line : List ℕ)
    → IsEnding words (Some input) left' read old new write s line → ChecksBytes words → (read → ⊥) → IsOfCheck s input ⊎ (s ≡ status.OutOfMemory)
check-end-of words input left' read old new write status.Done line h given none =
    let a = so input left' (λ b. SendsAccepted b (λ text. Appends old new text)) (sent-checked words h.0 (Some input) left' (λ text. Appends old new text) h.1 given h.2.0) in inl (a.found, a.holds)
check-end-of words input left' read old new write status.Usage line h given none = absurd (none-checks words h.0 given)
check-end-of words input left' read old new write status.ReadFault line h given none = absurd (none h.2.0)
check-end-of words input left' read old new write status.WriteFault line h given none =
    let a = so input left' (λ b. SendsAccepted b (λ text. AppendsFront old new text)) (sent-checked words h.0 (Some input) left' (λ text. AppendsFront old new text) h.1 given h.2.1) in inl (a.found, a.holds)
check-end-of words input left' read old new write status.TooLong line h given none = inl (past input left' h.2.0)
check-end-of words input left' read old new write status.NotJson line h given none = absurd (not-read words h.0 h.1 given h.2.0)
check-end-of words input left' read old new write status.BadPlan line h given none = absurd (not-read words h.0 h.1 given h.2.0)
check-end-of words input left' read old new write status.Refused line h given none = absurd (not-read words h.0 h.1 given h.2.0)
check-end-of words input left' read old new write status.NotHex line h given none = inl (so input left' HoldsNoHex h.2.1)
check-end-of words input left' read old new write status.Rejected line h given none = let t = so input left' (λ b. TellsRejection b line) h.2.1 in inl (t.cause, t.holds)
check-end-of words input left' read old new write status.NotCallable line h given none = absurd (not-called words h.0 h.2.0 h.1 given h.2.1)
check-end-of words input left' read old new write status.NotChained line h given none = absurd (not-chained words h.0 h.1 given h.2.0)
check-end-of words input left' read old new write status.BadValue line h given none = absurd (not-read words h.0 h.1 given h.2.0)
check-end-of words input left' read old new write status.OverLimit line h given none = absurd (not-read words h.0 h.1 given h.2.0)
check-end-of words input left' read old new write status.OutOfMemory line h given none = inr refl

-- an input has the digits of one list of bytes
one-hex : (input a b : List ℕ) → HoldsHex input a → HoldsHex input b → a ≡ b
one-hex input a b h k = cc (h.decoded, k.decoded)

-- a length is within the limit or past it
not-long : (input : List ℕ) → IsTooLong input → length input ≤ limit → ⊥
not-long input h k = omega (arith, h, k)

not-rejected : AcceptedHasNoCause → (input : List ℕ) (m : WasmModule) (e : CheckError) → HoldsAccepted input m → HoldsRejected input e → ⊥
not-rejected law input m e a r = law a.bytes m e a.accepted r.told (subst (λ (bytes : List ℕ). IsCause bytes e) (one-hex input r.bytes a.bytes r.holds a.holds) r.cause)

pub check-long-end : (s : Status) (input : List ℕ) → IsTooLong input → IsOfCheck s input ⊎ (s ≡ status.OutOfMemory) → IsOrMemory status.TooLong s
check-long-end s input b (inr memory) = inr memory
check-long-end status.TooLong input b (inl h) = inl refl
check-long-end status.NotHex input b (inl h) = absurd (not-long input b h.within)
check-long-end status.Rejected input b (inl h) = absurd (not-long input b h.1.holds.within)
check-long-end status.Done input b (inl h) = absurd (not-long input b h.1.holds.within)
check-long-end status.WriteFault input b (inl h) = absurd (not-long input b h.1.holds.within)
check-long-end status.Usage input b (inl h) = absurd h
check-long-end status.ReadFault input b (inl h) = absurd h
check-long-end status.NotJson input b (inl h) = absurd h
check-long-end status.BadPlan input b (inl h) = absurd h
check-long-end status.Refused input b (inl h) = absurd h
check-long-end status.NotCallable input b (inl h) = absurd h
check-long-end status.NotChained input b (inl h) = absurd h
check-long-end status.BadValue input b (inl h) = absurd h
check-long-end status.OverLimit input b (inl h) = absurd h
check-long-end status.OutOfMemory input b (inl h) = absurd h

pub hex-end : (s : Status) (input : List ℕ) → HoldsNoHex input → IsOfCheck s input ⊎ (s ≡ status.OutOfMemory) → IsOrMemory status.NotHex s
hex-end s input b (inr memory) = inr memory
hex-end status.NotHex input b (inl h) = inl refl
hex-end status.TooLong input b (inl h) = absurd (not-long input h b.within)
hex-end status.Rejected input b (inl h) = absurd (b.no_hex h.1.bytes h.1.holds.decoded)
hex-end status.Done input b (inl h) = absurd (b.no_hex h.1.bytes h.1.holds.decoded)
hex-end status.WriteFault input b (inl h) = absurd (b.no_hex h.1.bytes h.1.holds.decoded)
hex-end status.Usage input b (inl h) = absurd h
hex-end status.ReadFault input b (inl h) = absurd h
hex-end status.NotJson input b (inl h) = absurd h
hex-end status.BadPlan input b (inl h) = absurd h
hex-end status.Refused input b (inl h) = absurd h
hex-end status.NotCallable input b (inl h) = absurd h
hex-end status.NotChained input b (inl h) = absurd h
hex-end status.BadValue input b (inl h) = absurd h
hex-end status.OverLimit input b (inl h) = absurd h
hex-end status.OutOfMemory input b (inl h) = absurd h

pub rejected-end : AcceptedHasNoCause → (s : Status) (input : List ℕ) → ((e : CheckError) × HoldsRejected input e) → IsOfCheck s input ⊎ (s ≡ status.OutOfMemory) → IsOrMemory status.Rejected s
rejected-end law s input b (inr memory) = inr memory
rejected-end law status.Rejected input b (inl h) = inl refl
rejected-end law status.TooLong input b (inl h) = absurd (not-long input h b.1.holds.within)
rejected-end law status.NotHex input b (inl h) = absurd (h.no_hex b.1.bytes b.1.holds.decoded)
rejected-end law status.Done input b (inl h) = absurd (not-rejected law input h.0 b.0 h.1 b.1)
rejected-end law status.WriteFault input b (inl h) = absurd (not-rejected law input h.0 b.0 h.1 b.1)
rejected-end law status.Usage input b (inl h) = absurd h
rejected-end law status.ReadFault input b (inl h) = absurd h
rejected-end law status.NotJson input b (inl h) = absurd h
rejected-end law status.BadPlan input b (inl h) = absurd h
rejected-end law status.Refused input b (inl h) = absurd h
rejected-end law status.NotCallable input b (inl h) = absurd h
rejected-end law status.NotChained input b (inl h) = absurd h
rejected-end law status.BadValue input b (inl h) = absurd h
rejected-end law status.OverLimit input b (inl h) = absurd h
rejected-end law status.OutOfMemory input b (inl h) = absurd h

pub accepted-end : AcceptedHasNoCause → (s : Status) (input : List ℕ) → (s ≡ status.WriteFault → ⊥) → ((m : WasmModule) × HoldsAccepted input m) → IsOfCheck s input ⊎ (s ≡ status.OutOfMemory) → IsOrMemory status.Done s
accepted-end law s input unfaulted b (inr memory) = inr memory
accepted-end law status.Done input unfaulted b (inl h) = inl refl
accepted-end law status.WriteFault input unfaulted b (inl h) = absurd (unfaulted refl)
accepted-end law status.TooLong input unfaulted b (inl h) = absurd (not-long input h b.1.holds.within)
accepted-end law status.NotHex input unfaulted b (inl h) = absurd (h.no_hex b.1.bytes b.1.holds.decoded)
accepted-end law status.Rejected input unfaulted b (inl h) = absurd (not-rejected law input b.0 h.0 b.1 h.1)
accepted-end law status.Usage input unfaulted b (inl h) = absurd h
accepted-end law status.ReadFault input unfaulted b (inl h) = absurd h
accepted-end law status.NotJson input unfaulted b (inl h) = absurd h
accepted-end law status.BadPlan input unfaulted b (inl h) = absurd h
accepted-end law status.Refused input unfaulted b (inl h) = absurd h
accepted-end law status.NotCallable input unfaulted b (inl h) = absurd h
accepted-end law status.NotChained input unfaulted b (inl h) = absurd h
accepted-end law status.BadValue input unfaulted b (inl h) = absurd h
accepted-end law status.OverLimit input unfaulted b (inl h) = absurd h
accepted-end law status.OutOfMemory input unfaulted b (inl h) = absurd h

-- Where bytes are checked, what holds of a source's input decides the end.
pub exactly-checked : (words : List (List ℕ)) (left left' : Option (List ℕ)) (before now : ℕ) (old new : Option (List ℕ)) (write : Type 0) (s wanted : Status) (line : List ℕ) (P : List ℕ → Type 0)
    → ((input : List ℕ) → P input → IsOfCheck s input ⊎ (s ≡ status.OutOfMemory) → IsOrMemory wanted s)
    → IsEnding words left left' (Rose before now) old new write s line → IsUndisturbedCheck words before now → IfSome left (λ input. P input → IsOrMemory wanted s)
exactly-checked words None left' before now old new write s wanted line P decides h calm = tt
exactly-checked words (Some input) left' before now old new write s wanted line P decides h calm =
    λ p. decides input p (check-end-of words input left' (Rose before now) old new write s line h calm.checks calm.no_fault)

-- ---- what is told

-- The cause was told, where its line was.
pub told-rejection : (left left' : Option (List ℕ)) (line : List ℕ) (old new : Option (List ℕ)) (before now : ℕ) → Read left left' (λ input. TellsRejection input line) → TellsLine old new before now line
    → Read left left' (λ input. (e : CheckError) × HoldsRejected input e × TellsLine old new before now (rejected_line e))
told-rejection left left' line old new before now r h = record {
  bytes = r.bytes;
  all = r.all;
  is_so = (r.is_so.cause, r.is_so.holds, subst (λ (l : List ℕ). TellsLine old new before now l) r.is_so.is_line h);
}
