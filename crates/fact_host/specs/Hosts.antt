-- Cited by private clauses alone.
-- The parts of which a host's answers are made.
use Rattle.std.specs.Prelude.{◌≡◌, ℕ, ◌+◌, ◌≤◌, Bool, List, [], ◌∷◌, ◌++◌, length, drop, Option, Some, None}
use Rattle.fact_wasm.specs.declared.types.ValType.{ValType}
use Rattle.fact_types.specs.declared.outside.FixedEncoding.{FixedEncoding}
use Rattle.fact_types.specs.declared.outside.Transcode.{Transcode}
use Rattle.fact_types.specs.Signatures.{address}
use Rattle.fact_machine.specs.declared.types.Answer.{Answer}
use Rattle.fact_machine.specs.declared.types.CoreValue.{CoreValue}
use Rattle.fact_machine.specs.declared.types.Event.{Event}
use Rattle.fact_machine.specs.declared.types.MachineState.{MachineState}
use Rattle.fact_values.specs.declared.value.Value.{Value}
use Rattle.fact_values.specs.Texts.{spelled_text}
use Rattle.fact_actions.specs.Transcoders.{TranscodeKind, Widening, Room, IsHonestPass, from_encoding, to_encoding, transcode_kind}
use Rattle.fact_host.specs.declared.calling.HostCall.{HostCall}
use Rattle.fact_host.specs.declared.known.Known.{Known}
use Rattle.fact_host.specs.declared.roles.Role.{Role}
use Rattle.fact_host.specs.declared.transcoders.Told.{Told}
use Rattle.fact_host.specs.Rules.{AreWrittenBytes, CallShapes, Answers, IsHonestlyMade, MustStop, cursor_of, raised, told_room, with_memory_at}

-- a call of the nth imported function that is answered so
abbrev pub event_by : (func : ℕ) → (args : List CoreValue) → MachineState → Answer → Event
event_by func args before answer = record { func = func; args = args; before = before; answer = answer }

-- the cursor of a memory that may be named; and what is known, and the state, where such a memory and its cursor became others
abbrev pub cursor_in : Option ℕ → Known → ℕ
cursor_in None k = 0
cursor_in (Some n) k = cursor_of k n

abbrev pub left_known : Option ℕ → Known → (cursor : ℕ) → Known
left_known None k cursor = k
left_known (Some n) k cursor = raised k n cursor

abbrev pub left_state : Option ℕ → MachineState → (bytes : List ℕ) → MachineState
left_state None s bytes = s
left_state (Some n) s bytes = with_memory_at s n bytes

-- what is answered, if anything
abbrev pub listed : {A : Type 0} → Option A → List A
listed None = []
listed (Some v) = v ∷ []

-- both numbers, or those that are there
abbrev pub both_listed : {A : Type 0} → Option A → Option A → List A
both_listed a b = listed a ++ listed b

-- the types of both, or of those that are there: the first of two is as wide as addresses of the source, and each other one as those of the
-- destination
abbrev pub number_types : {A : Type 0} → (from64 to64 : Bool) → Option A → Option A → List ValType
number_types from64 to64 None None = []
number_types from64 to64 (Some first) None = address to64 ∷ []
number_types from64 to64 None (Some second) = address to64 ∷ []
number_types from64 to64 (Some first) (Some second) = address from64 ∷ address to64 ∷ []

-- Events that were answered by the rules, from what was known first to what is known now.
abbrev pub AreAnswersUntil : (Named : ℕ → Role → Type 0) → HostCall → CallShapes → (answered : Option (List Value)) → Known → List Event → Known → Type 0
AreAnswersUntil Named c s answered k [] last = last ≡ k
AreAnswersUntil Named c s answered k (e ∷ es) last = (r : Role) × Named e.func r × (k' : Known) × Answers c s answered r k e k' × AreAnswersUntil Named c s answered k' es last

-- What a transcoder makes is an honest answer, of bytes that have their places, and nothing stops it.
pub record IsTranscodedByHost (o : Transcode) (source destination : List ℕ) (t : Told) (bytes numbers : List ℕ) : Type 0 where
  pub honest : IsHonestlyMade o source destination t bytes numbers
  pub are_bytes : AreWrittenBytes bytes
  pub inside : t.to + length bytes ≤ length destination
  pub goes_on : MustStop o source destination t → ⊥

-- By its kind it makes of a text, which it read, an honest answer.
abbrev pub IsPass : TranscodeKind → (from to : FixedEncoding) → Room → (text bytes numbers : List ℕ) → Type 0
IsPass kind from to g text bytes numbers = IsHonestPass kind from to g (spelled_text from text) bytes numbers

abbrev pub IsMadeOf : Transcode → (text destination : List ℕ) → Told → (bytes numbers : List ℕ) → Type 0
IsMadeOf o text destination t bytes numbers = IsPass (transcode_kind o) (from_encoding o) (to_encoding o) (told_room (transcode_kind o) t (drop t.to destination)) text bytes numbers

-- the Latin-1 bytes that are there lie in the memory, where an operation makes units of them
abbrev pub FitsDestination : Transcode → (destination : List ℕ) → Told → Type 0
FitsDestination o destination t = transcode_kind o ≡ Widening → t.to + t.latin1 ≤ length destination
