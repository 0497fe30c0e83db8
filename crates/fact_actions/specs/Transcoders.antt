-- The functions that write text of one memory into another: what they read and write, what they are told and answer, and
-- which answers are honest.
use Rattle.std.specs.Prelude.{◌≡◌, ℕ, ◌+◌, ◌^◌, ◌<◌, ◌≤◌, ◌⊎◌, Bool, true, ◌&&◌, List, [], ◌∷◌, ◌++◌, length, bit_or, nat_lt, if◌then◌else◌}
use Rattle.fact_wasm.specs.declared.types.ValType.{ValType}
use Rattle.fact_types.specs.declared.outside.FixedEncoding.{FixedEncoding}
use Rattle.fact_types.specs.declared.outside.FixedEncoding.TheVariants.{Utf8, Utf16, Latin1}
use Rattle.fact_types.specs.declared.outside.Transcode.{Transcode}
use Rattle.fact_types.specs.declared.outside.Transcode.TheVariants as op
use Rattle.fact_types.specs.Signatures.{address}
use Rattle.fact_values.specs.Texts.{IsSpelled, AreSpelled, char_spelling, spelled_text, units_of_text}

-- the encoding that is read, and the one that is written
abbrev pub from_encoding : Transcode → FixedEncoding
from_encoding (op.Copy e) = e
from_encoding op.Latin1ToUtf16 = Latin1
from_encoding op.Latin1ToUtf8 = Latin1
from_encoding op.Utf16ToCompactProbablyUtf16 = Utf16
from_encoding op.Utf16ToCompactUtf16 = Utf16
from_encoding op.Utf16ToLatin1 = Utf16
from_encoding op.Utf16ToUtf8 = Utf16
from_encoding op.Utf8ToCompactUtf16 = Utf8
from_encoding op.Utf8ToLatin1 = Utf8
from_encoding op.Utf8ToUtf16 = Utf8

abbrev pub to_encoding : Transcode → FixedEncoding
to_encoding (op.Copy e) = e
to_encoding op.Latin1ToUtf16 = Utf16
to_encoding op.Latin1ToUtf8 = Utf8
to_encoding op.Utf16ToCompactProbablyUtf16 = Utf16
to_encoding op.Utf16ToCompactUtf16 = Utf16
to_encoding op.Utf16ToLatin1 = Latin1
to_encoding op.Utf16ToUtf8 = Utf8
to_encoding op.Utf8ToCompactUtf16 = Utf16
to_encoding op.Utf8ToLatin1 = Latin1
to_encoding op.Utf8ToUtf16 = Utf16

pub data TranscodeKind : Type 0 where
  -- all of the source is written, unit by unit; nothing is answered
  AllUnits : TranscodeKind
  -- all of it is written; the units written
  Counted : TranscodeKind
  -- the longest prefix of whole scalar values that fits in the room; the units read and the bytes written
  Fitting : TranscodeKind
  -- the longest prefix of scalar values below 256; the units read and the bytes written
  Narrow : TranscodeKind
  -- all of it as Latin-1 where that can be, else as UTF-16; the units written, with bit 31 set for UTF-16
  Tagged : TranscodeKind
  -- Latin-1 bytes that are there become units in place, and all of the source follows; the units in all
  Widening : TranscodeKind

abbrev pub transcode_kind : Transcode → TranscodeKind
transcode_kind (op.Copy e) = AllUnits
transcode_kind op.Latin1ToUtf16 = AllUnits
transcode_kind op.Utf8ToUtf16 = Counted
transcode_kind op.Latin1ToUtf8 = Fitting
transcode_kind op.Utf16ToUtf8 = Fitting
transcode_kind op.Utf8ToLatin1 = Narrow
transcode_kind op.Utf16ToLatin1 = Narrow
transcode_kind op.Utf16ToCompactProbablyUtf16 = Tagged
transcode_kind op.Utf8ToCompactUtf16 = Widening
transcode_kind op.Utf16ToCompactUtf16 = Widening

-- the types of what a transcoder between memories of these widths answers
abbrev pub transcode_types : TranscodeKind → (from64 to64 : Bool) → List ValType
transcode_types AllUnits from64 to64 = []
transcode_types Counted from64 to64 = address to64 ∷ []
transcode_types Fitting from64 to64 = address from64 ∷ address to64 ∷ []
transcode_types Narrow from64 to64 = address from64 ∷ address to64 ∷ []
transcode_types Tagged from64 to64 = address to64 ∷ []
transcode_types Widening from64 to64 = address to64 ∷ []

-- Beside its source and destination a transcoder is told the room at the destination, in bytes or in units, and how many
-- Latin-1 bytes are there.
pub record Room : Type 0 where
  pub room : ℕ
  pub latin1_bytes : List ℕ

abbrev pub all_latin1 : List ℕ → Bool
all_latin1 [] = true
all_latin1 (c ∷ text) = nat_lt c 256 && all_latin1 text

abbrev pub widened : List ℕ → List ℕ
widened [] = []
widened (b ∷ bs) = b ∷ 0 ∷ widened bs

-- the rest begins with a whole scalar value, for which there is no room
pub record IsFull (from to : FixedEncoding) (room : ℕ) (text rest : List ℕ) : Type 0 where
  pub next : ℕ
  pub more : List ℕ
  pub can : IsSpelled from next
  pub begins : rest ≡ char_spelling from next ++ more
  pub full : room < length (spelled_text to text) + length (char_spelling to next)

-- where a transcoder stops: behind a text that it wrote, with the rest of the source left
abbrev pub StopsBy : TranscodeKind → (from to : FixedEncoding) → Room → (text rest : List ℕ) → Type 0
StopsBy Fitting from to g text rest = (length (spelled_text to text) ≤ g.room) × ((rest ≡ []) ⊎ IsFull from to g.room text rest)
StopsBy Narrow from to g text rest = (c : ℕ) (more : List ℕ) → IsSpelled from c → IsSpelled to c → rest ≡ char_spelling from c ++ more → ⊥
StopsBy Widening from to g text rest = (rest ≡ []) × (length g.latin1_bytes + units_of_text to text ≤ g.room)
StopsBy AllUnits from to g text rest = rest ≡ []
StopsBy Counted from to g text rest = rest ≡ []
StopsBy Tagged from to g text rest = rest ≡ []

-- the bytes written at the destination for a text
abbrev pub bytes_written : TranscodeKind → (to : FixedEncoding) → Room → (text : List ℕ) → List ℕ
bytes_written Tagged to g text = if all_latin1 text then spelled_text Latin1 text else spelled_text to text
bytes_written Widening to g text = widened g.latin1_bytes ++ spelled_text to text
bytes_written _ to g text = spelled_text to text

-- the numbers answered
abbrev pub numbers_answered : TranscodeKind → (from to : FixedEncoding) → Room → (text : List ℕ) → List ℕ
numbers_answered AllUnits from to g text = []
numbers_answered Counted from to g text = units_of_text to text ∷ []
numbers_answered Fitting from to g text = units_of_text from text ∷ length (spelled_text to text) ∷ []
numbers_answered Narrow from to g text = units_of_text from text ∷ length (spelled_text to text) ∷ []
numbers_answered Tagged from to g text = (if all_latin1 text then units_of_text from text else bit_or (units_of_text from text) (2 ^ 31)) ∷ []
numbers_answered Widening from to g text = (length g.latin1_bytes + units_of_text to text) ∷ []

-- An honest answer of a transcoder of a kind between encodings: a text that begins the source is read and written, with these
-- bytes and numbers.
pub record IsHonestPass (kind : TranscodeKind) (from to : FixedEncoding) (g : Room) (source bytes numbers : List ℕ) : Type 0 where
  pub text : List ℕ
  pub rest : List ℕ
  pub reads : source ≡ spelled_text from text ++ rest
  pub can_read : AreSpelled from text
  pub can_write : AreSpelled to text
  pub stops : StopsBy kind from to g text rest
  pub writes : bytes ≡ bytes_written kind to g text
  pub answers : numbers ≡ numbers_answered kind from to g text

abbrev pub IsHonestTranscoding : Transcode → Room → (source bytes numbers : List ℕ) → Type 0
IsHonestTranscoding o g source bytes numbers = IsHonestPass (transcode_kind o) (from_encoding o) (to_encoding o) g source bytes numbers
