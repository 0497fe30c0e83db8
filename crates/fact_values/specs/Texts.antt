-- Texts: lists of scalar values of Unicode, how they are spelled in the three encodings, and how they are read.
-- The Unicode Standard, "Encoding Forms"; Component Model, canonical ABI, "Loading" (`load_string_from_range`).
use Rattle.std.specs.Prelude.{ℕ, ◌+◌, ◌-◌, ◌*◌, ◌/◌, ◌%◌, ◌<◌, nat_lt, nat_le, ◌==◌, List, [], ◌∷◌, ◌++◌, length, take, drop, Option, Some, None, Bool, if◌then◌else◌, ◌&&◌}
use Rattle.std.specs.Char.{IsScalar, encode_utf8, len_utf8}
use Rattle.std.specs.Char.Escape.{encode_utf16}
use Rattle.std.specs.Char.Utf16.{utf16_chars}
use Rattle.std.specs.Str.{chars, is_utf8}
use Rattle.fact_types.specs.declared.outside.FixedEncoding.{FixedEncoding}
use Rattle.fact_types.specs.declared.outside.FixedEncoding.TheVariants.{Utf8, Utf16, Latin1}
use Rattle.fact_types.specs.declared.outside.StringEncoding.{StringEncoding}
use Rattle.fact_types.specs.declared.outside.StringEncoding.TheVariants as of_side
use Rattle.fact_types.specs.Options.{◌>>=◌}

-- ---- how a text is spelled

-- The bytes of a code unit.
abbrev pub unit_bytes : FixedEncoding → ℕ
unit_bytes Utf8 = 1
unit_bytes Utf16 = 2
unit_bytes Latin1 = 1

-- A scalar value that the encoding can spell.
abbrev pub IsSpelled : FixedEncoding → ℕ → Type 0
IsSpelled Utf8 c = IsScalar c
IsSpelled Utf16 c = IsScalar c
IsSpelled Latin1 c = c < 256

abbrev pub AreSpelled : FixedEncoding → List ℕ → Type 0
AreSpelled e [] = Unit {0}
AreSpelled e (c ∷ text) = IsSpelled e c × AreSpelled e text

-- Units of two bytes, the low byte first.
abbrev pub low_first : List ℕ → List ℕ
low_first [] = []
low_first (u ∷ us) = u % 256 ∷ u / 256 ∷ low_first us

-- The bytes that spell a scalar value, and how many code units they are.
abbrev pub char_spelling : FixedEncoding → ℕ → List ℕ
char_spelling Utf8 c = encode_utf8 c
char_spelling Utf16 c = low_first (encode_utf16 c)
char_spelling Latin1 c = c ∷ []

abbrev pub units : FixedEncoding → ℕ → ℕ
units Utf8 c = len_utf8 c
units Utf16 c = if nat_lt c 0x1_0000 then 1 else 2
units Latin1 c = 1

-- The same of a text.
abbrev pub spelled_text : FixedEncoding → List ℕ → List ℕ
spelled_text e [] = []
spelled_text e (c ∷ text) = char_spelling e c ++ spelled_text e text

abbrev pub units_of_text : FixedEncoding → List ℕ → ℕ
units_of_text e [] = 0
units_of_text e (c ∷ text) = units e c + units_of_text e text

-- ---- how it is read

-- The units of two bytes that bytes make, none where the last lacks its second byte.
abbrev pub two_byte_units : List ℕ → Option (List ℕ)
two_byte_units [] = Some []
two_byte_units (a ∷ []) = None
two_byte_units (a ∷ b ∷ bytes) = two_byte_units bytes >>= (λ us. Some ((a + 256 * b) ∷ us))

-- All of them, where all are there.
abbrev pub all_there : {A : Type 0} → List (Option A) → Option (List A)
all_there [] = Some []
all_there (None ∷ xs) = None
all_there (Some x ∷ xs) = all_there xs >>= (λ ys. Some (x ∷ ys))

-- The text that bytes spell, none where they spell none.
abbrev pub decoded : FixedEncoding → List ℕ → Option (List ℕ)
decoded Utf8 bytes = if is_utf8 bytes then Some (chars bytes) else None
decoded Utf16 bytes = two_byte_units bytes >>= (λ us. all_there (utf16_chars us))
decoded Latin1 bytes = Some bytes

-- A text as it stands in memory: its encoding, the alignment of its first byte, and its code units.
pub record Form : Type 0 where
  pub encoding : FixedEncoding
  pub align : ℕ
  pub units : ℕ

-- The bit of the length that tells UTF-16 from Latin-1 in the compact form (`UTF16_TAG`).
abbrev pub utf16_tag : ℕ
utf16_tag = 2147483648

abbrev pub has_tag : ℕ → Bool
has_tag n = n / utf16_tag % 2 == 1

-- The form of a text of a length: in the compact form it is UTF-16 where the length has the tag, which is then taken
-- off, and else Latin-1; both are aligned as UTF-16.
abbrev pub form_of : StringEncoding → ℕ → Form
form_of of_side.Utf8 n = record { encoding = Utf8; align = 1; units = n }
form_of of_side.Utf16 n = record { encoding = Utf16; align = 2; units = n }
form_of of_side.CompactUtf16 n =
    if has_tag n then record { encoding = Utf16; align = 2; units = n - utf16_tag }
    else record { encoding = Latin1; align = 2; units = n }

abbrev pub byte_length : Form → ℕ
byte_length f = f.units * unit_bytes f.encoding

-- A range of bytes begins at a multiple of an alignment and lies in a memory.
abbrev pub lies_aligned : List ℕ → ℕ → ℕ → ℕ → Bool
lies_aligned bytes align pointer count = pointer % align == 0 && nat_le (pointer + count) (length bytes)

abbrev pub text_of_form : List ℕ → ℕ → Form → Option (List ℕ)
text_of_form bytes pointer f =
    if lies_aligned bytes f.align pointer (byte_length f) then decoded f.encoding (take (byte_length f) (drop pointer bytes)) else None

-- The text of a pointer and a length.
abbrev pub text_at : StringEncoding → List ℕ → ℕ → ℕ → Option (List ℕ)
text_at encoding bytes pointer n = text_of_form bytes pointer (form_of encoding n)
