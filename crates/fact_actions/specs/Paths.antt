-- How texts are moved: for each pair of forms a path of checks, calls of realloc and calls of transcoders (canonical ABI,
-- "Storing", `store_string_into_range`).
use Rattle.std.specs.Prelude.{ℕ, Bool, true, false}
use Rattle.fact_types.specs.declared.outside.FixedEncoding.TheVariants.{Utf8, Utf16, Latin1}
use Rattle.fact_types.specs.declared.outside.StringEncoding.{StringEncoding}
use Rattle.fact_types.specs.declared.outside.StringEncoding.TheVariants as string
use Rattle.fact_types.specs.declared.outside.Transcode.{Transcode}
use Rattle.fact_types.specs.declared.outside.Transcode.TheVariants as op
use Rattle.fact_types.specs.declared.outside.Trap.{Trap}
use Rattle.fact_types.specs.declared.outside.Trap.TheVariants.{DebugAssertStringEncodingFinished, DebugAssertEqualCodeUnits}

-- so many times the length of the source, or so many times what is written
pub data Amount : Type 0 where
  SourceUnits : ℕ → Amount
  WrittenUnits : ℕ → Amount

pub data Test : Type 0 where
  -- all of the source is read
  AllRead : Test
  -- what is written is so many times the length of the source
  WrittenIs : ℕ → Test
  -- what is written has no tag
  HasNoTag : Test
  -- what is written is the length of the source, the tag aside
  KeepsUnits : Test

pub data Path : Type 0 where
  End : Path
  -- so many times the length of the source is no more than the greatest length of a string in bytes
  Limit : ℕ → Path → Path
  -- realloc of the region, from one number of bytes to another
  Resize : (from to : Amount) → Path → Path
  -- a transcoder, on the source or on the rest of it; the room is so many times the length of the source
  Pass : Transcode → (rest : Bool) → (room : ℕ) → Path → Path
  -- one path or another, and then one more
  If : Test → (if_true if_false next : Path) → Path
  -- the tag of UTF-16 is set
  Tag : Path → Path
  -- a test of debug checks alone
  Assert : Trap → Test → Path → Path

-- a region of so many bytes for each unit of the source, and a transcoder over all of it
abbrev pub whole : ℕ → Transcode → Path → Path
whole bytes o p = Limit bytes (Resize (SourceUnits 0) (SourceUnits bytes) (Pass o false 0 p))

-- the region is cut to what is written, where that is not all of it
abbrev pub cut : (bytes : ℕ) → Path → Path
cut bytes p = If (WrittenIs 1) End (Resize (SourceUnits bytes) (WrittenUnits bytes) End) p

-- First into as many bytes as the source has units. Where that is not enough, into the most that the text can take, which
-- are so many for each unit.
abbrev pub to_utf8 : (unit most : ℕ) → Transcode → Path
to_utf8 unit most o =
    Limit unit (Resize (SourceUnits 0) (SourceUnits 1) (Pass o false 1 (If AllRead
    (Assert DebugAssertStringEncodingFinished (WrittenIs 1) End)
    (Limit most (Resize (SourceUnits 1) (SourceUnits most) (Pass o true most (Assert DebugAssertStringEncodingFinished AllRead
    (If (WrittenIs most) End (Resize (SourceUnits most) (WrittenUnits 1) End) End)))))
    End)))

-- First as Latin-1. Where a scalar value is not below 256, what is written becomes UTF-16, and the rest follows.
abbrev pub to_compact : (unit : ℕ) → Transcode → (wide : Path → Path) → Path
to_compact unit o wide = Limit unit (Resize (SourceUnits 0) (SourceUnits 1) (Pass o false 0 (If AllRead (cut 1 End) (wide End) End)))

abbrev pub to_wide : Transcode → Path → Path
to_wide o p = Resize (SourceUnits 1) (SourceUnits 2) (Pass o true 1 (cut 2 (Tag p)))

-- the forms in which a text stands at its source: compact texts are Latin-1, or UTF-16 where their length has the tag
pub data TextForm : Type 0 where
  AsUtf8 : TextForm
  AsUtf16 : TextForm
  AsCompactLatin1 : TextForm
  AsCompactUtf16 : TextForm

-- the alignment of a text that is written
abbrev pub align_of : StringEncoding → ℕ
align_of string.Utf8 = 1
align_of string.Utf16 = 2
align_of string.CompactUtf16 = 2

abbrev pub path : TextForm → StringEncoding → Path
path AsUtf8 string.Utf8 = whole 1 (op.Copy Utf8) End
path AsUtf8 string.Utf16 = whole 2 op.Utf8ToUtf16 (cut 2 End)
path AsUtf8 string.CompactUtf16 = to_compact 1 op.Utf8ToLatin1 (λ p. Limit 2 (to_wide op.Utf8ToCompactUtf16 p))
path AsUtf16 string.Utf8 = to_utf8 2 3 op.Utf16ToUtf8
path AsUtf16 string.Utf16 = whole 2 (op.Copy Utf16) End
path AsUtf16 string.CompactUtf16 = to_compact 2 op.Utf16ToLatin1 (λ p. to_wide op.Utf16ToCompactUtf16 p)
path AsCompactLatin1 string.Utf8 = to_utf8 1 2 op.Latin1ToUtf8
path AsCompactLatin1 string.Utf16 = whole 2 op.Latin1ToUtf16 End
path AsCompactLatin1 string.CompactUtf16 = whole 1 (op.Copy Latin1) End
path AsCompactUtf16 string.Utf8 = to_utf8 2 3 op.Utf16ToUtf8
path AsCompactUtf16 string.Utf16 = whole 2 (op.Copy Utf16) End
path AsCompactUtf16 string.CompactUtf16 =
    whole 2 op.Utf16ToCompactProbablyUtf16 (Assert DebugAssertEqualCodeUnits KeepsUnits (If HasNoTag (Resize (SourceUnits 2) (WrittenUnits 1) End) End End))
