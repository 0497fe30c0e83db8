-- A transcoder that reads a whole text within its memory, and may write within the other, has not to stop.
use Rattle.std.proofs.Common.{◌≡◌, ℕ, ◌+◌, ◌*◌, ◌≤◌, Bool, true, false, cond, List, [], ◌∷◌, ◌++◌, Some, refl, ap, ◌∙◌, subst, arith, length, take, drop, length-append, length-drop}
use Rattle.std.specs.Prelude.{nat_lt}
use Rattle.std.proofs.lemmas.List.{length-take-le}
use Rattle.fact_types.specs.declared.outside.FixedEncoding.{FixedEncoding}
use Rattle.fact_types.specs.declared.outside.FixedEncoding.TheVariants.{Utf8, Utf16, Latin1}
use Rattle.fact_types.specs.declared.outside.Transcode.{Transcode}
use Rattle.fact_types.specs.declared.outside.Transcode.TheVariants as op
use Rattle.fact_types.proofs.ShapeLaws.{none_some, same_some}
use Rattle.fact_values.specs.Texts.{AreSpelled, decoded, spelled_text, unit_bytes, units_of_text}
use Rattle.fact_actions.specs.Transcoders.{TranscodeKind, AllUnits, Counted, Fitting, Narrow, Tagged, Widening, IsHonestTranscoding, all_latin1, from_encoding, to_encoding, transcode_kind, widened}
use Rattle.fact_action_laws.proofs.Bounds.{all_bound, growth, length_text}
use Rattle.fact_action_laws.proofs.Decoded.{decodes}
use Rattle.fact_action_laws.proofs.Spelled.{SpellsText}
use Rattle.fact_host.specs.declared.transcoders.Told.{Told}
use Rattle.fact_host.specs.Rules.{DestinationOutside, LatinOutside, Malformed, MustStop, Overflows, SourceOutside, told_room, units_read}

-- the bytes at its destination that a transcoder may write
abbrev pub told_bytes_by : TranscodeKind → (to : FixedEncoding) → Told → ℕ
told_bytes_by AllUnits to t = unit_bytes to * t.units
told_bytes_by Counted to t = unit_bytes to * t.units
told_bytes_by Tagged to t = unit_bytes to * t.units
told_bytes_by Narrow to t = t.units
told_bytes_by Fitting to t = t.room
told_bytes_by Widening to t = unit_bytes to * t.room

abbrev pub told_bytes : Transcode → Told → ℕ
told_bytes o t = told_bytes_by (transcode_kind o) (to_encoding o) t

-- It reads a text within its memory, and there is room for what it may write.
pub record IsSafe (o : Transcode) (source destination : List ℕ) (t : Told) : Type 0 where
  pub text : List ℕ
  pub spells : SpellsText (from_encoding o) (units_read o source t) text
  pub inside : t.from + unit_bytes (from_encoding o) * t.units ≤ length source
  pub room : t.to + told_bytes o t ≤ length destination
  pub fits : transcode_kind o ≡ Widening → t.latin1 + units_of_text Utf16 text ≤ t.room

-- ---- lengths

-- a text that begins a source has no more units than the source
fewer : (f : FixedEncoding) (source text rest : List ℕ) (n : ℕ) → length source ≡ unit_bytes f * n → source ≡ spelled_text f text ++ rest → units_of_text f text ≤ n
fewer f source text rest n long e = go f long (ap length e ∙ length-append (spelled_text f text) rest) (length_text f text)
  where
    go : (f : FixedEncoding) → length source ≡ unit_bytes f * n → length source ≡ length (spelled_text f text) + length rest → length (spelled_text f text) ≡ unit_bytes f * units_of_text f text → units_of_text f text ≤ n
    go Utf8 a b c = omega (arith, a, b, c)
    go Utf16 a b c = omega (arith, a, b, c)
    go Latin1 a b c = omega (arith, a, b, c)

-- what it writes is no longer, where the encoding grows by no more than the bytes of its units
all_written : (f to : FixedEncoding) (text : List ℕ) (n : ℕ) → growth f to ≡ unit_bytes to → AreSpelled f text → AreSpelled to text → units_of_text f text ≤ n → length (spelled_text to text) ≤ unit_bytes to * n
all_written f to text n grows can_read can_write few = go to (length_text to text) (subst (λ g. unit_bytes to * units_of_text to text ≤ g * units_of_text f text) grows (all_bound f to text can_read can_write))
  where
    go : (to : FixedEncoding) → length (spelled_text to text) ≡ unit_bytes to * units_of_text to text → unit_bytes to * units_of_text to text ≤ unit_bytes to * units_of_text f text → length (spelled_text to text) ≤ unit_bytes to * n
    go Utf8 a b = omega (arith, a, b, few)
    go Utf16 a b = omega (arith, a, b, few)
    go Latin1 a b = omega (arith, a, b, few)

one_or_two : (b : Bool) → 1 ≤ cond b 1 2
one_or_two true = omega arith
one_or_two false = omega arith

-- each scalar value is one byte of Latin-1, and a unit of UTF-16 or more
no_more : (text : List ℕ) → units_of_text Latin1 text ≤ units_of_text Utf16 text
no_more [] = omega arith
no_more (c ∷ text) = omega (arith, one_or_two (nat_lt c 0x1_0000), no_more text)

tagged_written : (b : Bool) (text : List ℕ) (n : ℕ) → units_of_text Utf16 text ≤ n → length (cond b (spelled_text Latin1 text) (spelled_text Utf16 text)) ≤ 2 * n
tagged_written true text n few = omega (arith, few, no_more text, length_text Latin1 text)
tagged_written false text n few = omega (arith, few, length_text Utf16 text)

length_widened : (bs : List ℕ) → length (widened bs) ≡ 2 * length bs
length_widened [] = refl
length_widened (b ∷ bs) = omega (arith, length_widened bs)

widely_written : (latin1 text : List ℕ) (n : ℕ) → length latin1 + units_of_text Utf16 text ≤ n → length (widened latin1 ++ spelled_text Utf16 text) ≤ 2 * n
widely_written latin1 text n fits = omega (arith, fits, length-append (widened latin1) (spelled_text Utf16 text), length_widened latin1, length_text Utf16 text)

-- what an honest answer writes
bounded : (o : Transcode) (t : Told) (there source bytes numbers : List ℕ) → length source ≡ unit_bytes (from_encoding o) * t.units → IsHonestTranscoding o (told_room (transcode_kind o) t there) source bytes numbers → length bytes ≤ told_bytes o t
bounded (op.Copy e) t there source bytes numbers long h =
    let w : length bytes ≡ length (spelled_text e h.text) = ap length h.writes in
    let most = all_written e e h.text t.units (same e) h.can_read h.can_write (fewer e source h.text h.rest t.units long h.reads) in
    omega (arith, w, most)
  where
    same : (e : FixedEncoding) → growth e e ≡ unit_bytes e
    same Utf8 = refl
    same Utf16 = refl
    same Latin1 = refl
bounded op.Latin1ToUtf16 t there source bytes numbers long h =
    let most = all_written Latin1 Utf16 h.text t.units refl h.can_read h.can_write (fewer Latin1 source h.text h.rest t.units long h.reads) in
    omega (arith, ap length h.writes, most)
bounded op.Utf8ToUtf16 t there source bytes numbers long h =
    let most = all_written Utf8 Utf16 h.text t.units refl h.can_read h.can_write (fewer Utf8 source h.text h.rest t.units long h.reads) in
    omega (arith, ap length h.writes, most)
bounded op.Latin1ToUtf8 t there source bytes numbers long h = omega (arith, ap length h.writes, h.stops.0)
bounded op.Utf16ToUtf8 t there source bytes numbers long h = omega (arith, ap length h.writes, h.stops.0)
bounded op.Utf8ToLatin1 t there source bytes numbers long h =
    let most = all_written Utf8 Latin1 h.text t.units refl h.can_read h.can_write (fewer Utf8 source h.text h.rest t.units long h.reads) in
    omega (arith, ap length h.writes, most)
bounded op.Utf16ToLatin1 t there source bytes numbers long h =
    let most = all_written Utf16 Latin1 h.text t.units refl h.can_read h.can_write (fewer Utf16 source h.text h.rest t.units long h.reads) in
    omega (arith, ap length h.writes, most)
bounded op.Utf16ToCompactProbablyUtf16 t there source bytes numbers long h =
    let most = tagged_written (all_latin1 h.text) h.text t.units (fewer Utf16 source h.text h.rest t.units long h.reads) in
    omega (arith, ap length h.writes, most)
bounded op.Utf8ToCompactUtf16 t there source bytes numbers long h = omega (arith, ap length h.writes, widely_written (take t.latin1 there) h.text t.room h.stops.1)
bounded op.Utf16ToCompactUtf16 t there source bytes numbers long h = omega (arith, ap length h.writes, widely_written (take t.latin1 there) h.text t.room h.stops.1)

widening : (o : Transcode) (t : Told) → transcode_kind o ≡ Widening → told_bytes o t ≡ 2 * t.room
widening (op.Copy e) t k = absurd cc
widening op.Latin1ToUtf16 t k = absurd cc
widening op.Utf8ToUtf16 t k = absurd cc
widening op.Latin1ToUtf8 t k = absurd cc
widening op.Utf16ToUtf8 t k = absurd cc
widening op.Utf8ToLatin1 t k = absurd cc
widening op.Utf16ToLatin1 t k = absurd cc
widening op.Utf16ToCompactProbablyUtf16 t k = absurd cc
widening op.Utf8ToCompactUtf16 t k = refl
widening op.Utf16ToCompactUtf16 t k = refl

-- ---- the law

pub unstopped : (o : Transcode) (source destination : List ℕ) (t : Told) → IsSafe o source destination t → MustStop o source destination t → ⊥
unstopped o source destination t h (SourceOutside lt) = omega (arith, lt, h.inside)
unstopped o source destination t h (Malformed e) = none_some (decoded (from_encoding o) (units_read o source t)) h.text e (ap (decoded (from_encoding o)) h.spells.is ∙ decodes (from_encoding o) h.text h.spells.can)
unstopped o source destination t h (LatinOutside k lt) = omega (arith, lt, h.room, h.fits k, widening o t k)
unstopped o source destination t h (Overflows k text e lt) =
    let there : decoded (from_encoding o) (units_read o source t) ≡ Some h.text = ap (decoded (from_encoding o)) h.spells.is ∙ decodes (from_encoding o) h.text h.spells.can in
    let same : h.text ≡ text = same_some _ h.text text there e in
    omega (arith, lt, h.fits k, ap (units_of_text Utf16) same)
unstopped o source destination t h (DestinationOutside bytes numbers honest lt) =
    let behind : unit_bytes (from_encoding o) * t.units ≤ length (drop t.from source) = omega (arith, length-drop t.from source, h.inside) in
    let long : length (units_read o source t) ≡ unit_bytes (from_encoding o) * t.units = length-take-le (unit_bytes (from_encoding o) * t.units) (drop t.from source) behind in
    omega (arith, lt, h.room, bounded o t (drop t.to destination) (units_read o source t) bytes numbers long honest)
