-- A text asks for no more than 16 bytes for each scalar value, and 8, in whatever form it stands and into whatever encoding it goes.
use Rattle.std.proofs.Common.{◌≡◌, ℕ, ◌+◌, ◌*◌, ◌≤◌, ◌<◌, ◌⊎◌, inl, inr, Bool, true, false, List, [], ◌∷◌, length, take, drop, get_or, Some, sym, ap, ◌∙◌, subst, arith, cond, length-take, length-drop}
use Rattle.std.specs.Prelude.{nat_lt, min}
use Rattle.std.proofs.lemmas.Bool.{cases_lt}
use Rattle.std.proofs.lemmas.List.{get_or-take, get_or-drop, get_or_past}
use Rattle.std.proofs.lemmas.Str.{len_utf8_bounds}
use Rattle.fact_types.specs.declared.outside.FixedEncoding.{FixedEncoding}
use Rattle.fact_types.specs.declared.outside.FixedEncoding.TheVariants.{Utf8, Utf16, Latin1}
use Rattle.fact_types.specs.declared.outside.StringEncoding.{StringEncoding}
use Rattle.fact_types.specs.declared.outside.StringEncoding.TheVariants as string
use Rattle.fact_values.specs.Texts.{unit_bytes, units, units_of_text, form_of, text_of_form, text_at}
use Rattle.fact_actions.specs.Paths.{TextForm, AsUtf8, AsUtf16, AsCompactLatin1, AsCompactUtf16, align_of, path}
use Rattle.fact_actions.specs.Strings.{form_in}
use Rattle.fact_action_laws.specs.Rooms.{path_bytes}
use Rattle.fact_action_laws.proofs.Bounds.{length_text}
use Rattle.fact_action_laws.proofs.Encoded.{AreSmallBytes, encoded}
use Rattle.fact_action_laws.proofs.PartTexts.{TextStands}
use Rattle.fact_action_laws.proofs.Reading.{TextRead, form_is, text_read}
use Rattle.fact_action_laws.proofs.Spelled.{form_align, form_encoding, in_form}

-- the most units of a scalar value
abbrev most_of : FixedEncoding → ℕ
most_of Utf8 = 4
most_of Utf16 = 2
most_of Latin1 = 1

units_most : (e : FixedEncoding) (c : ℕ) → units e c ≤ most_of e
units_most Utf8 c = (len_utf8_bounds c).1
units_most Utf16 c = by_size (nat_lt c 0x1_0000)
  where
    by_size : (b : Bool) → cond b 1 2 ≤ 2
    by_size true = omega arith
    by_size false = omega arith
units_most Latin1 c = omega arith

text_most : (e : FixedEncoding) (text : List ℕ) → units_of_text e text ≤ most_of e * length text
text_most e [] = omega arith
text_most e (c ∷ text) = go e (units_most e c) (text_most e text)
  where
    go : (e : FixedEncoding) → units e c ≤ most_of e → units_of_text e text ≤ most_of e * length text → units e c + units_of_text e text ≤ most_of e * length (c ∷ text)
    go Utf8 h k = omega (arith, h, k)
    go Utf16 h k = omega (arith, h, k)
    go Latin1 h k = omega (arith, h, k)

-- ---- a text that stands at a source

taken_small : (k p : ℕ) (bytes : List ℕ) → AreSmallBytes bytes → AreSmallBytes (take k (drop p bytes))
taken_small k p bytes small i = go (cases_lt i k)
  where
    go : (i < k) ⊎ (k ≤ i) → get_or (take k (drop p bytes)) i 0 < 256
    go (inl lt) = subst (λ x. x < 256) (sym (get_or-take k (drop p bytes) i 0 lt ∙ get_or-drop p bytes i 0)) (small (p + i))
    go (inr ge) = subst (λ x. x < 256) (sym (get_or_past (take k (drop p bytes)) i 0 (omega (arith, ge, length-take k (drop p bytes))))) (omega arith)

-- what is read in a form stands there
form_stands : (form : TextForm) (bytes : List ℕ) (p n : ℕ) (chars : List ℕ) → AreSmallBytes bytes → text_of_form bytes p (in_form form n) ≡ Some chars → TextStands bytes form p n
form_stands form bytes p n chars small h =
    let e = form_encoding form in
    let r : TextRead bytes p e (form_align form) n chars = text_read bytes p e (form_align form) n chars h in
    record { text = chars; aligned = r.aligned; inside = r.inside; spells = encoded e (take (unit_bytes e * n) (drop p bytes)) chars (taken_small (unit_bytes e * n) p bytes small) r.is }

pub text_stands : (enc : StringEncoding) (bytes : List ℕ) (p count : ℕ) (chars : List ℕ) → AreSmallBytes bytes → text_at enc bytes p count ≡ Some chars → TextStands bytes (form_in enc count) p (form_of enc count).units
text_stands enc bytes p count chars small h = form_stands (form_in enc count) bytes p (form_of enc count).units chars small (ap (text_of_form bytes p) (sym (form_is enc count)) ∙ h)

form_units : (form : TextForm) (bytes : List ℕ) (p n : ℕ) (chars : List ℕ) → AreSmallBytes bytes → text_of_form bytes p (in_form form n) ≡ Some chars → n ≤ most_of (form_encoding form) * length chars
form_units form bytes p n chars small h =
    let e = form_encoding form in
    let r : TextRead bytes p e (form_align form) n chars = text_read bytes p e (form_align form) n chars h in
    let spelled = encoded e (take (unit_bytes e * n) (drop p bytes)) chars (taken_small (unit_bytes e * n) p bytes small) r.is in
    by_encoding e r.inside (ap length spelled.is ∙ length_text e chars) (length-take (unit_bytes e * n) (drop p bytes)) (text_most e chars)
  where
    by_encoding : (e : FixedEncoding) → p + unit_bytes e * n ≤ length bytes → length (take (unit_bytes e * n) (drop p bytes)) ≡ unit_bytes e * units_of_text e chars → length (take (unit_bytes e * n) (drop p bytes)) ≡ min (unit_bytes e * n) (length (drop p bytes))
        → units_of_text e chars ≤ most_of e * length chars → n ≤ most_of e * length chars
    by_encoding Utf8 inside long cut most = omega (arith, inside, long, cut, most, length-drop p bytes)
    by_encoding Utf16 inside long cut most = omega (arith, inside, long, cut, most, length-drop p bytes)
    by_encoding Latin1 inside long cut most = omega (arith, inside, long, cut, most, length-drop p bytes)

source_units : (enc : StringEncoding) (bytes : List ℕ) (p count : ℕ) (chars : List ℕ) → AreSmallBytes bytes → text_at enc bytes p count ≡ Some chars → (form_of enc count).units ≤ most_of (form_encoding (form_in enc count)) * length chars
source_units enc bytes p count chars small h = form_units (form_in enc count) bytes p (form_of enc count).units chars small (ap (text_of_form bytes p) (sym (form_is enc count)) ∙ h)

-- ---- the regions of its path

path_room : (form : TextForm) (to : StringEncoding) (n s : ℕ) → n ≤ most_of (form_encoding form) * s → path_bytes (align_of to) (path form to) n ≤ 8 + 16 * s
path_room AsUtf8 string.Utf8 n s h = omega (arith, h)
path_room AsUtf8 string.Utf16 n s h = omega (arith, h)
path_room AsUtf8 string.CompactUtf16 n s h = omega (arith, h)
path_room AsUtf16 string.Utf8 n s h = omega (arith, h)
path_room AsUtf16 string.Utf16 n s h = omega (arith, h)
path_room AsUtf16 string.CompactUtf16 n s h = omega (arith, h)
path_room AsCompactLatin1 string.Utf8 n s h = omega (arith, h)
path_room AsCompactLatin1 string.Utf16 n s h = omega (arith, h)
path_room AsCompactLatin1 string.CompactUtf16 n s h = omega (arith, h)
path_room AsCompactUtf16 string.Utf8 n s h = omega (arith, h)
path_room AsCompactUtf16 string.Utf16 n s h = omega (arith, h)
path_room AsCompactUtf16 string.CompactUtf16 n s h = omega (arith, h)

pub text_room : (enc to : StringEncoding) (bytes : List ℕ) (p count : ℕ) (chars : List ℕ) → AreSmallBytes bytes → text_at enc bytes p count ≡ Some chars
    → path_bytes (align_of to) (path (form_in enc count) to) (form_of enc count).units ≤ 8 + 16 * length chars
text_room enc to bytes p count chars small h = path_room (form_in enc count) to (form_of enc count).units (length chars) (source_units enc bytes p count chars small h)
