-- Texts as the canonical ABI's reader finds them: the form of a length, a text that stands at a source, and one that stands in a
-- region.
use Rattle.std.proofs.Common.{◌≡◌, ℕ, ◌+◌, ◌*◌, ◌-◌, ◌/◌, ◌%◌, ◌≤◌, inl, inr, Bool, true, false, List, length, take, drop, Some, None, refl, sym, ap, ◌∙◌, subst, arith, length-take, length-drop}
use Rattle.std.specs.Prelude.{min, nat_le, ◌&&◌, ◌==◌, if◌then◌else◌}
use Rattle.std.proofs.lemmas.Bool.{eqb-true, eq-eqb, leb-true, le-leb}
use Rattle.std.proofs.lemmas.List.{get_or-drop}
use Rattle.fact_types.specs.declared.outside.FixedEncoding.{FixedEncoding}
use Rattle.fact_types.specs.declared.outside.FixedEncoding.TheVariants.{Utf8, Utf16, Latin1}
use Rattle.fact_types.specs.declared.outside.StringEncoding.{StringEncoding}
use Rattle.fact_types.specs.declared.outside.StringEncoding.TheVariants as string
use Rattle.fact_types.proofs.ShapeLaws.{none_some}
use Rattle.fact_actions.specs.Paths.{TextForm, AsUtf8, AsUtf16, AsCompactLatin1, AsCompactUtf16, align_of}
use Rattle.fact_values.specs.Texts.{unit_bytes, spelled_text, decoded, Form, form_of, utf16_tag, has_tag, lies_aligned, text_of_form, text_at}
use Rattle.fact_actions.proofs.States.{and_left, and_right}
use Rattle.fact_actions.specs.Strings.{form_in}
use Rattle.fact_action_laws.proofs.Bounds.{length_text}
use Rattle.fact_action_laws.proofs.Decoded.{decodes}
use Rattle.fact_action_laws.proofs.Stages.{Stage, StandsIn, StandsAs}
use Rattle.fact_action_laws.proofs.Invariant.{StandAt, take_same}
use Rattle.fact_action_laws.proofs.Spelled.{form_align, form_encoding, in_form}

-- ---- forms

-- what stands in a form, and in how many units
pub form_is : (enc : StringEncoding) (n : ℕ) → form_of enc n ≡ in_form (form_in enc n) (form_of enc n).units
form_is string.Utf8 n = refl
form_is string.Utf16 n = refl
form_is string.CompactUtf16 n = by_tag (has_tag n)
  where
    compact : Bool → Form
    compact b = if b then in_form AsCompactUtf16 (n - utf16_tag) else in_form AsCompactLatin1 n

    by_tag : (b : Bool) → compact b ≡ in_form (if b then AsCompactUtf16 else AsCompactLatin1) (compact b).units
    by_tag true = refl
    by_tag false = refl

-- the tag tells the form of compact texts
untagged_form : (n : ℕ) → has_tag n ≡ false → form_of string.CompactUtf16 n ≡ in_form AsCompactLatin1 n
untagged_form n h = ap (λ b. if b then in_form AsCompactUtf16 (n - utf16_tag) else in_form AsCompactLatin1 n) h

tagged_form : (n : ℕ) → has_tag n ≡ true → form_of string.CompactUtf16 n ≡ in_form AsCompactUtf16 (n - utf16_tag)
tagged_form n h = ap (λ b. if b then in_form AsCompactUtf16 (n - utf16_tag) else in_form AsCompactLatin1 n) h

-- the pointer of a text is a multiple of its unit
pub unit_aligned : (form : TextForm) (p : ℕ) → p % form_align form ≡ 0 → p % unit_bytes (form_encoding form) ≡ 0
unit_aligned AsUtf8 p h = h
unit_aligned AsUtf16 p h = h
unit_aligned AsCompactLatin1 p h = omega arith
unit_aligned AsCompactUtf16 p h = h

bytes_same : (e : FixedEncoding) (n : ℕ) → n * unit_bytes e ≡ unit_bytes e * n
bytes_same Utf8 n = omega arith
bytes_same Utf16 n = omega arith
bytes_same Latin1 n = omega arith

-- ---- at a source

-- what it means that a text is read
pub record TextRead (bytes : List ℕ) (p : ℕ) (e : FixedEncoding) (align units : ℕ) (chars : List ℕ) : Type 0 where
  pub aligned : p % align ≡ 0
  pub inside : p + unit_bytes e * units ≤ length bytes
  pub is : decoded e (take (unit_bytes e * units) (drop p bytes)) ≡ Some chars

pub text_read : (bytes : List ℕ) (p : ℕ) (e : FixedEncoding) (align units : ℕ) (chars : List ℕ) → text_of_form bytes p (record { encoding = e; align = align; units = units }) ≡ Some chars → TextRead bytes p e align units chars
text_read bytes p e align units chars h =
    go (lies_aligned bytes align p (unit_bytes e * units)) refl (subst (λ k. (if lies_aligned bytes align p k then decoded e (take k (drop p bytes)) else None) ≡ Some chars) (bytes_same e units) h)
  where
    go : (b : Bool) → lies_aligned bytes align p (unit_bytes e * units) ≡ b → (if b then decoded e (take (unit_bytes e * units) (drop p bytes)) else None) ≡ Some chars → TextRead bytes p e align units chars
    go true r h = record { aligned = eqb-true (p % align) 0 (and_left (p % align == 0) (nat_le (p + unit_bytes e * units) (length bytes)) r); inside = leb-true (p + unit_bytes e * units) (length bytes) (and_right (p % align == 0) (nat_le (p + unit_bytes e * units) (length bytes)) r); is = h }
    go false r h = absurd (none_some None chars refl h)

-- and what it means that none is, though the range is in order
pub text_missing : (bytes : List ℕ) (p : ℕ) (e : FixedEncoding) (align units : ℕ) → text_of_form bytes p (record { encoding = e; align = align; units = units }) ≡ None → p % align ≡ 0 → p + unit_bytes e * units ≤ length bytes
    → decoded e (take (unit_bytes e * units) (drop p bytes)) ≡ None
text_missing bytes p e align units h al le =
    let range : lies_aligned bytes align p (unit_bytes e * units) ≡ true = ap (λ b. b && nat_le (p + unit_bytes e * units) (length bytes)) (eq-eqb (p % align) 0 al) ∙ le-leb (p + unit_bytes e * units) (length bytes) le in
    sym (ap (λ b. if b then decoded e (take (unit_bytes e * units) (drop p bytes)) else None) range)
    ∙ subst (λ k. (if lies_aligned bytes align p k then decoded e (take k (drop p bytes)) else None) ≡ None) (bytes_same e units) h

-- ---- in a region

read_form : (e : FixedEncoding) (align u : ℕ) (text : List ℕ) (st : Stage) (m : List ℕ) (q : ℕ) → StandsIn e text u st → q % align ≡ 0 → q + st.size ≤ length m → length st.have ≤ st.size → StandAt m q st.have
    → text_of_form m q (record { encoding = e; align = align; units = u }) ≡ Some text
read_form e align u text st m q h al le long stand =
    let k = unit_bytes e * u in
    let size : length (spelled_text e text) ≡ k = length_text e text ∙ ap (λ n. unit_bytes e * n) (sym h.units_are) in
    let cut : min k (length st.have) ≡ k = sym (length-take k st.have) ∙ ap length h.bytes_are ∙ size in
    let there : take k (drop q m) ≡ spelled_text e text = take_same k (drop q m) st.have (omega (arith, cut, le, long, length-drop q m)) (omega (arith, cut)) (λ i lt. get_or-drop q m i 0 ∙ stand i (omega (arith, lt, cut))) ∙ h.bytes_are in
    let range : lies_aligned m align q k ≡ true = ap (λ b. b && nat_le (q + k) (length m)) (eq-eqb (q % align) 0 al) ∙ le-leb (q + k) (length m) (omega (arith, h.room, le)) in
    subst (λ k. (if lies_aligned m align q k then decoded e (take k (drop q m)) else None) ≡ Some text) (sym (bytes_same e u))
    (ap (λ b. if b then decoded e (take k (drop q m)) else None) range ∙ ap (decoded e) there ∙ decodes e text h.can)

pub read_back : (encoding : StringEncoding) (text : List ℕ) (st : Stage) (m : List ℕ) (q : ℕ) → StandsAs encoding text st → q % align_of encoding ≡ 0 → q + st.size ≤ length m → length st.have ≤ st.size → StandAt m q st.have
    → text_at encoding m q st.written ≡ Some text
read_back string.Utf8 text st m q h al le long stand = read_form Utf8 1 st.written text st m q h al le long stand
read_back string.Utf16 text st m q h al le long stand = read_form Utf16 2 st.written text st m q h al le long stand
read_back string.CompactUtf16 text st m q (inl h) al le long stand =
    let low = h.1 in
    let none : st.written / utf16_tag % 2 ≡ 0 = omega (arith, low) in
    ap (text_of_form m q) (untagged_form st.written (ap (λ x. x == 1) none)) ∙ read_form Latin1 2 st.written text st m q h.0 al le long stand
read_back string.CompactUtf16 text st m q (inr h) al le long stand =
    let low = h.2 in
    let tag = h.1 in
    let one : st.written / utf16_tag % 2 ≡ 1 = omega (arith, low, tag) in
    let units : st.written - utf16_tag ≡ h.0 = omega (arith, tag) in
    ap (text_of_form m q) (tagged_form st.written (ap (λ x. x == 1) one)) ∙ ap (λ u. text_of_form m q (in_form AsCompactUtf16 u)) units ∙ read_form Utf16 2 h.0 text st m q h.3 al le long stand
