-- What the functions of transcoders find, in the words of the host's rules.
use Rattle.std.proofs.Common.{◌≡◌, ℕ, ◌+◌, ◌*◌, ◌/◌, ◌<◌, ◌≤◌, ◌⊎◌, inl, inr, List, [], ◌∷◌, ◌++◌, Option, Some, None, length, take, drop, sym, ap, ◌∙◌, subst, arith, length-append}
use Rattle.std.specs.Prelude.{IfSome}
use Rattle.std.proofs.lemmas.Bool.{cases_lt}
use Rattle.std.proofs.lemmas.List.{length-drop, length-take-le, take_all}
use Rattle.std.proofs.lemmas.List.Elements.{All-get_or}
use Rattle.std.proofs.Math.ListN.{get_or-eq_default}
use Rattle.fact_types.specs.declared.outside.FixedEncoding.{FixedEncoding}
use Rattle.fact_types.specs.declared.outside.FixedEncoding.TheVariants.{Utf8, Utf16, Latin1}
use Rattle.fact_types.specs.declared.outside.Transcode.{Transcode}
use Rattle.fact_values.specs.Texts.{AreSpelled, decoded, spelled_text, unit_bytes, units_of_text}
use Rattle.fact_actions.specs.Transcoders.{IsHonestPass, Widening, from_encoding, to_encoding, transcode_kind, widened}
use Rattle.fact_action_laws.proofs.Bounds.{length_text}
use Rattle.fact_action_laws.proofs.Encoded.{AreSmallBytes, encoded}
use Rattle.fact_host.specs.declared.transcoders.Told.{Told}
use Rattle.fact_host.specs.Hosts.{IsMadeOf}
use Rattle.fact_host.specs.Rules.{AreWrittenBytes, IsHonestlyMade, MustStop, LatinOutside, Overflows, DestinationOutside, told_room, units_read}

-- ---- numbers of units

-- the units of a text are as many as its bytes make
pub units_are : (e : FixedEncoding) (bytes text : List ℕ) (n u : ℕ) → bytes ≡ spelled_text e text → n ≡ length bytes → u ≡ unit_bytes e → n / u ≡ units_of_text e text
units_are e bytes text n u is long unit = ap (λ d. n / d) unit ∙ by e (long ∙ ap length is ∙ length_text e text)
  where
    by : (f : FixedEncoding) → n ≡ unit_bytes f * units_of_text f text → n / unit_bytes f ≡ units_of_text f text
    by Utf8 h = omega (arith, h)
    by Utf16 h = omega (arith, h)
    by Latin1 h = omega (arith, h)

length_widened : (bytes : List ℕ) → length (widened bytes) ≡ 2 * length bytes
length_widened [] = omega arith
length_widened (b ∷ bytes) = let h = length_widened bytes in omega (arith, h)

-- bytes that became units, and the units of a text behind them
pub widened_units : (destination text bytes : List ℕ) (to latin1 n : ℕ) → to + latin1 ≤ length destination → bytes ≡ widened (take latin1 (drop to destination)) ++ spelled_text Utf16 text → n ≡ length bytes
    → n / 2 ≡ latin1 + units_of_text Utf16 text
widened_units destination text bytes to latin1 n within is long =
    let behind = length-drop to destination in
    let there : length (take latin1 (drop to destination)) ≡ latin1 = length-take-le latin1 (drop to destination) (omega (arith, behind, within)) in
    let wide = length_widened (take latin1 (drop to destination)) in
    let spelled = length_text Utf16 text in
    let all = long ∙ ap length is ∙ length-append (widened (take latin1 (drop to destination))) (spelled_text Utf16 text) in
    omega (arith, there, wide, spelled, all)

-- a front that is all of a text
pub low_all : (text : List ℕ) (n : ℕ) → n ≡ length text → AreSpelled Latin1 (take n text) → AreSpelled Latin1 text
low_all text n all low = subst (AreSpelled Latin1) (take_all n text (omega (arith, all))) low

-- ---- what is read

small : (bytes : List ℕ) → AreWrittenBytes bytes → AreSmallBytes bytes
small bytes h i = elim (cases_lt i (length bytes)) [ inl lt ↦ All-get_or (λ b. b < 256) bytes i 0 lt h | inr ge ↦ (let e = get_or-eq_default bytes 0 ge in omega (arith, e)) ]

-- what is decoded is spelled so
pub spelled_read : (e : FixedEncoding) (bytes units : List ℕ) (o : Option (List ℕ)) → o ≡ decoded e bytes → AreWrittenBytes bytes → units ≡ bytes → IfSome o (λ text. (units ≡ spelled_text e text) × AreSpelled e text)
spelled_read e bytes units None is are same = tt
spelled_read e bytes units (Some text) is are same = let s = encoded e bytes text (small bytes are) (sym is) in (same ∙ s.is, s.can)

-- ---- what stops it

-- Latin-1 bytes that are to be there are not, or there is no room for them and the text
pub stops_widening : (o : Transcode) (source destination slice text : List ℕ) (t : Told) → decoded (from_encoding o) (units_read o source t) ≡ Some text → slice ≡ text
    → (transcode_kind o ≡ Widening) × ((length destination < t.to + t.latin1) ⊎ (t.room < t.latin1 + units_of_text Utf16 slice)) → MustStop o source destination t
stops_widening o source destination slice text t decodes same h = by h.1
  where
    by : (length destination < t.to + t.latin1) ⊎ (t.room < t.latin1 + units_of_text Utf16 slice) → MustStop o source destination t
    by (inl lt) = LatinOutside h.0 lt
    by (inr lt) = Overflows h.0 text decodes (let u = ap (units_of_text Utf16) same in omega (arith, u, lt))

-- what is made of the text that is read is honest
pub honest_by : (o : Transcode) (source destination slice text bytes numbers : List ℕ) (t : Told) → units_read o source t ≡ spelled_text (from_encoding o) text → slice ≡ text
    → IsMadeOf o slice destination t bytes numbers → IsHonestlyMade o source destination t bytes numbers
honest_by o source destination slice text bytes numbers t is same h =
    subst (λ s. IsHonestPass (transcode_kind o) (from_encoding o) (to_encoding o) (told_room (transcode_kind o) t (drop t.to destination)) s bytes numbers) (ap (spelled_text (from_encoding o)) same ∙ sym is) h

-- its bytes are not all in their places
pub stops_outside : (o : Transcode) (source destination slice text bytes numbers : List ℕ) (t : Told) → units_read o source t ≡ spelled_text (from_encoding o) text → slice ≡ text
    → IsMadeOf o slice destination t bytes numbers → length destination < t.to + length bytes → MustStop o source destination t
stops_outside o source destination slice text bytes numbers t is same h lt = DestinationOutside bytes numbers (honest_by o source destination slice text bytes numbers t is same h) lt
