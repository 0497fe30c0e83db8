-- What is read is spelled so: bytes that are decoded to a text are those that spell it.
use Rattle.std.proofs.Common.{◌≡◌, ℕ, zero, suc, ◌+◌, ◌*◌, ◌-◌, ◌%◌, ◌/◌, ◌≤◌, ◌<◌, ◌⊎◌, inl, inr, ⊎_elim, List, [], ◌∷◌, ◌++◌, Some, None, refl, sym, ap, ◌∙◌, subst, arith, get_or}
use Rattle.std.specs.Prelude.{Bool, true, false, ◌&&◌, if◌then◌else◌}
use Rattle.std.proofs.lemmas.Bool.{cases_lt, lt-ltb, le-ltb, le-leb, false≢true}
use Rattle.std.proofs.lemmas.Str.{chars-encodes, IsUtf8-from_is_utf8, utf16_chars_lone, utf16_chars_pair, utf16_chars-nil}
use Rattle.std.proofs.Math.Utf8.{scalar, scalars, low_scalar}
use Rattle.std.proofs.str.Utf16.{one_unit, two_units, lone_unit_char_low, lone_unit_char_high}
use Rattle.std.specs.Char.Escape.{encode_utf16}
use Rattle.std.specs.Char.Utf16.{utf16_chars, lone_unit_char, surrogate_pair_char}
use Rattle.std.specs.Str.{chars, is_utf8}
use Rattle.fact_types.specs.declared.outside.FixedEncoding.{FixedEncoding}
use Rattle.fact_types.specs.declared.outside.FixedEncoding.TheVariants.{Utf8, Utf16, Latin1}
use Rattle.fact_types.proofs.ShapeLaws.{same_some, none_some}
use Rattle.fact_values.specs.Texts.{AreSpelled, spelled_text, low_first, two_byte_units, all_there, decoded}
use Rattle.fact_action_laws.proofs.Plain.{both}
use Rattle.fact_action_laws.proofs.Decoded.{units_of, bytes_units, same_bytes, latin_bytes}
use Rattle.fact_action_laws.proofs.Spelled.{SpellsText}

-- each byte is below 256
abbrev pub AreSmallBytes : List ℕ → Type 0
AreSmallBytes bytes = (i : ℕ) → get_or bytes i 0 < 256

-- ---- UTF-8

first_true : (a b : Bool) → (a && b) ≡ true → a ≡ true
first_true true b h = refl
first_true false b h = h

second_true : (a b : Bool) → (a && b) ≡ true → b ≡ true
second_true true b h = h
second_true false b h = absurd (false≢true h)

are_scalars : (t : List ℕ) → scalars t ≡ true → AreSpelled Utf8 t
are_scalars [] h = tt
are_scalars (c ∷ t) h = (first_true (scalar c) (scalars t) h, are_scalars t (second_true (scalar c) (scalars t) h))

utf8_spelled : (bytes text : List ℕ) (b : Bool) → is_utf8 bytes ≡ b → (if b then Some (chars bytes) else None) ≡ Some text → SpellsText Utf8 bytes text
utf8_spelled bytes text true is h =
    let u = IsUtf8-from_is_utf8 bytes is in
    let same : u.0 ≡ text = sym (chars-encodes u.0 u.1.0) ∙ ap chars u.1.1 ∙ same_some (Some (chars bytes)) (chars bytes) text refl h in
    record { can = subst (AreSpelled Utf8) same (are_scalars u.0 u.1.0); is = sym u.1.1 ∙ sym (same_bytes u.0) ∙ ap (spelled_text Utf8) same }
utf8_spelled bytes text false is h = absurd (none_some None text refl h)

-- ---- UTF-16

abbrev AreUnits : List ℕ → Type 0
AreUnits us = (i : ℕ) → get_or us i 0 < 65536

high_scalar : (c : ℕ) → 57344 ≤ c → c < 1114112 → scalar c ≡ true
high_scalar c from below = rw (le-ltb c 55296 (omega (arith, from)), le-leb 57344 c from, lt-ltb c 1114112 below) refl

-- units that make a text spell it
record UnitsSpell (us text : List ℕ) : Type 0 where
  can : AreSpelled Utf16 text
  is : us ≡ units_of text

alone : (u : ℕ) (us text : List ℕ) → u < 65536 → scalar u ≡ true → lone_unit_char u ≡ Some u → utf16_chars (u ∷ us) ≡ lone_unit_char u ∷ utf16_chars us → all_there (utf16_chars (u ∷ us)) ≡ Some text
    → ((rest : List ℕ) → all_there (utf16_chars us) ≡ Some rest → UnitsSpell us rest) → UnitsSpell (u ∷ us) text
alone u us text small ok char is h next =
    let b = both (all_there (utf16_chars us)) (λ t. Some (u ∷ t)) text (sym (ap all_there is ∙ ap (λ o. all_there (o ∷ utf16_chars us)) char) ∙ h) in
    let same : u ∷ b.mid ≡ text = same_some (Some (u ∷ b.mid)) (u ∷ b.mid) text refl b.last in
    let r = next b.mid b.first in
    record { can = subst (AreSpelled Utf16) same (ok, r.can); is = ap (λ l. u ∷ l) r.is ∙ ap (λ l. l ++ units_of b.mid) (sym (one_unit u small)) ∙ ap units_of same }

pair : (u v : ℕ) (us text : List ℕ) → 55296 ≤ u → u < 56320 → 56320 ≤ v → v < 57344 → all_there (utf16_chars (u ∷ v ∷ us)) ≡ Some text
    → ((rest : List ℕ) → all_there (utf16_chars us) ≡ Some rest → UnitsSpell us rest) → UnitsSpell (u ∷ v ∷ us) text
pair u v us text a b x y h next =
    let c = surrogate_pair_char u v in
    let big : 0x1_0000 ≤ c = omega arith in
    let top : c < 1114112 = omega (arith, a, b, x, y) in
    let z = both (all_there (utf16_chars us)) (λ t. Some (c ∷ t)) text (sym (ap all_there (utf16_chars_pair u v us (a, b, x, y))) ∙ h) in
    let same : c ∷ z.mid ≡ text = same_some (Some (c ∷ z.mid)) (c ∷ z.mid) text refl z.last in
    let r = next z.mid z.first in
    let high : 0xD800 + (c - 0x1_0000) / 0x400 ≡ u = omega (arith, a, b, x, y) in
    let low : 0xDC00 + (c - 0x1_0000) % 0x400 ≡ v = omega (arith, a, b, x, y) in
    let units : encode_utf16 c ≡ u ∷ v ∷ [] = two_units c big ∙ ap (λ k. k ∷ (0xDC00 + (c - 0x1_0000) % 0x400) ∷ []) high ∙ ap (λ k. u ∷ k ∷ []) low in
    record { can = subst (AreSpelled Utf16) same (high_scalar c (omega (arith, big)) top, r.can); is = ap (λ l. u ∷ v ∷ l) r.is ∙ ap (λ l. l ++ units_of z.mid) (sym units) ∙ ap units_of same }

-- a surrogate without a partner makes no text
unpaired : (u : ℕ) (us text : List ℕ) → 55296 ≤ u → u < 57344 → utf16_chars (u ∷ us) ≡ lone_unit_char u ∷ utf16_chars us → all_there (utf16_chars (u ∷ us)) ≡ Some text → ⊥
unpaired u us text from below is h = none_some None text refl (sym (ap all_there is ∙ ap (λ o. all_there (o ∷ utf16_chars us)) lone) ∙ h)
  where
    lone : lone_unit_char u ≡ None
    lone = rw (le-leb 0xD800 u from, lt-ltb u 0xE000 below) refl

-- one unit, and others
first_unit : (u : ℕ) (us text : List ℕ) → u < 65536 → all_there (utf16_chars (u ∷ us)) ≡ Some text → ((rest : List ℕ) → all_there (utf16_chars us) ≡ Some rest → UnitsSpell us rest)
    → (55296 ≤ u → u < 57344 → UnitsSpell (u ∷ us) text) → UnitsSpell (u ∷ us) text
first_unit u us text small h next surrogate =
    ⊎_elim (λ low. alone u us text small (low_scalar u low) (lone_unit_char_low u low) (utf16_chars_lone u us (λ p. omega (arith, low, p.0))) h next)
    (λ from. ⊎_elim (λ below. surrogate from below)
    (λ high. alone u us text small (high_scalar u high (omega (arith, small))) (lone_unit_char_high u high) (utf16_chars_lone u us (λ p. omega (arith, high, p.1))) h next) (cases_lt u 57344)) (cases_lt u 55296)

-- a surrogate, and a unit behind it
second_unit : (u v : ℕ) (us text : List ℕ) → 55296 ≤ u → u < 57344 → all_there (utf16_chars (u ∷ v ∷ us)) ≡ Some text → ((rest : List ℕ) → all_there (utf16_chars us) ≡ Some rest → UnitsSpell us rest) → UnitsSpell (u ∷ v ∷ us) text
second_unit u v us text from below h next = go (cases_lt u 56320) (cases_lt v 56320) (cases_lt v 57344)
  where
    go : (u < 56320) ⊎ (56320 ≤ u) → (v < 56320) ⊎ (56320 ≤ v) → (v < 57344) ⊎ (57344 ≤ v) → UnitsSpell (u ∷ v ∷ us) text
    go (inl a) (inr b) (inl d) = pair u v us text from a b d h next
    go (inr a) b d = absurd (unpaired u (v ∷ us) text from below (utf16_chars_lone u (v ∷ us) (λ p. omega (arith, a, p.1))) h)
    go (inl a) (inl b) d = absurd (unpaired u (v ∷ us) text from below (utf16_chars_lone u (v ∷ us) (λ p. omega (arith, b, p.2))) h)
    go (inl a) (inr b) (inr d) = absurd (unpaired u (v ∷ us) text from below (utf16_chars_lone u (v ∷ us) (λ p. omega (arith, d, p.3))) h)

units_spell : (us text : List ℕ) → AreUnits us → all_there (utf16_chars us) ≡ Some text → UnitsSpell us text
units_spell [] text small h =
    let same : [] ≡ text = same_some (Some []) [] text refl (sym (ap all_there utf16_chars-nil) ∙ h) in record { can = subst (AreSpelled Utf16) same tt; is = ap units_of same }
units_spell (u ∷ []) text small h = first_unit u [] text (small 0) h (λ rest k. units_spell [] rest (λ i. small (suc i)) k)
    (λ from below. absurd (unpaired u [] text from below (utf16_chars_lone u [] (λ p. omega (arith, p.2))) h))
units_spell (u ∷ (v ∷ us)) text small h = first_unit u (v ∷ us) text (small 0) h (λ rest k. units_spell (v ∷ us) rest (λ i. small (suc i)) k)
    (λ from below. second_unit u v us text from below h (λ rest k. units_spell us rest (λ i. small (suc (suc i))) k))

unit_first : (u : ℕ) (us : List ℕ) → u < 65536 → AreUnits us → AreUnits (u ∷ us)
unit_first u us h f zero = h
unit_first u us h f (suc i) = f i

-- the units of bytes
record PairsOf (bytes us : List ℕ) : Type 0 where
  is : bytes ≡ low_first us
  small : AreUnits us

pairs_of : (bytes us : List ℕ) → AreSmallBytes bytes → two_byte_units bytes ≡ Some us → PairsOf bytes us
pairs_of [] us below h = let same : [] ≡ us = same_some (Some []) [] us refl h in record { is = ap low_first same; small = subst AreUnits same (λ i. omega arith) }
pairs_of (a ∷ []) us below h = absurd (none_some None us refl h)
pairs_of (a ∷ (b ∷ bytes)) us below h =
    let z = both (two_byte_units bytes) (λ us. Some ((a + 256 * b) ∷ us)) us h in
    let r = pairs_of bytes z.mid (λ i. below (suc (suc i))) z.first in
    let same : (a + 256 * b) ∷ z.mid ≡ us = same_some (Some ((a + 256 * b) ∷ z.mid)) _ us refl z.last in
    let first = below 0 in
    let second = below 1 in
    let low : a ≡ (a + 256 * b) % 256 = omega (arith, first) in
    let high : b ≡ (a + 256 * b) / 256 = omega (arith, first) in
    record {
      is = ap (λ l. a ∷ b ∷ l) r.is ∙ ap (λ k. k ∷ b ∷ low_first z.mid) low ∙ ap (λ k. (a + 256 * b) % 256 ∷ k ∷ low_first z.mid) high ∙ ap low_first same;
      small = subst AreUnits same (unit_first (a + 256 * b) z.mid (omega (arith, first, second)) r.small);
    }

latin_can : (bytes : List ℕ) → AreSmallBytes bytes → AreSpelled Latin1 bytes
latin_can [] h = tt
latin_can (b ∷ bytes) h = (h 0, latin_can bytes (λ i. h (suc i)))

-- ---- any encoding

pub encoded : (e : FixedEncoding) (bytes text : List ℕ) → AreSmallBytes bytes → decoded e bytes ≡ Some text → SpellsText e bytes text
encoded Utf8 bytes text below h = utf8_spelled bytes text (is_utf8 bytes) refl h
encoded Utf16 bytes text below h =
    let z = both (two_byte_units bytes) (λ us. all_there (utf16_chars us)) text h in
    let r = pairs_of bytes z.mid below z.first in
    let u = units_spell z.mid text r.small z.last in
    record { can = u.can; is = r.is ∙ ap low_first u.is ∙ sym (bytes_units text) }
encoded Latin1 bytes text below h =
    let same : bytes ≡ text = same_some (Some bytes) bytes text refl h in
    record { can = subst (AreSpelled Latin1) same (latin_can bytes below); is = same ∙ sym (latin_bytes text) }
