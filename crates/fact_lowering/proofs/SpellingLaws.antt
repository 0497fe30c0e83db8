-- How long a spelled text is, and in which form a text is stored.
use Rattle.std.proofs.Common.{◌≡◌, ℕ, ◌+◌, ◌-◌, ◌*◌, ◌/◌, ◌%◌, ◌≤◌, Bool, true, false, List, [], ◌∷◌, length, refl, sym, ap, arith, length-append}
use Rattle.std.specs.Prelude.{nat_lt, cond, ◌&&◌, if◌then◌else◌}
use Rattle.std.specs.Char.{IsScalar}
use Rattle.std.specs.List.{AllByRecursion}
use Rattle.std.proofs.lemmas.Bool.{true≢false, ltb-true}
use Rattle.std.proofs.lemmas.Str.{length-encode}
use Rattle.fact_types.specs.declared.outside.FixedEncoding.{FixedEncoding}
use Rattle.fact_types.specs.declared.outside.FixedEncoding.TheVariants.{Utf8, Utf16, Latin1}
use Rattle.fact_types.specs.declared.outside.StringEncoding.{StringEncoding}
use Rattle.fact_types.specs.declared.outside.StringEncoding.TheVariants as of_side
use Rattle.fact_values.specs.Texts.{AreSpelled, char_spelling, low_first, spelled_text, unit_bytes, units, units_of_text}
use Rattle.fact_actions.specs.Transcoders.{all_latin1}
use Rattle.fact_lowering.specs.TextForms.{stored_in}

char_units : (e : FixedEncoding) (c : ℕ) → length (char_spelling e c) ≡ units e c * unit_bytes e
char_units Utf8 c = omega (arith, length-encode c)
char_units Latin1 c = refl
char_units Utf16 c = go (nat_lt c 0x1_0000) (0xD800 + (c - 0x1_0000) / 0x400) (0xDC00 + (c - 0x1_0000) % 0x400)
  where
    go : (b : Bool) (u v : ℕ) → length (low_first (cond b (c ∷ []) (u ∷ v ∷ []))) ≡ (if b then 1 else 2) * 2
    go true u v = refl
    go false u v = refl

pub text_units : (e : FixedEncoding) (t : List ℕ) → length (spelled_text e t) ≡ units_of_text e t * unit_bytes e
text_units Utf8 [] = refl
text_units Utf16 [] = refl
text_units Latin1 [] = refl
text_units Utf8 (c ∷ t) = omega (arith, length-append (char_spelling Utf8 c) (spelled_text Utf8 t), char_units Utf8 c, text_units Utf8 t)
text_units Utf16 (c ∷ t) = omega (arith, length-append (char_spelling Utf16 c) (spelled_text Utf16 t), char_units Utf16 c, text_units Utf16 t)
text_units Latin1 (c ∷ t) = omega (arith, length-append (char_spelling Latin1 c) (spelled_text Latin1 t), char_units Latin1 c, text_units Latin1 t)

pub units_few : (e : FixedEncoding) (c : ℕ) → units e c ≤ 4
units_few Utf8 c = go (nat_lt c 0x80) (nat_lt c 0x800) (nat_lt c 0x1_0000)
  where
    go : (a b d : Bool) → cond a 1 (cond b 2 (cond d 3 4)) ≤ 4
    go true b d = omega arith
    go false true d = omega arith
    go false false true = omega arith
    go false false false = omega arith
units_few Utf16 c = go (nat_lt c 0x1_0000)
  where
    go : (b : Bool) → (if b then 1 else 2) ≤ 4
    go true = omega arith
    go false = omega arith
units_few Latin1 c = omega arith

char_few : (e : FixedEncoding) (c : ℕ) → length (char_spelling e c) ≤ 4
char_few Utf8 c = omega (arith, length-encode c, units_few Utf8 c)
char_few Latin1 c = omega arith
char_few Utf16 c = go (nat_lt c 0x1_0000) (0xD800 + (c - 0x1_0000) / 0x400) (0xDC00 + (c - 0x1_0000) % 0x400)
  where
    go : (b : Bool) (u v : ℕ) → length (low_first (cond b (c ∷ []) (u ∷ v ∷ []))) ≤ 4
    go true u v = omega arith
    go false u v = omega arith

pub text_few : (e : FixedEncoding) (t : List ℕ) → length (spelled_text e t) ≤ 4 * length t
text_few e [] = omega arith
text_few e (c ∷ t) = omega (arith, length-append (char_spelling e c) (spelled_text e t), char_few e c, text_few e t)

-- ---- in which form

latin1_spells : (t : List ℕ) → all_latin1 t ≡ true → AreSpelled Latin1 t
latin1_spells [] e = tt
latin1_spells (c ∷ t) e = go (nat_lt c 256) refl e (latin1_spells t)
  where
    go : (b : Bool) → nat_lt c 256 ≡ b → (b && all_latin1 t) ≡ true → (all_latin1 t ≡ true → AreSpelled Latin1 t) → AreSpelled Latin1 (c ∷ t)
    go true is rest more = (ltb-true c 256 is, more rest)
    go false is rest more = absurd (true≢false (sym rest))

utf8_spells : (t : List ℕ) → AllByRecursion IsScalar t → AreSpelled Utf8 t
utf8_spells [] h = tt
utf8_spells (c ∷ t) h = (h.0, utf8_spells t h.1)

utf16_spells : (t : List ℕ) → AllByRecursion IsScalar t → AreSpelled Utf16 t
utf16_spells [] h = tt
utf16_spells (c ∷ t) h = (h.0, utf16_spells t h.1)

abbrev same_encoding : FixedEncoding → FixedEncoding → Bool
same_encoding Utf8 Utf8 = true
same_encoding Utf16 Utf16 = true
same_encoding Latin1 Latin1 = true
same_encoding a b = false

pub stored_narrow : (e : StringEncoding) (t : List ℕ) → stored_in e t ≡ Latin1 → AreSpelled Latin1 t
stored_narrow of_side.Utf8 t is = absurd (true≢false (sym (ap (same_encoding Latin1) is)))
stored_narrow of_side.Utf16 t is = absurd (true≢false (sym (ap (same_encoding Latin1) is)))
stored_narrow of_side.CompactUtf16 t is = go (all_latin1 t) refl is
  where
    go : (b : Bool) → all_latin1 t ≡ b → (if b then Latin1 else Utf16) ≡ Latin1 → AreSpelled Latin1 t
    go true is e = latin1_spells t is
    go false is e = absurd (true≢false (sym (ap (same_encoding Latin1) e)))

pub stored_spells : (e : StringEncoding) (t : List ℕ) → AllByRecursion IsScalar t → AreSpelled (stored_in e t) t
stored_spells of_side.Utf8 t h = utf8_spells t h
stored_spells of_side.Utf16 t h = utf16_spells t h
stored_spells of_side.CompactUtf16 t h = go (all_latin1 t) refl
  where
    go : (b : Bool) → all_latin1 t ≡ b → AreSpelled (if b then Latin1 else Utf16) t
    go true is = latin1_spells t is
    go false is = utf16_spells t h
