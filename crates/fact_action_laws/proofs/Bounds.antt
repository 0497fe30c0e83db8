-- How long a text is in one encoding and in another.
use Rattle.std.proofs.Common.{◌≡◌, ℕ, ◌+◌, ◌*◌, ◌-◌, ◌%◌, ◌/◌, ◌≤◌, ◌<◌, List, [], ◌∷◌, refl, ◌∙◌, arith, length, length-append}
use Rattle.std.specs.Prelude.{Bool, true, false, cond, nat_lt}
use Rattle.std.proofs.lemmas.Bool.{ltb-true, ltb-false, lt-ltb}
use Rattle.std.proofs.lemmas.Str.{length-encode, len_utf8_bounds}
use Rattle.std.specs.Char.{len_utf8}
use Rattle.fact_types.specs.declared.outside.FixedEncoding.{FixedEncoding}
use Rattle.fact_types.specs.declared.outside.FixedEncoding.TheVariants.{Utf8, Utf16, Latin1}
use Rattle.fact_values.specs.Texts.{unit_bytes, IsSpelled, AreSpelled, low_first, char_spelling, units, spelled_text, units_of_text}

-- the most bytes of one encoding for a unit of another
abbrev pub growth : (from to : FixedEncoding) → ℕ
growth Utf16 Utf8 = 3
growth Latin1 Utf8 = 2
growth Utf8 Utf16 = 2
growth Utf16 Utf16 = 2
growth Latin1 Utf16 = 2
growth _ _ = 1

length_spelling16 : (c : ℕ) (b : Bool) → length (low_first (cond b (c ∷ []) ((0xD800 + (c - 0x1_0000) / 0x400) ∷ (0xDC00 + (c - 0x1_0000) % 0x400) ∷ []))) ≡ 2 * cond b 1 2
length_spelling16 c true = refl
length_spelling16 c false = refl

pub length_spelling : (e : FixedEncoding) (c : ℕ) → length (char_spelling e c) ≡ unit_bytes e * units e c
length_spelling Utf8 c = length-encode c ∙ omega arith
length_spelling Utf16 c = length_spelling16 c (nat_lt c 0x1_0000)
length_spelling Latin1 c = refl

pub length_text : (e : FixedEncoding) (t : List ℕ) → length (spelled_text e t) ≡ unit_bytes e * units_of_text e t
length_text e [] = go e
  where
    go : (e : FixedEncoding) → 0 ≡ unit_bytes e * 0
    go Utf8 = refl
    go Utf16 = refl
    go Latin1 = refl
length_text e (c ∷ t) = length-append (char_spelling e c) (spelled_text e t) ∙ go e (length_spelling e c) (length_text e t)
  where
    go : (e : FixedEncoding) → length (char_spelling e c) ≡ unit_bytes e * units e c → length (spelled_text e t) ≡ unit_bytes e * units_of_text e t → length (char_spelling e c) + length (spelled_text e t) ≡ unit_bytes e * (units e c + units_of_text e t)
    go Utf8 h1 h2 = omega (arith, h1, h2)
    go Utf16 h1 h2 = omega (arith, h1, h2)
    go Latin1 h1 h2 = omega (arith, h1, h2)

-- sizes of one scalar value, by its three tests
len8_by : (c : ℕ) (x y z : Bool) → nat_lt c 0x80 ≡ x → nat_lt c 0x800 ≡ y → nat_lt c 0x1_0000 ≡ z → (units Utf16 c ≤ len_utf8 c) × (len_utf8 c ≤ 3 * units Utf16 c)
len8_by c true y true e f g = rw (e, g) (omega arith, omega arith)
len8_by c true y false e f g = absurd (let a = ltb-true c 0x80 e in let b = ltb-false c 0x1_0000 g in omega (arith, a, b))
len8_by c false true true e f g = rw (e, f, g) (omega arith, omega arith)
len8_by c false true false e f g = absurd (let a = ltb-true c 0x800 f in let b = ltb-false c 0x1_0000 g in omega (arith, a, b))
len8_by c false false true e f g = rw (e, f, g) (omega arith, omega arith)
len8_by c false false false e f g = rw (e, f, g) (omega arith, omega arith)

pub len8_len16 : (c : ℕ) → (units Utf16 c ≤ len_utf8 c) × (len_utf8 c ≤ 3 * units Utf16 c)
len8_len16 c = len8_by c _ _ _ refl refl refl

len8_low_by : (c : ℕ) (x : Bool) → c < 256 → nat_lt c 0x80 ≡ x → len_utf8 c ≤ 2
len8_low_by c true h e = rw e (omega arith)
len8_low_by c false h e = let l : nat_lt c 0x800 ≡ true = lt-ltb c 0x800 (omega (arith, h)) in rw (e, l) (omega arith)

pub len8_low : (c : ℕ) → c < 256 → len_utf8 c ≤ 2
len8_low c h = len8_low_by c _ h refl

units16_low : (c : ℕ) → c < 256 → units Utf16 c ≡ 1
units16_low c h = rw (lt-ltb c 0x1_0000 (omega (arith, h)))

bound : (from to : FixedEncoding) (c : ℕ) → IsSpelled from c → IsSpelled to c → unit_bytes to * units to c ≤ growth from to * units from c
bound Utf8 Utf8 c h g = omega arith
bound Utf8 Utf16 c h g = omega (arith, (len8_len16 c).0)
bound Utf8 Latin1 c h g = omega (arith, (len_utf8_bounds c).0)
bound Utf16 Utf8 c h g = omega (arith, (len8_len16 c).1)
bound Utf16 Utf16 c h g = omega arith
bound Utf16 Latin1 c h g = omega (arith, units16_low c g)
bound Latin1 Utf8 c h g = omega (arith, len8_low c h)
bound Latin1 Utf16 c h g = omega (arith, units16_low c h)
bound Latin1 Latin1 c h g = omega arith

pub all_bound : (from to : FixedEncoding) (t : List ℕ) → AreSpelled from t → AreSpelled to t → unit_bytes to * units_of_text to t ≤ growth from to * units_of_text from t
all_bound from to [] h g = go from to
  where
    go : (from to : FixedEncoding) → unit_bytes to * 0 ≤ growth from to * 0
    go from to = omega arith
all_bound from to (c ∷ t) h g = go (unit_bytes to) (growth from to) (bound from to c h.0 g.0) (all_bound from to t h.1 g.1)
  where
    go : (u f : ℕ) → u * units to c ≤ f * units from c → u * units_of_text to t ≤ f * units_of_text from t → u * (units to c + units_of_text to t) ≤ f * (units from c + units_of_text from t)
    go u f a b = omega (arith, a, b)
