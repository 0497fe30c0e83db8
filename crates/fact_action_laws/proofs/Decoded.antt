-- What is spelled is read back.
use Rattle.std.proofs.Common.{◌≡◌, ℕ, ◌+◌, ◌*◌, ◌-◌, ◌%◌, ◌/◌, ◌≤◌, ◌<◌, ◌⊎◌, inl, inr, List, [], ◌∷◌, ◌++◌, Some, refl, sym, ap, ◌∙◌, arith}
use Rattle.std.specs.Prelude.{true, map}
use Rattle.std.proofs.lemmas.Bool.{cases_lt}
use Rattle.std.proofs.lemmas.Str.{chars-encodes, is_utf8-from_IsUtf8, utf16_chars_lone, utf16_chars_pair, utf16_chars-nil}
use Rattle.std.proofs.Math.Utf8.{scalar_cases, scalars, encodes}
use Rattle.std.proofs.str.Utf16.{one_unit, two_units, lone_unit_char_low, lone_unit_char_high}
use Rattle.std.specs.Char.{encode_utf8}
use Rattle.std.specs.Char.Escape.{encode_utf16}
use Rattle.std.specs.Char.Utf16.{utf16_chars, surrogate_pair_char}
use Rattle.std.specs.Str.{is_utf8}
use Rattle.fact_types.specs.declared.outside.FixedEncoding.{FixedEncoding}
use Rattle.fact_types.specs.declared.outside.FixedEncoding.TheVariants.{Utf8, Utf16, Latin1}
use Rattle.fact_values.specs.Texts.{AreSpelled, spelled_text, low_first, two_byte_units, all_there, decoded}
use Rattle.fact_types.specs.Options.{◌>>=◌}

pub same_bytes : (t : List ℕ) → spelled_text Utf8 t ≡ encodes t
same_bytes [] = refl
same_bytes (c ∷ t) = ap (λ l. encode_utf8 c ++ l) (same_bytes t)

all_scalar : (t : List ℕ) → AreSpelled Utf8 t → scalars t ≡ true
all_scalar [] h = refl
all_scalar (c ∷ t) h = rw (h.0) (all_scalar t h.1)

utf8_back : (t : List ℕ) → AreSpelled Utf8 t → decoded Utf8 (spelled_text Utf8 t) ≡ Some t
utf8_back t h =
    let s = all_scalar t h in
    let yes : is_utf8 (encodes t) ≡ true = is_utf8-from_IsUtf8 (encodes t) (t, (s, refl)) in
    rw (same_bytes t, yes) (ap Some (chars-encodes t s))

-- units, two spelling each
abbrev pub units_of : List ℕ → List ℕ
units_of [] = []
units_of (c ∷ t) = encode_utf16 c ++ units_of t

pub bytes_units : (t : List ℕ) → spelled_text Utf16 t ≡ low_first (units_of t)
bytes_units [] = refl
bytes_units (c ∷ t) = ap (λ l. low_first (encode_utf16 c) ++ l) (bytes_units t) ∙ go (encode_utf16 c) (units_of t)
  where
    go : (a b : List ℕ) → low_first a ++ low_first b ≡ low_first (a ++ b)
    go [] b = refl
    go (u ∷ a) b = ap (λ l. u % 256 ∷ u / 256 ∷ l) (go a b)

pairs_back : (us : List ℕ) → two_byte_units (low_first us) ≡ Some us
pairs_back [] = refl
pairs_back (u ∷ us) =
    let whole : u % 256 + 256 * (u / 256) ≡ u = omega arith in
    ap (λ o. o >>= (λ us. Some ((u % 256 + 256 * (u / 256)) ∷ us))) (pairs_back us) ∙ ap (λ k. Some (k ∷ us)) whole

chars_back : (t : List ℕ) → AreSpelled Utf16 t → utf16_chars (units_of t) ≡ map Some t
chars_back [] h = utf16_chars-nil
chars_back (c ∷ t) h = go (scalar_cases c h.0) (chars_back t h.1)
  where
    pair : (57344 ≤ c) × (c < 1114112) → 0x1_0000 ≤ c → utf16_chars (units_of t) ≡ map Some t → utf16_chars (encode_utf16 c ++ units_of t) ≡ Some c ∷ map Some t
    pair high big rest =
        let e = two_units c big in
        let u = 0xD800 + (c - 0x1_0000) / 0x400 in
        let v = 0xDC00 + (c - 0x1_0000) % 0x400 in
        let back : surrogate_pair_char u v ≡ c = omega (arith, big) in
        ap (λ l. utf16_chars (l ++ units_of t)) e ∙ utf16_chars_pair u v (units_of t) (omega arith, omega (arith, high.1), omega arith, omega arith) ∙ ap (λ k. Some k ∷ utf16_chars (units_of t)) back ∙ ap (λ l. Some c ∷ l) rest

    alone : c < 0x1_0000 → (c < 0xD800) ⊎ (0xE000 ≤ c) → utf16_chars (units_of t) ≡ map Some t → utf16_chars (encode_utf16 c ++ units_of t) ≡ Some c ∷ map Some t
    alone small (inl low) rest = ap (λ l. utf16_chars (l ++ units_of t)) (one_unit c small) ∙ utf16_chars_lone c (units_of t) (λ p. omega (arith, low, p.0)) ∙ ap (λ o. o ∷ utf16_chars (units_of t)) (lone_unit_char_low c low) ∙ ap (λ l. Some c ∷ l) rest
    alone small (inr high) rest = ap (λ l. utf16_chars (l ++ units_of t)) (one_unit c small) ∙ utf16_chars_lone c (units_of t) (λ p. omega (arith, high, p.1)) ∙ ap (λ o. o ∷ utf16_chars (units_of t)) (lone_unit_char_high c high) ∙ ap (λ l. Some c ∷ l) rest

    by_size : (57344 ≤ c) × (c < 1114112) → (c < 0x1_0000) ⊎ (0x1_0000 ≤ c) → utf16_chars (units_of t) ≡ map Some t → utf16_chars (encode_utf16 c ++ units_of t) ≡ Some c ∷ map Some t
    by_size high (inl small) rest = alone small (inr high.0) rest
    by_size high (inr big) rest = pair high big rest

    go : (c < 55296) ⊎ ((57344 ≤ c) × (c < 1114112)) → utf16_chars (units_of t) ≡ map Some t → utf16_chars (encode_utf16 c ++ units_of t) ≡ Some c ∷ map Some t
    go (inl low) rest = alone (omega (arith, low)) (inl low) rest
    go (inr high) rest = by_size high (cases_lt c 0x1_0000) rest

some_back : (t : List ℕ) → all_there (map Some t) ≡ Some t
some_back [] = refl
some_back (c ∷ t) = ap (λ o. o >>= (λ t. Some (c ∷ t))) (some_back t)

pub latin_bytes : (t : List ℕ) → spelled_text Latin1 t ≡ t
latin_bytes [] = refl
latin_bytes (c ∷ t) = ap (λ l. c ∷ l) (latin_bytes t)

pub decodes : (e : FixedEncoding) (t : List ℕ) → AreSpelled e t → decoded e (spelled_text e t) ≡ Some t
decodes Utf8 t h = utf8_back t h
decodes Utf16 t h = rw (bytes_units t, pairs_back (units_of t)) (ap all_there (chars_back t h) ∙ some_back t)
decodes Latin1 t h = ap Some (latin_bytes t)

-- so spelling spell at most one text
pub one_text : (e : FixedEncoding) (t u : List ℕ) → AreSpelled e t → AreSpelled e u → spelled_text e t ≡ spelled_text e u → t ≡ u
one_text e t u h g q = some_same (sym (decodes e t h) ∙ ap (decoded e) q ∙ decodes e u g)
  where
    some_same : Some t ≡ Some u → t ≡ u
    some_same e = cc
