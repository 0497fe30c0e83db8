-- Calls of transcoders that read whole texts, one behind the other; and what is behind a text that begins another.
use Rattle.std.proofs.Common.{◌≡◌, ℕ, ◌+◌, ◌*◌, ◌-◌, ◌%◌, ◌/◌, ◌≤◌, ◌<◌, ◌⊎◌, inl, inr, Bool, true, false, cond, List, [], ◌∷◌, ◌++◌, length, drop, get_or, refl, sym, ap, ◌∙◌, subst, arith, append_assoc, length-append}
use Rattle.std.specs.Prelude.{nat_lt}
use Rattle.std.proofs.lemmas.Bool.{cases_lt}
use Rattle.std.proofs.lemmas.Str.{encode_same, len_utf8_bounds}
use Rattle.std.proofs.Math.Utf8.{scalar_cases, low_scalar}
use Rattle.std.proofs.str.Utf16.{one_unit, two_units}
use Rattle.fact_types.specs.declared.outside.FixedEncoding.{FixedEncoding}
use Rattle.fact_types.specs.declared.outside.FixedEncoding.TheVariants.{Utf8, Utf16, Latin1}
use Rattle.fact_values.specs.Texts.{AreSpelled, IsSpelled, char_spelling, low_first, spelled_text, unit_bytes, units, units_of_text}
use Rattle.fact_actions.specs.Running.{ImportPlaces, Call}
use Rattle.fact_action_laws.specs.ReadTexts.{ReadTexts}
use Rattle.fact_action_laws.proofs.Bounds.{growth, length_spelling}
use Rattle.fact_action_laws.proofs.Spelled.{SpellsText}
use Rattle.fact_action_laws.proofs.TextTransfers.{fewer_units, left}

-- ---- calls

pub reads_append : (p : ImportPlaces) (cs ds : List Call) → ReadTexts p cs → ReadTexts p ds → ReadTexts p (cs ++ ds)
reads_append p [] ds h k = k
reads_append p (c ∷ cs) ds h k = (h.0, reads_append p cs ds h.1 k)

-- ---- texts that begin alike

-- Bytes spell some text.
abbrev pub SpellsSome : FixedEncoding → List ℕ → Type 0
SpellsSome e bytes = (text : List ℕ) × SpellsText e bytes text

unit_or_two : (b : Bool) → 1 ≤ cond b 1 2
unit_or_two true = omega arith
unit_or_two false = omega arith

some_units : (e : FixedEncoding) (c : ℕ) → 1 ≤ units e c
some_units Utf8 c = (len_utf8_bounds c).0
some_units Utf16 c = unit_or_two (nat_lt c 0x1_0000)
some_units Latin1 c = omega arith

-- a scalar value is spelled by some bytes
some_bytes : (e : FixedEncoding) (c : ℕ) → 1 ≤ length (char_spelling e c)
some_bytes e c = go e (length_spelling e c) (some_units e c)
  where
    go : (e : FixedEncoding) → length (char_spelling e c) ≡ unit_bytes e * units e c → 1 ≤ units e c → 1 ≤ length (char_spelling e c)
    go Utf8 a b = omega (arith, a, b)
    go Utf16 a b = omega (arith, a, b)
    go Latin1 a b = omega (arith, a, b)

not_empty : (e : FixedEncoding) (c : ℕ) (x y : List ℕ) → (char_spelling e c ++ x) ++ y ≡ [] → ⊥
not_empty e c x y h =
    let n : length ((char_spelling e c ++ x) ++ y) ≡ 0 = ap length h in
    omega (arith, n, some_bytes e c, length-append (char_spelling e c ++ x) y, length-append (char_spelling e c) x)

halves : (a b : ℕ) → a % 256 ≡ b % 256 → a / 256 ≡ b / 256 → a ≡ b
halves a b f s = omega (arith, f, s)

-- units of two bytes, the first of which tells whether another belongs to it
small_same : (c d : ℕ) (x y : List ℕ) → c < 0x1_0000 → d < 0x1_0000 → char_spelling Utf16 c ++ x ≡ char_spelling Utf16 d ++ y → (c ≡ d) × (x ≡ y)
small_same c d x y cs ds e =
    let q : c % 256 ∷ c / 256 ∷ x ≡ d % 256 ∷ d / 256 ∷ y = ap (λ l. low_first l ++ x) (sym (one_unit c cs)) ∙ e ∙ ap (λ l. low_first l ++ y) (one_unit d ds) in
    (halves c d (ap (λ l. get_or l 0 0) q) (ap (λ l. get_or l 1 0) q), ap (λ l. drop 2 l) q)

-- one unit is no surrogate
apart : (c d : ℕ) (x y : List ℕ) → IsSpelled Utf16 c → IsSpelled Utf16 d → c < 0x1_0000 → 0x1_0000 ≤ d → char_spelling Utf16 c ++ x ≡ char_spelling Utf16 d ++ y → ⊥
apart c d x y hc hd small big e =
    let u : ℕ = 0xD800 + (d - 0x1_0000) / 0x400 in
    let v : ℕ = 0xDC00 + (d - 0x1_0000) % 0x400 in
    let q : c % 256 ∷ c / 256 ∷ x ≡ u % 256 ∷ u / 256 ∷ v % 256 ∷ v / 256 ∷ y = ap (λ l. low_first l ++ x) (sym (one_unit c small)) ∙ e ∙ ap (λ l. low_first l ++ y) (two_units d big) in
    let same : c ≡ u = halves c u (ap (λ l. get_or l 0 0) q) (ap (λ l. get_or l 1 0) q) in
    let top : d < 1114112 = below (scalar_cases d hd) in
    lone (scalar_cases c hc) same top
  where
    below : (d < 55296) ⊎ ((57344 ≤ d) × (d < 1114112)) → d < 1114112
    below (inl low) = omega (arith, low)
    below (inr high) = high.1

    lone : (c < 55296) ⊎ ((57344 ≤ c) × (c < 1114112)) → c ≡ 0xD800 + (d - 0x1_0000) / 0x400 → d < 1114112 → ⊥
    lone (inl low) same top = omega (arith, low, same)
    lone (inr high) same top = let h = high.0 in omega (arith, h, same, top, big)

big_same : (c d : ℕ) (x y : List ℕ) → 0x1_0000 ≤ c → 0x1_0000 ≤ d → char_spelling Utf16 c ++ x ≡ char_spelling Utf16 d ++ y → (c ≡ d) × (x ≡ y)
big_same c d x y cb db e =
    let u : ℕ = 0xD800 + (c - 0x1_0000) / 0x400 in
    let v : ℕ = 0xDC00 + (c - 0x1_0000) % 0x400 in
    let s : ℕ = 0xD800 + (d - 0x1_0000) / 0x400 in
    let t : ℕ = 0xDC00 + (d - 0x1_0000) % 0x400 in
    let q : u % 256 ∷ u / 256 ∷ v % 256 ∷ v / 256 ∷ x ≡ s % 256 ∷ s / 256 ∷ t % 256 ∷ t / 256 ∷ y = ap (λ l. low_first l ++ x) (sym (two_units c cb)) ∙ e ∙ ap (λ l. low_first l ++ y) (two_units d db) in
    let high : u ≡ s = halves u s (ap (λ l. get_or l 0 0) q) (ap (λ l. get_or l 1 0) q) in
    let low : v ≡ t = halves v t (ap (λ l. get_or l 2 0) q) (ap (λ l. get_or l 3 0) q) in
    let whole : c - 0x1_0000 ≡ d - 0x1_0000 = parts (c - 0x1_0000) (d - 0x1_0000) (omega (arith, high)) (omega (arith, low)) in
    (omega (arith, whole, cb, db), ap (λ l. drop 4 l) q)
  where
    parts : (a b : ℕ) → a / 0x400 ≡ b / 0x400 → a % 0x400 ≡ b % 0x400 → a ≡ b
    parts a b f s = omega (arith, f, s)

same16 : (c d : ℕ) (x y : List ℕ) → IsSpelled Utf16 c → IsSpelled Utf16 d → (c < 0x1_0000) ⊎ (0x1_0000 ≤ c) → (d < 0x1_0000) ⊎ (0x1_0000 ≤ d) → char_spelling Utf16 c ++ x ≡ char_spelling Utf16 d ++ y → (c ≡ d) × (x ≡ y)
same16 c d x y hc hd (inl cs) (inl ds) e = small_same c d x y cs ds e
same16 c d x y hc hd (inl cs) (inr db) e = absurd (apart c d x y hc hd cs db e)
same16 c d x y hc hd (inr cb) (inl ds) e = absurd (apart d c y x hd hc ds cb (sym e))
same16 c d x y hc hd (inr cb) (inr db) e = big_same c d x y cb db e

-- Texts that begin alike begin with the same scalar value.
same_first : (e : FixedEncoding) (c d : ℕ) (x y : List ℕ) → IsSpelled e c → IsSpelled e d → char_spelling e c ++ x ≡ char_spelling e d ++ y → (c ≡ d) × (x ≡ y)
same_first Utf8 c d x y hc hd e = encode_same c d x y e
same_first Utf16 c d x y hc hd e = same16 c d x y hc hd (cases_lt c 0x1_0000) (cases_lt d 0x1_0000) e
same_first Latin1 c d x y hc hd e = (ap (λ l. get_or l 0 0) e, ap (λ l. drop 1 l) e)

-- So what is behind a text that begins another is spelled too.
pub behind_text : (e : FixedEncoding) (front text rest : List ℕ) → AreSpelled e front → AreSpelled e text → spelled_text e front ++ rest ≡ spelled_text e text → SpellsSome e rest
behind_text e [] text rest f t h = (text, record { can = t; is = h })
behind_text e (c ∷ front) [] rest f t h = absurd (not_empty e c (spelled_text e front) rest h)
behind_text e (c ∷ front) (d ∷ text) rest f t h =
    let same = same_first e c d (spelled_text e front ++ rest) (spelled_text e text) f.0 t.0 (sym (append_assoc (char_spelling e c) (spelled_text e front) rest) ∙ h) in
    behind_text e front text rest f.1 t.1 same.1

-- Where a source spells a text, what is left behind the units of one that was read spells one.
pub left_spelled : (e : FixedEncoding) (source front rest : List ℕ) (read : ℕ) → SpellsSome e source → AreSpelled e front → source ≡ spelled_text e front ++ rest → read ≡ units_of_text e front → SpellsSome e (drop (unit_bytes e * read) source)
left_spelled e source front rest read s f h n = subst (SpellsSome e) (sym (left e source front rest read n h)) (behind_text e front s.0 rest f s.1.can (sym h ∙ s.1.is))

-- ---- units

can16 : (e : FixedEncoding) (text : List ℕ) → AreSpelled e text → AreSpelled Utf16 text
can16 e [] h = tt
can16 e (c ∷ text) h = (go e h.0, can16 e text h.1)
  where
    go : (e : FixedEncoding) → IsSpelled e c → IsSpelled Utf16 c
    go Utf8 h = h
    go Utf16 h = h
    go Latin1 h = low_scalar c (omega (arith, h))

-- a text has no more units of UTF-16 than of another encoding
pub fewer16 : (e : FixedEncoding) (text : List ℕ) → AreSpelled e text → units_of_text Utf16 text ≤ units_of_text e text
fewer16 e text h = fewer_units e Utf16 text (grows e) h (can16 e text h)
  where
    grows : (e : FixedEncoding) → growth e Utf16 ≡ 2
    grows Utf8 = refl
    grows Utf16 = refl
    grows Latin1 = refl
