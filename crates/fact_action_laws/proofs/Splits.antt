-- Texts taken apart: whether bytes spell one, and how far one goes that fits in a room, or is Latin-1.
use Rattle.std.proofs.Common.{◌≡◌, ℕ, ◌+◌, ◌-◌, ◌/◌, ◌≤◌, ◌<◌, ◌⊎◌, inl, inr, ⊎_elim, Bool, true, false, List, [], ◌∷◌, ◌++◌, length, drop, get_or, Option, Some, None, refl, sym, ap, ◌∙◌, subst, arith, length-append}
use Rattle.std.proofs.lemmas.Bool.{cases_lt, cases_eq, false≢true}
use Rattle.std.proofs.lemmas.Str.{encode_same, length-encode, len_utf8_bounds}
use Rattle.std.proofs.Math.Utf8.{scalar}
use Rattle.std.proofs.str.Utf16.{one_unit, two_units}
use Rattle.fact_types.specs.declared.outside.FixedEncoding.{FixedEncoding}
use Rattle.fact_types.specs.declared.outside.FixedEncoding.TheVariants.{Utf8, Utf16, Latin1}
use Rattle.fact_types.proofs.ShapeLaws.{none_some, same_some}
use Rattle.fact_values.specs.Texts.{AreSpelled, IsSpelled, char_spelling, decoded, low_first, spelled_text}
use Rattle.fact_action_laws.specs.Answerable.{IsMalformed}
use Rattle.fact_action_laws.proofs.Decoded.{decodes}
use Rattle.fact_action_laws.proofs.IntoCompact.{widened_spelling}
use Rattle.fact_action_laws.proofs.Spelled.{SpellsText}

-- ---- whether bytes spell a text

true_or_not : (b : Bool) → (b ≡ true) ⊎ (b ≡ true → ⊥)
true_or_not true = inl refl
true_or_not false = inr (λ e. false≢true e)

can_or_not : (e : FixedEncoding) (c : ℕ) → IsSpelled e c ⊎ (IsSpelled e c → ⊥)
can_or_not Utf8 c = true_or_not (scalar c)
can_or_not Utf16 c = true_or_not (scalar c)
can_or_not Latin1 c = ⊎_elim (λ l. inl l) (λ g. inr (λ l. omega (arith, l, g))) (cases_lt c 256)

all_or_not : (e : FixedEncoding) (text : List ℕ) → AreSpelled e text ⊎ (AreSpelled e text → ⊥)
all_or_not e [] = inl tt
all_or_not e (c ∷ text) = go (can_or_not e c) (all_or_not e text)
  where
    go : IsSpelled e c ⊎ (IsSpelled e c → ⊥) → AreSpelled e text ⊎ (AreSpelled e text → ⊥) → AreSpelled e (c ∷ text) ⊎ (AreSpelled e (c ∷ text) → ⊥)
    go (inl h) (inl g) = inl (h, g)
    go (inr never) s = inr (λ h. never h.0)
    go (inl h) (inr never) = inr (λ g. never g.1)

same_or_not : (xs ys : List ℕ) → (xs ≡ ys) ⊎ (xs ≡ ys → ⊥)
same_or_not [] [] = inl refl
same_or_not [] (y ∷ ys) = inr (λ e. let n = ap length e in omega (arith, n))
same_or_not (x ∷ xs) [] = inr (λ e. let n = ap length e in omega (arith, n))
same_or_not (x ∷ xs) (y ∷ ys) = go (cases_eq x y) (same_or_not xs ys)
  where
    go : (x ≡ y) ⊎ (x ≡ y → ⊥) → (xs ≡ ys) ⊎ (xs ≡ ys → ⊥) → (x ∷ xs ≡ y ∷ ys) ⊎ (x ∷ xs ≡ y ∷ ys → ⊥)
    go (inl e) (inl f) = inl (ap (λ k. k ∷ xs) e ∙ ap (λ l. y ∷ l) f)
    go (inr never) s = inr (λ e. never (ap (λ l. get_or l 0 0) e))
    go (inl e) (inr never) = inr (λ q. never (ap (λ l. drop 1 l) q))

pub spells_or_not : (e : FixedEncoding) (bytes : List ℕ) → ((text : List ℕ) × SpellsText e bytes text) ⊎ IsMalformed e bytes
spells_or_not e bytes = by_text (decoded e bytes) refl
  where
    -- at most one text can be spelled so
    one : (t u : List ℕ) → decoded e bytes ≡ Some t → AreSpelled e u → bytes ≡ spelled_text e u → t ≡ u
    one t u some can is = same_some (decoded e bytes) t u some (ap (decoded e) is ∙ decodes e u can)

    go : (t : List ℕ) → decoded e bytes ≡ Some t → (bytes ≡ spelled_text e t) ⊎ (bytes ≡ spelled_text e t → ⊥) → AreSpelled e t ⊎ (AreSpelled e t → ⊥) → ((text : List ℕ) × SpellsText e bytes text) ⊎ IsMalformed e bytes
    go t some (inl is) (inl can) = inl (t, record { can = can; is = is })
    go t some (inr never) s = inr (λ u can is. never (is ∙ ap (spelled_text e) (sym (one t u some can is))))
    go t some (inl is) (inr never) = inr (λ u can so. never (subst (AreSpelled e) (sym (one t u some can so)) can))

    by_text : (x : Option (List ℕ)) → decoded e bytes ≡ x → ((text : List ℕ) × SpellsText e bytes text) ⊎ IsMalformed e bytes
    by_text None none = inr (λ u can is. none_some (decoded e bytes) u none (ap (decoded e) is ∙ decodes e u can))
    by_text (Some t) some = go t some (same_or_not bytes (spelled_text e t)) (all_or_not e t)

-- ---- parts

pub can_parts : (e : FixedEncoding) (a b : List ℕ) → AreSpelled e (a ++ b) → AreSpelled e a × AreSpelled e b
can_parts e [] b h = (tt, h)
can_parts e (c ∷ a) b h = let r = can_parts e a b h.1 in ((h.0, r.0), r.1)

-- there is no room for the scalar value that comes next
pub record IsNextTooMuch (t : FixedEncoding) (room : ℕ) (front rest : List ℕ) : Type 0 where
  pub next : ℕ
  pub more : List ℕ
  pub rest_is : rest ≡ next ∷ more
  pub full : room < length (spelled_text t front) + length (char_spelling t next)

-- The longest front of a text that fits in a room.
pub record GoesAsFar (t : FixedEncoding) (room : ℕ) (text : List ℕ) : Type 0 where
  pub front : List ℕ
  pub rest : List ℕ
  pub is : text ≡ front ++ rest
  pub fits : length (spelled_text t front) ≤ room
  pub stops : (rest ≡ []) ⊎ IsNextTooMuch t room front rest

pub as_far : (t : FixedEncoding) (text : List ℕ) (room : ℕ) → GoesAsFar t room text
as_far t [] room = record { front = []; rest = []; is = refl; fits = omega arith; stops = inl refl }
as_far t (c ∷ text) room = go (cases_lt room (length (char_spelling t c))) (as_far t text (room - length (char_spelling t c)))
  where
    go : (room < length (char_spelling t c)) ⊎ (length (char_spelling t c) ≤ room) → GoesAsFar t (room - length (char_spelling t c)) text → GoesAsFar t room (c ∷ text)
    go (inl less) r = record { front = []; rest = c ∷ text; is = refl; fits = omega arith; stops = inr (record { next = c; more = text; rest_is = refl; full = omega (arith, less) }) }
    go (inr le) r =
        let both = length-append (char_spelling t c) (spelled_text t r.front) in
        record {
          front = c ∷ r.front;
          rest = r.rest;
          is = ap (λ l. c ∷ l) r.is;
          fits = (let f = r.fits in omega (arith, le, both, f));
          stops = ⊎_elim (λ e. inl e) (λ x. inr (record { next = x.next; more = x.more; rest_is = x.rest_is; full = (let f = x.full in omega (arith, le, both, f)) })) r.stops;
        }

-- The longest front of scalar values below 256.
pub record GoesLow (text : List ℕ) : Type 0 where
  pub front : List ℕ
  pub rest : List ℕ
  pub is : text ≡ front ++ rest
  pub low : AreSpelled Latin1 front
  pub stops : (c : ℕ) (more : List ℕ) → rest ≡ c ∷ more → 256 ≤ c

pub low_front : (text : List ℕ) → GoesLow text
low_front [] = record { front = []; rest = []; is = refl; low = tt; stops = λ c more e. absurd (let n = ap length e in omega (arith, n)) }
low_front (c ∷ text) = go (cases_lt c 256) (low_front text)
  where
    go : (c < 256) ⊎ (256 ≤ c) → GoesLow text → GoesLow (c ∷ text)
    go (inl less) r = record { front = c ∷ r.front; rest = r.rest; is = ap (λ l. c ∷ l) r.is; low = (less, r.low); stops = r.stops }
    go (inr high) r = record { front = []; rest = c ∷ text; is = refl; low = tt; stops = λ d more e. subst (λ k. 256 ≤ k) (ap (λ l. get_or l 0 0) e) high }

-- ---- what begins with a scalar value below 256

not_empty : (f : FixedEncoding) (c : ℕ) (y : List ℕ) → c < 256 → [] ≡ char_spelling f c ++ y → ⊥
not_empty Utf8 c y low e = let n = ap length e ∙ length-append (char_spelling Utf8 c) y in let m = length-encode c in let b = (len_utf8_bounds c).0 in omega (arith, n, m, b)
not_empty Utf16 c y low e = let n = ap length (e ∙ ap (λ l. l ++ y) (widened_spelling c low)) in omega (arith, n)
not_empty Latin1 c y low e = let n = ap length e in omega (arith, n)

-- the second byte tells
not_low16 : (c d : ℕ) (x y : List ℕ) → c < 256 → 256 ≤ d → (d < 0x1_0000) ⊎ (0x1_0000 ≤ d) → char_spelling Utf16 d ++ x ≡ char_spelling Utf16 c ++ y → ⊥
not_low16 c d x y low high (inl small) e =
    let second : d / 256 ≡ 0 = ap (λ l. get_or l 1 0) (ap (λ l. low_first l ++ x) (sym (one_unit d small)) ∙ e ∙ ap (λ l. l ++ y) (widened_spelling c low)) in
    omega (arith, second, high)
not_low16 c d x y low high (inr big) e =
    let second : (0xD800 + (d - 0x1_0000) / 0x400) / 256 ≡ 0 = ap (λ l. get_or l 1 0) (ap (λ l. low_first l ++ x) (sym (two_units d big)) ∙ e ∙ ap (λ l. l ++ y) (widened_spelling c low)) in
    omega (arith, second)

not_low : (f : FixedEncoding) (c d : ℕ) (x y : List ℕ) → c < 256 → 256 ≤ d → char_spelling f d ++ x ≡ char_spelling f c ++ y → ⊥
not_low Utf8 c d x y low high e = let same = (encode_same d c x y e).0 in omega (arith, low, high, same)
not_low Utf16 c d x y low high e = not_low16 c d x y low high (cases_lt d 0x1_0000) e
not_low Latin1 c d x y low high e = let same : d ≡ c = ap (λ l. get_or l 0 0) e in omega (arith, low, high, same)

-- what is left does not begin with one
pub no_low_left : (f : FixedEncoding) (rest : List ℕ) → ((c : ℕ) (more : List ℕ) → rest ≡ c ∷ more → 256 ≤ c) → (c : ℕ) (more : List ℕ) → c < 256 → spelled_text f rest ≡ char_spelling f c ++ more → ⊥
no_low_left f [] stops c more low e = not_empty f c more low e
no_low_left f (d ∷ rest) stops c more low e = not_low f c d (spelled_text f rest) more low (stops d rest refl) e
