-- Passes of transcoders: of one source a kind makes one answer at most.
use Rattle.std.proofs.Common.{◌≡◌, ℕ, ◌+◌, ◌*◌, ◌-◌, ◌%◌, ◌/◌, ◌≤◌, ◌<◌, ◌⊎◌, inl, inr, ⊎_elim, Bool, true, false, List, [], ◌∷◌, ◌++◌, length, drop, get_or, refl, sym, ap, ◌∙◌, subst, arith, length-append, append_assoc}
use Rattle.std.specs.Prelude.{cond, nat_lt}
use Rattle.std.proofs.lemmas.Bool.{cases_lt}
use Rattle.std.proofs.lemmas.List.{append-nil}
use Rattle.std.proofs.lemmas.Str.{encode_same, length-encode, len_utf8_bounds}
use Rattle.std.proofs.Math.Utf8.{scalar_cases}
use Rattle.std.proofs.str.Utf16.{one_unit, two_units}
use Rattle.fact_types.specs.declared.outside.FixedEncoding.{FixedEncoding}
use Rattle.fact_types.specs.declared.outside.FixedEncoding.TheVariants.{Utf8, Utf16, Latin1}
use Rattle.fact_values.specs.Texts.{AreSpelled, IsSpelled, char_spelling, low_first, spelled_text}
use Rattle.fact_actions.specs.Transcoders.{TranscodeKind, AllUnits, Counted, Fitting, Narrow, Tagged, Widening, Room, IsHonestPass, IsFull, StopsBy, bytes_written}
use Rattle.fact_action_laws.proofs.Bounds.{length_spelling}
use Rattle.fact_action_laws.proofs.Splits.{can_parts}

-- ---- spellings of scalar values

pair_tail : (u v : ℕ) (x y : List ℕ) → u % 256 ∷ u / 256 ∷ x ≡ v % 256 ∷ v / 256 ∷ y → (u ≡ v) × (x ≡ y)
pair_tail u v x y e =
    let low : u % 256 ≡ v % 256 = ap (λ l. get_or l 0 0) e in
    let high : u / 256 ≡ v / 256 = ap (λ l. get_or l 1 0) e in
    (omega arith, ap (λ l. drop 2 l) e)

abbrev IsNoSurrogate : ℕ → Type 0
IsNoSurrogate c = (c < 55296) ⊎ ((57344 ≤ c) × (c < 1114112))

below_all : (c : ℕ) → IsNoSurrogate c → c < 1114112
below_all c (inl h) = omega (arith, h)
below_all c (inr h) = h.1

never_high : (c : ℕ) → IsNoSurrogate c → 55296 ≤ c → c < 57344 → ⊥
never_high c (inl h) low high = absurd (omega (arith, h, low))
never_high c (inr h) low high = let k = h.0 in absurd (omega (arith, k, high))

abbrev first_unit : ℕ → ℕ
first_unit c = 0xD800 + (c - 0x1_0000) / 0x400

abbrev last_unit : ℕ → ℕ
last_unit c = 0xDC00 + (c - 0x1_0000) % 0x400

one_and_two : (c d : ℕ) (x y : List ℕ) → IsNoSurrogate c → IsNoSurrogate d → c < 0x1_0000 → 0x1_0000 ≤ d → char_spelling Utf16 c ++ x ≡ char_spelling Utf16 d ++ y → ⊥
one_and_two c d x y sc sd small big e =
    let v : ℕ = last_unit d in
    let p = pair_tail c (first_unit d) x (v % 256 ∷ v / 256 ∷ y) (ap (λ l. low_first l ++ x) (sym (one_unit c small)) ∙ e ∙ ap (λ l. low_first l ++ y) (two_units d big)) in
    let same : c ≡ first_unit d = p.0 in
    let most : d < 1114112 = below_all d sd in
    never_high c sc (omega (arith, same)) (omega (arith, same, most, big))

by_size : (c d : ℕ) (x y : List ℕ) → IsNoSurrogate c → IsNoSurrogate d → (c < 0x1_0000) ⊎ (0x1_0000 ≤ c) → (d < 0x1_0000) ⊎ (0x1_0000 ≤ d) → char_spelling Utf16 c ++ x ≡ char_spelling Utf16 d ++ y → (c ≡ d) × (x ≡ y)
by_size c d x y sc sd (inl a) (inl b) e = pair_tail c d x y (ap (λ l. low_first l ++ x) (sym (one_unit c a)) ∙ e ∙ ap (λ l. low_first l ++ y) (one_unit d b))
by_size c d x y sc sd (inl a) (inr b) e = absurd (one_and_two c d x y sc sd a b e)
by_size c d x y sc sd (inr a) (inl b) e = absurd (one_and_two d c y x sd sc b a (sym e))
by_size c d x y sc sd (inr a) (inr b) e =
    let u : ℕ = last_unit c in
    let v : ℕ = last_unit d in
    let p = pair_tail (first_unit c) (first_unit d) (u % 256 ∷ u / 256 ∷ x) (v % 256 ∷ v / 256 ∷ y) (ap (λ l. low_first l ++ x) (sym (two_units c a)) ∙ e ∙ ap (λ l. low_first l ++ y) (two_units d b)) in
    let q = pair_tail u v x y p.1 in
    let first : first_unit c ≡ first_unit d = p.0 in
    let last : last_unit c ≡ last_unit d = q.0 in
    (omega (arith, first, last, a, b), q.1)

-- What begins with a scalar value begins with that one alone.
pub char_apart : (e : FixedEncoding) (c d : ℕ) (x y : List ℕ) → IsSpelled e c → IsSpelled e d → char_spelling e c ++ x ≡ char_spelling e d ++ y → (c ≡ d) × (x ≡ y)
char_apart Utf8 c d x y h g e = encode_same c d x y e
char_apart Utf16 c d x y h g e = by_size c d x y (scalar_cases c h) (scalar_cases d g) (cases_lt c 0x1_0000) (cases_lt d 0x1_0000) e
char_apart Latin1 c d x y h g e = (ap (λ l. get_or l 0 0) e, ap (λ l. drop 1 l) e)

some_units : (b : Bool) → 1 ≤ cond b 1 2
some_units true = omega arith
some_units false = omega arith

some_bytes : (e : FixedEncoding) (c : ℕ) → 1 ≤ length (char_spelling e c)
some_bytes Utf8 c = let b = (len_utf8_bounds c).0 in omega (arith, length-encode c, b)
some_bytes Utf16 c = let s = some_units (nat_lt c 0x1_0000) in let l : length (char_spelling Utf16 c) ≡ 2 * cond (nat_lt c 0x1_0000) 1 2 = length_spelling Utf16 c in omega (arith, s, l)
some_bytes Latin1 c = omega arith

never_empty : (e : FixedEncoding) (c : ℕ) (x : List ℕ) → [] ≡ char_spelling e c ++ x → ⊥
never_empty e c x h = let n = ap length h ∙ length-append (char_spelling e c) x in omega (arith, n, some_bytes e c)

-- ---- fronts of texts

-- A text is another one and more.
pub record Continues (e : FixedEncoding) (t u r s : List ℕ) : Type 0 where
  pub more : List ℕ
  pub is : u ≡ t ++ more
  pub rest : r ≡ spelled_text e more ++ s

-- two texts that begin the same bytes
pub fronts : (e : FixedEncoding) (t u r s : List ℕ) → AreSpelled e t → AreSpelled e u → spelled_text e t ++ r ≡ spelled_text e u ++ s → Continues e t u r s ⊎ Continues e u t s r
fronts e [] u r s h g q = inl (record { more = u; is = refl; rest = q })
fronts e (c ∷ t) [] r s h g q = inr (record { more = c ∷ t; is = refl; rest = sym q })
fronts e (c ∷ t) (d ∷ u) r s h g q =
    let z = char_apart e c d (spelled_text e t ++ r) (spelled_text e u ++ s) h.0 g.0 (sym (append_assoc (char_spelling e c) (spelled_text e t) r) ∙ q ∙ append_assoc (char_spelling e d) (spelled_text e u) s) in
    ⊎_elim
    (λ x. inl (record { more = x.more; is = ap (λ k. k ∷ u) (sym z.0) ∙ ap (λ l. c ∷ l) x.is; rest = x.rest }))
    (λ x. inr (record { more = x.more; is = ap (λ k. k ∷ t) z.0 ∙ ap (λ l. d ∷ l) x.is; rest = x.rest }))
    (fronts e t u r s h.1 g.1 z.1)

pub length_with_more : (e : FixedEncoding) (a z : List ℕ) → length (spelled_text e (a ++ z)) ≡ length (spelled_text e a) + length (spelled_text e z)
length_with_more e [] z = omega arith
length_with_more e (c ∷ a) z =
    let l = length-append (char_spelling e c) (spelled_text e (a ++ z)) in
    let r = length-append (char_spelling e c) (spelled_text e a) in
    let h = length_with_more e a z in
    omega (arith, l, r, h)

-- ---- one answer

-- no pass stops before a scalar value that it can write
stopped : (k : TranscodeKind) (f t : FixedEncoding) (g : Room) (a b r s m : List ℕ) (c : ℕ) → b ≡ a ++ c ∷ m → r ≡ char_spelling f c ++ (spelled_text f m ++ s) → IsSpelled f c → IsSpelled t c → StopsBy k f t g a r → StopsBy k f t g b s → ⊥
stopped AllUnits f t g a b r s m c is rest can write st sb = never_empty f c (spelled_text f m ++ s) (sym st ∙ rest)
stopped Counted f t g a b r s m c is rest can write st sb = never_empty f c (spelled_text f m ++ s) (sym st ∙ rest)
stopped Tagged f t g a b r s m c is rest can write st sb = never_empty f c (spelled_text f m ++ s) (sym st ∙ rest)
stopped Widening f t g a b r s m c is rest can write st sb = never_empty f c (spelled_text f m ++ s) (sym st.0 ∙ rest)
stopped Narrow f t g a b r s m c is rest can write st sb = st c (spelled_text f m ++ s) can write rest
stopped Fitting f t g a b r s m c is rest can write st sb = ⊎_elim (λ e. never_empty f c (spelled_text f m ++ s) (sym e ∙ rest)) full st.1
  where
    full : IsFull f t g.room a r → ⊥
    full x =
        let same : x.next ≡ c = (char_apart f x.next c x.more (spelled_text f m ++ s) x.can can (sym x.begins ∙ rest)).0 in
        let over : g.room < length (spelled_text t a) + length (char_spelling t c) = subst (λ d. g.room < length (spelled_text t a) + length (char_spelling t d)) same x.full in
        let long : length (spelled_text t b) ≡ length (spelled_text t a) + length (spelled_text t (c ∷ m)) = ap (λ l. length (spelled_text t l)) is ∙ length_with_more t a (c ∷ m) in
        let more : length (spelled_text t (c ∷ m)) ≡ length (char_spelling t c) + length (spelled_text t m) = length-append (char_spelling t c) (spelled_text t m) in
        let room = sb.0 in
        absurd (omega (arith, over, long, more, room))

goes_on : (k : TranscodeKind) (f t : FixedEncoding) (g : Room) (a b r s : List ℕ) → Continues f a b r s → AreSpelled f b → AreSpelled t b → StopsBy k f t g a r → StopsBy k f t g b s → a ≡ b
goes_on k f t g a b r s x can write st sb = by x.more x.is x.rest
  where
    by : (more : List ℕ) → b ≡ a ++ more → r ≡ spelled_text f more ++ s → a ≡ b
    by [] is rest = sym (is ∙ append-nil a)
    by (c ∷ m) is rest =
        absurd (stopped k f t g a b r s m c is (rest ∙ append_assoc (char_spelling f c) (spelled_text f m) s) (can_parts f a (c ∷ m) (subst (AreSpelled f) is can)).1.0 (can_parts t a (c ∷ m) (subst (AreSpelled t) is write)).1.0 st sb)

pub one_text_read : (k : TranscodeKind) (f t : FixedEncoding) (g : Room) (source bytes numbers others more : List ℕ) (h : IsHonestPass k f t g source bytes numbers) → (j : IsHonestPass k f t g source others more) → h.text ≡ j.text
one_text_read k f t g source bytes numbers others more h j =
    ⊎_elim
    (λ x. goes_on k f t g h.text j.text h.rest j.rest x j.can_read j.can_write h.stops j.stops)
    (λ x. sym (goes_on k f t g j.text h.text j.rest h.rest x h.can_read h.can_write j.stops h.stops))
    (fronts f h.text j.text h.rest j.rest h.can_read j.can_read (sym h.reads ∙ j.reads))

-- So two honest answers write the same.
pub one_pass : (k : TranscodeKind) (f t : FixedEncoding) (g : Room) (source bytes numbers others more : List ℕ) → IsHonestPass k f t g source bytes numbers → IsHonestPass k f t g source others more → bytes ≡ others
one_pass k f t g source bytes numbers others more h j = h.writes ∙ ap (bytes_written k t g) (one_text_read k f t g source bytes numbers others more h j) ∙ sym j.writes
