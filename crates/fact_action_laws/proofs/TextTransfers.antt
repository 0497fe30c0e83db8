-- Texts one after another, and what a transcoder has left of a source.
use Rattle.std.proofs.Common.{◌≡◌, ℕ, ◌+◌, ◌*◌, ◌/◌, ◌^◌, ◌≤◌, ◌<◌, ◌⊎◌, inl, inr, ⊎_elim, List, [], ◌∷◌, ◌++◌, refl, sym, ap, ◌∙◌, subst, arith, length, append_assoc, length-append, take, drop}
use Rattle.std.specs.Prelude.{Bool, true, min}
use Rattle.std.proofs.lemmas.Bool.{cases_lt}
use Rattle.std.proofs.lemmas.List.{append-nil, take_all, drop_at}
use Rattle.fact_types.specs.declared.outside.FixedEncoding.{FixedEncoding}
use Rattle.fact_types.specs.declared.outside.FixedEncoding.TheVariants.{Utf8, Utf16, Latin1}
use Rattle.fact_values.specs.Texts.{unit_bytes, AreSpelled, char_spelling, spelled_text, units_of_text}
use Rattle.fact_types.specs.declared.outside.StringEncoding.{StringEncoding}
use Rattle.fact_types.specs.declared.outside.Transcode.{Transcode}
use Rattle.fact_actions.specs.Transcoders.{TranscodeKind, transcode_kind, from_encoding, to_encoding}
use Rattle.fact_actions.specs.Paths.{SourceUnits, Path, Limit, Resize, Pass}
use Rattle.fact_actions.specs.Strings.{most_string_bytes}
use Rattle.fact_action_laws.proofs.Bounds.{growth, length_text, all_bound}
use Rattle.fact_action_laws.proofs.Stages.{Stage, beginning, Leads, PassLeads, Moved}

-- all of the source was read
pub whole : (from : FixedEncoding) (us text rest : List ℕ) → us ≡ spelled_text from text ++ rest → rest ≡ [] → us ≡ spelled_text from text
whole from us text rest e r = e ∙ ap (λ l. spelled_text from text ++ l) r ∙ append-nil (spelled_text from text)

-- its units
pub counts : (from : FixedEncoding) (us text : List ℕ) (n : ℕ) → length us ≡ unit_bytes from * n → us ≡ spelled_text from text → n ≡ units_of_text from text
counts from us text n h e = go from h (ap length e ∙ length_text from text)
  where
    go : (from : FixedEncoding) → length us ≡ unit_bytes from * n → length us ≡ unit_bytes from * units_of_text from text → n ≡ units_of_text from text
    go Utf8 a b = omega (arith, a, b)
    go Utf16 a b = omega (arith, a, b)
    go Latin1 a b = omega (arith, a, b)

pub first : (from : FixedEncoding) (us : List ℕ) → drop (unit_bytes from * 0) us ≡ us
first Utf8 us = refl
first Utf16 us = refl
first Latin1 us = refl

-- what stands in the end
pub stands : (e : FixedEncoding) (t : List ℕ) (w : ℕ) (have : List ℕ) → w ≡ units_of_text e t → have ≡ spelled_text e t → take (unit_bytes e * w) have ≡ spelled_text e t
stands e t w have lw h =
    let same : unit_bytes e * w ≡ length (spelled_text e t) = ap (λ k. unit_bytes e * k) lw ∙ sym (length_text e t) in
    ap (λ l. take (unit_bytes e * w) l) h ∙ take_all (unit_bytes e * w) (spelled_text e t) (omega (arith, same))

-- texts one after another
pub text_bytes_append : (e : FixedEncoding) (a b : List ℕ) → spelled_text e (a ++ b) ≡ spelled_text e a ++ spelled_text e b
text_bytes_append e [] b = refl
text_bytes_append e (c ∷ a) b = ap (λ l. char_spelling e c ++ l) (text_bytes_append e a b) ∙ sym (append_assoc (char_spelling e c) (spelled_text e a) (spelled_text e b))

pub text_units_append : (e : FixedEncoding) (a b : List ℕ) → units_of_text e (a ++ b) ≡ units_of_text e a + units_of_text e b
text_units_append e [] b = omega arith
text_units_append e (c ∷ a) b = omega (arith, text_units_append e a b)

pub can_spell_append : (e : FixedEncoding) (a b : List ℕ) → AreSpelled e a → AreSpelled e b → AreSpelled e (a ++ b)
can_spell_append e [] b h g = g
can_spell_append e (c ∷ a) b h g = (h.0, can_spell_append e a b h.1 g)

-- what is left after a pass
pub left : (f : FixedEncoding) (us text rest : List ℕ) (r : ℕ) → r ≡ units_of_text f text → us ≡ spelled_text f text ++ rest → drop (unit_bytes f * r) us ≡ rest
left f us text rest r lr e =
    let same : unit_bytes f * r ≡ length (spelled_text f text) = ap (λ k. unit_bytes f * k) lr ∙ sym (length_text f text) in
    ap (λ l. drop (unit_bytes f * r) l) e ∙ ap (λ k. drop k (spelled_text f text ++ rest)) same ∙ drop_at (spelled_text f text) rest (length (spelled_text f text)) refl

pub some_left : (f : FixedEncoding) (us text rest : List ℕ) (n : ℕ) → length us ≡ unit_bytes f * n → us ≡ spelled_text f text ++ rest → unit_bytes f * units_of_text f text + length rest ≡ unit_bytes f * n
some_left f us text rest n long e = omega (arith, long, length_text f text, length-append (spelled_text f text) rest, ap length e)

pub enough : (f : FixedEncoding) (x y : ℕ) → unit_bytes f * x ≤ unit_bytes f * y → x ≤ y
enough Utf8 x y h = omega (arith, h)
enough Utf16 x y h = omega (arith, h)
enough Latin1 x y h = omega (arith, h)

-- Where an encoding grows by no more than the bytes of its units, a text takes no more of them.
pub fewer_units : (f t : FixedEncoding) (text : List ℕ) → growth f t ≡ unit_bytes t → AreSpelled f text → AreSpelled t text → units_of_text t text ≤ units_of_text f text
fewer_units f t text e h g = enough t (units_of_text t text) (units_of_text f text) (subst (λ k. unit_bytes t * units_of_text t text ≤ k * units_of_text f text) e (all_bound f t text h g))

-- so it is into Latin-1
pub fewer_low : (f : FixedEncoding) (text : List ℕ) → AreSpelled f text → AreSpelled Latin1 text → units_of_text Latin1 text ≤ units_of_text f text
fewer_low f text h g = fewer_units f Latin1 text (grows f) h g
  where
    grows : (f : FixedEncoding) → growth f Latin1 ≡ 1
    grows Utf8 = refl
    grows Utf16 = refl
    grows Latin1 = refl

pub none_left : (f : FixedEncoding) (x n : ℕ) (rest : List ℕ) → unit_bytes f * x + length rest ≡ unit_bytes f * n → x ≡ n → rest ≡ []
none_left f x n [] h e = refl
none_left f x n (b ∷ rest) h e = absurd (let a : unit_bytes f * x ≡ unit_bytes f * n = ap (λ k. unit_bytes f * k) e in omega (arith, h, a))

pub lt_or_eq : (a b : ℕ) → a ≤ b → (a < b) ⊎ (a ≡ b)
lt_or_eq a b le = ⊎_elim (λ lt. inl lt) (λ ge. inr (omega (arith, le, ge))) (cases_lt a b)

-- ---- how paths begin

-- behind the first call of realloc
abbrev pub fresh : ℕ → Stage
fresh size = record { read = 0; written = 0; size = size; given = true; have = [] }

no_bytes : (k : ℕ) (xs : List ℕ) → length xs ≡ min k 0 → xs ≡ []
no_bytes k [] h = refl
no_bytes k (x ∷ xs) h = absurd (omega (arith, h))

-- first a limit and a region
pub begins : (Kept Good : Type 0) (n most bytes : ℕ) (p : Path) (us : List ℕ) (P : List ℕ → Stage → Type 0) → (Good → n ≤ most_string_bytes / most) → (n ≤ most_string_bytes / most → bytes * n < 2 ^ 32)
    → (n ≤ most_string_bytes / most → (us2 : List ℕ) → length us2 ≡ length us → Leads n Kept Good p us2 (fresh (bytes * n)) P)
    → Leads n Kept Good (Limit most (Resize (SourceUnits 0) (SourceUnits bytes) p)) us beginning P
begins Kept Good n most bytes p us P good fits leads = (
  good,
  λ le. (
    omega arith,
    fits le,
    λ us2 have l1 l2 same keeps.
        subst (λ h. Leads n Kept Good p us2 (record { read = 0; written = 0; size = bytes * n; given = true; have = h }) P) (sym (no_bytes (bytes * n) have l2)) (leads le us2 l1),
  ),
)

-- a pass, by what is known of its transcoder
pub pass_by : (Kept Good : Type 0) (n : ℕ) (o : Transcode) (k : TranscodeKind) (f t : FixedEncoding) (b : Bool) (c : ℕ) (p : Path) (us : List ℕ) (s : Stage) (P : List ℕ → Stage → Type 0) → transcode_kind o ≡ k → from_encoding o ≡ f → to_encoding o ≡ t
    → PassLeads n k f t b c us s (λ us1 s1. Leads n Kept Good p us1 s1 P) → Leads n Kept Good (Pass o b c p) us s P
pass_by Kept Good n o k f t b c p us s P ek ef et h =
    subst (λ k. PassLeads n k (from_encoding o) (to_encoding o) b c us s (λ us1 s1. Leads n Kept Good p us1 s1 P)) (sym ek)
    (subst (λ f. PassLeads n k f (to_encoding o) b c us s (λ us1 s1. Leads n Kept Good p us1 s1 P)) (sym ef)
    (subst (λ t. PassLeads n k f t b c us s (λ us1 s1. Leads n Kept Good p us1 s1 P)) (sym et) h))

-- the same source
pub moved_to : (f : FixedEncoding) (to : StringEncoding) (us us2 : List ℕ) (s : Stage) → us2 ≡ us → Moved f to us s → Moved f to us2 s
moved_to f to us us2 s e h = subst (λ l. Moved f to l s) (sym e) h
