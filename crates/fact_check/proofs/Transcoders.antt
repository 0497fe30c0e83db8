-- The names of transcoders.
use Rattle.std.proofs.Common.{◌≡◌, ◌≢◌, ◌<◌, ◌^◌, ℕ, zero, suc, Bool, true, false, List, [], ◌∷◌, ◌++◌, Option, Some, None, refl, sym, ap, ◌∙◌, subst, length, get_or, arith}
use Rattle.std.specs.Prelude.{not, nat_eq, codes, if◌then◌else◌}
use Rattle.std.specs.List.{list_all}
use Rattle.std.specs.Str.{bytes_eq}
use Rattle.std.specs.Fmt.{decimal}
use Rattle.std.specs.Str.Parse.{AllDigits}
use Rattle.std.proofs.lemmas.Bool.{false≢true, eq-eqb}
use Rattle.std.proofs.Math.Seq.{get_or-append_seam}
use Rattle.std.proofs.lemmas.List.{length-append, append_cancel_left, append_cancel_right}
use Rattle.std.proofs.lemmas.Fmt.{decimal_is_IsNumeral}
use Rattle.std.proofs.lemmas.Slice.Eq.{bytes_eq-Decides}
use Rattle.std.proofs.lemmas.Str.Parse.{tells_digits}
use Rattle.fact_machine.proofs.Tests.{first_of, second_of}
use Rattle.fact_check.specs.Imports.{operation_of}
use Rattle.fact_check.specs.NameNumbers.{memories_text}
use Rattle.fact_check.specs.declared.imports.Operation.{Operation}
use Rattle.fact_check.specs.declared.imports.Operation.TheVariants as operation

-- ---- spaces

abbrev pub HasNoSpace : List ℕ → Type 0
HasNoSpace bs = (i : ℕ) → i < length bs → get_or bs i 0 ≢ 32

rest_of : (b : ℕ) (bs : List ℕ) → HasNoSpace (b ∷ bs) → HasNoSpace bs
rest_of b bs h i lt = h (suc i) (omega arith)

-- two texts are split at their first spaces into the same parts
pub same_parts : (xs zs ys ws : List ℕ) → HasNoSpace xs → HasNoSpace zs → xs ++ 32 ∷ ys ≡ zs ++ 32 ∷ ws → (xs ≡ zs) × (ys ≡ ws)
same_parts [] [] ys ws h k e = (refl, cc)
same_parts [] (z ∷ zs) ys ws h k e = let same : 32 ≡ z = cc in absurd (k 0 (omega arith) (sym same))
same_parts (x ∷ xs) [] ys ws h k e = let same : x ≡ 32 = cc in absurd (h 0 (omega arith) same)
same_parts (x ∷ xs) (z ∷ zs) ys ws h k e =
    let first : x ≡ z = cc in
    let more : xs ++ 32 ∷ ys ≡ zs ++ 32 ∷ ws = cc in
    let r = same_parts xs zs ys ws (rest_of x xs h) (rest_of z zs k) more in
    (ap (λ l. x ∷ l) r.0 ∙ ap (λ b. b ∷ zs) first, r.1)

digits_apart : (ds : List ℕ) → AllDigits 10 ds → HasNoSpace ds
digits_apart [] d i lt = absurd (omega arith)
digits_apart (c ∷ cs) d zero lt = λ e. let k = (tells_digits.parts c cs d).0 in omega (arith, k.0, e)
digits_apart (c ∷ cs) d (suc i) lt = digits_apart cs d.1 i (omega arith)

pub number_apart : (n : ℕ) → n < 2 ^ 32 → HasNoSpace (decimal n)
number_apart n lt = digits_apart (decimal n) ((decimal_is_IsNumeral n (omega arith)).0.1)

pub tested : (bs : List ℕ) → list_all (λ b. not (nat_eq b 32)) bs ≡ true → HasNoSpace bs
tested [] h i lt = absurd (omega arith)
tested (b ∷ bs) h zero lt = λ e. false≢true (ap not (sym (eq-eqb b 32 e)) ∙ first_of (not (nat_eq b 32)) (list_all (λ b. not (nat_eq b 32)) bs) h)
tested (b ∷ bs) h (suc i) lt = tested bs (second_of (not (nat_eq b 32)) (list_all (λ b. not (nat_eq b 32)) bs) h) i (omega arith)

one_of : (d c : List ℕ) (x : Operation) (more : Option Operation) (o : Operation) → HasNoSpace c → (more ≡ Some o → HasNoSpace d) → (if bytes_eq d c then Some x else more) ≡ Some o → HasNoSpace d
one_of d c x more o apart other h = by_test (bytes_eq d c) refl h
  where
    by_test : (b : Bool) → bytes_eq d c ≡ b → (if b then Some x else more) ≡ Some o → HasNoSpace d
    by_test true e k = subst HasNoSpace (sym ((bytes_eq-Decides d c).0 e)) apart
    by_test false e k = other k

none_of : (d : List ℕ) (o : Operation) → None ≡ Some o → HasNoSpace d
none_of d o h = absurd cc

-- what a transcoder does has no space in its name
pub description_apart : (d : List ℕ) (o : Operation) → operation_of d ≡ Some o → HasNoSpace d
unfolding operation_of
description_apart d o h =
    one_of d (codes "utf8-to-utf8") operation.Exact _ o (tested (codes "utf8-to-utf8") refl) (λ h.
    one_of d (codes "utf16-to-utf16") operation.Exact _ o (tested (codes "utf16-to-utf16") refl) (λ h.
    one_of d (codes "latin1-to-latin1") operation.Exact _ o (tested (codes "latin1-to-latin1") refl) (λ h.
    one_of d (codes "latin1-to-utf16") operation.Exact _ o (tested (codes "latin1-to-utf16") refl) (λ h.
    one_of d (codes "utf8-to-utf16") operation.Counted _ o (tested (codes "utf8-to-utf16") refl) (λ h.
    one_of d (codes "utf16-to-compact-probably-utf16") operation.Counted _ o (tested (codes "utf16-to-compact-probably-utf16") refl) (λ h.
    one_of d (codes "utf16-to-utf8") operation.Fitting _ o (tested (codes "utf16-to-utf8") refl) (λ h.
    one_of d (codes "latin1-to-utf8") operation.Fitting _ o (tested (codes "latin1-to-utf8") refl) (λ h.
    one_of d (codes "utf8-to-latin1") operation.Narrow _ o (tested (codes "utf8-to-latin1") refl) (λ h.
    one_of d (codes "utf16-to-latin1") operation.Narrow _ o (tested (codes "utf16-to-latin1") refl) (λ h.
    one_of d (codes "utf8-to-compact-utf16") operation.Widening _ o (tested (codes "utf8-to-compact-utf16") refl) (λ h.
    one_of d (codes "utf16-to-compact-utf16") operation.Widening _ o (tested (codes "utf16-to-compact-utf16") refl) (none_of d o) h) h) h) h) h) h) h) h) h) h) h) h

-- ---- the memories in a name

-- what stands behind the first memory
abbrev pub second_text : ℕ → List ℕ
second_text to = codes "=> mem" ++ (decimal to ++ 41 ∷ [])

pub opened : (text more : List ℕ) (from to : ℕ) → text ≡ codes "(mem" ++ more → text ≡ memories_text from to → more ≡ decimal from ++ 32 ∷ second_text to
opened text more from to e h = append_cancel_left (codes "(mem") more (decimal from ++ 32 ∷ second_text to) (sym e ∙ h)

-- a text without spaces is not one with one
pub unsplit : (more xs ys : List ℕ) → HasNoSpace more → more ≡ xs ++ 32 ∷ ys → ⊥
unsplit more xs ys h e = h (length xs) (omega (arith, ap length e, length-append xs (32 ∷ ys))) (ap (λ l. get_or l (length xs) 0) e ∙ get_or-append_seam xs 32 ys 0)

pub divided : (more front rest : List ℕ) (from to : ℕ) → from < 2 ^ 32 → more ≡ front ++ 32 ∷ rest → HasNoSpace front → more ≡ decimal from ++ 32 ∷ second_text to → (front ≡ decimal from) × (rest ≡ second_text to)
divided more front rest from to lt e h k = same_parts front (decimal from) rest (second_text to) h (number_apart from lt) (sym e ∙ k)

pub closed : (rest more last : List ℕ) (to : ℕ) → rest ≡ codes "=> mem" ++ more → more ≡ last ++ 41 ∷ [] → rest ≡ second_text to → last ≡ decimal to
closed rest more last to e h k = append_cancel_right last (decimal to) (41 ∷ []) (sym h ∙ append_cancel_left (codes "=> mem") more (decimal to ++ 41 ∷ []) (sym e ∙ k))

pub assembled : (text more front rest after last : List ℕ) (from to : ℕ) → text ≡ codes "(mem" ++ more → more ≡ front ++ 32 ∷ rest → rest ≡ codes "=> mem" ++ after → after ≡ last ++ 41 ∷ [] → front ≡ decimal from → last ≡ decimal to → text ≡ memories_text from to
assembled text more front rest after last from to a b c d e f =
    a ∙ ap (λ l. codes "(mem" ++ l) (b ∙ ap (λ l. l ++ 32 ∷ rest) e ∙ ap (λ l. decimal from ++ 32 ∷ l) (c ∙ ap (λ l. codes "=> mem" ++ l) (d ∙ ap (λ l. l ++ 41 ∷ []) f)))

-- a whole name, by what it says
pub named : (name description rest : List ℕ) (o : Operation) (from to : ℕ) → name ≡ description ++ 32 ∷ rest → HasNoSpace description → (d : List ℕ) → operation_of d ≡ Some o → name ≡ d ++ 32 ∷ memories_text from to → (description ≡ d) × (rest ≡ memories_text from to)
named name description rest o from to e h d p k = same_parts description d rest (memories_text from to) h (description_apart d o p) (sym e ∙ k)
