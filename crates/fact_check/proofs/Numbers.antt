-- Numbers in names.
use Rattle.std.proofs.Common.{◌≡◌, ◌≢◌, ◌<◌, ◌^◌, ℕ, zero, suc, true, false, List, [], ◌∷◌, ◌++◌, Option, Some, None, Result, Ok, Err, refl, sym, ap, ◌∙◌, subst, length, get_or, arith}
use Rattle.std.specs.Prelude.{not, nat_eq, MatchOption}
use Rattle.std.specs.Bool.{Decides}
use Rattle.std.specs.Fmt.{decimal}
use Rattle.std.specs.Result.{OkIff}
use Rattle.std.specs.Str.Parse.{ParsesUnsigned, IsNumeral, digits_value}
use Rattle.std.proofs.lemmas.Bool.{false≢true, eq-eqb, eqb-true, ne_eqb}
use Rattle.std.proofs.lemmas.List.{append_cancel_left}
use Rattle.std.proofs.lemmas.Fmt.{decimal_digit, decimal_nonempty, first_decimal, decimal_injective, decimal-digits_value, decimal_is_IsNumeral}
use Rattle.std.proofs.lemmas.Str.Parse.{numerals_by_value, tells_digits, without_leading_plus_none}
use Rattle.fact_machine.proofs.Tests.{first_of, second_of, both}
use Rattle.fact_check.specs.NameNumbers.{is_plain}
use Rattle.fact_check.specs.Imports.{IsNumbered}

-- ---- the form of a number

-- what the form says of the first byte
pub record HasPlainFront (ds : List ℕ) : Type 0 where
  pub some : 0 < length ds
  pub no_plus : get_or ds 0 0 ≢ 43
  pub lead : get_or ds 0 0 ≡ 48 → length ds ≡ 1

pub plain_front : (ds : List ℕ) → is_plain ds ≡ true → HasPlainFront ds
plain_front [] h = absurd (false≢true h)
plain_front (d ∷ []) h = record { some = omega arith; no_plus = λ e. false≢true (ap not (sym (eq-eqb d 43 e)) ∙ h); lead = λ e. refl }
plain_front (d ∷ e ∷ ds) h = record {
  some = omega arith;
  no_plus = λ q. false≢true (ap not (sym (eq-eqb d 43 q)) ∙ second_of (not (nat_eq d 48)) (not (nat_eq d 43)) h);
  lead = λ q. absurd (false≢true (ap not (sym (eq-eqb d 48 q)) ∙ first_of (not (nat_eq d 48)) (not (nat_eq d 43)) h));
}

plain_if : (ds : List ℕ) → 0 < length ds → 48 < get_or ds 0 0 → (get_or ds 0 0 ≢ 43) → is_plain ds ≡ true
plain_if [] some first other = absurd (omega arith)
plain_if (d ∷ []) some first other = ap not (ne_eqb d 43 other)
plain_if (d ∷ e ∷ ds) some first other = both (ap not (ne_eqb d 48 (λ q. omega (arith, first, q)))) (ap not (ne_eqb d 43 other))

pub plain_decimal : (n : ℕ) → n < 2 ^ 32 → is_plain (decimal n) ≡ true
plain_decimal zero lt = ap is_plain (decimal_digit 0 (omega arith))
plain_decimal (suc n) lt =
    let first : 48 < get_or (decimal (suc n)) 0 0 = first_decimal (suc n) (omega arith) (omega arith) in
    plain_if (decimal (suc n)) (decimal_nonempty (suc n) (omega arith)) first (λ q. omega (arith, first, q))

pub not_plain : (text : List ℕ) → is_plain text ≡ false → (n : ℕ) → n < 2 ^ 32 → text ≡ decimal n → ⊥
not_plain text h n lt e = false≢true (sym h ∙ ap is_plain e ∙ plain_decimal n lt)

-- ---- what it is read as

module _ {E : Type 0} (text : List ℕ) (r : Result ℕ E) (plain : is_plain text ≡ true) (h : ParsesUnsigned 32 10 text r) where
  parses : OkIff r (IsNumeral 10 text × (digits_value 10 text < 2 ^ 32)) (digits_value 10 text)
  parses = subst (λ bs. OkIff r (IsNumeral 10 bs × (digits_value 10 bs < 2 ^ 32)) (digits_value 10 bs)) (without_leading_plus_none text ((plain_front text plain).no_plus)) h

  pub number_ok : (n : ℕ) → r ≡ Ok n → (n < 2 ^ 32) × (text ≡ decimal n)
  number_ok n e =
      let q : (IsNumeral 10 text × (digits_value 10 text < 2 ^ 32)) × (n ≡ digits_value 10 text) = subst (λ x. OkIff x (IsNumeral 10 text × (digits_value 10 text < 2 ^ 32)) (digits_value 10 text)) e parses in
      let small : digits_value 10 text < 2 ^ 64 = omega (arith, q.0.1) in
      (omega (arith, q.1, q.0.1), sym (decimal-digits_value (numerals_by_value _ tells_digits) text q.0.0.1 q.0.0.0 ((plain_front text plain).lead) small) ∙ ap decimal (sym q.1))

  pub number_err : (x : E) → r ≡ Err x → (n : ℕ) → n < 2 ^ 32 → text ≡ decimal n → ⊥
  number_err x e n lt is =
      let q = subst (λ y. OkIff y (IsNumeral 10 text × (digits_value 10 text < 2 ^ 32)) (digits_value 10 text)) e parses in
      let d = decimal_is_IsNumeral n (omega arith) in
      let numeral : IsNumeral 10 text = subst (IsNumeral 10) (sym is) d.0 in
      let value : digits_value 10 text ≡ n = ap (digits_value 10) is ∙ d.1 in
      q (numeral, omega (arith, value))

-- ---- behind a prefix

-- what is read of a text
abbrev pub ReadsNumber : List ℕ → Option ℕ → Type 0
ReadsNumber text r = MatchOption r ((n : ℕ) → n < 2 ^ 32 → text ≡ decimal n → ⊥) (λ n. (n < 2 ^ 32) × (text ≡ decimal n))

pub from_behind : (prefix name text : List ℕ) (r : Option ℕ) → name ≡ prefix ++ text → ReadsNumber text r → MatchOption r ((n : ℕ) → IsNumbered prefix n name → ⊥) (λ n. IsNumbered prefix n name)
from_behind prefix name text None e h = λ n i. h n i.0 (append_cancel_left prefix text (decimal n) (sym e ∙ i.1))
from_behind prefix name text (Some n) e h = (h.0, e ∙ ap (λ l. prefix ++ l) h.1)

pub counted : (prefix name : List ℕ) (m count : ℕ) → IsNumbered prefix m name → Decides (nat_eq m count) (IsNumbered prefix count name)
counted prefix name m count i = (
  λ t. subst (λ k. IsNumbered prefix k name) (eqb-true m count t) i,
  λ j. eq-eqb m count (decimal_injective m count (omega (arith, i.0)) (omega (arith, j.0)) (append_cancel_left prefix (decimal m) (decimal count) (sym i.1 ∙ j.1))),
)
