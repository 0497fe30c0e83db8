-- The digits of an input that is checked.
use Rattle.std.proofs.Common.{◌≡◌, ◌≢◌, ℕ, zero, suc, ◌≤◌, List, [], ◌∷◌, length, take, get_or, Err, refl, ap, arith}
use Rattle.std.proofs.lemmas.Bool.Decides.{nat_tests}
use Rattle.hex.specs.Hex.{decode_of}
use Rattle.hex.specs.declared.error.FromHexError.{FromHexError}
use Rattle.fact_plan.specs.Inputs.{limit}
use Rattle.fact_run.specs.Check.{HoldsNoHex, digits_in}

-- of an input that ends in a newline
pub digits-of-line : (input : List ℕ) (k : ℕ) → length input ≡ suc k → get_or input k 0 ≡ 10 → take k input ≡ digits_in input
digits-of-line [] k e h = absurd (omega (arith, e))
digits-of-line (b ∷ []) zero e h = rw h refl
digits-of-line (b ∷ []) (suc k) e h = absurd (omega (arith, e))
digits-of-line (b ∷ c ∷ bs) zero e h = absurd (omega (arith, e))
digits-of-line (b ∷ c ∷ bs) (suc k) e h = ap (λ (l : List ℕ). b ∷ l) (digits-of-line (c ∷ bs) k (omega (arith, e)) h)

-- and of all others
pub digits-of-text : (input : List ℕ) → ((k : ℕ) → length input ≡ suc k → get_or input k 0 ≢ 10) → input ≡ digits_in input
digits-of-text [] h = refl
digits-of-text (b ∷ []) h = let other : b ≢ 10 = h 0 refl in grind (arith, nat_tests)
digits-of-text (b ∷ c ∷ bs) h = ap (λ (l : List ℕ). b ∷ l) (digits-of-text (c ∷ bs) (λ k e. h (suc k) (omega (arith, e))))

-- Digits that are refused are those of no bytes.
pub no-hex : (input : List ℕ) (f : FromHexError) → length input ≤ limit → decode_of (digits_in input) ≡ Err f → HoldsNoHex input
no-hex input f within e = record { within = within; no_hex = λ bytes ok. absurd (cc (e, ok)) }
