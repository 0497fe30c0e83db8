-- Keys as numbers.
use Rattle.std.specs.Prelude.{ℕ, ◌≡◌, ◌↔◌, true, nat_eq}
use Rattle.std.proofs.lemmas.Bool.{eqb-true, eq-eqb}

-- the test of two numbers passes exactly where they are one
pub equal_numbers : (m n : ℕ) → (nat_eq m n ≡ true) ↔ (m ≡ n)
equal_numbers m n = (eqb-true m n, eq-eqb m n)
