-- Counts of flat types.
use Rattle.std.proofs.Common.{◌≡◌, ℕ, ◌+◌, ◌≤◌, Bool, true, false, List, [], ◌∷◌, Option, Some, None, refl, arith, ap, ◌∙◌}
use Rattle.std.specs.Prelude.{IfSome, nat_le, if◌then◌else◌}
use Rattle.std.proofs.lemmas.Bool.{le-leb, leb-true}
use Rattle.fact_types.specs.Flat.{flat_within, add_flat, flat_sum}

within_by : (b : Bool) (n : ℕ) → (b ≡ true → n ≤ 16) → IfSome (if b then Some n else None) (λ m. m ≤ 16)
within_by true n h = h refl
within_by false n h = tt

pub add_flat_within : (a b : Option ℕ) → IfSome (add_flat a b) (λ n. n ≤ 16)
add_flat_within None b = tt
add_flat_within (Some a) None = tt
add_flat_within (Some a) (Some b) = within_by (nat_le (a + b) 16) (a + b) (leb-true _ _)

pub flat_sum_within : (cs : List (Option ℕ)) → IfSome (flat_sum cs) (λ n. n ≤ 16)
flat_sum_within [] = omega arith
flat_sum_within (c ∷ cs) = add_flat_within c (flat_sum cs)

flat_within_is : (n m : ℕ) → m ≡ n → n ≤ 16 → flat_within m ≡ Some n
flat_within_is n m e h = ap flat_within e ∙ ap (λ (b : Bool). if b then Some n else None) (le-leb n 16 h)

-- nothing before or behind changes no count
pub add_flat-zero_left : (o : Option ℕ) → IfSome o (λ n. n ≤ 16) → add_flat (Some 0) o ≡ o
add_flat-zero_left None h = refl
add_flat-zero_left (Some n) h = flat_within_is n (0 + n) (omega arith) h

pub add_flat-zero_right : (o : Option ℕ) → IfSome o (λ n. n ≤ 16) → add_flat o (Some 0) ≡ o
add_flat-zero_right None h = refl
add_flat-zero_right (Some n) h = flat_within_is n (n + 0) (omega arith) h
