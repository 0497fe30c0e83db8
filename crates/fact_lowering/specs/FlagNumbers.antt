-- Cited by private clauses alone.
-- The number that stands for flags, the first by the lowest bit (canonical ABI, `pack_flags_into_int`).
use Rattle.std.specs.Prelude.{ℕ, ◌+◌, ◌*◌, Bool, true, false, List, [], ◌∷◌}

abbrev pub bit_of : Bool → ℕ
bit_of true = 1
bit_of false = 0

abbrev pub number_of_flags : List (List ℕ × Bool) → ℕ
number_of_flags [] = 0
number_of_flags (f ∷ fs) = bit_of f.1 + 2 * number_of_flags fs
