-- Flags are moved by name: where the bits of the number that is written come from.
use Rattle.std.specs.Prelude.{◌≡◌, ℕ, List, Some, slice_get}
use Rattle.std.specs.Int.{bit_at}
use Rattle.fact_types.specs.Valid.{AreDistinct}
use Rattle.fact_actions.specs.Moves.{bits_named}

-- Of distinct names, the number that is written has, at the place of each name of the destination, the bit that the number that was read has at the place of
-- that name.
abbrev pub BitsGoByName : Type 0
BitsGoByName =
    (from to : List (List ℕ)) (n i j : ℕ) (x : List ℕ) → AreDistinct from → slice_get from i ≡ Some x → slice_get to j ≡ Some x → bit_at (bits_named from to n) j ≡ bit_at n i

-- All other bits are 0: those past the last name of the destination, and those of names that the source lacks.
abbrev pub OtherBitsAreZero : Type 0
OtherBitsAreZero =
    (from to : List (List ℕ)) (n j : ℕ) → ((i : ℕ) (x : List ℕ) → slice_get from i ≡ Some x → slice_get to j ≡ Some x → ⊥) → bit_at (bits_named from to n) j ≡ 0
