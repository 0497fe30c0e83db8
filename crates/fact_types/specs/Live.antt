-- Live indices of a list, each of which has an entry.
use Rattle.std.specs.Prelude.{◌<◌, ℕ, zero, suc, refl, List, [], ◌∷◌, length, IsSome, slice_get}
use Rattle.std.proofs.Math.Nat.{le_of_suc-le-suc, not-suc-le-zero}

pub slice_get_live : {X : Type 0} (xs : List X) (i : ℕ) → i < length xs → IsSome (slice_get xs i)
slice_get_live [] i h = absurd (not-suc-le-zero h)
slice_get_live (x ∷ xs) zero h = refl
slice_get_live (x ∷ xs) (suc i) h = slice_get_live xs i (le_of_suc-le-suc h)
