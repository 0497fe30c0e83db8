-- Where a list of distinct values holds a value.
use Rattle.std.specs.Prelude.{ℕ, ◌≡◌, Bool, true, List, Some, slice_get, position}
use Rattle.std.specs.List.{position_or_len}
use Rattle.indexmap.specs.IndexSet.{insert_key}

-- the value at place i is equal to v, and no other value of the list is
pub record IsOnlyPlace {X : Type 0} (eq : X → X → Bool) (xs : List X) (v : X) (i : ℕ) : Type 0 where
  pub holds : (x : X) × (slice_get xs i ≡ Some x) × (eq v x ≡ true)
  pub only : (j : ℕ) (y : X) → slice_get xs j ≡ Some y → eq v y ≡ true → j ≡ i

-- v was looked for among the values of old and added where it was not there: it has the number i, by which it is found,
-- and all other values keep theirs
pub record IsInterned {X : Type 0} (eq : X → X → Bool) (old new : List X) (v : X) (i : ℕ) : Type 0 where
  pub place : i ≡ position_or_len (eq v) old
  pub list : new ≡ insert_key eq old v
  pub keeps : (j : ℕ) (x : X) → slice_get old j ≡ Some x → slice_get new j ≡ Some x
  pub only : IsOnlyPlace eq new v i
  pub again : (w : X) → eq w v ≡ true → position (eq w) new ≡ Some i
