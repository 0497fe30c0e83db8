-- Entries of tables in which each entry stands once.
use Rattle.std.specs.Prelude.{ℕ, ◌≡◌, ◌≢◌, ◌⊎◌, List, [], ◌∷◌, ◌++◌, length, Some, slice_get}

-- The entry stands in the list.
abbrev pub HasEntry : {X : Type 0} → List X → X → Type 0
HasEntry xs e = (i : ℕ) × (slice_get xs i ≡ Some e)

-- The list is not as long as a table can be.
abbrev pub CanGrow : {X : Type 0} → List X → Type 0
CanGrow xs = length xs ≢ 4294967295

-- The entry was looked for, and put last where it was not there.
abbrev pub Interns : {X : Type 0} → List X → X → List X → Type 0
Interns xs e ys = (HasEntry xs e × (ys ≡ xs)) ⊎ ((HasEntry xs e → ⊥) × CanGrow xs × (ys ≡ xs ++ e ∷ []))

-- The entry is not there, and its table cannot grow.
abbrev pub LacksEntryRoom : {X : Type 0} → List X → X → Type 0
LacksEntryRoom xs e = (HasEntry xs e → ⊥) × (length xs ≡ 4294967295)
