-- Steps of which each may have no answer.
use Rattle.std.specs.Prelude.{Option, Some, None}

-- the answer of a step at that of the step before it, where both have one
infixl 10 ◌>>=◌
abbrev pub ◌>>=◌ : {A B : Type 0} → Option A → (A → Option B) → Option B
None >>= f = None
Some x >>= f = f x
