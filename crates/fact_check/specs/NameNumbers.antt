-- Cited by private clauses alone.
-- The form of a number in a name.
use Rattle.std.specs.Prelude.{ℕ, ◌==◌, ◌&&◌, not, Bool, false, List, [], ◌∷◌, ◌++◌, codes}
use Rattle.std.specs.Fmt.{decimal}

-- neither empty, nor with a plus, nor with a zero before other bytes
abbrev pub is_plain : List ℕ → Bool
is_plain [] = false
is_plain (d ∷ []) = not (d == 43)
is_plain (d ∷ e ∷ ds) = not (d == 48) && not (d == 43)

-- the memories in the name of a transcoder
abbrev pub memories_text : (from to : ℕ) → List ℕ
memories_text from to = codes "(mem" ++ (decimal from ++ 32 ∷ (codes "=> mem" ++ (decimal to ++ 41 ∷ [])))
