-- A table as the list of its pairs of key and entry.
use Rattle.std.specs.Prelude.{ℕ, ◌+◌, List, [], ◌∷◌}
use denote.Ref.{Bor}

-- the pairs of key and entry of a table whose first entry has the number n
abbrev pub entries_from : {K V : Type 0} → (ℕ → K) → ℕ → List V → List (K × V)
entries_from key n [] = []
entries_from key n (x ∷ xs) = (key n, x) ∷ entries_from key (n + 1) xs

-- the pair that a pair of key and `&V` shows
abbrev pub shown : {K V : Type 0} → K × Bor V → K × V
shown p = (p.0, p.1.now)
