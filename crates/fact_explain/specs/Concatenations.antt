-- Texts that are put together of parts.
use Rattle.std.specs.Prelude.{◌≡◌, ℕ, suc, List, [], ◌∷◌, ◌++◌}

-- The text is parts, one behind the other: one for each item of a list, in order, by its place, which is counted from a first one on.
abbrev pub IsConcatenation : {X : Type 0} → (IsPart : ℕ → X → List ℕ → Type 0) → (first : ℕ) → List X → (text : List ℕ) → Type 0
IsConcatenation IsPart k [] text = text ≡ []
IsConcatenation IsPart k (x ∷ xs) text = (part : List ℕ) × (rest : List ℕ) × (text ≡ part ++ rest) × IsPart k x part × IsConcatenation IsPart (suc k) xs rest
