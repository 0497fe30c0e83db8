-- Cited by private clauses alone.
-- A step of reading UTF-16.
use Rattle.std.specs.Prelude.{◌≡◌, ℕ, List, ◌∷◌, Option, Some, None}
use denote.Ref.{Bor}
use Rattle.std.specs.Char.Utf16.{utf16_chars}
use Rattle.fact_types.specs.Options.{◌>>=◌}
use Rattle.fact_values.specs.Texts.{all_there}

-- Units begin with a scalar value, with other units behind it, or else they spell no text.
abbrev pub Begins : Option (ℕ × Bor (List ℕ)) → List ℕ → Type 0
Begins None units = all_there (utf16_chars units) ≡ None
Begins (Some r) units = all_there (utf16_chars units) ≡ all_there (utf16_chars r.1.now) >>= (λ cs. Some (r.0 ∷ cs))
