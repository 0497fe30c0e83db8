-- Texts that stand one behind the other.
use Rattle.std.specs.Prelude.{◌≡◌, ℕ, List, ◌++◌, length}
use Rattle.fact_records.specs.declared.spans.TextSpan.{TextSpan}

-- The text has the other one at a place.
pub record HasTextAt (text : List ℕ) (place : TextSpan) (other : List ℕ) : Type 0 where
  pub before : List ℕ
  pub after : List ℕ
  pub is : text ≡ before ++ (other ++ after)
  pub begins : length before ≡ place.at
  pub ends : length other ≡ place.size

-- The text is the other with more behind it.
pub record Grows (old new : List ℕ) : Type 0 where
  pub more : List ℕ
  pub is : new ≡ old ++ more
