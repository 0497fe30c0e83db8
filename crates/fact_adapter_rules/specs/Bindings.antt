-- Items that are bound to values, as pairs; and names of which no two are the same.
use Rattle.std.specs.Prelude.{◌≡◌, ◌≢◌, ◌↔◌, ℕ, List, Contains, Any, AllPairs}

-- No item is bound to two values.
abbrev pub AreConsistent : {D V : Type 0} → List (D × V) → Type 0
AreConsistent xs = AllPairs (λ a b. a.0 ≡ b.0 → a.1 ≡ b.1) xs

-- The pairs of m are those of xs, and m has one pair an item.
pub record Covers {D V : Type 0} (m xs : List (D × V)) : Type 0 where
  pub same : (p : D × V) → Contains m p ↔ Contains xs p
  pub once : AllPairs (λ a b. a.0 ≢ b.0) m

-- An item is bound to another value than this one.
abbrev pub IsBoundToAnother : {D V : Type 0} → List (D × V) → D → V → Type 0
IsBoundToAnother xs d v = Any (λ p. (p.0 ≡ d) × (p.1 ≢ v)) xs

-- No two names are the same: none is repeated (`IsRepeated` of fact_plan_types).
abbrev pub AreAllDifferent : List (List ℕ) → Type 0
AreAllDifferent names = AllPairs (λ x y. x ≢ y) names
