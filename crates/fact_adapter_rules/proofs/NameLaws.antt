-- Names that are there already.
use Rattle.std.proofs.Common.{◌≢◌, List, ◌∷◌, ◌++◌, Contains, AllPairs, refl}
use Rattle.fact_adapter_rules.proofs.PairLaws.{last_pair}

-- such a name stands twice, whatever comes behind it
pub not_distinct : {X : Type 0} (names behind : List X) (x : X) → Contains names x → AllPairs (λ a b. a ≢ b) (names ++ x ∷ behind) → ⊥
not_distinct names behind x there h = last_pair (λ a b. a ≢ b) names behind x x there h refl
