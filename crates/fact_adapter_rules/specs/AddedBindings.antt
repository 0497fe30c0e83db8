-- Cited by private clauses alone.
-- What a call does to bindings and to names, behind any that came before.
use Rattle.std.specs.Prelude.{◌≡◌, ℕ, Bool, true, false, List, ◌++◌}
use Rattle.fact_types.specs.declared.outside.CoreDef.{CoreDef}
use Rattle.fact_adapter_rules.specs.Bindings.{AreAllDifferent, AreConsistent, Covers}
use Rattle.fact_plan_types.specs.TypeRules.{IsRepeated}

-- The pairs ys were bound behind any that are bound so far, or, where they were not, no list that begins with these and ys
-- is consistent.
abbrev pub Binds : {V : Type 0} → (old new ys : List (CoreDef × V)) → Bool → Type 0
Binds {V} old new ys true = (xs : List (CoreDef × V)) → Covers old xs → Covers new (xs ++ ys)
Binds {V} old new ys false = (xs zs : List (CoreDef × V)) → Covers old xs → AreConsistent (xs ++ (ys ++ zs)) → ⊥

-- The names ys were added behind those so far, and all are distinct where those were, or, where they were not, a name is
-- repeated in each list that begins with these and ys.
abbrev pub AddsNames : (old new ys : List (List ℕ)) → Bool → Type 0
AddsNames old new ys true = (new ≡ old ++ ys) × (AreAllDifferent old → AreAllDifferent new)
AddsNames old new ys false = (zs : List (List ℕ)) → IsRepeated (old ++ (ys ++ zs))
