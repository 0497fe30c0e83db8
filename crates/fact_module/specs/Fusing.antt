-- Cited by private clauses alone.
-- A module that takes the adapters of a plan, one after another.
use Rattle.std.specs.Prelude.{◌≡◌, ℕ, ◌<◌, ◌≤◌, true, length}
use Rattle.fact_builder.specs.Builder.{Builder}
use Rattle.fact_plan.specs.declared.plan.FusePlan.{FusePlan}
use Rattle.fact_plan_types.specs.Faults.{Fault}
use Rattle.fact_plan_types.specs.TypeRules.{most_entries}
use Rattle.fact_adapter_rules.specs.Adapters.{adapters_before, adapters_of}
use Rattle.fact_adapter_rules.specs.AdapterRules.{HasAdapterFault}
use Rattle.fact_assembly.specs.Collected.{AreTaken, Collected, result_tuple_of}
use Rattle.fact_module.specs.Fused.{features_of, result_tuple, tunables_of}

-- It was made with what the plan says, over the types in a builder.
pub record IsFor (p : FusePlan) (b : Builder) (c : Collected) : Type 0 where
  pub builder : c.builder ≡ b
  pub tunables : c.tunables ≡ tunables_of p
  pub features : c.features ≡ features_of p

-- It took the adapters before a place, which have no fault.
pub record HasTakenTo (p : FusePlan) (b : Builder) (c : Collected) (k : ℕ) : Type 0 where
  pub is_for : IsFor p b c
  pub whole : c.whole ≡ true
  pub taken : AreTaken c (adapters_before p k)
  pub count : length c.taken ≡ k
  pub tuples : (j : ℕ) → j < k → result_tuple_of c j ≡ result_tuple p j
  pub sound : (j : ℕ) (f : Fault) → j < k → HasAdapterFault p j f → ⊥
  pub few : k ≤ most_entries

-- It took all of them.
pub record HasTakenAll (p : FusePlan) (c : Collected) : Type 0 where
  pub whole : c.whole ≡ true
  pub tunables : c.tunables ≡ tunables_of p
  pub features : c.features ≡ features_of p
  pub taken : AreTaken c (adapters_of p)
  pub tuples : (j : ℕ) → j < length p.adapters → result_tuple_of c j ≡ result_tuple p j
