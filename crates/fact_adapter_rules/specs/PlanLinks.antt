-- Cited by private clauses alone, but for what `linked_adapter` ensures.
-- An adapter of a plan that was made over the types of the plan, and what the checks know when they come to a place.
use Rattle.std.specs.Prelude.{◌≡◌, ℕ, ◌<◌, ◌≤◌, Some}
use Rattle.fact_entity.specs.declared.id.Id.{Id}
use Rattle.fact_entity.specs.declared.table.TypeFuncs.{TypeFuncs}
use Rattle.fact_builder.specs.Builder.{Builder}
use Rattle.fact_plan.specs.declared.plan.PlanSide.{PlanSide}
use Rattle.fact_plan.specs.declared.plan.PlanAdapter.{PlanAdapter}
use Rattle.fact_plan.specs.declared.plan.FusePlan.{FusePlan}
use Rattle.fact_plan_types.specs.declared.error.Place.{Place}
use Rattle.fact_plan_types.specs.declared.error.Place.TheVariants.{Adapter as at_adapter}
use Rattle.fact_plan_types.specs.Faults.{Fault, rank}
use Rattle.fact_plan_types.specs.TypeRules.{most_entries}
use Rattle.fact_adapter_rules.specs.declared.adapter.Adapter.{Adapter}
use Rattle.fact_adapter_rules.specs.declared.adapter.AdapterOptionsDfg.{AdapterOptionsDfg}
use Rattle.fact_types.specs.Adapters.{LinkedAdapter, Side}
use Rattle.fact_adapter_rules.specs.Adapters.{adapter_of, adapters_before, side_of}
use Rattle.fact_adapter_rules.specs.AdapterRules.{HasAdapterFault}
use Rattle.fact_adapter_rules.specs.Checked.{AreChecked, Checks}
use Rattle.fact_adapter_rules.specs.Linked.{HasSides, IsSideOf}

-- The options are those of a side of the plan.
pub record LinksSide (p : FusePlan) (b : Builder) (s : PlanSide) (ty : Id TypeFuncs) (o : AdapterOptionsDfg) : Type 0 where
  pub linked : Side
  pub is_side : side_of p s ≡ Some linked
  pub stands : IsSideOf b ty o linked

-- The adapter is one of the plan.
pub record LinksAdapter (p : FusePlan) (b : Builder) (x : PlanAdapter) (a : Adapter) : Type 0 where
  pub linked : LinkedAdapter
  pub is_adapter : adapter_of p x ≡ Some linked
  pub stands : HasSides b a linked
  pub name : linked.name ≡ x.name
  pub transparent : linked.transparent ≡ x.transparent

-- The adapters before a place have no fault, and were checked.
pub record IsAt (p : FusePlan) (b : Builder) (c : Checks) (k : ℕ) : Type 0 where
  pub builder : c.builder ≡ b
  pub concurrency : c.concurrency ≡ p.tunables.concurrency
  pub checked : AreChecked c (adapters_before p k)
  pub sound : (j : ℕ) (f : Fault) → j < k → HasAdapterFault p j f → ⊥
  pub few : k ≤ most_entries

-- The adapter at a place has this fault, and none that is looked for before it.
pub record IsFirstHere (p : FusePlan) (k : ℕ) (f : Fault) (place : Place) : Type 0 where
  pub is_here : place ≡ at_adapter k
  pub has : HasAdapterFault p k f
  pub no_rule_before : (g : Fault) → rank g < rank f → HasAdapterFault p k g → ⊥
