-- Cited by private clauses alone.
-- What is known of an adapter whose types were looked at.
use Rattle.std.specs.Prelude.{ℕ, ◌<◌}
use Rattle.fact_builder.specs.Builder.{Builder}
use Rattle.fact_plan_types.specs.Faults.{Fault, rank}
use Rattle.fact_adapter_rules.specs.declared.adapter.Adapter.{Adapter}
use Rattle.fact_types.specs.Adapters.{LinkedAdapter}
use Rattle.fact_adapter_rules.specs.Linked.{HasSides, NamesTypesOf}
use Rattle.fact_assembly.specs.Adapted.{TypesHave}

-- It has no fault by its types or its numbers, and all that it names can be looked up.
pub record HasSoundTypes (b : Builder) (k : ℕ) (a : Adapter) : Type 0 where
  pub typed : NamesTypesOf b a
  pub linked : LinkedAdapter
  pub sides : HasSides b a linked
  pub sound : (f : Fault) → TypesHave b k a f → ⊥

-- By its types or its numbers it has this fault, and none that is looked for before it.
pub record TypesHaveFirst (b : Builder) (k : ℕ) (a : Adapter) (f : Fault) : Type 0 where
  pub has : TypesHave b k a f
  pub none_before : (g : Fault) → rank g < rank f → TypesHave b k a g → ⊥
