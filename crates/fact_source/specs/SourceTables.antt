-- The tables of the source as lists.
use Rattle.std.specs.Prelude.{ℕ, ◌+◌, List, [], length, Option, slice_get, option_map}
use Rattle.fact_entity.specs.declared.id.Id.{Id}
use Rattle.fact_entity.specs.declared.table.SourceInstanceTypes.{SourceInstanceTypes}
use Rattle.fact_entity.specs.declared.table.SourceComponentTypes.{SourceComponentTypes}
use Rattle.fact_source.specs.declared.defined.ComponentDefinedType.{ComponentDefinedType}
use Rattle.fact_source.specs.declared.defined.SourceFunc.{SourceFunc}
use Rattle.fact_source.specs.declared.items.SourceInstance.{SourceInstance}
use Rattle.fact_source.specs.declared.items.SourceComponent.{SourceComponent}
use Rattle.fact_source.specs.declared.modules.SourceModule.{SourceModule}
use Rattle.fact_source.specs.declared.tables.Ranked.{Ranked}

-- The number of the source, its tables, and how many resources it has. The rank of an instance or a component is how many
-- of these two were there before it.
pub record SourceTables : Type 0 where
  pub number : ℕ
  pub defined : List ComponentDefinedType
  pub funcs : List SourceFunc
  pub instances : List (Ranked SourceInstance)
  pub components : List (Ranked SourceComponent)
  pub modules : List SourceModule
  pub resources : ℕ

-- The source of a number, without entries.
abbrev pub no_entries : ℕ → SourceTables
no_entries n = record { number = n; defined = []; funcs = []; instances = []; components = []; modules = []; resources = 0 }

-- The instance of an id, and the component of an id, where they are there.
abbrev pub instance_at : SourceTables → Id SourceInstanceTypes → Option SourceInstance
instance_at s i = option_map (λ r. r.entry) (slice_get s.instances i.number)

abbrev pub component_at : SourceTables → Id SourceComponentTypes → Option SourceComponent
component_at s i = option_map (λ r. r.entry) (slice_get s.components i.number)

-- An entry with the rank that it gets behind all that are there.
abbrev pub ranked : {X : Type 0} → SourceTables → X → Ranked X
ranked s e = record { entry = e; rank = length s.instances + length s.components }
