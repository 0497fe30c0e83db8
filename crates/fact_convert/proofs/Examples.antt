-- The definitions at small sources.
use Rattle.std.proofs.Common.{◌≡◌, ℕ, [], ◌∷◌, None, refl}
use Rattle.std.specs.Prelude.{codes}
use Rattle.fact_entity.specs.declared.id.Id.{Id}
use Rattle.fact_entity.specs.declared.table.SourceResources.{SourceResources}
use Rattle.fact_entity.specs.declared.table.SourceInstanceTypes.{SourceInstanceTypes}
use Rattle.fact_entity.specs.declared.table.SourceFuncTypes.{SourceFuncTypes}
use Rattle.fact_entity.specs.declared.source_ids.ComponentAnyTypeId.TheVariants as any
use Rattle.fact_source.specs.declared.defined.ComponentValType.{ComponentValType}
use Rattle.fact_source.specs.declared.items.ComponentEntityType.TheVariants as entity
use Rattle.fact_source.specs.declared.items.SourceInstance.{SourceInstance}
use Rattle.fact_source.specs.SourceTables.{SourceTables, no_entries}
use Rattle.fact_builder.specs.declared.error.BuildError.TheVariants.{UnsupportedTypeExport, ValuesNotSupported, UnknownResource, NoInstance}
use Rattle.fact_builder.specs.Known.{no_resources, registration}
use Rattle.fact_builder.specs.Walk.{resources_of}
use Rattle.fact_builder.specs.Builder.{no_types, Builder}
use Rattle.fact_convert.specs.Merging.{merged}
use Rattle.fact_builder.specs.Registering.{RegistersNext}
use Rattle.fact_convert.specs.Performing.{Fails}
use Rattle.fact_convert.specs.Tasks.{registers, takes_table, makes_error_context, refuses, appends_instance, tasks_of}

-- a name keeps its first place and takes its last value
merges : merged {V = ℕ} ((codes "a", 1) ∷ (codes "b", 2) ∷ (codes "a", 3) ∷ []) ≡ ((codes "a", 3) ∷ (codes "b", 2) ∷ [])
merges = refl

-- an instance that exports one resource
abbrev exporting : Id SourceResources → SourceInstance
exporting r = record { exports = (codes "r", record { ty = entity.AnyType (any.Resource r); implements = None; external_id = None }) ∷ [] }

abbrev source_of : Id SourceResources → SourceTables
source_of r = record (no_entries 0) { instances = record { entry = exporting r; rank = 0 } ∷ []; resources = 1 }

-- the first instance of a source
abbrev first : Id SourceInstanceTypes → Id SourceInstanceTypes
first i = record i { number = 0 }

-- its resource is met by its path
walks : (r : Id SourceResources) (i : Id SourceInstanceTypes) → resources_of (source_of r) [] (entity.Instance (first i)) ≡ ((codes "r" ∷ [], r) ∷ [])
walks r i = refl

-- the resource is registered, then its table is taken, then the instance is appended
converts : (r : Id SourceResources) (i : Id SourceInstanceTypes) → tasks_of (source_of r) (entity.Instance (first i)) ≡ (registers r ∷ takes_table r ∷ appends_instance (exporting r) ∷ [])
converts r i = refl

-- a type export of a function, and a value, are refused
exports_func : (s : SourceTables) (f : Id SourceFuncTypes) → tasks_of s (entity.AnyType (any.Func f)) ≡ (refuses UnsupportedTypeExport ∷ [])
exports_func s f = refl

exports_value : (s : SourceTables) (v : ComponentValType) → tasks_of s (entity.Value v) ≡ (refuses ValuesNotSupported ∷ [])
exports_value s v = refl

-- the first resource without a registration gets the number 1
numbers_from_one : (r : Id SourceResources) (new : Builder) → RegistersNext (no_types 0) r (registration no_resources r) new → new.abstracts ≡ 1
numbers_from_one r new (i, n, l, h) = λ k. (h k).abstracts

-- a resource that is neither kept nor registered is unknown, and error contexts need an instance
unknown : (s : SourceTables) (r : Id SourceResources) → Fails s (no_types 0) (takes_table r) UnknownResource
unknown s r = (refl, refl)

needs_instance : (s : SourceTables) → Fails s (no_types 0) makes_error_context NoInstance
needs_instance s = refl
