-- What conversions come to.
use Rattle.std.specs.Prelude.{◌≡◌, ◌≤◌, ◌<◌, ℕ, List, [], ◌∷◌, Some, None, Result, Ok, Err, slice_get}
use Rattle.fact_entity.specs.declared.id.Id.{Id}
use Rattle.fact_entity.specs.declared.table.AbstractResources.{AbstractResources}
use Rattle.fact_entity.specs.declared.table.SourceDefinedTypes.{SourceDefinedTypes}
use Rattle.fact_entity.specs.declared.table.SourceFuncTypes.{SourceFuncTypes}
use Rattle.fact_entity.specs.declared.table.SourceResources.{SourceResources}
use Rattle.fact_entity.specs.declared.table.TypeComponentLocalErrorContextTables.{TypeComponentLocalErrorContextTables}
use Rattle.fact_entity.specs.declared.table.TypeFuncs.{TypeFuncs}
use Rattle.fact_entity.specs.declared.table.TypeResourceTables.{TypeResourceTables}
use Rattle.fact_source.specs.declared.defined.ComponentDefinedType.TheVariants as ty
use Rattle.fact_source.specs.declared.defined.ComponentValType.{ComponentValType}
use Rattle.fact_source.specs.declared.defined.ComponentValType.TheVariants as val
use Rattle.fact_source.specs.declared.defined.PrimitiveValType.TheVariants as word
use Rattle.fact_source.specs.declared.items.ComponentEntityType.{ComponentEntityType}
use Rattle.fact_source.specs.declared.items.ComponentEntityType.TheVariants as entity
use Rattle.fact_source.specs.declared.items.SourceItem.{SourceItem}
use Rattle.fact_source.specs.SourceTables.{SourceTables}
use Rattle.fact_types.specs.declared.externs.ComponentExtern.{ComponentExtern}
use Rattle.fact_types.specs.declared.interface.InterfaceType.{InterfaceType}
use Rattle.fact_types.specs.declared.interface.InterfaceType.TheVariants as plain
use Rattle.fact_types.specs.declared.interface.TypeDef.{TypeDef}
use Rattle.fact_types.specs.declared.interface.TypeDef.TheVariants as def
use Rattle.fact_types.specs.declared.kinds.TypeResourceTable.{TypeResourceTable}
use Rattle.fact_types.specs.Tables.{Tables}
use Rattle.fact_builder.specs.Keeps.{Keeps}
use Rattle.fact_builder.specs.declared.error.BuildError.{BuildError}
use Rattle.fact_builder.specs.declared.registration.Registration.{Registration}
use Rattle.fact_builder.specs.declared.registration.Registration.TheVariants as is
use Rattle.fact_builder.specs.Known.{kept_table, registration, new_table_of, AreKeptLive}
use Rattle.fact_convert.specs.Appended.{IsDefMade}
use Rattle.fact_convert.specs.Converted.{IsTypeFrom, IsDefFrom}
use Rattle.fact_convert.specs.BuilderTables.{tables_of}
use Rattle.fact_builder.specs.Builder.{Builder}
use Rattle.fact_convert.specs.Performing.{PerformsAll, EndsEarly}
use Rattle.fact_convert.specs.SourceShapes.{IsPlainFrom}
use Rattle.fact_convert.specs.Tasks.{Task, makes_error_context, value_tasks, tasks_of}

-- ---- what stays, whatever the answer

-- Each entry keeps its place.
abbrev pub KeepsEntries : {X : Type 0} → List X → List X → Type 0
KeepsEntries {X} old new = (i : ℕ) (x : X) → slice_get old i ≡ Some x → slice_get new i ≡ Some x

-- Entries are only added: those of the tables below keep their places, and the core function types that are set stay. Types
-- that are made of members stay live and keep their shapes.
pub record OnlyAdds (old new : Tables) : Type 0 where
  pub modules : KeepsEntries old.modules new.modules
  pub components : KeepsEntries old.components new.components
  pub component_instances : KeepsEntries old.component_instances new.component_instances
  pub functions : KeepsEntries old.functions new.functions
  pub futures : KeepsEntries old.futures new.futures
  pub future_tables : KeepsEntries old.future_tables new.future_tables
  pub streams : KeepsEntries old.streams new.streams
  pub stream_tables : KeepsEntries old.stream_tables new.stream_tables
  pub error_context_tables : KeepsEntries old.error_context_tables new.error_context_tables
  pub resource_tables : KeepsEntries old.resource_tables new.resource_tables
  pub module_types : new.module_types ≡ old.module_types

-- What resources were registered as, and the tables that were kept for them, stay; so do the types, their source, and the
-- instance that is set. A resource that is registered anew has a number of its own that no abstract resource had before,
-- and a table that is kept anew is the one that the resource's registration asks for.
pub record BuilderGrows (old new : Builder) : Type 0 where
  pub source : new.source ≡ old.source
  pub types : Keeps (tables_of old) (tables_of new)
  pub tables : OnlyAdds (tables_of old) (tables_of new)
  pub core : KeepsEntries old.module_types new.module_types
  pub registered : (r : Id SourceResources) (k : Registration) → registration old.resources r ≡ Some k → registration new.resources r ≡ Some k
  pub numbered : (r : Id SourceResources) (k : Registration) → registration old.resources r ≡ None → registration new.resources r ≡ Some k → (i : Id AbstractResources) × (k ≡ is.Abstract i) × (old.abstracts < i.number) × (i.number ≤ new.abstracts)
  pub kept : (r : Id SourceResources) (t : Id TypeResourceTables) → kept_table old.resources r ≡ Some t → kept_table new.resources r ≡ Some t
  pub taken : (r : Id SourceResources) (t : Id TypeResourceTables) → kept_table old.resources r ≡ None → kept_table new.resources r ≡ Some t → (e : TypeResourceTable) × (new_table_of (registration new.resources r) old.resources.instance ≡ Ok e) × (slice_get (tables_of new).resource_tables t.number ≡ Some e)
  pub instance : new.resources.instance ≡ old.resources.instance
  pub counted : old.abstracts ≤ new.abstracts

-- What a conversion asks of the builder: types come from this source, and each table that is kept is there.
pub record IsReadyFor (s : SourceTables) (c : Builder) : Type 0 where
  pub source : s.number ≡ c.source
  pub kept : AreKeptLive c.resources (tables_of c)

-- ---- a conversion: all its tasks were performed and what was answered is from the source, or it ended early
abbrev pub ConvertsBy : {X : Type 0} → SourceTables → Builder → List Task → (Builder → X → Type 0) → Builder → Result X BuildError → Type 0
ConvertsBy s old ms IsFrom new (Ok x) = PerformsAll s old ms new × IsFrom new x
ConvertsBy s old ms IsFrom new (Err e) = EndsEarly s old ms e new

-- The conversion of an import or export by its type: a module, an instance or a component is appended, and its index answered.
abbrev pub ConvertsEntity : SourceTables → Builder → ComponentEntityType → Builder → Result TypeDef BuildError → Type 0
ConvertsEntity s old e new result = ConvertsBy s old (tasks_of s e) (λ c d. IsDefMade s c e d) new result

-- The conversion of an import or export, with what is said of it.
abbrev pub ConvertsItem : SourceTables → Builder → SourceItem → Builder → Result ComponentExtern BuildError → Type 0
ConvertsItem s old x new result = ConvertsBy s old (tasks_of s x.ty) (λ c y. (y.extern_data.implements ≡ x.implements) × (y.extern_data.external_id ≡ x.external_id) × IsDefMade s c x.ty y.ty) new result

-- The conversion of a function type.
abbrev pub ConvertsFunc : SourceTables → Builder → Id SourceFuncTypes → Builder → Result (Id TypeFuncs) BuildError → Type 0
ConvertsFunc s old i new result = ConvertsBy s old (tasks_of s (entity.Func i)) (λ c j. IsDefFrom s c (entity.Func i) (def.ComponentFunc j)) new result

-- The conversion of a type of values, and of a defined type.
abbrev pub ConvertsValue : SourceTables → Builder → ComponentValType → Builder → Result InterfaceType BuildError → Type 0
ConvertsValue s old v new result = ConvertsBy s old (value_tasks s v) (λ c t. IsTypeFrom s c v t) new result

abbrev pub ConvertsDefined : SourceTables → Builder → Id SourceDefinedTypes → Builder → Result InterfaceType BuildError → Type 0
ConvertsDefined s old i new result = ConvertsValue s old (val.Defined i) new result

-- The table of the error contexts of the instance that is set, whatever the source is.
abbrev pub ConvertsErrorContext : Builder → Builder → Result (Id TypeComponentLocalErrorContextTables) BuildError → Type 0
ConvertsErrorContext old new result = (s : SourceTables) → ConvertsBy s old (makes_error_context ∷ []) (λ c i. IsPlainFrom c (ty.Primitive word.ErrorContext) (plain.ErrorContext i)) new result
