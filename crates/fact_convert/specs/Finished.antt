-- What the end of a builder gives for a component.
use Rattle.std.specs.Prelude.{ℕ, ◌≡◌, ◌⊎◌, List, [], ◌∷◌, ◌++◌, length, map, ◌<◌, All, Some, Result, Ok, Err, slice_get}
use Rattle.std.specs.List.{AllZip}
use Rattle.fact_entity.specs.declared.id.Id.{Id}
use Rattle.fact_entity.specs.declared.table.Exports.{Exports}
use Rattle.fact_entity.specs.declared.table.TypeComponents.{TypeComponents}
use Rattle.fact_types.specs.declared.externs.ComponentExtern.{ComponentExtern}
use Rattle.fact_types.specs.declared.externs.ComponentExternData.{ComponentExternData}
use Rattle.fact_types.specs.declared.interface.TypeDef.{TypeDef}
use Rattle.fact_types.specs.declared.interface.TypeDef.TheVariants as def
use Rattle.fact_types.specs.Externs.{ComponentType}
use Rattle.fact_types.specs.Tables.{Tables, IsLiveDef, AreLiveExterns}
use Rattle.fact_builder.specs.Builder.{Builder}
use Rattle.fact_convert.specs.declared.component.Component.{Component}
use Rattle.fact_convert.specs.declared.component.Export.{Export}
use Rattle.fact_convert.specs.declared.component.Export.TheVariants as item
use Rattle.fact_builder.specs.declared.error.BuildError.{BuildError}
use Rattle.fact_builder.specs.declared.error.BuildError.TheVariants.{OutOfMemory, TooLarge}
use Rattle.fact_convert.specs.Merging.{merged}
use Rattle.fact_convert.specs.Interning.{CanGrow}

-- The type of an item that is exported.
abbrev pub type_of_export : Export → TypeDef
type_of_export (item.LiftedFunction i) = def.ComponentFunc i
type_of_export (item.ModuleStatic i) = def.Module i
type_of_export (item.ModuleImport i) = def.Module i
type_of_export (item.Instance i) = def.ComponentInstance i
type_of_export (item.AnyType d) = d

-- What a component names is there: the items of its exports, and the types of its imports and items.
pub record NamesLiveItems (t : Tables) (c : Component) : Type 0 where
  pub exports : All (λ x. x.1.number < length c.export_items) c.exports
  pub imports : AreLiveExterns t c.import_types
  pub items : All (λ x. IsLiveDef t (type_of_export x)) c.export_items

-- An export has its name, the type of its item, and what is said of it.
pub record IsExternOf (items : List Export) (x : List ℕ × (Id Exports × ComponentExternData)) (y : List ℕ × ComponentExtern) : Type 0 where
  pub name : y.0 ≡ x.0
  pub told : y.1.extern_data ≡ x.1.1
  pub ty : (e : Export) × (slice_get items x.1.0.number ≡ Some e) × (y.1.ty ≡ type_of_export e)

-- The type of the component: its imports and exports in order, repeated names merged.
pub record IsComponentTypeOf (c : Component) (e : ComponentType) : Type 0 where
  pub imports : e.imports ≡ merged c.import_types
  pub exports : AllZip (IsExternOf c.export_items) (merged (map (λ x. (x.0, (x.1, x.2))) c.exports)) e.exports

-- All tables stay, with the type of the component behind the last, and with the core function types.
abbrev pub Finishes : Builder → Component → Result (Tables × Id TypeComponents) BuildError → Type 0
Finishes b c (Ok r) = (e : ComponentType) × IsComponentTypeOf c e × CanGrow b.tables.components × (r.0 ≡ record b.tables { components = b.tables.components ++ e ∷ []; module_types = Some b.module_types }) × (r.1.number ≡ length b.tables.components)
Finishes b c (Err e) = (e ≡ OutOfMemory) ⊎ ((e ≡ TooLarge) × (length b.tables.components ≡ 4294967295))

-- The same of a builder that goes on: the type of the component stands behind the last one, or the builder is as before.
abbrev pub FinishesWith : Builder → Component → Builder → Result (Id TypeComponents) BuildError → Type 0
FinishesWith b c new (Ok i) = (e : ComponentType) × IsComponentTypeOf c e × CanGrow b.tables.components × (new ≡ record b { tables = record b.tables { components = b.tables.components ++ e ∷ [] } }) × (i.number ≡ length b.tables.components)
FinishesWith b c new (Err e) = (new ≡ b) × ((e ≡ OutOfMemory) ⊎ ((e ≡ TooLarge) × (length b.tables.components ≡ 4294967295)))
