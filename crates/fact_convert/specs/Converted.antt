-- What an import or export of the source becomes.
use Rattle.std.specs.Prelude.{ℕ, suc, ◌≡◌, List, map, Some, option_to_list, slice_get}
use Rattle.std.specs.List.{AllZip}
use Rattle.fact_entity.specs.declared.id.Id.{Id}
use Rattle.fact_entity.specs.declared.table.ModuleInternedTypes.{ModuleInternedTypes}
use Rattle.fact_entity.specs.declared.source_ids.ComponentAnyTypeId.{ComponentAnyTypeId}
use Rattle.fact_entity.specs.declared.source_ids.ComponentAnyTypeId.TheVariants as any
use Rattle.fact_wasm.specs.declared.types.ValType.{ValType}
use Rattle.fact_source.specs.declared.defined.ComponentValType.{ComponentValType}
use Rattle.fact_source.specs.declared.defined.ComponentValType.TheVariants as val
use Rattle.fact_source.specs.declared.defined.SourceFunc.{SourceFunc}
use Rattle.fact_source.specs.declared.items.ComponentEntityType.{ComponentEntityType}
use Rattle.fact_source.specs.declared.items.ComponentEntityType.TheVariants as entity
use Rattle.fact_source.specs.declared.items.SourceItem.{SourceItem}
use Rattle.fact_source.specs.declared.items.SourceInstance.{SourceInstance}
use Rattle.fact_source.specs.declared.items.SourceComponent.{SourceComponent}
use Rattle.fact_source.specs.declared.modules.SourceEntityType.{SourceEntityType}
use Rattle.fact_source.specs.declared.modules.SourceEntityType.TheVariants as source
use Rattle.fact_source.specs.declared.modules.SourceModule.{SourceModule}
use Rattle.fact_source.specs.SourceTables.{SourceTables, instance_at, component_at}
use Rattle.fact_source.specs.Live.{reach_of}
use Rattle.fact_types.specs.declared.externs.ComponentExtern.{ComponentExtern}
use Rattle.fact_types.specs.declared.externs.EngineOrModuleTypeIndex.TheVariants as core
use Rattle.fact_types.specs.declared.externs.EntityType.{EntityType}
use Rattle.fact_types.specs.declared.externs.EntityType.TheVariants as made
use Rattle.fact_types.specs.declared.interface.InterfaceType.{InterfaceType}
use Rattle.fact_types.specs.declared.interface.InterfaceType.TheVariants as ty
use Rattle.fact_types.specs.declared.interface.TypeDef.{TypeDef}
use Rattle.fact_types.specs.declared.interface.TypeDef.TheVariants as def
use Rattle.fact_types.specs.declared.kinds.TypeFunc.{TypeFunc}
use Rattle.fact_types.specs.Externs.{ModuleType, ComponentType, InstanceType}
use Rattle.fact_types.specs.Shapes.{Shape, Members, k_tuple, s_node}
use Rattle.fact_types.specs.Tables.{HasShape}
use Rattle.fact_builder.specs.Known.{kept_table}
use Rattle.fact_convert.specs.BuilderTables.{tables_of}
use Rattle.fact_builder.specs.Builder.{Builder}
use Rattle.fact_convert.specs.Merging.{merged, merged_pairs}
use Rattle.fact_convert.specs.SourceShapes.{placed_values, HasSourceShape, HaveSourceShapes}

-- ---- types of values and functions

-- The type has the shape that the source's type has.
abbrev pub IsTypeFrom : SourceTables → Builder → ComponentValType → InterfaceType → Type 0
IsTypeFrom s c v t = (sh : Shape) × HasShape (tables_of c) t sh × HasSourceShape s c v sh

-- The type is the tuple of these types.
abbrev pub IsTupleFrom : SourceTables → Builder → List ComponentValType → InterfaceType → Type 0
IsTupleFrom s c vs t = (ms : Members) × HasShape (tables_of c) t (s_node k_tuple ms) × HaveSourceShapes s c (placed_values 0 vs) ms

-- The function has the names of its parameters, in order and repeated as they stand, and the tuples of its parameters and
-- results.
pub record IsFuncFrom (s : SourceTables) (c : Builder) (f : SourceFunc) (g : TypeFunc) : Type 0 where
  pub async_ : g.async_ ≡ f.async_
  pub names : g.param_names ≡ map (λ p. p.0) f.params
  pub params : IsTupleFrom s c (map (λ p. p.1) f.params) (ty.Tuple g.params)
  pub results : IsTupleFrom s c (option_to_list f.result) (ty.Tuple g.results)

-- ---- core modules

-- The core function type of an index.
abbrev pub HasCoreType : Builder → Id ModuleInternedTypes → List ValType → List ValType → Type 0
HasCoreType c i params results = slice_get c.module_types i.number ≡ Some (record { params = params; results = results })

abbrev pub IsEntityFrom : Builder → SourceEntityType → EntityType → Type 0
IsEntityFrom c (source.Func params results) (made.Function (core.Module i)) = HasCoreType c i params results
IsEntityFrom c (source.Tag params results) (made.Tag (core.Module i)) = HasCoreType c i params results
IsEntityFrom c (source.Table min most wide) e = e ≡ made.Table min most wide
IsEntityFrom c (source.Memory min most shared wide page) e = e ≡ made.Memory min most shared wide page
IsEntityFrom c (source.Global v mutable) e = e ≡ made.Global v mutable
IsEntityFrom c x e = ⊥

-- Imports are told apart by both their names, exports by their name; repeated ones are merged.
pub record IsModuleFrom (c : Builder) (m : SourceModule) (e : ModuleType) : Type 0 where
  pub imports : AllZip (λ x y. (y.0 ≡ x.0) × IsEntityFrom c x.1 y.1) (merged_pairs (map (λ x. ((x.0, x.1), x.2)) m.imports)) e.imports
  pub exports : AllZip (λ x y. (y.0 ≡ x.0) × IsEntityFrom c x.1 y.1) (merged m.exports) e.exports

-- ---- instances and components

-- An import or export has its name and what is said of it beside its type, and its type is from that of the source.
pub record IsItemFrom (IsFrom : ComponentEntityType → TypeDef → Type 0) (x : List ℕ × SourceItem) (y : List ℕ × ComponentExtern) : Type 0 where
  pub name : y.0 ≡ x.0
  pub implements : y.1.extern_data.implements ≡ x.1.implements
  pub external_id : y.1.extern_data.external_id ≡ x.1.external_id
  pub ty : IsFrom x.1.ty y.1.ty

-- What an item becomes, within so many instances and components; repeated names of imports and exports are merged. Of
-- values, and of exports of other types than defined ones and resources, nothing becomes.
abbrev pub IsDefWithin : ℕ → SourceTables → Builder → ComponentEntityType → TypeDef → Type 0
IsDefWithin n s c (entity.Module i) (def.Module j) = (m : SourceModule) × (e : ModuleType) × (slice_get s.modules i.number ≡ Some m) × (slice_get (tables_of c).modules j.number ≡ Some e) × IsModuleFrom c m e
IsDefWithin n s c (entity.Func i) (def.ComponentFunc j) = (f : SourceFunc) × (g : TypeFunc) × (slice_get s.funcs i.number ≡ Some f) × (slice_get (tables_of c).functions j.number ≡ Some g) × IsFuncFrom s c f g
IsDefWithin n s c (entity.AnyType (any.Defined i)) (def.Interface t) = IsTypeFrom s c (val.Defined i) t
IsDefWithin n s c (entity.AnyType (any.Resource r)) (def.Resource j) = kept_table c.resources r ≡ Some j
IsDefWithin (suc n) s c (entity.Instance i) (def.ComponentInstance j) = (x : SourceInstance) × (e : InstanceType) × (instance_at s i ≡ Some x) × (slice_get (tables_of c).component_instances j.number ≡ Some e) × AllZip (IsItemFrom (λ a b. IsDefWithin n s c a b)) (merged x.exports) e.exports
IsDefWithin (suc n) s c (entity.Component i) (def.Component j) = (x : SourceComponent) × (e : ComponentType) × (component_at s i ≡ Some x) × (slice_get (tables_of c).components j.number ≡ Some e) × AllZip (IsItemFrom (λ a b. IsDefWithin n s c a b)) (merged x.imports) e.imports × AllZip (IsItemFrom (λ a b. IsDefWithin n s c a b)) (merged x.exports) e.exports
IsDefWithin n s c e d = ⊥

-- What an item becomes: it lies within no more instances and components than it reaches.
abbrev pub IsDefFrom : SourceTables → Builder → ComponentEntityType → TypeDef → Type 0
IsDefFrom s c e d = IsDefWithin (reach_of s e) s c e d

-- A type of any kind, as an import or export of that type.
abbrev pub entity_of : ComponentAnyTypeId → ComponentEntityType
entity_of (any.Func i) = entity.Func i
entity_of (any.Instance i) = entity.Instance i
entity_of (any.Component i) = entity.Component i
entity_of i = entity.AnyType i
