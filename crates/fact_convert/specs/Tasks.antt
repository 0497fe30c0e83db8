-- What a conversion does on its way, as a list of tasks in order, whatever the tables hold.
use Rattle.std.specs.Prelude.{ℕ, zero, suc, List, [], ◌∷◌, ◌++◌, map, length, flat_map, Option, Some, None, option_to_list, slice_get}
use Rattle.fact_entity.specs.declared.id.Id.{Id}
use Rattle.fact_entity.specs.declared.table.SourceResources.{SourceResources}
use Rattle.fact_entity.specs.declared.source_ids.ComponentAnyTypeId.TheVariants as any
use Rattle.fact_wasm.specs.declared.types.ValType.{ValType}
use Rattle.fact_source.specs.declared.defined.PrimitiveValType.TheVariants as word
use Rattle.fact_source.specs.declared.defined.ComponentValType.{ComponentValType}
use Rattle.fact_source.specs.declared.defined.ComponentValType.TheVariants as val
use Rattle.fact_source.specs.declared.defined.ComponentDefinedType.{ComponentDefinedType}
use Rattle.fact_source.specs.declared.defined.ComponentDefinedType.TheVariants as ty
use Rattle.fact_source.specs.declared.defined.SourceFunc.{SourceFunc}
use Rattle.fact_source.specs.declared.items.ComponentEntityType.{ComponentEntityType}
use Rattle.fact_source.specs.declared.items.ComponentEntityType.TheVariants as entity
use Rattle.fact_source.specs.declared.items.SourceItem.{SourceItem}
use Rattle.fact_source.specs.declared.items.SourceInstance.{SourceInstance}
use Rattle.fact_source.specs.declared.items.SourceComponent.{SourceComponent}
use Rattle.fact_source.specs.declared.modules.SourceEntityType.{SourceEntityType}
use Rattle.fact_source.specs.declared.modules.SourceEntityType.TheVariants as source
use Rattle.fact_source.specs.declared.modules.SourceModule.{SourceModule}
use Rattle.fact_source.specs.SourceTables.{SourceTables, instance_at, component_at}
use Rattle.fact_source.specs.Live.{reach_of}
use Rattle.fact_builder.specs.declared.error.BuildError.{BuildError}
use Rattle.fact_builder.specs.declared.error.BuildError.TheVariants.{UnsupportedTypeExport, ValuesNotSupported, CustomDescriptors}
use Rattle.fact_builder.specs.Walk.{resources_of}
use Rattle.fact_convert.specs.SourceShapes.{defined_of}

-- One task: to register a resource where it has no registration; to take a resource's table; to look for the table of error
-- contexts, for a type, a tuple, a function or a core function type, and to add it where it is not there; to do so with the
-- table of a future's or a stream's handles; to append a module, an instance or a component; or to refuse, always.
pub data Task : Type 0 where
  registers : Id SourceResources → Task
  takes_table : Id SourceResources → Task
  makes_error_context : Task
  makes_type : ComponentDefinedType → Task
  makes_handles : ComponentDefinedType → Task
  makes_tuple : List ComponentValType → Task
  makes_func : SourceFunc → Task
  makes_core : List ValType → List ValType → Task
  appends_module : SourceModule → Task
  appends_instance : SourceInstance → Task
  appends_component : SourceComponent → Task
  refuses : BuildError → Task

-- ---- types of values

-- The types of the members of a defined type, in order, those under repeated names among them.
abbrev pub member_types : ComponentDefinedType → List ComponentValType
member_types (ty.Record fields) = map (λ f. f.1) fields
member_types (ty.Variant cases) = flat_map (λ c. option_to_list c.1) cases
member_types (ty.List v) = v ∷ []
member_types (ty.Map k v) = k ∷ v ∷ []
member_types (ty.Tuple vs) = vs
member_types (ty.Option v) = v ∷ []
member_types (ty.Result ok err) = option_to_list ok ++ option_to_list err
member_types (ty.Future p) = option_to_list p
member_types (ty.Stream p) = option_to_list p
member_types (ty.FixedLengthList v n) = v ∷ []
member_types e = []

-- The tasks of a defined type itself, behind those of its members: of a future or a stream its type, and then its table.
abbrev pub own_tasks : ComponentDefinedType → List Task
own_tasks (ty.Primitive word.ErrorContext) = makes_error_context ∷ []
own_tasks (ty.Primitive p) = []
own_tasks (ty.Own r) = takes_table r ∷ []
own_tasks (ty.Borrow r) = takes_table r ∷ []
own_tasks (ty.Future p) = makes_type (ty.Future p) ∷ makes_handles (ty.Future p) ∷ []
own_tasks (ty.Stream p) = makes_type (ty.Stream p) ∷ makes_handles (ty.Stream p) ∷ []
own_tasks e = makes_type e ∷ []

-- The items of what may be there.
abbrev pub items_where_any : {X Y : Type 0} → (X → List Y) → Option X → List Y
items_where_any f None = []
items_where_any f (Some x) = f x

-- The tasks of a type of values within so many defined types.
abbrev pub value_tasks_within : ℕ → SourceTables → ComponentValType → List Task
value_tasks_within zero s v = []
value_tasks_within (suc n) s v = flat_map (value_tasks_within n s) (items_where_any member_types (defined_of s v)) ++ items_where_any own_tasks (defined_of s v)

-- A defined type names only those before it, so no type lies within more than there are, and one for itself.
abbrev pub value_tasks : SourceTables → ComponentValType → List Task
value_tasks s v = value_tasks_within (suc (length s.defined)) s v

-- ---- functions and core modules

abbrev pub func_tasks : SourceTables → SourceFunc → List Task
func_tasks s f = flat_map (λ p. value_tasks s p.1) f.params ++ flat_map (value_tasks s) (option_to_list f.result) ++ makes_tuple (map (λ p. p.1) f.params) ∷ makes_tuple (option_to_list f.result) ∷ makes_func f ∷ []

abbrev pub core_tasks : SourceEntityType → List Task
core_tasks (source.Func params results) = makes_core params results ∷ []
core_tasks (source.Tag params results) = makes_core params results ∷ []
core_tasks source.FuncExact = refuses CustomDescriptors ∷ []
core_tasks e = []

abbrev pub module_tasks : SourceModule → List Task
module_tasks m = flat_map (λ x. core_tasks x.2) m.imports ++ flat_map (λ x. core_tasks x.1) m.exports ++ appends_module m ∷ []

-- ---- imports and exports

-- The resources that an item of an instance or a component makes known are registered before the item is converted.
abbrev pub item_tasks : SourceTables → (ComponentEntityType → List Task) → List ℕ × SourceItem → List Task
item_tasks s tasks x = map (λ r. registers r.1) (resources_of s [] x.1.ty) ++ tasks x.1.ty

-- The tasks of an item within so many instances and components.
abbrev pub tasks_within : ℕ → SourceTables → ComponentEntityType → List Task
tasks_within n s (entity.Module i) = items_where_any module_tasks (slice_get s.modules i.number)
tasks_within n s (entity.Func i) = items_where_any (func_tasks s) (slice_get s.funcs i.number)
tasks_within n s (entity.Value v) = refuses ValuesNotSupported ∷ []
tasks_within n s (entity.AnyType (any.Defined i)) = value_tasks s (val.Defined i)
tasks_within n s (entity.AnyType (any.Resource r)) = takes_table r ∷ []
tasks_within n s (entity.AnyType i) = refuses UnsupportedTypeExport ∷ []
tasks_within (suc n) s (entity.Instance i) = items_where_any (λ x. flat_map (item_tasks s (λ e. tasks_within n s e)) x.exports ++ appends_instance x ∷ []) (instance_at s i)
tasks_within (suc n) s (entity.Component i) = items_where_any (λ x. flat_map (item_tasks s (λ e. tasks_within n s e)) x.imports ++ flat_map (item_tasks s (λ e. tasks_within n s e)) x.exports ++ appends_component x ∷ []) (component_at s i)
tasks_within n s e = []

-- All of them: an item lies within no more instances and components than it reaches.
abbrev pub tasks_of : SourceTables → ComponentEntityType → List Task
tasks_of s e = tasks_within (reach_of s e) s e
