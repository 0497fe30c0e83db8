-- Cited by private clauses alone.
-- What a conversion has come to on its way: entries, lists of types, and maps of cases, imports and exports.
use Rattle.std.specs.Prelude.{◌≡◌, ℕ, List, [], ◌∷◌, ◌++◌, Option, Some, None, map, option_to_list, slice_get, Result, Ok, Err}
use Rattle.std.specs.List.{AllZip}
use Rattle.fact_entity.specs.declared.error.PushError.{PushError}
use Rattle.fact_entity.specs.declared.id.Id.{Id}
use Rattle.fact_entity.specs.declared.table.TypeFuncs.{TypeFuncs}
use Rattle.fact_wasm.specs.declared.types.ValType.{ValType}
use Rattle.fact_source.specs.declared.defined.ComponentDefinedType.{ComponentDefinedType}
use Rattle.fact_source.specs.declared.defined.ComponentValType.{ComponentValType}
use Rattle.fact_source.specs.declared.defined.SourceFunc.{SourceFunc}
use Rattle.fact_source.specs.declared.items.ComponentEntityType.{ComponentEntityType}
use Rattle.fact_source.specs.declared.items.SourceItem.{SourceItem}
use Rattle.fact_source.specs.declared.modules.SourceEntityType.{SourceEntityType}
use Rattle.fact_source.specs.SourceTables.{SourceTables}
use Rattle.fact_types.specs.declared.externs.ComponentExtern.{ComponentExtern}
use Rattle.fact_types.specs.declared.externs.EngineOrModuleTypeIndex.{EngineOrModuleTypeIndex}
use Rattle.fact_types.specs.declared.externs.EngineOrModuleTypeIndex.TheVariants as core
use Rattle.fact_types.specs.declared.externs.EntityType.{EntityType}
use Rattle.fact_types.specs.declared.interface.InterfaceType.{InterfaceType}
use Rattle.fact_types.specs.declared.kinds.RecordField.{RecordField}
use Rattle.fact_types.specs.declared.kinds.TypeFunc.{TypeFunc}
use Rattle.fact_types.specs.Shapes.{Shape, s_plain, s_node}
use Rattle.fact_types.specs.Tables.{HasShape}
use Rattle.fact_builder.specs.declared.error.BuildError.{BuildError}
use Rattle.fact_builder.specs.Errors.{build_error}
use Rattle.fact_builder.specs.Known.{AreKeptLive}
use Rattle.fact_builder.specs.Walk.{resources_of}
use Rattle.fact_convert.specs.Appended.{size_of, IsDefMade, AreLast}
use Rattle.fact_convert.specs.Conversion.{ConvertsBy, BuilderGrows}
use Rattle.fact_convert.specs.Converted.{IsFuncFrom, IsDefFrom, IsEntityFrom, HasCoreType}
use Rattle.fact_convert.specs.BuilderTables.{tables_of}
use Rattle.fact_builder.specs.Builder.{Builder}
use Rattle.fact_convert.specs.Merging.{merged, merged_pairs}
use Rattle.fact_convert.specs.SourceShapes.{SourceNode, source_node, IsPlainFrom, IsKindFrom, HaveSourceShapes}
use Rattle.fact_convert.specs.Tasks.{Task, registers, makes_tuple, makes_func, tasks_of}

-- ---- an entry, which need not stand in the tables of the source

abbrev pub IsShapeOf : SourceTables → Builder → ComponentDefinedType → Shape → Type 0
IsShapeOf s c e (s_plain p) = IsPlainFrom c e p
IsShapeOf s c e (s_node k ms) = (n : SourceNode) × (source_node e ≡ Some n) × IsKindFrom c n.kind k × HaveSourceShapes s c n.members ms

-- The type has the shape that the entry has.
abbrev pub IsMadeFrom : SourceTables → Builder → ComponentDefinedType → InterfaceType → Type 0
IsMadeFrom s c e t = (sh : Shape) × HasShape (tables_of c) t sh × IsShapeOf s c e sh

-- ---- lists of types

-- Fields of these names, of these types in order.
abbrev pub fields_with : List (List ℕ × ComponentValType) → List InterfaceType → List RecordField
fields_with [] ts = []
fields_with (f ∷ fs) [] = []
fields_with (f ∷ fs) (t ∷ ts) = record { name = f.0; ty = t } ∷ fields_with fs ts

-- Cases of these names; those that have a payload take these types, in order.
abbrev pub taken_payload : Option ComponentValType → List InterfaceType → Option InterfaceType
taken_payload None ts = None
taken_payload (Some v) [] = None
taken_payload (Some v) (t ∷ ts) = Some t

abbrev pub left_behind : Option ComponentValType → List InterfaceType → List InterfaceType
left_behind None ts = ts
left_behind (Some v) [] = []
left_behind (Some v) (t ∷ ts) = ts

abbrev pub cases_with : List (List ℕ × Option ComponentValType) → List InterfaceType → List (List ℕ × Option InterfaceType)
cases_with [] ts = []
cases_with (x ∷ xs) ts = (x.0, taken_payload x.1 ts) ∷ cases_with xs (left_behind x.1 ts)

-- ---- imports and exports: of instances and components, and of core modules

-- Names stand beside names, and what stands under them is in relation.
abbrev pub AreKeyed : {K V W : Type 0} → (V → W → Type 0) → List (K × V) → List (K × W) → Type 0
AreKeyed R xs ys = AllZip (λ x y. (y.0 ≡ x.0) × R x.1 y.1) xs ys

-- An import or export has its type and what is said of it beside.
abbrev pub IsExternFrom : SourceTables → Builder → SourceItem → ComponentExtern → Type 0
IsExternFrom s c x y = (y.extern_data.implements ≡ x.implements) × (y.extern_data.external_id ≡ x.external_id) × IsDefFrom s c x.ty y.ty

-- The same where it was converted last.
abbrev pub IsExternMade : SourceTables → Builder → SourceItem → ComponentExtern → Type 0
IsExternMade s c x y = (y.extern_data.implements ≡ x.implements) × (y.extern_data.external_id ≡ x.external_id) × IsDefMade s c x.ty y.ty

abbrev pub AreItemsFrom : SourceTables → Builder → List (List ℕ × SourceItem) → List (List ℕ × ComponentExtern) → Type 0
AreItemsFrom s c items made = AreKeyed (IsExternFrom s c) (merged items) made

-- All of them were converted one after another, from the builder a on.
abbrev pub AreItemsMade : SourceTables → Builder → Builder → List (List ℕ × SourceItem) → List (List ℕ × ComponentExtern) → Type 0
AreItemsMade s a c items made = AreItemsFrom s c items made × AreLast s (size_of (tables_of a)) items made

abbrev pub AreCoreImportsFrom : Builder → List (List ℕ × List ℕ × SourceEntityType) → List ((List ℕ × List ℕ) × EntityType) → Type 0
AreCoreImportsFrom c xs made = AreKeyed (IsEntityFrom c) (merged_pairs (map (λ x. ((x.0, x.1), x.2)) xs)) made

abbrev pub AreCoreExportsFrom : Builder → List (List ℕ × SourceEntityType) → List (List ℕ × EntityType) → Type 0
AreCoreExportsFrom c xs made = AreKeyed (IsEntityFrom c) (merged xs) made

-- The index of a core function type.
abbrev pub IsCoreFrom : Builder → List ValType → List ValType → EngineOrModuleTypeIndex → Type 0
IsCoreFrom c params results (core.Module i) = HasCoreType c i params results
IsCoreFrom c params results (core.Engine n) = ⊥

-- ---- how far a conversion has come

-- What was performed and what it gave; the builder has only grown, and the tables that are kept are still there.
pub record Comes {X : Type 0} (s : SourceTables) (old : Builder) (ms : List Task) (IsFrom : Builder → X → Type 0) (new : Builder) (result : Result X BuildError) : Type 0 where
  pub converts : ConvertsBy s old ms IsFrom new result
  pub grows : BuilderGrows old new
  pub kept_live : AreKeptLive old.resources (tables_of old) → AreKeptLive new.resources (tables_of new)

-- What the builder answered, with the reason for a refusal.
abbrev pub answer_of : Result InterfaceType PushError → Result InterfaceType BuildError
answer_of (Ok ty) = Ok ty
answer_of (Err e) = Err (build_error e)

-- ---- functions, imports and exports

-- The tasks of a function itself, behind those of its parameters and of its result; and the function at an index.
abbrev pub func_own_tasks : SourceFunc → List Task
func_own_tasks f = makes_tuple (map (λ p. p.1) f.params) ∷ makes_tuple (option_to_list f.result) ∷ makes_func f ∷ []

abbrev pub IsFuncAt : SourceTables → SourceFunc → Builder → Id TypeFuncs → Type 0
IsFuncAt s f c i = (g : TypeFunc) × (slice_get (tables_of c).functions i.number ≡ Some g) × IsFuncFrom s c f g

-- Those of an import or export of an instance or a component.
abbrev pub registered_tasks : SourceTables → ComponentEntityType → List Task
registered_tasks s e = map (λ r. registers r.1) (resources_of s [] e) ++ tasks_of s e
