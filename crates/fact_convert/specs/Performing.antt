-- What each task does to a builder, and when it fails.
use Rattle.std.specs.Prelude.{◌≡◌, ℕ, List, [], ◌∷◌, ◌++◌, length, Option, Some, None, Ok, Err, slice_get}
use Rattle.std.specs.List.{AllZip}
use Rattle.fact_entity.specs.declared.id.Id.{Id}
use Rattle.fact_entity.specs.declared.table.RuntimeComponentInstances.{RuntimeComponentInstances}
use Rattle.fact_entity.specs.declared.table.TypeFutures.{TypeFutures}
use Rattle.fact_entity.specs.declared.table.TypeStreams.{TypeStreams}
use Rattle.fact_wasm.specs.declared.types.FuncType.{FuncType}
use Rattle.fact_source.specs.declared.defined.ComponentValType.{ComponentValType}
use Rattle.fact_source.specs.SourceTables.{SourceTables}
use Rattle.fact_types.specs.declared.interface.InterfaceType.{InterfaceType}
use Rattle.fact_types.specs.declared.kinds.TypeErrorContextTable.{TypeErrorContextTable}
use Rattle.fact_types.specs.declared.kinds.TypeFunc.{TypeFunc}
use Rattle.fact_types.specs.declared.kinds.TypeFuture.{TypeFuture}
use Rattle.fact_types.specs.declared.kinds.TypeFutureTable.{TypeFutureTable}
use Rattle.fact_types.specs.declared.kinds.TypeStream.{TypeStream}
use Rattle.fact_types.specs.declared.kinds.TypeStreamTable.{TypeStreamTable}
use Rattle.fact_types.specs.declared.kinds.TypeResourceTable.{TypeResourceTable}
use Rattle.fact_types.specs.Externs.{ModuleType, ComponentType, InstanceType}
use Rattle.fact_types.specs.Shapes.{Kind, k_tuple}
use Rattle.fact_builder.specs.Builder.{Builder}
use Rattle.fact_builder.specs.Registering.{RegistersNext, TakesTable}
use Rattle.fact_builder.specs.Makes.{Makes, CannotBeMade}
use Rattle.fact_builder.specs.declared.error.BuildError.{BuildError}
use Rattle.fact_builder.specs.declared.error.BuildError.TheVariants.{OutOfMemory, TooLarge, UnknownResource, NoInstance}
use Rattle.fact_builder.specs.Known.{kept_table, registration, new_table}
use Rattle.fact_convert.specs.Appended.{AreLastInTurn}
use Rattle.fact_convert.specs.Converted.{IsTypeFrom, IsFuncFrom, IsModuleFrom, IsItemFrom, IsDefFrom}
use Rattle.fact_convert.specs.BuilderTables.{tables_of, with_tables}
use Rattle.fact_convert.specs.Interning.{CanGrow, Interns, LacksEntryRoom}
use Rattle.fact_convert.specs.Merging.{merged}
use Rattle.fact_convert.specs.SourceShapes.{SourceKind, of_kind, of_future, of_stream, SourceNode, source_node, placed_values}
use Rattle.fact_convert.specs.Tasks.{Task, registers, takes_table, makes_error_context, makes_type, makes_handles, makes_tuple, makes_func, makes_core, appends_module, appends_instance, appends_component, refuses}

-- ---- members that were converted before

-- A member has a type from that of the source, or neither has one.
abbrev pub IsMemberFrom : SourceTables → Builder → Option ComponentValType → Option InterfaceType → Type 0
IsMemberFrom s c None None = Unit {0}
IsMemberFrom s c (Some v) (Some t) = IsTypeFrom s c v t
IsMemberFrom s c v t = ⊥

abbrev pub AreMembersFrom : SourceTables → Builder → List (List ℕ × Option ComponentValType) → List (List ℕ × Option InterfaceType) → Type 0
AreMembersFrom s c xs ms = AllZip (λ x m. (m.0 ≡ x.0) × IsMemberFrom s c x.1 m.1) xs ms

-- ---- what a task does: it takes the builder a to b

-- A type of a kind with members from these was made; all else stays.
pub record MakesFrom (s : SourceTables) (a : Builder) (k : Kind) (xs : List (List ℕ × Option ComponentValType)) (b : Builder) : Type 0 where
  pub members : List (List ℕ × Option InterfaceType)
  pub from : AreMembersFrom s a xs members
  pub ty : InterfaceType
  pub makes : Makes a b k members (Ok ty)
  pub rest : b ≡ record a { tables = b.tables }

abbrev pub MakesNode : SourceTables → Builder → List (List ℕ × Option ComponentValType) → SourceKind → Builder → Type 0
MakesNode s a xs (of_kind k) b = MakesFrom s a k xs b
MakesNode s a xs of_future b = (p : Option InterfaceType) × (fs : List TypeFuture) × AreMembersFrom s a xs (([], p) ∷ []) × Interns (tables_of a).futures (record { payload = p }) fs × (b ≡ with_tables a (record (tables_of a) { futures = fs }))
MakesNode s a xs of_stream b = (p : Option InterfaceType) × (fs : List TypeStream) × AreMembersFrom s a xs (([], p) ∷ []) × Interns (tables_of a).streams (record { payload = p }) fs × (b ≡ with_tables a (record (tables_of a) { streams = fs }))

abbrev pub MakesType : SourceTables → Builder → Option SourceNode → Builder → Type 0
MakesType s a None b = ⊥
MakesType s a (Some n) b = MakesNode s a n.members n.kind b

-- The table of the handles of a future or a stream that was made before, of the instance that is set; and that of error
-- contexts.
abbrev pub MakesHandles : SourceTables → Builder → List (List ℕ × Option ComponentValType) → SourceKind → Option (Id RuntimeComponentInstances) → Builder → Type 0
MakesHandles s a xs of_future (Some n) b = (i : Id TypeFutures) × (f : TypeFuture) × (ts : List TypeFutureTable) × (slice_get (tables_of a).futures i.number ≡ Some f) × AreMembersFrom s a xs (([], f.payload) ∷ []) × Interns (tables_of a).future_tables (record { ty = i; instance = n }) ts × (b ≡ with_tables a (record (tables_of a) { future_tables = ts }))
MakesHandles s a xs of_stream (Some n) b = (i : Id TypeStreams) × (f : TypeStream) × (ts : List TypeStreamTable) × (slice_get (tables_of a).streams i.number ≡ Some f) × AreMembersFrom s a xs (([], f.payload) ∷ []) × Interns (tables_of a).stream_tables (record { ty = i; instance = n }) ts × (b ≡ with_tables a (record (tables_of a) { stream_tables = ts }))
MakesHandles s a xs k n b = ⊥

abbrev pub MakesHandlesOf : SourceTables → Builder → Option SourceNode → Builder → Type 0
MakesHandlesOf s a None b = ⊥
MakesHandlesOf s a (Some n) b = MakesHandles s a n.members n.kind a.resources.instance b

abbrev pub MakesErrorContext : Builder → Option (Id RuntimeComponentInstances) → Builder → Type 0
MakesErrorContext a None b = ⊥
MakesErrorContext a (Some n) b = (ts : List TypeErrorContextTable) × Interns (tables_of a).error_context_tables (record { instance = n }) ts × (b ≡ with_tables a (record (tables_of a) { error_context_tables = ts }))

-- What an instance or a component imports and exports was converted before it is appended, and each got an index of its own
-- then where it is one that is appended.
abbrev pub Performs : SourceTables → Builder → Task → Builder → Type 0
Performs s a (registers r) b = RegistersNext a r (registration a.resources r) b
Performs s a (takes_table r) b = TakesTable a r (kept_table a.resources r) b
Performs s a makes_error_context b = MakesErrorContext a a.resources.instance b
Performs s a (makes_type d) b = MakesType s a (source_node d) b
Performs s a (makes_handles d) b = MakesHandlesOf s a (source_node d) b
Performs s a (makes_tuple vs) b = MakesFrom s a k_tuple (placed_values 0 vs) b
Performs s a (makes_func f) b = (g : TypeFunc) × (fs : List TypeFunc) × IsFuncFrom s a f g × Interns (tables_of a).functions g fs × (b ≡ with_tables a (record (tables_of a) { functions = fs }))
Performs s a (makes_core params results) b = (fs : List FuncType) × Interns a.module_types (record { params = params; results = results }) fs × (b ≡ record a { module_types = fs })
Performs s a (appends_module m) b = (e : ModuleType) × IsModuleFrom a m e × CanGrow (tables_of a).modules × (b ≡ with_tables a (record (tables_of a) { modules = (tables_of a).modules ++ e ∷ [] }))
Performs s a (appends_instance x) b = (e : InstanceType) × AllZip (IsItemFrom (IsDefFrom s a)) (merged x.exports) e.exports × AreLastInTurn s (tables_of a) [] x.exports [] e.exports × CanGrow (tables_of a).component_instances × (b ≡ with_tables a (record (tables_of a) { component_instances = (tables_of a).component_instances ++ e ∷ [] }))
Performs s a (appends_component x) b = (e : ComponentType) × AllZip (IsItemFrom (IsDefFrom s a)) (merged x.imports) e.imports × AllZip (IsItemFrom (IsDefFrom s a)) (merged x.exports) e.exports × AreLastInTurn s (tables_of a) x.imports x.exports e.imports e.exports × CanGrow (tables_of a).components × (b ≡ with_tables a (record (tables_of a) { components = (tables_of a).components ++ e ∷ [] }))
Performs s a (refuses e) b = ⊥

abbrev pub PerformsAll : SourceTables → Builder → List Task → Builder → Type 0
PerformsAll s a [] b = b ≡ a
PerformsAll s a (m ∷ ms) b = (c : Builder) × Performs s a m c × PerformsAll s c ms b

-- ---- refusals

-- A type of a kind with members from these does not fit, or is new and finds its table full.
pub record CannotBeMadeFrom (s : SourceTables) (c : Builder) (k : Kind) (xs : List (List ℕ × Option ComponentValType)) : Type 0 where
  pub members : List (List ℕ × Option InterfaceType)
  pub from : AreMembersFrom s c xs members
  pub cannot : CannotBeMade (tables_of c) k members

abbrev pub LacksRoomForNode : SourceTables → Builder → List (List ℕ × Option ComponentValType) → SourceKind → Type 0
LacksRoomForNode s c xs (of_kind k) = CannotBeMadeFrom s c k xs
LacksRoomForNode s c xs of_future = (p : Option InterfaceType) × AreMembersFrom s c xs (([], p) ∷ []) × LacksEntryRoom (tables_of c).futures (record { payload = p })
LacksRoomForNode s c xs of_stream = (p : Option InterfaceType) × AreMembersFrom s c xs (([], p) ∷ []) × LacksEntryRoom (tables_of c).streams (record { payload = p })

abbrev pub LacksRoomForType : SourceTables → Builder → Option SourceNode → Type 0
LacksRoomForType s c None = ⊥
LacksRoomForType s c (Some n) = LacksRoomForNode s c n.members n.kind

abbrev pub LacksRoomForHandles : SourceTables → Builder → List (List ℕ × Option ComponentValType) → SourceKind → Option (Id RuntimeComponentInstances) → Type 0
LacksRoomForHandles s c xs of_future (Some n) = (i : Id TypeFutures) × (f : TypeFuture) × (slice_get (tables_of c).futures i.number ≡ Some f) × AreMembersFrom s c xs (([], f.payload) ∷ []) × LacksEntryRoom (tables_of c).future_tables (record { ty = i; instance = n })
LacksRoomForHandles s c xs of_stream (Some n) = (i : Id TypeStreams) × (f : TypeStream) × (slice_get (tables_of c).streams i.number ≡ Some f) × AreMembersFrom s c xs (([], f.payload) ∷ []) × LacksEntryRoom (tables_of c).stream_tables (record { ty = i; instance = n })
LacksRoomForHandles s c xs k n = ⊥

abbrev pub LacksRoomForHandlesOf : SourceTables → Builder → Option SourceNode → Type 0
LacksRoomForHandlesOf s c None = ⊥
LacksRoomForHandlesOf s c (Some n) = LacksRoomForHandles s c n.members n.kind c.resources.instance

abbrev pub LacksRoomForErrorContext : Builder → Option (Id RuntimeComponentInstances) → Type 0
LacksRoomForErrorContext c None = ⊥
LacksRoomForErrorContext c (Some n) = LacksEntryRoom (tables_of c).error_context_tables (record { instance = n })

-- There is no room for what must be added, or it does not fit.
abbrev pub LacksRoomFor : SourceTables → Builder → Task → Type 0
LacksRoomFor s c (registers r) = (registration c.resources r ≡ None) × (c.abstracts ≡ 4294967295)
LacksRoomFor s c (takes_table r) = (e : TypeResourceTable) × (kept_table c.resources r ≡ None) × (new_table c.resources r ≡ Ok e) × (length (tables_of c).resource_tables ≡ 4294967295)
LacksRoomFor s c makes_error_context = LacksRoomForErrorContext c c.resources.instance
LacksRoomFor s c (makes_type d) = LacksRoomForType s c (source_node d)
LacksRoomFor s c (makes_handles d) = LacksRoomForHandlesOf s c (source_node d)
LacksRoomFor s c (makes_tuple vs) = CannotBeMadeFrom s c k_tuple (placed_values 0 vs)
LacksRoomFor s c (makes_func f) = (g : TypeFunc) × IsFuncFrom s c f g × LacksEntryRoom (tables_of c).functions g
LacksRoomFor s c (makes_core params results) = LacksEntryRoom c.module_types (record { params = params; results = results })
LacksRoomFor s c (appends_module m) = length (tables_of c).modules ≡ 4294967295
LacksRoomFor s c (appends_instance x) = length (tables_of c).component_instances ≡ 4294967295
LacksRoomFor s c (appends_component x) = length (tables_of c).components ≡ 4294967295
LacksRoomFor s c (refuses e) = ⊥

-- A table of an instance is needed, and none is set: that of a concrete resource without a table, or of futures, streams
-- or error contexts.
abbrev pub NeedsInstance : Builder → Task → Type 0
NeedsInstance c (takes_table r) = (kept_table c.resources r ≡ None) × (new_table c.resources r ≡ Err NoInstance)
NeedsInstance c makes_error_context = c.resources.instance ≡ None
NeedsInstance c (makes_handles d) = c.resources.instance ≡ None
NeedsInstance c m = ⊥

abbrev pub NeedsRegistration : Builder → Task → Type 0
NeedsRegistration c (takes_table r) = (kept_table c.resources r ≡ None) × (new_table c.resources r ≡ Err UnknownResource)
NeedsRegistration c m = ⊥

-- The task is refused for this cause.
abbrev pub Fails : SourceTables → Builder → Task → BuildError → Type 0
Fails s c m OutOfMemory = ⊥
Fails s c m TooLarge = LacksRoomFor s c m
Fails s c m UnknownResource = NeedsRegistration c m
Fails s c m NoInstance = NeedsInstance c m
Fails s c m e = m ≡ refuses e

-- What may end a conversion that has these tasks left: want of memory at any time, and the first of them where it fails.
abbrev pub EndsBefore : SourceTables → Builder → List Task → BuildError → Type 0
EndsBefore s c ms OutOfMemory = Unit {0}
EndsBefore s c [] e = ⊥
EndsBefore s c (m ∷ ms) e = Fails s c m e

-- A conversion ended early: the tasks before were performed, and nothing else was changed.
pub record EndsEarly (s : SourceTables) (a : Builder) (ms : List Task) (e : BuildError) (b : Builder) : Type 0 where
  pub before : List Task
  pub left : List Task
  pub in_order : ms ≡ before ++ left
  pub performed : PerformsAll s a before b
  pub ended : EndsBefore s b left e
