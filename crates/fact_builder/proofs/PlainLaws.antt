-- What is kept of types, when one of the tables whose entries are no types of values gets one more.
use Rattle.std.proofs.Common.{◌≡◌, List, [], ◌∷◌, ◌++◌, Option, Some, None, refl, sym, ap, subst}
use Rattle.std.specs.Prelude.{option_map, slice_get, Result, Ok, Err, IfOk, IfErr, OnOk, OnErr}
use Rattle.fact_entity.specs.declared.id.Id.{Id}
use Rattle.fact_entity.specs.declared.table.SourceResources.{SourceResources}
use Rattle.fact_entity.specs.declared.table.TypeResourceTables.{TypeResourceTables}
use Rattle.fact_types.specs.declared.interface.InterfaceType.{InterfaceType}
use Rattle.fact_types.specs.declared.interface.InterfaceType.TheVariants.{Record as t_record, Future as t_future, Stream as t_stream}
use Rattle.fact_types.specs.declared.kinds.TypeFunc.{TypeFunc}
use Rattle.fact_types.specs.declared.kinds.TypeFuture.{TypeFuture}
use Rattle.fact_types.specs.declared.kinds.TypeStream.{TypeStream}
use Rattle.fact_types.specs.declared.kinds.TypeErrorContextTable.{TypeErrorContextTable}
use Rattle.fact_types.specs.declared.kinds.TypeResourceTable.{TypeResourceTable}
use Rattle.fact_types.specs.Layout.{scalar_layout}
use Rattle.fact_types.specs.Shapes.{k_future, k_stream, no_parts}
use Rattle.fact_types.specs.Tables.{Tables, Node, node_of, future_node, stream_node, payload_in, of_futures, of_streams, IsSound}
use Rattle.fact_builder.specs.declared.error.BuildError.{BuildError}
use Rattle.fact_builder.specs.Known.{KnownResources, MakesTable, MayRefuseTable}
use Rattle.fact_builder.specs.Information.{AllKept}
use Rattle.fact_builder.proofs.GrowthLaws.{stay_future, stay_stream}
use Rattle.fact_builder.proofs.KeptLaws.{Kept, same_entries}

same_node : {X : Type 0} (f g : X → Node) (o : Option X) → ((x : X) → o ≡ Some x → f x ≡ g x) → option_map f o ≡ option_map g o
same_node f g None e = refl
same_node f g (Some x) e = ap Some (e x refl)

nodes_func : (t : Tables) (xs : List TypeFunc) (ty : InterfaceType) → node_of (record t { functions = xs }) ty ≡ node_of t ty
nodes_func t xs (t_record i) = refl
nodes_func t xs ty = refl

pub pushed_func : {A E : Type 0} (t last : Tables) (kept : Kept) (r : TypeFunc) (res : Result A E) → AllKept t kept → OnOk res (last ≡ record t { functions = t.functions ++ r ∷ [] }) → OnErr res (last ≡ t) → AllKept last kept
pushed_func t last kept r (Ok x) a o e = subst (λ z. AllKept z kept) (sym o) (same_entries t _ kept (nodes_func t (t.functions ++ r ∷ [])) a)
pushed_func t last kept r (Err x) a o e = subst (λ z. AllKept z kept) (sym e) a

nodes_future : (t : Tables) (r : TypeFuture) → IsSound t → (ty : InterfaceType) → node_of (record t { futures = t.futures ++ r ∷ [] }) ty ≡ node_of t ty
nodes_future t r sound (t_future i) =
    same_node (future_node (t.futures ++ r ∷ []) i.number) (future_node t.futures i.number) (slice_get t.future_tables i.number)
    (λ e h j. record { kind = k_future i.number e.instance.number; members = ([], payload_in (λ f. f.payload) (sym (stay_future t r sound of_futures i.number e h) j)) ∷ []; abi = scalar_layout 4; parts = no_parts })
nodes_future t r sound ty = refl

pub pushed_future : {A E : Type 0} (t last : Tables) (kept : Kept) (r : TypeFuture) (res : Result A E) → AllKept t kept → IsSound t → OnOk res (last ≡ record t { futures = t.futures ++ r ∷ [] }) → OnErr res (last ≡ t) → AllKept last kept
pushed_future t last kept r (Ok x) a sound o e = subst (λ z. AllKept z kept) (sym o) (same_entries t _ kept (nodes_future t r sound) a)
pushed_future t last kept r (Err x) a sound o e = subst (λ z. AllKept z kept) (sym e) a

nodes_stream : (t : Tables) (r : TypeStream) → IsSound t → (ty : InterfaceType) → node_of (record t { streams = t.streams ++ r ∷ [] }) ty ≡ node_of t ty
nodes_stream t r sound (t_stream i) =
    same_node (stream_node (t.streams ++ r ∷ []) i.number) (stream_node t.streams i.number) (slice_get t.stream_tables i.number)
    (λ e h j. record { kind = k_stream i.number e.instance.number; members = ([], payload_in (λ f. f.payload) (sym (stay_stream t r sound of_streams i.number e h) j)) ∷ []; abi = scalar_layout 4; parts = no_parts })
nodes_stream t r sound ty = refl

pub pushed_stream : {A E : Type 0} (t last : Tables) (kept : Kept) (r : TypeStream) (res : Result A E) → AllKept t kept → IsSound t → OnOk res (last ≡ record t { streams = t.streams ++ r ∷ [] }) → OnErr res (last ≡ t) → AllKept last kept
pushed_stream t last kept r (Ok x) a sound o e = subst (λ z. AllKept z kept) (sym o) (same_entries t _ kept (nodes_stream t r sound) a)
pushed_stream t last kept r (Err x) a sound o e = subst (λ z. AllKept z kept) (sym e) a

nodes_error_context_table : (t : Tables) (xs : List TypeErrorContextTable) (ty : InterfaceType) → node_of (record t { error_context_tables = xs }) ty ≡ node_of t ty
nodes_error_context_table t xs (t_record i) = refl
nodes_error_context_table t xs ty = refl

pub pushed_error_context_table : {A E : Type 0} (t last : Tables) (kept : Kept) (r : TypeErrorContextTable) (res : Result A E) → AllKept t kept → OnOk res (last ≡ record t { error_context_tables = t.error_context_tables ++ r ∷ [] }) → OnErr res (last ≡ t) → AllKept last kept
pushed_error_context_table t last kept r (Ok x) a o e = subst (λ z. AllKept z kept) (sym o) (same_entries t _ kept (nodes_error_context_table t (t.error_context_tables ++ r ∷ [])) a)
pushed_error_context_table t last kept r (Err x) a o e = subst (λ z. AllKept z kept) (sym e) a

nodes_resource_table : (t : Tables) (xs : List TypeResourceTable) (ty : InterfaceType) → node_of (record t { resource_tables = xs }) ty ≡ node_of t ty
nodes_resource_table t xs (t_record i) = refl
nodes_resource_table t xs ty = refl

pub pushed_resource_table : {A E : Type 0} (t last : Tables) (kept : Kept) (r : TypeResourceTable) (res : Result A E) → AllKept t kept → OnOk res (last ≡ record t { resource_tables = t.resource_tables ++ r ∷ [] }) → OnErr res (last ≡ t) → AllKept last kept
pushed_resource_table t last kept r (Ok x) a o e = subst (λ z. AllKept z kept) (sym o) (same_entries t _ kept (nodes_resource_table t (t.resource_tables ++ r ∷ [])) a)
pushed_resource_table t last kept r (Err x) a o e = subst (λ z. AllKept z kept) (sym e) a

-- the same where the table is made for a resource
pub made_resource_table : (a b : KnownResources) (t last : Tables) (kept : Kept) (id : Id SourceResources) (res : Result (Id TypeResourceTables) BuildError) → AllKept t kept → IfOk res (MakesTable a t id b last) → IfErr res (λ e. (b ≡ a) × (last ≡ t) × MayRefuseTable a t id e) → AllKept last kept
made_resource_table a b t last kept id (Ok i) all made refused = subst (λ z. AllKept z kept) (sym made.added) (same_entries t _ kept (nodes_resource_table t (t.resource_tables ++ made.table ∷ [])) all)
made_resource_table a b t last kept id (Err e) all made (back, same, why) = subst (λ z. AllKept z kept) (sym same) all
