-- What comes of the types of futures, streams and error contexts, and of the tables of their handles.
use Rattle.std.proofs.Common.{◌≡◌, ◌↔◌, List, [], ◌∷◌, length, Option, Some, None, refl, sym, ap, subst}
use Rattle.std.specs.Prelude.{slice_get, option_map, position, Result, Ok, Err}
use Rattle.fact_entity.specs.declared.error.PushError.{PushError}
use Rattle.fact_entity.specs.declared.error.PushError.TheVariants as push
use Rattle.fact_entity.specs.declared.id.Id.{Id}
use Rattle.fact_entity.specs.declared.table.RuntimeComponentInstances.{RuntimeComponentInstances}
use Rattle.fact_entity.specs.declared.table.TypeComponentLocalErrorContextTables.{TypeComponentLocalErrorContextTables}
use Rattle.fact_entity.specs.declared.table.TypeFutures.{TypeFutures}
use Rattle.fact_entity.specs.declared.table.TypeFutureTables.{TypeFutureTables}
use Rattle.fact_entity.specs.declared.table.TypeStreams.{TypeStreams}
use Rattle.fact_entity.specs.declared.table.TypeStreamTables.{TypeStreamTables}
use Rattle.fact_entity.specs.Places.{IsInterned}
use Rattle.fact_source.specs.declared.defined.ComponentDefinedType.TheVariants as ty
use Rattle.fact_source.specs.declared.defined.ComponentValType.{ComponentValType}
use Rattle.fact_source.specs.declared.defined.PrimitiveValType.TheVariants as word
use Rattle.fact_source.specs.SourceTables.{SourceTables}
use Rattle.fact_types.specs.declared.interface.InterfaceType.{InterfaceType}
use Rattle.fact_types.specs.declared.interface.InterfaceType.TheVariants as plain
use Rattle.fact_types.specs.declared.kinds.TypeFuture.{TypeFuture}
use Rattle.fact_types.specs.declared.kinds.TypeStream.{TypeStream}
use Rattle.fact_types.specs.Shapes.{k_future, k_stream, s_node}
use Rattle.fact_types.specs.Tables.{future_node, stream_node, payload_in, HasMembers}
use Rattle.fact_builder.specs.Builder.{Builder}
use Rattle.fact_builder.specs.Keeps.{Keeps}
use Rattle.fact_builder.specs.Errors.{build_error}
use Rattle.fact_convert.specs.BuilderTables.{tables_of, with_tables}
use Rattle.fact_convert.specs.Performing.{IsMemberFrom, MakesHandles, LacksRoomForHandles, MakesErrorContext, LacksRoomForErrorContext}
use Rattle.fact_convert.specs.SourceShapes.{of_future, of_stream, IsPlainFrom}
use Rattle.fact_convert.specs.Progress.{Comes, IsMadeFrom}
use Rattle.fact_convert.specs.Tasks.{Task, makes_type, makes_handles, makes_error_context}
use Rattle.fact_convert.proofs.Growing.{member_stays}
use Rattle.fact_convert.proofs.Shaping.{members_shaped}
use Rattle.fact_convert.proofs.TableLaws.{futures, future_tables, streams, stream_tables, error_context_tables, comes_interned, comes_full}

-- ---- error contexts

pub error_context_made : (s : SourceTables) (a : Builder) (b : Builder) (n : Id RuntimeComponentInstances) (k : Id TypeComponentLocalErrorContextTables) → a.resources.instance ≡ Some n
    → IsInterned error_context_tables.eq a.tables.error_context_tables b.tables.error_context_tables (record { instance = n }) k.number → slice_get b.tables.error_context_tables k.number ≡ Some (record { instance = n })
    → b ≡ record a { tables = record a.tables { error_context_tables = b.tables.error_context_tables } } → Keeps a.tables b.tables
    → ((Ok k ≡ Err push.TooLarge) ↔ ((position (error_context_tables.eq (record { instance = n })) a.tables.error_context_tables ≡ None) × (length a.tables.error_context_tables ≡ 4294967295)))
    → Comes s a (makes_error_context ∷ []) (λ c i. IsPlainFrom c (ty.Primitive word.ErrorContext) (plain.ErrorContext i)) b (Ok k)
error_context_made s a b n k set d at rest keeps t =
    comes_interned error_context_tables s a b makes_error_context (λ c i. IsPlainFrom c (ty.Primitive word.ErrorContext) (plain.ErrorContext i)) (record { instance = n }) k.number k k d at rest keeps t
    (λ xs i. subst (λ o. MakesErrorContext a o (with_tables a (record (tables_of a) { error_context_tables = xs }))) (sym set) (xs, i, refl))
    (λ g. (n, set, at))

pub error_context_full : {K Y : Type 0} (s : SourceTables) (a : Builder) (n : Id RuntimeComponentInstances) (F : Builder → Y → Type 0) (res : Result K PushError) (x : PushError) → a.resources.instance ≡ Some n → res ≡ Err x
    → ((res ≡ Err push.TooLarge) ↔ ((position (error_context_tables.eq (record { instance = n })) a.tables.error_context_tables ≡ None) × (length a.tables.error_context_tables ≡ 4294967295)))
    → Comes s a (makes_error_context ∷ []) F a (Err (build_error x))
error_context_full s a n F res x set q t = comes_full error_context_tables s a makes_error_context [] F (record { instance = n }) res x q t (λ l. subst (λ o. LacksRoomForErrorContext a o) (sym set) l)

-- ---- futures: their type, and then the table of their handles

pub future_made : (s : SourceTables) (a : Builder) (b : Builder) (p : Option ComponentValType) (q : Option InterfaceType) (k : Id TypeFutures) → IsMemberFrom s a p q
    → IsInterned futures.eq a.tables.futures b.tables.futures (record { payload = q }) k.number → slice_get b.tables.futures k.number ≡ Some (record { payload = q })
    → b ≡ record a { tables = record a.tables { futures = b.tables.futures } } → Keeps a.tables b.tables
    → ((Ok k ≡ Err push.TooLarge) ↔ ((position (futures.eq (record { payload = q })) a.tables.futures ≡ None) × (length a.tables.futures ≡ 4294967295)))
    → Comes s a (makes_type (ty.Future p) ∷ []) (λ c i. slice_get (tables_of c).futures i.number ≡ Some (record { payload = q })) b (Ok k)
future_made s a b p q k from d at rest keeps t =
    comes_interned futures s a b (makes_type (ty.Future p)) (λ c i. slice_get (tables_of c).futures i.number ≡ Some (record { payload = q })) (record { payload = q }) k.number k k d at rest keeps t
    (λ xs n. (q, xs, ((refl, from), tt), n, refl)) (λ g. at)

pub future_full : {K Y : Type 0} (s : SourceTables) (a : Builder) (p : Option ComponentValType) (q : Option InterfaceType) (ms : List Task) (F : Builder → Y → Type 0) (res : Result K PushError) (x : PushError) → IsMemberFrom s a p q → res ≡ Err x
    → ((res ≡ Err push.TooLarge) ↔ ((position (futures.eq (record { payload = q })) a.tables.futures ≡ None) × (length a.tables.futures ≡ 4294967295)))
    → Comes s a (makes_type (ty.Future p) ∷ ms) F a (Err (build_error x))
future_full s a p q ms F res x from e t = comes_full futures s a (makes_type (ty.Future p)) ms F (record { payload = q }) res x e t (λ l. (q, ((refl, from), tt), l))

-- a table of futures stands for a future of its payload
future_shaped : (s : SourceTables) (c : Builder) (p : Option ComponentValType) (q : Option InterfaceType) (i : Id TypeFutures) (n : Id RuntimeComponentInstances) (k : Id TypeFutureTables) → IsMemberFrom s c p q → c.resources.instance ≡ Some n
    → slice_get (tables_of c).futures i.number ≡ Some (record { payload = q }) → slice_get (tables_of c).future_tables k.number ≡ Some (record { ty = i; instance = n }) → IsMadeFrom s c (ty.Future p) (plain.Future k)
future_shaped s c p q i n k from set of at =
    let node = future_node (tables_of c).futures k.number (record { ty = i; instance = n }) in
    let (sh, h, r) = members_shaped s c (([], p) ∷ []) (([], q) ∷ []) ((refl, from), tt) in (
      s_node (k_future k.number n.number) sh,
      (node, ap (option_map (future_node (tables_of c).futures k.number)) at, refl, subst (λ o. HasMembers (tables_of c) (([], payload_in (λ (f : TypeFuture). f.payload) o) ∷ []) sh) (sym of) h),
      (record { kind = of_future; members = ([], p) ∷ [] }, refl, (n, set, refl), r),
    )

pub future_table_made : (s : SourceTables) (a : Builder) (b : Builder) (p : Option ComponentValType) (q : Option InterfaceType) (i : Id TypeFutures) (n : Id RuntimeComponentInstances) (k : Id TypeFutureTables) → IsMemberFrom s a p q → a.resources.instance ≡ Some n → slice_get (tables_of a).futures i.number ≡ Some (record { payload = q })
    → IsInterned future_tables.eq a.tables.future_tables b.tables.future_tables (record { ty = i; instance = n }) k.number → slice_get b.tables.future_tables k.number ≡ Some (record { ty = i; instance = n })
    → b ≡ record a { tables = record a.tables { future_tables = b.tables.future_tables } } → Keeps a.tables b.tables
    → ((Ok k ≡ Err push.TooLarge) ↔ ((position (future_tables.eq (record { ty = i; instance = n })) a.tables.future_tables ≡ None) × (length a.tables.future_tables ≡ 4294967295)))
    → Comes s a (makes_handles (ty.Future p) ∷ []) (λ c t. IsMadeFrom s c (ty.Future p) t) b (Ok (plain.Future k))
future_table_made s a b p q i n k from set of d at rest keeps t =
    comes_interned future_tables s a b (makes_handles (ty.Future p)) (λ c t. IsMadeFrom s c (ty.Future p) t) (record { ty = i; instance = n }) k.number k (plain.Future k) d at rest keeps t
    (λ xs m. subst (λ o. MakesHandles s a (([], p) ∷ []) of_future o (with_tables a (record (tables_of a) { future_tables = xs }))) (sym set) (i, record { payload = q }, xs, of, ((refl, from), tt), m, refl))
    (λ g. let c : Builder = with_tables a (record (tables_of a) { future_tables = b.tables.future_tables }) in future_shaped s c p q i n k (member_stays s a c g p q from) set of at)

pub future_table_full : {K Y : Type 0} (s : SourceTables) (a : Builder) (p : Option ComponentValType) (q : Option InterfaceType) (i : Id TypeFutures) (n : Id RuntimeComponentInstances) (F : Builder → Y → Type 0) (res : Result K PushError) (x : PushError) → IsMemberFrom s a p q → a.resources.instance ≡ Some n → slice_get (tables_of a).futures i.number ≡ Some (record { payload = q }) → res ≡ Err x
    → ((res ≡ Err push.TooLarge) ↔ ((position (future_tables.eq (record { ty = i; instance = n })) a.tables.future_tables ≡ None) × (length a.tables.future_tables ≡ 4294967295)))
    → Comes s a (makes_handles (ty.Future p) ∷ []) F a (Err (build_error x))
future_table_full s a p q i n F res x from set of e t =
    comes_full future_tables s a (makes_handles (ty.Future p)) [] F (record { ty = i; instance = n }) res x e t
    (λ l. subst (λ o. LacksRoomForHandles s a (([], p) ∷ []) of_future o) (sym set) (i, record { payload = q }, of, ((refl, from), tt), l))

-- ---- streams: their type, and then the table of their handles

pub stream_made : (s : SourceTables) (a : Builder) (b : Builder) (p : Option ComponentValType) (q : Option InterfaceType) (k : Id TypeStreams) → IsMemberFrom s a p q
    → IsInterned streams.eq a.tables.streams b.tables.streams (record { payload = q }) k.number → slice_get b.tables.streams k.number ≡ Some (record { payload = q })
    → b ≡ record a { tables = record a.tables { streams = b.tables.streams } } → Keeps a.tables b.tables
    → ((Ok k ≡ Err push.TooLarge) ↔ ((position (streams.eq (record { payload = q })) a.tables.streams ≡ None) × (length a.tables.streams ≡ 4294967295)))
    → Comes s a (makes_type (ty.Stream p) ∷ []) (λ c i. slice_get (tables_of c).streams i.number ≡ Some (record { payload = q })) b (Ok k)
stream_made s a b p q k from d at rest keeps t =
    comes_interned streams s a b (makes_type (ty.Stream p)) (λ c i. slice_get (tables_of c).streams i.number ≡ Some (record { payload = q })) (record { payload = q }) k.number k k d at rest keeps t
    (λ xs n. (q, xs, ((refl, from), tt), n, refl)) (λ g. at)

pub stream_full : {K Y : Type 0} (s : SourceTables) (a : Builder) (p : Option ComponentValType) (q : Option InterfaceType) (ms : List Task) (F : Builder → Y → Type 0) (res : Result K PushError) (x : PushError) → IsMemberFrom s a p q → res ≡ Err x
    → ((res ≡ Err push.TooLarge) ↔ ((position (streams.eq (record { payload = q })) a.tables.streams ≡ None) × (length a.tables.streams ≡ 4294967295)))
    → Comes s a (makes_type (ty.Stream p) ∷ ms) F a (Err (build_error x))
stream_full s a p q ms F res x from e t = comes_full streams s a (makes_type (ty.Stream p)) ms F (record { payload = q }) res x e t (λ l. (q, ((refl, from), tt), l))

-- a table of streams stands for a stream of its payload
stream_shaped : (s : SourceTables) (c : Builder) (p : Option ComponentValType) (q : Option InterfaceType) (i : Id TypeStreams) (n : Id RuntimeComponentInstances) (k : Id TypeStreamTables) → IsMemberFrom s c p q → c.resources.instance ≡ Some n
    → slice_get (tables_of c).streams i.number ≡ Some (record { payload = q }) → slice_get (tables_of c).stream_tables k.number ≡ Some (record { ty = i; instance = n }) → IsMadeFrom s c (ty.Stream p) (plain.Stream k)
stream_shaped s c p q i n k from set of at =
    let node = stream_node (tables_of c).streams k.number (record { ty = i; instance = n }) in
    let (sh, h, r) = members_shaped s c (([], p) ∷ []) (([], q) ∷ []) ((refl, from), tt) in (
      s_node (k_stream k.number n.number) sh,
      (node, ap (option_map (stream_node (tables_of c).streams k.number)) at, refl, subst (λ o. HasMembers (tables_of c) (([], payload_in (λ (f : TypeStream). f.payload) o) ∷ []) sh) (sym of) h),
      (record { kind = of_stream; members = ([], p) ∷ [] }, refl, (n, set, refl), r),
    )

pub stream_table_made : (s : SourceTables) (a : Builder) (b : Builder) (p : Option ComponentValType) (q : Option InterfaceType) (i : Id TypeStreams) (n : Id RuntimeComponentInstances) (k : Id TypeStreamTables) → IsMemberFrom s a p q → a.resources.instance ≡ Some n → slice_get (tables_of a).streams i.number ≡ Some (record { payload = q })
    → IsInterned stream_tables.eq a.tables.stream_tables b.tables.stream_tables (record { ty = i; instance = n }) k.number → slice_get b.tables.stream_tables k.number ≡ Some (record { ty = i; instance = n })
    → b ≡ record a { tables = record a.tables { stream_tables = b.tables.stream_tables } } → Keeps a.tables b.tables
    → ((Ok k ≡ Err push.TooLarge) ↔ ((position (stream_tables.eq (record { ty = i; instance = n })) a.tables.stream_tables ≡ None) × (length a.tables.stream_tables ≡ 4294967295)))
    → Comes s a (makes_handles (ty.Stream p) ∷ []) (λ c t. IsMadeFrom s c (ty.Stream p) t) b (Ok (plain.Stream k))
stream_table_made s a b p q i n k from set of d at rest keeps t =
    comes_interned stream_tables s a b (makes_handles (ty.Stream p)) (λ c t. IsMadeFrom s c (ty.Stream p) t) (record { ty = i; instance = n }) k.number k (plain.Stream k) d at rest keeps t
    (λ xs m. subst (λ o. MakesHandles s a (([], p) ∷ []) of_stream o (with_tables a (record (tables_of a) { stream_tables = xs }))) (sym set) (i, record { payload = q }, xs, of, ((refl, from), tt), m, refl))
    (λ g. let c : Builder = with_tables a (record (tables_of a) { stream_tables = b.tables.stream_tables }) in stream_shaped s c p q i n k (member_stays s a c g p q from) set of at)

pub stream_table_full : {K Y : Type 0} (s : SourceTables) (a : Builder) (p : Option ComponentValType) (q : Option InterfaceType) (i : Id TypeStreams) (n : Id RuntimeComponentInstances) (F : Builder → Y → Type 0) (res : Result K PushError) (x : PushError) → IsMemberFrom s a p q → a.resources.instance ≡ Some n → slice_get (tables_of a).streams i.number ≡ Some (record { payload = q }) → res ≡ Err x
    → ((res ≡ Err push.TooLarge) ↔ ((position (stream_tables.eq (record { ty = i; instance = n })) a.tables.stream_tables ≡ None) × (length a.tables.stream_tables ≡ 4294967295)))
    → Comes s a (makes_handles (ty.Stream p) ∷ []) F a (Err (build_error x))
stream_table_full s a p q i n F res x from set of e t =
    comes_full stream_tables s a (makes_handles (ty.Stream p)) [] F (record { ty = i; instance = n }) res x e t
    (λ l. subst (λ o. LacksRoomForHandles s a (([], p) ∷ []) of_stream o) (sym set) (i, record { payload = q }, of, ((refl, from), tt), l))
